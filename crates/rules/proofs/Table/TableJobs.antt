-- Both tables rewritten on a flash whose pairs agree, with another table that stands and keeps the four blocks where
-- they are: at every cut the table read is the old or the new one. Assumes nothing.
use mathlib.Core.Path.{◌≡◌, sym, ap, ◌∙◌, subst}
use mathlib.Core.Bool.{true}
use mathlib.Core.Logic.{◌⊎◌, inl, inr}
use mathlib.Core.List.{List}
use Rattle.std.specs.Prelude.{Some}
use Prim.Native.Nat.{ℕ, ◌+◌, ◌≤◌}
use native.Mathlib.Omega.{arith}
use lib.ListN.{length}
use Rattle.rules.specs.Bytes.{Bytes, block, block_size}
use Rattle.rules.specs.Table.{table_stands}
use Rattle.rules.specs.Steps.{steps, rewrite_pair}
use Rattle.rules.specs.Copies.{order_by}
use Rattle.rules.specs.Book.{Reading}
use Rattle.rules.proofs.Steps.Cutting.{Cut, cut_all}
use Rattle.rules.proofs.Copies.CopyRead.{equal_read, first_read}
use Rattle.rules.proofs.Steps.Frame.{StepsWithin, within_wider, length-block, bytes_block}
use Rattle.rules.proofs.Copies.PairCuts.{Changes, Reads, rewrite_pair_within, rewrite_pair_cut, rewrite_pair_done}
use Rattle.rules.proofs.Table.Replacing.{Replaces}
use Rattle.rules.proofs.Claim.Invariant.{Beginning, granule_holds_block, TableGranules, FourGranules, Invariant, BothEqual, table_pair, pointers_kept, blocks_inside, with_new_tables}
use Rattle.rules.proofs.Claim.JobRight.{Leads, job_right}

module _ (beginning : Beginning) (img : List ℕ) (r : Reading) (h : Invariant beginning img r)
    (equal : BothEqual beginning img) where
  open beginning use {s, first, c0, c1, refusal2}

  -- ---- the table read is copy 0

  copy0_read : (block img s.spt0 ≡ r.table) × (table_stands s (length first) (block img s.spt0) ≡ true)
  copy0_read =
      equal_read (table_stands s (length first)) (block img s.spt0) (block img s.spt1) r.table
      h.reads_table equal.0

  spt0_inside : s.spt0 + block_size ≤ length img
  spt0_inside = omega (arith, (blocks_inside beginning img r h).spt0_inside, granule_holds_block s.granule refusal2)

  pub table_whole : length r.table ≡ block_size
  table_whole =
      rw (← copy0_read.0)
      (length-block img s.spt0 spt0_inside)

  pub table_bytes : Bytes r.table
  table_bytes =
      subst Bytes copy0_read.0
      (bytes_block img s.spt0
      spt0_inside h.bytes)

  -- ---- both tables rewritten with another, through which the order reads as o

  module _ (b : List ℕ) (new : Replaces s (length first) r.table b) (o : List ℕ)
      (reads_as : order_by b h.pointers ≡ o) where
    abbrev after : Reading
    after = record { table = b; boot = o }

    after_holds : (img' : List ℕ)
        → Changes (table_pair beginning) img img'
        → Reads (table_pair beginning) img' b
        → Invariant beginning img' after
    after_holds img' only reads =
        with_new_tables beginning img r h img' only b reads
        (new.cpb0_kept ∙ h.cpb0_there) (new.cpb1_kept ∙ h.cpb1_there) o reads_as

    tables_within : StepsWithin s.granule (length img) (FourGranules beginning) (rewrite_pair s.spt0 s.spt1 b)
    tables_within =
        let inside = blocks_inside beginning img r h in
        within_wider s.granule (length img) (TableGranules beginning) (FourGranules beginning)
        (rewrite_pair s.spt0 s.spt1 b)
        (λ i q. inl q)
        (rewrite_pair_within (table_pair beginning) (length img) b new.whole
        inside.spt0_inside inside.spt1_inside)

    tables_at_cut : (img' : List ℕ)
        → Cut s.granule (rewrite_pair s.spt0 s.spt1 b) img img'
        → Changes (table_pair beginning) img img' × (Invariant beginning img' r ⊎ Invariant beginning img' after)
    tables_at_cut img' d =
        let inside = blocks_inside beginning img r h in
        let (only, e) = rewrite_pair_cut (table_pair beginning) img inside.spt0_inside inside.spt1_inside b
        new.whole new.bytes new.stands copy0_read.1 img' d in
        (only, which only e)
      where
        which : Changes (table_pair beginning) img img'
            → Reads (table_pair beginning) img' (block img s.spt0) ⊎ Reads (table_pair beginning) img' b
            → Invariant beginning img' r ⊎ Invariant beginning img' after
        which only (inl e) =
            inl (with_new_tables beginning img r h img' only r.table (e ∙ ap Some copy0_read.0)
            h.cpb0_there h.cpb1_there r.boot h.boots)
        which only (inr e) = inr (after_holds img' only e)

    abbrev end : List ℕ
    end = steps s.granule (rewrite_pair s.spt0 s.spt1 b) img

    both_new : (block end s.spt0 ≡ b) × (block end s.spt1 ≡ b)
    both_new =
        let inside = blocks_inside beginning img r h in
        rewrite_pair_done (table_pair beginning) img inside.spt0_inside inside.spt1_inside b
        new.whole new.bytes

    end_changes : Changes (table_pair beginning) img end
    end_changes = (tables_at_cut end (cut_all s.granule (rewrite_pair s.spt0 s.spt1 b) img)).0

    end_holds : Invariant beginning end after
    end_holds =
        after_holds end end_changes
        (rw both_new.0 (first_read (table_stands s (length first)) b (block end s.spt1) new.stands))

    end_equal : BothEqual beginning end
    end_equal =
        let (e0, e1) = pointers_kept beginning end_changes in
        (both_new.0 ∙ sym both_new.1, e0 ∙ equal.1 ∙ sym e1)

    pub tables_right : Leads beginning img r after (rewrite_pair s.spt0 s.spt1 b)
    tables_right =
        job_right beginning img r (rewrite_pair s.spt0 s.spt1 b) after tables_within
        (λ img' d. (tables_at_cut img' d).1) end_holds end_equal
