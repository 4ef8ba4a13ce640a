-- The job of repair: at every cut the reading is the same, and at the end both pairs agree. Assumes nothing.
use mathlib.Core.Path.{◌≡◌, sym, ap, ◌∙◌}
use mathlib.Core.Logic.{◌⊎◌, inl, inr}
use mathlib.Core.List.{List, ◌++◌}
use Rattle.std.specs.Prelude.{Some}
use Prim.Native.Nat.{ℕ, ◌+◌, ◌≤◌}
use lib.ListN.{length}
use Rattle.rules.specs.Bytes.{Bytes, block}
use Rattle.rules.specs.Table.{table_stands}
use Rattle.rules.specs.Pointers.{pointers_stand}
use Rattle.rules.specs.Steps.{steps}
use Rattle.rules.specs.Commands.{repair, repair_pair, repair_steps}
use Rattle.rules.specs.Book.{Reading, changed}
use Rattle.rules.specs.declared.Step.{Step}
use Rattle.rules.proofs.Lists.Tests.{given_inj}
use Rattle.rules.proofs.Steps.Programming.{steps_append}
use Rattle.rules.proofs.Steps.Cutting.{Cut, cut_all, cut_append}
use Rattle.rules.proofs.Steps.Frame.{StepsWithin, within_append, within_wider}
use Rattle.rules.proofs.Copies.CopyRead.{WhichAddress, copy_read_same}
use Rattle.rules.proofs.Copies.PairCuts.{Two, Pair, Reads, Changes, repair_pair_same, repair_pair_within, repair_pair_cut, repair_pair_done}
use Rattle.rules.proofs.Claim.Invariant.{Beginning, TableGranules, PointerGranules, FourGranules, Invariant, table_pair, pointer_pair, tables_kept, pointers_kept, table_address, pointers_address, which_table, which_pointers, the_view, blocks_inside, with_new_tables, with_new_pointers}
use Rattle.rules.proofs.Claim.JobRight.{JobRight, job_right}
use Rattle.rules.specs.declared.Refusal.TheVariants.{NoPointers}

-- ---- one pair

-- what steps do that repair a pair whose block read is b
record Repairs (pair : Pair) (img b : List ℕ) (ss : List Step) : Type 0 where
  within : StepsWithin pair.granule (length img) (Two pair.granule pair.a0 pair.a1) ss
  at_cut : (img' : List ℕ) → Cut pair.granule ss img img' → Changes pair img img' × Reads pair img' b
  at_end : block (steps pair.granule ss img) pair.a0 ≡ block (steps pair.granule ss img) pair.a1

module _ (pair : Pair) (img : List ℕ) (in0 : pair.a0 + pair.granule ≤ length img)
    (in1 : pair.a1 + pair.granule ≤ length img) (bytes : Bytes img) where
  repairs : (read : ℕ) (b : List ℕ)
      → WhichAddress pair.stands img pair.a0 pair.a1 read
      → block img read ≡ b
      → Repairs pair img b (repair_pair pair.stands img pair.a0 pair.a1 read)
  repairs read b reads e = record {
    within = repair_pair_within pair img read reads in0 in1 bytes;
    at_cut = λ img' d.
        let (o, q) = repair_pair_cut pair img read reads in0 in1 bytes img' d in
        (o, q ∙ ap Some e);
    at_end = let (e0, e1) = repair_pair_done pair img read reads in0 in1 bytes in e0 ∙ sym e1;
  }

module _ (beginning : Beginning) where
  open beginning use {s, first, c0, c1}

  module _ (img : List ℕ) (r : Reading) (h : Invariant beginning img r) where
    abbrev pub repair_tables : List Step
    repair_tables =
        repair_pair (table_stands s (length first)) img s.spt0 s.spt1 (table_address beginning img r h).0

    abbrev pub repair_pointers : List Step
    repair_pointers = repair_pair pointers_stand img c0 c1 (pointers_address beginning img r h).0

    tables_repaired : Repairs (table_pair beginning) img r.table repair_tables
    tables_repaired =
        let inside = blocks_inside beginning img r h in
        let (a, _, holds) = table_address beginning img r h in
        repairs (table_pair beginning) img inside.spt0_inside inside.spt1_inside h.bytes a r.table
        (which_table beginning img r h) holds

    pointers_repaired : Repairs (pointer_pair beginning) img h.pointers repair_pointers
    pointers_repaired =
        let inside = blocks_inside beginning img r h in
        let (a, _, holds) = pointers_address beginning img r h in
        repairs (pointer_pair beginning) img inside.cpb0_inside inside.cpb1_inside h.bytes a h.pointers
        (which_pointers beginning img r h) holds

    holds_while_tables : (img' : List ℕ) → Cut s.granule repair_tables img img' → Invariant beginning img' r
    holds_while_tables img' d =
        let (o, e) = tables_repaired.at_cut img' d in
        with_new_tables beginning img r h img' o r.table e h.cpb0_there h.cpb1_there r.boot h.boots

    holds_while_pointers : (img' : List ℕ) → Cut s.granule repair_pointers img img' → Invariant beginning img' r
    holds_while_pointers img' d =
        let (o, e) = pointers_repaired.at_cut img' d in
        with_new_pointers beginning img r h img' o h.pointers e r.boot h.boots

  -- ---- both

  module _ (img : List ℕ) (r : Reading) (h : Invariant beginning img r) where
    abbrev pub first_part : List Step
    first_part = repair_tables img r h

    abbrev pub tables_mended : List ℕ
    tables_mended = steps s.granule first_part img

    pub tables_mended_changes : Changes (table_pair beginning) img tables_mended
    tables_mended_changes = ((tables_repaired img r h).at_cut tables_mended (cut_all s.granule first_part img)).0

    pub tables_mended_holds : Invariant beginning tables_mended r
    tables_mended_holds = holds_while_tables img r h tables_mended (cut_all s.granule first_part img)

    abbrev second_part : List Step
    second_part = repair_pointers tables_mended r tables_mended_holds

    abbrev end : List ℕ
    end = steps s.granule second_part tables_mended

    -- the second part was fixed when the command started
    second_part_fixed : repair_pointers img r h ≡ second_part
    second_part_fixed =
        let (a, at, _) = pointers_address beginning img r h in
        let (a', at', _) = pointers_address beginning tables_mended r tables_mended_holds in
        let (e0, e1) = pointers_kept beginning tables_mended_changes in
        sym (repair_pair_same (pointer_pair beginning) img tables_mended a e0 e1 (which_pointers beginning img r h))
        ∙ ap (λ (x : ℕ). repair_pair pointers_stand tables_mended c0 c1 x)
        (given_inj a a' (sym (copy_read_same NoPointers pointers_stand img tables_mended c0 c1 e0 e1 ∙ at) ∙ at'))

    all_within : StepsWithin s.granule (length img) (FourGranules beginning) (first_part ++ second_part)
    all_within =
        within_append s.granule (length img) (FourGranules beginning) first_part second_part
        (within_wider s.granule (length img) (TableGranules beginning) (FourGranules beginning) first_part
        (λ i q. inl q)
        (tables_repaired img r h).within)
        (within_wider s.granule (length img) (PointerGranules beginning) (FourGranules beginning) second_part
        (λ i q. inr q)
        (rw tables_mended_changes.same_length at (pointers_repaired tables_mended r tables_mended_holds).within))

    pub repair_right : JobRight beginning img r repair (repair_steps s img (the_view beginning img r h))
    unfolding repair_steps changed
    repair_right =
        rw (h.kept.same_length, second_part_fixed)
        (job_right beginning img r (first_part ++ second_part) r all_within
        (λ img' d. inl (split img' (cut_append s.granule first_part second_part img img' d)))
        (rw (steps_append s.granule first_part second_part img) end_holds)
        (rw (steps_append s.granule first_part second_part img) (
          let (e0, e1) = tables_kept beginning end_changes in e0 ∙ (tables_repaired img r h).at_end ∙ sym e1,
          (pointers_repaired tables_mended r tables_mended_holds).at_end,
        )))
      where
        split : (img' : List ℕ)
            → Cut s.granule first_part img img' ⊎ Cut s.granule second_part tables_mended img'
            → Invariant beginning img' r
        split img' (inl d) = holds_while_tables img r h img' d
        split img' (inr d) = holds_while_pointers tables_mended r tables_mended_holds img' d

        end_changes : Changes (pointer_pair beginning) tables_mended end
        end_changes =
            ((pointers_repaired tables_mended r tables_mended_holds).at_cut end
            (cut_all s.granule second_part tables_mended)).0

        end_holds : Invariant beginning end r
        end_holds =
            holds_while_pointers tables_mended r tables_mended_holds end
            (cut_all s.granule second_part tables_mended)
