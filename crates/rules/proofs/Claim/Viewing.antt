-- A flash that can be read: what its view says, and that the invariant holds there with this flash as the first.
-- Assumes nothing.
use mathlib.Core.Path.{◌≡◌, refl, subst}
use mathlib.Core.Bool.{Bool, true}
use mathlib.Core.List.{List}
use Rattle.std.specs.Prelude.{Some}
use Prim.Native.Nat.{ℕ}
use lib.ListN.{length}
use Rattle.rules.specs.Bytes.{Bytes, block}
use Rattle.rules.specs.Answers.{given}
use Rattle.rules.specs.Numbers.{length_right, granule_right, addresses_right}
use Rattle.rules.specs.declared.Setting.{Setting}
use Rattle.rules.specs.Table.{table_stands, cpb0_of, cpb1_of}
use Rattle.rules.specs.Pointers.{pointers_stand}
use Rattle.rules.specs.Copies.{copy_read, no_table, table_read, pointers_read, view_through, view, boot_order}
use Rattle.rules.specs.Book.{read_by}
use Rattle.rules.specs.declared.View.{View}
use Rattle.rules.proofs.Lists.Tests.{unless-given, bind_given, given_inj}
use Rattle.rules.proofs.Copies.CopyRead.{block_read, read_stands, which_address, block_at_read}
use Rattle.rules.proofs.Steps.Frame.{only_none}
use Rattle.rules.proofs.Table.Standing.{standing, four_blocks}
use Rattle.rules.proofs.Claim.Invariant.{Beginning, Invariant}
use Rattle.rules.specs.declared.Refusal.TheVariants.{BadLength, BadGranule, BadAddresses, NoPointers}

-- the five tests passed, and which copies are read
pub record Viewed (s : Setting) (img : List ℕ) (v : View) : Type 0 where
  pub refusal1 : length_right (length img) ≡ true
  pub refusal2 : granule_right s.granule ≡ true
  pub refusal3 : addresses_right s (length img) ≡ true
  pub reads_table : copy_read (no_table s img) (table_stands s (length img)) img s.spt0 s.spt1 ≡ given v.table
  pub reads_pointers : copy_read NoPointers pointers_stand img (cpb0_of (block img v.table)) (cpb1_of (block img v.table))
      ≡ given v.pointers

pub viewed : (s : Setting) (img : List ℕ) (v : View) → view s img ≡ given v → Viewed s img v
unfolding view table_read view_through pointers_read
viewed s img v e =
    let (refusal1, e1) = unless-given BadLength (length_right (length img)) _ v e in
    let (refusal2, e2) = unless-given BadGranule (granule_right s.granule) _ v e1 in
    let (refusal3, e3) = unless-given BadAddresses (addresses_right s (length img)) _ v e2 in
    let (a, table, e4) = bind_given _ _ v e3 in
    let (b, pointers, e5) = bind_given _ _ v e4 in
    subst (Viewed s img) (given_inj _ v e5) (record {
      refusal1 = refusal1;
      refusal2 = refusal2;
      refusal3 = refusal3;
      reads_table = table;
      reads_pointers = pointers;
    })

module _ (s : Setting) (img : List ℕ) (v : View) (w : Viewed s img v) where
  abbrev t : List ℕ
  t = block img v.table

  abbrev tables : List ℕ → Bool
  tables = table_stands s (length img)

  reads_t : block_read tables (block img s.spt0) (block img s.spt1) ≡ Some t
  reads_t =
      block_at_read tables img s.spt0 s.spt1 v.table
      (which_address (no_table s img) tables img s.spt0 s.spt1 v.table w.reads_table)

  pub table_stands_there : tables t ≡ true
  table_stands_there =
      read_stands tables (block img s.spt0) (block img s.spt1) t reads_t

  abbrev pub beginning : Beginning
  beginning = record {
    s = s;
    first = img;
    c0 = cpb0_of t;
    c1 = cpb1_of t;
    refusal1 = w.refusal1;
    refusal2 = w.refusal2;
    refusal3 = w.refusal3;
    blocks = four_blocks s (length img) t (standing s (length img) t table_stands_there);
  }

  pub holds_at_first : Bytes img → Invariant beginning img (read_by img v)
  unfolding read_by boot_order
  holds_at_first bytes = record {
    kept = only_none img img refl;
    bytes = bytes;
    reads_table = reads_t;
    cpb0_there = refl;
    cpb1_there = refl;
    pointers = block img v.pointers;
    reads_pointers =
        block_at_read pointers_stand img (cpb0_of t) (cpb1_of t) v.pointers
        (which_address NoPointers pointers_stand img (cpb0_of t) (cpb1_of t) v.pointers w.reads_pointers);
    boots = refl;
  }
