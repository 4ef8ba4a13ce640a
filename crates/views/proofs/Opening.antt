-- How code goes on from what `view` answered: a refusal is passed on, and by a view every block is inside the image and
-- the two that are read can be walked. Assumes nothing.
use mathlib.Core.Path.{◌≡◌, sym}
use Rattle.std.specs.Prelude.{IfOk}
use mathlib.Core.List.{List, []}
use Prim.Native.Nat.{ℕ, ◌<◌}
use native.Mathlib.Omega.{arith}
use lib.ListN.{length}
use Rattle.rules.specs.Bytes.{block, block_size}
use Rattle.rules.specs.Answers.{Answer, refused, given}
use Rattle.rules.specs.declared.Setting.{Setting}
use Rattle.rules.specs.declared.Refusal.{Refusal}
use Rattle.rules.specs.Table.{entry_count}
use Rattle.rules.specs.Copies.{view}
use Rattle.rules.specs.Readers.{table_of, table_part}
use Rattle.rules.specs.declared.View.{View}
use Rattle.rules.proofs.Claim.Invariant.{granule_holds_block}
use Rattle.rules.proofs.Table.SlotStarts.{length_fits}
use Rattle.walks.specs.Entries.{HasEntries}
use Rattle.places.specs.Inner.StandingPointers.{StandingPointers}
use Rattle.views.specs.Located.{Located}
use Rattle.views.proofs.Seen.{seen, blocks_inside, table_followed, pointers_inside, pointers_read_stand}

pub located : (s : Setting) (img : List ℕ) (v : View) → view s img ≡ given v → Located img v
located s img v h =
    let k = seen s img v h in
    let holds = granule_holds_block s.granule k.grained in
    let blocks = blocks_inside s img v k in
    let table = table_followed s img v k in
    record {
      spt0_inside = rw k.same_spt0 (omega (arith, holds, blocks.spt0_inside));
      spt1_inside = rw k.same_spt1 (omega (arith, holds, blocks.spt1_inside));
      cpb0_inside = omega (arith, holds, blocks.cpb0_inside);
      cpb1_inside = omega (arith, holds, blocks.cpb1_inside);
      table_inside = table.table_inside;
      pointers_inside = pointers_inside s img v k;
      count_right = table.count_right;
      stand = pointers_read_stand s img v k;
      short = length_fits (length img) k.long;
    }

pub viewed_located : (s : Setting) (img : List ℕ) (r : Answer View) → r ≡ view s img → IfOk r (λ v. Located img v)
viewed_located s img (refused why) e = tt
viewed_located s img (given v) e = located s img v (sym e)

pub granule_positive : (s : Setting) (img : List ℕ) (v : View) → view s img ≡ given v → 0 < s.granule
granule_positive s img v h = omega (arith, granule_holds_block s.granule (seen s img v h).grained)

pub same_spt0 : (s : Setting) (img : List ℕ) (v : View) → view s img ≡ given v → v.spt0 ≡ s.spt0
same_spt0 s img v h = (seen s img v h).same_spt0

pub same_spt1 : (s : Setting) (img : List ℕ) (v : View) → view s img ≡ given v → v.spt1 ≡ s.spt1
same_spt1 s img v h = (seen s img v h).same_spt1

-- ---- the table and the pointer block read

module _ {img : List ℕ} {v : View} (l : Located img v) where
  pub has_entries : (t : List ℕ) (n : ℕ) → (t ≡ block img v.table) × (length t ≡ block_size) → n ≡ entry_count t
      → HasEntries t n
  has_entries t n (is_table, whole) is_count =
      record { whole = whole; few = rw (is_count, is_table) l.count_right }

  pub has_pointers : (p : List ℕ) → (p ≡ block img v.pointers) × (length p ≡ block_size) → StandingPointers p
  has_pointers p (is_block, whole) = record { whole = whole; stands = rw is_block l.stand }

-- ---- the part that is the table read

module _ (s : Setting) (img : List ℕ) where
  pub table_of_view : {v : View} → view s img ≡ given v → table_part s img ≡ block img v.table
  unfolding table_part table_of
  table_of_view e = rw e

  pub no_table : {why : Refusal} → view s img ≡ refused why → table_part s img ≡ []
  unfolding table_part table_of
  no_table e = rw e
