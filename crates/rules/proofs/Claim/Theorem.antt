-- Demand 3, in plain words.
--
-- Take a flash whose two pairs agree, and any list of commands (enable, disable, rename, create, delete, repair) with any
-- arguments, each run with any budgets. The power may fail in any of them, between two steps or inside an erase; the
-- unfinished job is then lost. Beside the flash a book is kept. It is told each command and whether that was refused,
-- finished or cut, and changes its reading (the table and the boot order) by the documents' rules alone; for a create it
-- also looks at the flash that the command got, from which the rule gives the start of the new slot; of a cut command it
-- may choose, once and for good, whether the change was made. Then there are choices with which, after every item:
--   the flash can be read, and reads exactly as the book says;
--   if the item was finished, both pairs agree;
--   the image is as long as at the start, and every byte outside the first granules of the two tables and the two
--   pointer blocks, as the first table places them, is as at the start.
-- Granule, table addresses and image length are the same throughout. The elements of the image and of the names are
-- bytes, which the code's types see to. The definitions are in specs/Book.
-- Assumes nothing.
use mathlib.Core.Path.{◌≡◌, refl}
use mathlib.Core.Bool.{true}
use mathlib.Core.List.{List}
use Prim.Native.Nat.{ℕ}
use Rattle.rules.specs.Bytes.{Bytes}
use Rattle.rules.specs.Answers.{Answer, refused, given, ◌>>=◌}
use Rattle.rules.specs.declared.Setting.{Setting}
use Rattle.rules.specs.Copies.{view, agreed, pairs_agree}
use Rattle.rules.specs.Book.{Reading, the_commands, Item, read_by, reading, AllProper, Demand3}
use Rattle.rules.specs.declared.View.{View}
use Rattle.rules.proofs.Lists.Tests.{clash}
use Rattle.rules.proofs.Claim.EveryJob.{the_commands_right}
use Rattle.rules.proofs.Claim.EveryList.{from_any_reading}

-- a flash whose pairs agree has a reading
pub agreeing_has_reading : (s : Setting) (img : List ℕ)
    → pairs_agree s img ≡ true
    → (r : Reading) × (reading s img ≡ given r)
unfolding pairs_agree agreed reading
agreeing_has_reading s img = by_view (view s img)
  where
    by_view : (a : Answer View) → agreed s img a ≡ true → (r : Reading) × ((a >>= λ v. given (read_by img v)) ≡ given r)
    by_view (refused n) h = absurd (clash (agreed s img (refused n)) h refl)
    by_view (given v) h = (read_by img v, refl)

-- the law is proved for any flash that has a reading and any set of commands whose jobs are right (EveryList); document
-- 01 asks it of flash whose pairs agree and of its own commands, whose jobs are (EveryJob)
pub demand_3 : (s : Setting) (img : List ℕ)
    → Bytes img
    → pairs_agree s img ≡ true
    → (is : List (Item the_commands))
    → AllProper is
    → Demand3 s img is
unfolding Demand3
demand_3 s img bytes agree is names =
    let (r, e) = agreeing_has_reading s img agree in
    (r, e, from_any_reading the_commands the_commands_right s img r bytes e is names)
