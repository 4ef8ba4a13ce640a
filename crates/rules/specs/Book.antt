-- "The book of demand 3": the reading of a flash, a list of items, and the book that it is compared with. Assumes
-- nothing.
use Rattle.std.specs.Prelude.{◌≡◌, Bool, true, cond, List, [], ◌∷◌, map, ℕ, ◌+◌, ◌-◌, ◌≤◌, ◌<◌, ltb, get_or, length}
use Rattle.rules.specs.Lists.{without}
use Rattle.rules.specs.Bytes.{block, Bytes}
use Rattle.rules.specs.Answers.{Answer, refused, given, ◌>>=◌}
use Rattle.rules.specs.declared.Setting.{Setting}
use Rattle.rules.specs.Table.{entries, cpb0_of, cpb1_of}
use Rattle.rules.specs.Copies.{view, boot_order, pairs_agree}
use Rattle.rules.specs.Readers.{slot_row}
use Rattle.rules.specs.Commands.{Command, enable, disable, rename, create, delete, repair, has_already, put_name, created_start, with_new_row, without_row, start}
use Rattle.rules.specs.Cuts.{Progress, runs, dropped}
use Rattle.rules.specs.declared.Step.{Step}
use Rattle.rules.specs.declared.View.{View}

-- ---- the reading

-- "the 4,096 bytes of the table copy read, and the boot order" (document 01's term)
pub record Reading : Type 0 where
  pub table : List ℕ
  pub boot : List ℕ

unfoldable pub read_by : List ℕ → View → Reading
read_by img v = record { table = block img v.table; boot = boot_order img v }

unfoldable pub reading : Setting → List ℕ → Answer Reading
reading s img = view s img >>= λ v. given (read_by img v)

-- ---- the change that a command stands for

-- the table with the name in the entry of a slot; no change if it is the same up to the zero
unfoldable pub renamed : List ℕ → ℕ → List ℕ → List ℕ
renamed t k n = cond (has_already (entries t) k n) t (put_name t (slot_row (entries t) k) n)

-- the start that the rule gives for a flash; 0 for one that cannot be read, on which nothing is created
unfoldable pub start_by : List ℕ → ℕ → Answer View → ℕ
start_by img size (refused why) = 0
start_by img size (given v) = created_start img v size

unfoldable pub start_for : Setting → List ℕ → ℕ → ℕ
start_for s img size = start_by img size (view s img)

-- "lowers by one each number in the order above the deleted slot's"
unfoldable pub lowered : ℕ → ℕ → ℕ
lowered k j = cond (ltb k j) (j - 1) j

-- The setting and the flash that the command got are there for create alone: the start of a new slot depends on the
-- pointer places that give no slot, and these are in no reading
unfoldable pub changed : Setting → List ℕ → Command → Reading → Reading
changed s img (enable k) r = record { table = r.table; boot = k ∷ without k r.boot }
changed s img (disable k) r = record { table = r.table; boot = without k r.boot }
changed s img (rename k n) r = record { table = renamed r.table k n; boot = r.boot }
changed s img (create n size) r =
    record { table = with_new_row r.table n (start_for s img size) size; boot = r.boot }
changed s img (delete k) r = record {
  table = without_row r.table (slot_row (entries r.table) k);
  boot = map (lowered k) r.boot;
}
changed s img repair r = r

-- the elements of a name are bytes
unfoldable pub NameBytes : Command → Type 0
NameBytes (enable k) = Unit {0}
NameBytes (disable k) = Unit {0}
NameBytes (rename k n) = Bytes n
NameBytes (create n size) = Bytes n
NameBytes (delete k) = Unit {0}
NameBytes repair = Unit {0}

-- ---- a set of commands

-- how a command is started (every refusal in its order, or the listed steps), the change that it stands for on the flash
-- that it got, and what holds of its arguments
pub record CommandSet : Type 1 where
  pub Command : Type 0
  pub start : Setting → List ℕ → Command → Answer (List Step)
  pub changed : Setting → List ℕ → Command → Reading → Reading
  pub proper : Command → Type 0

-- document 01's and 02's: enable, disable, rename, create, delete and repair
abbrev pub the_commands : CommandSet
the_commands = record { Command = Command; start = start; changed = changed; proper = NameBytes }

-- ---- items

-- a command with its arguments, the budgets of the runs of its job, and which bytes a cut inside an erase had wiped
pub record Item (C : CommandSet) : Type 0 where
  pub command : C.Command
  pub budgets : List ℕ
  pub wiped : List Bool

pub data Outcome : Type 0 where
  was_refused finished cut : Outcome

-- finished if all listed steps are done, else cut
unfoldable pub how_ended : List Step → Outcome
how_ended [] = finished
how_ended (s ∷ ss) = cut

module _ {C : CommandSet} where
  unfoldable pub progress : ℕ → Item C → List ℕ → List Step → Progress
  progress g i img ss = runs g i.budgets (record { image = img; left = ss })

  unfoldable pub left_by : ℕ → Item C → List ℕ → Answer (List Step) → List ℕ
  left_by g i img (refused n) = img
  left_by g i img (given ss) = dropped g i.wiped (progress g i img ss)

  -- the flash that an item leaves
  unfoldable pub flash_after : Setting → List ℕ → Item C → List ℕ
  flash_after s img i = left_by s.granule i img (C.start s img i.command)

  unfoldable pub ended_by : ℕ → Item C → List ℕ → Answer (List Step) → Outcome
  ended_by g i img (refused n) = was_refused
  ended_by g i img (given ss) = how_ended (progress g i img ss).left

  -- which of the three an item was
  unfoldable pub outcome : Setting → List ℕ → Item C → Outcome
  outcome s img i = ended_by s.granule i img (C.start s img i.command)

-- ---- the book

-- the book is fed the command, the flash that it got and which of the three it was; a cut one made its change or none,
-- by a choice
unfoldable pub booked : (C : CommandSet) → Setting → List ℕ → C.Command → Outcome → Bool → Reading → Reading
booked C s img c was_refused choice r = r
booked C s img c finished choice r = C.changed s img c r
booked C s img c cut choice r = cond choice (C.changed s img c r) r

-- ---- the claim

-- an address inside the granule at a start
unfoldable pub InGranule : Setting → ℕ → ℕ → Type 0
InGranule s start i = (start ≤ i) × (i < start + s.granule)

-- as long as the first image, and equal to it outside the first granules of the four blocks, as a table places them
pub record Untouched (s : Setting) (t first img : List ℕ) : Type 0 where
  pub same_length : length img ≡ length first
  pub same_bytes : (i : ℕ)
      → (InGranule s s.spt0 i → ⊥)
      → (InGranule s s.spt1 i → ⊥)
      → (InGranule s (cpb0_of t) i → ⊥)
      → (InGranule s (cpb1_of t) i → ⊥)
      → get_or img i 0 ≡ get_or first i 0

-- "After every finished item both pairs agree"
unfoldable pub AgreeIfFinished : Setting → List ℕ → Outcome → Type 0
AgreeIfFinished s img was_refused = Unit {0}
AgreeIfFinished s img finished = pairs_agree s img ≡ true
AgreeIfFinished s img cut = Unit {0}

-- what holds after one item: the flash, and the book's reading by then
pub record Holds (s : Setting) (t first img : List ℕ) (ended : Outcome) (r : Reading) : Type 0 where
  pub reads : reading s img ≡ given r
  pub agrees : AgreeIfFinished s img ended
  pub untouched : Untouched s t first img

module _ {C : CommandSet} where
  -- the same after every item of a list, with one choice for each, from a flash and a book's reading on
  module _ (s : Setting) (t first : List ℕ) where
    unfoldable pub Follows : List (Item C) → List Bool → List ℕ → Reading → Type 0
    Follows [] choices img r = Unit {0}
    Follows (i ∷ is) [] img r = ⊥
    Follows (i ∷ is) (b ∷ bs) img r =
        Holds s t first (flash_after s img i) (outcome s img i) (booked C s img i.command (outcome s img i) b r)
        × Follows is bs (flash_after s img i) (booked C s img i.command (outcome s img i) b r)

  -- what holds of the arguments of each item's command
  unfoldable pub AllProper : List (Item C) → Type 0
  AllProper [] = Unit {0}
  AllProper (i ∷ is) = C.proper i.command × AllProper is

  -- the claim about a list of items from this flash: it has a reading, and there is one choice for each item with which
  -- the book follows the flash through the whole list
  unfoldable pub Demand3 : Setting → List ℕ → List (Item C) → Type 0
  Demand3 s img is =
      (r : Reading) × (reading s img ≡ given r) × ((choices : List Bool) × Follows s r.table img is choices img r)
