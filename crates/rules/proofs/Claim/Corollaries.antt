-- Two consequences of demand 3 for those who use the updater: one finished repair mends any flash that a list of
-- items has left, and the slot started first is the one that the book names. Assumes nothing.
use mathlib.Core.Path.{◌≡◌, sym, ap, ◌∙◌}
use mathlib.Core.Bool.{Bool, true}
use mathlib.Core.List.{List, [], ◌∷◌, ◌++◌, append-nil}
use Rattle.std.specs.Prelude.{Option, None, Some}
use Prim.Native.Nat.{ℕ}
use Rattle.rules.specs.Bytes.{Bytes}
use Rattle.rules.specs.Answers.{Answer, given, ◌>>=◌}
use Rattle.rules.specs.declared.Setting.{Setting}
use Rattle.rules.specs.Copies.{pairs_agree}
use Rattle.rules.specs.Commands.{Command, repair}
use Rattle.rules.specs.Book.{Reading, the_commands, Item, Outcome, finished, reading, flash_after, outcome, changed, booked, AgreeIfFinished, Follows, NameBytes, AllProper, Demand3}
use Rattle.rules.proofs.Lists.Tests.{given_inj}
use Rattle.rules.proofs.Claim.Theorem.{demand_3}

repair_keeps_book : (s : Setting) (img : List ℕ) (c : Command) (choice : Bool) (r : Reading)
    → c ≡ repair
    → booked the_commands s img c finished choice r ≡ r
unfolding booked changed
repair_keeps_book s img c choice r e = rw e

-- the slot with the highest priority of an order
abbrev pub first_slot : List ℕ → Option ℕ
first_slot [] = None
first_slot (k ∷ o) = Some k

-- the same of the order that a flash is read with
abbrev pub slot_started : Setting → List ℕ → Answer (Option ℕ)
slot_started s img = reading s img >>= λ r. given (first_slot r.boot)

-- ---- after a whole list

module _ (s : Setting) where
  -- the flash
  abbrev pub flash_after_all : List ℕ → List (Item the_commands) → List ℕ
  flash_after_all img [] = img
  flash_after_all img (i ∷ is) = flash_after_all (flash_after s img i) is

  -- the book, with these choices
  abbrev pub book_after_all : List ℕ → Reading → List (Item the_commands) → List Bool → Reading
  book_after_all img r [] choices = r
  book_after_all img r (i ∷ is) [] = r
  book_after_all img r (i ∷ is) (b ∷ bs) =
      book_after_all (flash_after s img i) (booked the_commands s img i.command (outcome s img i) b r) is bs

  module _ (t first : List ℕ) where
    -- the flash reads as the book, and the book follows it through what comes after
    ends_as_booked : (is js : List (Item the_commands)) (choices : List Bool) (img : List ℕ) (r : Reading)
        → reading s img ≡ given r
        → Follows s t first (is ++ js) choices img r
        → (reading s (flash_after_all img is) ≡ given (book_after_all img r is choices))
        × ((rest : List Bool) × Follows s t first js rest (flash_after_all img is) (book_after_all img r is choices))
    unfolding Follows
    ends_as_booked [] js choices img r e f = (e, (choices, f))
    ends_as_booked (i ∷ is) js [] img r e f = absurd f
    ends_as_booked (i ∷ is) js (b ∷ bs) img r e (w, f) =
        ends_as_booked is js bs (flash_after s img i) (booked the_commands s img i.command (outcome s img i) b r) w.reads f

  -- ---- one finished repair

  abbrev Mended : List ℕ → Item the_commands → Type 0
  Mended img i = (pairs_agree s (flash_after s img i) ≡ true) × (reading s (flash_after s img i) ≡ reading s img)

  mended : (t first img : List ℕ) (r : Reading) (i : Item the_commands) (choices : List Bool)
      → i.command ≡ repair
      → outcome s img i ≡ finished
      → reading s img ≡ given r
      → Follows s t first (i ∷ []) choices img r
      → Mended img i
  unfolding Follows AgreeIfFinished
  mended t first img r i [] is_repair ended e f = absurd f
  mended t first img r i (b ∷ bs) is_repair ended e (w, _) = (
    rw ended at w.agrees,
    w.reads
        ∙ ap (λ (o : Outcome). given (booked the_commands s img i.command o b r)) ended
        ∙ ap given (repair_keeps_book s img i.command b r is_repair)
        ∙ sym e,
  )

  proper_append : (is js : List (Item the_commands)) → AllProper is → AllProper js → AllProper (is ++ js)
  unfolding AllProper
  proper_append [] js p q = q
  proper_append (i ∷ is) js (p, ps) q = (p, proper_append is js ps q)

  module _ (img : List ℕ) (bytes : Bytes img) (agree : pairs_agree s img ≡ true)
      (is : List (Item the_commands)) (names : AllProper is) where
    -- after any list, a repair that finishes makes both pairs agree and keeps the reading
    pub repair_mends : (i : Item the_commands)
        → i.command ≡ repair
        → outcome s (flash_after_all img is) i ≡ finished
        → (pairs_agree s (flash_after s (flash_after_all img is) i) ≡ true)
        × (reading s (flash_after s (flash_after_all img is) i) ≡ reading s (flash_after_all img is))
    unfolding Demand3 AllProper NameBytes
    repair_mends i is_repair ended =
        let last_name : AllProper (i ∷ []) = (rw is_repair tt, tt) in
        let all_names = proper_append is (i ∷ []) names last_name in
        let (r, e, (choices, f)) = demand_3 s img bytes agree (is ++ (i ∷ [])) all_names in
        let (reads, (rest, g)) = ends_as_booked r.table img is (i ∷ []) choices img r e f in
        mended r.table img (flash_after_all img is) (book_after_all img r is choices) i rest is_repair ended reads g

    -- after any list there are choices with which the flash starts the slot that the book has first, or both have none
    pub boots_as_booked : (r : Reading)
        → reading s img ≡ given r
        → (choices : List Bool)
        × (slot_started s (flash_after_all img is) ≡ given (first_slot (book_after_all img r is choices).boot))
    unfolding Demand3
    boots_as_booked r e =
        let (r', e', (choices, f)) = demand_3 s img bytes agree is names in
        let same : r' ≡ r = given_inj r' r (sym e' ∙ e) in
        let (reads, _) = ends_as_booked r'.table img is [] choices img r' e' (rw append-nil f) in
        (choices, rw (reads, same))
