-- One step of each search of a list of entries. Assumes nothing.
use Rattle.std.proofs.Common.{◌≡◌, sym, ◌∙◌, true, false, List, ℕ, ◌+◌, ◌<◌, ◌≤◌, arith, length, get_or, drop, drop_of_length-le}
use mir.Val.{bool_byte}
use Rattle.std.proofs.Common.{ap, Bool, cond, ◌&&◌, ◌-◌, eqb}
use borrow.Author.Tests.{eqb-true}
use Rattle.rules.specs.Lists.{all}
use Rattle.rules.specs.Table.{Entry, no_entry, is_slot}
use Rattle.rules.specs.Readers.{slot_row}
use Rattle.rules.proofs.Lists.Tests.{and_true}
use Rattle.walks.specs.Last.{last_from}
use Rattle.walks.specs.Four.{one_of_four}
use Rattle.walks.proofs.Last.{last_none, last_goes, last_found}
use Rattle.walks.proofs.Four.{four_turns}
use Rattle.walks.proofs.Slots.{slot_row_here, slot_row_goes, slot_row_over, taken_is_left}
use Rattle.walks.specs.Find.{find}
use Rattle.walks.specs.Entries.{slot_from}
use Rattle.walks.proofs.Loops.{all_over, find_over, find_here, find_goes}
use Rattle.entries.proofs.Turns.{turn, turn_down, one_if}

module _ (es : List Entry) (a i : ℕ) where
  pub start_here : {e : Entry} → e ≡ get_or es i no_entry → true ≡ slot_from a e → i < length es
      → find (slot_from a) es ≡ i + find (slot_from a) (drop i es)
      → i ≡ find (slot_from a) es
  start_here is passes h so = omega (arith, so, find_here (slot_from a) (turn es i h) (sym (rw is at passes)))

  pub start_goes : {e : Entry} → e ≡ get_or es i no_entry → false ≡ slot_from a e → i < length es
      → find (slot_from a) es ≡ i + find (slot_from a) (drop i es)
      → find (slot_from a) es ≡ i + 1 + find (slot_from a) (drop (i + 1) es)
  start_goes is fails h so = omega (arith, so, find_goes (slot_from a) (turn es i h) (sym (rw is at fails)))

  pub start_over : length es ≤ i → find (slot_from a) es ≡ i + find (slot_from a) (drop i es) → i ≤ length es → find (slot_from a) es ≡ length es
  start_over end so within = omega (arith, so, find_over (slot_from a) (drop_of_length-le es {i = i} end))

-- ---- the entry of a slot: k is the slot's number, left what is left of it at entry i

module _ (es : List Entry) (k i left : ℕ) {e : Entry} {met : Bool} (is : e ≡ get_or es i no_entry) (test : met ≡ is_slot e)
    (h : i < length es) (so : slot_row es k ≡ i + slot_row (drop i es) left) where
  tested : met ≡ is_slot (get_or es i no_entry)
  tested = rw is at test

  pub row_here : met && eqb left 0 ≡ true → i ≡ slot_row es k
  row_here found =
      let (here, none_left) = and_true met (eqb left 0) found in
      omega (arith, so, slot_row_here left (turn es i h) (sym tested ∙ here) (eqb-true left 0 none_left))

  pub row_inside : met && eqb left 0 ≡ true → slot_row es k < length es
  row_inside found = omega (arith, row_here found)

  pub row_goes : {one : ℕ} → met && eqb left 0 ≡ false → one ≡ bool_byte met
      → slot_row es k ≡ i + 1 + slot_row (drop (i + 1) es) (left - one)
  row_goes further q =
      rw (q ∙ one_if met ∙ ap {B = ℕ} (λ (b : Bool). cond b 1 0) tested)
      (omega (arith, so, slot_row_goes left (turn es i h) (rw tested at further)))

pub row_over : (es : List Entry) (k i left : ℕ) → length es ≤ i → i ≤ length es → slot_row es k ≡ i + slot_row (drop i es) left → slot_row es k ≡ length es
row_over es k i left end within so = omega (arith, so, slot_row_over left (drop_of_length-le es {i = i} end))

pub enough_left : (met : Bool) (left : ℕ) {one : ℕ} → met && eqb left 0 ≡ false → one ≡ bool_byte met → one ≤ left
enough_left met left further q = omega (arith, q ∙ one_if met, taken_is_left met left further)

-- ---- the slots at the end, walked down

module _ (es : List Entry) (i : ℕ) {e : Entry} (is : e ≡ get_or es (i - 1) no_entry) (some : 0 < i) (within : i ≤ length es)
    (all_slots : all is_slot (drop i es) ≡ true) where
  pub last_here : false ≡ is_slot e → i - 1 + 1 ≡ last_from is_slot es
  last_here fails = omega (arith, last_found is_slot es i (turn_down es i some within) all_slots some (sym (rw is at fails)))

  pub last_further : true ≡ is_slot e → all is_slot (drop (i - 1) es) ≡ true
  last_further passes = last_goes is_slot es i (turn_down es i some within) all_slots (sym (rw is at passes))

pub last_start : (es : List Entry) (i : ℕ) → length es ≤ i → all is_slot (drop i es) ≡ true
last_start es i end = all_over is_slot (drop_of_length-le es {i = i} end)

pub last_over : (es : List Entry) (i : ℕ) → i ≤ 0 → all is_slot (drop i es) ≡ true → 0 ≡ last_from is_slot es
last_over es i end all_slots = let none_left : i ≡ 0 = omega arith in sym (last_none is_slot es (rw none_left at all_slots))

-- ---- four entries that start elsewhere

pub none_starts : (es : List Entry) (start i : ℕ) → i + 4 ≤ length es
    → false ≡ one_of_four (λ j. eqb (get_or es j no_entry).start start) i
    → find (slot_from start) es ≡ i + find (slot_from start) (drop i es)
    → find (slot_from start) es ≡ i + 4 + find (slot_from start) (drop (i + 4) es)
unfolding slot_from
none_starts es start i four none so =
    so ∙ four_turns (λ j. j + find (slot_from start) (drop j es)) (λ j. eqb (get_or es j no_entry).start start) (length es)
    (λ j h other. omega (arith, find_goes (slot_from start) (turn es j h) (rw other))) i four (sym none)
