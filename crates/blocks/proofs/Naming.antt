-- Names and starts in a table: a name that is allowed or free, the start of a slot, a start that another slot has.
-- Assumes nothing.
use mathlib.Core.Path.{◌≡◌, refl, sym, ap, ◌∙◌}
use mathlib.Core.Bool.{Bool, true, false, not, ◌&&◌, ◌||◌}
use mathlib.Core.List.{List, [], ◌∷◌, ◌++◌}
use Prim.Native.Nat.{ℕ, zero, suc, ◌+◌, ◌≤◌, ◌<◌}
use native.Mathlib.Nat.{le_refl}
use native.Mathlib.Omega.{arith}
use lib.Dec.{eqb, leb, ltb}
use borrow.Author.Tests.{eqb-true, eqb-false, eq-eqb, ne_eqb, lt-ltb, le-ltb}
use lib.ListN.{length, get_or, take, drop, drop_of_length-le, get_or-eq_default}
use native.Mathlib.Numerals.{add-one}
use Rattle.rules.specs.Lists.{member, without, all, any, keep}
use Rattle.rules.specs.Bytes.{up_to_zero}
use Rattle.rules.specs.Table.{Entry, rows, no_entry, is_slot, slots, slot_starts, has_name, is_fixed_name}
use Rattle.rules.specs.Readers.{slot_row}
use Rattle.entries.proofs.Turns.{turn}
use Rattle.rules.specs.Commands.{name_allowed, name_free}
use Rattle.rules.proofs.Lists.Tests.{by_cases}
use Rattle.rules.proofs.Table.Standing.{length-entries_from}
use Rattle.rules.proofs.Order.Ordering.{eqb_swapped, member_of_without}
use Rattle.rules.proofs.Order.OnceEach.{left_out}
use Rattle.walks.specs.Find.{find}
use Rattle.walks.specs.Entries.{slot_from}
use Rattle.walks.proofs.Find.{any-find}
use Rattle.walks.proofs.Joined.{and_with_true, and_with_false}

-- ---- a name that is allowed

eqb-suc : (a b : ℕ) → eqb (suc a) (suc b) ≡ eqb a b
eqb-suc a b =
    by_cases (eqb a b)
    (λ t. rw t (eq-eqb (suc a) (suc b) (ap suc (eqb-true a b t))))
    (λ t. rw t (ne_eqb (suc a) (suc b) (λ e. eqb-false a b t (omega arith))))

length_no_zero : (n : List ℕ) → eqb (length (up_to_zero n)) (length n) ≡ all (λ b. not (eqb b 0)) n
unfolding up_to_zero all
length_no_zero [] = refl
length_no_zero (b ∷ n) =
    by_cases (eqb b 0)
    (λ t. rw t (ne_eqb 0 (suc (length n)) (λ e. absurd (omega arith))))
    (λ t. rw t (eqb-suc (length (up_to_zero n)) (length n) ∙ length_no_zero n))

pub whole_name : (n : List ℕ) → all (λ b. not (eqb b 0)) n ≡ true → up_to_zero n ≡ n
unfolding up_to_zero all
whole_name [] h = refl
whole_name (b ∷ n) h =
    by_cases (eqb b 0)
    (λ t. absurd (let z : ◌≡◌ {A = ℕ} 0 1 = cc (rw t at h) in omega arith))
    (λ t. rw t (ap (λ l. b ∷ l) (whole_name n (rw t at h))))

pub allowed_by_length : (n : List ℕ) (len : ℕ) (fixed : Bool)
    → len ≡ length (up_to_zero n)
    → fixed ≡ is_fixed_name (up_to_zero n)
    → ltb 0 (length n) && leb (length n) 15 && eqb len (length n) && not fixed ≡ name_allowed n
unfolding name_allowed
allowed_by_length n len fixed el ef =
    by_cases (all (λ b. not (eqb b 0)) n)
    (λ t. rw (el, ef, length_no_zero n, whole_name n t))
    (λ t. rw (el, length_no_zero n, t, and_with_false (ltb 0 (length n) && leb (length n) 15)))

-- ---- a name that no other entry has

module _ {A : Type 0} (f : A → Bool) (row : ℕ) where
  -- an element passes that is not the one of number row, counted from i
  unfoldable pub any_other : ℕ → List A → Bool
  any_other i [] = false
  any_other i (x ∷ xs) = (not (eqb i row) && f x) || any_other (suc i) xs

  any_after : (i : ℕ) (xs : List A) → row < i → any_other i xs ≡ any f xs
  unfolding any_other any
  any_after i [] h = refl
  any_after i (x ∷ xs) h = rw (ne_eqb i row (λ e. omega arith), any_after (suc i) xs (omega arith))

  any_around : (i k : ℕ) (xs : List A) → row ≡ i + k → any_other i xs ≡ any f (take k xs ++ drop (suc k) xs)
  unfolding any_other any
  any_around i zero [] h = refl
  any_around i (suc k) [] h = refl
  any_around i zero (x ∷ xs) h = rw (eq-eqb i row (omega arith)) (any_after (suc i) xs (omega arith))
  any_around i (suc k) (x ∷ xs) h =
      rw (ne_eqb i row (λ e. omega arith), any_around (suc i) k xs (omega arith))

-- an entry other than the one of number row has the name, from entry i on
abbrev pub others_named : List Entry → ℕ → List ℕ → ℕ → Bool
others_named es row n i = any_other (has_name n) row i (drop i es)

pub free_by_row : (es : List Entry) (row : ℕ) (n : List ℕ) → name_free es row n ≡ not (others_named es row n 0)
unfolding name_free
free_by_row es row n = rw (any_around (has_name n) row 0 row es (omega arith))

module _ (es : List Entry) (row : ℕ) (n : List ℕ) (i : ℕ) where
  pub named_here : i < length es → (i ≡ row → ⊥) → has_name n (get_or es i no_entry) ≡ true
      → others_named es row n i ≡ true
  unfolding any_other
  named_here h other t = rw (turn es i h, ne_eqb i row other, t)

  pub row_passed : i < length es → i ≡ row → others_named es row n i ≡ others_named es row n (i + 1)
  unfolding any_other
  row_passed h e = rw (turn es i h, eq-eqb i row e, add-one)

  pub named_further : i < length es → has_name n (get_or es i no_entry) ≡ false
      → others_named es row n i ≡ others_named es row n (i + 1)
  unfolding any_other
  named_further h f = rw (turn es i h, f, and_with_false, add-one)

  pub named_nowhere : length es ≤ i → others_named es row n i ≡ false
  unfolding any_other
  named_nowhere h = rw (drop_of_length-le es {i = i} h)

-- ---- where a slot starts

-- no entry starts at 0, as no slot does
start_at : (es : List Entry) (k : ℕ) → (get_or es (slot_row es k) no_entry).start ≡ get_or (slot_starts es) k 0
unfolding slots slot_starts keep slot_row no_entry
start_at [] k = refl
start_at (e ∷ es) zero = by_cases (is_slot e) (λ t. rw t) (λ t. rw t (start_at es zero))
start_at (e ∷ es) (suc k) = by_cases (is_slot e) (λ t. rw t (start_at es k)) (λ t. rw t (start_at es (suc k)))

pub start_found : (es : List Entry) (k i : ℕ) → i ≡ slot_row es k
    → (get_or es i no_entry).start ≡ get_or (slot_starts es) k 0
start_found es k i e = rw e (start_at es k)

pub start_not_found : (es : List Entry) (k : ℕ) → slot_row es k ≡ length es → get_or (slot_starts es) k 0 ≡ 0
unfolding no_entry
start_not_found es k e =
    sym (rw (e, get_or-eq_default es no_entry {n = length es} (le_refl (length es))) at (start_at es k))

-- ---- a start that another slot has

member-without : (v a : ℕ) (xs : List ℕ) → member v (without a xs) ≡ not (eqb v a) && member v xs
member-without v a xs =
    by_cases (eqb v a)
    (λ t. rw (t, eqb-true v a t) (left_out a xs))
    (λ t. rw t (member_of_without a v xs (eqb_swapped a v ∙ t)))

member_of_starts : (v : ℕ) (es : List Entry) → member v (slot_starts es) ≡ any (slot_from v) es
unfolding member slot_starts slots keep any slot_from
member_of_starts v [] = refl
member_of_starts v (e ∷ es) =
    by_cases (is_slot e)
    (λ t. rw (t, eqb_swapped v e.start, and_with_true, member_of_starts v es))
    (λ t. rw (t, and_with_false, member_of_starts v es))

module _ (es : List Entry) (v a : ℕ) where
  pub same_start : v ≡ a → member v (without a (slot_starts es)) ≡ false
  same_start e = member-without v a (slot_starts es) ∙ rw (eq-eqb v a e)

  pub other_start : (v ≡ a → ⊥) → find (slot_from v) es < length es → member v (without a (slot_starts es)) ≡ true
  other_start other h =
      member-without v a (slot_starts es)
      ∙ rw (ne_eqb v a other, member_of_starts v es, any-find (slot_from v) es, lt-ltb (find (slot_from v) es) (length es) h)

  pub no_start : find (slot_from v) es ≡ length es → member v (without a (slot_starts es)) ≡ false
  no_start e =
      member-without v a (slot_starts es)
      ∙ rw (member_of_starts v es, any-find (slot_from v) es, le-ltb (find (slot_from v) es) (length es) (omega arith))
      (and_with_false (not (eqb v a)))

-- the same as one equation: v is another number than a, and some counted entry is a slot that starts there
pub other_start_is : (v a n i : ℕ) (t : List ℕ) → i ≡ find (slot_from v) (rows n t)
    → not (eqb v a) && ltb i n ≡ member v (without a (slot_starts (rows n t)))
other_start_is v a n i t e =
    sym (member-without v a (slot_starts (rows n t))
    ∙ rw (member_of_starts v (rows n t), any-find (slot_from v) (rows n t), ← e, length-entries_from n (drop 0x20 t)))
