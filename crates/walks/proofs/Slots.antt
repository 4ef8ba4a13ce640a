-- The slot that starts at an address is the first such entry, and its number is that of the slots before it; the
-- entry number of a slot, turn by turn. Assumes nothing.
use mathlib.Core.Path.{◌≡◌, refl, ◌∙◌}
use mathlib.Core.Bool.{Bool, true, false, cond, ◌&&◌}
use mathlib.Core.List.{List, [], ◌∷◌}
use Rattle.std.specs.Prelude.{None, Some}
use Prim.Native.Nat.{ℕ, zero, suc, ◌-◌, ◌≤◌, ◌<◌}
use native.Mathlib.Omega.{arith}
use lib.Dec.{eqb, ltb, leb-suc-suc, leb-zero}
use borrow.Author.Tests.{lt-ltb, le-ltb}
use lib.ListN.{length, take, drop}
use Rattle.rules.specs.Lists.{keep}
use Rattle.rules.specs.Table.{Entry, is_slot, slots, slot_starts}
use Rattle.rules.specs.Pointers.{one_more, slot_at}
use Rattle.rules.specs.Readers.{slot_row}
use Rattle.rules.proofs.Lists.Tests.{by_cases, clash}
use Rattle.walks.specs.Find.{find}
use Rattle.walks.specs.Entries.{slot_from}
use Rattle.walks.proofs.Joined.{and_with_false}

one_more-cond : (b : Bool) (k : ℕ) → one_more (cond b (Some k) None) ≡ cond b (Some (suc k)) None
unfolding one_more
one_more-cond true k = refl
one_more-cond false k = refl

slot_at-find : (es : List Entry) (a : ℕ)
    → slot_at (slot_starts es) a
    ≡ cond (ltb (find (slot_from a) es) (length es)) (Some (length (slots (take (find (slot_from a) es) es)))) None
unfolding slot_starts slots slot_at find slot_from keep
slot_at-find [] a = refl
slot_at-find (e ∷ es) a =
    by_cases (is_slot e)
    (λ p. by_cases (eqb e.start a)
    (λ t. rw (p, t, leb-suc-suc 0 (length es), leb-zero))
    (λ t. rw (p, t, slot_at-find es a, leb-suc-suc (suc (find (slot_from a) es)) (length es), one_more-cond, p)))
    (λ p. rw (p, and_with_false, slot_at-find es a, leb-suc-suc (suc (find (slot_from a) es)) (length es), p))

-- by the number i that the search gave
module _ (es : List Entry) (a i : ℕ) (e : i ≡ find (slot_from a) es) where
  pub slot_at_found : i < length es → slot_at (slot_starts es) a ≡ Some (length (slots (take i es)))
  slot_at_found h = slot_at-find es a ∙ rw (← e, lt-ltb i (length es) h)

  pub slot_at_not_found : i ≡ length es → slot_at (slot_starts es) a ≡ None
  slot_at_not_found h = slot_at-find es a ∙ rw (← e, le-ltb i (length es) (omega arith))

-- ---- the entry number of the k-th slot: `es` is what is left to walk

slot_row_skips : (es : List Entry) (e : Entry) (k : ℕ) → is_slot e ≡ false → slot_row (e ∷ es) k ≡ suc (slot_row es k)
unfolding slot_row
slot_row_skips es e zero h = rw h
slot_row_skips es e (suc k) h = rw h

slot_row_counts : (es : List Entry) (e : Entry) (k : ℕ)
    → is_slot e ≡ true
    → eqb k 0 ≡ false
    → slot_row (e ∷ es) k ≡ suc (slot_row es (k - 1))
unfolding slot_row
slot_row_counts es e zero h z = absurd (clash true refl z)
slot_row_counts es e (suc k) h z = let d : suc k - 1 ≡ k = omega arith in rw (h, d)

-- where the walk goes on past an entry, that entry takes no more than is left
pub taken_is_left : (b : Bool) (k : ℕ) → b && eqb k 0 ≡ false → cond b 1 0 ≤ k
taken_is_left true zero h = absurd (clash true refl h)
taken_is_left true (suc k) h = omega arith
taken_is_left false k h = omega arith

module _ {es rest : List Entry} {e : Entry} where
  pub slot_row_here : (k : ℕ) → es ≡ e ∷ rest → is_slot e ≡ true → k ≡ 0 → slot_row es k ≡ 0
  unfolding slot_row
  slot_row_here k q h z = rw (q, z, h)

  pub slot_row_goes : (k : ℕ)
      → es ≡ e ∷ rest
      → is_slot e && eqb k 0 ≡ false
      → slot_row es k ≡ suc (slot_row rest (k - cond (is_slot e) 1 0))
  slot_row_goes k q h =
      by_cases (is_slot e)
      (λ p. rw (q, p) (slot_row_counts rest e k p (rw p at h)))
      (λ p. let z : k - 0 ≡ k = omega arith in rw (q, p, z) (slot_row_skips rest e k p))

pub slot_row_over : {es : List Entry} (k : ℕ) → es ≡ [] → slot_row es k ≡ 0
unfolding slot_row
slot_row_over k q = rw q
