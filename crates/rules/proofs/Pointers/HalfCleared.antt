-- Values that name no slot: those above every image, and a start with its lowest bytes set to 0. Assumes nothing.
use mathlib.Core.Path.{◌≡◌, sym, ap₂, ◌∙◌}
use mathlib.Core.Bool.{Bool, true, false, ◌||◌}
use mathlib.Core.Logic.{◌⊎◌, inl, inr}
use mathlib.Core.List.{List, [], ◌∷◌}
use Rattle.std.specs.Prelude.{None}
use Prim.Native.Nat.{ℕ, zero, suc, ◌+◌, ◌*◌, ◌/◌, ◌≤◌, ◌<◌}
use native.Mathlib.Nat.{not-suc-le-zero}
use native.Mathlib.Decide.{dec_le, ℕ_discrete}
use native.Mathlib.Omega.{arith}
use lib.Dec.{eqb}
use borrow.Author.Tests.{eq-eqb, ne_eqb}
use lib.ListN.{length, get_or}
use Rattle.rules.specs.Lists.{member, without}
use Rattle.rules.specs.Numbers.{longest}
use Rattle.rules.specs.Commands.{half_cleared_names}
use Rattle.rules.proofs.Lists.Tests.{by_cases, clash, or_false}
use Rattle.rules.proofs.Order.Ordering.{slot_named, zero_names_none, member_of_without}
use Rattle.rules.proofs.Order.Clearing.{names_none}
use Rattle.rules.proofs.Table.SlotStarts.{SlotStarts}
use Rattle.rules.proofs.Lists.Words.{number, number_same}

module _ (starts : List ℕ) (right : SlotStarts starts) where
  pub high_names_none : (v : ℕ) → longest ≤ v → slot_named starts v ≡ None
  high_names_none v h = names_none starts v (λ k l e. omega (arith, right.inside k l))

-- ---- a value that no other slot starts at

member_at : (xs : List ℕ) (k v : ℕ) → k < length xs → get_or xs k 0 ≡ v → member v xs ≡ true
unfolding member
member_at [] k v h e = absurd (not-suc-le-zero h)
member_at (x ∷ xs) zero v h e = rw (eq-eqb v x (sym e))
member_at (x ∷ xs) (suc k) v h e = by_cases (eqb v x) (λ t. rw t) (λ t. rw t (member_at xs k v (omega arith) e))

-- it is the start itself, or it names no slot
abbrev pub Harmless : List ℕ → ℕ → ℕ → Type 0
Harmless starts a v = (v ≡ a) ⊎ (slot_named starts v ≡ None)

no_other_harmless : (starts : List ℕ) (a v : ℕ) → member v (without a starts) ≡ false → Harmless starts a v
no_other_harmless starts a v h = split (ℕ_discrete v a)
  where
    split : Dec (v ≡ a) → Harmless starts a v
    split (yes e) = inl e
    split (no n) =
        let other = member_of_without a v starts (ne_eqb a v (λ e. n (sym e))) in
        inr (names_none starts v (λ k l e. clash (member v starts) (member_at starts k v l e) (sym other ∙ h)))

-- ---- bytes with the lowest set to 0

one_low : (b x a : ℕ) → b < 256 → b + 256 * x ≡ a → 0 + 256 * x ≡ a / 0x100 * 0x100
one_low b x a h e = omega arith

two_low : (b0 b1 x a : ℕ)
    → b0 < 256
    → b1 < 256
    → b0 + 256 * (b1 + 256 * x) ≡ a
    → 0 + 256 * (0 + 256 * x) ≡ a / 0x10000 * 0x10000
two_low b0 b1 x a h0 h1 e = omega arith

three_low : (b0 b1 b2 x a : ℕ)
    → b0 < 256
    → b1 < 256
    → b2 < 256
    → b0 + 256 * (b1 + 256 * (b2 + 256 * x)) ≡ a
    → 0 + 256 * (0 + 256 * (0 + 256 * x)) ≡ a / 0x1000000 * 0x1000000
three_low b0 b1 b2 x a h0 h1 h2 e = omega arith

-- n lowest bytes of f set to 0
pub record LowCleared (n : ℕ) (f f' : ℕ → ℕ) : Type 0 where
  pub zeros : (j : ℕ) → j < n → f' j ≡ 0
  pub others : (j : ℕ) → n ≤ j → f' j ≡ f j

first_cleared : (n m : ℕ) (f f' : ℕ → ℕ)
    → LowCleared (suc n) f f'
    → (x : ℕ)
    → (LowCleared n (λ j. f (suc j)) (λ j. f' (suc j)) → number m (λ j. f' (suc j)) ≡ x)
    → number (suc m) f' ≡ 0 + 256 * x
first_cleared n m f f' h x rest =
    ap₂ (λ (b y : ℕ). b + 256 * y) (h.zeros 0 (omega arith))
    (rest (record { zeros = λ j l. h.zeros (suc j) (omega arith); others = λ j l. h.others (suc j) (omega arith) }))

none_cleared : (m : ℕ) (f f' : ℕ → ℕ) → LowCleared 0 f f' → number m f' ≡ number m f
none_cleared m f f' h = number_same m f' f (λ j l. h.others j (omega arith))

module _ (starts : List ℕ) (right : SlotStarts starts) (k : ℕ) (hk : k < length starts)
    (allowed : half_cleared_names starts (get_or starts k 0) ≡ false) where
  abbrev a : ℕ
  a = get_or starts k 0

  low_bytes_harmless : Harmless starts a (a / 0x100 * 0x100)
      × Harmless starts a (a / 0x10000 * 0x10000)
      × Harmless starts a (a / 0x1000000 * 0x1000000)
  unfolding half_cleared_names
  low_bytes_harmless =
      let m1 : Bool = member (a / 0x100 * 0x100) (without a starts) in
      let m2 : Bool = member (a / 0x10000 * 0x10000) (without a starts) in
      let m3 : Bool = member (a / 0x1000000 * 0x1000000) (without a starts) in
      let (f12, f3) = or_false (m1 || m2) m3 allowed in
      let (f1, f2) = or_false m1 m2 f12 in (
        no_other_harmless starts a (a / 0x100 * 0x100) f1,
        no_other_harmless starts a (a / 0x10000 * 0x10000) f2,
        no_other_harmless starts a (a / 0x1000000 * 0x1000000) f3,
      )

  -- the start half cleared is itself, or names no slot
  pub half_cleared_harmless : (n : ℕ) (f f' : ℕ → ℕ)
      → ((j : ℕ) → f j < 256)
      → number 8 f ≡ a
      → LowCleared n f f'
      → Harmless starts a (number 8 f')
  half_cleared_harmless zero f f' hb e h = inl (none_cleared 8 f f' h ∙ e)
  half_cleared_harmless (suc zero) f f' hb e h =
      rw (first_cleared 0 7 f f' h (number 7 (λ j. f (suc j))) (none_cleared 7 _ _)
      ∙ one_low (f 0) (number 7 (λ j. f (suc j))) a (hb 0) e)
      low_bytes_harmless.0
  half_cleared_harmless (suc (suc zero)) f f' hb e h =
      let x : ℕ = number 6 (λ j. f (suc (suc j))) in
      rw (first_cleared 1 7 f f' h (0 + 256 * x)
      (λ h1. first_cleared 0 6 _ _ h1 x (none_cleared 6 _ _))
      ∙ two_low (f 0) (f 1) x a (hb 0) (hb 1) e)
      low_bytes_harmless.1
  half_cleared_harmless (suc (suc (suc zero))) f f' hb e h =
      let x : ℕ = number 5 (λ j. f (suc (suc (suc j)))) in
      rw (first_cleared 2 7 f f' h (0 + 256 * (0 + 256 * x))
      (λ h1. first_cleared 1 6 _ _ h1 (0 + 256 * x) (λ h2. first_cleared 0 5 _ _ h2 x (none_cleared 5 _ _)))
      ∙ three_low (f 0) (f 1) (f 2) x a (hb 0) (hb 1) (hb 2) e)
      low_bytes_harmless.2
  half_cleared_harmless (suc (suc (suc (suc n)))) f f' hb e h =
      let z0 = h.zeros 0 (omega arith) in
      let z1 = h.zeros 1 (omega arith) in
      let z2 = h.zeros 2 (omega arith) in
      let z3 = h.zeros 3 (omega arith) in
      let b4 = no_more 4 in
      let b5 = no_more 5 in
      let b6 = no_more 6 in
      let b7 = no_more 7 in
      let small = right.inside k hk in
      let gone : number 8 f' ≡ 0 = omega arith in
      rw gone (inr (zero_names_none starts))
    where
      no_more : (j : ℕ) → f' j ≤ f j
      no_more j = split (dec_le (suc (suc (suc (suc n)))) j)
        where
          split : Dec (suc (suc (suc (suc n))) ≤ j) → f' j ≤ f j
          split (yes d) = omega (arith, h.others j d)
          split (no d) = omega (arith, h.zeros j (omega arith))
