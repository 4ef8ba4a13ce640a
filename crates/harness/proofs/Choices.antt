-- Bytes of a granule wiped one after the other, by a choice. Assumes nothing.
use mathlib.Core.Path.{◌≡◌, refl, sym, ap, ◌∙◌}
use mathlib.Core.Bool.{Bool, false, cond}
use mathlib.Core.List.{List, [], ◌∷◌, ◌++◌}
use Prim.Native.Nat.{ℕ, zero, suc, ◌+◌, ◌≤◌, ◌<◌}
use native.Mathlib.Nat.{zero-add, suc-add, add-zero, le_of_suc-le-suc, not-suc-le-zero}
use native.Mathlib.Numerals.{add-one}
use native.Mathlib.Omega.{arith}
use lib.ListN.{length, get_or, set, take, drop}
use borrow.Author.Tests.{le-leb, lt-leb}
use Rattle.rules.specs.Bytes.{erased_byte}
use Rattle.rules.specs.Cuts.{wiped_where, half_done}
use Rattle.harness.specs.Choices.{wipes, choices, torn_inside}
use Rattle.harness.specs.declared.tearing.Choice.{Choice}

-- an erase at an address, half done by these choices
abbrev wiped_at : ℕ → List Bool → List ℕ → List ℕ
wiped_at a ws img = take a img ++ wiped_where ws (drop a img)

length-choices : (c : Choice) (size i n : ℕ) → length (choices c size i n) ≡ n
unfolding choices
length-choices c size i zero = refl
length-choices c size i (suc n) = ap suc (length-choices c size (suc i) n)

choice_at : (c : Choice) (size j n i : ℕ) → i < n → get_or (choices c size j n) i false ≡ wipes c size (j + i)
unfolding choices
choice_at c size j zero i h = absurd (not-suc-le-zero h)
choice_at c size j (suc n) zero h = rw (add-zero j)
choice_at c size j (suc n) (suc i) h =
    let e : j + suc i ≡ suc j + i = omega arith in
    rw e (choice_at c size (suc j) n i (le_of_suc-le-suc h))

one_where : (ws : List Bool) (bs : List ℕ) (i : ℕ)
    → i < length ws
    → i < length bs
    → wiped_where (take (suc i) ws) bs
    ≡ set (wiped_where (take i ws) bs) i
    (cond (get_or ws i false) erased_byte (get_or (wiped_where (take i ws) bs) i 0))
unfolding wiped_where
one_where [] bs i h k = absurd (not-suc-le-zero h)
one_where (w ∷ ws) [] i h k = absurd (not-suc-le-zero k)
one_where (w ∷ ws) (b ∷ bs) zero h k = refl
one_where (w ∷ ws) (b ∷ bs) (suc i) h k =
    ap {B = List ℕ} (λ r. cond w erased_byte b ∷ r) (one_where ws bs i (le_of_suc-le-suc h) (le_of_suc-le-suc k))

one_wiped : (a : ℕ) (ws : List Bool) (img : List ℕ) (i : ℕ)
    → i < length ws
    → a + i < length img
    → wiped_at a (take (suc i) ws) img
    ≡ set (wiped_at a (take i ws) img) (a + i)
    (cond (get_or ws i false) erased_byte (get_or (wiped_at a (take i ws) img) (a + i) 0))
one_wiped zero ws img i h k = rw (zero-add i) (one_where ws img i h (omega arith))
one_wiped (suc a) ws [] i h k = absurd (not-suc-le-zero k)
one_wiped (suc a) ws (x ∷ img) i h k =
    rw (suc-add a i) (ap {B = List ℕ} (λ r. x ∷ r) (one_wiped a ws img i h (omega arith)))

none_wiped : (a : ℕ) (img : List ℕ) → img ≡ wiped_at a [] img
unfolding wiped_where
none_wiped zero img = refl
none_wiped (suc a) [] = refl
none_wiped (suc a) (x ∷ img) = ap {B = List ℕ} (λ r. x ∷ r) (none_wiped a img)

-- ---- the turns of the loop

-- after i turns
abbrev pub after_turns : ℕ → ℕ → Choice → List ℕ → ℕ → List ℕ
after_turns a size c img i = wiped_at a (take i (choices c size 0 size)) img

module _ (a size : ℕ) (c : Choice) (img : List ℕ) (fits : a + size ≤ length img) where
  abbrev after : ℕ → List ℕ
  after i = after_turns a size c img i

  pub no_turn : img ≡ after 0
  no_turn = none_wiped a img

  pub one_turn : (i byte : ℕ) (wiped : Bool)
      → i < size
      → wiped ≡ wipes c size i
      → byte ≡ cond wiped erased_byte (get_or (after i) (a + i) 0)
      → set (after i) (a + i) byte ≡ after (i + 1)
  one_turn i byte wiped h w b =
      let ws = choices c size 0 size in
      let chosen : get_or ws i false ≡ wiped = choice_at c size 0 size i h ∙ rw (zero-add i) (sym w) in
      rw (b, ← chosen, add-one i)
      (sym (one_wiped a ws img i (rw (length-choices c size 0 size) h) (omega arith)))

  pub all_turns : (i : ℕ) → i ≡ size → after i ≡ torn_inside a size c img
  unfolding torn_inside half_done
  all_turns i e = rw (e, le-leb (a + size) (length img) fits)

pub not_torn : (a size : ℕ) (c : Choice) (img : List ℕ) → length img < a + size → img ≡ torn_inside a size c img
unfolding torn_inside
not_torn a size c img h = rw (lt-leb (a + size) (length img) h)
