-- A granule erased, whole or half done: bytes of it are erased or as before, and every other byte is as before. Assumes
-- nothing.
use mathlib.Core.Path.{◌≡◌, refl, sym, ap, ◌∙◌, subst}
use mathlib.Core.Bool.{Bool, true, false}
use mathlib.Core.Logic.{◌⊎◌, inl, inr}
use mathlib.Core.List.{List, [], ◌∷◌, ◌++◌}
use Prim.Native.Nat.{ℕ, zero, suc, ◌+◌, ◌≤◌, ◌<◌, min}
use native.Mathlib.Nat.{le_of_suc-le-suc, not-suc-le-zero}
use native.Mathlib.Omega.{arith}
use lib.ListN.{length, get_or, take, drop, replicate, length-drop, length-replicate, get_or-replicate, get_or-append}
use lib.Seq.{length-take-le, get_or-append-add, drop-drop}
use Rattle.rules.specs.Bytes.{erased_byte}
use Rattle.rules.specs.declared.Step.{Step}
use Rattle.rules.specs.declared.Step.TheVariants.{Erase}
use Rattle.rules.specs.Steps.{wiped}
use Rattle.rules.specs.Cuts.{wiped_where, half_done}

-- ---- half done

-- n bytes at an address are each old or erased
pub record HalfErased (a n : ℕ) (img img' : List ℕ) : Type 0 where
  pub same_length : length img' ≡ length img
  pub elsewhere : (i : ℕ) → ((a ≤ i) × (i < a + n) → ⊥) → get_or img' i 0 ≡ get_or img i 0
  pub old_or_erased : (i : ℕ) → (get_or img' i 0 ≡ get_or img i 0) ⊎ (get_or img' i 0 ≡ erased_byte)

-- an erase at an address, half done by these choices
abbrev pub wiped_at : ℕ → List Bool → List ℕ → List ℕ
wiped_at a ws img = take a img ++ wiped_where ws (drop a img)

length-wiped_at : (a : ℕ) (ws : List Bool) (img : List ℕ) → length (wiped_at a ws img) ≡ length img
unfolding wiped_where
length-wiped_at zero [] img = refl
length-wiped_at zero (w ∷ ws) [] = refl
length-wiped_at zero (w ∷ ws) (x ∷ img) = ap suc (length-wiped_at zero ws img)
length-wiped_at (suc a) [] [] = refl
length-wiped_at (suc a) (w ∷ ws) [] = refl
length-wiped_at (suc a) ws (x ∷ img) = ap suc (length-wiped_at a ws img)

not_wiped_at : (a : ℕ) (ws : List Bool) (img : List ℕ) (i : ℕ)
    → ((a ≤ i) × (i < a + length ws) → ⊥)
    → get_or (wiped_at a ws img) i 0 ≡ get_or img i 0
unfolding wiped_where
not_wiped_at zero [] img i h = refl
not_wiped_at zero (w ∷ ws) [] i h = refl
not_wiped_at zero (w ∷ ws) (x ∷ img) zero h = absurd (h (omega arith, omega arith))
not_wiped_at zero (w ∷ ws) (x ∷ img) (suc i) h = not_wiped_at zero ws img i (λ r. h (omega arith, omega arith))
not_wiped_at (suc a) [] [] i h = refl
not_wiped_at (suc a) (w ∷ ws) [] i h = refl
not_wiped_at (suc a) ws (x ∷ img) zero h = refl
not_wiped_at (suc a) ws (x ∷ img) (suc i) h = not_wiped_at a ws img i (λ r. h (omega arith, omega arith))

wiped_or_not : (a : ℕ) (ws : List Bool) (img : List ℕ) (i : ℕ)
    → (get_or (wiped_at a ws img) i 0 ≡ get_or img i 0) ⊎ (get_or (wiped_at a ws img) i 0 ≡ erased_byte)
unfolding wiped_where
wiped_or_not zero [] img i = inl refl
wiped_or_not zero (w ∷ ws) [] i = inl refl
wiped_or_not zero (true ∷ ws) (x ∷ img) zero = inr refl
wiped_or_not zero (false ∷ ws) (x ∷ img) zero = inl refl
wiped_or_not zero (w ∷ ws) (x ∷ img) (suc i) = wiped_or_not zero ws img i
wiped_or_not (suc a) [] [] i = inl refl
wiped_or_not (suc a) (w ∷ ws) [] i = inl refl
wiped_or_not (suc a) ws (x ∷ img) zero = inl refl
wiped_or_not (suc a) ws (x ∷ img) (suc i) = wiped_or_not a ws img i

pub half_erased : (a n : ℕ) (ws : List Bool) (img : List ℕ) → length ws ≤ n → HalfErased a n img (wiped_at a ws img)
half_erased a n ws img h = record {
  same_length = length-wiped_at a ws img;
  elsewhere = λ i out. not_wiped_at a ws img i (λ r. out (omega arith, omega arith));
  old_or_erased = wiped_or_not a ws img;
}

-- ---- whole

lowest_where : (n : ℕ) (bs : List ℕ)
    → n ≤ length bs
    → wiped_where (replicate n true) bs ≡ replicate n erased_byte ++ drop n bs
unfolding wiped_where
lowest_where zero bs h = refl
lowest_where (suc n) [] h = absurd (not-suc-le-zero h)
lowest_where (suc n) (b ∷ bs) h = ap {B = List ℕ} (λ r. erased_byte ∷ r) (lowest_where n bs (le_of_suc-le-suc h))

lowest_at : (a n : ℕ) (img : List ℕ) → a + n ≤ length img → wiped_at a (replicate n true) img ≡ wiped a n img
unfolding wiped
lowest_at a n img h =
    let room : n ≤ length (drop a img) = rw length-drop (omega arith) in
    rw (lowest_where n (drop a img) room, drop-drop n a img)

pub erased_whole : (a n : ℕ) (img : List ℕ) → a + n ≤ length img → HalfErased a n img (wiped a n img)
erased_whole a n img h =
    subst (λ (x : List ℕ). HalfErased a n img x) (lowest_at a n img h)
    (half_erased a n (replicate n true) img (omega (arith, length-replicate n true)))

pub wiped_within : (a n : ℕ) (img : List ℕ) (i : ℕ)
    → a + n ≤ length img
    → i < n
    → get_or (wiped a n img) (a + i) 0 ≡ erased_byte
unfolding wiped
wiped_within a n img i h l =
    let la : length (take a img) ≡ a = length-take-le a img (omega arith) in
    let r : List ℕ = replicate n erased_byte in
    let lr : i < length r = simp length-replicate l in
    ap (λ (k : ℕ). get_or (take a img ++ (replicate n erased_byte ++ drop (a + n) img)) (k + i) 0) (sym la)
    ∙ get_or-append-add (take a img) (replicate n erased_byte ++ drop (a + n) img) i 0
    ∙ get_or-append (replicate n erased_byte) (drop (a + n) img) 0 i lr
    ∙ get_or-replicate n i erased_byte 0 l

-- ---- document 01's cut: "the granule's lowest k bytes 0xFF, the rest old, for some k"

first_of_equal : (g k : ℕ) (w : Bool) → take g (replicate k w) ≡ replicate (min k g) w
first_of_equal zero k w = let none : min k 0 ≡ 0 = omega arith in rw none
first_of_equal (suc g) zero w = let none : min 0 (suc g) ≡ 0 = omega arith in rw none
first_of_equal (suc g) (suc k) w =
    let one_more : min (suc k) (suc g) ≡ suc (min k g) = omega arith in
    rw one_more (ap {B = List Bool} (λ r. w ∷ r) (first_of_equal g k w))

pub lowest_bytes_wiped : (g k a : ℕ) (ss : List Step) (img : List ℕ)
    → a + min k g ≤ length img
    → half_done g (replicate k true) (Erase a ∷ ss) img ≡ wiped a (min k g) img
unfolding half_done
lowest_bytes_wiped g k a ss img h = rw (first_of_equal g k true) (lowest_at a (min k g) img h)
