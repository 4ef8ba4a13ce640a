-- The block read of a pair, told by the two blocks alone, and how it goes with the address that is read. Assumes
-- nothing.
use mathlib.Core.Path.{◌≡◌, subst}
use mathlib.Core.Bool.{Bool, true, false, cond, ◌&&◌}
use mathlib.Core.Logic.{◌⊎◌, inl, inr}
use mathlib.Core.List.{List}
use Rattle.std.specs.Prelude.{Option, None, Some}
use Prim.Native.Nat.{ℕ}
use native.Mathlib.Omega.{arith}
use Rattle.rules.specs.Lists.{same}
use Rattle.rules.specs.Bytes.{block}
use Rattle.rules.specs.Answers.{given}
use Rattle.rules.specs.Copies.{copy_read, pair_agrees}
use Rattle.rules.specs.declared.Refusal.{Refusal}
use Rattle.rules.proofs.Lists.Tests.{by_cases, clash, and_true, same_true, same_of, given_inj, refused_given}

-- the first block if it stands, else the second if that stands
unfoldable pub block_read : (List ℕ → Bool) → List ℕ → List ℕ → Option (List ℕ)
block_read stands x y = cond (stands x) (Some x) (cond (stands y) (Some y) None)

some_inj : {A : Type 0} (x y : A) → Some x ≡ Some y → x ≡ y
some_inj x y h = cc

none_some : {A : Type 0} (x : A) → None ≡ Some x → ⊥
none_some x h = let z : ◌≡◌ {A = ℕ} 0 1 = cc in omega arith

module _ (stands : List ℕ → Bool) where
  -- ---- by blocks

  pub first_read : (x y : List ℕ) → stands x ≡ true → block_read stands x y ≡ Some x
  unfolding block_read
  first_read x y h = rw h

  pub second_read : (x y : List ℕ) → stands x ≡ false → stands y ≡ true → block_read stands x y ≡ Some y
  unfolding block_read
  second_read x y h k = rw (h, k)

  -- the first is read, or the second because the first does not stand
  abbrev pub WhichRead : List ℕ → List ℕ → List ℕ → Type 0
  WhichRead x y b =
      ((stands x ≡ true) × (x ≡ b))
      ⊎ ((stands x ≡ false) × (stands y ≡ true) × (y ≡ b))

  pub which_read : (x y b : List ℕ) → block_read stands x y ≡ Some b → WhichRead x y b
  unfolding block_read
  which_read x y b h = by_cases (stands x)
      (λ t. inl (t, some_inj x b (rw t at h)))
      (λ f. by_cases (stands y)
      (λ t. inr (f, t, some_inj y b (rw (f, t) at h)))
      (λ g. absurd (none_some b (rw (f, g) at h))))

  pub read_stands : (x y b : List ℕ) → block_read stands x y ≡ Some b → stands b ≡ true
  read_stands x y b h = pick (which_read x y b h)
    where
      pick : WhichRead x y b → stands b ≡ true
      pick (inl (t, e)) = subst (λ (l : List ℕ). stands l ≡ true) e t
      pick (inr (f, t, e)) = subst (λ (l : List ℕ). stands l ≡ true) e t

  -- of two equal blocks the first is read
  pub equal_read : (x y b : List ℕ) → block_read stands x y ≡ Some b → x ≡ y → (x ≡ b) × (stands x ≡ true)
  equal_read x y b h e = split (which_read x y b h)
    where
      split : WhichRead x y b → (x ≡ b) × (stands x ≡ true)
      split (inl (t, q)) = (q, t)
      split (inr (f, t, q)) = absurd (clash (stands y) t (subst (λ (l : List ℕ). stands l ≡ false) e f))

  -- ---- by addresses

  module _ (img : List ℕ) (a0 a1 : ℕ) where
    -- the same by addresses
    abbrev pub WhichAddress : ℕ → Type 0
    WhichAddress a =
        ((stands (block img a0) ≡ true) × (a0 ≡ a))
        ⊎ ((stands (block img a0) ≡ false) × (stands (block img a1) ≡ true) × (a1 ≡ a))

    pub block_at_read : (a : ℕ)
        → WhichAddress a
        → block_read stands (block img a0) (block img a1) ≡ Some (block img a)
    block_at_read a (inl (t, e)) = rw (← e) (first_read (block img a0) (block img a1) t)
    block_at_read a (inr (f, t, e)) = rw (← e) (second_read (block img a0) (block img a1) f t)

-- whatever the refusal where neither copy stands
module _ (why : Refusal) (stands : List ℕ → Bool) where
  module _ (img : List ℕ) (a0 a1 : ℕ) where
    pub which_address : (a : ℕ) → copy_read why stands img a0 a1 ≡ given a → WhichAddress stands img a0 a1 a
    unfolding copy_read
    which_address a h = by_cases (stands (block img a0))
        (λ t. inl (t, given_inj a0 a (rw t at h)))
        (λ f. by_cases (stands (block img a1))
        (λ t. inr (f, t, given_inj a1 a (rw (f, t) at h)))
        (λ g. absurd (refused_given why a (rw (f, g) at h))))

    pub address_read : (b : List ℕ)
        → block_read stands (block img a0) (block img a1) ≡ Some b
        → (a : ℕ) × (copy_read why stands img a0 a1 ≡ given a) × (block img a ≡ b)
    unfolding copy_read
    address_read b h = split (which_read stands (block img a0) (block img a1) b h)
      where
        split : WhichRead stands (block img a0) (block img a1) b
            → (a : ℕ) × (copy_read why stands img a0 a1 ≡ given a) × (block img a ≡ b)
        split (inl (t, e)) = (a0, rw t, e)
        split (inr (f, t, e)) = (a1, rw (f, t), e)

  -- which address is read goes by the two blocks alone
  pub copy_read_same : (x y : List ℕ) (a0 a1 : ℕ)
      → block y a0 ≡ block x a0
      → block y a1 ≡ block x a1
      → copy_read why stands y a0 a1 ≡ copy_read why stands x a0 a1
  unfolding copy_read
  copy_read_same x y a0 a1 e0 e1 = rw (e0, e1)

-- ---- pairs that agree

module _ (stands : List ℕ → Bool) (img : List ℕ) (a0 a1 : ℕ) where
  pub agree_equal : pair_agrees stands img a0 a1 ≡ true → block img a0 ≡ block img a1
  unfolding pair_agrees
  agree_equal h =
      let (p, q) = and_true (stands (block img a0) && stands (block img a1)) (same (block img a0) (block img a1)) h in
      same_true (block img a0) (block img a1) q

  pub equal_agree : stands (block img a0) ≡ true → block img a0 ≡ block img a1 → pair_agrees stands img a0 a1 ≡ true
  unfolding pair_agrees
  equal_agree t e =
      rw (t, subst (λ (l : List ℕ). stands l ≡ true) e t) (same_of (block img a0) (block img a1) e)
