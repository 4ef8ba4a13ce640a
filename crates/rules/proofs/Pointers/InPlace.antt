-- Steps on the places of a pair of pointer blocks, copy 1 and then copy 0, cut anywhere and done. Assumes nothing.
use mathlib.Core.Path.{◌≡◌, refl, sym, ap, ◌∙◌}
use mathlib.Core.Logic.{◌⊎◌, inl, inr}
use mathlib.Core.List.{List, [], ◌∷◌, ◌++◌}
use Prim.Native.Nat.{ℕ, zero, suc, ◌+◌, ◌*◌, ◌-◌}
use native.Mathlib.Nat.{zero-add, suc-add}
use native.Mathlib.Omega.{arith}
use lib.Bits.{bit_and}
use lib.ListN.{length, take, drop}
use Rattle.rules.specs.Bytes.{block, block_size}
use Rattle.rules.specs.declared.Step.{Step}
use Rattle.rules.specs.Steps.{steps, programs}
use Rattle.rules.specs.Commands.{into_place, into_places}
use Rattle.rules.proofs.Steps.Programming.{anded, anded_at, steps-programs, steps_append}
use Rattle.rules.proofs.Steps.Cutting.{Cut, cut_all, cut_append}
use Rattle.rules.proofs.Steps.Frame.{Only, Range, only_then, only_wider, StepsWithin, cut_only, head_kept, block_kept}
use Rattle.rules.proofs.Copies.PairCuts.{Two, Pair}
use Rattle.rules.proofs.Pointers.PointerHeader.{header_size, SameHeader}

-- ---- bytes programmed inside a block: the new block goes by the old one alone

anded_at_none : (offset : ℕ) (bs : List ℕ) → anded_at offset bs [] ≡ []
anded_at_none zero bs = refl
anded_at_none (suc offset) bs = refl

drop-anded_at : (c offset : ℕ) (bs img : List ℕ)
    → drop c (anded_at (c + offset) bs img) ≡ anded_at offset bs (drop c img)
drop-anded_at zero offset bs img = rw (zero-add offset)
drop-anded_at (suc c) offset bs [] = rw (suc-add c offset) (sym (anded_at_none offset bs))
drop-anded_at (suc c) offset bs (x ∷ img) = rw (suc-add c offset) (drop-anded_at c offset bs img)

take-anded : (n : ℕ) (bs img : List ℕ) → take n (anded img bs) ≡ anded (take n img) bs
take-anded zero bs img = refl
take-anded (suc n) bs [] = refl
take-anded (suc n) [] (x ∷ img) = refl
take-anded (suc n) (b ∷ bs) (x ∷ img) = ap {B = List ℕ} (λ r. bit_and x b ∷ r) (take-anded n bs img)

take-anded_at : (n offset : ℕ) (bs img : List ℕ) → take n (anded_at offset bs img) ≡ anded_at offset bs (take n img)
take-anded_at n zero bs img = take-anded n bs img
take-anded_at zero (suc offset) bs img = refl
take-anded_at (suc n) (suc offset) bs [] = refl
take-anded_at (suc n) (suc offset) bs (x ∷ img) = ap {B = List ℕ} (λ r. x ∷ r) (take-anded_at n offset bs img)

block_programmed : (g c offset : ℕ) (bs img : List ℕ)
    → block (steps g (programs (c + offset) bs) img) c ≡ anded_at offset bs (block img c)
unfolding block
block_programmed g c offset bs img =
    ap (λ (l : List ℕ). take block_size (drop c l)) (steps-programs g (c + offset) bs img)
    ∙ ap (take block_size) (drop-anded_at c offset bs img)
    ∙ take-anded_at block_size offset bs (drop c img)

-- the same steps on two equal blocks leave equal blocks
abbrev pub GoesByBlock : ℕ → (ℕ → List Step) → Type 0
GoesByBlock g listed = (c d : ℕ) (x y : List ℕ)
    → block x c ≡ block y d
    → block (steps g (listed c) x) c ≡ block (steps g (listed d) y) d

pub into_place_by_block : (g offset : ℕ) (bs : List ℕ) (k : ℕ) → GoesByBlock g (λ c. into_place c offset bs k)
unfolding into_place
into_place_by_block g offset bs k c d x y e =
    block_programmed g c (offset + 8 * k) bs x
    ∙ ap (anded_at (offset + 8 * k) bs) e
    ∙ sym (block_programmed g d (offset + 8 * k) bs y)

pub into_places_by_block : (g offset : ℕ) (bs ks : List ℕ) → GoesByBlock g (λ c. into_places c offset bs ks)
unfolding into_places
into_places_by_block g offset bs [] c d x y e = unfold steps in e
into_places_by_block g offset bs (k ∷ ks) c d x y e =
    rw (
      steps_append g (into_place c offset bs k) (into_places c offset bs ks) x,
      steps_append g (into_place d offset bs k) (into_places d offset bs ks) y,
    )
    (into_places_by_block g offset bs ks c d _ _ (into_place_by_block g offset bs k c d x y e))

-- ---- both copies

-- the bytes of the block at c after its header
abbrev pub AfterHeader : ℕ → ℕ → Type 0
AfterHeader c = Range (c + header_size) (block_size - header_size)

module _ (pair : Pair) (listed : ℕ → List Step)
    (within : (c n : ℕ) → StepsWithin pair.granule n (AfterHeader c) (listed c))
    (by_block : GoesByBlock pair.granule listed) where
  open pair use {granule, a0, a1, holds_block, apart}

  listed_only : (c : ℕ) (x y : List ℕ) → Cut granule (listed c) x y → Only (AfterHeader c) x y
  listed_only c x y d = cut_only granule (AfterHeader c) (listed c) x y (within c (length x)) d

  abbrev in_granule : (c i : ℕ) → AfterHeader c i → Range c granule i
  in_granule c i r = (omega arith, omega arith)

  copy0_kept : (x y : List ℕ) → Only (AfterHeader a1) x y → block y a0 ≡ block x a0
  copy0_kept x y o = block_kept (AfterHeader a1) a0 o (λ i r q. apart i (omega arith) (omega arith))

  copy1_kept : (x y : List ℕ) → Only (AfterHeader a0) x y → block y a1 ≡ block x a1
  copy1_kept x y o = block_kept (AfterHeader a0) a1 o (λ i r q. apart i (omega arith) (omega arith))

  -- the steps on copy 0 cut, from an image in which only copy 1 changed
  abbrev pub Copy0Cut : List ℕ → List ℕ → Type 0
  Copy0Cut img img' =
      (mid : List ℕ)
      × Only (Range a1 granule) img mid
      × (block mid a0 ≡ block img a0)
      × Cut granule (listed a0) mid img'

  pub in_place_cut : (img img' : List ℕ)
      → Cut granule (listed a1 ++ listed a0) img img'
      → Only (Two granule a0 a1) img img'
      × SameHeader (block img a0) (block img' a0)
      × ((block img' a0 ≡ block img a0) ⊎ Copy0Cut img img')
  in_place_cut img img' d = split (cut_append granule (listed a1) (listed a0) img img' d)
    where
      mid : List ℕ
      mid = steps granule (listed a1) img

      split : Cut granule (listed a1) img img' ⊎ Cut granule (listed a0) mid img'
          → Only (Two granule a0 a1) img img'
          × SameHeader (block img a0) (block img' a0)
          × ((block img' a0 ≡ block img a0) ⊎ Copy0Cut img img')
      split (inl e) =
          let o = listed_only a1 img img' e in
          let kept = copy0_kept img img' o in
          (only_wider (λ i r. inr (in_granule a1 i r)) o, ap (take header_size) kept, inl kept)
      split (inr e) =
          let o = listed_only a1 img mid (cut_all granule (listed a1) img) in
          let q = listed_only a0 mid img' e in
          let kept = copy0_kept img mid o in (
            only_then (only_wider (λ i r. inr (in_granule a1 i r)) o) (only_wider (λ i r. inl (in_granule a0 i r)) q),
            head_kept (AfterHeader a0) a0 header_size (omega arith) q (λ i r z. omega arith)
                ∙ ap (take header_size) kept,
            inr (mid, only_wider (in_granule a1) o, kept, e),
          )

  -- all done: copy 0 last, from an image in which only copy 1 changed
  pub copy0_last : (img : List ℕ)
      → (mid : List ℕ)
      × Only (Range a1 granule) img mid
      × (block mid a0 ≡ block img a0)
      × (steps granule (listed a1 ++ listed a0) img ≡ steps granule (listed a0) mid)
  copy0_last img =
      let mid : List ℕ = steps granule (listed a1) img in
      let o = listed_only a1 img mid (cut_all granule (listed a1) img) in
      (mid, only_wider (in_granule a1) o, copy0_kept img mid o, steps_append granule (listed a1) (listed a0) img)

  -- equal copies stay equal
  pub in_place_equal : (img : List ℕ)
      → block img a0 ≡ block img a1
      → block (steps granule (listed a1 ++ listed a0) img) a0 ≡ block (steps granule (listed a1 ++ listed a0) img) a1
  in_place_equal img e =
      let mid : List ℕ = steps granule (listed a1) img in
      let end : List ℕ = steps granule (listed a0) mid in
      let kept0 = copy0_kept img mid (listed_only a1 img mid (cut_all granule (listed a1) img)) in
      let kept1 = copy1_kept mid end (listed_only a0 mid end (cut_all granule (listed a0) mid)) in
      rw (steps_append granule (listed a1) (listed a0) img) (by_block a0 a1 mid img (kept0 ∙ e) ∙ sym kept1)
