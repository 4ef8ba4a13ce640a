-- The places of a pointer block in an image, and a pointer programmed into an erased one, cut anywhere. Assumes
-- nothing.
use mathlib.Core.Path.{◌≡◌, refl, sym, ap, ◌∙◌, subst}
use mathlib.Core.Logic.{◌⊎◌, inl, inr}
use mathlib.Core.List.{List, [], ◌∷◌}
use Prim.Native.Nat.{ℕ, ◌+◌, ◌*◌, ◌-◌, ◌≤◌, ◌<◌}
use native.Mathlib.Decide.{dec_lt, ℕ_discrete}
use native.Mathlib.Omega.{arith}
use lib.Bits.{bit_and}
use lib.ListN.{length, get_or, set, take, drop, length-drop, length-set}
use lib.Seq.{get_or-take, get_or-drop, ext_get_or, get_or-set_same, get_or-set_other, length-take-le, take_all}
use Rattle.rules.specs.Bytes.{block, block_size, bytes_of, erased_byte}
use Rattle.rules.specs.Numbers.{longest}
use Rattle.rules.specs.Pointers.{values}
use Rattle.rules.specs.Steps.{steps, programs}
use Rattle.rules.specs.Commands.{into_place}
use Rattle.rules.proofs.Steps.Rewriting.{erased_and}
use Rattle.rules.proofs.Steps.Cutting.{Cut}
use Rattle.rules.proofs.Steps.Frame.{Only, Range, only_wider, block_byte, length-block}
use Rattle.rules.proofs.Steps.ProgramCuts.{programs_cut, programs_byte, programs_only}
use Rattle.rules.proofs.Lists.Words.{number, number_same, field-number, value_at, length-values, length-bytes_of, bytes_of_bytes, number_of_bytes}

-- ---- places, of a block at c with its places from an offset on

abbrev pub place_start : ℕ → ℕ → ℕ → ℕ
place_start c offset k = c + (offset + 8 * k)

-- each number is that of one of so many places
abbrev pub AllBelow : ℕ → List ℕ → Type 0
AllBelow count [] = Unit {0}
AllBelow count (k ∷ ks) = (k < count) × AllBelow count ks

-- the value of a place
abbrev pub value_in : ℕ → ℕ → List ℕ → ℕ → ℕ
value_in c offset img k = number 8 (λ j. get_or img (place_start c offset k + j) 0)

-- the values of all of them
abbrev pub values_in : ℕ → ℕ → ℕ → List ℕ → List ℕ
values_in c offset count img = values count (drop offset (block img c))

pub value_kept : (P : ℕ → Type 0) (c offset : ℕ) (img img' : List ℕ) (k : ℕ)
    → Only P img img'
    → ((i : ℕ) → Range (place_start c offset k) 8 i → P i → ⊥)
    → value_in c offset img' k ≡ value_in c offset img k
value_kept P c offset img img' k o h =
    number_same 8 (λ j. get_or img' (place_start c offset k + j) 0) (λ j. get_or img (place_start c offset k + j) 0)
    (λ j l. o.elsewhere (place_start c offset k + j) (h (place_start c offset k + j) (omega arith, omega arith)))

module _ (c offset count : ℕ) (room : offset + 8 * count ≤ block_size) where
  pub value_read : (img : List ℕ) (k : ℕ)
      → c + block_size ≤ length img
      → k < count
      → get_or (values_in c offset count img) k 0 ≡ value_in c offset img k
  value_read img k h hk =
      let b : List ℕ = block img c in
      let l : length (drop offset b) ≡ block_size - offset =
      length-drop offset b ∙ ap (λ (n : ℕ). n - offset) (length-block img c h) in
      value_at count k (drop offset b) hk
      ∙ field-number (8 * k) 8 (drop offset b) (omega arith)
      ∙ number_same 8 (λ j. get_or (drop offset b) (8 * k + j) 0) (λ j. get_or img (place_start c offset k + j) 0)
      (λ j hj. get_or-drop offset b (8 * k + j) 0
      ∙ block_byte img c (offset + (8 * k + j)) (omega arith)
      ∙ ap (λ (n : ℕ). get_or img n 0) (regrouped j))
    where
      regrouped : (j : ℕ) → c + (offset + (8 * k + j)) ≡ place_start c offset k + j
      regrouped j = omega arith

  pub values_are : (img vs : List ℕ)
      → c + block_size ≤ length img
      → length vs ≡ count
      → ((k : ℕ) → k < count → value_in c offset img k ≡ get_or vs k 0)
      → values_in c offset count img ≡ vs
  values_are img vs h l e =
      ext_get_or 0 (values_in c offset count img) vs (lv ∙ sym l)
      λ k hk. let m : k < count = subst (λ (n : ℕ). k < n) lv hk in
      value_read img k h m ∙ e k m
    where
      lv : length (values_in c offset count img) ≡ count
      lv = length-values count (drop offset (block img c))

  -- ---- eight bytes into a place, some of the first done

  module _ (g : ℕ) (bs : List ℕ) (eight : length bs ≡ 8) where
    abbrev pub part_placed : ℕ → ℕ → List ℕ → List ℕ
    part_placed k n img = steps g (programs (place_start c offset k) (take n bs)) img

    pub into_place_cut : (k : ℕ) (img img' : List ℕ)
        → Cut g (into_place c offset bs k) img img'
        → (n : ℕ) × (n ≤ 8) × (img' ≡ part_placed k n img)
    unfolding into_place
    into_place_cut k img img' d =
        let (n, h, e) = programs_cut g (place_start c offset k) bs img img' d in
        (n, rw eight at h, e)

    pub into_place_done : (k : ℕ) (img : List ℕ) → steps g (into_place c offset bs k) img ≡ part_placed k 8 img
    unfolding into_place
    into_place_done k img =
        ap (λ (l : List ℕ). steps g (programs (place_start c offset k) l) img) (sym (take_all 8 bs (omega arith)))

    part_length : (n : ℕ) → n ≤ 8 → length (take n bs) ≡ n
    part_length n h = length-take-le n bs (omega arith)

    pub part_only : (k n : ℕ) (img : List ℕ) → n ≤ 8 → Only (Range (place_start c offset k) n) img (part_placed k n img)
    part_only k n img h =
        only_wider (λ i r. subst (λ (m : ℕ). Range (place_start c offset k) m i) (part_length n h) r)
        (programs_only g (place_start c offset k) (take n bs) img)

    pub part_byte : (k n : ℕ) (img : List ℕ) (j : ℕ)
        → k < count
        → c + block_size ≤ length img
        → n ≤ 8
        → j < n
        → get_or (part_placed k n img) (place_start c offset k + j) 0
        ≡ bit_and (get_or img (place_start c offset k + j) 0) (get_or bs j 0)
    part_byte k n img j hk hc h hj =
        programs_byte g (place_start c offset k) (take n bs) img j (rw (part_length n h) hj) (omega arith)
        ∙ ap (bit_and (get_or img (place_start c offset k + j) 0)) (get_or-take n bs j 0 hj)

    -- the other places keep their values
    pub one_value_set : (img : List ℕ) (k n v : ℕ)
        → c + block_size ≤ length img
        → k < count
        → n ≤ 8
        → value_in c offset (part_placed k n img) k ≡ v
        → values_in c offset count (part_placed k n img) ≡ set (values_in c offset count img) k v
    one_value_set img k n v hc hk h e =
        values_are (part_placed k n img) (set old k v)
        (rw (part_only k n img h).same_length hc) (length-set old k v ∙ lv)
        λ i hi. at i hi (ℕ_discrete i k)
      where
        old : List ℕ
        old = values_in c offset count img

        lv : length old ≡ count
        lv = length-values count (drop offset (block img c))

        at : (i : ℕ) → i < count → Dec (i ≡ k) → value_in c offset (part_placed k n img) i ≡ get_or (set old k v) i 0
        at i hi (yes q) = rw (q, get_or-set_same old k v 0 (omega (arith, lv))) e
        at i hi (no q) =
            value_kept (Range (place_start c offset k) n) c offset img (part_placed k n img) i (part_only k n img h)
            (λ x r s. q (omega arith))
            ∙ sym (get_or-set_other old k i v 0 q ∙ value_read img i hc hi)

  -- ---- a pointer into an erased place

  module _ (g : ℕ) (img : List ℕ) (hc : c + block_size ≤ length img) (k : ℕ) (hk : k < count)
      (blank : (j : ℕ) → j < 8 → get_or img (place_start c offset k + j) 0 ≡ erased_byte) (a : ℕ) (ha : a < longest) where
    abbrev old : List ℕ
    old = values_in c offset count img

    abbrev placed : ℕ → List ℕ
    placed n = part_placed g (bytes_of 8 a) (length-bytes_of 8 a) k n img

    whole_value : value_in c offset (placed 8) k ≡ a
    whole_value =
        number_same 8 (λ j. get_or (placed 8) (place_start c offset k + j) 0) (λ j. get_or (bytes_of 8 a) j 0)
        (λ j hj. part_byte g (bytes_of 8 a) (length-bytes_of 8 a) k 8 img j hk hc (omega arith) hj
        ∙ ap (λ (b : ℕ). bit_and b (get_or (bytes_of 8 a) j 0)) (blank j hj)
        ∙ erased_and (get_or (bytes_of 8 a) j 0) (bytes_of_bytes 8 a j))
        ∙ number_of_bytes a (omega arith)

    -- until the last byte the value is above every start
    part_value : (n : ℕ) → n < 8 → longest ≤ value_in c offset (placed n) k
    part_value n h =
        let top : get_or (placed n) (place_start c offset k + 7) 0 ≡ erased_byte =
        (part_only g (bytes_of 8 a) (length-bytes_of 8 a) k n img (omega arith)
        ).elsewhere (place_start c offset k + 7) (λ r. omega arith)
        ∙ blank 7 (omega arith) in
        omega arith

    set_to : (n v : ℕ) → n ≤ 8 → value_in c offset (placed n) k ≡ v → values_in c offset count (placed n) ≡ set old k v
    set_to n v h e = one_value_set g (bytes_of 8 a) (length-bytes_of 8 a) img k n v hc hk h e

    pub pointer_placed : values_in c offset count (steps g (into_place c offset (bytes_of 8 a) k) img) ≡ set old k a
    pointer_placed =
        ap (values_in c offset count) (into_place_done g (bytes_of 8 a) (length-bytes_of 8 a) k img)
        ∙ set_to 8 a (omega arith) whole_value

    -- the pointer, or a value above every start
    pub pointer_cut : (img' : List ℕ)
        → Cut g (into_place c offset (bytes_of 8 a) k) img img'
        → (values_in c offset count img' ≡ set old k a)
        ⊎ ((v : ℕ) × (longest ≤ v) × (values_in c offset count img' ≡ set old k v))
    pointer_cut img' d =
        let (n, h, e) = into_place_cut g (bytes_of 8 a) (length-bytes_of 8 a) k img img' d in
        rw e (split n h (dec_lt n 8))
      where
        split : (n : ℕ) → n ≤ 8 → Dec (n < 8)
            → (values_in c offset count (placed n) ≡ set old k a)
            ⊎ ((v : ℕ) × (longest ≤ v) × (values_in c offset count (placed n) ≡ set old k v))
        split n h (yes d) =
            let v : ℕ = value_in c offset (placed n) k in
            inr (v, part_value n d, set_to n v h refl)
        split n h (no d) = let e : n ≡ 8 = omega arith in inl (rw e (set_to 8 a (omega arith) whole_value))
