-- Eight bytes as a number: by index, from a field, and back from the number's bytes. Assumes nothing.
use mathlib.Core.Path.{◌≡◌, refl, sym, ap, ap₂, ◌∙◌}
use mathlib.Core.List.{List}
use Prim.Native.Nat.{ℕ, zero, suc, ◌+◌, ◌*◌, ◌/◌, ◌≤◌, ◌<◌}
use native.Mathlib.Nat.{le_of_suc-le-suc, not-suc-le-zero, add-zero}
use native.Mathlib.Omega.{arith}
use lib.ListN.{length, get_or, drop}
use lib.Seq.{drop-drop, drop-cons}
use Rattle.rules.specs.Bytes.{Bytes, little_endian, bytes_of, field, erased_byte}
use Rattle.rules.specs.Pointers.{values, erased_value}

-- ---- n bytes, told by index

-- the number that they hold, lowest first
abbrev pub number : ℕ → (ℕ → ℕ) → ℕ
number zero f = 0
number (suc n) f = f 0 + 256 * number n (λ j. f (suc j))

pub number_same : (n : ℕ) (f h : ℕ → ℕ) → ((j : ℕ) → j < n → f j ≡ h j) → number n f ≡ number n h
number_same zero f h e = refl
number_same (suc n) f h e =
    ap₂ (λ (x y : ℕ). x + 256 * y) (e 0 (omega arith))
    (number_same n (λ j. f (suc j)) (λ j. h (suc j)) (λ j l. e (suc j) (omega arith)))

-- what holds at each of eight indices holds at every index below 8
pub at_eight : (P : ℕ → Type 0) → P 0 → P 1 → P 2 → P 3 → P 4 → P 5 → P 6 → P 7 → (j : ℕ) → j < 8 → P j
at_eight P p0 p1 p2 p3 p4 p5 p6 p7 zero h = p0
at_eight P p0 p1 p2 p3 p4 p5 p6 p7 (suc zero) h = p1
at_eight P p0 p1 p2 p3 p4 p5 p6 p7 (suc (suc zero)) h = p2
at_eight P p0 p1 p2 p3 p4 p5 p6 p7 (suc (suc (suc zero))) h = p3
at_eight P p0 p1 p2 p3 p4 p5 p6 p7 (suc (suc (suc (suc zero)))) h = p4
at_eight P p0 p1 p2 p3 p4 p5 p6 p7 (suc (suc (suc (suc (suc zero))))) h = p5
at_eight P p0 p1 p2 p3 p4 p5 p6 p7 (suc (suc (suc (suc (suc (suc zero)))))) h = p6
at_eight P p0 p1 p2 p3 p4 p5 p6 p7 (suc (suc (suc (suc (suc (suc (suc zero))))))) h = p7
at_eight P p0 p1 p2 p3 p4 p5 p6 p7 (suc (suc (suc (suc (suc (suc (suc (suc j)))))))) h = absurd (omega arith)

-- where all bits are ones, each byte is erased
pub all_ones_bytes : (f : ℕ → ℕ)
    → ((j : ℕ) → f j < 256)
    → number 8 f ≡ erased_value
    → (j : ℕ)
    → j < 8
    → f j ≡ erased_byte
all_ones_bytes f h e =
    let h0 = h 0 in
    let h1 = h 1 in
    let h2 = h 2 in
    let h3 = h 3 in
    let h4 = h 4 in
    let h5 = h 5 in
    let h6 = h 6 in
    let h7 = h 7 in
    at_eight (λ j. f j ≡ erased_byte)
    (omega arith) (omega arith) (omega arith) (omega arith) (omega arith) (omega arith) (omega arith) (omega arith)

-- ---- fields and values

pub field-number : (offset n : ℕ) (b : List ℕ)
    → offset + n ≤ length b
    → field offset n b ≡ number n (λ j. get_or b (offset + j) 0)
unfolding field little_endian
field-number offset zero b h = refl
field-number offset (suc n) b h =
    rw (drop-cons b offset 0 (omega arith))
    (ap₂ (λ (x y : ℕ). get_or b x 0 + 256 * y) (sym (add-zero offset))
    (field-number (suc offset) n b (omega arith)
    ∙ number_same n (λ j. get_or b (suc offset + j) 0) (λ j. get_or b (offset + suc j) 0)
    (λ j l. ap (λ (i : ℕ). get_or b i 0) (one_up j))))
  where
    one_up : (j : ℕ) → suc offset + j ≡ offset + suc j
    one_up j = omega arith

pub value_at : (n i : ℕ) (bs : List ℕ) → i < n → get_or (values n bs) i 0 ≡ field (8 * i) 8 bs
unfolding values field
value_at zero i bs h = absurd (not-suc-le-zero h)
value_at (suc n) zero bs h = refl
value_at (suc n) (suc i) bs h =
    let e : 8 + 8 * i ≡ 8 * suc i = omega arith in
    value_at n i (drop 8 bs) (le_of_suc-le-suc h) ∙ rw (drop-drop, e)

pub length-values : (n : ℕ) (bs : List ℕ) → length (values n bs) ≡ n
unfolding values
length-values zero bs = refl
length-values (suc n) bs = ap suc (length-values n (drop 8 bs))

-- ---- the bytes of a number

pub length-bytes_of : (n v : ℕ) → length (bytes_of n v) ≡ n
unfolding bytes_of
length-bytes_of zero v = refl
length-bytes_of (suc n) v = ap suc (length-bytes_of n (v / 256))

pub bytes_of_bytes : (n v : ℕ) → Bytes (bytes_of n v)
unfolding bytes_of
bytes_of_bytes zero v i = omega arith
bytes_of_bytes (suc n) v zero = omega arith
bytes_of_bytes (suc n) v (suc i) = bytes_of_bytes n (v / 256) i

pub bytes_of_zero : (n j : ℕ) → get_or (bytes_of n 0) j 0 ≡ 0
unfolding bytes_of
bytes_of_zero zero j = refl
bytes_of_zero (suc n) zero = refl
bytes_of_zero (suc n) (suc j) = bytes_of_zero n j

pub number_of_bytes : (v : ℕ) → v < 0x10000000000000000 → number 8 (λ j. get_or (bytes_of 8 v) j 0) ≡ v
unfolding bytes_of
number_of_bytes v h = omega arith

pub little_endian_of_bytes : (v : ℕ) → v < 0x10000000000000000 → little_endian (bytes_of 8 v) ≡ v
unfolding little_endian bytes_of
little_endian_of_bytes v h = number_of_bytes v h
