-- A field of some bytes and the eight bytes that std reads and writes. Assumes nothing.
use Rattle.std.proofs.Common.{◌≡◌, ℕ, zero, suc, ◌+◌, ◌/◌, ◌%◌, ◌^◌, ◌-◌, ◌<◌, ◌≤◌, List, [], ◌∷◌, ◌++◌, length, take, drop, replicate, refl, ap, ap₂, ◌∙◌, arith}
use Rattle.std.specs.Int.{w64, byte_at, bytes_low_first, to_le_bytes, from_le_bytes}
use Rattle.std.proofs.Math.Nat.{pow-suc}
use Rattle.std.proofs.lemmas.List.{length-append, length-drop, length-take-le, length-replicate, drop-replicate, take_all}
use native.Mathlib.Nat.{div-div-eq-div-mul, div-one, add-sub_cancel_left}
use Rattle.rules.specs.Bytes.{Bytes, little_endian, bytes_of, field}
use Rattle.rules.proofs.Lists.ByteLists.{bytes_drop, bytes_take}
use Rattle.rules.proofs.Lists.Words.{field-number}

-- ---- read

little_endian_bound : (bs : List ℕ) → Bytes bs → little_endian bs < 256 ^ length bs
unfolding little_endian
little_endian_bound [] h = omega arith
little_endian_bound (b ∷ bs) h =
    let below = little_endian_bound bs (λ i. h (suc i)) in
    let first : b < 256 = h 0 in
    rw (pow-suc 256 (length bs)) (omega (arith, below, first))

pub field_bound : (at n : ℕ) (s : List ℕ) → at + n ≤ length s → Bytes s → field at n s < 256 ^ n
unfolding field
field_bound at n s h bytes =
    let e : length (take n (drop at s)) ≡ n = length-take-le n (drop at s) (rw length-drop (omega arith)) in
    rw e at (little_endian_bound (take n (drop at s)) (bytes_take n (drop at s) (bytes_drop at s bytes)))

zeros_after : (bs : List ℕ) (m : ℕ) → little_endian (bs ++ replicate m 0) ≡ little_endian bs
unfolding little_endian
zeros_after [] zero = refl
zeros_after [] (suc m) = let e = zeros_after [] m in omega arith
zeros_after (b ∷ bs) m = rw (zeros_after bs m)

from_eight : (l : List ℕ) → length l ≡ 8 → from_le_bytes w64 l ≡ little_endian l
unfolding field
from_eight l e =
    let f = field-number 0 8 l (omega arith) in
    let all : take 8 l ≡ l = take_all 8 l (omega arith) in
    omega (arith, rw all at f)

-- the field at the front of eight zeros
pub read : (at n : ℕ) (s front : List ℕ)
    → n ≤ 8
    → at + n ≤ length s
    → front ≡ take (at + n - at) (drop at s)
    → from_le_bytes w64 (front ++ drop n (replicate 8 0)) ≡ field at n s
unfolding field
read at n s front few inside e =
    let e2 : front ≡ take n (drop at s) = e ∙ rw (add-sub_cancel_left at n) in
    let long : length front ≡ n = rw e2 (length-take-le n (drop at s) (rw length-drop (omega arith))) in
    rw drop-replicate
    (from_eight (front ++ replicate (8 - n) 0) (rw (length-append, length-replicate, long) (omega arith))
    ∙ zeros_after front (8 - n)
    ∙ ap little_endian e2)

-- ---- written

taken : (i k n x : ℕ) → n ≤ k → take n (bytes_low_first i k x) ≡ bytes_of n (x / 256 ^ i)
unfolding bytes_of
taken i k zero x h = refl
taken i zero (suc n) x h = absurd (omega arith)
taken i (suc k) (suc n) x h =
    let e : x / 256 ^ i / 256 ≡ x / 256 ^ suc i = rw (pow-suc 256 i) (div-div-eq-div-mul x (256 ^ i) 256) in
    rw e (ap₂ (λ (b : ℕ) (bs : List ℕ). b ∷ bs) (lowest i) (taken (suc i) k n x (omega arith)))
  where
    lowest : (i : ℕ) → byte_at i x ≡ x / 256 ^ i % 256
    lowest zero = rw div-one
    lowest (suc i) = refl

-- the front of a number's eight bytes
pub written : (n v : ℕ) → n ≤ 8 → take n (to_le_bytes w64 v) ≡ bytes_of n v
written n v h = rw div-one at (taken 0 8 n v h)
