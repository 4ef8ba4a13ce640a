-- Lists of bytes put together from others, and fields that lie in the front of a block. Assumes nothing.
use mathlib.Core.Path.{◌≡◌, sym, ap, ◌∙◌}
use mathlib.Core.Bool.{true}
use mathlib.Core.List.{List, [], ◌∷◌, ◌++◌}
use Prim.Native.Nat.{ℕ, zero, suc, ◌+◌, ◌≤◌, ◌<◌}
use native.Mathlib.Omega.{arith}
use lib.Dec.{ltb}
use borrow.Author.Tests.{ltb-true}
use lib.ListN.{take, drop, replicate, length-take, length-drop}
use lib.Seq.{get_or-take, get_or-drop, ext_get_or}
use Rattle.rules.specs.Lists.{all}
use Rattle.rules.specs.Bytes.{Bytes, little_endian, field}
use Rattle.rules.proofs.Lists.Tests.{and_true}

pub bytes_append : (x y : List ℕ) → Bytes x → Bytes y → Bytes (x ++ y)
bytes_append [] y hx hy i = hy i
bytes_append (b ∷ x) y hx hy zero = hx 0
bytes_append (b ∷ x) y hx hy (suc i) = bytes_append x y (λ j. hx (suc j)) hy i

pub bytes_take : (n : ℕ) (x : List ℕ) → Bytes x → Bytes (take n x)
bytes_take zero x h i = omega arith
bytes_take (suc n) [] h i = omega arith
bytes_take (suc n) (b ∷ x) h zero = h 0
bytes_take (suc n) (b ∷ x) h (suc i) = bytes_take n x (λ j. h (suc j)) i

pub bytes_drop : (n : ℕ) (x : List ℕ) → Bytes x → Bytes (drop n x)
bytes_drop n x h i = rw (get_or-drop n x i 0) (h (n + i))

pub bytes_replicate : (n b : ℕ) → b < 256 → Bytes (replicate n b)
bytes_replicate zero b h i = omega arith
bytes_replicate (suc n) b h zero = h
bytes_replicate (suc n) b h (suc i) = bytes_replicate n b h i

-- by a test that is computed
pub bytes_by_test : (bs : List ℕ) → all (λ b. ltb b 256) bs ≡ true → Bytes bs
unfolding all
bytes_by_test [] h i = omega arith
bytes_by_test (b ∷ bs) h zero = ltb-true b 256 (and_true (ltb b 256) (all (λ c. ltb c 256) bs) h).0
bytes_by_test (b ∷ bs) h (suc i) = bytes_by_test bs (and_true (ltb b 256) (all (λ c. ltb c 256) bs) h).1 i

-- a field inside the first m bytes goes by them alone
pub field_by_front : (m offset n : ℕ) (x y : List ℕ)
    → offset + n ≤ m
    → take m y ≡ take m x
    → field offset n y ≡ field offset n x
unfolding field
field_by_front m offset n x y h e =
    ap little_endian (inside y ∙ ap (λ (l : List ℕ). take n (drop offset l)) e ∙ sym (inside x))
  where
    inside : (z : List ℕ) → take n (drop offset z) ≡ take n (drop offset (take m z))
    inside z =
        ext_get_or 0 (take n (drop offset z)) (take n (drop offset (take m z)))
        (simp (length-take, length-drop) (omega arith))
        λ i l. let k : i < n = omega (arith, simp length-take at l) in
        get_or-take n (drop offset z) i 0 k ∙ get_or-drop offset z i 0
        ∙ sym (get_or-take n (drop offset (take m z)) i 0 k ∙ get_or-drop offset (take m z) i 0
        ∙ get_or-take m z (offset + i) 0 (omega arith))
