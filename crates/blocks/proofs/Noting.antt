-- The bytes of place numbers, two bytes for each, and the numbers read back. Assumes nothing.
use mathlib.Core.Path.{◌≡◌, refl, ap₂, ◌∙◌}
use mathlib.Core.List.{List, [], ◌∷◌, ◌++◌}
use Prim.Native.Nat.{ℕ, ◌*◌, ◌-◌, ◌≤◌, ◌<◌}
use native.Mathlib.Omega.{arith}
use lib.ListN.{length, replicate, length-append, length-replicate}
use Rattle.rules.specs.Bytes.{little_endian, bytes_of, field}
use Rattle.rules.proofs.Lists.Words.{length-bytes_of}
use Rattle.jobs.specs.Jobs.{place_room, numbers_from}
use Rattle.blocks.specs.Made.{number_bytes, place_list}

-- ---- how many

pub length-number_bytes : (ks : List ℕ) → length (number_bytes ks) ≡ 2 * length ks
unfolding number_bytes
length-number_bytes [] = refl
length-number_bytes (k ∷ ks) =
    length-append (bytes_of 2 k) (number_bytes ks)
    ∙ omega (arith, length-bytes_of 2 k, length-number_bytes ks)

-- the room of the numbers
pub length_noted : (ks : List ℕ) → length ks ≤ place_room → length (place_list ks).places ≡ 2 * place_room
unfolding place_list
length_noted ks h =
    length-append (number_bytes ks) (replicate (2 * (place_room - length ks)) 0)
    ∙ omega (arith, length-number_bytes ks, length-replicate {A = ℕ} (2 * (place_room - length ks)) 0)

-- ---- read back

-- every number of a list is below a bound
abbrev pub Below : ℕ → List ℕ → Type 0
Below bound [] = Unit {0}
Below bound (k ∷ ks) = (k < bound) × Below bound ks

numbers_back : (ks rest : List ℕ) → Below place_room ks → numbers_from (length ks) (number_bytes ks ++ rest) ≡ ks
unfolding numbers_from number_bytes bytes_of field little_endian
numbers_back [] rest h = refl
numbers_back (k ∷ ks) rest (h, hs) =
    ap₂ {C = List ℕ} (λ j js. j ∷ js) (omega arith) (numbers_back ks rest hs)

pub noted_back : (ks : List ℕ) → Below place_room ks → numbers_from (length ks) (place_list ks).places ≡ ks
unfolding place_list
noted_back ks h = numbers_back ks (replicate (2 * (place_room - length ks)) 0) h
