-- A number's bytes hold the number, and a field is read where they stand. Assumes nothing.
use mathlib.Core.Path.{◌≡◌, sym, ◌∙◌}
use mathlib.Core.List.{List, ◌++◌}
use Prim.Native.Nat.{ℕ, zero, suc, ◌+◌, ◌/◌, ◌^◌, ◌<◌}
use native.Mathlib.Nat.{pow-suc, pow-zero}
use native.Mathlib.Omega.{arith}
use lib.ListN.{length, drop, length-append}
use lib.Seq.{take_at, drop_at, drop-drop}
use Rattle.rules.specs.Bytes.{little_endian, bytes_of, field}
use Rattle.rules.proofs.Lists.Words.{length-bytes_of}
use Rattle.job_parts.specs.declared.Plan.{Plan}
use Rattle.job_bytes.specs.Form.{sizes_encoded, addresses_encoded, kinds_encoded, numbers_encoded}

pub number_of_bytes : (n v : ℕ) → v < 256 ^ n → little_endian (bytes_of n v) ≡ v
unfolding little_endian bytes_of
number_of_bytes zero v h = omega (arith, pow-zero 256)
number_of_bytes (suc n) v h =
    let rest = number_of_bytes n (v / 256) (omega (arith, pow-suc 256 n)) in
    omega (arith, rest)

module _ (bs : List ℕ) (k : ℕ) where
  -- a field of n bytes is the number whose n bytes stand there
  pub field_read : (n v : ℕ) (rest : List ℕ) → drop k bs ≡ bytes_of n v ++ rest → v < 256 ^ n → field k n bs ≡ v
  unfolding field
  field_read n v rest e h =
      rw (e, take_at (bytes_of n v) rest n (length-bytes_of n v)) (number_of_bytes n v h)

  -- what stands behind some bytes
  pub behind : (n : ℕ) (xs rest : List ℕ) → drop k bs ≡ xs ++ rest → length xs ≡ n → drop (k + n) bs ≡ rest
  behind n xs rest e h = sym (drop-drop n k bs) ∙ rw e (drop_at xs rest n h)

-- ---- how many bytes the numbers of a job take

module _ (p : Plan) where
  pub length_sizes : (done : ℕ) → length (sizes_encoded p done) ≡ 32
  unfolding sizes_encoded
  length_sizes done = simp (length-append, length-bytes_of)

  pub length_addresses : length (addresses_encoded p) ≡ 12
  unfolding addresses_encoded
  length_addresses = simp (length-append, length-bytes_of)

  length_kinds : length (kinds_encoded p) ≡ 4
  unfolding kinds_encoded
  length_kinds = simp (length-append, length-bytes_of)

  pub length_numbers : (done : ℕ) → length (numbers_encoded p done) ≡ 48
  unfolding numbers_encoded
  length_numbers done = simp (length-append, length_sizes, length_addresses, length_kinds)
