-- Entries read from chunks of 32 bytes. Assumes nothing.
use Rattle.std.proofs.Common.{◌≡◌, refl, sym, ap, ◌∙◌, List, ℕ, zero, suc, ◌+◌, ◌≤◌, arith, length, map, take, drop, take-take, take_all, length-drop, ◌-◌, ◌/◌}
use Rattle.std.proofs.lemmas.List.{drop-take, take-map}
use Rattle.std.specs.Simd.{first_chunks}
use native.Mathlib.Nat.{le_of_suc-le-suc, not-suc-le-zero}
use Rattle.rules.specs.Bytes.{field, block_size}
use Rattle.rules.specs.Table.{Entry, entry, entries_from, rows}
use Rattle.walks.specs.Entries.{most_entries}

field_within : (at n rest : ℕ) (bs : List ℕ) → n ≤ rest → field at n (take (at + rest) bs) ≡ field at n bs
unfolding field
field_within at n rest bs h = rw (drop-take at rest bs, take-take n rest (drop at bs) h)

-- an entry needs no more than its 32 bytes
entry_within : (bs : List ℕ) → entry (take 32 bs) ≡ entry bs
unfolding entry
entry_within bs =
    rw (take-take 16 32 bs (omega arith), field_within 16 8 16 bs (omega arith), field_within 24 4 8 bs (omega arith), field_within 28 4 4 bs (omega arith))

pub first_rows : (n k : ℕ) (bs : List ℕ) → n ≤ k → map entry (take n (first_chunks 32 k bs)) ≡ entries_from n bs
unfolding entries_from
first_rows zero k bs h = refl
first_rows (suc n) zero bs h = absurd (not-suc-le-zero h)
first_rows (suc n) (suc k) bs h = rw (entry_within bs, first_rows n k (drop 32 bs) (le_of_suc-le-suc h))

-- of a table: as many entries as there are chunks of 32 bytes behind the header
pub first_of_table : (n : ℕ) (t : List ℕ) → length t ≡ block_size → n ≤ most_entries
    → let bs = take (length t - 32) (drop 32 t) in map entry (take n (first_chunks 32 (length bs / 32) bs)) ≡ rows n t
first_of_table n t whole few =
    let all : take (length t - 32) (drop 32 t) ≡ drop 32 t = take_all (length t - 32) (drop 32 t) (omega (arith, length-drop {A = ℕ})) in
    let long : length (drop 32 t) ≡ 4064 = rw (length-drop, whole) in
    rw (all, long) (first_rows n 127 (drop 32 t) few)

pub first_mapped : {es : List Entry} (n : ℕ) (rows : List (List ℕ)) → map entry rows ≡ es → map entry (take n rows) ≡ take n es
first_mapped {es} n rows e = sym (take-map entry n rows) ∙ ap (take n) e
