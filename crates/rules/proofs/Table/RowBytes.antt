-- The entries of a table with another count and other rows, by the bytes of those rows. Assumes nothing.
use mathlib.Core.Path.{◌≡◌, refl, sym, ap, ap₂, ◌∙◌}
use mathlib.Core.List.{List, [], ◌∷◌, ◌++◌}
use Prim.Native.Nat.{ℕ, zero, suc, ◌+◌, ◌*◌, ◌≤◌, ◌<◌}
use native.Mathlib.Omega.{arith}
use lib.ListN.{length, take, drop, length-append, length-drop}
use lib.Seq.{take_at, drop_at, take-append-le, length-take-le, drop-drop, take-add}
use Rattle.rules.specs.Bytes.{Bytes, little_endian, bytes_of, field, block_size}
use Rattle.rules.specs.Table.{Entry, entry, entries_from, entry_count, entries, magic_right, header_right}
use Rattle.rules.specs.Commands.{padded_name, with_rows, new_range, new_row}
use Rattle.rules.proofs.Lists.ByteLists.{bytes_append, bytes_take, bytes_drop, field_by_front}
use Rattle.rules.proofs.Lists.Words.{length-bytes_of, bytes_of_bytes, little_endian_of_bytes}
use Rattle.rules.proofs.Table.PutName.{with_name, entry_by_front, length_padded}
use Rattle.rules.proofs.Table.RowLengths.{length-new_row}

-- ---- fields behind other bytes

field_behind : (x y : List ℕ) (m k n : ℕ) → length x ≡ m → field (m + k) n (x ++ y) ≡ field k n y
unfolding field
field_behind x y m k n l =
    ap (λ (z : List ℕ). little_endian (take n z)) (sym (drop-drop k m (x ++ y)) ∙ ap (drop k) (drop_at x y m l))

field_at_front : (x y : List ℕ) (n : ℕ) → length x ≡ n → field 0 n (x ++ y) ≡ little_endian x
unfolding field
field_at_front x y n l = ap little_endian (take_at x y n l)

four_bytes : (v : ℕ) → v < 0x100000000 → little_endian (bytes_of 4 v) ≡ v
unfolding little_endian bytes_of
four_bytes v h = omega arith

-- ---- entries, by the bytes from the first one on

pub entries_split : (n m : ℕ) (bs : List ℕ)
    → entries_from (n + m) bs ≡ entries_from n bs ++ entries_from m (drop (32 * n) bs)
unfolding entries_from
entries_split zero m bs = ap (λ (k : ℕ). entries_from k bs) none_more
  where
    none_more : 0 + m ≡ m
    none_more = omega arith
entries_split (suc n) m bs =
    ap (λ (k : ℕ). entries_from k bs) one_more
    ∙ ap {B = List Entry} (λ es. entry bs ∷ es)
    (entries_split n m (drop 32 bs)
    ∙ ap (λ (x : List ℕ). entries_from n (drop 32 bs) ++ entries_from m x)
    (drop-drop (32 * n) 32 bs ∙ ap (λ (k : ℕ). drop k bs) next))
  where
    one_more : suc n + m ≡ suc (n + m)
    one_more = omega arith

    next : 32 + 32 * n ≡ 32 * suc n
    next = omega arith

-- the entries go by the bytes of their rows alone
entries_by_front : (n : ℕ) (x y : List ℕ)
    → 32 * n ≤ length x
    → 32 * n ≤ length y
    → take (32 * n) y ≡ take (32 * n) x
    → entries_from n y ≡ entries_from n x
unfolding entries_from
entries_by_front zero x y lx ly e = refl
entries_by_front (suc n) x y lx ly e =
    let whole : take 32 y ++ take (32 * n) (drop 32 y) ≡ take 32 x ++ take (32 * n) (drop 32 x) =
    sym (take-add 32 (32 * n) y) ∙ ap (λ (k : ℕ). take k y) next ∙ e ∙ sym (ap (λ (k : ℕ). take k x) next)
    ∙ take-add 32 (32 * n) x in
    let fx : length (take 32 x) ≡ 32 = length-take-le 32 x (omega arith) in
    let fy : length (take 32 y) ≡ 32 = length-take-le 32 y (omega arith) in
    let front : take 32 y ≡ take 32 x =
    sym (take_at (take 32 y) _ 32 fy) ∙ ap (take 32) whole ∙ take_at (take 32 x) _ 32 fx in
    let rest : take (32 * n) (drop 32 y) ≡ take (32 * n) (drop 32 x) =
    sym (drop_at (take 32 y) _ 32 fy) ∙ ap (drop 32) whole ∙ drop_at (take 32 x) _ 32 fx in
    ap₂ {C = List Entry} (λ u v. u ∷ v) (entry_by_front x y front)
    (entries_by_front n (drop 32 x) (drop 32 y)
    (rw (length-drop 32 x) (omega arith)) (rw (length-drop 32 y) (omega arith)) rest)
  where
    next : 32 + 32 * n ≡ 32 * suc n
    next = omega arith

-- rows in front of other bytes
pub entries_in_front : (n : ℕ) (bs y : List ℕ)
    → 32 * n ≤ length bs
    → entries_from n (take (32 * n) bs ++ y) ≡ entries_from n bs
entries_in_front n bs y l =
    let front : length (take (32 * n) bs) ≡ 32 * n = length-take-le (32 * n) bs l in
    entries_by_front n bs (take (32 * n) bs ++ y) l (rw (length-append (take (32 * n) bs) y, front) (omega arith))
    (take_at (take (32 * n) bs) y (32 * n) front)

-- ---- the row of a new slot

module _ (n : List ℕ) (start size : ℕ) (short : length n ≤ 15) (low : start < 0x10000000000000000)
    (small : size < 0x100000000) where
  abbrev fields : List ℕ
  fields = bytes_of 8 start ++ (bytes_of 4 size ++ bytes_of 4 0)

  new_row-entry : entry (new_row n start size) ≡ with_name n (new_range start size)
  unfolding entry new_row new_range
  new_row-entry = λ i. record {
    name_field = take_at (padded_name n) fields 16 (length_padded n short) i;
    start = (behind_name 0 8
        ∙ field_at_front (bytes_of 8 start) _ 8 (length-bytes_of 8 start) ∙ little_endian_of_bytes start low) i;
    size = (behind_name 8 4 ∙ behind_start 0 4
        ∙ field_at_front (bytes_of 4 size) _ 4 (length-bytes_of 4 size) ∙ four_bytes size small) i;
    flags = (behind_name 12 4 ∙ behind_start 4 4
        ∙ field_behind (bytes_of 4 size) (bytes_of 4 0) 4 0 4 (length-bytes_of 4 size)
        ∙ zero_flags) i;
  }
    where
      behind_name : (k m : ℕ) → field (16 + k) m (padded_name n ++ fields) ≡ field k m fields
      behind_name k m = field_behind (padded_name n) fields 16 k m (length_padded n short)

      behind_start : (k m : ℕ) → field (8 + k) m fields ≡ field k m (bytes_of 4 size ++ bytes_of 4 0)
      behind_start k m = field_behind (bytes_of 8 start) _ 8 k m (length-bytes_of 8 start)

      zero_flags : field 0 4 (bytes_of 4 0) ≡ 0
      zero_flags = unfold field little_endian bytes_of in refl

  pub new_row_first : (y : List ℕ) → entries_from 1 (new_row n start size ++ y) ≡ with_name n (new_range start size) ∷ []
  unfolding entries_from
  new_row_first y =
      ap {B = List Entry} (λ e. e ∷ [])
      (entry_by_front (new_row n start size) (new_row n start size ++ y)
      (take-append-le 32 (new_row n start size) y (rw (length-new_row n start size short) (omega arith)))
      ∙ new_row-entry)

-- ---- the table

module _ (t bs : List ℕ) (count : ℕ) (whole : length t ≡ block_size) (small : count < 0x100000000)
    (fits : 0x20 + length bs ≡ block_size) where
  abbrev b : List ℕ
  b = with_rows t count bs

  abbrev reserved : List ℕ
  reserved = take 20 (drop 12 t)

  front_length : length (take 8 t) ≡ 8
  front_length = length-take-le 8 t (omega arith)

  reserved-length : length reserved ≡ 20
  reserved-length = length-take-le 20 (drop 12 t) (rw (length-drop 12 t) (omega arith))

  pub rows_bytes : Bytes t → Bytes bs → Bytes (with_rows t count bs)
  unfolding with_rows
  rows_bytes ht hb =
      bytes_append (take 8 t) (bytes_of 4 count ++ (reserved ++ bs)) (bytes_take 8 t ht)
      (bytes_append (bytes_of 4 count) (reserved ++ bs) (bytes_of_bytes 4 count)
      (bytes_append reserved bs (bytes_take 20 (drop 12 t) (bytes_drop 12 t ht)) hb))

  pub rows_header : header_right (with_rows t count bs) ≡ header_right t
  unfolding header_right magic_right
  rows_header =
      let front : take 8 b ≡ take 8 t = unfold with_rows in take_at (take 8 t) _ 8 front_length in
      rw (field_by_front 8 0 4 t b (omega arith) front, field_by_front 8 4 4 t b (omega arith) front)

  pub rows_count : entry_count (with_rows t count bs) ≡ count
  unfolding entry_count with_rows
  rows_count =
      field_behind (take 8 t) _ 8 0 4 front_length
      ∙ field_at_front (bytes_of 4 count) _ 4 (length-bytes_of 4 count) ∙ four_bytes count small

  behind : drop 0x20 b ≡ bs
  unfolding with_rows
  behind =
      sym (drop-drop 20 12 b) ∙ ap (drop 20) (sym (drop-drop 4 8 b)
      ∙ ap (drop 4) (drop_at (take 8 t) _ 8 front_length) ∙ drop_at (bytes_of 4 count) _ 4 (length-bytes_of 4 count))
      ∙ drop_at reserved bs 20 reserved-length

  pub rows_entries : entries (with_rows t count bs) ≡ entries_from count bs
  unfolding entries
  rows_entries = ap₂ entries_from rows_count behind
