-- How long rows are, and that a table with a row more or a row less is as long as before. Assumes nothing.
use mathlib.Core.Path.{◌≡◌}
use mathlib.Core.List.{List, ◌++◌}
use Prim.Native.Nat.{ℕ, suc, ◌+◌, ◌*◌, ◌-◌, ◌≤◌, ◌<◌}
use native.Mathlib.Omega.{arith}
use lib.ListN.{length, take, drop, replicate, length-append, length-drop, length-replicate}
use lib.Seq.{length-take-le}
use Rattle.rules.specs.Bytes.{bytes_of, block_size}
use Rattle.rules.specs.Table.{entry_count}
use Rattle.rules.specs.Commands.{padded_name, with_rows, row_bytes, new_row, with_new_row, without_row}
use Rattle.rules.proofs.Lists.Words.{length-bytes_of}
use Rattle.rules.proofs.Table.PutName.{length_padded}

-- rows of a table that lie inside it
pub length_rows : (i n : ℕ) (t : List ℕ) → 0x20 + 32 * i + 32 * n ≤ length t → length (row_bytes i n t) ≡ 32 * n
unfolding row_bytes
length_rows i n t inside =
    length-take-le (32 * n) (drop (0x20 + 32 * i) t) (rw (length-drop (0x20 + 32 * i) t) (omega arith))

pub length-new_row : (n : List ℕ) (start size : ℕ) → length n ≤ 15 → length (new_row n start size) ≡ 32
unfolding new_row
length-new_row n start size short =
    rw (
      length-append (padded_name n) (bytes_of 8 start ++ (bytes_of 4 size ++ bytes_of 4 0)),
      length-append (bytes_of 8 start) (bytes_of 4 size ++ bytes_of 4 0),
      length-append (bytes_of 4 size) (bytes_of 4 0),
      length_padded n short,
      length-bytes_of 8 start,
      length-bytes_of 4 size,
      length-bytes_of 4 0,
    )

-- ---- a table

module _ (t : List ℕ) (whole : length t ≡ block_size) where
  -- its header, another count and other rows
  pub length-with_rows : (n : ℕ) (bs : List ℕ) → 0x20 + length bs ≡ block_size → length (with_rows t n bs) ≡ block_size
  unfolding with_rows
  length-with_rows n bs fits =
      rw (
        length-append (take 8 t) (bytes_of 4 n ++ (take 20 (drop 12 t) ++ bs)),
        length-append (bytes_of 4 n) (take 20 (drop 12 t) ++ bs),
        length-append (take 20 (drop 12 t)) bs,
        length-take-le 8 t (omega arith),
        length-bytes_of 4 n,
        length-take-le 20 (drop 12 t) (rw (length-drop 12 t) (omega arith)),
      )
      (omega arith)

  -- with a row more
  module _ (n : List ℕ) (start size : ℕ) (room : entry_count t < 127) (short : length n ≤ 15) where
    abbrev pub rows_with_new : List ℕ
    rows_with_new =
        row_bytes 0 (entry_count t) t ++ (new_row n start size ++ drop (0x20 + 32 * suc (entry_count t)) t)

    pub length-rows_with_new : 0x20 + length rows_with_new ≡ block_size
    length-rows_with_new =
        let rest = drop (0x20 + 32 * suc (entry_count t)) t in
        rw (
          length-append (row_bytes 0 (entry_count t) t) (new_row n start size ++ rest),
          length-append (new_row n start size) rest,
          length_rows 0 (entry_count t) t (omega arith),
          length-new_row n start size short,
          length-drop (0x20 + 32 * suc (entry_count t)) t,
        )
        (omega arith)

    pub length-with_new_row : length (with_new_row t n start size) ≡ block_size
    unfolding with_new_row
    length-with_new_row = length-with_rows (suc (entry_count t)) rows_with_new length-rows_with_new

  -- with a row less
  module _ (row : ℕ) (few : entry_count t ≤ 127) (there : row < entry_count t) where
    abbrev pub rows_closed_up : List ℕ
    rows_closed_up =
        row_bytes 0 row t
        ++ (row_bytes (suc row) (entry_count t - suc row) t ++ replicate (32 * (128 - entry_count t)) 0)

    pub length-rows_closed_up : 0x20 + length rows_closed_up ≡ block_size
    length-rows_closed_up =
        let later = row_bytes (suc row) (entry_count t - suc row) t in
        let zeros = replicate {A = ℕ} (32 * (128 - entry_count t)) 0 in
        rw (
          length-append (row_bytes 0 row t) (later ++ zeros),
          length-append later zeros,
          length_rows 0 row t (omega arith),
          length_rows (suc row) (entry_count t - suc row) t (omega arith),
          length-replicate {A = ℕ} (32 * (128 - entry_count t)) 0,
        )
        (omega arith)

    pub length-without_row : length (without_row t row) ≡ block_size
    unfolding without_row
    length-without_row = length-with_rows (entry_count t - 1) rows_closed_up length-rows_closed_up
