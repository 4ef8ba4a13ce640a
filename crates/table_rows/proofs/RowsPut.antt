-- Bytes put into a copy of a table, as a row more or a row less. Assumes nothing.
use mathlib.Core.Path.{◌≡◌, refl, sym, ap, ap₂, ◌∙◌}
use mathlib.Core.List.{List, [], ◌++◌, append_assoc}
use Prim.Native.Nat.{ℕ, suc, ◌+◌, ◌*◌, ◌-◌, ◌/◌, ◌≤◌, ◌<◌}
use native.Mathlib.Omega.{arith}
use lib.ListN.{length, take, drop, replicate, length-append, length-drop, length-replicate, take-append-drop, replicate-append-replicate}
use lib.Seq.{take_at, drop_at, drop-drop, drop-append-add, length-take-le, take-add}
use Rattle.rules.specs.Bytes.{bytes_of, block_size}
use Rattle.rules.specs.Table.{entry_count}
use Rattle.rules.specs.Commands.{padded_name, put_name, with_rows, row_bytes, new_row, with_new_row, without_row}
use Rattle.rules.specs.Final.{put_at}
use Rattle.rules.proofs.Lists.Words.{length-bytes_of}

-- bytes put in the place of as many others
put_in : (x y z w : List ℕ) (at : ℕ)
    → length x ≡ at
    → length y ≡ length w
    → put_at at w (x ++ (y ++ z)) ≡ x ++ (w ++ z)
unfolding put_at
put_in x y z w at lx ly =
    let after : drop (at + length w) (x ++ (y ++ z)) ≡ z =
    rw (← lx, drop-append-add x (y ++ z) (length w)) (drop_at y z (length w) ly) in
    rw (take_at x (y ++ z) at lx, after)

-- the header in three parts: eight bytes, the count, twenty bytes
header_parts : (t : List ℕ) → take 0x20 t ≡ take 8 t ++ (take 4 (drop 8 t) ++ take 20 (drop 12 t))
header_parts t =
    take-add 8 24 t
    ∙ ap (λ (x : List ℕ). take 8 t ++ x)
    (take-add 4 20 (drop 8 t) ∙ ap (λ (x : List ℕ). take 4 (drop 8 t) ++ take 20 x) (drop-drop 4 8 t))

-- the count put into a table whose header is that of t
count_put : (t rows : List ℕ) (n : ℕ)
    → length t ≡ block_size
    → put_at 8 (bytes_of 4 n) (take 0x20 t ++ rows) ≡ with_rows t n rows
unfolding with_rows
count_put t rows n whole =
    rw (
      header_parts t,
      append_assoc (take 8 t) (take 4 (drop 8 t) ++ take 20 (drop 12 t)) rows,
      append_assoc (take 4 (drop 8 t)) (take 20 (drop 12 t)) rows,
    )
    (put_in (take 8 t) (take 4 (drop 8 t)) (take 20 (drop 12 t) ++ rows) (bytes_of 4 n) 8
    (length-take-le 8 t (omega arith))
    (length-take-le 4 (drop 8 t) (rw (length-drop 8 t) (omega arith)) ∙ sym (length-bytes_of 4 n)))

-- the header and the first n rows
front_rows : (t : List ℕ) (n : ℕ) → take (0x20 + 32 * n) t ≡ take 0x20 t ++ row_bytes 0 n t
unfolding row_bytes
front_rows t n = take-add 0x20 (32 * n) t

-- ---- a row more

pub padded_length : (n : List ℕ) → length n ≤ 16 → length (padded_name n) ≡ 16
unfolding padded_name
padded_length n l =
    rw (length-append n (replicate (16 - length n) 0), length-replicate {A = ℕ} (16 - length n) 0) (omega arith)

module _ (t n : List ℕ) (count start size at : ℕ) (whole : length t ≡ block_size) (counted : count ≡ entry_count t)
    (few : count < 127) (short : length (padded_name n) ≡ 16) (small : size < 0x100000000)
    (there : at ≡ 0x20 + 32 * count) where
  abbrev front : List ℕ
  front = take at t

  abbrev rest : List ℕ
  rest = drop (at + 32) t

  -- sixteen bytes behind the name, in two parts
  behind_name : drop (at + 16) t ≡ take 8 (drop (at + 16) t) ++ (take 8 (drop (at + 24) t) ++ rest)
  behind_name =
      sym (take-append-drop 8 (drop (at + 16) t))
      ∙ ap (λ (x : List ℕ). take 8 (drop (at + 16) t) ++ x)
      (drop-drop 8 (at + 16) t ∙ ap (λ (k : ℕ). drop k t) (plus_eight 16)
      ∙ sym (take-append-drop 8 (drop (at + 24) t))
      ∙ ap (λ (x : List ℕ). take 8 (drop (at + 24) t) ++ x)
      (drop-drop 8 (at + 24) t ∙ ap (λ (k : ℕ). drop k t) (plus_eight 24)))
    where
      plus_eight : (k : ℕ) → at + k + 8 ≡ at + (k + 8)
      plus_eight k = omega arith

  front_length : length front ≡ at
  front_length = length-take-le at t (omega arith)

  eight_at : (k : ℕ) → k + 8 ≤ 32 → (v : ℕ) → length (take 8 (drop (at + k) t)) ≡ length (bytes_of 8 v)
  eight_at k l v =
      length-take-le 8 (drop (at + k) t) (rw (length-drop (at + k) t) (omega arith)) ∙ sym (length-bytes_of 8 v)

  named : put_name t count n ≡ front ++ (padded_name n ++ (take 8 (drop (at + 16) t) ++ (take 8 (drop (at + 24) t) ++ rest)))
  unfolding put_name
  named = rw (← there) (ap (λ (x : List ℕ). front ++ (padded_name n ++ x)) behind_name)

  with_start : put_at (at + 16) (bytes_of 8 start) (put_name t count n)
      ≡ front ++ (padded_name n ++ (bytes_of 8 start ++ (take 8 (drop (at + 24) t) ++ rest)))
  with_start =
      let tail : List ℕ = take 8 (drop (at + 24) t) ++ rest in
      ap (put_at (at + 16) (bytes_of 8 start))
      (named ∙ sym (append_assoc front (padded_name n) (take 8 (drop (at + 16) t) ++ tail)))
      ∙ put_in (front ++ padded_name n) (take 8 (drop (at + 16) t)) tail (bytes_of 8 start) (at + 16)
      (length-append front (padded_name n) ∙ omega (arith, front_length, short))
      (eight_at 16 (omega arith) start)
      ∙ append_assoc front (padded_name n) (bytes_of 8 start ++ tail)

  eight_of_size : bytes_of 8 size ≡ bytes_of 4 size ++ bytes_of 4 0
  unfolding bytes_of
  eight_of_size = ap (λ (v : ℕ). bytes_of 4 size ++ bytes_of 4 v) high
    where
      high : size / 256 / 256 / 256 / 256 ≡ 0
      high = omega arith

  with_size : put_at (at + 24) (bytes_of 8 size) (put_at (at + 16) (bytes_of 8 start) (put_name t count n))
      ≡ front ++ (new_row n start size ++ rest)
  unfolding new_row
  with_size =
      ap (put_at (at + 24) (bytes_of 8 size)) (with_start ∙ regroup (take 8 (drop (at + 24) t)))
      ∙ put_in (front ++ (padded_name n ++ bytes_of 8 start)) (take 8 (drop (at + 24) t)) rest (bytes_of 8 size) (at + 24)
      (length-append front (padded_name n ++ bytes_of 8 start)
      ∙ omega (arith, front_length, length-append (padded_name n) (bytes_of 8 start), short, length-bytes_of 8 start))
      (eight_at 24 (omega arith) size)
      ∙ sym (regroup (bytes_of 8 size))
      ∙ rw eight_of_size (sym (simp append_assoc))
    where
      regroup : (x : List ℕ)
          → front ++ (padded_name n ++ (bytes_of 8 start ++ (x ++ rest)))
          ≡ (front ++ (padded_name n ++ bytes_of 8 start)) ++ (x ++ rest)
      regroup x = sym (simp append_assoc)

  pub new_row_put :
      put_at 8 (bytes_of 4 (count + 1))
      (put_at (at + 24) (bytes_of 8 size) (put_at (at + 16) (bytes_of 8 start) (put_name t count n)))
      ≡ with_new_row t n start size
  unfolding with_new_row
  new_row_put =
      ap (put_at 8 (bytes_of 4 (count + 1)))
      (with_size ∙ ap (λ (x : List ℕ). x ++ (new_row n start size ++ rest)) (ap (λ (k : ℕ). take k t) there ∙ front_rows t count)
      ∙ append_assoc (take 0x20 t) (row_bytes 0 count t) (new_row n start size ++ rest))
      ∙ count_put t (row_bytes 0 count t ++ (new_row n start size ++ rest)) (count + 1) whole
      ∙ rw (← counted)
      (ap₂ (with_rows t) one_more
      (ap (λ (k : ℕ). row_bytes 0 count t ++ (new_row n start size ++ drop k t)) behind_row))
    where
      one_more : count + 1 ≡ suc count
      one_more = omega arith

      behind_row : at + 32 ≡ 0x20 + 32 * suc count
      behind_row = omega arith

-- ---- a row less

module _ (t : List ℕ) (count row at end : ℕ) (whole : length t ≡ block_size) (counted : count ≡ entry_count t)
    (few : count ≤ 127) (there : row < count) (starts : at ≡ 0x20 + 32 * row) (ends : end ≡ 0x20 + 32 * count) where
  abbrev before : List ℕ
  before = take at t

  abbrev after : List ℕ
  after = take (end - (at + 32)) (drop (at + 32) t)

  abbrev left : ℕ
  left = 32 * (128 - count)

  before-length : length before ≡ at
  before-length = length-take-le at t (omega arith)

  after-length : length after ≡ end - (at + 32)
  after-length =
      length-take-le (end - (at + 32)) (drop (at + 32) t) (rw (length-drop (at + 32) t) (omega arith))

  zeros_parts : replicate {A = ℕ} block_size 0 ≡ replicate at 0 ++ (replicate (end - (at + 32)) 0 ++ replicate left 0)
  zeros_parts =
      ap (λ (k : ℕ). replicate {A = ℕ} k 0) sum
      ∙ sym (replicate-append-replicate {A = ℕ} at (end - (at + 32) + left) 0)
      ∙ ap (λ (x : List ℕ). replicate at 0 ++ x) (sym (replicate-append-replicate {A = ℕ} (end - (at + 32)) left 0))
    where
      sum : block_size ≡ at + (end - (at + 32) + left)
      sum = omega arith

  closed_up :
      put_at at after (put_at 0 before (replicate block_size 0)) ≡ before ++ (after ++ replicate left 0)
  closed_up =
      rw (
        zeros_parts,
        put_in [] (replicate at 0) (replicate (end - (at + 32)) 0 ++ replicate left 0) before 0 refl
            (length-replicate {A = ℕ} at 0 ∙ sym before-length),
      )
      (put_in before (replicate (end - (at + 32)) 0) (replicate left 0) after at before-length
      (length-replicate {A = ℕ} (end - (at + 32)) 0 ∙ sym after-length))

  pub row_left_out :
      put_at 8 (bytes_of 4 (count - 1)) (put_at at after (put_at 0 before (replicate block_size 0)))
      ≡ without_row t row
  unfolding without_row
  row_left_out =
      ap (put_at 8 (bytes_of 4 (count - 1)))
      (closed_up ∙ ap (λ (x : List ℕ). x ++ (after ++ replicate left 0)) (ap (λ (k : ℕ). take k t) starts ∙ front_rows t row)
      ∙ append_assoc (take 0x20 t) (row_bytes 0 row t) (after ++ replicate left 0))
      ∙ count_put t (row_bytes 0 row t ++ (after ++ replicate left 0)) (count - 1) whole
      ∙ rw (← counted) (ap (λ (x : List ℕ). with_rows t (count - 1) (row_bytes 0 row t ++ (x ++ replicate left 0))) moved)
    where
      moved : after ≡ row_bytes (suc row) (count - suc row) t
      moved = unfold row_bytes in ap₂ (λ (k j : ℕ). take k (drop j t)) length_of starts_at
        where
          length_of : end - (at + 32) ≡ 32 * (count - suc row)
          length_of = omega arith

          starts_at : at + 32 ≡ 0x20 + 32 * suc row
          starts_at = omega arith
