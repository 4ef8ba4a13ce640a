-- The entries of a table with another name put into a row: that entry has the name, all others stay. Assumes nothing.
use mathlib.Core.Path.{◌≡◌, refl, sym, ap, ap₂, ◌∙◌}
use mathlib.Core.Bool.{Bool, true, not}
use mathlib.Core.List.{List, [], ◌∷◌, ◌++◌, append_assoc}
use Prim.Native.Nat.{ℕ, zero, suc, ◌+◌, ◌*◌, ◌-◌, ◌≤◌, ◌<◌}
use native.Mathlib.Nat.{le_of_suc-le-suc, not-suc-le-zero}
use native.Mathlib.Omega.{arith}
use lib.Dec.{eqb}
use borrow.Author.Tests.{not-true}
use lib.ListN.{length, get_or, set, take, drop, replicate, length-append, length-drop, length-replicate}
use lib.Seq.{take_at, drop_at, take-append-le, length-take-le, take-take, drop-drop, take-add}
use Rattle.rules.specs.Lists.{all}
use Rattle.rules.specs.Bytes.{Bytes, little_endian, field, up_to_zero, block_size}
use Rattle.rules.specs.Table.{Entry, entry, entries_from, entry_count, entries, name, no_entry}
use Rattle.rules.specs.Commands.{padded_name, put_name}
use Rattle.rules.proofs.Lists.Tests.{and_true}
use Rattle.rules.proofs.Lists.ByteLists.{bytes_append, bytes_take, bytes_drop, bytes_replicate, field_by_front}

-- ---- the name

-- no byte of a name is zero
abbrev pub no_zero : List ℕ → Bool
no_zero n = all (λ b. not (eqb b 0)) n

up_to_zero_padded : (n : List ℕ) (m : ℕ) → no_zero n ≡ true → up_to_zero (n ++ replicate (suc m) 0) ≡ n
unfolding all up_to_zero
up_to_zero_padded [] m h = refl
up_to_zero_padded (b ∷ n) m h =
    let (p, q) = and_true (not (eqb b 0)) (no_zero n) h in
    rw (not-true (eqb b 0) p, up_to_zero_padded n m q)

-- an entry with another name
abbrev pub with_name : List ℕ → Entry → Entry
with_name n e = record { name_field = padded_name n; start = e.start; size = e.size; flags = e.flags }

pub name_of_new : (n : List ℕ) (e : Entry) → length n ≤ 15 → no_zero n ≡ true → name (with_name n e) ≡ n
unfolding name padded_name
name_of_new n e l h =
    ap (λ (k : ℕ). up_to_zero (n ++ replicate k 0)) (one_more (length n) l) ∙ up_to_zero_padded n (15 - length n) h
  where
    one_more : (k : ℕ) → k ≤ 15 → 16 - k ≡ suc (15 - k)
    one_more k l = omega arith

pub length_padded : (n : List ℕ) → length n ≤ 15 → length (padded_name n) ≡ 16
unfolding padded_name
length_padded n l =
    rw (length-append n (replicate (16 - length n) 0), length-replicate {A = ℕ} (16 - length n) 0) (omega arith)

pub padded_bytes : (n : List ℕ) → Bytes n → Bytes (padded_name n)
unfolding padded_name
padded_bytes n h = bytes_append n (replicate (16 - length n) 0) h (bytes_replicate (16 - length n) 0 (omega arith))

-- ---- one entry

abbrev with_field : List ℕ → Entry → Entry
with_field f e = record { name_field = f; start = e.start; size = e.size; flags = e.flags }

pub entry_by_front : (x y : List ℕ) → take 32 y ≡ take 32 x → entry y ≡ entry x
unfolding entry
entry_by_front x y e = λ i. record {
  name_field = (sym (take-take 16 32 y (omega arith)) ∙ ap (take 16) e ∙ take-take 16 32 x (omega arith)) i;
  start = field_by_front 32 16 8 x y (omega arith) e i;
  size = field_by_front 32 24 4 x y (omega arith) e i;
  flags = field_by_front 32 28 4 x y (omega arith) e i;
}

entry-with_field : (f bs : List ℕ) → length f ≡ 16 → entry (f ++ drop 16 bs) ≡ with_field f (entry bs)
unfolding entry
entry-with_field f bs l = λ i. record {
  name_field = take_at f (drop 16 bs) 16 l i;
  start = behind 0 8 i;
  size = behind 8 4 i;
  flags = behind 12 4 i;
}
  where
    later : (k n : ℕ) (z : List ℕ) → field (16 + k) n z ≡ field k n (drop 16 z)
    later k n z = unfold field in ap (λ (y : List ℕ). little_endian (take n y)) (sym (drop-drop k 16 z))

    behind : (k n : ℕ) → field (16 + k) n (f ++ drop 16 bs) ≡ field (16 + k) n bs
    behind k n =
        later k n (f ++ drop 16 bs) ∙ ap (field k n) (drop_at f (drop 16 bs) 16 l) ∙ sym (later k n bs)

-- ---- the entries, by the bytes from the first one on

-- a field put over the first 16 bytes of a row, behind some bytes that stay
split_put : (k m : ℕ) (bs f : List ℕ)
    → take (k + m) bs ++ (f ++ drop (k + m + 16) bs)
    ≡ take k bs ++ (take m (drop k bs) ++ (f ++ drop (m + 16) (drop k bs)))
split_put k m bs f =
    rw (
      take-add k m bs,
      append_assoc (take k bs) (take m (drop k bs)) (f ++ drop (k + m + 16) bs),
      drop-drop (m + 16) k bs,
    )
    (ap (λ (j : ℕ). take k bs ++ (take m (drop k bs) ++ (f ++ drop j bs))) regroup)
  where
    regroup : k + m + 16 ≡ k + (m + 16)
    regroup = omega arith

entries_with_field : (count row : ℕ) (bs f : List ℕ)
    → row < count
    → 32 * count ≤ length bs
    → length f ≡ 16
    → entries_from count (take (32 * row) bs ++ (f ++ drop (32 * row + 16) bs))
    ≡ set (entries_from count bs) row (with_field f (get_or (entries_from count bs) row no_entry))
unfolding entries_from
entries_with_field zero row bs f h l e = absurd (not-suc-le-zero h)
entries_with_field (suc count) zero bs f h l e =
    ap₂ {C = List Entry} (λ u v. u ∷ v) (entry-with_field f bs e)
    (ap (entries_from count)
    (sym (drop-drop 16 16 (f ++ drop 16 bs)) ∙ ap (drop 16) (drop_at f (drop 16 bs) 16 e) ∙ drop-drop 16 16 bs))
entries_with_field (suc count) (suc row) bs f h l e =
    let front : length (take 32 bs) ≡ 32 = length-take-le 32 bs (omega arith) in
    let whole : take (32 * suc row) bs ++ (f ++ drop (32 * suc row + 16) bs) ≡ take 32 bs ++ rest =
    ap (λ (k : ℕ). take k bs ++ (f ++ drop (k + 16) bs)) next ∙ split_put 32 (32 * row) bs f in
    ap₂ {C = List Entry} (λ u v. u ∷ v)
    (entry_by_front bs _ (ap (take 32) whole ∙ take_at (take 32 bs) rest 32 front))
    (ap (λ (x : List ℕ). entries_from count (drop 32 x)) whole
    ∙ ap (entries_from count) (drop_at (take 32 bs) rest 32 front)
    ∙ entries_with_field count row (drop 32 bs) f (le_of_suc-le-suc h) (rw (length-drop 32 bs) (omega arith)) e)
  where
    rest : List ℕ
    rest = take (32 * row) (drop 32 bs) ++ (f ++ drop (32 * row + 16) (drop 32 bs))

    next : 32 * suc row ≡ 32 + 32 * row
    next = omega arith

-- ---- the table

module _ (t n : List ℕ) (row : ℕ) (whole : length t ≡ block_size) (few : entry_count t ≤ 127)
    (counted : row < entry_count t) (short : length n ≤ 15) where
  abbrev before : List ℕ
  before = take (0x20 + 32 * row) t

  abbrev after : List ℕ
  after = drop (0x20 + 32 * row + 16) t

  before-length : length before ≡ 0x20 + 32 * row
  before-length = length-take-le (0x20 + 32 * row) t (omega arith)

  pub put_length : length (put_name t row n) ≡ block_size
  unfolding put_name
  put_length =
      rw (
        length-append before (padded_name n ++ after),
        length-append (padded_name n) after,
        before-length,
        length_padded n short,
        length-drop (0x20 + 32 * row + 16) t,
      )
      (omega arith)

  pub put_bytes : Bytes t → Bytes n → Bytes (put_name t row n)
  unfolding put_name
  put_bytes ht hn =
      bytes_append before (padded_name n ++ after) (bytes_take (0x20 + 32 * row) t ht)
      (bytes_append (padded_name n) after (padded_bytes n hn) (bytes_drop (0x20 + 32 * row + 16) t ht))

  -- the bytes before the entries
  pub put_front : take 0x20 (put_name t row n) ≡ take 0x20 t
  unfolding put_name
  put_front =
      take-append-le 0x20 before (padded_name n ++ after) (rw before-length (omega arith))
      ∙ take-take 0x20 (0x20 + 32 * row) t (omega arith)

  pub put_count : entry_count (put_name t row n) ≡ entry_count t
  unfolding entry_count
  put_count = field_by_front 0x20 8 4 t (put_name t row n) (omega arith) put_front

  pub put_entries : entries (put_name t row n) ≡ set (entries t) row (with_name n (get_or (entries t) row no_entry))
  unfolding entries put_name
  put_entries =
      ap (λ (c : ℕ). entries_from c (drop 0x20 (put_name t row n))) put_count
      ∙ ap (λ (x : List ℕ). entries_from (entry_count t) (drop 0x20 x)) (split_put 0x20 (32 * row) t (padded_name n))
      ∙ ap (entries_from (entry_count t)) (drop_at (take 0x20 t) _ 0x20 (length-take-le 0x20 t (omega arith)))
      ∙ entries_with_field (entry_count t) row (drop 0x20 t) (padded_name n) counted
      (rw (length-drop 0x20 t) (omega arith)) (length_padded n short)
