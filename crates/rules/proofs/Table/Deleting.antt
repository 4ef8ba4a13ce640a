-- A table without a slot's entry: it stands, its four blocks are where they were, and the slots after that one are one
-- number lower. Assumes nothing.
use mathlib.Core.Path.{◌≡◌, refl, sym, ap, ap₂, ◌∙◌}
use mathlib.Core.Bool.{true, false, not}
use mathlib.Core.List.{List, [], ◌∷◌, ◌++◌}
use Prim.Native.Nat.{ℕ, zero, suc, ◌+◌, ◌*◌, ◌-◌, ◌≤◌, ◌<◌}
use native.Mathlib.Nat.{le_of_suc-le-suc, not-suc-le-zero}
use native.Mathlib.Omega.{arith}
use borrow.Author.Tests.{le-leb, not-true}
use lib.ListN.{length, get_or, take, drop, replicate, length-drop}
use lib.Seq.{take_at, drop_at, drop-drop}
use Rattle.rules.specs.Lists.{all, any, keep}
use Rattle.rules.specs.Bytes.{Bytes, block_size}
use Rattle.rules.specs.declared.Setting.{Setting}
use Rattle.rules.specs.Table.{Entry, entry_count, entries_from, entries, boot_info, six_names, has_name, no_entry, named, count_right, name_right, names_differ, range_aligned, range_inside, ranges_apart, six_named, is_slot, slots, slot_starts, starts}
use Rattle.rules.specs.Readers.{slot_row, slot_entry}
use Rattle.rules.specs.Commands.{row_bytes, without_row}
use Rattle.rules.proofs.Lists.Tests.{by_cases, clash, and_true}
use Rattle.rules.proofs.Lists.Combinators.{all_at, all_from_two}
use Rattle.rules.proofs.Lists.OneMore.{left_out, all-left_out, pairwise-left_out, any-left_out, first-left_out}
use Rattle.rules.proofs.Lists.ByteLists.{bytes_append, bytes_take, bytes_drop, bytes_replicate}
use Rattle.rules.proofs.Table.Standing.{Standing, at_most_127, length-entries, length-entries_from}
use Rattle.rules.proofs.Table.Replacing.{Replaces, Keeps, replaces}
use Rattle.rules.proofs.Table.Renaming.{slot_row_found, no_fixed_name, slot_has_no_fixed_name}
use Rattle.rules.proofs.Table.RowLengths.{length_rows, length-rows_closed_up, length-without_row}
use Rattle.rules.proofs.Table.RowBytes.{entries_split, entries_in_front, rows_bytes, rows_header, rows_count, rows_entries}

-- ---- the slots without one

pub starts_without : (es : List Entry) (k : ℕ)
    → k < length (slots es)
    → slot_starts (left_out (slot_row es k) es) ≡ left_out k (slot_starts es)
unfolding slot_starts slots keep slot_row
starts_without [] k h = absurd (not-suc-le-zero h)
starts_without (e ∷ es) zero h =
    by_cases (is_slot e) (λ t. rw t) (λ t. rw (t, t) (starts_without es zero (rw t at h)))
starts_without (e ∷ es) (suc k) h =
    by_cases (is_slot e)
    (λ t. rw (t, t)
    (ap {B = List ℕ} (λ l. e.start ∷ l) (starts_without es k (le_of_suc-le-suc (rw t at h)))))
    (λ t. rw (t, t) (starts_without es (suc k) (rw t at h)))

-- ---- the table

module _ (s : Setting) (len : ℕ) (t : List ℕ) (k : ℕ) (whole : length t ≡ block_size) (st : Standing s len t)
    (there : k < length (slots (entries t))) where
  abbrev es : List Entry
  es = entries t

  abbrev row : ℕ
  row = slot_row es k

  abbrev count : ℕ
  count = entry_count t

  -- ---- the entries

  old_is_slot : is_slot (get_or es row no_entry) ≡ true
  unfolding slot_entry
  old_is_slot = (slot_row_found es k there).1

  counted : row < count
  counted = omega (arith, (slot_row_found es k there).0, length-entries t)

  few : count ≤ 127
  few = at_most_127 t st.rule2

  -- none of the six names is that entry's
  passed_over : all (λ m. not (has_name m (get_or es row no_entry))) six_names ≡ true
  passed_over = no_fixed_name (get_or es row no_entry) (slot_has_no_fixed_name (get_or es row no_entry) old_is_slot)

  entries_keep : Keeps len es (left_out row es)
  unfolding named six_named
  entries_keep = record {
    rule3 = all-left_out name_right row es st.rule3;
    rule4 = pairwise-left_out names_differ row es st.rule4;
    rule5 = all-left_out range_aligned row es st.rule5;
    rule6 = all-left_out (range_inside len) row es st.rule6;
    rule7 = pairwise-left_out ranges_apart row es st.rule7;
    rule8 = all_from_two (λ m. any (has_name m) es) (λ m. not (has_name m (get_or es row no_entry)))
        (λ m. any (has_name m) (left_out row es))
        (λ m a o. any-left_out (has_name m) no_entry row es (not-true (has_name m (get_or es row no_entry)) o) a)
        six_names st.rule8 passed_over;
    named_kept = λ i l.
        first-left_out (has_name (get_or six_names i [])) no_entry row es
        (not-true (has_name (get_or six_names i []) (get_or es row no_entry))
        (all_at (λ m. not (has_name m (get_or es row no_entry))) six_names [] i passed_over (unfold six_names in l)));
  }

  -- ---- the bytes

  abbrev later : ℕ
  later = count - suc row

  abbrev before : List ℕ
  before = row_bytes 0 row t

  abbrev after : List ℕ
  after = row_bytes (suc row) later t

  abbrev zeros : List ℕ
  zeros = replicate (32 * (128 - count)) 0

  abbrev body : List ℕ
  body = before ++ (after ++ zeros)

  before-length : length before ≡ 32 * row
  before-length = length_rows 0 row t (omega (arith, counted, few))

  body-length : 0x20 + length body ≡ block_size
  body-length = length-rows_closed_up t whole row few counted

  small_count : count - 1 < 0x100000000
  small_count = omega (arith, few)

  abbrev b : List ℕ
  b = without_row t row

  -- the rows before it, and those after it
  rows_before : entries_from row (drop 0x20 t) ≡ take row es
  unfolding entries
  rows_before =
      sym (ap (take row) (ap (λ (n : ℕ). entries_from n (drop 0x20 t)) split ∙ entries_split row (suc later) (drop 0x20 t))
      ∙ take_at (entries_from row (drop 0x20 t)) _ row (length-entries_from row (drop 0x20 t)))
    where
      split : count ≡ row + suc later
      split = omega (arith, counted)

  rows_after : entries_from later (drop (0x20 + 32 * suc row) t) ≡ drop (suc row) es
  unfolding entries
  rows_after =
      ap (entries_from later) (sym (drop-drop (32 * suc row) 0x20 t))
      ∙ sym (ap (drop (suc row))
      (ap (λ (n : ℕ). entries_from n (drop 0x20 t)) split ∙ entries_split (suc row) later (drop 0x20 t))
      ∙ drop_at (entries_from (suc row) (drop 0x20 t)) _ (suc row) (length-entries_from (suc row) (drop 0x20 t)))
    where
      split : count ≡ suc row + later
      split = omega (arith, counted)

  pub deleted_entries : entries (without_row t (slot_row (entries t) k)) ≡ left_out (slot_row (entries t) k) (entries t)
  unfolding without_row row_bytes
  deleted_entries =
      rows_entries t body (count - 1) whole small_count body-length
      ∙ ap (λ (n : ℕ). entries_from n body) split
      ∙ entries_split row later body
      ∙ ap₂ (λ (x y : List Entry). x ++ y)
      (entries_in_front row (drop 0x20 t) (after ++ zeros) (rw (length-drop 0x20 t) (omega (arith, counted, few)))
      ∙ rows_before)
      (ap (entries_from later) (drop_at before (after ++ zeros) (32 * row) before-length)
      ∙ entries_in_front later (drop (0x20 + 32 * suc row) t) zeros
      (rw (length-drop (0x20 + 32 * suc row) t) (omega (arith, counted, few)))
      ∙ rows_after)
    where
      split : count - 1 ≡ row + later
      split = omega (arith, counted)

  pub deleted_count : entry_count (without_row t (slot_row (entries t) k)) ≡ entry_count t - 1
  unfolding without_row
  deleted_count = rows_count t body (count - 1) whole small_count body-length

  -- BOOT_INFO is left, so that there is an entry
  some_left : 1 ≤ count - 1
  some_left =
      omega (arith, not_none (left_out row es) boot_info_left, ap length deleted_entries, length-entries b, deleted_count)
    where
      boot_info_left : any (has_name boot_info) (left_out row es) ≡ true
      boot_info_left =
          unfold six_named six_names all in (and_true (any (has_name boot_info) (left_out row es)) _ entries_keep.rule8).0

      not_none : (xs : List Entry) → any (has_name boot_info) xs ≡ true → 1 ≤ length xs
      not_none [] h = absurd (clash false (unfold any in h) refl)
      not_none (x ∷ xs) h = omega arith

  count_still_right : count_right b ≡ true
  unfolding count_right
  count_still_right =
      rw (deleted_count, le-leb 1 (count - 1) some_left) (le-leb (count - 1) 127 (omega (arith, few)))

  pub deleted_replaces : Bytes t → Replaces s len t (without_row t (slot_row (entries t) k))
  deleted_replaces ht =
      replaces s len t b (left_out row es) st deleted_entries
      (unfold without_row in rows_header t body (count - 1) whole small_count body-length)
      count_still_right entries_keep
      (length-without_row t whole row few counted)
      (unfold without_row in rows_bytes t body (count - 1) whole small_count body-length ht body_bytes)
    where
      body_bytes : Bytes body
      body_bytes =
          unfold row_bytes in
          bytes_append before (after ++ zeros) (bytes_take (32 * row) (drop 0x20 t) (bytes_drop 0x20 t ht))
          (bytes_append after zeros
          (bytes_take (32 * later) (drop (0x20 + 32 * suc row) t) (bytes_drop (0x20 + 32 * suc row) t ht))
          (bytes_replicate (32 * (128 - count)) 0 (omega arith)))

  -- the slots after it are one number lower
  pub deleted_starts : starts (without_row t (slot_row (entries t) k)) ≡ left_out k (starts t)
  unfolding starts
  deleted_starts = ap slot_starts deleted_entries ∙ starts_without es k there
