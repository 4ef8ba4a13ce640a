-- A table with one entry more, for a new slot: it stands, its four blocks are where they were, and the new slot is the
-- last. Assumes nothing.
use mathlib.Core.Path.{◌≡◌, refl, ap, ap₂, ◌∙◌}
use mathlib.Core.Bool.{true, false, not, ◌||◌}
use mathlib.Core.Logic.{◌⊎◌, inl, inr}
use mathlib.Core.List.{List, [], ◌∷◌, ◌++◌, map}
use Prim.Native.Nat.{ℕ, suc, ◌+◌, ◌*◌, ◌≤◌, ◌<◌}
use native.Mathlib.Omega.{arith}
use lib.Dec.{eqb, leb}
use borrow.Author.Tests.{le-leb, not-true}
use lib.ListN.{length, get_or, drop, length-drop}
use lib.Seq.{drop_at}
use Rattle.rules.specs.Lists.{member, all, any, keep}
use Rattle.rules.specs.Bytes.{Bytes, bytes_of, block_size, multiple}
use Rattle.rules.specs.Numbers.{longest}
use Rattle.rules.specs.declared.Setting.{Setting}
use Rattle.rules.specs.Table.{Entry, entry_count, entries_from, entries, six_names, has_name, no_entry, named, count_right, name_right, names_differ, range_aligned, range_inside, ranges_apart, six_named, is_slot, slots, slot_starts, starts}
use Rattle.rules.specs.Commands.{row_bytes, new_range, may_start, padded_name, new_row, with_new_row, size_right}
use Rattle.rules.proofs.Lists.Tests.{by_cases, and_true, or_true}
use Rattle.rules.proofs.Lists.Combinators.{all_weaker, all_of_none}
use Rattle.rules.proofs.Lists.OneMore.{all_append, any_append, first_append, keep_append, pairwise_append_one}
use Rattle.rules.proofs.Lists.ByteLists.{bytes_append, bytes_take, bytes_drop}
use Rattle.rules.proofs.Lists.Words.{bytes_of_bytes}
use Rattle.rules.proofs.Table.Standing.{Standing, ends_inside, named_there}
use Rattle.rules.proofs.Table.PutName.{with_name, padded_bytes}
use Rattle.rules.proofs.Table.Replacing.{Replaces, Keeps, replaces}
use Rattle.rules.proofs.Table.Renaming.{Allowed, new_name, new-name_right, differs_both_ways}
use Rattle.rules.proofs.Table.RowLengths.{length_rows, length-rows_with_new, length-with_new_row}
use Rattle.rules.proofs.Table.RowBytes.{entries_split, entries_in_front, new_row_first, rows_bytes, rows_header, rows_count, rows_entries}

-- ---- the entries with the new one

apart_swapped : (d e : Entry) → ranges_apart d e ≡ true → ranges_apart e d ≡ true
unfolding ranges_apart
apart_swapped d e h = split (or_true (leb (d.start + d.size) e.start) (leb (e.start + e.size) d.start) h)
  where
    split : (leb (d.start + d.size) e.start ≡ true) ⊎ (leb (e.start + e.size) d.start ≡ true)
        → leb (e.start + e.size) d.start || leb (d.start + d.size) e.start ≡ true
    split (inl t) = by_cases (leb (e.start + e.size) d.start) (λ u. rw u) (λ u. rw (u, t))
    split (inr t) = rw t

-- what must hold of a new slot's name, start and length, for an image of this length and a table's entries
pub record Fits (len : ℕ) (es : List Entry) (ps : List ℕ) (n : List ℕ) (start size : ℕ) : Type 0 where
  pub ok : Allowed n
  pub free : any (has_name n) es ≡ false
  pub right : size_right size ≡ true
  pub may : may_start len es ps size start ≡ true
  pub aligned : multiple block_size start ≡ true

module _ (len : ℕ) (es : List Entry) (ps n : List ℕ) (start size : ℕ) (new : Fits len es ps n start size) where
  abbrev pub new_entry : Entry
  new_entry = with_name n (new_range start size)

  parts : (range_inside len (new_range start size) ≡ true)
      × (all (ranges_apart (new_range start size)) es ≡ true)
      × (not (member start ps) ≡ true)
  unfolding may_start
  parts =
      let (h, held) = and_true _ (not (member start ps)) new.may in
      let (inside, apart) = and_true (range_inside len (new_range start size)) _ h in
      (inside, apart, held)

  pub not_held : member start ps ≡ false
  not_held = not-true (member start ps) parts.2

  pub ends_in_image : start + size ≤ len
  unfolding new_range
  ends_in_image = ends_inside len (new_range start size) parts.0

  new_aligned : range_aligned new_entry ≡ true
  unfolding range_aligned new_range
  new_aligned =
      let (some_bytes, whole) = and_true (not (eqb size 0)) (multiple block_size size) (unfold size_right in new.right) in
      rw (new.aligned, whole, some_bytes)

  new_inside : range_inside len new_entry ≡ true
  unfolding range_inside
  new_inside = unfold range_inside in parts.0

  others_apart : all (λ x. ranges_apart x new_entry) es ≡ true
  unfolding ranges_apart
  others_apart =
      all_weaker (ranges_apart (new_range start size)) (λ x. ranges_apart x new_entry)
      (λ x h. apart_swapped (new_range start size) x h) es parts.1

  others_differ : all (λ x. names_differ x new_entry) es ≡ true
  others_differ =
      all_weaker (λ x. not (has_name n x)) (λ x. names_differ x new_entry)
      (λ x h. (and_true _ _ (differs_both_ways n new.ok (new_range start size) x h)).0) es
      (all_of_none (has_name n) es new.free)

  module _ (s : Setting) (t : List ℕ) (st : Standing s len t) (is_table : entries t ≡ es) where
    pub entries_keep : Keeps len (entries t) (es ++ (new_entry ∷ []))
    unfolding all named six_named
    entries_keep = rw is_table record {
      rule3 = all_append name_right es (new_entry ∷ []) (rw (← is_table) st.rule3)
          (rw (new-name_right n new.ok (new_range start size)));
      rule4 = pairwise_append_one names_differ es new_entry (rw (← is_table) st.rule4) others_differ;
      rule5 = all_append range_aligned es (new_entry ∷ []) (rw (← is_table) st.rule5) (rw new_aligned);
      rule6 = all_append (range_inside len) es (new_entry ∷ []) (rw (← is_table) st.rule6) (rw new_inside);
      rule7 = pairwise_append_one ranges_apart es new_entry (rw (← is_table) st.rule7) others_apart;
      rule8 = all_weaker (λ m. any (has_name m) es) (λ m. any (has_name m) (es ++ (new_entry ∷ [])))
          (λ m h. any_append (has_name m) es (new_entry ∷ []) h) six_names (rw (← is_table) st.rule8);
      named_kept = λ i l.
          first_append (has_name (get_or six_names i [])) no_entry es (new_entry ∷ []) (named_there es (rw (← is_table) st.rule8) i l);
    }

  -- it is a slot
  new_is_slot : is_slot new_entry ≡ true
  unfolding is_slot new_range multiple
  new_is_slot = rw (new_name n new.ok (new_range start size), new.ok.not_fixed)

  pub starts_with_new : slot_starts (es ++ (new_entry ∷ [])) ≡ slot_starts es ++ (start ∷ [])
  unfolding slot_starts slots
  starts_with_new =
      ap (map (λ (e : Entry). e.start))
      (keep_append is_slot es (new_entry ∷ []) ∙ ap (λ (x : List Entry). keep is_slot es ++ x) kept)
      ∙ map_append_one (keep is_slot es)
    where
      kept : keep is_slot (new_entry ∷ []) ≡ new_entry ∷ []
      kept = unfold keep in rw new_is_slot

      map_append_one : (xs : List Entry)
          → map (λ (e : Entry). e.start) (xs ++ (new_entry ∷ []))
          ≡ map (λ (e : Entry). e.start) xs ++ (start ∷ [])
      map_append_one [] = unfold new_range in refl
      map_append_one (x ∷ xs) = ap {B = List ℕ} (λ l. x.start ∷ l) (map_append_one xs)

-- ---- the table with the new row

module _ (s : Setting) (len : ℕ) (t ps n : List ℕ) (start size : ℕ) (whole : length t ≡ block_size)
    (st : Standing s len t) (short : len ≤ longest) (few : entry_count t < 127)
    (new : Fits len (entries t) ps n start size) where
  abbrev count : ℕ
  count = entry_count t

  abbrev old_rows : List ℕ
  old_rows = row_bytes 0 count t

  abbrev rest : List ℕ
  rest = drop (0x20 + 32 * suc count) t

  abbrev body : List ℕ
  body = old_rows ++ (new_row n start size ++ rest)

  inside : start + size ≤ len
  inside = ends_in_image len (entries t) ps n start size new

  old_rows-length : length old_rows ≡ 32 * count
  old_rows-length = length_rows 0 count t (omega arith)

  body-length : 0x20 + length body ≡ block_size
  body-length = length-rows_with_new t whole n start size few new.ok.short

  abbrev b : List ℕ
  b = with_new_row t n start size

  abbrev e' : Entry
  e' = new_entry len (entries t) ps n start size new

  small_count : suc count < 0x100000000
  small_count = omega arith

  pub created_entries : entries (with_new_row t n start size) ≡ entries t ++ (with_name n (new_range start size) ∷ [])
  unfolding with_new_row entries row_bytes
  created_entries =
      rows_entries t body (suc count) whole small_count body-length
      ∙ ap (λ (k : ℕ). entries_from k body) one_more
      ∙ entries_split count 1 body
      ∙ ap₂ (λ (x y : List Entry). x ++ y)
      (entries_in_front count (drop 0x20 t) (new_row n start size ++ rest) (rw (length-drop 0x20 t) (omega arith)))
      (ap (entries_from 1) (drop_at old_rows (new_row n start size ++ rest) (32 * count) old_rows-length)
      ∙ new_row_first n start size new.ok.short (omega (arith, inside)) (omega (arith, inside)) rest)
    where
      one_more : suc count ≡ count + 1
      one_more = omega arith

  pub created_count : entry_count (with_new_row t n start size) ≡ suc (entry_count t)
  unfolding with_new_row
  created_count = rows_count t body (suc count) whole small_count body-length

  count_still_right : count_right b ≡ true
  unfolding count_right
  count_still_right =
      rw (created_count, le-leb 1 (suc count) (omega arith)) (le-leb (suc count) 127 (omega arith))

  pub created_replaces : Bytes t → Bytes n → Replaces s len t (with_new_row t n start size)
  created_replaces ht hn =
      replaces s len t b (entries t ++ (e' ∷ [])) st created_entries
      (unfold with_new_row in rows_header t body (suc count) whole small_count body-length)
      count_still_right
      (entries_keep len (entries t) ps n start size new s t st refl)
      (length-with_new_row t whole n start size few new.ok.short)
      (unfold with_new_row in rows_bytes t body (suc count) whole small_count body-length ht body_bytes)
    where
      row_is_bytes : Bytes (new_row n start size)
      row_is_bytes =
          unfold new_row in
          bytes_append (padded_name n) _ (padded_bytes n hn)
          (bytes_append (bytes_of 8 start) _ (bytes_of_bytes 8 start)
          (bytes_append (bytes_of 4 size) (bytes_of 4 0) (bytes_of_bytes 4 size) (bytes_of_bytes 4 0)))

      body_bytes : Bytes body
      body_bytes =
          bytes_append old_rows (new_row n start size ++ rest)
          (unfold row_bytes in bytes_take (32 * count) (drop 0x20 t) (bytes_drop 0x20 t ht))
          (bytes_append (new_row n start size) rest row_is_bytes (bytes_drop (0x20 + 32 * suc count) t ht))

  -- the new slot comes last
  pub created_starts : starts (with_new_row t n start size) ≡ starts t ++ (start ∷ [])
  unfolding starts
  created_starts = ap slot_starts created_entries ∙ starts_with_new len (entries t) ps n start size new
