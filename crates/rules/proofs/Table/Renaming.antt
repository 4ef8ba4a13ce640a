-- A table with another name in a slot's entry: it stands, and its slots and blocks are where they were. Assumes
-- nothing.
use mathlib.Core.Path.{◌≡◌, refl, sym, ◌∙◌}
use mathlib.Core.Bool.{true, false, not, ◌&&◌}
use mathlib.Core.List.{List, [], ◌∷◌, ◌++◌}
use Prim.Native.Nat.{ℕ, zero, suc, ◌≤◌, ◌<◌}
use native.Mathlib.Nat.{le_of_suc-le-suc, not-suc-le-zero}
use native.Mathlib.Omega.{arith}
use lib.Dec.{leb, ltb}
use borrow.Author.Tests.{leb-true, ltb-true, lt-ltb, not-true}
use lib.ListN.{length, get_or, set, take, drop}
use Rattle.rules.specs.Lists.{same, all, any, pairwise, keep}
use Rattle.rules.specs.Bytes.{Bytes, block_size, multiple}
use Rattle.rules.specs.declared.Setting.{Setting}
use Rattle.rules.specs.Table.{Entry, entry_count, entries, name, six_names, has_name, is_fixed_name, no_entry, named, header_right, count_right, name_right, names_differ, range_aligned, range_inside, ranges_apart, six_named, is_slot, slots, slot_starts, starts, magic_right}
use Rattle.rules.specs.Readers.{slot_row, slot_entry}
use Rattle.rules.specs.Commands.{put_name, name_allowed, name_free}
use Rattle.rules.proofs.Lists.Tests.{by_cases, clash, and_true, both_true, same_true, same_of}
use Rattle.rules.proofs.Lists.Combinators.{all_at, all_weaker, all_from_two, all_of_none, all_after_set, all_with_like, any_with_like, pairwise_with_like, pairwise_with_new, first_with_like}
use Rattle.rules.proofs.Lists.ByteLists.{field_by_front}
use Rattle.rules.proofs.Table.Standing.{Standing, at_most_127, length-entries}
use Rattle.rules.proofs.Table.Replacing.{Replaces, Keeps, replaces}
use Rattle.rules.proofs.Table.PutName.{no_zero, with_name, name_of_new, put_length, put_bytes, put_front, put_count, put_entries}

-- ---- the row of a slot

pub slot_row_found : (es : List Entry) (k : ℕ)
    → k < length (slots es)
    → (slot_row es k < length es) × (is_slot (slot_entry es k) ≡ true)
unfolding slots keep slot_row slot_entry
slot_row_found [] k h = absurd (not-suc-le-zero h)
slot_row_found (e ∷ es) zero h =
    by_cases (is_slot e)
    (λ t. rw (t, t) (omega arith, refl))
    (λ t. rw t (let (p, q) = slot_row_found es zero (rw t at h) in (omega arith, q)))
slot_row_found (e ∷ es) (suc k) h =
    by_cases (is_slot e)
    (λ t. rw t (let (p, q) = slot_row_found es k (le_of_suc-le-suc (rw t at h)) in (omega arith, q)))
    (λ t. rw t (let (p, q) = slot_row_found es (suc k) (rw t at h) in (omega arith, q)))

-- ---- a name that is allowed

pub record Allowed (n : List ℕ) : Type 0 where
  pub some_bytes : 0 < length n
  pub short : length n ≤ 15
  pub without_zero : no_zero n ≡ true
  pub not_fixed : is_fixed_name n ≡ false

pub allowed : (n : List ℕ) → name_allowed n ≡ true → Allowed n
unfolding name_allowed
allowed n h =
    let (h1, fixed) = and_true _ _ h in
    let (h2, zeros) = and_true _ _ h1 in
    let (h3, h4) = and_true (ltb 0 (length n)) (leb (length n) 15) h2 in
    record {
      some_bytes = ltb-true 0 (length n) h3;
      short = leb-true (length n) 15 h4;
      without_zero = zeros;
      not_fixed = not-true (is_fixed_name n) fixed;
    }

-- an entry whose name is none of the six
pub no_fixed_name : (e : Entry) → is_fixed_name (name e) ≡ false → all (λ m. not (has_name m e)) six_names ≡ true
unfolding is_fixed_name has_name
no_fixed_name e h = all_of_none (same (name e)) six_names h

pub slot_has_no_fixed_name : (e : Entry) → is_slot e ≡ true → is_fixed_name (name e) ≡ false
unfolding is_slot
slot_has_no_fixed_name e h = not-true (is_fixed_name (name e)) (and_true (multiple 4 e.flags) _ h).1

-- ---- an entry with a new name, among the others

module _ (n : List ℕ) (ok : Allowed n) (e : Entry) where
  abbrev new : Entry
  new = with_name n e

  pub new_name : name new ≡ n
  new_name = name_of_new n e ok.short ok.without_zero

  pub new-name_right : name_right new ≡ true
  unfolding name_right
  new-name_right = rw (new_name, lt-ltb 0 (length n) ok.some_bytes) (lt-ltb (length n) 16 (omega (arith, ok.short)))

  pub new_is_slot : is_slot e ≡ true → is_slot new ≡ true
  unfolding is_slot
  new_is_slot h = let (four, _) = and_true (multiple 4 e.flags) _ h in rw (four, new_name, ok.not_fixed)

  same_swapped : (x y : List ℕ) → same x y ≡ false → same y x ≡ false
  same_swapped x y h =
      by_cases (same y x) (λ t. absurd (clash (same x y) (same_of x y (sym (same_true y x t))) h)) (λ f. f)

  pub differs_both_ways : (x : Entry) → not (has_name n x) ≡ true → names_differ x new && names_differ new x ≡ true
  unfolding has_name names_differ
  differs_both_ways x h =
      let f = not-true (same (name x) n) h in
      rw (new_name, f, same_swapped (name x) n f)

slot_starts_kept : (y : Entry) (es : List Entry) (row : ℕ)
    → is_slot (get_or es row no_entry) ≡ true
    → is_slot y ≡ true
    → y.start ≡ (get_or es row no_entry).start
    → row < length es
    → slot_starts (set es row y) ≡ slot_starts es
unfolding slot_starts slots keep
slot_starts_kept y [] row h k s l = refl
slot_starts_kept y (e ∷ es) zero h k s l = rw (h, k, s)
slot_starts_kept y (e ∷ es) (suc row) h k s l =
    by_cases (is_slot e)
    (λ t. rw (t, slot_starts_kept y es row h k s (le_of_suc-le-suc l)))
    (λ t. rw (t, slot_starts_kept y es row h k s (le_of_suc-le-suc l)))

-- ---- the table

module _ (s : Setting) (len : ℕ) (t n : List ℕ) (k : ℕ) (whole : length t ≡ block_size) (st : Standing s len t)
    (there : k < length (slots (entries t))) (ok : Allowed n)
    (free : name_free (entries t) (slot_row (entries t) k) n ≡ true) where
  abbrev es : List Entry
  es = entries t

  abbrev row : ℕ
  row = slot_row es k

  abbrev old : Entry
  old = get_or es row no_entry

  abbrev e' : Entry
  e' = with_name n old

  is_row : row < length es
  is_row = (slot_row_found es k there).0

  old_is_slot : is_slot old ≡ true
  unfolding slot_entry
  old_is_slot = (slot_row_found es k there).1

  counted : row < entry_count t
  counted = omega (arith, is_row, length-entries t)

  abbrev b : List ℕ
  b = put_name t row n

  entries_after : entries b ≡ set es row e'
  entries_after = put_entries t n row whole (at_most_127 t st.rule2) counted ok.short

  -- each of the six names is passed over at this row, before and after
  passed_over : all (λ m. not (has_name m old) && not (has_name m e')) six_names ≡ true
  passed_over =
      all_from_two (λ m. not (has_name m old)) (λ m. not (has_name m e')) _ (λ m p q. both_true _ _ p q) six_names
      (no_fixed_name old (slot_has_no_fixed_name old old_is_slot))
      (no_fixed_name e' (rw (new_name n ok old) ok.not_fixed))

  abbrev PassedOver : List ℕ → Type 0
  PassedOver m = (has_name m old ≡ false) × (has_name m e' ≡ false)

  passed : (m : List ℕ) → not (has_name m old) && not (has_name m e') ≡ true → PassedOver m
  passed m h =
      let (p, q) = and_true (not (has_name m old)) (not (has_name m e')) h in
      (not-true (has_name m old) p, not-true (has_name m e') q)

  -- BOOT_INFO and the four blocks are where they were, each by its number among the six
  named_kept : (i : ℕ) → i < 6 → named (get_or six_names i []) (set es row e') ≡ named (get_or six_names i []) es
  unfolding named six_names
  named_kept i l =
      let (p, q) = passed (get_or six_names i []) (all_at _ six_names [] i passed_over l) in
      first_with_like no_entry e' (has_name (get_or six_names i [])) es row q p

  six_still_named : six_named (set es row e') ≡ true
  unfolding six_named
  six_still_named =
      all_from_two (λ m. any (has_name m) es) _ (λ m. any (has_name m) (set es row e'))
      (λ m a h. let (p, q) = passed m h in any_with_like no_entry e' (has_name m) es row (q ∙ sym p) ∙ a)
      six_names st.rule8 passed_over

  names_still_differ : pairwise names_differ (set es row e') ≡ true
  unfolding name_free
  names_still_differ =
      pairwise_with_new names_differ e' es row st.rule4
      (all_weaker _ _ (differs_both_ways n ok old) (take row es ++ drop (suc row) es)
      (all_of_none (has_name n) _ (not-true (any (has_name n) (take row es ++ drop (suc row) es)) free)))

  header_kept : header_right b ≡ header_right t
  unfolding header_right magic_right
  header_kept =
      let front = put_front t n row whole (at_most_127 t st.rule2) counted ok.short in
      rw (field_by_front 0x20 0 4 t b (omega arith) front, field_by_front 0x20 4 4 t b (omega arith) front)

  count_kept : count_right b ≡ count_right t
  unfolding count_right
  count_kept = rw (put_count t n row whole (at_most_127 t st.rule2) counted ok.short)

  entries_keep : Keeps len es (set es row e')
  unfolding range_aligned range_inside ranges_apart
  entries_keep = record {
    rule3 = all_after_set name_right e' es row st.rule3 (new-name_right n ok old);
    rule4 = names_still_differ;
    rule5 = all_with_like no_entry e' range_aligned es row refl ∙ st.rule5;
    rule6 = all_with_like no_entry e' (range_inside len) es row refl ∙ st.rule6;
    rule7 = pairwise_with_like no_entry e' ranges_apart es row (λ x. refl) (λ x. refl) ∙ st.rule7;
    rule8 = six_still_named;
    named_kept = named_kept;
  }

  pub renamed_replaces : Bytes t → Bytes n → Replaces s len t (put_name t (slot_row (entries t) k) n)
  renamed_replaces ht hn =
      replaces s len t b (set es row e') st entries_after header_kept (count_kept ∙ st.rule2) entries_keep
      (put_length t n row whole (at_most_127 t st.rule2) counted ok.short)
      (put_bytes t n row whole (at_most_127 t st.rule2) counted ok.short ht hn)

  -- the slots start where they did
  pub renamed_starts : starts (put_name t (slot_row (entries t) k) n) ≡ starts t
  unfolding starts
  renamed_starts =
      rw entries_after (slot_starts_kept e' es row old_is_slot (new_is_slot n ok old old_is_slot) refl is_row)
