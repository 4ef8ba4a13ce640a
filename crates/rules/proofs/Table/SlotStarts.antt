-- Where the application slots of a table that stands start: each start is one slot's alone, above 0 and inside the
-- image. Assumes nothing.
use mathlib.Core.Path.{◌≡◌, refl, ◌∙◌}
use mathlib.Core.Bool.{true, false, not, ◌&&◌}
use mathlib.Core.Logic.{inl, inr}
use mathlib.Core.List.{List, [], ◌∷◌, map}
use Rattle.std.specs.Prelude.{Some}
use Prim.Native.Nat.{ℕ, zero, suc, ◌+◌, ◌≤◌, ◌<◌}
use native.Mathlib.Nat.{le_of_suc-le-suc, not-suc-le-zero}
use native.Mathlib.Omega.{arith}
use lib.Dec.{leb}
use borrow.Author.Tests.{eqb-true, eq-eqb, ne_eqb, leb-true, not-true}
use lib.ListN.{length, get_or, length-map, get_or-map}
use Rattle.rules.specs.Lists.{same, all, any, pairwise, keep}
use Rattle.rules.specs.Bytes.{multiple, block_size}
use Rattle.rules.specs.Numbers.{longest, length_right}
use Rattle.rules.specs.declared.Setting.{Setting}
use Rattle.rules.specs.Table.{Entry, entries, name, boot_info, six_names, has_name, is_fixed_name, no_entry, named, range_aligned, range_inside, ranges_apart, six_named, boot_info_at_0, is_slot, slots, slot_starts, starts}
use Rattle.rules.specs.Pointers.{erased_value, all_ones, all_zeros, one_more, slot_at}
use Rattle.rules.proofs.Lists.Tests.{and_true}
use Rattle.rules.proofs.Lists.Combinators.{all_at, all_of_none, all_of_kept, kept_pass, pairwise_of_kept, kept_no_more, first_of_all}
use Rattle.rules.proofs.Order.Ordering.{slot_named, other_values_name}
use Rattle.rules.proofs.Table.Standing.{Standing, at_most_127, length-entries, not_empty, a_block_long, ends_inside, Disjoint, disjoint, different_starts, off_named, named_disjoint, the_block, block_named, block_long}

pub length_fits : (len : ℕ) → length_right len ≡ true → len ≤ longest
unfolding length_right
length_fits len h =
    leb-true len longest (and_true (multiple block_size len && leb block_size len) (leb len longest) h).1

-- as many starts as slots
pub slots_by_starts : (t : List ℕ) (k : ℕ) → k < length (slots (entries t)) → k < length (starts t)
unfolding starts slot_starts
slots_by_starts t k l = rw (length-map (slots (entries t)) (λ (e : Entry). e.start)) l

-- each start names its own slot, is above 0 and inside the longest image; there are no more than entries
pub record SlotStarts (xs : List ℕ) : Type 0 where
  pub own : (k : ℕ) → k < length xs → slot_named xs (get_or xs k 0) ≡ Some k
  pub above_0 : (k : ℕ) → k < length xs → 0 < get_or xs k 0
  pub inside : (k : ℕ) → k < length xs → get_or xs k 0 < longest
  pub few : length xs ≤ 127

abbrev start_of : Entry → ℕ
start_of e = e.start

start_at : (es : List Entry) (k : ℕ) → get_or (map start_of es) k 0 ≡ (get_or es k no_entry).start
unfolding no_entry
start_at es k = get_or-map start_of es k no_entry

finds_own : (es : List Entry)
    → all range_aligned es ≡ true
    → pairwise ranges_apart es ≡ true
    → (k : ℕ)
    → k < length es
    → slot_at (map start_of es) (get_or (map start_of es) k 0) ≡ Some k
unfolding all pairwise slot_at one_more
finds_own [] a p k h = absurd (not-suc-le-zero h)
finds_own (e ∷ es) a p zero h = rw (eq-eqb e.start e.start refl)
finds_own (e ∷ es) a p (suc k) h =
    let (a0, a1) = and_true (range_aligned e) (all range_aligned es) a in
    let (p0, p1) = and_true (all (ranges_apart e) es) (pairwise ranges_apart es) p in
    let l : k < length es = le_of_suc-le-suc h in
    let x : Entry = get_or es k no_entry in
    let d = disjoint e x (all_at (ranges_apart e) es no_entry k p0 l) in
    let px = not_empty x (all_at range_aligned es no_entry k a1 l) in
    let ne = ne_eqb e.start (get_or (map start_of es) k 0)
    (λ q. different_starts e x d (not_empty e a0) px (q ∙ start_at es k)) in
    rw (ne, finds_own es a1 p1 k l)

-- a slot has none of the six names
slot_not_fixed : (e : Entry) → is_slot e ≡ true → (i : ℕ) → i < 6 → has_name (get_or six_names i []) e ≡ false
unfolding is_slot is_fixed_name has_name six_names
slot_not_fixed e h i l =
    let (_, other) = and_true (multiple 4 e.flags) (not (is_fixed_name (name e))) h in
    not-true _ (all_at (λ n. not (same (name e) n)) six_names [] i
    (all_of_none (same (name e)) six_names (not-true (is_fixed_name (name e)) other)) l)

module _ (s : Setting) (len : ℕ) (t : List ℕ) (fits : len ≤ longest) (st : Standing s len t) where
  abbrev ss : List Entry
  ss = keep is_slot (entries t)

  slot_long : (k : ℕ) → k < length ss → block_size ≤ (get_or ss k no_entry).size
  slot_long k l =
      a_block_long (get_or ss k no_entry)
      (all_at range_aligned ss no_entry k (all_of_kept range_aligned is_slot (entries t) st.rule5) l)

  slot_not_empty : (k : ℕ) → k < length ss → 0 < (get_or ss k no_entry).size
  slot_not_empty k l = omega (arith, slot_long k l)

  slot_inside : (k : ℕ) → k < length ss → (get_or ss k no_entry).start + (get_or ss k no_entry).size ≤ len
  slot_inside k l =
      ends_inside len (get_or ss k no_entry)
      (all_at (range_inside len) ss no_entry k (all_of_kept (range_inside len) is_slot (entries t) st.rule6) l)

  -- the first 4,096 bytes of a slot are inside the image
  pub slot_begins_inside : (k : ℕ) → k < length (slots (entries t)) → get_or (starts t) k 0 + block_size ≤ len
  unfolding starts slot_starts slots
  slot_begins_inside k l = rw (start_at ss k) (omega (arith, slot_long k l, slot_inside k l))

  boot_info_named : any (has_name boot_info) (entries t) ≡ true
  unfolding six_named six_names all
  boot_info_named = (and_true (any (has_name boot_info) (entries t)) _ st.rule8).0

  boot_info_start : (named boot_info (entries t)).start ≡ 0
  unfolding boot_info_at_0
  boot_info_start = eqb-true (named boot_info (entries t)).start 0 st.rule9

  boot_info_not_empty : 0 < (named boot_info (entries t)).size
  unfolding named
  boot_info_not_empty =
      not_empty (named boot_info (entries t))
      (first_of_all range_aligned (has_name boot_info) no_entry (entries t) boot_info_named st.rule5)

  -- a slot does not overlap an entry with one of the six names
  pub slot_off_named : (i : ℕ) → i < 6 → any (has_name (get_or six_names i [])) (entries t) ≡ true
      → (k : ℕ)
      → k < length ss
      → Disjoint (named (get_or six_names i []) (entries t)) (get_or ss k no_entry)
  slot_off_named i li there k l =
      let n = get_or six_names i [] in
      named_disjoint (entries t) st.rule7 n there (get_or ss k no_entry)
      (all_at _ ss no_entry k (all_of_kept _ is_slot (entries t) (off_named (entries t) st.rule7 n there)) l)
      (slot_not_fixed (get_or ss k no_entry) (all_at is_slot ss no_entry k (kept_pass is_slot (entries t)) l) i li)

  -- BOOT_INFO starts at 0
  slot_above_0 : (k : ℕ) → k < length ss → 0 < (get_or ss k no_entry).start
  unfolding six_names
  slot_above_0 k l =
      after (named boot_info (entries t)) (get_or ss k no_entry) boot_info_start boot_info_not_empty (slot_not_empty k l)
      (slot_off_named 0 (omega arith) boot_info_named k l)
    where
      after : (b e : Entry) → b.start ≡ 0 → 0 < b.size → 0 < e.size → Disjoint b e → 0 < e.start
      after b e z p q (inl d) = omega arith
      after b e z p q (inr d) = absurd (omega arith)

  -- nor, with its first 4,096 bytes, the first granule of one of the four blocks
  pub slot_off_block : (i : ℕ) → i < 4
      → (k : ℕ)
      → k < length (slots (entries t))
      → (j : ℕ)
      → (get_or (starts t) k 0 ≤ j) × (j < get_or (starts t) k 0 + block_size)
      → ((the_block s len t st i).start ≤ j) × (j < (the_block s len t st i).start + s.granule)
      → ⊥
  unfolding starts slot_starts slots six_names
  slot_off_block i li k l j (from, to) (at_least, below) =
      apart (the_block s len t st i) (get_or ss k no_entry) (block_long s len t st i li) (slot_long k l)
      (slot_off_named (suc (suc i)) (omega arith) (block_named s len t st i li) k l) (rw (start_at ss k) at from) (rw (start_at ss k) at to)
      at_least below
    where
      apart : (b e : Entry) → s.granule ≤ b.size → block_size ≤ e.size → Disjoint b e
          → e.start ≤ j
          → j < e.start + block_size
          → b.start ≤ j
          → j < b.start + s.granule
          → ⊥
      apart b e p q (inl d) x y z w = omega arith
      apart b e p q (inr d) x y z w = omega arith

  kept_start : (k : ℕ) → k < length ss → get_or (map start_of ss) k 0 < longest
  kept_start k l = rw (start_at ss k) (omega (arith, slot_not_empty k l, slot_inside k l))

  kept_above_0 : (k : ℕ) → k < length ss → 0 < get_or (map start_of ss) k 0
  kept_above_0 k l = rw (start_at ss k) (slot_above_0 k l)

  not_all_ones : (v : ℕ) → v < longest → all_ones v ≡ false
  unfolding all_ones
  not_all_ones v h = ne_eqb v erased_value (λ e. omega arith)

  not_all_zeros : (v : ℕ) → 0 < v → all_zeros v ≡ false
  unfolding all_zeros
  not_all_zeros v h = ne_eqb v 0 (λ e. omega arith)

  names_own : (k : ℕ) → k < length ss → slot_named (map start_of ss) (get_or (map start_of ss) k 0) ≡ Some k
  names_own k l =
      other_values_name (map start_of ss) (get_or (map start_of ss) k 0)
      (not_all_ones (get_or (map start_of ss) k 0) (kept_start k l))
      (not_all_zeros (get_or (map start_of ss) k 0) (kept_above_0 k l))
      ∙ finds_own ss (all_of_kept range_aligned is_slot (entries t) st.rule5)
      (pairwise_of_kept ranges_apart is_slot (entries t) st.rule7) k l

  pub slot_starts_right : SlotStarts (starts t)
  unfolding starts slot_starts slots
  slot_starts_right =
      let short : (k : ℕ) → k < length (map start_of ss) → k < length ss = λ k h. rw (length-map ss start_of) at h in
      record {
        own = λ k h. names_own k (short k h);
        above_0 = λ k h. kept_above_0 k (short k h);
        inside = λ k h. kept_start k (short k h);
        few = rw (length-map ss start_of)
            (omega (arith, kept_no_more is_slot (entries t), length-entries t, at_most_127 t st.rule2));
      }
