-- What a table that stands says: its eleven rules, one by one, and that the first granules of its four blocks lie
-- apart. Assumes nothing.
use mathlib.Core.Path.{◌≡◌, refl, sym, ap, ◌∙◌}
use mathlib.Core.Bool.{Bool, true, false, not, ◌&&◌, ◌||◌}
use mathlib.Core.Logic.{◌⊎◌, inl, inr}
use mathlib.Core.List.{List, [], ◌∷◌}
use Prim.Native.Nat.{ℕ, zero, suc, ◌+◌, ◌≤◌, ◌<◌, ◌%◌}
use native.Mathlib.Omega.{arith}
use lib.Dec.{eqb, leb}
use borrow.Author.Tests.{eqb-true, eqb-false, leb-true, not-true}
use lib.ListN.{length, get_or, drop}
use Rattle.rules.specs.Lists.{same, all, any, pairwise}
use Rattle.rules.specs.Bytes.{multiple, block_size}
use Rattle.rules.specs.declared.Setting.{Setting}
use Rattle.rules.specs.Table.{Entry, entry_count, entries_from, entries, name, boot_info, factory_image, spt0_name, spt1_name, cpb0_name, cpb1_name, six_names, has_name, no_entry, named, cpb0_of, cpb1_of, header_right, count_right, name_right, names_differ, range_aligned, range_inside, ranges_apart, six_named, boot_info_at_0, tables_as_told, block_names, on_granules, blocks_on_granules, entries_stand, table_stands}
use Rattle.rules.proofs.Lists.Tests.{by_cases, clash, and_true, or_true, same_true, same_of}
use Rattle.rules.proofs.Lists.Combinators.{all_at, first_passes, first_of_all, first_with_others}

-- ---- the eleven rules

pub record Standing (s : Setting) (len : ℕ) (t : List ℕ) : Type 0 where
  pub rule1 : header_right t ≡ true
  pub rule2 : count_right t ≡ true
  pub rule3 : all name_right (entries t) ≡ true
  pub rule4 : pairwise names_differ (entries t) ≡ true
  pub rule5 : all range_aligned (entries t) ≡ true
  pub rule6 : all (range_inside len) (entries t) ≡ true
  pub rule7 : pairwise ranges_apart (entries t) ≡ true
  pub rule8 : six_named (entries t) ≡ true
  pub rule9 : boot_info_at_0 (entries t) ≡ true
  pub rule10 : tables_as_told s (entries t) ≡ true
  pub rule11 : blocks_on_granules s (entries t) ≡ true

pub standing : (s : Setting) (len : ℕ) (t : List ℕ) → table_stands s len t ≡ true → Standing s len t
unfolding table_stands entries_stand
standing s len t h =
    let (h12, e) = and_true _ _ h in
    let (h1, h2) = and_true (header_right t) (count_right t) h12 in
    let (h10, h11) = and_true _ _ e in
    let (h9, h10) = and_true _ _ h10 in
    let (h8, h9) = and_true _ _ h9 in
    let (h7, h8) = and_true _ _ h8 in
    let (h6, h7) = and_true _ _ h7 in
    let (h5, h6) = and_true _ _ h6 in
    let (h4, h5) = and_true _ _ h5 in
    let (h3, h4) = and_true (all name_right (entries t)) (pairwise names_differ (entries t)) h4 in
    record {
      rule1 = h1;
      rule2 = h2;
      rule3 = h3;
      rule4 = h4;
      rule5 = h5;
      rule6 = h6;
      rule7 = h7;
      rule8 = h8;
      rule9 = h9;
      rule10 = h10;
      rule11 = h11;
    }

pub stands : (s : Setting) (len : ℕ) (t : List ℕ) → Standing s len t → table_stands s len t ≡ true
unfolding table_stands entries_stand
stands s len t st =
    rw (st.rule1, st.rule2, st.rule3, st.rule4, st.rule5, st.rule6, st.rule7, st.rule8, st.rule9, st.rule10)
    st.rule11

-- ---- the rules as facts about numbers

pub at_most_127 : (t : List ℕ) → count_right t ≡ true → entry_count t ≤ 127
unfolding count_right
at_most_127 t h = leb-true (entry_count t) 127 (and_true (leb 1 (entry_count t)) (leb (entry_count t) 127) h).1

pub length-entries_from : (n : ℕ) (bs : List ℕ) → length (entries_from n bs) ≡ n
unfolding entries_from
length-entries_from zero bs = refl
length-entries_from (suc n) bs = ap suc (length-entries_from n (drop 32 bs))

pub length-entries : (t : List ℕ) → length (entries t) ≡ entry_count t
unfolding entries
length-entries t = length-entries_from (entry_count t) (drop 0x20 t)

-- rule 8: the i-th of the six names is there
pub named_there : (es : List Entry) → six_named es ≡ true → (i : ℕ) → i < 6 → any (has_name (get_or six_names i [])) es ≡ true
unfolding six_named six_names
named_there es rule8 i l = all_at (λ n. any (has_name n) es) six_names [] i rule8 l

pub not_empty : (e : Entry) → range_aligned e ≡ true → 0 < e.size
unfolding range_aligned
not_empty e h =
    let (_, n) = and_true (multiple block_size e.start && multiple block_size e.size) (not (eqb e.size 0)) h in
    let z = eqb-false e.size 0 (not-true (eqb e.size 0) n) in
    positive e.size z
  where
    positive : (n : ℕ) → (n ≡ 0 → ⊥) → 0 < n
    positive zero z = absurd (z refl)
    positive (suc n) z = omega arith

pub a_block_long : (e : Entry) → range_aligned e ≡ true → block_size ≤ e.size
unfolding range_aligned multiple
a_block_long e h =
    let (aligned, _) = and_true (multiple block_size e.start && multiple block_size e.size) (not (eqb e.size 0)) h in
    let z = eqb-true (e.size % block_size) 0 (and_true (multiple block_size e.start) (multiple block_size e.size) aligned).1 in
    omega (arith, z, not_empty e h)

pub ends_inside : (len : ℕ) (e : Entry) → range_inside len e ≡ true → e.start + e.size ≤ len
unfolding range_inside
ends_inside len e h = leb-true (e.start + e.size) len h

granule_long : (g : ℕ) (e : Entry) → on_granules g e ≡ true → g ≤ e.size
unfolding on_granules
granule_long g e h = leb-true g e.size (and_true (multiple g e.start) (leb g e.size) h).1

abbrev pub Disjoint : Entry → Entry → Type 0
Disjoint d e = (d.start + d.size ≤ e.start) ⊎ (e.start + e.size ≤ d.start)

pub disjoint : (d e : Entry) → ranges_apart d e ≡ true → Disjoint d e
unfolding ranges_apart
disjoint d e h = split (or_true (leb (d.start + d.size) e.start) (leb (e.start + e.size) d.start) h)
  where
    split : (leb (d.start + d.size) e.start ≡ true) ⊎ (leb (e.start + e.size) d.start ≡ true) → Disjoint d e
    split (inl t) = inl (leb-true (d.start + d.size) e.start t)
    split (inr t) = inr (leb-true (e.start + e.size) d.start t)

pub different_starts : (d e : Entry) → Disjoint d e → 0 < d.size → 0 < e.size → d.start ≡ e.start → ⊥
different_starts d e (inl h) p q s = omega arith
different_starts d e (inr h) p q s = omega arith

-- ---- entries by name

one_name : (n m : List ℕ) (e : Entry) → has_name n e ≡ true → has_name m e ≡ true → n ≡ m
unfolding has_name
one_name n m e h k = sym (same_true (name e) n h) ∙ same_true (name e) m k

module _ (es : List Entry) (apart : pairwise ranges_apart es ≡ true) (n : List ℕ)
    (there : any (has_name n) es ≡ true) where
  abbrev pub OffNamed : Entry → Bool
  OffNamed e = has_name n e || (ranges_apart (named n es) e || ranges_apart e (named n es))

  pub off_named : all OffNamed es ≡ true
  unfolding named
  off_named = first_with_others ranges_apart (has_name n) no_entry es apart there

  -- an entry of another name lies apart from the one of this name
  pub named_disjoint : (e : Entry) → OffNamed e ≡ true → has_name n e ≡ false → Disjoint (named n es) e
  named_disjoint e h f = split (or_true (ranges_apart (named n es) e) (ranges_apart e (named n es)) (rw f at h))
    where
      swap : Disjoint e (named n es) → Disjoint (named n es) e
      swap (inl d) = inr d
      swap (inr d) = inl d

      split : (ranges_apart (named n es) e ≡ true) ⊎ (ranges_apart e (named n es) ≡ true) → Disjoint (named n es) e
      split (inl t) = disjoint (named n es) e t
      split (inr t) = swap (disjoint e (named n es) t)

  two_named_disjoint : (m : List ℕ) → any (has_name m) es ≡ true → (n ≡ m → ⊥) → Disjoint (named n es) (named m es)
  two_named_disjoint m a ne =
      named_disjoint (named m es) (unfold named in first_of_all OffNamed (has_name m) no_entry es a off_named)
      (by_cases (has_name n (named m es))
      (λ t. absurd (ne (one_name n m (named m es) t (unfold named in first_passes (has_name m) no_entry es a))))
      (λ f. f))

-- ---- the four blocks

-- the n bytes from a and the n bytes from b have none in common
abbrev pub Apart : ℕ → ℕ → ℕ → Type 0
Apart n a b = (a + n ≤ b) ⊎ (b + n ≤ a)

-- first granules of the four blocks, in an image of this length
pub record FourBlocks (g len t0 t1 c0 c1 : ℕ) : Type 0 where
  pub spt0_inside : t0 + g ≤ len
  pub spt1_inside : t1 + g ≤ len
  pub cpb0_inside : c0 + g ≤ len
  pub cpb1_inside : c1 + g ≤ len
  pub tables_apart : Apart g t0 t1
  pub pointers_apart : Apart g c0 c1
  pub spt0_cpb0 : Apart g t0 c0
  pub spt0_cpb1 : Apart g t0 c1
  pub spt1_cpb0 : Apart g t1 c0
  pub spt1_cpb1 : Apart g t1 c1

granules_apart : (g : ℕ) (d e : Entry) → g ≤ d.size → g ≤ e.size → Disjoint d e → Apart g d.start e.start
granules_apart g d e p q (inl h) = inl (omega arith)
granules_apart g d e p q (inr h) = inr (omega arith)

module _ (s : Setting) (len : ℕ) (t : List ℕ) (st : Standing s len t) where
  abbrev pub the_block : ℕ → Entry
  the_block i = named (get_or block_names i []) (entries t)

  pub block_named : (i : ℕ) → i < 4 → any (has_name (get_or block_names i [])) (entries t) ≡ true
  unfolding all
  block_named i l =
      all_at (λ n. any (has_name n) (entries t)) block_names [] i
      (and_true (any (has_name factory_image) (entries t)) _
      (and_true (any (has_name boot_info) (entries t)) _ six).1).1
      l
    where
      six : all (λ n. any (has_name n) (entries t)) (boot_info ∷ factory_image ∷ block_names) ≡ true
      six = unfold six_named six_names in st.rule8

  pub block_long : (i : ℕ) → i < 4 → s.granule ≤ (the_block i).size
  unfolding blocks_on_granules
  block_long i l =
      granule_long s.granule (the_block i)
      (all_at (λ n. on_granules s.granule (named n (entries t))) block_names [] i st.rule11 l)

  block_inside : (i : ℕ) → i < 4 → (the_block i).start + s.granule ≤ len
  block_inside i l =
      let inside = ends_inside len (the_block i)
      (unfold named in first_of_all (range_inside len) _ no_entry (entries t) (block_named i l) st.rule6) in
      omega (arith, block_long i l)

  blocks_apart : (i j : ℕ) → i < 4 → j < 4
      → same (get_or block_names i []) (get_or block_names j []) ≡ false
      → Apart s.granule (the_block i).start (the_block j).start
  blocks_apart i j li lj ne =
      granules_apart s.granule (the_block i) (the_block j) (block_long i li) (block_long j lj)
      (two_named_disjoint (entries t) st.rule7
      (get_or block_names i []) (block_named i li) (get_or block_names j []) (block_named j lj)
      (λ e. clash (same (get_or block_names i []) (get_or block_names j [])) (same_of _ _ e) ne))

  pub spt0_told : (named spt0_name (entries t)).start ≡ s.spt0
  unfolding tables_as_told
  spt0_told = eqb-true _ s.spt0 (and_true (eqb (named spt0_name (entries t)).start s.spt0) _ st.rule10).0

  pub spt1_told : (named spt1_name (entries t)).start ≡ s.spt1
  unfolding tables_as_told
  spt1_told = eqb-true _ s.spt1 (and_true (eqb (named spt0_name (entries t)).start s.spt0) _ st.rule10).1

  pub four_blocks : FourBlocks s.granule len s.spt0 s.spt1 (cpb0_of t) (cpb1_of t)
  unfolding same spt0_name spt1_name cpb0_name cpb1_name cpb0_of cpb1_of
  four_blocks = rw (← spt0_told, ← spt1_told) record {
    spt0_inside = block_inside 0 (omega arith);
    spt1_inside = block_inside 1 (omega arith);
    cpb0_inside = block_inside 2 (omega arith);
    cpb1_inside = block_inside 3 (omega arith);
    tables_apart = blocks_apart 0 1 (omega arith) (omega arith) refl;
    pointers_apart = blocks_apart 2 3 (omega arith) (omega arith) refl;
    spt0_cpb0 = blocks_apart 0 2 (omega arith) (omega arith) refl;
    spt0_cpb1 = blocks_apart 0 3 (omega arith) (omega arith) refl;
    spt1_cpb0 = blocks_apart 1 2 (omega arith) (omega arith) refl;
    spt1_cpb1 = blocks_apart 1 3 (omega arith) (omega arith) refl;
  }
