-- Reading with the smallest granule, in plain words.
--
-- Beside refusals 2 and 3 the granule matters to a reader in one rule of a table alone: the four blocks start at a
-- multiple of it and are at least one granule long. A table copy that stands with a larger granule stands with 4,096
-- too. So flash whose pairs agree under a larger granule reads the same with 4,096: the same view, boot order and table,
-- and its pairs agree.
-- Where the pairs do not agree, another copy may be read: one that stands with 4,096 only. Assumes nothing.
use mathlib.Core.Path.{◌≡◌, refl}
use mathlib.Core.Bool.{true, not, ◌||◌}
use mathlib.Core.Logic.{◌⊎◌, inl, inr}
use mathlib.Core.List.{List}
use Prim.Native.Nat.{ℕ, ◌+◌, ◌≤◌, ◌%◌}
use native.Mathlib.Omega.{arith}
use lib.Dec.{eqb, leb}
use borrow.Author.Tests.{eqb-true, eq-eqb, leb-true, le-leb}
use lib.ListN.{length}
use Rattle.rules.specs.Bytes.{multiple, block}
use Rattle.rules.specs.Answers.{Answer, refused, given}
use Rattle.rules.specs.Numbers.{granule_right, address_right, addresses_right}
use Rattle.rules.specs.declared.Setting.{Setting}
use Rattle.rules.specs.Table.{Entry, entries, on_granules, named, blocks_on_granules, tables_as_told, table_stands}
use Rattle.rules.specs.Copies.{copy_read, table_read, view_through, view, pair_agrees, tables_agree, pointers_agree, agree_by, agreed, pairs_agree}
use Rattle.rules.specs.Readers.{order_list, table_part}
use Rattle.rules.specs.Book.{reading}
use Rattle.rules.specs.declared.View.{View}
use Rattle.rules.proofs.Lists.Tests.{clash, and_true, both_true, or_true}
use Rattle.rules.proofs.Copies.CopyRead.{agree_equal, equal_agree}
use Rattle.rules.proofs.Lists.Combinators.{all_weaker}
use Rattle.rules.proofs.Table.Standing.{standing, stands}
use Rattle.rules.proofs.Claim.Viewing.{Viewed, viewed}
use Rattle.unread.specs.SmallestGranule.{smallest}

-- ---- a multiple of a granule is a multiple of 4,096

abbrev OneOfThree : ℕ → Type 0
OneOfThree g = (g ≡ 4096) ⊎ ((g ≡ 32768) ⊎ (g ≡ 65536))

one_of_three : (g : ℕ) → granule_right g ≡ true → OneOfThree g
unfolding granule_right
one_of_three g h = split (or_true _ _ h)
  where
    split : ((eqb g 4096 || eqb g 32768) ≡ true) ⊎ (eqb g 65536 ≡ true) → OneOfThree g
    split (inl x) = split_two (or_true _ _ x)
      where
        split_two : (eqb g 4096 ≡ true) ⊎ (eqb g 32768 ≡ true) → OneOfThree g
        split_two (inl y) = inl (eqb-true g 4096 y)
        split_two (inr y) = inr (inl (eqb-true g 32768 y))
    split (inr x) = inr (inr (eqb-true g 65536 x))

multiple_too : (g n : ℕ) → OneOfThree g → multiple g n ≡ true → multiple 4096 n ≡ true
unfolding multiple
multiple_too g n (inl e) h = rw e at h
multiple_too g n (inr (inl e)) h =
    let z : n % 32768 ≡ 0 = eqb-true (n % 32768) 0 (rw e at h) in
    eq-eqb (n % 4096) 0 (omega (arith, z))
multiple_too g n (inr (inr e)) h =
    let z : n % 65536 ≡ 0 = eqb-true (n % 65536) 0 (rw e at h) in
    eq-eqb (n % 4096) 0 (omega (arith, z))

at_least : (g : ℕ) → OneOfThree g → 4096 ≤ g
at_least g (inl e) = omega (arith, e)
at_least g (inr (inl e)) = omega (arith, e)
at_least g (inr (inr e)) = omega (arith, e)

-- ---- a table that stands, and addresses that are right

module _ (s : Setting) (right : granule_right s.granule ≡ true) where
  three : OneOfThree s.granule
  three = one_of_three s.granule right

  on_granules_too : (e : Entry) → on_granules s.granule e ≡ true → on_granules 4096 e ≡ true
  unfolding on_granules
  on_granules_too e h =
      let (aligned, long) = and_true (multiple s.granule e.start) (leb s.granule e.size) h in
      both_true _ _ (multiple_too s.granule e.start three aligned)
      (le-leb 4096 e.size (omega (arith, at_least s.granule three, leb-true s.granule e.size long)))

  pub stands_too : (len : ℕ) (t : List ℕ) → table_stands s len t ≡ true → table_stands (smallest s) len t ≡ true
  unfolding blocks_on_granules tables_as_told
  stands_too len t h =
      let st = standing s len t h in
      stands (smallest s) len t (record {
        rule1 = st.rule1;
        rule2 = st.rule2;
        rule3 = st.rule3;
        rule4 = st.rule4;
        rule5 = st.rule5;
        rule6 = st.rule6;
        rule7 = st.rule7;
        rule8 = st.rule8;
        rule9 = st.rule9;
        rule10 = st.rule10;
        rule11 = all_weaker _ _ (λ n. on_granules_too (named n (entries t))) _ st.rule11;
      })

  address_too : (len a : ℕ) → address_right s.granule len a ≡ true → address_right 4096 len a ≡ true
  unfolding address_right
  address_too len a h =
      let (aligned, inside) = and_true (multiple s.granule a) (leb (a + s.granule) len) h in
      both_true _ _ (multiple_too s.granule a three aligned)
      (le-leb (a + 4096) len (omega (arith, at_least s.granule three, leb-true (a + s.granule) len inside)))

  addresses_too : (len : ℕ) → addresses_right s len ≡ true → addresses_right (smallest s) len ≡ true
  unfolding addresses_right
  addresses_too len h =
      let (h01, right1) = and_true _ _ h in
      let (differ, right0) = and_true (not (eqb s.spt0 s.spt1)) _ h01 in
      rw (differ, address_too len s.spt0 right0, address_too len s.spt1 right1)

-- ---- flash whose pairs agree

module _ (s : Setting) (img : List ℕ) (agree : pairs_agree s img ≡ true) where
  -- the flash has a view, and both table copies stand and are equal
  record Agreeing : Type 0 where
    pub seen : View
    pub is_view : view s img ≡ given seen
    pub agrees : agree_by s img seen ≡ true

  agreeing : Agreeing
  unfolding pairs_agree agreed
  agreeing = by_view (view s img) refl agree
    where
      by_view : (a : Answer View) → view s img ≡ a → agreed s img a ≡ true → Agreeing
      by_view (refused n) e h = absurd (clash (agreed s img (refused n)) h refl)
      by_view (given v) e h = record { seen = v; is_view = e; agrees = h }

  abbrev v : View
  v = agreeing.seen

  abbrev w : Viewed s img v
  w = viewed s img v agreeing.is_view

  tables_agree_there : tables_agree s img ≡ true
  unfolding agree_by
  tables_agree_there = (and_true (tables_agree s img) (pointers_agree img v) agreeing.agrees).0

  first_stands : table_stands s (length img) (block img s.spt0) ≡ true
  unfolding tables_agree pair_agrees
  first_stands = (and_true _ _ (and_true _ _ tables_agree_there).0).0

  first_stands_too : table_stands (smallest s) (length img) (block img s.spt0) ≡ true
  first_stands_too = stands_too s w.refusal2 (length img) (block img s.spt0) first_stands

  -- the first table copy is read, with either granule
  table_read_too : table_read (smallest s) img ≡ table_read s img
  unfolding table_read copy_read
  table_read_too = rw (first_stands, first_stands_too)

  pub view_too : view (smallest s) img ≡ view s img
  unfolding view view_through
  view_too =
      rw (
        table_read_too,
        w.refusal2,
        w.refusal3,
        4096_right,
        addresses_too s w.refusal2 (length img) w.refusal3,
      )
    where
      4096_right : granule_right 4096 ≡ true
      4096_right = unfold granule_right in refl

  pub order_list_too : (room : ℕ) → order_list (smallest s) img room ≡ order_list s img room
  unfolding order_list
  order_list_too room = rw view_too

  pub table_part_too : table_part (smallest s) img ≡ table_part s img
  unfolding table_part
  table_part_too = rw view_too

  pub reading_too : reading (smallest s) img ≡ reading s img
  unfolding reading
  reading_too = rw view_too

  pub pairs_agree_too : pairs_agree (smallest s) img ≡ true
  unfolding pairs_agree agreed agree_by tables_agree
  pairs_agree_too =
      rw (view_too, agreeing.is_view)
      (both_true _ _
      (equal_agree (table_stands (smallest s) (length img)) img s.spt0 s.spt1 first_stands_too
      (agree_equal (table_stands s (length img)) img s.spt0 s.spt1 tables_agree_there))
      (and_true (tables_agree s img) (pointers_agree img v) agreeing.agrees).1)
