-- What is known once a flash has a view: the copies read stand, and every block lies inside the image. Assumes nothing.
use mathlib.Core.Path.{◌≡◌, refl, subst}
use mathlib.Core.Bool.{Bool, true, not, ◌&&◌}
use mathlib.Core.Logic.{inl, inr}
use mathlib.Core.List.{List}
use Prim.Native.Nat.{ℕ, ◌+◌, ◌≤◌}
use native.Mathlib.Omega.{arith}
use lib.Dec.{eqb, leb}
use borrow.Author.Tests.{leb-true}
use lib.ListN.{length}
use Rattle.rules.specs.Bytes.{block, block_size, multiple}
use Rattle.rules.specs.Answers.{given}
use Rattle.rules.specs.Numbers.{length_right, granule_right, address_right, addresses_right}
use Rattle.rules.specs.declared.Setting.{Setting}
use Rattle.rules.specs.Table.{cpb0_of, cpb1_of, table_stands}
use Rattle.rules.specs.Pointers.{pointers_stand}
use Rattle.rules.specs.Copies.{copy_read, no_table, table_read, pointers_read, view_through, view}
use Rattle.rules.specs.declared.Refusal.{Refusal}
use Rattle.rules.specs.declared.View.{View}
use Rattle.rules.proofs.Lists.Tests.{and_true, unless-given, bind_given, given_inj}
use Rattle.rules.proofs.Copies.CopyRead.{which_address, WhichAddress}
use Rattle.rules.proofs.Table.Standing.{FourBlocks, standing, at_most_127, four_blocks}
use Rattle.rules.proofs.Claim.Invariant.{granule_holds_block}
use Rattle.bounds.specs.Inner.Due.{due}
use Rattle.bounds.proofs.FirstDue.{none_due}
use Rattle.views.specs.Inner.Followed.{BothInside, Followed}
use Rattle.rules.specs.declared.Refusal.TheVariants.{BadLength, BadGranule, BadAddresses, NoPointers}

-- ---- a copy that is read

module _ (why : Refusal) (stands : List ℕ → Bool) (img : List ℕ) (a0 a1 a : ℕ)
    (h : copy_read why stands img a0 a1 ≡ given a) where
  copy_stands : stands (block img a) ≡ true
  copy_stands = split (which_address why stands img a0 a1 a h)
    where
      split : WhichAddress stands img a0 a1 a → stands (block img a) ≡ true
      split (inl (t, e)) = rw (← e) t
      split (inr (f, t, e)) = rw (← e) t

  -- what holds of both addresses holds of the one that is read
  of_either : (P : ℕ → Type 0) → P a0 → P a1 → P a
  of_either P p0 p1 = split (which_address why stands img a0 a1 a h)
    where
      split : WhichAddress stands img a0 a1 a → P a
      split (inl (t, e)) = subst P e p0
      split (inr (f, t, e)) = subst P e p1

-- ---- the view

-- what a view says of the flash
pub record Seen (s : Setting) (img : List ℕ) (v : View) : Type 0 where
  pub long : length_right (length img) ≡ true
  pub grained : granule_right s.granule ≡ true
  pub placed : addresses_right s (length img) ≡ true
  pub same_spt0 : v.spt0 ≡ s.spt0
  pub same_spt1 : v.spt1 ≡ s.spt1
  pub same_cpb0 : v.cpb0 ≡ cpb0_of (block img v.table)
  pub same_cpb1 : v.cpb1 ≡ cpb1_of (block img v.table)
  pub table_copy : table_read s img ≡ given v.table
  pub pointer_copy : pointers_read img (block img v.table) ≡ given v.pointers

pub seen : (s : Setting) (img : List ℕ) (v : View) → view s img ≡ given v → Seen s img v
unfolding view view_through
seen s img v h =
    let (long, h1) = unless-given BadLength (length_right (length img)) _ v h in
    let (grained, h2) = unless-given BadGranule (granule_right s.granule) _ v h1 in
    let (placed, h3) = unless-given BadAddresses (addresses_right s (length img)) _ v h2 in
    let (at, table, h4) = bind_given (table_read s img) (view_through s img) v h3 in
    let (p, pointers, h5) = bind_given (pointers_read img (block img at)) _ v h4 in
    rw (← given_inj _ v h5) (record {
      long = long;
      grained = grained;
      placed = placed;
      same_spt0 = refl;
      same_spt1 = refl;
      same_cpb0 = refl;
      same_cpb1 = refl;
      table_copy = table;
      pointer_copy = pointers;
    })

-- ---- the addresses that the caller gives

module _ (s : Setting) (len : ℕ) (placed : addresses_right s len ≡ true) where
  address_inside : (a : ℕ) → address_right s.granule len a ≡ true → a + s.granule ≤ len
  unfolding address_right
  address_inside a h = leb-true (a + s.granule) len (and_true (multiple s.granule a) (leb (a + s.granule) len) h).1

  pub told_inside : (s.spt0 + s.granule ≤ len) × (s.spt1 + s.granule ≤ len)
  unfolding addresses_right
  told_inside =
      let (front, right1) = and_true
      (not (eqb s.spt0 s.spt1) && address_right s.granule len s.spt0)
      (address_right s.granule len s.spt1) placed in
      let (_, right0) = and_true (not (eqb s.spt0 s.spt1)) (address_right s.granule len s.spt0) front in
      (address_inside s.spt0 right0, address_inside s.spt1 right1)

-- if none of refusals 1 to 3 is due, both table copies are inside the image
pub none_due_inside : (s : Setting) (img : List ℕ) → due s (length img) ≡ given tt → BothInside s img
none_due_inside s img e =
    let k = none_due s (length img) e in
    let holds = granule_holds_block s.granule k.grained in
    let (inside0, inside1) = told_inside s (length img) k.placed in
    record { spt0_inside = omega arith; spt1_inside = omega arith; some_granule = omega arith }

-- ---- a table that stands can be followed

pub followed : (s : Setting) (img : List ℕ) (at : ℕ) → block_size ≤ s.granule → at + block_size ≤ length img
    → table_stands s (length img) (block img at) ≡ true → Followed img at
followed s img at holds inside h =
    let st = standing s (length img) (block img at) h in
    let blocks = four_blocks s (length img) (block img at) st in
    record {
      table_inside = inside;
      count_right = at_most_127 (block img at) st.rule2;
      cpb0_inside = omega (arith, blocks.cpb0_inside);
      cpb1_inside = omega (arith, blocks.cpb1_inside);
    }

-- the table that is read can be followed
pub read_followed : (s : Setting) (img : List ℕ) (at : ℕ) → due s (length img) ≡ given tt → table_read s img ≡ given at
    → Followed img at
unfolding table_read
read_followed s img at e h =
    let k = none_due s (length img) e in
    let holds = granule_holds_block s.granule k.grained in
    let inside = none_due_inside s img e in
    let why = no_table s img in
    let stands = table_stands s (length img) in
    followed s img at holds
    (of_either why stands img s.spt0 s.spt1 at h (λ (a : ℕ). a + block_size ≤ length img) inside.spt0_inside inside.spt1_inside)
    (copy_stands why stands img s.spt0 s.spt1 at h)

-- ---- the copies read

module _ (s : Setting) (img : List ℕ) (v : View) (k : Seen s img v) where
  holds : block_size ≤ s.granule
  holds = granule_holds_block s.granule k.grained

  pub table_read_stands : table_stands s (length img) (block img v.table) ≡ true
  unfolding table_read
  table_read_stands =
      copy_stands (no_table s img) (table_stands s (length img)) img s.spt0 s.spt1 v.table k.table_copy

  pub pointers_read_stand : pointers_stand (block img v.pointers) ≡ true
  unfolding pointers_read
  pointers_read_stand =
      copy_stands NoPointers pointers_stand img (cpb0_of (block img v.table)) (cpb1_of (block img v.table)) v.pointers
      k.pointer_copy

  pub blocks_inside : FourBlocks s.granule (length img) s.spt0 s.spt1 v.cpb0 v.cpb1
  blocks_inside =
      rw (k.same_cpb0, k.same_cpb1)
      (four_blocks s (length img) (block img v.table)
      (standing s (length img) (block img v.table) table_read_stands))

  pub table_followed : Followed img v.table
  unfolding table_read
  table_followed =
      let (inside0, inside1) = told_inside s (length img) k.placed in
      followed s img v.table holds
      (of_either (no_table s img) (table_stands s (length img)) img s.spt0 s.spt1 v.table k.table_copy
      (λ (a : ℕ). a + block_size ≤ length img) (omega (arith, holds)) (omega (arith, holds)))
      table_read_stands

  pub pointers_inside : v.pointers + block_size ≤ length img
  unfolding pointers_read
  pointers_inside =
      of_either NoPointers pointers_stand img (cpb0_of (block img v.table)) (cpb1_of (block img v.table)) v.pointers
      k.pointer_copy (λ (a : ℕ). a + block_size ≤ length img)
      table_followed.cpb0_inside table_followed.cpb1_inside
