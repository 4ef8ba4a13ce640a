-- What holds of the flash after every item of a list, and how a change of one of the two pairs keeps it. Assumes
-- nothing.
use mathlib.Core.Path.{◌≡◌}
use mathlib.Core.Bool.{Bool, true, false, ◌||◌}
use mathlib.Core.Logic.{◌⊎◌, inl, inr}
use mathlib.Core.List.{List}
use Prim.Native.Nat.{ℕ, ◌≤◌}
use native.Mathlib.Omega.{arith}
use lib.Dec.{eqb}
use borrow.Author.Tests.{eqb-true}
use lib.ListN.{length}
use Rattle.rules.specs.Bytes.{Bytes, block, block_size}
use Rattle.rules.specs.Answers.{given, unless, ◌>>=◌}
use Rattle.rules.specs.Numbers.{length_right, granule_right, addresses_right}
use Rattle.rules.specs.declared.Setting.{Setting}
use Rattle.rules.specs.Table.{table_magic, magic_right, header_right, table_stands, starts, cpb0_of, cpb1_of}
use Rattle.rules.specs.Pointers.{pointers_stand}
use Rattle.rules.specs.Copies.{copy_read, no_table, table_read, pointers_read, view_through, view, order_by, boot_order, tables_agree, pointers_agree, agree_by, agreed, pairs_agree}
use Rattle.rules.specs.Book.{Reading, read_by, reading}
use Rattle.rules.specs.declared.View.{View}
use Rattle.rules.proofs.Lists.Tests.{and_true, or_true}
use Rattle.rules.proofs.Copies.CopyRead.{WhichAddress, which_address, read_stands, equal_read, address_read, agree_equal, equal_agree}
use Rattle.rules.proofs.Steps.Frame.{Only, Range, only_then, only_wider, block_kept}
use Rattle.rules.proofs.Steps.RewriteCuts.{Torn, torn_magic}
use Rattle.rules.proofs.Copies.PairCuts.{Two, Pair, Reads}
use Rattle.rules.proofs.Pointers.PointerHeader.{two_pointer_blocks}
use Rattle.rules.proofs.Table.Standing.{Standing, standing, Apart, FourBlocks}
use Rattle.rules.proofs.Table.SlotStarts.{length_fits, SlotStarts, slot_starts_right}
use Rattle.rules.specs.declared.Refusal.TheVariants.{NoPointers}

pub table_torn : (s : Setting) (len : ℕ) (t : List ℕ) → Torn t → table_stands s len t ≡ false
unfolding table_stands header_right magic_right
table_torn s len t torn = rw (torn_magic table_magic (record { not_erased = λ e. omega arith; not_zero = λ e. omega arith; highest_not_erased = omega arith }) t torn)

pub granule_holds_block : (g : ℕ) → granule_right g ≡ true → block_size ≤ g
unfolding granule_right
granule_holds_block g h = third (or_true (eqb g 4096 || eqb g 32768) (eqb g 65536) h)
  where
    first : (eqb g 4096 ≡ true) ⊎ (eqb g 32768 ≡ true) → block_size ≤ g
    first (inl e) = omega (arith, eqb-true g 4096 e)
    first (inr e) = omega (arith, eqb-true g 32768 e)

    third : (eqb g 4096 || eqb g 32768 ≡ true) ⊎ (eqb g 65536 ≡ true) → block_size ≤ g
    third (inl e) = first (or_true (eqb g 4096) (eqb g 32768) e)
    third (inr e) = omega (arith, eqb-true g 65536 e)

pub apart_ranges : (n a b : ℕ) → Apart n a b → (i : ℕ) → Range a n i → Range b n i → ⊥
apart_ranges n a b (inl h) i p q = omega arith
apart_ranges n a b (inr h) i p q = omega arith

-- ---- the start

-- the setting, the first image, and where its table puts the pointer blocks
pub record Beginning : Type 0 where
  pub s : Setting
  pub first : List ℕ
  pub c0 : ℕ
  pub c1 : ℕ
  pub refusal1 : length_right (length first) ≡ true
  pub refusal2 : granule_right s.granule ≡ true
  pub refusal3 : addresses_right s (length first) ≡ true
  pub blocks : FourBlocks s.granule (length first) s.spt0 s.spt1 c0 c1

module _ (beginning : Beginning) where
  open beginning use {s, first, c0, c1, refusal1, refusal2, refusal3, blocks}

  abbrev pub table_pair : Pair
  table_pair = record {
    granule = s.granule;
    stands = table_stands s (length first);
    a0 = s.spt0;
    a1 = s.spt1;
    torn_falls = table_torn s (length first);
    holds_block = granule_holds_block s.granule refusal2;
    apart = apart_ranges s.granule s.spt0 s.spt1 blocks.tables_apart;
  }

  abbrev pub pointer_pair : Pair
  pointer_pair =
      two_pointer_blocks s.granule c0 c1 (granule_holds_block s.granule refusal2)
      (apart_ranges s.granule c0 c1 blocks.pointers_apart)

  -- the first granules of each pair
  abbrev pub TableGranules : ℕ → Type 0
  TableGranules = Two s.granule s.spt0 s.spt1

  abbrev pub PointerGranules : ℕ → Type 0
  PointerGranules = Two s.granule c0 c1

  pairs_apart : (i : ℕ) → TableGranules i → PointerGranules i → ⊥
  pairs_apart i (inl p) (inl q) = apart_ranges s.granule s.spt0 c0 blocks.spt0_cpb0 i p q
  pairs_apart i (inl p) (inr q) = apart_ranges s.granule s.spt0 c1 blocks.spt0_cpb1 i p q
  pairs_apart i (inr p) (inl q) = apart_ranges s.granule s.spt1 c0 blocks.spt1_cpb0 i p q
  pairs_apart i (inr p) (inr q) = apart_ranges s.granule s.spt1 c1 blocks.spt1_cpb1 i p q

  in_granule : (a i : ℕ) → Range a block_size i → Range a s.granule i
  in_granule a i r = let fits = granule_holds_block s.granule refusal2 in (omega arith, omega arith)

  -- a pair stays while only the other changes
  pub tables_kept : {x y : List ℕ} → Only PointerGranules x y
      → (block y s.spt0 ≡ block x s.spt0) × (block y s.spt1 ≡ block x s.spt1)
  tables_kept o = (
    block_kept PointerGranules s.spt0 o (λ i r q. pairs_apart i (inl (in_granule s.spt0 i r)) q),
    block_kept PointerGranules s.spt1 o (λ i r q. pairs_apart i (inr (in_granule s.spt1 i r)) q),
  )

  pub pointers_kept : {x y : List ℕ} → Only TableGranules x y → (block y c0 ≡ block x c0) × (block y c1 ≡ block x c1)
  pointers_kept o = (
    block_kept TableGranules c0 o (λ i r q. pairs_apart i q (inl (in_granule c0 i r))),
    block_kept TableGranules c1 o (λ i r q. pairs_apart i q (inr (in_granule c1 i r))),
  )

  -- ---- the invariant

  abbrev pub FourGranules : ℕ → Type 0
  FourGranules i = TableGranules i ⊎ PointerGranules i

  -- the flash has a reading, its four blocks are where they were, and nothing else changed since the start
  pub record Invariant (img : List ℕ) (r : Reading) : Type 0 where
    pub kept : Only FourGranules first img
    pub bytes : Bytes img
    pub reads_table : Reads table_pair img r.table
    pub cpb0_there : cpb0_of r.table ≡ c0
    pub cpb1_there : cpb1_of r.table ≡ c1
    pub pointers : List ℕ
    pub reads_pointers : Reads pointer_pair img pointers
    pub boots : order_by r.table pointers ≡ r.boot

  -- the two copies of each pair are equal
  abbrev pub BothEqual : List ℕ → Type 0
  BothEqual img = (block img s.spt0 ≡ block img s.spt1) × (block img c0 ≡ block img c1)

  module _ (img : List ℕ) (r : Reading) (h : Invariant img r) where
    -- ---- the view and the reading

    pub table_address : (a : ℕ)
        × (copy_read (no_table s img) (table_stands s (length first)) img s.spt0 s.spt1 ≡ given a)
        × (block img a ≡ r.table)
    table_address =
        address_read (no_table s img) (table_stands s (length first)) img s.spt0 s.spt1 r.table h.reads_table

    pub pointers_address : (a : ℕ) × (copy_read NoPointers pointers_stand img c0 c1 ≡ given a) × (block img a ≡ h.pointers)
    pointers_address = address_read NoPointers pointers_stand img c0 c1 h.pointers h.reads_pointers

    pub which_table : WhichAddress (table_stands s (length first)) img s.spt0 s.spt1 table_address.0
    which_table =
        which_address (no_table s img) (table_stands s (length first)) img s.spt0 s.spt1 table_address.0
        table_address.1

    pub which_pointers : WhichAddress pointers_stand img c0 c1 pointers_address.0
    which_pointers =
        which_address NoPointers pointers_stand img c0 c1 pointers_address.0 pointers_address.1

    abbrev pub the_view : View
    the_view = record {
      spt0 = s.spt0;
      spt1 = s.spt1;
      cpb0 = c0;
      cpb1 = c1;
      table = table_address.0;
      pointers = pointers_address.0;
    }

    pub view_is : view s img ≡ given the_view
    unfolding view table_read view_through pointers_read unless
    view_is =
        rw (
          h.kept.same_length,
          refusal1,
          refusal2,
          refusal3,
          table_address.1,
          table_address.2,
          h.cpb0_there,
          h.cpb1_there,
          pointers_address.1,
        )

    pub reading_is : reading s img ≡ given r
    unfolding reading read_by boot_order
    reading_is = rw (view_is, table_address.2, pointers_address.2, h.boots)

    -- ---- what the table read says

    pub table_standing : Standing s (length first) r.table
    table_standing =
        standing s (length first) r.table
        (read_stands (table_stands s (length first)) (block img s.spt0) (block img s.spt1) r.table
        h.reads_table)

    pub starts_right : SlotStarts (starts r.table)
    starts_right = slot_starts_right s (length first) r.table (length_fits (length first) refusal1) table_standing

    pub blocks_inside : FourBlocks s.granule (length img) s.spt0 s.spt1 c0 c1
    blocks_inside = rw h.kept.same_length blocks

    -- ---- the pairs agree

    pub agree_both_equal : agree_by s img the_view ≡ true → BothEqual img
    unfolding agree_by tables_agree pointers_agree
    agree_both_equal a =
        let (p, q) = and_true (tables_agree s img) (pointers_agree img the_view) a in
        (agree_equal (table_stands s (length img)) img s.spt0 s.spt1 p, agree_equal pointers_stand img c0 c1 q)

    pub both_equal_agree : BothEqual img → pairs_agree s img ≡ true
    unfolding pairs_agree agreed agree_by tables_agree pointers_agree
    both_equal_agree (p, q) =
        let stands : List ℕ → Bool = table_stands s (length first) in
        let ts = (equal_read stands (block img s.spt0) (block img s.spt1) r.table h.reads_table p).1 in
        let ps = (equal_read pointers_stand (block img c0) (block img c1) h.pointers h.reads_pointers q).1 in
        rw (view_is, h.kept.same_length, equal_agree (table_stands s (length first)) img s.spt0 s.spt1 ts p)
        (equal_agree pointers_stand img c0 c1 ps q)

    -- ---- one of the pairs changed

    pub with_new_pointers : (img' : List ℕ)
        → Only PointerGranules img img'
        → (p : List ℕ)
        → Reads pointer_pair img' p
        → (o : List ℕ)
        → order_by r.table p ≡ o
        → Invariant img' (record { table = r.table; boot = o })
    with_new_pointers img' only p reads o e =
        let (t0, t1) = tables_kept only in
        record {
          kept = only_then h.kept (only_wider (λ i q. inr q) only);
          bytes = only.still_bytes h.bytes;
          reads_table = rw (t0, t1) h.reads_table;
          cpb0_there = h.cpb0_there;
          cpb1_there = h.cpb1_there;
          pointers = p;
          reads_pointers = reads;
          boots = e;
        }

    pub with_new_tables : (img' : List ℕ)
        → Only TableGranules img img'
        → (t : List ℕ)
        → Reads table_pair img' t
        → cpb0_of t ≡ c0
        → cpb1_of t ≡ c1
        → (o : List ℕ)
        → order_by t h.pointers ≡ o
        → Invariant img' (record { table = t; boot = o })
    with_new_tables img' only t reads at0 at1 o e =
        let (p0, p1) = pointers_kept only in
        record {
          kept = only_then h.kept (only_wider (λ i q. inl q) only);
          bytes = only.still_bytes h.bytes;
          reads_table = reads;
          cpb0_there = at0;
          cpb1_there = at1;
          pointers = h.pointers;
          reads_pointers = rw (p0, p1) h.reads_pointers;
          boots = e;
        }
