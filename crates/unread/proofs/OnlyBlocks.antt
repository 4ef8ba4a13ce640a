-- Nothing is read outside the four blocks but the first 4,096 bytes of a slot that is enabled, in plain words.
--
-- Take two images of the same length whose tables and pointer blocks hold the same 4,096 bytes each, and which differ
-- anywhere else in any way. Then every reader answers the same on both (the view, the table read, the boot order, the
-- number of slots, what is known of a slot, its name, the book's reading), the pairs agree on both or on neither, and
-- every command but enable is refused with the same number and faults or starts with the same listed steps; so is enable, where the
-- first 4,096 bytes of the slot that it is told are the same too.
-- So a dump that lacks what lies before the tables may be laid at its address with any bytes below, as long as no slot down
-- there is enabled. Assumes nothing.
use mathlib.Core.Path.{◌≡◌, refl, subst, ◌∙◌}
use mathlib.Core.Bool.{Bool, true, false, not}
use mathlib.Core.Logic.{inl, inr}
use mathlib.Core.List.{List}
use Prim.Native.Nat.{ℕ}
use lib.ListN.{length, get_or}
use Rattle.rules.specs.Bytes.{block}
use Rattle.rules.specs.Answers.{Answer, refused, given, unless, ◌>>=◌}
use Rattle.rules.specs.declared.Setting.{Setting}
use Rattle.rules.specs.Table.{entries, table_stands, starts, cpb0_of, cpb1_of}
use Rattle.rules.specs.Pointers.{pointers_stand}
use Rattle.rules.specs.Copies.{table_read, pointers_read, view_through, view, boot_order, pair_agrees, tables_agree, pointers_agree, agree_by, agreed, pairs_agree, both_faults, no_table}
use Rattle.rules.specs.Readers.{slot_there, order_list, table_of, table_part, slot_count, slot_info, slot_name}
use Rattle.rules.specs.Commands.{Command, enable, disable, rename, create, delete, repair, created_start, repair_pair, repair_steps, slot_empty, enough_places, enable_steps, job, start}
use Rattle.rules.specs.Book.{read_by, reading}
use Rattle.rules.specs.declared.View.{View}
use Rattle.rules.proofs.Lists.Tests.{given_inj, bind_given, unless-given}
use Rattle.rules.proofs.Copies.CopyRead.{WhichAddress, which_address, copy_read_same}
use Rattle.unread.specs.SameBlocks.{SameBlocks, SameSlot}
use Rattle.rules.specs.declared.Refusal.{Refusal}
use Rattle.rules.specs.declared.Refusal.TheVariants.{BadLength, BadGranule, BadAddresses, NoPointers, NoSuchSlot, SlotEmpty, NoPlaceLeft}

-- what is asked further need agree only on what is given
bind_same : {A B : Type 0} (a : Answer A) (f g : A → Answer B)
    → ((x : A) → a ≡ given x → f x ≡ g x)
    → a >>= f ≡ a >>= g
bind_same (refused n) f g h = refl
bind_same (given x) f g h = h x refl

module _ (s : Setting) (img img' : List ℕ) (same : SameBlocks s img img') where
  -- ---- the view

  no_table_same : no_table s img ≡ no_table s img'
  unfolding no_table both_faults
  no_table_same = rw (same.same_length, same.spt0, same.spt1)

  table_read_same : table_read s img ≡ table_read s img'
  unfolding table_read
  table_read_same =
      copy_read_same (no_table s img) (table_stands s (length img)) img' img s.spt0 s.spt1 same.spt0 same.spt1
      ∙ rw (same.same_length, no_table_same)

  -- the table read is one of the two
  table_same : (at : ℕ) → table_read s img ≡ given at → block img at ≡ block img' at
  unfolding table_read
  table_same at e =
      pick (which_address (no_table s img) (table_stands s (length img)) img s.spt0 s.spt1 at e)
    where
      pick : WhichAddress (table_stands s (length img)) img s.spt0 s.spt1 at → block img at ≡ block img' at
      pick (inl (t, q)) = rw (← q) same.spt0
      pick (inr (f, t, q)) = rw (← q) same.spt1

  through_same : (at : ℕ) → table_read s img ≡ given at → view_through s img at ≡ view_through s img' at
  unfolding view_through pointers_read
  through_same at e =
      rw (
        ← table_same at e,
        copy_read_same NoPointers pointers_stand img' img (cpb0_of (block img at)) (cpb1_of (block img at))
            (same.cpb0 at e) (same.cpb1 at e),
      )

  pub view_same : view s img ≡ view s img'
  unfolding view
  view_same =
      rw (
        same.same_length,
        ← table_read_same,
        bind_same (table_read s img) (view_through s img) (view_through s img') through_same,
      )

  -- ---- the blocks that a view names

  pub record BlocksSame (v : View) : Type 0 where
    pub reads : table_read s img ≡ given v.table
    pub table : block img v.table ≡ block img' v.table
    pub pointers : block img v.pointers ≡ block img' v.pointers
    pub cpb0 : block img v.cpb0 ≡ block img' v.cpb0
    pub cpb1 : block img v.cpb1 ≡ block img' v.cpb1
    pub spt0 : block img v.spt0 ≡ block img' v.spt0
    pub spt1 : block img v.spt1 ≡ block img' v.spt1

  -- the pointer block read is one of the two
  pointers_same : (at a : ℕ)
      → table_read s img ≡ given at
      → pointers_read img (block img at) ≡ given a
      → block img a ≡ block img' a
  unfolding pointers_read
  pointers_same at a read e =
      pick (which_address NoPointers pointers_stand img (cpb0_of (block img at)) (cpb1_of (block img at)) a e)
    where
      pick : WhichAddress pointers_stand img (cpb0_of (block img at)) (cpb1_of (block img at)) a
          → block img a ≡ block img' a
      pick (inl (t, q)) = rw (← q) (same.cpb0 at read)
      pick (inr (f, t, q)) = rw (← q) (same.cpb1 at read)

  blocks_same : (v : View) → view s img ≡ given v → BlocksSame v
  unfolding view view_through
  blocks_same v e =
      let (_, e1) = unless-given BadLength _ _ v e in
      let (_, e2) = unless-given BadGranule _ _ v e1 in
      let (_, e3) = unless-given BadAddresses _ _ v e2 in
      let (at, read, e4) = bind_given _ _ v e3 in
      let (a, found, e5) = bind_given _ _ v e4 in
      subst BlocksSame (given_inj _ v e5) (record {
        reads = read;
        table = table_same at read;
        pointers = pointers_same at a read found;
        cpb0 = same.cpb0 at read;
        cpb1 = same.cpb1 at read;
        spt0 = same.spt0;
        spt1 = same.spt1;
      })

  -- what is asked further of a view that is given
  pub of_view : {B : Type 0} (f g : View → Answer B)
      → ((v : View) → BlocksSame v → f v ≡ g v)
      → (view s img >>= f) ≡ (view s img' >>= g)
  of_view f g h =
      rw (← view_same) (bind_same (view s img) f g (λ v e. h v (blocks_same v e)))

  -- ---- the readers

  pub order_list_same : (room : ℕ) → order_list s img room ≡ order_list s img' room
  unfolding order_list boot_order
  order_list_same room = of_view _ _ (λ v b. rw (b.table, b.pointers))

  pub table_part_same : table_part s img ≡ table_part s img'
  unfolding table_part table_of
  table_part_same = rw (← view_same) (by_view (view s img) refl)
    where
      by_view : (a : Answer View) → view s img ≡ a → table_of img a ≡ table_of img' a
      by_view (refused n) e = refl
      by_view (given v) e = (blocks_same v e).table

  pub slot_count_same : slot_count s img ≡ slot_count s img'
  unfolding slot_count
  slot_count_same = of_view _ _ (λ v b. rw b.table)

  pub slot_info_same : (k : ℕ) → slot_info s img k ≡ slot_info s img' k
  unfolding slot_info
  slot_info_same k = of_view _ _ (λ v b. rw b.table)

  pub slot_name_same : (k : ℕ) → slot_name s img k ≡ slot_name s img' k
  unfolding slot_name
  slot_name_same k = rw table_part_same

  pub reading_same : reading s img ≡ reading s img'
  unfolding reading read_by boot_order
  reading_same = of_view _ _ (λ v b. rw (b.table, b.pointers))

  -- ---- the pairs

  agree_same : (v : View) → BlocksSame v → agree_by s img v ≡ agree_by s img' v
  unfolding agree_by tables_agree pointers_agree pair_agrees
  agree_same v b = rw (same.same_length, same.spt0, same.spt1, b.cpb0, b.cpb1)

  pub pairs_agree_same : pairs_agree s img ≡ pairs_agree s img'
  unfolding pairs_agree agreed
  pairs_agree_same = rw (← view_same) (by_view (view s img) refl)
    where
      by_view : (a : Answer View) → view s img ≡ a → agreed s img a ≡ agreed s img' a
      by_view (refused n) e = refl
      by_view (given v) e = agree_same v (blocks_same v e)

  -- ---- the commands

  -- a test that is made only where the one before it passed
  unless_same : {A : Type 0} (n m : Refusal) (first test test' : Bool) (a : Answer A)
      → (first ≡ true → test ≡ test')
      → unless n first (unless m test a) ≡ unless n first (unless m test' a)
  unfolding unless
  unless_same n m true test test' a h = rw (h refl)
  unless_same n m false test test' a h = refl

  job_same : (c : Command) → SameSlot s img img' c → (v : View) → BlocksSame v → job s img v c ≡ job s img' v c
  unfolding SameSlot job boot_order created_start repair_steps repair_pair pair_agrees slot_empty
  job_same (enable k) slot v b =
      let t = block img v.table in
      let a = get_or (starts t) k 0 in
      rw (
        agree_same v b,
        unless_same NoSuchSlot SlotEmpty (slot_there (entries t) k) (not (slot_empty img a)) (not (slot_empty img' a))
            (unless NoPlaceLeft (enough_places (starts t) (block img v.pointers) k)
            (given (enable_steps v.cpb0 v.cpb1 (starts t) (block img v.pointers) k)))
            (λ there. rw (slot k v.table refl b.reads there)),
        b.table,
        b.pointers,
      )
  job_same (disable k) _ v b = rw (agree_same v b, b.table, b.pointers)
  job_same (rename k n) _ v b = rw (agree_same v b, b.table)
  job_same (create n size) _ v b = rw (agree_same v b, same.same_length, b.table, b.pointers)
  job_same (delete k) _ v b = rw (agree_same v b, b.table, b.pointers)
  job_same repair _ v b =
      rw (same.same_length, b.table, b.pointers, b.spt0, b.spt1, b.cpb0, b.cpb1)

  pub start_same : (c : Command) → SameSlot s img img' c → start s img c ≡ start s img' c
  unfolding start
  start_same c slot = of_view _ _ (job_same c slot)
