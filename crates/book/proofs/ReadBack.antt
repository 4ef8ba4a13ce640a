-- What the readers answer is the book's reading, and the pairs agree where their copies are equal. Assumes nothing.
use mathlib.Core.Path.{◌≡◌, refl, sym, ap, ◌∙◌}
use mathlib.Core.Bool.{false}
use mathlib.Core.List.{List, ◌++◌}
use Prim.Native.Nat.{ℕ, ◌≤◌}
use native.Mathlib.Omega.{arith}
use borrow.Author.Tests.{le-leb}
use lib.ListN.{length, take, drop, length-map}
use lib.Seq.{take-append_seam}
use Rattle.rules.specs.Bytes.{block, block_size}
use Rattle.rules.specs.Answers.{Answer, refused, given, unless, ◌>>=◌}
use Rattle.rules.specs.declared.Setting.{Setting}
use Rattle.rules.specs.declared.Refusal.{Refusal}
use Rattle.rules.specs.Table.{Entry, entry_count, entries, is_slot, slots, slot_starts, starts}
use Rattle.rules.specs.Pointers.{places, order}
use Rattle.rules.specs.Copies.{view, order_by, boot_order, agreed, pairs_agree}
use Rattle.rules.specs.Readers.{order_in, order_list, row_after, table_of, table_part}
use Rattle.rules.specs.Book.{read_by, reading}
use Rattle.rules.specs.declared.View.{View}
use Rattle.rules.proofs.Lists.Tests.{refused_given, given_inj}
use Rattle.rules.proofs.Lists.Combinators.{kept_no_more}
use Rattle.rules.proofs.Table.Standing.{length-entries}
use Rattle.rules.proofs.Order.OnceEach.{once_order, once_length}
use Rattle.rules.proofs.Steps.Frame.{length-block}
use Rattle.walks.specs.Entries.{most_entries}
use Rattle.order_lists.specs.Answers.{count_of}
use Rattle.views.proofs.Opening.{located}
use Rattle.drafts.specs.Inner.Asked.{copies_equal}
use Rattle.drafts.proofs.EqualCopies.{pairs_agree_if_equal}
use Rattle.book_orders.specs.Orders.{room}

-- ---- an order has no more slots than a table

few_starts : (t : List ℕ) → entry_count t ≤ most_entries → length (starts t) ≤ most_entries
unfolding starts slot_starts slots
few_starts t h =
    rw (length-map (slots (entries t)) (λ (e : Entry). e.start))
    (omega (arith, kept_no_more is_slot (entries t), length-entries t))

pub short_order : (s : Setting) (img : List ℕ) (v : View) → view s img ≡ given v → length (boot_order img v) ≤ most_entries
unfolding boot_order order_by
short_order s img v h =
    let xs = starts (block img v.table) in
    let vs = places (block img v.pointers) in
    omega (
      arith,
      once_length (length xs) (order xs vs) (once_order xs vs),
      few_starts (block img v.table) (located s img v h).count_right,
    )

-- ---- the reading

-- a refusal of one answer is that of another
as_refused : {A B : Type 0} (a b : Refusal) → ◌≡◌ {A = Answer A} (refused a) (refused b) → ◌≡◌ {A = Answer B} (refused a) (refused b)
as_refused a b e = let same : a ≡ b = cc in rw same

module _ (s : Setting) (img row : List ℕ) (whole : length row ≡ room) where
  order_there : (v : View) → view s img ≡ given v → order_list s img (length row) ≡ given (boot_order img v)
  unfolding order_list order_in unless
  order_there v e =
      rw (e, le-leb (length (boot_order img v)) (length row) (omega (arith, short_order s img v e)))

  pub not_read : (why : Refusal) → refused why ≡ count_of (order_list s img (length row)) → refused why ≡ reading s img
  unfolding reading
  not_read why said = split (view s img) refl
    where
      split : (a : Answer View) → view s img ≡ a → refused why ≡ reading s img
      split (refused first) e = unfold reading order_list in rw e (as_refused why first (rw e at said))
      split (given v) e = absurd (refused_given why (length (boot_order img v)) (rw (order_there v e) at said))

  module _ (n : ℕ) (said : given n ≡ count_of (order_list s img (length row))) where
    seen : (v : View) × (view s img ≡ given v)
    seen = split (view s img) refl
      where
        split : (a : Answer View) → view s img ≡ a → (v : View) × (a ≡ given v)
        split (refused why) e =
            absurd (refused_given why n (sym (unfold order_list in rw e at said)))
        split (given v) e = (v, refl)

    pub whole_table : length (table_part s img) ≡ block_size
    unfolding table_part table_of
    whole_table =
        let (v, e) = seen in
        rw e (length-block img v.table (located s img v e).table_inside)

    module _ (t after : List ℕ) (is_table : t ≡ table_part s img)
        (is_row : after ≡ row_after (order_list s img (length row)) row) where
      read_by_view : (v : View) → view s img ≡ given v
          → given (record { table = t; boot = take n after }) ≡ reading s img
      unfolding reading read_by table_part table_of row_after
      read_by_view v e =
          let o : List ℕ = boot_order img v in
          let count : n ≡ length o = given_inj n (length o) (rw (order_there v e) at said) in
          let front : after ≡ o ++ drop (length o) row = rw (order_there v e) at is_row in
          let boot : take n after ≡ o =
          ap (λ (m : ℕ). take m after) count ∙ ap (λ (l : List ℕ). take (length o) l) front
          ∙ take-append_seam o (drop (length o) row) in
          let table : t ≡ block img v.table = rw e at is_table in
          rw (e, boot, table)

      pub was_read : given (record { table = t; boot = take n after }) ≡ reading s img
      was_read = let (v, e) = seen in read_by_view v e

-- ---- the pairs

module _ (s : Setting) (img : List ℕ) where
  pub none_agree : (why : Refusal) → view s img ≡ refused why → false ≡ pairs_agree s img
  unfolding pairs_agree agreed
  none_agree why e = rw e

  pub agree_by_copies : (v : View) → view s img ≡ given v → copies_equal img v ≡ pairs_agree s img
  unfolding pairs_agree agreed
  agree_by_copies v e = rw e (sym (pairs_agree_if_equal s img v e))
