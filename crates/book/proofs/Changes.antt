-- The change that a book takes: by the parts that the code makes, and that it is document 01's where a command started.
-- Assumes nothing.
use mathlib.Core.Path.{◌≡◌, refl}
use mathlib.Core.Bool.{true, cond}
use mathlib.Core.List.{List, ◌∷◌}
use Prim.Native.Nat.{ℕ, ◌<◌}
use lib.Dec.{leb}
use borrow.Author.Tests.{le-leb, lt-ltb}
use lib.ListN.{length}
use Rattle.rules.specs.Lists.{without}
use Rattle.rules.specs.Bytes.{block}
use Rattle.rules.specs.Answers.{given, ◌>>=◌}
use Rattle.rules.specs.declared.Setting.{Setting}
use Rattle.rules.specs.Table.{entry_count, entries, slots}
use Rattle.rules.specs.Copies.{view, boot_order}
use Rattle.rules.specs.Readers.{slot_there}
use Rattle.rules.specs.Commands.{Command, enable, disable, rename, create, delete, repair, with_new_row, job, start}
use Rattle.rules.specs.Book.{Reading, read_by, reading, renamed, start_for, changed}
use Rattle.rules.specs.declared.Step.{Step}
use Rattle.rules.specs.declared.View.{View}
use Rattle.rules.proofs.Lists.Tests.{by_cases, bind_given, given_inj}
use Rattle.rules.proofs.Claim.Passed.{Passed, passed}
use Rattle.walks.specs.Entries.{most_entries}
use Rattle.views.proofs.Opening.{located}
use Rattle.book_orders.specs.Orders.{slots_of}
use Rattle.book_entries.specs.Tables.{new_name, has_slot, has_row}
use Rattle.book.specs.Kept.{reading_of, takes, taken, deleted}
use Rattle.book_orders.specs.declared.Order.{Order}
use Rattle.book.specs.declared.Book.{Book}
use Rattle.book.proofs.ReadBack.{short_order}

-- ---- by parts

module _ (s : Setting) (img : List ℕ) (b : Book) (k : ℕ) where
  pub enabled : (o : Order)
      → slots_of o
      ≡ cond (leb (length (slots_of b.order)) most_entries) (k ∷ without k (slots_of b.order)) (slots_of b.order)
      → reading_of (record { table = b.table; order = o }) ≡ taken s img (enable k) (reading_of b)
  unfolding reading_of taken takes changed
  enabled o e =
      by_cases (leb (length (slots_of b.order)) most_entries) (λ t. rw (e, t)) (λ t. rw (e, t))

  pub disabled : (o : Order)
      → slots_of o ≡ without k (slots_of b.order)
      → reading_of (record { table = b.table; order = o }) ≡ taken s img (disable k) (reading_of b)
  unfolding reading_of taken takes changed
  disabled o e = rw e

  pub with_name : (t : List ℕ)
      → t ≡ cond (has_slot b.table k) (renamed b.table k new_name) b.table
      → reading_of (record { table = t; order = b.order }) ≡ taken s img (rename k new_name) (reading_of b)
  unfolding reading_of taken takes changed
  with_name t e = by_cases (has_slot b.table k) (λ h. rw (e, h)) (λ h. rw (e, h))

  pub without_slot : (r : Book) → reading_of r ≡ deleted k (reading_of b) → reading_of r ≡ taken s img (delete k) (reading_of b)
  unfolding taken takes changed deleted
  without_slot r e = e

pub with_slot : (s : Setting) (img : List ℕ) (b : Book) (size : ℕ) (t : List ℕ)
    → t ≡ cond (has_row (entry_count b.table) size) (with_new_row b.table new_name (start_for s img size) size) b.table
    → reading_of (record { table = t; order = b.order }) ≡ taken s img (create new_name size) (reading_of b)
unfolding reading_of taken takes changed
with_slot s img b size t e =
    by_cases (has_row (entry_count b.table) size) (λ h. rw (e, h)) (λ h. rw (e, h))

pub repaired : (s : Setting) (img : List ℕ) (b : Book) → reading_of b ≡ taken s img repair (reading_of b)
unfolding taken takes changed
repaired s img b = refl

-- ---- the book of a flash on which the command started takes the change

takes_by_view : (s : Setting) (img : List ℕ) (v : View) (c : Command) (ss : List Step)
    → view s img ≡ given v
    → job s img v c ≡ given ss
    → takes c (read_by img v) ≡ true
unfolding takes read_by has_slot has_row slot_there
takes_by_view s img v c ss e h = by_command c (passed s img v t (block img v.pointers) ss refl refl c h)
  where
    t : List ℕ
    t = block img v.table

    -- rename and delete
    slot_taken : (k : ℕ) → k < length (slots (entries t)) → has_slot t k ≡ true
    slot_taken k there =
        rw (
          le-leb (entry_count t) most_entries (located s img v e).count_right,
          lt-ltb k (length (slots (entries t))) there,
        )

    by_command : (c : Command) → Passed s img v t (block img v.pointers) ss c → takes c (read_by img v) ≡ true
    by_command (enable k) q = le-leb (length (boot_order img v)) most_entries (short_order s img v e)
    by_command (disable k) q = refl
    by_command (rename k n) q = slot_taken k q.there
    by_command (create n size) q = rw (lt-ltb (entry_count t) 127 q.few, q.right)
    by_command (delete k) q = slot_taken k q.there
    by_command repair q = refl

-- document 01's change: from the reading of a flash, by a command that starts on it
pub started_taken : (s : Setting) (img : List ℕ) (c : Command) (ss : List Step) (r : Reading)
    → reading s img ≡ given r
    → start s img c ≡ given ss
    → taken s img c r ≡ changed s img c r
unfolding taken reading start
started_taken s img c ss r er es =
    let (v, ev, q) = bind_given (view s img) (λ v. given (read_by img v)) r er in
    let same : read_by img v ≡ r = given_inj (read_by img v) r q in
    let h : job s img v c ≡ given ss = rw ev at es in
    rw (rw same at (takes_by_view s img v c ss ev h))
