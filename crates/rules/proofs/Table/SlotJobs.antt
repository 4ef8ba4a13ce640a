-- The jobs of create and delete on a flash whose pairs agree: at every cut the table read is the old or the new one, and
-- the boot order is the old one or, after a delete, that with its numbers lowered. Assumes nothing.
use mathlib.Core.Path.{◌≡◌, refl, ap, ◌∙◌, subst}
use mathlib.Core.Bool.{true, false}
use mathlib.Core.List.{List, map}
use Prim.Native.Nat.{ℕ, ◌<◌}
use lib.ListN.{length}
use Rattle.rules.specs.Lists.{member, any}
use Rattle.rules.specs.Bytes.{Bytes, multiple, block_size}
use Rattle.rules.specs.Table.{entry_count, entries, has_name, slots, starts}
use Rattle.rules.specs.Pointers.{places, order}
use Rattle.rules.specs.Copies.{order_by}
use Rattle.rules.specs.Readers.{slot_row}
use Rattle.rules.specs.Commands.{create, delete, create_steps, delete_steps, has_start, lowest_start, created_start, with_new_row, without_row, size_right}
use Rattle.rules.specs.Book.{Reading, changed, start_by, start_for, lowered}
use Rattle.rules.proofs.Order.SlotsMoved.{order_with_more, order_without_slot}
use Rattle.rules.proofs.Table.Replacing.{Replaces}
use Rattle.rules.proofs.Table.Renaming.{Allowed}
use Rattle.rules.proofs.Table.StartRule.{start_passes, start_aligned}
use Rattle.rules.proofs.Table.Creating.{Fits, not_held, created_replaces, created_starts}
use Rattle.rules.proofs.Table.Deleting.{deleted_replaces, deleted_starts}
use Rattle.rules.proofs.Table.SlotStarts.{length_fits, slots_by_starts}
use Rattle.rules.proofs.Claim.Invariant.{Beginning, Invariant, BothEqual, table_standing, the_view, view_is, table_address, pointers_address}
use Rattle.rules.proofs.Claim.JobRight.{JobRight}
use Rattle.rules.proofs.Table.TableJobs.{table_whole, table_bytes, tables_right}

module _ (beginning : Beginning) (img : List ℕ) (r : Reading) (h : Invariant beginning img r) where
  open beginning use {s, first, refusal1}

  -- the start that the rule gives for this flash, by the table and the pointer block read
  abbrev pub start_here : ℕ → ℕ
  start_here size = lowest_start 0 (length img) (entries r.table) (places h.pointers) size

  pub created_start_here : (size : ℕ) → created_start img (the_view beginning img r h) size ≡ start_here size
  unfolding created_start
  created_start_here size = rw ((table_address beginning img r h).2, (pointers_address beginning img r h).2)

  booked_start : (size : ℕ) → start_for s img size ≡ start_here size
  unfolding start_for start_by
  booked_start size = rw (view_is beginning img r h) (created_start_here size)

  module _ (equal : BothEqual beginning img) where
    -- ---- create

    module _ (n : List ℕ) (size : ℕ) (ok : Allowed n) (free : any (has_name n) (entries r.table) ≡ false)
        (right : size_right size ≡ true) (few : entry_count r.table < 127)
        (found : has_start 0 (length img) (entries r.table) (places h.pointers) size ≡ true) (bytes : Bytes n) where
      fits : Fits (length first) (entries r.table) (places h.pointers) n (start_here size) size
      fits =
          subst (λ (len : ℕ). Fits len (entries r.table) (places h.pointers) n (start_here size) size)
          h.kept.same_length record {
            ok = ok;
            free = free;
            right = right;
            may = start_passes 0 (length img) (entries r.table) (places h.pointers) size found;
            aligned = start_aligned 0 (length img) (entries r.table) (places h.pointers) size zero_aligned found;
          }
        where
          zero_aligned : multiple block_size 0 ≡ true
          zero_aligned = unfold multiple in refl

      abbrev b : List ℕ
      b = with_new_row r.table n (start_here size) size

      pub new_row_replaces : Replaces s (length first) r.table (with_new_row r.table n (start_here size) size)
      new_row_replaces =
          created_replaces s (length first) r.table (places h.pointers) n (start_here size) size
          (table_whole beginning img r h equal) (table_standing beginning img r h) (length_fits (length first) refusal1)
          few fits (table_bytes beginning img r h equal) bytes

      -- no place holds the new start, so that none comes alive
      order_kept : order_by b h.pointers ≡ r.boot
      unfolding order_by
      order_kept =
          rw (created_starts s (length first) r.table (places h.pointers) n (start_here size) size
          (table_whole beginning img r h equal) (table_standing beginning img r h) (length_fits (length first) refusal1)
          few fits)
          (order_with_more (starts r.table) (places h.pointers) (start_here size)
          (not_held (length first) (entries r.table) (places h.pointers) n (start_here size) size fits)
          ∙ unfold order_by in h.boots)

      pub create_right : JobRight beginning img r (create n size)
          (create_steps s.spt0 s.spt1 r.table n (start_here size) size)
      unfolding create_steps changed
      create_right =
          rw (booked_start size) (tables_right beginning img r h equal b new_row_replaces r.boot order_kept)

    -- ---- delete

    module _ (k : ℕ) (there : k < length (slots (entries r.table))) where
      abbrev d : List ℕ
      d = without_row r.table (slot_row (entries r.table) k)

      pub without_row_replaces : Replaces s (length first) r.table
          (without_row r.table (slot_row (entries r.table) k))
      without_row_replaces =
          deleted_replaces s (length first) r.table k (table_whole beginning img r h equal)
          (table_standing beginning img r h) there (table_bytes beginning img r h equal)

      order_lowered : member k r.boot ≡ false → order_by d h.pointers ≡ map (lowered k) r.boot
      unfolding order_by
      order_lowered idle =
          let booted : order (starts r.table) (places h.pointers) ≡ r.boot = unfold order_by in h.boots in
          rw (deleted_starts s (length first) r.table k (table_whole beginning img r h equal)
          (table_standing beginning img r h) there)
          (order_without_slot (starts r.table) (places h.pointers) k (slots_by_starts r.table k there) (rw booted idle)
          ∙ ap (map (lowered k)) booted)

      pub delete_right : member k r.boot ≡ false
          → JobRight beginning img r (delete k) (delete_steps s.spt0 s.spt1 r.table k)
      unfolding delete_steps changed
      delete_right idle =
          tables_right beginning img r h equal d without_row_replaces (map (lowered k) r.boot) (order_lowered idle)
