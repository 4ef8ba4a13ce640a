-- The job of rename on a flash whose pairs agree: at every cut the table read is the old or the renamed one.
-- Assumes nothing.
use mathlib.Core.Path.{◌≡◌}
use mathlib.Core.Bool.{true}
use mathlib.Core.List.{List}
use Prim.Native.Nat.{ℕ, ◌<◌}
use lib.ListN.{length}
use Rattle.rules.specs.Bytes.{Bytes}
use Rattle.rules.specs.Table.{entries, slots}
use Rattle.rules.specs.Copies.{order_by}
use Rattle.rules.specs.Readers.{slot_row}
use Rattle.rules.specs.Commands.{rename, rename_steps, put_name, name_free, has_already}
use Rattle.rules.specs.Book.{Reading, changed, renamed}
use Rattle.rules.proofs.Lists.Tests.{by_cases}
use Rattle.rules.proofs.Table.Replacing.{Replaces}
use Rattle.rules.proofs.Table.Renaming.{Allowed, renamed_replaces, renamed_starts}
use Rattle.rules.proofs.Claim.Invariant.{Beginning, Invariant, BothEqual, table_standing}
use Rattle.rules.proofs.Claim.JobRight.{JobRight, no_steps_right}
use Rattle.rules.proofs.Table.TableJobs.{table_whole, table_bytes, tables_right}

module _ (beginning : Beginning) (img : List ℕ) (r : Reading) (h : Invariant beginning img r)
    (equal : BothEqual beginning img) where
  open beginning use {s, first}

  module _ (k : ℕ) (n : List ℕ) (there : k < length (slots (entries r.table))) (allowed : Allowed n)
      (free : name_free (entries r.table) (slot_row (entries r.table) k) n ≡ true) (bytes : Bytes n) where
    abbrev b : List ℕ
    b = put_name r.table (slot_row (entries r.table) k) n

    pub put_name_replaces : Replaces s (length first) r.table b
    put_name_replaces =
        renamed_replaces s (length first) r.table n k (table_whole beginning img r h equal)
        (table_standing beginning img r h) there allowed free (table_bytes beginning img r h equal) bytes

    order_kept : order_by b h.pointers ≡ r.boot
    unfolding order_by
    order_kept =
        rw (renamed_starts s (length first) r.table n k (table_whole beginning img r h equal)
        (table_standing beginning img r h) there allowed free)
        h.boots

    pub rename_right : JobRight beginning img r (rename k n) (rename_steps s.spt0 s.spt1 r.table k n)
    unfolding rename_steps changed renamed
    rename_right =
        by_cases (has_already (entries r.table) k n)
        (λ t. rw t (no_steps_right beginning img r h equal))
        (λ f. rw f (tables_right beginning img r h equal b put_name_replaces r.boot order_kept))
