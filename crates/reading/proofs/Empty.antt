-- An empty part is a refusal, and nothing else is: the table part is empty exactly where `view` refuses, and a slot's
-- name exactly where `slot_info` refuses. The number of the refusal is theirs. Assumes nothing.
use mathlib.Core.Path.{◌≡◌, refl}
use mathlib.Core.Bool.{true}
use mathlib.Core.List.{List, []}
use Prim.Native.Nat.{ℕ, ◌<◌}
use native.Mathlib.Omega.{arith}
use lib.Dec.{eqb}
use borrow.Author.Tests.{ne_eqb, le-ltb, ltb-true}
use lib.ListN.{length}
use Rattle.rules.specs.Lists.{keep}
use Rattle.rules.specs.Bytes.{little_endian, field, block}
use Rattle.rules.specs.Answers.{Answer, refused, given, unless, ◌>>=◌}
use Rattle.rules.specs.declared.Setting.{Setting}
use Rattle.rules.specs.Table.{entries_from, entry_count, entries, name, name_right, slots, no_entry}
use Rattle.rules.specs.Copies.{view}
use Rattle.rules.specs.Readers.{table_of, table_part, slot_row, slot_entry, slot_there, slot_info, name_in, slot_name}
use Rattle.rules.specs.declared.View.{View}
use Rattle.rules.proofs.Lists.Tests.{by_cases, and_true}
use Rattle.rules.proofs.Lists.Combinators.{all_at}
use Rattle.rules.proofs.Steps.Frame.{length-block}
use Rattle.rules.proofs.Table.Standing.{standing}
use Rattle.rules.proofs.Table.Renaming.{slot_row_found}
use Rattle.std.specs.Prelude.{is_err}
use Rattle.views.proofs.Seen.{seen, table_followed, table_read_stands}

-- no table has no slots
pub no_slot_name : (k : ℕ) → name_in (entries []) k ≡ []
unfolding name_in entries entry_count field little_endian entries_from slot_there slots keep
no_slot_name k = rw (le-ltb k 0 (omega arith))

module _ (s : Setting) (img : List ℕ) where
  -- ---- the table

  pub table_empty : eqb (length (table_part s img)) 0 ≡ is_err (view s img)
  unfolding table_part table_of
  table_empty = by (view s img) refl
    where
      by : (a : Answer View) → view s img ≡ a → eqb (length (table_part s img)) 0 ≡ is_err (view s img)
      by (refused n) e = rw e
      by (given v) e =
          let long = length-block img v.table (table_followed s img v (seen s img v e)).table_inside in
          rw e (ne_eqb (length (block img v.table)) 0 (λ z. omega arith))

  -- ---- the name of a slot

  module _ (k : ℕ) where
    -- a slot of a table that stands has a name
    named : (v : View) → view s img ≡ given v
        → slot_there (entries (block img v.table)) k ≡ true
        → 0 < length (name (slot_entry (entries (block img v.table)) k))
    unfolding slot_there slot_entry name_right
    named v e there =
        let t = block img v.table in
        let es = entries t in
        let st = standing s (length img) t (table_read_stands s img v (seen s img v e)) in
        let (found, _) = slot_row_found es k (ltb-true k (length (slots es)) there) in
        let right = all_at name_right es no_entry (slot_row es k) st.rule3 found in
        ltb-true 0 _ (and_true _ _ right).0

    pub name_empty : eqb (length (slot_name s img k)) 0 ≡ is_err (slot_info s img k)
    unfolding slot_name slot_info table_part table_of name_in unless
    name_empty = by (view s img) refl
      where
        by : (a : Answer View) → view s img ≡ a → eqb (length (slot_name s img k)) 0 ≡ is_err (slot_info s img k)
        by (refused n) e =
            unfold entries entry_count field little_endian entries_from slot_there slots keep in
            rw (e, le-ltb k 0 (omega arith))
        by (given v) e =
            let es = entries (block img v.table) in
            by_cases (slot_there es k)
            (λ t. rw (e, t) (ne_eqb (length (name (slot_entry es k))) 0 (λ z. omega (arith, named v e t))))
            (λ t. rw (e, t))
