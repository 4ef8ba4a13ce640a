-- The name of an entry is empty exactly where the entry is refused, by rule 3 of a table that stands. Assumes nothing.
use mathlib.Core.Path.{◌≡◌, refl, ◌∙◌, sym}
use mathlib.Core.Bool.{Bool, true, false}
use mathlib.Core.List.{List, []}
use Prim.Native.Nat.{ℕ, ◌<◌}
use native.Mathlib.Omega.{arith}
use borrow.Author.Tests.{ltb-true, le-ltb}
use lib.ListN.{length}
use Rattle.rules.specs.Bytes.{little_endian, field, block}
use Rattle.rules.specs.Answers.{Answer, refused, given, unless, ◌>>=◌}
use Rattle.rules.specs.declared.Setting.{Setting}
use Rattle.rules.specs.declared.Refusal.{Refusal}
use Rattle.rules.specs.Table.{Entry, entries_from, entry_count, entries, name, no_entry, name_right}
use Rattle.rules.specs.Copies.{view}
use Rattle.rules.specs.Readers.{table_of, table_part}
use Rattle.rules.specs.declared.View.{View}
use Rattle.rules.specs.declared.SlotInfo.{SlotInfo}
use Rattle.rules.specs.Lists.{all}
use Rattle.rules.proofs.Lists.Tests.{and_true, refused_given}
use Rattle.rules.proofs.Lists.Combinators.{all_at}
use Rattle.rules.proofs.Table.Standing.{standing}
use Rattle.views.proofs.Seen.{seen, table_read_stands}
use Rattle.infos.specs.Entries.{entry_there, entry_of, info_of, name_of, info_in, name_in}
use Rattle.inspect.specs.Entries.{entry_info, entry_name}
use Rattle.rules.specs.declared.Refusal.TheVariants.{NoSuchEntry}

-- no table has no names
pub no_entry_name : (i : ℕ) → name_in (entries []) i ≡ []
unfolding entries entry_count field little_endian entries_from name_in entry_there
no_entry_name i = rw (le-ltb i 0 (omega arith))

-- ---- by the entries of a table

module _ (es : List Entry) (i : ℕ) where
  no_name_there : {why : Refusal} → info_in es i ≡ refused why → name_in es i ≡ []
  unfolding info_in name_in unless
  no_name_there {why} e = by_there (entry_there es i) refl
    where
      by_there : (b : Bool) → entry_there es i ≡ b → name_in es i ≡ []
      by_there true t = absurd (refused_given why (info_of es i) (sym e ∙ rw t))
      by_there false t = rw t

  a_name_there : {f : SlotInfo} → all name_right es ≡ true → info_in es i ≡ given f → 0 < length (name_in es i)
  unfolding info_in name_in name_of unless name_right entry_there
  a_name_there {f} right e = by_there (entry_there es i) refl
    where
      by_there : (b : Bool) → entry_there es i ≡ b → 0 < length (name_in es i)
      by_there true t =
          rw t
          (ltb-true 0 (length (name (entry_of es i)))
          (and_true _ _ (all_at name_right es no_entry i right (ltb-true i (length es) t))).0)
      by_there false t = absurd (refused_given NoSuchEntry f (sym (rw t) ∙ e))

-- ---- of a flash

module _ (s : Setting) (img : List ℕ) (i : ℕ) where
  pub name_none : {why : Refusal} → entry_info s img i ≡ refused why → entry_name s img i ≡ []
  unfolding entry_info entry_name table_part table_of
  name_none e = by_view (view s img) refl
    where
      by_view : (a : Answer View) → view s img ≡ a → entry_name s img i ≡ []
      by_view (refused why) w = rw w (no_entry_name i)
      by_view (given v) w = rw w (no_name_there (entries (block img v.table)) i (rw w at e))

  pub name_some : {f : SlotInfo} → entry_info s img i ≡ given f → 0 < length (entry_name s img i)
  unfolding entry_info entry_name table_part table_of
  name_some {f} e = by_view (view s img) refl
    where
      by_view : (a : Answer View) → view s img ≡ a → 0 < length (entry_name s img i)
      by_view (refused why) w = absurd (refused_given why f (rw w at e))
      by_view (given v) w =
          let stands = standing s (length img) (block img v.table)
          (table_read_stands s img v (seen s img v w)) in
          rw w (a_name_there (entries (block img v.table)) i stands.rule3 (rw w at e))
