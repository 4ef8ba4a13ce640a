-- Blocks by value: a lent block put over another, two compared, a table with the new name. Assumes nothing.
use mathlib.Core.Path.{◌≡◌, sym, ap, ◌∙◌}
use mathlib.Core.Bool.{Bool, true, false, cond}
use mathlib.Core.List.{List}
use Prim.Native.Nat.{ℕ, ◌≤◌, ◌<◌}
use native.Mathlib.Omega.{arith}
use lib.ListN.{length, get_or, drop, length-replicate}
use lib.Seq.{take_all}
use lib.Dec.{leb}
use borrow.Author.Tests.{leb-true, ltb-true}
use Rattle.rules.specs.Lists.{same}
use Rattle.rules.specs.Bytes.{block_size, up_to_zero}
use Rattle.rules.specs.Table.{entry_count, entries, slots, has_name, no_entry}
use Rattle.rules.specs.Readers.{slot_row, slot_entry, slot_there}
use Rattle.rules.specs.Commands.{put_name, has_already}
use Rattle.rules.specs.Book.{renamed}
use Rattle.rules.proofs.Lists.Tests.{by_cases, clash, and_true, same_true, same_of}
use Rattle.rules.proofs.Table.Standing.{length-entries_from}
use Rattle.rules.proofs.Table.Renaming.{slot_row_found}
use Rattle.walks.specs.Entries.{most_entries}
use Rattle.rules.specs.Bytes.{block}
use Rattle.rules.specs.Answers.{given}
use Rattle.rules.specs.Copies.{view}
use Rattle.rules.specs.declared.Setting.{Setting}
use Rattle.rules.specs.declared.View.{View}
use Rattle.rules.proofs.Table.Standing.{standing}
use Rattle.views.proofs.Seen.{seen, table_read_stands}
use Rattle.views.proofs.Opening.{located}
use Rattle.rooms.specs.Inner.Candidates.{Placed}
use Rattle.walks.specs.Entries.{HasEntries}
use Rattle.text.specs.Put.{Put}
use Rattle.text.proofs.Puts.{keeps_length, put_whole}
use Rattle.book_entries.specs.Tables.{new_name, no_block, has_slot}

put_over : {out after text : List ℕ} {end : ℕ} → length text ≡ length out → Put out 0 text after end → after ≡ text
put_over {out} {after} {text} {end} h p =
    sym (take_all end after (omega (arith, p.ended, keeps_length p))) ∙ put_whole (omega arith) p

-- a block put over an empty one
pub block_put : {out after text : List ℕ} {end : ℕ}
    → out ≡ no_block
    → length text ≡ block_size
    → Put out 0 text after end
    → after ≡ text
unfolding no_block
block_put e h p = put_over (h ∙ sym (ap length e ∙ length-replicate {A = ℕ} block_size 0)) p

pub same_by : (r : Bool) (a b : List ℕ) → (r ≡ true → a ≡ b) × (a ≡ b → r ≡ true) → r ≡ same a b
same_by r a b (f, g) =
    by_cases (same a b)
    (λ t. g (same_true a b t) ∙ sym t)
    (λ n. by_cases r (λ t. absurd (clash (same a b) (same_of a b (f t)) n)) (λ q. q ∙ sym n))

-- ---- the entry of a slot that a table has

module _ (t : List ℕ) (k : ℕ) (has : has_slot t k ≡ true) where
  pub few_entries : entry_count t ≤ most_entries
  unfolding has_slot
  few_entries = leb-true (entry_count t) most_entries (and_true (leb (entry_count t) most_entries) _ has).0

  there : k < length (slots (entries t))
  unfolding has_slot slot_there
  there = ltb-true k (length (slots (entries t))) (and_true (leb (entry_count t) most_entries) _ has).1

  pub has_entries : length t ≡ block_size → HasEntries t (entry_count t)
  has_entries whole = record { whole = whole; few = few_entries }

  -- so that one is found
  pub no_end : slot_row (entries t) k ≡ length (entries t) → ⊥
  no_end e = omega (arith, e, (slot_row_found (entries t) k there).0)

  module _ {e : ℕ} (is_row : e ≡ slot_row (entries t) k) where
    pub row_there : e < length (entries t)
    row_there = omega (arith, is_row, (slot_row_found (entries t) k there).0)

    pub row_below : e < entry_count t
    unfolding entries
    row_below = omega (arith, is_row, length-entries_from (entry_count t) (drop 0x20 t), (slot_row_found (entries t) k there).0)

    -- whether it has the new name already
    already : has_already (entries t) k new_name ≡ has_name (up_to_zero new_name) (get_or (entries t) e no_entry)
    unfolding has_already slot_entry entries up_to_zero
    already = rw (← is_row)

    pub named_already : has_name (up_to_zero new_name) (get_or (entries t) e no_entry) ≡ true
        → t ≡ cond (has_slot t k) (renamed t k new_name) t
    unfolding renamed
    named_already h = sym (rw (has, already, h))

    pub named_now : has_name (up_to_zero new_name) (get_or (entries t) e no_entry) ≡ false
        → put_name t e new_name ≡ cond (has_slot t k) (renamed t k new_name) t
    unfolding renamed
    named_now h = sym (rw (has, already, h, is_row))

-- ---- where a new slot starts

-- the entries of the table read lie inside the image
pub placed : (s : Setting) (img : List ℕ) (v : View) (t : List ℕ) → view s img ≡ given v → t ≡ block img v.table → Placed (length img) (entries t)
placed s img v t h is =
    let st = standing s (length img) (block img v.table) (table_read_stands s img v (seen s img v h)) in
    rw is record {
      short = (located s img v h).short;
      inside = st.rule6;
      aligned = st.rule5;
    }
