-- What the readers answer: the order list, the table read, the faults of the table copies, the slots' facts. Assumes
-- nothing.
use Rattle.std.specs.Prelude.{Bool, cond, List, [], ◌∷◌, ◌++◌, ℕ, zero, suc, leb, ltb, length, get_or, drop}
use Rattle.rules.specs.Bytes.{block}
use Rattle.rules.specs.Answers.{Answer, refused, given, unless, ◌>>=◌}
use Rattle.rules.specs.Numbers.{length_right, granule_right, addresses_right}
use Rattle.rules.specs.declared.Setting.{Setting}
use Rattle.rules.specs.declared.TableFaults.{TableFaults}
use Rattle.rules.specs.Table.{Entry, entries, name, slots, is_slot, no_entry}
use Rattle.rules.specs.Copies.{both_faults, view, boot_order}
use Rattle.rules.specs.declared.View.{View}
use Rattle.rules.specs.declared.SlotInfo.{SlotInfo}
use Rattle.rules.specs.declared.Refusal.TheVariants.{BadLength, BadGranule, BadAddresses, NoSuchSlot, RowTooShort}

-- ---- the order list

-- refusal 13: the lent row is shorter than the order
unfoldable pub order_in : List ℕ → ℕ → Answer (List ℕ)
order_in o room = unless RowTooShort (leb (length o) room) (given o)

-- the refusals of a view and 13, or the boot order
unfoldable pub order_list : Setting → List ℕ → ℕ → Answer (List ℕ)
order_list s img room = view s img >>= λ v. order_in (boot_order img v) room

-- "writes slot numbers into the front of the row": the rest of it, and on a refusal all of it, stays
unfoldable pub row_after : Answer (List ℕ) → List ℕ → List ℕ
row_after (refused n) row = row
row_after (given o) row = o ++ drop (length o) row

-- ---- the table read

unfoldable pub table_of : List ℕ → Answer View → List ℕ
table_of img (refused n) = []
table_of img (given v) = block img v.table

-- the 4,096 bytes of the table copy read; none when refused
unfoldable pub table_part : Setting → List ℕ → List ℕ
table_part s img = table_of img (view s img)

-- ---- the faults of the two table copies (document 02, No. 8)

-- refusals 1 to 3, or the first broken rule of SPT0 and of SPT1
unfoldable pub table_faults : Setting → List ℕ → Answer TableFaults
table_faults s img =
    unless BadLength (length_right (length img))
    (unless BadGranule (granule_right s.granule)
    (unless BadAddresses (addresses_right s (length img))
    (given (both_faults s img))))

-- ---- the slots

-- the number of application slots
unfoldable pub slot_count : Setting → List ℕ → Answer ℕ
slot_count s img = view s img >>= λ v. given (length (slots (entries (block img v.table))))

-- the entry number of the k-th of `slots`; past the last slot, the number of entries
unfoldable pub slot_row : List Entry → ℕ → ℕ
slot_row [] k = 0
slot_row (e ∷ es) zero = cond (is_slot e) 0 (suc (slot_row es zero))
slot_row (e ∷ es) (suc k) = cond (is_slot e) (suc (slot_row es k)) (suc (slot_row es (suc k)))

-- the k-th of `slots`, by its entry number
unfoldable pub slot_entry : List Entry → ℕ → Entry
slot_entry es k = get_or es (slot_row es k) no_entry

unfoldable pub info : List Entry → ℕ → SlotInfo
info es k = record {
  entry = record { 0 = slot_row es k };
  start = (slot_entry es k).start;
  size = (slot_entry es k).size;
  flags = (slot_entry es k).flags;
}

-- refusal 7: "slot number not below the number of slots"
unfoldable pub slot_there : List Entry → ℕ → Bool
slot_there es k = ltb k (length (slots es))

-- the refusals of a view and 7, or what is known of a slot beside its name
unfoldable pub slot_info : Setting → List ℕ → ℕ → Answer SlotInfo
slot_info s img k = view s img >>= λ v.
    (let es = entries (block img v.table) in unless NoSuchSlot (slot_there es k) (given (info es k)))

unfoldable pub name_in : List Entry → ℕ → List ℕ
name_in es k = cond (slot_there es k) (name (slot_entry es k)) []

-- the name of a slot, up to its zero; empty when refused, which no name of a standing table is
unfoldable pub slot_name : Setting → List ℕ → ℕ → List ℕ
slot_name s img k = name_in (entries (table_part s img)) k
