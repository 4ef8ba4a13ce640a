-- Worked values of the definitions, small enough to verify by hand, in the order of the definitions' files. Assumes
-- nothing.
use mathlib.Core.Path.{◌≡◌, refl}
use mathlib.Core.Bool.{Bool, true, false}
use mathlib.Core.List.{List, [], ◌∷◌, ◌++◌, map}
use Prim.Native.Nat.{ℕ, suc, ◌+◌, ◌*◌}
use Rattle.std.specs.Prelude.{Option}
use lib.Dec.{eqb, ltb}
use lib.ListN.{take, drop, length, get_or, replicate}
use Rattle.rules.specs.Lists.{same, without, pairwise, first_failing, first_clash, keep, first}
use Rattle.rules.specs.Bytes.{little_endian, bytes_of, field, block, up_to_zero, multiple}
use Rattle.rules.specs.Answers.{refused, given, unless, ◌>>=◌, broken, no_fault, number_of, rule_number}
use Rattle.rules.specs.Numbers.{setting, length_right, granule_right, addresses_right}
use Rattle.rules.specs.Table.{Entry, entry, entry_count, entries, boot_info, spt0_name, cpb0_name, cpb1_name, has_name, is_fixed_name, no_entry, named, cpb0_of, header_right, count_right, name_right, names_differ, range_aligned, range_inside, ranges_apart, six_named, boot_info_at_0, tables_as_told, on_granules, blocks_on_granules, table_stands, entries_fault, fault, is_slot, starts}
use Rattle.rules.specs.Pointers.{pointers_stand, places, erased_value, judged, order}
use Rattle.rules.specs.Copies.{copy_read, no_table, pair_agrees, dump_stands, standing_dump}
use Rattle.rules.specs.Readers.{order_in, row_after, slot_row, info, name_in}
use Rattle.rules.specs.Steps.{programmed, wiped, steps, programs, rewrite, rewrite_pair}
use Rattle.rules.specs.declared.Fault.{Fault}
use Rattle.rules.specs.declared.TableFaults.{TableFaults}
use Rattle.rules.specs.Commands.{pointer_bytes, filled, pointers_of, free_place, is_first, into_place, append_steps, giving, into_places, half_cleared_names, padded_name, put_name, name_allowed, name_free, rename_steps, may_start, upward, lowest_start, has_start, new_row, with_new_row, without_row, size_right, repair_pair, enable, disable, rename, delete, slot_empty}
use Rattle.rules.specs.Cuts.{Progress, run, may_run, runs, half_done, dropped, wiped_where}
use Rattle.rules.specs.Book.{Reading, the_commands, was_refused, finished, cut, how_ended, renamed, booked}
use Rattle.quarry.specs.Quarry.{quarry_setting, padded, entry_bytes, quarry_table, quarry_pointers, shorter_table}
use Rattle.rules.specs.declared.Place.TheVariants.{Erased, Live, Spent, PartWritten, Stray}
use Rattle.rules.specs.declared.Step.{Step}
use Rattle.rules.specs.declared.Step.TheVariants.{Program, Erase}
use Rattle.quarry.proofs.Opened.{rules}
use Rattle.rules.specs.declared.Refusal.TheVariants.{BadLength, BadGranule, BadAddresses, NoPointers, CopiesDiffer, NoSuchSlot, NotInOrder, NameNotAllowed, NameTaken, NoStepsLeft, OutsideImage, RowTooShort, SlotEmpty, NoPlaceLeft, LengthWrong, NoRowLeft, NoStart, IsInOrder, NoMagic, NoTable, NotAJob, NameTooLong, NoSuchEntry, NoSuchPlace}
use Rattle.rules.specs.declared.TableRule.TheVariants.{HeaderRight, CountRight, NameRight, NamesDiffer, RangeAligned, RangeInside, RangesApart, SixNamed, BootInfoAtZero, TablesAsTold, BlocksOnGranules}

-- three application slots' starts, slot number 0 first
abbrev three_starts : List ℕ
three_starts = 0x8000 ∷ 0x9000 ∷ 0xA000 ∷ []

-- the quarry table
unfoldable table : List ℕ
table = quarry_table 0x8000 0x9000

-- an entry of this name
abbrev entry_named : List ℕ → Entry
entry_named n = record { name_field = padded 16 0 n; start = 0; size = 0x1000; flags = 0 }

-- an entry with this start and length
abbrev range : ℕ → ℕ → Entry
range start size = record { name_field = []; start = start; size = size; flags = 0 }

-- stands in for a test of a block: it begins with a 1
abbrev begins_with_1 : List ℕ → Bool
begins_with_1 b = eqb (get_or b 0 0) 1

-- a job under way
abbrev at : List ℕ → List Step → Progress
at img ss = record { image = img; left = ss }

-- ---- the numbers of refusals and of rules

-- of two copies that stand
abbrev no_faults : TableFaults
no_faults = record { fault0 = no_fault; fault1 = no_fault }

refusal_examples :
    (map number_of
    (BadLength ∷ BadGranule ∷ BadAddresses ∷ NoPointers ∷ CopiesDiffer ∷ NoSuchSlot ∷ NotInOrder ∷ NameNotAllowed ∷ NameTaken ∷ [])
    ≡ 1 ∷ 2 ∷ 3 ∷ 5 ∷ 6 ∷ 7 ∷ 8 ∷ 9 ∷ 10 ∷ [])
    × (map number_of (NoStepsLeft ∷ OutsideImage ∷ RowTooShort ∷ SlotEmpty ∷ NoPlaceLeft ∷ []) ≡ 11 ∷ 12 ∷ 13 ∷ 14 ∷ 15 ∷ [])
    × (map number_of (LengthWrong ∷ NoRowLeft ∷ NoStart ∷ IsInOrder ∷ []) ≡ 40 ∷ 41 ∷ 42 ∷ 43 ∷ [])
    × (map number_of (NoMagic no_faults ∷ NoTable no_faults ∷ []) ≡ 50 ∷ 51 ∷ [])
    × (map number_of (NotAJob ∷ NameTooLong ∷ NoSuchEntry ∷ NoSuchPlace ∷ []) ≡ 90 ∷ 91 ∷ 92 ∷ 93 ∷ [])
    × (map rule_number
    (HeaderRight ∷ CountRight ∷ NameRight ∷ NamesDiffer ∷ RangeAligned ∷ RangeInside ∷ RangesApart ∷ SixNamed ∷ BootInfoAtZero
    ∷ TablesAsTold ∷ BlocksOnGranules ∷ [])
    ≡ 1 ∷ 2 ∷ 3 ∷ 4 ∷ 5 ∷ 6 ∷ 7 ∷ 8 ∷ 9 ∷ 10 ∷ 11 ∷ [])
refusal_examples = (refl, refl, refl, refl, refl, refl)

-- ---- lists and bytes

list_and_byte_examples :
    (same (1 ∷ 2 ∷ []) (1 ∷ []) ≡ false)
    × (without 1 (1 ∷ 2 ∷ 1 ∷ []) ≡ 2 ∷ [])
    × (map (pairwise ltb) ((1 ∷ 2 ∷ 3 ∷ []) ∷ (1 ∷ 3 ∷ 2 ∷ []) ∷ []) ≡ true ∷ false ∷ [])
    × (keep (ltb 1) (1 ∷ 2 ∷ 3 ∷ []) ≡ 2 ∷ 3 ∷ [])
    × (map (λ n. first (ltb n) 0 (1 ∷ 2 ∷ 3 ∷ [])) (1 ∷ 9 ∷ []) ≡ 2 ∷ 0 ∷ [])
    × (little_endian (0x34 ∷ 0x12 ∷ []) ≡ 0x1234)
    × (bytes_of 3 0x1234 ≡ 0x34 ∷ 0x12 ∷ 0 ∷ [])
    × (field 1 2 (9 ∷ 0x34 ∷ 0x12 ∷ 9 ∷ []) ≡ 0x1234)
    × (block (1 ∷ 2 ∷ 3 ∷ []) 1 ≡ 2 ∷ 3 ∷ [])
    × (up_to_zero (80 ∷ 49 ∷ 0 ∷ 51 ∷ []) ≡ 80 ∷ 49 ∷ [])
    × (map (multiple 4096) (0 ∷ 0x3000 ∷ 0x3001 ∷ []) ≡ true ∷ true ∷ false ∷ [])
unfolding rules table
list_and_byte_examples = (refl, refl, refl, refl, refl, refl, refl, refl, refl, refl, refl)

-- ---- answers, and refusals 1 to 3

number_examples :
    ((unless NoSuchSlot false (given three_starts) >>= λ a. given (length a)) ≡ refused NoSuchSlot)
    × ((unless NoSuchSlot true (given three_starts) >>= λ a. given (length a)) ≡ given 3)
    × (map length_right (0 ∷ 4096 ∷ 4097 ∷ 268435456 ∷ 268439552 ∷ []) ≡ false ∷ true ∷ false ∷ true ∷ false ∷ [])
    × (map granule_right (4096 ∷ 8192 ∷ 32768 ∷ 65536 ∷ []) ≡ true ∷ false ∷ true ∷ true ∷ [])
    × (map (addresses_right (setting 4096 0x4000 0x5000)) (0x6000 ∷ 0x5000 ∷ []) ≡ true ∷ false ∷ [])
    × (addresses_right (setting 4096 0x4000 0x4000) 0x6000 ≡ false)
    × (addresses_right (setting 32768 0x4000 0x8000) 0x20000 ≡ false)
unfolding rules table
number_examples = (refl, refl, refl, refl, refl, refl, refl)

-- ---- the table

entry_examples :
    (entry_count table ≡ 9)
    × (entry (entry_bytes (80 ∷ 49 ∷ []) 0x8000 0x2000 3)
    ≡ record { name_field = 80 ∷ 49 ∷ replicate 14 0; start = 0x8000; size = 0x2000; flags = 3 })
    × (has_name (80 ∷ 49 ∷ []) (entry_named (80 ∷ 49 ∷ [])) ≡ true)
    × (map is_fixed_name (cpb1_name ∷ (67 ∷ 80 ∷ 66 ∷ 50 ∷ []) ∷ []) ≡ true ∷ false ∷ [])
    × (cpb0_of table ≡ 0x6000)
    × (named (80 ∷ []) (entries table) ≡ no_entry)
unfolding rules table
entry_examples = (refl, refl, refl, refl, refl, refl)

-- rules 1 to 11, in their order
rule_examples :
    (map (λ n. header_right (bytes_of 4 0x57713427 ++ bytes_of 4 n)) (0 ∷ 1 ∷ []) ≡ true ∷ false ∷ [])
    × (map (λ n. count_right (bytes_of 8 0 ++ bytes_of 4 n)) (0 ∷ 1 ∷ 127 ∷ 128 ∷ [])
    ≡ false ∷ true ∷ true ∷ false ∷ [])
    × (map (λ n. name_right (entry_named (replicate n 80))) (0 ∷ 1 ∷ 15 ∷ 16 ∷ []) ≡ false ∷ true ∷ true ∷ false ∷ [])
    × (names_differ (entry_named (80 ∷ 0 ∷ 49 ∷ [])) (entry_named (80 ∷ 0 ∷ 50 ∷ [])) ≡ false)
    × (map range_aligned (range 0x8000 0x1000 ∷ range 0x8000 0 ∷ range 0x8800 0x1000 ∷ range 0x8000 0x1800 ∷ [])
    ≡ true ∷ false ∷ false ∷ false ∷ [])
    × (map (range_inside 0x9000) (range 0x8000 0x1000 ∷ range 0x8000 0x1001 ∷ []) ≡ true ∷ false ∷ [])
    × (map (ranges_apart (range 0x8000 0x1000))
    (range 0x9000 0x1000 ∷ range 0x7000 0x1000 ∷ range 0x7000 0x1001 ∷ range 0x8FFF 0x1000 ∷ [])
    ≡ true ∷ true ∷ false ∷ false ∷ [])
    × (map (λ n. six_named (drop n (entries table))) (0 ∷ 1 ∷ []) ≡ true ∷ false ∷ [])
    × (boot_info_at_0 (entries table) ≡ true)
    × (tables_as_told (setting 4096 0x5000 0x4000) (entries table) ≡ false)
    × (map (on_granules 32768) (range 0x8000 0x8000 ∷ range 0x8000 0x7000 ∷ range 0x4000 0x8000 ∷ [])
    ≡ true ∷ false ∷ false ∷ [])
    × (blocks_on_granules (setting 32768 0x4000 0x5000) (entries table) ≡ false)
unfolding rules table
rule_examples = (refl, refl, refl, refl, refl, refl, refl, refl, refl, refl, refl, refl)

table_examples :
    (map (λ n. table_stands quarry_setting n table) (0xB000 ∷ 0xA000 ∷ []) ≡ true ∷ false ∷ [])
    × (map (λ n. is_slot (entry (entry_bytes (80 ∷ []) 0 0 n))) (0 ∷ 1 ∷ 2 ∷ 4 ∷ [])
    ≡ true ∷ false ∷ false ∷ true ∷ [])
    × (is_slot (entry_named cpb0_name) ≡ false)
    × (starts table ≡ three_starts)
unfolding rules table
table_examples = (refl, refl, refl, refl)

-- the quarry table's entries with another at a row
abbrev with_entry : ℕ → Entry → List Entry
with_entry k e = take k (entries table) ++ (e ∷ drop (suc k) (entries table))

-- entries with this name, or with this start
abbrev slot_of_name : List ℕ → Entry
slot_of_name n = record { name_field = n; start = 0xA000; size = 0x1000; flags = 0 }

abbrev slot_from : ℕ → Entry
slot_from start = record { name_field = 81 ∷ []; start = start; size = 0x1000; flags = 0 }

abbrev boot_info_from : ℕ → Entry
boot_info_from start = record { name_field = boot_info; start = start; size = 0x1000; flags = 1 }

-- what is told of rules 3 to 11 in an image of 0xC000 bytes
abbrev told : List Entry → Option Fault
told es = entries_fault quarry_setting 0xC000 es

-- the first broken rule and its entry: rules 1 and 2, then 3 to 11, and which of two is told
fault_examples :
    (first_failing (ltb 1) (2 ∷ 3 ∷ 1 ∷ 0 ∷ []) ≡ 2)
    × (map (first_clash ltb []) ((1 ∷ 3 ∷ 2 ∷ 1 ∷ []) ∷ (1 ∷ 2 ∷ []) ∷ []) ≡ 2 ∷ 2 ∷ [])
    × (map (fault quarry_setting 0xC000) ([] ∷ (take 4 table ++ (1 ∷ drop 5 table)) ∷ table ∷ [])
    ≡ broken HeaderRight 127 ∷ broken HeaderRight 127 ∷ no_fault ∷ [])
    × (map (λ n. fault quarry_setting 0xC000 (take 8 table ++ (n ∷ drop 9 table))) (0 ∷ 128 ∷ [])
    ≡ broken CountRight 127 ∷ broken CountRight 127 ∷ [])
    × (told (with_entry 7 (slot_of_name []) ++ (slot_of_name [] ∷ [])) ≡ broken NameRight 7)
    × (map (λ k. told (with_entry k (slot_of_name spt0_name))) (1 ∷ 8 ∷ []) ≡ broken NamesDiffer 2 ∷ broken NamesDiffer 8 ∷ [])
    × (told (with_entry 7 (slot_from 0x9001) ++ (slot_from 0x9001 ∷ [])) ≡ broken NamesDiffer 9)
    × (map (λ a. told (with_entry 7 (slot_from a))) (0x9001 ∷ 0xC000 ∷ 0x8000 ∷ 0xA000 ∷ [])
    ≡ broken RangeAligned 7 ∷ broken RangeInside 7 ∷ broken RangesApart 7 ∷ broken RangesApart 8 ∷ [])
    × (told (drop 1 (entries table)) ≡ broken SixNamed 127)
    × (told (with_entry 0 (boot_info_from 0xB000)) ≡ broken BootInfoAtZero 0)
    × (map (λ s. fault s 0xC000 table)
    (setting 4096 0x5000 0x4000 ∷ setting 4096 0x4000 0x9000 ∷ setting 32768 0x4000 0x5000 ∷ [])
    ≡ broken TablesAsTold 2 ∷ broken TablesAsTold 3 ∷ broken BlocksOnGranules 2 ∷ [])
    × (told (entries table) ≡ no_fault)
unfolding rules table
fault_examples = (refl, refl, refl, refl, refl, refl, refl, refl, refl, refl, refl, refl)

-- ---- pointer blocks

pointer_examples :
    (map pointers_stand (quarry_pointers [] ∷ table ∷ []) ≡ true ∷ false ∷ [])
    × (take 3 (places (quarry_pointers (0x8000 ∷ 0 ∷ []))) ≡ 0x8000 ∷ 0 ∷ erased_value ∷ [])
    × (length (places (quarry_pointers [])) ≡ 508)
    × (map (judged three_starts) (erased_value ∷ 0 ∷ 0x9000 ∷ 0xFF00000000009000 ∷ 0x9001 ∷ [])
    ≡ Erased ∷ Spent ∷ Live (record { 0 = 1 }) ∷ PartWritten ∷ Stray 0x9001 ∷ [])
    × (map (judged three_starts) (0xFFFFFFFFFFFFFFFE ∷ 0xFF00000000000000 ∷ 0xFEFFFFFFFFFFFFFF ∷ 1 ∷ [])
    ≡ PartWritten ∷ PartWritten ∷ Stray 0xFEFFFFFFFFFFFFFF ∷ Stray 1 ∷ [])
    -- case 6: what the cut leaves in place 2 of CPB0, and how the listing prints it
    × (judged three_starts 0xFF0000000000A000 ≡ PartWritten)
    × (◌≡◌ {A = ℕ} 0xFF0000000000A000 18374686479671664640)
    × (order three_starts (0x8000 ∷ 0x9000 ∷ 0 ∷ 0x8000 ∷ erased_value ∷ []) ≡ 0 ∷ 1 ∷ [])
unfolding rules table
pointer_examples = (refl, refl, refl, refl, refl, refl, refl, refl)

-- ---- copies and dumps

copy_and_dump_examples :
    (copy_read NoPointers begins_with_1 (1 ∷ 1 ∷ []) 0 1 ≡ given 0)
    × (copy_read NoPointers begins_with_1 (2 ∷ 1 ∷ []) 0 1 ≡ given 1)
    × (copy_read NoPointers begins_with_1 (2 ∷ 2 ∷ []) 0 1 ≡ refused NoPointers)
    × (map (λ img. number_of (no_table (setting 4096 0 8) img))
    (replicate 16 0 ∷ (bytes_of 8 0 ++ bytes_of 4 0x57713427) ∷ (bytes_of 4 0x57713427 ++ bytes_of 4 1) ∷ [])
    ≡ 50 ∷ 51 ∷ 51 ∷ [])
    × (no_table (setting 4096 0 0x1000) (table ++ replicate 4096 0)
    ≡ NoTable (record { fault0 = broken RangeInside 1; fault1 = broken HeaderRight 127 }))
    × (pair_agrees begins_with_1 (1 ∷ 1 ∷ []) 0 1 ≡ false)
    × (map (λ b. pair_agrees begins_with_1 (b ∷ []) 0 0) (1 ∷ 2 ∷ []) ≡ true ∷ false ∷ [])
    × (standing_dump (quarry_pointers []) (quarry_pointers (0 ∷ [])) ≡ quarry_pointers [])
    × (standing_dump (quarry_pointers []) (0 ∷ []) ≡ quarry_pointers [])
    × (standing_dump (0 ∷ []) (quarry_pointers []) ≡ quarry_pointers [])
    × (standing_dump (0 ∷ []) [] ≡ [])
    × (dump_stands (quarry_pointers [] ++ (0xFF ∷ [])) ≡ false)
unfolding rules table
copy_and_dump_examples = (refl, refl, refl, refl, refl, refl, refl, refl, refl, refl, refl, refl)

-- ---- readers

reader_examples :
    (order_in (1 ∷ 0 ∷ []) 2 ≡ given (1 ∷ 0 ∷ []))
    × (order_in (1 ∷ 0 ∷ []) 1 ≡ refused RowTooShort)
    × (row_after (given (1 ∷ 0 ∷ [])) (7 ∷ 8 ∷ 9 ∷ []) ≡ 1 ∷ 0 ∷ 9 ∷ [])
    × (row_after (refused RowTooShort) (7 ∷ 8 ∷ 9 ∷ []) ≡ 7 ∷ 8 ∷ 9 ∷ [])
    × (map (slot_row (entries table)) (0 ∷ 2 ∷ 3 ∷ []) ≡ 6 ∷ 8 ∷ 9 ∷ [])
    × ((info (entries table) 1).start ≡ 0x9000)
    × (map (name_in (entries table)) (1 ∷ 3 ∷ []) ≡ (80 ∷ 50 ∷ []) ∷ [] ∷ [])
unfolding rules table
reader_examples = (refl, refl, refl, refl, refl, refl, refl)

-- ---- steps of the device

step_examples :
    (programmed 1 0x0F (0xFF ∷ 0x35 ∷ 0xFF ∷ []) ≡ 0xFF ∷ 0x05 ∷ 0xFF ∷ [])
    × (wiped 1 2 (1 ∷ 2 ∷ 3 ∷ 4 ∷ []) ≡ 1 ∷ 0xFF ∷ 0xFF ∷ 4 ∷ [])
    × (steps 2 (Erase 0 ∷ Program 0 5 ∷ []) (1 ∷ 2 ∷ 3 ∷ []) ≡ 5 ∷ 0xFF ∷ 3 ∷ [])
    × (programs 8 (1 ∷ 2 ∷ []) ≡ Program 8 1 ∷ Program 9 2 ∷ [])
    × (rewrite 8 (1 ∷ 2 ∷ 3 ∷ 4 ∷ 5 ∷ [])
    ≡ (Program 8 0 ∷ Program 9 0 ∷ Program 10 0 ∷ Program 11 0 ∷ [])
    ++ (Erase 8 ∷ Program 12 5 ∷ Program 8 1 ∷ Program 9 2 ∷ Program 10 3 ∷ Program 11 4 ∷ []))
    × (rewrite_pair 0 8 (1 ∷ []) ≡ rewrite 8 (1 ∷ []) ++ rewrite 0 (1 ∷ []))
unfolding rules table
step_examples = (refl, refl, refl, refl, refl, refl)

-- ---- commands

enable_examples :
    (pointers_of three_starts (2 ∷ 0 ∷ []) ≡ 0x8000 ∷ 0xA000 ∷ [])
    × (pointer_bytes (0x8000 ∷ []) ≡ 0 ∷ 0x80 ∷ 0 ∷ 0 ∷ 0 ∷ 0 ∷ 0 ∷ 0 ∷ [])
    × (filled (quarry_pointers (1 ∷ 2 ∷ 3 ∷ [])) (0xA000 ∷ []) ≡ quarry_pointers (0xA000 ∷ []))
    × (free_place three_starts (0x8000 ∷ erased_value ∷ 0 ∷ erased_value ∷ erased_value ∷ []) ≡ 3)
    × (map (λ v. free_place three_starts (erased_value ∷ v ∷ [])) (erased_value ∷ 0x8000 ∷ []) ≡ 0 ∷ 2 ∷ [])
    × (map (λ k. is_first k (1 ∷ 0 ∷ [])) (1 ∷ 0 ∷ []) ≡ true ∷ false ∷ [])
    × (map (λ n. slot_empty (0 ∷ (replicate n 0xFF ++ (0 ∷ []))) 1) (4095 ∷ 4096 ∷ []) ≡ false ∷ true ∷ [])
    × (map (λ n. slot_empty (replicate 0x1000 n) 0) (0xFE ∷ 0xFF ∷ []) ≡ false ∷ true ∷ [])
    × (into_place 0x7000 0x20 (5 ∷ 6 ∷ []) 2 ≡ Program 0x7030 5 ∷ Program 0x7031 6 ∷ [])
    × (take 2 (append_steps 0x6000 0x7000 0x20 2 0x8000) ≡ Program 0x7030 0 ∷ Program 0x7031 0x80 ∷ [])
    × (take 2 (drop 8 (append_steps 0x6000 0x7000 0x20 2 0x8000)) ≡ Program 0x6030 0 ∷ Program 0x6031 0x80 ∷ [])
unfolding rules table
enable_examples = (refl, refl, refl, refl, refl, refl, refl, refl, refl, refl, refl)

disable_examples :
    (giving three_starts 0 0 (0x8000 ∷ 0x9000 ∷ 0 ∷ 0x8000 ∷ erased_value ∷ []) ≡ 0 ∷ 3 ∷ [])
    × (into_places 0x7000 0x20 (0 ∷ []) (0 ∷ 3 ∷ []) ≡ Program 0x7020 0 ∷ Program 0x7038 0 ∷ [])
    × (map (half_cleared_names (0x11000 ∷ 0x10000 ∷ [])) (0x11000 ∷ 0x10000 ∷ []) ≡ true ∷ false ∷ [])
    × (half_cleared_names (0x1001000 ∷ 0x1000000 ∷ []) 0x1001000 ≡ true)
unfolding rules table
disable_examples = (refl, refl, refl, refl)

rename_and_repair_examples :
    (padded_name (80 ∷ 49 ∷ []) ≡ 80 ∷ 49 ∷ replicate 14 0)
    × (take 4 (drop (0x20 + 32 * 6) (put_name table 6 (65 ∷ []))) ≡ 65 ∷ 0 ∷ 0 ∷ 0 ∷ [])
    × (map name_allowed ([] ∷ (80 ∷ []) ∷ (80 ∷ 0 ∷ []) ∷ spt0_name ∷ []) ≡ false ∷ true ∷ false ∷ false ∷ [])
    × (map (λ row. name_free (entries table) row (80 ∷ 50 ∷ [])) (6 ∷ 7 ∷ []) ≡ false ∷ true ∷ [])
    × (rename_steps 0x4000 0x5000 table 1 (80 ∷ 50 ∷ []) ≡ [])
    × (length (rename_steps 0x4000 0x5000 table 1 (65 ∷ [])) ≡ 8202)
    × (repair_pair begins_with_1 (1 ∷ 1 ∷ []) 0 1 0 ≡ rewrite 1 (1 ∷ 1 ∷ []))
    × (repair_pair begins_with_1 (2 ∷ 1 ∷ []) 0 1 1 ≡ rewrite 0 (1 ∷ []))
    × (repair_pair begins_with_1 (1 ∷ []) 0 0 0 ≡ [])
unfolding rules table
rename_and_repair_examples = (refl, refl, refl, refl, refl, refl, refl, refl, refl)

-- the quarry table has room from 0xB000 on, and 0xC000 is held
create_and_delete_examples :
    (upward 3 0x2000 ≡ 0x2000 ∷ 0x3000 ∷ 0x4000 ∷ [])
    × (map (may_start 0x10000 (entries table) (0xC000 ∷ []) 0x1000) (0xA000 ∷ 0xB000 ∷ 0xC000 ∷ 0xF000 ∷ 0x10000 ∷ [])
    ≡ false ∷ true ∷ false ∷ true ∷ false ∷ [])
    × (map (lowest_start 0 0x10000 (entries table) (0xB000 ∷ [])) (0x1000 ∷ 0x4000 ∷ 0x5000 ∷ [])
    ≡ 0xC000 ∷ 0xC000 ∷ 0x10000 ∷ [])
    × (map (has_start 0 0x10000 (entries table) (0xB000 ∷ [])) (0x1000 ∷ 0x4000 ∷ 0x5000 ∷ [])
    ≡ true ∷ true ∷ false ∷ [])
    × (lowest_start 0xD000 0x10000 (entries table) [] 0x1000 ≡ 0xD000)
    × (map size_right (0 ∷ 0x1000 ∷ 0x1001 ∷ 0xFFFFF000 ∷ []) ≡ false ∷ true ∷ false ∷ true ∷ [])
    × (new_row (80 ∷ 52 ∷ []) 0xB000 0x1000 ≡ entry_bytes (80 ∷ 52 ∷ []) 0xB000 0x1000 0)
    × (entries (with_new_row table (80 ∷ 52 ∷ []) 0xB000 0x1000)
    ≡ entries table ++ (entry (entry_bytes (80 ∷ 52 ∷ []) 0xB000 0x1000 0) ∷ []))
    × (starts (without_row table 7) ≡ 0x8000 ∷ 0xA000 ∷ [])
    × (without_row table 8 ≡ shorter_table)
    × (take 64 (drop (0x20 + 32 * 7) (without_row (with_new_row table (80 ∷ []) 0xB000 0x1000) 8))
    ≡ entry_bytes (80 ∷ 50 ∷ []) 0x9000 0x1000 0 ++ entry_bytes (80 ∷ []) 0xB000 0x1000 0)
unfolding rules table
create_and_delete_examples = (refl, refl, refl, refl, refl, refl, refl, refl, refl, refl, refl)

-- ---- runs and cuts

run_and_cut_examples :
    (run 1 0 (at (7 ∷ []) (Erase 0 ∷ [])) ≡ at (7 ∷ []) (Erase 0 ∷ []))
    × (run 1 1 (at (7 ∷ []) (Erase 0 ∷ Program 0 3 ∷ [])) ≡ at (0xFF ∷ []) (Program 0 3 ∷ []))
    × (run 1 9 (at (7 ∷ []) (Erase 0 ∷ Program 0 3 ∷ [])) ≡ at (3 ∷ []) [])
    × (runs 1 (1 ∷ 0 ∷ 1 ∷ []) (at (7 ∷ []) (Erase 0 ∷ Program 0 3 ∷ [])) ≡ at (3 ∷ []) [])
    × (may_run 1 2 (at (7 ∷ []) []) ≡ refused NoStepsLeft)
    × (may_run 1 2 (at (7 ∷ []) (Program 0 3 ∷ [])) ≡ refused OutsideImage)
    × (may_run 1 1 (at (7 ∷ []) (Program 0 3 ∷ Program 1 3 ∷ [])) ≡ refused OutsideImage)
    × (may_run 2 1 (at (7 ∷ []) (Erase 0 ∷ [])) ≡ refused OutsideImage)
    × (may_run 1 1 (at (7 ∷ []) (Erase 0 ∷ [])) ≡ given (at (7 ∷ []) (Erase 0 ∷ [])))
    × (wiped_where (true ∷ false ∷ true ∷ []) (1 ∷ 2 ∷ 3 ∷ 4 ∷ []) ≡ 0xFF ∷ 2 ∷ 0xFF ∷ 4 ∷ [])
    × (half_done 3 (false ∷ true ∷ []) (Erase 1 ∷ []) (1 ∷ 2 ∷ 3 ∷ 4 ∷ []) ≡ 1 ∷ 2 ∷ 0xFF ∷ 4 ∷ [])
    × (half_done 3 (replicate 9 true) (Erase 0 ∷ []) (1 ∷ 2 ∷ 3 ∷ 4 ∷ []) ≡ 0xFF ∷ 0xFF ∷ 0xFF ∷ 4 ∷ [])
    × (half_done 3 (replicate 2 true) (Program 0 0 ∷ []) (1 ∷ 2 ∷ 3 ∷ []) ≡ 1 ∷ 2 ∷ 3 ∷ [])
    × (dropped 3 [] (at (1 ∷ 2 ∷ 3 ∷ []) (Erase 0 ∷ [])) ≡ 1 ∷ 2 ∷ 3 ∷ [])
unfolding rules table
run_and_cut_examples = (refl, refl, refl, refl, refl, refl, refl, refl, refl, refl, refl, refl, refl, refl)

-- ---- the book

-- a reading with this order
abbrev book : List ℕ → Reading
book o = record { table = table; boot = o }

book_examples :
    (map how_ended ([] ∷ (Erase 0 ∷ []) ∷ []) ≡ finished ∷ cut ∷ [])
    × (booked the_commands quarry_setting [] (enable 2) was_refused true (book (1 ∷ 0 ∷ [])) ≡ book (1 ∷ 0 ∷ []))
    × (booked the_commands quarry_setting [] (enable 2) finished false (book (1 ∷ 0 ∷ [])) ≡ book (2 ∷ 1 ∷ 0 ∷ []))
    × (booked the_commands quarry_setting [] (enable 0) cut true (book (1 ∷ 0 ∷ [])) ≡ book (0 ∷ 1 ∷ []))
    × (booked the_commands quarry_setting [] (enable 0) cut false (book (1 ∷ 0 ∷ [])) ≡ book (1 ∷ 0 ∷ []))
    × (booked the_commands quarry_setting [] (disable 1) finished false (book (1 ∷ 0 ∷ [])) ≡ book (0 ∷ []))
    × ((booked the_commands quarry_setting [] (delete 0) finished true (book (2 ∷ 1 ∷ []))).boot ≡ 1 ∷ 0 ∷ [])
    × (booked the_commands quarry_setting [] (rename 1 (80 ∷ 50 ∷ [])) finished true (book []) ≡ book [])
    × (name_in (entries (renamed table 1 (65 ∷ []))) 1 ≡ 65 ∷ [])
unfolding rules table
book_examples = (refl, refl, refl, refl, refl, refl, refl, refl, refl)
