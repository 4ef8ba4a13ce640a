-- "Sub-partition table, 4,096 bytes": its entries, the eleven rules of a copy that stands, the first of them that a copy
-- breaks, the application slots.
-- The layout is that of source document 000, section 3.2. Assumes nothing.
use Rattle.std.specs.Prelude.{Bool, true, false, not, ◌&&◌, ◌||◌, List, [], ◌∷◌, map, ℕ, zero, suc, ◌+◌, eqb, leb, ltb, take, drop, length, Option}
use Rattle.rules.specs.Lists.{same, all, any, pairwise, first_failing, first_clash, keep, first}
use Rattle.rules.specs.Bytes.{field, up_to_zero, multiple, block_size}
use Rattle.rules.specs.Answers.{no_entry_number, broken, no_fault}
use Rattle.rules.specs.declared.Setting.{Setting}
use Rattle.rules.specs.declared.TableRule.{TableRule}
use Rattle.rules.specs.declared.Fault.{Fault}
use Rattle.rules.specs.declared.TableRule.TheVariants.{HeaderRight, CountRight, NameRight, NamesDiffer, RangeAligned, RangeInside, RangesApart, SixNamed, BootInfoAtZero, TablesAsTold, BlocksOnGranules}

-- ---- entries

-- an entry of 32 bytes: name 16, start 8, length 4, flags 4
pub record Entry : Type 0 where
  pub name_field : List ℕ
  pub start : ℕ
  pub size : ℕ
  pub flags : ℕ

-- the entry at the front of these bytes
unfoldable pub entry : List ℕ → Entry
entry bs = record { name_field = take 16 bs; start = field 16 8 bs; size = field 24 4 bs; flags = field 28 4 bs }

unfoldable pub entries_from : ℕ → List ℕ → List Entry
entries_from zero bs = []
entries_from (suc n) bs = entry bs ∷ entries_from n (drop 32 bs)

-- bytes 8-11: the number of entries
unfoldable pub entry_count : List ℕ → ℕ
entry_count t = field 8 4 t

-- the first n entries of a table: they begin at 0x20
abbrev pub rows : ℕ → List ℕ → List Entry
rows n t = entries_from n (drop 0x20 t)

-- the counted entries
unfoldable pub entries : List ℕ → List Entry
entries t = rows (entry_count t) t

-- a name counts up to its zero byte
unfoldable pub name : Entry → List ℕ
name e = up_to_zero e.name_field

-- ---- the six names, letter by letter

-- B O O T _ I N F O
unfoldable pub boot_info : List ℕ
boot_info = 66 ∷ 79 ∷ 79 ∷ 84 ∷ 95 ∷ 73 ∷ 78 ∷ 70 ∷ 79 ∷ []

-- F A C T O R Y _ I M A G E
unfoldable pub factory_image : List ℕ
factory_image = 70 ∷ 65 ∷ 67 ∷ 84 ∷ 79 ∷ 82 ∷ 89 ∷ 95 ∷ 73 ∷ 77 ∷ 65 ∷ 71 ∷ 69 ∷ []

-- S P T 0
unfoldable pub spt0_name : List ℕ
spt0_name = 83 ∷ 80 ∷ 84 ∷ 48 ∷ []

-- S P T 1
unfoldable pub spt1_name : List ℕ
spt1_name = 83 ∷ 80 ∷ 84 ∷ 49 ∷ []

-- C P B 0
unfoldable pub cpb0_name : List ℕ
cpb0_name = 67 ∷ 80 ∷ 66 ∷ 48 ∷ []

-- C P B 1
unfoldable pub cpb1_name : List ℕ
cpb1_name = 67 ∷ 80 ∷ 66 ∷ 49 ∷ []

unfoldable pub six_names : List (List ℕ)
six_names = boot_info ∷ factory_image ∷ spt0_name ∷ spt1_name ∷ cpb0_name ∷ cpb1_name ∷ []

unfoldable pub has_name : List ℕ → Entry → Bool
has_name n e = same (name e) n

-- the name is one of the six
unfoldable pub is_fixed_name : List ℕ → Bool
is_fixed_name n = any (same n) six_names

-- stands in for an entry that is not there: it starts at 0 and is empty
unfoldable pub no_entry : Entry
no_entry = record { name_field = []; start = 0; size = 0; flags = 0 }

-- the first entry of that name. Where no entry has it, `no_entry` starts at 0, so that rule 9 below holds of a table
-- without BOOT_INFO; such a table breaks rule 8
unfoldable pub named : List ℕ → List Entry → Entry
named n es = first (has_name n) no_entry es

-- where a table puts the two copies of the pointer block
unfoldable pub cpb0_of : List ℕ → ℕ
cpb0_of t = (named cpb0_name (entries t)).start

unfoldable pub cpb1_of : List ℕ → ℕ
cpb1_of t = (named cpb1_name (entries t)).start

-- ---- the eleven rules of a table that stands, in the order of document 01's sentence

abbrev pub table_magic : ℕ
table_magic = 0x57713427

unfoldable pub magic_right : List ℕ → Bool
magic_right t = eqb (field 0 4 t) table_magic

-- 1: magic and version are right
unfoldable pub header_right : List ℕ → Bool
header_right t = magic_right t && eqb (field 4 4 t) 0

-- 2: there are 1 to 127 entries
unfoldable pub count_right : List ℕ → Bool
count_right t = leb 1 (entry_count t) && leb (entry_count t) 127

-- 3: the name has at least one byte before a zero within the 16
unfoldable pub name_right : Entry → Bool
name_right e = ltb 0 (length (name e)) && ltb (length (name e)) 16

-- 4: names differ
unfoldable pub names_differ : Entry → Entry → Bool
names_differ d e = not (same (name d) (name e))

-- 5: start and length are multiples of 4,096 and length is not 0
unfoldable pub range_aligned : Entry → Bool
range_aligned e = multiple block_size e.start && multiple block_size e.size && not (eqb e.size 0)

-- 6: start plus length is at most the image length
unfoldable pub range_inside : ℕ → Entry → Bool
range_inside len e = leb (e.start + e.size) len

-- 7: no two ranges overlap
unfoldable pub ranges_apart : Entry → Entry → Bool
ranges_apart d e = leb (d.start + d.size) e.start || leb (e.start + e.size) d.start

-- 8: the six are all named
unfoldable pub six_named : List Entry → Bool
six_named es = all (λ n. any (has_name n) es) six_names

-- 9: BOOT_INFO starts at 0
unfoldable pub boot_info_at_0 : List Entry → Bool
boot_info_at_0 es = eqb (named boot_info es).start 0

-- 10: SPT0 and SPT1 start where the caller said
unfoldable pub tables_as_told : Setting → List Entry → Bool
tables_as_told s es = eqb (named spt0_name es).start s.spt0 && eqb (named spt1_name es).start s.spt1

-- starts at a multiple of the granule and is at least one granule long
unfoldable pub on_granules : ℕ → Entry → Bool
on_granules g e = multiple g e.start && leb g e.size

-- SPT0, SPT1, CPB0 and CPB1
abbrev pub block_names : List (List ℕ)
block_names = spt0_name ∷ spt1_name ∷ cpb0_name ∷ cpb1_name ∷ []

-- 11: the four blocks are on granules
unfoldable pub blocks_on_granules : Setting → List Entry → Bool
blocks_on_granules s es = all (λ n. on_granules s.granule (named n es)) block_names

-- rules 3 to 11, over the counted entries
unfoldable pub entries_stand : Setting → ℕ → List Entry → Bool
entries_stand s len es =
    all name_right es
    && pairwise names_differ es
    && all range_aligned es
    && all (range_inside len) es
    && pairwise ranges_apart es
    && six_named es
    && boot_info_at_0 es
    && tables_as_told s es
    && blocks_on_granules s es

-- "A table copy stands if": for an image of this length (document 01's term)
unfoldable pub table_stands : Setting → ℕ → List ℕ → Bool
table_stands s len t = header_right t && count_right t && entries_stand s len (entries t)

-- ---- the first broken rule, and the entry that breaks it (document 02, No. 8)

-- passes, if it has that name
unfoldable pub if_named : List ℕ → (Entry → Bool) → Entry → Bool
if_named n right e = not (has_name n e) || right e

unfoldable pub starts_at : ℕ → Entry → Bool
starts_at a e = eqb e.start a

-- what rules 9, 10 and 11 ask of one entry
unfoldable pub boot_info_right : Entry → Bool
boot_info_right e = if_named boot_info (starts_at 0) e

unfoldable pub table_as_told : Setting → Entry → Bool
table_as_told s e = if_named spt0_name (starts_at s.spt0) e && if_named spt1_name (starts_at s.spt1) e

unfoldable pub block_on_granules : Setting → Entry → Bool
block_on_granules s e = all (λ n. if_named n (on_granules s.granule) e) block_names

-- a rule broken at an entry, unless it is kept: then what the rules after it say
unfoldable pub broken_unless : TableRule → ℕ → Bool → Option Fault → Option Fault
broken_unless rule e true later = later
broken_unless rule e false later = broken rule e

-- rules 3 to 11, over the counted entries: "the lowest entry number that breaks it", of names and overlaps "the lowest
-- entry that clashes with an earlier one"
unfoldable pub entries_fault : Setting → ℕ → List Entry → Option Fault
entries_fault s len es =
    broken_unless NameRight (first_failing name_right es) (all name_right es)
    (broken_unless NamesDiffer (first_clash names_differ [] es) (pairwise names_differ es)
    (broken_unless RangeAligned (first_failing range_aligned es) (all range_aligned es)
    (broken_unless RangeInside (first_failing (range_inside len) es) (all (range_inside len) es)
    (broken_unless RangesApart (first_clash ranges_apart [] es) (pairwise ranges_apart es)
    (broken_unless SixNamed no_entry_number (six_named es)
    (broken_unless BootInfoAtZero (first_failing boot_info_right es) (boot_info_at_0 es)
    (broken_unless TablesAsTold (first_failing (table_as_told s) es) (tables_as_told s es)
    (broken_unless BlocksOnGranules (first_failing (block_on_granules s) es) (blocks_on_granules s es)
    no_fault))))))))

-- "the first broken rule" of a table copy; `no_fault` exactly if it stands
unfoldable pub fault : Setting → ℕ → List ℕ → Option Fault
fault s len t =
    broken_unless HeaderRight no_entry_number (header_right t)
    (broken_unless CountRight no_entry_number (count_right t)
    (entries_fault s len (entries t)))

-- ---- application slots

-- flag bits 0 and 1 clear and a name other than the six
unfoldable pub is_slot : Entry → Bool
is_slot e = multiple 4 e.flags && not (is_fixed_name (name e))

-- the application slots, in table order: slot number 0 first
unfoldable pub slots : List Entry → List Entry
slots es = keep is_slot es

-- where the application slots start
unfoldable pub slot_starts : List Entry → List ℕ
slot_starts es = map (λ (e : Entry). e.start) (slots es)

-- the same of a table
unfoldable pub starts : List ℕ → List ℕ
starts t = slot_starts (entries t)
