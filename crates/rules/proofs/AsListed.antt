-- The first steps that small commands list, computed: which copy, which byte and which place comes first; and small pointer
-- blocks. Assumes nothing.
use mathlib.Core.Path.{◌≡◌, refl}
use mathlib.Core.Bool.{true, false}
use mathlib.Core.List.{List, [], ◌∷◌, ◌++◌}
use Prim.Native.Nat.{ℕ}
use lib.ListN.{take, drop, replicate}
use Rattle.rules.specs.Lists.{member, without, all, any, first}
use Rattle.rules.specs.Bytes.{little_endian, bytes_of, field, multiple}
use Rattle.rules.specs.Pointers.{place_offset, place_count, offset_right, fits_room, values, places, erased_value, all_ones, all_zeros, top_byte_erased, one_more, slot_at, live_or, judged, is_erased, slot_given, add_last, order}
use Rattle.rules.specs.Steps.{programs, rewrite, rewrite_pair}
use Rattle.rules.specs.Commands.{pointer_bytes, filled, pointers_of, reorder_steps, below, free_place, is_first, into_place, append_steps, enable_steps, enough_places, giving, into_places, clear_steps, half_cleared_names, disable_steps, padded_name, with_rows, row_bytes, new_range, may_start, upward, candidates, has_start, lowest_start, new_row, with_new_row, without_row}
use Rattle.rules.specs.Table.{Entry, entry_count, range_inside, ranges_apart}
use Rattle.rules.specs.declared.Step.{Step}
use Rattle.rules.specs.declared.Step.TheVariants.{Program, Erase}

-- a pointer goes into copy 1 first, lowest byte first: 0xA000 into place 2 of the blocks at 0x6000 and 0x7000
pub lowest_byte_of_copy_1_first :
    take 2 (append_steps 0x6000 0x7000 0x20 2 0xA000) ≡ Program 0x7030 0x00 ∷ Program 0x7031 0xA0 ∷ []
unfolding bytes_of programs into_place append_steps
lowest_byte_of_copy_1_first = refl

pub copy_0_after_eight_steps : take 1 (drop 8 (append_steps 0x6000 0x7000 0x20 2 0xA000)) ≡ Program 0x6030 0x00 ∷ []
unfolding bytes_of programs into_place append_steps
copy_0_after_eight_steps = refl

-- a pair is rewritten copy 1 first, and of each copy bytes 0 to 3 become zero before the erase
abbrev copy_1_zeroed : List Step
copy_1_zeroed = Program 0x7000 0 ∷ Program 0x7001 0 ∷ Program 0x7002 0 ∷ Program 0x7003 0 ∷ []

pub copy_1_zeroed_then_erased : take 5 (rewrite_pair 0x6000 0x7000 []) ≡ copy_1_zeroed ++ (Erase 0x7000 ∷ [])
unfolding programs rewrite rewrite_pair
copy_1_zeroed_then_erased = refl

-- place 1 is erased and place 2 is not: the free place is above both
pub free_place_above_all_used :
    free_place (0x8000 ∷ []) (0x8000 ∷ erased_value ∷ 0x8000 ∷ erased_value ∷ erased_value ∷ []) ≡ 3
unfolding all_ones all_zeros top_byte_erased one_more slot_at live_or judged is_erased below free_place
free_place_above_all_used = refl

-- 0x11000 half cleared names the slot at 0x10000: disable rewrites
pub rewritten_where_half_cleared_names_another :
    take 4 (disable_steps 0x6000 0x7000 (0x11000 ∷ 0x10000 ∷ []) [] 0) ≡ copy_1_zeroed
unfolding member without little_endian bytes_of field place_offset place_count values places slot_given add_last order programs rewrite rewrite_pair pointer_bytes filled pointers_of reorder_steps into_place giving into_places clear_steps half_cleared_names disable_steps
rewritten_where_half_cleared_names_another = refl

-- a block of two places from 0x20 on, with other bytes before and behind them
abbrev two_places : ℕ → ℕ → List ℕ
two_places u v =
    replicate 0x10 0
    ++ (bytes_of 4 0x20 ++ (bytes_of 4 2 ++ (replicate 8 0x5A ++ (bytes_of 8 u ++ (bytes_of 8 v ++ (1 ∷ 2 ∷ 3 ∷ []))))))

-- a rewrite keeps the bytes before the places and those behind the last
pub bytes_around_kept :
    drop 0x18 (filled (two_places 0x8000 0x9000) (0xA000 ∷ []))
    ≡ replicate 8 0x5A ++ (bytes_of 8 0xA000 ++ (replicate 8 0xFF ++ (1 ∷ 2 ∷ 3 ∷ [])))
unfolding little_endian bytes_of field place_offset place_count pointer_bytes filled
bytes_around_kept = refl

-- both places are used: enable rewrites, and takes no place behind the last
pub full_block_rewritten :
    take 1 (enable_steps 0x6000 0x7000 (0x8000 ∷ 0x9000 ∷ []) (two_places 0x8000 0x9000) 0)
    ≡ take 1 (rewrite 0x7000 (two_places 0x9000 0x8000))
unfolding member without little_endian bytes_of field place_offset place_count values places all_ones all_zeros top_byte_erased one_more slot_at live_or judged is_erased slot_given add_last order programs rewrite rewrite_pair pointer_bytes filled pointers_of reorder_steps below free_place is_first into_place append_steps enable_steps
full_block_rewritten = refl

-- two slots fit two places, and a third does not
pub two_slots_fit : enough_places (0x8000 ∷ 0x9000 ∷ []) (two_places 0x8000 0x8000) 1 ≡ true
unfolding member without little_endian bytes_of field place_offset place_count values places all_ones all_zeros top_byte_erased one_more slot_at live_or judged slot_given add_last order enough_places
two_slots_fit = refl

pub third_slot_too_many : enough_places (0x8000 ∷ 0x9000 ∷ 0xA000 ∷ []) (two_places 0x8000 0x9000) 2 ≡ false
unfolding member without little_endian bytes_of field place_offset place_count values places all_ones all_zeros top_byte_erased one_more slot_at live_or judged slot_given add_last order enough_places
third_slot_too_many = refl

-- where the places may begin, and how many may be there
pub offsets : (offset_right 0x20 ≡ true)
    × (offset_right 4088 ≡ true)
    × (offset_right 0x18 ≡ false)
    × (offset_right 4096 ≡ false)
    × (offset_right 0x24 ≡ false)
    × (offset_right 0xFFFFFFF8 ≡ false)
unfolding offset_right multiple
offsets = (refl, refl, refl, refl, refl, refl)

pub counts : (fits_room 0x20 508 ≡ true)
    × (fits_room 0x20 509 ≡ false)
    × (fits_room 0x28 507 ≡ true)
    × (fits_room 0x28 508 ≡ false)
    × (fits_room 4088 1 ≡ true)
    × (fits_room 4088 2 ≡ false)
    × (fits_room 0x20 0 ≡ false)
    × (fits_room 0x20 0xFFFFFFFF ≡ false)
    × (fits_room 0xFFFFFFF8 1 ≡ false)
unfolding fits_room
counts = (refl, refl, refl, refl, refl, refl, refl, refl, refl)

-- ---- create and delete

-- partitions from 0 to 0x2000 and from 0x3000 to 0x4000
abbrev two_ranges : List Entry
two_ranges = new_range 0 0x2000 ∷ new_range 0x3000 0x1000 ∷ []

-- the lowest free start: one unit fits between the two; two units do not, and a place holds 0x4000
pub lowest_free_start :
    (lowest_start 0 0x8000 two_ranges (0x4000 ∷ []) 0x1000 ≡ 0x2000)
    × (lowest_start 0 0x8000 two_ranges (0x4000 ∷ []) 0x2000 ≡ 0x5000)
unfolding all first member range_inside ranges_apart new_range may_start upward candidates lowest_start
lowest_free_start = (refl, refl)

-- room at the image's end
pub room_at_the_end : has_start 0 0x8000 (new_range 0 0x7000 ∷ []) [] 0x1000 ≡ true
unfolding all any member range_inside ranges_apart new_range may_start upward candidates has_start
room_at_the_end = refl

-- a table of this many counted rows, of which each byte is 7, 8 and 9
abbrev rows_789 : ℕ → List ℕ
rows_789 count =
    replicate 8 0 ++ (bytes_of 4 count ++ (replicate 20 0 ++ (replicate 32 7 ++ (replicate 32 8 ++ replicate 32 9))))

-- the count and the first byte of each row
abbrev outline : List ℕ → List ℕ
outline t = take 1 (drop 8 t) ++ (take 1 (drop 0x20 t) ++ (take 1 (drop 0x40 t) ++ take 1 (drop 0x60 t)))

pub new_row_last_and_counted : outline (with_new_row (rows_789 2) (65 ∷ []) 0x1000 0x1000) ≡ 3 ∷ 7 ∷ 8 ∷ 65 ∷ []
unfolding little_endian bytes_of field entry_count with_rows row_bytes padded_name new_row with_new_row
new_row_last_and_counted = refl

pub rows_close_up : outline (without_row (rows_789 3) 0) ≡ 2 ∷ 8 ∷ 9 ∷ 0 ∷ []
unfolding little_endian bytes_of field entry_count with_rows row_bytes without_row
rows_close_up = refl
