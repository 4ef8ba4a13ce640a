-- "The quarry image" and its variants, byte for byte; the slots as document 02, No. 2, has them. Assumes nothing.
use Rattle.std.specs.Prelude.{List, [], ◌∷◌, ◌++◌, ℕ, zero, suc, ◌+◌, ◌*◌, ◌-◌, take, drop, length, replicate}
use Rattle.rules.specs.Bytes.{bytes_of, block_size, erased_byte}
use Rattle.rules.specs.Numbers.{setting}
use Rattle.rules.specs.declared.Setting.{Setting}
use Rattle.rules.specs.Table.{boot_info, factory_image, spt0_name, spt1_name, cpb0_name, cpb1_name}
use Rattle.rules.specs.Pointers.{erased_value}
use Rattle.rules.specs.Commands.{pointer_bytes}

-- granule 4,096, SPT0 at 0x4000, SPT1 at 0x5000
unfoldable pub quarry_setting : Setting
quarry_setting = setting 4096 0x4000 0x5000

-- bytes, and after them as many of one byte as make n
unfoldable pub padded : ℕ → ℕ → List ℕ → List ℕ
padded n b bs = bs ++ replicate (n - length bs) b

unfoldable pub entry_bytes : List ℕ → ℕ → ℕ → ℕ → List ℕ
entry_bytes n start size flags = padded 16 0 n ++ (bytes_of 8 start ++ (bytes_of 4 size ++ bytes_of 4 flags))

-- the table, with the starts of P1 and P2
unfoldable pub quarry_table : ℕ → ℕ → List ℕ
quarry_table p1 p2 =
    padded block_size 0
    (bytes_of 4 0x57713427 ++ (bytes_of 4 0 ++ (bytes_of 4 9 ++ (replicate 20 0
    ++ (entry_bytes boot_info 0x0000 0x2000 1
    ++ (entry_bytes factory_image 0x2000 0x2000 1
    ++ (entry_bytes spt0_name 0x4000 0x1000 1
    ++ (entry_bytes spt1_name 0x5000 0x1000 1
    ++ (entry_bytes cpb0_name 0x6000 0x1000 1
    ++ (entry_bytes cpb1_name 0x7000 0x1000 1
    ++ (entry_bytes (80 ∷ 49 ∷ []) p1 0x1000 0
    ++ (entry_bytes (80 ∷ 50 ∷ []) p2 0x1000 0
    ++ entry_bytes (80 ∷ 51 ∷ []) 0xA000 0x1000 0))))))))))))

-- a pointer block of this offset and count, with these bytes from 0x18 on
unfoldable pub shaped_pointers : ℕ → ℕ → List ℕ → List ℕ
shaped_pointers offset count bs =
    padded block_size erased_byte
    (bytes_of 4 0x57789609 ++ (bytes_of 4 0x18 ++ (bytes_of 4 block_size ++ (bytes_of 4 0
    ++ (bytes_of 4 offset ++ (bytes_of 4 count ++ bs))))))

-- the pointer block, with the pointers of its lowest places
unfoldable pub quarry_pointers : List ℕ → List ℕ
quarry_pointers vs = shaped_pointers 0x20 508 (bytes_of 8 0 ++ pointer_bytes vs)

-- an image of a length, from a table, a pointer block and the bytes from 0x8000 on: both copies are equal, the rest is
-- 0xFF
unfoldable pub image : ℕ → List ℕ → List ℕ → List ℕ → List ℕ
image len t p bs =
    replicate 0x4000 erased_byte ++ (t ++ (t ++ (p ++ (p ++ padded (len - 0x8000) erased_byte bs))))

-- the quarry image with these bytes in its slots, P1 first, and these pointers from place 0 up
unfoldable pub quarry_with : List ℕ → List ℕ → List ℕ
quarry_with slots vs = image 65536 (quarry_table 0x8000 0x9000) (quarry_pointers vs) slots

-- the slots are empty
unfoldable pub quarry : List ℕ
quarry = quarry_with [] (0x8000 ∷ 0x9000 ∷ [])

-- "slots with a first byte of 0"
unfoldable pub sent_slot : List ℕ
sent_slot = 0 ∷ replicate 4095 erased_byte

unfoldable pub sent_slots : List ℕ
sent_slots = sent_slot ++ (sent_slot ++ sent_slot)

unfoldable pub quarry_sent : List ℕ
quarry_sent = quarry_with sent_slots (0x8000 ∷ 0x9000 ∷ [])

-- P1 and P2 are empty, and P3 begins with these bytes
unfoldable pub quarry_p3 : List ℕ → List ℕ
quarry_p3 bs = quarry_with (replicate 0x2000 erased_byte ++ bs) (0x8000 ∷ 0x9000 ∷ [])

-- case 7: the start of P2 also at place k, which is then the highest used; the places between are erased
unfoldable pub quarry_used_to : ℕ → List ℕ
quarry_used_to k = quarry_with sent_slots (0x8000 ∷ 0x9000 ∷ (replicate (k - 2) erased_value ++ (0x9000 ∷ [])))

-- document 02, No. 9: a byte that belongs to no place, and the quarry image with a pointer block of this offset and
-- count: such bytes before its places, then these pointers, then what follows them
abbrev pub other_byte : ℕ
other_byte = 0x5A

unfoldable pub quarry_shaped : ℕ → ℕ → List ℕ → List ℕ → List ℕ
quarry_shaped offset count vs after =
    image 65536 (quarry_table 0x8000 0x9000)
    (shaped_pointers offset count (replicate (offset - 0x18) other_byte ++ (pointer_bytes vs ++ after))) sent_slots

-- offset 0x28 with 507 places
unfoldable pub quarry_0x28 : List ℕ
quarry_0x28 = quarry_shaped 0x28 507 (0x8000 ∷ 0x9000 ∷ []) []

-- offset 4,088 with one place
unfoldable pub quarry_one_place : List ℕ
quarry_one_place = quarry_shaped 4088 1 (0x9000 ∷ []) []

-- offset 0x20 with four places, all used, and other bytes behind the last
unfoldable pub quarry_four_places : List ℕ
quarry_four_places = quarry_shaped 0x20 4 (0x8000 ∷ 0x9000 ∷ 0x8000 ∷ 0x9000 ∷ []) (replicate 4032 other_byte)

-- the second copy of offset 0x28, the first as it was
unfoldable pub quarry_two_shapes : List ℕ
quarry_two_shapes = take 0x7000 quarry_sent ++ drop 0x7000 quarry_0x28

-- case 9: P1 moved to 0x11000 and P2 to 0x10000, places 0 and 1 holding these
unfoldable pub quarry_moved : List ℕ
quarry_moved = image 73728 (quarry_table 0x11000 0x10000) (quarry_pointers (0x11000 ∷ 0x10000 ∷ [])) []

-- the quarry table without P3's row
unfoldable pub shorter_table : List ℕ
shorter_table =
    padded block_size 0
    (take 8 (quarry_table 0x8000 0x9000) ++ (bytes_of 4 8 ++ take (20 + 32 * 8) (drop 12 (quarry_table 0x8000 0x9000))))

-- document 02, No. 5: the quarry image without P3's row and with 0xA000 in place 2
unfoldable pub quarry_held : List ℕ
quarry_held = image 65536 shorter_table (quarry_pointers (0x8000 ∷ 0x9000 ∷ 0xA000 ∷ [])) []

-- n slots of 0x1000 one after the other, named Q and a number
unfoldable pub more_entries : ℕ → ℕ → List ℕ
more_entries zero start = []
more_entries (suc n) start = entry_bytes (81 ∷ suc n ∷ []) start 0x1000 0 ++ more_entries n (start + 0x1000)

-- case 10: the quarry table with 118 more slots from 0xB000 on, which make 127 entries, and this count
unfoldable pub longer_table : ℕ → List ℕ
longer_table n =
    take 8 (quarry_table 0x8000 0x9000)
    ++ (bytes_of 4 n ++ (take (20 + 32 * 9) (drop 12 (quarry_table 0x8000 0x9000)) ++ more_entries 118 0xB000))

-- the length of an image that ends with the last of them
abbrev pub longer_length : ℕ
longer_length = 0x81000
