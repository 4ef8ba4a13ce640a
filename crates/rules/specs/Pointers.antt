-- "Pointer block, 4,096 bytes": when a copy stands, what its places hold, the boot order.
-- The layout is that of source document 002. Assumes nothing.
use Rattle.std.specs.Prelude.{Bool, true, false, cond, ◌&&◌, List, [], ◌∷◌, ◌++◌, ℕ, zero, suc, ◌-◌, ◌/◌, eqb, leb, take, drop}
use Rattle.std.specs.Prelude.{Option, None, Some}
use Rattle.rules.specs.Lists.{member}
use Rattle.rules.specs.Bytes.{little_endian, field, block_size, multiple}
use Rattle.rules.specs.declared.Place.{Place}
use Rattle.rules.specs.declared.Place.TheVariants.{Erased, Spent, Live, PartWritten, Stray}

-- 0x10: where the places begin, and 0x14: how many there are
unfoldable pub place_offset : List ℕ → ℕ
place_offset p = field 0x10 4 p

unfoldable pub place_count : List ℕ → ℕ
place_count p = field 0x14 4 p

abbrev pub pointers_magic : ℕ
pointers_magic = 0x57789609

-- "an offset that is a multiple of 8 from 0x20 to 4,088"
unfoldable pub offset_right : ℕ → Bool
offset_right offset = multiple 8 offset && leb 0x20 offset && leb offset 4088

-- "a count from 1 up to the room left"
unfoldable pub fits_room : ℕ → ℕ → Bool
fits_room offset count = leb 1 count && leb count ((block_size - offset) / 8)

-- "A copy stands if the five named fields are right" (document 01's term); offset and count as document 02 has them
unfoldable pub pointers_stand : List ℕ → Bool
pointers_stand p =
    eqb (field 0x00 4 p) pointers_magic
    && eqb (field 0x04 4 p) 0x18
    && eqb (field 0x08 4 p) block_size
    && offset_right (place_offset p)
    && fits_room (place_offset p) (place_count p)

-- n values of 8 bytes each, from the front
unfoldable pub values : ℕ → List ℕ → List ℕ
values zero bs = []
values (suc n) bs = little_endian (take 8 bs) ∷ values n (drop 8 bs)

-- the values of the places, place 0 first
unfoldable pub places : List ℕ → List ℕ
places p = values (place_count p) (drop (place_offset p) p)

-- ---- the judgement of one place

-- the value of 8 bytes 0xFF
abbrev pub erased_value : ℕ
erased_value = 0xFFFFFFFFFFFFFFFF

-- "erased": its 8 bytes are 0xFF
unfoldable pub all_ones : ℕ → Bool
all_ones v = eqb v erased_value

-- "spent (0)"
unfoldable pub all_zeros : ℕ → Bool
all_zeros v = eqb v 0

-- "part-written (top byte 0xFF, not erased)": the byte that is programmed last is still as an erase left it
unfoldable pub top_byte_erased : ℕ → Bool
top_byte_erased v = eqb (v / 0x100000000000000) 0xFF

unfoldable pub one_more : Option ℕ → Option ℕ
one_more None = None
one_more (Some k) = Some (suc k)

-- the slot that starts at an address, of slots with these starts
unfoldable pub slot_at : List ℕ → ℕ → Option ℕ
slot_at [] v = None
slot_at (a ∷ starts) v = cond (eqb a v) (Some 0) (one_more (slot_at starts v))

-- "live with its slot" where a slot starts at the value, else something other
unfoldable pub live_or : Place → Option ℕ → Place
live_or other None = other
live_or other (Some k) = Live (record { 0 = k })

-- what a place with this value holds, by the slots' starts: "erased, spent (0), live with its slot, part-written (top
-- byte 0xFF, not erased) or stray with its value". In document 01's words: "A place is erased if its 8 bytes are 0xFF.
-- It is live if its value is the start of an application slot. Every other value (0 included) is dead."
unfoldable pub judged : List ℕ → ℕ → Place
judged starts v =
    cond (all_ones v) Erased
    (cond (all_zeros v) Spent (live_or (cond (top_byte_erased v) PartWritten (Stray v)) (slot_at starts v)))

unfoldable pub is_erased : Place → Bool
is_erased Erased = true
is_erased Spent = false
is_erased (Live s) = false
is_erased PartWritten = false
is_erased (Stray v) = false

-- document 01's "dead": spent, part-written or stray
unfoldable pub is_dead : Place → Bool
is_dead Erased = false
is_dead Spent = true
is_dead (Live s) = false
is_dead PartWritten = true
is_dead (Stray v) = true

-- the slot that a place gives
unfoldable pub slot_given : Place → Option ℕ
slot_given Erased = None
slot_given Spent = None
slot_given (Live s) = Some s.0
slot_given PartWritten = None
slot_given (Stray v) = None

-- the place gives this slot
unfoldable pub gives : ℕ → Place → Bool
gives k Erased = false
gives k Spent = false
gives k (Live s) = eqb k s.0
gives k PartWritten = false
gives k (Stray v) = false

-- ---- the boot order

-- "a slot met before is skipped"
unfoldable pub add_last : Option ℕ → List ℕ → List ℕ
add_last None o = o
add_last (Some k) o = cond (member k o) o (o ++ (k ∷ []))

-- from the last place down to place 0: each place comes after those above it
unfoldable pub order : List ℕ → List ℕ → List ℕ
order starts [] = []
order starts (v ∷ vs) = add_last (slot_given (judged starts v)) (order starts vs)
