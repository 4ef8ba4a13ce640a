-- What a listing prints, to the byte: the boot order, then the dead places (`DeadLines`). Assumes nothing.
use Rattle.std.specs.Prelude.{cond, List, [], ◌∷◌, ◌++◌, map, ℕ, leb, length}
use Rattle.rules.specs.Bytes.{block}
use Rattle.rules.specs.Answers.{Answer, refused, given, number_of}
use Rattle.rules.specs.Numbers.{setting}
use Rattle.rules.specs.Table.{starts}
use Rattle.rules.specs.Pointers.{places}
use Rattle.rules.specs.Copies.{view, boot_order}
use Rattle.rules.specs.Readers.{slot_info, slot_name}
use Rattle.rules.specs.declared.Setting.{Setting}
use Rattle.rules.specs.declared.View.{View}
use Rattle.rules.specs.declared.SlotInfo.{SlotInfo}
use Rattle.text.specs.Shown.{decimal, shown}
use Rattle.dead_places.specs.DeadLines.{space, newline, numbered, dead_part}

-- "The listing program has granule 4,096 and SPT addresses 0x4000 and 0x5000 fixed"
unfoldable pub listing_setting : Setting
listing_setting = setting 4096 0x4000 0x5000

-- ---- the boot order

-- order slot name start length
unfoldable pub header : List ℕ
header =
    111 ∷ 114 ∷ 100 ∷ 101 ∷ 114 ∷ space
    ∷ 115 ∷ 108 ∷ 111 ∷ 116 ∷ space
    ∷ 110 ∷ 97 ∷ 109 ∷ 101 ∷ space
    ∷ 115 ∷ 116 ∷ 97 ∷ 114 ∷ 116 ∷ space
    ∷ 108 ∷ 101 ∷ 110 ∷ 103 ∷ 116 ∷ 104 ∷ newline
    ∷ []

-- refused N
unfoldable pub refusal : ℕ → List ℕ
refusal n =
    (114 ∷ 101 ∷ 102 ∷ 117 ∷ 115 ∷ 101 ∷ 100 ∷ space ∷ []) ++ (decimal n ++ (newline ∷ []))

unfoldable pub told : Answer SlotInfo → List ℕ
told (refused why) = newline ∷ []
told (given f) = space ∷ decimal f.start ++ (space ∷ decimal f.size ++ (newline ∷ []))

-- start and length of a slot
unfoldable pub info_text : Setting → List ℕ → ℕ → List ℕ
info_text s img k = told (slot_info s img k)

-- "rank from 1, slot number, name (bytes outside 0x21-0x7E as `?`), start and length in decimal"
unfoldable pub slot_line : Setting → List ℕ → ℕ → ℕ → List ℕ
slot_line s img rank k =
    decimal rank
    ++ (space ∷ decimal k
    ++ (space ∷ map shown (slot_name s img k)
    ++ info_text s img k))

-- ---- the whole listing

-- "An empty order prints the header only": the order, then the dead places, of the blocks that are read
unfoldable pub parts : Setting → List ℕ → View → List ℕ
parts s img v =
    header
    ++ (numbered (slot_line s img) 1 (boot_order img v)
    ++ dead_part (starts (block img v.table)) (places (block img v.pointers)))

-- "a refusal prints only `refused N`"
unfoldable pub listing_by : Setting → List ℕ → Answer View → List ℕ
listing_by s img (refused why) = refusal (number_of why)
listing_by s img (given v) = parts s img v

-- the listing of an image for any setting
unfoldable pub listing_for : Setting → List ℕ → List ℕ
listing_for s img = listing_by s img (view s img)

-- the listing program's: "an image of at most 65,536 bytes (more: refused 1)"
unfoldable pub listing : List ℕ → List ℕ
listing img = cond (leb (length img) 65536) (listing_for listing_setting img) (refusal 1)
