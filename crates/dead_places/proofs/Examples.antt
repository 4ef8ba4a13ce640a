-- The dead places of small pointer blocks as the listing prints them. Assumes nothing.
use mathlib.Core.Path.{◌≡◌, refl}
use mathlib.Core.List.{[], ◌∷◌, ◌++◌}
use Rattle.rules.specs.Lists.{any}
use Rattle.rules.specs.Pointers.{erased_value, all_ones, all_zeros, top_byte_erased, one_more, slot_at, live_or, judged, is_dead}
use Rattle.rules.specs.declared.Place.TheVariants.{PartWritten}
use Rattle.text.specs.Shown.{digits, decimal}
use Rattle.dead_places.specs.DeadLines.{space, newline, numbered, places_header, kind_word, place_line, judged_line, dead_part}

-- places 0, 2 and 4 are dead; the slot starts at 0x8000, place 3 is a duplicate of place 1
pub lowest_place_first :
    dead_part (0x8000 ∷ []) (0 ∷ 0x8000 ∷ 7 ∷ 0x8000 ∷ 0xFF00000000000000 ∷ erased_value ∷ [])
    ≡ newline ∷ places_header
    -- 0 spent 0
    ++ (48 ∷ space ∷ 115 ∷ 112 ∷ 101 ∷ 110 ∷ 116 ∷ space ∷ 48 ∷ newline
    -- 2 stray 7
    ∷ 50 ∷ space ∷ 115 ∷ 116 ∷ 114 ∷ 97 ∷ 121 ∷ space ∷ 55 ∷ newline
    -- 4 part-written 18374686479671623680
    ∷ 52 ∷ space ∷ 112 ∷ 97 ∷ 114 ∷ 116 ∷ 45 ∷ 119 ∷ 114 ∷ 105 ∷ 116 ∷ 116 ∷ 101 ∷ 110 ∷ space
    ∷ 49 ∷ 56 ∷ 51 ∷ 55 ∷ 52 ∷ 54 ∷ 56 ∷ 54 ∷ 52 ∷ 55 ∷ 57 ∷ 54 ∷ 55 ∷ 49 ∷ 54 ∷ 50 ∷ 51 ∷ 54 ∷ 56 ∷ 48 ∷ newline
    ∷ [])
unfolding any all_ones all_zeros top_byte_erased one_more slot_at live_or judged is_dead digits decimal numbered places_header kind_word place_line judged_line dead_part
lowest_place_first = refl

-- "If none is, the output stays as in document 01"
pub none_dead : dead_part (0x8000 ∷ []) (0x8000 ∷ 0x8000 ∷ erased_value ∷ []) ≡ []
unfolding any all_ones all_zeros one_more slot_at live_or judged is_dead dead_part
none_dead = refl

-- case 6, after its cut: 2 part-written 18374686479671664640
pub case_6_line :
    place_line 2 PartWritten 0xFF0000000000A000
    ≡ 50 ∷ space ∷ 112 ∷ 97 ∷ 114 ∷ 116 ∷ 45 ∷ 119 ∷ 114 ∷ 105 ∷ 116 ∷ 116 ∷ 101 ∷ 110 ∷ space
    ∷ 49 ∷ 56 ∷ 51 ∷ 55 ∷ 52 ∷ 54 ∷ 56 ∷ 54 ∷ 52 ∷ 55 ∷ 57 ∷ 54 ∷ 55 ∷ 49 ∷ 54 ∷ 54 ∷ 52 ∷ 54 ∷ 52 ∷ 48 ∷ newline
    ∷ []
unfolding is_dead digits decimal kind_word place_line
case_6_line = refl
