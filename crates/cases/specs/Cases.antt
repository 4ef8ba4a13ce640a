-- The cases of the quarry image as tables of rows: `starred` has those that document 01 marks and those of document 02's
-- requests, `unstarred` some others. Assumes nothing.
use Rattle.std.specs.Prelude.{List, [], ◌∷◌}
use Rattle.quarry.specs.Rows.{Row}
use Rattle.cases_01.specs.Cases.{case_1, case_2, case_3, case_4, case_5}
use Rattle.cases_01_from_6.specs.Cases.{case_6, case_7, case_7_full, case_9, case_8, case_8_shown, case_8_inside, case_10}
use Rattle.cases_02.specs.Cases.{case_reused, case_held, case_empty, case_last_byte, case_0x28, case_one_place, case_four_places, case_two_shapes}

unfoldable pub starred : List Row
starred =
    case_1
    ∷ case_2
    ∷ case_3
    ∷ case_4
    ∷ case_5
    ∷ case_6
    ∷ case_7
    ∷ case_7_full
    ∷ case_9
    ∷ case_reused
    ∷ case_held
    ∷ case_empty
    ∷ case_last_byte
    ∷ case_0x28
    ∷ case_one_place
    ∷ case_four_places
    ∷ case_two_shapes
    ∷ []

-- cases 8 and 10, as far as they are about an image of this size
unfoldable pub unstarred : List Row
unstarred = case_8 ∷ case_8_shown ∷ case_8_inside ∷ case_10 ∷ []
