-- The rows of the cases of document 02's requests. Counts are those of No. 3. Assumes nothing.
use Rattle.std.specs.Prelude.{[], ◌∷◌, ◌++◌, replicate}
use Rattle.rules.specs.Bytes.{erased_byte}
use Rattle.rules.specs.Commands.{enable, create, delete, repair}
use Rattle.quarry.specs.Quarry.{quarry, quarry_p3, other_byte, quarry_0x28, quarry_one_place, quarry_four_places, quarry_two_shapes, quarry_held}
use Rattle.quarry.specs.Rows.{Row, command, order_is, bytes_at, table_has, refusal, step_count, place, not_run, to_the_end}

-- document 02, No. 5: "delete slot 2, create P4 of 0x1000: it gets 0xA000"
unfoldable pub case_reused : Row
case_reused = record {
  flash = quarry;
  script =
      command (delete 2) (step_count 8202 ∷ []) to_the_end
      ∷ order_is (1 ∷ 0 ∷ [])
      ∷ table_has 8 (0x8000 ∷ 0x9000 ∷ [])
      ∷ command (create (80 ∷ 52 ∷ []) 0x1000) (step_count 8202 ∷ []) to_the_end
      ∷ order_is (1 ∷ 0 ∷ [])
      ∷ table_has 9 (0x8000 ∷ 0x9000 ∷ 0xA000 ∷ [])
      ∷ [];
}

-- "without P3's row and with 0xA000 in place 2, create P4: it gets 0xB000"
unfoldable pub case_held : Row
case_held = record {
  flash = quarry_held;
  script =
      command (create (80 ∷ 52 ∷ []) 0x1000) (step_count 8202 ∷ []) to_the_end
      ∷ order_is (1 ∷ 0 ∷ [])
      ∷ table_has 9 (0x8000 ∷ 0x9000 ∷ 0xB000 ∷ [])
      ∷ [];
}

-- document 02, No. 2: an empty slot is refused 14, first already or not; a slot that is not there is refused 7
unfoldable pub case_empty : Row
case_empty = record {
  flash = quarry;
  script =
      command (enable 1) (refusal 14 ∷ []) not_run
      ∷ command (enable 2) (refusal 14 ∷ []) not_run
      ∷ command (enable 3) (refusal 7 ∷ []) not_run
      ∷ [];
}

-- of P3 only byte 4,095 is not 0xFF
unfoldable pub case_last_byte : Row
case_last_byte = record {
  flash = quarry_p3 (replicate 4095 erased_byte ++ (0 ∷ []));
  script = command (enable 2) (place 2 ∷ step_count 16 ∷ []) to_the_end ∷ order_is (2 ∷ 1 ∷ 0 ∷ []) ∷ [];
}

-- document 02, No. 9: offset 0x28 with 507 places, "enable takes the next place"
unfoldable pub case_0x28 : Row
case_0x28 = record {
  flash = quarry_0x28;
  script = command (enable 2) (place 2 ∷ step_count 16 ∷ []) to_the_end ∷ order_is (2 ∷ 1 ∷ 0 ∷ []) ∷ [];
}

-- offset 4,088 with one place: "enable of the slot that is there: 0 steps; of another: 15"
unfoldable pub case_one_place : Row
case_one_place = record {
  flash = quarry_one_place;
  script =
      order_is (1 ∷ [])
      ∷ command (enable 1) (step_count 0 ∷ []) not_run
      ∷ command (enable 2) (refusal 15 ∷ []) not_run
      ∷ [];
}

-- offset 0x20 with four places: a rewrite keeps the bytes before the places and those behind the last
unfoldable pub case_four_places : Row
case_four_places = record {
  flash = quarry_four_places;
  script =
      order_is (1 ∷ 0 ∷ [])
      ∷ command (enable 2) (step_count 8202 ∷ []) to_the_end
      ∷ order_is (2 ∷ 1 ∷ 0 ∷ [])
      ∷ bytes_at 0x6018 (replicate 8 other_byte)
      ∷ bytes_at 0x6040 (replicate 4032 other_byte)
      ∷ bytes_at 0x7018 (replicate 8 other_byte)
      ∷ bytes_at 0x7040 (replicate 4032 other_byte)
      ∷ command (enable 0) (place 3 ∷ step_count 16 ∷ []) not_run
      ∷ [];
}

-- two standing copies of different shape disagree, and repair makes them equal
unfoldable pub case_two_shapes : Row
case_two_shapes = record {
  flash = quarry_two_shapes;
  script =
      order_is (1 ∷ 0 ∷ [])
      ∷ command (enable 2) (refusal 6 ∷ []) not_run
      ∷ command repair (step_count 4101 ∷ []) to_the_end
      ∷ command (enable 2) (place 2 ∷ step_count 16 ∷ []) not_run
      ∷ [];
}
