-- The rows of document 01's cases 1 to 5, which it marks with a star. Counts are those of No. 3. Assumes nothing.
use Rattle.std.specs.Prelude.{[], ◌∷◌}
use Rattle.rules.specs.Commands.{enable, disable}
use Rattle.quarry.specs.Quarry.{quarry, quarry_sent}
use Rattle.quarry.specs.Rows.{Row, command, order_is, refusal, step_count, place, not_run, to_the_end}

-- 1: "Boot order 1, 0"
unfoldable pub case_1 : Row
case_1 = record { flash = quarry; script = order_is (1 ∷ 0 ∷ []) ∷ [] }

-- 2: "Enable 2: place 2, 16 steps; order 2, 1, 0"
unfoldable pub case_2 : Row
case_2 = record {
  flash = quarry_sent;
  script = command (enable 2) (place 2 ∷ step_count 16 ∷ []) to_the_end ∷ order_is (2 ∷ 1 ∷ 0 ∷ []) ∷ [];
}

-- 3: "Enable 1: 0 steps"
unfoldable pub case_3 : Row
case_3 = record { flash = quarry_sent; script = command (enable 1) (step_count 0 ∷ []) not_run ∷ [] }

-- 4: "Enable 0: place 2; order 0, 1; then disable 0: 32 steps, order 1"
unfoldable pub case_4 : Row
case_4 = record {
  flash = quarry_sent;
  script =
      command (enable 0) (place 2 ∷ []) to_the_end
      ∷ order_is (0 ∷ 1 ∷ [])
      ∷ command (disable 0) (step_count 32 ∷ []) to_the_end
      ∷ order_is (1 ∷ [])
      ∷ [];
}

-- 5: "Disable 2: refused 8. Slot 3: refused 7."
unfoldable pub case_5 : Row
case_5 = record {
  flash = quarry;
  script =
      command (disable 2) (refusal 8 ∷ []) not_run
      ∷ command (enable 3) (refusal 7 ∷ []) not_run
      ∷ command (disable 3) (refusal 7 ∷ []) not_run
      ∷ [];
}
