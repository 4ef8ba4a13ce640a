-- The rows of document 01's cases from 6 on: those that it marks with a star, and some others. Counts are those of No. 3.
-- Assumes nothing.
use Rattle.std.specs.Prelude.{true, false, [], ◌∷◌, ◌++◌, replicate}
use Rattle.rules.specs.Commands.{enable, disable, repair}
use Rattle.quarry.specs.Quarry.{quarry_sent, quarry_used_to, quarry_moved}
use Rattle.quarry.specs.Rows.{Row, command, order_is, place_holds, refusal, step_count, place, not_run, to_the_end, cut_after, cut_inside, quarry_cpb0}

-- ---- the starred cases

-- 6: "Case 2 cut after 15 steps: place 2 of CPB0 holds 0xFF0000000000A000; order 1, 0. Repair takes 4,101 steps; then
-- enable 2 takes place 3."
unfoldable pub case_6 : Row
case_6 = record {
  flash = quarry_sent;
  script =
      command (enable 2) (step_count 16 ∷ []) (cut_after 15)
      ∷ place_holds quarry_cpb0 2 0xFF0000000000A000
      ∷ order_is (1 ∷ 0 ∷ [])
      ∷ command repair (step_count 4101 ∷ []) to_the_end
      ∷ command (enable 2) (place 3 ∷ []) not_run
      ∷ [];
}

-- 7: "Highest used place 506: enable 2 takes 507, 16 steps"
unfoldable pub case_7 : Row
case_7 = record {
  flash = quarry_used_to 506;
  script = command (enable 2) (place 507 ∷ step_count 16 ∷ []) not_run ∷ [];
}

-- 7: "Highest 507: 8,202 steps"
unfoldable pub case_7_full : Row
case_7_full = record { flash = quarry_used_to 507; script = command (enable 2) (step_count 8202 ∷ []) not_run ∷ [] }

-- 9: "disabling slot 0 rewrites, 8,202 steps; disabling slot 1 instead is in place, 16 steps"
unfoldable pub case_9 : Row
case_9 = record {
  flash = quarry_moved;
  script =
      command (disable 0) (step_count 8202 ∷ []) not_run
      ∷ command (disable 1) (step_count 16 ∷ []) not_run
      ∷ [];
}

-- ---- cases 8 and 10, as far as they are about an image of this size

-- 8: that rewrite "cut after 4,101 steps": old order
unfoldable pub case_8 : Row
case_8 = record {
  flash = quarry_used_to 507;
  script = command (enable 2) (step_count 8202 ∷ []) (cut_after 4101) ∷ order_is (1 ∷ 0 ∷ []) ∷ [];
}

-- 8: "step 4,102 is the first that shows the new order"
unfoldable pub case_8_shown : Row
case_8_shown = record {
  flash = quarry_used_to 507;
  script = command (enable 2) (step_count 8202 ∷ []) (cut_after 4102) ∷ order_is (2 ∷ 1 ∷ 0 ∷ []) ∷ [];
}

-- the erase of CPB0, step 4,106, wiped place 0 alone: still the new order
unfoldable pub case_8_inside : Row
case_8_inside = record {
  flash = quarry_used_to 507;
  script =
      command (enable 2) (step_count 8202 ∷ []) (cut_inside 4106 (replicate 0x20 false ++ replicate 8 true))
      ∷ place_holds quarry_cpb0 0 0xFFFFFFFFFFFFFFFF
      ∷ order_is (2 ∷ 1 ∷ 0 ∷ [])
      ∷ [];
}

-- 10: "Image of 0 bytes: refused 1."
unfoldable pub case_10 : Row
case_10 = record { flash = []; script = command repair (refusal 1 ∷ []) not_run ∷ [] }
