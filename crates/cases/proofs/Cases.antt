-- The quarry cases hold: `starred_hold` over the table of those that must be proved, `unstarred_hold` over the others.
-- Each row was computed with `fast_steps`; here the tables are carried to `steps`, the same function. Assumes nothing.
use mathlib.Core.Path.{◌≡◌, subst}
use mathlib.Core.Bool.{true}
use mathlib.Core.List.{List}
use Prim.Native.Nat.{ℕ}
use Rattle.rules.specs.Lists.{all}
use Rattle.rules.specs.Steps.{steps}
use Rattle.quarry.specs.Rows.{Row, holds}
use Rattle.cases.specs.Cases.{starred, unstarred}
use Rattle.rules.specs.declared.Step.{Step}
use Rattle.cases_01.proofs.Cases.{case_1_computed, case_2_computed, case_3_computed, case_4_computed, case_5_computed}
use Rattle.cases_01_from_6.proofs.Cases.{case_6_computed, case_7_computed, case_7_full_computed, case_9_computed, case_8_computed, case_8_shown_computed, case_8_inside_computed, case_10_computed}
use Rattle.cases_02.proofs.Cases.{case_reused_computed, case_held_computed, case_empty_computed, case_last_byte_computed, case_0x28_computed, case_one_place_computed, case_four_places_computed, case_two_shapes_computed}
use Rattle.rules.proofs.Steps.Programming.{fast_steps, fast_is_steps}

starred_computed : all (holds fast_steps) starred ≡ true
unfolding all starred
starred_computed =
    rw (
      case_1_computed,
      case_2_computed,
      case_3_computed,
      case_4_computed,
      case_5_computed,
      case_6_computed,
      case_7_computed,
      case_7_full_computed,
      case_9_computed,
      case_reused_computed,
      case_held_computed,
      case_empty_computed,
      case_last_byte_computed,
      case_0x28_computed,
      case_one_place_computed,
      case_four_places_computed,
      case_two_shapes_computed,
    )

unstarred_computed : all (holds fast_steps) unstarred ≡ true
unfolding all unstarred
unstarred_computed =
    rw (case_8_computed, case_8_shown_computed, case_8_inside_computed, case_10_computed)

-- a table that holds with the one evaluator holds with the other; nothing is computed here
by_steps : (rs : List Row) → all (holds fast_steps) rs ≡ true → all (holds steps) rs ≡ true
by_steps rs = subst (λ (f : ℕ → List Step → List ℕ → List ℕ). all (holds f) rs ≡ true) fast_is_steps

-- document 01's starred cases, and document 02's of empty slots, of other shapes of a pointer block, of create and delete
pub starred_hold : all (holds steps) starred ≡ true
starred_hold = by_steps starred starred_computed

-- cases 8 and, in part, 10, which document 01 leaves to a program
pub unstarred_hold : all (holds steps) unstarred ≡ true
unstarred_hold = by_steps unstarred unstarred_computed
