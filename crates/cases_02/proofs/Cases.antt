-- Each row of the cases of document 02's requests computed with `fast_steps`. Assumes nothing.
use mathlib.Core.Path.{◌≡◌, refl}
use mathlib.Core.Bool.{true}
use Rattle.quarry.specs.Rows.{holds}
use Rattle.cases_02.specs.Cases.{case_reused, case_held, case_empty, case_last_byte, case_0x28, case_one_place, case_four_places, case_two_shapes}
use Rattle.quarry.proofs.Opened.{rules}
use Rattle.rules.proofs.Steps.Programming.{fast_steps}

pub case_reused_computed : holds fast_steps case_reused ≡ true
unfolding rules case_reused
case_reused_computed = refl

pub case_held_computed : holds fast_steps case_held ≡ true
unfolding rules case_held
case_held_computed = refl

pub case_empty_computed : holds fast_steps case_empty ≡ true
unfolding rules case_empty
case_empty_computed = refl

pub case_last_byte_computed : holds fast_steps case_last_byte ≡ true
unfolding rules case_last_byte
case_last_byte_computed = refl

pub case_0x28_computed : holds fast_steps case_0x28 ≡ true
unfolding rules case_0x28
case_0x28_computed = refl

pub case_one_place_computed : holds fast_steps case_one_place ≡ true
unfolding rules case_one_place
case_one_place_computed = refl

pub case_four_places_computed : holds fast_steps case_four_places ≡ true
unfolding rules case_four_places
case_four_places_computed = refl

pub case_two_shapes_computed : holds fast_steps case_two_shapes ≡ true
unfolding rules case_two_shapes
case_two_shapes_computed = refl
