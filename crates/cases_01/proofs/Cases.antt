-- Each row of document 01's cases 1 to 5 computed with `fast_steps`. Assumes nothing.
use mathlib.Core.Path.{◌≡◌, refl}
use mathlib.Core.Bool.{true}
use Rattle.quarry.specs.Rows.{holds}
use Rattle.cases_01.specs.Cases.{case_1, case_2, case_3, case_4, case_5}
use Rattle.quarry.proofs.Opened.{rules}
use Rattle.rules.proofs.Steps.Programming.{fast_steps}

pub case_1_computed : holds fast_steps case_1 ≡ true
unfolding rules case_1
case_1_computed = refl

pub case_2_computed : holds fast_steps case_2 ≡ true
unfolding rules case_2
case_2_computed = refl

pub case_3_computed : holds fast_steps case_3 ≡ true
unfolding rules case_3
case_3_computed = refl

pub case_4_computed : holds fast_steps case_4 ≡ true
unfolding rules case_4
case_4_computed = refl

pub case_5_computed : holds fast_steps case_5 ≡ true
unfolding rules case_5
case_5_computed = refl
