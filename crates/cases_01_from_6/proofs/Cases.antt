-- Each row of document 01's cases from 6 on computed with `fast_steps`. Assumes nothing.
use mathlib.Core.Path.{◌≡◌, refl}
use mathlib.Core.Bool.{true, false}
use lib.ListN.{replicate}
use Rattle.rules.specs.Table.{table_stands}
use Rattle.rules.specs.Commands.{name_allowed}
use Rattle.quarry.specs.Quarry.{quarry_setting, longer_length, longer_table}
use Rattle.quarry.specs.Rows.{holds}
use Rattle.cases_01_from_6.specs.Cases.{case_6, case_7, case_7_full, case_9, case_8, case_8_shown, case_8_inside, case_10}
use Rattle.quarry.proofs.Opened.{rules}
use Rattle.rules.proofs.Steps.Programming.{fast_steps}

pub case_6_computed : holds fast_steps case_6 ≡ true
unfolding rules case_6
case_6_computed = refl

pub case_7_computed : holds fast_steps case_7 ≡ true
unfolding rules case_7
case_7_computed = refl

pub case_7_full_computed : holds fast_steps case_7_full ≡ true
unfolding rules case_7_full
case_7_full_computed = refl

pub case_9_computed : holds fast_steps case_9 ≡ true
unfolding rules case_9
case_9_computed = refl

pub case_8_computed : holds fast_steps case_8 ≡ true
unfolding rules case_8
case_8_computed = refl

pub case_8_shown_computed : holds fast_steps case_8_shown ≡ true
unfolding rules case_8_shown
case_8_shown_computed = refl

pub case_8_inside_computed : holds fast_steps case_8_inside ≡ true
unfolding rules case_8_inside
case_8_inside_computed = refl

pub case_10_computed : holds fast_steps case_10 ≡ true
unfolding rules case_10
case_10_computed = refl

-- 10: "In a longer image 127 entries stand, 128 do not."
pub case_10_entries :
    (table_stands quarry_setting longer_length (longer_table 127) ≡ true)
    × (table_stands quarry_setting longer_length (longer_table 128) ≡ false)
unfolding rules
case_10_entries = (refl, refl)

-- 10: "Names of 15 bytes accepted, of 16 refused 9."
pub case_10_names : (name_allowed (replicate 15 80) ≡ true) × (name_allowed (replicate 16 80) ≡ false)
unfolding rules
case_10_names = (refl, refl)
