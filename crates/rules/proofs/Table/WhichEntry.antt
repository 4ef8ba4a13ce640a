-- Which entry is told of a broken rule, computed on a few small lists. Assumes nothing.
use mathlib.Core.Path.{◌≡◌, refl}
use mathlib.Core.Bool.{not}
use mathlib.Core.List.{List, [], ◌∷◌}
use Prim.Native.Nat.{ℕ}
use lib.Dec.{eqb, ltb}
use Rattle.rules.specs.Lists.{same, all, any, pairwise, first_failing, first_clash, first}
use Rattle.rules.specs.Bytes.{up_to_zero, multiple}
use Rattle.rules.specs.Answers.{broken}
use Rattle.rules.specs.Numbers.{setting}
use Rattle.rules.specs.Table.{Entry, name, boot_info, factory_image, spt0_name, spt1_name, cpb0_name, cpb1_name, six_names, has_name, no_entry, named}
use Rattle.rules.specs.Table.{name_right, names_differ, range_aligned, range_inside, ranges_apart, six_named, boot_info_at_0}
use Rattle.rules.specs.Table.{if_named, starts_at, boot_info_right, broken_unless, entries_fault}
use Rattle.rules.specs.declared.TableRule.TheVariants.{BootInfoAtZero}

-- elements 1 and 3 are too small
pub lowest_told : first_failing (ltb 1) (2 ∷ 1 ∷ 3 ∷ 0 ∷ []) ≡ 1
unfolding all first_failing
lowest_told = refl

-- elements 0 and 2 are equal
pub later_of_two_told : first_clash (λ x y. not (eqb x y)) [] (5 ∷ 7 ∷ 5 ∷ []) ≡ 2
unfolding all first_clash
later_of_two_told = refl

abbrev entry_of : List ℕ → ℕ → Entry
entry_of n start = record { name_field = n; start = start; size = 0x1000; flags = 1 }

-- BOOT_INFO is entry 1, and does not start at 0
pub rule_9_at_its_entry :
    entries_fault (setting 4096 0x2000 0x3000) 0x7000
    (entry_of factory_image 0x0000
    ∷ entry_of boot_info 0x1000
    ∷ entry_of spt0_name 0x2000
    ∷ entry_of spt1_name 0x3000
    ∷ entry_of cpb0_name 0x4000
    ∷ entry_of cpb1_name 0x5000
    ∷ [])
    ≡ broken BootInfoAtZero 1
unfolding same all any pairwise first_failing first_clash first up_to_zero multiple name boot_info factory_image spt0_name spt1_name cpb0_name cpb1_name six_names has_name no_entry named name_right names_differ range_aligned range_inside ranges_apart six_named boot_info_at_0 if_named starts_at boot_info_right broken_unless entries_fault
rule_9_at_its_entry = refl
