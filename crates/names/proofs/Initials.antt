-- A name whose first byte is none of the six names' is not one of the six. Assumes nothing.
use mathlib.Core.Path.{◌≡◌, refl}
use mathlib.Core.Bool.{false, ◌||◌}
use mathlib.Core.List.{List, [], ◌∷◌}
use Prim.Native.Nat.{ℕ}
use lib.Dec.{eqb}
use lib.ListN.{get_or}
use Rattle.rules.specs.Lists.{same, any, member}
use Rattle.rules.specs.Bytes.{up_to_zero}
use Rattle.rules.specs.Table.{is_fixed_name, six_names}
use Rattle.rules.specs.Table.{boot_info, factory_image, spt0_name, spt1_name, cpb0_name, cpb1_name}
use Rattle.rules.proofs.Lists.Tests.{by_cases, or_false}
use Rattle.names.specs.Inner.Initials.{initials}

pub begins_otherwise : (s : List ℕ) → member (get_or s 0 0) initials ≡ false → is_fixed_name (up_to_zero s) ≡ false
unfolding member initials up_to_zero any same is_fixed_name six_names boot_info factory_image spt0_name spt1_name cpb0_name cpb1_name
begins_otherwise [] h = refl
begins_otherwise (x ∷ s) h =
    let (b, fsc) = or_false (eqb x 66) (eqb x 70 || (eqb x 83 || (eqb x 67 || false))) h in
    let (f, sc) = or_false (eqb x 70) (eqb x 83 || (eqb x 67 || false)) fsc in
    let (s, c) = or_false (eqb x 83) (eqb x 67 || false) sc in
    let (c, _) = or_false (eqb x 67) false c in
    by_cases (eqb x 0) (λ z. rw z) (λ z. rw (z, b, f, s, c))
