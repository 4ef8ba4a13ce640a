-- `has_fixed_name` makes the six tests of the definition. Assumes nothing.
use Rattle.rules.specs.Table.{is_fixed_name, six_names}
use Rattle.rules.specs.Table.{boot_info, factory_image, spt0_name, spt1_name, cpb0_name, cpb1_name}
use Rattle.walks.proofs.Joined.{any_six}
use Rattle.walks.proofs.Pointwise.{same_pointwise}
use Rattle.names.proofs.has_fixed_name.Goals as goal

pub returns : goal.returns
unfolding is_fixed_name six_names boot_info factory_image spt0_name spt1_name cpb0_name cpb1_name
returns c =
    rw (
      c.eq.ensures,
      c.as_slice.ensures,
      c.eq-2.ensures,
      c.as_slice-2.ensures,
      c.eq-3.ensures,
      c.as_slice-3.ensures,
      c.eq-4.ensures,
      c.as_slice-4.ensures,
      c.eq-5.ensures,
      c.as_slice-5.ensures,
      c.eq-6.ensures,
      c.as_slice-6.ensures,
    ) (simp (c.up_to_zero-name.ensures, same_pointwise, any_six))
