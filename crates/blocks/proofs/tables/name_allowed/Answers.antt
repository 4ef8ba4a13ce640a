-- `name_allowed` is refusal 9's test. Assumes nothing.
use Rattle.blocks.proofs.Naming.{allowed_by_length}
use Rattle.blocks.proofs.tables.name_allowed.Goals as goal

pub returns : goal.returns
returns c =
    allowed_by_length c.args.name.now c.name_length.result
    c.is_fixed_name.result
    c.name_length.ensures.0 c.is_fixed_name.ensures
