use Rattle.std.proofs.Common.{◌∙◌}
use Rattle.entry_tests.proofs.Padding.{padded_zeros}
use Rattle.entry_tests.proofs.naming.name_is_padded.Goals as goal

pub returns : goal.returns
returns c =
    let (is, long) = c.name-name.ensures in
    c.is_zero.ensures ∙ rw c.name_length.ensures.0 (padded_zeros c.args.e.now c.name-name.result.now is long)
