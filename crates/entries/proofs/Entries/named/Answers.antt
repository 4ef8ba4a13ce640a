use Rattle.std.proofs.Common.{sym, ap, ◌∙◌, is_some}
use Rattle.rules.specs.Bytes.{up_to_zero}
use Rattle.rules.specs.Table.{has_name}
use Rattle.entries.proofs.Turns.{named_found, any_by_found}
use Rattle.entries.proofs.Entries.named.Goals as goal

pub returns-in-Some-clause-is : goal.returns-in-Some-clause-is
returns-in-Some-clause-is c =
    c.get.ensures ∙ sym (named_found c.args.self.now (up_to_zero c.args.wanted.now) c.in-Some.ensures.some.0)

pub returns-in-Some-clause-there : goal.returns-in-Some-clause-there
returns-in-Some-clause-there c =
    ap is_some (sym c.in-Some.is)
    ∙ any_by_found (has_name (up_to_zero c.args.wanted.now)) c.args.self.now c.find_named.result c.find_named.ensures

pub returns-in-None-clause-there : goal.returns-in-None-clause-there
returns-in-None-clause-there c =
    ap is_some (sym c.in-None.is)
    ∙ any_by_found (has_name (up_to_zero c.args.wanted.now)) c.args.self.now c.find_named.result c.find_named.ensures
