-- Names that do not begin alike differ.
use Rattle.std.proofs.Common.{sym, ap, not, arith}
use Rattle.rules.specs.Table.{has_name, name}
use Rattle.names.proofs.Names.{begin_otherwise}
use Rattle.walks.proofs.Joined.{failed}
use Rattle.entries.proofs.Entry.has_name.Goals as goal

pub returns-then-not-begin_alike : goal.returns-then-not-begin_alike
unfolding has_name name
returns-then-not-begin_alike c =
    let differ = failed c.begin_alike.ensures (ap not c.if-not-begin_alike.true) in
    sym (rw (← c.name-name.ensures.0) (begin_otherwise c.name-name.result.now c.args.wanted.now (omega (arith, c.name-name.ensures.1)) differ))

pub returns : goal.returns
unfolding has_name name
returns c = rw (c.same_name.ensures, c.name-name.ensures.0)
