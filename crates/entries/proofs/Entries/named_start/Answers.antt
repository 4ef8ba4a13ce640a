use Rattle.std.proofs.Common.{sym, ap, ◌∙◌}
use Rattle.rules.specs.Bytes.{up_to_zero}
use Rattle.rules.specs.Table.{Entry, no_entry}
use Rattle.entries.proofs.Turns.{named_found, named_not_found}
use Rattle.entries.proofs.Entries.named_start.Goals as goal

pub returns-in-Some : goal.returns-in-Some
returns-in-Some c =
    let found = named_found c.args.self.now (up_to_zero c.args.wanted.now) c.in-Some.ensures.some.0 in
    c.start.ensures ∙ ap (λ (e : Entry). e.start) (c.get.ensures ∙ sym found)

pub returns-in-None : goal.returns-in-None
unfolding no_entry
returns-in-None c = sym (ap (λ (e : Entry). e.start) (named_not_found c.args.self.now (up_to_zero c.args.wanted.now) c.in-None.ensures.none))
