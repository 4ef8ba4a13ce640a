use Rattle.std.proofs.Common.{rules, sym}
use Rattle.places.proofs.Judged.{judged_live}
use Rattle.places.proofs.judge.Goals as goal

pub returns-in-Some : goal.returns-in-Some
returns-in-Some c =
    let found = rw c.entries.ensures at c.in-Some.ensures.some in
    sym (judged_live c.args.t.now c.args.v c.in-Some.e.0 (search rules) (search rules) found.0 c.slot_at.result found.1 c.slot_at.ensures)
