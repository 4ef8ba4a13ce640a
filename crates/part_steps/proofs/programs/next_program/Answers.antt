-- `next_program` is the first of the program steps from one on. Assumes nothing.
use mathlib.Core.Path.{◌≡◌, sym, ◌∙◌, ap}
use Prim.Native.Nat.{◌+◌, ◌<◌}
use lib.ListN.{length, get_or}
use native.Mathlib.Omega.{arith}
use Rattle.std.specs.Prelude.{Some}
use Rattle.rules.specs.declared.Step.TheVariants.{Program}
use Rattle.part_steps.proofs.ProgramSteps.{next_some, next_none}
use Rattle.part_steps.proofs.programs.next_program.Goals as goal

pub returns-in_err-byte : goal.returns-in_err-byte
returns-in_err-byte c =
    let a = c.args in
    c.from_residual.ensures ∙ sym (next_none a.at a.given.now a.from (search (arith, c.in_err-byte.ensures.lookup)))

pub returns : goal.returns
returns c =
    let a = c.args in
    let h : a.from < length a.given.now = search (arith, c.in_ok-byte.ensures.lookup) in
    let e : c.in_ok-byte.byte.now ≡ get_or a.given.now a.from 0 = search (arith, c.in_ok-byte.ensures.lookup) in
    ap (λ b. Some (Program (a.at + a.from) b)) e ∙ sym (next_some a.at a.given.now a.from h)
