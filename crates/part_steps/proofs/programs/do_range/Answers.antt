-- `do_range` does the program steps in a window. Assumes nothing.
use mathlib.Core.Path.{◌∙◌, ap}
use mathlib.Core.List.{List}
use Prim.Native.Nat.{◌≤◌, ◌+◌}
use native.Mathlib.Omega.{arith}
use lib.ListN.{length, length-take, length-drop}
use Rattle.rules.specs.Steps.{steps}
use Rattle.rules.specs.declared.Step.{Step}
use Rattle.part_steps.proofs.ProgramSteps.{programs-chosen, no_programs, bytes_inside}
use Rattle.part_steps.proofs.programs.do_range.Goals as goal

pub returns-then-size-from : goal.returns-then-size-from
returns-then-size-from c =
    let a = c.args in
    record { value = c.beyond-rest.ensures; by_index = λ g. no_programs a.window a.at a.given.now g a.image.now c.if-size-from.true }

pub overflow_add-at : goal.overflow_add-at
overflow_add-at c =
    let a = c.args in
    omega (
      arith,
      bytes_inside (length a.image.now) a.at (length a.given.now) a.window.from c.requires
          (omega arith),
    )

pub program-requires : goal.program-requires
program-requires c =
    let a = c.args in
    let fits : a.at + length a.given.now ≤ length a.image.now =
    bytes_inside (length a.image.now) a.at (length a.given.now) a.window.from c.requires (omega arith) in
    simp (length-take, length-drop) (omega arith)

pub returns : goal.returns
returns c =
    let a = c.args in record {
      value = c.beyond-rest.ensures;
      by_index = λ g. c.program.ensures g
          ∙ ap (λ (ss : List Step). steps g ss a.image.now)
          (programs-chosen a.window a.at a.given.now c.min-m.result
          c.min-m.ensures);
    }
