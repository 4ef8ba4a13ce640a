-- `do_place` does the steps into one place that are in a window. Assumes nothing.
use mathlib.Core.Path.{◌≡◌, ◌∙◌}
use native.Mathlib.Omega.{arith}
use lib.ListN.{length}
use borrow.Author.Rules.{rules}
use Rattle.part_steps.proofs.ProgramSteps.{bytes_inside, all_chosen}
use Rattle.part_steps.proofs.PlaceSteps.{place_asked}
use Rattle.part_steps.proofs.into_places.do_place.Goals as goal

pub program_eight-requires : goal.program_eight-requires
program_eight-requires c =
    let a = c.args in
    let asked = place_asked a.window.from a.window.n c.if-window.true in
    bytes_inside (length a.image.now) a.at 8 a.window.from c.requires (omega (arith, asked.0))

pub returns-then-window-clause-by_index : goal.returns-then-window-clause-by_index
returns-then-window-clause-by_index c =
    let a = c.args in
    let asked = place_asked a.window.from a.window.n c.if-window.true in
    λ g. c.program_eight.ensures g ∙ rw (all_chosen a.window a.at a.value.now asked.0 (omega (arith, asked.1)))
