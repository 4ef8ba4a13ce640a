-- `finish` does all listed steps of the command: its run is never refused. Assumes nothing.
use mathlib.Core.Path.{◌∙◌}
use Rattle.commands.specs.Begins.{command_of}
use Rattle.commands.proofs.StartLists.{start_lists}
use Rattle.book_entries.specs.Tables.{new_name}
use Rattle.harness.proofs.Finishing.{names_of_bytes, finishes}
use Rattle.harness.proofs.finish.Goals as goal

pub returns : goal.returns
returns c =
    let a = c.args in
    let named = command_of a.command new_name in
    let (done, left) = finishes a.setting a.image.now named c.begin.result (λ i. (c.slice_known-1.given i).fits)
    (names_of_bytes a.command) (rw c.begin.ensures (start_lists a.setting a.image.now named)) in
    (c.run_begun.ensures.0 ∙ done, c.run_begun.ensures.1 ∙ left)
