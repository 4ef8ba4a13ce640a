use Rattle.std.proofs.Common.{sym, ◌∙◌}
use Rattle.rules.specs.Commands.{created_start}
use Rattle.rules.specs.Book.{start_by, start_for}
use Rattle.book_entries.proofs.Blocks.{placed}
use Rattle.book_entries.proofs.start_for.Goals as goal

pub lowest_start-requires : goal.lowest_start-requires
lowest_start-requires c =
    let f = c.in-Ok.flash in
    (rw c.entries.ensures (placed f.setting f.image.now f.view c.table-t.result f.seen c.table-t.ensures), c.requires)

pub returns-in-Err : goal.returns-in-Err
unfolding start_for start_by
returns-in-Err c = sym (rw c.in-Err.ensures.refused)

pub returns-in-Ok : goal.returns-in-Ok
unfolding start_for start_by created_start
returns-in-Ok c =
    let (bytes, setting) = c.in-Ok.ensures.given in
    c.lowest_start.ensures
    ∙ sym (rw (← bytes, ← setting, c.in-Ok.flash.seen, c.entries.ensures, c.table-t.ensures, c.pointers-p.ensures))
