-- `put_new_row` is the table with the new row. Assumes nothing.
use mathlib.Core.Path.{◌∙◌}
use Rattle.table_rows.proofs.RowsPut.{padded_length, new_row_put}
use Rattle.table_rows.proofs.put_new_row.Goals as goal

pub returns : goal.returns
returns c =
    let a = c.args in
    c.store-3.ensures
    ∙ rw (c.store-2.ensures, c.store.ensures, c.put_name.ensures)
    (new_row_put a.t.now a.name.now c.entry_count-n.result a.start a.size c.entry_offset-at.result
    c.requires.0.0 c.entry_count-n.ensures (rw c.entry_count-n.ensures c.requires.0.1) (padded_length a.name.now c.requires.1.0) c.requires.1.1.0
    c.entry_offset-at.ensures)
