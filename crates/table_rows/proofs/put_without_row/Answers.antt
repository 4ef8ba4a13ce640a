-- `put_without_row` is the table without the row. Assumes nothing.
use mathlib.Core.Path.{sym, ◌∙◌}
use Prim.Native.Nat.{◌+◌}
use native.Mathlib.Omega.{arith}
use lib.Seq.{length-take-le}
use Rattle.table_rows.proofs.RowsPut.{row_left_out}
use borrow.Author.Rules.{rules}
use Rattle.table_rows.proofs.put_without_row.Goals as goal

pub slice_bounds-copy-end : goal.slice_bounds-copy-end
slice_bounds-copy-end c = sym (length-take-le c.entry_offset-at.result c.args.t.now (omega arith))

pub copy-requires : goal.copy-requires
copy-requires c =
    let front = length-take-le c.entry_offset-at.result c.args.t.now (omega arith) in
    search rules

pub returns : goal.returns
returns c =
    let a = c.args in
    c.store.ensures
    ∙ rw (c.copy-2.ensures, c.copy.ensures, c.fill.ensures.after (λ y same. same), c.requires.1.1)
    (row_left_out a.t.now c.entry_count-n.result a.e.0 c.entry_offset-at.result (c.entry_offset-end.result + 32)
    c.requires.0.0 c.entry_count-n.ensures (rw c.entry_count-n.ensures c.requires.0.1) (rw c.entry_count-n.ensures c.requires.1.0)
    c.entry_offset-at.ensures (omega (arith, c.entry_offset-end.ensures)))
