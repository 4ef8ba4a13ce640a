use Rattle.std.proofs.Common.{rules, ◌∙◌}
use Rattle.book_entries.proofs.Blocks.{few_entries, row_below}
use Rattle.book_entries.proofs.without_slot.Goals as goal

pub put_without_row-requires : goal.put_without_row-requires
put_without_row-requires c =
    ((search rules, few_entries _ _ c.requires), (row_below _ _ c.requires c.entry_of-e.ensures, search rules))

pub returns : goal.returns
returns c = c.put_without_row.ensures ∙ rw c.entry_of-e.ensures
