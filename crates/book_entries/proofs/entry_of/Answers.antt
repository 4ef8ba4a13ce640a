use Rattle.std.proofs.Common.{rules}
use Rattle.book_entries.proofs.Blocks.{has_entries, no_end}
use Rattle.book_entries.proofs.entry_of.Goals as goal

pub counted-requires : goal.counted-requires
counted-requires c = has_entries _ _ c.requires (search rules)

pub returns-in-Some : goal.returns-in-Some
returns-in-Some c = rw (← c.counted.ensures) c.in-Some.ensures.some.0

pub returns-in-None : goal.returns-in-None
returns-in-None c = absurd (no_end _ _ c.requires (rw c.counted.ensures at c.in-None.ensures.none))
