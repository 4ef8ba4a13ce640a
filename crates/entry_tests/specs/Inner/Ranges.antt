-- The range of one entry before that of another. Assumes nothing.
use Rattle.std.specs.Prelude.{Bool, ◌+◌, leb}
use Rattle.rules.specs.Table.{Entry}

-- the range of d ends where that of e begins, or before
unfoldable pub ends_before : Entry → Entry → Bool
ends_before d e = leb (d.start + d.size) e.start
