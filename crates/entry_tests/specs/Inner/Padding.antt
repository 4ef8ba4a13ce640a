-- Names padded with zeros, and the fields that hold them compared as they stand. Assumes nothing.
use Rattle.std.specs.Prelude.{Bool, not, ℕ, eqb}
use Rattle.rules.specs.Lists.{same}
use Rattle.rules.specs.Table.{Entry, name}
use Rattle.rules.specs.Commands.{padded_name}

abbrev pub is_zero : ℕ → Bool
is_zero b = eqb b 0

-- the field holds the name and zeros up to 16
unfoldable pub padded : Entry → Bool
padded e = same e.name_field (padded_name (name e))

-- the two fields differ, as names do where both are padded
unfoldable pub fields_differ : Entry → Entry → Bool
fields_differ d e = not (same d.name_field e.name_field)
