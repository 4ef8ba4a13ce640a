-- A part of a whole, by where it begins and how long it is. Assumes nothing.
use Rattle.std.specs.Prelude.{if◌then◌else◌, ℕ, ◌+◌, nat_le, Option, Some, None}
use Rattle.std.specs.declared.ops.Range.{Range}

-- one that passes the end of the whole is no part
unfoldable pub part : ℕ → ℕ → ℕ → Option (Range ℕ)
part whole at n = if nat_le (at + n) whole then Some (record { start = at; end = at + n }) else None
