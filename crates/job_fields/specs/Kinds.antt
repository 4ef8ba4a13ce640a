-- What only the contract of this crate's own function cites: the kind that a number stands for. Assumes nothing.
use Rattle.std.specs.Prelude.{ℕ, Option, Some, None, leb, if◌then◌else◌}
use Rattle.job_parts.specs.declared.Kind.{Kind}
use Rattle.job_bytes.specs.Form.{kind_numbered}

unfoldable pub known_kind : ℕ → Option Kind
known_kind n = if leb n 2 then Some (kind_numbered n) else None
