-- The step that comes next as three numbers. Assumes nothing.
use Rattle.std.specs.Prelude.{ℕ, Option, Some, None}
use Rattle.rules.specs.declared.Step.{Step}
use Rattle.rules.specs.declared.Step.TheVariants.{Program, Erase}

-- no step, a byte programmed, a granule erased
unfoldable pub step_kind : Option Step → ℕ
step_kind None = 0
step_kind (Some (Program a v)) = 1
step_kind (Some (Erase a)) = 2

unfoldable pub step_address : Option Step → ℕ
step_address None = 0
step_address (Some (Program a v)) = a
step_address (Some (Erase a)) = a

unfoldable pub step_byte : Option Step → ℕ
step_byte None = 0
step_byte (Some (Program a v)) = v
step_byte (Some (Erase a)) = 0
