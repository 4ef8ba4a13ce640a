-- What only the contracts of a job's inner functions cite: the sizes of its arrays, the number of its steps, and the steps
-- of a part with its arrays. Assumes nothing.
use Rattle.std.specs.Prelude.{◌≡◌, List, ℕ, suc, ◌+◌, ◌*◌, min, length}
use Rattle.rules.specs.Bytes.{block_size}
use Rattle.part_steps.specs.Parts.{place_room}
use Rattle.job_parts.specs.declared.Kind.{Kind}
use Rattle.job_parts.specs.declared.Kind.TheVariants.{Nothing, Rewrite, Places}
use Rattle.job_parts.specs.declared.Plan.{Plan}

-- the arrays of a part: its block, the places' numbers, the bytes for them
pub record Sized (b ks v : List ℕ) : Type 0 where
  pub block : length b ≡ block_size
  pub places : length ks ≡ 2 * place_room
  pub value : length v ≡ 8

unfoldable pub part_length : Kind → ℕ → ℕ
part_length Nothing n = 0
part_length Rewrite n = 4 + suc block_size
part_length Places n = 8 * n

unfoldable pub listed_length : Plan → ℕ
listed_length p =
    part_length p.first (min p.count place_room) + part_length p.second (min p.count place_room)
