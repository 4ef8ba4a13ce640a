-- The places of the pointer block read, by their numbers. Assumes nothing.
use Rattle.std.specs.Prelude.{List, ℕ}
use Rattle.rules.specs.Bytes.{block}
use Rattle.rules.specs.Answers.{Answer, given, ◌>>=◌}
use Rattle.rules.specs.declared.Setting.{Setting}
use Rattle.rules.specs.Pointers.{place_count}
use Rattle.rules.specs.Copies.{view}
use Rattle.place_infos.specs.declared.Held.{Held}
use Rattle.place_infos.specs.Places.{held_in}

-- refusals 1, 2, 3, 50, 51 and 5, or the number of places
unfoldable pub place_total : Setting → List ℕ → Answer ℕ
place_total s img = view s img >>= λ v. given (place_count (block img v.pointers))

-- refusals 1, 2, 3, 50, 51, 5 and 93, or what a place holds
unfoldable pub place_at : Setting → List ℕ → ℕ → Answer Held
place_at s img k = view s img >>= λ v. held_in (block img v.table) (block img v.pointers) k
