-- The search for the start of a new slot, candidate by candidate. Only the contracts of inner functions cite it. Assumes
-- nothing.
use Rattle.std.specs.Prelude.{◌≡◌, true, cond, List, [], ◌∷◌, ℕ, ◌+◌, ◌≤◌, eqb}
use Rattle.rules.specs.Lists.{member, all}
use Rattle.rules.specs.Bytes.{block_size}
use Rattle.rules.specs.Numbers.{longest}
use Rattle.rules.specs.Table.{Entry, range_aligned, range_inside, ranges_apart}
use Rattle.rules.specs.Commands.{new_range}

-- entries that lie inside an image of this length, on multiples of 4,096
pub record Placed (len : ℕ) (es : List Entry) : Type 0 where
  pub short : len ≤ longest
  pub inside : all (range_inside len) es ≡ true
  pub aligned : all range_aligned es ≡ true

-- above an entry that a range of this size from a overlaps; else a
unfoldable pub raised_by : ℕ → Entry → ℕ → ℕ
raised_by size e a = cond (ranges_apart (new_range a size) e) a (e.start + e.size)

-- above one entry after the other
unfoldable pub raised : ℕ → List Entry → ℕ → ℕ
raised size [] a = a
raised size (e ∷ es) a = raised size es (raised_by size e a)

-- a itself where it may be the start; else the next candidate
unfoldable pub next_candidate : ℕ → List Entry → List ℕ → ℕ → ℕ
next_candidate size es ps a =
    cond (eqb (raised size es a) a) (cond (member a ps) (a + block_size) a) (raised size es a)
