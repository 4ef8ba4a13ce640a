-- Commands carried out by the functions for C with two runs, as `joined_for_c` says it of any number. Assumes nothing.
use Rattle.std.specs.Prelude.{◌≡◌, Bool, true, List, [], ◌∷◌, map, ℕ, zero, suc, ◌≤◌, length}
use Rattle.rules.specs.Answers.{given}
use Rattle.rules.specs.declared.Setting.{Setting}
use Rattle.rules.specs.Copies.{pairs_agree}
use Rattle.rules.specs.Commands.{Command}
use Rattle.rules.specs.Book.{Reading, reading}
use Rattle.reads_for_c.specs.Answered.{Written}
use Rattle.runs_for_c.specs.Ran.{Lent, lent}
use Rattle.joined_for_c.specs.Items.{RunForC, RunsAfter, CarriedForC, CarriedOutForC}
use Rattle.joined_for_c.specs.Claim.{Demand3ForC}

-- what is lent, after runs
unfoldable pub left_after : Lent → List RunForC → Lent
left_after l [] = l
left_after l (r ∷ rs) = left_after r.left rs

-- where the start returned 0, runs with these two budgets
unfoldable pub Budgeted : ℕ → ℕ → ℕ → List RunForC → Type 0
Budgeted zero first second rs = map (λ (r : RunForC). r.budget) rs ≡ first ∷ second ∷ []
Budgeted (suc n) first second rs = Unit {0}

-- the runs after a start that returned this number, from what is lent to what is left
unfoldable pub RanIfStarted : ℕ → Lent → ℕ → ℕ → Lent → Type 0
RanIfStarted number l first second l' =
    (rs : List RunForC)
    × ((l' ≡ left_after l rs) × (Budgeted number first second rs × RunsAfter number l.job l.image rs))

-- an item is as the theorem asks, and demand 3 holds of it, with nothing left to assume but that the pairs agree
unfoldable pub AsAskedForC : Setting → List ℕ → CarriedForC → Type 0
AsAskedForC s img c = CarriedOutForC s img c × (pairs_agree s img ≡ true → Demand3ForC s img (c ∷ []))

-- a start of this command that returned this number, then such runs: as asked, whatever an erase in which the
-- power then fails had wiped
unfoldable pub CarriedTwiceForC : Setting → Command → ℕ → Lent → ℕ → ℕ → Lent → Type 0
CarriedTwiceForC s command number l first second l' =
    (begun : List ℕ) × ((rs : List RunForC)
    × ((l' ≡ left_after (lent begun l.image l.done) rs) × (Budgeted number first second rs
    × ((wiped : List Bool)
    → AsAskedForC s l.image
    (record { command = command; buffer = l.job; number = number; begun = begun; runs = rs; wiped = wiped })))))

-- the order list of a flash with any reading, in a row that has room: that reading's order, written and counted
unfoldable pub OrderTold : Setting → List ℕ → ℕ → List ℕ → List ℕ → ℕ → ℕ → Type 0
OrderTold s img number row row' count count' = (r : Reading)
    → reading s img ≡ given r
    → length r.boot ≤ length row
    → Written (given r.boot) number row row' count count'
