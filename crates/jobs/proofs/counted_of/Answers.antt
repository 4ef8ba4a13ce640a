-- `counted_of` answers how many steps are counted, of those that remain. Assumes nothing.
use native.Mathlib.Omega.{arith}
use Rattle.job_parts.proofs.ListedSteps.{listed_bound}
use Rattle.jobs.proofs.Counting.{counts_none, counts_some}
use Rattle.jobs.proofs.counted_of.Goals as goal

pub returns-then-left-eq0 : goal.returns-then-left-eq0
returns-then-left-eq0 c =
    (rw (← c.remaining_of-left.ensures) (counts_none c.remaining_of-left.result c.args.n c.if-left-eq0.true), tt)

pub returns : goal.returns
returns c =
    let a = c.args in (
      rw (c.min.ensures, ← c.remaining_of-left.ensures) (counts_some c.remaining_of-left.result a.n c.if-left-eq0.false),
      omega (arith, c.min.ensures, c.remaining_of-left.ensures, listed_bound a.plan),
    )
