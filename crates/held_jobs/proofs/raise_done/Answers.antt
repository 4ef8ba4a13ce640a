-- `raise_done` raises the number of steps done. Assumes nothing.
use native.Mathlib.Omega.{arith}
use Rattle.held_jobs.proofs.Advancing.{length_of_job, raised}
use Rattle.held_jobs.proofs.raise_done.Goals as goal

pub number-done-requires : goal.number-done-requires
number-done-requires c = (omega arith, omega (arith, length_of_job c.args.job.now c.requires.0))

pub store-requires : goal.store-requires
store-requires c = (omega arith, omega (arith, length_of_job c.args.job.now c.requires.0))

pub returns : goal.returns
returns c =
    let a = c.args in
    raised a.job.now a.n c.number-done.result c.store.new.out c.requires.0 c.number-done.ensures.0
    (omega (arith, c.number-done.ensures.0, c.requires.1)) c.store.ensures
