-- `start_into` leaves the buffer as it was where the command is refused, else with the job that was drafted. Assumes
-- nothing.
use Rattle.handing.proofs.Beginning.{into_refused, into_given}
use Rattle.handing.proofs.start_into.Goals as goal

pub returns-in-Err : goal.returns-in-Err
returns-in-Err c = into_refused _ _ _ c.in-Err.why c.number-in-Err.ensures c.in-Err.ensures.job c.if-job-ne-JOB_SIZE.false

pub returns-in-Ok : goal.returns-in-Ok
returns-in-Ok c = into_given _ _ _ _ c.in-Ok.ensures.job c.if-job-ne-JOB_SIZE.false c.hand_over.ensures
