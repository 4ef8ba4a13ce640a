-- `next_step` tells the next step of the job that bytes hold. Assumes nothing.
use mathlib.Core.Path.{sym, ◌∙◌}
use Rattle.jobs.specs.Jobs.{next_of}
use Rattle.codes.specs.StepNumbers.{step_kind, step_address, step_byte}
use Rattle.codes.proofs.Numbered.{number-refused, kept-refused, number-given, kept-given}
use Rattle.runs_for_c.proofs.next_step.Goals as goal

pub returns-in-Err : goal.returns-in-Err
returns-in-Err c =
    let a = c.args in
    let e = sym c.in-Err.is ∙ c.job_in.ensures in
    record {
      returned = c.number.ensures ∙ number-refused e;
      kind_left = kept-refused (λ j. step_kind (next_of j)) a.kind.now e;
      address_left = kept-refused (λ j. step_address (next_of j)) a.address.now e;
      byte_left = kept-refused (λ j. step_byte (next_of j)) a.byte.now e;
    }

pub returns-in-Ok : goal.returns-in-Ok
returns-in-Ok c =
    let a = c.args in
    let e = sym c.in-Ok.is ∙ c.job_in.ensures in
    let next = c.next_step.ensures in
    let code = c.step_code-code.ensures in
    record {
      returned = number-given e;
      kind_left = code.0 ∙ rw next (kept-given (λ j. step_kind (next_of j)) a.kind.now e);
      address_left = code.1.0 ∙ rw next (kept-given (λ j. step_address (next_of j)) a.address.now e);
      byte_left = code.1.1 ∙ rw next (kept-given (λ j. step_byte (next_of j)) a.byte.now e);
    }
