-- What only the contract of an inner function cites: a job of which at least what its steps use is there. Assumes nothing.
use Rattle.std.specs.Prelude.{◌≡◌, ◌≤◌, length}
use Rattle.rules.specs.Bytes.{block_size}
use Rattle.job_parts.specs.declared.Kind.TheVariants.{Rewrite}
use Rattle.jobs.specs.declared.Job.{Job}
use Rattle.job_bytes.specs.Form.{meant_size}

pub record Fitting (j : Job) : Type 0 where
  pub value : length j.value ≡ 8
  pub places : meant_size j.plan.count ≤ length j.places
  pub first : j.plan.first ≡ Rewrite → length j.first ≡ block_size
  pub second : j.plan.second ≡ Rewrite → length j.second ≡ block_size
