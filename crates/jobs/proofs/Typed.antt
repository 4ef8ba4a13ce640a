-- What the types of a job's fields say of their values. Assumes nothing.
use mathlib.Core.Path.{◌≡◌}
use Prim.Native.Nat.{◌*◌, ◌^◌, ◌<◌}
use lib.ListN.{length}
use Rattle.rules.specs.Bytes.{block_size}
use Rattle.jobs.specs.Jobs.{place_room}
use Rattle.jobs.specs.declared.Job.{Job}

pub record Typed (j : Job) : Type 0 where
  pub len : j.plan.len < 2 ^ 64
  pub granule : j.plan.granule < 2 ^ 64
  pub count : j.plan.count < 2 ^ 64
  pub done : j.done < 2 ^ 64
  pub offset : j.plan.offset < 2 ^ 32
  pub at : j.plan.at < 2 ^ 32
  pub after : j.plan.after < 2 ^ 32
  pub value : length j.value ≡ 8
  pub places : length j.places ≡ 2 * place_room
  pub first : length j.first ≡ block_size
  pub second : length j.second ≡ block_size
