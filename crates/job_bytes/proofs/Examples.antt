-- A small job's bytes, and bytes that hold no job, to be checked by hand. Assumes nothing.
use mathlib.Core.Path.{◌≡◌, refl}
use mathlib.Core.List.{[], ◌∷◌, ◌++◌}
use Prim.Native.Nat.{◌*◌}
use lib.ListN.{replicate}
use Rattle.rules.specs.Bytes.{block_size, bytes_of}
use Rattle.rules.specs.Answers.{refused, unless}
use Rattle.jobs.specs.Jobs.{place_room}
use Rattle.jobs.specs.declared.Job.{Job}
use Rattle.job_parts.specs.declared.Kind.TheVariants.{Rewrite, Places}
use Rattle.job_bytes.specs.Form.{kind_number, sizes_encoded, addresses_encoded, kinds_encoded, numbers_encoded, malformed, holds_job, decoded}

abbrev sample : Job
sample = record {
  plan = record {
    len = 0x10000;
    granule = 0x1000;
    offset = 0x20;
    first = Places;
    at = 0x7000;
    second = Rewrite;
    after = 0x6000;
    count = 1;
  };
  done = 5;
  first = replicate block_size 0xFF;
  second = replicate block_size 0xFF;
  places = replicate (2 * place_room) 0;
  value = replicate 8 0;
}

pub sample_numbers :
    numbers_encoded sample.plan sample.done
    ≡ (0x00 ∷ 0x00 ∷ 0x01 ∷ 0 ∷ 0 ∷ 0 ∷ 0 ∷ 0 ∷ [])
    ++ ((0x00 ∷ 0x10 ∷ 0 ∷ 0 ∷ 0 ∷ 0 ∷ 0 ∷ 0 ∷ [])
    ++ ((1 ∷ 0 ∷ 0 ∷ 0 ∷ 0 ∷ 0 ∷ 0 ∷ 0 ∷ [])
    ++ ((5 ∷ 0 ∷ 0 ∷ 0 ∷ 0 ∷ 0 ∷ 0 ∷ 0 ∷ [])
    ++ ((0x20 ∷ 0 ∷ 0 ∷ 0 ∷ [])
    ++ ((0x00 ∷ 0x70 ∷ 0 ∷ 0 ∷ [])
    ++ ((0x00 ∷ 0x60 ∷ 0 ∷ 0 ∷ [])
    ++ ((2 ∷ 0 ∷ []) ++ (1 ∷ 0 ∷ []))))))))
unfolding numbers_encoded sizes_encoded addresses_encoded kinds_encoded kind_number bytes_of
sample_numbers = refl

-- no bytes at all
pub nothing_held : decoded [] ≡ refused malformed
unfolding decoded unless holds_job
nothing_held = refl
