-- Document 01's case 6 on the definitions: the job of case 2 with 15 of its 16 steps done. Assumes nothing.
use mathlib.Core.Path.{◌≡◌, refl}
use mathlib.Core.List.{[], ◌∷◌}
use Prim.Native.Nat.{ℕ}
use Rattle.rules.specs.Bytes.{bytes_of, little_endian, field}
use Rattle.rules.specs.Steps.{programs}
use Rattle.rules.specs.Commands.{into_place, into_places}
use Rattle.rules.specs.declared.Step.TheVariants.{Program}
use Rattle.jobs.specs.Jobs.{numbers_from, part, listed, steps_of, steps_left, first_step, next_of}
use Rattle.jobs.specs.declared.Job.{Job}
use Rattle.job_parts.specs.declared.Kind.TheVariants.{Places}
use Rattle.std.specs.Prelude.{Some, None}

-- the start 0xA000 into place 2 of CPB1 at 0x7000, then of CPB0 at 0x6000
unfoldable enable_2 : ℕ → Job
enable_2 done = record {
  plan = record {
    len = 65536;
    granule = 4096;
    offset = 0x20;
    first = Places;
    at = 0x7000;
    second = Places;
    after = 0x6000;
    count = 1;
  };
  done = done;
  first = [];
  second = [];
  places = 2 ∷ 0 ∷ [];
  value = bytes_of 8 0xA000;
}

sixteen_steps : steps_left (enable_2 0) ≡ 16
unfolding enable_2 steps_left steps_of listed numbers_from field little_endian part into_places into_place programs bytes_of
sixteen_steps = refl

lowest_byte_of_cpb1_first : next_of (enable_2 0) ≡ Some (Program 0x7030 0x00)
unfolding enable_2 next_of first_step steps_of listed numbers_from field little_endian part into_places into_place programs bytes_of
lowest_byte_of_cpb1_first = refl

-- the top byte of place 2 of CPB0, which still holds 0xFF
one_step_left : steps_of (enable_2 15) ≡ Program 0x6037 0x00 ∷ []
unfolding enable_2 steps_of listed numbers_from field little_endian part into_places into_place programs bytes_of
one_step_left = refl

no_step_left : next_of (enable_2 16) ≡ None
unfolding enable_2 next_of first_step steps_of listed numbers_from field little_endian part into_places into_place programs bytes_of
no_step_left = refl
