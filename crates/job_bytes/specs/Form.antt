-- A job as bytes: every field of it at a fixed offset, numbers little-endian. Assumes nothing.
use Rattle.std.specs.Prelude.{◌≡◌, Bool, cond, ◌&&◌, List, ◌++◌, ℕ, ◌*◌, min, eqb, leb, length, take, drop}
use Rattle.rules.specs.Bytes.{block_size, bytes_of, field}
use Rattle.rules.specs.Answers.{Answer, given, unless}
use Rattle.rules.specs.declared.Refusal.{Refusal}
use Rattle.rules.specs.declared.Refusal.TheVariants.{NotAJob}
use Rattle.jobs.specs.Jobs.{place_room, steps_of}
use Rattle.job_parts.specs.declared.Kind.{Kind}
use Rattle.job_parts.specs.declared.Kind.TheVariants.{Nothing, Rewrite, Places}
use Rattle.job_parts.specs.declared.Plan.{Plan}
use Rattle.jobs.specs.declared.Job.{Job}

-- the length of every such buffer
abbrev pub job_size : ℕ
job_size = 9264

-- the refusal of a buffer that has another length, or that holds no job
abbrev pub malformed : Refusal
malformed = NotAJob

-- ---- where each field begins

-- the image's length when the job started, 8 bytes
abbrev pub len_at : ℕ
len_at = 0

-- the granule, 8 bytes
abbrev pub granule_at : ℕ
granule_at = 8

-- how many of the places' numbers are meant, 8 bytes
abbrev pub count_at : ℕ
count_at = 16

-- the steps done, 8 bytes
abbrev pub done_at : ℕ
done_at = 24

-- where the places of a pointer block begin, 4 bytes
abbrev pub offset_at : ℕ
offset_at = 32

-- the address of the first part, 4 bytes
abbrev pub first_address_at : ℕ
first_address_at = 36

-- the address of the second part, 4 bytes
abbrev pub second_address_at : ℕ
second_address_at = 40

-- the kind of the first part, 2 bytes
abbrev pub first_kind_at : ℕ
first_kind_at = 44

-- the kind of the second part, 2 bytes
abbrev pub second_kind_at : ℕ
second_kind_at = 46

-- the bytes for places, 8
abbrev pub value_at : ℕ
value_at = 48

-- the places' numbers, 2 bytes each
abbrev pub places_at : ℕ
places_at = 56

-- the block of the first part
abbrev pub first_block_at : ℕ
first_block_at = 1072

-- the block of the second part
abbrev pub second_block_at : ℕ
second_block_at = 5168

-- ---- kinds

unfoldable pub kind_number : Kind → ℕ
kind_number Nothing = 0
kind_number Rewrite = 1
kind_number Places = 2

unfoldable pub kind_numbered : ℕ → Kind
kind_numbered n = cond (eqb n 0) Nothing (cond (eqb n 1) Rewrite Places)

-- ---- a job into bytes

-- sizes and counts, 32 bytes
unfoldable pub sizes_encoded : Plan → ℕ → List ℕ
sizes_encoded p done = bytes_of 8 p.len ++ (bytes_of 8 p.granule ++ (bytes_of 8 p.count ++ bytes_of 8 done))

-- addresses, 12 bytes
unfoldable pub addresses_encoded : Plan → List ℕ
addresses_encoded p = bytes_of 4 p.offset ++ (bytes_of 4 p.at ++ bytes_of 4 p.after)

-- kinds, 4 bytes
unfoldable pub kinds_encoded : Plan → List ℕ
kinds_encoded p = bytes_of 2 (kind_number p.first) ++ bytes_of 2 (kind_number p.second)

-- all its numbers, 48 bytes
unfoldable pub numbers_encoded : Plan → ℕ → List ℕ
numbers_encoded p done = sizes_encoded p done ++ (addresses_encoded p ++ kinds_encoded p)

-- then its arrays
unfoldable pub encoded : Job → List ℕ
encoded j = numbers_encoded j.plan j.done ++ (j.value ++ (j.places ++ (j.first ++ j.second)))

-- ---- bytes into a job

-- the plan that bytes hold
unfoldable pub plan_from : List ℕ → Plan
plan_from bs = record {
  len = field len_at 8 bs;
  granule = field granule_at 8 bs;
  offset = field offset_at 4 bs;
  first = kind_numbered (field first_kind_at 2 bs);
  at = field first_address_at 4 bs;
  second = kind_numbered (field second_kind_at 2 bs);
  after = field second_address_at 4 bs;
  count = field count_at 8 bs;
}

-- the job that bytes hold
unfoldable pub job_from : List ℕ → Job
job_from bs = record {
  plan = plan_from bs;
  done = field done_at 8 bs;
  first = take block_size (drop first_block_at bs);
  second = take block_size (drop second_block_at bs);
  places = take (2 * place_room) (drop places_at bs);
  value = take 8 (drop value_at bs);
}

-- bytes that hold a job: the length is right, and each of the two kinds is one of the three
unfoldable pub holds_job : List ℕ → Bool
holds_job bs =
    eqb (length bs) job_size && (leb (field first_kind_at 2 bs) 2 && leb (field second_kind_at 2 bs) 2)

-- that job, or refused
unfoldable pub decoded : List ℕ → Answer Job
decoded bs = unless malformed (holds_job bs) (given (job_from bs))

-- ---- a job put into a buffer

-- a block that is to be rewritten, else what was there
unfoldable pub block_over : Kind → List ℕ → List ℕ → List ℕ
block_over Nothing b old = old
block_over Rewrite b old = b
block_over Places b old = old

-- how many bytes of the places' numbers are meant
abbrev pub meant_size : ℕ → ℕ
meant_size count = 2 * min count place_room

-- a job with what its steps do not use as a buffer had it
unfoldable pub job_over : List ℕ → Job → Job
job_over bs j = record {
  plan = j.plan;
  done = j.done;
  first = block_over j.plan.first j.first (job_from bs).first;
  second = block_over j.plan.second j.second (job_from bs).second;
  places = take (meant_size j.plan.count) j.places ++ drop (meant_size j.plan.count) (job_from bs).places;
  value = j.value;
}

-- every byte of a buffer after a job was put into it
unfoldable pub encoded_over : List ℕ → Job → List ℕ
encoded_over bs j = encoded (job_over bs j)

-- two jobs that differ at most in what their steps do not use
pub record Same (j j' : Job) : Type 0 where
  pub plan : j'.plan ≡ j.plan
  pub done : j'.done ≡ j.done
  pub steps : steps_of j' ≡ steps_of j
