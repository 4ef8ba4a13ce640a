-- The jobs that a command starts with, field by field: no steps, blocks rewritten, bytes into places. Assumes nothing.
use Rattle.std.specs.Prelude.{◌≡◌, Bool, true, false, cond, List, [], ◌∷◌, ◌++◌, ℕ, ◌*◌, ◌-◌, length, replicate}
use Rattle.rules.specs.Bytes.{block_size, bytes_of, erased_byte}
use Rattle.rules.specs.declared.Step.{Step}
use Rattle.jobs.specs.Jobs.{place_room, steps_of}
use Rattle.jobs.specs.declared.Job.{Job}
use Rattle.job_parts.specs.declared.Plan.{Plan}
use Rattle.job_parts.specs.declared.Kind.TheVariants.{Nothing, Rewrite, Places}
use Rattle.blocks.specs.declared.PlaceList.{PlaceList}
use Rattle.blocks.specs.declared.Target.{Target}

-- a job with no step done: it denotes these steps, for an image of this length and with this granule
pub record Lists (j : Job) (len granule : ℕ) (ss : List Step) : Type 0 where
  pub steps : steps_of j ≡ ss
  pub same_len : j.plan.len ≡ len
  pub same_granule : j.plan.granule ≡ granule
  pub none_done : j.done ≡ 0

-- ---- what a job carries where its steps use nothing

unfoldable pub erased_block : List ℕ
erased_block = replicate block_size erased_byte

abbrev pub no_places : List ℕ
no_places = replicate (2 * place_room) 0

abbrev pub no_value : List ℕ
no_value = replicate 8 0

-- ---- the pair that a job is for

-- an image of this length and its granule, and where copy 0 and copy 1 are
abbrev pub target : ℕ → ℕ → ℕ → ℕ → Target
target len granule a b = record { len = len; granule = granule; at0 = a; at1 = b }

-- ---- blocks rewritten

-- a block to be rewritten at an address, or not
pub record Rewriting : Type 0 where
  pub wanted : Bool
  pub at : ℕ
  pub block : List ℕ

-- one part or none at an address, then another
abbrev pub rewrites_plan : ℕ → ℕ → Bool → ℕ → Bool → ℕ → Plan
rewrites_plan len granule x at y after = record {
  len = len;
  granule = granule;
  offset = 0;
  first = cond x Rewrite Nothing;
  at = at;
  second = cond y Rewrite Nothing;
  after = after;
  count = 0;
}

-- one block rewritten or not, then another
unfoldable pub rewrites : ℕ → ℕ → Rewriting → Rewriting → Job
rewrites len granule x y = record {
  plan = rewrites_plan len granule x.wanted x.at y.wanted y.at;
  done = 0;
  first = x.block;
  second = y.block;
  places = no_places;
  value = no_value;
}

abbrev pub unwanted : Rewriting
unwanted = record { wanted = false; at = 0; block = erased_block }

abbrev wanted : ℕ → List ℕ → Rewriting
wanted at b = record { wanted = true; at = at; block = b }

-- no steps, for an image of this length and with this granule
unfoldable pub no_steps : ℕ → ℕ → Job
no_steps len granule = rewrites len granule unwanted unwanted

-- the job of no steps, which stands beside a refusal's number
unfoldable pub no_job : Job
no_job = no_steps 0 0

-- the same block into both copies of a pair: copy 1, then copy 0
unfoldable pub pair_rewritten : ℕ → ℕ → ℕ → ℕ → List ℕ → Job
pair_rewritten len granule a0 a1 b = rewrites len granule (wanted a1 b) (wanted a0 b)

-- ---- bytes into places

-- two bytes for each number, lowest byte first
unfoldable pub number_bytes : List ℕ → List ℕ
number_bytes [] = []
number_bytes (k ∷ ks) = bytes_of 2 k ++ number_bytes ks

-- the numbers of some places, then zeros
unfoldable pub place_list : List ℕ → PlaceList
place_list ks =
    record { places = number_bytes ks ++ replicate (2 * (place_room - length ks)) 0; count = length ks }

-- bytes into so many places, which begin at an offset of the block at one address, then of the block at another
abbrev pub places_plan : ℕ → ℕ → ℕ → ℕ → ℕ → ℕ → Plan
places_plan len granule offset at after count = record {
  len = len;
  granule = granule;
  offset = offset;
  first = Places;
  at = at;
  second = Places;
  after = after;
  count = count;
}

-- eight bytes into each of the places noted
unfoldable pub places_written : ℕ → ℕ → ℕ → ℕ → ℕ → PlaceList → List ℕ → Job
places_written len granule offset at after found v = record {
  plan = places_plan len granule offset at after found.count;
  done = 0;
  first = erased_block;
  second = erased_block;
  places = found.places;
  value = v;
}
