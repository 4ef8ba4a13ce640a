-- The jobs made up: the steps that they denote, and that their fields hold what their types can. Assumes nothing.
use mathlib.Core.Path.{◌≡◌, refl}
use mathlib.Core.Bool.{Bool, true, false, cond}
use mathlib.Core.List.{List, [], ◌++◌}
use Prim.Native.Nat.{ℕ, ◌^◌, ◌≤◌, ◌<◌}
use native.Mathlib.Nat.{min-eq_left}
use native.Mathlib.Omega.{arith}
use lib.ListN.{length, length-replicate}
use Rattle.rules.specs.Bytes.{block_size, erased_byte}
use Rattle.rules.specs.Steps.{rewrite, rewrite_pair}
use Rattle.rules.specs.Commands.{into_places}
use Rattle.rules.specs.declared.Step.{Step}
use Rattle.jobs.specs.Jobs.{place_room, part, listed, steps_of}
use Rattle.jobs.specs.declared.Job.{Job}
use Rattle.job_parts.specs.declared.Kind.TheVariants.{Nothing, Rewrite}
use Rattle.jobs.proofs.Typed.{Typed}
use Rattle.blocks.specs.Made.{Lists, Rewriting, erased_block, rewrites, no_steps, no_job, pair_rewritten, place_list, places_written}
use Rattle.blocks.proofs.Noting.{Below, noted_back, length_noted}

pub record Sound (j : Job) (len granule : ℕ) (ss : List Step) : Type 0 where
  pub lists : Lists j len granule ss
  pub typed : Typed j

-- ---- blocks rewritten

-- the steps of a block to be rewritten or not
unfoldable pub rewriting : Rewriting → List Step
rewriting r = cond r.wanted (rewrite r.at r.block) []

part_of : (wanted : Bool) (at offset : ℕ) (b ks v : List ℕ)
    → part (cond wanted Rewrite Nothing) at offset b ks v ≡ cond wanted (rewrite at b) []
unfolding part
part_of true at offset b ks v = refl
part_of false at offset b ks v = refl

-- an address of 32 bits, and a whole block
abbrev pub Fits : Rewriting → Type 0
Fits r = (r.at < 2 ^ 32) × (length r.block ≡ block_size)

length_erased : length erased_block ≡ block_size
unfolding erased_block
length_erased = length-replicate {A = ℕ} block_size erased_byte

module _ (len granule : ℕ) (short : len < 2 ^ 64) (fine : granule < 2 ^ 64) where
  pub rewrites_sound : (x y : Rewriting) → Fits x → Fits y
      → Sound (rewrites len granule x y) len granule (rewriting x ++ rewriting y)
  unfolding steps_of listed rewrites rewriting
  rewrites_sound x y (at, first) (after, second) = record {
    lists = record {
      steps = rw (part_of x.wanted, part_of y.wanted);
      same_len = refl;
      same_granule = refl;
      none_done = refl;
    };
    typed = record {
      len = short;
      granule = fine;
      count = omega arith;
      done = omega arith;
      offset = omega arith;
      at = at;
      after = after;
      value = refl;
      places = refl;
      first = first;
      second = second;
    };
  }

  pub no_steps_sound : Sound (no_steps len granule) len granule []
  unfolding no_steps rewriting
  no_steps_sound = rewrites_sound _ _ (omega arith, length_erased) (omega arith, length_erased)

  module _ (a0 a1 : ℕ) (small0 : a0 < 2 ^ 32) (small1 : a1 < 2 ^ 32) where
    pub pair_sound : (b : List ℕ) → length b ≡ block_size
        → Sound (pair_rewritten len granule a0 a1 b) len granule (rewrite_pair a0 a1 b)
    unfolding pair_rewritten rewriting rewrite_pair
    pair_sound b whole = rewrites_sound _ _ (small1, whole) (small0, whole)

    -- ---- bytes into places

    pub places_sound : (offset : ℕ) (ks v : List ℕ)
        → offset < 2 ^ 32
        → length ks ≤ place_room
        → Below place_room ks
        → length v ≡ 8
        → Sound (places_written len granule offset a1 a0 (place_list ks) v) len granule
        (into_places a1 offset v ks ++ into_places a0 offset v ks)
    unfolding steps_of listed part places_written
    places_sound offset ks v small room below eight = record {
      lists = record {
        steps = unfold place_list in rw (min-eq_left room, noted_back ks below);
        same_len = refl;
        same_granule = refl;
        none_done = refl;
      };
      typed = record {
        len = short;
        granule = fine;
        count = unfold place_list in omega arith;
        done = omega arith;
        offset = small;
        at = small1;
        after = small0;
        value = eight;
        places = length_noted ks room;
        first = length_erased;
        second = length_erased;
      };
    }

-- ---- beside a refusal

pub no_job_sound : Sound no_job 0 0 []
unfolding no_job
no_job_sound = no_steps_sound 0 0 (omega arith) (omega arith)
