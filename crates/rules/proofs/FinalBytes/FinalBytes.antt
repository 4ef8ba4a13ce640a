-- What a finished job leaves, in plain words.
--
-- Take any flash that can be read, and any command on it that is not refused. When its job is finished, whatever
-- budgets it was run with, the image is the one that specs/Final gives, byte for byte and without a word about steps:
-- a pointer in the free place of both pointer blocks, zeros in the places of a slot, both copies with a new content and
-- 0xFF after it to the end of their granules, or the copy not read made equal to the copy read; every other byte is as
-- it was. The flash then reads as before with the command's change, both pairs agree, and nothing changed outside the
-- first granules of the four blocks. Assumes nothing.
use mathlib.Core.Path.{◌≡◌, refl, sym, ap, ◌∙◌, subst}
use mathlib.Core.Bool.{true}
use mathlib.Core.List.{List}
use Prim.Native.Nat.{ℕ}
use native.Mathlib.Omega.{arith}
use Rattle.rules.specs.Bytes.{Bytes, block}
use Rattle.rules.specs.Answers.{Answer, refused, given, ◌>>=◌}
use Rattle.rules.specs.declared.Setting.{Setting}
use Rattle.rules.specs.Copies.{view, pairs_agree}
use Rattle.rules.specs.Steps.{steps}
use Rattle.rules.specs.Commands.{Command, job, start}
use Rattle.rules.specs.Book.{Reading, the_commands, Item, Outcome, was_refused, finished, read_by, reading, left_by, flash_after, ended_by, outcome, progress, changed, Untouched, NameBytes}
use Rattle.rules.specs.Final.{final}
use Rattle.rules.specs.declared.Step.{Step}
use Rattle.rules.specs.declared.View.{View}
use Rattle.rules.proofs.Lists.Tests.{given_inj}
use Rattle.rules.proofs.Steps.Cutting.{dropped-finished}
use Rattle.rules.proofs.Steps.Frame.{Only}
use Rattle.rules.proofs.Claim.Invariant.{Beginning, FourGranules, Invariant, the_view, view_is, reading_is}
use Rattle.rules.proofs.Claim.Viewing.{viewed, beginning, holds_at_first}
use Rattle.rules.proofs.Claim.JobRight.{JobRight}
use Rattle.rules.proofs.Claim.EveryJob.{every_job_right}
use Rattle.rules.proofs.Claim.EveryList.{untouched}
use Rattle.rules.proofs.FinalBytes.JobBytes.{job_bytes}

module _ (s : Setting) (img : List ℕ) (v : View) (c : Command) (ss : List Step)
    (bytes : Bytes img) (names : NameBytes c) (views : view s img ≡ given v) (starts : job s img v c ≡ given ss) where
  -- ---- the flash at the start

  abbrev at_start : Beginning
  at_start = beginning s img v (viewed s img v views)

  holds : Invariant at_start img (read_by img v)
  holds = holds_at_first s img v (viewed s img v views) bytes

  abbrev the_same : View
  the_same = the_view at_start img (read_by img v) holds

  same_view : v ≡ the_same
  same_view = given_inj v the_same (sym views ∙ view_is at_start img (read_by img v) holds)

  starts_there : job s img the_same c ≡ given ss
  starts_there = subst (λ (w : View). job s img w c ≡ given ss) same_view starts

  right : JobRight at_start img (read_by img v) c ss
  right = every_job_right at_start img (read_by img v) holds c ss names starts_there

  -- ---- the image when all steps are done

  pub finished_bytes : steps s.granule ss img ≡ final s img v c
  finished_bytes =
      job_bytes at_start img (read_by img v) holds c ss names starts_there
      ∙ ap (λ (w : View). final s img w c) (sym same_view)

  pub finished_reading : (r : Reading) → reading s img ≡ given r → reading s (final s img v c) ≡ given (changed s img c r)
  finished_reading r e =
      let was : read_by img v ≡ r =
      given_inj (read_by img v) r (sym (reading_is at_start img (read_by img v) holds) ∙ e) in
      rw (← finished_bytes, ← was)
      (reading_is at_start (steps s.granule ss img) (changed s img c (read_by img v)) right.at_end)

  pub finished_agrees : pairs_agree s (final s img v c) ≡ true
  finished_agrees = rw (← finished_bytes) right.agrees

  pub finished_kept : Only (FourGranules at_start) img (final s img v c)
  finished_kept = rw (← finished_bytes) right.at_end.kept

  pub untouched_outside : Untouched s (block img v.table) img (final s img v c)
  untouched_outside = untouched at_start (block img v.table) refl refl (final s img v c) finished_kept

-- ---- with any budgets

pub finished_item_bytes : (s : Setting) (img : List ℕ) (v : View) (i : Item the_commands)
    → Bytes img
    → NameBytes i.command
    → view s img ≡ given v
    → outcome s img i ≡ finished
    → flash_after s img i ≡ final s img v i.command
unfolding flash_after outcome start
finished_item_bytes s img v i bytes names views ended =
    rw views (answered (job s img v i.command) refl (rw views at ended))
  where
    refused_finished : ◌≡◌ {A = Outcome} was_refused finished → ⊥
    refused_finished e = let z : ◌≡◌ {A = ℕ} 0 1 = cc in omega arith

    answered : (a : Answer (List Step))
        → job s img v i.command ≡ a
        → ended_by s.granule i img a ≡ finished
        → left_by s.granule i img a ≡ final s img v i.command
    answered (refused n) e h = absurd (refused_finished (unfold ended_by in h))
    answered (given ss) e h =
        unfold left_by ended_by progress in
        (dropped-finished s.granule i.wiped i.budgets ss img h
        ∙ finished_bytes s img v i.command ss bytes names views e)
