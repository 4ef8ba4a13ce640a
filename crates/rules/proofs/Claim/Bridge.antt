-- From the listed steps to runs: a started job stays inside the image, so its runs are never refused 12, and with
-- refusals it comes to what `runs` says. Assumes nothing.
use mathlib.Core.Path.{◌≡◌, refl}
use mathlib.Core.Logic.{inl, inr}
use mathlib.Core.List.{List}
use Prim.Native.Nat.{ℕ, ◌<◌}
use native.Mathlib.Omega.{arith}
use lib.Dec.{ltb}
use lib.ListN.{length}
use Rattle.rules.specs.Bytes.{Bytes}
use Rattle.rules.specs.Answers.{given, unless}
use Rattle.rules.specs.declared.Setting.{Setting}
use Rattle.rules.specs.Copies.{view}
use Rattle.rules.specs.Commands.{Command, job, start}
use Rattle.rules.specs.Cuts.{may_run, runs}
use Rattle.rules.specs.Book.{Reading, read_by, NameBytes}
use Rattle.rules.specs.declared.Step.{Step}
use Rattle.rules.proofs.Lists.Tests.{bind_given}
use Rattle.rules.proofs.Steps.Cutting.{under_way}
use Rattle.rules.proofs.Steps.Frame.{within_wider}
use Rattle.rules.proofs.Claim.Invariant.{Beginning, FourGranules, Invariant, blocks_inside}
use Rattle.rules.proofs.Claim.Viewing.{viewed, beginning, holds_at_first}
use Rattle.rules.proofs.Claim.EveryJob.{every_job_right, started}
use Rattle.rules.proofs.Steps.RunsInside.{asked_runs, Inside, asked_runs_are_runs, refused_11_along}
use Rattle.rules.specs.declared.Refusal.TheVariants.{NoStepsLeft}

module _ (b : Beginning) (img : List ℕ) (r : Reading) (h : Invariant b img r) where
  granules_inside : (i : ℕ) → FourGranules b i → i < length img
  granules_inside i (inl (inl q)) = omega (arith, (blocks_inside b img r h).spt0_inside)
  granules_inside i (inl (inr q)) = omega (arith, (blocks_inside b img r h).spt1_inside)
  granules_inside i (inr (inl q)) = omega (arith, (blocks_inside b img r h).cpb0_inside)
  granules_inside i (inr (inr q)) = omega (arith, (blocks_inside b img r h).cpb1_inside)

  started_inside : (c : Command) (ss : List Step)
      → NameBytes c
      → start b.s img c ≡ given ss
      → Inside b.s.granule (length img) (under_way img ss)
  started_inside c ss names e =
      let right = every_job_right b img r h c ss names (rw (started b img r h c) at e) in
      record {
        same_length = refl;
        within = within_wider b.s.granule (length img) (FourGranules b) (λ i. i < length img) ss
            granules_inside right.within;
      }

module _ (s : Setting) (img : List ℕ) (c : Command) (ss : List Step) (bytes : Bytes img) (names : NameBytes c)
    (e : start s img c ≡ given ss) where
  job_inside : Inside s.granule (length img) (under_way img ss)
  unfolding start
  job_inside =
      let (v, ev, ej) = bind_given (view s img) (λ v. job s img v c) ss e in
      let w = viewed s img v ev in
      started_inside (beginning s img v w) img (read_by img v) (holds_at_first s img v w bytes) c ss names e

  -- whatever the budgets were, the next run is refused 11 where no step is left, and else not refused
  pub never_refused_12 : (ns : List ℕ)
      → may_run s.granule (length img) (runs s.granule ns (under_way img ss))
      ≡ unless NoStepsLeft (ltb 0 (length (runs s.granule ns (under_way img ss)).left))
      (given (runs s.granule ns (under_way img ss)))
  never_refused_12 ns = refused_11_along s.granule (length img) ns (under_way img ss) job_inside

  -- with refusals, which change nothing, runs come to the same
  pub runs_with_refusals : (ns : List ℕ)
      → asked_runs s.granule (length img) ns (under_way img ss) ≡ runs s.granule ns (under_way img ss)
  runs_with_refusals ns = asked_runs_are_runs s.granule (length img) ns (under_way img ss) job_inside
