-- `run` does the steps of both parts that are in a window. Assumes nothing.
use mathlib.Core.Path.{◌≡◌, sym, ◌∙◌}
use mathlib.Core.Bool.{true}
use mathlib.Core.List.{List, ◌++◌}
use Prim.Native.Nat.{ℕ, ◌-◌}
use lib.ListN.{length, drop}
use Rattle.rules.proofs.Lists.Tests.{and_true}
use Rattle.rules.specs.Lists.{all}
use Rattle.rules.specs.Cuts.{inside}
use Rattle.rules.specs.declared.Step.{Step}
use Rattle.part_steps.specs.Inner.Windows.{beyond}
use Rattle.part_steps.proofs.Splits.{all_split, steps_joined}
use Rattle.job_parts.specs.Inner.Lent.{steps_in}
use Rattle.job_parts.proofs.parts.Parts.run.Goals as goal

both : (g len from : ℕ) (first second ss : List Step) → first ++ second ≡ ss → all (inside g len) (drop from ss) ≡ true
    → (all (inside g len) (drop from first) ≡ true) × (all (inside g len) (drop (from - length first) second) ≡ true)
both g len from first second ss e t =
    and_true (all (inside g len) (drop from first)) (all (inside g len) (drop (from - length first) second))
    (sym (all_split (inside g len) from first second) ∙ rw e t)

pub run-requires : goal.run-requires
run-requires c =
    let a = c.args in
    let p = c.self.inside in
    (both a.granule (length a.image.now) a.window.from (steps_in p.first) (steps_in p.second) a.self.now c.self.view_is c.requires).0

pub run-requires-2 : goal.run-requires-2
unfolding beyond
run-requires-2 c =
    let a = c.args in
    let p = c.self.inside in
    rw (c.run.auto.image, c.beyond-rest.ensures, c.step_count.ensures.0)
    (both a.granule (length a.image.now) a.window.from (steps_in p.first) (steps_in p.second) a.self.now c.self.view_is c.requires).1

pub returns : goal.returns
returns c =
    let a = c.args in
    let p = c.self.inside in
    rw (← c.self.view_is)
    (steps_joined a.granule a.window c.beyond-rest.result (steps_in p.first) (steps_in p.second) a.image.now
    c.run.new.image c.run-2.new.image (c.beyond-rest.ensures ∙ rw c.step_count.ensures.0) c.run.ensures c.run-2.ensures)
