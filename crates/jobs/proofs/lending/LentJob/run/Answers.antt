-- `run` says and leaves what the definition of a run does, for every job. Assumes nothing.
use mathlib.Core.Path.{◌≡◌, sym, ◌∙◌}
use native.Mathlib.Omega.{arith}
use Rattle.job_parts.specs.Inner.Parts.{listed_length}
use Rattle.part_steps.specs.Inner.Windows.{chosen}
use Prim.Native.Nat.{◌<◌, ◌-◌, min}
use Rattle.rules.specs.Answers.{refused}
use Rattle.job_parts.proofs.ListedSteps.{listed_bound}
use Rattle.jobs.specs.Jobs.{lent, listed, admitted, steps_of}
use Rattle.jobs.proofs.Running.{stays, finished_11, other_length, step_outside, inside_given, goes}
use Rattle.jobs.proofs.lending.LentJob.run.Goals.{then-image-self-via-then-image-self, then-image-self-via-else-image-self+then-not-are_inside}
use Rattle.jobs.proofs.lending.LentJob.run.Goals as goal
use Rattle.rules.specs.declared.Refusal.TheVariants.{NoStepsLeft, OutsideImage}

pub returns-then-left-eq0 : goal.returns-then-left-eq0
returns-then-left-eq0 c =
    let a = c.args in
    let i = c.self.inside in
    let j = lent i.plan i.done i.first.now i.second.now i.places.now i.value.now in
    let said = stays j a.budget NoStepsLeft a.image.now
    (finished_11 j c.self.invariant a.image.now (omega (arith, c.if-left-eq0.true, c.remaining_of-left.ensures))) in
    rw (← c.self.view_is) ((said.0, tt), said.1)

pub returns-then-image-self : goal.returns-then-image-self
unfolding steps_of
returns-then-image-self c =
    let a = c.args in
    let i = c.self.inside in
    let j = lent i.plan i.done i.first.now i.second.now i.places.now i.value.now in
    let some : j.done < listed_length j.plan = omega (arith, c.if-left-eq0.false, c.remaining_of-left.ensures) in
    let all-of : c.parts-parts.result ≡ listed j.plan j.first j.second j.places j.value =
    c.parts-parts.ensures ∙ rw (← c.self.view_is) in
    let outside : admitted j a.image.now ≡ refused OutsideImage =
    elim c.then-image-self.branch [
      | then-image-self-via-then-image-self w ↦ other_length j c.self.invariant a.image.now some w.if-image-self.true
      | then-image-self-via-else-image-self+then-not-are_inside w ↦
          step_outside j c.self.invariant a.image.now some (omega (arith, w.if-image-self.false))
          (rw (← all-of) (sym w.are_inside.ensures ∙ w.if-not-are_inside.true))
    ] in
    let said = stays j a.budget OutsideImage a.image.now outside in
    rw (← c.self.view_is) ((said.0, tt), said.1)

pub returns : goal.returns
unfolding steps_of chosen
returns c =
    let a = c.args in
    let i = c.self.inside in
    let j = lent i.plan i.done i.first.now i.second.now i.places.now i.value.now in
    let some : j.done < listed_length j.plan = omega (arith, c.if-left-eq0.false, c.remaining_of-left.ensures) in
    let all-of : c.parts-parts.result ≡ listed j.plan j.first j.second j.places j.value =
    c.parts-parts.ensures ∙ rw (← c.self.view_is) in
    let least : c.min.result ≡ min a.budget (listed_length j.plan - j.done) = c.min.ensures ∙ rw c.remaining_of-left.ensures in
    let admitted-on = inside_given j c.self.invariant a.image.now some (omega (arith, c.if-image-self.false))
    (rw (← all-of) (sym c.are_inside.ensures ∙ c.if-not-are_inside.false)) in
    let said = goes j c.self.invariant a.image.now c.run.new.image a.budget c.min.result admitted-on least
    (c.run.ensures ∙ rw all-of) in
    rw (← c.self.view_is) ((said.0, omega (arith, least, listed_bound j.plan)), said.1)
