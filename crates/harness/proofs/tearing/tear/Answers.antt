-- `tear` wipes the bytes that are chosen: after i turns the first i are as the choice says. Assumes nothing.
use mathlib.Core.Path.{refl, ◌∙◌, ap}
use mathlib.Core.Bool.{cond}
use mathlib.Core.List.{List}
use Prim.Native.Nat.{ℕ, ◌+◌}
use native.Mathlib.Omega.{arith}
use lib.ListN.{get_or, set, length-set}
use Rattle.rules.specs.Bytes.{erased_byte}
use Rattle.harness.proofs.Choices.{no_turn, one_turn, all_turns, not_torn}
use Rattle.harness.proofs.tearing.tear.Goals as goal

pub returns-then-image-size : goal.returns-then-image-size
returns-then-image-size c = not_torn _ _ _ _ (omega arith)

pub returns-then-image-size-2 : goal.returns-then-image-size-2
returns-then-image-size-2 c = not_torn _ _ _ _ (omega arith)

pub loop-i-init : goal.loop-i-init
loop-i-init c = let a = c.args in
    (omega arith, (omega arith, (refl, no_turn a.at a.size a.choice a.image.now (omega arith))))

pub loop-i-preserved : goal.loop-i-preserved
loop-i-preserved c =
    let a = c.args in
    let (fits, (_, (len, so_far))) = c.loop-i.invariant in
    let byte = c.left_of.result in (
      fits,
      (
        omega arith,
        (
          length-set c.loop-i.image (a.at + c.loop-i.i) byte ∙ len,
          ap (λ (l : List ℕ). set l (a.at + c.loop-i.i) byte) so_far
              ∙ one_turn a.at a.size a.choice a.image.now fits c.loop-i.i byte c.is_wiped.result
              (omega arith) c.is_wiped.ensures
              (c.left_of.ensures
              ∙ ap (λ (l : List ℕ). cond c.is_wiped.result erased_byte (get_or l (a.at + c.loop-i.i) 0)) so_far),
        ),
      ),
    )

pub returns : goal.returns
returns c =
    let a = c.args in
    c.loop-i.invariant.1.1.1
    ∙ all_turns a.at a.size a.choice a.image.now c.loop-i.invariant.0 c.loop-i.i (omega (arith, c.loop-i.invariant.1.0))
