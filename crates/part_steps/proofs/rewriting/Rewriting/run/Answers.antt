-- `run` does the steps of a rewrite that are in a window. Assumes nothing.
use mathlib.Core.Bool.{true}
use mathlib.Core.Path.{◌≡◌, sym, ◌∙◌}
use mathlib.Core.List.{List}
use Rattle.rules.specs.declared.Step.{Step}
use Prim.Native.Nat.{ℕ, ◌+◌, ◌-◌}
use native.Mathlib.Omega.{arith}
use lib.ListN.{length, take, drop, length-take, length-drop}
use lib.Seq.{take_all}
use Rattle.rules.specs.Bytes.{block_size}
use Rattle.rules.specs.Lists.{all}
use Rattle.rules.specs.Steps.{rewrite}
use Rattle.rules.specs.Cuts.{inside}
use Rattle.part_steps.specs.Inner.Windows.{beyond, rest_size, programs_inside, erase_inside}
use Rattle.part_steps.proofs.RewriteSteps.{inside-rewrite, rewrite_parts, rewrite_done}
use Rattle.part_steps.proofs.rewriting.Rewriting.run.Goals as goal

-- what of the rewrite's steps from one on stays inside does so part by part
parts : (g len at from : ℕ) (block : List ℕ) (ss : List Step) → length block ≡ block_size → rewrite at block ≡ ss
    → all (inside g len) (drop from ss) ≡ true
    → (programs_inside len at 4 from ≡ true)
    × ((erase_inside g len at (from - 4) ≡ true)
    × ((programs_inside len (at + 4) rest_size (from - 4 - 1) ≡ true)
    × (programs_inside len at 4 (from - 4 - 1 - rest_size) ≡ true)))
parts g len at from block ss sized e t =
    let u : all (inside g len) (drop from (rewrite at block)) ≡ true = rw e t in
    rewrite_parts g len at from (sym (inside-rewrite at block sized g len from) ∙ u)

pub do_range-after-requires : goal.do_range-after-requires
do_range-after-requires c =
    let a = c.args in
    let r = c.self.inside in
    (parts a.granule (length a.image.now) r.at a.window.from r.block.now a.self.now c.self.invariant.0 c.self.view_is c.requires).0

pub do_erase-rest-requires : goal.do_erase-rest-requires
unfolding beyond
do_erase-rest-requires c =
    let a = c.args in
    let r = c.self.inside in
    rw (c.do_range-after.auto.image, c.do_range-after.ensures.value)
    (parts a.granule (length a.image.now) r.at a.window.from r.block.now a.self.now c.self.invariant.0 c.self.view_is c.requires).1.0

pub do_range-last-requires : goal.do_range-last-requires
unfolding beyond
do_range-last-requires c =
    let a = c.args in
    let r = c.self.inside in
    let size : length (take rest_size (drop 4 r.block.now)) ≡ rest_size =
    simp (length-take, length-drop) (omega (arith, c.self.invariant.0)) in
    rw (
      c.do_erase-rest.auto.image,
      c.do_range-after.auto.image,
      size,
      c.do_erase-rest.ensures.value,
      c.do_range-after.ensures.value,
    )
    (parts a.granule (length a.image.now) r.at a.window.from r.block.now a.self.now c.self.invariant.0 c.self.view_is c.requires).1.1.0

pub do_range-requires : goal.do_range-requires
unfolding beyond
do_range-requires c =
    let a = c.args in
    let r = c.self.inside in
    let rest : length (take rest_size (drop 4 r.block.now)) ≡ rest_size =
    simp (length-take, length-drop) (omega (arith, c.self.invariant.0)) in
    let size : length (take 4 r.block.now) ≡ 4 = simp length-take (omega (arith, c.self.invariant.0)) in
    rw (
      c.do_range-last.auto.image,
      c.do_erase-rest.auto.image,
      c.do_range-after.auto.image,
      size,
      c.do_range-last.ensures.value,
      rest,
      c.do_erase-rest.ensures.value,
      c.do_range-after.ensures.value,
    )
    (parts a.granule (length a.image.now) r.at a.window.from r.block.now a.self.now c.self.invariant.0 c.self.view_is c.requires).1.1.1

pub returns : goal.returns
returns c =
    let a = c.args in
    let r = c.self.inside in
    let whole = take_all rest_size (drop 4 r.block.now) (simp length-drop (omega (arith, c.self.invariant.0))) in
    rw (← c.self.view_is)
    (rewrite_done r.at r.block.now c.self.invariant.0 a.granule a.window c.do_range-after.result
    c.do_erase-rest.result c.do_range-last.result _ a.image.now c.do_range-after.new.image
    c.do_erase-rest.new.image c.do_range-last.new.image c.do_range.new.image
    whole
    c.do_range-after.ensures.value c.do_erase-rest.ensures.value c.do_range-last.ensures.value
    (c.do_range-after.ensures.by_index a.granule) c.do_erase-rest.ensures.image_after
    (c.do_range-last.ensures.by_index a.granule) (c.do_range.ensures.by_index a.granule))
