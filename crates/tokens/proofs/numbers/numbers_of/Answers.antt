-- `numbers_of` reads the last word first: the words from `end` on are read. Assumes nothing.
use mathlib.Core.Path.{◌≡◌, ap, sym, ◌∙◌}
use mathlib.Core.List.{List, ◌∷◌}
use Prim.Native.Nat.{ℕ}
use native.Mathlib.Omega.{arith}
use lib.ListN.{take}
use lib.Seq.{length-take-le}
use Rattle.tokens.specs.Words.{later_words}
use Rattle.tokens.specs.Numbers.{numbers}
use Rattle.tokens.proofs.WordsOfLine.{no_later, rest}
use Rattle.tokens.proofs.Rows.{none_read, one_read, all_read, count_inside, word_inside}
use Rattle.tokens.proofs.numbers.numbers_of.Goals as goal

pub loop-end-init : goal.loop-end-init
loop-end-init c = rw c.no_numbers-row.ensures (none_read c.args.line.now)

pub slice_bounds-text-end : goal.slice_bounds-text-end
slice_bounds-text-end c =
    let so_far = c.loop-end.invariant in
    sym (length-take-le _ _ (omega (arith, so_far.room)))

pub returns-then-from-eq0 : goal.returns-then-from-eq0
returns-then-from-eq0 c =
    let line = c.args.line.now in
    all_read c.loop-end.invariant (no_later (take c.loop-end.end line) c.last_word_start-from.ensures c.if-from-eq0.true)

pub with_front-row-requires : goal.with_front-row-requires
with_front-row-requires c =
    omega (arith, count_inside c.loop-end.invariant)

pub loop-end-smaller : goal.loop-end-smaller
loop-end-smaller c =
    omega (arith, word_inside c.loop-end.invariant c.last_word_start-from.ensures)

pub loop-end-preserved : goal.loop-end-preserved
loop-end-preserved c =
    let text = take c.loop-end.end c.args.line.now in
    let r = c.last_word_start-from.result in
    one_read
    c.loop-end.invariant
    (omega arith)
    c.last_word_start-from.ensures
    (λ ws e. c.with_front-row.ensures ws e ∙ ap (λ (w : List ℕ). numbers (w ∷ ws)) (rest text r))

pub returns : goal.returns
unfolding later_words
returns c =
    let e : c.loop-end.end ≡ 0 = omega arith in
    all_read c.loop-end.invariant (rw e)
