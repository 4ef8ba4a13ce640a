-- `put_numbers` puts a part for each number: after i turns the first i are put. Assumes nothing.
use Rattle.std.proofs.Common.{refl}
use Rattle.text.proofs.Puts.{put_nothing}
use Rattle.answer_parts.proofs.Texts.{put_one_more, put_every}
use Rattle.answer_parts.specs.Answers.{spaced, spaced_row}
use Rattle.answer_parts.proofs.put_numbers.Goals as goal

pub loop-number-init : goal.loop-number-init
unfolding spaced_row
loop-number-init c = put_nothing _ _

pub loop-number-preserved : goal.loop-number-preserved
unfolding spaced_row
loop-number-preserved c =
    put_one_more spaced spaced_row refl (λ x xs. refl) _ _ 0 c.loop-number-test.true c.loop-number.invariant
    c.put_number-end.ensures

pub returns : goal.returns
unfolding spaced_row
returns c = put_every spaced spaced_row refl (λ x xs. refl) _ _ c.loop-number-test.false c.loop-number.invariant
