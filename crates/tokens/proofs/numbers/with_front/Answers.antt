-- `with_front` reads one word more. Assumes nothing.
use Rattle.tokens.proofs.Rows.{front}
use Rattle.tokens.proofs.numbers.with_front.Goals as goal

pub returns : goal.returns
returns c =
    λ ws e. rw (c.is_some.ensures, c.unwrap_or.ensures) (front c.args.word.now ws c.number_of-number.ensures e)
