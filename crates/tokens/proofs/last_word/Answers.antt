-- `last_word` answers the part from where the last word begins. Assumes nothing.
use Rattle.tokens.proofs.WordsOfLine.{rest, last_begins}
use mathlib.Core.Path.{◌∙◌}
use Rattle.tokens.proofs.last_word.Goals as goal

pub returns : goal.returns
returns c =
    let line = c.args.line.now in
    rest line c.last_word_start-from.result ∙ last_begins line c.last_word_start-from.ensures
