-- What a line does: it is passed over, or does what its forms say. Assumes nothing.
use Rattle.std.specs.Prelude.{cond, List, [], ◌∷◌, ℕ, eqb}
use Rattle.tokens.specs.Words.{first_word, later_words}
use Rattle.tokens.specs.Numbers.{numbers, numbers_before_bytes}
use Rattle.tokens.specs.declared.numbers.Row.{Row}
use Rattle.script_lines.specs.Forms.{by_forms, change_forms, question_forms, command_forms, steps_forms}
use Rattle.script_lines.specs.declared.Line.{Line}
use Rattle.script_lines.specs.declared.Line.TheVariants.{Nothing, Error}

-- "anything else" is an error; `hexed`: the numbers of a line that ends in bytes
unfoldable pub said : List ℕ → Row → Row → Line
said verb row hexed =
    by_forms (steps_forms verb row)
    (by_forms (command_forms verb row hexed)
    (by_forms (question_forms verb row) (by_forms (change_forms verb row hexed) Error)))

-- "Empty lines and lines that begin with `#` are passed over"
unfoldable pub line_of : List ℕ → Line
line_of [] = Nothing
line_of (b ∷ bs) =
    let line = b ∷ bs in
    let words = later_words line in
    cond (eqb b 0x23) Nothing (said (first_word line) (numbers words) (numbers_before_bytes words))
