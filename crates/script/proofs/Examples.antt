-- Lines that a reader can check by hand: what each does. Assumes nothing.
use mathlib.Core.Path.{◌≡◌, refl}
use mathlib.Core.List.{List, [], ◌∷◌, map}
use Prim.Native.String.{String}
use Rattle.rules.specs.Lists.{same, all}
use Rattle.script_lines.specs.Text.{ascii}
use Rattle.names.specs.Before.{before}
use Rattle.tokens.specs.Words.{later_words}
use Rattle.answer_parts.specs.Hex.{hex_value, is_bytes}
use Rattle.tokens.specs.Numbers.{digit, number_from, number, numbers, numbers_before_bytes}
use Rattle.script_lines.specs.Forms.{
  takes,
  takes_slot,
  takes_ranges,
  by_forms,
  change_forms,
  question_forms,
  command_forms,
  steps_forms,
}
use Rattle.script.specs.Lines.{said, line_of}
use Rattle.script_lines.specs.declared.Line.TheVariants.{Nothing, Change, Question, Command, Named, Steps, Error}
use Rattle.script_lines.specs.declared.Change.TheVariants.{Image, Put}
use Rattle.script_lines.specs.declared.Question.TheVariants.{Order, Listing}
use Rattle.commands.specs.declared.Command.TheVariants.{Rename}
use Rattle.script_lines.specs.declared.Steps.TheVariants.{Cut, Torn}

abbrev pub lines : List String
lines =
    "# any"
    ∷ "order"
    ∷ "order 508"
    ∷ "order 509"
    ∷ "list"
    ∷ "list 1"
    ∷ "image 65536 0255"
    ∷ "put 16 4a4b"
    ∷ "put 16 4a4"
    ∷ "rename 3 4a4b"
    ∷ "rename 3"
    ∷ "rename 4294967296"
    ∷ "cut 5"
    ∷ "cut  5"
    ∷ "cut 5 100"
    ∷ "cut 5 100 "
    ∷ "torn 5"
    ∷ "torn 5 0 4"
    ∷ "torn 5 0 4 8"
    ∷ "torn 5 0 4 8 16"
    ∷ []

pub lines_do : map (λ (line : String). line_of (ascii line)) lines
    ≡ Nothing
    ∷ Question (Order 127)
    ∷ Question (Order 508)
    ∷ Error
    ∷ Question Listing
    ∷ Error
    ∷ Change (Image 65536 255)
    ∷ Change (Put 16)
    ∷ Error
    ∷ Named (Rename (record { 0 = 3 }))
    ∷ Command (Rename (record { 0 = 3 }))
    ∷ Error
    ∷ Steps (Cut 5 0)
    ∷ Error
    ∷ Steps (Cut 5 100)
    ∷ Error
    ∷ Error
    ∷ Steps (Torn 5 1)
    ∷ Error
    ∷ Steps (Torn 5 2)
    ∷ []
unfolding same all before later_words hex_value is_bytes digit number_from number numbers numbers_before_bytes takes takes_slot takes_ranges by_forms change_forms question_forms command_forms steps_forms said line_of
lines_do = refl
