-- `question_line` follows the forms from the last to the first. Assumes nothing.
use Rattle.script_lines.specs.Text.{ascii}
use Rattle.script_lines.specs.Forms.{by_forms, question_forms}
use Rattle.script_lines.specs.declared.Line.TheVariants.{Question}
use Rattle.script_lines.specs.declared.Question.TheVariants.{Slot}
use Rattle.script_lines.proofs.Forms.{slot_kept}
use Rattle.script_lines.proofs.question_line.Goals as goal

pub returns : goal.returns
unfolding by_forms question_forms
returns c =
    let a = c.args in
    rw (
      c.form.ensures,
      c.takes-6.ensures,
      c.form-line-6.ensures,
      c.takes-5.ensures,
      c.form-line-5.ensures,
      c.takes-4.ensures,
      c.form-line-4.ensures,
      c.takes_slot.ensures,
      slot_kept a.verb.now (ascii "slot") a.row c.slot_of.result (λ s. Question (Slot s)) c.form-line-3.result
          c.slot_of.ensures,
      c.form-line-3.ensures,
      c.takes-3.ensures,
      c.form-line-2.ensures,
      c.takes.ensures,
      c.form-line.ensures,
      c.takes-2.ensures,
    )
