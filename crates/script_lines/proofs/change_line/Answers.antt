-- `change_line` follows the forms from the last to the first. Assumes nothing.
use Rattle.script_lines.specs.Text.{ascii}
use Rattle.script_lines.specs.Forms.{takes, by_forms, change_forms}
use Rattle.script_lines.specs.declared.Line.TheVariants.{Change}
use Rattle.script_lines.specs.declared.Change.TheVariants.{Image}
use Rattle.script_lines.proofs.Forms.{kept}
use Rattle.script_lines.proofs.change_line.Goals as goal

pub returns : goal.returns
unfolding by_forms change_forms
returns c =
    let a = c.args in
    rw (
      c.form.ensures,
      c.takes-5.ensures,
      c.form-line-4.ensures,
      c.takes-4.ensures,
      c.form-line-3.ensures,
      c.takes-3.ensures,
      c.form-line-2.ensures,
      c.takes-2.ensures,
      c.form-line.ensures,
      c.takes.ensures,
      kept (takes a.verb.now (ascii "image") a.row 2) a.row.second 255 c.byte_of.result
          (λ b. Change (Image a.row.first b)) a.otherwise c.byte_of.ensures,
    )
