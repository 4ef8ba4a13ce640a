-- `steps_line` follows the forms from the last to the first. Assumes nothing.
use Rattle.script_lines.specs.Forms.{by_forms, steps_forms}
use Rattle.script_lines.proofs.steps_line.Goals as goal

pub returns : goal.returns
unfolding by_forms steps_forms
returns c =
    rw (
      c.form.ensures,
      c.takes_ranges.ensures,
      c.form-line-3.ensures,
      c.takes-3.ensures,
      c.form-line-2.ensures,
      c.takes-2.ensures,
      c.form-line.ensures,
      c.takes.ensures,
    )
