-- `command_line` follows the forms from the last to the first. Assumes nothing.
use Rattle.commands.specs.declared.Command.TheVariants.{Enable, Disable, Rename, Create, Delete}
use Rattle.script_lines.specs.Text.{ascii}
use Rattle.script_lines.specs.Forms.{by_forms, command_forms}
use Rattle.script_lines.specs.declared.Line.TheVariants.{Command, Named}
use Rattle.script_lines.proofs.Forms.{slot_kept}
use Rattle.script_lines.proofs.command_line.Goals as goal

pub returns : goal.returns
unfolding by_forms command_forms
returns c =
    let a = c.args in
    let kept = slot_kept a.verb.now in
    rw (
      c.form.ensures,
      c.takes.ensures,
      c.form-line-7.ensures,
      c.takes_slot-7.ensures,
      kept (ascii "delete") a.row c.slot_of-slot.result (λ s. Command (Delete s)) c.form-line-6.result c.slot_of-slot.ensures,
      c.form-line-6.ensures,
      c.takes_slot-6.ensures,
      kept (ascii "create") a.row c.slot_of-slot.result (λ s. Command (Create s.0)) c.form-line-5.result c.slot_of-slot.ensures,
      c.form-line-5.ensures,
      c.takes_slot-5.ensures,
      kept (ascii "create") a.hexed c.slot_of-named.result (λ s. Named (Create s.0)) c.form-line-4.result c.slot_of-named.ensures,
      c.form-line-4.ensures,
      c.takes_slot-4.ensures,
      kept (ascii "rename") a.row c.slot_of-slot.result (λ s. Command (Rename s)) c.form-line-3.result c.slot_of-slot.ensures,
      c.form-line-3.ensures,
      c.takes_slot-3.ensures,
      kept (ascii "rename") a.hexed c.slot_of-named.result (λ s. Named (Rename s)) c.form-line-2.result c.slot_of-named.ensures,
      c.form-line-2.ensures,
      c.takes_slot-2.ensures,
      kept (ascii "disable") a.row c.slot_of-slot.result (λ s. Command (Disable s)) c.form-line.result c.slot_of-slot.ensures,
      c.form-line.ensures,
      c.takes_slot.ensures,
      kept (ascii "enable") a.row c.slot_of-slot.result (λ s. Command (Enable s)) a.otherwise c.slot_of-slot.ensures,
    )
