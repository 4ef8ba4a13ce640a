-- `line_of` passes a line over, or follows the forms of its words. Assumes nothing.
use mathlib.Core.Path.{sym}
use native.Mathlib.Omega.{arith}
use lib.Seq.{length-take-le}
use Rattle.script.specs.Lines.{said}
use Rattle.tokens.proofs.WordsOfLine.{first_taken}
use Rattle.script.proofs.LineForms.{empty_line, remark, said_line}
use Rattle.script.proofs.line_of.Goals as goal

pub returns : goal.returns
unfolding said
returns c =
    let line = c.args.line.now in
    rw (
      c.steps_line.ensures,
      c.command_line-said.ensures,
      c.question_line-said.ensures,
      c.change_line-said.ensures,
      c.numbers_before_bytes-hexed.ensures,
      c.numbers_of-row.ensures,
      first_taken line c.length_before-end.result c.length_before-end.ensures.0,
    )
    (said_line line (omega arith) c.if-line-eq35.false)

pub returns-then-line-eq0 : goal.returns-then-line-eq0
returns-then-line-eq0 c = empty_line c.args.line.now c.if-line-eq0.true

pub returns-then-line-eq35 : goal.returns-then-line-eq35
returns-then-line-eq35 c = remark c.args.line.now (omega arith) c.if-line-eq35.true

pub slice_bounds-verb-end : goal.slice_bounds-verb-end
slice_bounds-verb-end c = sym (length-take-le _ _ c.length_before-end.ensures.1)
