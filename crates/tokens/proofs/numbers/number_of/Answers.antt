-- `number_of` reads a decimal number: at each turn the word's number is that of the value so far and the bytes left.
-- Assumes nothing.
use Rattle.std.proofs.Common.{◌≡◌, ◌+◌, ◌*◌, get_or, sym, ◌∙◌, arith, add-one}
use Rattle.std.proofs.lemmas.Grind.{common_steps}
use Rattle.tokens.specs.Numbers.{digit}
use Rattle.tokens.proofs.Decimal.{number_empty, number_begins, number_no_digit, number_too_large, number_goes, number_over}
use Rattle.tokens.proofs.numbers.number_of.Goals as goal

pub returns-then-is_empty : goal.returns-then-is_empty
returns-then-is_empty c = sym (number_empty c.args.word.now (grind (arith, common_steps)))

pub loop-byte-init : goal.loop-byte-init
loop-byte-init c = number_begins c.args.word.now (grind (arith, common_steps))

pub returns-in_err-digit : goal.returns-in_err-digit
returns-in_err-digit c =
    c.from_residual.ensures
    ∙ sym
    (c.loop-byte.invariant
    ∙ number_no_digit c.args.word.now c.loop-byte.value c.loop-byte.byte-index (omega arith) c.in_err-digit.ensures.none)

pub returns-in_err-checked_mul : goal.returns-in_err-checked_mul
returns-in_err-checked_mul c =
    let read = c.in_ok-digit.ensures.some in
    c.from_residual-in_err-checked_mul.ensures
    ∙ sym
    (c.loop-byte.invariant
    ∙ number_too_large c.args.word.now c.loop-byte.value c.loop-byte.byte-index (omega arith) (omega (arith, read))
    (omega (arith, c.in_err-checked_mul.ensures)))

pub returns-in_err-value : goal.returns-in_err-value
returns-in_err-value c =
    let read = c.in_ok-digit.ensures.some in
    c.from_residual-in_err-value.ensures
    ∙ sym
    (c.loop-byte.invariant
    ∙ number_too_large c.args.word.now c.loop-byte.value c.loop-byte.byte-index (omega arith) (omega (arith, read))
    (omega (arith, read, c.in_ok-checked_mul.ensures, c.in_err-value.ensures)))

pub loop-byte-preserved : goal.loop-byte-preserved
loop-byte-preserved c =
    let read = c.in_ok-digit.ensures.some in
    let next : c.in_ok-value.value ≡ 10 * c.loop-byte.value + digit (get_or c.args.word.now c.loop-byte.byte-index 0) =
    omega (arith, read, c.in_ok-checked_mul.ensures, c.in_ok-value.ensures) in
    rw (add-one, next)
    (c.loop-byte.invariant
    ∙ number_goes c.args.word.now c.loop-byte.value c.loop-byte.byte-index (omega arith) (omega (arith, read))
    (omega (arith, read, c.in_ok-checked_mul.ensures, c.in_ok-value.ensures)))

pub returns : goal.returns
returns c =
    sym (c.loop-byte.invariant ∙ number_over c.args.word.now c.loop-byte.value c.loop-byte.byte-index (omega arith))
