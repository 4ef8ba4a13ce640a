-- `place` answers with what a place holds. Assumes nothing.
use mathlib.Core.Path.{sym, ◌∙◌}
use Rattle.codes.specs.Judged.{place_kind, place_slot}
use Rattle.codes.proofs.Numbered.{number-refused, kept-refused, number-given, kept-given}
use Rattle.reads_for_c.proofs.inspects.place.Goals as goal

pub returns-in-Err : goal.returns-in-Err
returns-in-Err c =
    let a = c.args in
    let e = sym c.in-Err.is ∙ c.place_at.ensures in record {
      returned = c.number.ensures ∙ number-refused e;
      kind_left = kept-refused (λ h. place_kind h.judgement) a.kind.now e;
      slot_left = kept-refused (λ h. place_slot h.judgement) a.slot.now e;
      value_left = kept-refused (λ h. h.value) a.value.now e;
    }

pub returns-in-Ok : goal.returns-in-Ok
returns-in-Ok c =
    let a = c.args in
    let e = sym c.in-Ok.is ∙ c.place_at.ensures in record {
      returned = number-given e;
      kind_left = c.place_code-code.ensures.kind ∙ kept-given (λ h. place_kind h.judgement) a.kind.now e;
      slot_left = c.place_code-code.ensures.slot ∙ kept-given (λ h. place_slot h.judgement) a.slot.now e;
      value_left = kept-given (λ h. h.value) a.value.now e;
    }
