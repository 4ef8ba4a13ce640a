-- `slot_facts` answers with what is known of a slot. Assumes nothing.
use mathlib.Core.Path.{sym, ◌∙◌}
use Rattle.codes.proofs.Numbered.{number-refused, kept-refused, number-given, kept-given}
use Rattle.reads_for_c.proofs.reads.slot_facts.Goals as goal

pub returns-in-Err : goal.returns-in-Err
returns-in-Err c =
    let a = c.args in
    let e = sym c.in-Err.is ∙ c.slot_info.ensures in record {
      returned = c.number.ensures ∙ number-refused e;
      entry_left = kept-refused (λ f. f.entry.0) a.entry.now e;
      start_left = kept-refused (λ f. f.start) a.start.now e;
      size_left = kept-refused (λ f. f.size) a.size.now e;
      flags_left = kept-refused (λ f. f.flags) a.flags.now e;
    }

pub returns-in-Ok : goal.returns-in-Ok
returns-in-Ok c =
    let a = c.args in
    let e = sym c.in-Ok.is ∙ c.slot_info.ensures in record {
      returned = number-given e;
      entry_left = kept-given (λ f. f.entry.0) a.entry.now e;
      start_left = kept-given (λ f. f.start) a.start.now e;
      size_left = kept-given (λ f. f.size) a.size.now e;
      flags_left = kept-given (λ f. f.flags) a.flags.now e;
    }
