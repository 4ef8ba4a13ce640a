-- `table_faults` answers with the faults of both table copies. Assumes nothing.
use mathlib.Core.Path.{sym, ◌∙◌}
use Rattle.codes.specs.Judged.{fault_rule, fault_entry}
use Rattle.codes.proofs.Numbered.{number-refused, kept-refused, number-given, kept-given}
use Rattle.reads_for_c.proofs.inspects.table_faults.Goals as goal

pub returns-in-Err : goal.returns-in-Err
returns-in-Err c =
    let a = c.args in
    let e = sym c.in-Err.is ∙ c.table_faults.ensures in record {
      returned = c.number.ensures ∙ number-refused e;
      rule0_left = kept-refused (λ f. fault_rule f.fault0) a.rule0.now e;
      entry0_left = kept-refused (λ f. fault_entry f.fault0) a.entry0.now e;
      rule1_left = kept-refused (λ f. fault_rule f.fault1) a.rule1.now e;
      entry1_left = kept-refused (λ f. fault_entry f.fault1) a.entry1.now e;
    }

pub returns-in-Ok : goal.returns-in-Ok
returns-in-Ok c =
    let a = c.args in
    let e = sym c.in-Ok.is ∙ c.table_faults.ensures in record {
      returned = number-given e;
      rule0_left = c.fault_code-first.ensures.rule ∙ kept-given (λ f. fault_rule f.fault0) a.rule0.now e;
      entry0_left = c.fault_code-first.ensures.entry ∙ kept-given (λ f. fault_entry f.fault0) a.entry0.now e;
      rule1_left = c.fault_code-second.ensures.rule ∙ kept-given (λ f. fault_rule f.fault1) a.rule1.now e;
      entry1_left = c.fault_code-second.ensures.entry ∙ kept-given (λ f. fault_entry f.fault1) a.entry1.now e;
    }
