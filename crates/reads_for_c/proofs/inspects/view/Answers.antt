-- `view` answers with where things are. Assumes nothing.
use mathlib.Core.Path.{sym, ◌∙◌}
use Rattle.codes.proofs.Numbered.{number-refused, kept-refused, number-given, kept-given}
use Rattle.reads_for_c.proofs.inspects.view.Goals as goal

pub returns-in-Err : goal.returns-in-Err
returns-in-Err c =
    let a = c.args in
    let e = sym c.in-Err.is ∙ c.view.ensures.value in record {
      returned = c.number.ensures ∙ number-refused e;
      cpb0_left = kept-refused (λ v. v.cpb0) a.cpb0.now e;
      cpb1_left = kept-refused (λ v. v.cpb1) a.cpb1.now e;
      table_left = kept-refused (λ v. v.table) a.table.now e;
      pointers_left = kept-refused (λ v. v.pointers) a.pointers.now e;
    }

pub returns-in-Ok : goal.returns-in-Ok
returns-in-Ok c =
    let a = c.args in
    let e = sym c.in-Ok.is ∙ c.view.ensures.value in record {
      returned = number-given e;
      cpb0_left = kept-given (λ v. v.cpb0) a.cpb0.now e;
      cpb1_left = kept-given (λ v. v.cpb1) a.cpb1.now e;
      table_left = kept-given (λ v. v.table) a.table.now e;
      pointers_left = kept-given (λ v. v.pointers) a.pointers.now e;
    }
