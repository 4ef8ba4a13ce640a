-- `copies` answers with which copies stand and which pairs agree. Assumes nothing.
use mathlib.Core.Path.{sym, ◌∙◌}
use Rattle.codes.specs.Judged.{bit}
use Rattle.codes.proofs.Numbered.{number-refused, kept-refused, number-given, kept-given}
use Rattle.reads_for_c.proofs.inspects.copies.Goals as goal

pub returns-in-Err : goal.returns-in-Err
returns-in-Err c =
    let a = c.args in
    let e = sym c.in-Err.is ∙ c.condition_of.ensures in record {
      returned = c.number.ensures ∙ number-refused e;
      table0_left = kept-refused (λ k. bit k.spt0) a.table0.now e;
      table1_left = kept-refused (λ k. bit k.spt1) a.table1.now e;
      pointers0_left = kept-refused (λ k. bit k.cpb0) a.pointers0.now e;
      pointers1_left = kept-refused (λ k. bit k.cpb1) a.pointers1.now e;
      tables_left = kept-refused (λ k. bit k.tables) a.tables.now e;
      pointers_left = kept-refused (λ k. bit k.pointers) a.pointers.now e;
    }

pub returns-in-Ok : goal.returns-in-Ok
returns-in-Ok c =
    let bits = c.bits_of-bits.ensures in
    let a = c.args in
    let e = sym c.in-Ok.is ∙ c.condition_of.ensures in record {
      returned = number-given e;
      table0_left = bits.spt0 ∙ kept-given (λ k. bit k.spt0) a.table0.now e;
      table1_left = bits.spt1 ∙ kept-given (λ k. bit k.spt1) a.table1.now e;
      pointers0_left = bits.cpb0 ∙ kept-given (λ k. bit k.cpb0) a.pointers0.now e;
      pointers1_left = bits.cpb1 ∙ kept-given (λ k. bit k.cpb1) a.pointers1.now e;
      tables_left = bits.tables ∙ kept-given (λ k. bit k.tables) a.tables.now e;
      pointers_left = bits.pointers ∙ kept-given (λ k. bit k.pointers) a.pointers.now e;
    }
