use Rattle.std.proofs.Common.{rules, sym, ap, not, ◌∙◌, arith, length}
use Rattle.walks.proofs.Joined.{failed, passed}
use Rattle.book_entries.proofs.Blocks.{has_entries, few_entries, row_there, row_below, named_already, named_now}
use Rattle.book_entries.proofs.renamed.Goals as goal

pub returns-then-not-has_slot : goal.returns-then-not-has_slot
returns-then-not-has_slot c = sym (rw (failed c.has_slot.ensures (ap not c.if-not-has_slot.true)))

pub entry_of-e-requires : goal.entry_of-e-requires
entry_of-e-requires c = passed c.has_slot.ensures (ap not c.if-not-has_slot.false)

pub counted-requires : goal.counted-requires
counted-requires c = has_entries _ _ (passed c.has_slot.ensures (ap not c.if-not-has_slot.false)) (search rules)

pub get-requires : goal.get-requires
get-requires c =
    let there = row_there _ _ (passed c.has_slot.ensures (ap not c.if-not-has_slot.false)) c.entry_of-e.ensures in
    omega (arith, there, ap length c.counted.ensures)

pub returns-then-has_name : goal.returns-then-has_name
returns-then-has_name c =
    named_already _ _ (passed c.has_slot.ensures (ap not c.if-not-has_slot.false)) c.entry_of-e.ensures
    (rw (c.new_name-name.ensures, c.get.ensures, c.counted.ensures) at (sym c.has_name.ensures ∙ c.if-has_name.true))

pub put_name-requires : goal.put_name-requires
put_name-requires c =
    let has = passed c.has_slot.ensures (ap not c.if-not-has_slot.false) in (
      (search rules, omega (arith, row_below _ _ has c.entry_of-e.ensures, few_entries _ _ has)),
      (omega (arith, ap length c.new_name-name.ensures), search rules),
    )

pub returns : goal.returns
returns c =
    c.put_name.ensures
    ∙ rw c.new_name-name.ensures
    (named_now _ _ (passed c.has_slot.ensures (ap not c.if-not-has_slot.false)) c.entry_of-e.ensures
    (rw (c.new_name-name.ensures, c.get.ensures, c.counted.ensures) at (sym c.has_name.ensures ∙ c.if-has_name.false)))
