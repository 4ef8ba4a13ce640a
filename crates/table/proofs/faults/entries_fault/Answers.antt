-- One law for each exit, from what the searches before it found.
use Rattle.std.proofs.Common.{rules, sym, ◌∙◌}
use Rattle.rules.specs.Table.{name_right, range_aligned, range_inside}
use Rattle.rules.specs.Table.{names_differ}
use Rattle.rules.proofs.Lists.FirstBroken.{none_clashes}
use Rattle.table.proofs.Told.{kept, fault_3, fault_4, fault_5, fault_6, fault_7, fault_of_six}
use Rattle.table.proofs.faults.entries_fault.Goals as goal

pub returns-in-Some : goal.returns-in-Some
returns-in-Some c =
    c.broken_at.ensures
    ∙ sym (fault_3 c.args.setting c.args.len c.args.entries.now (c.first_failing.ensures name_right (search rules)) c.in-Some.is)

pub returns-in-Some-first_same : goal.returns-in-Some-first_same
returns-in-Some-first_same c =
    c.broken_at-in-Some-first_same.ensures
    ∙ sym (fault_4 c.args.setting c.args.len c.args.entries.now (c.first_failing.ensures name_right (search rules)) c.in_default.not-Some c.first_same.ensures c.in-Some-first_same.is)

pub returns-in-Some-first_failing : goal.returns-in-Some-first_failing
returns-in-Some-first_failing c =
    c.broken_at-in-Some-first_failing.ensures
    ∙ sym (fault_5 c.args.setting c.args.len c.args.entries.now (c.first_failing.ensures name_right (search rules)) c.in_default.not-Some c.first_same.ensures c.in_default-first_same.not-Some (c.first_failing-2.ensures range_aligned (search rules)) c.in-Some-first_failing.is)

pub returns-in-Some-first_failing-2 : goal.returns-in-Some-first_failing-2
returns-in-Some-first_failing-2 c =
    c.broken_at-in-Some-first_failing-2.ensures
    ∙ sym (fault_6 c.args.setting c.args.len c.args.entries.now (c.first_failing.ensures name_right (search rules)) c.in_default.not-Some c.first_same.ensures c.in_default-first_same.not-Some (c.first_failing-2.ensures range_aligned (search rules)) c.in_default-first_failing.not-Some (c.first_failing-3.ensures (range_inside c.args.len) (search rules)) c.in-Some-first_failing-2.is)

pub returns-in-Some-first_overlap : goal.returns-in-Some-first_overlap
returns-in-Some-first_overlap c =
    c.broken_at-in-Some-first_overlap.ensures
    ∙ sym (fault_7 c.args.setting c.args.len c.args.entries.now (c.first_failing.ensures name_right (search rules)) c.in_default.not-Some c.first_same.ensures c.in_default-first_same.not-Some (c.first_failing-2.ensures range_aligned (search rules)) c.in_default-first_failing.not-Some (c.first_failing-3.ensures (range_inside c.args.len) (search rules)) c.in_default-first_failing-2.not-Some c.first_overlap.ensures c.in-Some-first_overlap.is)

pub six_fault-requires-clause-names : goal.six_fault-requires-clause-names
six_fault-requires-clause-names c = kept c.first_same.ensures (none_clashes names_differ c.args.entries.now) c.in_default-first_same.not-Some

pub returns : goal.returns
returns c = c.six_fault.ensures ∙ sym (fault_of_six c.args.setting c.args.len c.args.entries.now (c.first_failing.ensures name_right (search rules)) c.in_default.not-Some c.first_same.ensures c.in_default-first_same.not-Some (c.first_failing-2.ensures range_aligned (search rules)) c.in_default-first_failing.not-Some (c.first_failing-3.ensures (range_inside c.args.len) (search rules)) c.in_default-first_failing-2.not-Some c.first_overlap.ensures c.in_default-first_overlap.not-Some)
