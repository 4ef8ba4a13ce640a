-- Rules 1 and 2, then the entries.
use Rattle.std.proofs.Common.{sym, ap, not, length}
use Rattle.rules.proofs.Table.Standing.{at_most_127}
use Rattle.walks.proofs.Joined.{failed, passed}
use Rattle.table.proofs.Told.{fault_1, fault_2, fault_of_entries}
use Rattle.table.proofs.table_fault.Goals as goal

pub returns-then-not-header_is_right : goal.returns-then-not-header_is_right
returns-then-not-header_is_right c =
    let a = c.args in
    rw (c.broken_at.ensures, ← c.block_at-table.ensures.0)
    (sym (fault_1 a.setting (length a.image.now) c.block_at-table.result.now
    (failed c.header_is_right.ensures (ap not c.if-not-header_is_right.true))))

pub returns-then-not-count_is_right : goal.returns-then-not-count_is_right
returns-then-not-count_is_right c =
    let rule1 = passed c.header_is_right.ensures (ap not c.if-not-header_is_right.false) in
    let a = c.args in
    rw (c.broken_at-then-not-count_is_right.ensures, ← c.block_at-table.ensures.0)
    (sym (fault_2 a.setting (length a.image.now) c.block_at-table.result.now rule1
    (failed c.count_is_right.ensures (ap not c.if-not-count_is_right.true))))

pub counted-requires : goal.counted-requires
counted-requires c =
    let rule2 = passed c.count_is_right.ensures (ap not c.if-not-count_is_right.false) in
    record { whole = c.block_at-table.ensures.1; few = at_most_127 c.block_at-table.result.now rule2 }

pub returns : goal.returns
returns c =
    let rule1 = passed c.header_is_right.ensures (ap not c.if-not-header_is_right.false) in
    let rule2 = passed c.count_is_right.ensures (ap not c.if-not-count_is_right.false) in
    let a = c.args in
    rw (
      ← c.block_at-table.ensures.0,
      fault_of_entries a.setting (length a.image.now) c.block_at-table.result.now rule1 rule2,
      c.entries_fault.ensures,
      c.counted.ensures,
    )
