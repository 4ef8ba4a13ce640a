-- `with_new_slot` is the table with a row for a new slot, where one is left. Assumes nothing.
use mathlib.Core.Path.{◌≡◌, sym, ap, ◌∙◌}
use mathlib.Core.Bool.{true}
use native.Mathlib.Omega.{arith}
use borrow.Author.Tests.{ltb-true}
use lib.Dec.{ltb}
use lib.ListN.{length}
use Rattle.rules.specs.Commands.{size_right}
use Rattle.rules.proofs.Lists.Tests.{and_true}
use Rattle.walks.specs.Entries.{most_entries}
use Rattle.walks.proofs.Joined.{failed, passed}
use Rattle.book_entries.specs.Tables.{has_row}
use borrow.Author.Rules.{rules}
use mathlib.Core.Bool.{not}
use Rattle.book_entries.proofs.with_new_slot.Goals as goal

pub start_for-start-requires : goal.start_for-start-requires
unfolding has_row
start_for-start-requires c =
    let fits : has_row c.entry_count-n.result c.args.size ≡ true = passed c.has_row.ensures (ap not c.if-not-has_row.false) in
    ((and_true (ltb c.entry_count-n.result most_entries) (size_right c.args.size) (fits)).1, omega arith)

pub put_new_row-requires : goal.put_new_row-requires
unfolding has_row
put_new_row-requires c =
    let fits : has_row c.entry_count-n.result c.args.size ≡ true = passed c.has_row.ensures (ap not c.if-not-has_row.false) in
    let size = c.args.size in
    let room = ltb-true c.entry_count-n.result most_entries
    (and_true (ltb c.entry_count-n.result most_entries) (size_right size) (fits)).0 in (
      (search rules, rw (← c.entry_count-n.ensures) room),
      (omega (arith, ap length c.new_name-name.ensures), (omega arith, search rules)),
    )

pub returns : goal.returns
returns c =
    let fits : has_row c.entry_count-n.result c.args.size ≡ true = passed c.has_row.ensures (ap not c.if-not-has_row.false) in
    c.put_new_row.ensures
    ∙ sym
    (rw (
      ← c.entry_count-n.ensures,
      fits,
      ← c.start_for-start.ensures,
      ← c.new_name-name.ensures,
    ))

pub returns-then-not-has_row : goal.returns-then-not-has_row
returns-then-not-has_row c = sym (rw (← c.entry_count-n.ensures, failed c.has_row.ensures (ap not c.if-not-has_row.true)))
