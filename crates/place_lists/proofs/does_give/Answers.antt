use mathlib.Core.Path.{sym}
use borrow.Author.Tests.{ne_eqb}
use Rattle.rules.specs.Table.{starts}
use Rattle.place_lists.proofs.Walking.{other_value}
use Rattle.place_lists.proofs.does_give.Goals as goal

pub returns-else-v-start : goal.returns-else-v-start
returns-else-v-start c =
    let a = c.args in
    let other = other_value (starts a.t.now) a.slot.0 c.value-v.result a.start c.requires.begins c.if-v-start.false in
    rw (ne_eqb c.value-v.result a.start c.if-v-start.false) (sym (rw c.value-v.ensures at other))
