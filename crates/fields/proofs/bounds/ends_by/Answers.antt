-- A difference that does not wrap is compared in place of a sum.
use Rattle.std.proofs.Common.{sym, ◌+◌, ◌-◌, arith}
use borrow.Author.Tests.{lt-leb}
use Rattle.walks.proofs.Joined.{leb_cong}
use Rattle.fields.proofs.bounds.ends_by.Goals as goal

pub returns-then-bound-start : goal.returns-then-bound-start
returns-then-bound-start c =
    let a = c.args in
    sym (lt-leb (a.start + a.size) a.bound (omega arith))

pub returns : goal.returns
returns c =
    let a = c.args in
    leb_cong a.size (a.bound - a.start) (a.start + a.size) a.bound (λ h. omega arith) (λ h. omega arith)
