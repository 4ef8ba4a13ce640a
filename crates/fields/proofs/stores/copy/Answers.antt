-- `copy` puts the bytes given at an offset, one after the other.
use Rattle.std.proofs.Common.{◌≡◌, ap, ◌∙◌, ℕ, ◌+◌, List, length, get_or, rules, add-one, arith}
use lib.ListN.{set, length-set}
use lib.Seq.{paste-zero, paste-suc}
use Rattle.fields.proofs.Stored.{pasted_at}
use Rattle.fields.proofs.stores.copy.Goals as goal

pub loop-i-init : goal.loop-i-init
loop-i-init c = (search rules, paste-zero c.args.out.now c.args.at c.args.given.now)

pub loop-i-preserved : goal.loop-i-preserved
loop-i-preserved c =
    let a = c.args in
    let i = c.loop-i.i in (
      simp length-set c.loop-i.invariant.0,
      rw add-one
          (ap (λ (x : List ℕ). set x (a.at + i) (get_or a.given.now i 0)) c.loop-i.invariant.1
          ∙ paste-suc a.out.now a.at a.given.now i 0 (omega arith) (omega arith)),
    )

pub returns : goal.returns
returns c =
    let a = c.args in
    let all : c.loop-i.i ≡ length a.given.now = omega arith in
    (rw all at c.loop-i.invariant.1) ∙ pasted_at a.out.now a.at a.given.now
