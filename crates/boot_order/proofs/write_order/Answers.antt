use Rattle.std.proofs.Common.{arith, sym, ap, ◌∙◌, List, ℕ}
use Rattle.rules.specs.Table.{starts}
use Rattle.rules.specs.Copies.{order_by}
use Rattle.boot_order.proofs.BootOrder.{in_front, none_met, none_before, same_order, none_more, one_more, room_left, row_more, all_met, all_walked, counted_met, counted_walked}
use Rattle.boot_order.proofs.write_order.Goals as goal

pub loop-k-init : goal.loop-k-init
loop-k-init c =
    let end = c.free-k.result.0 in (
      none_met (starts c.args.t.now) c.args.p.now end c.free-k.ensures.free,
      none_before (starts c.args.t.now) c.args.p.now c.args.row.now end c.free-k.ensures.free,
    )

pub returns-then-at-total : goal.returns-then-at-total
returns-then-at-total c =
    let a = c.args in
    let m = c.loop-k.invariant.0 in
    let all = all_met a.t.now a.p.now c.loop-k.k c.loop-k.at m (omega arith) in
    record {
      count = counted_met a.t.now a.p.now c.loop-k.k c.loop-k.at m (omega arith);
      written = c.loop-k.invariant.1 ∙ ap (λ (o : List ℕ). in_front o a.row.now) all;
    }

pub bounds-row-at : goal.bounds-row-at
unfolding order_by
bounds-row-at c =
    let m = c.loop-k.invariant.0 in
    omega (
      arith,
      c.requires,
      c.loop-k.auto.row,
      room_left (starts c.args.t.now) c.args.p.now c.loop-k.k c.loop-k.at (omega arith) m c.in-Some.s
          (sym c.added_by.ensures ∙ c.in-Some.is),
    )

pub loop-k-preserved-in-Some : goal.loop-k-preserved-in-Some
unfolding order_by
loop-k-preserved-in-Some c =
    let a = c.args in
    let m = c.loop-k.invariant.0 in
    let adds = sym c.added_by.ensures ∙ c.in-Some.is in
    let slots = starts a.t.now in
    let room = room_left slots a.p.now c.loop-k.k c.loop-k.at (omega arith) m c.in-Some.s adds in (
      one_more slots a.p.now c.loop-k.k c.loop-k.at (omega arith) m c.in-Some.s adds,
      rw c.loop-k.invariant.1
          (row_more slots a.p.now c.loop-k.k c.loop-k.at (omega arith) m c.in-Some.s adds a.row.now
          (omega (arith, room, c.requires))),
    )

pub loop-k-preserved : goal.loop-k-preserved
loop-k-preserved c =
    let a = c.args in
    let m = c.loop-k.invariant.0 in
    let adds = sym c.added_by.ensures ∙ c.in_default.is in
    let slots = starts a.t.now in (
      none_more slots a.p.now c.loop-k.k c.loop-k.at (omega arith) m adds,
      c.loop-k.invariant.1
          ∙ ap (λ (o : List ℕ). in_front o a.row.now)
          (sym (same_order slots a.p.now c.loop-k.k c.loop-k.at (omega arith) m adds)),
    )

pub returns : goal.returns
returns c =
    let a = c.args in
    let m = c.loop-k.invariant.0 in
    let all = all_walked a.t.now a.p.now c.loop-k.k c.loop-k.at m (omega arith) in
    record {
      count = counted_walked a.t.now a.p.now c.loop-k.k c.loop-k.at m (omega arith);
      written = c.loop-k.invariant.1 ∙ ap (λ (o : List ℕ). in_front o a.row.now) all;
    }
