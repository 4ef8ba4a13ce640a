-- The entries from i on raise a to where all raise the start.
use Rattle.std.proofs.Common.{◌≡◌, sym, ◌∙◌, true, List, ℕ, ◌+◌, ◌<◌, arith, length, get_or, drop, drop_of_length-le}
use Rattle.rules.specs.Lists.{all}
use Rattle.rules.specs.Numbers.{longest}
use Rattle.rules.specs.Table.{Entry, no_entry, range_inside}
use Rattle.rules.proofs.Lists.Tests.{and_true}
use Rattle.rules.proofs.Table.Standing.{ends_inside}
use Rattle.entries.proofs.Turns.{turn}
use Rattle.rooms.specs.Inner.Candidates.{raised}
use Rattle.rooms.proofs.Candidates.{by_inside}
use Rattle.rooms.proofs.raised.Goals as goal

-- the entry here, and those after it
here_and_after : (es : List Entry) (i : ℕ) → i < length es → all (range_inside longest) (drop i es) ≡ true
    → (range_inside longest (get_or es i no_entry) ≡ true) × (all (range_inside longest) (drop (i + 1) es) ≡ true)
unfolding all
here_and_after es i l h = and_true (range_inside longest (get_or es i no_entry)) _ (rw (turn es i l) at h)

pub raised_by-a-requires : goal.raised_by-a-requires
raised_by-a-requires c =
    let es = c.args.entries.now in
    let inside = (here_and_after es c.loop-i.i (omega arith) c.loop-i.invariant.1).0 in
    rw c.get.ensures (ends_inside longest (get_or es c.loop-i.i no_entry) inside, (c.loop-i.invariant.0.1, c.requires.1.1))

pub loop-i-preserved : goal.loop-i-preserved
unfolding raised
loop-i-preserved c =
    let es = c.args.entries.now in
    let next = turn es c.loop-i.i (omega arith) in
    let (here, after) = here_and_after es c.loop-i.i (omega arith) c.loop-i.invariant.1 in
    let e = rw c.get.ensures at c.raised_by-a.ensures in (
      (
        c.loop-i.invariant.0.0 ∙ rw (next, e),
        rw e (by_inside c.args.size longest (get_or es c.loop-i.i no_entry) c.loop-i.a here c.loop-i.invariant.0.1),
      ),
      after,
    )

pub returns : goal.returns
unfolding raised
returns c = sym (c.loop-i.invariant.0.0 ∙ rw (drop_of_length-le c.args.entries.now {i = c.loop-i.i} (omega arith)))
