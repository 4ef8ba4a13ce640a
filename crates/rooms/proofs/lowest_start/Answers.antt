-- `lowest_start` goes from candidate to candidate. The loop's invariant: a is a multiple of 4,096 in the image, and none
-- below it may be the start. Assumes nothing.
use mathlib.Core.Path.{◌≡◌, sym, ◌∙◌}
use mathlib.Core.Bool.{true}
use mathlib.Core.List.{List}
use Prim.Native.Nat.{ℕ, ◌+◌, ◌-◌, ◌≤◌, ◌<◌}
use native.Mathlib.Omega.{arith}
use lib.Dec.{ltb}
use borrow.Author.Tests.{le-leb, ltb-true, ltb-false}
use Rattle.rules.specs.Lists.{all}
use Rattle.rules.specs.Numbers.{longest}
use Rattle.rules.specs.Table.{Entry, range_inside}
use Rattle.rules.specs.Pointers.{places}
use Rattle.rules.proofs.Lists.Tests.{by_cases}
use Rattle.rules.proofs.Lists.Combinators.{all_weaker}
use Rattle.rules.proofs.Table.Standing.{ends_inside}
use Rattle.rules.proofs.Table.StartRule.{search_finds, search_fails}
use Rattle.rooms.specs.Inner.Candidates.{Placed}
use Rattle.rooms.proofs.Candidates.{first_candidate, next_rises, next_is_candidate, stays_may}
use Rattle.rooms.proofs.lowest_start.Goals as goal

-- a candidate that is another one comes nearer to the image's end
falls : (a b len : ℕ) → a ≤ b → (b ≡ a → ⊥) → b ≤ len → len - b < len - a
falls a b len up other inside =
    by_cases (ltb a b)
    (λ t. omega (arith, ltb-true a b t))
    (λ t. absurd (other (omega (arith, ltb-false a b t))))

-- what lies inside the image lies inside the longest one
in_longest : (len : ℕ) (es : List Entry) → Placed len es → all (range_inside longest) es ≡ true
in_longest len es placed =
    all_weaker (range_inside len) (range_inside longest)
    (λ e h. unfold range_inside in le-leb (e.start + e.size) longest (omega (arith, ends_inside len e h, placed.short)))
    es placed.inside

pub loop-a-init : goal.loop-a-init
loop-a-init c =
    let a = c.args in
    first_candidate a.len a.entries.now (places a.p.now) a.size c.requires.1.0 c.requires.0

pub overflow_add-a : goal.overflow_add-a
overflow_add-a c =
    omega (arith, c.loop-a.invariant.inside, c.requires.0.short, c.requires.1.1)

pub next_candidate-b-requires : goal.next_candidate-b-requires
next_candidate-b-requires c =
    let a = c.args in
    let placed = c.requires.0 in
    (in_longest a.len a.entries.now placed, (omega (arith, c.loop-a.invariant.inside, placed.short), c.requires.1.1))

pub returns-then-b-a : goal.returns-then-b-a
returns-then-b-a c =
    let a = c.args in
    let es = a.entries.now in
    let ps = places a.p.now in
    let k = c.loop-a.invariant in
    sym (search_finds a.len es ps a.size c.requires.1.0 c.loop-a.a k.aligned k.none
    (stays_may a.len es ps a.size c.requires.1.0 c.requires.0 c.loop-a.a (omega arith)
    (sym c.next_candidate-b.ensures ∙ c.if-b-a.true)))

pub loop-a-smaller : goal.loop-a-smaller
loop-a-smaller c =
    let a = c.args in
    let es = a.entries.now in
    let ps = places a.p.now in
    let up = next_rises a.len es ps a.size c.requires.1.0 c.requires.0 c.loop-a.a in
    let next = next_is_candidate a.len es ps a.size c.requires.1.0 c.requires.0 c.loop-a.a c.loop-a.invariant
    (omega arith) in
    falls c.loop-a.a c.next_candidate-b.result a.len (rw (← c.next_candidate-b.ensures) at up)
    c.if-b-a.false (omega (arith, next.inside, c.next_candidate-b.ensures))

pub loop-a-preserved : goal.loop-a-preserved
loop-a-preserved c =
    let a = c.args in
    let es = a.entries.now in
    let ps = places a.p.now in
    rw c.next_candidate-b.ensures
    (next_is_candidate a.len es ps a.size c.requires.1.0 c.requires.0 c.loop-a.a c.loop-a.invariant
    (omega arith))

pub returns : goal.returns
returns c =
    let a = c.args in
    sym (search_fails a.len a.entries.now (places a.p.now) a.size c.requires.1.0 c.loop-a.a
    c.loop-a.invariant.none (omega arith))
