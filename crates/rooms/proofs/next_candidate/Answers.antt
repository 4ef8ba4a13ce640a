-- `next_candidate` is the candidate where it may be the start, else the next one. Assumes nothing.
use mathlib.Core.Path.{◌≡◌, sym, ◌∙◌}
use mathlib.Core.Bool.{false}
use Prim.Native.Nat.{ℕ, ◌≤◌}
use native.Mathlib.Omega.{arith}
use borrow.Author.Tests.{eq-eqb, ne_eqb}
use Rattle.rules.specs.Numbers.{longest}
use Rattle.rules.specs.Pointers.{erased_value, all_ones}
use Rattle.rooms.specs.Inner.Candidates.{next_candidate}
use Rattle.rooms.proofs.next_candidate.Goals as goal

-- an address in an image is not the value of an erased place
not_erased : (a : ℕ) → a ≤ longest → all_ones a ≡ false
unfolding all_ones
not_erased a l = ne_eqb a erased_value (λ e. omega arith)

pub returns-then-b-a : goal.returns-then-b-a
unfolding next_candidate
returns-then-b-a c =
    let a = c.args in
    c.raised-b.ensures ∙ sym (rw (ne_eqb _ a.a (λ e. c.if-b-a.true (c.raised-b.ensures ∙ e))))

pub held-requires : goal.held-requires
held-requires c =
    not_erased c.args.a c.requires.1.0

pub returns-then-held : goal.returns-then-held
unfolding next_candidate
returns-then-held c =
    let a = c.args in
    sym (rw (
      eq-eqb _ a.a (sym c.raised-b.ensures ∙ c.if-b-a.false),
      sym c.held.ensures ∙ c.if-held.true,
    ))

pub returns : goal.returns
unfolding next_candidate
returns c =
    let a = c.args in
    sym (rw (
      eq-eqb _ a.a (sym c.raised-b.ensures ∙ c.if-b-a.false),
      sym c.held.ensures ∙ c.if-held.false,
    ))
