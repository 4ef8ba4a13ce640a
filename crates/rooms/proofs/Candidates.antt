-- The search for the start of a new slot: a candidate only rises, no multiple of 4,096 that it passes may be the start,
-- and where it stays it may. Assumes nothing.
use mathlib.Core.Path.{◌≡◌, refl}
use mathlib.Core.Bool.{true, false, not, ◌&&◌}
use mathlib.Core.List.{List, [], ◌∷◌}
use Prim.Native.Nat.{ℕ, ◌+◌, ◌%◌, ◌≤◌, ◌<◌}
use native.Mathlib.Omega.{arith}
use lib.Dec.{eqb, leb, ltb}
use borrow.Author.Tests.{eqb-true, eqb-false, eq-eqb, leb-true, leb-false, le-leb, ltb-true, ltb-false, not-true}
use Rattle.rules.specs.Lists.{member, all}
use Rattle.rules.specs.Bytes.{block_size, multiple}
use Rattle.rules.specs.Table.{Entry, range_aligned, range_inside, ranges_apart}
use Rattle.rules.specs.Commands.{new_range, may_start, size_right}
use Rattle.rules.proofs.Lists.Tests.{by_cases, clash, and_true, both_true, or_false}
use Rattle.rules.proofs.Table.Standing.{ends_inside}
use Rattle.rules.proofs.Table.StartRule.{next_multiple, size_at_least, NoneBelow}
use Rattle.rooms.specs.Inner.Candidates.{raised_by, raised, next_candidate, Placed}

-- ---- one entry

-- a range from a overlaps the entry
abbrev Overlaps : ℕ → Entry → ℕ → Type 0
Overlaps size e a = (e.start < a + size) × (a < e.start + e.size)

overlapping : (size : ℕ) (e : Entry) (a : ℕ) → ranges_apart (new_range a size) e ≡ false → Overlaps size e a
unfolding ranges_apart new_range
overlapping size e a h =
    let (p, q) = or_false (leb (a + size) e.start) (leb (e.start + e.size) a) h in
    (omega (arith, leb-false (a + size) e.start p), omega (arith, leb-false (e.start + e.size) a q))

-- from every address between a and the entry's end it overlaps too
still_overlapping : (size : ℕ) (e : Entry) (a b : ℕ)
    → Overlaps size e a
    → a ≤ b
    → b < e.start + e.size
    → ranges_apart (new_range b size) e ≡ true
    → ⊥
unfolding ranges_apart new_range
still_overlapping size e a b (p, q) low high t =
    by_cases (leb (b + size) e.start)
    (λ u. omega (arith, leb-true (b + size) e.start u))
    (λ u. omega (arith, leb-true (e.start + e.size) b (rw u at t)))

end_aligned : (e : Entry) → range_aligned e ≡ true → multiple block_size (e.start + e.size) ≡ true
unfolding range_aligned multiple
end_aligned e h =
    let (p, _) = and_true (eqb (e.start % block_size) 0 && eqb (e.size % block_size) 0) _ h in
    let (q, r) = and_true (eqb (e.start % block_size) 0) (eqb (e.size % block_size) 0) p in
    eq-eqb ((e.start + e.size) % block_size) 0
    (omega (arith, eqb-true (e.start % block_size) 0 q, eqb-true (e.size % block_size) 0 r))

module _ (size : ℕ) where
  by_rises : (e : Entry) (a : ℕ) → a ≤ raised_by size e a
  unfolding raised_by
  by_rises e a =
      by_cases (ranges_apart (new_range a size) e)
      (λ t. rw t (omega arith))
      (λ t. rw t (omega (arith, (overlapping size e a t).1)))

  pub by_inside : (len : ℕ) (e : Entry) (a : ℕ) → range_inside len e ≡ true → a ≤ len → raised_by size e a ≤ len
  unfolding raised_by
  by_inside len e a h l =
      by_cases (ranges_apart (new_range a size) e) (λ t. rw t l) (λ t. rw t (ends_inside len e h))

  -- ---- one entry after the other

  pub rises : (es : List Entry) (a : ℕ) → a ≤ raised size es a
  unfolding raised
  rises [] a = omega arith
  rises (e ∷ es) a = omega (arith, by_rises e a, rises es (raised_by size e a))

  pub stays_inside : (len : ℕ) (es : List Entry) (a : ℕ)
      → all (range_inside len) es ≡ true
      → a ≤ len
      → raised size es a ≤ len
  unfolding all raised
  stays_inside len [] a h l = l
  stays_inside len (e ∷ es) a h l =
      let (p, q) = and_true (range_inside len e) (all (range_inside len) es) h in
      stays_inside len es (raised_by size e a) q (by_inside len e a p l)

  stays_aligned : (es : List Entry) (a : ℕ)
      → all range_aligned es ≡ true
      → multiple block_size a ≡ true
      → multiple block_size (raised size es a) ≡ true
  unfolding all raised raised_by
  stays_aligned [] a h m = m
  stays_aligned (e ∷ es) a h m =
      let (p, q) = and_true (range_aligned e) (all range_aligned es) h in
      stays_aligned es (raised_by size e a) q
      (by_cases (ranges_apart (new_range a size) e) (λ t. rw t m) (λ t. rw t (end_aligned e p)))

  -- where it is not raised it overlaps none
  not_raised : (es : List Entry) (a : ℕ) → raised size es a ≡ a → all (ranges_apart (new_range a size)) es ≡ true
  unfolding all raised raised_by
  not_raised [] a h = refl
  not_raised (e ∷ es) a h =
      by_cases (ranges_apart (new_range a size) e)
      (λ t. both_true (ranges_apart (new_range a size) e) (all (ranges_apart (new_range a size)) es) t
      (not_raised es a (rw t at h)))
      (λ t. absurd (omega (arith, (overlapping size e a t).1, rises es (e.start + e.size), rw t at h)))

  -- what is passed may not be the start, by the entries of a list that holds these
  module _ (P : ℕ → Type 0) where
    none_passed : (es : List Entry) (a : ℕ)
        → ((b : ℕ) → P b → all (ranges_apart (new_range b size)) es ≡ true)
        → (b : ℕ)
        → P b
        → a ≤ b
        → b < raised size es a
        → ⊥
    unfolding all raised raised_by
    none_passed [] a apart b p low high = omega arith
    none_passed (e ∷ es) a apart b p low high =
        let (here, later) = and_true (ranges_apart (new_range b size) e) _ (apart b p) in
        let others : (c : ℕ) → P c → all (ranges_apart (new_range c size)) es ≡ true =
        λ c q. (and_true (ranges_apart (new_range c size) e) _ (apart c q)).1 in
        by_cases (ranges_apart (new_range a size) e)
        (λ t. none_passed es a others b p low (rw t at high))
        (λ t. by_cases (ltb b (e.start + e.size))
        (λ u. still_overlapping size e a b (overlapping size e a t) low (ltb-true b (e.start + e.size) u) here)
        (λ u. none_passed es (e.start + e.size) others b p (ltb-false b (e.start + e.size) u) (rw t at high)))

-- ---- the candidates

-- a candidate: a multiple of 4,096 in the image, below which there is no start
pub record Candidate (len : ℕ) (es : List Entry) (ps : List ℕ) (size a : ℕ) : Type 0 where
  pub inside : a ≤ len
  pub aligned : multiple block_size a ≡ true
  pub none : NoneBelow len es ps size a

module _ (len : ℕ) (es : List Entry) (ps : List ℕ) (size : ℕ) (right : size_right size ≡ true)
    (placed : Placed len es) where
  pub first_candidate : Candidate len es ps size 0
  first_candidate = record {
    inside = omega arith;
    aligned = unfold multiple in refl;
    none = λ b m l. absurd (omega arith);
  }

  parts : (b : ℕ)
      → may_start len es ps size b ≡ true
      → (all (ranges_apart (new_range b size)) es ≡ true) × (member b ps ≡ false)
  unfolding may_start
  parts b h =
      let (p, held) = and_true _ (not (member b ps)) h in
      ((and_true (range_inside len (new_range b size)) _ p).1, not-true (member b ps) held)

  -- below what is next there is no start, if the ones from a on that are passed may not be it
  further : (a next : ℕ)
      → Candidate len es ps size a
      → ((b : ℕ) → may_start len es ps size b ≡ true → multiple block_size b ≡ true → a ≤ b → b < next → ⊥)
      → NoneBelow len es ps size next
  further a next c passed b m l =
      by_cases (ltb b a)
      (λ t. c.none b m (ltb-true b a t))
      (λ t. by_cases (may_start len es ps size b)
      (λ u. absurd (passed b u m (ltb-false b a t) l))
      (λ u. u))

  pub next_rises : (a : ℕ) → a ≤ next_candidate size es ps a
  unfolding next_candidate
  next_rises a =
      by_cases (eqb (raised size es a) a)
      (λ t. rw t (by_cases (member a ps) (λ u. rw u (omega arith)) (λ u. rw u (omega arith))))
      (λ t. rw t (rises size es a))

  pub next_is_candidate : (a : ℕ)
      → Candidate len es ps size a
      → a + size ≤ len
      → Candidate len es ps size (next_candidate size es ps a)
  unfolding next_candidate
  next_is_candidate a c fits =
      by_cases (eqb (raised size es a) a)
      (λ t. rw t (by_cases (member a ps) (λ u. rw u (after_held u)) (λ u. rw u c)))
      (λ t. rw t after_raised)
    where
      after_held : member a ps ≡ true → Candidate len es ps size (a + block_size)
      after_held u = record {
        inside = omega (arith, size_at_least size right);
        aligned = next_multiple a c.aligned;
        none = further a (a + block_size) c (λ b h m low high.
            let same : b ≡ a = omega (
              arith,
              eqb-true (a % block_size) 0 (unfold multiple in c.aligned),
              eqb-true (b % block_size) 0 (unfold multiple in m),
            ) in
            clash (member a ps) u (rw same at (parts b h).1));
      }

      after_raised : Candidate len es ps size (raised size es a)
      after_raised = record {
        inside = stays_inside size len es a placed.inside c.inside;
        aligned = stays_aligned size es a placed.aligned c.aligned;
        none = further a (raised size es a) c (λ b h m low high.
            none_passed size (λ b. may_start len es ps size b ≡ true) es a (λ b q. (parts b q).0) b h low high);
      }

  -- a candidate that is its own next one may be the start
  pub stays_may : (a : ℕ)
      → a + size ≤ len
      → next_candidate size es ps a ≡ a
      → may_start len es ps size a ≡ true
  unfolding next_candidate may_start
  stays_may a fits h =
      by_cases (eqb (raised size es a) a)
      (λ t. by_cases (member a ps)
      (λ u. absurd (omega (arith, rw (t, u) at h)))
      (λ u. rw (ends_in, not_raised size es a (eqb-true (raised size es a) a t), u)))
      (λ t. absurd (eqb-false (raised size es a) a t (rw t at h)))
    where
      ends_in : range_inside len (new_range a size) ≡ true
      ends_in = unfold range_inside new_range in le-leb (a + size) len fits
