-- As long as ranges ascend none overlaps an earlier one: a search for one may begin where they stop. Assumes nothing.
use mathlib.Core.Path.{◌≡◌, refl}
use mathlib.Core.Bool.{true}
use mathlib.Core.List.{List, []}
use Prim.Native.Nat.{ℕ, zero, suc, ◌+◌, ◌≤◌}
use native.Mathlib.Numerals.{add-one}
use native.Mathlib.Omega.{arith}
use lib.Dec.{leb}
use lib.ListN.{length, get_or, drop}
use borrow.Author.Tests.{le-leb, leb-true, leb-false}
use Rattle.rules.specs.Lists.{all, first_clash}
use Rattle.rules.specs.Table.{Entry, no_entry, ranges_apart}
use Rattle.rules.proofs.Lists.Tests.{by_cases, and_true, both_true}
use Rattle.rules.proofs.Lists.Combinators.{all_weaker}
use Rattle.entries.proofs.Turns.{turn}
use Rattle.entry_rules.specs.Inner.Rules.{entries_before}
use Rattle.entry_rules.specs.Inner.Ascending.{ascend}
use Rattle.entry_tests.specs.Inner.Ranges.{ends_before}
use Rattle.entry_rules.proofs.FirstBroken.{clash_goes}

-- what begins after e ends begins after d ends, where e itself does
before_later : (d e f : Entry) → ends_before d e ≡ true → ends_before e f ≡ true → ends_before d f ≡ true
unfolding ends_before
before_later d e f h k =
    let p = leb-true (d.start + d.size) e.start h in
    let q = leb-true (e.start + e.size) f.start k in
    le-leb (d.start + d.size) f.start (omega arith)

before_is_apart : (d e : Entry) → ends_before d e ≡ true → ranges_apart d e ≡ true
unfolding ends_before ranges_apart
before_is_apart d e h = rw h

module _ (es : List Entry) where
  -- one more that ascends
  pub ascend_next : (k : ℕ)
      → ends_before (get_or es k no_entry) (get_or es (k + 1) no_entry) ≡ true
      → ascend es (k + 1) ≡ true
      → ascend es (k + 1 + 1) ≡ true
  unfolding ascend
  ascend_next k h a = simp add-one (both_true _ _ (simp add-one at h) (simp add-one at a))

  ascend_one_less : (k : ℕ) → ascend es (suc k) ≡ true → ascend es k ≡ true
  unfolding ascend
  ascend_one_less zero a = refl
  ascend_one_less (suc k) a = (and_true (ends_before (get_or es k no_entry) (get_or es (suc k) no_entry)) (ascend es (suc k)) a).1

  -- fewer of them ascend too
  pub ascend_fewer : (m k : ℕ) → m ≤ k → ascend es k ≡ true → ascend es m ≡ true
  ascend_fewer m zero h a = let e : m ≡ 0 = omega arith in rw e a
  ascend_fewer m (suc k) h a =
      by_cases (leb m k)
      (λ u. ascend_fewer m k (leb-true m k u) (ascend_one_less k a))
      (λ u. let e : m ≡ suc k = omega (arith, leb-false m k u) in rw e a)

  -- all end before the last
  all_before : (k : ℕ) → ascend es (suc k) ≡ true → all (λ d. ends_before d (get_or es k no_entry)) (entries_before es k) ≡ true
  unfolding ascend all entries_before
  all_before zero a = refl
  all_before (suc k) a =
      let e = get_or es k no_entry in
      let f = get_or es (suc k) no_entry in
      let (p, q) = and_true (ends_before e f) (ascend es (suc k)) a in
      both_true (ends_before e f) (all (λ d. ends_before d f) (entries_before es k)) p
      (all_weaker (λ d. ends_before d e) (λ d. ends_before d f) (λ d h. before_later d e f h p) (entries_before es k)
      (all_before k q))

  all_apart : (k : ℕ) → ascend es (suc k) ≡ true → all (λ d. ranges_apart d (get_or es k no_entry)) (entries_before es k) ≡ true
  all_apart k a =
      let e = get_or es k no_entry in
      all_weaker (λ d. ends_before d e) (λ d. ranges_apart d e) (λ d h. before_is_apart d e h) (entries_before es k)
      (all_before k a)

  -- the search from where they stop
  pub overlap_behind : (k : ℕ)
      → k ≤ length es
      → ascend es k ≡ true
      → k + first_clash ranges_apart (entries_before es k) (drop k es) ≡ first_clash ranges_apart [] es
  unfolding entries_before
  overlap_behind zero h a = omega arith
  overlap_behind (suc k) h a =
      let goes = clash_goes ranges_apart (entries_before es k) (turn es k (omega arith)) (all_apart k a) in
      omega (arith, overlap_behind k (omega arith) (ascend_one_less k a), rw add-one at goes)
