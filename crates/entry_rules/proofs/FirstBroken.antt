-- The first entry that does not keep a rule by itself, or with an earlier one: one turn and the end of the walks that look
-- for it; its number is that of the entries exactly if all keep the rule. Assumes nothing.
use mathlib.Core.Path.{◌≡◌, refl, sym, ◌∙◌}
use mathlib.Core.Bool.{Bool, true, false, ◌&&◌}
use mathlib.Core.List.{List, [], ◌∷◌}
use Prim.Native.Nat.{ℕ, zero, suc, ◌+◌, ◌<◌}
use native.Mathlib.Numerals.{add-one}
use native.Mathlib.Omega.{arith}
use lib.Dec.{eqb}
use borrow.Author.Tests.{eq-eqb, ne_eqb, eqb-true, eqb-false}
use Rattle.rules.specs.Lists.{all, pairwise, first_failing, first_clash}
use lib.ListN.{length, get_or, drop}
use Rattle.rules.specs.Table.{Entry, no_entry}
use Rattle.rules.proofs.Lists.Tests.{by_cases}
use Rattle.rules.proofs.Lists.FirstBroken.{none_fails, none_clashes}
use Rattle.entry_rules.specs.Inner.Rules.{entries_before}

-- ---- the walks; `xs` is what is left to walk

module _ {A : Type 0} {xs : List A} where
  pub failing_over : (f : A → Bool) → xs ≡ [] → first_failing f xs ≡ 0
  unfolding first_failing
  failing_over f e = rw e

  pub clash_over : (f : A → A → Bool) (earlier : List A) → xs ≡ [] → first_clash f earlier xs ≡ 0
  unfolding first_clash
  clash_over f earlier e = rw e

  module _ {x : A} {rest : List A} where
    pub failing_here : (f : A → Bool) → xs ≡ x ∷ rest → f x ≡ false → first_failing f xs ≡ 0
    unfolding first_failing
    failing_here f e h = rw (e, h)

    pub failing_goes : (f : A → Bool) → xs ≡ x ∷ rest → f x ≡ true → first_failing f xs ≡ suc (first_failing f rest)
    unfolding first_failing
    failing_goes f e h = rw (e, h)

    module _ (f : A → A → Bool) (earlier : List A) where
      pub clash_here : xs ≡ x ∷ rest → all (λ y. f y x) earlier ≡ false → first_clash f earlier xs ≡ 0
      unfolding first_clash
      clash_here e h = rw (e, h)

      pub clash_goes : xs ≡ x ∷ rest
          → all (λ y. f y x) earlier ≡ true
          → first_clash f earlier xs ≡ suc (first_clash f (x ∷ earlier) rest)
      unfolding first_clash
      clash_goes e h = rw (e, h)

-- one more entry is before the next
pub before_next : (es : List Entry) (k : ℕ) → entries_before es (k + 1) ≡ get_or es k no_entry ∷ entries_before es k
unfolding entries_before
before_next es k = rw add-one

-- one that fails is among those before a later one
pub one_before_fails : (f : Entry → Bool) (es : List Entry) (k n : ℕ)
    → k < n
    → f (get_or es k no_entry) ≡ false
    → all f (entries_before es n) ≡ false
unfolding all entries_before
one_before_fails f es k zero l h = absurd (omega arith)
one_before_fails f es k (suc n) l h =
    by_cases (eqb k n)
    (λ u. rw (← eqb-true k n u, h))
    (λ u. rw (one_before_fails f es k n (omega (arith, eqb-false k n u)) h) (and_false (f (get_or es n no_entry))))
  where
    and_false : (a : Bool) → a && false ≡ false
    and_false true = refl
    and_false false = refl

-- a search from the first entry
pub clash_from_0 : (f : Entry → Entry → Bool) (es : List Entry)
    → 0 + first_clash f (entries_before es 0) (drop 0 es) ≡ first_clash f [] es
unfolding entries_before
clash_from_0 f es = omega arith

-- ---- what is found tells whether all keep the rule

module _ {A : Type 0} (xs : List A) where
  pub kept : (f : A → Bool) → first_failing f xs ≡ length xs → all f xs ≡ true
  kept f h = sym (none_fails f xs) ∙ eq-eqb (first_failing f xs) (length xs) h

  pub not_kept : (f : A → Bool) → first_failing f xs < length xs → all f xs ≡ false
  not_kept f h = sym (none_fails f xs) ∙ ne_eqb (first_failing f xs) (length xs) (λ e. omega arith)

  pub pairs_kept : (f : A → A → Bool) → first_clash f [] xs ≡ length xs → pairwise f xs ≡ true
  pairs_kept f h = sym (none_clashes f xs) ∙ eq-eqb (first_clash f [] xs) (length xs) h

  pub pairs_not_kept : (f : A → A → Bool) → first_clash f [] xs < length xs → pairwise f xs ≡ false
  pairs_not_kept f h = sym (none_clashes f xs) ∙ ne_eqb (first_clash f [] xs) (length xs) (λ e. omega arith)
