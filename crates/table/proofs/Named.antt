-- Where names differ, what a rule asks of the entry of a name is what it asks of each entry, if it has that name. Assumes
-- nothing.
use Rattle.std.proofs.Common.{◌≡◌, refl, sym, ◌∙◌, Bool, true, false, not, ◌&&◌, List, [], ◌∷◌, ℕ, arith}
use Rattle.rules.specs.Lists.{same, all, any, pairwise, first}
use Rattle.rules.specs.declared.Setting.{Setting}
use Rattle.rules.specs.Table.{Entry, name, has_name, named, names_differ, if_named, starts_at, on_granules}
use Rattle.rules.specs.Table.{boot_info, factory_image, spt0_name, spt1_name, six_names, block_names, six_named}
use Rattle.rules.specs.Table.{boot_info_at_0, tables_as_told, blocks_on_granules, boot_info_right, table_as_told, block_on_granules}
use Rattle.rules.proofs.Lists.Tests.{by_cases, clash, and_true, same_true, same_of}
use Rattle.rules.proofs.Lists.Combinators.{all_weaker}
use Rattle.rules.proofs.Table.Standing.{named_there}

-- an entry whose name differs passes what is asked of those that have the name
others_pass : (n : List ℕ) (right : Entry → Bool) (d e : Entry) → has_name n d ≡ true → names_differ d e ≡ true → if_named n right e ≡ true
unfolding has_name names_differ if_named
others_pass n right d e h differ = by_cases (same (name e) n)
    (λ t. absurd (clash (same (name d) (name e)) (same_of (name d) (name e) (same_true (name d) n h ∙ sym (same_true (name e) n t)))
    (not_true _ differ)))
    (λ t. rw t)
  where
    not_true : (b : Bool) → not b ≡ true → b ≡ false
    not_true false h = refl
    not_true true h = sym h

with_true : (b : Bool) → b && true ≡ b
with_true true = refl
with_true false = refl

named_all : (n : List ℕ) (right : Entry → Bool) (es : List Entry)
    → pairwise names_differ es ≡ true
    → any (has_name n) es ≡ true
    → all (if_named n right) es ≡ right (named n es)
unfolding all any pairwise named first if_named
named_all n right [] differ some = absurd (clash true refl (sym some))
named_all n right (x ∷ xs) differ some =
    let (apart, rest) = and_true (all (names_differ x) xs) (pairwise names_differ xs) differ in
    by_cases (has_name n x)
    (λ t. rw (t, all_weaker (names_differ x) (if_named n right) (λ e p. others_pass n right x e t p) xs apart) (with_true (right x)))
    (λ t. rw t (named_all n right xs rest (rw t at some)))

all_of_both : (f g : Entry → Bool) (es : List Entry) → all (λ e. f e && g e) es ≡ all f es && all g es
unfolding all
all_of_both f g [] = refl
all_of_both f g (e ∷ es) = rw (all_of_both f g es) (inner (f e) (g e) (all f es) (all g es))
  where
    inner : (a b c d : Bool) → a && b && (c && d) ≡ a && c && (b && d)
    inner true true c d = refl
    inner true false true d = refl
    inner true false false d = refl
    inner false b c d = refl

-- the same for each of some names
for_each : (right : Entry → Bool) (es : List Entry) → pairwise names_differ es ≡ true → (ns : List (List ℕ))
    → all (λ n. any (has_name n) es) ns ≡ true
    → all (λ e. all (λ n. if_named n right e) ns) es ≡ all (λ n. right (named n es)) ns
unfolding all
for_each right es differ [] there = all_true es
  where
    all_true : (xs : List Entry) → all (λ e. true) xs ≡ true
    all_true [] = refl
    all_true (x ∷ xs) = all_true xs
for_each right es differ (n ∷ ns) there =
    let (one, more) = and_true (any (has_name n) es) (all (λ n. any (has_name n) es) ns) there in
    all_of_both (if_named n right) (λ e. all (λ n. if_named n right e) ns) es
    ∙ rw (named_all n right es differ one, for_each right es differ ns more)

module _ (s : Setting) (es : List Entry) (differ : pairwise names_differ es ≡ true) (rule8 : six_named es ≡ true) where
  pub rule_9 : all boot_info_right es ≡ boot_info_at_0 es
  unfolding boot_info_at_0 boot_info_right starts_at six_names
  rule_9 = named_all boot_info (starts_at 0) es differ (named_there es rule8 0 (omega arith))

  pub rule_10 : all (table_as_told s) es ≡ tables_as_told s es
  unfolding tables_as_told table_as_told starts_at six_names
  rule_10 =
      all_of_both (if_named spt0_name (starts_at s.spt0)) (if_named spt1_name (starts_at s.spt1)) es
      ∙ rw (
        named_all spt0_name (starts_at s.spt0) es differ (named_there es rule8 2 (omega arith)),
        named_all spt1_name (starts_at s.spt1) es differ (named_there es rule8 3 (omega arith)),
      )

  pub rule_11 : all (block_on_granules s) es ≡ blocks_on_granules s es
  unfolding blocks_on_granules block_on_granules six_named six_names all
  rule_11 =
      let (first, blocks) = and_true (any (has_name boot_info) es) _ rule8 in
      for_each (on_granules s.granule) es differ block_names
      (and_true (any (has_name factory_image) es) (all (λ n. any (has_name n) es) block_names) blocks).1
