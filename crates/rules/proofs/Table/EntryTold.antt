-- What is told of a table copy: with a rule about the whole table entry 127, with any other rule the number of a counted
-- entry. Where a flash is refused 50 or 51 a rule is told of both copies. Assumes nothing.
use mathlib.Core.Path.{◌≡◌, refl, sym, ap, ◌∙◌}
use mathlib.Core.Bool.{Bool, true, false}
use mathlib.Core.Logic.{◌⊎◌, inl, inr}
use mathlib.Core.List.{List, [], ◌∷◌}
use Prim.Native.Nat.{ℕ, ◌≤◌, ◌<◌}
use native.Mathlib.Omega.{arith}
use lib.ListN.{length, get_or}
use Rattle.rules.specs.Lists.{all, any}
use Rattle.rules.specs.Bytes.{block}
use Rattle.std.specs.Prelude.{Option, Some, None, is_some, cond, ◌||◌}
use Rattle.rules.specs.Answers.{Answer, refused, given, unless, ◌>>=◌, no_entry_number, broken, no_fault, number_of}
use Rattle.rules.specs.Copies.{copy_read, both_faults, no_table, table_read, pointers_read, view_through, view}
use Rattle.rules.specs.Table.{Entry, entry_count, entries, name_right, names_differ, range_aligned, range_inside, ranges_apart}
use Rattle.rules.specs.Table.{boot_info, spt0_name, spt1_name, six_names, has_name, no_entry, named, block_names, on_granules}
use Rattle.rules.specs.Table.{six_named, boot_info_at_0, tables_as_told, blocks_on_granules, if_named, starts_at, boot_info_right, table_as_told, block_on_granules}
use Rattle.rules.specs.Table.{magic_right, table_stands, broken_unless, entries_fault, fault}
use Rattle.rules.specs.Table.{cpb0_of, cpb1_of}
use Rattle.rules.specs.Pointers.{pointers_stand}
use Rattle.rules.specs.declared.Setting.{Setting}
use Rattle.rules.specs.declared.TableRule.{TableRule}
use Rattle.rules.specs.declared.Fault.{Fault}
use Rattle.rules.specs.declared.TableFaults.{TableFaults}
use Rattle.rules.specs.declared.Refusal.{Refusal}
use Rattle.rules.proofs.Lists.Tests.{by_cases, clash, and_true, both_true, refused_given}
use Rattle.rules.proofs.Lists.Combinators.{all_at, all_weaker, first_passes, first_of_all}
use Rattle.rules.proofs.Lists.FirstBroken.{failing_below, clash_below}
use Rattle.rules.proofs.Table.Standing.{length-entries, named_there}
use Rattle.rules.proofs.Table.Faults.{no_fault_stands}
use Rattle.rules.specs.declared.Refusal.TheVariants.{BadLength, BadGranule, BadAddresses, NoPointers, NoMagic, NoTable}
use Rattle.rules.specs.declared.TableRule.TheVariants.{HeaderRight, CountRight, NameRight, NamesDiffer, RangeAligned, RangeInside, RangesApart, SixNamed, BootInfoAtZero, TablesAsTold, BlocksOnGranules}

-- ---- the entry told

-- the rules about the whole table
unfoldable pub of_the_table : TableRule → Bool
of_the_table HeaderRight = true
of_the_table CountRight = true
of_the_table NameRight = false
of_the_table NamesDiffer = false
of_the_table RangeAligned = false
of_the_table RangeInside = false
of_the_table RangesApart = false
of_the_table SixNamed = true
of_the_table BootInfoAtZero = false
of_the_table TablesAsTold = false
of_the_table BlocksOnGranules = false

-- what may be told of a table of n entries
abbrev pub Told : ℕ → Option Fault → Type 0
Told n None = Unit {0}
Told n (Some f) =
    ((of_the_table f.rule ≡ true) × (f.entry.0 ≡ no_entry_number))
    ⊎ ((of_the_table f.rule ≡ false) × (f.entry.0 < n))

-- a rule that is broken is told so, and so is what the rules after it say
told_unless : (n : ℕ) (rule : TableRule) (e : ℕ) (holds : Bool) (later : Option Fault)
    → (holds ≡ false → Told n (broken rule e))
    → (holds ≡ true → Told n later)
    → Told n (broken_unless rule e holds later)
unfolding broken_unless
told_unless n rule e true later f g = g refl
told_unless n rule e false later f g = f refl

-- what every entry of a name passes, the first of that name passes
named_passes : (es : List Entry) (n : List ℕ) (right : Entry → Bool)
    → any (has_name n) es ≡ true
    → all (if_named n right) es ≡ true
    → right (named n es) ≡ true
unfolding named if_named
named_passes es n right some h =
    rw (first_passes (has_name n) no_entry es some) at (first_of_all (if_named n right) (has_name n) no_entry es some h)

-- rules 9, 10 and 11 hold if every entry passes what they ask of one
module _ (s : Setting) (es : List Entry) (rule8 : six_named es ≡ true) where
  rule_9 : all boot_info_right es ≡ true → boot_info_at_0 es ≡ true
  unfolding boot_info_at_0 boot_info_right starts_at six_names
  rule_9 h = named_passes es boot_info (starts_at 0) (named_there es rule8 0 (omega arith)) h

  rule_10 : all (table_as_told s) es ≡ true → tables_as_told s es ≡ true
  unfolding tables_as_told table_as_told starts_at six_names
  rule_10 h =
      both_true _ _
      (named_passes es spt0_name (starts_at s.spt0) (named_there es rule8 2 (omega arith))
      (all_weaker (table_as_told s) _ (λ e p. (and_true (of0 e) (of1 e) p).0) es h))
      (named_passes es spt1_name (starts_at s.spt1) (named_there es rule8 3 (omega arith))
      (all_weaker (table_as_told s) _ (λ e p. (and_true (of0 e) (of1 e) p).1) es h))
    where
      of0 : Entry → Bool
      of0 = if_named spt0_name (starts_at s.spt0)

      of1 : Entry → Bool
      of1 = if_named spt1_name (starts_at s.spt1)

  -- what rule 11 asks for one of the four names
  for_block : (i : ℕ)
      → i < 4
      → any (has_name (get_or block_names i [])) es ≡ true
      → all (block_on_granules s) es ≡ true
      → on_granules s.granule (named (get_or block_names i []) es) ≡ true
  unfolding block_on_granules
  for_block i l some h =
      named_passes es (get_or block_names i []) (on_granules s.granule) some
      (all_weaker (block_on_granules s) _
      (λ e p. all_at (λ n. if_named n (on_granules s.granule) e) block_names [] i p l) es h)

  rule_11 : all (block_on_granules s) es ≡ true → blocks_on_granules s es ≡ true
  unfolding blocks_on_granules all six_names
  rule_11 h =
      rw (
        for_block 0 (omega arith) (named_there es rule8 2 (omega arith)) h,
        for_block 1 (omega arith) (named_there es rule8 3 (omega arith)) h,
        for_block 2 (omega arith) (named_there es rule8 4 (omega arith)) h,
        for_block 3 (omega arith) (named_there es rule8 5 (omega arith)) h,
      )

-- a rule that does not hold is not passed by every entry
fails_with : (every whole : Bool) → (every ≡ true → whole ≡ true) → whole ≡ false → every ≡ false
fails_with true whole f h = absurd (clash whole (f refl) h)
fails_with false whole f h = refl

module _ (s : Setting) (len : ℕ) where
  entries_told : (es : List Entry) → Told (length es) (entries_fault s len es)
  unfolding entries_fault of_the_table
  entries_told es =
      told_unless n NameRight _ _ _ (λ h. inr (refl, failing_below name_right es h)) (λ _.
      told_unless n NamesDiffer _ _ _ (λ h. inr (refl, clash_below names_differ es h)) (λ _.
      told_unless n RangeAligned _ _ _ (λ h. inr (refl, failing_below range_aligned es h)) (λ _.
      told_unless n RangeInside _ _ _ (λ h. inr (refl, failing_below (range_inside len) es h)) (λ _.
      told_unless n RangesApart _ _ _ (λ h. inr (refl, clash_below ranges_apart es h)) (λ _.
      told_unless n SixNamed _ _ _ (λ _. inl (refl, refl)) (λ rule8.
      told_unless n BootInfoAtZero _ _ _ (λ h. inr (refl, failing_below boot_info_right es (fails_with _ _ (rule_9 s es rule8) h))) (λ _.
      told_unless n TablesAsTold _ _ _ (λ h. inr (refl, failing_below (table_as_told s) es (fails_with _ _ (rule_10 s es rule8) h))) (λ _.
      told_unless n BlocksOnGranules _ _ _ (λ h. inr (refl, failing_below (block_on_granules s) es (fails_with _ _ (rule_11 s es rule8) h))) (λ _.
      tt)))))))))
    where
      n : ℕ
      n = length es

  -- the theorem: of every table copy
  pub entry_told : (t : List ℕ) → Told (entry_count t) (fault s len t)
  unfolding fault of_the_table
  entry_told t =
      told_unless _ HeaderRight _ _ _ (λ _. inl (refl, refl)) (λ _.
      told_unless _ CountRight _ _ _ (λ _. inl (refl, refl)) (λ _.
      rw length-entries at (entries_told (entries t))))

-- ---- a rule is told of both copies

some_rule : (s : Setting) (len : ℕ) (t : List ℕ) → table_stands s len t ≡ false → is_some (fault s len t) ≡ true
some_rule s len t f = there (fault s len t) (λ z. clash (table_stands s len t) (no_fault_stands s len t z) f)
  where
    there : (told : Option Fault) → (told ≡ no_fault → ⊥) → is_some told ≡ true
    there None h = absurd (h refl)
    there (Some told) h = refl

refused_inj : {A : Type 0} (x y : Refusal) → ◌≡◌ {A = Answer A} (refused x) (refused y) → x ≡ y
refused_inj x y h = cc

same_magic : {x y : TableFaults} → NoMagic x ≡ NoMagic y → x ≡ y
same_magic h = cc

same_table : {x y : TableFaults} → NoTable x ≡ NoTable y → x ≡ y
same_table h = cc

not_both : {x y : TableFaults} → NoMagic x ≡ NoTable y → ⊥
not_both h = let z : ◌≡◌ {A = ℕ} 50 51 = ap number_of h in omega arith

-- of a refusal: it tells a rule of SPT0 and one of SPT1
abbrev pub BothTold : Refusal → Type 0
BothTold why = (faults : TableFaults)
    × (((why ≡ NoMagic faults) ⊎ (why ≡ NoTable faults))
    × ((is_some faults.fault0 ≡ true) × (is_some faults.fault1 ≡ true)))

module _ (s : Setting) (img : List ℕ) where
  faults_told : table_stands s (length img) (block img s.spt0) ≡ false
      → table_stands s (length img) (block img s.spt1) ≡ false
      → BothTold (no_table s img)
  unfolding no_table both_faults
  faults_told f0 f1 = by_magic (magic_right (block img s.spt0) || magic_right (block img s.spt1))
    where
      told : (is_some (both_faults s img).fault0 ≡ true) × (is_some (both_faults s img).fault1 ≡ true)
      told = (some_rule s (length img) (block img s.spt0) f0, some_rule s (length img) (block img s.spt1) f1)

      by_magic : (t : Bool) → BothTold (cond t (NoTable (both_faults s img)) (NoMagic (both_faults s img)))
      by_magic true = (both_faults s img, (inr refl, told))
      by_magic false = (both_faults s img, (inl refl, told))

  rule_told : (why : Refusal) → table_read s img ≡ refused why → BothTold why
  unfolding table_read copy_read
  rule_told why h =
      by_cases (table_stands s (length img) (block img s.spt0))
      (λ t. absurd (refused_given why s.spt0 (sym (rw t at h))))
      (λ f0. by_cases (table_stands s (length img) (block img s.spt1))
      (λ t. absurd (refused_given why s.spt1 (sym (rw (f0, t) at h))))
      (λ f1. rw (← refused_inj _ _ (rw (f0, f1) at h)) (faults_told f0 f1)))

-- a refusal of a higher number comes after the test
passed : {A : Type 0} (n : Refusal) (t : Bool) (a : Answer A) (why : Refusal)
    → number_of n < number_of why
    → unless n t a ≡ refused why
    → a ≡ refused why
unfolding unless
passed n true a why l h = h
passed n false a why l h = absurd (omega (arith, l, ap number_of (refused_inj n why h)))

module _ (s : Setting) (img : List ℕ) (why : Refusal) where
  module _ (high : 50 ≤ number_of why) where
    not_5 : (t : List ℕ) → pointers_read img t ≡ refused why → ⊥
    unfolding pointers_read copy_read
    not_5 t h =
        by_cases (pointers_stand (block img (cpb0_of t)))
        (λ u. refused_given why (cpb0_of t) (sym (rw u at h)))
        (λ f. by_cases (pointers_stand (block img (cpb1_of t)))
        (λ u. refused_given why (cpb1_of t) (sym (rw (f, u) at h)))
        (λ g. omega (arith, high, ap number_of (refused_inj NoPointers why (rw (f, g) at h)))))

    not_after_table : (at : ℕ) (p : Answer ℕ)
        → pointers_read img (block img at) ≡ p
        → view_through s img at ≡ refused why
        → ⊥
    unfolding view_through
    not_after_table at (refused w) e h = not_5 (block img at) (e ∙ ap refused (refused_inj w why (rw e at h)))
    not_after_table at (given x) e h = refused_given why _ (sym (rw e at h))

    by_table : (t : Answer ℕ)
        → table_read s img ≡ t
        → table_read s img >>= view_through s img ≡ refused why
        → BothTold why
    by_table (refused w) e h = rule_told s img why (e ∙ ap refused (refused_inj w why (rw e at h)))
    by_table (given at) e h = absurd (not_after_table at (pointers_read img (block img at)) refl (rw e at h))

    -- the theorem: a flash that is refused with a number from 50 on is refused 50 or 51, and a rule is told of both copies
    pub rules_told : view s img ≡ refused why → BothTold why
    unfolding view
    rules_told h =
        let h = passed BadLength _ _ why (omega (arith, high)) h in
        let h = passed BadGranule _ _ why (omega (arith, high)) h in
        let h = passed BadAddresses _ _ why (omega (arith, high)) h in
        by_table (table_read s img) refl h

  -- so the faults of 50, and those of 51, tell a rule of both copies
  pub faults_are_told : (faults : TableFaults)
      → (why ≡ NoMagic faults) ⊎ (why ≡ NoTable faults)
      → view s img ≡ refused why
      → (is_some faults.fault0 ≡ true) × (is_some faults.fault1 ≡ true)
  faults_are_told faults e h = these e (rules_told (high e) h)
    where
      high : (why ≡ NoMagic faults) ⊎ (why ≡ NoTable faults) → 50 ≤ number_of why
      high (inl e) = omega (arith, ap number_of e)
      high (inr e) = omega (arith, ap number_of e)

      these : (why ≡ NoMagic faults) ⊎ (why ≡ NoTable faults)
          → BothTold why
          → (is_some faults.fault0 ≡ true) × (is_some faults.fault1 ≡ true)
      these (inl e) (told, (inl f, both)) = rw (same_magic (sym e ∙ f)) both
      these (inl e) (told, (inr f, both)) = absurd (not_both (sym e ∙ f))
      these (inr e) (told, (inl f, both)) = absurd (not_both (sym f ∙ e))
      these (inr e) (told, (inr f, both)) = rw (same_table (sym e ∙ f)) both
