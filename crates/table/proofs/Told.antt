-- The fault of a table copy: one law for each exit of the code that looks for the rule. Assumes nothing.
use Rattle.std.proofs.Common.{◌≡◌, refl, sym, ◌∙◌, subst, Bool, true, false, ◌&&◌, Option, Some, None, List, [], ℕ, ◌<◌, arith, length, eqb}
use borrow.Author.Tests.{eq-eqb, ne_eqb, eqb-true}
use Rattle.rules.specs.Lists.{all, pairwise, first_failing, first_clash}
use Rattle.rules.specs.Answers.{no_entry_number, broken, no_fault}
use Rattle.rules.specs.declared.EntryNo.{EntryNo}
use Rattle.rules.specs.declared.Fault.{Fault}
use Rattle.rules.specs.declared.Setting.{Setting}
use Rattle.rules.specs.declared.TableRule.{TableRule}
use Rattle.rules.specs.declared.TableRule.TheVariants.{HeaderRight, CountRight, NameRight, NamesDiffer, RangeAligned, RangeInside, RangesApart, SixNamed, BootInfoAtZero, TablesAsTold, BlocksOnGranules}
use Rattle.rules.specs.Table.{Entry, header_right, count_right, entries, fault, entries_fault, broken_unless}
use Rattle.rules.specs.Table.{name_right, names_differ, range_aligned, range_inside, ranges_apart}
use Rattle.rules.specs.Table.{named, spt0_name, spt1_name, cpb0_name, cpb1_name, block_names, on_granules}
use Rattle.rules.specs.Table.{six_named, boot_info_at_0, tables_as_told, blocks_on_granules}
use Rattle.rules.specs.Table.{boot_info_right, table_as_told, block_on_granules}
use Rattle.rules.proofs.Lists.FirstBroken.{none_fails, none_clashes}
use Rattle.walks.proofs.Joined.{and_assoc, and_with_true}
use Rattle.entries.specs.Tests.{Found}
use Rattle.table.specs.Inner.Six.{six_fault}
use Rattle.table.proofs.Named.{rule_9, rule_10, rule_11}

-- nothing was found
abbrev pub Nothing : Option EntryNo → Type 0
Nothing r = (e : EntryNo) → r ≡ Some e → ⊥

at_end : {es : List Entry} {i : ℕ} (r : Option EntryNo) → Found es i r → Nothing r → i ≡ length es
at_end (Some e) f n = absurd (n e refl)
at_end None f n = f.none

inside : {es : List Entry} {i : ℕ} {r : Option EntryNo} {e : EntryNo} → Found es i r → r ≡ Some e → (e.0 ≡ i) × (i < length es)
inside {es} {i} f q = (subst (λ (r : Option EntryNo). Found es i r) q f).some

-- a rule holds if the number of the first that breaks it is the number of entries
module _ {es : List Entry} {i : ℕ} {r : Option EntryNo} (f : Found es i r) {holds : Bool} (known : eqb i (length es) ≡ holds) where
  pub kept : Nothing r → holds ≡ true
  kept n = sym known ∙ eq-eqb i (length es) (at_end r f n)

  pub goes : (rule : TableRule) (later : Option Fault) → Nothing r → broken_unless rule i holds later ≡ later
  unfolding broken_unless
  goes rule later n = rw (kept n)

  pub told : (rule : TableRule) (later : Option Fault) {e : EntryNo} → r ≡ Some e → broken_unless rule i holds later ≡ broken rule e.0
  unfolding broken_unless
  told rule later q =
      let (is, below) = inside f q in
      let fails : holds ≡ false = sym known ∙ ne_eqb i (length es) (λ z. omega arith) in
      rw (fails, is)

-- ---- rules 1 and 2

module _ (s : Setting) (len : ℕ) (t : List ℕ) where
  pub fault_1 : header_right t ≡ false → fault s len t ≡ broken HeaderRight no_entry_number
  unfolding fault broken_unless
  fault_1 h = rw h

  module _ (rule1 : header_right t ≡ true) where
    pub fault_2 : count_right t ≡ false → fault s len t ≡ broken CountRight no_entry_number
    unfolding fault broken_unless
    fault_2 h = rw (rule1, h)

    pub fault_of_entries : count_right t ≡ true → fault s len t ≡ entries_fault s len (entries t)
    unfolding fault broken_unless
    fault_of_entries h = rw (rule1, h)

-- ---- rules 3 to 7

module _ (s : Setting) (len : ℕ) (es : List Entry) where
  module _ {r3 : Option EntryNo} (f3 : Found es (first_failing name_right es) r3) where
    pub fault_3 : {e : EntryNo} → r3 ≡ Some e → entries_fault s len es ≡ broken NameRight e.0
    unfolding entries_fault
    fault_3 q = told f3 (none_fails name_right es) _ _ q

    module _ (n3 : Nothing r3) where
      module _ {r4 : Option EntryNo} (f4 : Found es (first_clash names_differ [] es) r4) where
        pub fault_4 : {e : EntryNo} → r4 ≡ Some e → entries_fault s len es ≡ broken NamesDiffer e.0
        unfolding entries_fault
        fault_4 q = goes f3 (none_fails name_right es) _ _ n3 ∙ told f4 (none_clashes names_differ es) _ _ q

        module _ (n4 : Nothing r4) where
          module _ {r5 : Option EntryNo} (f5 : Found es (first_failing range_aligned es) r5) where
            pub fault_5 : {e : EntryNo} → r5 ≡ Some e → entries_fault s len es ≡ broken RangeAligned e.0
            unfolding entries_fault
            fault_5 q = goes f3 (none_fails name_right es) _ _ n3 ∙ goes f4 (none_clashes names_differ es) _ _ n4 ∙ told f5 (none_fails range_aligned es) _ _ q

            module _ (n5 : Nothing r5) where
              module _ {r6 : Option EntryNo} (f6 : Found es (first_failing (range_inside len) es) r6) where
                pub fault_6 : {e : EntryNo} → r6 ≡ Some e → entries_fault s len es ≡ broken RangeInside e.0
                unfolding entries_fault
                fault_6 q = goes f3 (none_fails name_right es) _ _ n3 ∙ goes f4 (none_clashes names_differ es) _ _ n4 ∙ goes f5 (none_fails range_aligned es) _ _ n5 ∙ told f6 (none_fails (range_inside len) es) _ _ q

                module _ (n6 : Nothing r6) where
                  module _ {r7 : Option EntryNo} (f7 : Found es (first_clash ranges_apart [] es) r7) where
                    pub fault_7 : {e : EntryNo} → r7 ≡ Some e → entries_fault s len es ≡ broken RangesApart e.0
                    unfolding entries_fault
                    fault_7 q = goes f3 (none_fails name_right es) _ _ n3 ∙ goes f4 (none_clashes names_differ es) _ _ n4 ∙ goes f5 (none_fails range_aligned es) _ _ n5 ∙ goes f6 (none_fails (range_inside len) es) _ _ n6 ∙ told f7 (none_clashes ranges_apart es) _ _ q

                    module _ (n7 : Nothing r7) where
                      pub fault_of_six : entries_fault s len es ≡ six_fault s es
                      unfolding entries_fault six_fault
                      fault_of_six = goes f3 (none_fails name_right es) _ _ n3 ∙ goes f4 (none_clashes names_differ es) _ _ n4 ∙ goes f5 (none_fails range_aligned es) _ _ n5 ∙ goes f6 (none_fails (range_inside len) es) _ _ n6 ∙ goes f7 (none_clashes ranges_apart es) _ _ n7

-- ---- rules 8 to 11

-- where all entries keep a rule, none is the first that does not
none_found : (p : Entry → Bool) (es : List Entry) → all p es ≡ true → Found es (first_failing p es) None
none_found p es h = record { some = tt; none = eqb-true (first_failing p es) (length es) (none_fails p es ∙ h) }

-- and all keep it if the entries of the fixed names do
module _ (s : Setting) (es : List Entry) (differ : pairwise names_differ es ≡ true) (rule8 : six_named es ≡ true) where
  pub none_9 : boot_info_at_0 es ≡ true → Found es (first_failing boot_info_right es) None
  none_9 h = none_found boot_info_right es (rule_9 s es differ rule8 ∙ h)

  pub none_10 : tables_as_told s es ≡ true → Found es (first_failing (table_as_told s) es) None
  none_10 h = none_found (table_as_told s) es (rule_10 s es differ rule8 ∙ h)

  pub none_11 : on_granules s.granule (named spt0_name es)
      && on_granules s.granule (named spt1_name es)
      && on_granules s.granule (named cpb0_name es)
      && on_granules s.granule (named cpb1_name es)
      ≡ true
      → Found es (first_failing (block_on_granules s) es) None
  unfolding blocks_on_granules all
  none_11 h =
      none_found (block_on_granules s) es
      (rule_11 s es differ rule8 ∙ all_four (λ n. on_granules s.granule (named n es)) ∙ h)
    where
      all_four : (f : List ℕ → Bool) → all f block_names ≡ f spt0_name && f spt1_name && f cpb0_name && f cpb1_name
      all_four f = simp (and_assoc, and_with_true)

module _ (s : Setting) (es : List Entry) where
  pub fault_8 : six_named es ≡ false → six_fault s es ≡ broken SixNamed no_entry_number
  unfolding six_fault broken_unless
  fault_8 h = rw h

  module _ (differ : pairwise names_differ es ≡ true) (rule8 : six_named es ≡ true) where
    named_goes : {later : Option Fault} → broken_unless SixNamed no_entry_number (six_named es) later ≡ later
    unfolding broken_unless
    named_goes = rw rule8

    module _ {r9 : Option EntryNo} (f9 : Found es (first_failing boot_info_right es) r9) where
      pub fault_9 : {e : EntryNo} → r9 ≡ Some e → six_fault s es ≡ broken BootInfoAtZero e.0
      unfolding six_fault
      fault_9 q = named_goes ∙ told f9 (none_fails boot_info_right es ∙ rule_9 s es differ rule8) _ _ q

      module _ (n9 : Nothing r9) where
        module _ {r10 : Option EntryNo} (f10 : Found es (first_failing (table_as_told s) es) r10) where
          pub fault_10 : {e : EntryNo} → r10 ≡ Some e → six_fault s es ≡ broken TablesAsTold e.0
          unfolding six_fault
          fault_10 q = named_goes ∙ goes f9 (none_fails boot_info_right es ∙ rule_9 s es differ rule8) _ _ n9 ∙ told f10 (none_fails (table_as_told s) es ∙ rule_10 s es differ rule8) _ _ q

          module _ (n10 : Nothing r10) where
            module _ {r11 : Option EntryNo} (f11 : Found es (first_failing (block_on_granules s) es) r11) where
              pub fault_11 : {e : EntryNo} → r11 ≡ Some e → six_fault s es ≡ broken BlocksOnGranules e.0
              unfolding six_fault
              fault_11 q = named_goes ∙ goes f9 (none_fails boot_info_right es ∙ rule_9 s es differ rule8) _ _ n9 ∙ goes f10 (none_fails (table_as_told s) es ∙ rule_10 s es differ rule8) _ _ n10 ∙ told f11 (none_fails (block_on_granules s) es ∙ rule_11 s es differ rule8) _ _ q

              module _ (n11 : Nothing r11) where
                pub none_broken : six_fault s es ≡ no_fault
                unfolding six_fault
                none_broken = named_goes ∙ goes f9 (none_fails boot_info_right es ∙ rule_9 s es differ rule8) _ _ n9 ∙ goes f10 (none_fails (table_as_told s) es ∙ rule_10 s es differ rule8) _ _ n10 ∙ goes f11 (none_fails (block_on_granules s) es ∙ rule_11 s es differ rule8) _ _ n11
