-- A table copy stands exactly if it has no fault. Assumes nothing.
use mathlib.Core.Path.{◌≡◌, refl, sym}
use mathlib.Core.Bool.{Bool, true, false}
use mathlib.Core.List.{List}
use Prim.Native.Nat.{ℕ}
use Rattle.std.specs.Prelude.{Option, Some, None, is_none}
use native.Mathlib.Omega.{arith}
use Rattle.rules.specs.Answers.{no_fault}
use Rattle.rules.specs.Table.{table_stands, broken_unless, entries_fault, fault}
use Rattle.rules.specs.declared.Setting.{Setting}
use Rattle.rules.specs.declared.TableRule.{TableRule}
use Rattle.rules.specs.declared.TableRule.TheVariants.{HeaderRight, CountRight, NameRight, NamesDiffer, RangeAligned, RangeInside, RangesApart, SixNamed, BootInfoAtZero, TablesAsTold, BlocksOnGranules}
use Rattle.rules.specs.declared.Fault.{Fault}
use Rattle.rules.proofs.Lists.Tests.{by_cases, clash}
use Rattle.rules.proofs.Table.Standing.{standing, stands}

-- where no rule is told, this one is kept and none of those after it is told
kept : (rule : TableRule) (e : ℕ) (holds : Bool) (later : Option Fault)
    → broken_unless rule e holds later ≡ no_fault
    → (holds ≡ true) × (later ≡ no_fault)
unfolding broken_unless
kept rule e true later h = (refl, h)
kept rule e false later h = absurd (let z : ◌≡◌ {A = ℕ} 0 1 = cc in omega arith)

module _ (s : Setting) (len : ℕ) (t : List ℕ) where
  pub standing_no_fault : table_stands s len t ≡ true → fault s len t ≡ no_fault
  unfolding fault entries_fault broken_unless
  standing_no_fault h =
      let st = standing s len t h in
      rw (
        st.rule1,
        st.rule2,
        st.rule3,
        st.rule4,
        st.rule5,
        st.rule6,
        st.rule7,
        st.rule8,
        st.rule9,
        st.rule10,
        st.rule11,
      )

  pub no_fault_stands : fault s len t ≡ no_fault → table_stands s len t ≡ true
  unfolding fault entries_fault
  no_fault_stands h =
      let (rule1, h) = kept HeaderRight _ _ _ h in
      let (rule2, h) = kept CountRight _ _ _ h in
      let (rule3, h) = kept NameRight _ _ _ h in
      let (rule4, h) = kept NamesDiffer _ _ _ h in
      let (rule5, h) = kept RangeAligned _ _ _ h in
      let (rule6, h) = kept RangeInside _ _ _ h in
      let (rule7, h) = kept RangesApart _ _ _ h in
      let (rule8, h) = kept SixNamed _ _ _ h in
      let (rule9, h) = kept BootInfoAtZero _ _ _ h in
      let (rule10, h) = kept TablesAsTold _ _ _ h in
      let (rule11, h) = kept BlocksOnGranules _ _ _ h in
      stands s len t (record {
        rule1 = rule1;
        rule2 = rule2;
        rule3 = rule3;
        rule4 = rule4;
        rule5 = rule5;
        rule6 = rule6;
        rule7 = rule7;
        rule8 = rule8;
        rule9 = rule9;
        rule10 = rule10;
        rule11 = rule11;
      })

  -- one text serves both: a copy stands exactly if no rule is told of it
  pub stands_exactly : table_stands s len t ≡ is_none (fault s len t)
  stands_exactly = by_cases (table_stands s len t)
      (λ t'. rw (t', standing_no_fault t'))
      (λ f. rw f (sym (some_fault (fault s len t) (λ z. clash (table_stands s len t) (no_fault_stands z) f))))
    where
      some_fault : (f : Option Fault) → (f ≡ no_fault → ⊥) → is_none f ≡ false
      some_fault None h = absurd (h refl)
      some_fault (Some f) h = refl
