-- A pair of which a copy is read agrees exactly if its copies are equal: refusal 6, and repair. Assumes nothing.
use mathlib.Core.Path.{◌≡◌, refl, sym, ◌∙◌, subst}
use mathlib.Core.Bool.{Bool, true, false, not, cond, ◌&&◌}
use mathlib.Core.Logic.{inl, inr}
use mathlib.Core.List.{List, [], ◌++◌}
use Prim.Native.Nat.{ℕ, ◌≤◌}
use lib.Dec.{eqb}
use lib.ListN.{length}
use Rattle.rules.specs.Lists.{same}
use Rattle.rules.specs.Bytes.{block}
use Rattle.rules.specs.Answers.{given}
use Rattle.rules.specs.declared.Setting.{Setting}
use Rattle.rules.specs.Table.{table_stands}
use Rattle.rules.specs.Pointers.{pointers_stand}
use Rattle.rules.specs.Copies.{copy_read, no_table, table_read, pointers_read, view, pair_agrees, tables_agree, pointers_agree, agree_by}
use Rattle.rules.specs.Steps.{rewrite}
use Rattle.rules.specs.Commands.{repair_pair, repair_steps}
use Rattle.rules.specs.declared.Refusal.{Refusal}
use Rattle.rules.specs.declared.View.{View}
use Rattle.rules.proofs.Lists.Tests.{by_cases, clash, same_true}
use Rattle.rules.proofs.Copies.CopyRead.{WhichAddress, which_address, equal_agree}
use Rattle.walks.proofs.Joined.{and_with_false}
use Rattle.views.proofs.Seen.{seen}
use Rattle.blocks.proofs.JobSteps.{rewriting}
use Rattle.drafts.specs.JobFor.{repaired}
use Rattle.drafts.specs.Inner.Asked.{copies_equal}
use Rattle.rules.specs.declared.Refusal.TheVariants.{NoPointers}

-- of two things one
module _ {A : Type 0} (x y : A) where
  cond-not : (t : Bool) → cond (not t) x y ≡ cond t y x
  cond-not true = refl
  cond-not false = refl

-- ---- one pair

module _ (why : Refusal) (stands : List ℕ → Bool) (img : List ℕ) (a0 a1 read : ℕ)
    (reads : copy_read why stands img a0 a1 ≡ given read) where
  pub agree_if_equal : pair_agrees stands img a0 a1 ≡ same (block img a0) (block img a1)
  unfolding pair_agrees
  agree_if_equal =
      by_cases (same (block img a0) (block img a1))
      (λ t. equal t (which_address why stands img a0 a1 read reads) ∙ sym t)
      (λ f. rw f (and_with_false (stands (block img a0) && stands (block img a1))))
    where
      equal : same (block img a0) (block img a1) ≡ true → WhichAddress stands img a0 a1 read
          → stands (block img a0) && stands (block img a1) && same (block img a0) (block img a1) ≡ true
      equal t (inl (stand0, _)) =
          equal_agree stands img a0 a1 stand0 (same_true (block img a0) (block img a1) t)
      equal t (inr (falls, stand1, _)) =
          let e = same_true (block img a0) (block img a1) t in
          absurd (clash (stands (block img a1)) stand1 (subst (λ (b : List ℕ). stands b ≡ false) e falls))

  repair_if_different : repair_pair stands img a0 a1 read ≡ rewriting (repaired img a0 a1 read)
  unfolding repair_pair rewriting repaired
  repair_if_different =
      rw agree_if_equal
      (sym (cond-not (rewrite (cond (eqb read a0) a1 a0) (block img read)) [] (same (block img a0) (block img a1))))

pub either_within : (t : Bool) (a b most : ℕ) → a ≤ most → b ≤ most → cond t a b ≤ most
either_within true a b most ha hb = ha
either_within false a b most ha hb = hb

-- ---- both pairs

module _ (s : Setting) (img : List ℕ) (v : View) (h : view s img ≡ given v) where
  table_copy : copy_read (no_table s img) (table_stands s (length img)) img v.spt0 v.spt1 ≡ given v.table
  unfolding table_read
  table_copy = let k = seen s img v h in rw (k.same_spt0, k.same_spt1) k.table_copy

  pointer_copy : copy_read NoPointers pointers_stand img v.cpb0 v.cpb1 ≡ given v.pointers
  unfolding pointers_read
  pointer_copy = let k = seen s img v h in rw (k.same_cpb0, k.same_cpb1) k.pointer_copy

  pub pairs_agree_if_equal : agree_by s img v ≡ copies_equal img v
  unfolding table_read agree_by tables_agree pointers_agree copies_equal
  pairs_agree_if_equal =
      let k = seen s img v h in
      rw (
        k.same_spt0,
        k.same_spt1,
        agree_if_equal (no_table s img) (table_stands s (length img)) img s.spt0 s.spt1 v.table k.table_copy,
        agree_if_equal NoPointers pointers_stand img v.cpb0 v.cpb1 v.pointers pointer_copy,
      )

  pub repair_by_copies : repair_steps s img v
      ≡ rewriting (repaired img v.spt0 v.spt1 v.table) ++ rewriting (repaired img v.cpb0 v.cpb1 v.pointers)
  unfolding repair_steps
  repair_by_copies =
      rw (
        repair_if_different (no_table s img) (table_stands s (length img)) img v.spt0 v.spt1 v.table table_copy,
        repair_if_different NoPointers pointers_stand img v.cpb0 v.cpb1 v.pointers pointer_copy,
      )
