-- From any flash that has a reading, its pairs agreeing or not, the book follows the flash through every list of items
-- of a set of commands whose jobs are right. Assumes nothing.
use mathlib.Core.Path.{◌≡◌, refl, subst}
use mathlib.Core.Bool.{Bool}
use mathlib.Core.Logic.{◌⊎◌, inl, inr}
use mathlib.Core.List.{List, [], ◌∷◌}
use Prim.Native.Nat.{ℕ}
use Rattle.rules.specs.Bytes.{Bytes, block}
use Rattle.rules.specs.Answers.{given}
use Rattle.rules.specs.declared.Setting.{Setting}
use Rattle.rules.specs.Table.{cpb0_of, cpb1_of}
use Rattle.rules.specs.Copies.{view}
use Rattle.rules.specs.Book.{Reading, CommandSet, Item, read_by, reading, flash_after, outcome, booked, InGranule, Untouched, Holds, Follows, AllProper}
use Rattle.rules.specs.declared.View.{View}
use Rattle.rules.proofs.Lists.Tests.{bind_given, given_inj}
use Rattle.rules.proofs.Steps.Frame.{Only}
use Rattle.rules.proofs.Claim.Invariant.{Beginning, FourGranules, Invariant, reading_is}
use Rattle.rules.proofs.Claim.Viewing.{viewed, beginning, holds_at_first}
use Rattle.rules.proofs.Claim.OneItem.{AllRight, ItemRight, one_item}

-- ---- from where the invariant holds

module _ (b : Beginning) (t : List ℕ) (at0 : cpb0_of t ≡ b.c0) (at1 : cpb1_of t ≡ b.c1) where
  open b use {s, first}

  pub untouched : (img : List ℕ) → Only (FourGranules b) first img → Untouched s t first img
  unfolding InGranule
  untouched img o = record {
    same_length = o.same_length;
    same_bytes = λ i t0 t1 p0 p1. o.elsewhere i (none_of_four t0 t1 (moved i at0 p0) (moved i at1 p1));
  }
    where
      moved : (i : ℕ) {c d : ℕ} → c ≡ d → (InGranule s c i → ⊥) → InGranule s d i → ⊥
      moved i e = subst (λ (a : ℕ). InGranule s a i → ⊥) e

      none_of_four : {A B C D : Type 0} → (A → ⊥) → (B → ⊥) → (C → ⊥) → (D → ⊥) → (A ⊎ B) ⊎ (C ⊎ D) → ⊥
      none_of_four a b c d (inl (inl x)) = a x
      none_of_four a b c d (inl (inr x)) = b x
      none_of_four a b c d (inr (inl x)) = c x
      none_of_four a b c d (inr (inr x)) = d x

module _ (C : CommandSet) (all_right : AllRight C) where
  module _ (b : Beginning) (t : List ℕ) (at0 : cpb0_of t ≡ b.c0) (at1 : cpb1_of t ≡ b.c1) where
    open b use {s, first}

    item_holds : (img : List ℕ) (r : Reading) (i : Item C) (choice : Bool)
        → ItemRight C all_right b img r i choice
        → Holds s t first (flash_after s img i) (outcome s img i) (booked C s img i.command (outcome s img i) choice r)
    item_holds img r i choice w = record {
      reads = reading_is b (flash_after s img i) (booked C s img i.command (outcome s img i) choice r) w.holds;
      agrees = w.agrees;
      untouched = untouched b t at0 at1 (flash_after s img i) w.holds.kept;
    }

    every_list : (is : List (Item C))
        → AllProper is
        → (img : List ℕ) (r : Reading)
        → Invariant b img r
        → (choices : List Bool) × Follows s t first is choices img r
    unfolding Follows AllProper
    every_list [] proper img r h = ([], tt)
    every_list (i ∷ is) proper img r h =
        let (choice, w) = one_item C all_right b img r h i proper.0 in
        let r' : Reading = booked C s img i.command (outcome s img i) choice r in
        let (choices, rest) = every_list is proper.1 (flash_after s img i) r' w.holds in
        (choice ∷ choices, (item_holds img r i choice w, rest))

  -- ---- from any flash with a reading

  abbrev Followed : Setting → List ℕ → List (Item C) → Reading → Type 0
  Followed s img is r = (choices : List Bool) × Follows s r.table img is choices img r

  from_any_view : (s : Setting) (img : List ℕ) (v : View)
      → Bytes img
      → view s img ≡ given v
      → (is : List (Item C))
      → AllProper is
      → Followed s img is (read_by img v)
  unfolding read_by
  from_any_view s img v bytes e is proper =
      let w = viewed s img v e in
      every_list (beginning s img v w) (block img v.table) refl refl is proper img (read_by img v)
      (holds_at_first s img v w bytes)

  pub from_any_reading : (s : Setting) (img : List ℕ) (r : Reading)
      → Bytes img
      → reading s img ≡ given r
      → (is : List (Item C))
      → AllProper is
      → (choices : List Bool) × Follows s r.table img is choices img r
  unfolding reading
  from_any_reading s img r bytes e is proper =
      let (v, ev, q) = bind_given (view s img) _ r e in
      subst (Followed s img is) (given_inj (read_by img v) r q) (from_any_view s img v bytes ev is proper)
