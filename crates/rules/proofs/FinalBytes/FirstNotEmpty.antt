-- What a finished enable has put first is not empty: the slot was not empty at the start, and no step touches a slot.
-- Assumes nothing.
use mathlib.Core.Path.{◌≡◌, refl, sym, subst}
use mathlib.Core.Bool.{true, false}
use mathlib.Core.Logic.{inl, inr}
use mathlib.Core.List.{List}
use Prim.Native.Nat.{ℕ, ◌<◌}
use native.Mathlib.Omega.{arith}
use lib.ListN.{length, get_or}
use borrow.Author.Tests.{ltb-true}
use Rattle.rules.specs.Bytes.{Bytes, block, block_size}
use Rattle.rules.specs.Answers.{given}
use Rattle.rules.specs.declared.Setting.{Setting}
use Rattle.rules.specs.Table.{entries, slots, starts, cpb0_of, cpb1_of}
use Rattle.rules.specs.Copies.{view, agree_by}
use Rattle.rules.specs.Readers.{slot_there}
use Rattle.rules.specs.Commands.{slot_empty, enable, job}
use Rattle.rules.specs.Book.{NameBytes}
use Rattle.rules.specs.Final.{final}
use Rattle.rules.specs.declared.Step.{Step}
use Rattle.rules.specs.declared.View.{View}
use Rattle.rules.proofs.Lists.Tests.{unless-given}
use Rattle.rules.proofs.EmptySlots.{not_empty_if_given}
use Rattle.rules.proofs.Steps.Frame.{Only, Range, block_kept}
use Rattle.rules.proofs.Table.Standing.{Standing, standing, the_block, spt0_told, spt1_told}
use Rattle.rules.proofs.Table.SlotStarts.{length_fits, slot_off_block}
use Rattle.rules.proofs.Claim.Invariant.{Beginning, FourGranules}
use Rattle.rules.proofs.Claim.Viewing.{viewed, table_stands_there, beginning}
use Rattle.rules.proofs.FinalBytes.FinalBytes.{finished_kept}
use Rattle.rules.specs.declared.Refusal.TheVariants.{CopiesDiffer, NoSuchSlot}

-- a slot keeps its first 4,096 bytes while only the first granules of the four blocks change
module _ (b : Beginning) (t : List ℕ) (st : Standing b.s (length b.first) t) (at0 : cpb0_of t ≡ b.c0)
    (at1 : cpb1_of t ≡ b.c1) where
  open b use {s, first, refusal1}

  slots_kept : (img : List ℕ) → Only (FourGranules b) first img
      → (k : ℕ)
      → k < length (slots (entries t))
      → block img (get_or (starts t) k 0) ≡ block first (get_or (starts t) k 0)
  unfolding cpb0_of cpb1_of
  slots_kept img o k l = block_kept (FourGranules b) (get_or (starts t) k 0) o off
    where
      away : (i : ℕ) → i < 4 → (a : ℕ) → (the_block s (length first) t st i).start ≡ a
          → (j : ℕ)
          → Range (get_or (starts t) k 0) block_size j
          → Range a s.granule j
          → ⊥
      away i li a e j r q =
          slot_off_block s (length first) t (length_fits (length first) refusal1) st i li k l j r
          (subst (λ (x : ℕ). Range x s.granule j) (sym e) q)

      off : (j : ℕ) → Range (get_or (starts t) k 0) block_size j → FourGranules b j → ⊥
      off j r (inl (inl q)) = away 0 (omega arith) s.spt0 (spt0_told s (length first) t st) j r q
      off j r (inl (inr q)) = away 1 (omega arith) s.spt1 (spt1_told s (length first) t st) j r q
      off j r (inr (inl q)) = away 2 (omega arith) b.c0 at0 j r q
      off j r (inr (inr q)) = away 3 (omega arith) b.c1 at1 j r q

module _ (s : Setting) (img : List ℕ) (v : View) (k : ℕ) (ss : List Step)
    (bytes : Bytes img) (views : view s img ≡ given v) (starts_with : job s img v (enable k) ≡ given ss) where
  abbrev t : List ℕ
  t = block img v.table

  passed : (slot_there (entries t) k ≡ true) × (slot_empty img (get_or (starts t) k 0) ≡ false)
  unfolding job
  passed =
      let (_, e7) = unless-given CopiesDiffer (agree_by s img v) _ ss starts_with in
      let (there, e14) = unless-given NoSuchSlot (slot_there (entries t) k) _ ss e7 in
      (there, (not_empty_if_given img (get_or (starts t) k 0) _ ss e14).0)

  pub first_not_empty : slot_empty (final s img v (enable k)) (get_or (starts t) k 0) ≡ false
  unfolding slot_empty slot_there NameBytes
  first_not_empty =
      let w = viewed s img v views in
      rw (slots_kept (beginning s img v w) t (standing s (length img) t (table_stands_there s img v w)) refl refl
      (final s img v (enable k)) (finished_kept s img v (enable k) ss bytes tt views starts_with) k
      (ltb-true k (length (slots (entries t))) passed.0))
      passed.1
