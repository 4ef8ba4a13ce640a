-- The jobs of enable and disable on a flash whose pairs agree: at every cut the boot order is the old or the new one.
-- Assumes nothing.
use mathlib.Core.Path.{subst, ◌≡◌, refl, sym, ap, ◌∙◌}
use mathlib.Core.Bool.{true, false}
use mathlib.Core.Logic.{◌⊎◌, inl, inr}
use mathlib.Core.List.{List, [], ◌∷◌}
use Prim.Native.Nat.{ℕ, ◌<◌}
use lib.Dec.{ltb}
use borrow.Author.Tests.{eqb-true, ltb-true}
use lib.ListN.{length, get_or}
use Rattle.rules.specs.Lists.{without}
use Rattle.rules.specs.Bytes.{block}
use Rattle.rules.specs.Table.{starts}
use Rattle.rules.specs.Pointers.{place_count, pointers_stand, places, order}
use Rattle.rules.specs.Steps.{steps}
use Rattle.rules.specs.Copies.{order_by}
use Rattle.rules.specs.Commands.{enable, disable, is_first, free_place, enable_steps, disable_steps, half_cleared_names, enough_places}
use Rattle.rules.specs.Book.{Reading, changed}
use Rattle.rules.specs.declared.Step.{Step}
use Rattle.rules.proofs.Lists.Tests.{by_cases, clash}
use Rattle.rules.proofs.Order.Clearing.{without_absent}
use Rattle.rules.proofs.Steps.Cutting.{cut_all}
use Rattle.rules.proofs.Copies.CopyRead.{equal_read, first_read}
use Rattle.rules.proofs.Steps.Frame.{within_wider}
use Rattle.rules.proofs.Copies.PairCuts.{Changes}
use Rattle.rules.proofs.Order.OnceEach.{Once, once_order}
use Rattle.rules.proofs.Pointers.PointerPair.{AgreedPointers, OrderAtCut, Reorders, no_steps_reorder, enabled_order_fits, disabled_order_fits, rewriting_reorders}
use Rattle.rules.proofs.Pointers.PointersInPlace.{appending_reorders, clearing_reorders}
use Rattle.rules.proofs.Claim.Invariant.{Beginning, granule_holds_block, apart_ranges, PointerGranules, FourGranules, Invariant, BothEqual, pointer_pair, tables_kept, blocks_inside, starts_right, with_new_pointers}
use Rattle.rules.proofs.Claim.JobRight.{Leads, JobRight, job_right}

-- an order whose first slot is put first again
first_again : (n k : ℕ) (o : List ℕ) → Once n o → is_first k o ≡ true → k ∷ without k o ≡ o
unfolding is_first without
first_again n k [] u t = absurd (clash false t refl)
first_again n k (x ∷ o) (m, l, u) t =
    let e : k ≡ x = eqb-true k x t in
    rw t (subst (λ (w : ℕ). w ∷ without w o ≡ x ∷ o) (sym e) (ap (λ (y : List ℕ). x ∷ y) (without_absent x o m)))

module _ (beginning : Beginning) (img : List ℕ) (r : Reading) (h : Invariant beginning img r)
    (equal : BothEqual beginning img) where
  open beginning use {s, c0, c1, refusal2, blocks}

  abbrev p : List ℕ
  p = h.pointers

  abbrev xs : List ℕ
  xs = starts r.table

  abbrev old : List ℕ
  old = order xs (places p)

  pub copy0_read : (block img c0 ≡ p) × (pointers_stand (block img c0) ≡ true)
  copy0_read = equal_read pointers_stand (block img c0) (block img c1) p h.reads_pointers equal.1

  abbrev pub agreed : AgreedPointers
  agreed = record {
    granule = s.granule;
    c0 = c0;
    c1 = c1;
    holds_block = granule_holds_block s.granule refusal2;
    apart = apart_ranges s.granule c0 c1 blocks.pointers_apart;
    starts = xs;
    right = starts_right beginning img r h;
    img = img;
    inside0 = (blocks_inside beginning img r h).cpb0_inside;
    inside1 = (blocks_inside beginning img r h).cpb1_inside;
    bytes = h.bytes;
    p = p;
    copy0 = copy0_read.0;
    copy1 = sym equal.1 ∙ copy0_read.0;
    stands = rw copy0_read.0 at copy0_read.1;
  }

  -- ---- steps that lead to another order

  abbrev with_order : List ℕ → Reading
  with_order o = record { table = r.table; boot = o }

  reorders_right : (new : List ℕ) (ss : List Step)
      → Reorders agreed new ss
      → Leads beginning img r (with_order new) ss
  unfolding order_by
  reorders_right new ss w =
      job_right beginning img r ss (with_order new)
      (within_wider s.granule (length img) (PointerGranules beginning) (FourGranules beginning) ss
      (λ i q. inr q) w.within)
      (λ img' d. which img' (w.at_cut img' d)) end_holds
      (let (t0, t1) = tables_kept beginning end_changes in t0 ∙ equal.0 ∙ sym t1, w.at_end.equal)
    where
      end : List ℕ
      end = steps s.granule ss img

      end_changes : Changes (pointer_pair beginning) img end
      end_changes = (w.at_cut end (cut_all s.granule ss img)).changes

      end_holds : Invariant beginning end (with_order new)
      end_holds =
          with_new_pointers beginning img r h end end_changes (block end c0)
          (first_read pointers_stand (block end c0) (block end c1) w.at_end.still_stands) new
          w.at_end.reordered

      which : (img' : List ℕ)
          → OrderAtCut agreed new img'
          → Invariant beginning img' r ⊎ Invariant beginning img' (with_order new)
      which img' c = read c.old_or_new
        where
          read : (order xs (places c.read) ≡ old) ⊎ (order xs (places c.read) ≡ new)
              → Invariant beginning img' r ⊎ Invariant beginning img' (with_order new)
          read (inl o) =
              inl (with_new_pointers beginning img r h img' c.changes c.read c.reads r.boot (o ∙ h.boots))
          read (inr o) =
              inr (with_new_pointers beginning img r h img' c.changes c.read c.reads new o)

  -- ---- enable

  module _ (k : ℕ) (there : k < length xs) where
    module _ (fits : enough_places xs p k ≡ true) where
      enable_reorders : Reorders agreed (k ∷ without k old) (enable_steps c0 c1 xs p k)
      unfolding enable_steps
      enable_reorders =
          by_cases (is_first k old)
          (λ t. rw t
          (no_steps_reorder agreed (k ∷ without k old) (first_again (length xs) k old (once_order xs (places p)) t)))
          (λ f. by_cases (ltb (free_place xs (places p)) (place_count p))
          (λ u. rw (f, u) (appending_reorders agreed k there (ltb-true (free_place xs (places p)) (place_count p) u)))
          (λ u. rw (f, u) (rewriting_reorders agreed (k ∷ without k old) (enabled_order_fits agreed k there fits))))

      pub enable_right : JobRight beginning img r (enable k) (enable_steps c0 c1 xs p k)
      unfolding changed order_by
      enable_right =
          subst (λ (o : List ℕ). Leads beginning img r (with_order (k ∷ without k o)) (enable_steps c0 c1 xs p k)) h.boots
          (reorders_right (k ∷ without k old) (enable_steps c0 c1 xs p k) enable_reorders)

    -- ---- disable

    disable_reorders : Reorders agreed (without k old) (disable_steps c0 c1 xs p k)
    unfolding disable_steps
    disable_reorders =
        by_cases (half_cleared_names xs (get_or xs k 0))
        (λ t. rw t (rewriting_reorders agreed (without k old) (disabled_order_fits agreed k)))
        (λ f. rw f (clearing_reorders agreed k there f))

    pub disable_right : JobRight beginning img r (disable k) (disable_steps c0 c1 xs p k)
    unfolding changed order_by
    disable_right =
        subst (λ (o : List ℕ). Leads beginning img r (with_order (without k o)) (disable_steps c0 c1 xs p k)) h.boots
        (reorders_right (without k old) (disable_steps c0 c1 xs p k) disable_reorders)
