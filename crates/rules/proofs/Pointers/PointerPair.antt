-- A pair of pointer blocks that agrees, and steps that give it another boot order; those that rewrite both. Assumes
-- nothing.
use mathlib.Core.Path.{◌≡◌, refl, sym, ◌∙◌, subst}
use mathlib.Core.Bool.{true}
use mathlib.Core.Logic.{◌⊎◌, inl, inr}
use mathlib.Core.List.{List, [], ◌∷◌}
use Prim.Native.Nat.{ℕ, ◌+◌, ◌≤◌, ◌<◌}
use native.Mathlib.Omega.{arith}
use borrow.Author.Tests.{leb-true}
use lib.ListN.{length, drop}
use Rattle.rules.specs.Lists.{without}
use Rattle.rules.specs.Bytes.{Bytes, block, block_size}
use Rattle.rules.specs.declared.Step.{Step}
use Rattle.rules.specs.Pointers.{place_offset, place_count, pointers_stand, places, order}
use Rattle.rules.specs.Steps.{steps, rewrite_pair}
use Rattle.rules.specs.Commands.{filled, pointers_of, reorder_steps, enough_places}
use Rattle.rules.proofs.Steps.Cutting.{Cut}
use Rattle.rules.proofs.Steps.Frame.{Range, only_none, StepsWithin, length-block, bytes_block}
use Rattle.rules.proofs.Copies.CopyRead.{first_read}
use Rattle.rules.proofs.Copies.PairCuts.{Two, Pair, Reads, Changes, rewrite_pair_within, rewrite_pair_cut, rewrite_pair_done}
use Rattle.rules.proofs.Table.SlotStarts.{SlotStarts}
use Rattle.rules.proofs.Pointers.PointerHeader.{PlacesFit, places_fit, two_pointer_blocks}
use Rattle.rules.proofs.Order.OnceEach.{Once, once_order, once_first, once_without, order-length, without-length}
use Rattle.rules.proofs.Lists.Words.{length-values}
use Rattle.rules.proofs.Pointers.Filling.{length-pointers_of, length-filled, bytes_filled, filled_stands, filled-order}

-- two copies of the block p in an image, with the slots' starts
pub record AgreedPointers : Type 0 where
  pub granule : ℕ
  pub c0 : ℕ
  pub c1 : ℕ
  pub holds_block : block_size ≤ granule
  pub apart : (i : ℕ) → Range c0 granule i → Range c1 granule i → ⊥
  pub starts : List ℕ
  pub right : SlotStarts starts
  pub img : List ℕ
  pub inside0 : c0 + granule ≤ length img
  pub inside1 : c1 + granule ≤ length img
  pub bytes : Bytes img
  pub p : List ℕ
  pub copy0 : block img c0 ≡ p
  pub copy1 : block img c1 ≡ p
  pub stands : pointers_stand p ≡ true

module _ (agreed : AgreedPointers) where
  open agreed
      use {granule, c0, c1, holds_block, apart, starts, right, img, inside0, inside1, bytes, p, copy0, copy1, stands}

  abbrev pub both : Pair
  both = two_pointer_blocks granule c0 c1 holds_block apart

  abbrev pub old_order : List ℕ
  old_order = order starts (places p)

  abbrev pub fit : PlacesFit p
  fit = places_fit p stands

  -- ---- steps that lead to another order

  pub record OrderAtCut (new img' : List ℕ) : Type 0 where
    pub changes : Changes both img img'
    pub read : List ℕ
    pub reads : Reads both img' read
    pub old_or_new : (order starts (places read) ≡ old_order) ⊎ (order starts (places read) ≡ new)

  pub record OrderAtEnd (new img' : List ℕ) : Type 0 where
    pub equal : block img' c0 ≡ block img' c1
    pub still_stands : pointers_stand (block img' c0) ≡ true
    pub reordered : order starts (places (block img' c0)) ≡ new

  -- only the two granules are touched; at every cut the order is the old one or the new one; at the end it is the new
  -- one in both copies
  pub record Reorders (new : List ℕ) (ss : List Step) : Type 0 where
    pub within : StepsWithin granule (length img) (Two granule c0 c1) ss
    pub at_cut : (img' : List ℕ) → Cut granule ss img img' → OrderAtCut new img'
    pub at_end : OrderAtEnd new (steps granule ss img)

  pub no_steps_reorder : (new : List ℕ) → new ≡ old_order → Reorders new []
  no_steps_reorder new e = record {
    within = tt;
    at_cut = λ img' d. record {
      changes = only_none img img' d;
      read = p;
      reads = rw (d, copy0) (first_read pointers_stand p (block img c1) stands);
      old_or_new = inl refl;
    };
    at_end = unfold steps in record {
      equal = copy0 ∙ sym copy1;
      still_stands = rw copy0 stands;
      reordered = rw copy0 (sym e);
    };
  }

  -- ---- both copies rewritten

  length-p : length p ≡ block_size
  length-p = subst (λ (b : List ℕ). length b ≡ block_size) copy0 (length-block img c0 (omega arith))

  bytes_p : Bytes p
  bytes_p = subst Bytes copy0 (bytes_block img c0 (omega arith) bytes)

  -- each slot once, and no more than there are places
  pub record FitsBlock (o : List ℕ) : Type 0 where
    pub once : Once (length starts) o
    pub short : length o ≤ place_count p

  old_once : Once (length starts) old_order
  old_once = once_order starts (places p)

  pub enabled_order_fits : (k : ℕ) → k < length starts → enough_places starts p k ≡ true → FitsBlock (k ∷ without k old_order)
  unfolding enough_places
  enabled_order_fits k there fits = record {
    once = once_first (length starts) k old_order there old_once;
    short = leb-true (length (k ∷ without k old_order)) (place_count p) fits;
  }

  pub disabled_order_fits : (k : ℕ) → FitsBlock (without k old_order)
  unfolding places
  disabled_order_fits k = record {
    once = once_without (length starts) k old_order old_once;
    short =
        let places_length = length-values (place_count p) (drop (place_offset p) p) in
        omega (arith, without-length k old_order, order-length starts (places p));
  }

  module _ (o : List ℕ) (new : FitsBlock o) where
    abbrev made_up : List ℕ
    made_up = filled p (pointers_of starts o)

    few : length (pointers_of starts o) ≤ place_count p
    few = rw (length-pointers_of starts o) new.short

    made_up_stands : pointers_stand made_up ≡ true
    made_up_stands = filled_stands p length-p fit (pointers_of starts o) few ∙ stands

    made_up-order : order starts (places made_up) ≡ o
    made_up-order = filled-order starts right p length-p fit o new.short new.once

    pub made_up-length : length made_up ≡ block_size
    made_up-length = length-filled p length-p fit (pointers_of starts o) few

    pub made_up_bytes : Bytes made_up
    made_up_bytes = bytes_filled p length-p fit (pointers_of starts o) few bytes_p

    pub rewriting_reorders : Reorders o (reorder_steps c0 c1 starts p o)
    unfolding reorder_steps
    rewriting_reorders = record {
      within = rewrite_pair_within both (length img) made_up made_up-length inside0 inside1;
      at_cut = cut;
      at_end = done;
    }
      where
        cut : (img' : List ℕ) → Cut granule (rewrite_pair c0 c1 made_up) img img' → OrderAtCut o img'
        cut img' d =
            let (c, r) = rewrite_pair_cut both img inside0 inside1 made_up made_up-length made_up_bytes
            made_up_stands (rw copy0 stands) img' d in
            split c r
          where
            split : Changes both img img' → Reads both img' (block img c0) ⊎ Reads both img' made_up → OrderAtCut o img'
            split c (inl r) = record { changes = c; read = p; reads = r ∙ rw copy0; old_or_new = inl refl }
            split c (inr r) = record { changes = c; read = made_up; reads = r; old_or_new = inr made_up-order }

        done : OrderAtEnd o (steps granule (rewrite_pair c0 c1 made_up) img)
        done =
            let (e0, e1) = rewrite_pair_done both img inside0 inside1 made_up made_up-length made_up_bytes in
            record { equal = e0 ∙ sym e1; still_stands = rw e0 made_up_stands; reordered = rw e0 made_up-order }
