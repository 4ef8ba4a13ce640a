-- Enable and disable on a pair of pointer blocks that agrees: the bytes that their steps put into the image. Assumes
-- nothing.
use mathlib.Core.Path.{◌≡◌, refl, ap, ◌∙◌}
use mathlib.Core.Bool.{true}
use mathlib.Core.List.{List, [], ◌∷◌}
use Prim.Native.Nat.{ℕ, ◌+◌, ◌<◌}
use native.Mathlib.Omega.{arith}
use lib.Dec.{ltb}
use borrow.Author.Tests.{ltb-true}
use lib.ListN.{length, get_or}
use Rattle.rules.specs.Lists.{without}
use Rattle.rules.specs.Bytes.{bytes_of, erased_byte}
use Rattle.rules.specs.Pointers.{place_offset, place_count, places}
use Rattle.rules.specs.Steps.{steps}
use Rattle.rules.specs.Commands.{filled, pointers_of, reorder_steps, is_first, free_place, into_place, append_steps, enable_steps, giving, into_places, clear_steps, half_cleared_names, disable_steps, enough_places}
use Rattle.rules.specs.Final.{put_pair, put_places, put_places_pair, enabled, disabled}
use Rattle.rules.proofs.Lists.Tests.{by_cases}
use Rattle.rules.proofs.Steps.Programming.{steps_append}
use Rattle.rules.proofs.Steps.Frame.{Only, Range}
use Rattle.rules.proofs.Steps.ProgramCuts.{programs_only}
use Rattle.rules.proofs.Lists.Words.{length-bytes_of}
use Rattle.rules.proofs.Pointers.Placing.{place_start, AllBelow}
use Rattle.rules.proofs.Pointers.PlacesCleared.{giving_below}
use Rattle.rules.proofs.Pointers.PointerPair.{AgreedPointers, old_order, fit, FitsBlock, enabled_order_fits, disabled_order_fits, made_up-length, made_up_bytes}
use Rattle.rules.proofs.Pointers.PointersInPlace.{count_of_places, free_place_blank}
use Rattle.rules.proofs.FinalBytes.PutBytes.{rewrite_pair_puts, erased_place_puts, zeros_put, length-into_places}

module _ (agreed : AgreedPointers) where
  open agreed
      use {granule, c0, c1, holds_block, apart, starts, img, inside0, inside1, bytes, p, copy0, copy1}

  abbrev offset : ℕ
  offset = place_offset p

  abbrev count : ℕ
  count = place_count p

  -- ---- both copies rewritten

  reordering_puts : (o : List ℕ)
      → FitsBlock agreed o
      → steps granule (reorder_steps c0 c1 starts p o) img
      ≡ put_pair granule c0 c1 (filled p (pointers_of starts o)) img
  unfolding reorder_steps
  reordering_puts o new =
      rewrite_pair_puts granule holds_block (filled p (pointers_of starts o))
      (made_up-length agreed o new) (made_up_bytes agreed o new) c0 c1 img inside0 inside1

  -- ---- a pointer in the free place

  module _ (a : ℕ) (free : free_place starts (places p) < count) where
    abbrev u : ℕ
    u = free_place starts (places p)

    appending_puts : steps granule (append_steps c0 c1 offset u a) img
        ≡ put_places_pair c0 c1 offset (bytes_of 8 a) (u ∷ []) img
    unfolding append_steps put_places_pair
    appending_puts =
        steps_append granule (into_place c1 offset (bytes_of 8 a) u) (into_place c0 offset (bytes_of 8 a) u) img
        ∙ erased_place_puts granule c0 offset count (fit agreed).in_block a u mid
        (rw only.same_length (omega arith)) free still_blank
        ∙ ap (put_places c0 offset (bytes_of 8 a) (u ∷ []))
        (erased_place_puts granule c1 offset count (fit agreed).in_block a u img (omega arith) free
        (free_place_blank agreed free c1 img copy1 (omega arith) bytes))
      where
        mid : List ℕ
        mid = steps granule (into_place c1 offset (bytes_of 8 a) u) img

        only : Only (Range (place_start c1 offset u) 8) img mid
        only =
            unfold into_place in
            rw (length-bytes_of 8 a) at (programs_only granule (place_start c1 offset u) (bytes_of 8 a) img)

        still_blank : (j : ℕ) → j < 8 → get_or mid (place_start c0 offset u + j) 0 ≡ erased_byte
        still_blank j l =
            let room = (fit agreed).in_block in
            only.elsewhere (place_start c0 offset u + j)
            (λ r. apart (place_start c0 offset u + j) (omega arith, omega arith) (omega arith, omega arith))
            ∙ free_place_blank agreed free c0 img copy0 (omega arith) bytes j l

  -- ---- zeros in the places of a slot

  clearing_puts : (k : ℕ)
      → steps granule (clear_steps c0 c1 offset (giving starts k 0 (places p))) img
      ≡ put_places_pair c0 c1 offset (bytes_of 8 0) (giving starts k 0 (places p)) img
  unfolding clear_steps put_places_pair
  clearing_puts k =
      steps_append granule (into_places c1 offset (bytes_of 8 0) ks) (into_places c0 offset (bytes_of 8 0) ks) img
      ∙ zeros_put granule c0 offset count (fit agreed).in_block ks mid
      (rw (length-into_places granule c1 offset (bytes_of 8 0) ks img) (omega arith)) below
      ∙ ap (put_places c0 offset (bytes_of 8 0) ks)
      (zeros_put granule c1 offset count (fit agreed).in_block ks img (omega arith) below)
    where
      ks : List ℕ
      ks = giving starts k 0 (places p)

      mid : List ℕ
      mid = steps granule (into_places c1 offset (bytes_of 8 0) ks) img

      below : AllBelow count ks
      below = giving_below count starts k 0 (places p) (omega (arith, count_of_places agreed))

  -- ---- enable and disable

  pub enable_puts : (k : ℕ)
      → k < length starts
      → enough_places starts p k ≡ true
      → steps granule (enable_steps c0 c1 starts p k) img ≡ enabled granule c0 c1 starts p k img
  unfolding enable_steps enabled
  enable_puts k there fits =
      by_cases (is_first k (old_order agreed))
      (λ t. rw t (unfold steps in refl))
      (λ f. by_cases (ltb (free_place starts (places p)) count)
      (λ u. rw (f, u) (appending_puts (get_or starts k 0) (ltb-true (free_place starts (places p)) count u)))
      (λ u. rw (f, u) (reordering_puts (k ∷ without k (old_order agreed)) (enabled_order_fits agreed k there fits))))

  pub disable_puts : (k : ℕ)
      → steps granule (disable_steps c0 c1 starts p k) img ≡ disabled granule c0 c1 starts p k img
  unfolding disable_steps disabled
  disable_puts k =
      by_cases (half_cleared_names starts (get_or starts k 0))
      (λ t. rw t (reordering_puts (without k (old_order agreed)) (disabled_order_fits agreed k)))
      (λ f. rw f (clearing_puts k))
