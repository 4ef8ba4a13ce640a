-- The header of a pointer block: what stands by it, where its places lie, and that blocks with one header agree on
-- both. Assumes nothing.
use mathlib.Core.Path.{◌≡◌}
use mathlib.Core.Bool.{Bool, true, false, ◌&&◌}
use mathlib.Core.List.{List}
use Prim.Native.Nat.{ℕ, ◌+◌, ◌*◌, ◌-◌, ◌/◌, ◌≤◌, ◌<◌}
use native.Mathlib.Omega.{arith}
use lib.Dec.{eqb, leb}
use borrow.Author.Tests.{leb-true}
use lib.ListN.{take, drop}
use Rattle.rules.specs.Bytes.{block_size, field, multiple}
use Rattle.rules.specs.Pointers.{place_offset, place_count, pointers_magic, offset_right, fits_room, pointers_stand, values, places}
use Rattle.rules.proofs.Lists.Tests.{and_true}
use Rattle.rules.proofs.Lists.ByteLists.{field_by_front}
use Rattle.rules.proofs.Steps.Frame.{Range}
use Rattle.rules.proofs.Steps.RewriteCuts.{Torn, torn_magic}
use Rattle.rules.proofs.Copies.PairCuts.{Pair}

-- the bytes up to the last field that is judged
abbrev pub header_size : ℕ
header_size = 0x18

abbrev pub SameHeader : List ℕ → List ℕ → Type 0
SameHeader p p' = take header_size p' ≡ take header_size p

-- ---- what a standing block's header says

-- the one lemma that knows the rule of offset and count
pub record PlacesFit (p : List ℕ) : Type 0 where
  pub after_header : header_size ≤ place_offset p
  pub in_block : place_offset p + 8 * place_count p ≤ block_size
  pub one_place : 0 < place_count p
  pub at_most_508 : place_count p ≤ 508

pub places_fit : (p : List ℕ) → pointers_stand p ≡ true → PlacesFit p
unfolding pointers_stand offset_right fits_room
places_fit p h =
    let offset = place_offset p in
    let count = place_count p in
    let sizes : Bool =
    eqb (field 0x00 4 p) pointers_magic && eqb (field 0x04 4 p) 0x18 && eqb (field 0x08 4 p) block_size in
    let (four, fits) = and_true (sizes && offset_right offset) (fits_room offset count) h in
    let (_, right) = and_true sizes (offset_right offset) four in
    let (from_0x20, _) = and_true (multiple 8 offset && leb 0x20 offset) (leb offset 4088) right in
    let low = leb-true 0x20 offset (and_true (multiple 8 offset) (leb 0x20 offset) from_0x20).1 in
    let (some, few) = and_true (leb 1 count) (leb count ((block_size - offset) / 8)) fits in
    let least = leb-true 1 count some in
    let most = leb-true count ((block_size - offset) / 8) few in
    record {
      after_header = omega arith;
      in_block = omega arith;
      one_place = omega arith;
      at_most_508 = omega arith;
    }

pub pointers_torn : (p : List ℕ) → Torn p → pointers_stand p ≡ false
unfolding pointers_stand
pointers_torn p t = rw (torn_magic pointers_magic (record { not_erased = λ e. omega arith; not_zero = λ e. omega arith; highest_not_erased = omega arith }) p t)

-- two pointer blocks on granules of their own
abbrev pub two_pointer_blocks : (g c0 c1 : ℕ)
    → block_size ≤ g
    → ((i : ℕ) → Range c0 g i → Range c1 g i → ⊥)
    → Pair
two_pointer_blocks g c0 c1 holds_block apart = record {
  granule = g;
  stands = pointers_stand;
  a0 = c0;
  a1 = c1;
  torn_falls = pointers_torn;
  holds_block = holds_block;
  apart = apart;
}

-- ---- blocks with one header

module _ (p p' : List ℕ) (e : SameHeader p p') where
  header_field : (offset n : ℕ) → offset + n ≤ header_size → field offset n p' ≡ field offset n p
  header_field offset n h = field_by_front header_size offset n p p' h e

  pub stand_alike : pointers_stand p' ≡ pointers_stand p
  unfolding pointers_stand place_offset place_count
  stand_alike =
      rw (
        header_field 0x00 4 (omega arith),
        header_field 0x04 4 (omega arith),
        header_field 0x08 4 (omega arith),
        header_field 0x10 4 (omega arith),
        header_field 0x14 4 (omega arith),
      )

  pub places_alike : places p' ≡ values (place_count p) (drop (place_offset p) p')
  unfolding places place_offset place_count
  places_alike = rw (header_field 0x10 4 (omega arith), header_field 0x14 4 (omega arith))
