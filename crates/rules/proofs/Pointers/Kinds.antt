-- A value at which a slot of a standing table starts is not erased, not 0 and has no top byte 0xFF, and 0 is not erased:
-- of the five kinds of a place only one fits a value, so that it does not matter in which order they are asked.
-- Assumes nothing.
use mathlib.Core.Path.{◌≡◌, refl}
use mathlib.Core.Bool.{false}
use mathlib.Core.List.{List}
use Rattle.std.specs.Prelude.{Some}
use Prim.Native.Nat.{ℕ, ◌/◌, ◌<◌}
use native.Mathlib.Omega.{arith}
use borrow.Author.Tests.{ne_eqb}
use Rattle.rules.specs.Numbers.{longest}
use Rattle.rules.specs.Pointers.{erased_value, all_ones, all_zeros, top_byte_erased, slot_at}
use Rattle.rules.proofs.Order.Clearing.{slot_at-some}
use Rattle.rules.proofs.Table.SlotStarts.{SlotStarts}

no_other_kind : (v : ℕ) → 0 < v → v < longest
    → (all_ones v ≡ false) × (all_zeros v ≡ false) × (top_byte_erased v ≡ false)
unfolding all_ones all_zeros top_byte_erased
no_other_kind v above inside = (
  ne_eqb v erased_value (λ e. omega arith),
  ne_eqb v 0 (λ e. omega arith),
  ne_eqb (v / 0x100000000000000) 0xFF (λ e. omega arith),
)

pub only_live : (starts : List ℕ) → SlotStarts starts → (v k : ℕ) → slot_at starts v ≡ Some k
    → (all_ones v ≡ false) × (all_zeros v ≡ false) × (top_byte_erased v ≡ false)
only_live starts right v k e =
    let (there, start) = slot_at-some starts v k e in
    no_other_kind v
    (rw start at (right.above_0 k there))
    (rw start at (right.inside k there))

pub zero_not_erased : all_ones 0 ≡ false
unfolding all_ones
zero_not_erased = refl
