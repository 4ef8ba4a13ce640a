-- What a place with a value holds, case by case. Assumes nothing.
use mathlib.Core.Path.{◌≡◌, ◌∙◌}
use mathlib.Core.Bool.{cond}
use mathlib.Core.List.{List}
use Prim.Native.Nat.{ℕ, ◌<◌, ◌/◌}
use borrow.Author.Tests.{eq-eqb, ne_eqb}
use lib.ListN.{length}
use Rattle.rules.specs.Table.{entries, starts}
use Rattle.rules.specs.Pointers.{judged, erased_value, all_ones, all_zeros, top_byte_erased, live_or}
use Rattle.rules.specs.declared.SlotNo.{SlotNo}
use Rattle.rules.specs.declared.Place.TheVariants.{Erased, Spent, Live, PartWritten, Stray}
use Rattle.walks.specs.Find.{find}
use Rattle.walks.specs.Entries.{slot_from}
use Rattle.walks.proofs.Slots.{slot_at_found, slot_at_not_found}
use Rattle.slots.specs.Inner.RowsOf.{slots_before}

pub judged_erased : (starts : List ℕ) (v : ℕ) → v ≡ erased_value → judged starts v ≡ Erased
unfolding judged all_ones
judged_erased starts v e = rw (eq-eqb v erased_value e)

pub judged_spent : (starts : List ℕ) (v : ℕ) → v ≡ 0 → judged starts v ≡ Spent
unfolding judged all_ones all_zeros
judged_spent starts v e = rw e

module _ (t : List ℕ) (v i : ℕ) (used : v ≡ erased_value → ⊥) (some : v ≡ 0 → ⊥)
    (found : i ≡ find (slot_from v) (entries t))
  where
    pub judged_live : (s : SlotNo) → find (slot_from v) (entries t) < length (entries t) → s.0 ≡ slots_before t i → judged (starts t) v ≡ Live s
    unfolding judged all_ones all_zeros live_or starts slots_before
    judged_live s within e =
        rw (
          ne_eqb v erased_value used,
          ne_eqb v 0 some,
          slot_at_found (entries t) v i found (rw found within),
          ← e,
        )

    no_slot : i ≡ length (entries t) → judged (starts t) v ≡ cond (top_byte_erased v) PartWritten (Stray v)
    unfolding judged all_ones all_zeros live_or starts
    no_slot none =
        rw (ne_eqb v erased_value used, ne_eqb v 0 some, slot_at_not_found (entries t) v i found none)

    pub judged_part_written : i ≡ length (entries t) → v / 0x100000000000000 ≡ 0xFF → judged (starts t) v ≡ PartWritten
    unfolding top_byte_erased
    judged_part_written none top = no_slot none ∙ rw (eq-eqb (v / 0x100000000000000) 0xFF top)

    pub judged_stray : i ≡ length (entries t) → (v / 0x100000000000000 ≡ 0xFF → ⊥) → judged (starts t) v ≡ Stray v
    unfolding top_byte_erased
    judged_stray none top = no_slot none ∙ rw (ne_eqb (v / 0x100000000000000) 0xFF top)
