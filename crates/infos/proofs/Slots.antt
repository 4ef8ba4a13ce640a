-- A slot by its entry number. Assumes nothing.
use mathlib.Core.Path.{◌≡◌, refl}
use mathlib.Core.Bool.{true, false}
use mathlib.Core.List.{List, [], ◌∷◌}
use Prim.Native.Nat.{ℕ, zero, suc, ◌≤◌, ◌<◌}
use native.Mathlib.Nat.{le_of_suc-le-suc, not-suc-le-zero}
use native.Mathlib.Omega.{arith}
use borrow.Author.Tests.{lt-ltb, ltb-true}
use lib.Dec.{ltb}
use lib.ListN.{length}
use Rattle.rules.specs.Table.{Entry, name, is_slot, slots}
use Rattle.rules.specs.Lists.{keep}
use Rattle.rules.specs.Readers.{slot_row, slot_entry, info, slot_there}
use Rattle.rules.proofs.Lists.Tests.{by_cases}
use Rattle.rules.proofs.Table.Renaming.{slot_row_found}
use Rattle.infos.specs.Entries.{info_of, name_of}

-- a slot whose row is that of an entry is there
there_if_found : (es : List Entry) (k : ℕ) → slot_row es k < length es → k < length (slots es)
unfolding slots keep slot_row
there_if_found [] k h = absurd (not-suc-le-zero h)
there_if_found (e ∷ es) zero h =
    by_cases (is_slot e)
    (λ t. rw t (omega arith))
    (λ t. rw t (there_if_found es zero (le_of_suc-le-suc (rw t at h))))
there_if_found (e ∷ es) (suc k) h =
    by_cases (is_slot e)
    (λ t. rw t (let l = there_if_found es k (le_of_suc-le-suc (rw t at h)) in omega arith))
    (λ t. rw t (there_if_found es (suc k) (le_of_suc-le-suc (rw t at h))))

module _ (es : List Entry) (k : ℕ) where
  pub there : slot_row es k < length es → slot_there es k ≡ true
  unfolding slot_there
  there l = lt-ltb k (length (slots es)) (there_if_found es k l)

  pub not_there : slot_row es k ≡ length es → slot_there es k ≡ false
  unfolding slot_there
  not_there e =
      by_cases (ltb k (length (slots es)))
      (λ t. absurd (let l = (slot_row_found es k (ltb-true k (length (slots es)) t)).0 in omega arith))
      (λ f. f)

  pub info_by_row : info es k ≡ info_of es (slot_row es k)
  unfolding info info_of slot_entry
  info_by_row = refl

  pub name_by_row : name (slot_entry es k) ≡ name_of es (slot_row es k)
  unfolding name_of slot_entry
  name_by_row = refl
