-- The job of rename by the entry of the slot. Assumes nothing.
use mathlib.Core.Path.{◌≡◌, refl}
use mathlib.Core.Bool.{Bool, true, false, cond}
use mathlib.Core.List.{List}
use Prim.Native.Nat.{ℕ}
use lib.ListN.{get_or}
use Rattle.rules.specs.Bytes.{up_to_zero}
use Rattle.rules.specs.Table.{entries, has_name, no_entry}
use Rattle.rules.specs.Readers.{slot_row, slot_entry}
use Rattle.rules.specs.Commands.{put_name, has_already}
use Rattle.blocks.specs.Made.{no_steps, pair_rewritten}
use Rattle.drafts.specs.JobFor.{rename_job}

pub rename_by_row : (len g t0 t1 k row : ℕ) (t name : List ℕ)
    → row ≡ slot_row (entries t) k
    → up_to_zero name ≡ name
    → cond (has_name (up_to_zero name) (get_or (entries t) row no_entry)) (no_steps len g)
    (pair_rewritten len g t0 t1 (put_name t row name))
    ≡ rename_job len g t0 t1 t k name
unfolding rename_job has_already slot_entry
rename_by_row len g t0 t1 k row t name er whole = rw (whole, ← er)

-- the one of two that a test decides for
module _ {A : Type 0} {t : Bool} (x y : A) where
  pub where_so : t ≡ true → x ≡ cond t x y
  where_so e = rw e refl

  pub where_not : t ≡ false → y ≡ cond t x y
  where_not e = rw e refl
