-- What the condition of the four blocks does not depend on: as of the other readers, two images of the same length that
-- hold the same bytes in the four blocks get the same. Assumes nothing.
use mathlib.Core.Path.{◌≡◌}
use mathlib.Core.List.{List}
use Prim.Native.Nat.{ℕ}
use Rattle.rules.specs.declared.Setting.{Setting}
use Rattle.rules.specs.Copies.{pair_agrees, tables_agree, pointers_agree}
use Rattle.unread.specs.SameBlocks.{SameBlocks}
use Rattle.unread.proofs.OnlyBlocks.{of_view}
use Rattle.conditions.specs.Condition.{condition_by, condition}

module _ (s : Setting) (img img' : List ℕ) (same : SameBlocks s img img') where
  pub condition_same : condition s img ≡ condition s img'
  unfolding condition condition_by tables_agree pointers_agree pair_agrees
  condition_same =
      of_view s img img' same _ _
      (λ v b. rw (same.same_length, same.spt0, same.spt1, b.spt0, b.spt1, b.cpb0, b.cpb1))
