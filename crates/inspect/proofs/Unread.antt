-- What the answers about entries and places do not depend on: as of the other readers, two images of the same length
-- that hold the same bytes in the four blocks get the same. Assumes nothing.
use mathlib.Core.Path.{◌≡◌}
use mathlib.Core.List.{List}
use Prim.Native.Nat.{ℕ}
use Rattle.rules.specs.declared.Setting.{Setting}
use Rattle.unread.specs.SameBlocks.{SameBlocks}
use Rattle.unread.proofs.OnlyBlocks.{of_view, table_part_same}
use Rattle.inspect.specs.Entries.{entry_total, entry_info, entry_name}
use Rattle.inspect.specs.Places.{place_total, place_at}

module _ (s : Setting) (img img' : List ℕ) (same : SameBlocks s img img') where
  pub entry_total_same : entry_total s img ≡ entry_total s img'
  unfolding entry_total
  entry_total_same = of_view s img img' same _ _ (λ v b. rw b.table)

  pub entry_info_same : (i : ℕ) → entry_info s img i ≡ entry_info s img' i
  unfolding entry_info
  entry_info_same i = of_view s img img' same _ _ (λ v b. rw b.table)

  pub entry_name_same : (i : ℕ) → entry_name s img i ≡ entry_name s img' i
  unfolding entry_name
  entry_name_same i = rw (table_part_same s img img' same)

  pub place_total_same : place_total s img ≡ place_total s img'
  unfolding place_total
  place_total_same = of_view s img img' same _ _ (λ v b. rw b.pointers)

  pub place_at_same : (k : ℕ) → place_at s img k ≡ place_at s img' k
  unfolding place_at
  place_at_same k = of_view s img img' same _ _ (λ v b. rw (b.table, b.pointers))
