-- What the view of a flash and the faults of its tables are asked after refusals 1 to 3. Assumes nothing.
use mathlib.Core.Path.{◌≡◌, refl}
use mathlib.Core.List.{List}
use Prim.Native.Nat.{ℕ}
use lib.ListN.{length}
use Rattle.rules.specs.Answers.{given, ◌>>=◌}
use Rattle.rules.specs.declared.Setting.{Setting}
use Rattle.rules.specs.Copies.{both_faults, table_read, view_through, view}
use Rattle.rules.specs.Readers.{table_faults}
use Rattle.bounds.specs.Inner.Due.{due}
use Rattle.bounds.proofs.FirstDue.{asked_further}

module _ (s : Setting) (img : List ℕ) where
  pub view_asked : view s img ≡ (due s (length img) >>= λ _. table_read s img >>= view_through s img)
  unfolding view
  view_asked = asked_further s (length img) (table_read s img >>= view_through s img)

  pub view_by_table : (at : ℕ) → due s (length img) ≡ given tt → table_read s img ≡ given at → view s img ≡ view_through s img at
  view_by_table at e h = rw (view_asked, e, h) refl

  pub faults_asked : table_faults s img ≡ (due s (length img) >>= λ _. given (both_faults s img))
  unfolding table_faults
  faults_asked = asked_further s (length img) (given (both_faults s img))
