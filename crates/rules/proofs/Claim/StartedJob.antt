-- What a command that starts has passed, by the book's reading of the flash. Assumes nothing.
use mathlib.Core.Path.{◌≡◌}
use mathlib.Core.List.{List}
use Prim.Native.Nat.{ℕ}
use Rattle.rules.specs.Bytes.{block}
use Rattle.rules.specs.Answers.{given}
use Rattle.rules.specs.Commands.{Command, job}
use Rattle.rules.specs.Book.{Reading}
use Rattle.rules.specs.declared.Step.{Step}
use Rattle.rules.specs.declared.View.{View}
use Rattle.rules.proofs.Claim.Invariant.{Beginning, Invariant, the_view, table_address, pointers_address}
use Rattle.rules.proofs.Claim.Passed.{Passed, passed}

module _ (beginning : Beginning) (img : List ℕ) (r : Reading) (h : Invariant beginning img r) where
  open beginning use {s}

  abbrev v : View
  v = the_view beginning img r h

  pub table_there : block img v.table ≡ r.table
  table_there = (table_address beginning img r h).2

  pub pointers_there : block img v.pointers ≡ h.pointers
  pointers_there = (pointers_address beginning img r h).2

  abbrev pub Started : Command → List Step → Type 0
  Started c ss = Passed s img v r.table h.pointers ss c

  pub started_by : (c : Command) (ss : List Step) → job s img v c ≡ given ss → Started c ss
  started_by c ss e = passed s img v r.table h.pointers ss table_there pointers_there c e
