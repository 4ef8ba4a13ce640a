-- Document 01's commands: each job leads to the change that its command stands for. Assumes nothing.
use mathlib.Core.Path.{◌≡◌, subst}
use mathlib.Core.Bool.{true}
use mathlib.Core.List.{List}
use Prim.Native.Nat.{ℕ}
use Rattle.rules.specs.Answers.{given, ◌>>=◌}
use Rattle.rules.specs.Copies.{agree_by}
use Rattle.rules.specs.Commands.{Command, enable, disable, rename, create, delete, repair, job, start}
use Rattle.rules.specs.Book.{Reading, NameBytes, the_commands}
use Rattle.rules.specs.declared.Step.{Step}
use Rattle.rules.specs.declared.View.{View}
use Rattle.rules.proofs.Claim.Invariant.{Beginning, Invariant, BothEqual, the_view, view_is, agree_both_equal}
use Rattle.rules.proofs.Claim.StartedJob.{Started, started_by}
use Rattle.rules.proofs.Table.SlotStarts.{slots_by_starts}
use Rattle.rules.proofs.Claim.JobRight.{JobRight}
use Rattle.rules.proofs.Pointers.PointerJobs.{enable_right, disable_right}
use Rattle.rules.proofs.Table.RenameJob.{rename_right}
use Rattle.rules.proofs.Table.SlotJobs.{create_right, delete_right}
use Rattle.rules.proofs.Copies.RepairJob.{repair_right}
use Rattle.rules.proofs.Claim.OneItem.{AllRight}

module _ (beginning : Beginning) (img : List ℕ) (r : Reading) (h : Invariant beginning img r) where
  open beginning use {s}

  abbrev v : View
  v = the_view beginning img r h

  equal : agree_by s img v ≡ true → BothEqual beginning img
  equal = agree_both_equal beginning img r h

  pub every_job_right : (c : Command) (ss : List Step)
      → NameBytes c
      → job s img v c ≡ given ss
      → JobRight beginning img r c ss
  unfolding NameBytes
  every_job_right c ss names e = right c names (started_by beginning img r h c ss e)
    where
      right : (c : Command) → NameBytes c → Started beginning img r h c ss → JobRight beginning img r c ss
      right (enable k) _ q =
          subst (JobRight beginning img r (enable k)) q.listed
          (enable_right beginning img r h (equal q.agree) k (slots_by_starts r.table k q.there) q.fits)
      right (disable k) _ q =
          subst (JobRight beginning img r (disable k)) q.listed
          (disable_right beginning img r h (equal q.agree) k (slots_by_starts r.table k q.there))
      right (rename k n) bytes q =
          subst (JobRight beginning img r (rename k n)) q.listed
          (rename_right beginning img r h (equal q.agree) k n q.there q.name q.free bytes)
      right (create n size) bytes q =
          subst (JobRight beginning img r (create n size)) q.listed
          (create_right beginning img r h (equal q.agree) n size q.name q.free q.right q.few q.found bytes)
      right (delete k) _ q =
          subst (JobRight beginning img r (delete k)) q.listed
          (delete_right beginning img r h (equal q.agree) k q.there (rw h.boots at q.idle))
      right repair _ listed = subst (JobRight beginning img r repair) listed (repair_right beginning img r h)

  pub started : (c : Command) → start s img c ≡ job s img v c
  unfolding start
  started c = rw (view_is beginning img r h)

pub the_commands_right : AllRight the_commands
the_commands_right beginning img r h c ss names e =
    every_job_right beginning img r h c ss names (rw (started beginning img r h c) at e)
