-- The steps of every command's job, all done, as the bytes that specs/Final gives for it. Assumes nothing.
use mathlib.Core.Path.{◌≡◌, refl, sym, ap, ◌∙◌}
use mathlib.Core.Bool.{true}
use mathlib.Core.List.{List}
use Prim.Native.Nat.{ℕ, ◌<◌}
use lib.ListN.{length}
use Rattle.rules.specs.Bytes.{Bytes}
use Rattle.rules.specs.Answers.{given}
use Rattle.rules.specs.Table.{entries, slots, table_stands}
use Rattle.rules.specs.Pointers.{pointers_stand}
use Rattle.rules.specs.Copies.{agree_by}
use Rattle.rules.specs.Readers.{slot_row}
use Rattle.rules.specs.Steps.{steps, rewrite_pair}
use Rattle.rules.specs.Commands.{Command, enable, disable, rename, create, delete, repair, put_name, name_free, has_already, rename_steps, create_steps, delete_steps, repair_pair, repair_steps, job}
use Rattle.rules.specs.Book.{Reading, NameBytes}
use Rattle.rules.specs.Final.{put_pair, with_new_name, repaired, final}
use Rattle.rules.specs.declared.Step.{Step}
use Rattle.rules.specs.declared.View.{View}
use Rattle.rules.proofs.Lists.Tests.{by_cases}
use Rattle.rules.proofs.Steps.Programming.{steps_append}
use Rattle.rules.proofs.Copies.PairCuts.{repair_pair_same}
use Rattle.rules.proofs.Table.Renaming.{Allowed}
use Rattle.rules.proofs.Claim.Invariant.{Beginning, granule_holds_block, Invariant, BothEqual, table_pair, pointer_pair, pointers_kept, table_address, pointers_address, which_table, which_pointers, the_view, blocks_inside, agree_both_equal}
use Rattle.rules.proofs.Pointers.PointerJobs.{agreed}
use Rattle.rules.proofs.Table.Replacing.{Replaces}
use Rattle.rules.proofs.Table.RenameJob.{put_name_replaces}
use Rattle.rules.proofs.Table.SlotJobs.{created_start_here, new_row_replaces, without_row_replaces}
use Rattle.rules.proofs.Copies.RepairJob.{tables_mended, tables_mended_changes, tables_mended_holds}
use Rattle.rules.proofs.Claim.StartedJob.{Started, started_by, table_there, pointers_there}
use Rattle.rules.proofs.Table.SlotStarts.{slots_by_starts}
use Rattle.rules.proofs.FinalBytes.PutBytes.{rewrite_pair_puts, repair_pair_puts}
use Rattle.rules.proofs.FinalBytes.PointersPut.{enable_puts, disable_puts}

module _ (b : Beginning) (img : List ℕ) (r : Reading) (h : Invariant b img r) where
  open b use {s, c0, c1, refusal2}

  abbrev v : View
  v = the_view b img r h

  -- ---- both tables rewritten with another

  tables_put : (t : List ℕ)
      → Replaces s (length b.first) r.table t
      → steps s.granule (rewrite_pair s.spt0 s.spt1 t) img ≡ put_pair s.granule s.spt0 s.spt1 t img
  tables_put t new =
      let inside = blocks_inside b img r h in
      rewrite_pair_puts s.granule (granule_holds_block s.granule refusal2) t new.whole new.bytes
      s.spt0 s.spt1 img inside.spt0_inside inside.spt1_inside

  -- ---- rename

  rename_bytes : (equal : BothEqual b img) (k : ℕ) (n : List ℕ)
      → k < length (slots (entries r.table))
      → Allowed n
      → name_free (entries r.table) (slot_row (entries r.table) k) n ≡ true
      → Bytes n
      → steps s.granule (rename_steps s.spt0 s.spt1 r.table k n) img
      ≡ with_new_name s.granule s.spt0 s.spt1 r.table k n img
  unfolding rename_steps with_new_name
  rename_bytes equal k n there may free bytes =
      by_cases (has_already (entries r.table) k n)
      (λ t. rw t (unfold steps in refl))
      (λ f. rw f
      (tables_put (put_name r.table (slot_row (entries r.table) k) n)
      (put_name_replaces b img r h equal k n there may free bytes)))

  -- ---- repair

  repair_bytes : steps s.granule (repair_steps s img v) img
      ≡ repaired s.granule pointers_stand c0 c1 v.pointers
      (repaired s.granule (table_stands s (length img)) s.spt0 s.spt1 v.table img)
  unfolding repair_steps
  repair_bytes =
      let t = (table_address b img r h).0 in
      let a = (pointers_address b img r h).0 in
      let at_start = blocks_inside b img r h in
      let holds = tables_mended_holds b img r h in
      let at_mid = blocks_inside b mid r holds in
      let (e0, e1) = pointers_kept b (tables_mended_changes b img r h) in
      rw h.kept.same_length
      (steps_append s.granule _ (repair_pair pointers_stand img c0 c1 a) img
      ∙ ap (λ (ss : List Step). steps s.granule ss mid)
      (sym (repair_pair_same (pointer_pair b) img mid a e0 e1 (which_pointers b img r h)))
      ∙ repair_pair_puts (pointer_pair b) mid a (rw (e0, e1) (which_pointers b img r h))
      at_mid.cpb0_inside at_mid.cpb1_inside holds.bytes
      ∙ ap (repaired s.granule pointers_stand c0 c1 a)
      (repair_pair_puts (table_pair b) img t (which_table b img r h) at_start.spt0_inside at_start.spt1_inside h.bytes))
    where
      mid : List ℕ
      mid = tables_mended b img r h

  -- ---- every command

  pub job_bytes : (c : Command) (ss : List Step)
      → NameBytes c
      → job s img v c ≡ given ss
      → steps s.granule ss img ≡ final s img v c
  unfolding NameBytes final
  job_bytes c ss names e = by_command c names (started_by b img r h c ss e)
    where
      all_done : List Step → List ℕ
      all_done ts = steps s.granule ts img

      equal : agree_by s img v ≡ true → BothEqual b img
      equal = agree_both_equal b img r h

      by_command : (c : Command) → NameBytes c → Started b img r h c ss → all_done ss ≡ final s img v c
      by_command (enable k) _ q =
          rw (table_there b img r h, pointers_there b img r h)
          (sym (ap all_done q.listed)
          ∙ enable_puts (agreed b img r h (equal q.agree)) k (slots_by_starts r.table k q.there) q.fits)
      by_command (disable k) _ q =
          rw (table_there b img r h, pointers_there b img r h)
          (sym (ap all_done q.listed) ∙ disable_puts (agreed b img r h (equal q.agree)) k)
      by_command (rename k n) bytes q =
          rw (table_there b img r h)
          (sym (ap all_done q.listed)
          ∙ rename_bytes (equal q.agree) k n q.there q.name q.free bytes)
      by_command (create n size) bytes q =
          rw (table_there b img r h, created_start_here b img r h size)
          (sym (ap all_done q.listed)
          ∙ unfold create_steps in
          tables_put _
          (new_row_replaces b img r h (equal q.agree) n size q.name q.free q.right q.few q.found bytes))
      by_command (delete k) _ q =
          rw (table_there b img r h)
          (sym (ap all_done q.listed)
          ∙ unfold delete_steps in tables_put _ (without_row_replaces b img r h (equal q.agree) k q.there))
      by_command repair _ listed = sym (ap all_done listed) ∙ repair_bytes
