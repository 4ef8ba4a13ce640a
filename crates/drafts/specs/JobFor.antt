-- The job that each command starts with, where no refusal is due: its value for every flash that can be read. The cases
-- are those of the command's listed steps. Assumes nothing.
use Rattle.std.specs.Prelude.{not, cond, List, [], ◌∷◌, ℕ, eqb, ltb, length, get_or}
use Rattle.rules.specs.Lists.{same, without}
use Rattle.rules.specs.Answers.{Answer, given, ◌>>=◌}
use Rattle.rules.specs.Bytes.{bytes_of, block}
use Rattle.rules.specs.Table.{entries, starts}
use Rattle.rules.specs.Pointers.{place_offset, place_count, places, order}
use Rattle.rules.specs.Readers.{slot_row}
use Rattle.rules.specs.Commands.{Command, enable, disable, rename, create, delete, repair, filled, pointers_of, free_place, is_first, giving, half_cleared_names, put_name, has_already, created_start, with_new_row, without_row, job}
use Rattle.rules.specs.declared.Setting.{Setting}
use Rattle.rules.specs.declared.View.{View}
use Rattle.jobs.specs.declared.Job.{Job}
use Rattle.blocks.specs.Made.{Rewriting, rewrites, no_steps, pair_rewritten, place_list, places_written}

-- for an image of this length and with this granule
module _ (len granule : ℕ) where
  -- both pointer blocks rewritten with a new order, as `reorder_steps`
  unfoldable pub reorder_job : ℕ → ℕ → List ℕ → List ℕ → List ℕ → Job
  reorder_job c0 c1 starts p o = pair_rewritten len granule c0 c1 (filled p (pointers_of starts o))

  -- eight bytes into some places, "in CPB1, then in CPB0"
  unfoldable pub in_places_job : ℕ → ℕ → List ℕ → List ℕ → List ℕ → Job
  in_places_job c0 c1 p ks v = places_written len granule (place_offset p) c1 c0 (place_list ks) v

  -- as `enable_steps`
  unfoldable pub enable_job : ℕ → ℕ → List ℕ → List ℕ → ℕ → Job
  enable_job c0 c1 starts p k =
      cond (is_first k (order starts (places p))) (no_steps len granule)
      (cond (ltb (free_place starts (places p)) (place_count p))
      (in_places_job c0 c1 p (free_place starts (places p) ∷ []) (bytes_of 8 (get_or starts k 0)))
      (reorder_job c0 c1 starts p (k ∷ without k (order starts (places p)))))

  -- as `disable_steps`
  unfoldable pub disable_job : ℕ → ℕ → List ℕ → List ℕ → ℕ → Job
  disable_job c0 c1 starts p k =
      cond (half_cleared_names starts (get_or starts k 0))
      (reorder_job c0 c1 starts p (without k (order starts (places p))))
      (in_places_job c0 c1 p (giving starts k 0 (places p)) (bytes_of 8 0))

  -- as `rename_steps`
  unfoldable pub rename_job : ℕ → ℕ → List ℕ → ℕ → List ℕ → Job
  rename_job t0 t1 t k n =
      cond (has_already (entries t) k n) (no_steps len granule)
      (pair_rewritten len granule t0 t1 (put_name t (slot_row (entries t) k) n))

  -- as `create_steps`
  unfoldable pub create_job : ℕ → ℕ → List ℕ → List ℕ → ℕ → ℕ → Job
  create_job t0 t1 t n start size = pair_rewritten len granule t0 t1 (with_new_row t n start size)

  -- as `delete_steps`
  unfoldable pub delete_job : ℕ → ℕ → List ℕ → ℕ → Job
  delete_job t0 t1 t k = pair_rewritten len granule t0 t1 (without_row t (slot_row (entries t) k))

-- the copy that is not read, from the copy read, where the two are not equal
unfoldable pub repaired : List ℕ → ℕ → ℕ → ℕ → Rewriting
repaired img a0 a1 read =
    record { wanted = not (same (block img a0) (block img a1)); at = cond (eqb read a0) a1 a0; block = block img read }

-- as `repair_steps`
unfoldable pub repair_job : ℕ → List ℕ → View → Job
repair_job granule img v =
    rewrites (length img) granule
    (repaired img v.spt0 v.spt1 v.table)
    (repaired img v.cpb0 v.cpb1 v.pointers)

-- the job of a command, by the granule, the image and what was read of it
unfoldable pub job_for : ℕ → List ℕ → View → Command → Job
job_for g img v (enable k) =
    enable_job (length img) g v.cpb0 v.cpb1 (starts (block img v.table)) (block img v.pointers) k
job_for g img v (disable k) =
    disable_job (length img) g v.cpb0 v.cpb1 (starts (block img v.table)) (block img v.pointers) k
job_for g img v (rename k n) = rename_job (length img) g v.spt0 v.spt1 (block img v.table) k n
job_for g img v (create n size) =
    create_job (length img) g v.spt0 v.spt1 (block img v.table) n (created_start img v size) size
job_for g img v (delete k) = delete_job (length img) g v.spt0 v.spt1 (block img v.table) k
job_for g img v repair = repair_job g img v

-- once the view is known: the refusals of `job`, or the job
unfoldable pub job_by : Setting → List ℕ → View → Command → Answer Job
job_by s img v c = job s img v c >>= λ _. given (job_for s.granule img v c)
