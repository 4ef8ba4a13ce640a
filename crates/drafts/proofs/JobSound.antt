-- The job of a command that has passed its refusals: it denotes the listed steps, none of them done, for the image's
-- length and the granule, and is within what the types of its fields can hold. Assumes nothing.
use mathlib.Core.Path.{◌≡◌, refl, subst}
use mathlib.Core.Bool.{true}
use mathlib.Core.List.{List, [], ◌∷◌, ◌++◌, append-nil}
use Prim.Native.Nat.{ℕ, ◌+◌, ◌^◌, ◌≤◌, ◌<◌}
use native.Mathlib.Omega.{arith}
use lib.Dec.{eqb, ltb}
use borrow.Author.Tests.{ltb-true, leb-true}
use lib.ListN.{length, get_or}
use Rattle.rules.specs.Lists.{without}
use Rattle.rules.specs.Bytes.{bytes_of, block, block_size}
use Rattle.rules.specs.Answers.{given}
use Rattle.rules.specs.declared.Setting.{Setting}
use Rattle.rules.specs.Table.{entry_count, entries, slots, starts}
use Rattle.rules.specs.Pointers.{place_offset, place_count, places, order}
use Rattle.rules.specs.Copies.{view}
use Rattle.rules.specs.Readers.{slot_row}
use Rattle.rules.specs.Steps.{rewrite_pair}
use Rattle.rules.specs.Commands.{Command, enable, disable, rename, create, delete, repair, created_start, with_new_row, without_row, filled, pointers_of, reorder_steps, free_place, is_first, into_place, into_places, append_steps, giving, clear_steps, half_cleared_names, has_already, put_name, enough_places, enable_steps, disable_steps, rename_steps, create_steps, delete_steps, repair_steps, job}
use Rattle.rules.specs.declared.Step.{Step}
use Rattle.rules.specs.declared.View.{View}
use Rattle.rules.proofs.Lists.Tests.{by_cases}
use Rattle.rules.proofs.Lists.Words.{length-bytes_of}
use Rattle.rules.proofs.Steps.Frame.{length-block}
use Rattle.rules.proofs.Order.OnceEach.{order-length, without-length}
use Rattle.rules.proofs.Table.Standing.{length-entries}
use Rattle.rules.proofs.Table.PutName.{put_length}
use Rattle.rules.proofs.Table.Renaming.{slot_row_found}
use Rattle.rules.proofs.Table.RowLengths.{length-with_new_row, length-without_row}
use Rattle.rules.proofs.Pointers.PointerHeader.{places_fit}
use Rattle.rules.proofs.Pointers.Filling.{length-pointers_of, length-filled}
use Rattle.rules.proofs.Claim.Passed.{Passed, passed}
use Rattle.views.specs.Located.{Located}
use Rattle.views.proofs.Opening.{located}
use Rattle.views.proofs.Seen.{seen, blocks_inside}
use Rattle.jobs.specs.Jobs.{place_room}
use Rattle.blocks.specs.Made.{pair_rewritten}
use Rattle.blocks.proofs.Noting.{Below}
use Rattle.blocks.proofs.JobSteps.{Sound, Fits, rewrites_sound, no_steps_sound, pair_sound, places_sound}
use Rattle.place_lists.proofs.Walking.{giving_few, giving_below, length_places}
use Rattle.drafts.specs.JobFor.{reorder_job, in_places_job, enable_job, disable_job, rename_job, create_job, delete_job, repaired, repair_job, job_for}
use Rattle.drafts.proofs.EqualCopies.{either_within, repair_by_copies}

one_place : (c offset : ℕ) (w : List ℕ) (u : ℕ) → into_places c offset w (u ∷ []) ≡ into_place c offset w u
unfolding into_places
one_place c offset w u = append-nil (into_place c offset w u)

module _ (s : Setting) (img : List ℕ) (v : View) (h : view s img ≡ given v) where
  abbrev l : Located img v
  l = located s img v h

  abbrev p : List ℕ
  p = block img v.pointers

  abbrev t : List ℕ
  t = block img v.table

  abbrev len : ℕ
  len = length img

  abbrev g : ℕ
  g = s.granule

  abbrev ForImage : Command → List Step → Type 0
  ForImage c ss = Sound (job_for g img v c) len g ss

  short : len < 2 ^ 64
  short = omega (arith, l.short)

  fine : g < 2 ^ 64
  fine = omega (arith, l.short, (blocks_inside s img v (seen s img v h)).spt0_inside)

  room : place_count p ≤ place_room
  room = (places_fit p l.stand).at_most_508

  -- ---- both copies of a pair

  pointers_sound : (b : List ℕ) → length b ≡ block_size
      → Sound (pair_rewritten len g v.cpb0 v.cpb1 b) len g (rewrite_pair v.cpb0 v.cpb1 b)
  pointers_sound b whole =
      pair_sound len g short fine v.cpb0 v.cpb1
      (omega (arith, l.short, l.cpb0_inside)) (omega (arith, l.short, l.cpb1_inside)) b whole

  tables_sound : (b : List ℕ) → length b ≡ block_size
      → Sound (pair_rewritten len g v.spt0 v.spt1 b) len g (rewrite_pair v.spt0 v.spt1 b)
  tables_sound b whole =
      pair_sound len g short fine v.spt0 v.spt1
      (omega (arith, l.short, l.spt0_inside)) (omega (arith, l.short, l.spt1_inside)) b whole

  -- ---- enable and disable

  reorder_sound : (o : List ℕ) → length o ≤ place_count p
      → Sound (reorder_job len g v.cpb0 v.cpb1 (starts t) p o) len g (reorder_steps v.cpb0 v.cpb1 (starts t) p o)
  unfolding reorder_job reorder_steps
  reorder_sound o few =
      pointers_sound (filled p (pointers_of (starts t) o))
      (length-filled p (length-block img v.pointers l.pointers_inside) (places_fit p l.stand)
      (pointers_of (starts t) o) (rw (length-pointers_of (starts t) o) few))

  in_places_sound : (ks : List ℕ) (w : ℕ) → length ks ≤ place_room → Below place_room ks
      → Sound (in_places_job len g v.cpb0 v.cpb1 p ks (bytes_of 8 w)) len g
      (into_places v.cpb1 (place_offset p) (bytes_of 8 w) ks ++ into_places v.cpb0 (place_offset p) (bytes_of 8 w) ks)
  unfolding in_places_job
  in_places_sound ks w few below =
      places_sound len g short fine v.cpb0 v.cpb1
      (omega (arith, l.short, l.cpb0_inside)) (omega (arith, l.short, l.cpb1_inside)) (place_offset p) ks
      (bytes_of 8 w) (omega (arith, (places_fit p l.stand).in_block)) few below (length-bytes_of 8 w)

  enable_sound : (k : ℕ) → enough_places (starts t) p k ≡ true
      → ForImage (enable k) (enable_steps v.cpb0 v.cpb1 (starts t) p k)
  unfolding job_for enable_job enable_steps append_steps enough_places
  enable_sound k enough =
      by_cases (is_first k (order (starts t) (places p)))
      (λ q. rw q (no_steps_sound len g short fine))
      (λ q.
      by_cases (ltb (free_place (starts t) (places p)) (place_count p))
      (λ r.
      let free = ltb-true (free_place (starts t) (places p)) (place_count p) r in
      rw (q, r, ← one_place v.cpb1, ← one_place v.cpb0)
      (in_places_sound (free_place (starts t) (places p) ∷ []) (get_or (starts t) k 0) (omega arith)
      (omega (arith, free, room), tt)))
      (λ r.
      rw (q, r)
      (reorder_sound (k ∷ without k (order (starts t) (places p)))
      (leb-true (length (k ∷ without k (order (starts t) (places p)))) (place_count p) enough))))

  disable_sound : (k : ℕ) → ForImage (disable k) (disable_steps v.cpb0 v.cpb1 (starts t) p k)
  unfolding job_for disable_job disable_steps clear_steps
  disable_sound k =
      by_cases (half_cleared_names (starts t) (get_or (starts t) k 0))
      (λ q.
      rw q
      (reorder_sound (without k (order (starts t) (places p)))
      (omega (
        arith,
        order-length (starts t) (places p),
        length_places p,
        without-length k (order (starts t) (places p)),
      ))))
      (λ q.
      rw q
      (in_places_sound (giving (starts t) k 0 (places p)) 0
      (omega (arith, giving_few (starts t) k 0 (places p), length_places p, room))
      (giving_below (starts t) k 0 (places p) place_room (omega (arith, length_places p, room)))))

  -- ---- rename, create and delete

  table_whole : length t ≡ block_size
  table_whole = length-block img v.table l.table_inside

  counted : (k : ℕ) → k < length (slots (entries t)) → slot_row (entries t) k < entry_count t
  counted k there = omega (arith, (slot_row_found (entries t) k there).0, length-entries t)

  rename_sound : (k : ℕ) (n : List ℕ) → k < length (slots (entries t)) → length n ≤ 15
      → ForImage (rename k n) (rename_steps v.spt0 v.spt1 t k n)
  unfolding job_for rename_job rename_steps
  rename_sound k n there few =
      by_cases (has_already (entries t) k n)
      (λ q. rw q (no_steps_sound len g short fine))
      (λ q.
      rw q
      (tables_sound (put_name t (slot_row (entries t) k) n)
      (put_length t n (slot_row (entries t) k) table_whole l.count_right (counted k there) few)))

  create_sound : (n : List ℕ) (size : ℕ) → length n ≤ 15 → entry_count t < 127
      → ForImage (create n size) (create_steps v.spt0 v.spt1 t n (created_start img v size) size)
  unfolding job_for create_job create_steps
  create_sound n size few room =
      tables_sound (with_new_row t n (created_start img v size) size)
      (length-with_new_row t table_whole n (created_start img v size) size room few)

  delete_sound : (k : ℕ) → k < length (slots (entries t)) → ForImage (delete k) (delete_steps v.spt0 v.spt1 t k)
  unfolding job_for delete_job delete_steps
  delete_sound k there =
      tables_sound (without_row t (slot_row (entries t) k))
      (length-without_row t table_whole (slot_row (entries t) k) l.count_right (counted k there))

  -- ---- repair

  repaired_fits : (a0 a1 read : ℕ)
      → a0 + block_size ≤ len
      → a1 + block_size ≤ len
      → read + block_size ≤ len
      → Fits (repaired img a0 a1 read)
  unfolding repaired
  repaired_fits a0 a1 read inside0 inside1 inside =
      let small = either_within (eqb read a0) a1 a0 len (omega arith) (omega arith) in
      (omega (arith, small, l.short), length-block img read inside)

  repair_sound : ForImage repair (repair_steps s img v)
  unfolding job_for repair_job
  repair_sound =
      rw (repair_by_copies s img v h)
      (rewrites_sound len g short fine _ _
      (repaired_fits v.spt0 v.spt1 v.table l.spt0_inside l.spt1_inside l.table_inside)
      (repaired_fits v.cpb0 v.cpb1 v.pointers l.cpb0_inside l.cpb1_inside l.pointers_inside))

  -- ---- every command

  pub job_sound : (c : Command) (ss : List Step) → job s img v c ≡ given ss
      → Sound (job_for s.granule img v c) (length img) s.granule ss
  unfolding created_start
  job_sound c ss e = by_command c (passed s img v t p ss refl refl c e)
    where
      by_command : (c : Command) → Passed s img v t p ss c → ForImage c ss
      by_command (enable k) q = subst (ForImage (enable k)) q.listed (enable_sound k q.fits)
      by_command (disable k) q = subst (ForImage (disable k)) q.listed (disable_sound k)
      by_command (rename k n) q =
          subst (ForImage (rename k n)) q.listed (rename_sound k n q.there q.name.short)
      by_command (create n size) q =
          subst (ForImage (create n size)) q.listed (create_sound n size q.name.short q.few)
      by_command (delete k) q = subst (ForImage (delete k)) q.listed (delete_sound k q.there)
      by_command repair listed = subst (ForImage repair) listed repair_sound
