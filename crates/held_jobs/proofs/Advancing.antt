-- The number of steps done stored anew: every other field is read as it was. Assumes nothing.
use mathlib.Core.Path.{◌≡◌, refl, sym, ap, ◌∙◌}
use mathlib.Core.Bool.{Bool, true, false}
use mathlib.Core.List.{List, ◌++◌}
use Prim.Native.Nat.{ℕ, ◌+◌, ◌^◌, ◌≤◌, ◌<◌}
use native.Mathlib.Omega.{arith}
use lib.Dec.{eqb}
use lib.ListN.{length, take, drop}
use lib.Seq.{take_at, drop_at, drop-drop, length-take-le}
use borrow.Author.Tests.{eqb-true}
use Rattle.rules.specs.Bytes.{bytes_of, field}
use Rattle.rules.specs.Answers.{Answer, refused, given, unless}
use Rattle.rules.specs.declared.Refusal.{Refusal}
use Rattle.rules.specs.Final.{put_at}
use Rattle.rules.proofs.Lists.Tests.{and_true}
use Rattle.rules.proofs.Lists.Words.{length-bytes_of}
use Rattle.rules.proofs.Lists.ByteLists.{field_by_front}
use Rattle.fields.proofs.Stored.{length-put_at}
use Rattle.jobs.specs.Jobs.{Ran, admitted, ran, advanced, returned, RanBy, did_by_run, image_after_run, steps_left, counted, counting}
use Rattle.jobs.specs.declared.Job.{Job}
use Rattle.jobs.proofs.Running.{run_returned}
use Rattle.job_bytes.specs.Form.{len_at, granule_at, count_at, done_at, offset_at}
use Rattle.job_bytes.specs.Form.{job_size, malformed, plan_from, job_from, holds_job, decoded}
use Rattle.held_jobs.specs.Running.{bytes_after, RanOver, CountedOver}
use Rattle.job_bytes.proofs.Numbers.{field_read}

-- ---- bytes put somewhere else

module _ (at : ℕ) (ws bs : List ℕ) (inside : at + length ws ≤ length bs) where
  length_before : length (take at bs) ≡ at
  length_before = length-take-le at bs (omega arith)

  put_before : take at (put_at at ws bs) ≡ take at bs
  unfolding put_at
  put_before = take_at (take at bs) (ws ++ drop (at + length ws) bs) at length_before

  put_here : drop at (put_at at ws bs) ≡ ws ++ drop (at + length ws) bs
  unfolding put_at
  put_here = drop_at (take at bs) (ws ++ drop (at + length ws) bs) at length_before

  put_behind : (n : ℕ) → drop (at + length ws + n) (put_at at ws bs) ≡ drop (at + length ws + n) bs
  put_behind n =
      let rest = drop (at + length ws) bs in
      sym (drop-drop n (at + length ws) (put_at at ws bs))
      ∙ rw (← drop-drop (length ws) at (put_at at ws bs), put_here, drop_at ws rest (length ws) refl)
      (drop-drop n (at + length ws) bs)

-- ---- a job further on

pub length_of_job : (bs : List ℕ) → holds_job bs ≡ true → length bs ≡ job_size
unfolding holds_job
length_of_job bs h = eqb-true (length bs) job_size (and_true (eqb (length bs) job_size) _ h).0

module _ (bs : List ℕ) (holds : holds_job bs ≡ true) (d : ℕ) where
  abbrev ws : List ℕ
  ws = bytes_of 8 d

  abbrev after : List ℕ
  after = put_at done_at ws bs

  whole : length bs ≡ job_size
  whole = length_of_job bs holds

  inside : done_at + length ws ≤ length bs
  inside = rw (length-bytes_of 8 d) (omega (arith, whole))

  before : (k n : ℕ) → k + n ≤ done_at → field k n after ≡ field k n bs
  before k n h = field_by_front done_at k n bs after h (put_before done_at ws bs inside)

  behind_done : (n : ℕ) → drop (offset_at + n) after ≡ drop (offset_at + n) bs
  behind_done n = rw (length-bytes_of 8 d) at (put_behind done_at ws bs inside n)

  behind : (k n : ℕ) → field (offset_at + k) n after ≡ field (offset_at + k) n bs
  unfolding field
  behind k n = rw (behind_done k)

  still_holds : holds_job after ≡ true
  unfolding holds_job
  still_holds = rw (length-put_at done_at ws bs inside, behind 12 2, behind 14 2) holds

  further : d < 256 ^ 8 → job_from after ≡ record {
    plan = (job_from bs).plan;
    done = d;
    first = (job_from bs).first;
    second = (job_from bs).second;
    places = (job_from bs).places;
    value = (job_from bs).value;
  }
  unfolding job_from plan_from
  further small =
      rw (
        before len_at 8 (omega arith),
        before granule_at 8 (omega arith),
        before count_at 8 (omega arith),
        field_read after done_at 8 d _ (put_here done_at ws bs inside) small,
        behind 0 4,
        behind 4 4,
        behind 8 4,
        behind 12 2,
        behind 14 2,
        behind_done 16,
        behind_done 24,
        behind_done 1040,
        behind_done 5136,
      )

-- the job with more steps done
pub decoded_further : (bs : List ℕ) (n : ℕ)
    → holds_job bs ≡ true
    → field done_at 8 bs + n < 256 ^ 8
    → decoded (put_at done_at (bytes_of 8 (field done_at 8 bs + n)) bs) ≡ given (advanced (job_from bs) n)
unfolding decoded unless
decoded_further bs n holds small =
    let d = field done_at 8 bs + n in
    rw (still_holds bs holds d, further bs holds d small) (unfold job_from in refl)

-- bytes that are decoded hold that job
pub held : (bs : List ℕ) (j : Job) → decoded bs ≡ given j → (holds_job bs ≡ true) × (j ≡ job_from bs)
unfolding decoded unless
held bs j e = from (holds_job bs) e
  where
    from : (t : Bool) → unless malformed t (given (job_from bs)) ≡ given j → (t ≡ true) × (j ≡ job_from bs)
    from true d = (refl, cc)
    from false d = absurd (let z : ◌≡◌ {A = ℕ} 0 1 = cc in omega arith)

-- ---- by what was done

pub raised : (bs : List ℕ) (n done : ℕ) (bs' : List ℕ)
    → holds_job bs ≡ true
    → done ≡ field done_at 8 bs
    → done + n < 256 ^ 8
    → bs' ≡ put_at done_at (bytes_of 8 (done + n)) bs
    → (bs' ≡ bytes_after bs (given n)) × (decoded bs' ≡ given (advanced (job_from bs) n))
unfolding bytes_after
raised bs n done bs' holds f small b =
    (rw f at b, rw (b, f) (decoded_further bs n holds (rw f at small)))

-- bytes that hold no job
module _ (bs : List ℕ) (why : Refusal) (r : Answer ℕ) (d : decoded bs ≡ refused why) (e : r ≡ refused why) where
  pub none_ran : (img : List ℕ) (budget : ℕ) → RanOver budget bs img bs img r (decoded bs)
  unfolding RanOver
  none_ran img budget = rw d (e, (refl, refl))

  pub none_counted : (n : ℕ) → CountedOver n bs bs r (decoded bs)
  unfolding CountedOver
  none_counted n = rw d (e, refl)

module _ (bs : List ℕ) (j : Job) (d : decoded bs ≡ given j) where
  -- the job that is held after n more steps
  pub job_raised : (n : ℕ) (bs' : List ℕ) → decoded bs' ≡ given (advanced (job_from bs) n) → decoded bs' ≡ given (advanced j n)
  job_raised n bs' h = h ∙ rw (held bs j d).1

  -- a run, from what it says and leaves
  pub ran_here : (bs' img img' : List ℕ) (budget : ℕ) (did : Answer ℕ)
      → did ≡ did_by_run j budget img
      → img' ≡ image_after_run j budget img
      → bs' ≡ bytes_after bs did
      → decoded bs' ≡ given (returned j did).job
      → RanOver budget bs img bs' img' did (decoded bs)
  unfolding RanBy RanOver
  ran_here bs' img img' budget did s e b h =
      let same = (held bs j d).1 in
      let job : decoded bs' ≡ given (ran j budget (admitted j img)).job =
      h ∙ ap (λ (r : Ran). given r.job) (run_returned j img budget did img' s e).0 in
      rw d (record {
        did = rw same at s;
        image = rw same at e;
        bytes = b;
        holds = rw same at job;
      })

  -- steps counted, from what is answered
  pub counted_here : (bs' : List ℕ) (n : ℕ) (did : Answer ℕ)
      → did ≡ counted (steps_left j) n
      → bs' ≡ bytes_after bs did
      → decoded bs' ≡ given (returned j did).job
      → CountedOver n bs bs' did (decoded bs)
  unfolding counting CountedOver
  counted_here bs' n did s b h =
      let same = (held bs j d).1 in
      let job : decoded bs' ≡ given (counting j n).job =
      h ∙ ap (λ (k : Answer ℕ). given (returned j k).job) s in
      rw d (record {
        did = rw same at s;
        bytes = b;
        holds = rw same at job;
      })
