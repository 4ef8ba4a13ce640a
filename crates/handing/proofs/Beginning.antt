-- A command's start over bytes: refused by the buffer's length, or by what starting it returned; and the job that the
-- buffer then holds. Assumes nothing.
use mathlib.Core.Path.{◌≡◌, ap, ◌∙◌}
use mathlib.Core.List.{List}
use Prim.Native.Nat.{ℕ}
use lib.Dec.{eqb}
use lib.ListN.{length}
use borrow.Author.Tests.{eq-eqb, ne_eqb, eqb-true}
use Rattle.std.specs.Prelude.{IfOk}
use Rattle.rules.specs.Answers.{Answer, refused, given, unless, number_of}
use Rattle.rules.specs.declared.Refusal.{Refusal}
use Rattle.rules.specs.declared.Setting.{Setting}
use Rattle.rules.specs.Commands.{Command, start}
use Rattle.rules.specs.declared.Step.{Step}
use Rattle.rules.proofs.Lists.Tests.{by_cases}
use Rattle.job_parts.specs.declared.Plan.{Plan}
use Rattle.jobs.specs.declared.Job.{Job}
use Rattle.jobs.proofs.Typed.{Typed}
use Rattle.blocks.specs.Made.{Lists}
use Rattle.commands.specs.Begins.{Begins, start_answer}
use Rattle.commands.proofs.StartLists.{start_lists, start_typed}
use Rattle.job_bytes.specs.Form.{job_size, malformed, decoded, job_over, encoded_over, Same}
use Rattle.job_bytes.proofs.RoundTrip.{decoded-encoded}
use Rattle.job_bytes.proofs.JobOver.{fitting, same_steps, typed_over}
use Rattle.handing.specs.Begun.{Handed, handed, handed_over, started_into, for_job, BegunAs}

-- ---- what a function for C returns and leaves

module _ (before : List ℕ) (a : Answer Job) where
  pub other_length : (n : ℕ) → n ≡ number_of malformed → (length before ≡ job_size → ⊥) → handed n before ≡ started_into before a
  unfolding started_into
  other_length n e h = rw (e, ne_eqb (length before) job_size h)

  -- by what was drafted
  pub into_refused : (n : ℕ) (why : Refusal)
      → n ≡ number_of why
      → refused why ≡ a
      → length before ≡ job_size
      → handed n before ≡ started_into before a
  unfolding started_into handed_over
  into_refused n why e f whole = rw (e, ← f, eq-eqb (length before) job_size whole)

  pub into_given : (j : Job) (after : List ℕ)
      → given j ≡ a
      → length before ≡ job_size
      → after ≡ encoded_over before j
      → handed 0 after ≡ started_into before a
  unfolding started_into handed_over
  into_given j after f whole e = rw (e, ← f, eq-eqb (length before) job_size whole)

-- ---- the job that the buffer holds

lists_same : (j j' : Job) (len granule : ℕ) (ss : List Step) → Same j j' → Lists j len granule ss → Lists j' len granule ss
lists_same j j' len granule ss same lists = record {
  steps = same.steps ∙ lists.steps;
  same_len = ap (λ (p : Plan). p.len) same.plan ∙ lists.same_len;
  same_granule = ap (λ (p : Plan). p.granule) same.plan ∙ lists.same_granule;
  none_done = same.done ∙ lists.none_done;
}

module _ (before : List ℕ) (whole : length before ≡ job_size) (len granule : ℕ) (b : Answer Job)
    (typed : IfOk b (λ j. Typed j)) (r : ℕ) (after : List ℕ) (e : handed r after ≡ handed_over before b) where
  holds_by : (a : Answer (List Step)) → Begins b len granule a → BegunAs r before after len granule a
  unfolding Begins BegunAs handed_over encoded_over
  holds_by (refused why) begun =
      let left : handed r after ≡ handed (number_of why) before = rw begun at e in
      (ap (λ (h : Handed). h.number) left, ap (λ (h : Handed). h.buffer) left)
  holds_by (given ss) (j, begun, lists) =
      let left : handed r after ≡ handed 0 (encoded_over before j) = rw begun at e in
      let fits : Typed j = rw begun at typed in
      let over = job_over before j in (
        ap (λ (h : Handed). h.number) left,
        (
          over,
          ap (λ (h : Handed). decoded h.buffer) left ∙ decoded-encoded over (typed_over j fits before whole),
          lists_same j over len granule ss (same_steps j (fitting fits) before whole) lists,
        ),
      )

-- what a function for C returns and leaves, by the listed steps: a refusal and the buffer as it was, or 0 and a buffer
-- that holds a job of these steps, of which none is done
pub begun_holds : (s : Setting) (img : List ℕ) (c : Command) (before : List ℕ) (r : ℕ) (after : List ℕ)
    → handed r after ≡ started_into before (start_answer s img c)
    → BegunAs r before after (length img) s.granule (for_job before (start s img c))
begun_holds s img c before r after e =
    by_cases (eqb (length before) job_size)
    (λ t. unfold for_job unless started_into in
    rw t
    (holds_by before (eqb-true (length before) job_size t) (length img) s.granule (start_answer s img c)
    (start_typed s img c) r after (rw t at e) (start s img c) (start_lists s img c)))
    (λ t. unfold for_job unless started_into BegunAs in
    let left : handed r after ≡ handed (number_of malformed) before = rw t at e in
    rw t (ap (λ (h : Handed). h.number) left, ap (λ (h : Handed). h.buffer) left))
