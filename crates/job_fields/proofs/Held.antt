-- What a number that is read says of the kind, and the length of bytes that hold a job. Assumes nothing.
use mathlib.Core.Path.{◌≡◌}
use mathlib.Core.Bool.{true}
use mathlib.Core.List.{List}
use Prim.Native.Nat.{ℕ}
use native.Mathlib.Omega.{arith}
use lib.Dec.{eqb, leb}
use lib.ListN.{length}
use borrow.Author.Tests.{eqb-true, ne_eqb, leb-false}
use Rattle.std.specs.Prelude.{is_some, unwrap_or}
use Rattle.rules.proofs.Lists.Tests.{by_cases, and_true}
use Rattle.job_parts.specs.declared.Kind.TheVariants.{Places}
use Rattle.job_bytes.specs.Form.{job_size, kind_numbered, holds_job}
use Rattle.job_fields.specs.Kinds.{known_kind}

pub kind_there : (n : ℕ) → is_some (known_kind n) ≡ leb n 2
unfolding known_kind
kind_there n = by_cases (leb n 2) (λ t. rw t) (λ f. rw f)

pub third_else : (n : ℕ) → unwrap_or (known_kind n) Places ≡ kind_numbered n
unfolding known_kind kind_numbered
third_else n =
    by_cases (leb n 2)
    (λ t. rw t)
    (λ f.
    let high = leb-false n 2 f in
    rw (f, ne_eqb n 0 (λ e. omega arith), ne_eqb n 1 (λ e. omega arith)))

pub length_held : (bs : List ℕ) → holds_job bs ≡ true → length bs ≡ job_size
unfolding holds_job
length_held bs h = eqb-true (length bs) job_size (and_true (eqb (length bs) job_size) _ h).0
