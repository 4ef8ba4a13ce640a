-- A name in front of the lent bytes, or a refusal that writes nothing. Assumes nothing.
use mathlib.Core.Path.{◌≡◌, ◌∙◌}
use mathlib.Core.List.{List}
use Prim.Native.Nat.{ℕ, ◌+◌, ◌≤◌}
use native.Mathlib.Omega.{arith}
use lib.ListN.{length}
use lib.Seq.{sets-eq}
use Rattle.rules.specs.Answers.{Answer, refused, given, number_of}
use Rattle.rules.specs.declared.Refusal.{Refusal}
use Rattle.rules.specs.Readers.{row_after}
use Rattle.text.specs.Put.{Put}
use Rattle.reads_for_c.specs.Answered.{Written}
use Rattle.codes.proofs.Numbered.{number-refused, kept-refused}

-- bytes put at the front
pub put_front : {row after text : List ℕ} {end : ℕ}
    → Put row 0 text after end
    → length text ≤ length row
    → after ≡ row_after (given text) row
unfolding row_after
put_front {row} {after} {text} p h =
    let e : 0 + length text ≡ length text = omega arith in
    p.stored ∙ sets-eq text row 0 (omega arith) ∙ rw e

-- a refusal writes nothing
pub written_refused : {a : Answer (List ℕ)} {why : Refusal} {r : ℕ} (row : List ℕ) (count : ℕ)
    → r ≡ number_of why
    → refused why ≡ a
    → Written a r row row count count
unfolding row_after
written_refused row count er e = record {
  returned = er ∙ number-refused e;
  row_left = rw (← e);
  count_left = kept-refused length count e;
}
