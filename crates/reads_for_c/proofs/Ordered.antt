-- An order by its count. Assumes nothing.
use mathlib.Core.Path.{◌≡◌, refl}
use mathlib.Core.List.{List}
use Prim.Native.Nat.{ℕ}
use lib.ListN.{length}
use Rattle.rules.specs.Answers.{Answer, refused, given}
use Rattle.order_lists.specs.Answers.{count_of}
use Rattle.codes.specs.Answered.{number, kept}

pub number_of_count : (a : Answer (List ℕ)) → number (count_of a) ≡ number a
unfolding number
number_of_count (refused why) = refl
number_of_count (given o) = refl

pub kept_count : (a : Answer (List ℕ)) (old : ℕ) → kept (λ n. n) (count_of a) old ≡ kept length a old
unfolding kept
kept_count (refused why) old = refl
kept_count (given o) old = refl
