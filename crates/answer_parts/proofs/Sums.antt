-- The sum of some bytes as a fold. Assumes nothing.
use Rattle.std.proofs.Common.{◌≡◌, ℕ, List, [], ◌∷◌, refl, fold}
use Rattle.answer_parts.specs.Sum.{with_byte, sum_from}

pub sum_folded : (s : ℕ) (bs : List ℕ) → sum_from s bs ≡ fold with_byte s bs
unfolding sum_from
sum_folded s [] = refl
sum_folded s (b ∷ bs) = sum_folded (with_byte s b) bs
