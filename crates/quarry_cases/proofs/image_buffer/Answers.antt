-- The array has as many elements as its type says. Assumes nothing.
use Rattle.std.proofs.Common.{ℕ, sym}
use Rattle.std.proofs.lemmas.List.{length-replicate}
use Rattle.quarry_cases.proofs.image_buffer.Goals as goal

pub returns : goal.returns
returns c = sym (length-replicate {A = ℕ} 528384 0)
