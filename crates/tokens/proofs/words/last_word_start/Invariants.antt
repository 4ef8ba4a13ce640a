use mathlib.Core.Path.{◌≡◌}
use mathlib.Core.List.{[]}
use Rattle.tokens.specs.Words.{later_words}
use Prim.Native.Nat.{◌≤◌}
use lib.ListN.{length, drop}
use Rattle.tokens.proofs.words.last_word_start.Given as goal

abbrev pub invariant-loop-i : goal.invariant-loop-i
invariant-loop-i l = (l.i ≤ length l.line) × (later_words (drop l.i l.line) ≡ [])
