-- A line is passed over, or does what its forms say. Assumes nothing.
use mathlib.Core.Path.{◌≡◌, refl}
use mathlib.Core.List.{List, [], ◌∷◌}
use Prim.Native.Nat.{ℕ, ◌<◌}
use native.Mathlib.Omega.{arith}
use lib.ListN.{length, get_or}
use borrow.Author.Tests.{eq-eqb, ne_eqb}
use Rattle.tokens.specs.Words.{first_word, later_words}
use Rattle.tokens.specs.Numbers.{numbers, numbers_before_bytes}
use Rattle.script.specs.Lines.{said, line_of}
use Rattle.script_lines.specs.declared.Line.TheVariants.{Nothing}

pub empty_line : (line : List ℕ) → length line ≡ 0 → Nothing ≡ line_of line
unfolding line_of
empty_line [] h = refl
empty_line (b ∷ bs) h = absurd (omega arith)

pub remark : (line : List ℕ) → 0 < length line → get_or line 0 0 ≡ 0x23 → Nothing ≡ line_of line
unfolding line_of
remark [] h e = refl
remark (b ∷ bs) h e = rw (eq-eqb b 0x23 e)

pub said_line : (line : List ℕ)
    → 0 < length line
    → (get_or line 0 0 ≡ 0x23 → ⊥)
    → said (first_word line) (numbers (later_words line)) (numbers_before_bytes (later_words line)) ≡ line_of line
unfolding line_of
said_line [] h n = absurd (omega arith)
said_line (b ∷ bs) h n = rw (ne_eqb b 0x23 n)
