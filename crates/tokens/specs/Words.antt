-- The words of a line: "one space between words, none elsewhere". A word is empty where a space stands elsewhere, and
-- no form of a line takes an empty word. Assumes nothing.
use Rattle.std.specs.Prelude.{◌≡◌, cond, List, [], ◌∷◌, ℕ, ◌-◌, ◌≤◌, ◌<◌, eqb, length, get_or, drop}
use Rattle.names.specs.Before.{before}

abbrev pub space : ℕ
space = 0x20

-- the verb
abbrev pub first_word : List ℕ → List ℕ
first_word line = before space line

-- the words after it
unfoldable pub later_words : List ℕ → List (List ℕ)
later_words [] = []
later_words (b ∷ bs) = cond (eqb b space) (first_word bs ∷ later_words bs) (later_words bs)

-- the last of some words, where w stands before them
unfoldable pub last_of : List ℕ → List (List ℕ) → List ℕ
last_of w [] = w
last_of w (v ∷ vs) = last_of v vs

unfoldable pub last_word : List ℕ → List ℕ
last_word line = last_of (first_word line) (later_words line)

-- r is where the last word begins: no space follows, and one stands before it unless it is the only word
pub record LastWordBegins (line : List ℕ) (r : ℕ) : Type 0 where
  pub inside : r ≤ length line
  pub no_space : later_words (drop r line) ≡ []
  pub after_space : 0 < r → get_or line (r - 1) 0 ≡ space
