-- What a listing prints of the dead places, to the byte. Assumes nothing.
use Rattle.std.specs.Prelude.{cond, List, [], ◌∷◌, ◌++◌, ℕ, suc}
use Rattle.rules.specs.Lists.{any}
use Rattle.rules.specs.Pointers.{judged, is_dead}
use Rattle.rules.specs.declared.Place.{Place}
use Rattle.rules.specs.declared.Place.TheVariants.{Erased, Spent, Live, PartWritten, Stray}
use Rattle.text.specs.Shown.{decimal}

abbrev pub space : ℕ
space = 0x20

abbrev pub newline : ℕ
newline = 0x0A

-- a text for each element of a list, numbered from n on
unfoldable pub numbered : (ℕ → ℕ → List ℕ) → ℕ → List ℕ → List ℕ
numbered text n [] = []
numbered text n (x ∷ xs) = text n x ++ numbered text (suc n) xs

-- place kind value
unfoldable pub places_header : List ℕ
places_header =
    112 ∷ 108 ∷ 97 ∷ 99 ∷ 101 ∷ space
    ∷ 107 ∷ 105 ∷ 110 ∷ 100 ∷ space
    ∷ 118 ∷ 97 ∷ 108 ∷ 117 ∷ 101 ∷ newline
    ∷ []

-- the word of a dead place's kind
unfoldable pub kind_word : Place → List ℕ
kind_word Erased = []
kind_word Spent = 115 ∷ 112 ∷ 101 ∷ 110 ∷ 116 ∷ []
kind_word (Live s) = []
kind_word PartWritten = 112 ∷ 97 ∷ 114 ∷ 116 ∷ 45 ∷ 119 ∷ 114 ∷ 105 ∷ 116 ∷ 116 ∷ 101 ∷ 110 ∷ []
kind_word (Stray v) = 115 ∷ 116 ∷ 114 ∷ 97 ∷ 121 ∷ []

-- the line of a place "that is spent, part-written or stray": its number, its kind, "the value in decimal"
unfoldable pub place_line : ℕ → Place → ℕ → List ℕ
place_line k j v =
    cond (is_dead j) (decimal k ++ (space ∷ kind_word j ++ (space ∷ decimal v ++ (newline ∷ [])))) []

-- the line of place k with this value, by the slots' starts
unfoldable pub judged_line : List ℕ → ℕ → ℕ → List ℕ
judged_line starts k v = place_line k (judged starts v) v

-- "a blank line, `place kind value` and one line for each place, upward"; "If none is, the output stays as in
-- document 01"
unfoldable pub dead_part : List ℕ → List ℕ → List ℕ
dead_part starts vs =
    cond (any (λ v. is_dead (judged starts v)) vs)
    (newline ∷ places_header ++ numbered (judged_line starts) 0 vs)
    []
