-- Decimal numbers of a script, and the words of a line read as numbers. Assumes nothing.
use Rattle.std.specs.Prelude.{Bool, cond, ◌&&◌, List, [], ◌∷◌, ℕ, ◌+◌, ◌-◌, ◌*◌, ◌^◌, leb, ltb, length, get_or, take, Option, Some, None}
use Rattle.rules.specs.Lists.{all}
use Rattle.answer_parts.specs.Hex.{is_bytes}
use Rattle.std.specs.Option.{is_some, unwrap_or}
use Rattle.tokens.specs.declared.numbers.Row.{Row}

-- ---- one word

-- the value of a decimal digit; 10 for any other byte
unfoldable pub digit : ℕ → ℕ
digit b = cond (leb 0x30 b && leb b 0x39) (b - 0x30) 10

-- a number of which the digits so far have the value v: below 2^64, and digits only
unfoldable pub number_from : ℕ → List ℕ → Option ℕ
number_from v [] = Some v
number_from v (b ∷ bs) =
    cond (ltb (digit b) 10 && ltb (10 * v + digit b) (2 ^ 64)) (number_from (10 * v + digit b) bs) None

-- "Numbers are decimal digits, leading zeros allowed, at most 2^64 - 1"
unfoldable pub number : List ℕ → Option ℕ
number [] = None
number (b ∷ bs) = number_from 0 (b ∷ bs)

abbrev pub is_number : List ℕ → Bool
is_number w = is_some (number w)

abbrev pub value : List ℕ → ℕ
value w = unwrap_or (number w) 0

-- ---- the words after the verb

-- of no word
abbrev pub no_numbers : Bool → Row
no_numbers numeric = record { numeric = numeric; count = 0; first = 0; second = 0; third = 0; fourth = 0 }

-- whether each is a number, how many there are, and the values of the first four, 0 where there is none
unfoldable pub numbers : List (List ℕ) → Row
numbers ws = record {
  numeric = all is_number ws;
  count = length ws;
  first = value (get_or ws 0 []);
  second = value (get_or ws 1 []);
  third = value (get_or ws 2 []);
  fourth = value (get_or ws 3 []);
}

-- the same of the words before the last, which is bytes in hexadecimal
unfoldable pub numbers_before_bytes : List (List ℕ) → Row
numbers_before_bytes ws =
    let before = numbers (take (length ws - 1) ws) in
    record {
      numeric = before.numeric && is_bytes (get_or ws (length ws - 1) []);
      count = before.count;
      first = before.first;
      second = before.second;
      third = before.third;
      fourth = before.fourth;
    }
