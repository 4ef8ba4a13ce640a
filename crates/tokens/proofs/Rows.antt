-- The words of a line read as numbers, the last word first. Assumes nothing.
use mathlib.Core.Path.{◌≡◌, refl, sym, ap, ◌∙◌}
use mathlib.Core.Bool.{true, false, ◌&&◌}
use mathlib.Core.List.{List, [], ◌∷◌, ◌++◌, append-nil, append_assoc}
use Prim.Native.Nat.{ℕ, ◌+◌, ◌-◌, ◌≤◌, ◌<◌}
use native.Mathlib.Numerals.{add-one}
use native.Mathlib.Omega.{arith}
use lib.ListN.{length, take, drop, length-append}
use lib.Seq.{length-take-le, take-length, take-take, take_at, get_or-append_seam}
use Rattle.rules.specs.Lists.{all}
use Rattle.tokens.specs.Words.{later_words, LastWordBegins}
use Rattle.answer_parts.specs.Hex.{is_bytes}
use Rattle.tokens.specs.Numbers.{number, no_numbers, numbers, numbers_before_bytes}
use Rattle.std.specs.Prelude.{Option}
use Rattle.std.specs.Option.{is_some, unwrap_or}
use Rattle.tokens.specs.declared.numbers.Row.{Row}
use Rattle.tokens.proofs.WordsOfLine.{no_later, one_later}

-- one word more in front
pub front : {row : Row} {n : Option ℕ} (w : List ℕ) (ws : List (List ℕ))
    → n ≡ number w
    → row ≡ numbers ws
    → record {
      numeric = is_some n && row.numeric;
      count = row.count + 1;
      first = unwrap_or n 0;
      second = row.first;
      third = row.second;
      fourth = row.third;
    }
    ≡ numbers (w ∷ ws)
unfolding numbers all
front w ws e h = rw (add-one, e, h)

-- the words that begin at `end` or above are read
pub record ReadFrom (line : List ℕ) (end : ℕ) (row : Row) : Type 0 where
  pub done : List (List ℕ)
  pub read : row ≡ numbers done
  pub left : later_words line ≡ later_words (take end line) ++ done
  pub room : length done + end ≤ length line

pub none_read : (line : List ℕ) → ReadFrom line (length line) (no_numbers true)
unfolding numbers all number
none_read line = record {
  done = [];
  read = refl;
  left = rw (take-length line) (sym (append-nil (later_words line)));
  room = omega arith;
}

module _ {line : List ℕ} {end : ℕ} {row : Row} (so_far : ReadFrom line end row) where
  pub count_inside : row.count + end ≤ length line
  unfolding numbers
  count_inside = rw so_far.read so_far.room

  pub all_read : later_words (take end line) ≡ [] → row ≡ numbers (later_words line)
  all_read e = so_far.read ∙ ap numbers (sym (so_far.left ∙ rw e))

  pub word_inside : {r : ℕ} → LastWordBegins (take end line) r → r ≤ end
  word_inside Begins =
      omega (arith, Begins.inside, so_far.room, length-take-le end line (omega (arith, so_far.room)))

  pub one_read : {r : ℕ} {after : Row}
      → 0 < r
      → LastWordBegins (take end line) r
      → ((ws : List (List ℕ)) → row ≡ numbers ws → after ≡ numbers (drop r (take end line) ∷ ws))
      → ReadFrom line (r - 1) after
  one_read {r} h Begins goes =
      let word = drop r (take end line) in
      record {
        done = word ∷ so_far.done;
        read = goes so_far.done so_far.read;
        left =
            so_far.left
            ∙ ap (λ (ws : List (List ℕ)). ws ++ so_far.done) (one_later (take end line) Begins h)
            ∙ rw (append_assoc, take-take (r - 1) end line (omega (arith, word_inside Begins)));
        room = omega (arith, so_far.room, word_inside Begins);
      }

-- the last word apart
module _ (line : List ℕ) {r : ℕ} (Begins : LastWordBegins line r) where
  pub no_bytes : r ≡ 0 → no_numbers false ≡ numbers_before_bytes (later_words line)
  unfolding numbers numbers_before_bytes number is_bytes all
  no_bytes e = rw (no_later line Begins e)

  pub some_bytes : (row : Row) → 0 < r
      → row ≡ numbers (later_words (take (r - 1) line))
      → record {
        numeric = row.numeric && is_bytes (drop r line);
        count = row.count;
        first = row.first;
        second = row.second;
        third = row.third;
        fourth = row.fourth;
      }
      ≡ numbers_before_bytes (later_words line)
  unfolding numbers_before_bytes
  some_bytes row h e =
      let ws = later_words (take (r - 1) line) in
      let w = drop r line in
      let short : length (ws ++ (w ∷ [])) - 1 ≡ length ws = omega (arith, length-append ws (w ∷ [])) in
      rw (e, one_later line Begins h, short, take_at ws (w ∷ []) (length ws) refl, get_or-append_seam ws w [] [])
