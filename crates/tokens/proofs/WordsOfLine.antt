-- How the words of a line follow from its bytes, one byte more in front, and one word more at the end. Assumes nothing.
use mathlib.Core.Path.{◌≡◌, refl, sym, ap, ◌∙◌}
use mathlib.Core.List.{List, [], ◌∷◌, ◌++◌}
use Prim.Native.Nat.{ℕ, suc, ◌-◌, ◌≤◌, ◌<◌}
use native.Mathlib.Omega.{arith}
use lib.Dec.{eqb}
use lib.ListN.{length, get_or, take, drop, length-drop}
use lib.Seq.{split_at, take_all, drop-cons}
use borrow.Author.Tests.{ne_eqb, eqb-true, eqb-false}
use Rattle.rules.proofs.Lists.Tests.{by_cases}
use Rattle.names.specs.Before.{before}
use Rattle.tokens.specs.Words.{space, first_word, later_words, last_of, last_word, LastWordBegins}

-- ---- the bytes before one that stops them

before_taken : (stop : ℕ) (bs : List ℕ) → take (length (before stop bs)) bs ≡ before stop bs
unfolding before
before_taken stop [] = refl
before_taken stop (b ∷ bs) = by_cases (eqb b stop) (λ t. rw t) (λ t. rw (t, before_taken stop bs))

-- ---- parts of a text, as code takes them

pub first_taken : (bs : List ℕ) (n : ℕ) → n ≡ length (first_word bs) → take n bs ≡ first_word bs
first_taken bs n e = rw e (before_taken space bs)

pub rest : (bs : List ℕ) (i : ℕ) → take (length bs - i) (drop i bs) ≡ drop i bs
rest bs i = take_all (length bs - i) (drop i bs) (simp length-drop (omega arith))

-- ---- a text with no space

-- one byte more in front
pub later_goes : (bs : List ℕ) (i : ℕ)
    → 0 < i
    → i ≤ length bs
    → (get_or bs (i - 1) 0 ≡ space → ⊥)
    → later_words (drop i bs) ≡ []
    → later_words (drop (i - 1) bs) ≡ []
unfolding later_words
later_goes bs i h k n e =
    let next : suc (i - 1) ≡ i = omega arith in
    let rest : later_words (drop (suc (i - 1)) bs) ≡ [] = rw next e in
    rw (drop-cons bs (i - 1) 0 (omega arith), ne_eqb (get_or bs (i - 1) 0) space n) rest

only_word : (bs : List ℕ) → later_words bs ≡ [] → first_word bs ≡ bs
unfolding later_words before
only_word [] e = refl
only_word (b ∷ bs) e = by_cases (eqb b space)
    (λ t. absurd (none (rw t at e)))
    (λ t. rw (t, only_word bs (rw t at e)))
  where
    none : {w : List ℕ} {ws : List (List ℕ)} → w ∷ ws ≡ [] → ⊥
    none h = let z : ◌≡◌ {A = ℕ} 0 1 = cc in omega arith

-- ---- a word more at the end

module _ (w : List ℕ) where
  first_of_more : (bs : List ℕ) → first_word (bs ++ space ∷ w) ≡ first_word bs
  unfolding before
  first_of_more [] = refl
  first_of_more (b ∷ bs) = by_cases (eqb b space) (λ t. rw t) (λ t. rw (t, first_of_more bs))

  later_of_more : later_words w ≡ [] → (bs : List ℕ) → later_words (bs ++ space ∷ w) ≡ later_words bs ++ (w ∷ [])
  unfolding later_words
  later_of_more e [] = rw (only_word w e, e)
  later_of_more e (b ∷ bs) = by_cases (eqb b space)
      (λ t. rw (t, first_of_more bs, later_of_more e bs))
      (λ t. rw (t, later_of_more e bs))

pub last_of_more : (v : List ℕ) (ws : List (List ℕ)) (w : List ℕ) → last_of v (ws ++ (w ∷ [])) ≡ w
unfolding last_of
last_of_more v [] w = refl
last_of_more v (u ∷ ws) w = last_of_more u ws w

-- ---- the last word of a line

module _ (line : List ℕ) {r : ℕ} (Begins : LastWordBegins line r) where
  pub no_later : r ≡ 0 → later_words line ≡ []
  no_later e = ap (λ (k : ℕ). later_words (drop k line)) (sym e) ∙ Begins.no_space

  pub one_later : 0 < r → later_words line ≡ later_words (take (r - 1) line) ++ (drop r line ∷ [])
  one_later h =
      let parted : line ≡ take (r - 1) line ++ get_or line (r - 1) 0 ∷ drop (suc (r - 1)) line
      = split_at line (r - 1) 0 (omega (arith, Begins.inside)) in
      let next : suc (r - 1) ≡ r = omega arith in
      ap later_words (rw (next, Begins.after_space h) at parted)
      ∙ later_of_more (drop r line) Begins.no_space (take (r - 1) line)

  pub last_begins : drop r line ≡ last_word line
  unfolding last_word last_of
  last_begins = by_cases (eqb r 0)
      (λ t.
      let none = no_later (eqb-true r 0 t) in
      rw (eqb-true r 0 t, none) (sym (only_word line none)))
      (λ t.
      let some = one_later (omega (arith, eqb-false r 0 t)) in
      sym (ap (last_of (first_word line)) some ∙ last_of_more (first_word line) (later_words (take (r - 1) line)) (drop r line)))
