-- Texts made of a part for each element of a list: the parts put so far, and one more. Assumes nothing.
use mathlib.Core.Path.{◌≡◌}
use mathlib.Core.List.{List, [], ◌∷◌, ◌++◌, append_assoc, append-nil}
use Prim.Native.Nat.{ℕ, ◌+◌, ◌≤◌, ◌<◌}
use native.Mathlib.Numerals.{add-one}
use lib.ListN.{length, get_or, take}
use lib.Seq.{take-suc, take_all}
use Rattle.text.specs.Put.{Put}
use Rattle.text.proofs.Puts.{then}

-- a text that has a part for each element
module _
    (part : ℕ → List ℕ)
    (text : List ℕ → List ℕ)
    (none : text [] ≡ [])
    (one : (x : ℕ) (xs : List ℕ) → text (x ∷ xs) ≡ part x ++ text xs)
  where
    text_append : (xs ys : List ℕ) → text (xs ++ ys) ≡ text xs ++ text ys
    text_append [] ys = rw none
    text_append (x ∷ xs) ys =
        rw (one x (xs ++ ys), one x xs, text_append xs ys, append_assoc (part x) (text xs) (text ys))

    text_single : (b : ℕ) → text (b ∷ []) ≡ part b
    text_single b = rw (one b [], none, append-nil (part b))

    pub put_one_more : {out after last : List ℕ} {at end final : ℕ} (bs : List ℕ) (i d : ℕ)
        → i < length bs
        → Put out at (text (take i bs)) after end
        → Put after end (part (get_or bs i d)) last final
        → Put out at (text (take (i + 1) bs)) last final
    put_one_more bs i d h p q =
        rw (add-one, take-suc bs i d, text_append (take i bs) (get_or bs i d ∷ []), text_single (get_or bs i d)) (then p q)

    pub put_every : {out after : List ℕ} {at end : ℕ} (bs : List ℕ) (i : ℕ)
        → length bs ≤ i
        → Put out at (text (take i bs)) after end
        → Put out at (text bs) after end
    put_every bs i h p = rw take_all at p
