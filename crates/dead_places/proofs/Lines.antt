-- Numbered texts put one after the other. Assumes nothing.
use mathlib.Core.Path.{◌≡◌, sym, ap, ◌∙◌}
use mathlib.Core.List.{List, [], ◌∷◌, ◌++◌, append_assoc, append-nil}
use Prim.Native.Nat.{ℕ, suc, ◌+◌, ◌<◌}
use native.Mathlib.Omega.{arith}
use native.Mathlib.Numerals.{add-one}
use lib.ListN.{length, take, get_or}
use lib.Seq.{take-suc, length-take-le}
use Rattle.text.specs.Put.{Put}
use Rattle.text.proofs.Puts.{then}
use Rattle.dead_places.specs.DeadLines.{numbered}

module _ (text : ℕ → ℕ → List ℕ) where
  numbered_more : (n : ℕ) (xs : List ℕ) (x : ℕ)
      → numbered text n (xs ++ (x ∷ [])) ≡ numbered text n xs ++ text (n + length xs) x
  unfolding numbered
  numbered_more n [] x = append-nil (text n x) ∙ ap (λ (m : ℕ). text m x) (omega arith)
  numbered_more n (y ∷ ys) x =
      ap (λ (l : List ℕ). text n y ++ l) (numbered_more (suc n) ys x)
      ∙ ap (λ (m : ℕ). text n y ++ (numbered text (suc n) ys ++ text m x)) (omega arith)
      ∙ sym (append_assoc (text n y) (numbered text (suc n) ys) (text (n + suc (length ys)) x))

  -- the text of element i, after those of the elements before it
  pub one_more_text : {out after last : List ℕ} {at end final : ℕ} (n : ℕ) (xs : List ℕ) (i : ℕ)
      → i < length xs
      → Put out at (numbered text n (take i xs)) after end
      → Put after end (text (n + i) (get_or xs i 0)) last final
      → Put out at (numbered text n (take (i + 1) xs)) last final
  one_more_text {out} {after} {last} {at} {end} {final} n xs i h p q =
      let line : Put after end (text (n + length (take i xs)) (get_or xs i 0)) last final =
      rw (length-take-le i xs (omega arith)) q in
      rw (add-one, take-suc xs i 0, numbered_more) (then p line)
