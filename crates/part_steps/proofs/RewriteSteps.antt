-- A block rewritten: its steps from one on. Assumes nothing.
use mathlib.Core.Path.{◌≡◌, refl, ◌∙◌}
use mathlib.Core.Bool.{true, false, ◌&&◌, ◌||◌}
use mathlib.Core.Logic.{◌⊎◌, inl, inr}
use mathlib.Core.List.{List, [], ◌∷◌, ◌++◌}
use Prim.Native.Nat.{ℕ, zero, suc, ◌+◌, ◌-◌, ◌≤◌, ◌<◌}
use native.Mathlib.Omega.{arith}
use lib.Dec.{eqb, leb, ltb}
use lib.ListN.{length, take, drop, replicate, length-append, length-take, length-drop, get_or-replicate, drop_of_length-le}
use lib.Seq.{take-nil}
use borrow.Author.Tests.{le-leb, leb-true, ltb-true, ltb-false, eqb-true, eqb-false}
use Rattle.rules.proofs.Lists.Tests.{and_true, or_true, or_false}
use Rattle.walks.proofs.Joined.{and_with_true}
use Rattle.rules.specs.Bytes.{block_size}
use Rattle.rules.specs.Lists.{all}
use Rattle.rules.specs.Steps.{step, steps, wiped, programs, rewrite}
use Rattle.rules.specs.Cuts.{inside}
use Rattle.rules.specs.declared.Step.{Step}
use Rattle.rules.specs.declared.Step.TheVariants.{Program, Erase}
use Rattle.part_steps.specs.Parts.{first_step}
use Rattle.part_steps.specs.Inner.Windows.{chosen, beyond, rest_size, erase_inside, programs_inside, rewrite_inside}
use Rattle.part_steps.specs.declared.windows.Window.{Window}
use Rattle.std.specs.Prelude.{Some}
use Rattle.part_steps.proofs.Splits.{all_split, steps_joined, first_left, first_right}
use Rattle.part_steps.proofs.ProgramSteps.{length-programs, inside-programs, next_some}

pub inside_erase : (g len a k : ℕ) → all (inside g len) (drop k (Erase a ∷ [])) ≡ erase_inside g len a k
unfolding all inside erase_inside
inside_erase g len a zero = and_with_true (leb (a + g) len)
inside_erase g len a (suc k) =
    let e : drop (suc k) (Erase a ∷ []) ≡ [] = drop_of_length-le (Erase a ∷ []) {i = suc k} (omega arith) in
    rw (le-leb 1 (suc k) (omega arith), e)

-- ---- whether the erase is in a window

module _ (g a : ℕ) (w : Window) (img : List ℕ) where
  pub no_erase : ltb 0 w.from || eqb w.n 0 ≡ true → img ≡ steps g (chosen w (Erase a ∷ [])) img
  unfolding steps chosen
  no_erase t = from (or_true (ltb 0 w.from) (eqb w.n 0) t)
    where
      from : (ltb 0 w.from ≡ true) ⊎ (eqb w.n 0 ≡ true) → img ≡ steps g (take w.n (drop w.from (Erase a ∷ []))) img
      from (inl u) =
          let h = ltb-true 0 w.from u in
          rw (drop_of_length-le (Erase a ∷ []) {i = w.from} (omega arith), take-nil)
      from (inr u) = rw (eqb-true w.n 0 u)

  pub one_erase : ltb 0 w.from || eqb w.n 0 ≡ false → wiped a g img ≡ steps g (chosen w (Erase a ∷ [])) img
  unfolding steps step chosen
  one_erase t =
      let (u, v) = or_false (ltb 0 w.from) (eqb w.n 0) t in
      let h = ltb-false 0 w.from u in
      let e : w.from ≡ 0 = omega arith in
      rw e (some w.n (eqb-false w.n 0 v))
    where
      some : (m : ℕ) → (m ≡ 0 → ⊥) → wiped a g img ≡ steps g (take m (Erase a ∷ [])) img
      some zero z = absurd (z refl)
      some (suc m) z = rw (take-nil m)

pub erase_fits : (g len a k n : ℕ) → erase_inside g len a k ≡ true → ltb 0 k || eqb n 0 ≡ false → a + g ≤ len
unfolding erase_inside
erase_fits g len a k n t f = from (or_true (leb 1 k) (leb (a + g) len) t)
  where
    from : (leb 1 k ≡ true) ⊎ (leb (a + g) len ≡ true) → a + g ≤ len
    from (inl u) =
        let (w, _) = or_false (ltb 0 k) (eqb n 0) f in
        absurd (omega (arith, leb-true 1 k u, ltb-false 0 k w))
    from (inr u) = leb-true (a + g) len u

-- ---- all of the steps

pub rewrite_parts : (g len a k : ℕ) → rewrite_inside g len a k ≡ true
    → (programs_inside len a 4 k ≡ true)
    × ((erase_inside g len a (k - 4) ≡ true)
    × ((programs_inside len (a + 4) rest_size (k - 4 - 1) ≡ true)
    × (programs_inside len a 4 (k - 4 - 1 - rest_size) ≡ true)))
unfolding rewrite_inside
rewrite_parts g len a k t =
    let zeros = programs_inside len a 4 k in
    let erase = erase_inside g len a (k - 4) in
    let rest = programs_inside len (a + 4) rest_size (k - 4 - 1) in
    let magic = programs_inside len a 4 (k - 4 - 1 - rest_size) in
    let (z, t2) = and_true zeros (erase && (rest && magic)) t in
    let (u, t3) = and_true erase (rest && magic) t2 in
    (z, (u, and_true rest magic t3))

module _ (a : ℕ) (b : List ℕ) (sized : length b ≡ block_size) where
  -- zeros over the magic, the bytes after the magic, the magic
  abbrev zeros : List Step
  zeros = programs a (replicate 4 0)

  abbrev upward : List Step
  upward = programs (a + 4) (drop 4 b)

  abbrev magic : List Step
  magic = programs a (take 4 b)

  length-zeros : length zeros ≡ 4
  length-zeros = length-programs a (replicate 4 0)

  length_rest : length (drop 4 b) ≡ rest_size
  length_rest = rw (length-drop, sized)

  length_magic : length (take 4 b) ≡ 4
  length_magic = rw (length-take, sized)

  length-upward : length upward ≡ rest_size
  length-upward = length-programs (a + 4) (drop 4 b) ∙ length_rest

  pub length-rewrite : length (rewrite a b) ≡ 4 + suc block_size
  unfolding rewrite
  length-rewrite =
      length-append zeros (Erase a ∷ (upward ++ magic))
      ∙ rw (length-zeros, length-append upward magic, length-upward, length-programs a (take 4 b), length_magic)

  pub inside-rewrite : (g len k : ℕ) → all (inside g len) (drop k (rewrite a b)) ≡ rewrite_inside g len a k
  unfolding rewrite rewrite_inside
  inside-rewrite g len k =
      all_split (inside g len) k zeros (Erase a ∷ (upward ++ magic))
      ∙ rw (
        inside-programs g len a (replicate 4 0) k,
        length-zeros,
        all_split (inside g len) (k - 4) (Erase a ∷ []) (upward ++ magic),
        inside_erase g len a (k - 4),
        all_split (inside g len) (k - 4 - 1) upward magic,
        length-upward,
        inside-programs g len (a + 4) (drop 4 b) (k - 4 - 1),
        inside-programs g len a (take 4 b) (k - 4 - 1 - rest_size),
        length_rest,
        length_magic,
      )

  -- those in a window, image by image: zeros over the magic, the erase, the bytes after the magic, the magic
  pub rewrite_done : (g : ℕ) (w written rest last : Window) (bytes img zeroed erased filled after : List ℕ)
      → bytes ≡ drop 4 b
      → written ≡ beyond 4 w
      → rest ≡ beyond 1 written
      → last ≡ beyond (length bytes) rest
      → zeroed ≡ steps g (chosen w zeros) img
      → erased ≡ steps g (chosen written (Erase a ∷ [])) zeroed
      → filled ≡ steps g (chosen rest (programs (a + 4) bytes)) erased
      → after ≡ steps g (chosen last magic) filled
      → after ≡ steps g (chosen w (rewrite a b)) img
  unfolding rewrite
  rewrite_done g w written rest last bytes img zeroed erased filled after eb ew er el ez ee ef ea =
      let programmed : after ≡ steps g (chosen rest (upward ++ magic)) erased =
      steps_joined g rest last upward magic erased filled after
      (el ∙ rw (eb, length-programs (a + 4) (drop 4 b))) (ef ∙ rw eb) ea in
      let from_the_erase : after ≡ steps g (chosen written (Erase a ∷ (upward ++ magic))) zeroed =
      steps_joined g written rest (Erase a ∷ []) (upward ++ magic) zeroed erased after er ee programmed in
      steps_joined g w written zeros (Erase a ∷ (upward ++ magic)) img zeroed after (ew ∙ rw length-zeros) ez
      from_the_erase

  pub next_zero : (k : ℕ) → k < 4 → first_step (drop k (rewrite a b)) ≡ Some (Program (a + k) 0)
  unfolding rewrite
  next_zero k h =
      first_left k zeros (Erase a ∷ (upward ++ magic)) (rw length-zeros h)
      ∙ next_some a (replicate 4 0) k h
      ∙ rw (get_or-replicate {A = ℕ} 4 k 0 0 h)

  -- the erase and what comes after it
  next_written : (k : ℕ) → 4 ≤ k
      → first_step (drop k (rewrite a b)) ≡ first_step (drop (k - 4) (Erase a ∷ (upward ++ magic)))
  unfolding rewrite
  next_written k h = first_right k zeros (Erase a ∷ (upward ++ magic)) (rw length-zeros h) ∙ rw length-zeros

  pub next_erase : first_step (drop 4 (rewrite a b)) ≡ Some (Erase a)
  unfolding first_step
  next_erase = next_written 4 (omega arith)

  next_programs : (k : ℕ) → 4 < k
      → first_step (drop k (rewrite a b)) ≡ first_step (drop (k - 5) (upward ++ magic))
  next_programs k h =
      let e : k - 4 ≡ suc (k - 5) = omega arith in
      next_written k (omega arith) ∙ rw e

  pub next_rest : (k : ℕ) → 4 < k → k - 5 < rest_size
      → first_step (drop k (rewrite a b)) ≡ first_step (drop (k - 5) upward)
  next_rest k late h = next_programs k late ∙ first_left (k - 5) upward magic (rw length-upward h)

  pub next_magic : (k : ℕ) → 4 < k → rest_size ≤ k - 5
      → first_step (drop k (rewrite a b)) ≡ first_step (drop (k - 5 - rest_size) magic)
  next_magic k late h =
      next_programs k late ∙ first_right (k - 5) upward magic (rw length-upward h) ∙ rw length-upward
