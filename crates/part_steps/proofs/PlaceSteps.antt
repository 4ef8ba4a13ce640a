-- Eight bytes into each of some places: these steps from one on. Assumes nothing.
use mathlib.Core.Path.{◌≡◌, refl, sym, ◌∙◌}
use mathlib.Core.Bool.{Bool, true, false, ◌&&◌}
use mathlib.Core.List.{List, [], ◌∷◌}
use Prim.Native.Nat.{ℕ, zero, suc, ◌+◌, ◌-◌, ◌*◌, ◌/◌, ◌%◌, ◌≤◌, ◌<◌}
use native.Mathlib.Omega.{arith}
use lib.Dec.{eqb, leb}
use lib.ListN.{length, get_or, drop, length-append, drop_of_length-le}
use lib.Seq.{drop-nil, take-nil}
use borrow.Author.Tests.{eqb-true, leb-true, leb-false}
use Rattle.rules.proofs.Lists.Tests.{and_true}
use Rattle.rules.specs.Lists.{all}
use Rattle.rules.specs.Bytes.{field}
use Rattle.rules.specs.Steps.{steps, programs}
use Rattle.rules.specs.Commands.{into_place, into_places}
use Rattle.rules.specs.Cuts.{inside}
use Rattle.part_steps.specs.Parts.{numbers_from, first_step}
use Rattle.part_steps.specs.Inner.Windows.{chosen, beyond, programs_inside, places_inside}
use Rattle.part_steps.specs.declared.windows.Window.{Window}
use Rattle.std.specs.Prelude.{None}
use Rattle.part_steps.proofs.Splits.{all_split, steps_split, first_left, first_right}
use Rattle.part_steps.proofs.PlaceNumbers.{length_numbers, number_at}
use Rattle.part_steps.proofs.ProgramSteps.{length-programs, inside-programs}

module _ (len a offset from : ℕ) where
  pub inside_cons : (p : ℕ) (ks ls : List ℕ) (address : ℕ) → address ≡ a + (offset + 8 * p) → ls ≡ p ∷ ks
      → places_inside len a offset from ls ≡ programs_inside len address 8 from && places_inside len a offset
      (from - 8) ks
  unfolding places_inside
  inside_cons p ks ls address e l = rw (e, l)

  pub inside_none : (ls : List ℕ) → ls ≡ [] → places_inside len a offset from ls ≡ true
  unfolding places_inside
  inside_none ls l = rw l

module _ (a offset : ℕ) (v : List ℕ) (eight : length v ≡ 8) where
  length_place : (p : ℕ) → length (programs (a + (offset + 8 * p)) v) ≡ 8
  length_place p = length-programs (a + (offset + 8 * p)) v ∙ eight

  pub length_places : (ks : List ℕ) → length (into_places a offset v ks) ≡ 8 * length ks
  unfolding into_places into_place
  length_places [] = refl
  length_places (p ∷ ks) =
      length-append (programs (a + (offset + 8 * p)) v) (into_places a offset v ks)
      ∙ omega (arith, length_place p, length_places ks)

  pub inside_places : (g len k : ℕ) (ks : List ℕ)
      → all (inside g len) (drop k (into_places a offset v ks)) ≡ places_inside len a offset k ks
  unfolding into_places into_place places_inside all
  inside_places g len zero [] = refl
  inside_places g len (suc k) [] = refl
  inside_places g len k (p ∷ ks) =
      all_split (inside g len) k (programs (a + (offset + 8 * p)) v) (into_places a offset v ks)
      ∙ rw (
        length_place p,
        inside-programs g len (a + (offset + 8 * p)) v k,
        eight,
        inside_places g len (k - 8) ks,
      )

  -- those in a window, of a row that begins with a place, image by image
  pub places_step : (g : ℕ) (w rest : Window) (p address : ℕ) (ks ls img after : List ℕ)
      → address ≡ a + (offset + 8 * p)
      → ls ≡ p ∷ ks
      → rest ≡ beyond 8 w
      → after ≡ steps g (chosen w (programs address v)) img
      → steps g (chosen w (into_places a offset v ls)) img
      ≡ steps g (chosen rest (into_places a offset v ks)) after
  unfolding into_places into_place
  places_step g w rest p address ks ls img after ea el er ei =
      rw (er, ei, ea, el) (steps_split g w (programs (a + (offset + 8 * p)) v) (into_places a offset v ks) img
      ∙ rw (length_place p))

  pub steps_none : (g : ℕ) (w : Window) (ls img : List ℕ) → ls ≡ [] → steps g (chosen w (into_places a offset v ls)) img
      ≡ img
  unfolding into_places steps chosen
  steps_none g w ls img el = rw (el, drop-nil w.from, take-nil w.n)

  pub next_place : (k : ℕ) (ks : List ℕ) → k < 8 * length ks
      → first_step (drop k (into_places a offset v ks))
      ≡ first_step (drop (k % 8) (programs (a + (offset + 8 * get_or ks (k / 8) 0)) v))
  unfolding into_places into_place
  next_place k [] h = absurd (omega arith)
  next_place k (p ∷ ks) h = later (leb 8 k) refl (next_place (k - 8) ks)
    where
      later : (t : Bool) → leb 8 k ≡ t
          → (k - 8 < 8 * length ks
          → first_step (drop (k - 8) (into_places a offset v ks))
          ≡ first_step (drop ((k - 8) % 8) (programs (a + (offset + 8 * get_or ks ((k - 8) / 8) 0)) v)))
          → first_step (drop k (into_places a offset v (p ∷ ks)))
          ≡ first_step (drop (k % 8) (programs (a + (offset + 8 * get_or (p ∷ ks) (k / 8) 0)) v))
      later false t rest =
          let low = leb-false 8 k t in
          let q : k / 8 ≡ 0 = omega arith in
          let r : k % 8 ≡ k = omega arith in
          rw (q, r) (first_left k (programs (a + (offset + 8 * p)) v) (into_places a offset v ks)
          (rw (length_place p) (omega arith)))
      later true t rest =
          let high = leb-true 8 k t in
          let q : k / 8 ≡ suc ((k - 8) / 8) = omega arith in
          let r : k % 8 ≡ (k - 8) % 8 = omega arith in
          rw (q, r)
          (first_right k (programs (a + (offset + 8 * p)) v) (into_places a offset v ks) (rw (length_place p)
          (omega arith))
          ∙ rw (length_place p) (rest (omega arith)))

  -- the same of numbers that are read
  pub next_place_read : (k n : ℕ) (bs : List ℕ) (place address : ℕ)
      → place ≡ field (2 * (k / 8)) 2 bs
      → address ≡ a + (offset + 8 * place)
      → k / 8 < n
      → first_step (drop (k % 8) (programs address v)) ≡ first_step (drop k (into_places a offset v (numbers_from n bs)))
  next_place_read k n bs place address ep ea h =
      rw (ea, ep, ← number_at n (k / 8) bs h)
      (sym (next_place k (numbers_from n bs) (rw (length_numbers n bs) (omega arith))))

  pub no_next_place : (k : ℕ) (ks : List ℕ) → 8 * length ks ≤ k → first_step (drop k (into_places a offset v ks))
      ≡ None
  unfolding first_step
  no_next_place k ks h = rw (drop_of_length-le (into_places a offset v ks) {i = k} (rw (length_places ks) h))

-- the test for a whole place
pub place_asked : (from n : ℕ) {m : ℕ} → eqb from 0 && leb m n ≡ true → (from ≡ 0) × (m ≤ n)
place_asked from n {m} t =
    let (first, enough) = and_true (eqb from 0) (leb m n) t in
    (eqb-true from 0 first, leb-true m n enough)
