-- A rewrite as one splice: the block, and after it erased bytes up to the granule's end. Assumes nothing.
use mathlib.Core.Path.{◌≡◌, refl, sym, ap, ap₂, ◌∙◌}
use mathlib.Core.List.{List, [], ◌∷◌, ◌++◌}
use Prim.Native.Nat.{ℕ, zero, suc, ◌+◌, ◌-◌, ◌≤◌, ◌<◌}
use native.Mathlib.Nat.{add-zero, mod-eq_of_lt, suc-add, zero-add, sub-zero, suc-sub-suc, le_of_suc-le-suc, not-suc-le-zero}
use native.Mathlib.Omega.{arith}
use lib.Bits.{bit_and, and_comm, and_mask}
use lib.ListN.{length, take, drop, replicate}
use lib.Seq.{length-take-le}
use Rattle.rules.specs.Bytes.{Bytes, block_size, erased_byte}
use Rattle.rules.specs.declared.Step.{Step}
use Rattle.rules.specs.declared.Step.TheVariants.{Erase}
use Rattle.rules.specs.Steps.{step, steps, programs, rewrite, wiped}
use Rattle.rules.proofs.Steps.Programming.{anded, anded_at, anded_with_none, steps-programs, steps_append}

pub erased_and : (b : ℕ) → b < 256 → bit_and erased_byte b ≡ b
erased_and b h = and_comm erased_byte b ∙ and_mask b 8 ∙ mod-eq_of_lt h

-- bytes programmed over erased ones
over_erased : (n : ℕ) (bs rest : List ℕ)
    → Bytes bs
    → length bs ≤ n
    → anded (replicate n erased_byte ++ rest) bs ≡ bs ++ (replicate (n - length bs) erased_byte ++ rest)
over_erased zero [] [] hb h = refl
over_erased zero [] (x ∷ rest) hb h = refl
over_erased zero (b ∷ bs) rest hb h = absurd (not-suc-le-zero h)
over_erased (suc n) [] rest hb h = ap (λ (k : ℕ). replicate k erased_byte ++ rest) (sym (sub-zero (suc n)))
over_erased (suc n) (b ∷ bs) rest hb h =
    ap₂ {C = List ℕ} (λ x r. x ∷ r) (erased_and b (hb 0))
    (over_erased n bs rest (λ i. hb (suc i)) (le_of_suc-le-suc h)
    ∙ ap (λ (k : ℕ). bs ++ (replicate k erased_byte ++ rest)) (sym (suc-sub-suc n (length bs))))

anded_after : (p q bs : List ℕ) (k : ℕ) → anded_at (length p + k) bs (p ++ q) ≡ p ++ anded_at k bs q
anded_after [] q bs k = ap (λ (n : ℕ). anded_at n bs q) (zero-add k)
anded_after (x ∷ p) q bs k =
    ap (λ (n : ℕ). anded_at n bs (x ∷ (p ++ q))) (suc-add (length p) k)
    ∙ ap {B = List ℕ} (λ r. x ∷ r) (anded_after p q bs k)

-- all but the first four bytes, then those
four_last : (m : ℕ) (b rest : List ℕ)
    → Bytes b
    → 4 ≤ length b
    → length b ≤ suc (suc (suc (suc m)))
    → anded (anded_at 4 (drop 4 b) (replicate (suc (suc (suc (suc m)))) erased_byte ++ rest)) (take 4 b)
    ≡ b ++ (replicate (suc (suc (suc (suc m))) - length b) erased_byte ++ rest)
four_last m [] rest hb h k = absurd (omega arith)
four_last m (b0 ∷ []) rest hb h k = absurd (omega arith)
four_last m (b0 ∷ (b1 ∷ [])) rest hb h k = absurd (omega arith)
four_last m (b0 ∷ (b1 ∷ (b2 ∷ []))) rest hb h k = absurd (omega arith)
four_last m (b0 ∷ (b1 ∷ (b2 ∷ (b3 ∷ bs)))) rest hb h k =
    let tail : List ℕ = anded (replicate m erased_byte ++ rest) bs in
    let e : suc (suc (suc (suc m))) - suc (suc (suc (suc (length bs)))) ≡ m - length bs = omega arith in
    rw (erased_and b0 (hb 0), erased_and b1 (hb 1), erased_and b2 (hb 2), erased_and b3 (hb 3), e)
    (ap {B = List ℕ} (λ r. b0 ∷ (b1 ∷ (b2 ∷ (b3 ∷ r))))
    (sym (anded_with_none tail) ∙ over_erased m bs rest (λ i. hb (suc (suc (suc (suc i))))) (omega arith)))

-- ---- bytes programmed in what is then erased

kept_before : (a : ℕ) (bs img : List ℕ) → take a (anded_at a bs img) ≡ take a img
kept_before zero bs img = refl
kept_before (suc a) bs [] = refl
kept_before (suc a) bs (x ∷ img) = ap {B = List ℕ} (λ r. x ∷ r) (kept_before a bs img)

kept_past : (n : ℕ) (bs img : List ℕ) → length bs ≤ n → drop n (anded img bs) ≡ drop n img
kept_past n bs [] h = refl
kept_past n [] (x ∷ img) h = refl
kept_past zero (b ∷ bs) (x ∷ img) h = absurd (not-suc-le-zero h)
kept_past (suc n) (b ∷ bs) (x ∷ img) h = kept_past n bs img (le_of_suc-le-suc h)

kept_after : (a n : ℕ) (bs img : List ℕ) → length bs ≤ n → drop (a + n) (anded_at a bs img) ≡ drop (a + n) img
kept_after zero n bs img h = rw (zero-add n) (kept_past n bs img h)
kept_after (suc a) n bs [] h = refl
kept_after (suc a) n bs (x ∷ img) h = rw (suc-add a n) (kept_after a n bs img h)

programs_then_wiped : (g a n : ℕ) (bs img : List ℕ)
    → length bs ≤ n
    → wiped a n (steps g (programs a bs) img) ≡ wiped a n img
unfolding wiped
programs_then_wiped g a n bs img h = rw (steps-programs g a bs img, kept_before a bs img, kept_after a n bs img h)

-- ---- the whole rewrite

-- after the erase
steps_on_erased : (g a : ℕ) (b img : List ℕ)
    → length b ≡ block_size
    → Bytes b
    → block_size ≤ g
    → a ≤ length img
    → steps g (programs (a + 4) (drop 4 b) ++ programs a (take 4 b)) (wiped a g img)
    ≡ take a img ++ (b ++ (replicate (g - block_size) erased_byte ++ drop (a + g) img))
unfolding wiped
steps_on_erased g a b img lb hb hg ha =
    steps_append g (programs (a + 4) (drop 4 b)) (programs a (take 4 b)) (before ++ granule)
    ∙ steps-programs g a (take 4 b) (steps g (programs (a + 4) (drop 4 b)) (before ++ granule))
    ∙ ap (anded_at a (take 4 b)) but_four
    ∙ ap (λ (n : ℕ). anded_at n (take 4 b) (before ++ anded_at 4 (drop 4 b) granule))
    (sym at_a ∙ sym (add-zero (length before)))
    ∙ anded_after before (anded_at 4 (drop 4 b) granule) (take 4 b) 0
    ∙ ap (λ (r : List ℕ). before ++ r) within
  where
    before : List ℕ
    before = take a img

    after : List ℕ
    after = drop (a + g) img

    granule : List ℕ
    granule = replicate g erased_byte ++ after

    at_a : length before ≡ a
    at_a = length-take-le a img ha

    but_four : steps g (programs (a + 4) (drop 4 b)) (before ++ granule) ≡ before ++ anded_at 4 (drop 4 b) granule
    but_four =
        steps-programs g (a + 4) (drop 4 b) (before ++ granule)
        ∙ ap (λ (n : ℕ). anded_at (n + 4) (drop 4 b) (before ++ granule)) (sym at_a)
        ∙ anded_after before granule (drop 4 b) 4

    whole : g ≡ suc (suc (suc (suc (g - 4))))
    whole = omega arith

    left : suc (suc (suc (suc (g - 4)))) - length b ≡ g - block_size
    left = omega arith

    within : anded (anded_at 4 (drop 4 b) granule) (take 4 b) ≡ b ++ (replicate (g - block_size) erased_byte ++ after)
    within =
        ap (λ (n : ℕ). anded (anded_at 4 (drop 4 b) (replicate n erased_byte ++ after)) (take 4 b)) whole
        ∙ four_last (g - 4) b after hb (omega arith) (omega arith)
        ∙ ap (λ (n : ℕ). b ++ (replicate n erased_byte ++ after)) left

pub steps-rewrite : (g a : ℕ) (b img : List ℕ)
    → length b ≡ block_size
    → Bytes b
    → block_size ≤ g
    → a ≤ length img
    → steps g (rewrite a b) img
    ≡ take a img ++ (b ++ (replicate (g - block_size) erased_byte ++ drop (a + g) img))
unfolding steps step rewrite
steps-rewrite g a b img lb hb hg ha =
    let written : List Step = programs (a + 4) (drop 4 b) ++ programs a (take 4 b) in
    steps_append g (programs a (replicate 4 0)) (Erase a ∷ written) img
    ∙ ap (steps g written) (programs_then_wiped g a g (replicate 4 0) img (omega arith))
    ∙ steps_on_erased g a b img lb hb hg ha
