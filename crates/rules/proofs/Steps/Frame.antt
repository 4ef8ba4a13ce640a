-- Only some addresses changed: what steps leave alone, at every cut, and blocks that they do not meet. Assumes nothing.
use mathlib.Core.Path.{◌≡◌, sym, ap, ◌∙◌, subst}
use mathlib.Core.Logic.{◌⊎◌, inl, inr}
use mathlib.Core.List.{List, [], ◌∷◌, ◌++◌}
use Prim.Native.Nat.{ℕ, suc, ◌+◌, ◌≤◌, ◌<◌}
use native.Mathlib.Decide.{dec_le, dec_lt}
use native.Mathlib.Omega.{arith}
use lib.Bits.{bit_and, and_le_l}
use lib.ListN.{length, get_or, set, take, drop, length-take, length-drop, length-set, get_or-eq_default}
use lib.Seq.{get_or-take, get_or-drop, get_or-set_same, get_or-set_other, set_out, take-take, ext_get_or}
use Rattle.rules.specs.Bytes.{Bytes, block, block_size, erased_byte}
use Rattle.rules.specs.declared.Step.{Step}
use Rattle.rules.specs.declared.Step.TheVariants.{Program, Erase}
use Rattle.rules.specs.Steps.{programmed, step, programs}
use Rattle.rules.proofs.Steps.Wiping.{HalfErased, erased_whole}
use Rattle.rules.proofs.Steps.Cutting.{Cut}

pub record Only (P : ℕ → Type 0) (img img' : List ℕ) : Type 0 where
  pub same_length : length img' ≡ length img
  pub elsewhere : (i : ℕ) → (P i → ⊥) → get_or img' i 0 ≡ get_or img i 0
  pub still_bytes : Bytes img → Bytes img'

-- n addresses from a on
abbrev pub Range : ℕ → ℕ → ℕ → Type 0
Range a n i = (a ≤ i) × (i < a + n)

pub only_none : {P : ℕ → Type 0} (img img' : List ℕ) → img' ≡ img → Only P img img'
only_none img img' e = record {
  same_length = ap length e;
  elsewhere = λ i h. ap (λ (l : List ℕ). get_or l i 0) e;
  still_bytes = λ b i. subst (λ (l : List ℕ). get_or l i 0 < 256) (sym e) (b i);
}

pub only_then : {P : ℕ → Type 0} {x y z : List ℕ} → Only P x y → Only P y z → Only P x z
only_then h k = record {
  same_length = k.same_length ∙ h.same_length;
  elsewhere = λ i m. k.elsewhere i m ∙ h.elsewhere i m;
  still_bytes = λ b. k.still_bytes (h.still_bytes b);
}

pub only_wider : {P Q : ℕ → Type 0} {x y : List ℕ} → ((i : ℕ) → P i → Q i) → Only P x y → Only Q x y
only_wider f h = record {
  same_length = h.same_length;
  elsewhere = λ i m. h.elsewhere i (λ p. m (f i p));
  still_bytes = h.still_bytes;
}

-- ---- one step

pub only_erased : (a n : ℕ) {img img' : List ℕ} → HalfErased a n img img' → Only (Range a n) img img'
only_erased a n {img} {img'} e = record {
  same_length = e.same_length;
  elsewhere = e.elsewhere;
  still_bytes = λ b i. byte i b (e.old_or_erased i);
}
  where
    byte : (i : ℕ) → Bytes img → (get_or img' i 0 ≡ get_or img i 0) ⊎ (get_or img' i 0 ≡ erased_byte) → get_or img' i 0 < 256
    byte i b (inl old) = rw old (b i)
    byte i b (inr erased) = omega arith

pub only_programmed : (a v : ℕ) (img : List ℕ) → Only (λ i. i ≡ a) img (programmed a v img)
unfolding programmed
only_programmed a v img = record {
  same_length = length-set img a new;
  elsewhere = λ i m. get_or-set_other img a i new 0 m;
  still_bytes = λ b i. byte i b (dec_lt a (length img)) (dec_le i a) (dec_le a i);
}
  where
    new : ℕ
    new = bit_and (get_or img a 0) v

    byte : (i : ℕ) → Bytes img → Dec (a < length img) → Dec (i ≤ a) → Dec (a ≤ i) → get_or (set img a new) i 0 < 256
    byte i b (no l) x y = rw (set_out img a new (omega arith)) (b i)
    byte i b (yes l) (yes x) (yes y) =
        let e : i ≡ a = omega arith in
        rw (e, get_or-set_same img a new 0 l) (omega (arith, b a, and_le_l (get_or img a 0) v))
    byte i b (yes l) (no x) y = rw (get_or-set_other img a i new 0 (omega arith)) (b i)
    byte i b (yes l) (yes x) (no y) = rw (get_or-set_other img a i new 0 (omega arith)) (b i)

-- ---- a list of steps

-- the steps stay inside P, in an image of length n
abbrev pub StepWithin : ℕ → ℕ → (ℕ → Type 0) → Step → Type 0
StepWithin g n P (Program a v) = P a
StepWithin g n P (Erase a) = (a + g ≤ n) × ((i : ℕ) → Range a g i → P i)

abbrev pub StepsWithin : ℕ → ℕ → (ℕ → Type 0) → List Step → Type 0
StepsWithin g n P [] = Unit {0}
StepsWithin g n P (s ∷ ss) = StepWithin g n P s × StepsWithin g n P ss

pub within_append : (g n : ℕ) (P : ℕ → Type 0) (ss ts : List Step)
    → StepsWithin g n P ss
    → StepsWithin g n P ts
    → StepsWithin g n P (ss ++ ts)
within_append g n P [] ts h k = k
within_append g n P (s ∷ ss) ts h k = (h.0, within_append g n P ss ts h.1 k)

pub within_programs : (g n : ℕ) (P : ℕ → Type 0) (a : ℕ) (bs : List ℕ)
    → ((i : ℕ) → Range a (length bs) i → P i)
    → StepsWithin g n P (programs a bs)
unfolding programs
within_programs g n P a [] h = tt
within_programs g n P a (b ∷ bs) h =
    (h a (omega arith, omega arith), within_programs g n P (suc a) bs (λ i r. h i (omega arith, omega arith)))

pub within_wider : (g n : ℕ) (P Q : ℕ → Type 0) (ss : List Step)
    → ((i : ℕ) → P i → Q i)
    → StepsWithin g n P ss
    → StepsWithin g n Q ss
within_wider g n P Q [] f h = tt
within_wider g n P Q (Program a v ∷ ss) f h = (f a h.0, within_wider g n P Q ss f h.1)
within_wider g n P Q (Erase a ∷ ss) f h =
    ((h.0.0, λ i r. f i (h.0.1 i r)), within_wider g n P Q ss f h.1)

only_step : (g : ℕ) (P : ℕ → Type 0) (s : Step) (img : List ℕ)
    → StepWithin g (length img) P s
    → Only P img (step g s img)
unfolding step
only_step g P (Program a v) img h = only_wider (λ i e. subst P (sym e) h) (only_programmed a v img)
only_step g P (Erase a) img h = only_wider h.1 (only_erased a g (erased_whole a g img h.0))

pub cut_only : (g : ℕ) (P : ℕ → Type 0) (ss : List Step) (img img' : List ℕ)
    → StepsWithin g (length img) P ss
    → Cut g ss img img'
    → Only P img img'
cut_only g P [] img img' h c = only_none img img' c
cut_only g P (s ∷ ss) img img' h (inl c) = only_none img img' c
cut_only g P (Program a v ∷ ss) img img' h (inr (inl c)) = absurd c
cut_only g P (Erase a ∷ ss) img img' h (inr (inl e)) = only_wider h.0.1 (only_erased a g e)
cut_only g P (s ∷ ss) img img' h (inr (inr c)) =
    let o = only_step g P s img h.0 in
    let k = subst (λ (n : ℕ). StepsWithin g n P ss) (sym o.same_length) h.1 in
    only_then o (cut_only g P ss (step g s img) img' k c)

-- ---- blocks

pub block_byte : (img : List ℕ) (c i : ℕ) → i < block_size → get_or (block img c) i 0 ≡ get_or img (c + i) 0
unfolding block
block_byte img c i h = get_or-take block_size (drop c img) i 0 h ∙ get_or-drop c img i 0

pub length-block : (img : List ℕ) (c : ℕ) → c + block_size ≤ length img → length (block img c) ≡ block_size
unfolding block
length-block img c h = simp (length-take, length-drop) (omega arith)

pub bytes_block : (img : List ℕ) (c : ℕ) → c + block_size ≤ length img → Bytes img → Bytes (block img c)
bytes_block img c h b i = split (dec_lt i block_size)
  where
    split : Dec (i < block_size) → get_or (block img c) i 0 < 256
    split (yes d) = rw (block_byte img c i d) (b (c + i))
    split (no d) = rw (get_or-eq_default (block img c) 0 {n = i} (omega (arith, length-block img c h))) (omega arith)

-- the first m bytes of a block stay if they meet nothing that changed
pub head_kept : (P : ℕ → Type 0) (c m : ℕ) {img img' : List ℕ}
    → m ≤ block_size
    → Only P img img'
    → ((i : ℕ) → Range c m i → P i → ⊥)
    → take m (block img' c) ≡ take m (block img c)
head_kept P c m {img} {img'} hm o h =
    ext_get_or 0 (take m (block img' c)) (take m (block img c)) lengths
    λ i l. let k : i < m = omega (arith, simp length-take at l) in
    get_or-take m (block img' c) i 0 k ∙ block_byte img' c i (omega arith)
    ∙ o.elsewhere (c + i) (h (c + i) (omega arith, omega arith))
    ∙ sym (get_or-take m (block img c) i 0 k ∙ block_byte img c i (omega arith))
  where
    lengths : length (take m (block img' c)) ≡ length (take m (block img c))
    lengths = unfold block in simp (length-take, length-drop, o.same_length)

-- and so does the whole block
pub block_kept : (P : ℕ → Type 0) (c : ℕ) {img img' : List ℕ}
    → Only P img img'
    → ((i : ℕ) → Range c block_size i → P i → ⊥)
    → block img' c ≡ block img c
block_kept P c {img} {img'} o h =
    sym (whole img') ∙ head_kept P c block_size (omega arith) o h ∙ whole img
  where
    whole : (x : List ℕ) → take block_size (block x c) ≡ block x c
    whole x = unfold block in take-take block_size block_size (drop c x) (omega arith)
