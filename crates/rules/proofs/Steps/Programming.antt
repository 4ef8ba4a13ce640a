-- Bytes programmed upward, in one pass over the image: `fast_steps`, proved to be `steps`, for where a case is
-- computed. `steps` stores byte by byte, each time from the front of the image. Assumes nothing.
use mathlib.Core.Path.{◌≡◌, refl, sym, ap, ◌∙◌}
use mathlib.Core.Bool.{Bool, true, false, cond}
use mathlib.Core.List.{List, [], ◌∷◌, ◌++◌}
use Prim.Native.Nat.{ℕ, zero, suc}
use lib.Dec.{T, eqb, eqb→eq}
use lib.Bits.{bit_and}
use lib.ListN.{get_or, set}
use Rattle.rules.specs.declared.Step.{Step}
use Rattle.rules.specs.declared.Step.TheVariants.{Program, Erase}
use Rattle.rules.specs.Steps.{programmed, wiped, step, steps, programs}

-- ---- one run of bytes

-- each byte ANDed with the one beside it, as far as there are any
abbrev pub anded : List ℕ → List ℕ → List ℕ
anded [] bs = []
anded (x ∷ xs) [] = x ∷ xs
anded (x ∷ xs) (b ∷ bs) = bit_and x b ∷ anded xs bs

-- the same from an address on
abbrev pub anded_at : ℕ → List ℕ → List ℕ → List ℕ
anded_at zero bs img = anded img bs
anded_at (suc a) bs [] = []
anded_at (suc a) bs (x ∷ xs) = x ∷ anded_at a bs xs

pub anded_with_none : (img : List ℕ) → img ≡ anded img []
anded_with_none [] = refl
anded_with_none (x ∷ xs) = refl

anded_at_with_none : (a : ℕ) (img : List ℕ) → img ≡ anded_at a [] img
anded_at_with_none zero img = anded_with_none img
anded_at_with_none (suc a) [] = refl
anded_at_with_none (suc a) (x ∷ xs) = ap {B = List ℕ} (λ r. x ∷ r) (anded_at_with_none a xs)

anded_at_first : (a b : ℕ) (bs img : List ℕ)
    → anded_at (suc a) bs (set img a (bit_and (get_or img a 0) b)) ≡ anded_at a (b ∷ bs) img
anded_at_first zero b bs [] = refl
anded_at_first zero b bs (x ∷ xs) = refl
anded_at_first (suc a) b bs [] = refl
anded_at_first (suc a) b bs (x ∷ xs) = ap {B = List ℕ} (λ r. x ∷ r) (anded_at_first a b bs xs)

pub steps-programs : (g a : ℕ) (bs img : List ℕ) → steps g (programs a bs) img ≡ anded_at a bs img
unfolding steps step programs programmed
steps-programs g a [] img = anded_at_with_none a img
steps-programs g a (b ∷ bs) img =
    steps-programs g (suc a) bs (set img a (bit_and (get_or img a 0) b)) ∙ anded_at_first a b bs img

pub steps_append : (g : ℕ) (ss ts : List Step) (img : List ℕ) → steps g (ss ++ ts) img ≡ steps g ts (steps g ss img)
unfolding steps
steps_append g [] ts img = refl
steps_append g (s ∷ ss) ts img = steps_append g ss ts (step g s img)

-- ---- any list of steps, its runs gathered

pub data Part : Type 0 where
  bytes_upward : ℕ → List ℕ → Part
  granule_at : ℕ → Part

-- the steps of some parts
abbrev listed : List Part → List Step
listed [] = []
listed (bytes_upward a bs ∷ ps) = programs a bs ++ listed ps
listed (granule_at a ∷ ps) = Erase a ∷ listed ps

-- one byte in front of some parts, joined to a run that begins right after it
abbrev pub joined : ℕ → ℕ → List Part → List Part
joined a v [] = bytes_upward a (v ∷ []) ∷ []
joined a v (granule_at c ∷ ps) = bytes_upward a (v ∷ []) ∷ (granule_at c ∷ ps)
joined a v (bytes_upward c bs ∷ ps) =
    cond (eqb c (suc a)) (bytes_upward a (v ∷ bs) ∷ ps) (bytes_upward a (v ∷ []) ∷ (bytes_upward c bs ∷ ps))

abbrev pub gathered : List Step → List Part
gathered [] = []
gathered (Erase a ∷ ss) = granule_at a ∷ gathered ss
gathered (Program a v ∷ ss) = joined a v (gathered ss)

abbrev pub by_parts : ℕ → List Part → List ℕ → List ℕ
by_parts g [] img = img
by_parts g (bytes_upward a bs ∷ ps) img = by_parts g ps (anded_at a bs img)
by_parts g (granule_at a ∷ ps) img = by_parts g ps (wiped a g img)

abbrev pub fast_steps : ℕ → List Step → List ℕ → List ℕ
fast_steps g ss img = by_parts g (gathered ss) img

-- ---- it is the same

listed-cond : (a v c : ℕ) (bs : List ℕ) (ps : List Part) (t : Bool)
    → (T t → c ≡ suc a)
    → listed (cond t (bytes_upward a (v ∷ bs) ∷ ps) (bytes_upward a (v ∷ []) ∷ (bytes_upward c bs ∷ ps)))
    ≡ Program a v ∷ (programs c bs ++ listed ps)
unfolding programs
listed-cond a v c bs ps true h = ap (λ (k : ℕ). Program a v ∷ (programs k bs ++ listed ps)) (sym (h tt))
listed-cond a v c bs ps false h = refl

listed-joined : (a v : ℕ) (ps : List Part) → listed (joined a v ps) ≡ Program a v ∷ listed ps
unfolding programs
listed-joined a v [] = refl
listed-joined a v (granule_at c ∷ ps) = refl
listed-joined a v (bytes_upward c bs ∷ ps) = listed-cond a v c bs ps (eqb c (suc a)) (eqb→eq c (suc a))

listed-gathered : (ss : List Step) → listed (gathered ss) ≡ ss
listed-gathered [] = refl
listed-gathered (Erase a ∷ ss) = ap {B = List Step} (λ r. Erase a ∷ r) (listed-gathered ss)
listed-gathered (Program a v ∷ ss) =
    listed-joined a v (gathered ss) ∙ ap {B = List Step} (λ r. Program a v ∷ r) (listed-gathered ss)

steps_listed : (g : ℕ) (ps : List Part) (img : List ℕ) → steps g (listed ps) img ≡ by_parts g ps img
unfolding steps step
steps_listed g [] img = refl
steps_listed g (bytes_upward a bs ∷ ps) img =
    steps_append g (programs a bs) (listed ps) img
    ∙ ap (steps g (listed ps)) (steps-programs g a bs img)
    ∙ steps_listed g ps (anded_at a bs img)
steps_listed g (granule_at a ∷ ps) img = steps_listed g ps (wiped a g img)

pub fast_steps_same : (g : ℕ) (ss : List Step) (img : List ℕ) → fast_steps g ss img ≡ steps g ss img
fast_steps_same g ss img =
    sym (steps_listed g (gathered ss) img) ∙ ap (λ (l : List Step). steps g l img) (listed-gathered ss)

pub fast_is_steps : fast_steps ≡ steps
fast_is_steps = λ i g ss img. fast_steps_same g ss img i
