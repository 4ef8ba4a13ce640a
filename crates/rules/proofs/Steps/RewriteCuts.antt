-- A rewrite cut anywhere: the image is untouched, or the block is torn, or all is done. Assumes nothing.
use mathlib.Core.Path.{◌≡◌, sym, ap, ◌∙◌, subst}
use mathlib.Core.Bool.{false}
use mathlib.Core.Logic.{◌⊎◌, inl, inr}
use mathlib.Core.List.{List, [], ◌∷◌, ◌++◌}
use Prim.Native.Nat.{ℕ, suc, ◌+◌, ◌*◌, ◌-◌, ◌≤◌, ◌<◌, ◌%◌}
use native.Mathlib.Nat.{add-zero}
use native.Mathlib.Omega.{arith}
use lib.Bits.{bit_and, and_zero_r}
use lib.Dec.{eqb}
use borrow.Author.Tests.{ne_eqb}
use lib.ListN.{length, get_or, take, drop, replicate, length-drop}
use lib.Seq.{length-take-le, take_at, drop_at, get_or-set_same}
use Rattle.rules.specs.Bytes.{Bytes, block, block_size, erased_byte, field, little_endian}
use Rattle.rules.specs.declared.Step.{Step}
use Rattle.rules.specs.declared.Step.TheVariants.{Program, Erase}
use Rattle.rules.specs.Steps.{programmed, step, steps, programs, rewrite, wiped}
use Rattle.rules.proofs.Steps.Programming.{steps_append}
use Rattle.rules.proofs.Steps.Rewriting.{steps-rewrite}
use Rattle.rules.proofs.Steps.Cutting.{Cut, cut_all, cut_append}
use Rattle.rules.proofs.Steps.Wiping.{wiped_within}
use Rattle.rules.proofs.Steps.Frame.{Only, Range, StepsWithin, within_append, within_programs, cut_only, block_byte}
use Rattle.rules.proofs.Steps.ProgramCuts.{programs_only}

-- ---- torn blocks

-- byte 0 is erased or zero, or byte 3 is erased: byte 0 becomes zero first, the erase leaves it or erases it, and byte 3
-- is programmed last
abbrev pub Torn : List ℕ → Type 0
Torn b = ((get_or b 0 0 ≡ erased_byte) ⊎ (get_or b 0 0 ≡ 0)) ⊎ (get_or b 3 0 ≡ erased_byte)

-- a magic that no torn block has: its lowest byte is neither 0xFF nor 0, and its highest is not 0xFF
pub record Magic (magic : ℕ) : Type 0 where
  pub not_erased : magic % 256 ≡ erased_byte → ⊥
  pub not_zero : magic % 256 ≡ 0 → ⊥
  pub highest_not_erased : magic < 0xFF000000

byte_0_not_torn : (magic b0 rest : ℕ)
    → Magic magic
    → (b0 ≡ erased_byte) ⊎ (b0 ≡ 0)
    → b0 + 256 * rest ≡ magic
    → ⊥
byte_0_not_torn magic b0 rest m (inl e) f = m.not_erased (omega arith)
byte_0_not_torn magic b0 rest m (inr e) f = m.not_zero (omega arith)

field_not_torn : (magic : ℕ) → Magic magic → (b : List ℕ) → Torn b → field 0 4 b ≡ magic → ⊥
unfolding field little_endian
field_not_torn magic m [] (inl e) f = byte_0_not_torn magic 0 0 m e f
field_not_torn magic m [] (inr e) f = omega arith
field_not_torn magic m (b0 ∷ bs) (inl e) f = byte_0_not_torn magic b0 (little_endian (take 3 bs)) m e f
field_not_torn magic m (b0 ∷ []) (inr e) f = omega arith
field_not_torn magic m (b0 ∷ b1 ∷ []) (inr e) f = omega arith
field_not_torn magic m (b0 ∷ b1 ∷ b2 ∷ []) (inr e) f = omega arith
field_not_torn magic m (b0 ∷ b1 ∷ b2 ∷ b3 ∷ bs) (inr e) f = omega (arith, m.highest_not_erased)

-- why a block does not stand while it is rewritten
pub torn_magic : (magic : ℕ) → Magic magic → (b : List ℕ) → Torn b → eqb (field 0 4 b) magic ≡ false
torn_magic magic m b t = ne_eqb (field 0 4 b) magic (field_not_torn magic m b t)

-- ---- the first byte, zero from the first step on

stays_zero : (g a : ℕ) (bs img img' : List ℕ)
    → a < length img
    → Cut g (programs (suc a) bs) (step g (Program a 0) img) img'
    → get_or img' a 0 ≡ 0
unfolding step programmed
stays_zero g a bs img img' h c =
    let zeroed : List ℕ = step g (Program a 0) img in
    (cut_only g (λ i. a < i) (programs (suc a) bs) zeroed img'
    (within_programs g (length zeroed) (λ i. a < i) (suc a) bs (λ i r. omega arith)) c
    ).elsewhere a (λ l. omega arith)
    ∙ get_or-set_same img a (bit_and (get_or img a 0) 0) 0 h
    ∙ and_zero_r (get_or img a 0)

-- ---- four bytes, the last of them not programmed until the end

third_last : (g a b0 b1 b2 b3 : ℕ) (img img' : List ℕ)
    → get_or img (a + 3) 0 ≡ erased_byte
    → Cut g (programs a (b0 ∷ b1 ∷ b2 ∷ b3 ∷ [])) img img'
    → (get_or img' (a + 3) 0 ≡ erased_byte) ⊎ (img' ≡ steps g (programs a (b0 ∷ b1 ∷ b2 ∷ b3 ∷ [])) img)
unfolding programs steps
third_last g a b0 b1 b2 b3 img img' h c = split (cut_append g three one img img' c)
  where
    three : List Step
    three = Program a b0 ∷ Program (suc a) b1 ∷ Program (suc (suc a)) b2 ∷ []

    one : List Step
    one = Program (suc (suc (suc a))) b3 ∷ []

    unmoved : (x : List ℕ) → Cut g three img x → get_or x (a + 3) 0 ≡ erased_byte
    unmoved x d =
        (cut_only g (λ i. i < a + 3) three img x (omega arith, (omega arith, (omega arith, tt))) d
        ).elsewhere (a + 3) (λ l. omega arith)
        ∙ h

    split : Cut g three img img' ⊎ Cut g one (steps g three img) img'
        → (get_or img' (a + 3) 0 ≡ erased_byte) ⊎ (img' ≡ steps g one (steps g three img))
    split (inl d) = inl (unmoved img' d)
    split (inr (inl e)) =
        inl (subst (λ (l : List ℕ). get_or l (a + 3) 0 ≡ erased_byte) (sym e)
        (unmoved (steps g three img) (cut_all g three img)))
    split (inr (inr (inl p))) = absurd p
    split (inr (inr (inr e))) = inr e

-- ---- one rewrite

-- what follows the four zeros
abbrev written : ℕ → List ℕ → List Step
written a b = Erase a ∷ (programs (a + 4) (drop 4 b) ++ programs a (take 4 b))

pub rewrite_within : (g a : ℕ) (b : List ℕ) (n : ℕ)
    → length b ≡ block_size
    → block_size ≤ g
    → a + g ≤ n
    → StepsWithin g n (Range a g) (rewrite a b)
unfolding rewrite
rewrite_within g a b n lb hg h =
    let first_four : length (take 4 b) ≡ 4 = length-take-le 4 b (omega arith) in
    let others : length (drop 4 b) ≡ length b - 4 = length-drop 4 b in
    let in_granule : (c : ℕ) (bs : List ℕ) → ((i : ℕ) → Range c (length bs) i → Range a g i)
    → StepsWithin g n (Range a g) (programs c bs) = within_programs g n (Range a g) in
    within_append g n (Range a g) (programs a (replicate 4 0)) (written a b)
    (in_granule a (replicate 4 0) (λ i r. omega arith)) (
      (h, λ i r. r),
      within_append g n (Range a g) (programs (a + 4) (drop 4 b)) (programs a (take 4 b))
          (in_granule (a + 4) (drop 4 b) (λ i r. omega arith))
          (in_granule a (take 4 b) (λ i r. omega arith)),
    )

module _ (g a : ℕ) (b : List ℕ) (lb : length b ≡ block_size) (hb : Bytes b) (hg : block_size ≤ g) where
  pub rewrite_only : (img img' : List ℕ)
      → a + g ≤ length img
      → Cut g (rewrite a b) img img'
      → Only (Range a g) img img'
  rewrite_only img img' h c =
      cut_only g (Range a g) (rewrite a b) img img' (rewrite_within g a b (length img) lb hg h) c

  pub rewrite_done : (img : List ℕ) → a + g ≤ length img → block (steps g (rewrite a b) img) a ≡ b
  unfolding block
  rewrite_done img h =
      ap (λ (l : List ℕ). take block_size (drop a l)) (steps-rewrite g a b img lb hb hg (omega arith))
      ∙ ap (take block_size) (drop_at (take a img) (b ++ rest) a (length-take-le a img (omega arith)))
      ∙ take_at b rest block_size lb
    where
      rest : List ℕ
      rest = replicate (g - block_size) erased_byte ++ drop (a + g) img

  byte_0 : (img : List ℕ) → get_or (block img a) 0 0 ≡ get_or img a 0
  byte_0 img = block_byte img a 0 (omega arith) ∙ ap (λ (k : ℕ). get_or img k 0) (add-zero a)

  -- from the erase on, where byte 0 is zero already
  written_cut : (img img' : List ℕ)
      → get_or img a 0 ≡ 0
      → a + g ≤ length img
      → Cut g (written a b) img img'
      → Torn (block img' a) ⊎ (img' ≡ steps g (written a b) img)
  unfolding steps step
  written_cut img img' z h (inl e) = inl (inl (inr (rw e (byte_0 img ∙ z))))
  written_cut img img' z h (inr (inl e)) = inl (inl (first (e.old_or_erased a)))
    where
      first : (get_or img' a 0 ≡ get_or img a 0) ⊎ (get_or img' a 0 ≡ erased_byte)
          → (get_or (block img' a) 0 0 ≡ erased_byte) ⊎ (get_or (block img' a) 0 0 ≡ 0)
      first (inl old) = inr (byte_0 img' ∙ old ∙ z)
      first (inr erased) = inl (byte_0 img' ∙ erased)
  written_cut img img' z h (inr (inr c)) = split (cut_append g others (programs a (take 4 b)) blank img' c)
    where
      others : List Step
      others = programs (a + 4) (drop 4 b)

      blank : List ℕ
      blank = wiped a g img

      unmoved : (x : List ℕ) → Cut g others blank x → get_or x (a + 3) 0 ≡ erased_byte
      unmoved x d =
          (cut_only g (λ i. a + 3 < i) others blank x
          (within_programs g (length blank) (λ i. a + 3 < i) (a + 4) (drop 4 b) (λ i r. omega arith)) d
          ).elsewhere (a + 3) (λ l. omega arith)
          ∙ wiped_within a g img 3 (omega arith) (omega arith)

      four : (c : List ℕ)
          → length c ≡ 4
          → Cut g (programs a c) (steps g others blank) img'
          → (get_or img' (a + 3) 0 ≡ erased_byte) ⊎ (img' ≡ steps g (programs a c) (steps g others blank))
      four [] l d = absurd (omega arith)
      four (b0 ∷ []) l d = absurd (omega arith)
      four (b0 ∷ b1 ∷ []) l d = absurd (omega arith)
      four (b0 ∷ b1 ∷ b2 ∷ []) l d = absurd (omega arith)
      four (b0 ∷ b1 ∷ b2 ∷ b3 ∷ []) l d =
          third_last g a b0 b1 b2 b3 (steps g others blank) img'
          (unmoved (steps g others blank) (cut_all g others blank)) d
      four (b0 ∷ b1 ∷ b2 ∷ b3 ∷ b4 ∷ c) l d = absurd (omega arith)

      torn : get_or img' (a + 3) 0 ≡ erased_byte → Torn (block img' a)
      torn e = inr (block_byte img' a 3 (omega arith) ∙ e)

      ended : (get_or img' (a + 3) 0 ≡ erased_byte) ⊎ (img' ≡ steps g (programs a (take 4 b)) (steps g others blank))
          → Torn (block img' a) ⊎ (img' ≡ steps g (others ++ programs a (take 4 b)) blank)
      ended (inl e) = inl (torn e)
      ended (inr e) = inr (e ∙ sym (steps_append g others (programs a (take 4 b)) blank))

      split : Cut g others blank img' ⊎ Cut g (programs a (take 4 b)) (steps g others blank) img'
          → Torn (block img' a) ⊎ (img' ≡ steps g (others ++ programs a (take 4 b)) blank)
      split (inl d) = inl (torn (unmoved img' d))
      split (inr d) = ended (four (take 4 b) (length-take-le 4 b (omega arith)) d)

  -- what a cut of the rewrite leaves
  abbrev pub RewriteCut : List ℕ → List ℕ → Type 0
  RewriteCut img img' = (img' ≡ img) ⊎ (Torn (block img' a) ⊎ (img' ≡ steps g (rewrite a b) img))

  pub rewrite_cut : (img img' : List ℕ) → a + g ≤ length img → Cut g (rewrite a b) img img' → RewriteCut img img'
  unfolding rewrite programs
  rewrite_cut img img' h c = split (cut_append g zeros (written a b) img img' c)
    where
      zeros : List Step
      zeros = programs a (replicate 4 0)

      zeroed : List ℕ
      zeroed = steps g zeros img

      same_length : length zeroed ≡ length img
      same_length = (programs_only g a (replicate 4 0) img).same_length

      zero_so_far : (x : List ℕ) → Cut g (programs (suc a) (replicate 3 0)) (step g (Program a 0) img) x
          → get_or x a 0 ≡ 0
      zero_so_far x d = stays_zero g a (replicate 3 0) img x (omega arith) d

      zero_then : get_or zeroed a 0 ≡ 0
      zero_then =
          unfold steps in zero_so_far zeroed
          (cut_all g (programs (suc a) (replicate 3 0)) (step g (Program a 0) img))

      ended : Torn (block img' a) ⊎ (img' ≡ steps g (written a b) zeroed) → RewriteCut img img'
      ended (inl t) = inr (inl t)
      ended (inr e) = inr (inr (e ∙ sym (steps_append g zeros (written a b) img)))

      split : Cut g zeros img img' ⊎ Cut g (written a b) zeroed img' → RewriteCut img img'
      split (inl (inl e)) = inl e
      split (inl (inr (inl p))) = absurd p
      split (inl (inr (inr d))) = inr (inl (inl (inr (byte_0 img' ∙ zero_so_far img' d))))
      split (inr d) = ended (written_cut zeroed img' zero_then (rw same_length h) d)
