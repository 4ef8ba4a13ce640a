-- Steps as bytes put into the image: a rewrite puts a block, and programming puts the bytes that it leaves as given.
-- Assumes nothing.
use mathlib.Core.Path.{◌≡◌, refl, sym, ap, ap₂, ◌∙◌}
use mathlib.Core.Bool.{cond}
use mathlib.Core.Logic.{inl, inr}
use mathlib.Core.List.{List, [], ◌∷◌, ◌++◌, append_assoc}
use Prim.Native.Nat.{ℕ, zero, suc, ◌+◌, ◌*◌, ◌-◌, ◌≤◌, ◌<◌}
use native.Mathlib.Nat.{le_of_suc-le-suc, not-suc-le-zero, zero-add, suc-add}
use native.Mathlib.Omega.{arith}
use lib.Dec.{eqb}
use lib.Bits.{bit_and, and_zero_r}
use lib.ListN.{length, get_or, drop, replicate, length-append, length-replicate}
use Rattle.rules.specs.Bytes.{Bytes, block, block_size, bytes_of, erased_byte}
use Rattle.rules.specs.Steps.{steps, programs, rewrite, rewrite_pair}
use Rattle.rules.specs.Copies.{pair_agrees}
use Rattle.rules.specs.Commands.{into_place, into_places, repair_pair}
use Rattle.rules.specs.Final.{put_at, put_block, put_pair, put_places, repaired}
use Rattle.rules.proofs.Lists.Tests.{by_cases}
use Rattle.rules.proofs.Steps.Programming.{anded, anded_at, anded_with_none, steps-programs, steps_append}
use Rattle.rules.proofs.Steps.Rewriting.{erased_and, steps-rewrite}
use Rattle.rules.proofs.Steps.Cutting.{cut_all}
use Rattle.rules.proofs.Steps.Frame.{length-block, bytes_block}
use Rattle.rules.proofs.Copies.CopyRead.{WhichAddress}
use Rattle.rules.proofs.Copies.PairCuts.{Pair}
use Rattle.rules.proofs.Steps.ProgramCuts.{programs_only}
use Rattle.rules.proofs.Steps.RewriteCuts.{rewrite_only}
use Rattle.rules.proofs.Lists.Words.{length-bytes_of, bytes_of_bytes, bytes_of_zero}
use Rattle.rules.proofs.Pointers.Placing.{place_start, AllBelow}

-- ---- bytes programmed

-- programming leaves each of the bytes as given
abbrev LeavesGiven : ℕ → List ℕ → List ℕ → Type 0
LeavesGiven a bs img = (j : ℕ) → j < length bs → bit_and (get_or img (a + j) 0) (get_or bs j 0) ≡ get_or bs j 0

anded_as_given : (bs img : List ℕ)
    → length bs ≤ length img
    → ((j : ℕ) → j < length bs → bit_and (get_or img j 0) (get_or bs j 0) ≡ get_or bs j 0)
    → anded img bs ≡ bs ++ drop (length bs) img
anded_as_given [] img h e = sym (anded_with_none img)
anded_as_given (b ∷ bs) [] h e = absurd (not-suc-le-zero h)
anded_as_given (b ∷ bs) (x ∷ img) h e =
    ap₂ {C = List ℕ} (λ y r. y ∷ r) (e 0 (omega arith))
    (anded_as_given bs img (le_of_suc-le-suc h) (λ j l. e (suc j) (omega arith)))

anded_at_as_given : (a : ℕ) (bs img : List ℕ)
    → a + length bs ≤ length img
    → LeavesGiven a bs img
    → anded_at a bs img ≡ put_at a bs img
unfolding put_at
anded_at_as_given zero bs img h e =
    rw (zero-add (length bs))
    (anded_as_given bs img (omega arith) (λ j l. rw (zero-add j) at (e j l)))
anded_at_as_given (suc a) bs [] h e = absurd (omega arith)
anded_at_as_given (suc a) bs (x ∷ img) h e =
    rw (suc-add a (length bs))
    (ap {B = List ℕ} (λ r. x ∷ r) (anded_at_as_given a bs img (omega arith) (λ j l. rw (suc-add a j) at (e j l))))

programs_put : (g a : ℕ) (bs img : List ℕ)
    → a + length bs ≤ length img
    → LeavesGiven a bs img
    → steps g (programs a bs) img ≡ put_at a bs img
programs_put g a bs img h e = steps-programs g a bs img ∙ anded_at_as_given a bs img h e

-- ---- a block rewritten

module _ (g : ℕ) (holds_block : block_size ≤ g) (b : List ℕ) (whole : length b ≡ block_size) (bytes : Bytes b) where
  abbrev past : List ℕ
  past = replicate (g - block_size) erased_byte

  length_granule : length (b ++ past) ≡ g
  length_granule =
      rw (length-append b past, whole, length-replicate {A = ℕ} (g - block_size) erased_byte) (omega arith)

  pub rewrite_puts : (a : ℕ) (img : List ℕ) → a ≤ length img → steps g (rewrite a b) img ≡ put_block g a b img
  unfolding put_block put_at
  rewrite_puts a img h =
      steps-rewrite g a b img whole bytes holds_block h
      ∙ rw (length_granule, append_assoc b past (drop (a + g) img))

  pub rewrite_pair_puts : (a0 a1 : ℕ) (img : List ℕ)
      → a0 + g ≤ length img
      → a1 + g ≤ length img
      → steps g (rewrite_pair a0 a1 b) img ≡ put_pair g a0 a1 b img
  unfolding rewrite_pair put_pair
  rewrite_pair_puts a0 a1 img h0 h1 =
      let mid : List ℕ = steps g (rewrite a1 b) img in
      let kept = (rewrite_only g a1 b whole bytes holds_block img mid h1 (cut_all g (rewrite a1 b) img)).same_length in
      steps_append g (rewrite a1 b) (rewrite a0 b) img
      ∙ rewrite_puts a0 mid (omega arith)
      ∙ ap (put_block g a0 b) (rewrite_puts a1 img (omega arith))

-- ---- a pair repaired

module _ (pair : Pair) (img : List ℕ) where
  open pair use {granule, stands, a0, a1, holds_block}

  pub repair_pair_puts : (read : ℕ)
      → WhichAddress stands img a0 a1 read
      → a0 + granule ≤ length img
      → a1 + granule ≤ length img
      → Bytes img
      → steps granule (repair_pair stands img a0 a1 read) img ≡ repaired granule stands a0 a1 read img
  unfolding repair_pair repaired
  repair_pair_puts read reads in0 in1 small =
      by_cases (pair_agrees stands img a0 a1)
      (λ t. rw t (unfold steps in refl))
      (λ f. rw f
      (rewrite_puts granule holds_block (block img read)
      (length-block img read inside) (bytes_block img read inside small) (cond (eqb read a0) a1 a0) img other_inside))
    where
      inside : read + block_size ≤ length img
      inside = split reads
        where
          split : WhichAddress stands img a0 a1 read → read + block_size ≤ length img
          split (inl (t, e)) = omega arith
          split (inr (f, t, e)) = omega arith

      other_inside : cond (eqb read a0) a1 a0 ≤ length img
      other_inside = by_cases (eqb read a0) (λ t. rw t (omega arith)) (λ f. rw f (omega arith))

-- ---- eight bytes into places

pub length-into_places : (g c offset : ℕ) (bs ks img : List ℕ)
    → length (steps g (into_places c offset bs ks) img) ≡ length img
unfolding steps into_places into_place
length-into_places g c offset bs [] img = refl
length-into_places g c offset bs (k ∷ ks) img =
    let placed : List ℕ = steps g (programs (place_start c offset k) bs) img in
    ap length (steps_append g (programs (place_start c offset k) bs) (into_places c offset bs ks) img)
    ∙ length-into_places g c offset bs ks placed
    ∙ (programs_only g (place_start c offset k) bs img).same_length

module _ (g c offset count : ℕ) (room : offset + 8 * count ≤ block_size) where
  into_place_puts : (v k : ℕ) (img : List ℕ)
      → c + block_size ≤ length img
      → k < count
      → LeavesGiven (place_start c offset k) (bytes_of 8 v) img
      → steps g (into_place c offset (bytes_of 8 v) k) img ≡ put_at (place_start c offset k) (bytes_of 8 v) img
  unfolding into_place
  into_place_puts v k img fits hk e =
      programs_put g (place_start c offset k) (bytes_of 8 v) img (rw (length-bytes_of 8 v) (omega arith)) e

  -- a pointer into an erased place
  pub erased_place_puts : (v k : ℕ) (img : List ℕ)
      → c + block_size ≤ length img
      → k < count
      → ((j : ℕ) → j < 8 → get_or img (place_start c offset k + j) 0 ≡ erased_byte)
      → steps g (into_place c offset (bytes_of 8 v) k) img ≡ put_places c offset (bytes_of 8 v) (k ∷ []) img
  unfolding put_places
  erased_place_puts v k img fits hk blank =
      into_place_puts v k img fits hk λ j l.
      rw (blank j (rw (length-bytes_of 8 v) at l)) (erased_and (get_or (bytes_of 8 v) j 0) (bytes_of_bytes 8 v j))

  -- zeros into any places
  pub zeros_put : (ks img : List ℕ)
      → c + block_size ≤ length img
      → AllBelow count ks
      → steps g (into_places c offset (bytes_of 8 0) ks) img ≡ put_places c offset (bytes_of 8 0) ks img
  unfolding steps into_places put_places
  zeros_put [] img fits below = refl
  zeros_put (k ∷ ks) img fits (hk, below) =
      let placed : List ℕ = steps g (into_place c offset (bytes_of 8 0) k) img in
      let kept = (programs_only g (place_start c offset k) (bytes_of 8 0) img).same_length in
      steps_append g (into_place c offset (bytes_of 8 0) k) (into_places c offset (bytes_of 8 0) ks) img
      ∙ zeros_put ks placed (unfold into_place in rw kept fits) below
      ∙ ap (put_places c offset (bytes_of 8 0) ks) (into_place_puts 0 k img fits hk zeros)
    where
      zeros : LeavesGiven (place_start c offset k) (bytes_of 8 0) img
      zeros j l = rw (bytes_of_zero 8 j) (and_zero_r (get_or img (place_start c offset k + j) 0))
