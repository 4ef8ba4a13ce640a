-- A pair of copies rewritten, copy 1 and then copy 0, or repaired: which block is read at every cut. Assumes nothing.
use mathlib.Core.Path.{◌≡◌, refl, sym, ap, ◌∙◌}
use mathlib.Core.Bool.{Bool, true, false}
use mathlib.Core.Logic.{◌⊎◌, inl, inr}
use mathlib.Core.List.{List, []}
use Rattle.std.specs.Prelude.{Some}
use Prim.Native.Nat.{ℕ, ◌+◌, ◌≤◌}
use native.Mathlib.Omega.{arith}
use borrow.Author.Tests.{eq-eqb, ne_eqb}
use lib.ListN.{length}
use Rattle.rules.specs.Bytes.{Bytes, block, block_size}
use Rattle.rules.specs.Steps.{steps, rewrite, rewrite_pair}
use Rattle.rules.specs.Copies.{pair_agrees}
use Rattle.rules.specs.Commands.{repair_pair}
use Rattle.rules.proofs.Lists.Tests.{by_cases}
use Rattle.rules.proofs.Steps.Programming.{steps_append}
use Rattle.rules.proofs.Steps.Cutting.{Cut, cut_all, cut_append}
use Rattle.rules.proofs.Steps.Frame.{Only, Range, only_none, only_then, only_wider, StepsWithin, within_append, within_wider, block_kept, length-block, bytes_block}
use Rattle.rules.proofs.Steps.RewriteCuts.{Torn, RewriteCut, rewrite_within, rewrite_only, rewrite_done, rewrite_cut}
use Rattle.rules.proofs.Copies.CopyRead.{block_read, first_read, second_read, WhichAddress, block_at_read, agree_equal}

-- the first granules of two copies
abbrev pub Two : ℕ → ℕ → ℕ → ℕ → Type 0
Two g a0 a1 i = Range a0 g i ⊎ Range a1 g i

-- two copies of what stands by a test that a torn block fails, on granules of their own
pub record Pair : Type 0 where
  pub granule : ℕ
  pub stands : List ℕ → Bool
  pub a0 : ℕ
  pub a1 : ℕ
  pub torn_falls : (b : List ℕ) → Torn b → stands b ≡ false
  pub holds_block : block_size ≤ granule
  pub apart : (i : ℕ) → Range a0 granule i → Range a1 granule i → ⊥

module _ (pair : Pair) where
  open pair use {granule, stands, a0, a1, torn_falls, holds_block, apart}

  -- the block read of an image
  abbrev pub Reads : List ℕ → List ℕ → Type 0
  Reads img b = block_read stands (block img a0) (block img a1) ≡ Some b

  abbrev pub Changes : List ℕ → List ℕ → Type 0
  Changes img img' = Only (Two granule a0 a1) img img'

  -- ---- which bytes are touched

  rewrite_in_pair : (n a : ℕ) (b : List ℕ)
      → ((i : ℕ) → Range a granule i → Two granule a0 a1 i)
      → length b ≡ block_size
      → a + granule ≤ n
      → StepsWithin granule n (Two granule a0 a1) (rewrite a b)
  rewrite_in_pair n a b wide lb h =
      within_wider granule n (Range a granule) (Two granule a0 a1) (rewrite a b) wide
      (rewrite_within granule a b n lb holds_block h)

  pub rewrite_pair_within : (n : ℕ) (b : List ℕ)
      → length b ≡ block_size
      → a0 + granule ≤ n
      → a1 + granule ≤ n
      → StepsWithin granule n (Two granule a0 a1) (rewrite_pair a0 a1 b)
  unfolding rewrite_pair
  rewrite_pair_within n b lb h0 h1 =
      within_append granule n (Two granule a0 a1) (rewrite a1 b) (rewrite a0 b)
      (rewrite_in_pair n a1 b (λ i r. inr r) lb h1)
      (rewrite_in_pair n a0 b (λ i r. inl r) lb h0)

  -- ---- one copy rewritten

  module _ (img : List ℕ) (in0 : a0 + granule ≤ length img) (in1 : a1 + granule ≤ length img) where
    -- copy 0 is whole while copy 1 is rewritten
    copy1_cut : (b : List ℕ)
        → length b ≡ block_size
        → Bytes b
        → stands (block img a0) ≡ true
        → (img' : List ℕ)
        → Cut granule (rewrite a1 b) img img'
        → Changes img img' × (block img' a0 ≡ block img a0) × Reads img' (block img a0)
    copy1_cut b lb hb s img' c =
        let o = rewrite_only granule a1 b lb hb holds_block img img' in1 c in
        let e = block_kept (Range a1 granule) a0 o (λ i r q. apart i (omega arith) q) in
        (only_wider (λ i r. inr r) o, e, rw e (first_read stands (block img a0) (block img' a1) s))

    -- copy 1 is whole while copy 0 is rewritten
    copy0_cut : (b : List ℕ)
        → length b ≡ block_size
        → Bytes b
        → stands b ≡ true
        → block img a1 ≡ b
        → (img' : List ℕ)
        → Cut granule (rewrite a0 b) img img'
        → Changes img img' × ((block img' a0 ≡ block img a0) ⊎ Reads img' b) × (block img' a1 ≡ b)
    copy0_cut b lb hb s x img' c =
        let o = rewrite_only granule a0 b lb hb holds_block img img' in0 c in
        let e = block_kept (Range a0 granule) a1 o (λ i r q. apart i q (omega arith)) in
        (only_wider (λ i r. inl r) o, split (e ∙ x) (rewrite_cut granule a0 b lb hb holds_block img img' in0 c), e ∙ x)
      where
        split : block img' a1 ≡ b
            → RewriteCut granule a0 b lb hb holds_block img img'
            → (block img' a0 ≡ block img a0) ⊎ Reads img' b
        split y (inl e) = inl (ap (λ (l : List ℕ). block l a0) e)
        split y (inr (inl t)) =
            inr (rw y (second_read stands (block img' a0) b (torn_falls (block img' a0) t) s))
        split y (inr (inr e)) =
            let w : block img' a0 ≡ b =
            ap (λ (l : List ℕ). block l a0) e ∙ rewrite_done granule a0 b lb hb holds_block img in0 in
            inr (rw w (first_read stands b (block img' a1) s))

  -- ---- rewritten

  module _ (img : List ℕ) (in0 : a0 + granule ≤ length img) (in1 : a1 + granule ≤ length img) (b : List ℕ)
      (lb : length b ≡ block_size) (hb : Bytes b) where
    -- the block read is the old copy 0 or the new block
    pub rewrite_pair_cut : stands b ≡ true
        → stands (block img a0) ≡ true
        → (img' : List ℕ)
        → Cut granule (rewrite_pair a0 a1 b) img img'
        → Changes img img' × (Reads img' (block img a0) ⊎ Reads img' b)
    unfolding rewrite_pair
    rewrite_pair_cut s s0 img' c = split (cut_append granule (rewrite a1 b) (rewrite a0 b) img img' c)
      where
        mid : List ℕ
        mid = steps granule (rewrite a1 b) img

        split : Cut granule (rewrite a1 b) img img' ⊎ Cut granule (rewrite a0 b) mid img'
            → Changes img img' × (Reads img' (block img a0) ⊎ Reads img' b)
        split (inl d) = let (o, e, r) = copy1_cut img in0 in1 b lb hb s0 img' d in (o, inl r)
        split (inr d) =
            let (o, e, r) = copy1_cut img in0 in1 b lb hb s0 mid (cut_all granule (rewrite a1 b) img) in
            let w : block mid a1 ≡ b = rewrite_done granule a1 b lb hb holds_block img in1 in
            let (p, q, x) = copy0_cut mid (rw o.same_length in0) (rw o.same_length in1) b lb hb s w img' d in
            (only_then o p, which e q)
          where
            which : block mid a0 ≡ block img a0
                → (block img' a0 ≡ block mid a0) ⊎ Reads img' b
                → Reads img' (block img a0) ⊎ Reads img' b
            which e (inl q) = inl (rw (q ∙ e) (first_read stands (block img a0) (block img' a1) s0))
            which e (inr q) = inr q

    -- both copies are the new block
    pub rewrite_pair_done : (block (steps granule (rewrite_pair a0 a1 b) img) a0 ≡ b)
        × (block (steps granule (rewrite_pair a0 a1 b) img) a1 ≡ b)
    unfolding rewrite_pair
    rewrite_pair_done =
        let mid : List ℕ = steps granule (rewrite a1 b) img in
        let o = rewrite_only granule a1 b lb hb holds_block img mid in1 (cut_all granule (rewrite a1 b) img) in
        let in0' : a0 + granule ≤ length mid = rw o.same_length in0 in
        let p = rewrite_only granule a0 b lb hb holds_block mid _ in0' (cut_all granule (rewrite a0 b) mid) in
        rw (steps_append granule (rewrite a1 b) (rewrite a0 b) img) (
          rewrite_done granule a0 b lb hb holds_block mid in0',
          block_kept (Range a0 granule) a1 p (λ i r q. apart i q (omega arith))
              ∙ rewrite_done granule a1 b lb hb holds_block img in1,
        )

  -- ---- repaired

  -- the block at one address rewritten from the block at another: both are then that block
  one_copied : (img : List ℕ)
      → Bytes img
      → (from to : ℕ)
      → ((i : ℕ) → Range from granule i → Range to granule i → ⊥)
      → from + granule ≤ length img
      → to + granule ≤ length img
      → (block (steps granule (rewrite to (block img from)) img) from ≡ block img from)
      × (block (steps granule (rewrite to (block img from)) img) to ≡ block img from)
  one_copied img small from to distinct in_from in_to =
      let lb = length-block img from (omega arith) in
      let hb = bytes_block img from (omega arith) small in
      let o = rewrite_only granule to (block img from) lb hb holds_block img _ in_to
      (cut_all granule (rewrite to (block img from)) img) in (
        block_kept (Range to granule) from o (λ i r q. distinct i (omega arith) q),
        rewrite_done granule to (block img from) lb hb holds_block img in_to,
      )

  -- a repair goes by the two blocks alone
  pub repair_pair_same : (x y : List ℕ) (read : ℕ)
      → block y a0 ≡ block x a0
      → block y a1 ≡ block x a1
      → WhichAddress stands x a0 a1 read
      → repair_pair stands y a0 a1 read ≡ repair_pair stands x a0 a1 read
  unfolding repair_pair pair_agrees
  repair_pair_same x y read e0 e1 (inl (t, e)) = rw (← e, e0, e1)
  repair_pair_same x y read e0 e1 (inr (f, t, e)) = rw (← e, e0, e1)

  module _ (img : List ℕ) (read : ℕ) (reads : WhichAddress stands img a0 a1 read) where
    -- copy 1 is rewritten from copy 0, or copy 0 from copy 1
    abbrev Rewrites : Type 0
    Rewrites =
        ((repair_pair stands img a0 a1 read ≡ rewrite a1 (block img a0))
        × (stands (block img a0) ≡ true)
        × (a0 ≡ read))
        ⊎ ((repair_pair stands img a0 a1 read ≡ rewrite a0 (block img a1))
        × (stands (block img a0) ≡ false)
        × (stands (block img a1) ≡ true)
        × (a1 ≡ read))

    which_repair : ((repair_pair stands img a0 a1 read ≡ []) × (block img a0 ≡ block img a1)) ⊎ Rewrites
    unfolding repair_pair
    which_repair = by_cases (pair_agrees stands img a0 a1)
        (λ t. inl (rw t, agree_equal stands img a0 a1 t))
        (λ f. inr (split f reads))
      where
        differ : a1 ≡ a0 → ⊥
        differ e = apart a0 (omega arith) (omega arith)

        split : pair_agrees stands img a0 a1 ≡ false → WhichAddress stands img a0 a1 read → Rewrites
        split f (inl (t, e)) = inl (rw (f, ← e, eq-eqb a0 a0 refl), t, e)
        split f (inr (n, t, e)) = inr (rw (f, ← e, ne_eqb a1 a0 differ), n, t, e)

    module _ (in0 : a0 + granule ≤ length img) (in1 : a1 + granule ≤ length img) (small : Bytes img) where
      pub repair_pair_within : StepsWithin granule (length img) (Two granule a0 a1) (repair_pair stands img a0 a1 read)
      repair_pair_within = split which_repair
        where
          split : ((repair_pair stands img a0 a1 read ≡ []) × (block img a0 ≡ block img a1)) ⊎ Rewrites
              → StepsWithin granule (length img) (Two granule a0 a1) (repair_pair stands img a0 a1 read)
          split (inl (n, e)) = rw n tt
          split (inr (inl (w, t, e))) =
              let lb = length-block img a0 (omega arith) in
              rw w (rewrite_in_pair (length img) a1 (block img a0) (λ i r. inr r) lb in1)
          split (inr (inr (w, f, t, e))) =
              let lb = length-block img a1 (omega arith) in
              rw w (rewrite_in_pair (length img) a0 (block img a1) (λ i r. inl r) lb in0)

      -- the block read stays
      pub repair_pair_cut : (img' : List ℕ)
          → Cut granule (repair_pair stands img a0 a1 read) img img'
          → Changes img img' × Reads img' (block img read)
      repair_pair_cut img' c = split which_repair
        where
          still : (b : List ℕ)
              → stands (block img a0) ≡ false
              → stands b ≡ true
              → (block img' a0 ≡ block img a0) ⊎ Reads img' b
              → block img' a1 ≡ b
              → Reads img' b
          still b f t (inl q) x = rw (q, x) (second_read stands (block img a0) b f t)
          still b f t (inr q) x = q

          split : ((repair_pair stands img a0 a1 read ≡ []) × (block img a0 ≡ block img a1)) ⊎ Rewrites
              → Changes img img' × Reads img' (block img read)
          split (inl (n, e)) =
              let same : img' ≡ img = rw n at c in
              (only_none img img' same, rw same (block_at_read stands img a0 a1 read reads))
          split (inr (inl (w, t, e))) =
              let (o, k, r) = copy1_cut img in0 in1 (block img a0)
              (length-block img a0 (omega arith)) (bytes_block img a0 (omega arith) small) t img' (rw w at c) in
              (o, rw (← e) r)
          split (inr (inr (w, f, t, e))) =
              let (o, q, x) = copy0_cut img in0 in1 (block img a1)
              (length-block img a1 (omega arith)) (bytes_block img a1 (omega arith) small) t refl img' (rw w at c) in
              (o, rw (← e) (still (block img a1) f t q x))

      -- both copies are the block that was read
      pub repair_pair_done : (block (steps granule (repair_pair stands img a0 a1 read) img) a0 ≡ block img read)
          × (block (steps granule (repair_pair stands img a0 a1 read) img) a1 ≡ block img read)
      repair_pair_done = split which_repair reads
        where
          split : ((repair_pair stands img a0 a1 read ≡ []) × (block img a0 ≡ block img a1)) ⊎ Rewrites
              → WhichAddress stands img a0 a1 read
              → (block (steps granule (repair_pair stands img a0 a1 read) img) a0 ≡ block img read)
              × (block (steps granule (repair_pair stands img a0 a1 read) img) a1 ≡ block img read)
          split (inl (n, e)) (inl (t, q)) = rw (n, ← q) (unfold steps in (refl, sym e))
          split (inl (n, e)) (inr (f, t, q)) = rw (n, ← q) (unfold steps in (e, refl))
          split (inr (inl (w, t, e))) which = rw (w, ← e) (one_copied img small a0 a1 apart in0 in1)
          split (inr (inr (w, f, t, e))) which =
              let (kept, new) = one_copied img small a1 a0 (λ i p q. apart i q p) in1 in0 in
              rw (w, ← e) (new, kept)
