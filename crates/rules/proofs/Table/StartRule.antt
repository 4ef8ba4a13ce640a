-- The start of a new slot: where one is given it is the lowest multiple of 4,096 that may be the start, and none is given
-- exactly where there is none. Assumes nothing.
use mathlib.Core.Path.{◌≡◌, refl, sym, ◌∙◌}
use mathlib.Core.Bool.{Bool, true, false, not, ◌&&◌}
use mathlib.Core.List.{List, [], ◌∷◌}
use Prim.Native.Nat.{ℕ, zero, suc, ◌+◌, ◌*◌, ◌/◌, ◌%◌, ◌≤◌, ◌<◌}
use native.Mathlib.Omega.{arith}
use lib.Dec.{eqb, ltb}
use borrow.Author.Tests.{eqb-true, eqb-false, eq-eqb, ltb-true, ltb-false, lt-ltb, le-ltb, not-true}
use Rattle.rules.specs.Lists.{all, any, first}
use Rattle.rules.specs.Bytes.{block_size, multiple}
use Rattle.rules.specs.Table.{Entry, range_inside, ranges_apart}
use Rattle.rules.specs.Commands.{new_range, may_start, upward, candidates, has_start, lowest_start, size_right}
use Rattle.rules.proofs.Lists.Tests.{by_cases, clash, and_true}
use Rattle.rules.proofs.Lists.Combinators.{first_passes, first_of_all}
use Rattle.rules.proofs.Table.Standing.{ends_inside}

-- ---- multiples of 4,096, upward

pub next_multiple : (a : ℕ) → multiple block_size a ≡ true → multiple block_size (a + block_size) ≡ true
unfolding multiple
next_multiple a h = eq-eqb ((a + block_size) % block_size) 0 (omega (arith, eqb-true (a % block_size) 0 h))

upward_multiples : (n a : ℕ) → multiple block_size a ≡ true → all (multiple block_size) (upward n a) ≡ true
unfolding all upward
upward_multiples zero a h = refl
upward_multiples (suc n) a h = rw h (upward_multiples n (a + block_size) (next_multiple a h))

-- from one multiple on: an element that passes is found, or one below it
pub upward_finds : (f : ℕ → Bool) (d n c b : ℕ)
    → multiple block_size c ≡ true
    → multiple block_size b ≡ true
    → c ≤ b
    → b < c + n * block_size
    → f b ≡ true
    → (any f (upward n c) ≡ true) × (first f d (upward n c) ≤ b)
unfolding any first upward
upward_finds f d zero c b mc mb low high t = absurd (omega arith)
upward_finds f d (suc n) c b mc mb low high t =
    by_cases (f c)
    (λ u. rw u (refl, low))
    (λ u. rw u
    (upward_finds f d n (c + block_size) b (next_multiple c mc) mb (further (λ e. clash (f b) t (rw e at u)))
    (omega arith) t))
  where
    further : (c ≡ b → ⊥) → c + block_size ≤ b
    further other =
        let rc = eqb-true (c % block_size) 0 (unfold multiple in mc) in
        let rb = eqb-true (b % block_size) 0 (unfold multiple in mb) in
        by_cases (ltb c b)
        (λ u. omega (arith, ltb-true c b u))
        (λ u. absurd (other (omega (arith, ltb-false c b u))))

upward_none : (f : ℕ → Bool) (d : ℕ) (xs : List ℕ) → any f xs ≡ false → first f d xs ≡ d
unfolding any first
upward_none f d [] h = refl
upward_none f d (x ∷ xs) h =
    by_cases (f x) (λ t. absurd (clash true refl (rw t at h))) (λ t. rw t (upward_none f d xs (rw t at h)))

-- ---- the start that the rule gives

pub start_passes : (from len : ℕ) (es : List Entry) (ps : List ℕ) (size : ℕ)
    → has_start from len es ps size ≡ true
    → may_start len es ps size (lowest_start from len es ps size) ≡ true
unfolding has_start lowest_start
start_passes from len es ps size h = first_passes (may_start len es ps size) len (candidates from len) h

pub start_aligned : (from len : ℕ) (es : List Entry) (ps : List ℕ) (size : ℕ)
    → multiple block_size from ≡ true
    → has_start from len es ps size ≡ true
    → multiple block_size (lowest_start from len es ps size) ≡ true
unfolding has_start lowest_start candidates
start_aligned from len es ps size m h =
    first_of_all (multiple block_size) (may_start len es ps size) len (upward (len / block_size) from) h
    (upward_multiples (len / block_size) from m)

pub size_at_least : (size : ℕ) → size_right size ≡ true → block_size ≤ size
unfolding size_right
size_at_least size h =
    let (some_bytes, whole) = and_true (not (eqb size 0)) (multiple block_size size) h in
    let left = eqb-true (size % block_size) 0 (unfold multiple in whole) in
    let other = eqb-false size 0 (not-true (eqb size 0) some_bytes) in
    by_cases (ltb size block_size)
    (λ t. absurd (other (omega (arith, ltb-true size block_size t))))
    (λ t. omega (arith, ltb-false size block_size t))

pub may_end : (len : ℕ) (es : List Entry) (ps : List ℕ) (size a : ℕ)
    → may_start len es ps size a ≡ true
    → a + size ≤ len
unfolding may_start new_range
may_end len es ps size a h =
    let (p, _) = and_true (range_inside len (new_range a size) && all (ranges_apart (new_range a size)) es) _ h in
    ends_inside len (new_range a size) (and_true (range_inside len (new_range a size)) _ p).0

module _ (from len : ℕ) (es : List Entry) (ps : List ℕ) (size : ℕ) (aligned : multiple block_size from ≡ true)
    (right : size_right size ≡ true) where
  -- a multiple of 4,096 that may be the start: one is found, and none above it
  pub finds_lowest : (a : ℕ)
      → multiple block_size a ≡ true
      → from ≤ a
      → may_start len es ps size a ≡ true
      → (has_start from len es ps size ≡ true) × (lowest_start from len es ps size ≤ a)
  unfolding has_start lowest_start candidates
  finds_lowest a m low t =
      let ends = may_end len es ps size a t in
      let long = size_at_least size right in
      let left = eqb-true (a % block_size) 0 (unfold multiple in m) in
      upward_finds (may_start len es ps size) len (len / block_size) from a aligned m low (omega arith) t

  -- "the lowest": no lower one may be the start
  pub lower_may_not : (a : ℕ)
      → multiple block_size a ≡ true
      → from ≤ a
      → a < lowest_start from len es ps size
      → may_start len es ps size a ≡ false
  lower_may_not a m low l =
      by_cases (may_start len es ps size a)
      (λ t. absurd (omega (arith, (finds_lowest a m low t).1)))
      (λ f. f)

  -- "42 exactly when there is none"
  pub none_may : has_start from len es ps size ≡ false
      → (a : ℕ)
      → multiple block_size a ≡ true
      → from ≤ a
      → may_start len es ps size a ≡ false
  none_may h a m low =
      by_cases (may_start len es ps size a)
      (λ t. absurd (clash (has_start from len es ps size) (finds_lowest a m low t).0 h))
      (λ f. f)

  -- a start below the image's length was found
  pub found_below : has_start from len es ps size ≡ ltb (lowest_start from len es ps size) len
  found_below =
      by_cases (has_start from len es ps size)
      (λ t. t ∙ sym (lt-ltb (lowest_start from len es ps size) len
      (omega (arith, may_end len es ps size _ (start_passes from len es ps size t), size_at_least size right))))
      (λ f. f ∙ sym (rw (missing f) (le-ltb len len (omega arith))))
    where
      missing : has_start from len es ps size ≡ false → lowest_start from len es ps size ≡ len
      missing f = unfold has_start lowest_start in upward_none (may_start len es ps size) len (candidates from len) f

-- ---- a search upward from 0

-- no multiple of 4,096 below a may be the start
abbrev pub NoneBelow : ℕ → List Entry → List ℕ → ℕ → ℕ → Type 0
NoneBelow len es ps size a = (b : ℕ) → multiple block_size b ≡ true → b < a → may_start len es ps size b ≡ false

module _ (len : ℕ) (es : List Entry) (ps : List ℕ) (size : ℕ) (right : size_right size ≡ true) where
  zero_aligned : multiple block_size 0 ≡ true
  unfolding multiple
  zero_aligned = refl

  pub search_finds : (a : ℕ)
      → multiple block_size a ≡ true
      → NoneBelow len es ps size a
      → may_start len es ps size a ≡ true
      → lowest_start 0 len es ps size ≡ a
  search_finds a m none t =
      let (found, low) = finds_lowest 0 len es ps size zero_aligned right a m (omega arith) t in
      let least = lowest_start 0 len es ps size in
      by_cases (ltb least a)
      (λ u. absurd (clash (may_start len es ps size least) (start_passes 0 len es ps size found)
      (none least (start_aligned 0 len es ps size zero_aligned found) (ltb-true least a u))))
      (λ u. omega (arith, ltb-false least a u))

  pub search_fails : (a : ℕ)
      → NoneBelow len es ps size a
      → len < a + size
      → lowest_start 0 len es ps size ≡ len
  search_fails a none past =
      by_cases (has_start 0 len es ps size)
      (λ t. absurd (passes_not (start_passes 0 len es ps size t) (start_aligned 0 len es ps size zero_aligned t)))
      (λ f. unfold has_start lowest_start in upward_none (may_start len es ps size) len (candidates 0 len) f)
    where
      least : ℕ
      least = lowest_start 0 len es ps size

      passes_not : may_start len es ps size least ≡ true → multiple block_size least ≡ true → ⊥
      passes_not t m =
          by_cases (ltb least a)
          (λ u. clash (may_start len es ps size least) t (none least m (ltb-true least a u)))
          (λ u. omega (arith, ltb-false least a u, may_end len es ps size least t))
