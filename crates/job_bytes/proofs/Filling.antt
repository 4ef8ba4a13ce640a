-- A buffer filled from its front on, by bytes put one after the other and bytes left as they were. Assumes nothing.
use mathlib.Core.Path.{◌≡◌, refl, sym, ap, ◌∙◌}
use mathlib.Core.List.{List, [], ◌++◌, append_assoc, append-nil}
use Prim.Native.Nat.{ℕ, ◌+◌, ◌≤◌}
use native.Mathlib.Omega.{arith}
use lib.ListN.{length, take, drop, length-append, length-drop, take-append-drop, drop_of_length-le}
use lib.Seq.{take_at, drop_at, drop-drop, length-take-le}
use Rattle.rules.specs.Final.{put_at}

pub length_stretch : (bs : List ℕ) (k n : ℕ) → k + n ≤ length bs → length (take n (drop k bs)) ≡ n
length_stretch bs k n h = length-take-le n (drop k bs) (rw length-drop (omega arith))

-- the first k bytes are these, the others as they were
pub record Filled (out : List ℕ) (k : ℕ) (front after : List ℕ) : Type 0 where
  pub size : length front ≡ k
  pub is : after ≡ front ++ drop k out

pub none_filled : (out : List ℕ) → Filled out 0 [] out
none_filled out = record { size = refl; is = refl }

module _ {out : List ℕ} {k : ℕ} {front after : List ℕ} (f : Filled out k front after) where
  -- bytes put behind
  pub fill_put : {after' : List ℕ} (n : ℕ) (bs : List ℕ)
      → length bs ≡ n
      → after' ≡ put_at k bs after
      → Filled out (k + n) (front ++ bs) after'
  unfolding put_at
  fill_put n bs l e = record {
    size = length-append front bs ∙ omega (arith, f.size);
    is =
        e
        ∙ rw (f.is, l, take_at front (drop k out) k f.size, ← drop-drop n k (front ++ drop k out))
        (rw (drop_at front (drop k out) k f.size, drop-drop) (sym (append_assoc front bs (drop (k + n) out))));
  }

  -- bytes left behind
  pub fill_kept : (n : ℕ) → k + n ≤ length out → Filled out (k + n) (front ++ take n (drop k out)) after
  fill_kept n h =
      let l = length_stretch out k n h in
      record {
        size = length-append front (take n (drop k out)) ∙ omega (arith, f.size, l);
        is =
            f.is
            ∙ rw (append_assoc, ← drop-drop n k out)
            (ap (λ (r : List ℕ). front ++ r) (sym (take-append-drop n (drop k out))));
      }

  -- what is not yet filled
  pub unfilled : drop k after ≡ drop k out
  unfilled = rw f.is (drop_at front (drop k out) k f.size)

  pub all_filled : length out ≡ k → after ≡ front
  all_filled h =
      f.is ∙ rw (drop_of_length-le out {i = k} (omega arith)) (append-nil front)

-- bytes put where they are
pub put_own : (at n : ℕ) (out : List ℕ) → at + n ≤ length out → out ≡ put_at at (take n (drop at out)) out
unfolding put_at
put_own at n out h =
    let l = length_stretch out at n h in
    sym (rw (l, ← drop-drop n at out, take-append-drop n (drop at out)) (take-append-drop at out))
