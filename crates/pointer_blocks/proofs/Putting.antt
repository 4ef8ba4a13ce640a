-- Bytes put into a pointer block: the bytes outside its places, and one pointer more. Assumes nothing.
use mathlib.Core.Path.{◌≡◌, sym, ◌∙◌}
use mathlib.Core.List.{List, [], ◌∷◌, ◌++◌, append_assoc, append-nil}
use Prim.Native.Nat.{ℕ, suc, ◌+◌, ◌*◌, ◌-◌, ◌≤◌, ◌<◌}
use native.Mathlib.Omega.{arith}
use lib.ListN.{length, take, drop, replicate, length-append, length-drop, length-replicate, replicate-append-replicate}
use lib.Seq.{take_at, drop_at, drop-drop, drop-append-add, length-take-le}
use Rattle.rules.specs.Bytes.{bytes_of, block_size, erased_byte}
use Rattle.rules.specs.Pointers.{place_offset, place_count}
use Rattle.rules.specs.Commands.{pointer_bytes, filled}
use Rattle.rules.specs.Final.{put_at}
use Rattle.rules.proofs.Lists.Words.{length-bytes_of}
use Rattle.rules.proofs.Pointers.Filling.{length-pointer_bytes}

-- ---- the bytes outside the places kept, the places erased

-- bytes put between others
module _ (a b c w : List ℕ) (at : ℕ) (ends : length (a ++ b) ≡ at) (same_length : length c ≡ length w) where
  put_between : (s t : List ℕ) → put_at at w (a ++ (b ++ ((c ++ s) ++ t))) ≡ a ++ ((b ++ w) ++ (s ++ t))
  unfolding put_at
  put_between s t =
      let e : a ++ (b ++ ((c ++ s) ++ t)) ≡ (a ++ b) ++ (c ++ (s ++ t)) = simp append_assoc in
      let after : drop (at + length w) ((a ++ b) ++ (c ++ (s ++ t))) ≡ s ++ t =
      rw (← ends, drop-append-add (a ++ b) (c ++ (s ++ t)) (length w)) (drop_at c (s ++ t)
      (length w) same_length) in
      rw (e, take_at (a ++ b) (c ++ (s ++ t)) at ends, after) (simp append_assoc)

-- the block b is p, of which n bytes from o on are erased
pub emptied_block : (p b middle : List ℕ) (o n : ℕ) → b ≡ p
    → length p ≡ block_size
    → place_offset p + 8 * place_count p ≤ block_size
    → o ≡ place_offset p
    → n ≡ 8 * place_count p
    → middle ≡ replicate (length (take n (drop o b))) erased_byte
    → take o b ++ (middle ++ drop n (drop o b)) ≡ filled p []
unfolding filled pointer_bytes
emptied_block p b middle o n eb whole fits eo en em =
    let none_filled : place_count p - 0 ≡ place_count p = omega arith in
    let many : length (take (8 * place_count p) (drop (place_offset p) p)) ≡ 8 * place_count p =
    length-take-le (8 * place_count p) (drop (place_offset p) p) (simp length-drop (omega arith)) in
    rw (em, eb, eo, en, many, none_filled, drop-drop (8 * place_count p) (place_offset p) p)

-- ---- one pointer more

pointer_bytes_last : (us : List ℕ) (v : ℕ) → pointer_bytes (us ++ (v ∷ [])) ≡ pointer_bytes us ++ bytes_of 8 v
unfolding pointer_bytes
pointer_bytes_last [] v = append-nil (bytes_of 8 v)
pointer_bytes_last (u ∷ us) v = rw (pointer_bytes_last us v) (sym (append_assoc (bytes_of 8 u) (pointer_bytes us)
    (bytes_of 8 v)))

pub pointer_put : (p us : List ℕ) (v : ℕ) → place_offset p ≤ length p → length us < place_count p
    → put_at (place_offset p + 8 * length us) (bytes_of 8 v) (filled p us) ≡ filled p (us ++ (v ∷ []))
unfolding filled
pointer_put p us v inside room =
    let front = take (place_offset p) p in
    let rest = 8 * (place_count p - suc (length us)) in
    let left : 8 * (place_count p - length us) ≡ 8 + rest = omega arith in
    let more : length (us ++ (v ∷ [])) ≡ suc (length us) = length-append us (v ∷ []) ∙ omega arith in
    let ends : length (front ++ pointer_bytes us) ≡ place_offset p + 8 * length us =
    length-append front (pointer_bytes us)
    ∙ omega (arith, length-take-le (place_offset p) p inside, length-pointer_bytes us) in
    rw (left, ← replicate-append-replicate 8 rest erased_byte, more, pointer_bytes_last us v)
    (put_between front (pointer_bytes us) (replicate 8 erased_byte) (bytes_of 8 v)
    (place_offset p + 8 * length us) ends
    (length-replicate 8 erased_byte ∙ sym (length-bytes_of 8 v)) (replicate rest erased_byte)
    (drop (place_offset p + 8 * place_count p) p))
