-- Bytes put at an offset one after the other. Assumes nothing.
use Rattle.std.proofs.Common.{◌≡◌, ℕ, ◌+◌, ◌≤◌, List, ◌++◌, length, take, drop, sym, ◌∙◌, append_assoc, arith}
use Rattle.std.proofs.lemmas.List.{length-append, length-drop, length-take, length-take-le, take-append-drop}
use lib.Seq.{paste, take_at, drop_at, drop-drop, take-length}
use Rattle.rules.specs.Bytes.{bytes_of}
use Rattle.rules.specs.Final.{put_at}
use Rattle.rules.proofs.Lists.Words.{length-bytes_of}

pub length-put_at : (at : ℕ) (bs img : List ℕ) → at + length bs ≤ length img → length (put_at at bs img) ≡ length img
unfolding put_at
length-put_at at bs img h = simp (length-append, length-take, length-drop) (omega arith)

pub pasted_at : (img : List ℕ) (at : ℕ) (bs : List ℕ) → paste img at bs (length bs) ≡ put_at at bs img
unfolding put_at
pasted_at img at bs = rw (append_assoc, take-length)

-- bytes put where bytes put before end
put_at_then : (at : ℕ) (xs ys img : List ℕ)
    → at + length xs ≤ length img
    → put_at (at + length xs) ys (put_at at xs img) ≡ put_at at (xs ++ ys) img
unfolding put_at
put_at_then at xs ys img h =
    let front = take at img in
    let rest = drop (at + length xs) img in
    let ends : length (front ++ xs) ≡ at + length xs =
    length-append front xs ∙ omega (arith, length-take-le at img (omega arith)) in
    let joined : front ++ (xs ++ rest) ≡ (front ++ xs) ++ rest = sym (append_assoc front xs rest) in
    let end : at + length xs + length ys ≡ at + length (xs ++ ys) = rw length-append (omega arith) in
    let behind : drop (at + length xs + length ys) ((front ++ xs) ++ rest) ≡ drop (at + length (xs ++ ys)) img =
    sym (drop-drop (length ys) (at + length xs) ((front ++ xs) ++ rest))
    ∙ rw (drop_at (front ++ xs) rest (at + length xs) ends, drop-drop, end) in
    rw (joined, take_at (front ++ xs) rest (at + length xs) ends, behind) (simp append_assoc)

pub put_then : (at n : ℕ) (xs ys img : List ℕ) {mid after : List ℕ}
    → length xs ≡ n
    → at + n ≤ length img
    → mid ≡ put_at at xs img
    → after ≡ put_at (at + n) ys mid
    → after ≡ put_at at (xs ++ ys) img
put_then at n xs ys img l h e f = f ∙ rw e (rw l at (put_at_then at xs ys img (rw l h)))

-- bytes put in two parts
pub parts_put : (at n : ℕ) (bs img : List ℕ) {mid after : List ℕ}
    → n ≤ length bs
    → at + n ≤ length img
    → mid ≡ put_at at (take n bs) img
    → after ≡ put_at (at + n) (drop n bs) mid
    → after ≡ put_at at bs img
parts_put at n bs img within h e f =
    rw (take-append-drop n bs) at (put_then at n (take n bs) (drop n bs) img (length-take-le n bs within) h e f)

pub number_then : (at n v : ℕ) (ys img : List ℕ) {mid after : List ℕ}
    → at + n ≤ length img
    → mid ≡ put_at at (bytes_of n v) img
    → after ≡ put_at (at + n) ys mid
    → after ≡ put_at at (bytes_of n v ++ ys) img
number_then at n v ys img = put_then at n (bytes_of n v) ys img (length-bytes_of n v)
