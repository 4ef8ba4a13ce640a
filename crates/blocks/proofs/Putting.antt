-- Bytes put into a block: what a block of 0xFF, a copy, and a table become. Assumes nothing.
use mathlib.Core.Path.{◌≡◌, sym, ap, ◌∙◌}
use mathlib.Core.List.{List, [], ◌++◌, append_assoc, append-nil}
use Prim.Native.Nat.{ℕ, ◌+◌, ◌*◌, ◌-◌, ◌≤◌}
use native.Mathlib.Omega.{arith}
use lib.ListN.{length, take, drop, replicate, length-replicate, drop_of_length-le, replicate-append-replicate}
use lib.Seq.{take_at, drop_at, drop-append-add, drop-append-le, length-take-le}
use Rattle.rules.specs.Bytes.{block_size, erased_byte}
use Rattle.rules.specs.Commands.{padded_name, put_name}
use Rattle.rules.specs.Final.{put_at}
use Rattle.blocks.specs.Made.{erased_block}

-- a block of the same length takes the place of all bytes
pub put_whole : (vs b : List ℕ) → length b ≡ length vs → put_at 0 vs b ≡ vs
unfolding put_at
put_whole vs b l =
    let e : drop (0 + length vs) b ≡ [] = drop_of_length-le b {i = 0 + length vs} (omega arith) in
    rw e (append-nil vs)

module _ {A : Type 0} (a : A) where
  pub drop-replicate : (n m : ℕ) → drop n (replicate (n + m) a) ≡ replicate m a
  drop-replicate n m =
      rw (← replicate-append-replicate n m a) (drop_at (replicate n a) (replicate m a) n (length-replicate n a))

-- ---- a copy, and a copy with another name

pub copied_block : (vs erased : List ℕ) → length vs ≡ block_size → erased ≡ erased_block → put_at 0 vs erased ≡ vs
unfolding erased_block
copied_block vs erased whole e = put_whole vs erased (rw e (length-replicate block_size erased_byte ∙ sym whole))

pub named_block : (t n : List ℕ) (row at : ℕ) → length t ≡ block_size → at + 16 ≤ block_size → length n ≤ 16
    → at ≡ 0x20 + 32 * row
    → put_at at n (put_at at (replicate 16 0) t) ≡ put_name t row n
unfolding put_at put_name padded_name
named_block t n row at whole inside short e =
    let front : length (take at t) ≡ at = length-take-le at t (omega arith) in
    let rest : List ℕ = drop (at + 16) t in
    let zeros : drop {A = ℕ} (length n) (replicate 16 0) ≡ replicate (16 - length n) 0 =
    (let split : 16 ≡ length n + (16 - length n) = omega arith in
    ap (λ (m : ℕ). drop {A = ℕ} (length n) (replicate m 0)) split ∙ drop-replicate 0 (length n)
    (16 - length n)) in
    let after : drop (at + length n) (take at t ++ (replicate 16 0 ++ rest)) ≡ replicate (16 - length n) 0 ++ rest =
    ap (λ (m : ℕ). drop (m + length n) (take at t ++ (replicate 16 0 ++ rest))) (sym front)
    ∙ drop-append-add (take at t) (replicate 16 0 ++ rest) (length n)
    ∙ drop-append-le (length n) (replicate 16 0) rest short
    ∙ ap (λ (z : List ℕ). z ++ rest) zeros in
    rw (take_at (take at t) (replicate 16 0 ++ rest) at front, after) (rw e (sym (simp append_assoc)))
