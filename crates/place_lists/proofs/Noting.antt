-- Place numbers noted one after another, two bytes for each. Assumes nothing.
use mathlib.Core.Path.{◌≡◌, sym, ap, ◌∙◌}
use mathlib.Core.List.{List, [], ◌∷◌, ◌++◌, append_assoc, append-nil}
use Prim.Native.Nat.{ℕ, suc, ◌+◌, ◌*◌, ◌-◌, ◌<◌}
use native.Mathlib.Omega.{arith}
use lib.ListN.{length, replicate, length-append}
use lib.Seq.{take_at, drop-append-add}
use Rattle.rules.specs.Bytes.{bytes_of}
use Rattle.rules.specs.Final.{put_at}
use Rattle.rules.proofs.Lists.Words.{length-bytes_of}
use Rattle.jobs.specs.Jobs.{place_room}
use Rattle.blocks.specs.Made.{number_bytes, place_list}
use Rattle.blocks.specs.declared.PlaceList.{PlaceList}
use Rattle.blocks.proofs.Noting.{length-number_bytes}

number_bytes_last : (ks : List ℕ) (k : ℕ) → number_bytes (ks ++ (k ∷ [])) ≡ number_bytes ks ++ bytes_of 2 k
unfolding number_bytes
number_bytes_last [] k = append-nil (bytes_of 2 k)
number_bytes_last (j ∷ ks) k = rw (number_bytes_last ks k, append_assoc)

-- the number after the last, where zeros were
pub one_more : (ks : List ℕ) (k : ℕ) → length ks < place_room
    → put_at (2 * length ks) (bytes_of 2 k) (place_list ks).places ≡ (place_list (ks ++ (k ∷ []))).places
unfolding put_at place_list
one_more ks k room =
    let front = number_bytes ks in
    let rest : List ℕ = replicate (2 * (place_room - length (ks ++ (k ∷ [])))) 0 in
    let two : 2 * (place_room - length ks) ≡ suc (suc (2 * (place_room - length (ks ++ (k ∷ []))))) =
    omega (arith, length-append ks (k ∷ [])) in
    let at : length front ≡ 2 * length ks = length-number_bytes ks in
    rw (
      two,
      take_at front (0 ∷ 0 ∷ rest) (2 * length ks) at,
      length-bytes_of 2 k,
      ← at,
      drop-append-add front (0 ∷ 0 ∷ rest) 2,
      number_bytes_last ks k,
    )
    (sym (append_assoc front (bytes_of 2 k) rest))

pub counted_as : (ks : List ℕ) (l : PlaceList) → l ≡ place_list ks → l.count ≡ length ks
unfolding place_list
counted_as ks l e = ap (λ (q : PlaceList). q.count) e

pub pushed : (ks : List ℕ) (k : ℕ) (l : PlaceList) (ps : List ℕ) → l ≡ place_list ks → l.count < place_room
    → ps ≡ put_at (2 * l.count) (bytes_of 2 k) l.places
    → record { places = ps; count = l.count + 1 } ≡ place_list (ks ++ (k ∷ []))
unfolding place_list
pushed ks k l ps e room p =
    let counted = counted_as ks l e in
    let same : l.places ≡ (place_list ks).places = ap (λ (q : PlaceList). q.places) e in
    let more : ps ≡ (place_list (ks ++ (k ∷ []))).places =
    p ∙ rw (counted, same) (one_more ks k (omega (arith, room, counted))) in
    let n : l.count + 1 ≡ length (ks ++ (k ∷ [])) = omega (arith, counted, length-append ks (k ∷ [])) in
    rw (more, n)
