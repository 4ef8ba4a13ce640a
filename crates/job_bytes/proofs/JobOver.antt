-- A job put over the bytes of a buffer: every byte of it, and that the job then held denotes the same steps. Assumes
-- nothing.
use mathlib.Core.Path.{◌≡◌, refl, sym, ap, ap₂, ◌∙◌}
use mathlib.Core.List.{List, [], ◌∷◌, ◌++◌, append_assoc}
use Prim.Native.Nat.{ℕ, zero, suc, ◌+◌, ◌*◌, ◌-◌, ◌≤◌, min}
use native.Mathlib.Omega.{arith}
use lib.ListN.{length, take, drop, length-append, length-drop}
use lib.Seq.{take-nil, take_at, drop_at, drop-drop, take-add, length-take-le}
use Rattle.rules.specs.Bytes.{block_size}
use Rattle.rules.specs.Final.{put_at}
use Rattle.rules.proofs.Lists.ByteLists.{field_by_front}
use Rattle.jobs.specs.Jobs.{place_room, numbers_from, meant, part, listed, steps_of}
use Rattle.job_parts.specs.declared.Kind.{Kind}
use Rattle.job_parts.specs.declared.Kind.TheVariants.{Nothing, Rewrite, Places}
use Rattle.jobs.specs.declared.Job.{Job}
use Rattle.job_bytes.specs.Form.{job_size, value_at, places_at, first_block_at, second_block_at, numbers_encoded, encoded}
use Rattle.job_bytes.specs.Form.{job_from, block_over, meant_size, job_over, encoded_over, Same}
use Rattle.job_bytes.proofs.Numbers.{length_numbers}
use Rattle.job_bytes.specs.Inner.Fitting.{Fitting}
use Rattle.jobs.proofs.Typed.{Typed}
use Rattle.job_bytes.proofs.Filling.{length_stretch, none_filled, fill_put, fill_kept, unfilled, all_filled}

-- ---- the same steps

-- numbers of two bytes each go by those bytes alone
numbers_by_front : (n : ℕ) (xs ys : List ℕ) → take (2 * n) xs ≡ take (2 * n) ys → numbers_from n xs ≡ numbers_from n ys
unfolding numbers_from
numbers_by_front zero xs ys e = refl
numbers_by_front (suc n) xs ys e =
    let twice : 2 * suc n ≡ suc (suc (2 * n)) = omega arith in
    ap₂ (λ (k : ℕ) (ks : List ℕ). k ∷ ks)
    (field_by_front (2 * suc n) 0 2 ys xs (omega arith) e)
    (numbers_by_front n (drop 2 xs) (drop 2 ys)
    (behind_two n xs ∙ ap (drop 2) (rw twice at e) ∙ sym (behind_two n ys)))
  where
    behind_two : (m : ℕ) (zs : List ℕ) → take (2 * m) (drop 2 zs) ≡ drop 2 (take (suc (suc (2 * m))) zs)
    behind_two m [] = take-nil (2 * m)
    behind_two m (a ∷ []) = take-nil (2 * m)
    behind_two m (a ∷ b ∷ zs) = refl

part_over : (k : Kind) (at offset : ℕ) (b old ks v : List ℕ)
    → part k at offset (block_over k b old) ks v ≡ part k at offset b ks v
unfolding part block_over
part_over Nothing at offset b old ks v = refl
part_over Rewrite at offset b old ks v = refl
part_over Places at offset b old ks v = refl

length_over : (k : Kind) (b old : List ℕ)
    → (k ≡ Rewrite → length b ≡ block_size)
    → length old ≡ block_size
    → length (block_over k b old) ≡ block_size
unfolding block_over
length_over Nothing b old h e = e
length_over Rewrite b old h e = h refl
length_over Places b old h e = e

pub fitting : {j : Job} → Typed j → Fitting j
fitting t = record {
  value = t.value;
  places = omega (arith, t.places);
  first = λ _. t.first;
  second = λ _. t.second;
}

module _ (j : Job) (f : Fitting j) (bs : List ℕ) (whole : length bs ≡ job_size) where
  abbrev size : ℕ
  size = meant_size j.plan.count

  abbrev front : List ℕ
  front = take size j.places

  abbrev rest : List ℕ
  rest = drop size (take (2 * place_room) (drop places_at bs))

  length_front : length front ≡ size
  length_front = length-take-le size j.places f.places

  same_numbers : meant j.plan.count (front ++ rest) ≡ meant j.plan.count j.places
  same_numbers =
      numbers_by_front (min j.plan.count place_room) (front ++ rest) j.places
      (take_at front rest size length_front)

  pub same_steps : Same j (job_over bs j)
  unfolding job_over job_from steps_of listed
  same_steps = record {
    plan = refl;
    done = refl;
    steps =
        rw (
          same_numbers,
          part_over j.plan.first j.plan.at j.plan.offset j.first (take block_size (drop first_block_at bs))
              (meant j.plan.count j.places) j.value,
          part_over j.plan.second j.plan.after j.plan.offset j.second
              (take block_size (drop second_block_at bs)) (meant j.plan.count j.places) j.value,
        );
  }

  -- ---- the bytes

  length_held : (k n : ℕ) → k + n ≤ job_size → length (take n (drop k bs)) ≡ n
  length_held k n h = length_stretch bs k n (omega arith)

  places_split : take (2 * place_room - size) (drop (places_at + size) bs) ≡ rest
  places_split =
      let all : 2 * place_room ≡ size + (2 * place_room - size) = omega arith in
      sym (ap (λ (n : ℕ). drop size (take n (drop places_at bs))) all
      ∙ rw (take-add size (2 * place_room - size) (drop places_at bs))
      (drop_at (take size (drop places_at bs)) (take (2 * place_room - size) (drop size (drop places_at bs))) size
      (length_held places_at size (omega arith))
      ∙ rw drop-drop))

  length_places : length (job_over bs j).places ≡ 2 * place_room
  unfolding job_over job_from
  length_places =
      length-append front rest
      ∙ omega (
        arith,
        length_front,
        length-drop size (take (2 * place_room) (drop places_at bs)),
        length_held places_at (2 * place_room) (omega arith),
      )

  length_first : length (job_over bs j).first ≡ block_size
  unfolding job_over job_from
  length_first =
      length_over j.plan.first j.first _ f.first (length_held first_block_at block_size (omega arith))

  length_second : length (job_over bs j).second ≡ block_size
  unfolding job_over job_from
  length_second =
      length_over j.plan.second j.second _ f.second (length_held second_block_at block_size (omega arith))

  pub job_encoded : {o1 o2 o3 o4 o5 : List ℕ} (m : ℕ)
      → m ≡ size
      → o1 ≡ put_at 0 (numbers_encoded j.plan j.done) bs
      → o2 ≡ put_at value_at j.value o1
      → o3 ≡ put_at places_at (take m j.places) o2
      → o4
      ≡ put_at first_block_at
      (block_over j.plan.first j.first (take block_size (drop first_block_at o3))) o3
      → o5
      ≡ put_at second_block_at
      (block_over j.plan.second j.second (take block_size (drop second_block_at o4))) o4
      → o5 ≡ encoded_over bs j
  unfolding encoded_over encoded job_over job_from
  job_encoded m e e1 e2 e3 e4 e5 =
      let here : places_at + size + (2 * place_room - size) ≡ first_block_at = omega arith in
      let f1 = fill_put (none_filled bs) 48 (numbers_encoded j.plan j.done) (length_numbers j.plan j.done) e1 in
      let f2 = fill_put f1 8 j.value f.value e2 in
      let f3 = fill_put f2 size front length_front (rw e at e3) in
      let f4 = rw (here, places_split) at (fill_kept f3 (2 * place_room - size) (omega arith)) in
      let f5 = fill_put f4 block_size (job_over bs j).first length_first (rw (unfilled f4) at e4) in
      let f6 = fill_put f5 block_size (job_over bs j).second length_second (rw (unfilled f5) at e5) in
      all_filled f6 whole ∙ simp append_assoc

pub typed_over : (j : Job) → Typed j → (bs : List ℕ) → length bs ≡ job_size → Typed (job_over bs j)
unfolding job_over job_from
typed_over j t bs whole = record {
  len = t.len;
  granule = t.granule;
  count = t.count;
  done = t.done;
  offset = t.offset;
  at = t.at;
  after = t.after;
  value = t.value;
  places = length_places j (fitting t) bs whole;
  first = length_first j (fitting t) bs whole;
  second = length_second j (fitting t) bs whole;
}
