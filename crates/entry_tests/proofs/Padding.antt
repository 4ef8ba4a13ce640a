-- Names padded with zeros are the same if the fields that hold them are, and those go by two words each. Assumes
-- nothing.
use mathlib.Core.Path.{◌≡◌, refl, sym, ap, ◌∙◌}
use mathlib.Core.Bool.{Bool, true, not, ◌&&◌}
use mathlib.Core.List.{List, [], ◌∷◌, ◌++◌}
use Prim.Native.Nat.{ℕ, suc, ◌+◌, ◌*◌, ◌-◌, ◌<◌}
use native.Mathlib.Omega.{arith}
use lib.Dec.{eqb}
use lib.ListN.{length, take, drop, replicate, length-take, length-drop}
use lib.Seq.{take_all}
use Rattle.std.proofs.Common.{le_refl}
use borrow.Author.Tests.{eq-eqb, ne_eqb, eqb-true, eqb-false}
use Rattle.std.specs.List.{list_all}
use Rattle.rules.specs.Lists.{same, all, first_clash}
use Rattle.rules.specs.Bytes.{Bytes, little_endian, field, up_to_zero}
use Rattle.rules.specs.Table.{Entry, name, names_differ}
use Rattle.rules.specs.Commands.{padded_name}
use Rattle.rules.proofs.Lists.Tests.{by_cases, clash, and_true, both_true, same_true, same_of}
use Rattle.rules.proofs.Lists.ByteLists.{bytes_take, bytes_drop}
use Rattle.walks.proofs.Joined.{same_parts}
use Rattle.entry_tests.specs.Inner.Padding.{is_zero, padded, fields_differ}

-- ---- the zeros after a name

all_zeros : (xs : List ℕ) → list_all is_zero xs ≡ same xs (replicate (length xs) 0)
unfolding same
all_zeros [] = refl
all_zeros (x ∷ xs) = rw (all_zeros xs)

zeros_after : (xs : List ℕ)
    → list_all is_zero (drop (length (up_to_zero xs)) xs)
    ≡ same xs (up_to_zero xs ++ replicate (length xs - length (up_to_zero xs)) 0)
unfolding up_to_zero same
zeros_after [] = refl
zeros_after (x ∷ xs) =
    by_cases (eqb x 0)
    (λ t. let e : suc (length xs) - 0 ≡ suc (length xs) = omega arith in rw (t, e, all_zeros xs))
    (λ t. let k = length (up_to_zero xs) in
    let e : suc (length xs) - suc k ≡ length xs - k = omega arith in
    rw (t, e, eq-eqb x x refl) (zeros_after xs))

pub padded_zeros : (e : Entry) (name : List ℕ)
    → name ≡ e.name_field
    → length name ≡ 16
    → let n = length (up_to_zero name) in list_all is_zero (take (length name - n) (drop n name)) ≡ padded e
unfolding padded padded_name name
padded_zeros e name is h =
    let n = length (up_to_zero name) in
    let rest = take_all (length name - n) (drop n name) (simp length-drop (le_refl (length name - n))) in
    rw rest (rw (← is, ← h) (zeros_after name))

-- ---- two padded names

differ_by_fields : (d e : Entry) → padded d ≡ true → padded e ≡ true → names_differ d e ≡ fields_differ d e
unfolding padded names_differ fields_differ name
differ_by_fields d e p q =
    let x = d.name_field in
    let y = e.name_field in
    let hx = same_true x (padded_name (up_to_zero x)) p in
    let hy = same_true y (padded_name (up_to_zero y)) q in
    ap not
    (by_cases (same x y)
    (λ t. same_of (up_to_zero x) (up_to_zero y) (ap up_to_zero (same_true x y t)) ∙ sym t)
    (λ t. by_cases (same (up_to_zero x) (up_to_zero y))
    (λ u. let z = same_true (up_to_zero x) (up_to_zero y) u in
    absurd (clash (same x y) (same_of x y (hx ∙ ap padded_name z ∙ sym hy)) t))
    (λ u. u ∙ sym t)))

-- two tests that agree on what passes a third agree on each two of such a list, and so on the first that clashes
module _ {A : Type 0} (p : A → Bool) where
  all_agree : (f g : A → Bool)
      → ((x : A) → p x ≡ true → f x ≡ g x)
      → (xs : List A)
      → all p xs ≡ true
      → all f xs ≡ all g xs
  unfolding all
  all_agree f g h [] t = refl
  all_agree f g h (x ∷ xs) t =
      let (u, v) = and_true (p x) (all p xs) t in
      rw (h x u, all_agree f g h xs v)

  clash_agree : (f g : A → A → Bool)
      → ((x y : A) → p x ≡ true → p y ≡ true → f x y ≡ g x y)
      → (earlier xs : List A)
      → all p earlier ≡ true
      → all p xs ≡ true
      → first_clash f earlier xs ≡ first_clash g earlier xs
  unfolding all first_clash
  clash_agree f g h earlier [] s t = refl
  clash_agree f g h earlier (x ∷ xs) s t =
      let (u, v) = and_true (p x) (all p xs) t in
      rw (
        all_agree (λ y. f y x) (λ y. g y x) (λ y w. h y x w u) earlier s,
        clash_agree f g h (x ∷ earlier) xs (both_true (p x) (all p earlier) u s) v,
      )

pub same_by_fields : (es : List Entry)
    → all padded es ≡ true
    → first_clash names_differ [] es ≡ first_clash fields_differ [] es
unfolding all
same_by_fields es = clash_agree padded names_differ fields_differ differ_by_fields [] es refl

-- ---- two fields by their words

byte_first : (x y a b : ℕ) → x < 256 → y < 256 → eqb (x + 256 * a) (y + 256 * b) ≡ eqb x y && eqb a b
byte_first x y a b h k =
    by_cases (eqb x y)
    (λ p. let e = eqb-true x y p in
    by_cases (eqb a b)
    (λ q. let f = eqb-true a b q in rw (p, q) (eq-eqb (x + 256 * a) (y + 256 * b) (omega arith)))
    (λ q. rw (p, q) (ne_eqb (x + 256 * a) (y + 256 * b) (λ g. eqb-false a b q (omega arith)))))
    (λ p. rw p (ne_eqb (x + 256 * a) (y + 256 * b) (λ g. eqb-false x y p (omega arith))))

same_numbers : (xs ys : List ℕ)
    → Bytes xs
    → Bytes ys
    → length xs ≡ length ys
    → eqb (little_endian xs) (little_endian ys) ≡ same xs ys
unfolding little_endian same
same_numbers [] [] hx hy l = refl
same_numbers [] (y ∷ ys) hx hy l = absurd (omega arith)
same_numbers (x ∷ xs) [] hx hy l = absurd (omega arith)
same_numbers (x ∷ xs) (y ∷ ys) hx hy l =
    byte_first x y (little_endian xs) (little_endian ys) (hx 0) (hy 0)
    ∙ rw (same_numbers xs ys (λ i. hx (suc i)) (λ i. hy (suc i)) (omega arith))

-- the last 8 of 16 bytes
last_half : (x : List ℕ) → length x ≡ 16 → take 8 (drop 8 x) ≡ drop 8 x
last_half x h = take_all 8 (drop 8 x) (simp length-drop (omega arith))

pub same_by_words : (x y : List ℕ)
    → Bytes x
    → Bytes y
    → length x ≡ 16
    → length y ≡ 16
    → same x y ≡ eqb (field 0 8 x) (field 0 8 y) && eqb (field 8 8 x) (field 8 8 y)
unfolding field
same_by_words x y bx by hx hy =
    let front = same_numbers (take 8 x) (take 8 y) (bytes_take 8 x bx) (bytes_take 8 y by) (simp length-take (omega arith)) in
    let back = same_numbers (drop 8 x) (drop 8 y) (bytes_drop 8 x bx) (bytes_drop 8 y by) (simp length-drop (omega arith)) in
    rw (last_half x hx, last_half y hy, front, back) (same_parts 8 x y (hx ∙ sym hy))
