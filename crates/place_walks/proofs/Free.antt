-- The free place, from the last place down: above it nothing has a value but that of an erased place, and nothing is
-- added to the boot order. Assumes nothing.
use mathlib.Core.Path.{◌≡◌, refl, sym, ap, ◌∙◌}
use mathlib.Core.Bool.{Bool, true, false, not, ◌||◌}
use mathlib.Core.List.{List, [], ◌∷◌}
use Prim.Native.Nat.{ℕ, zero, suc, ◌+◌, ◌-◌, ◌≤◌, ◌<◌}
use native.Mathlib.Omega.{arith}
use lib.Dec.{eqb}
use borrow.Author.Tests.{eqb-true, eqb-false, eq-eqb, ne_eqb, not-false}
use lib.ListN.{drop}
use lib.Seq.{drop-drop}
use Rattle.rules.specs.Lists.{member, all}
use Rattle.rules.specs.Pointers.{place_count, places, erased_value, all_ones, judged, is_erased, slot_given, add_last, order}
use Rattle.rules.specs.Commands.{free_place}
use Rattle.rules.specs.declared.SlotNo.{SlotNo}
use Rattle.rules.specs.declared.Place.TheVariants.{Live}
use Rattle.rules.proofs.Lists.Tests.{and_true, or_false}
use Rattle.rules.proofs.Order.Ordering.{erased_by_value}
use Rattle.walks.specs.Last.{last_from}
use Rattle.walks.proofs.Last.{last_passes, last_none, last_goes, last_found}
use Rattle.walks.specs.Four.{one_of_four}
use Rattle.walks.proofs.Four.{four_turns}
use Rattle.places.specs.Inner.FreePlace.{free_from}
use Rattle.places.specs.Inner.Values.{place_value}
use Rattle.places.proofs.Values.{free_within, place_turn, place_down, place_over}
use Rattle.walks.proofs.Loops.{member_here, member_goes, all_over, all_goes}

-- ---- a place is erased by its value alone

-- a live place is not erased
pub live_used : (starts : List ℕ) (v : ℕ) (s : SlotNo) → judged starts v ≡ Live s → all_ones v ≡ false
unfolding is_erased
live_used starts v s h = sym (erased_by_value starts v) ∙ ap is_erased h

-- so the free place does not depend on where the slots start
pub free_by_value : (starts vs : List ℕ) → free_place starts vs ≡ last_from all_ones vs
unfolding free_place last_from
free_by_value starts [] = refl
free_by_value starts (v ∷ vs) = rw (erased_by_value starts v, free_by_value starts vs)

-- ---- erased places

-- from this place on all places are erased
pub record FreeFrom (p : List ℕ) (end : ℕ) : Type 0 where
  pub within : end ≤ place_count p
  pub erased : all all_ones (drop end (places p)) ≡ true

none_added : (starts vs : List ℕ) → all all_ones vs ≡ true → order starts vs ≡ []
unfolding all order judged slot_given add_last
none_added starts [] h = refl
none_added starts (v ∷ vs) h =
    let (one, more) = and_true (all_ones v) (all all_ones vs) h in
    rw (one, none_added starts vs more)

pub none_above : (starts p : List ℕ) (end : ℕ) → FreeFrom p end → order starts (drop end (places p)) ≡ []
none_above starts p end free = none_added starts (drop end (places p)) free.erased

none_holds : (v : ℕ) (vs : List ℕ) → all_ones v ≡ false → all all_ones vs ≡ true → member v vs ≡ false
unfolding all all_ones member
none_holds v [] u h = refl
none_holds v (w ∷ vs) u h =
    let (one, more) = and_true (eqb w erased_value) (all all_ones vs) h in
    rw (ne_eqb v w (λ e. eqb-false v erased_value u (e ∙ eqb-true w erased_value one)), none_holds v vs u more)

all_further : {A : Type 0} (f : A → Bool) (k : ℕ) (xs : List A) → all f xs ≡ true → all f (drop k xs) ≡ true
unfolding all
all_further f zero xs h = h
all_further f (suc k) [] h = h
all_further f (suc k) (x ∷ xs) h = all_further f k xs (and_true (f x) (all f xs) h).1

-- no place from there on has a value other than that of an erased place
pub not_held : (p : List ℕ) (end k v : ℕ) → FreeFrom p end → end ≤ k → all_ones v ≡ false
    → member v (drop k (places p)) ≡ false
not_held p end k v h l u =
    let e : end + (k - end) ≡ k = omega arith in
    let further = all_further all_ones (k - end) (drop end (places p)) h.erased in
    none_holds v (drop k (places p)) u (rw (drop-drop (k - end) end (places p), e) at further)

-- ---- a walk down from the last place

pub none_left : (p : List ℕ) → all all_ones (drop (place_count p) (places p)) ≡ true
none_left p = all_over all_ones (place_over p (place_count p) (omega arith))

pub four_erased : (p : List ℕ) (k : ℕ) → 4 ≤ k → k ≤ place_count p
    → one_of_four (λ i. not (all_ones (place_value p i))) (k - 4) ≡ false
    → all all_ones (drop k (places p)) ≡ true
    → all all_ones (drop (k - 4) (places p)) ≡ true
four_erased p k four within none erased =
    let to_k : k - 4 + 4 ≡ k = omega arith in
    rw to_k at
    (four_turns (λ i. all all_ones (drop i (places p))) (λ i. not (all_ones (place_value p i))) (place_count p)
    (λ i h one. all_goes all_ones (place_turn p i h) (not-false (all_ones (place_value p i)) one))
    (k - 4) (omega arith) none)
    ∙ erased

pub eight_erased : (p : List ℕ) (k : ℕ) → 8 ≤ k → k ≤ place_count p
    → one_of_four (λ i. not (all_ones (place_value p i))) (k - 8)
    || one_of_four (λ i. not (all_ones (place_value p i))) (k - 4)
    ≡ false
    → all all_ones (drop k (places p)) ≡ true
    → all all_ones (drop (k - 8) (places p)) ≡ true
eight_erased p k eight within none erased =
    let used : ℕ → Bool = one_of_four (λ i. not (all_ones (place_value p i))) in
    let (lower, upper) = or_false (used (k - 8)) (used (k - 4)) none in
    let to_low : k - 4 - 4 ≡ k - 8 = omega arith in
    rw to_low at
    (four_erased p (k - 4) (omega arith) (omega arith) (rw to_low lower)
    (four_erased p k (omega arith) within upper erased))

module _ (p : List ℕ) (k : ℕ) (some : 0 < k) (within : k ≤ place_count p)
    (erased : all all_ones (drop k (places p)) ≡ true)
  where
    pub one_erased : place_value p (k - 1) ≡ erased_value → all all_ones (drop (k - 1) (places p)) ≡ true
    unfolding all_ones
    one_erased e =
        last_goes all_ones (places p) k (place_down p k some within) erased (eq-eqb (place_value p (k - 1)) erased_value e)

    pub one_used : (place_value p (k - 1) ≡ erased_value → ⊥) → free_from p ≡ k
    unfolding all_ones free_from
    one_used other =
        last_found all_ones (places p) k (place_down p k some within) erased some
        (ne_eqb (place_value p (k - 1)) erased_value other)

pub all_erased : (p : List ℕ) → all all_ones (drop 0 (places p)) ≡ true → free_from p ≡ 0
unfolding free_from
all_erased p erased = last_none all_ones (places p) erased

-- ---- from the free place on

pub free_places : (p : List ℕ) → FreeFrom p (free_from p)
unfolding free_from
free_places p = record { within = free_within p; erased = last_passes all_ones (places p) }

-- ---- one turn of a walk up, and its end

pub held_here : (p : List ℕ) (v k : ℕ) → v ≡ place_value p k → k < place_count p
    → member v (drop k (places p)) ≡ true
held_here p v k e within = member_here v (place_turn p k within) e

pub held_further : (p : List ℕ) (v k : ℕ) → (v ≡ place_value p k → ⊥) → k < place_count p
    → member v (drop k (places p)) ≡ member v (drop (k + 1) (places p))
held_further p v k other within = member_goes v (place_turn p k within) other

pub held_nowhere : (p : List ℕ) (v k : ℕ) → all_ones v ≡ false → free_from p ≤ k
    → member v (drop k (places p)) ≡ false
held_nowhere p v k used past = not_held p (free_from p) k v (free_places p) past used

-- and one of four places
pub four_without : (p : List ℕ) (v k : ℕ) → one_of_four (λ i. eqb (place_value p i) v) k ≡ false → k + 4 ≤ place_count p
    → member v (drop k (places p)) ≡ member v (drop (k + 4) (places p))
four_without p v k none within =
    four_turns (λ i. member v (drop i (places p))) (λ i. eqb (place_value p i) v) (place_count p)
    (λ i h other. member_goes v (place_turn p i h) (λ same. eqb-false (place_value p i) v other (sym same)))
    k within none
