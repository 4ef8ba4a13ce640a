-- Boot orders in rows: the slots that are meant, what becomes of them, two rows compared. Assumes nothing.
use mathlib.Core.Path.{◌≡◌, refl, ap, ◌∙◌}
use mathlib.Core.Bool.{cond}
use mathlib.Core.List.{List, [], ◌∷◌, ◌++◌, map}
use Prim.Native.Nat.{ℕ, ◌+◌, ◌≤◌, ◌<◌}
use native.Mathlib.Omega.{arith}
use native.Mathlib.Numerals.{add-one}
use lib.Dec.{eqb, leb}
use lib.ListN.{length, take, get_or, length-replicate, length-map}
use lib.Seq.{take_all, take-suc}
use borrow.Author.Tests.{le-leb, eq-eqb, ne_eqb}
use Rattle.rules.specs.Lists.{same, without}
use Rattle.rules.proofs.Lists.Tests.{by_cases}
use Rattle.rules.proofs.Order.OnceEach.{without-length}
use Rattle.walks.specs.Entries.{most_entries}
use Rattle.text.specs.Put.{Put}
use Rattle.text.proofs.Puts.{put_nothing, put_whole, then}
use Rattle.rules.specs.Book.{lowered}
use Rattle.book_orders.specs.Orders.{room, no_slots, kept}
use Rattle.book_orders.specs.declared.Change.{Change}
use Rattle.book_orders.specs.declared.Change.TheVariants.{Without, Lowered}

pub room_for : {row : List ℕ} → row ≡ no_slots → length row ≡ room
unfolding no_slots
room_for e = ap length e ∙ length-replicate {A = ℕ} room 0

-- ---- a slot left out

without_append : (k : ℕ) (a b : List ℕ) → without k (a ++ b) ≡ without k a ++ without k b
unfolding without
without_append k [] b = refl
without_append k (x ∷ a) b =
    by_cases (eqb k x)
    (λ t. rw t (without_append k a b))
    (λ t. rw t (ap (λ (l : List ℕ). x ∷ l) (without_append k a b)))

pub left_out : (k x : ℕ) → k ≡ x → without k (x ∷ []) ≡ []
unfolding without
left_out k x e = rw (eq-eqb k x e)

pub not_left_out : (k x : ℕ) → (k ≡ x → ⊥) → without k (x ∷ []) ≡ x ∷ []
unfolding without
not_left_out k x e = rw (ne_eqb k x e)

-- ---- what becomes of slots

map_append : (f : ℕ → ℕ) (a b : List ℕ) → map f (a ++ b) ≡ map f a ++ map f b
map_append f [] b = refl
map_append f (x ∷ a) b = ap (λ (l : List ℕ). f x ∷ l) (map_append f a b)

kept_append : (h : Change) (a b : List ℕ) → kept h (a ++ b) ≡ kept h a ++ kept h b
unfolding kept
kept_append (Without k) a b = without_append k.0 a b
kept_append (Lowered g) a b = map_append (lowered g.0) a b

kept-length : (h : Change) (a : List ℕ) → length (kept h a) ≤ length a
unfolding kept
kept-length (Without k) a = without-length k.0 a
kept-length (Lowered g) a = omega (arith, length-map a (lowered g.0))

pub none_kept : (h : Change) {out : List ℕ} {at : ℕ} → Put out at (kept h []) out at
unfolding kept without
none_kept (Without k) = put_nothing _ _
none_kept (Lowered g) = put_nothing _ _

module _ {out after : List ℕ} {at end : ℕ} (h : Change) (slots : List ℕ) (i : ℕ)
    (before : Put out at (kept h (take i slots)) after end) where
  pub kept_more : {last : List ℕ} {final : ℕ}
      → i < length slots
      → Put after end (kept h (get_or slots i 0 ∷ [])) last final
      → Put out at (kept h (take (i + 1) slots)) last final
  kept_more l p = rw (add-one, take-suc slots i 0 l, kept_append h (take i slots) (get_or slots i 0 ∷ [])) (then before p)

  pub kept_all : length slots ≤ i → Put out at (kept h slots) after end
  kept_all l = rw take_all at before

-- ---- an order changed, or with a slot first

module _ {out after : List ℕ} {end : ℕ} (empty : length out ≡ room) (slots : List ℕ) where
  pub order_changed : (h : Change) → length slots ≤ room → Put out 0 (kept h slots) after end → take end after ≡ kept h slots
  order_changed h few p = put_whole (omega (arith, kept-length h slots)) p

  pub order_with_first : (k : ℕ) {half : List ℕ} {at : ℕ}
      → length slots ≤ most_entries
      → Put out 0 (k ∷ []) half at
      → Put half at (without k slots) after end
      → take end after ≡ cond (leb (length slots) most_entries) (k ∷ without k slots) slots
  order_with_first k few p q =
      rw (le-leb (length slots) most_entries few) (put_whole (omega (arith, without-length k slots)) (then p q))

-- ---- two rows compared
