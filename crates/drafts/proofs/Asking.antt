-- The job of each command for a slot, once the view of the flash is known: refusals 6 and 7, then what the command asks
-- further. Assumes nothing.
use mathlib.Core.Path.{◌≡◌, refl, sym}
use mathlib.Core.Bool.{Bool, true, false, not}
use mathlib.Core.List.{List}
use Prim.Native.Nat.{ℕ, ◌+◌, ◌≤◌, ◌<◌}
use lib.Dec.{ltb}
use borrow.Author.Tests.{ltb-true, lt-ltb}
use native.Mathlib.Omega.{arith}
use lib.ListN.{length, get_or}
use Rattle.std.specs.Prelude.{Option, Some, None, is_some}
use Rattle.rules.specs.declared.EntryNo.{EntryNo}
use Rattle.entries.specs.Tests.{Found}
use Rattle.rules.specs.Lists.{member}
use Rattle.rules.specs.Bytes.{block, block_size}
use Rattle.rules.specs.Answers.{Answer, refused, given, unless, ◌>>=◌}
use Rattle.rules.specs.declared.Setting.{Setting}
use Rattle.rules.specs.declared.Refusal.{Refusal}
use Rattle.rules.specs.declared.Refusal.TheVariants.{CopiesDiffer, NoSuchSlot, NotInOrder, NameNotAllowed, NameTaken, SlotEmpty, NoPlaceLeft, IsInOrder}
use Rattle.rules.specs.Table.{entries, slots, starts}
use Rattle.rules.specs.Pointers.{places}
use Rattle.rules.specs.Copies.{view, agree_by, order_by, boot_order}
use Rattle.rules.specs.Readers.{slot_row, slot_there}
use Rattle.rules.specs.Commands.{enable, disable, rename, delete, slot_empty, enough_places, giving, name_allowed, name_free, job}
use Rattle.rules.specs.declared.View.{View}
use Rattle.rules.proofs.Lists.Tests.{unless-given}
use Rattle.rules.proofs.Table.Renaming.{slot_row_found}
use Rattle.place_lists.proofs.Walking.{in_order}
use Rattle.drafts.specs.JobFor.{job_for, job_by}
use Rattle.drafts.specs.Inner.Asked.{copies_equal, slot_asked}
use Rattle.drafts.proofs.EqualCopies.{pairs_agree_if_equal}
use Rattle.drafts.proofs.Locating.{slot_inside}

-- ---- tests one after the other

module _ {A B : Type 0} where
  pub unless-bind : (why : Refusal) (t : Bool) (a : Answer A) (f : A → Answer B) → (unless why t a >>= f) ≡ unless why t (a >>= f)
  unfolding unless
  unless-bind why true a f = refl
  unless-bind why false a f = refl

-- two tests asked before what follows them
asked_first : {A : Type 0} (x : Answer A) (a b : Bool)
    → unless CopiesDiffer a (unless NoSuchSlot b x)
    ≡ ◌>>=◌ {A = Unit {0}} (unless CopiesDiffer a (unless NoSuchSlot b (given tt))) (λ _. x)
unfolding unless
asked_first x true true = refl
asked_first x true false = refl
asked_first x false b = refl

-- ---- what was asked

module _ (img : List ℕ) (v : View) (k : ℕ) (asked : slot_asked img v k ≡ given tt) where
  pub slot_is_there : slot_there (entries (block img v.table)) k ≡ true
  unfolding slot_asked
  slot_is_there =
      let (_, e7) = unless-given CopiesDiffer (copies_equal img v) _ tt asked in
      (unless-given NoSuchSlot (slot_there (entries (block img v.table)) k) (given tt) tt e7).0

  pub slot_counted : k < length (slots (entries (block img v.table)))
  unfolding slot_there
  slot_counted = ltb-true k (length (slots (entries (block img v.table)))) slot_is_there

  pub row_counted : slot_row (entries (block img v.table)) k < length (entries (block img v.table))
  row_counted = (slot_row_found (entries (block img v.table)) k slot_counted).0

  pub row_found : {r : Option EntryNo} → Found (entries (block img v.table)) (slot_row (entries (block img v.table)) k) r → is_some r ≡ true
  row_found {r = None} f = absurd (omega (arith, f.none, row_counted))
  row_found {r = Some e} f = refl

  -- what is found is its row
  pub row_is : {r : Option EntryNo} {e : EntryNo} → r ≡ Some e → Found (entries (block img v.table)) (slot_row (entries (block img v.table)) k) r
      → e.0 ≡ slot_row (entries (block img v.table)) k
  row_is {r = None} q f = absurd (let z : ◌≡◌ {A = ℕ} 0 1 = cc in omega arith)
  row_is {r = Some x} {e} q f = let z : x ≡ e = cc in rw (← z) f.some.0

  pub begins_inside : (s : Setting) → view s img ≡ given v
      → get_or (starts (block img v.table)) k 0 + block_size ≤ length img
  begins_inside s h = slot_inside s img v h k slot_counted

-- ---- the commands

-- a slot is in the boot order if a place gives it
pub in_order_by : (img : List ℕ) (v : View) (k : ℕ)
    → member k (boot_order img v)
    ≡ ltb 0 (length (giving (starts (block img v.table)) k 0 (places (block img v.pointers))))
unfolding boot_order order_by
in_order_by img v k = in_order (starts (block img v.table)) k 0 (places (block img v.pointers))

module _ (s : Setting) (img : List ℕ) (v : View) (h : view s img ≡ given v) (k : ℕ) where
  abbrev t : List ℕ
  t = block img v.table

  abbrev p : List ℕ
  p = block img v.pointers

  asked_by : {A : Type 0} (x : Answer A)
      → unless CopiesDiffer (agree_by s img v) (unless NoSuchSlot (slot_there (entries t) k) x)
      ≡ (slot_asked img v k >>= λ _. x)
  unfolding slot_asked
  asked_by x = rw (pairs_agree_if_equal s img v h) (asked_first x (copies_equal img v) (slot_there (entries t) k))

  pub enable_asked : job_by s img v (enable k)
      ≡ (slot_asked img v k >>= λ _.
      unless SlotEmpty (not (slot_empty img (get_or (starts t) k 0)))
      (unless NoPlaceLeft (enough_places (starts t) p k) (given (job_for s.granule img v (enable k)))))
  unfolding job_by job
  enable_asked = rw (unless-bind, unless-bind, unless-bind, unless-bind) (asked_by _)

  pub disable_asked : job_by s img v (disable k)
      ≡ (slot_asked img v k >>= λ _.
      unless NotInOrder (ltb 0 (length (giving (starts t) k 0 (places p)))) (given (job_for s.granule img v (disable k))))
  unfolding job_by job
  disable_asked = rw (unless-bind, unless-bind, unless-bind, in_order_by img v k) (asked_by _)

  pub rename_asked : (name : List ℕ)
      → job_by s img v (rename k name)
      ≡ (slot_asked img v k >>= λ _.
      unless NameNotAllowed (name_allowed name)
      (unless NameTaken (name_free (entries t) (slot_row (entries t) k) name)
      (given (job_for s.granule img v (rename k name)))))
  unfolding job_by job
  rename_asked name = rw (unless-bind, unless-bind, unless-bind, unless-bind) (asked_by _)

  pub delete_asked : job_by s img v (delete k)
      ≡ (slot_asked img v k >>= λ _.
      unless IsInOrder (not (ltb 0 (length (giving (starts t) k 0 (places p))))) (given (job_for s.granule img v (delete k))))
  unfolding job_by job
  delete_asked = rw (unless-bind, unless-bind, unless-bind, in_order_by img v k) (asked_by _)

  -- ---- past the refusals

  module _ (asked : slot_asked img v k ≡ given tt) where
    pub enable_passed : slot_empty img (get_or (starts t) k 0) ≡ false
        → enough_places (starts t) p k ≡ true
        → given (job_for s.granule img v (enable k)) ≡ job_by s img v (enable k)
    unfolding unless
    enable_passed f e = sym (rw (enable_asked, asked, f, e) refl)

    pub disable_passed : 0 < length (giving (starts t) k 0 (places p))
        → given (job_for s.granule img v (disable k)) ≡ job_by s img v (disable k)
    unfolding unless
    disable_passed l = sym (rw (disable_asked, asked, lt-ltb 0 _ l) refl)

    pub disable_refused : length (giving (starts t) k 0 (places p)) ≡ 0 → refused NotInOrder ≡ job_by s img v (disable k)
    unfolding unless
    disable_refused z = sym (rw (disable_asked, asked, z) refl)

    pub delete_refused : 0 < length (giving (starts t) k 0 (places p)) → refused IsInOrder ≡ job_by s img v (delete k)
    unfolding unless
    delete_refused l = sym (rw (delete_asked, asked, lt-ltb 0 _ l) refl)

    pub rename_passed : (name : List ℕ) → name_allowed name ≡ true
        → name_free (entries t) (slot_row (entries t) k) name ≡ true
        → given (job_for s.granule img v (rename k name)) ≡ job_by s img v (rename k name)
    unfolding unless
    rename_passed name a f = sym (rw (rename_asked, asked, a, f) refl)

    pub delete_passed : length (giving (starts t) k 0 (places p)) ≡ 0
        → given (job_for s.granule img v (delete k)) ≡ job_by s img v (delete k)
    unfolding unless
    delete_passed z = sym (rw (delete_asked, asked, z) refl)
