-- Refusal 14, in plain words.
--
-- Where both pairs agree: enable of a slot that is not there is refused 7, whatever the flash holds; of one that is there
-- and empty it is refused 14, first already or not; of any other it is refused 15 if there are not places enough, and else
-- starts with the listed steps. One byte that is not 0xFF is enough, and byte 4,095 of the slot counts. Assumes nothing.
use mathlib.Core.Path.{◌≡◌, refl, ap, ◌∙◌}
use mathlib.Core.Bool.{true, false, not}
use mathlib.Core.List.{List, [], ◌∷◌, ◌++◌}
use Prim.Native.Nat.{ℕ}
use borrow.Author.Tests.{not-true}
use lib.ListN.{get_or, replicate}
use Rattle.rules.specs.Lists.{all, any}
use Rattle.rules.specs.Bytes.{block, erased_byte}
use Rattle.rules.specs.Answers.{Answer, refused, given, unless}
use Rattle.rules.specs.declared.Setting.{Setting}
use Rattle.rules.specs.Table.{entries, starts}
use Rattle.rules.specs.Copies.{agree_by}
use Rattle.rules.specs.Readers.{slot_there}
use Rattle.rules.specs.Commands.{slot_empty, enough_places, enable_steps, enable, job}
use Rattle.rules.specs.declared.Step.{Step}
use Rattle.rules.specs.declared.View.{View}
use Rattle.rules.proofs.Lists.Tests.{unless-given}
use Rattle.rules.specs.declared.Refusal.TheVariants.{NoSuchSlot, SlotEmpty, NoPlaceLeft}

-- ---- the refusal

-- what passes refusal 14
pub not_empty_if_given : {A : Type 0} (img : List ℕ) (start : ℕ) (rest : Answer A) (a : A)
    → unless SlotEmpty (not (slot_empty img start)) rest ≡ given a
    → (slot_empty img start ≡ false) × (rest ≡ given a)
not_empty_if_given img start rest a e =
    let (sent, e15) = unless-given SlotEmpty (not (slot_empty img start)) rest a e in
    (not-true (slot_empty img start) sent, e15)

module _ (s : Setting) (img : List ℕ) (v : View) (k : ℕ) (agree : agree_by s img v ≡ true) where
  abbrev t : List ℕ
  t = block img v.table

  pub not_there_refused : slot_there (entries t) k ≡ false → job s img v (enable k) ≡ refused NoSuchSlot
  unfolding job unless
  not_there_refused f = rw (agree, f)

  abbrev steps_listed : List Step
  steps_listed = enable_steps v.cpb0 v.cpb1 (starts t) (block img v.pointers) k

  abbrev asked_15 : Answer (List Step)
  asked_15 = unless NoPlaceLeft (enough_places (starts t) (block img v.pointers) k) (given steps_listed)

  module _ (there : slot_there (entries t) k ≡ true) where
    pub empty_refused : slot_empty img (get_or (starts t) k 0) ≡ true → job s img v (enable k) ≡ refused SlotEmpty
    unfolding job unless
    empty_refused e = rw (agree, there) (ap (λ b. unless SlotEmpty (not b) asked_15) e)

    pub sent_started : slot_empty img (get_or (starts t) k 0) ≡ false
        → enough_places (starts t) (block img v.pointers) k ≡ true
        → job s img v (enable k) ≡ given steps_listed
    unfolding job unless
    sent_started f enough =
        rw (agree, there)
        (ap (λ b. unless SlotEmpty (not b) asked_15) f ∙ ap (λ b. unless NoPlaceLeft b (given steps_listed)) enough)

    -- refusal 15, the last of enable's checks; `Pointers.NoRoom` says where it is due
    pub full_refused : slot_empty img (get_or (starts t) k 0) ≡ false
        → enough_places (starts t) (block img v.pointers) k ≡ false
        → job s img v (enable k) ≡ refused NoPlaceLeft
    unfolding job unless
    full_refused f full =
        rw (agree, there) (ap (λ b. unless SlotEmpty (not b) asked_15) f ∙ ap (λ b. unless NoPlaceLeft b (given steps_listed)) full)

-- ---- which slots are empty

pub one_byte_is_enough : slot_empty (erased_byte ∷ 0 ∷ erased_byte ∷ []) 0 ≡ false
unfolding all any block slot_empty
one_byte_is_enough = refl

pub last_byte_counts : slot_empty (replicate 4095 erased_byte ++ (0 ∷ [])) 0 ≡ false
unfolding all any block slot_empty
last_byte_counts = refl
