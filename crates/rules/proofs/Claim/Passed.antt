-- What a command that starts has passed: every refusal in its order, and these are its listed steps. Assumes nothing.
use mathlib.Core.Path.{◌≡◌}
use mathlib.Core.Bool.{Bool, true, false, not}
use mathlib.Core.List.{List}
use Prim.Native.Nat.{ℕ, ◌<◌}
use borrow.Author.Tests.{ltb-true, not-true}
use lib.Dec.{ltb}
use lib.ListN.{length, get_or}
use Rattle.rules.specs.Lists.{member, any}
use Rattle.rules.specs.Bytes.{block}
use Rattle.rules.specs.Answers.{Answer, given, unless}
use Rattle.rules.specs.declared.Setting.{Setting}
use Rattle.rules.specs.Table.{entry_count, entries, has_name, slots, starts}
use Rattle.rules.specs.Pointers.{places}
use Rattle.rules.specs.Copies.{agree_by, order_by, boot_order}
use Rattle.rules.specs.Readers.{slot_row, slot_there}
use Rattle.rules.specs.Commands.{Command, enable, disable, rename, create, delete, repair, name_allowed, name_free, slot_empty, enough_places, enable_steps, disable_steps, rename_steps, create_steps, delete_steps, repair_steps, lowest_start, created_start, has_start, size_right, job}
use Rattle.rules.specs.declared.Step.{Step}
use Rattle.rules.specs.declared.View.{View}
use Rattle.rules.proofs.Lists.Tests.{unless-given, given_inj}
use Rattle.rules.proofs.EmptySlots.{not_empty_if_given}
use Rattle.rules.proofs.Table.Renaming.{Allowed, allowed}
use Rattle.rules.specs.declared.Refusal.TheVariants.{CopiesDiffer, NoSuchSlot, NotInOrder, NameNotAllowed, NameTaken, NoPlaceLeft, LengthWrong, NoRowLeft, NoStart, IsInOrder}

-- ---- by the table t and the pointer block p read

pub record EnablePassed (s : Setting) (img : List ℕ) (v : View) (t p : List ℕ) (k : ℕ) (ss : List Step) : Type 0 where
  pub agree : agree_by s img v ≡ true
  pub there : k < length (slots (entries t))
  pub sent : slot_empty img (get_or (starts t) k 0) ≡ false
  pub fits : enough_places (starts t) p k ≡ true
  pub listed : enable_steps v.cpb0 v.cpb1 (starts t) p k ≡ ss

pub record DisablePassed (s : Setting) (img : List ℕ) (v : View) (t p : List ℕ) (k : ℕ) (ss : List Step) : Type 0 where
  pub agree : agree_by s img v ≡ true
  pub there : k < length (slots (entries t))
  pub in_order : member k (order_by t p) ≡ true
  pub listed : disable_steps v.cpb0 v.cpb1 (starts t) p k ≡ ss

pub record RenamePassed (s : Setting) (img : List ℕ) (v : View) (t : List ℕ) (k : ℕ) (n : List ℕ) (ss : List Step) : Type 0 where
  pub agree : agree_by s img v ≡ true
  pub there : k < length (slots (entries t))
  pub name : Allowed n
  pub free : name_free (entries t) (slot_row (entries t) k) n ≡ true
  pub listed : rename_steps v.spt0 v.spt1 t k n ≡ ss

pub record CreatePassed (s : Setting) (img : List ℕ) (v : View) (t p n : List ℕ) (size : ℕ) (ss : List Step) : Type 0 where
  pub agree : agree_by s img v ≡ true
  pub name : Allowed n
  pub free : any (has_name n) (entries t) ≡ false
  pub right : size_right size ≡ true
  pub few : entry_count t < 127
  pub found : has_start 0 (length img) (entries t) (places p) size ≡ true
  pub listed : create_steps v.spt0 v.spt1 t n (lowest_start 0 (length img) (entries t) (places p) size) size ≡ ss

pub record DeletePassed (s : Setting) (img : List ℕ) (v : View) (t p : List ℕ) (k : ℕ) (ss : List Step) : Type 0 where
  pub agree : agree_by s img v ≡ true
  pub there : k < length (slots (entries t))
  pub idle : member k (order_by t p) ≡ false
  pub listed : delete_steps v.spt0 v.spt1 t k ≡ ss

-- refusals 6 and 7, which the commands for a slot share
agree_and_there : (a : Bool) (t : List ℕ) (k : ℕ) (rest : Answer (List Step)) (ss : List Step)
    → unless CopiesDiffer a (unless NoSuchSlot (slot_there (entries t) k) rest) ≡ given ss
    → (a ≡ true) × (k < length (slots (entries t))) × (rest ≡ given ss)
unfolding slot_there
agree_and_there a t k rest ss e =
    let (agrees, e7) = unless-given CopiesDiffer a _ ss e in
    let (there, others) = unless-given NoSuchSlot (slot_there (entries t) k) rest ss e7 in
    (agrees, ltb-true k (length (slots (entries t))) there, others)

module _ (s : Setting) (img : List ℕ) (v : View) (t p : List ℕ) (ss : List Step) where
  abbrev pub Passed : Command → Type 0
  Passed (enable k) = EnablePassed s img v t p k ss
  Passed (disable k) = DisablePassed s img v t p k ss
  Passed (rename k n) = RenamePassed s img v t k n ss
  Passed (create n size) = CreatePassed s img v t p n size ss
  Passed (delete k) = DeletePassed s img v t p k ss
  Passed repair = repair_steps s img v ≡ ss

  module _ (et : block img v.table ≡ t) (ep : block img v.pointers ≡ p) where
    pub passed : (c : Command) → job s img v c ≡ given ss → Passed c
    unfolding job boot_order created_start
    passed (enable k) e =
        let (agree, there, e14) = agree_and_there (agree_by s img v) t k _ ss (rw (et, ep) at e) in
        let (sent, e15) = not_empty_if_given img (get_or (starts t) k 0) _ ss e14 in
        let (fits, listed) = unless-given NoPlaceLeft (enough_places (starts t) p k) _ ss e15 in
        record { agree = agree; there = there; sent = sent; fits = fits; listed = given_inj _ ss listed }
    passed (disable k) e =
        let (agree, there, e8) = agree_and_there (agree_by s img v) t k _ ss (rw (et, ep) at e) in
        let (in_order, listed) = unless-given NotInOrder (member k (order_by t p)) _ ss e8 in
        record { agree = agree; there = there; in_order = in_order; listed = given_inj _ ss listed }
    passed (rename k n) e =
        let (agree, there, e9) = agree_and_there (agree_by s img v) t k _ ss (rw et at e) in
        let (name, e10) = unless-given NameNotAllowed (name_allowed n) _ ss e9 in
        let (free, listed) = unless-given NameTaken (name_free (entries t) (slot_row (entries t) k) n) _ ss e10 in
        record { agree = agree; there = there; name = allowed n name; free = free; listed = given_inj _ ss listed }
    passed (create n size) e =
        let (agree, e9) = unless-given CopiesDiffer (agree_by s img v) _ ss (rw (et, ep) at e) in
        let (name, e10) = unless-given NameNotAllowed (name_allowed n) _ ss e9 in
        let (free, e40) = unless-given NameTaken (not (any (has_name n) (entries t))) _ ss e10 in
        let (right, e41) = unless-given LengthWrong (size_right size) _ ss e40 in
        let (few, e42) = unless-given NoRowLeft (ltb (entry_count t) 127) _ ss e41 in
        let (found, listed) = unless-given NoStart (has_start 0 (length img) (entries t) (places p) size) _ ss e42 in
        record {
          agree = agree;
          name = allowed n name;
          free = not-true (any (has_name n) (entries t)) free;
          right = right;
          few = ltb-true (entry_count t) 127 few;
          found = found;
          listed = given_inj _ ss listed;
        }
    passed (delete k) e =
        let (agree, there, e43) = agree_and_there (agree_by s img v) t k _ ss (rw (et, ep) at e) in
        let (idle, listed) = unless-given IsInOrder (not (member k (order_by t p))) _ ss e43 in
        record {
          agree = agree;
          there = there;
          idle = not-true (member k (order_by t p)) idle;
          listed = given_inj _ ss listed;
        }
    passed repair e = given_inj _ ss e
