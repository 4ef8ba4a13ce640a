-- Create and delete refusal by refusal, once the view of the flash is known. Assumes nothing.
use mathlib.Core.Path.{◌≡◌, refl, sym}
use mathlib.Core.Bool.{Bool, true, false, not}
use mathlib.Core.List.{List, append-nil}
use Prim.Native.Nat.{ℕ, suc, ◌≤◌, ◌<◌}
use native.Mathlib.Omega.{arith}
use lib.Dec.{ltb}
use borrow.Author.Tests.{le-ltb, lt-ltb, ltb-true}
use lib.ListN.{length, drop_of_length-le}
use lib.Seq.{take_all}
use Rattle.rules.specs.Lists.{any}
use Rattle.rules.specs.Bytes.{block, multiple, up_to_zero}
use Rattle.rules.specs.Answers.{Answer, refused, given, unless, ◌>>=◌}
use Rattle.rules.specs.declared.Setting.{Setting}
use Rattle.rules.specs.Table.{Entry, entry_count, entries, has_name}
use Rattle.rules.specs.Pointers.{places}
use Rattle.rules.specs.Copies.{view}
use Rattle.rules.specs.Commands.{create, name_allowed, name_free, size_right, has_start, created_start, job}
use Rattle.rules.specs.declared.View.{View}
use Rattle.rules.proofs.Lists.Tests.{unless-given}
use Rattle.rules.proofs.Table.Standing.{standing, length-entries}
use Rattle.rules.proofs.Table.Renaming.{allowed}
use Rattle.blocks.proofs.Naming.{whole_name}
use Rattle.rules.proofs.Table.StartRule.{found_below}
use Rattle.rules.proofs.Claim.Viewing.{viewed, table_stands_there}
use Rattle.rooms.specs.Inner.Candidates.{Placed}
use Rattle.views.proofs.Opening.{located}
use Rattle.rules.specs.declared.Refusal.TheVariants.{CopiesDiffer, NameNotAllowed, NameTaken, LengthWrong, NoRowLeft, NoStart}
use Rattle.drafts.specs.JobFor.{job_for, job_by}
use Rattle.drafts.specs.Inner.Asked.{copies_equal, new_asked}
use Rattle.drafts.proofs.EqualCopies.{pairs_agree_if_equal}
use Rattle.drafts.proofs.Asking.{unless-bind}

-- ---- the entries of a standing table

-- no other entry than the one behind the last: none
pub free_of_all : (es : List Entry) (n : List ℕ) → name_free es (length es) n ≡ not (any (has_name n) es)
unfolding name_free
free_of_all es n =
    rw (
      take_all (length es) es (omega arith),
      drop_of_length-le es {i = suc (length es)} (omega arith),
      append-nil es,
    )

pub count_of_entries : (t : List ℕ) → length (entries t) ≡ entry_count t
count_of_entries = length-entries

pub placed : (s : Setting) (img : List ℕ) (v : View) → view s img ≡ given v → Placed (length img) (entries (block img v.table))
placed s img v h =
    let st = standing s (length img) (block img v.table) (table_stands_there s img v (viewed s img v h)) in
    record {
      short = (located s img v h).short;
      inside = st.rule6;
      aligned = st.rule5;
    }

-- ---- a name that may be given

pub whole_if_allowed : (n : List ℕ) → name_allowed n ≡ true → up_to_zero n ≡ n
whole_if_allowed n h = whole_name n (allowed n h).without_zero

pub short_if_allowed : (n : List ℕ) → name_allowed n ≡ true → length n ≤ 16
short_if_allowed n h = omega (arith, (allowed n h).short)

-- ---- the refusals of create

-- five tests asked before what follows them
five_first : {A : Type 0} (x : Answer A) (a b c d e : Bool)
    → unless CopiesDiffer a (unless NameNotAllowed b (unless NameTaken c (unless LengthWrong d (unless NoRowLeft e x))))
    ≡ ◌>>=◌ {A = Unit {0}} (unless CopiesDiffer a (unless NameNotAllowed b (unless NameTaken c (unless LengthWrong d (unless NoRowLeft e (given tt)))))) (λ _. x)
unfolding unless
five_first x true true true true true = refl
five_first x true true true true false = refl
five_first x true true true false e = refl
five_first x true true false d e = refl
five_first x true false c d e = refl
five_first x false b c d e = refl

module _ (s : Setting) (img : List ℕ) (v : View) (h : view s img ≡ given v) (n : List ℕ) (size : ℕ) where
  abbrev es_found : Bool
  es_found = has_start 0 (length img) (entries (block img v.table)) (places (block img v.pointers)) size

  pub create_asked : job_by s img v (create n size)
      ≡ (new_asked img v n size >>= λ _. unless NoStart es_found (given (job_for s.granule img v (create n size))))
  unfolding job_by job new_asked
  create_asked =
      rw (
        unless-bind,
        unless-bind,
        unless-bind,
        unless-bind,
        unless-bind,
        unless-bind,
        pairs_agree_if_equal s img v h,
      )
      (five_first _ (copies_equal img v) (name_allowed n) (not (any (has_name n) (entries (block img v.table))))
      (size_right size) (ltb (entry_count (block img v.table)) 127))

  -- past refusals 6, 9, 10, 40 and 41
  module _ (passed : new_asked img v n size ≡ given tt) where
    pub name_passed : name_allowed n ≡ true
    unfolding new_asked
    name_passed =
        let (_, e) = unless-given CopiesDiffer (copies_equal img v) _ tt passed in
        (unless-given NameNotAllowed (name_allowed n) _ tt e).0

    after_name : ◌≡◌ {A = Answer (Unit {0})}
        (unless LengthWrong (size_right size) (unless NoRowLeft (ltb (entry_count (block img v.table)) 127) (given tt))) (given tt)
    unfolding new_asked
    after_name =
        let (_, e) = unless-given CopiesDiffer (copies_equal img v) _ tt passed in
        let (_, e) = unless-given NameNotAllowed (name_allowed n) _ tt e in
        (unless-given NameTaken (not (any (has_name n) (entries (block img v.table)))) _ tt e).1

    pub size_passed : size_right size ≡ true
    size_passed = (unless-given LengthWrong (size_right size) _ tt after_name).0

    pub row_left : entry_count (block img v.table) < 127
    row_left =
        let (_, e) = unless-given LengthWrong (size_right size) _ tt after_name in
        ltb-true (entry_count (block img v.table)) 127 (unless-given NoRowLeft _ (given tt) tt e).0

    found_start : es_found ≡ ltb (created_start img v size) (length img)
    unfolding created_start
    found_start =
        found_below 0 (length img) (entries (block img v.table)) (places (block img v.pointers)) size
        (unfold multiple in refl) size_passed

    pub create_refused : length img ≤ created_start img v size → refused NoStart ≡ job_by s img v (create n size)
    unfolding unless
    create_refused past = sym (rw (create_asked, passed, found_start, le-ltb (created_start img v size) (length img) past) refl)

    pub create_passed : created_start img v size < length img
        → given (job_for s.granule img v (create n size)) ≡ job_by s img v (create n size)
    unfolding unless
    create_passed inside = sym (rw (create_asked, passed, found_start, lt-ltb (created_start img v size) (length img) inside) refl)
