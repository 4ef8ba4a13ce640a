-- One turn of a loop over entries by number, and the entry of a name by the number that a search finds. Assumes nothing.
use mir.Val.{bool_byte}
use Rattle.std.proofs.Common.{◌≡◌, refl, ◌∙◌, Bool, true, false, cond, List, ◌∷◌, ℕ, ◌+◌, ◌-◌, ◌<◌, length, get_or, drop, drop-cons, add-one, le_refl, ◌≤◌, arith}
use lib.ListN.{get_or-eq_default}
use Rattle.rules.specs.Table.{Entry, no_entry, has_name, named}
use Rattle.walks.specs.Find.{find}
use Rattle.walks.proofs.Find.{any-find, first-find}
use Rattle.std.proofs.Common.{sym, Option, Some, None, is_some}
use borrow.Author.Tests.{lt-ltb, le-ltb}
use Rattle.rules.specs.Lists.{any}
use Rattle.rules.specs.declared.EntryNo.{EntryNo}
use Rattle.entries.specs.Tests.{Found}

pub turn : (es : List Entry) (i : ℕ) → i < length es → drop i es ≡ get_or es i no_entry ∷ drop (i + 1) es
turn es i h = rw add-one (drop-cons es i no_entry h)

pub named_found : (es : List Entry) (wanted : List ℕ) {i : ℕ} → i ≡ find (has_name wanted) es → named wanted es ≡ get_or es i no_entry
unfolding named
named_found es wanted e = first-find (has_name wanted) no_entry es ∙ rw (← e)

pub named_not_found : (es : List Entry) (wanted : List ℕ) → find (has_name wanted) es ≡ length es → named wanted es ≡ no_entry
unfolding named
named_not_found es wanted e =
    first-find (has_name wanted) no_entry es ∙ rw e (get_or-eq_default es no_entry {n = length es} (le_refl (length es)))

-- a test as a number
pub one_if : (b : Bool) → bool_byte b ≡ cond b 1 0
one_if true = refl
one_if false = refl

pub one_if_le : (b : Bool) → cond b 1 0 ≤ 1
one_if_le true = omega arith
one_if_le false = omega arith

-- the same on the way down
pub turn_down : (es : List Entry) (i : ℕ) → 0 < i → i ≤ length es → drop (i - 1) es ≡ get_or es (i - 1) no_entry ∷ drop i es
turn_down es i some h = let e : i - 1 + 1 ≡ i = omega arith in rw e at (turn es (i - 1) (omega arith))

-- something is found if any entry passes
pub any_by_found : (p : Entry → Bool) (es : List Entry) (r : Option EntryNo) → Found es (find p es) r → is_some r ≡ any p es
any_by_found p es (Some e) h = sym (any-find p es ∙ lt-ltb (find p es) (length es) h.some.1)
any_by_found p es None h = sym (any-find p es ∙ le-ltb (find p es) (length es) (rw h.none (le_refl (length es))))
