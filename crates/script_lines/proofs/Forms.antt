-- The tests of a form, and numbers that a form which fits leaves as they are. Assumes nothing.
use mathlib.Core.Path.{◌≡◌, sym, ◌∙◌}
use mathlib.Core.Bool.{Bool, true, cond, ◌&&◌}
use mathlib.Core.List.{List}
use Prim.Native.Nat.{ℕ, suc, ◌%◌, ◌≤◌}
use native.Mathlib.Nat.{mod-eq_of_lt}
use native.Mathlib.Omega.{arith}
use lib.Dec.{leb}
use borrow.Author.Tests.{leb-true}
use Rattle.rules.specs.Lists.{same}
use Rattle.rules.specs.declared.SlotNo.{SlotNo}
use Rattle.rules.proofs.Lists.Tests.{by_cases, clash, and_true, same_true, same_of}
use Rattle.script_lines.specs.Forms.{takes, takes_slot, slot_of}
use Rattle.tokens.specs.declared.numbers.Row.{Row}
use Rattle.script_lines.specs.declared.Line.{Line}

-- a test that passes exactly for equal texts
pub equal_texts : {r : Bool} {xs ys : List ℕ} → (r ≡ true → xs ≡ ys) → (xs ≡ ys → r ≡ true) → r ≡ same xs ys
equal_texts {r} {xs} {ys} f g = by_cases r
    (λ t. t ∙ sym (same_of xs ys (f t)))
    (λ t. by_cases (same xs ys) (λ s. absurd (clash r (g (same_true xs ys s)) t)) (λ s. t ∙ sym s))

-- a number within a limit is the same below it
pub kept : {A : Type 0} (test : Bool) (n most m : ℕ) (does : ℕ → A) (line : A)
    → m ≡ n % suc most
    → cond (test && leb n most) (does m) line ≡ cond (test && leb n most) (does n) line
kept test n most m does line e = by_cases (test && leb n most)
    (λ t.
    let inside : n ≤ most = leb-true n most (and_true test (leb n most) t).1 in
    let same_number : m ≡ n = e ∙ mod-eq_of_lt (omega arith) in
    rw (t, same_number))
    (λ t. rw t)

pub slot_kept : (verb name : List ℕ) (row : Row) (s : SlotNo) (does : SlotNo → Line) (line : Line)
    → s.0 ≡ row.first % 4294967296
    → cond (takes_slot verb name row) (does s) line ≡ cond (takes_slot verb name row) (does (slot_of row)) line
unfolding takes_slot
slot_kept verb name row s does line e =
    kept (takes verb name row 1) row.first 4294967295 s.0 (λ n. does (record { 0 = n })) line e
