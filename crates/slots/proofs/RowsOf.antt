-- What the rows of a table tell: from the slots at the end on, one entry more is one slot more, and the entry of such a
-- slot follows from its number. Assumes nothing.
use Rattle.std.proofs.Common.{◌≡◌, refl, sym, ap, ◌∙◌, List, [], ◌∷◌, ℕ, zero, suc, ◌+◌, ◌-◌, ◌≤◌, ◌<◌, arith, length, take, take_all, length-take-le}
use native.Mathlib.Nat.{le_of_suc-le-suc, not-suc-le-zero}
use borrow.Author.Tests.{ne_eqb}
use lib.Dec.{leb, ltb}
use borrow.Author.Tests.{leb-true, ltb-true}
use Rattle.std.proofs.Common.{Fits, w32, w64, true, ◌&&◌}
use Rattle.rules.proofs.Lists.Tests.{and_true}
use Rattle.rules.specs.Lists.{keep}
use Rattle.rules.specs.Table.{Entry, entry_count, entries, is_slot, slots}
use Rattle.rules.specs.Readers.{slot_row}
use Rattle.rules.proofs.Lists.Tests.{by_cases}
use Rattle.rules.proofs.Lists.Combinators.{kept_no_more}
use Rattle.rules.proofs.Table.Standing.{length-entries}
use Rattle.walks.proofs.Last.{last_within, last_passes, kept_from}
use Rattle.walks.proofs.Slots.{slot_row_here, slot_row_goes}
use Rattle.slots.specs.Inner.RowsOf.{slots_from, slots_before, HasRows}

-- no more slots than entries
pub few_slots : (es : List Entry) → length (slots es) ≤ length es
unfolding slots
few_slots es = kept_no_more is_slot es

row_at : (es : List Entry) (e k : ℕ) → e < length es
    → length (slots (take e es)) ≡ k
    → length (slots (take (suc e) es)) ≡ suc k
    → slot_row es k ≡ e
unfolding slots keep
row_at [] e k h a b = absurd (not-suc-le-zero h)
row_at (x ∷ es) zero k h a b = by_cases (is_slot x)
    (λ p. slot_row_here k refl p (sym a))
    (λ p. absurd (omega (arith, rw p at b)))
row_at (x ∷ es) (suc e) k h a b = by_cases (is_slot x)
    (λ p.
    let before : suc (length (keep is_slot (take e es))) ≡ k = rw p at a in
    let with : suc (length (keep is_slot (take (suc e) es))) ≡ suc k = rw p at b in
    let goes = slot_row_goes {es = x ∷ es} k refl (rw (p, ne_eqb k 0 (λ z. omega arith))) in
    rw p at goes ∙ ap suc (row_at es e (k - 1) (le_of_suc-le-suc h) (omega arith) (omega arith)))
    (λ p.
    let none : k - 0 ≡ k = omega arith in
    let goes = slot_row_goes {es = x ∷ es} k refl (rw p) in
    rw (p, none) at goes ∙ ap suc (row_at es e k (le_of_suc-le-suc h) (rw p at a) (rw p at b)))

module _ (t : List ℕ) (es : List Entry) (from before : ℕ) (h : HasRows t es from before) where
  pub count_is : length es ≡ entry_count t
  count_is = ap length h.counted ∙ length-entries t

  pub few_entries : length es ≤ 127
  few_entries = omega (arith, count_is, h.table.few)

  pub from_within : from ≤ length es
  unfolding slots_from
  from_within = rw (h.counted, h.last) (last_within is_slot (entries t))

  pub slots_to : (e : ℕ) → slots_before t e ≡ length (slots (take e es))
  unfolding slots_before
  slots_to e = rw (← h.counted)

  pub few_before : (e : ℕ) → e ≤ length es → slots_before t e ≤ e
  few_before e h = omega (arith, slots_to e, few_slots (take e es), length-take-le e es h)

  -- from there on each entry is one slot more
  pub counted : (e : ℕ) → from ≤ e → e ≤ length es → slots_before t e ≡ before + (e - from)
  unfolding slots_before slots_from slots
  counted e low high =
      let more = kept_from is_slot (entries t) (slots_from t) e (last_passes is_slot (entries t))
      (omega (arith, h.last))
      (omega (arith, count_is, length-entries t)) in
      omega (arith, h.last, h.fewer, rw (← h.last) at more)

  pub all_slots : slots_before t (length es) ≡ length (slots (entries t))
  unfolding slots_before
  all_slots = rw (take_all (length es) (entries t) (omega (arith, count_is, length-entries t)))

  pub last_row : (k : ℕ) → before ≤ k → k < length (slots (entries t))
      → (slot_row (entries t) k ≡ from + (k - before)) × (from + (k - before) < length es)
  unfolding slots_before
  last_row k low high =
      let all = counted (length es) from_within (omega arith) in
      let e = from + (k - before) in
      let inside : e < length es = omega (arith, from_within, all_slots) in (
        row_at (entries t) e k (omega (arith, count_is, length-entries t))
            (counted e (omega arith) (omega arith) ∙ omega arith)
            (counted (suc e) (omega arith) (omega arith) ∙ omega arith),
        inside,
      )

  -- how many slots there are
  pub total : (from ≤ length es) × (before + (length es - from) ≡ length (slots (entries t))) × (before + (length es - from) ≤ length es)
  total =
      let all = counted (length es) from_within (omega arith) in
      (from_within, omega (arith, all_slots), omega (arith, few_before (length es) (omega arith)))

-- ---- as the methods of a table ask: t' is the table, t its bytes

module _ {t t' : List ℕ} {es : List Entry} {from before : ℕ} (h : HasRows t es from before) (is : t ≡ t') where
  as_table : HasRows t' es from before
  as_table = rw is at h

  pub slot_reckoned : (e : ℕ) → e < length (entries t') → from ≤ e → before + (e - from) ≡ slots_before t' e
  slot_reckoned e low high = sym (counted t' es from before as_table e high (omega (arith, ap length as_table.counted)))

  slot_few : (e : ℕ) → e < length (entries t') → from ≤ e → before + (e - from) ≤ 127
  slot_few e low high =
      omega (
        arith,
        slot_reckoned e low high,
        ap length as_table.counted,
        few_entries t' es from before as_table,
        few_before t' es from before as_table e (omega (arith, ap length as_table.counted)),
      )

  pub slot_fits : (e : ℕ) → e < length (entries t') → from ≤ e → Fits w32 (before + (e - from))
  slot_fits e low high = omega (arith, slot_few e low high)

  pub slot_sum_fits : (e : ℕ) → e < length (entries t') → from ≤ e → Fits w64 (before + (e - from))
  slot_sum_fits e low high = omega (arith, slot_few e low high)

  pub slot_counted : (e n : ℕ) (lower : List Entry) → lower ≡ take e es → n ≡ length (slots lower) → n ≡ slots_before t' e
  slot_counted e n lower those q = q ∙ rw those (sym (slots_to t' es from before as_table e))

  pub total_reckoned : (n : ℕ) → n ≡ length es → before + (n - from) ≡ length (slots (entries t'))
  total_reckoned n q = let (low, sum, few) = total t' es from before as_table in rw q sum

  pub total_few : (n : ℕ) → n ≡ length es → before + (n - from) ≤ length (entries t')
  total_few n q = let (low, sum, few) = total t' es from before as_table in omega (arith, ap length as_table.counted)

  row_there : (k n : ℕ) → leb before k && ltb k n ≡ true → n ≡ length (slots (entries t'))
      → (slot_row (entries t') k ≡ from + (k - before)) × (from + (k - before) < length es)
  row_there k n there q =
      let (low, high) = and_true (leb before k) (ltb k n) there in
      last_row t' es from before as_table k (leb-true before k low) (omega (arith, ltb-true k n high))

  pub row_reckoned : (k n : ℕ) → leb before k && ltb k n ≡ true → n ≡ length (slots (entries t'))
      → from + (k - before) ≡ slot_row (entries t') k
  row_reckoned k n there q = sym (row_there k n there q).0

  pub row_within : (k n : ℕ) → leb before k && ltb k n ≡ true → n ≡ length (slots (entries t'))
      → slot_row (entries t') k < length (entries t')
  row_within k n there q = omega (arith, row_there k n there q, ap length as_table.counted)

  pub row_fits : (k n : ℕ) → leb before k && ltb k n ≡ true → n ≡ length (slots (entries t')) → Fits w64 (from + (k - before))
  row_fits k n there q = omega (arith, row_there k n there q, few_entries t' es from before as_table)

module _ {t : List ℕ} {es : List Entry} {from before : ℕ} (h : HasRows t es from before) where
  pub total_fits : (n : ℕ) → n ≡ length es → Fits w64 (before + (n - from))
  total_fits n q = omega (arith, total t es from before h, few_entries t es from before h)

  pub total_below : (n : ℕ) → n ≡ length es → from ≤ n
  total_below n q = omega (arith, (total t es from before h).0)
