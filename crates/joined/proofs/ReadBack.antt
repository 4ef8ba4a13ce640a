-- What the two readers tell is the book's reading, refusals included. Assumes nothing.
use mathlib.Core.Path.{◌≡◌, refl, sym, ap, ◌∙◌}
use mathlib.Core.Bool.{Bool, true, false}
use mathlib.Core.List.{List}
use Prim.Native.Nat.{ℕ, ◌≤◌}
use native.Mathlib.Omega.{arith}
use borrow.Author.Tests.{le-leb}
use lib.Dec.{leb}
use lib.ListN.{length, drop, replicate, length-replicate}
use lib.Seq.{take_at}
use Rattle.rules.specs.Answers.{Answer, refused, given, unless, ◌>>=◌}
use Rattle.rules.specs.declared.Setting.{Setting}
use Rattle.rules.specs.Copies.{view, boot_order}
use Rattle.rules.specs.Readers.{order_in, order_list, row_after, table_of, table_part}
use Rattle.rules.specs.Book.{Reading, read_by, reading}
use Rattle.rules.specs.declared.View.{View}
use Rattle.rules.proofs.Lists.Tests.{bind_given, given_inj, refused_given}
use Rattle.order_lists.specs.Answers.{count_of}
use Rattle.joined.specs.ReadOut.{ReadOut, ReadFrom, seen, Answers}
use Rattle.rules.specs.declared.Refusal.TheVariants.{RowTooShort}

-- a table, and an order that is given
abbrev with_order : List ℕ → Answer (List ℕ) → Answer Reading
with_order t a = a >>= λ o. given (record { table = t; boot = o })

-- what the caller has is the table part and the order that the order list was to give
seen_by : (x : ReadOut) (a : Answer (List ℕ)) (t : List ℕ)
    → x.part ≡ t
    → x.answer ≡ count_of a
    → x.row_left ≡ row_after a x.row
    → seen x ≡ with_order t a
unfolding seen row_after
seen_by x (refused why) t p l w = rw l
seen_by x (given o) t p l w = rw (l, p, w, take_at o (drop (length o) x.row) (length o) refl)

module _ (s : Setting) (img : List ℕ) where
  -- the reading is the table part and the order list's order, where the row has room
  reading_by : (room : ℕ)
      → (order_list s img room ≡ refused RowTooShort → ⊥)
      → with_order (table_part s img) (order_list s img room) ≡ reading s img
  unfolding order_list order_in unless table_part table_of reading read_by
  reading_by room = by_view (view s img)
    where
      by_view : (a : Answer View)
          → ((a >>= λ v. order_in (boot_order img v) room) ≡ refused RowTooShort → ⊥)
          → with_order (table_of img a) (a >>= λ v. order_in (boot_order img v) room)
          ≡ (a >>= λ v. given (read_by img v))
      by_view (refused why) fits = refl
      by_view (given v) fits = by_room (leb (length (boot_order img v)) room) refl
        where
          by_room : (t : Bool)
              → leb (length (boot_order img v)) room ≡ t
              → with_order (table_of img (given v)) (order_in (boot_order img v) room) ≡ given (read_by img v)
          by_room true e = rw e
          by_room false e = absurd (fits (rw e))

  -- what `table_read` and `order_list` tell of a flash is the book's reading of it, unless the row was too short
  pub seen_is_reading : (x : ReadOut)
      → ReadFrom s img x
      → (x.answer ≡ refused RowTooShort → ⊥)
      → seen x ≡ reading s img
  seen_is_reading x from fits =
      seen_by x (order_list s img (length x.row)) (table_part s img) from.part from.answer from.written
      ∙ reading_by (length x.row) (λ e. fits (from.answer ∙ rw e))

  module _ (r : Reading) where
    pub order_there : (room : ℕ) → reading s img ≡ given r → length r.boot ≤ room → order_list s img room ≡ given r.boot
    unfolding reading read_by order_list order_in unless
    order_there room e fits =
        let (v, ev, q) = bind_given (view s img) _ r e in
        let same : read_by img v ≡ r = given_inj (read_by img v) r q in
        rw (ev, ap (λ (x : Reading). x.boot) same, le-leb (length r.boot) room fits)

    pub readers_answer : reading s img ≡ given r → Answers s img r
    unfolding Answers
    readers_answer e x from fits =
        let o = order_there (length x.row) e fits in
        seen_is_reading x from
        (λ h. refused_given RowTooShort (length r.boot) (sym h ∙ from.answer ∙ rw o)) ∙ e

    -- nothing is lost: where the readers tell a reading, that is the reading of the flash
    pub answers_read : Answers s img r → reading s img ≡ given r
    unfolding Answers seen
    answers_read told =
        let e = told x from (rw length-replicate (omega arith)) in
        sym (seen_is_reading x from (λ h. refused_given RowTooShort r (sym (short h) ∙ e))) ∙ e
      where
        row : List ℕ
        row = replicate (length r.boot) 0

        x : ReadOut
        x = record {
          part = table_part s img;
          answer = count_of (order_list s img (length row));
          row = row;
          row_left = row_after (order_list s img (length row)) row;
        }

        from : ReadFrom s img x
        from = record {
          part = refl;
          answer = refl;
          written = refl;
        }

        short : x.answer ≡ refused RowTooShort → seen x ≡ refused RowTooShort
        short h = rw h
