-- The readers for C tell the book's reading. Assumes nothing.
use mathlib.Core.Path.{◌≡◌, ap}
use mathlib.Core.List.{List}
use Prim.Native.Nat.{ℕ}
use lib.ListN.{length}
use Rattle.rules.specs.Answers.{given, ◌>>=◌}
use Rattle.rules.specs.declared.Setting.{Setting}
use Rattle.rules.specs.Copies.{view}
use Rattle.rules.specs.Readers.{slot_count, slot_info, slot_name, table_of, table_part}
use Rattle.rules.specs.Book.{Reading, read_by, reading}
use Rattle.rules.proofs.Lists.Tests.{bind_given, given_inj}
use Rattle.joined.proofs.ReadBack.{order_there}
use Rattle.joined_for_c.specs.Claim.{AnswersForC}

module _ (s : Setting) (img : List ℕ) (r : Reading) where
  pub readers_for_c_answer : reading s img ≡ given r → AnswersForC s img r
  unfolding reading read_by slot_count slot_info slot_name table_part table_of
  readers_for_c_answer e =
      let (v, ev, q) = bind_given (view s img) _ r e in
      let table = ap (λ (x : Reading). x.table) (given_inj (read_by img v) r q) in
      record {
        order = λ row row' number count count' fits written. rw (order_there s img r (length row) e fits) at written;
        slot_total = rw (ev, table);
        slot_known = λ k. rw (ev, table);
        slot_named = λ k. rw (ev, table);
      }
