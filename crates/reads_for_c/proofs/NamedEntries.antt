-- What is lent for an entry with its name afterwards. Assumes nothing.
use mathlib.Core.Path.{◌≡◌, ◌∙◌}
use mathlib.Core.List.{List}
use Prim.Native.Nat.{ℕ}
use lib.ListN.{length}
use Rattle.rules.specs.Answers.{Answer, refused, given, number_of}
use Rattle.rules.specs.declared.Refusal.{Refusal}
use Rattle.rules.specs.Readers.{row_after}
use Rattle.reads_for_c.specs.Inspected.{NamedEntry, name_of}
use Rattle.reads_for_c.specs.Told.{EntryTold}
use Rattle.codes.proofs.Numbered.{number-refused, kept-refused}

module _ {a : Answer NamedEntry} (row : List ℕ) where
  -- a refusal leaves it all as it was
  pub entry_kept : {why : Refusal} {r : ℕ} (count start size flags : ℕ)
      → r ≡ number_of why
      → refused why ≡ a
      → EntryTold a r row row count count start start size size flags flags
  unfolding name_of row_after
  entry_kept count start size flags er e = record {
    returned = er ∙ number-refused e;
    name_left = rw (← e);
    count_left = kept-refused (λ e. length e.name) count e;
    start_left = kept-refused (λ e. e.info.start) start e;
    size_left = kept-refused (λ e. e.info.size) size e;
    flags_left = kept-refused (λ e. e.info.flags) flags e;
  }

  pub name_put : {x : NamedEntry} → given x ≡ a → row_after (given x.name) row ≡ row_after (name_of a) row
  unfolding name_of row_after
  name_put e = rw (← e)
