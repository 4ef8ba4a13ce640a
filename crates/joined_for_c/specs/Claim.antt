-- Demand 3 said of what a caller of the library for C sees. Assumes nothing.
use Rattle.std.specs.Prelude.{◌≡◌, List, map, ℕ, ◌≤◌, length}
use Rattle.rules.specs.Answers.{given, unless}
use Rattle.rules.specs.declared.Setting.{Setting}
use Rattle.rules.specs.Table.{entries, slots}
use Rattle.rules.specs.Readers.{order_list, slot_count, slot_there, info, slot_info, name_in, slot_name}
use Rattle.rules.specs.Book.{Reading}
use Rattle.reads_for_c.specs.Answered.{Written}
use Rattle.joined.specs.Claim.{Demand3AsTold}
use Rattle.joined_for_c.specs.Items.{CarriedForC, by_value}
use Rattle.rules.specs.declared.Refusal.TheVariants.{NoSuchSlot}

-- what the readers for C tell of a flash with this reading
pub record AnswersForC (s : Setting) (img : List ℕ) (r : Reading) : Type 0 where
  -- `delunkpawi_order`, as its contract says and with a row that has room, returns 0 and writes and counts this order
  pub order : (row row' : List ℕ) (number count count' : ℕ)
      → length r.boot ≤ length row
      → Written (order_list s img (length row)) number row row' count count'
      → Written (given r.boot) number row row' count count'
  -- what the contracts of `delunkpawi_slot_count`, `delunkpawi_slot_facts` and `delunkpawi_slot_name` cite is by this
  -- table
  pub slot_total : slot_count s img ≡ given (length (slots (entries r.table)))
  pub slot_known : (k : ℕ)
      → slot_info s img k ≡ unless NoSuchSlot (slot_there (entries r.table) k) (given (info (entries r.table) k))
  pub slot_named : (k : ℕ) → slot_name s img k ≡ name_in (entries r.table) k

abbrev pub Demand3ForC : Setting → List ℕ → List CarriedForC → Type 0
Demand3ForC s img cs = Demand3AsTold (AnswersForC s) s img (map by_value cs)
