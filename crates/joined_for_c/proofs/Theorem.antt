-- Demand 3 said of what a caller of the library for C sees, in plain words.
--
-- Take a flash whose two pairs agree, and any list of commands carried out by the functions for C. Each is started by
-- `delunkpawi_enable`, `delunkpawi_disable`, `delunkpawi_rename`, `delunkpawi_create`, `delunkpawi_delete` or
-- `delunkpawi_repair` on the flash as it then is, into any buffer of 9,264 bytes. Where the number returned is 0, that
-- buffer is run by any number of calls of `delunkpawi_run` with any budgets, each on the buffer and the image that the
-- last call left; where it is another number, the command was refused and nothing is run. The power may fail between two
-- steps or inside an erase; the unfinished job is then lost. Nothing is known of these calls but what the contracts of
-- these functions say.
-- Then there are choices for the cut commands with which, after every command, what is said in crates/joined/proofs/
-- Theorem holds, with the readers for C in the place of the others:
--   `delunkpawi_order` returns 0 and writes and counts the book's boot order, in any row with room for it;
--   `delunkpawi_slot_count`, `delunkpawi_slot_facts` and `delunkpawi_slot_name` answer by the book's table;
--   if the command finished, both pairs agree;
--   no byte outside the four granules has changed.
-- A buffer counts here by the job that it holds (`by_value`), so that one proof serves both. Assumes nothing.
use mathlib.Core.Path.{◌≡◌}
use mathlib.Core.Bool.{true}
use mathlib.Core.List.{List, map}
use Prim.Native.Nat.{ℕ}
use Rattle.rules.specs.Bytes.{Bytes}
use Rattle.rules.specs.declared.Setting.{Setting}
use Rattle.rules.specs.Copies.{pairs_agree}
use Rattle.rules.specs.Book.{AllProper}
use Rattle.joined.specs.Items.{item_of}
use Rattle.joined.proofs.Theorem.{demand_3_as_told}
use Rattle.joined_for_c.specs.Items.{CarriedForC, by_value, AllCarriedOutForC}
use Rattle.joined_for_c.specs.Claim.{AnswersForC, Demand3ForC}
use Rattle.joined_for_c.proofs.ByValue.{items_by_value}
use Rattle.joined_for_c.proofs.Readers.{readers_for_c_answer}

pub demand_3_for_c : (s : Setting) (img : List ℕ)
    → Bytes img
    → pairs_agree s img ≡ true
    → (cs : List CarriedForC)
    → AllProper (map item_of (map by_value cs))
    → AllCarriedOutForC s img cs
    → Demand3ForC s img cs
demand_3_for_c s img bytes agree cs names done =
    demand_3_as_told s (AnswersForC s) (readers_for_c_answer s) img bytes agree (map by_value cs) names
    (items_by_value s cs img done)
