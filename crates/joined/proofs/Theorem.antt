-- Demand 3 said of what a caller of the code sees, in plain words.
--
-- Take a flash whose two pairs agree, and any list of commands carried out by the code. Each is started by its function
-- on the flash as it then is. The job that the start returned is run by any number of calls of `Job::run` with any
-- budgets, each with the job and on the image that the last call left. The power may fail between two steps or inside
-- an erase; the unfinished job is then lost. Nothing is known of these calls but what the contracts of the start and of
-- `Job::run` say.
-- Beside the flash the book of demand 3 is kept: it is told each command and whether it was refused, finished or cut,
-- which is what the calls returned, and for a create it looks at the flash that the command got. Then there are choices
-- for the cut commands with which, after every command:
--   what `reading::table_read` returns and `reading::order_list` writes, into any row with room for the order, is the
--   book's table and the book's boot order;
--   if the command finished, both pairs agree;
--   the image is as long as at the start, and every byte outside the first granules of the two tables and the two
--   pointer blocks, as the first table places them, is as at the start.
-- Granule and table addresses are the same throughout, and there is no other writer. That image and names are lists of
-- bytes is what their type in the code, `u8`, says. The definitions are in specs/, those of the book in
-- crates/rules/specs/Book. Assumes nothing.
use mathlib.Core.Path.{◌≡◌, subst}
use mathlib.Core.Bool.{Bool, true}
use mathlib.Core.List.{List, [], ◌∷◌, map}
use Prim.Native.Nat.{ℕ}
use Rattle.rules.specs.Bytes.{Bytes}
use Rattle.rules.specs.Answers.{given}
use Rattle.rules.specs.declared.Setting.{Setting}
use Rattle.rules.specs.Copies.{pairs_agree}
use Rattle.rules.specs.Book.{the_commands, Reading, Outcome, reading, flash_after, outcome, booked, Holds, Follows, AllProper, Demand3}
use Rattle.rules.proofs.Claim.Theorem.{demand_3}
use Rattle.joined.specs.Items.{Carried, item_of, AllCarriedOut}
use Rattle.joined.specs.ReadOut.{Answers}
use Rattle.joined.specs.Claim.{Shown, AllShown, Demand3AsTold, Demand3OfCode}
use Rattle.joined.proofs.Items.{item_by_code, still_bytes}
use Rattle.joined.proofs.ReadBack.{readers_answer}

-- the readers tell what the book's reading says, whichever readers they are
module _ (s : Setting) (Told : List ℕ → Reading → Type 0)
    (tell : (img : List ℕ) (r : Reading) → reading s img ≡ given r → Told img r) where
  module _ (t first : List ℕ) where
    shown : (img : List ℕ) (ended : Outcome) (r : Reading)
        → Holds s t first img ended r
        → Shown Told s t first img ended r
    shown img ended r h = record { told = tell img r h.reads; agrees = h.agrees; untouched = h.untouched }

    -- where the book follows the items, the code shows what the book says
    by_code : (cs : List Carried) (choices : List Bool) (img : List ℕ) (r : Reading)
        → Bytes img
        → reading s img ≡ given r
        → AllProper (map item_of cs)
        → AllCarriedOut s img cs
        → Follows s t first (map item_of cs) choices img r
        → AllShown Told s t first cs choices img r
    unfolding Follows AllShown AllCarriedOut AllProper item_of
    by_code [] choices img r bytes e names done f = tt
    by_code (c ∷ cs) [] img r bytes e names done f = f
    by_code (c ∷ cs) (b ∷ bs) img r bytes e names done (h, f) =
        let (flash, ended) = item_by_code s img c bytes names.0 done.0 in
        let img' : List ℕ = flash_after s img (item_of c) in
        let r' : Reading = booked the_commands s img c.command (outcome s img (item_of c)) b r in
        rw (flash, ended) (
          shown img' (outcome s img (item_of c)) r' h,
          by_code cs bs img' r' (still_bytes s img r (item_of c) bytes names.0 e) h.reads names.1
              (subst (λ (x : List ℕ). AllCarriedOut s x cs) flash done.1) f,
        )

  pub demand_3_as_told : (img : List ℕ)
      → Bytes img
      → pairs_agree s img ≡ true
      → (cs : List Carried)
      → AllProper (map item_of cs)
      → AllCarriedOut s img cs
      → Demand3AsTold Told s img cs
  unfolding Demand3 Demand3AsTold
  demand_3_as_told img bytes agree cs names done =
      let (r, e, (choices, f)) = demand_3 s img bytes agree (map item_of cs) names in
      (r, tell img r e, (choices, by_code r.table img cs choices img r bytes e names done f))

pub demand_3_of_code : (s : Setting) (img : List ℕ)
    → Bytes img
    → pairs_agree s img ≡ true
    → (cs : List Carried)
    → AllProper (map item_of cs)
    → AllCarriedOut s img cs
    → Demand3OfCode s img cs
demand_3_of_code s img = demand_3_as_told s (Answers s) (readers_answer s) img
