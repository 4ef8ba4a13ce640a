-- From the contracts of a start and of the runs for C to an item carried out. Assumes nothing.
use mathlib.Core.Path.{◌≡◌, refl}
use mathlib.Core.List.{List, [], ◌∷◌}
use Prim.Native.Nat.{ℕ, zero, suc}
use lib.ListN.{length}
use Rattle.rules.specs.Bytes.{Bytes}
use Rattle.rules.specs.declared.Setting.{Setting}
use Rattle.rules.specs.Commands.{Command}
use Rattle.rules.specs.Book.{NameBytes, AllProper}
use Rattle.job_bytes.specs.Form.{job_size}
use Rattle.commands.specs.Begins.{start_answer}
use Rattle.handing.specs.Begun.{handed, started_into}
use Rattle.runs_for_c.specs.Ran.{Lent, lent, running, RanAs}
use Rattle.handing.proofs.Beginning.{begun_holds}
use Rattle.joined.specs.Items.{item_of}
use Rattle.joined_for_c.specs.Items.{AllRanForC, CarriedForC, BegunForC, RunsAfter, CarriedOutForC, by_value, AllCarriedOutForC}
use Rattle.joined_for_c.proofs.Theorem.{demand_3_for_c}
use Rattle.carried_for_c.specs.Carrying.{left_after, Budgeted, RanIfStarted, AsAskedForC, CarriedTwiceForC}

-- ---- runs

-- a start that was refused
pub not_started : (number : ℕ) (l : Lent) (first second : ℕ)
    → (number ≡ 0 → ⊥)
    → RanIfStarted number l first second l
unfolding RanIfStarted left_after Budgeted RunsAfter
not_started zero l first second h = absurd (h refl)
not_started (suc n) l first second h = ([], (refl, (tt, refl)))

-- a start that returned 0
pub started : (number : ℕ) (l m l' : Lent) (first second n n' : ℕ)
    → number ≡ 0
    → RanAs n first l m (running l.job l.image)
    → RanAs n' second m l' (running m.job m.image)
    → RanIfStarted number l first second l'
unfolding RanIfStarted left_after Budgeted RunsAfter AllRanForC
started number l m l' first second n n' e one two = (
  record { budget = first; count = l.done; number = n; left = m }
      ∷ record { budget = second; count = m.done; number = n'; left = l' }
      ∷ [],
  (refl, (rw e refl, rw e (one, (two, tt)))),
)

-- ---- a start and its runs

as_carried : (s : Setting) (img : List ℕ) (c : CarriedForC)
    → Bytes img
    → NameBytes c.command
    → CarriedOutForC s img c
    → AsAskedForC s img c
unfolding AsAskedForC AllCarriedOutForC by_value item_of AllProper
as_carried s img c bytes names done =
    (done, λ agree. demand_3_for_c s img bytes agree (c ∷ []) (names, tt) (done, tt))

module _ (s : Setting) (command : Command) (number : ℕ) (l : Lent) (begun : List ℕ) where
  pub carried_by : (first second : ℕ) (l' : Lent)
      → Bytes l.image
      → NameBytes command
      → length l.job ≡ job_size
      → handed number begun ≡ started_into l.job (start_answer s l.image command)
      → RanIfStarted number (lent begun l.image l.done) first second l'
      → CarriedTwiceForC s command number l first second l'
  unfolding RanIfStarted CarriedTwiceForC CarriedOutForC BegunForC
  carried_by first second l' bytes names size e (rs, (left, (budgets, went))) =
      let starts = begun_holds s l.image command l.job number begun e in
      (begun, (rs, (left, (budgets, (λ wiped. as_carried s l.image _ bytes names (size, (starts, went)))))))
