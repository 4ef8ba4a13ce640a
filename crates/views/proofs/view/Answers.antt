-- What a view names can be read. Assumes nothing.
use mathlib.Core.Path.{sym, ◌∙◌}
use Rattle.views.proofs.Seen.{read_followed}
use Rattle.views.proofs.Views.{view_by_table}
use Rattle.views.proofs.Opening.{viewed_located}
use Rattle.views.proofs.view.Goals as goal

pub view_through-requires : goal.view_through-requires
view_through-requires c = read_followed _ _ _ (sym c.due.ensures ∙ c.in_ok-due.was) (sym c.table_read.ensures ∙ c.in_ok-at.was)

pub returns-clause-inside : goal.returns-clause-inside
returns-clause-inside c =
    viewed_located _ _ _
    (c.view_through.ensures ∙ sym (view_by_table _ _ _ (sym c.due.ensures ∙ c.in_ok-due.was) (sym c.table_read.ensures ∙ c.in_ok-at.was)))
