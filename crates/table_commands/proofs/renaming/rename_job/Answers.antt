-- `rename_job` is the job of rename. Assumes nothing.
use mathlib.Core.Path.{◌≡◌, sym, ap, ◌∙◌}
use mathlib.Core.Bool.{true, false}
use native.Mathlib.Omega.{arith}
use lib.ListN.{get_or}
use Rattle.rules.specs.Bytes.{up_to_zero}
use Rattle.rules.specs.Table.{entries, has_name, no_entry}
use Rattle.rules.specs.Commands.{put_name}
use Rattle.blocks.specs.Made.{no_steps, pair_rewritten}
use Rattle.drafts.proofs.Drafting.{none_means, pair_means, means_too}
use Rattle.table_commands.proofs.RenameJob.{where_so, where_not}
use Rattle.table_commands.proofs.renaming.rename_job.Goals as goal

pub returns-then-has_name : goal.returns-then-has_name
returns-then-has_name c =
    let a = c.args in
    let same : has_name (up_to_zero a.name.now) (get_or (entries a.t.now) a.row.0 no_entry) ≡ true =
    rw (c.get.ensures, c.entries.ensures) at (sym c.has_name.ensures ∙ c.if-has_name.true) in
    means_too (where_so _ _ same) (none_means _ _ _ _ c.no_plan.ensures)

pub put_name-requires : goal.put_name-requires
put_name-requires c =
    ((c.bytes.ensures.1, omega (arith, c.requires.row, c.requires.few)), (c.requires.name, c.requires.room))

pub returns : goal.returns
returns c =
    let a = c.args in
    let to = a.to in
    let other : has_name (up_to_zero a.name.now) (get_or (entries a.t.now) a.row.0 no_entry) ≡ false =
    rw (c.get.ensures, c.entries.ensures) at (sym c.has_name.ensures ∙ c.if-has_name.false) in
    let put : c.put_name.new.room ≡ put_name a.t.now a.row.0 a.name.now = rw c.bytes.ensures.0 at c.put_name.ensures in
    means_too
    (ap (λ b. pair_rewritten to.len to.granule to.at0 to.at1 b) put
    ∙ where_not (no_steps to.len to.granule) (pair_rewritten to.len to.granule to.at0 to.at1 (put_name a.t.now a.row.0 a.name.now)) other)
    (pair_means to.len to.granule c.pair_plan.result to.at0 to.at1 c.put_name.new.room c.pair_plan.ensures)
