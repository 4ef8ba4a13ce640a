-- `do_erase` erases where the erase is in the window. Assumes nothing.
use mathlib.Core.Path.{◌∙◌}
use lib.ListN.{length}
use Rattle.part_steps.proofs.RewriteSteps.{no_erase, one_erase, erase_fits}
use Rattle.part_steps.proofs.rewriting.do_erase.Goals as goal

pub returns-then-window : goal.returns-then-window
returns-then-window c =
    let a = c.args in
    record { value = c.beyond-rest.ensures; image_after = no_erase a.granule a.at a.window a.image.now c.if-window.true }

pub erase-requires : goal.erase-requires
erase-requires c =
    let a = c.args in
    erase_fits a.granule (length a.image.now) a.at a.window.from a.window.n c.requires c.if-window.false

pub returns : goal.returns
returns c =
    let a = c.args in record { value = c.beyond-rest.ensures; image_after = c.erase.ensures ∙ one_erase a.granule a.at a.window a.image.now c.if-window.false }
