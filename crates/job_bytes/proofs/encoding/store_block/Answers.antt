-- `store_block` puts a block that is to be rewritten. Assumes nothing.
use mathlib.Core.Logic.{inl, inr}
use Rattle.rules.specs.Bytes.{block_size}
use Rattle.job_bytes.specs.Form.{block_over}
use Rattle.job_bytes.proofs.Filling.{put_own}
use Rattle.job_bytes.proofs.encoding.store_block.Goals as goal

pub returns-in-Nothing : goal.returns-in-Nothing
unfolding block_over
returns-in-Nothing c =
    let own = put_own c.args.at block_size c.args.out.now c.requires.0 in
    elim c.in-Nothing.is [ inl e ↦ rw e own | inr e ↦ rw e own ]

pub returns-in-Rewrite : goal.returns-in-Rewrite
unfolding block_over
returns-in-Rewrite c = rw c.in-Rewrite.is c.copy_block.ensures
