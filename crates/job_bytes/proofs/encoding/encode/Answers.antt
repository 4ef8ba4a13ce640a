-- `encode` puts a job over the bytes of a buffer. Assumes nothing.
use Rattle.job_bytes.proofs.JobOver.{job_encoded}
use Rattle.job_bytes.proofs.encoding.encode.Goals as goal

pub returns : goal.returns
returns c =
    job_encoded _ c.requires.1 c.args.out.now c.requires.0 c.meant_size-size.result
    c.meant_size-size.ensures c.store_numbers.ensures c.copy.ensures
    c.copy-2.ensures c.store_block.ensures c.store_block-2.ensures
