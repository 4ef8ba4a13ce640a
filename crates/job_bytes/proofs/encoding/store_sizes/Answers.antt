-- `store_sizes` puts four numbers of 8 bytes. Assumes nothing.
use native.Mathlib.Omega.{arith}
use Rattle.fields.proofs.Stored.{number_then}
use Rattle.job_bytes.specs.Form.{len_at, granule_at, count_at, sizes_encoded}
use Rattle.job_bytes.proofs.encoding.store_sizes.Goals as goal

pub returns : goal.returns
unfolding sizes_encoded
returns c =
    let a = c.args in
    number_then len_at 8 a.plan.len _ a.out.now (omega arith) c.store.ensures
    (number_then granule_at 8 a.plan.granule _ c.store.new.out (omega arith) c.store-2.ensures
    (number_then count_at 8 a.plan.count _ c.store-2.new.out (omega arith) c.store-3.ensures
    c.store-4.ensures))
