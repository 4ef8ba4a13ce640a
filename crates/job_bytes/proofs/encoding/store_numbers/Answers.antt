-- `store_numbers` puts sizes, addresses and kinds. Assumes nothing.
use native.Mathlib.Omega.{arith}
use Rattle.fields.proofs.Stored.{put_then}
use Rattle.job_bytes.specs.Form.{len_at, offset_at, sizes_encoded, addresses_encoded, numbers_encoded}
use Rattle.job_bytes.proofs.Numbers.{length_sizes, length_addresses}
use Rattle.job_bytes.proofs.encoding.store_numbers.Goals as goal

pub returns : goal.returns
unfolding numbers_encoded
returns c =
    let a = c.args in
    put_then len_at 32 (sizes_encoded a.plan a.done) _ a.out.now (length_sizes a.plan a.done) (omega arith)
    c.store_sizes.ensures
    (put_then offset_at 12 (addresses_encoded a.plan) _ c.store_sizes.new.out (length_addresses a.plan)
    (omega arith) c.store_addresses.ensures c.store_kinds.ensures)
