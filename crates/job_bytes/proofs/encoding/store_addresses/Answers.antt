-- `store_addresses` puts three numbers of 4 bytes. Assumes nothing.
use native.Mathlib.Omega.{arith}
use Rattle.fields.proofs.Stored.{number_then}
use Rattle.job_bytes.specs.Form.{offset_at, first_address_at, addresses_encoded}
use Rattle.job_bytes.proofs.encoding.store_addresses.Goals as goal

pub returns : goal.returns
unfolding addresses_encoded
returns c =
    let a = c.args in
    number_then offset_at 4 a.plan.offset _ a.out.now (omega arith) c.store.ensures
    (number_then first_address_at 4 a.plan.at _ c.store.new.out (omega arith) c.store-2.ensures
    c.store-3.ensures)
