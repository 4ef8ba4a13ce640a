-- `store_kinds` puts the numbers of the two kinds. Assumes nothing.
use native.Mathlib.Omega.{arith}
use Rattle.fields.proofs.Stored.{number_then}
use Rattle.job_bytes.specs.Form.{first_kind_at, kinds_encoded}
use Rattle.job_bytes.proofs.encoding.store_kinds.Goals as goal

pub returns : goal.returns
unfolding kinds_encoded
returns c =
    let a = c.args in
    rw (← c.number_of.ensures, ← c.number_of-2.ensures)
    (number_then first_kind_at 2 c.number_of.result _ a.out.now (omega arith) c.store.ensures
    c.store-2.ensures)
