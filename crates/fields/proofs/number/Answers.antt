-- `number` reads the field of N bytes. Assumes nothing.
use Rattle.std.proofs.Common.{◌∙◌, rules}
use Rattle.fields.proofs.Numbers.{read, field_bound}
use Rattle.fields.proofs.number.Goals as goal

pub returns : goal.returns
returns g c =
    let e = c.from_le_bytes.ensures ∙ read c.args.at g.row.N c.args.s.now c.copy_from_slice.new.self c.requires.0 c.requires.1
    c.copy_from_slice.ensures.after in
    (e, rw e (field_bound c.args.at g.row.N c.args.s.now c.requires.1 (λ i. search (rules, c.type_inv.s i))))
