use lib.ListN.{replicate}
use Rattle.rules.specs.Copies.{boot_order}
use Rattle.walks.specs.Entries.{most_entries}
use Rattle.text.proofs.Puts.{then}
use Rattle.report.specs.Listing.{header, parts}
use Rattle.report.proofs.Read.{order_has_room, written_order}
use Rattle.report.proofs.put_parts.Goals as goal

pub write_order-count-requires : goal.write_order-count-requires
write_order-count-requires c = order_has_room c.args.flash.now.inside c.table-t.ensures c.pointers-p.ensures

pub returns : goal.returns
unfolding parts header boot_order
returns c =
    let written = written_order c.args.flash.now.inside c.table-t.ensures c.pointers-p.ensures
    (replicate most_entries 0) c.write_order-count.ensures.count c.write_order-count.ensures.written in
    rw (← c.table-t.ensures, ← c.pointers-p.ensures)
    (then c.put_bytes-end.ensures (then (rw written at c.put_lines-end.ensures) c.put_dead.ensures))
