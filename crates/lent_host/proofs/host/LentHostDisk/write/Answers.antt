use Rattle.std.proofs.Common.{◌≤◌, ◌+◌, length, arith, rules}
use Rattle.lent_host.proofs.Listed.{write_lent, written_only, written_tears}
use Rattle.lent_host.proofs.host.LentHostDisk.write.Goals as goal

pub invariant_of-self : goal.invariant_of-self
invariant_of-self c =
    let old = c.args.self.now in
    let fits : c.args.at + length c.args.bytes.now ≤ length old.image.now = omega (arith, c.requires, old.whole) in
    let lent = write_lent old.file.now.bytes old.image.now old.asked.now.items c.args.at c.args.bytes.now old.lent old.whole old.of_bytes fits (λ i. search rules)
    c.list_write.new.asked.items c.list_write.new.image c.list_write.result c.list_write.ensures.done c.list_write.ensures.asked c.list_write.ensures.image in
    record { lent = lent.0; whole = lent.1; of_bytes = lent.2 }

pub returns-then-list_write-clause-only : goal.returns-then-list_write-clause-only
returns-then-list_write-clause-only c =
    let old = c.args.self.now in
    let put = c.list_write.ensures.done c.if-list_write.true in
    written_only old.file.now.bytes old.image.now old.asked.now.items c.list_write.new.asked.items old.image.ghost_name old.asked.ghost_name c.args.at c.args.bytes.now put.0 old.lent old.of_bytes put.1
    (omega (arith, c.requires, old.whole)) put.2

pub returns-then-list_write-clause-tears : goal.returns-then-list_write-clause-tears
returns-then-list_write-clause-tears c honest =
    let old = c.args.self.now in
    let put = c.list_write.ensures.done c.if-list_write.true in
    written_tears old.file.now.bytes old.image.now old.asked.now.items c.list_write.new.asked.items old.image.ghost_name old.asked.ghost_name c.args.at c.args.bytes.now put.0 old.lent old.of_bytes put.1
    (omega (arith, c.requires, old.whole)) put.2
