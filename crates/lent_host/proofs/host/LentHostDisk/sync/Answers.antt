use Rattle.lent_host.proofs.Listed.{synced, sync_lent}
use Rattle.lent_host.proofs.host.LentHostDisk.sync.Goals as goal

pub invariant_of-self : goal.invariant_of-self
invariant_of-self c =
    let old = c.args.self.now in
    record {
      lent = sync_lent old.file.now.bytes old.image.now old.asked.now.items c.list.new.asked.items c.list.result c.list.ensures old.lent;
      whole = old.whole;
      of_bytes = old.of_bytes;
    }

pub returns-then-list-clause-only : goal.returns-then-list-clause-only
returns-then-list-clause-only c =
    let old = c.args.self.now in
    (synced old.file.now.bytes old.asked.now.items c.list.new.asked.items old.image.ghost_name old.asked.ghost_name c.if-list.ensures).0

pub returns-then-list-clause-settles : goal.returns-then-list-clause-settles
returns-then-list-clause-settles c =
    let old = c.args.self.now in
    (synced old.file.now.bytes old.asked.now.items c.list.new.asked.items old.image.ghost_name old.asked.ghost_name c.if-list.ensures).1
