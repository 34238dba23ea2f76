use Rattle.history_writes.proofs.Linking.{CopiedTo}
use Rattle.history_writes.proofs.page_links.copy_linked.Given as goal

abbrev pub invariant-loop-slot : goal.invariant-loop-slot
invariant-loop-slot l = CopiedTo l.from l.links l.slot l.into
