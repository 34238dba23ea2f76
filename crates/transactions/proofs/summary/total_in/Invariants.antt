use Rattle.transactions.proofs.Summing.{Counted}
use Rattle.transactions.proofs.summary.total_in.Given as goal

abbrev pub invariant-loop-index : goal.invariant-loop-index
invariant-loop-index g l = Counted (g.H.World.outside l.initial.host) (g.H.World.outside l.host) l.initial.session l.session l.page l.index l.totals
