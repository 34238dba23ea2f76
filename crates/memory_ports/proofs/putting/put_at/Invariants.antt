use Rattle.ex_base.specs.declared.names.Area.TheVariants.{Page}
use Rattle.memory_ports.proofs.putting.put_at.Given as goal

abbrev pub decreases-taking : goal.decreases-taking
decreases-taking g l = g.V.Ground.free l.volume Page

abbrev pub invariant-taking : goal.invariant-taking
invariant-taking g l = g.V.Ground.leads l.fn.volume l.volume
