use Rattle.std.proofs.Common.{refl, inl, inr, ⊎_elim, ◌∙◌}
use Rattle.memory_host.specs.Stays.{stays_trans, source_stays}
use Rattle.memory_host.specs.Host.{state_of}
use Rattle.memory_host.specs.declared.host.Call.TheVariants.{Other}
use Rattle.memory_host.proofs.Leaves.{leaves_passed, leaves_done, has_noted, isnt}
use Rattle.memory_host.proofs.host.calls.MemoryHostSource.take.Goals as goal

pub returns-then-fails-clause-only : goal.returns-then-fails-clause-only
returns-then-fails-clause-only c =
    source_stays (stays_trans c.pass-noted.ensures.stays c.read_fault.ensures.stays)
    (c.read_fault.ensures.disk_faults ∙ c.pass-noted.ensures.disk_faults) (c.read_fault.ensures.write_faults ∙ c.pass-noted.ensures.write_faults)

pub returns-then-fails-clause-leaves : goal.returns-then-fails-clause-leaves
returns-then-fails-clause-leaves c =
    let old = c.args.self.now in
    leaves_passed old c.pass-noted.new.self c.read_fault.new.self c.pass-noted.result Other (state_of old)
    (⊎_elim (λ fails. inl (c.fails-fails.ensures.0 fails)) (λ unnoted. inr unnoted.1) c.then-fails.either) refl c.pass-noted.ensures.run c.read_fault.ensures.run

pub returns-clause-leaves : goal.returns-clause-leaves
returns-clause-leaves c =
    let old = c.args.self.now in
    let now = has_noted old c.pass-noted.new.self Other c.pass-noted.result c.if-not-noted.false c.pass-noted.ensures.run in
    leaves_done old _ Other (state_of old) (state_of old) (isnt c.fails-fails.result c.fails-fails.ensures c.if-fails.false)
    (record { start = now.start; plan = now.plan; calls = now.calls }) refl
