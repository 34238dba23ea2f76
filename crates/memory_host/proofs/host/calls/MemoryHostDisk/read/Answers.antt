use Rattle.std.proofs.Common.{refl, inl, inr, ⊎_elim, ◌∙◌, ap, ℕ, ◌+◌, ◌-◌, List, take, drop, length, ◌==◌}
use Rattle.ex_base.specs.Bytes.{range_is_part}
use Rattle.memory_host.specs.Stays.{stays_trans, reads_stays}
use Rattle.memory_host.specs.Replay.{replayed}
use Rattle.memory_host.specs.ReplayLaws.{told_disk}
use Rattle.memory_host.specs.Host.{state_of}
use Rattle.memory_host.specs.declared.host.Call.TheVariants.{Other}
use Rattle.memory_host.proofs.Leaves.{leaves_passed, leaves_done, has_noted, isnt}
use Rattle.memory_host.proofs.host.calls.MemoryHostDisk.read.Goals as goal

pub returns-then-fails-clause-only : goal.returns-then-fails-clause-only
returns-then-fails-clause-only c =
    reads_stays (stays_trans c.pass-noted.ensures.stays c.disk_fault.ensures.stays)
    (c.disk_fault.ensures.read_faults ∙ c.pass-noted.ensures.read_faults) (c.disk_fault.ensures.write_faults ∙ c.pass-noted.ensures.write_faults)

pub returns-else-lies-clause-bytes : goal.returns-else-lies-clause-bytes
returns-else-lies-clause-bytes c d holds =
    let old = c.args.self.now in
    let n = length c.args.out.now in
    let held = c.deref.ensures.value ∙ c.pass-noted.ensures.disk ∙ old.disk_is ∙ told_disk (length old.lying.items == 0) (replayed old.start.items old.calls.items).disk d holds in
    c.copy_from_slice.ensures.after
    ∙ ap (λ (l : List ℕ). take (c.args.at + n - c.args.at) (drop c.args.at l)) held
    ∙ range_is_part d c.args.at n

pub returns-then-fails-clause-leaves : goal.returns-then-fails-clause-leaves
returns-then-fails-clause-leaves c =
    let old = c.args.self.now in
    leaves_passed old c.pass-noted.new.self c.disk_fault.new.self c.pass-noted.result Other (state_of old)
    (⊎_elim (λ fails. inl (c.fails-fails.ensures.0 fails)) (λ unnoted. inr unnoted.1) c.then-fails.either) refl c.pass-noted.ensures.run c.disk_fault.ensures.run

pub returns-then-lies-clause-leaves : goal.returns-then-lies-clause-leaves
returns-then-lies-clause-leaves c =
    let old = c.args.self.now in
    leaves_done old c.pass-noted.new.self Other (state_of old) (state_of old) (isnt c.fails-fails.result c.fails-fails.ensures c.if-fails.false)
    (has_noted old c.pass-noted.new.self Other c.pass-noted.result c.if-not-noted.false c.pass-noted.ensures.run) refl

pub returns-else-lies-clause-truth : goal.returns-else-lies-clause-truth
returns-else-lies-clause-truth c truthful =
    let old = c.args.self.now in
    let n = length c.args.out.now in
    let held = c.deref.ensures.value ∙ c.pass-noted.ensures.disk ∙ old.disk_is in
    c.copy_from_slice.ensures.after
    ∙ ap (λ (l : List ℕ). take (c.args.at + n - c.args.at) (drop c.args.at l)) held
    ∙ range_is_part (state_of old).disk c.args.at n

pub returns-else-lies-clause-leaves : goal.returns-else-lies-clause-leaves
returns-else-lies-clause-leaves c =
    let old = c.args.self.now in
    leaves_done old c.pass-noted.new.self Other (state_of old) (state_of old) (isnt c.fails-fails.result c.fails-fails.ensures c.if-fails.false)
    (has_noted old c.pass-noted.new.self Other c.pass-noted.result c.if-not-noted.false c.pass-noted.ensures.run) refl
