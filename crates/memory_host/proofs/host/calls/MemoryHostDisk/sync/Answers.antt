use Rattle.std.proofs.Common.{inl, arith, ◌∙◌, sym, subst, List, length, drop, ◌==◌, refl}
use Rattle.disk_model.specs.Outside.{WritesNothing}
use Rattle.disk_model.specs.Calls.{Settles}
use Rattle.memory_host.specs.Stays.{stays_trans, reads_stays}
use Rattle.memory_host.specs.Replay.{outside_of}
use Rattle.memory_host.specs.ReplayLaws.{kept_noted, noted_yes, sync_call}
use Rattle.memory_host.specs.declared.host.Call.{Call}
use Rattle.memory_host.specs.declared.host.Call.TheVariants.{Sync}
use Rattle.memory_host.proofs.Inside.{inside_noted}
use Rattle.memory_host.specs.Host.{state_of}
use Rattle.memory_host.specs.Replay.{after_sync}
use Rattle.memory_host.specs.declared.host.Call.TheVariants.{Other}
use Rattle.memory_host.proofs.Leaves.{leaves_passed, leaves_done, isnt}
use Rattle.memory_host.proofs.host.calls.MemoryHostDisk.sync.Goals as goal

pub returns-then-fails-clause-only : goal.returns-then-fails-clause-only
returns-then-fails-clause-only c =
    (reads_stays (stays_trans c.pass-noted.ensures.stays c.disk_fault.ensures.stays)
    (c.disk_fault.ensures.read_faults ∙ c.pass-noted.ensures.read_faults) (c.disk_fault.ensures.write_faults ∙ c.pass-noted.ensures.write_faults)).nothing

pub invariant_of-self : goal.invariant_of-self
invariant_of-self c =
    let old = c.args.self.now in
    let same = kept_noted old.start.items old.calls.items c.note.new.calls.items Sync c.note.result c.note.ensures refl refl in
    record {
      disk_is = old.disk_is ∙ sym same.0;
      sent_is = old.sent_is ∙ sym same.1;
      same_size = old.same_size;
      of_bytes = old.of_bytes;
      inside = inside_noted (length old.start.items) old.calls.items c.note.new.calls.items Sync c.note.result c.note.ensures old.inside (omega arith);
      within = old.within;
      some = old.some;
    }

pub returns-clause-only : goal.returns-clause-only
returns-clause-only c =
    let old = c.args.self.now in
    let told = length old.lying.items == 0 in
    let left = drop old.taken old.script.items in
    let now = noted_yes old.calls.items c.note.new.calls.items Sync c.note.result c.note.ensures c.if-not-note.false in
    subst (λ (cs : List Call). WritesNothing (outside_of old.start.items told old.calls.items left old.disk_faults old.read_faults old.write_faults) (outside_of old.start.items told cs left old.disk_faults old.read_faults old.write_faults)) (sym now)
    (sync_call old.start.items told old.calls.items left old.disk_faults old.read_faults old.write_faults).0

pub returns-clause-settles : goal.returns-clause-settles
returns-clause-settles c =
    let old = c.args.self.now in
    let told = length old.lying.items == 0 in
    let left = drop old.taken old.script.items in
    let now = noted_yes old.calls.items c.note.new.calls.items Sync c.note.result c.note.ensures c.if-not-note.false in
    subst (λ (cs : List Call). Settles (outside_of old.start.items told old.calls.items left old.disk_faults old.read_faults old.write_faults) (outside_of old.start.items told cs left old.disk_faults old.read_faults old.write_faults)) (sym now)
    (sync_call old.start.items told old.calls.items left old.disk_faults old.read_faults old.write_faults).1

pub returns-then-fails-clause-leaves : goal.returns-then-fails-clause-leaves
returns-then-fails-clause-leaves c =
    let old = c.args.self.now in
    leaves_passed old c.pass-noted.new.self c.disk_fault.new.self c.pass-noted.result Other (after_sync (state_of old))
    (inl (c.fails.ensures.0 c.if-fails.true)) refl c.pass-noted.ensures.run c.disk_fault.ensures.run

pub returns-clause-leaves : goal.returns-clause-leaves
returns-clause-leaves c =
    let old = c.args.self.now in
    leaves_done old _ Sync (after_sync (state_of old)) (state_of old) (isnt c.fails.result c.fails.ensures c.if-fails.false)
    (record { start = refl; plan = refl; calls = noted_yes old.calls.items c.note.new.calls.items Sync c.note.result c.note.ensures c.if-not-note.false }) refl
