use Rattle.std.proofs.Common.{refl, ap, ℕ, inl, take, ◌≡◌, ◌∙◌, sym, subst, List, drop, length, ◌==◌, arith, Some, ◌⊎◌}
use Rattle.disk_model.specs.Outside.{SinkOnly, Adds}
use Rattle.memory_host.specs.Stays.{Stays}
use Rattle.memory_host.specs.Stays.{stays_trans, sink_stays, put_stays}
use Rattle.memory_host.specs.Replay.{outside_of, replayed, IsImage}
use Rattle.memory_host.specs.ReplayLaws.{put_noted, put_call, put_adds, stays_counted}
use Rattle.memory_host.specs.declared.host.Call.{Call}
use Rattle.memory_host.proofs.Inside.{inside_put}
use Rattle.memory_host.specs.Host.{state_of}
use Rattle.memory_host.specs.Replay.{after_put}
use Rattle.memory_host.specs.declared.host.Call.TheVariants.{Put, Other}
use Rattle.memory_host.proofs.Leaves.{leaves_passed, leaves_done, isnt}
use Rattle.memory_host.proofs.Leaves.{take_min}
use Rattle.memory_host.proofs.host.calls.MemoryHostSink.put.Goals as goal

pub returns-then-fails-clause-only : goal.returns-then-fails-clause-only
returns-then-fails-clause-only c =
    sink_stays (stays_trans c.pass-noted.ensures.stays c.write_fault.ensures.stays)
    (c.write_fault.ensures.disk_faults ∙ c.pass-noted.ensures.disk_faults) (c.write_fault.ensures.read_faults ∙ c.pass-noted.ensures.read_faults)

pub returns-then-fails-clause-adds : goal.returns-then-fails-clause-adds
returns-then-fails-clause-adds c = put_stays (stays_trans c.pass-noted.ensures.stays c.write_fault.ensures.stays)

pub invariant_of-self : goal.invariant_of-self
invariant_of-self c =
    let old = c.args.self.now in
    let same = put_noted old.start.items old.calls.items c.send.new.calls.items old.sent.items c.send.new.sent.items _ c.send.result old.sent_is c.send.ensures.done c.send.ensures.calls c.send.ensures.sent in
    record {
      disk_is = old.disk_is ∙ sym same.0;
      sent_is = same.1;
      same_size = old.same_size;
      of_bytes = old.of_bytes;
      inside = inside_put (length old.start.items) old.calls.items c.send.new.calls.items _ c.send.result _ c.send.ensures.done c.send.ensures.calls old.inside;
      within = old.within;
      some = old.some;
    }

pub returns-then-not-send-clause-only : goal.returns-then-not-send-clause-only
returns-then-not-send-clause-only c =
    let old = c.args.self.now in
    let told = length old.lying.items == 0 in
    let left = drop old.taken old.script.items in
    let same = c.send.ensures.calls c.if-not-send.true in
    let mid = subst (λ (cs : List Call). Stays (outside_of old.start.items told old.calls.items left old.disk_faults old.read_faults old.write_faults) (outside_of old.start.items told cs left old.disk_faults old.read_faults old.write_faults)) (sym same)
    (stays_counted old.start.items told old.calls.items left old.disk_faults old.disk_faults old.read_faults old.read_faults old.write_faults old.write_faults (omega arith) (omega arith) (omega arith)) in
    sink_stays (stays_trans mid c.write_fault-then-not-send.ensures.stays) c.write_fault-then-not-send.ensures.disk_faults c.write_fault-then-not-send.ensures.read_faults

pub returns-clause-only : goal.returns-clause-only
returns-clause-only c =
    let old = c.args.self.now in
    let told = length old.lying.items == 0 in
    let left = drop old.taken old.script.items in
    let put = c.send.ensures.done c.if-not-send.false in
    subst (λ (cs : List Call). SinkOnly (outside_of old.start.items told old.calls.items left old.disk_faults old.read_faults old.write_faults) (outside_of old.start.items told cs left old.disk_faults old.read_faults old.write_faults)) (sym put.2)
    (put_call old.start.items told old.calls.items put.0 left old.disk_faults old.read_faults old.write_faults)

pub returns-clause-adds : goal.returns-clause-adds
returns-clause-adds c =
    let old = c.args.self.now in
    let told = length old.lying.items == 0 in
    let left = drop old.taken old.script.items in
    let put = c.send.ensures.done c.if-not-send.false in
    subst (λ (cs : List Call). Adds (outside_of old.start.items told old.calls.items left old.disk_faults old.read_faults old.write_faults) (outside_of old.start.items told cs left old.disk_faults old.read_faults old.write_faults)
    (λ s d. IsImage (replayed old.start.items old.calls.items) d × ((Some (replayed old.start.items old.calls.items).sent ≡ Some s) ⊎ (Some (replayed old.start.items cs).sent ≡ Some s)))) (sym put.2)
    (put_adds old.start.items told old.calls.items put.0 left old.disk_faults old.read_faults old.write_faults)

pub returns-then-fails-clause-leaves : goal.returns-then-fails-clause-leaves
returns-then-fails-clause-leaves c =
    let old = c.args.self.now in
    leaves_passed old c.pass-noted.new.self c.write_fault.new.self c.pass-noted.result Other (after_put (state_of old) (take old.piece c.args.bytes.now))
    (inl (c.fails.ensures.0 c.if-fails.true)) refl c.pass-noted.ensures.run c.write_fault.ensures.run

pub returns-clause-leaves : goal.returns-clause-leaves
returns-clause-leaves c =
    let old = c.args.self.now in
    let put = c.send.ensures.done c.if-not-send.false in
    let bytes : put.0.items ≡ take old.piece c.args.bytes.now = put.1 ∙ ap (λ (n : ℕ). take n c.args.bytes.now) c.min-n.ensures ∙ take_min old.piece c.args.bytes.now in
    leaves_done old _ (Put put.0) (after_put (state_of old) (take old.piece c.args.bytes.now)) (state_of old) (isnt c.fails.result c.fails.ensures c.if-fails.false)
    (record { start = refl; plan = refl; calls = put.2 }) (ap (after_put (state_of old)) bytes)
