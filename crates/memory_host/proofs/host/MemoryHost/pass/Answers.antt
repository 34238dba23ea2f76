use Rattle.std.proofs.Common.{arith, ◌∙◌, sym, ap, length, drop, ◌==◌}
use Rattle.memory_host.specs.Replay.{State}
use Rattle.memory_host.specs.ReplayLaws.{replayed_noted, stays_noted}
use Rattle.memory_host.specs.declared.host.Call.TheVariants.{Other}
use Rattle.memory_host.proofs.Inside.{inside_noted}
use Rattle.memory_host.proofs.host.MemoryHost.pass.Goals as goal

pub invariant_of-self : goal.invariant_of-self
invariant_of-self c =
    let old = c.args.self.now in
    let same = replayed_noted old.start.items old.calls.items c.note.new.calls.items c.note.result c.note.ensures in
    record {
      disk_is = old.disk_is ∙ ap (λ (st : State). st.disk) (sym same);
      sent_is = old.sent_is ∙ ap (λ (st : State). st.sent) (sym same);
      same_size = old.same_size;
      of_bytes = old.of_bytes;
      inside = inside_noted (length old.start.items) old.calls.items c.note.new.calls.items Other c.note.result c.note.ensures old.inside (omega arith);
      within = old.within;
      some = old.some;
    }

pub returns-clause-stays : goal.returns-clause-stays
returns-clause-stays c =
    let old = c.args.self.now in
    stays_noted old.start.items (length old.lying.items == 0) old.calls.items c.note.new.calls.items (drop old.taken old.script.items) old.disk_faults old.read_faults old.write_faults c.note.result c.note.ensures
