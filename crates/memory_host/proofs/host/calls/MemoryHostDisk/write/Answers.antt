use Rattle.std.proofs.Common.{◌≡◌, ◌≤◌, ◌∙◌, sym, ap, subst, ℕ, ◌+◌, List, length, refl, arith, rules, true, false}
use Rattle.std.proofs.lemmas.List.{with_items_is}
use Rattle.ex_base.specs.Bytes.{IsBytes, repl, repl_is_bytes, length-repl}
use Rattle.disk_model.specs.Runs.{disk_trans}
use Rattle.memory_host.specs.Stays.{reads_stays, tears_then_stays}
use Rattle.memory_host.specs.Replay.{State, after_write}
use Rattle.memory_host.specs.Host.{state_of}
use Rattle.memory_host.specs.declared.host.Call.TheVariants.{Write}
use Rattle.memory_host.proofs.Inside.{inside_push}
use Rattle.memory_host.proofs.Leaves.{leaves_done, leaves_undone, isnt}
use Rattle.memory_host.proofs.Writes.{write_noted, written_only, written_tears, written_state, written_wrote}
use Rattle.memory_host.proofs.host.calls.MemoryHostDisk.write.Goals as goal

pub invariant_of-self-then-not-done : goal.invariant_of-self-then-not-done
invariant_of-self-then-not-done c =
    let old = c.args.self.now in
    let copy = c.in-Ok.copy in
    let same = c.in-Ok.ensures.items_if_clones_equal (λ x y e. e) in
    let fits : c.args.at + length c.args.bytes.now ≤ length old.start.items = c.requires in
    let now = write_noted old.calls.items c.note.new.calls.items c.args.at copy c.fails-done.result c.note.result c.note.ensures c.if-not-note.false true c.if-not-done.true in
    let state = written_state old c.args.at c.args.bytes.now copy c.note.new.calls.items false same fits now in
    record {
      disk_is = old.disk_is ∙ sym (ap (λ (st : State). st.disk) state);
      sent_is = old.sent_is ∙ sym (ap (λ (st : State). st.sent) state);
      same_size = old.same_size;
      of_bytes = old.of_bytes;
      inside = inside_push (length old.start.items) old.calls.items c.note.new.calls.items (Write c.args.at copy false) now old.inside (omega (arith, fits, ap length same));
      within = old.within;
      some = old.some;
    }

pub returns-then-not-done-clause-only : goal.returns-then-not-done-clause-only
returns-then-not-done-clause-only c =
    let old = c.args.self.now in
    let same = c.in-Ok.ensures.items_if_clones_equal (λ x y e. e) in
    let now = write_noted old.calls.items c.note.new.calls.items c.args.at c.in-Ok.copy c.fails-done.result c.note.result c.note.ensures c.if-not-note.false true c.if-not-done.true in
    disk_trans (written_only old c.args.at c.args.bytes.now c.in-Ok.copy c.note.new.calls.items false same c.requires now)
    (reads_stays c.disk_fault-then-not-done.ensures.stays c.disk_fault-then-not-done.ensures.read_faults c.disk_fault-then-not-done.ensures.write_faults).nothing.only

pub returns-then-not-done-clause-tears : goal.returns-then-not-done-clause-tears
returns-then-not-done-clause-tears c honest =
    let old = c.args.self.now in
    let same = c.in-Ok.ensures.items_if_clones_equal (λ x y e. e) in
    let now = write_noted old.calls.items c.note.new.calls.items c.args.at c.in-Ok.copy c.fails-done.result c.note.result c.note.ensures c.if-not-note.false true c.if-not-done.true in
    tears_then_stays c.args.at (length c.args.bytes.now)
    (written_only old c.args.at c.args.bytes.now c.in-Ok.copy c.note.new.calls.items false same c.requires now)
    (written_tears old c.args.at c.args.bytes.now c.in-Ok.copy c.note.new.calls.items false same c.requires now honest)
    c.disk_fault-then-not-done.ensures.stays

pub returns-then-not-done-clause-leaves : goal.returns-then-not-done-clause-leaves
returns-then-not-done-clause-leaves c =
    let old = c.args.self.now in
    let same = c.in-Ok.ensures.items_if_clones_equal (λ x y e. e) in
    let now = write_noted old.calls.items c.note.new.calls.items c.args.at c.in-Ok.copy c.fails-done.result c.note.result c.note.ensures c.if-not-note.false true c.if-not-done.true in
    let run = c.disk_fault-then-not-done.ensures.run in
    leaves_undone old _ (Write c.args.at c.in-Ok.copy false) (after_write (state_of old) c.args.at c.args.bytes.now true) (after_write (state_of old) c.args.at c.args.bytes.now false)
    (c.fails-done.ensures.0 c.if-not-done.true) (record { start = run.start; plan = run.plan; calls = run.calls ∙ now })
    (ap (λ (l : List ℕ). after_write (state_of old) c.args.at l false) same)

pub invariant_of-self-2 : goal.invariant_of-self-2
invariant_of-self-2 c =
    let old = c.args.self.now in
    let copy = c.in-Ok.copy in
    let same = c.in-Ok.ensures.items_if_clones_equal (λ x y e. e) in
    let fits : c.args.at + length c.args.bytes.now ≤ length old.start.items = c.requires in
    let now = write_noted old.calls.items c.note.new.calls.items c.args.at copy c.fails-done.result c.note.result c.note.ensures c.if-not-note.false false c.if-not-done.false in
    let state = written_state old c.args.at c.args.bytes.now copy c.note.new.calls.items true same fits now in
    let room : c.args.at + length c.args.bytes.now ≤ length old.disk.items = omega (arith, fits, old.same_size) in
    let written = c.write_over.ensures ∙ ap (λ (l : List ℕ). repl l c.args.at c.args.bytes.now) c.deref_mut.ensures.value in
    let long : length c.write_over.new.disk ≡ old.disk.len =
    ap length written ∙ length-repl old.disk.items c.args.at c.args.bytes.now room ∙ sym (ap length c.deref_mut.ensures.value) ∙ c.deref_mut.ensures.len in
    let is = with_items_is old.disk c.write_over.new.disk long ∙ written in
    record {
      disk_is = is ∙ ap (λ (l : List ℕ). repl l c.args.at c.args.bytes.now) old.disk_is ∙ sym (ap (λ (st : State). st.disk) state);
      sent_is = old.sent_is ∙ sym (ap (λ (st : State). st.sent) state);
      same_size = ap length is ∙ length-repl old.disk.items c.args.at c.args.bytes.now room ∙ old.same_size;
      of_bytes = subst IsBytes (sym is) (repl_is_bytes old.disk.items c.args.at c.args.bytes.now room old.of_bytes (λ i. search rules));
      inside = inside_push (length old.start.items) old.calls.items c.note.new.calls.items (Write c.args.at copy true) now old.inside (omega (arith, fits, ap length same));
      within = old.within;
      some = old.some;
    }

pub returns-clause-only : goal.returns-clause-only
returns-clause-only c =
    let old = c.args.self.now in
    let same = c.in-Ok.ensures.items_if_clones_equal (λ x y e. e) in
    let now = write_noted old.calls.items c.note.new.calls.items c.args.at c.in-Ok.copy c.fails-done.result c.note.result c.note.ensures c.if-not-note.false false c.if-not-done.false in
    written_only old c.args.at c.args.bytes.now c.in-Ok.copy c.note.new.calls.items true same c.requires now

pub returns-clause-written : goal.returns-clause-written
returns-clause-written c =
    let old = c.args.self.now in
    let same = c.in-Ok.ensures.items_if_clones_equal (λ x y e. e) in
    let now = write_noted old.calls.items c.note.new.calls.items c.args.at c.in-Ok.copy c.fails-done.result c.note.result c.note.ensures c.if-not-note.false false c.if-not-done.false in
    written_wrote old c.args.at c.args.bytes.now c.in-Ok.copy c.note.new.calls.items same c.requires now

pub returns-clause-tears : goal.returns-clause-tears
returns-clause-tears c honest =
    let old = c.args.self.now in
    let same = c.in-Ok.ensures.items_if_clones_equal (λ x y e. e) in
    let now = write_noted old.calls.items c.note.new.calls.items c.args.at c.in-Ok.copy c.fails-done.result c.note.result c.note.ensures c.if-not-note.false false c.if-not-done.false in
    written_tears old c.args.at c.args.bytes.now c.in-Ok.copy c.note.new.calls.items true same c.requires now honest

pub returns-clause-leaves : goal.returns-clause-leaves
returns-clause-leaves c =
    let old = c.args.self.now in
    let same = c.in-Ok.ensures.items_if_clones_equal (λ x y e. e) in
    let now = write_noted old.calls.items c.note.new.calls.items c.args.at c.in-Ok.copy c.fails-done.result c.note.result c.note.ensures c.if-not-note.false false c.if-not-done.false in
    leaves_done old _ (Write c.args.at c.in-Ok.copy true) (after_write (state_of old) c.args.at c.args.bytes.now true) (after_write (state_of old) c.args.at c.args.bytes.now false)
    (isnt c.fails-done.result c.fails-done.ensures c.if-not-done.false) (record { start = refl; plan = refl; calls = now })
    (ap (λ (l : List ℕ). after_write (state_of old) c.args.at l true) same)
