use Rattle.std.proofs.Common.{◌≡◌, ◌∙◌, sym, ap, subst, rules, arith, length, ◌≤◌, []}
use Rattle.std.proofs.lemmas.List.Elements.{All-same, All-nil}
use Rattle.memory_host.specs.Replay.{State, fresh, end_of}
use Rattle.ex_base.specs.Bytes.{IsBytes}
use Rattle.memory_host.specs.ReplayLaws.{replayed_none, rests_fresh}
use Rattle.memory_host.proofs.host.MemoryHost.make.Goals as goal

pub invariant_of-result : goal.invariant_of-result
invariant_of-result c =
    let one : c.in_ok-to_vec.field-0.items ≡ c.args.image.now = search rules in
    let two : c.in_ok-to_vec-2.field-0.items ≡ c.args.image.now = search rules in
    let none = replayed_none c.in_ok-to_vec.field-0.items c.new-2.result.items c.new-2.ensures.items in
    record {
      disk_is = two ∙ sym one ∙ sym (ap (λ (st : State). st.disk) none);
      sent_is = c.new.ensures.items ∙ sym (ap (λ (st : State). st.sent) none);
      same_size = ap length (two ∙ sym one);
      of_bytes = subst IsBytes (sym two) (λ i. search rules);
      inside = All-same (λ call. end_of call ≤ length c.in_ok-to_vec.field-0.items) c.new-2.result.items [] c.new-2.ensures.items (All-nil (λ call. end_of call ≤ length c.in_ok-to_vec.field-0.items));
      within = omega arith;
      some = c.requires;
    }

pub returns-clause-disk : goal.returns-clause-disk
returns-clause-disk c truthful =
    let one : c.in_ok-to_vec.field-0.items ≡ c.args.image.now = search rules in
    let five : c.in_ok-to_vec-5.field-0.items ≡ c.args.lying.now = search rules in
    rests_fresh c.in_ok-to_vec.field-0.items c.args.image.now c.new-2.result.items c.in_ok-to_vec-5.field-0.items _ 0 0 0 c.new-2.ensures.items (five ∙ truthful) one

pub returns-clause-state : goal.returns-clause-state
returns-clause-state c =
    let one : c.in_ok-to_vec.field-0.items ≡ c.args.image.now = search rules in
    replayed_none c.in_ok-to_vec.field-0.items c.new-2.result.items c.new-2.ensures.items ∙ ap fresh one
