use Rattle.std.proofs.Common.{◌+◌, List, ℕ, drop, subst, ap}
use Rattle.std.proofs.lemmas.List.{take_rest}
use Rattle.op_log.specs.Decoding.{BeginsEntry, NoEntry}
use Rattle.op_log.proofs.EntryLists.{none_behind, one_entry_more}
use Rattle.op_log.proofs.entries.read_entries.Goals as goal

pub returns-in_default : goal.returns-in_default
returns-in_default c =
    let b = c.args.bytes.now in
    let size = c.args.geometry.now.page_size in
    let none : NoEntry size c.args.kind (drop c.loop-i.at b) = subst (NoEntry size c.args.kind) (take_rest b c.loop-i.at) (rw c.in_default.is at c.in_ok-entry.ensures) in
    none_behind size c.args.kind b c.args.start c.loop-i.i c.args.count c.loop-i.at c.loop-i.entries c.loop-i.invariant c.loop-i-test.true none

pub loop-i-preserved : goal.loop-i-preserved
loop-i-preserved c =
    let b = c.args.bytes.now in
    let size = c.args.geometry.now.page_size in
    let here : BeginsEntry size c.args.kind (drop c.loop-i.at b) c.in-Some.entry =
    subst (λ (l : List ℕ). BeginsEntry size c.args.kind l c.in-Some.entry) (take_rest b c.loop-i.at) (rw c.in-Some.is at c.in_ok-entry.ensures) in
    one_entry_more size c.args.kind b c.args.start c.loop-i.i c.loop-i.at _ c.loop-i.entries c.push.new.self c.in-Some.entry c.loop-i.invariant here (ap (λ (n : ℕ). c.loop-i.at + n) c.entry_len-at.ensures)
    c.in_ok-push.ensures.ok
