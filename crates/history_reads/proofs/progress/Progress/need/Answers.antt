use Rattle.std.proofs.Common.{◌≡◌, ℕ, ◌≤◌, length, Option, sym, ap, subst, ◌∙◌, arith}
use Rattle.std.specs.Prelude.{IfSome}
use Rattle.ex_base.specs.Bytes.{IsBytes}
use Rattle.history_items.specs.Gathering.{item_most}
use Rattle.history_fronts.specs.declared.turns.Turn.{Turn}
use Rattle.history_fronts.specs.Readings.{need_at}
use Rattle.history_fronts.proofs.TurnItems.{turn_needs}
use Rattle.history_reads.specs.Reads.{need_now, turn_now}
use Rattle.history_reads.proofs.progress.Progress.need.Goals as goal

pub returns-clause-few : goal.returns-clause-few
returns-clause-few c =
    let p = c.args.self.now in
    let bytes : IsBytes c.args.bytes.now = λ i. omega (arith, c.type_inv.bytes i) in
    let same : c.need.result ≡ need_now p c.args.bytes.now = c.need.ensures ∙ ap (λ (t : Turn). need_at p.geometry p.head.leaves p.nodes t c.args.bytes.now) c.turn.ensures in
    subst (λ (o : Option ℕ). IfSome o (λ (n : ℕ). n ≤ item_most p.geometry)) (sym same) (turn_needs p.geometry p.head.leaves p.nodes (turn_now p) c.args.bytes.now bytes).few

pub returns-clause-ahead : goal.returns-clause-ahead
returns-clause-ahead c =
    let p = c.args.self.now in
    let bytes : IsBytes c.args.bytes.now = λ i. omega (arith, c.type_inv.bytes i) in
    let same : c.need.result ≡ need_now p c.args.bytes.now = c.need.ensures ∙ ap (λ (t : Turn). need_at p.geometry p.head.leaves p.nodes t c.args.bytes.now) c.turn.ensures in
    subst (λ (o : Option ℕ). IfSome o (λ (n : ℕ). length c.args.bytes.now ≤ n)) (sym same) (turn_needs p.geometry p.head.leaves p.nodes (turn_now p) c.args.bytes.now bytes).ahead
