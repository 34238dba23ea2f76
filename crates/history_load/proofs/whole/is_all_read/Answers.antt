use Rattle.std.proofs.Common.{sym, ◌∙◌}
use Rattle.history_fronts.specs.declared.turns.Turn.TheVariants.{End as NoTurn}
use Rattle.history_fronts.proofs.Said.{says_of}
use Rattle.history_items.specs.Heads.{stream_head}
use Rattle.history_reads.proofs.Wholes.{dump_at_end, empty_held, held_some}
use Rattle.history_load.proofs.StreamsRead.{all_read}
use Rattle.history_load.proofs.whole.is_all_read.Goals as goal

pub returns-then-not-is_empty-clause-none : goal.returns-then-not-is_empty-clause-none
returns-then-not-is_empty-clause-none c = λ e g joined is t dump.
    held_some c.args.held.now c.if-not-is_empty.ensures (dump_at_end g joined c.args.progress.now c.args.held.now t is dump).none

pub returns-in-End-clause-all : goal.returns-in-End-clause-all
returns-in-End-clause-all c = λ yes g joined is.
    all_read g joined c.args.progress.now c.args.held.now is (empty_held c.args.held.now c.if-not-is_empty.ensures) (sym c.in-End.ensures) (c.is_whole.ensures.whole yes g joined is)

pub returns-in-End-clause-ended : goal.returns-in-End-clause-ended
returns-in-End-clause-ended c = λ yes. let p = c.args.progress.now in (says_of (stream_head p.head) p.leaves p.nodes p.files p.missing NoTurn (sym c.in-End.ensures)).2

pub returns-in_default-clause-none : goal.returns-in_default-clause-none
returns-in_default-clause-none c = λ e g joined is t dump. absurd (c.in_default.not-End (c.turn.ensures ∙ (dump_at_end g joined c.args.progress.now c.args.held.now t is dump).turn))
