use Rattle.session_views.specs.declared.stop.Stop.TheVariants as stop
use Rattle.session_core.proofs.Quiet.{nothing_changed}
use Rattle.transactions.proofs.LaterSessions.{scans_stop}
use Rattle.std.proofs.Common.{◌∙◌, List, ℕ, Ok, subst, sym}
use Rattle.table_model.specs.Requests as request
use Rattle.table_model.specs.declared.reply.Reply.TheVariants as reply
use Rattle.transactions.specs.Lines.{ScansLine}
use Rattle.transactions.proofs.Closed.{close_done, close_refused}
use Rattle.transactions.proofs.scan_lines.close.Goals as goal

pub returns-in_default-clause-line : goal.returns-in_default-clause-line
returns-in_default-clause-line g c = close_refused c.args.name.now c.scan_index.ensures.session (sym c.scan_index.ensures.value ∙ c.in_default.is)

pub returns-in-Ok-close_scan-clause-line : goal.returns-in-Ok-close_scan-clause-line
returns-in-Ok-close_scan-clause-line g c =
    subst (λ (name : List ℕ). ScansLine (g.H.World.outside c.args.host.now) (g.H.World.outside c.close_scan.new.host) c.args.session.now c.close_scan.new.self (request.Close c.args.name.now) (Ok (reply.Close name))) (sym c.in-Ok.ensures)
    (close_done c.args.name.now c.in-Some.index c.requires.form c.scan_index.ensures.session (sym c.scan_index.ensures.value ∙ c.in-Some.is) c.close_scan.ensures.only c.close_scan.ensures.gives c.in-Ok-close_scan.ensures.closed c.in-Ok-close_scan.ensures.shown)

pub returns-in_default-of_bytes-clause-line : goal.returns-in_default-of_bytes-clause-line
returns-in_default-of_bytes-clause-line g c = scans_stop (nothing_changed _ _) _ stop.Memory tt (λ before same now. tt)
