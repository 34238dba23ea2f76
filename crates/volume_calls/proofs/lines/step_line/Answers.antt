use Rattle.std.proofs.Common.{◌≡◌, ◌∙◌, Ok, None, Option, Some, ap, refl, sym, subst}
use Rattle.disk_model.specs.Outside.{Leaves}
use Rattle.table_model.specs.declared.command.Command.{Command}
use Rattle.script_lang.specs.Parsed.{reading_of}
use Rattle.script_lang.specs.Reading.{Reading}
use Rattle.volume_calls.specs.Lines.{Answered, MayLeave, WasDone}
use Rattle.volume_calls.proofs.Answering.{asks_answered, fails_answered}
use Rattle.volume_calls.proofs.lines.step_line.Goals as goal

pub returns-in-Ok-None-clause-answered : goal.returns-in-Ok-None-clause-answered
returns-in-Ok-None-clause-answered g c before reading same shows reads =
    let e : c.in-Ok-None.field-0 ≡ None = cc (c.in-Ok-None.field-0-is) in
    let silent = c.in-Ok-None.ensures.one reading reads ∙ ap (λ (o : Option Command). reading_of (Ok o)) e in
    subst (λ (x : Reading). Answered g.E.Engine.meaning before x None c.clear.new.self.items c.args.session.now (g.H.World.outside c.args.host.now)) (sym silent)
    (refl, c.clear.ensures.items, sym same, shows)

pub returns-in-Ok-clause-answered : goal.returns-in-Ok-clause-answered
returns-in-Ok-clause-answered g c before reading same shows reads =
    let e : c.in-Ok-Some.field-0 ≡ Some c.in-Ok-Some.command = cc (c.in-Ok-Some.field-0-is) in
    let asks = c.in-Ok-Some.ensures.one reading reads ∙ ap (λ (o : Option Command). reading_of (Ok o)) e in
    asks_answered c.tell.result _ asks c.tell.ensures.why c.tell.ensures.text (c.in-Ok.ensures.stepped before same shows)

pub returns-in-Ok-clause-any_moment : goal.returns-in-Ok-clause-any_moment
returns-in-Ok-clause-any_moment g c before reading same shows reads =
    let e : c.in-Ok-Some.field-0 ≡ Some c.in-Ok-Some.command = cc (c.in-Ok-Some.field-0-is) in
    let asks = c.in-Ok-Some.ensures.one reading reads ∙ ap (λ (o : Option Command). reading_of (Ok o)) e in
    subst (λ (x : Reading). Leaves (g.H.World.outside c.args.host.now) (g.H.World.outside c.step.new.host) (MayLeave g.E.Engine.meaning before.machine x)) (sym asks)
    (c.step.ensures.any_moment before same shows)

pub returns-in-Err-clause-answered : goal.returns-in-Err-clause-answered
returns-in-Err-clause-answered g c before reading same shows reads =
    fails_answered c.tell-in-Err.result _ (c.in-Err.ensures.one reading reads) c.tell-in-Err.ensures.why c.tell-in-Err.ensures.text (sym same) shows

pub returns-in-Ok-clause-untold : goal.returns-in-Ok-clause-untold
returns-in-Ok-clause-untold g c before reading same shows reads is =
    let e : c.in-Ok-Some.field-0 ≡ Some c.in-Ok-Some.command = cc (c.in-Ok-Some.field-0-is) in
    let asks = c.in-Ok-Some.ensures.one reading reads ∙ ap (λ (o : Option Command). reading_of (Ok o)) e in
    subst (λ (x : Reading). WasDone g.E.Engine.meaning before x c.step.new.self (g.H.World.outside c.step.new.host)) (sym asks) (_, c.in-Ok.ensures.stepped before same shows)

pub returns-in-Err-clause-untold : goal.returns-in-Err-clause-untold
returns-in-Err-clause-untold g c before reading same shows reads is =
    subst (λ (x : Reading). WasDone g.E.Engine.meaning before x c.args.session.now (g.H.World.outside c.args.host.now)) (sym (c.in-Err.ensures.one reading reads)) (sym same, shows)

pub returns-in-Ok-clause-told : goal.returns-in-Ok-clause-told
returns-in-Ok-clause-told g c other = c.in-Ok.ensures.told (λ is. cc)
