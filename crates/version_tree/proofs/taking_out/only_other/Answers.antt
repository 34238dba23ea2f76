use Rattle.std.proofs.Common.{List, ap, ◌∙◌}
use Rattle.std.specs.Prelude.{filter}
use Rattle.ex_base.specs.declared.names.Oid.{Oid}
use Rattle.file_bodies.specs.Bodies.{bodies_of}
use Rattle.version_tree.specs.Removals.{leads_elsewhere, only_lead}
use Rattle.version_tree.proofs.TakenOut.{only_same}
use Rattle.version_tree.proofs.taking_out.only_other.Goals as goal

pub returns-in-Ok-clause-other : goal.returns-in-Ok-clause-other
returns-in-Ok-clause-other g c = λ told index body has.
    c.only_lead.ensures ∙ ap (λ (t : List Oid). only_lead (filter (leads_elsewhere c.args.gone) t)) (c.in-Ok.ensures.oids told index body has)
    ∙ only_same c.args.gone c.args.from (bodies_of (g.V.Ground.image c.args.volume.now) index)

pub returns-in-Ok-clause-sound : goal.returns-in-Ok-clause-sound
returns-in-Ok-clause-sound g c = tt

pub returns-in-Ok-clause-fault : goal.returns-in-Ok-clause-fault
returns-in-Ok-clause-fault g c = tt

pub returns-in-Ok-clause-kept : goal.returns-in-Ok-clause-kept
returns-in-Ok-clause-kept g c = c.list_from.ensures.kept

pub returns-in-Ok-clause-cause : goal.returns-in-Ok-clause-cause
returns-in-Ok-clause-cause g c = tt

pub returns-in-Err-clause-other : goal.returns-in-Err-clause-other
returns-in-Err-clause-other g c = tt

pub returns-in-Err-clause-walk : goal.returns-in-Err-clause-walk
returns-in-Err-clause-walk g c = tt

pub returns-in-Err-clause-kept : goal.returns-in-Err-clause-kept
returns-in-Err-clause-kept g c = c.list_from.ensures.kept

pub returns-in-Err-clause-cause : goal.returns-in-Err-clause-cause
returns-in-Err-clause-cause g c = c.in-Err.ensures.cause

pub list_from-requires : goal.list_from-requires
list_from-requires g c = c.requires

pub returns-in-Err-clause-sound : goal.returns-in-Err-clause-sound
returns-in-Err-clause-sound g c = c.in-Err.ensures.sound

pub returns-in-Err-clause-fault : goal.returns-in-Err-clause-fault
returns-in-Err-clause-fault g c = c.in-Err.ensures.fault

pub returns-in-Ok-clause-walk : goal.returns-in-Ok-clause-walk
returns-in-Ok-clause-walk g c = c.in-Ok.ensures.walk
