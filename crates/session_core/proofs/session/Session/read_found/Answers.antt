use Rattle.std.proofs.Common.{◌∙◌, ◌+◌, sym, Option, subst}
use Rattle.std.proofs.lemmas.Result.{IfErr-weaker, on_ok_weaker}
use Rattle.std.specs.Prelude.{IfErr, IfSome, OnOk, length}
use Rattle.ex_base.specs.declared.names.Root.{Root}
use Rattle.session_core.specs.Damage.{TellsOfFound, units_on}
use Rattle.volume_port.specs.Reading.{TellsBytes}
use Rattle.versions.specs.Damage.{HasSoundWay}
use Rattle.versions.proofs.Results.{ok_of}
use Rattle.session_core.proofs.session.Session.read_found.Goals as goal

pub returns-in-Some-clause-bytes : goal.returns-in-Some-clause-bytes
returns-in-Some-clause-bytes g c = on_ok_weaker c.read_tree.result (λ told before same now version live root. told before same now c.args.version.now.oid version live (sym root ∙ c.in-Some.is) version live) c.read_tree.ensures.bytes

pub returns-in-Some-clause-sound : goal.returns-in-Some-clause-sound
returns-in-Some-clause-sound g c =
    IfErr-weaker c.read_tree.result _ _ (λ why told before same now version live root inside. told before same now c.args.version.now.oid version live (sym root ∙ c.in-Some.is)) c.read_tree.ensures.sound

pub returns-in-None-clause-bytes : goal.returns-in-None-clause-bytes
returns-in-None-clause-bytes g c = c.read_record.ensures.bytes

pub returns-in-None-clause-sound : goal.returns-in-None-clause-sound
returns-in-None-clause-sound g c = c.read_record.ensures.sound

pub returns-in-Some-clause-damage : goal.returns-in-Some-clause-damage
returns-in-Some-clause-damage g c =
    subst (λ (root : Option Root). IfErr c.read_tree.result (TellsOfFound (g.D.World.outside c.args.disk.now) (g.D.World.outside c.read_tree.new.disk) c.args.self.now c.args.version.now.oid (c.args.pos + length c.args.out.now) root)) (sym c.in-Some.is) c.read_tree.ensures.damage

pub returns-in-None-clause-damage : goal.returns-in-None-clause-damage
returns-in-None-clause-damage g c =
    subst (λ (root : Option Root). IfErr c.read_record.result (TellsOfFound (g.D.World.outside c.args.disk.now) (g.D.World.outside c.read_record.new.disk) c.args.self.now c.args.version.now.oid (c.args.pos + length c.args.out.now) root)) (sym c.in-None.is) c.read_record.ensures.damage

pub returns-in-Some-clause-way : goal.returns-in-Some-clause-way
returns-in-Some-clause-way g c =
    subst (λ (root : Option Root). OnOk c.read_tree.result (TellsBytes (g.D.World.outside c.args.disk.now) c.args.self.now.groups → IfSome root (HasSoundWay c.args.self.now.geometry (units_on (g.D.World.outside c.args.disk.now) c.args.self.now) c.args.pos (length c.args.out.now)))) (sym c.in-Some.is) c.read_tree.ensures.way

pub returns-in-None-clause-way : goal.returns-in-None-clause-way
returns-in-None-clause-way g c = ok_of c.read_record.result _ (λ tells.
    subst (λ (root : Option Root). IfSome root (HasSoundWay c.args.self.now.geometry (units_on (g.D.World.outside c.args.disk.now) c.args.self.now) c.args.pos (length c.args.out.now))) (sym c.in-None.is) tt)
