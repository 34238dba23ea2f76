use Rattle.std.proofs.Common.{Option, subst, sym}
use Rattle.std.specs.Prelude.{IfErr, OnOk}
use Rattle.ex_base.specs.declared.names.Root.{Root}
use Rattle.volume_model.specs.Held.{root_here}
use Rattle.volume_port.specs.GivingUp.{IsGivingFault, ReleasesRoots, OwnRoots}
use Rattle.ex_base.specs.Ports.{IsDamage}
use Rattle.volume_port.proofs.GivingUp.{none_given}
use Rattle.session_core.proofs.session.turning.release_here.Goals as goal

pub returns-in-Some-clause-released : goal.returns-in-Some-clause-released
returns-in-Some-clause-released g c =
    subst (λ (root : Option Root). OnOk c.release_root.result (ReleasesRoots c.args.pages.now c.args.kept.now c.args.geometry.now (g.D.World.outside c.args.disk.now) c.args.groups.now c.args.units.now c.release_root.new.units (root_here root)))
    (sym c.in-Some.is) c.release_root.ensures.released

pub returns-in-Some-clause-fault : goal.returns-in-Some-clause-fault
returns-in-Some-clause-fault g c =
    subst (λ (root : Option Root). IfErr c.release_root.result (IsGivingFault c.args.geometry.now (g.D.World.outside c.args.disk.now) c.args.groups.now (root_here root)))
    (sym c.in-Some.is) c.release_root.ensures.fault

pub returns-in-None-clause-gives : goal.returns-in-None-clause-gives
returns-in-None-clause-gives g c = none_given _ c.args.geometry.now (g.D.World.outside c.args.disk.now) c.args.units.now c.args.groups.now

pub returns-in-Some-clause-sound : goal.returns-in-Some-clause-sound
returns-in-Some-clause-sound g c =
    subst (λ (root : Option Root). IfErr c.release_root.result (λ fault. IsDamage fault → OwnRoots c.args.pages.now c.args.kept.now c.args.geometry.now (g.D.World.outside c.args.disk.now) c.args.groups.now c.args.units.now (root_here root) → ⊥))
    (sym c.in-Some.is) c.release_root.ensures.sound
