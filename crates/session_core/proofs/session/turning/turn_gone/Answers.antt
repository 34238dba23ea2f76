use Rattle.session_core.proofs.TakingOut.{gained_sound, gained_went, as_few}
use Rattle.std.proofs.lemmas.Result.{IfErr-weaker}
use Rattle.session_core.proofs.UpdateDamage.{turning_told}
use Rattle.std.proofs.Common.{inr, refl, subst, sym}
use Rattle.ex_base.specs.declared.faults.PortFault.TheVariants.{Memory}
use Rattle.ex_base.proofs.Results.{if_err_handed}
use Rattle.volume_port.proofs.GivingUp.{none_given}
use Rattle.session_core.specs.Turning.{NonePaged}
use Rattle.session_core.proofs.session.turning.turn_gone.Goals as goal

pub returns-then-take_out-clause-went : goal.returns-then-take_out-clause-went
returns-then-take_out-clause-went g c =
    gained_went c.args.volume.now.pages c.args.volume.now.kept c.args.volume.now.geometry (g.D.World.outside c.args.disk.now) c.args.volume.now.groups c.args.volume.now.units c.release_root.new.units c.args.gained.now.items c.take_out.new.roots.items c.args.lost.now.items
    c.in-Some.root c.args.gone.now c.in-Some.is (c.take_out.ensures.there c.if-take_out.true) c.release_root.result c.release_root.ensures.released

pub returns-then-take_out-clause-sound : goal.returns-then-take_out-clause-sound
returns-then-take_out-clause-sound g c =
    gained_sound c.args.volume.now.pages c.args.volume.now.kept c.args.volume.now.geometry (g.D.World.outside c.args.disk.now) c.args.volume.now.groups c.args.volume.now.units c.release_root.new.units c.args.gained.now.items c.take_out.new.roots.items c.args.lost.now.items
    c.in-Some.root c.args.gone.now c.in-Some.is (c.take_out.ensures.there c.if-take_out.true) c.release_root.result c.release_root.ensures.sound

pub returns-then-take_out-clause-fault : goal.returns-then-take_out-clause-fault
returns-then-take_out-clause-fault g c = IfErr-weaker c.release_root.result _ _
    (turning_told c.args.volume.now.geometry (g.D.World.outside c.args.disk.now) c.args.volume.now.groups c.args.gained.now.items c.take_out.new.roots.items c.in-Some.root (c.take_out.ensures.there c.if-take_out.true)) c.release_root.ensures.fault

pub returns-in_err-add_here-clause-fault : goal.returns-in_err-add_here-clause-fault
returns-in_err-add_here-clause-fault g c = if_err_handed c.from_residual.result _ Memory c.from_residual.ensures.1 (λ damage. absurd damage)

pub returns-in_err-add_here-clause-sound : goal.returns-in_err-add_here-clause-sound
returns-in_err-add_here-clause-sound g c = if_err_handed c.from_residual.result _ Memory c.from_residual.ensures.1 (λ damage. absurd damage)

pub returns-in_ok-add_here-clause-gives : goal.returns-in_ok-add_here-clause-gives
returns-in_ok-add_here-clause-gives g c = none_given _ c.args.volume.now.geometry (g.D.World.outside c.args.disk.now) c.args.volume.now.units c.args.volume.now.groups

pub returns-in_default-clause-gives : goal.returns-in_default-clause-gives
returns-in_default-clause-gives g c = none_given _ c.args.volume.now.geometry (g.D.World.outside c.args.disk.now) c.args.volume.now.units c.args.volume.now.groups

pub returns-then-take_out-clause-few_gained : goal.returns-then-take_out-clause-few_gained
returns-then-take_out-clause-few_gained g c = (c.take_out.ensures.there c.if-take_out.true).fewer

pub returns-in_ok-add_here-clause-few_gained : goal.returns-in_ok-add_here-clause-few_gained
returns-in_ok-add_here-clause-few_gained g c = as_few c.args.gained.now.items c.take_out.new.roots.items (c.take_out.ensures.none c.if-take_out.false).0

pub returns-in_ok-add_here-clause-went : goal.returns-in_ok-add_here-clause-went
returns-in_ok-add_here-clause-went g c =
    let none = c.take_out.ensures.none c.if-take_out.false in
    inr (record { none = subst (NonePaged c.args.gained.now.items) (sym c.in-Some.is) none.1; units = refl; stays = none.0; lost_now = c.in_ok-add_here.ensures.added })
