use Rattle.std.proofs.Common.{None, refl, inl, ◌≡◌}
use Rattle.volume_edits.specs.TableUpdates.{Drops}
use Rattle.session_core.proofs.Removed.{drop_failed, version_dropped}
use Rattle.session_core.proofs.Followed.{still_updated, still_done, still_touches, version_few}
use Rattle.versions.proofs.Results.{ok_of}
use Rattle.volume_edits.proofs.UnitsTaken.{nothing_taken}
use Rattle.session_core.specs.Damage.{IsFaultIn, version_for}
use Rattle.volume_edits.specs.Purposes.{ToDrop}
use Rattle.std.proofs.lemmas.Result.{IfErr-weaker}
use Rattle.volume_edits.specs.Damage.{as_it_is, ports_own}
use Rattle.volume_edits.proofs.Damage.{told_drop}
use Rattle.ex_base.proofs.Handed.{cause_of}
use Rattle.session_core.specs.declared.updates.Done.{Done}
use Rattle.version_tree.specs.Touches.{version_touches}
use Rattle.session_core.proofs.updates.removing.drop_frozen.Goals as goal

pub returns-in-Ok-clause-updates : goal.returns-in-Ok-clause-updates
returns-in-Ok-clause-updates g c =
    still_updated g.V.Ground c.args.volume.now c.drop_version.new.volume c.look_at.new.volume c.look_at.ensures.kept (Drops c.args.oid.now) (record { oid = c.args.oid.now; gone = c.in-Ok.gone; come = None }) c.look_at.result
    (version_dropped g.V.Ground c.args.volume.now c.drop_version.new.volume c.args.oid.now c.in-Ok.gone c.drop_version.ensures.leads c.in-Ok.ensures.gives c.in-Ok.ensures.gone c.in-Ok.ensures.dropped)
    c.look_at.ensures.same c.look_at.ensures.no_damage

pub returns-in-Err-clause-updates : goal.returns-in-Err-clause-updates
returns-in-Err-clause-updates g c = drop_failed g.V.Ground c.args.volume.now c.drop_version.new.volume c.args.oid.now c.in-Err.fault c.in-Err.ensures.sound

pub returns-in-Ok-clause-rooms : goal.returns-in-Ok-clause-rooms
returns-in-Ok-clause-rooms g c = inl c.look_at.ensures.rooms

pub returns-in-Ok-clause-takes : goal.returns-in-Ok-clause-takes
returns-in-Ok-clause-takes g c = ok_of c.look_at.result _
    (nothing_taken g.V.Ground c.args.volume.now c.drop_version.new.volume c.look_at.new.volume c.in-Ok.ensures.pages c.in-Ok.ensures.leaves c.look_at.ensures.kept.free)

pub returns-in-Ok-clause-fault : goal.returns-in-Ok-clause-fault
returns-in-Ok-clause-fault g c = IfErr-weaker c.look_at.result _ (IsFaultIn g.V.Ground c.args.volume.now (version_for c.args.oid.now ToDrop)) (λ fault never told. as_it_is (ports_own never)) c.look_at.ensures.no_damage

pub returns-in-Err-clause-fault : goal.returns-in-Err-clause-fault
returns-in-Err-clause-fault g c = λ told. as_it_is (told_drop _ _ (version_for c.args.oid.now ToDrop) c.drop_version.new.volume c.args.oid.now c.in-Err.fault (refl, refl) (c.in-Err.ensures.fault told))

pub look_at-requires : goal.look_at-requires
look_at-requires g c = g.V.Ground.leads_ready c.args.volume.now c.drop_version.new.volume c.drop_version.ensures.leads c.requires

pub returns-in-Ok-clause-touches : goal.returns-in-Ok-clause-touches
returns-in-Ok-clause-touches g c = still_touches g.V.Ground c.args.volume.now c.drop_version.new.volume c.look_at.new.volume version_touches 16 c.look_at.result c.look_at.ensures.kept.touched version_few c.in-Ok.ensures.touches

pub returns-in-Ok-clause-leads : goal.returns-in-Ok-clause-leads
returns-in-Ok-clause-leads g c = g.V.Ground.leads_trans c.args.volume.now c.drop_version.new.volume c.look_at.new.volume c.drop_version.ensures.leads c.look_at.ensures.kept.leads

pub returns-in-Ok-clause-cause : goal.returns-in-Ok-clause-cause
returns-in-Ok-clause-cause g c = cause_of g.V.Ground c.args.volume.now c.drop_version.new.volume c.drop_version.ensures.leads c.look_at.new.volume c.look_at.result c.look_at.ensures.cause

pub returns-in-Ok-clause-named : goal.returns-in-Ok-clause-named
returns-in-Ok-clause-named g c = still_done c.look_at.result _ (λ (done : Done). done.oid ≡ c.args.oid.now) refl c.look_at.ensures.same

pub returns-in-Err-clause-rooms : goal.returns-in-Err-clause-rooms
returns-in-Err-clause-rooms g c = inl refl
