use Rattle.std.proofs.Common.{◌≡◌, ℕ, List, subst, sym, ap, ◌∙◌}
use Rattle.ex_base.specs.declared.geometry.Geometry.{Geometry}
use Rattle.ex_base.specs.declared.names.Place.{Place}
use Rattle.ex_base.proofs.Options.{at_none, at_some}
use Rattle.ex_base.proofs.Results.{if_err_handed}
use Rattle.object_records.specs.Record.{BodyOf}
use Rattle.file_bodies.specs.Files.{HasBody}
use Rattle.versions.specs.Found.{HasLimits}
use Rattle.versions.specs.Damage.{IsBodyFault, StandsOn, at_place, record_fault}
use Rattle.version_tree.specs.Links.{IsReadOn, IsStored, by_look, no_version}
use Rattle.version_tree.proofs.ReadPlaces.{stored_reading}
use Rattle.ex_base.proofs.Handed.{no_value, not_given, cause_here}
use Rattle.version_tree.proofs.links.stored_version.Goals as goal

pub returns-in_err-stored-clause-sound : goal.returns-in_err-stored-clause-sound
returns-in_err-stored-clause-sound g c = if_err_handed c.from_residual.result _ _ c.from_residual.ensures.1 (λ damage told index is has limits.
    c.in_err-stored.ensures.sound damage told index has.body is (subst (λ (p : Place). HasBody g.V.Ground c.args.volume.now index p has.body) (sym c.place_of-place.ensures) has.stands) has.spelled)

pub returns-in_err-stored-clause-fault : goal.returns-in_err-stored-clause-fault
returns-in_err-stored-clause-fault g c = if_err_handed c.from_residual.result _ _ c.from_residual.ensures.1 (λ told.
    stored_reading g.V.Ground c.args.volume.now c.place_of-place.result c.args.oid.now c.in_err-stored.field-0.0 c.place_of-place.ensures (c.in_err-stored.ensures.fault told))

pub returns-in_err-told-clause-sound : goal.returns-in_err-told-clause-sound
returns-in_err-told-clause-sound g c = if_err_handed c.from_residual-in_err-told.result _ _ c.from_residual-in_err-told.ensures.1 (λ damage told index is has limits.
    let at = c.in_ok-stored.ensures.stored told index has.body (subst (λ (p : Place). HasBody g.V.Ground c.args.volume.now index p has.body) (sym c.place_of-place.ensures) has.stands) in
    let geo : c.geometry-geometry.result ≡ g.V.Ground.geometry c.args.volume.now = c.geometry-geometry.ensures ∙ g.V.Ground.leads_geometry c.args.volume.now c.stored_at.new.volume c.stored_at.ensures.kept.leads in
    c.in_err-told.ensures.sound (record {
      is = is;
      spelled = subst (λ (b : List ℕ). BodyOf b is) (sym (c.deref.ensures.value ∙ at.bytes)) has.spelled;
      limits = subst (λ (y : Geometry). HasLimits y is.content) (sym geo) limits;
    }))

pub returns-in_err-told-clause-fault : goal.returns-in_err-told-clause-fault
returns-in_err-told-clause-fault g c = if_err_handed c.from_residual-in_err-told.result _ _ c.from_residual-in_err-told.ensures.1 (λ told.
    let geo : c.geometry-geometry.result ≡ g.V.Ground.geometry c.args.volume.now = c.geometry-geometry.ensures ∙ g.V.Ground.leads_geometry c.args.volume.now c.stored_at.new.volume c.stored_at.ensures.kept.leads in
    let stands = subst (λ (p : Place). StandsOn (g.V.Ground.image c.args.volume.now) p c.in_ok-stored.stored.body.items) c.place_of-place.ensures (c.in_ok-stored.ensures.reads told).stands in
    by_look (at_place c.in_ok-stored.stored.body.items stands
    (subst (λ (y : Geometry). IsBodyFault y c.args.oid.now c.in_ok-stored.stored.body.items c.in_err-told.field-0.0) geo
    (subst (λ (b : List ℕ). IsBodyFault c.geometry-geometry.result c.args.oid.now b c.in_err-told.field-0.0) c.deref.ensures.value c.in_err-told.ensures.fault))))

pub returns-in_err-stood-clause-sound : goal.returns-in_err-stood-clause-sound
returns-in_err-stood-clause-sound g c = if_err_handed c.from_residual-in_err-stood.result _ _ c.from_residual-in_err-stood.ensures.1 (λ damage told index is has limits.
    let at = c.in_ok-stored.ensures.stored told index has.body (subst (λ (p : Place). HasBody g.V.Ground c.args.volume.now index p has.body) (sym c.place_of-place.ensures) has.stands) in
    at_none c.in_ok-told.told _ c.in_err-stood.ensures.fault.0 c.in_ok-told.ensures.none is (subst (λ (b : List ℕ). BodyOf b is) (sym (c.deref.ensures.value ∙ at.bytes)) has.spelled) has.number)

pub returns-in_err-stood-clause-fault : goal.returns-in_err-stood-clause-fault
returns-in_err-stood-clause-fault g c = if_err_handed c.from_residual-in_err-stood.result _ _ c.from_residual-in_err-stood.ensures.1 (λ told.
    no_version (λ index is has.
    let at = c.in_ok-stored.ensures.stored told index has.body (subst (λ (p : Place). HasBody g.V.Ground c.args.volume.now index p has.body) (sym c.place_of-place.ensures) has.stands) in
    at_none c.in_ok-told.told _ c.in_err-stood.ensures.fault.0 c.in_ok-told.ensures.none is (subst (λ (b : List ℕ). BodyOf b is) (sym (c.deref.ensures.value ∙ at.bytes)) has.spelled) has.number)
    (c.in_err-stood.ensures.fault.1 ∙ ap record_fault c.place_of-place.ensures))

pub returns-clause-stored : goal.returns-clause-stored
returns-clause-stored g c = λ told index is has.
    subst (λ (p : Place). IsStored c.in_ok-stored.stored p has.body) c.place_of-place.ensures
    (c.in_ok-stored.ensures.stored told index has.body (subst (λ (p : Place). HasBody g.V.Ground c.args.volume.now index p has.body) (sym c.place_of-place.ensures) has.stands))

pub returns-clause-reads : goal.returns-clause-reads
returns-clause-reads g c = λ told.
    let read = subst (λ (p : Place). IsReadOn (g.V.Ground.image c.args.volume.now) p c.in_ok-stored.stored) c.place_of-place.ensures (c.in_ok-stored.ensures.reads told) in
    let found = at_some c.in_ok-told.told c.in_ok-stood.field-0 _ c.in_ok-stood.ensures.some c.in_ok-told.ensures.some in
    record {
      read = read;
      version = record { stands = read.stands; is = found.is; spelled = subst (λ (b : List ℕ). BodyOf b found.is) c.deref.ensures.value found.spelled; number = found.number };
    }

pub returns-clause-fits : goal.returns-clause-fits
returns-clause-fits g c = λ told index is has.
    c.in_ok-stored.ensures.fits told index has.body (subst (λ (p : Place). HasBody g.V.Ground c.args.volume.now index p has.body) (sym c.place_of-place.ensures) has.stands)

pub returns-in_err-stored-clause-stored : goal.returns-in_err-stored-clause-stored
returns-in_err-stored-clause-stored g c = no_value c.from_residual.result _ c.in_err-stored.field-0.0 c.from_residual.ensures.1

pub returns-in_err-stored-clause-reads : goal.returns-in_err-stored-clause-reads
returns-in_err-stored-clause-reads g c = no_value c.from_residual.result _ c.in_err-stored.field-0.0 c.from_residual.ensures.1

pub returns-in_err-stored-clause-fits : goal.returns-in_err-stored-clause-fits
returns-in_err-stored-clause-fits g c = not_given c.from_residual.result _ c.in_err-stored.field-0.0 c.from_residual.ensures.1

pub returns-in_err-stored-clause-kept : goal.returns-in_err-stored-clause-kept
returns-in_err-stored-clause-kept g c = c.stored_at.ensures.kept

pub returns-in_err-stored-clause-cause : goal.returns-in_err-stored-clause-cause
returns-in_err-stored-clause-cause g c =
    cause_here (g.V.Ground.faults c.args.volume.now) (g.V.Ground.faults c.stored_at.new.volume) c.from_residual.result c.in_err-stored.field-0.0
    c.from_residual.ensures.1 c.in_err-stored.ensures.cause

pub returns-in_err-told-clause-stored : goal.returns-in_err-told-clause-stored
returns-in_err-told-clause-stored g c = no_value c.from_residual-in_err-told.result _ c.in_err-told.field-0.0 c.from_residual-in_err-told.ensures.1

pub returns-in_err-told-clause-reads : goal.returns-in_err-told-clause-reads
returns-in_err-told-clause-reads g c = no_value c.from_residual-in_err-told.result _ c.in_err-told.field-0.0 c.from_residual-in_err-told.ensures.1

pub returns-in_err-told-clause-fits : goal.returns-in_err-told-clause-fits
returns-in_err-told-clause-fits g c = not_given c.from_residual-in_err-told.result _ c.in_err-told.field-0.0 c.from_residual-in_err-told.ensures.1

pub returns-in_err-told-clause-kept : goal.returns-in_err-told-clause-kept
returns-in_err-told-clause-kept g c = c.stored_at.ensures.kept

pub returns-in_err-told-clause-cause : goal.returns-in_err-told-clause-cause
returns-in_err-told-clause-cause g c =
    cause_here (g.V.Ground.faults c.args.volume.now) (g.V.Ground.faults c.stored_at.new.volume) c.from_residual-in_err-told.result c.in_err-told.field-0.0
    c.from_residual-in_err-told.ensures.1 (c.in_err-told.ensures.cause (g.V.Ground.faults c.args.volume.now) (g.V.Ground.faults c.stored_at.new.volume))

pub returns-in_err-stood-clause-stored : goal.returns-in_err-stood-clause-stored
returns-in_err-stood-clause-stored g c = no_value c.from_residual-in_err-stood.result _ c.in_err-stood.field-0.0 c.from_residual-in_err-stood.ensures.1

pub returns-in_err-stood-clause-reads : goal.returns-in_err-stood-clause-reads
returns-in_err-stood-clause-reads g c = no_value c.from_residual-in_err-stood.result _ c.in_err-stood.field-0.0 c.from_residual-in_err-stood.ensures.1

pub returns-in_err-stood-clause-fits : goal.returns-in_err-stood-clause-fits
returns-in_err-stood-clause-fits g c = not_given c.from_residual-in_err-stood.result _ c.in_err-stood.field-0.0 c.from_residual-in_err-stood.ensures.1

pub returns-in_err-stood-clause-kept : goal.returns-in_err-stood-clause-kept
returns-in_err-stood-clause-kept g c = c.stored_at.ensures.kept

pub returns-in_err-stood-clause-cause : goal.returns-in_err-stood-clause-cause
returns-in_err-stood-clause-cause g c =
    cause_here (g.V.Ground.faults c.args.volume.now) (g.V.Ground.faults c.stored_at.new.volume) c.from_residual-in_err-stood.result c.in_err-stood.field-0.0
    c.from_residual-in_err-stood.ensures.1 (c.in_err-stood.ensures.cause (g.V.Ground.faults c.args.volume.now) (g.V.Ground.faults c.stored_at.new.volume))

pub returns-clause-sound : goal.returns-clause-sound
returns-clause-sound g c = tt

pub returns-clause-fault : goal.returns-clause-fault
returns-clause-fault g c = tt

pub returns-clause-kept : goal.returns-clause-kept
returns-clause-kept g c = c.stored_at.ensures.kept

pub returns-clause-cause : goal.returns-clause-cause
returns-clause-cause g c = tt

pub stored_at-requires : goal.stored_at-requires
stored_at-requires g c = c.requires

pub geometry-geometry-requires : goal.geometry-geometry-requires
geometry-geometry-requires g c = record { ready = g.V.Ground.leads_ready c.args.volume.now c.stored_at.new.volume c.stored_at.ensures.kept.leads c.requires }
