use Rattle.ex_base.proofs.Results.{if_err_handed}
use Rattle.file_bodies.proofs.Moving.{kept_body}
use Rattle.object_records.specs.declared.Head.{Head}
use Rattle.versions.specs.Versions.{place_of}
use Rattle.version_tree.specs.Links.{of_body, of_version}
use Rattle.version_tree.proofs.Linking.{kept_linked, linked_limits, neighbour_told}
use Rattle.version_tree.proofs.ReadPlaces.{newer_read, newer_told, oid_of_link}
use Rattle.ex_base.proofs.Handed.{no_value, cause_here, cause_after}
use Rattle.ex_base.proofs.Keeping.{keeps_on}
use Rattle.version_tree.proofs.neighbours.newer.Goals as goal

pub returns-in_err-stored-clause-sound : goal.returns-in_err-stored-clause-sound
returns-in_err-stored-clause-sound g c = if_err_handed c.from_residual.result _ _ c.from_residual.ensures.1 (λ damage told linked index is has.
    c.in_err-stored.ensures.sound damage told index is has (linked_limits g.V.Ground c.args.volume.now index c.args.oid.now is linked has))

pub returns-in_err-stored-clause-fault : goal.returns-in_err-stored-clause-fault
returns-in_err-stored-clause-fault g c = if_err_handed c.from_residual.result _ _ c.from_residual.ensures.1 (λ told. of_version (c.in_err-stored.ensures.fault told))

pub returns-in-Ok-clause-told : goal.returns-in-Ok-clause-told
returns-in-Ok-clause-told g c = λ told linked index is has.
    let kept = c.stored_version.ensures.kept in
    let told_b = g.V.Ground.leads_told c.args.volume.now c.stored_version.new.volume kept.leads told in
    let stands = kept_body g.V.Ground c.args.volume.now c.stored_version.new.volume index (place_of c.args.oid.now) has.body kept has.stands in
    let at = c.in_ok-stored.ensures.stored told index is has in
    neighbour_told g.V.Ground c.args.volume.now c.stored_version.new.volume index has.body is c.in_ok-stored.stored.head c.in-Ok.found c.oid_read.result (λ (h : Head). h.newer) kept has.spelled at.head
    (c.in-Ok.ensures.newer told_b (kept_linked g.V.Ground c.args.volume.now c.stored_version.new.volume kept linked) index (place_of c.args.oid.now) has.body stands at) c.oid_read.ensures

pub returns-in-Ok-clause-reads : goal.returns-in-Ok-clause-reads
returns-in-Ok-clause-reads g c = λ told.
    let kept = c.stored_version.ensures.kept in
    let told_b = g.V.Ground.leads_told c.args.volume.now c.stored_version.new.volume kept.leads told in
    let v = c.in_ok-stored.ensures.reads told in
    record {
      body = c.in_ok-stored.stored.body.items;
      version = v.version;
      holds = (
        newer_read (g.V.Ground.image c.args.volume.now) (g.V.Ground.image c.stored_version.new.volume) kept.images c.args.oid.now c.in_ok-stored.stored v (c.in-Ok.ensures.link told_b),
        oid_of_link (g.V.Ground.image c.args.volume.now) (g.V.Ground.image c.stored_version.new.volume) kept.images c.args.oid.now c.in_ok-stored.stored v (λ (h : Head). h.newer) c.in-Ok.found c.oid_read.result (c.in-Ok.ensures.reads told_b) c.oid_read.ensures,
      );
    }

pub returns-clause-sound : goal.returns-clause-sound
returns-clause-sound g c = λ damage told linked index is has.
    let kept = c.stored_version.ensures.kept in
    let told_b = g.V.Ground.leads_told c.args.volume.now c.stored_version.new.volume kept.leads told in
    let stands = kept_body g.V.Ground c.args.volume.now c.stored_version.new.volume index (place_of c.args.oid.now) has.body kept has.stands in
    c.in-Err.ensures.sound damage told_b (kept_linked g.V.Ground c.args.volume.now c.stored_version.new.volume kept linked) index (place_of c.args.oid.now) has.body stands (c.in_ok-stored.ensures.stored told index is has)

pub returns-clause-fault : goal.returns-clause-fault
returns-clause-fault g c = λ told.
    let v = c.in_ok-stored.ensures.reads told in
    of_body c.in_ok-stored.stored.body.items v.read.stands (newer_told g.V.Ground c.args.volume.now c.stored_version.new.volume c.stored_version.ensures.kept c.args.oid.now c.in_ok-stored.stored c.in-Err.fault v c.in-Err.ensures.fault told)

pub returns-in_err-stored-clause-told : goal.returns-in_err-stored-clause-told
returns-in_err-stored-clause-told g c = no_value c.from_residual.result _ c.in_err-stored.field-0.0 c.from_residual.ensures.1

pub returns-in_err-stored-clause-reads : goal.returns-in_err-stored-clause-reads
returns-in_err-stored-clause-reads g c = no_value c.from_residual.result _ c.in_err-stored.field-0.0 c.from_residual.ensures.1

pub returns-in_err-stored-clause-kept : goal.returns-in_err-stored-clause-kept
returns-in_err-stored-clause-kept g c = c.stored_version.ensures.kept

pub returns-in_err-stored-clause-cause : goal.returns-in_err-stored-clause-cause
returns-in_err-stored-clause-cause g c =
    cause_here (g.V.Ground.faults c.args.volume.now) (g.V.Ground.faults c.stored_version.new.volume) c.from_residual.result c.in_err-stored.field-0.0
    c.from_residual.ensures.1 c.in_err-stored.ensures.cause

pub returns-in-Ok-clause-sound : goal.returns-in-Ok-clause-sound
returns-in-Ok-clause-sound g c = tt

pub returns-in-Ok-clause-fault : goal.returns-in-Ok-clause-fault
returns-in-Ok-clause-fault g c = tt

pub returns-in-Ok-clause-kept : goal.returns-in-Ok-clause-kept
returns-in-Ok-clause-kept g c =
    keeps_on g.V.Ground c.args.volume.now c.stored_version.new.volume c.linked_newer.new.volume c.stored_version.ensures.kept c.linked_newer.ensures.kept

pub returns-in-Ok-clause-cause : goal.returns-in-Ok-clause-cause
returns-in-Ok-clause-cause g c = tt

pub returns-clause-told : goal.returns-clause-told
returns-clause-told g c = tt

pub returns-clause-reads : goal.returns-clause-reads
returns-clause-reads g c = tt

pub returns-clause-kept : goal.returns-clause-kept
returns-clause-kept g c =
    keeps_on g.V.Ground c.args.volume.now c.stored_version.new.volume c.linked_newer.new.volume c.stored_version.ensures.kept c.linked_newer.ensures.kept

pub returns-clause-cause : goal.returns-clause-cause
returns-clause-cause g c =
    cause_after g.V.Ground c.args.volume.now c.stored_version.new.volume c.stored_version.ensures.kept.leads c.linked_newer.new.volume c.in-Err.fault
    c.in-Err.ensures.cause

pub stored_version-requires : goal.stored_version-requires
stored_version-requires g c = c.requires

pub linked_newer-requires : goal.linked_newer-requires
linked_newer-requires g c = g.V.Ground.leads_ready c.args.volume.now c.stored_version.new.volume c.stored_version.ensures.kept.leads c.requires
