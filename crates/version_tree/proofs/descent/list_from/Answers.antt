use Rattle.std.proofs.Common.{◌≡◌, ℕ, List, sym, subst}
use Rattle.std.proofs.lemmas.Result.{IfOk-weaker, IfErr-weaker, on_ok_weaker}
use Rattle.file_bodies.specs.Bodies.{bodies_of}
use Rattle.file_bodies.proofs.Blame.{carried}
use Rattle.file_bodies.proofs.Moving.{kept_file}
use Rattle.versions.specs.Listed.{AreReadable}
use Rattle.versions.specs.Damage.{IsListingFault, IsWalkedOut}
use Rattle.version_tree.specs.Linked.{oids_from}
use Rattle.version_tree.specs.Links.{at_start}
use Rattle.version_tree.proofs.ReadPlaces.{walked_from, way_of}
use Rattle.ex_base.proofs.Keeping.{keeps_on}
use Rattle.ex_base.proofs.Handed.{cause_of}
use Rattle.version_tree.proofs.descent.list_from.Goals as goal

pub returns-in-Ok-clause-oids : goal.returns-in-Ok-clause-oids
returns-in-Ok-clause-oids g c = IfOk-weaker c.list_derived.result _ _ (λ oids h told index body has.
    let kept = c.file_of.ensures.kept in
    let told_b = g.V.Ground.leads_told c.args.volume.now c.file_of.new.volume kept.leads told in
    let file_b = kept_file g.V.Ground c.args.volume.now c.file_of.new.volume index kept has.file in
    subst (λ (i : ℕ → List ℕ). oids.items ≡ oids_from c.args.from (bodies_of i index)) kept.images
    (h told_b index file_b (c.in-Ok.ensures.number told index body has))) c.list_derived.ensures.oids

pub returns-in-Ok-clause-sound : goal.returns-in-Ok-clause-sound
returns-in-Ok-clause-sound g c = IfErr-weaker c.list_derived.result _ _ (λ fault h damage told index body has readable.
    let kept = c.file_of.ensures.kept in
    let told_b = g.V.Ground.leads_told c.args.volume.now c.file_of.new.volume kept.leads told in
    let file_b = kept_file g.V.Ground c.args.volume.now c.file_of.new.volume index kept has.file in
    h damage told_b index file_b (c.in-Ok.ensures.number told index body has) (subst (λ (i : ℕ → List ℕ). AreReadable (bodies_of i index)) (sym kept.images) readable)) c.list_derived.ensures.sound

pub returns-in-Ok-clause-fault : goal.returns-in-Ok-clause-fault
returns-in-Ok-clause-fault g c = IfErr-weaker c.list_derived.result _ _ (λ fault h told. way_of (g.V.Ground.geometry c.args.volume.now) (g.V.Ground.image c.args.volume.now) c.args.from c.in-Ok.file_no fault (c.in-Ok.ensures.page told) (c.in-Ok.ensures.shown told)
    (carried g.V.Ground c.args.volume.now c.file_of.new.volume (λ y u. IsListingFault y u c.in-Ok.file_no fault) c.file_of.ensures.kept h told)) c.list_derived.ensures.fault

pub returns-in-Err-clause-fault : goal.returns-in-Err-clause-fault
returns-in-Err-clause-fault g c = λ told. at_start (c.in-Err.ensures.fault told)

pub returns-in-Ok-clause-walk : goal.returns-in-Ok-clause-walk
returns-in-Ok-clause-walk g c = on_ok_weaker c.list_derived.result (λ h told. walked_from (g.V.Ground.geometry c.args.volume.now) (g.V.Ground.image c.args.volume.now) c.args.from c.in-Ok.file_no (c.in-Ok.ensures.page told) (c.in-Ok.ensures.shown told)
    (carried g.V.Ground c.args.volume.now c.file_of.new.volume (λ y u. IsWalkedOut y u c.in-Ok.file_no) c.file_of.ensures.kept h told)) c.list_derived.ensures.walk

pub returns-in-Ok-clause-kept : goal.returns-in-Ok-clause-kept
returns-in-Ok-clause-kept g c =
    keeps_on g.V.Ground c.args.volume.now c.file_of.new.volume c.list_derived.new.volume c.file_of.ensures.kept c.list_derived.ensures.kept

pub returns-in-Ok-clause-cause : goal.returns-in-Ok-clause-cause
returns-in-Ok-clause-cause g c =
    cause_of g.V.Ground c.args.volume.now c.file_of.new.volume c.file_of.ensures.kept.leads c.list_derived.new.volume c.list_derived.result
    c.list_derived.ensures.cause

pub returns-in-Err-clause-oids : goal.returns-in-Err-clause-oids
returns-in-Err-clause-oids g c = tt

pub returns-in-Err-clause-walk : goal.returns-in-Err-clause-walk
returns-in-Err-clause-walk g c = tt

pub returns-in-Err-clause-kept : goal.returns-in-Err-clause-kept
returns-in-Err-clause-kept g c = c.file_of.ensures.kept

pub returns-in-Err-clause-cause : goal.returns-in-Err-clause-cause
returns-in-Err-clause-cause g c = c.in-Err.ensures.cause

pub file_of-requires : goal.file_of-requires
file_of-requires g c = c.requires

pub list_derived-requires : goal.list_derived-requires
list_derived-requires g c = g.V.Ground.leads_ready c.args.volume.now c.file_of.new.volume c.file_of.ensures.kept.leads c.requires

pub returns-in-Err-clause-sound : goal.returns-in-Err-clause-sound
returns-in-Err-clause-sound g c = λ damage told index body has readable. c.in-Err.ensures.sound damage told index body has
