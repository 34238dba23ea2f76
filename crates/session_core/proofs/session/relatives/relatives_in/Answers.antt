use Rattle.std.proofs.Common.{◌≡◌, refl, subst}
use Rattle.std.specs.Prelude.{IfOk, OnOk}
use Rattle.std.proofs.lemmas.Result.{IfErr-weaker, IfOk-weaker}
use Rattle.ex_base.proofs.Results.{if_err_handed, if_ok_both}
use Rattle.volume_edits.specs.Damage.{as_it_is}
use Rattle.volume_edits.proofs.Damage.{told_derived, told_older, told_versions}
use Rattle.session_core.specs.Damage.{version_for}
use Rattle.volume_edits.specs.Purposes.{ToRelate}
use Rattle.session_core.specs.Ways.{HasReadRelatives}
use Rattle.session_core.specs.Finding.{AreRelatives}
use Rattle.session_core.specs.declared.session.relatives.Relation.{Relation}
use Rattle.session_core.specs.declared.session.relatives.Relation.TheVariants as relation
use Rattle.session_core.proofs.Relatives.{derived_listed, never_here, object_listed, older_listed, sound_here}
use Rattle.session_core.proofs.session.relatives.relatives_in.Goals as goal

pub returns-in_err-older-in-Older-clause-sound : goal.returns-in_err-older-in-Older-clause-sound
returns-in_err-older-in-Older-clause-sound g c = λ before shows version is.
    if_err_handed c.from_residual.result _ _ c.from_residual.ensures.1
    (λ damage. never_here g.V.Ground c.args.volume.now shows c.args.oid.now version is _ c.in_err-older-in-Older.ensures.sound damage)

pub returns-in-Object-clause-oids : goal.returns-in-Object-clause-oids
returns-in-Object-clause-oids g c = λ before shows version is.
    let asked = c.in-Object.is in
    let same : relation.Object ≡ c.args.relation = cc in
    subst (λ (r : Relation). IfOk c.versions.result (λ oids. AreRelatives before.machine version r oids.items)) same
    (IfOk-weaker c.versions.result _ (λ oids. AreRelatives before.machine version relation.Object oids.items) (λ oids lists. object_listed g.V.Ground c.args.volume.now shows c.args.oid.now version is oids.items lists) c.versions.ensures.oids)

pub returns-in-Object-clause-sound : goal.returns-in-Object-clause-sound
returns-in-Object-clause-sound g c = λ before shows version is. sound_here g.V.Ground c.args.volume.now shows c.args.oid.now version is c.versions.result c.versions.ensures.sound

pub returns-in-Derived-clause-oids : goal.returns-in-Derived-clause-oids
returns-in-Derived-clause-oids g c = λ before shows version is.
    let asked = c.in-Derived.is in
    let same : relation.Derived ≡ c.args.relation = cc in
    subst (λ (r : Relation). IfOk c.derived.result (λ oids. AreRelatives before.machine version r oids.items)) same
    (if_ok_both c.derived.result _ _ (λ oids. AreRelatives before.machine version relation.Derived oids.items) (λ oids moves ordered. derived_listed g.V.Ground c.args.volume.now shows c.args.oid.now version is oids.items moves ordered)
    c.derived.ensures.oids c.derived.ensures.ordered)

pub returns-in-Derived-clause-sound : goal.returns-in-Derived-clause-sound
returns-in-Derived-clause-sound g c = λ before shows version is. sound_here g.V.Ground c.args.volume.now shows c.args.oid.now version is c.derived.result c.derived.ensures.sound

pub returns-in_ok-listed-in-Older-clause-oids : goal.returns-in_ok-listed-in-Older-clause-oids
returns-in_ok-listed-in-Older-clause-oids g c = λ before shows version is.
    let asked = c.in-Older.is in
    let same : relation.Older ≡ c.args.relation = cc in
    subst (λ (r : Relation). AreRelatives before.machine version r c.in_ok-listed-in-Older.field-0.items) same
    (older_listed g.V.Ground c.args.volume.now shows c.args.oid.now version is c.in_ok-older-in-Older.field-0 c.in_ok-listed-in-Older.field-0.items c.in_ok-listed-in-Older.ensures c.in_ok-older-in-Older.ensures.told)

pub returns-in-Object-clause-fault : goal.returns-in-Object-clause-fault
returns-in-Object-clause-fault g c = IfErr-weaker c.versions.result _ _ (λ fault is told. as_it_is (told_versions _ _ (version_for c.args.oid.now ToRelate) c.args.oid.now fault (refl, refl) (is told))) c.versions.ensures.fault

pub returns-in-Derived-clause-fault : goal.returns-in-Derived-clause-fault
returns-in-Derived-clause-fault g c = IfErr-weaker c.derived.result _ _ (λ fault is told. as_it_is (told_derived _ _ (version_for c.args.oid.now ToRelate) c.args.oid.now fault (refl, refl) (is told))) c.derived.ensures.fault

pub returns-in_err-older-in-Older-clause-fault : goal.returns-in_err-older-in-Older-clause-fault
returns-in_err-older-in-Older-clause-fault g c = if_err_handed c.from_residual.result _ _ c.from_residual.ensures.1
    (λ told. as_it_is (told_older _ _ (version_for c.args.oid.now ToRelate) c.args.oid.now _ (refl, refl) (c.in_err-older-in-Older.ensures.fault told)))

pub returns-in-Object-clause-way : goal.returns-in-Object-clause-way
returns-in-Object-clause-way g c =
    let asked = c.in-Object.is in
    let same : relation.Object ≡ c.args.relation = cc in
    subst (λ (r : Relation). OnOk c.versions.result (g.V.Ground.tells c.args.volume.now → HasReadRelatives r (g.V.Ground.geometry c.args.volume.now) (g.V.Ground.image c.args.volume.now) c.args.oid.now)) same c.versions.ensures.reads

pub returns-in-Derived-clause-way : goal.returns-in-Derived-clause-way
returns-in-Derived-clause-way g c =
    let asked = c.in-Derived.is in
    let same : relation.Derived ≡ c.args.relation = cc in
    subst (λ (r : Relation). OnOk c.derived.result (g.V.Ground.tells c.args.volume.now → HasReadRelatives r (g.V.Ground.geometry c.args.volume.now) (g.V.Ground.image c.args.volume.now) c.args.oid.now)) same c.derived.ensures.reads

pub returns-in_ok-listed-in-Older-clause-way : goal.returns-in_ok-listed-in-Older-clause-way
returns-in_ok-listed-in-Older-clause-way g c = λ tells.
    let asked = c.in-Older.is in
    let same : relation.Older ≡ c.args.relation = cc in
    let read = c.in_ok-older-in-Older.ensures.reads tells in
    subst (λ (r : Relation). HasReadRelatives r (g.V.Ground.geometry c.args.volume.now) (g.V.Ground.image c.args.volume.now) c.args.oid.now) same (record { body = read.body; version = read.version; holds = read.holds.0 })
