use Rattle.std.proofs.Common.{◌∙◌, ℕ, List, Some, refl, subst, sym}
use Rattle.ex_base.specs.declared.names.Place.{Place}
use Rattle.file_bodies.specs.Files.{HasFileOf, HasBody, HasSomeBody}
use Rattle.ex_base.specs.declared.geometry.Geometry.{Geometry}
use Rattle.ex_base.proofs.Results.{if_ok_both}
use Rattle.file_bodies.specs.Damage.{IsBelonging, IsBelongingFault, IsFoundIn}
use Rattle.std.proofs.lemmas.Result.{IfOk-weaker, IfErr-weaker}
use Rattle.ex_base.proofs.Options.{at_none, at_some}
use Rattle.std.proofs.lemmas.Option.{same_Some}
use Rattle.versions.specs.Found.{IsTold, IsRecordBody}
use Rattle.versions.specs.Damage.{StandsOn, IsBodyFault, in_file, at_place}
use Rattle.ex_base.proofs.Options.{if_some_both, some_both}
use Rattle.versions.proofs.Results.{same_some, match_some, match_none, none_then, ok_of}
use Rattle.object_records.specs.Record.{BodyOf}
use Rattle.object_records.specs.Reads.{small_record}
use Rattle.versions.proofs.Standing.{found_is, told_size, file_at, one_body, small_version}
use Rattle.versions.specs.Versions.{place_of}
use Rattle.versions.proofs.Records.{told_head, told_small, told_root, told_large}
use Rattle.versions.proofs.finding.find_reading.Goals as goal

pub returns-in-Ok-Some-clause-told : goal.returns-in-Ok-Some-clause-told
returns-in-Ok-Some-clause-told g c = if_ok_both c.told_reading.result _ _ _ (λ found some none told index is has.
    let stands = subst (λ (p : Place). HasSomeBody g.V.Ground c.args.volume.now p c.in-Ok-Some.body.now) c.place_of.ensures (match_some c.in-Ok-Some.field-0 c.in-Ok-Some.body _ _ c.in-Ok-Some.field-0-is (c.in-Ok-Some.ensures.found told (file_at g.V.Ground c.args.volume.now index c.place_of.result (place_of c.args.oid.now) _ c.place_of.ensures has.stands))) in
    found_is g.V.Ground c.args.volume.now c.geometry-geometry.result index c.args.oid.now c.in-Ok-Some.body.now is stands has found some none) c.told_reading.ensures.some c.told_reading.ensures.none

pub returns-in-Ok-Some-clause-size : goal.returns-in-Ok-Some-clause-size
returns-in-Ok-Some-clause-size g c = IfOk-weaker c.told_reading.result _ _ (λ found some told index head content bytes has.
    let stands = subst (λ (p : Place). HasSomeBody g.V.Ground c.args.volume.now p c.in-Ok-Some.body.now) c.place_of.ensures (match_some c.in-Ok-Some.field-0 c.in-Ok-Some.body _ _ c.in-Ok-Some.field-0-is (c.in-Ok-Some.ensures.found told (file_at g.V.Ground c.args.volume.now index c.place_of.result (place_of c.args.oid.now) _ c.place_of.ensures has.stored.stands))) in
    told_size g.V.Ground c.args.volume.now c.geometry-geometry.result index c.args.oid.now head c.in-Ok-Some.body.now content bytes c.requires told stands has found some) c.told_reading.ensures.some

pub returns-in-Ok-Some-clause-cause : goal.returns-in-Ok-Some-clause-cause
returns-in-Ok-Some-clause-cause g c = c.told_reading.ensures.cause _ _

pub returns-in-Ok-None-clause-told : goal.returns-in-Ok-None-clause-told
returns-in-Ok-None-clause-told g c = λ told index is has.
    absurd (match_none c.in-Ok-None.field-0 _ _ c.in-Ok-None.field-0-is (c.in-Ok-None.ensures.found told (file_at g.V.Ground c.args.volume.now index c.place_of.result (place_of c.args.oid.now) _ c.place_of.ensures has.stands)) has.body
    (record { index = index; has = subst (λ (p : Place). HasBody g.V.Ground c.args.volume.now index p has.body) (sym c.place_of.ensures) has.stands }))

pub returns-in-Ok-Some-clause-reads : goal.returns-in-Ok-Some-clause-reads
returns-in-Ok-Some-clause-reads g c = IfOk-weaker c.told_reading.result _ _ (λ found some. if_some_both found _ _ (λ f is told. record {
  body = c.in-Ok-Some.body.now;
  stands = subst (λ (p : Place). StandsOn (g.V.Ground.image c.args.volume.now) p c.in-Ok-Some.body.now) c.place_of.ensures
      (at_some c.in-Ok-Some.field-0 c.in-Ok-Some.body _ c.in-Ok-Some.field-0-is (c.in-Ok-Some.ensures.stands told));
  told = subst (λ (y : Geometry). IsTold y c.args.oid.now.unique c.in-Ok-Some.body.now f) c.geometry-geometry.ensures is;
}) some) c.told_reading.ensures.some

pub returns-in-Ok-Some-clause-fault : goal.returns-in-Ok-Some-clause-fault
returns-in-Ok-Some-clause-fault g c = IfErr-weaker c.told_reading.result _ _ (λ fault h told. at_place c.in-Ok-Some.body.now
    (subst (λ (p : Place). StandsOn (g.V.Ground.image c.args.volume.now) p c.in-Ok-Some.body.now) c.place_of.ensures
    (at_some c.in-Ok-Some.field-0 c.in-Ok-Some.body _ c.in-Ok-Some.field-0-is (c.in-Ok-Some.ensures.stands told)))
    (subst (λ (y : Geometry). IsBodyFault y c.args.oid.now c.in-Ok-Some.body.now fault) c.geometry-geometry.ensures h)) c.told_reading.ensures.fault

pub returns-in-Err-clause-fault : goal.returns-in-Err-clause-fault
returns-in-Err-clause-fault g c = λ told. in_file (subst (λ (p : Place). IsBelongingFault (g.V.Ground.geometry c.args.volume.now) (g.V.Ground.image c.args.volume.now) p.page.0 c.in-Err.fault) c.place_of.ensures (c.in-Err.ensures.fault told))

pub returns-in-Ok-Some-clause-sound : goal.returns-in-Ok-Some-clause-sound
returns-in-Ok-Some-clause-sound g c = IfErr-weaker c.told_reading.result _ _ (λ fault never damage told file readable.
    let whole = subst (λ (p : Place). HasFileOf g.V.Ground c.args.volume.now p.page.0) (sym c.place_of.ensures) file in
    let stands = subst (λ (p : Place). HasSomeBody g.V.Ground c.args.volume.now p c.in-Ok-Some.body.now) c.place_of.ensures (match_some c.in-Ok-Some.field-0 c.in-Ok-Some.body _ _ c.in-Ok-Some.field-0-is (c.in-Ok-Some.ensures.found told whole)) in
    never (subst (λ (y : Geometry). IsRecordBody y c.in-Ok-Some.body.now) (sym c.geometry-geometry.ensures) (readable c.in-Ok-Some.body.now stands))) c.told_reading.ensures.sound

pub returns-in-Ok-Some-clause-bytes : goal.returns-in-Ok-Some-clause-bytes
returns-in-Ok-Some-clause-bytes g c = if_ok_both c.told_reading.result _ _ _ (λ found some copied.
    some_both found _ _ _ (λ f is copies told small inside index head content bytes has.
    let stands = subst (λ (p : Place). HasSomeBody g.V.Ground c.args.volume.now p c.in-Ok-Some.body.now) c.place_of.ensures (match_some c.in-Ok-Some.field-0 c.in-Ok-Some.body _ _ c.in-Ok-Some.field-0-is (c.in-Ok-Some.ensures.found told (file_at g.V.Ground c.args.volume.now index c.place_of.result (place_of c.args.oid.now) _ c.place_of.ensures has.stored.stands))) in
    let f_is = same_some (Some f) f _ refl (found_is g.V.Ground c.args.volume.now c.geometry-geometry.result index c.args.oid.now c.in-Ok-Some.body.now _ stands has.stored (Some f) is tt) in
    let held = small_version g.V.Ground c.args.volume.now index c.args.oid.now head content bytes f f_is small has in
    copies small inside head bytes
    (subst (λ (b : List ℕ). BodyOf b (small_record head bytes)) (sym (one_body g.V.Ground c.args.volume.now index (place_of c.args.oid.now) c.in-Ok-Some.body.now held.stored.body stands held.stored.stands)) held.stored.spelled)) some copied) c.told_reading.ensures.some c.told_reading.ensures.bytes

pub returns-in-Ok-Some-clause-way : goal.returns-in-Ok-Some-clause-way
returns-in-Ok-Some-clause-way g c = ok_of c.told_reading.result _ (λ told. subst (λ (p : Place). IsBelonging (g.V.Ground.geometry c.args.volume.now) (g.V.Ground.image c.args.volume.now) p.page.0) c.place_of.ensures (c.in-Ok-Some.ensures.way told))

pub returns-in-Ok-None-clause-way : goal.returns-in-Ok-None-clause-way
returns-in-Ok-None-clause-way g c = λ told. subst (λ (p : Place). IsBelonging (g.V.Ground.geometry c.args.volume.now) (g.V.Ground.image c.args.volume.now) p.page.0) c.place_of.ensures (c.in-Ok-None.ensures.way told)

pub returns-in-Err-clause-stands : goal.returns-in-Err-clause-stands
returns-in-Err-clause-stands g c = tt

pub returns-in-Err-clause-told : goal.returns-in-Err-clause-told
returns-in-Err-clause-told g c = tt

pub returns-in-Err-clause-size : goal.returns-in-Err-clause-size
returns-in-Err-clause-size g c = tt

pub returns-in-Err-clause-bytes : goal.returns-in-Err-clause-bytes
returns-in-Err-clause-bytes g c = tt

pub returns-in-Err-clause-head : goal.returns-in-Err-clause-head
returns-in-Err-clause-head g c = tt

pub returns-in-Err-clause-small : goal.returns-in-Err-clause-small
returns-in-Err-clause-small g c = tt

pub returns-in-Err-clause-root : goal.returns-in-Err-clause-root
returns-in-Err-clause-root g c = tt

pub returns-in-Err-clause-large : goal.returns-in-Err-clause-large
returns-in-Err-clause-large g c = tt

pub returns-in-Err-clause-reads : goal.returns-in-Err-clause-reads
returns-in-Err-clause-reads g c = tt

pub returns-in-Err-clause-way : goal.returns-in-Err-clause-way
returns-in-Err-clause-way g c = tt

pub returns-in-Err-clause-len : goal.returns-in-Err-clause-len
returns-in-Err-clause-len g c = refl

pub returns-in-Ok-None-clause-stands : goal.returns-in-Ok-None-clause-stands
returns-in-Ok-None-clause-stands g c = tt

pub returns-in-Ok-None-clause-bytes : goal.returns-in-Ok-None-clause-bytes
returns-in-Ok-None-clause-bytes g c = tt

pub returns-in-Ok-None-clause-head : goal.returns-in-Ok-None-clause-head
returns-in-Ok-None-clause-head g c = tt

pub returns-in-Ok-None-clause-small : goal.returns-in-Ok-None-clause-small
returns-in-Ok-None-clause-small g c = tt

pub returns-in-Ok-None-clause-root : goal.returns-in-Ok-None-clause-root
returns-in-Ok-None-clause-root g c = tt

pub returns-in-Ok-None-clause-large : goal.returns-in-Ok-None-clause-large
returns-in-Ok-None-clause-large g c = tt

pub returns-in-Ok-None-clause-reads : goal.returns-in-Ok-None-clause-reads
returns-in-Ok-None-clause-reads g c = tt

pub returns-in-Ok-None-clause-sound : goal.returns-in-Ok-None-clause-sound
returns-in-Ok-None-clause-sound g c = tt

pub returns-in-Ok-None-clause-fault : goal.returns-in-Ok-None-clause-fault
returns-in-Ok-None-clause-fault g c = tt

pub returns-in-Ok-None-clause-cause : goal.returns-in-Ok-None-clause-cause
returns-in-Ok-None-clause-cause g c = tt

pub returns-in-Ok-None-clause-len : goal.returns-in-Ok-None-clause-len
returns-in-Ok-None-clause-len g c = refl

pub returns-in-Ok-Some-clause-len : goal.returns-in-Ok-Some-clause-len
returns-in-Ok-Some-clause-len g c = c.told_reading.ensures.len

pub body_at-requires : goal.body_at-requires
body_at-requires g c = c.requires

pub returns-in-Err-clause-sound : goal.returns-in-Err-clause-sound
returns-in-Err-clause-sound g c = λ damage told file readable. c.in-Err.ensures.sound damage told (subst (λ (p : Place). HasFileOf g.V.Ground c.args.volume.now p.page.0) (sym c.place_of.ensures) file)

pub returns-in-Ok-Some-clause-head : goal.returns-in-Ok-Some-clause-head
returns-in-Ok-Some-clause-head g c = IfOk-weaker c.told_reading.result _ _ (λ found some. if_some_both found _ _ (λ f is.
    told_head c.geometry-geometry.result c.args.oid.now.unique c.in-Ok-Some.body.now f is) some) c.told_reading.ensures.some

pub returns-in-Ok-Some-clause-small : goal.returns-in-Ok-Some-clause-small
returns-in-Ok-Some-clause-small g c = IfOk-weaker c.told_reading.result _ _ (λ found some. if_some_both found _ _ (λ f is.
    told_small c.geometry-geometry.result c.args.oid.now.unique c.in-Ok-Some.body.now f is) some) c.told_reading.ensures.some

pub returns-in-Ok-Some-clause-large : goal.returns-in-Ok-Some-clause-large
returns-in-Ok-Some-clause-large g c = IfOk-weaker c.told_reading.result _ _ (λ found some. if_some_both found _ _ (λ f is.
    told_large c.geometry-geometry.result c.args.oid.now.unique c.in-Ok-Some.body.now f is) some) c.told_reading.ensures.some

pub returns-in-Ok-Some-clause-root : goal.returns-in-Ok-Some-clause-root
returns-in-Ok-Some-clause-root g c = IfOk-weaker c.told_reading.result _ _ (λ found some. if_some_both found _ _ (λ f is.
    told_root (g.V.Ground.geometry c.args.volume.now) c.args.oid.now.unique c.in-Ok-Some.body.now f (subst (λ (y : Geometry). IsTold y c.args.oid.now.unique c.in-Ok-Some.body.now f) c.geometry-geometry.ensures is)) some) c.told_reading.ensures.some

pub returns-in-Ok-Some-clause-stands : goal.returns-in-Ok-Some-clause-stands
returns-in-Ok-Some-clause-stands g c = IfOk-weaker c.told_reading.result _ _ (λ found some. if_some_both found _ _ (λ f is told file.
    let whole = subst (λ (p : Place). HasFileOf g.V.Ground c.args.volume.now p.page.0) (sym c.place_of.ensures) file in
    let stands = subst (λ (p : Place). HasSomeBody g.V.Ground c.args.volume.now p c.in-Ok-Some.body.now) c.place_of.ensures (match_some c.in-Ok-Some.field-0 c.in-Ok-Some.body _ _ c.in-Ok-Some.field-0-is (c.in-Ok-Some.ensures.found told whole)) in
    record {
      index = stands.index;
      is = is.is;
      has = record { body = c.in-Ok-Some.body.now; stands = stands.has; spelled = is.spelled; number = is.number };
    }) some) c.told_reading.ensures.some

pub returns-in-Err-clause-none : goal.returns-in-Err-clause-none
returns-in-Err-clause-none g c = tt

pub returns-in-Ok-None-clause-none : goal.returns-in-Ok-None-clause-none
returns-in-Ok-None-clause-none g c = λ told there. at_none c.in-Ok-None.field-0 _ c.in-Ok-None.field-0-is c.in-Ok-None.ensures.none told
    (subst (λ (p : Place). IsFoundIn (g.V.Ground.geometry c.args.volume.now) (g.V.Ground.image c.args.volume.now) p.page) (sym c.place_of.ensures) there.page)
    there.version.at.body (subst (λ (p : Place). StandsOn (g.V.Ground.image c.args.volume.now) p there.version.at.body) (sym c.place_of.ensures) there.version.at.stands)

pub returns-in-Ok-Some-clause-none : goal.returns-in-Ok-Some-clause-none
returns-in-Ok-Some-clause-none g c = IfOk-weaker c.told_reading.result _ _ (λ found none. none_then found _ _ (λ never told there.
    let at = there.version.at in
    let stands : StandsOn (g.V.Ground.image c.args.volume.now) (place_of c.args.oid.now) c.in-Ok-Some.body.now =
    subst (λ (p : Place). StandsOn (g.V.Ground.image c.args.volume.now) p c.in-Ok-Some.body.now) c.place_of.ensures (at_some c.in-Ok-Some.field-0 c.in-Ok-Some.body _ c.in-Ok-Some.field-0-is (c.in-Ok-Some.ensures.stands told)) in
    never at.told.is (subst (λ (t : List ℕ). BodyOf t at.told.is) (same_Some _ _ (sym at.stands ∙ stands)) at.told.spelled) at.told.number) none) c.told_reading.ensures.none
