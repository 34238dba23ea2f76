use Rattle.std.proofs.Common.{◌≡◌, true, false, length, refl, ap, ◌∙◌, arith, inl, inr, ℕ, subst, sym}
use Rattle.std.proofs.lemmas.Bool.{cases_lt, false≢true}
use Rattle.std.proofs.lemmas.Result.{IfErr-weaker, IfOk-weaker, on_ok_weaker}
use Rattle.object_records.specs.Record.{Small}
use Rattle.versions.specs.Versions.{place_of}
use Rattle.versions.specs.Damage.{no_tree, record_fault, unlike}
use Rattle.versions.proofs.Faults.{place_bytes, bytes_kept}
use Rattle.versions.proofs.Standing.{kept_version}
use Rattle.versions.proofs.Becoming.{becomes_small, stays_at, never_stays, held_most, less_stays, kept_turned, kept_in_use, stayed_before}
use Rattle.versions.proofs.Results.{ok_of}
use Rattle.ex_base.proofs.Handed.{no_value, not_given, cause_here, cause_of}
use Rattle.ex_base.specs.declared.names.Area.{Area}
use Rattle.versions.specs.declared.editing.Edited.{Edited}
use Rattle.ex_base.specs.declared.geometry.Geometry.{Geometry}
use Rattle.ex_base.specs.Needs.{growth_need}
use Rattle.file_bodies.specs.Files.{HasBody}
use Rattle.ex_base.specs.declared.names.Place.{Place}
use Rattle.versions.proofs.Needed.{takes_kept}
use Rattle.versions.proofs.editing.put_edited.Goals as goal
use Rattle.ex_base.proofs.Results.{if_err_handed}

pub returns-in-Ok-true-clause-edited : goal.returns-in-Ok-true-clause-edited
returns-in-Ok-true-clause-edited g c = λ told in_use index held has change.
    rw c.stayed.ensures (becomes_small g.V.Ground c.args.volume.now c.put_small.new.volume index c.args.oid.now c.args.head.now change held c.args.bytes.now c.place_of.result in_use has c.place_of.ensures
    (c.in-Ok-true.ensures.put c.in-Ok-true.field-0-test told)
    (stays_at g.V.Ground c.args.volume.now index c.args.oid.now c.args.head.now held (length c.args.bytes.now) c.place_of.result c.place_of.ensures has (λ i was stands. (c.in-Ok-true.ensures.fits told i was stands).0 c.in-Ok-true.field-0-test)))

pub returns-in_err-check-clause-sound : goal.returns-in_err-check-clause-sound
returns-in_err-check-clause-sound g c = if_err_handed c.from_residual.result _ _ c.from_residual.ensures.1 (λ damage told in_use index held has few size need.
    let never = never_stays g.V.Ground c.args.volume.now index c.args.oid.now c.args.head.now held (length c.args.bytes.now) c.place_of.result c.place_of.ensures has
    (λ i was stands fits. let yes : c.in-Ok-false.field-0 ≡ true = (c.in-Ok-false.ensures.fits told i was stands).1 fits in let isnt : c.in-Ok-false.field-0 ≡ false = c.in-Ok-false.field-0-test in false≢true (sym isnt ∙ yes)) in
    elim (cases_lt 0 (length c.args.bytes.now)) [
      | inl some ↦
          let kept = c.in-Ok-false.ensures.kept c.in-Ok-false.field-0-test in
          let geo = g.V.Ground.leads_geometry c.args.volume.now c.put_small.new.volume kept.leads in
          let yes : c.is_grown.result ≡ true = c.is_grown.ensures.1 (some, omega (arith, few, held_most g.V.Ground c.args.volume.now index c.args.oid.now c.args.head.now held has, size, ap (λ y. y.page_size) geo)) in
          let isnt : c.is_grown.result ≡ false = c.in_err-check.ensures.fault.0 in
          absurd (false≢true (sym isnt ∙ yes))
      | inr none ↦ never (less_stays g.V.Ground c.args.volume.now index c.args.oid.now c.args.head.now held (length c.args.bytes.now) has (omega (arith, none)))
    ])

pub returns-clause-edited : goal.returns-clause-edited
returns-clause-edited g c = IfOk-weaker c.convert.result _ _ (λ done edited told in_use index held has change.
    let kept = c.in-Ok-false.ensures.kept c.in-Ok-false.field-0-test in
    let never = never_stays g.V.Ground c.args.volume.now index c.args.oid.now c.args.head.now held (length c.args.bytes.now) c.place_of.result c.place_of.ensures has
    (λ i was stands fits. let yes : c.in-Ok-false.field-0 ≡ true = (c.in-Ok-false.ensures.fits told i was stands).1 fits in let isnt : c.in-Ok-false.field-0 ≡ false = c.in-Ok-false.field-0-test in false≢true (sym isnt ∙ yes)) in
    kept_turned g.V.Ground c.args.volume.now c.put_small.new.volume c.convert.new.volume index c.args.oid.now c.args.head.now (Small held) change c.args.bytes.now done.gone done.come kept
    (edited (g.V.Ground.leads_told c.args.volume.now c.put_small.new.volume kept.leads told) (kept_in_use g.V.Ground c.args.volume.now c.put_small.new.volume kept in_use) index held
    (kept_version g.V.Ground c.args.volume.now c.put_small.new.volume index c.args.oid.now c.args.head.now (Small held) held kept has)
    (λ stays. never (stayed_before g.V.Ground c.args.volume.now c.put_small.new.volume (place_of c.args.oid.now) (Small held) (length c.args.bytes.now) kept stays)) change)) c.convert.ensures.edited

pub returns-clause-small : goal.returns-clause-small
returns-clause-small g c = ok_of c.convert.result _ (λ told index held has stays.
    absurd (never_stays g.V.Ground c.args.volume.now index c.args.oid.now c.args.head.now held (length c.args.bytes.now) c.place_of.result c.place_of.ensures has
    (λ i was stands fits. let yes : c.in-Ok-false.field-0 ≡ true = (c.in-Ok-false.ensures.fits told i was stands).1 fits in let isnt : c.in-Ok-false.field-0 ≡ false = c.in-Ok-false.field-0-test in false≢true (sym isnt ∙ yes)) stays))

pub returns-clause-touches : goal.returns-clause-touches
returns-clause-touches g c = on_ok_weaker c.convert.result (λ t. omega (arith, t, (c.in-Ok-false.ensures.kept c.in-Ok-false.field-0-test).touched)) c.convert.ensures.touches

pub returns-clause-sound : goal.returns-clause-sound
returns-clause-sound g c = IfErr-weaker c.convert.result _ _ (λ fault sound damage told in_use index held has few size need.
    let kept = c.in-Ok-false.ensures.kept c.in-Ok-false.field-0-test in
    let geo = g.V.Ground.leads_geometry c.args.volume.now c.put_small.new.volume kept.leads in
    let never = never_stays g.V.Ground c.args.volume.now index c.args.oid.now c.args.head.now held (length c.args.bytes.now) c.place_of.result c.place_of.ensures has
    (λ i was stands fits. let yes : c.in-Ok-false.field-0 ≡ true = (c.in-Ok-false.ensures.fits told i was stands).1 fits in let isnt : c.in-Ok-false.field-0 ≡ false = c.in-Ok-false.field-0-test in false≢true (sym isnt ∙ yes)) in
    sound damage (g.V.Ground.leads_told c.args.volume.now c.put_small.new.volume kept.leads told) (kept_in_use g.V.Ground c.args.volume.now c.put_small.new.volume kept in_use) index held
    (kept_version g.V.Ground c.args.volume.now c.put_small.new.volume index c.args.oid.now c.args.head.now (Small held) held kept has)
    (λ area. rw (geo, kept.free) (need never area))) c.convert.ensures.sound

pub returns-in-Err-clause-fault : goal.returns-in-Err-clause-fault
returns-in-Err-clause-fault g c = λ told.
    place_bytes (g.V.Ground.geometry c.args.volume.now) (g.V.Ground.unit c.args.volume.now) (g.V.Ground.held c.args.volume.now) (g.V.Ground.image c.args.volume.now c.place_of.result.page.0) c.place_of.result c.args.oid.now no_tree c.in-Err.fault c.place_of.ensures (c.in-Err.ensures.fault told)

pub returns-in_err-check-clause-fault : goal.returns-in_err-check-clause-fault
returns-in_err-check-clause-fault g c = if_err_handed c.from_residual.result _ _ c.from_residual.ensures.1 (λ told. unlike tt (c.in_err-check.ensures.fault.1 ∙ ap record_fault c.place_of-2.ensures))

pub returns-clause-fault : goal.returns-clause-fault
returns-clause-fault g c = IfErr-weaker c.convert.result _ _ (λ fault h told.
    bytes_kept g.V.Ground c.args.volume.now c.put_small.new.volume (c.in-Ok-false.ensures.kept c.in-Ok-false.field-0-test) c.args.oid.now no_tree _ fault h told) c.convert.ensures.fault

pub returns-in_err-check-clause-small : goal.returns-in_err-check-clause-small
returns-in_err-check-clause-small g c = not_given c.from_residual.result _ c.in_err-check.field-0.0 c.from_residual.ensures.1

pub returns-in_err-check-clause-free : goal.returns-in_err-check-clause-free
returns-in_err-check-clause-free g c = not_given c.from_residual.result _ c.in_err-check.field-0.0 c.from_residual.ensures.1

pub returns-in_err-check-clause-touches : goal.returns-in_err-check-clause-touches
returns-in_err-check-clause-touches g c = not_given c.from_residual.result _ c.in_err-check.field-0.0 c.from_residual.ensures.1

pub returns-in_err-check-clause-size : goal.returns-in_err-check-clause-size
returns-in_err-check-clause-size g c = no_value c.from_residual.result _ c.in_err-check.field-0.0 c.from_residual.ensures.1

pub returns-in_err-check-clause-edited : goal.returns-in_err-check-clause-edited
returns-in_err-check-clause-edited g c = no_value c.from_residual.result _ c.in_err-check.field-0.0 c.from_residual.ensures.1

pub returns-in_err-check-clause-leads : goal.returns-in_err-check-clause-leads
returns-in_err-check-clause-leads g c = c.put_small.ensures.leads

pub returns-in_err-check-clause-cause : goal.returns-in_err-check-clause-cause
returns-in_err-check-clause-cause g c = cause_here (g.V.Ground.faults c.args.volume.now) (g.V.Ground.faults c.put_small.new.volume) c.from_residual.result c.in_err-check.field-0.0 c.from_residual.ensures.1 (c.in_err-check.ensures.cause (g.V.Ground.faults c.args.volume.now) (g.V.Ground.faults c.put_small.new.volume))

pub returns-in-Ok-true-clause-size : goal.returns-in-Ok-true-clause-size
returns-in-Ok-true-clause-size g c = ap (λ (e : Edited). e.size) c.stayed.ensures

pub returns-in-Ok-true-clause-small : goal.returns-in-Ok-true-clause-small
returns-in-Ok-true-clause-small g c = λ told index held has stays. c.in-Ok-true.ensures.free

pub returns-in-Ok-true-clause-free : goal.returns-in-Ok-true-clause-free
returns-in-Ok-true-clause-free g c = λ area. omega (arith, ap (λ (f : Area → ℕ). f area) c.in-Ok-true.ensures.free)

pub returns-in-Ok-true-clause-sound : goal.returns-in-Ok-true-clause-sound
returns-in-Ok-true-clause-sound g c = tt

pub returns-in-Ok-true-clause-fault : goal.returns-in-Ok-true-clause-fault
returns-in-Ok-true-clause-fault g c = tt

pub returns-in-Ok-true-clause-touches : goal.returns-in-Ok-true-clause-touches
returns-in-Ok-true-clause-touches g c = c.in-Ok-true.ensures.touches

pub returns-in-Ok-true-clause-leads : goal.returns-in-Ok-true-clause-leads
returns-in-Ok-true-clause-leads g c = c.put_small.ensures.leads

pub returns-in-Ok-true-clause-cause : goal.returns-in-Ok-true-clause-cause
returns-in-Ok-true-clause-cause g c = tt

pub returns-in-Err-clause-size : goal.returns-in-Err-clause-size
returns-in-Err-clause-size g c = tt

pub returns-in-Err-clause-edited : goal.returns-in-Err-clause-edited
returns-in-Err-clause-edited g c = tt

pub returns-in-Err-clause-small : goal.returns-in-Err-clause-small
returns-in-Err-clause-small g c = tt

pub returns-in-Err-clause-free : goal.returns-in-Err-clause-free
returns-in-Err-clause-free g c = tt

pub returns-in-Err-clause-touches : goal.returns-in-Err-clause-touches
returns-in-Err-clause-touches g c = tt

pub returns-in-Err-clause-leads : goal.returns-in-Err-clause-leads
returns-in-Err-clause-leads g c = c.put_small.ensures.leads

pub returns-in-Err-clause-cause : goal.returns-in-Err-clause-cause
returns-in-Err-clause-cause g c = c.in-Err.ensures.cause

pub returns-clause-size : goal.returns-clause-size
returns-clause-size g c = c.convert.ensures.size

pub returns-clause-leads : goal.returns-clause-leads
returns-clause-leads g c = g.V.Ground.leads_trans c.args.volume.now c.put_small.new.volume c.convert.new.volume c.put_small.ensures.leads c.convert.ensures.leads

pub returns-clause-cause : goal.returns-clause-cause
returns-clause-cause g c = cause_of g.V.Ground c.args.volume.now c.put_small.new.volume c.put_small.ensures.leads c.convert.new.volume c.convert.result c.convert.ensures.cause

pub put_small-requires-clause-ready : goal.put_small-requires-clause-ready
put_small-requires-clause-ready g c = c.requires.ready

pub put_small-requires-clause-head : goal.put_small-requires-clause-head
put_small-requires-clause-head g c = c.requires.head

pub is_grown-requires-clause-ready : goal.is_grown-requires-clause-ready
is_grown-requires-clause-ready g c = g.V.Ground.leads_ready c.args.volume.now c.put_small.new.volume c.put_small.ensures.leads c.requires.ready

pub is_grown-requires-clause-count : goal.is_grown-requires-clause-count
is_grown-requires-clause-count g c = c.requires.count

pub convert-requires-clause-ready : goal.convert-requires-clause-ready
convert-requires-clause-ready g c = g.V.Ground.leads_ready c.args.volume.now c.put_small.new.volume c.put_small.ensures.leads c.requires.ready

pub convert-requires-clause-head : goal.convert-requires-clause-head
convert-requires-clause-head g c = c.requires.head

pub convert-requires-clause-count : goal.convert-requires-clause-count
convert-requires-clause-count g c = c.requires.count

pub convert-requires-clause-some : goal.convert-requires-clause-some
convert-requires-clause-some g c = (c.is_grown.ensures.0 c.in_ok-check.ensures.holds).0

pub convert-requires-clause-limit : goal.convert-requires-clause-limit
convert-requires-clause-limit g c = c.requires.limit

pub convert-requires-clause-page : goal.convert-requires-clause-page
convert-requires-clause-page g c = (c.is_grown.ensures.0 c.in_ok-check.ensures.holds).1

pub returns-in-Err-clause-sound : goal.returns-in-Err-clause-sound
returns-in-Err-clause-sound g c = λ damage told in_use index held has few size need.
    c.in-Err.ensures.sound damage told index has.stored.body (subst (λ (p : Place). HasBody g.V.Ground c.args.volume.now index p has.stored.body) (sym c.place_of.ensures) has.stored.stands)

pub returns-clause-free : goal.returns-clause-free
returns-clause-free g c = on_ok_weaker c.convert.result (λ free area.
    let kept = c.in-Ok-false.ensures.kept c.in-Ok-false.field-0-test in
    let geo = g.V.Ground.leads_geometry c.args.volume.now c.put_small.new.volume kept.leads in
    takes_kept _ _ _ _ _ _ (free area) (ap (λ (f : Area → ℕ). f area) kept.free)
    (ap (λ (y : Geometry). growth_need y c.args.count 0 area) geo) refl) c.convert.ensures.free
