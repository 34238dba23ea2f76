use Rattle.std.proofs.Common.{◌≡◌, ◌≤◌, ◌+◌, ℕ, List, inr, length, refl, subst, sym, ap, ◌∙◌, arith}
use Rattle.std.proofs.lemmas.Result.{IfErr-weaker, IfOk-weaker, on_ok_weaker}
use Rattle.ex_base.specs.declared.geometry.Geometry.{Geometry}
use Rattle.ex_base.specs.declared.names.Area.{Area}
use Rattle.ex_base.specs.declared.names.Place.{Place}
use Rattle.object_records.specs.Record.{Small}
use Rattle.file_bodies.specs.Files.{HasBody}
use Rattle.versions.specs.Versions.{StaysSmall, changed, place_of}
use Rattle.ex_base.specs.Needs.{growth_need}
use Rattle.ex_base.specs.Sizes.{object_most}
use Rattle.versions.specs.Edited.{change_of, TurnsVersion}
use Rattle.versions.specs.Damage.{no_tree}
use Rattle.versions.proofs.Faults.{bytes_kept, step_bytes}
use Rattle.versions.proofs.Standing.{kept_version}
use Rattle.versions.proofs.Becoming.{kept_turned, kept_in_use, kept_stays}
use Rattle.ex_base.proofs.Handed.{cause_of}
use Rattle.versions.proofs.Needed.{enough_kept, few_as, takes_kept}
use Rattle.versions.proofs.editing.edit_small.Goals as goal

pub returns-in-Ok-clause-size : goal.returns-in-Ok-clause-size
returns-in-Ok-clause-size g c = IfOk-weaker c.put_edited.result _ _ (λ n is told index bytes has long.
    let kept = c.edited_small.ensures.kept in
    let told_n = g.V.Ground.leads_told c.args.volume.now c.edited_small.new.volume kept.leads told in
    let has_n = kept_version g.V.Ground c.args.volume.now c.edited_small.new.volume index c.args.oid.now c.args.head.now (Small bytes) bytes kept has in
    let stands = subst (λ (p : Place). HasBody g.V.Ground c.args.volume.now index p has.stored.body) (sym c.place_of.ensures) has.stored.stands in
    let same : c.deref.result.now ≡ changed (change_of c.args.edit.now) bytes = c.deref.ensures.value ∙ c.in-Ok.ensures.bytes told index has.stored.body c.args.head.now bytes stands has.stored.spelled long in
    is ∙ ap length same) c.put_edited.ensures.size

pub returns-in-Ok-clause-edited : goal.returns-in-Ok-clause-edited
returns-in-Ok-clause-edited g c = IfOk-weaker c.put_edited.result _ _ (λ done edits told in_use index bytes has long.
    let kept = c.edited_small.ensures.kept in
    let told_n = g.V.Ground.leads_told c.args.volume.now c.edited_small.new.volume kept.leads told in
    let has_n = kept_version g.V.Ground c.args.volume.now c.edited_small.new.volume index c.args.oid.now c.args.head.now (Small bytes) bytes kept has in
    let stands = subst (λ (p : Place). HasBody g.V.Ground c.args.volume.now index p has.stored.body) (sym c.place_of.ensures) has.stored.stands in
    let same : c.deref.result.now ≡ changed (change_of c.args.edit.now) bytes = c.deref.ensures.value ∙ c.in-Ok.ensures.bytes told index has.stored.body c.args.head.now bytes stands has.stored.spelled long in
    let in_use_n = kept_in_use g.V.Ground c.args.volume.now c.edited_small.new.volume kept in_use in
    kept_turned g.V.Ground c.args.volume.now c.edited_small.new.volume c.put_edited.new.volume index c.args.oid.now c.args.head.now (Small bytes) (change_of c.args.edit.now) (changed (change_of c.args.edit.now) bytes) done.gone done.come kept
    (subst (λ (b : List ℕ). TurnsVersion g.V.Ground c.edited_small.new.volume c.put_edited.new.volume index c.args.oid.now c.args.head.now (Small bytes) (change_of c.args.edit.now) b done.gone done.come) same (edits told_n in_use_n index bytes has_n (change_of c.args.edit.now)))) c.put_edited.ensures.edited

pub returns-in-Ok-clause-small : goal.returns-in-Ok-clause-small
returns-in-Ok-clause-small g c = on_ok_weaker c.put_edited.result (λ small told index bytes has long stays.
    let kept = c.edited_small.ensures.kept in
    let told_n = g.V.Ground.leads_told c.args.volume.now c.edited_small.new.volume kept.leads told in
    let has_n = kept_version g.V.Ground c.args.volume.now c.edited_small.new.volume index c.args.oid.now c.args.head.now (Small bytes) bytes kept has in
    let stands = subst (λ (p : Place). HasBody g.V.Ground c.args.volume.now index p has.stored.body) (sym c.place_of.ensures) has.stored.stands in
    let same : c.deref.result.now ≡ changed (change_of c.args.edit.now) bytes = c.deref.ensures.value ∙ c.in-Ok.ensures.bytes told index has.stored.body c.args.head.now bytes stands has.stored.spelled long in
    let stays_n = kept_stays g.V.Ground c.args.volume.now c.edited_small.new.volume (place_of c.args.oid.now) (Small bytes) (length c.deref.result.now) kept (subst (λ (b : List ℕ). StaysSmall g.V.Ground c.args.volume.now (place_of c.args.oid.now) (Small bytes) (length b)) (sym same) stays) in
    small told_n index bytes has_n stays_n ∙ kept.free) c.put_edited.ensures.small

pub returns-in-Ok-clause-free : goal.returns-in-Ok-clause-free
returns-in-Ok-clause-free g c = on_ok_weaker c.put_edited.result (λ free area.
    let kept = c.edited_small.ensures.kept in
    let geo = g.V.Ground.leads_geometry c.args.volume.now c.edited_small.new.volume kept.leads in
    takes_kept _ _ _ _ _ _ (free area) (ap (λ (f : Area → ℕ). f area) kept.free)
    (ap (λ (y : Geometry). growth_need y c.count.result 0 area) geo ∙ ap (λ (n : ℕ). growth_need (g.V.Ground.geometry c.args.volume.now) n 0 area) c.count.ensures) refl) c.put_edited.ensures.free

pub returns-in-Ok-clause-touches : goal.returns-in-Ok-clause-touches
returns-in-Ok-clause-touches g c = on_ok_weaker c.put_edited.result (λ t. omega (arith, t, c.edited_small.ensures.kept.touched)) c.put_edited.ensures.touches

pub returns-in-Ok-clause-sound : goal.returns-in-Ok-clause-sound
returns-in-Ok-clause-sound g c = IfErr-weaker c.put_edited.result _ _ (λ fault sound damage told in_use index bytes has long need.
    let kept = c.edited_small.ensures.kept in
    let told_n = g.V.Ground.leads_told c.args.volume.now c.edited_small.new.volume kept.leads told in
    let has_n = kept_version g.V.Ground c.args.volume.now c.edited_small.new.volume index c.args.oid.now c.args.head.now (Small bytes) bytes kept has in
    let stands = subst (λ (p : Place). HasBody g.V.Ground c.args.volume.now index p has.stored.body) (sym c.place_of.ensures) has.stored.stands in
    let same : c.deref.result.now ≡ changed (change_of c.args.edit.now) bytes = c.deref.ensures.value ∙ c.in-Ok.ensures.bytes told index has.stored.body c.args.head.now bytes stands has.stored.spelled long in
    let in_use_n = kept_in_use g.V.Ground c.args.volume.now c.edited_small.new.volume kept in_use in
    let geo = g.V.Ground.leads_geometry c.args.volume.now c.edited_small.new.volume kept.leads in
    let few : length c.deref.result.now ≤ length bytes + c.count.result = few_as _ _ _ _ _ _ c.in-Ok.ensures.len (ap length c.deref.ensures.value) long c.count.ensures in
    let size : length (g.V.Ground.image c.edited_small.new.volume c.args.oid.now.page.0) ≡ (g.V.Ground.geometry c.edited_small.new.volume).page_size =
    ap (λ (f : ℕ → List ℕ). length (f c.args.oid.now.page.0)) kept.images ∙ subst (λ (p : Place). length (g.V.Ground.image c.args.volume.now p.page.0) ≡ (g.V.Ground.geometry c.args.volume.now).page_size) c.place_of.ensures (c.in-Ok.ensures.page told index has.stored.body stands) ∙ sym (ap (λ (y : Geometry). y.page_size) geo) in
    sound damage told_n in_use_n index bytes has_n few size
    (λ never area.
    let enough = need (λ stays. never (kept_stays g.V.Ground c.args.volume.now c.edited_small.new.volume (place_of c.args.oid.now) (Small bytes) (length c.deref.result.now) kept (subst (λ (b : List ℕ). StaysSmall g.V.Ground c.args.volume.now (place_of c.args.oid.now) (Small bytes) (length b)) (sym same) stays))) area in
    enough_kept _ _ _ _ _ enough (ap (λ (f : Area → ℕ). f area) kept.free)
    (ap (λ (y : Geometry). growth_need y c.count.result 0 area) geo ∙ ap (λ (n : ℕ). growth_need (g.V.Ground.geometry c.args.volume.now) n 0 area) c.count.ensures) refl)) c.put_edited.ensures.sound

pub returns-in-Err-clause-sound : goal.returns-in-Err-clause-sound
returns-in-Err-clause-sound g c = λ damage told in_use index bytes has long need.
    let stands = subst (λ (p : Place). HasBody g.V.Ground c.args.volume.now index p has.stored.body) (sym c.place_of.ensures) has.stored.stands in
    c.in-Err.ensures.sound damage told index has.stored.body c.args.head.now bytes stands has.stored.spelled long

pub returns-in-Ok-clause-fault : goal.returns-in-Ok-clause-fault
returns-in-Ok-clause-fault g c = IfErr-weaker c.put_edited.result _ _ (λ fault h told.
    inr (bytes_kept g.V.Ground c.args.volume.now c.edited_small.new.volume c.edited_small.ensures.kept c.args.oid.now no_tree _ fault h told)) c.put_edited.ensures.fault

pub returns-in-Err-clause-fault : goal.returns-in-Err-clause-fault
returns-in-Err-clause-fault g c = λ told.
    step_bytes (g.V.Ground.geometry c.args.volume.now) (g.V.Ground.unit c.args.volume.now) (g.V.Ground.image c.args.volume.now) c.place_of.result c.args.oid.now c.in-Err.fault c.place_of.ensures (c.in-Err.ensures.fault told)

pub returns-in-Err-clause-size : goal.returns-in-Err-clause-size
returns-in-Err-clause-size g c = tt

pub returns-in-Err-clause-edited : goal.returns-in-Err-clause-edited
returns-in-Err-clause-edited g c = tt

pub returns-in-Err-clause-small : goal.returns-in-Err-clause-small
returns-in-Err-clause-small g c = tt

pub returns-in-Err-clause-free : goal.returns-in-Err-clause-free
returns-in-Err-clause-free g c = tt

pub returns-in-Err-clause-touches : goal.returns-in-Err-clause-touches
returns-in-Err-clause-touches g c = tt

pub returns-in-Err-clause-leads : goal.returns-in-Err-clause-leads
returns-in-Err-clause-leads g c = c.edited_small.ensures.kept.leads

pub returns-in-Err-clause-cause : goal.returns-in-Err-clause-cause
returns-in-Err-clause-cause g c = c.in-Err.ensures.cause

pub returns-in-Ok-clause-leads : goal.returns-in-Ok-clause-leads
returns-in-Ok-clause-leads g c = g.V.Ground.leads_trans c.args.volume.now c.edited_small.new.volume c.put_edited.new.volume c.edited_small.ensures.kept.leads c.put_edited.ensures.leads

pub returns-in-Ok-clause-cause : goal.returns-in-Ok-clause-cause
returns-in-Ok-clause-cause g c = cause_of g.V.Ground c.args.volume.now c.edited_small.new.volume c.edited_small.ensures.kept.leads c.put_edited.new.volume c.put_edited.result c.put_edited.ensures.cause

pub edited_small-requires-clause-ready : goal.edited_small-requires-clause-ready
edited_small-requires-clause-ready g c = c.requires.ready

pub edited_small-requires-clause-range : goal.edited_small-requires-clause-range
edited_small-requires-clause-range g c = c.requires.range

pub edited_small-requires-clause-short : goal.edited_small-requires-clause-short
edited_small-requires-clause-short g c = c.requires.short

pub put_edited-requires-clause-ready : goal.put_edited-requires-clause-ready
put_edited-requires-clause-ready g c = g.V.Ground.leads_ready c.args.volume.now c.edited_small.new.volume c.edited_small.ensures.kept.leads c.requires.ready

pub put_edited-requires-clause-head : goal.put_edited-requires-clause-head
put_edited-requires-clause-head g c = c.requires.head

pub put_edited-requires-clause-limit : goal.put_edited-requires-clause-limit
put_edited-requires-clause-limit g c = subst (λ (t : List ℕ). length t ≤ object_most) (sym c.deref.ensures.value) c.in-Ok.ensures.limit
