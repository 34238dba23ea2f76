use Rattle.ex_base.specs.Ports.{HasCause}
use Rattle.ex_base.proofs.Keeping.{keeps_on}
use Rattle.std.proofs.Common.{◌≤◌, ℕ, List, Option, length, subst, sym, ap, arith}
use Rattle.std.proofs.lemmas.Result.{IfOk-weaker, IfErr-weaker}
use Rattle.ex_base.specs.declared.geometry.Geometry.{Geometry}
use Rattle.ex_base.proofs.Geometries.{page_le}
use Rattle.object_records.specs.declared.Head.{Head}
use Rattle.object_records.specs.Record.{BodyOf}
use Rattle.file_bodies.proofs.Belonging.{file_of_body}
use Rattle.file_bodies.proofs.Moving.{kept_body}
use Rattle.versions.proofs.Results.{of_found}
use Rattle.versions.proofs.Standing.{one_body}
use Rattle.history_dump.specs.Items.{IsOlderNumber, IsVersionOf}
use Rattle.history_dump.proofs.Contents.{body_inside}
use Rattle.ex_base.proofs.Handed.{cause_here, no_value, cause_after}
use Rattle.history_dump.proofs.version.put_version.Goals as goal

pub returns-in-Ok-clause-cause : goal.returns-in-Ok-clause-cause
returns-in-Ok-clause-cause g c = c.put_body.ensures.cause _ _

pub returns-in-Ok-clause-item : goal.returns-in-Ok-clause-item
returns-in-Ok-clause-item g c = IfOk-weaker c.put_body.result _ _ (λ n h told index v is.
    let b = c.older_at.new.volume in
    let kept = c.in_ok-older.ensures.kept in
    let told_b = g.V.Ground.leads_told c.args.volume.now b kept.leads told in
    let has = kept_body g.V.Ground c.args.volume.now b index c.args.listed.now.place is.body kept is.stands in
    let older = c.in_ok-older.ensures.number told index v.older (subst (λ (hd : Head). IsOlderNumber g.V.Ground c.args.volume.now index hd.older v.older) (sym is.head) is.older) in
    of_found c.in-Ok.body _ _ _ _ (c.in-Ok.ensures.found told_b (file_of_body g.V.Ground b index c.args.listed.now.place is.body has)) h
    (λ never. absurd (never is.body (record { index = index; has = has })))
    (λ x some made. made is.is v (subst (λ (t : List ℕ). BodyOf t is.is) (sym (one_body g.V.Ground b index c.args.listed.now.place x.now is.body some has)) is.spelled)
    (subst (λ (o : Option ℕ). IsVersionOf c.args.plan.now is.is o v) older is.version))) c.put_body.ensures.item

pub returns-in-Ok-clause-sound : goal.returns-in-Ok-clause-sound
returns-in-Ok-clause-sound g c = IfErr-weaker c.put_body.result _ _ (λ fault h damage told index v is.
    let b = c.older_at.new.volume in
    let kept = c.in_ok-older.ensures.kept in
    let told_b = g.V.Ground.leads_told c.args.volume.now b kept.leads told in
    let has = kept_body g.V.Ground c.args.volume.now b index c.args.listed.now.place is.body kept is.stands in
    let older = c.in_ok-older.ensures.number told index v.older (subst (λ (hd : Head). IsOlderNumber g.V.Ground c.args.volume.now index hd.older v.older) (sym is.head) is.older) in
    let page = c.in-Ok.ensures.page told_b index is.body has in
    let inside = body_inside g.V.Ground b index c.args.listed.now.place is.body has in
    let same_size = ap (λ (y : Geometry). y.page_size) (g.V.Ground.leads_geometry c.args.volume.now b kept.leads) in
    let short : length is.body ≤ length c.args.out.now = omega (arith, page, inside, same_size, page_le (g.V.Ground.geometry c.args.volume.now), c.requires.room) in
    of_found c.in-Ok.body _ _ _ _ (c.in-Ok.ensures.found told_b (file_of_body g.V.Ground b index c.args.listed.now.place is.body has)) h
    (λ never. never is.body (record { index = index; has = has }))
    (λ x some never.
    let same = one_body g.V.Ground b index c.args.listed.now.place x.now is.body some has in
    never is.is v (subst (λ (t : List ℕ). BodyOf t is.is) (sym same) is.spelled) (subst (λ (t : List ℕ). length t ≤ length c.args.out.now) (sym same) short)
    (subst (λ (o : Option ℕ). IsVersionOf c.args.plan.now is.is o v) older is.version))) c.put_body.ensures.sound

pub returns-in-Err-clause-sound : goal.returns-in-Err-clause-sound
returns-in-Err-clause-sound g c = λ damage told index v is.
    let b = c.older_at.new.volume in
    let kept = c.in_ok-older.ensures.kept in
    let told_b = g.V.Ground.leads_told c.args.volume.now b kept.leads told in
    let has = kept_body g.V.Ground c.args.volume.now b index c.args.listed.now.place is.body kept is.stands in
    c.in-Err.ensures.sound damage told_b (file_of_body g.V.Ground b index c.args.listed.now.place is.body has)

pub older_at-requires : goal.older_at-requires
older_at-requires g c = c.requires.ready

pub returns-in_err-older-clause-item : goal.returns-in_err-older-clause-item
returns-in_err-older-clause-item g c = no_value c.from_residual.result _ c.in_err-older.field-0.0 c.from_residual.ensures.1

pub returns-in_err-older-clause-some : goal.returns-in_err-older-clause-some
returns-in_err-older-clause-some g c = no_value c.from_residual.result _ c.in_err-older.field-0.0 c.from_residual.ensures.1

pub returns-in_err-older-clause-inside : goal.returns-in_err-older-clause-inside
returns-in_err-older-clause-inside g c = no_value c.from_residual.result _ c.in_err-older.field-0.0 c.from_residual.ensures.1

pub returns-in_err-older-clause-kept : goal.returns-in_err-older-clause-kept
returns-in_err-older-clause-kept g c = c.in_err-older.ensures.kept

pub returns-in_err-older-clause-cause : goal.returns-in_err-older-clause-cause
returns-in_err-older-clause-cause g c = cause_here (g.V.Ground.faults c.args.volume.now) (g.V.Ground.faults c.older_at.new.volume) c.from_residual.result c.in_err-older.field-0.0 c.from_residual.ensures.1 c.in_err-older.ensures.cause

pub returns-in-Err-clause-item : goal.returns-in-Err-clause-item
returns-in-Err-clause-item g c = tt

pub returns-in-Err-clause-some : goal.returns-in-Err-clause-some
returns-in-Err-clause-some g c = tt

pub returns-in-Err-clause-inside : goal.returns-in-Err-clause-inside
returns-in-Err-clause-inside g c = tt

pub returns-in-Ok-clause-some : goal.returns-in-Ok-clause-some
returns-in-Ok-clause-some g c = c.put_body.ensures.some

pub returns-in-Ok-clause-inside : goal.returns-in-Ok-clause-inside
returns-in-Ok-clause-inside g c = c.put_body.ensures.inside

pub returns-in-Ok-clause-kept : goal.returns-in-Ok-clause-kept
returns-in-Ok-clause-kept g c = keeps_on g.V.Ground c.args.volume.now c.older_at.new.volume c.body_at.follows.lender-at-none c.in_ok-older.ensures.kept c.body_at.follows.holds-at-none.0

pub returns-in-Err-clause-kept : goal.returns-in-Err-clause-kept
returns-in-Err-clause-kept g c = keeps_on g.V.Ground c.args.volume.now c.older_at.new.volume c.body_at.follows.lender-at-none c.in_ok-older.ensures.kept c.body_at.follows.holds-at-none.0

pub returns-in-Err-clause-cause : goal.returns-in-Err-clause-cause
returns-in-Err-clause-cause g c = cause_after g.V.Ground c.args.volume.now c.older_at.new.volume c.in_ok-older.ensures.kept.leads c.body_at.follows.lender-at-none c.in-Err.fault
    (subst (λ (r : _). HasCause (g.V.Ground.faults c.older_at.new.volume) (g.V.Ground.faults c.body_at.follows.lender-at-none) r) c.in-Err.is c.body_at.follows.holds-at-none.1)
