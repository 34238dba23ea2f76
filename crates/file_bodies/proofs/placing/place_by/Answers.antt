use Rattle.std.proofs.Common.{Option, None, subst, length, Bool, false, ap, ℕ, ◌∙◌, sym, ◌≤◌, ◌≡◌}
use Rattle.std.proofs.lemmas.Result.{IfErr-weaker, IfOk-weaker, on_ok_weaker}
use Rattle.ex_base.specs.declared.names.Place.{Place}
use Rattle.ex_base.proofs.Options.{at_none, at_some}
use Rattle.file_bodies.proofs.Moving.{kept_file, kept_put}
use Rattle.file_bodies.proofs.Placed.{placed_old, puts_old, kept_places, kept_puts, none_below, none_from_kept}
use Rattle.file_bodies.specs.Damage.{looking, page_in, IsLook, IsPlacing, IsPlacingFault, roomy, unlisted_file}
use Rattle.file_bodies.proofs.Blame.{carried, carried_held, moved_on}
use Rattle.file_bodies.proofs.PagesGone.{kept_takes, put_takes}
use Rattle.ex_base.proofs.Handed.{cause_after, cause_of}
use Rattle.ex_base.specs.declared.names.Area.TheVariants.{Page, Segment}
use Rattle.file_index.proofs.LaterStates.{page_after}
use Rattle.file_bodies.proofs.LaterSizes.{fits_after, size_after}
use Rattle.ex_base.specs.declared.names.Area.{Area}
use Rattle.file_bodies.proofs.OwnFaults.{own_file}
use Rattle.file_bodies.proofs.TouchedPages.{most_since, free_since, as_many, one_since}
use Rattle.file_bodies.specs.Touches.{body_pages}
use Rattle.file_bodies.proofs.placing.place_by.Goals as goal

pub returns-in-Ok-None-clause-placed : goal.returns-in-Ok-None-clause-placed
returns-in-Ok-None-clause-placed g c = IfOk-weaker c.put_on_new_page.result _ _ (λ place placed told file below.
    let kept = c.put_in_room.ensures.kept in
    let told_b = g.P.Ground.leads_told c.args.pages.now c.put_in_room.new.pages kept.leads told in
    let none = at_none c.in-Ok-None.field-0 _ c.in-Ok-None.field-0-is c.in-Ok-None.ensures.none told file in
    kept_places g.P.Ground c.args.pages.now c.put_in_room.new.pages c.put_on_new_page.new.pages c.args.index.now place c.args.body.now kept
    (placed told_b (kept_file g.P.Ground c.args.pages.now c.put_in_room.new.pages c.args.index.now kept file)
    (none_from_kept g.P.Ground c.args.pages.now c.put_in_room.new.pages c.args.index.now (length c.args.body.now) 0 kept (none_below g.P.Ground c.args.pages.now c.args.index.now c.args.from (length c.args.body.now) below none)))) c.put_on_new_page.ensures.placed

pub returns-in-Ok-None-clause-puts : goal.returns-in-Ok-None-clause-puts
returns-in-Ok-None-clause-puts g c = IfOk-weaker c.put_on_new_page.result _ _ (λ place puts told file.
    let kept = c.put_in_room.ensures.kept in
    let told_b = g.P.Ground.leads_told c.args.pages.now c.put_in_room.new.pages kept.leads told in
    kept_puts g.P.Ground c.args.pages.now c.put_in_room.new.pages c.put_on_new_page.new.pages c.args.index.now place c.args.body.now kept
    (puts told_b (kept_file g.P.Ground c.args.pages.now c.put_in_room.new.pages c.args.index.now kept file))) c.put_on_new_page.ensures.puts

pub returns-in-Ok-clause-puts : goal.returns-in-Ok-clause-puts
returns-in-Ok-clause-puts g c = λ told file.
    let kept = c.put_in_room.ensures.kept in
    let placed = at_some c.in-Ok-Some.field-0 c.in-Ok-Some.place _ c.in-Ok-Some.field-0-is (c.in-Ok-Some.ensures.placed told file) in
    puts_old g.P.Ground c.args.pages.now c.put_in_room.new.pages c.put.new.self c.args.index.now c.args.from c.args.body.now c.put_in_room.new.image c.in-Ok-Some.place file told placed kept c.in-Ok.ensures.put c.put.ensures.leads

pub returns-in-Ok-None-clause-sound : goal.returns-in-Ok-None-clause-sound
returns-in-Ok-None-clause-sound g c = IfErr-weaker c.put_on_new_page.result _ _ (λ fault never damage told file.
    let kept = c.put_in_room.ensures.kept in
    never damage (g.P.Ground.leads_told c.args.pages.now c.put_in_room.new.pages kept.leads told) (kept_file g.P.Ground c.args.pages.now c.put_in_room.new.pages c.args.index.now kept file)) c.put_on_new_page.ensures.sound

pub returns-in-Ok-clause-placed : goal.returns-in-Ok-clause-placed
returns-in-Ok-clause-placed g c = λ told file below.
    let kept = c.put_in_room.ensures.kept in
    let placed = at_some c.in-Ok-Some.field-0 c.in-Ok-Some.place _ c.in-Ok-Some.field-0-is (c.in-Ok-Some.ensures.placed told file) in
    placed_old g.P.Ground c.args.pages.now c.put_in_room.new.pages c.put.new.self c.args.index.now c.args.from c.args.body.now c.put_in_room.new.image c.in-Ok-Some.place file told placed kept c.in-Ok.ensures.put c.put.ensures.leads below

pub returns-in-Ok-None-clause-fault : goal.returns-in-Ok-None-clause-fault
returns-in-Ok-None-clause-fault g c = IfErr-weaker c.put_on_new_page.result _ _ (λ fault h told.
    carried_held g.P.Ground c.args.pages.now c.put_in_room.new.pages (λ y k u. IsPlacingFault y k u c.args.index.now c.args.from fault) c.put_in_room.ensures.kept (λ told_b. h told_b c.args.from) told) c.put_on_new_page.ensures.fault

pub returns-in-Err-clause-fault : goal.returns-in-Err-clause-fault
returns-in-Err-clause-fault g c = λ told. looking (c.in-Err.ensures.fault told)

pub returns-in-Ok-None-clause-way : goal.returns-in-Ok-None-clause-way
returns-in-Ok-None-clause-way g c = IfOk-weaker c.put_on_new_page.result _ _ (λ place h told.
    let kept = c.put_in_room.ensures.kept in
    let look = subst (λ (o : Option Place). IsLook (g.P.Ground.geometry c.args.pages.now) (g.P.Ground.image c.args.pages.now) c.args.index.now c.args.from (page_in o)) c.in-Ok-None.field-0-is (c.in-Ok-None.ensures.way told) in
    carried g.P.Ground c.args.pages.now c.put_in_room.new.pages (λ y u. IsPlacing y u c.args.index.now c.args.from place.page) kept
    (λ told_b. h told_b c.args.from (moved_on g.P.Ground c.args.pages.now c.put_in_room.new.pages c.args.index.now c.args.from None kept look)) told) c.put_on_new_page.ensures.way

pub put-requires-clause-len : goal.put-requires-clause-len
put-requires-clause-len g c = size_after g.P.Ground _ _ c.put_in_room.ensures.kept.leads _ (c.put_in_room.auto.image ∙ c.requires.image)

pub put_on_new_page-requires-clause-image : goal.put_on_new_page-requires-clause-image
put_on_new_page-requires-clause-image g c = size_after g.P.Ground _ _ c.put_in_room.ensures.kept.leads _ (c.put_in_room.auto.image ∙ c.requires.image)

pub returns-in-Ok-clause-leads : goal.returns-in-Ok-clause-leads
returns-in-Ok-clause-leads g c = g.P.Ground.leads_trans _ _ _ c.put_in_room.ensures.kept.leads c.put.ensures.leads

pub returns-in-Err-put-clause-leads : goal.returns-in-Err-put-clause-leads
returns-in-Err-put-clause-leads g c = g.P.Ground.leads_trans _ _ _ c.put_in_room.ensures.kept.leads c.put.ensures.leads

pub returns-in-Ok-None-clause-leads : goal.returns-in-Ok-None-clause-leads
returns-in-Ok-None-clause-leads g c = g.P.Ground.leads_trans _ _ _ c.put_in_room.ensures.kept.leads c.put_on_new_page.ensures.leads

pub put_on_new_page-requires-clause-fits : goal.put_on_new_page-requires-clause-fits
put_on_new_page-requires-clause-fits g c = fits_after g.P.Ground _ _ c.put_in_room.ensures.kept.leads _ c.requires.fits

pub returns-in-Err-put-clause-cause : goal.returns-in-Err-put-clause-cause
returns-in-Err-put-clause-cause g c = cause_after g.P.Ground _ _ c.put_in_room.ensures.kept.leads c.put.new.self c.in-Err-put.fault c.in-Err-put.ensures.cause

pub returns-in-Ok-None-clause-takes : goal.returns-in-Ok-None-clause-takes
returns-in-Ok-None-clause-takes g c =
    on_ok_weaker c.put_on_new_page.result
    (λ takes. kept_takes g.P.Ground c.args.pages.now c.put_in_room.new.pages c.put_on_new_page.new.pages c.put_in_room.ensures.kept takes)
    c.put_on_new_page.ensures.takes

pub returns-in-Ok-None-clause-cause : goal.returns-in-Ok-None-clause-cause
returns-in-Ok-None-clause-cause g c =
    cause_of g.P.Ground _ _ c.put_in_room.ensures.kept.leads c.put_on_new_page.new.pages c.put_on_new_page.result c.put_on_new_page.ensures.cause

pub returns-in-Err-put-clause-fault : goal.returns-in-Err-put-clause-fault
returns-in-Err-put-clause-fault g c = λ told. unlisted_file (own_file _ _ c.in-Err-put.fault c.in-Err-put.ensures.no_damage)

pub returns-in-Ok-clause-way : goal.returns-in-Ok-clause-way
returns-in-Ok-clause-way g c = λ told.
    roomy
    (subst (λ (o : Option Place). IsLook (g.P.Ground.geometry c.args.pages.now) (g.P.Ground.image c.args.pages.now) c.args.index.now c.args.from (page_in o))
    c.in-Ok-Some.field-0-is (c.in-Ok-Some.ensures.way told))

pub put-requires-clause-ready : goal.put-requires-clause-ready
put-requires-clause-ready g c = g.P.Ground.leads_ready _ _ c.put_in_room.ensures.kept.leads c.requires.ready

pub put_on_new_page-requires-clause-ready : goal.put_on_new_page-requires-clause-ready
put_on_new_page-requires-clause-ready g c = g.P.Ground.leads_ready _ _ c.put_in_room.ensures.kept.leads c.requires.ready

pub returns-in-Ok-None-clause-leaves : goal.returns-in-Ok-None-clause-leaves
returns-in-Ok-None-clause-leaves g c =
    on_ok_weaker c.put_on_new_page.result (λ same. same ∙ ap (λ (f : Area → ℕ). f Segment) c.put_in_room.ensures.kept.free) c.put_on_new_page.ensures.leaves

pub returns-in-Ok-None-clause-touches : goal.returns-in-Ok-None-clause-touches
returns-in-Ok-None-clause-touches g c =
    on_ok_weaker c.put_on_new_page.result (λ most. most_since _ _ _ _ most c.put_in_room.ensures.kept.touched) c.put_on_new_page.ensures.touches

pub returns-in-Ok-None-clause-free : goal.returns-in-Ok-None-clause-free
returns-in-Ok-None-clause-free g c =
    on_ok_weaker c.put_on_new_page.result (λ few. free_since _ _ _ _ few (ap (λ (f : Area → ℕ). f Page) c.put_in_room.ensures.kept.free))
    c.put_on_new_page.ensures.free

pub returns-in-Ok-clause-free : goal.returns-in-Ok-clause-free
returns-in-Ok-clause-free g c = as_many _ _ _ (ap (λ (f : Area → ℕ). f Page) (c.in-Ok.ensures.put.free ∙ c.put_in_room.ensures.kept.free))

pub returns-in-Ok-clause-leaves : goal.returns-in-Ok-clause-leaves
returns-in-Ok-clause-leaves g c = ap (λ (f : Area → ℕ). f Segment) (c.in-Ok.ensures.put.free ∙ c.put_in_room.ensures.kept.free)

pub put-requires-clause-page : goal.put-requires-clause-page
put-requires-clause-page g c =
    (page_after g.P.Ground _ _ c.put_in_room.ensures.kept.leads _ (at_some c.in-Ok-Some.field-0 c.in-Ok-Some.place _ c.in-Ok-Some.field-0-is
    c.in-Ok-Some.ensures.area)).0

pub returns-in-Err-put-clause-sound : goal.returns-in-Err-put-clause-sound
returns-in-Err-put-clause-sound g c = λ damage told file. c.in-Err-put.ensures.no_damage damage

pub returns-in-Ok-clause-takes : goal.returns-in-Ok-clause-takes
returns-in-Ok-clause-takes g c = put_takes g.P.Ground c.args.pages.now c.put.new.self c.in-Ok-Some.place.page.0 c.put_in_room.new.image
    (kept_put g.P.Ground c.args.pages.now c.put_in_room.new.pages c.put.new.self c.in-Ok-Some.place.page.0 c.put_in_room.new.image c.put_in_room.ensures.kept
    c.in-Ok.ensures.put)

pub put_on_new_page-requires-clause-free : goal.put_on_new_page-requires-clause-free
put_on_new_page-requires-clause-free g c = subst (λ (f : Area → ℕ). body_pages ≤ f Page) (sym c.put_in_room.ensures.kept.free) c.requires.free

pub returns-in-Err-clause-sound : goal.returns-in-Err-clause-sound
returns-in-Err-clause-sound g c = c.in-Err.ensures.sound

pub returns-in-Ok-clause-touches : goal.returns-in-Ok-clause-touches
returns-in-Ok-clause-touches g c = one_since _ _ _ c.put.ensures.touched c.put_in_room.ensures.kept.touched

pub put-requires-clause-held : goal.put-requires-clause-held
put-requires-clause-held g c =
    ap (λ (f : ℕ → Bool). f c.in-Ok-Some.place.page.0) c.put_in_room.ensures.kept.held ∙ at_some c.in-Ok-Some.field-0 c.in-Ok-Some.place _
    c.in-Ok-Some.field-0-is c.in-Ok-Some.ensures.held

pub returns-in-Err-clause-cause : goal.returns-in-Err-clause-cause
returns-in-Err-clause-cause g c = c.in-Err.ensures.cause

pub returns-in-Err-clause-leads : goal.returns-in-Err-clause-leads
returns-in-Err-clause-leads g c = c.put_in_room.ensures.kept.leads

pub put_on_new_page-requires-clause-usable : goal.put_on_new_page-requires-clause-usable
put_on_new_page-requires-clause-usable g c = c.requires.usable

pub put_on_new_page-requires-clause-some : goal.put_on_new_page-requires-clause-some
put_on_new_page-requires-clause-some g c = c.requires.some

pub returns-in-Ok-None-clause-grows : goal.returns-in-Ok-None-clause-grows
returns-in-Ok-None-clause-grows g c = IfOk-weaker c.put_on_new_page.result _ _ (λ place fresh held.
    let gone : g.P.Ground.held c.args.pages.now place.page.0 ≡ false = subst (λ (h : ℕ → Bool). h place.page.0 ≡ false) c.put_in_room.ensures.kept.held fresh in
    absurd cc) c.put_on_new_page.ensures.fresh

pub returns-in-Ok-clause-grows : goal.returns-in-Ok-clause-grows
returns-in-Ok-clause-grows g c = λ held. c.in-Ok.ensures.put.free ∙ c.put_in_room.ensures.kept.free
