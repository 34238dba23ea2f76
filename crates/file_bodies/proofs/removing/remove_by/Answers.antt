use Rattle.std.proofs.Common.{◌≡◌, ℕ, List, [], length, arith, None, subst, sym, ap, ◌∙◌, Bool}
use Rattle.std.proofs.lemmas.Result.{IfErr-weaker, on_ok_weaker}
use Rattle.std.specs.Prelude.{Contains}
use Rattle.slotted_pages.specs.Reads.{page_on}
use Rattle.slotted_pages.specs.Edits.{slots_of, with_slot, with_slots, trimmed}
use Rattle.file_bodies.specs.Bodies.{pages_in}
use Rattle.file_bodies.proofs.Pages.{is_page, slots_are}
use Rattle.file_bodies.proofs.Moving.{kept_file, kept_put}
use Rattle.file_bodies.proofs.Slots.{page_of, body_sound, body_removed}
use Rattle.file_bodies.proofs.Leaving.{left_edits, kept_leaves}
use Rattle.file_index.specs.Damage.{HasWay}
use Rattle.file_bodies.specs.Damage.{leaving, IsListedFault, IsLeavingFault, HasListed, no_record}
use Rattle.file_bodies.proofs.Blame.{carried, carried_held}
use Rattle.file_index.proofs.LaterStates.{page_after}
use Rattle.file_bodies.proofs.OwnFaults.{own_place}
use Rattle.file_bodies.proofs.LaterSizes.{size_after}
use Rattle.ex_base.specs.declared.names.Area.TheVariants.{Page, Segment}
use Rattle.file_bodies.proofs.PagesGone.{kept_gives, put_gives}
use Rattle.ex_base.proofs.Handed.{cause_of}
use Rattle.ex_base.specs.declared.names.Area.{Area}
use Rattle.ex_base.proofs.Results.{on_ok_from}
use Rattle.file_bodies.proofs.TouchedPages.{most_since, free_still, one_since, no_fewer}
use Rattle.file_bodies.proofs.removing.remove_by.Goals as goal
use Rattle.ex_base.proofs.Counts.{contains_times}

pub returns-in-Err-clause-sound : goal.returns-in-Err-clause-sound
returns-in-Err-clause-sound g c = λ damage told index body has. body_sound g.P.Ground c.args.pages.now index c.args.place body has (c.in-Err.ensures.sound damage told)

pub has_slots-requires : goal.has_slots-requires
has_slots-requires g c = is_page c.remove_body.new.image _ c.remove_body.ensures

pub returns-then-has_slots-clause-removes : goal.returns-then-has_slots-clause-removes
returns-then-has_slots-clause-removes g c = on_ok_weaker c.put.result (λ put told index body has. record {
  after = index;
  edit = body_removed g.P.Ground c.args.pages.now c.load_body_page.new.pages c.put.new.self index c.args.place body c.load_body_page.new.out c.remove_body.new.image has c.load_body_page.ensures.kept told
      (c.in-Ok.ensures.bytes told) c.remove_body.ensures (c.has_slots.ensures.some c.if-has_slots.true) put c.put.ensures.leads;
}) c.put.ensures.put

pub returns-clause-removes : goal.returns-clause-removes
returns-clause-removes g c = on_ok_weaker c.drop_page.result (λ leaves told index body has.
    let kept = c.load_body_page.ensures.kept in
    let told_b = g.P.Ground.leads_told c.args.pages.now c.load_body_page.new.pages kept.leads told in
    let read = c.in-Ok.ensures.bytes told in
    let at = contains_times c.args.place.page.0 (pages_in (g.P.Ground.image c.args.pages.now) index) has.named in
    let number : index.file_no ≡ c.in-Ok.file_no = sym (page_of g.P.Ground c.args.pages.now index c.args.place.page.0 has.file at).number ∙ ap (λ (t : List ℕ). (page_on t).file_no) (sym read) ∙ c.in-Ok.ensures.file in
    let named_b : Contains (pages_in (g.P.Ground.image c.load_body_page.new.pages) index) c.args.place.page.0 = rw kept.images has.named in
    let empty : trimmed (with_slot (slots_of c.load_body_page.new.out) c.args.place.slot None) ≡ [] =
    sym (slots_are c.remove_body.new.image (with_slots (page_on c.load_body_page.new.out) (trimmed (with_slot (slots_of c.load_body_page.new.out) c.args.place.slot None))) c.remove_body.ensures) ∙ c.has_slots.ensures.none c.if-has_slots.false in
    left_edits g.P.Ground c.args.pages.now c.drop_page.new.pages index c.args.place body has
    (kept_leaves g.P.Ground c.args.pages.now c.load_body_page.new.pages c.drop_page.new.pages index c.args.place.page.0 kept (leaves told_b index (kept_file g.P.Ground c.args.pages.now c.load_body_page.new.pages index kept has.file) number named_b))
    (subst (λ (t : List ℕ). trimmed (with_slot (slots_of t) c.args.place.slot None) ≡ []) read empty)) c.drop_page.ensures.leaves

pub returns-clause-sound : goal.returns-clause-sound
returns-clause-sound g c = IfErr-weaker c.drop_page.result _ _ (λ fault never damage told index body has.
    let kept = c.load_body_page.ensures.kept in
    let told_b = g.P.Ground.leads_told c.args.pages.now c.load_body_page.new.pages kept.leads told in
    let read = c.in-Ok.ensures.bytes told in
    let at = contains_times c.args.place.page.0 (pages_in (g.P.Ground.image c.args.pages.now) index) has.named in
    let number : index.file_no ≡ c.in-Ok.file_no = sym (page_of g.P.Ground c.args.pages.now index c.args.place.page.0 has.file at).number ∙ ap (λ (t : List ℕ). (page_on t).file_no) (sym read) ∙ c.in-Ok.ensures.file in
    never damage told_b index (kept_file g.P.Ground c.args.pages.now c.load_body_page.new.pages index kept has.file) number) c.drop_page.ensures.sound

pub returns-clause-fault : goal.returns-clause-fault
returns-clause-fault g c = IfErr-weaker c.drop_page.result _ _ (λ fault h told.
    let read = c.in-Ok.ensures.bytes told in
    let number : c.in-Ok.file_no ≡ (page_on (g.P.Ground.image c.args.pages.now c.args.place.page.0)).file_no = sym c.in-Ok.ensures.file ∙ ap (λ (t : List ℕ). (page_on t).file_no) read in
    leaving (c.in-Ok.ensures.has told)
    (subst (λ (n : ℕ). IsListedFault (g.P.Ground.image c.args.pages.now) n (λ index. IsLeavingFault (g.P.Ground.geometry c.args.pages.now) (g.P.Ground.held c.args.pages.now) (g.P.Ground.image c.args.pages.now) (g.P.Ground.held c.drop_page.new.pages) (g.P.Ground.image c.drop_page.new.pages) index c.args.place.page.0 fault) fault) number
    (carried_held g.P.Ground c.args.pages.now c.load_body_page.new.pages (λ y k u. IsListedFault u c.in-Ok.file_no (λ index. IsLeavingFault y k u (g.P.Ground.held c.drop_page.new.pages) (g.P.Ground.image c.drop_page.new.pages) index c.args.place.page.0 fault) fault) c.load_body_page.ensures.kept h told))) c.drop_page.ensures.fault

pub returns-then-has_slots-clause-way : goal.returns-then-has_slots-clause-way
returns-then-has_slots-clause-way g c = on_ok_weaker c.put.result (λ put told last.
    let empty : trimmed (with_slot (slots_of c.load_body_page.new.out) c.args.place.slot None) ≡ [] = subst (λ (t : List ℕ). trimmed (with_slot (slots_of t) c.args.place.slot None) ≡ []) (sym (c.in-Ok.ensures.bytes told)) last in
    let none = slots_are c.remove_body.new.image (with_slots (page_on c.load_body_page.new.out) (trimmed (with_slot (slots_of c.load_body_page.new.out) c.args.place.slot None))) c.remove_body.ensures ∙ empty in
    absurd (omega (arith, c.has_slots.ensures.some c.if-has_slots.true, ap length none))) c.put.ensures.put

pub returns-clause-way : goal.returns-clause-way
returns-clause-way g c = on_ok_weaker c.drop_page.result (λ h told last.
    let read = c.in-Ok.ensures.bytes told in
    let number : c.in-Ok.file_no ≡ (page_on (g.P.Ground.image c.args.pages.now c.args.place.page.0)).file_no = sym c.in-Ok.ensures.file ∙ ap (λ (t : List ℕ). (page_on t).file_no) read in
    subst (λ (n : ℕ). HasListed (g.P.Ground.image c.args.pages.now) n (λ index. HasWay (g.P.Ground.geometry c.args.pages.now) (g.P.Ground.image c.args.pages.now) index c.args.place.page.0)) number
    (carried g.P.Ground c.args.pages.now c.load_body_page.new.pages (λ y u. HasListed u c.in-Ok.file_no (λ index. HasWay y u index c.args.place.page.0)) c.load_body_page.ensures.kept h told)) c.drop_page.ensures.way

pub put-requires-clause-len : goal.put-requires-clause-len
put-requires-clause-len g c =
    size_after g.P.Ground _ _ c.load_body_page.ensures.kept.leads _ (c.remove_body.auto.image ∙ c.load_body_page.auto.out ∙ c.requires.image)

pub drop_page-requires-clause-buffer : goal.drop_page-requires-clause-buffer
drop_page-requires-clause-buffer g c =
    size_after g.P.Ground _ _ c.load_body_page.ensures.kept.leads _ (c.remove_body.auto.image ∙ c.load_body_page.auto.out ∙ c.requires.image)

pub returns-then-has_slots-clause-sound : goal.returns-then-has_slots-clause-sound
returns-then-has_slots-clause-sound g c = IfErr-weaker c.put.result _ _ (λ fault never damage told index body has. never damage) c.put.ensures.no_damage

pub returns-clause-leads : goal.returns-clause-leads
returns-clause-leads g c = g.P.Ground.leads_trans _ _ _ c.load_body_page.ensures.kept.leads c.drop_page.ensures.leads

pub returns-then-has_slots-clause-leads : goal.returns-then-has_slots-clause-leads
returns-then-has_slots-clause-leads g c = g.P.Ground.leads_trans _ _ _ c.load_body_page.ensures.kept.leads c.put.ensures.leads

pub returns-clause-cause : goal.returns-clause-cause
returns-clause-cause g c = cause_of g.P.Ground _ _ c.load_body_page.ensures.kept.leads c.drop_page.new.pages c.drop_page.result c.drop_page.ensures.cause

pub returns-then-has_slots-clause-cause : goal.returns-then-has_slots-clause-cause
returns-then-has_slots-clause-cause g c = cause_of g.P.Ground _ _ c.load_body_page.ensures.kept.leads c.put.new.self c.put.result c.put.ensures.cause

pub returns-clause-gives : goal.returns-clause-gives
returns-clause-gives g c =
    on_ok_weaker c.drop_page.result
    (λ gives. kept_gives g.P.Ground c.args.pages.now c.load_body_page.new.pages c.drop_page.new.pages c.load_body_page.ensures.kept gives)
    c.drop_page.ensures.gives

pub returns-then-has_slots-clause-gives : goal.returns-then-has_slots-clause-gives
returns-then-has_slots-clause-gives g c = on_ok_weaker c.put.result (λ put.
    put_gives g.P.Ground c.args.pages.now c.put.new.self c.args.place.page.0 c.remove_body.new.image
    (kept_put g.P.Ground c.args.pages.now c.load_body_page.new.pages c.put.new.self c.args.place.page.0 c.remove_body.new.image c.load_body_page.ensures.kept
    put)) c.put.ensures.put

pub returns-then-has_slots-clause-fault : goal.returns-then-has_slots-clause-fault
returns-then-has_slots-clause-fault g c = IfErr-weaker c.put.result _ _ (λ fault never told. no_record (own_place _ _ _ _ fault never)) c.put.ensures.no_damage

pub drop_page-requires-clause-ready : goal.drop_page-requires-clause-ready
drop_page-requires-clause-ready g c = g.P.Ground.leads_ready _ _ c.load_body_page.ensures.kept.leads c.requires.ready

pub put-requires-clause-ready : goal.put-requires-clause-ready
put-requires-clause-ready g c = g.P.Ground.leads_ready _ _ c.load_body_page.ensures.kept.leads c.requires.ready

pub returns-clause-has : goal.returns-clause-has
returns-clause-has g c = on_ok_from c.drop_page.result _ (λ x is. c.in-Ok.ensures.has)

pub returns-then-has_slots-clause-has : goal.returns-then-has_slots-clause-has
returns-then-has_slots-clause-has g c = on_ok_from c.put.result _ (λ x is. c.in-Ok.ensures.has)

pub drop_page-requires-clause-page : goal.drop_page-requires-clause-page
drop_page-requires-clause-page g c = page_after g.P.Ground _ _ c.load_body_page.ensures.kept.leads _ c.in-Ok.ensures.area

pub put-requires-clause-page : goal.put-requires-clause-page
put-requires-clause-page g c = (page_after g.P.Ground _ _ c.load_body_page.ensures.kept.leads _ c.in-Ok.ensures.area).0

pub returns-clause-touches : goal.returns-clause-touches
returns-clause-touches g c = on_ok_weaker c.drop_page.result (λ most. most_since _ _ _ _ most c.load_body_page.ensures.kept.touched) c.drop_page.ensures.touches

pub returns-clause-leaves : goal.returns-clause-leaves
returns-clause-leaves g c =
    on_ok_weaker c.drop_page.result (λ same. same ∙ ap (λ (f : Area → ℕ). f Segment) c.load_body_page.ensures.kept.free) c.drop_page.ensures.segments

pub returns-clause-free : goal.returns-clause-free
returns-clause-free g c =
    on_ok_weaker c.drop_page.result (λ few. free_still _ _ _ few (ap (λ (f : Area → ℕ). f Page) c.load_body_page.ensures.kept.free)) c.drop_page.ensures.free

pub returns-then-has_slots-clause-touches : goal.returns-then-has_slots-clause-touches
returns-then-has_slots-clause-touches g c = on_ok_from c.put.result _ (λ x is. one_since _ _ _ c.put.ensures.touched c.load_body_page.ensures.kept.touched)

pub returns-in-Err-clause-fault : goal.returns-in-Err-clause-fault
returns-in-Err-clause-fault g c = λ told. no_record (c.in-Err.ensures.fault told)

pub put-requires-clause-held : goal.put-requires-clause-held
put-requires-clause-held g c = ap (λ (f : ℕ → Bool). f c.args.place.page.0) c.load_body_page.ensures.kept.held ∙ c.in-Ok.ensures.held

pub drop_page-requires-clause-held : goal.drop_page-requires-clause-held
drop_page-requires-clause-held g c = ap (λ (f : ℕ → Bool). f c.args.place.page.0) c.load_body_page.ensures.kept.held ∙ c.in-Ok.ensures.held

pub returns-then-has_slots-clause-leaves : goal.returns-then-has_slots-clause-leaves
returns-then-has_slots-clause-leaves g c = on_ok_weaker c.put.result (λ put. ap (λ (f : Area → ℕ). f Segment)
    (kept_put g.P.Ground c.args.pages.now c.load_body_page.new.pages c.put.new.self c.args.place.page.0 c.remove_body.new.image c.load_body_page.ensures.kept
    put).free) c.put.ensures.put

pub returns-then-has_slots-clause-free : goal.returns-then-has_slots-clause-free
returns-then-has_slots-clause-free g c = on_ok_weaker c.put.result (λ put. no_fewer _ _ (ap (λ (f : Area → ℕ). f Page)
    (kept_put g.P.Ground c.args.pages.now c.load_body_page.new.pages c.put.new.self c.args.place.page.0 c.remove_body.new.image c.load_body_page.ensures.kept
    put).free)) c.put.ensures.put

pub returns-in-Err-clause-cause : goal.returns-in-Err-clause-cause
returns-in-Err-clause-cause g c = c.in-Err.ensures.cause

pub returns-in-Err-clause-leads : goal.returns-in-Err-clause-leads
returns-in-Err-clause-leads g c = c.load_body_page.ensures.kept.leads

pub remove_body-requires-clause-live : goal.remove_body-requires-clause-live
remove_body-requires-clause-live g c = c.in-Ok.ensures.live

pub remove_body-requires-clause-page : goal.remove_body-requires-clause-page
remove_body-requires-clause-page g c = c.in-Ok.ensures.of
