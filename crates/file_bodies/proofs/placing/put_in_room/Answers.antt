use Rattle.std.proofs.Common.{◌≡◌, ◌≤◌, ◌+◌, refl, ℕ, Bool, length, sym, ◌∙◌, subst, List, Some, None, arith, ap}
use Rattle.slotted_pages.specs.FilePage.{SlotsOf}
use Rattle.slotted_pages.specs.Reads.{page_on}
use Rattle.slotted_pages.specs.Edits.{slots_of, with_slot, with_slots}
use Rattle.file_index.specs.Least.{IsAtLeast}
use Rattle.file_bodies.proofs.Searching.{file_now, told_now, none_left, passed_to, passed_page, page_named, load_sound, slot_read, search_starts}
use Rattle.file_index.specs.Damage.{every_page, IsIndexFault}
use Rattle.file_bodies.specs.Damage.{lost_way, IsLook, IsLookFault}
use Rattle.file_bodies.proofs.Blame.{carried, moved_on, look_from, look_ends, look_here, look_on, look_blames}
use Rattle.file_bodies.proofs.LaterSizes.{lies_before, size_after}
use Rattle.ex_base.proofs.Handed.{cause_after}
use Rattle.file_bodies.proofs.PageNumbers.{nearer_end, small_next}
use Rattle.ex_base.specs.declared.geometry.Geometry.{Geometry}
use Rattle.file_bodies.proofs.placing.put_in_room.Goals as goal
use Rattle.ex_base.proofs.Keeping.{keeps_on}

pub returns-in-Ok-None-clause-none : goal.returns-in-Ok-None-clause-none
returns-in-Ok-None-clause-none g c = λ told file.
    let told_b = told_now g.P.Ground c.args.pages.now c.searched.pages c.args.index.now (length c.args.body.now) c.args.from c.searched.key c.searched.invariant told file in
    let file_b = file_now g.P.Ground c.args.pages.now c.searched.pages c.args.index.now (length c.args.body.now) c.args.from c.searched.key c.searched.invariant told file in
    none_left g.P.Ground c.args.pages.now c.searched.pages c.args.index.now (length c.args.body.now) c.args.from c.searched.key c.searched.invariant told file c.in-Ok-None.field-0 c.in-Ok-None.field-0-is (c.in-Ok-None.ensures.least told_b file_b.whole)

pub returns-in-Err-load_page-clause-sound : goal.returns-in-Err-load_page-clause-sound
returns-in-Err-load_page-clause-sound g c = λ damage told file.
    let told_b = told_now g.P.Ground c.args.pages.now c.searched.pages c.args.index.now (length c.args.body.now) c.args.from c.searched.key c.searched.invariant told file in
    let file_b = file_now g.P.Ground c.args.pages.now c.searched.pages c.args.index.now (length c.args.body.now) c.args.from c.searched.key c.searched.invariant told file in
    load_sound g.P.Ground c.args.pages.now c.searched.pages c.args.index.now (length c.args.body.now) c.args.from c.searched.key c.searched.invariant told file c.in-Ok-Some.page c.in-Ok-Some.field-0 c.in-Ok-Some.field-0-is (c.in-Ok-Some.ensures.least told_b file_b.whole)
    c.at_least.new.pages c.at_least.ensures.kept (c.in-Err-load_page.ensures.sound damage (g.P.Ground.leads_told c.searched.pages c.at_least.new.pages c.at_least.ensures.kept.leads told_b))

pub returns-in-Some-clause-placed : goal.returns-in-Some-clause-placed
returns-in-Some-clause-placed g c = λ told file.
    let told_b = told_now g.P.Ground c.args.pages.now c.searched.pages c.args.index.now (length c.args.body.now) c.args.from c.searched.key c.searched.invariant told file in
    let file_b = file_now g.P.Ground c.args.pages.now c.searched.pages c.args.index.now (length c.args.body.now) c.args.from c.searched.key c.searched.invariant told file in
    let told_c = g.P.Ground.leads_told c.searched.pages c.at_least.new.pages c.at_least.ensures.kept.leads told_b in
    let least = c.in-Ok-Some.ensures.least told_b file_b.whole in
    let kept_c = keeps_on g.P.Ground c.args.pages.now c.searched.pages c.at_least.new.pages c.searched.invariant.kept c.at_least.ensures.kept in
    let read : c.load_page.new.out ≡ g.P.Ground.image c.at_least.new.pages c.in-Ok-Some.page.0 = c.in-Ok.ensures.bytes told_c in
    let size : length c.load_page.new.out ≡ (g.P.Ground.geometry c.args.pages.now).page_size = omega (arith, c.load_page.auto.out, c.searched.auto.image, c.requires.image) in
    let at : g.P.Ground.image c.at_least.new.pages c.in-Ok-Some.page.0 ≡ g.P.Ground.image c.args.pages.now c.in-Ok-Some.page.0 = rw kept_c.images refl in
    record {
      named = page_named g.P.Ground c.args.pages.now c.searched.pages c.args.index.now (length c.args.body.now) c.args.from c.searched.key c.searched.invariant told file c.in-Ok-Some.page c.in-Ok-Some.field-0 c.in-Ok-Some.field-0-is least;
      area = rw (← g.P.Ground.leads_geometry c.args.pages.now c.at_least.new.pages kept_c.leads) c.in-Ok.ensures.area;
      slot = sym (slot_read g.P.Ground c.args.pages.now c.at_least.new.pages c.in-Ok-Some.page.0 (length c.args.body.now) c.load_page.new.out (Some c.in-Some.slot) kept_c read size c.in-Some.ensures.place);
      passed = passed_to g.P.Ground c.args.pages.now c.searched.pages c.args.index.now (length c.args.body.now) c.args.from c.searched.key c.searched.invariant told file c.in-Ok-Some.page c.in-Ok-Some.field-0 c.in-Ok-Some.field-0-is least;
      spelled = subst (λ (t : List ℕ). SlotsOf c.insert_body.new.image (with_slots (page_on t) (with_slot (slots_of t) c.in-Some.slot (Some c.args.body.now)))) (read ∙ at) c.in-Some.ensures.placed;
    }

pub searched-preserved : goal.searched-preserved
searched-preserved g c =
    let kept_c = keeps_on g.P.Ground c.args.pages.now c.searched.pages c.at_least.new.pages c.searched.invariant.kept c.at_least.ensures.kept in
    record {
      kept = keeps_on g.P.Ground c.args.pages.now c.at_least.new.pages c.load_page.new.pages kept_c c.load_page.ensures.kept;
      reached =
          let up : c.searched.key ≤ c.in-Ok-Some.page.0 = subst (IsAtLeast c.searched.key) c.in-Ok-Some.field-0-is c.in-Ok-Some.ensures.above in
          omega (arith, up, c.searched.invariant.reached);
      passed = λ told file.
          let told_b = told_now g.P.Ground c.args.pages.now c.searched.pages c.args.index.now (length c.args.body.now) c.args.from c.searched.key c.searched.invariant told file in
          let file_b = file_now g.P.Ground c.args.pages.now c.searched.pages c.args.index.now (length c.args.body.now) c.args.from c.searched.key c.searched.invariant told file in
          let told_c = g.P.Ground.leads_told c.searched.pages c.at_least.new.pages c.at_least.ensures.kept.leads told_b in
          let least = c.in-Ok-Some.ensures.least told_b file_b.whole in
          let read : c.load_page.new.out ≡ g.P.Ground.image c.at_least.new.pages c.in-Ok-Some.page.0 = c.in-Ok.ensures.bytes told_c in
          let size : length c.load_page.new.out ≡ (g.P.Ground.geometry c.args.pages.now).page_size = omega (arith, c.load_page.auto.out, c.searched.auto.image, c.requires.image) in
          passed_page g.P.Ground c.args.pages.now c.searched.pages c.args.index.now (length c.args.body.now) c.args.from c.searched.key c.searched.invariant told file c.in-Ok-Some.page c.in-Ok-Some.field-0 c.in-Ok-Some.field-0-is least
          (sym (slot_read g.P.Ground c.args.pages.now c.at_least.new.pages c.in-Ok-Some.page.0 (length c.args.body.now) c.load_page.new.out None kept_c read size (sym c.in-None.is ∙ c.insert_body.ensures.place)));
      looked = λ told end more.
          c.searched.invariant.looked told end (carried g.P.Ground c.args.pages.now c.searched.pages (λ y u. IsLook y u c.args.index.now c.searched.key end) c.searched.invariant.kept
          (look_on g.P.Ground c.searched.pages c.at_least.new.pages c.args.index.now c.searched.key c.in-Ok-Some.field-0 c.at_least.ensures.kept c.in-Ok-Some.ensures.way c.in-Ok-Some.ensures.found c.in-Ok-Some.page c.in-Ok-Some.field-0-is
          c.in-Ok.ensures.area c.in-Ok.ensures.page end (moved_on g.P.Ground c.args.pages.now c.searched.pages c.args.index.now (c.in-Ok-Some.page.0 + 1) end c.searched.invariant.kept more)) told);
    }

pub returns-in-Ok-None-clause-way : goal.returns-in-Ok-None-clause-way
returns-in-Ok-None-clause-way g c = λ told.
    c.searched.invariant.looked told None (carried g.P.Ground c.args.pages.now c.searched.pages (λ y u. IsLook y u c.args.index.now c.searched.key None) c.searched.invariant.kept
    (look_ends g.P.Ground c.searched.pages c.at_least.new.pages c.args.index.now c.searched.key c.in-Ok-None.field-0 c.at_least.ensures.kept c.in-Ok-None.ensures.way c.in-Ok-None.ensures.found c.in-Ok-None.field-0-is) told)

pub returns-in-Err-clause-fault : goal.returns-in-Err-clause-fault
returns-in-Err-clause-fault g c = λ told.
    lost_way c.searched.key c.searched.invariant.reached (carried g.P.Ground c.args.pages.now c.searched.pages (λ y u. IsIndexFault y every_page u c.args.index.now c.searched.key c.in-Err.fault) c.searched.invariant.kept c.in-Err.ensures.fault told)

pub returns-in-Err-load_page-clause-fault : goal.returns-in-Err-load_page-clause-fault
returns-in-Err-load_page-clause-fault g c = λ told.
    let kept = keeps_on g.P.Ground c.args.pages.now c.searched.pages c.at_least.new.pages c.searched.invariant.kept c.at_least.ensures.kept in
    subst (λ (k : ℕ → Bool). IsLookFault (g.P.Ground.geometry c.args.pages.now) k (g.P.Ground.image c.args.pages.now) c.args.index.now c.args.from c.in-Err-load_page.fault) kept.held
    (look_from (g.P.Ground.geometry c.args.pages.now) (g.P.Ground.held c.at_least.new.pages) (g.P.Ground.image c.args.pages.now) c.args.index.now c.args.from c.searched.key c.in-Err-load_page.fault c.searched.invariant.reached
    (carried g.P.Ground c.args.pages.now c.searched.pages (λ y u. IsLookFault y (g.P.Ground.held c.at_least.new.pages) u c.args.index.now c.searched.key c.in-Err-load_page.fault) c.searched.invariant.kept
    (look_blames g.P.Ground c.searched.pages c.at_least.new.pages c.args.index.now c.searched.key c.in-Ok-Some.field-0 c.at_least.ensures.kept c.in-Ok-Some.ensures.way c.in-Ok-Some.ensures.found c.in-Ok-Some.page c.in-Ok-Some.field-0-is
    (g.P.Ground.held c.at_least.new.pages) c.in-Err-load_page.fault c.in-Err-load_page.ensures.fault) told))

pub returns-in-Some-clause-way : goal.returns-in-Some-clause-way
returns-in-Some-clause-way g c = λ told.
    c.searched.invariant.looked told (Some c.in-Ok-Some.page) (carried g.P.Ground c.args.pages.now c.searched.pages (λ y u. IsLook y u c.args.index.now c.searched.key (Some c.in-Ok-Some.page)) c.searched.invariant.kept
    (look_here g.P.Ground c.searched.pages c.at_least.new.pages c.args.index.now c.searched.key c.in-Ok-Some.field-0 c.at_least.ensures.kept c.in-Ok-Some.ensures.way c.in-Ok-Some.ensures.found c.in-Ok-Some.page c.in-Ok-Some.field-0-is
    c.in-Ok.ensures.area c.in-Ok.ensures.page) told)

pub returns-in-Some-clause-kept : goal.returns-in-Some-clause-kept
returns-in-Some-clause-kept g c =
    keeps_on g.P.Ground _ _ _ (keeps_on g.P.Ground _ _ _ c.searched.invariant.kept c.at_least.ensures.kept) c.load_page.ensures.kept

pub returns-in-Err-load_page-clause-kept : goal.returns-in-Err-load_page-clause-kept
returns-in-Err-load_page-clause-kept g c =
    keeps_on g.P.Ground _ _ _ (keeps_on g.P.Ground _ _ _ c.searched.invariant.kept c.at_least.ensures.kept) c.load_page.ensures.kept

pub returns-in-Ok-None-clause-kept : goal.returns-in-Ok-None-clause-kept
returns-in-Ok-None-clause-kept g c = keeps_on g.P.Ground _ _ _ c.searched.invariant.kept c.at_least.ensures.kept

pub returns-in-Err-clause-kept : goal.returns-in-Err-clause-kept
returns-in-Err-clause-kept g c = keeps_on g.P.Ground _ _ _ c.searched.invariant.kept c.at_least.ensures.kept

pub load_page-requires-clause-out : goal.load_page-requires-clause-out
load_page-requires-clause-out g c =
    size_after g.P.Ground _ _ (g.P.Ground.leads_trans _ _ _ c.searched.invariant.kept.leads c.at_least.ensures.kept.leads) _
    (c.searched.auto.image ∙ c.requires.image)

pub returns-in-Some-clause-area : goal.returns-in-Some-clause-area
returns-in-Some-clause-area g c =
    lies_before g.P.Ground _ _ (g.P.Ground.leads_trans _ _ _ c.searched.invariant.kept.leads c.at_least.ensures.kept.leads) _ c.in-Ok.ensures.area

pub returns-in-Err-load_page-clause-cause : goal.returns-in-Err-load_page-clause-cause
returns-in-Err-load_page-clause-cause g c =
    cause_after g.P.Ground _ _ (g.P.Ground.leads_trans _ _ _ c.searched.invariant.kept.leads c.at_least.ensures.kept.leads) c.load_page.new.pages
    c.in-Err-load_page.fault c.in-Err-load_page.ensures.cause

pub searched-init : goal.searched-init
searched-init g c = search_starts g.P.Ground c.args.pages.now c.args.index.now (length c.args.body.now) c.args.from

pub returns-in-Err-clause-cause : goal.returns-in-Err-clause-cause
returns-in-Err-clause-cause g c = cause_after g.P.Ground _ _ c.searched.invariant.kept.leads c.at_least.new.pages c.in-Err.fault c.in-Err.ensures.cause

pub load_page-requires-clause-ready : goal.load_page-requires-clause-ready
load_page-requires-clause-ready g c =
    g.P.Ground.leads_ready _ _ (g.P.Ground.leads_trans _ _ _ c.searched.invariant.kept.leads c.at_least.ensures.kept.leads) c.requires.ready

pub returns-in-Err-clause-sound : goal.returns-in-Err-clause-sound
returns-in-Err-clause-sound g c = λ damage told file.
    let told_b = told_now g.P.Ground c.args.pages.now c.searched.pages c.args.index.now (length c.args.body.now) c.args.from c.searched.key c.searched.invariant
    told file in
    let file_b = file_now g.P.Ground c.args.pages.now c.searched.pages c.args.index.now (length c.args.body.now) c.args.from c.searched.key c.searched.invariant
    told file in
    c.in-Err.ensures.sound damage told_b file_b.whole

pub returns-in-Some-clause-held : goal.returns-in-Some-clause-held
returns-in-Some-clause-held g c =
    sym (ap (λ (f : ℕ → Bool). f c.in-Ok-Some.page.0) (c.at_least.ensures.kept.held ∙ c.searched.invariant.kept.held)) ∙ c.in-Ok.ensures.held

pub insert_body-requires-clause-some : goal.insert_body-requires-clause-some
insert_body-requires-clause-some g c = c.requires.some

pub insert_body-requires-clause-page : goal.insert_body-requires-clause-page
insert_body-requires-clause-page g c = c.in-Ok.ensures.of.spelled

pub at_least-requires-clause-ready : goal.at_least-requires-clause-ready
at_least-requires-clause-ready g c = g.P.Ground.leads_ready _ _ c.searched.invariant.kept.leads c.requires.ready

pub returns-in-Err-clause-area : goal.returns-in-Err-clause-area
returns-in-Err-clause-area g c = tt

pub returns-in-Err-clause-held : goal.returns-in-Err-clause-held
returns-in-Err-clause-held g c = tt

pub returns-in-Err-clause-none : goal.returns-in-Err-clause-none
returns-in-Err-clause-none g c = tt

pub returns-in-Err-clause-placed : goal.returns-in-Err-clause-placed
returns-in-Err-clause-placed g c = tt

pub returns-in-Err-clause-way : goal.returns-in-Err-clause-way
returns-in-Err-clause-way g c = tt

pub returns-in-Err-load_page-clause-area : goal.returns-in-Err-load_page-clause-area
returns-in-Err-load_page-clause-area g c = tt

pub returns-in-Err-load_page-clause-held : goal.returns-in-Err-load_page-clause-held
returns-in-Err-load_page-clause-held g c = tt

pub returns-in-Err-load_page-clause-none : goal.returns-in-Err-load_page-clause-none
returns-in-Err-load_page-clause-none g c = tt

pub returns-in-Err-load_page-clause-placed : goal.returns-in-Err-load_page-clause-placed
returns-in-Err-load_page-clause-placed g c = tt

pub returns-in-Err-load_page-clause-way : goal.returns-in-Err-load_page-clause-way
returns-in-Err-load_page-clause-way g c = tt

pub returns-in-Ok-None-clause-cause : goal.returns-in-Ok-None-clause-cause
returns-in-Ok-None-clause-cause g c = tt

pub returns-in-Ok-None-clause-fault : goal.returns-in-Ok-None-clause-fault
returns-in-Ok-None-clause-fault g c = tt

pub returns-in-Ok-None-clause-sound : goal.returns-in-Ok-None-clause-sound
returns-in-Ok-None-clause-sound g c = tt

pub returns-in-Some-clause-cause : goal.returns-in-Some-clause-cause
returns-in-Some-clause-cause g c = tt

pub returns-in-Some-clause-fault : goal.returns-in-Some-clause-fault
returns-in-Some-clause-fault g c = tt

pub returns-in-Some-clause-sound : goal.returns-in-Some-clause-sound
returns-in-Some-clause-sound g c = tt

pub overflow_add-key : goal.overflow_add-key
overflow_add-key g c = omega (arith, small_next (g.P.Ground.geometry c.at_least.new.pages) c.in-Ok-Some.page.0 c.in-Ok.ensures.area)

pub searched-smaller : goal.searched-smaller
searched-smaller g c =
    let up : c.searched.key ≤ c.in-Ok-Some.page.0 = subst (IsAtLeast c.searched.key) c.in-Ok-Some.field-0-is c.in-Ok-Some.ensures.above in
    let same = g.P.Ground.leads_geometry _ _ (g.P.Ground.leads_trans _ _ _ c.at_least.ensures.kept.leads c.load_page.ensures.kept.leads) in
    nearer_end (g.P.Ground.geometry c.searched.pages) (g.P.Ground.geometry c.load_page.new.pages) c.searched.key c.in-Ok-Some.page.0
    (ap (λ (y : Geometry). y.pages) same) up
    (lies_before g.P.Ground _ _ c.at_least.ensures.kept.leads _ c.in-Ok.ensures.area)
