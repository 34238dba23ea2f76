use Rattle.std.proofs.Common.{◌≤◌, ◌+◌, ℕ, List, Some, None, sym, subst, arith, ap}
use Rattle.ex_base.proofs.Keeping.{keeps_on, keeps_refl}
use Rattle.ex_base.proofs.Options.{at_none, at_some}
use Rattle.file_index.specs.Least.{IsAtLeast}
use Rattle.file_index.specs.Damage.{every_page, IsIndexFault}
use Rattle.file_bodies.specs.Bodies.{bodies_of}
use Rattle.file_bodies.specs.Places.{FirstFrom}
use Rattle.file_bodies.specs.Damage.{lost_way, IsLook, IsLookFault}
use Rattle.file_bodies.proofs.Blame.{carried, moved_on, look_from, look_ends, look_here, look_on, look_blames}
use Rattle.file_bodies.proofs.Following.{LooksFrom, place_none, place_found, place_later, page_sound, file_there, told_there, first_of_all}
use Rattle.ex_base.proofs.Handed.{cause_after}
use Rattle.file_bodies.proofs.LaterSizes.{lies_before}
use Rattle.file_bodies.proofs.PageNumbers.{nearer_end, small_next}
use Rattle.ex_base.specs.declared.geometry.Geometry.{Geometry}
use Rattle.file_bodies.proofs.reading.first_from.Goals as goal

pub returns-in-Ok-None-clause-first : goal.returns-in-Ok-None-clause-first
returns-in-Ok-None-clause-first g c = λ told file.
    let told_b = told_there g.P.Ground c.args.pages.now c.looked.pages c.args.index.now c.args.key c.args.slot c.looked.low c.looked.first c.looked.invariant told file in
    let file_b = file_there g.P.Ground c.args.pages.now c.looked.pages c.args.index.now c.args.key c.args.slot c.looked.low c.looked.first c.looked.invariant told file in
    first_of_all g.P.Ground c.args.pages.now c.looked.pages c.args.index.now c.args.key c.args.slot c.looked.low c.looked.first c.looked.invariant told file None
    (place_none g.P.Ground c.looked.pages c.at_least.new.pages c.args.index.now c.looked.low c.looked.first file_b c.at_least.ensures.kept c.in-Ok-None.field-0 c.in-Ok-None.field-0-is (c.in-Ok-None.ensures.least told_b file_b.whole))

pub returns-in-Ok-Some-live_slot-clause-first : goal.returns-in-Ok-Some-live_slot-clause-first
returns-in-Ok-Some-live_slot-clause-first g c = λ told file.
    let told_b = told_there g.P.Ground c.args.pages.now c.looked.pages c.args.index.now c.args.key c.args.slot c.looked.low c.looked.first c.looked.invariant told file in
    let file_b = file_there g.P.Ground c.args.pages.now c.looked.pages c.args.index.now c.args.key c.args.slot c.looked.low c.looked.first c.looked.invariant told file in
    let told_c = g.P.Ground.leads_told c.looked.pages c.at_least.new.pages c.at_least.ensures.kept.leads told_b in
    let looks : LooksFrom c.in-Ok-Some.page.0 c.looked.low c.looked.first c.slot_from-from.result = record { same = c.slot_from-from.ensures.same; other = c.slot_from-from.ensures.other } in
    first_of_all g.P.Ground c.args.pages.now c.looked.pages c.args.index.now c.args.key c.args.slot c.looked.low c.looked.first c.looked.invariant told file (Some (record { page = c.in-Ok-Some.page; slot = c.in-Ok-Some-live_slot.slot }))
    (place_found g.P.Ground c.looked.pages c.at_least.new.pages c.args.index.now c.looked.low c.looked.first file_b c.at_least.ensures.kept c.in-Ok-Some.page c.in-Ok-Some.field-0 c.in-Ok-Some.field-0-is (c.in-Ok-Some.ensures.least told_b file_b.whole)
    c.slot_from-from.result c.in-Ok-Some-live_slot.slot looks (at_some c.in-Ok-Some-live_slot.field-0 c.in-Ok-Some-live_slot.slot _ c.in-Ok-Some-live_slot.field-0-is c.in-Ok-Some-live_slot.ensures.some told_c))

pub returns-in-Err-live_slot-clause-sound : goal.returns-in-Err-live_slot-clause-sound
returns-in-Err-live_slot-clause-sound g c = λ damage told file.
    let told_b = told_there g.P.Ground c.args.pages.now c.looked.pages c.args.index.now c.args.key c.args.slot c.looked.low c.looked.first c.looked.invariant told file in
    let file_b = file_there g.P.Ground c.args.pages.now c.looked.pages c.args.index.now c.args.key c.args.slot c.looked.low c.looked.first c.looked.invariant told file in
    let told_c = g.P.Ground.leads_told c.looked.pages c.at_least.new.pages c.at_least.ensures.kept.leads told_b in
    page_sound g.P.Ground c.looked.pages c.at_least.new.pages c.args.index.now c.looked.low c.looked.first file_b c.at_least.ensures.kept c.in-Ok-Some.page c.in-Ok-Some.field-0 c.in-Ok-Some.field-0-is (c.in-Ok-Some.ensures.least told_b file_b.whole)
    (c.in-Err-live_slot.ensures.sound damage told_c)

pub looked-preserved : goal.looked-preserved
looked-preserved g c =
    let kept_c = keeps_on g.P.Ground c.args.pages.now c.looked.pages c.at_least.new.pages c.looked.invariant.kept c.at_least.ensures.kept in
    let kept_d = keeps_on g.P.Ground c.args.pages.now c.at_least.new.pages c.live_slot.new.pages kept_c c.live_slot.ensures.kept in
    record {
      kept = kept_d;
      reached =
          let up : c.looked.low ≤ c.in-Ok-Some.page.0 = subst (IsAtLeast c.looked.low) c.in-Ok-Some.field-0-is c.in-Ok-Some.ensures.above in
          omega (arith, up, c.looked.invariant.reached);
      passed = λ told file found rest.
          let told_b = told_there g.P.Ground c.args.pages.now c.looked.pages c.args.index.now c.args.key c.args.slot c.looked.low c.looked.first c.looked.invariant told file in
          let file_b = file_there g.P.Ground c.args.pages.now c.looked.pages c.args.index.now c.args.key c.args.slot c.looked.low c.looked.first c.looked.invariant told file in
          let told_c = g.P.Ground.leads_told c.looked.pages c.at_least.new.pages c.at_least.ensures.kept.leads told_b in
          let looks : LooksFrom c.in-Ok-Some.page.0 c.looked.low c.looked.first c.slot_from-from.result = record { same = c.slot_from-from.ensures.same; other = c.slot_from-from.ensures.other } in
          first_of_all g.P.Ground c.args.pages.now c.looked.pages c.args.index.now c.args.key c.args.slot c.looked.low c.looked.first c.looked.invariant told file found
          (place_later g.P.Ground c.looked.pages c.at_least.new.pages c.args.index.now c.looked.low c.looked.first file_b c.at_least.ensures.kept c.in-Ok-Some.page c.in-Ok-Some.field-0 c.in-Ok-Some.field-0-is (c.in-Ok-Some.ensures.least told_b file_b.whole)
          c.live_slot.new.pages c.slot_from-from.result found c.live_slot.ensures.kept looks (at_none c.in-Ok-None-live_slot.field-0 _ c.in-Ok-None-live_slot.field-0-is c.in-Ok-None-live_slot.ensures.none told_c)
          (subst (λ (f : ℕ → List ℕ). FirstFrom (bodies_of f c.args.index.now) (c.in-Ok-Some.page.0 + 1) 0 found) (sym kept_d.images) rest));
      looked = λ told end more.
          c.looked.invariant.looked told end (carried g.P.Ground c.args.pages.now c.looked.pages (λ y u. IsLook y u c.args.index.now c.looked.low end) c.looked.invariant.kept
          (look_on g.P.Ground c.looked.pages c.at_least.new.pages c.args.index.now c.looked.low c.in-Ok-Some.field-0 c.at_least.ensures.kept c.in-Ok-Some.ensures.way c.in-Ok-Some.ensures.found c.in-Ok-Some.page c.in-Ok-Some.field-0-is c.in-Ok-None-live_slot.ensures.area c.in-Ok-None-live_slot.ensures.page end (moved_on g.P.Ground c.args.pages.now c.looked.pages c.args.index.now (c.in-Ok-Some.page.0 + 1) end c.looked.invariant.kept more)) told);
    }

pub returns-in-Ok-None-clause-way : goal.returns-in-Ok-None-clause-way
returns-in-Ok-None-clause-way g c = λ told.
    c.looked.invariant.looked told None (carried g.P.Ground c.args.pages.now c.looked.pages (λ y u. IsLook y u c.args.index.now c.looked.low None) c.looked.invariant.kept
    (look_ends g.P.Ground c.looked.pages c.at_least.new.pages c.args.index.now c.looked.low c.in-Ok-None.field-0 c.at_least.ensures.kept c.in-Ok-None.ensures.way c.in-Ok-None.ensures.found c.in-Ok-None.field-0-is) told)

pub returns-in-Err-clause-fault : goal.returns-in-Err-clause-fault
returns-in-Err-clause-fault g c = λ told.
    lost_way c.looked.low c.looked.invariant.reached (carried g.P.Ground c.args.pages.now c.looked.pages (λ y u. IsIndexFault y every_page u c.args.index.now c.looked.low c.in-Err.fault) c.looked.invariant.kept
    c.in-Err.ensures.fault told)

pub returns-in-Ok-Some-live_slot-clause-way : goal.returns-in-Ok-Some-live_slot-clause-way
returns-in-Ok-Some-live_slot-clause-way g c = λ told.
    c.looked.invariant.looked told (Some c.in-Ok-Some.page) (carried g.P.Ground c.args.pages.now c.looked.pages (λ y u. IsLook y u c.args.index.now c.looked.low (Some c.in-Ok-Some.page)) c.looked.invariant.kept
    (look_here g.P.Ground c.looked.pages c.at_least.new.pages c.args.index.now c.looked.low c.in-Ok-Some.field-0 c.at_least.ensures.kept c.in-Ok-Some.ensures.way c.in-Ok-Some.ensures.found c.in-Ok-Some.page c.in-Ok-Some.field-0-is c.in-Ok-Some-live_slot.ensures.area c.in-Ok-Some-live_slot.ensures.page) told)

pub returns-in-Err-live_slot-clause-fault : goal.returns-in-Err-live_slot-clause-fault
returns-in-Err-live_slot-clause-fault g c = λ told.
    look_from (g.P.Ground.geometry c.args.pages.now) every_page (g.P.Ground.image c.args.pages.now) c.args.index.now c.args.key c.looked.low c.in-Err-live_slot.fault c.looked.invariant.reached
    (carried g.P.Ground c.args.pages.now c.looked.pages (λ y u. IsLookFault y every_page u c.args.index.now c.looked.low c.in-Err-live_slot.fault) c.looked.invariant.kept
    (look_blames g.P.Ground c.looked.pages c.at_least.new.pages c.args.index.now c.looked.low c.in-Ok-Some.field-0 c.at_least.ensures.kept c.in-Ok-Some.ensures.way c.in-Ok-Some.ensures.found c.in-Ok-Some.page c.in-Ok-Some.field-0-is every_page c.in-Err-live_slot.fault c.in-Err-live_slot.ensures.fault) told)

pub returns-in-Ok-Some-live_slot-clause-kept : goal.returns-in-Ok-Some-live_slot-clause-kept
returns-in-Ok-Some-live_slot-clause-kept g c =
    keeps_on g.P.Ground _ _ _ (keeps_on g.P.Ground _ _ _ c.looked.invariant.kept c.at_least.ensures.kept) c.live_slot.ensures.kept

pub returns-in-Err-live_slot-clause-kept : goal.returns-in-Err-live_slot-clause-kept
returns-in-Err-live_slot-clause-kept g c =
    keeps_on g.P.Ground _ _ _ (keeps_on g.P.Ground _ _ _ c.looked.invariant.kept c.at_least.ensures.kept) c.live_slot.ensures.kept

pub returns-in-Ok-None-clause-kept : goal.returns-in-Ok-None-clause-kept
returns-in-Ok-None-clause-kept g c = keeps_on g.P.Ground _ _ _ c.looked.invariant.kept c.at_least.ensures.kept

pub returns-in-Err-clause-kept : goal.returns-in-Err-clause-kept
returns-in-Err-clause-kept g c = keeps_on g.P.Ground _ _ _ c.looked.invariant.kept c.at_least.ensures.kept

pub returns-in-Err-live_slot-clause-cause : goal.returns-in-Err-live_slot-clause-cause
returns-in-Err-live_slot-clause-cause g c =
    cause_after g.P.Ground _ _ (g.P.Ground.leads_trans _ _ _ c.looked.invariant.kept.leads c.at_least.ensures.kept.leads) c.live_slot.new.pages
    c.in-Err-live_slot.fault c.in-Err-live_slot.ensures.cause

pub returns-in-Err-clause-cause : goal.returns-in-Err-clause-cause
returns-in-Err-clause-cause g c = cause_after g.P.Ground _ _ c.looked.invariant.kept.leads c.at_least.new.pages c.in-Err.fault c.in-Err.ensures.cause

pub live_slot-requires : goal.live_slot-requires
live_slot-requires g c = g.P.Ground.leads_ready _ _ (g.P.Ground.leads_trans _ _ _ c.looked.invariant.kept.leads c.at_least.ensures.kept.leads) c.requires.ready

pub returns-in-Err-clause-sound : goal.returns-in-Err-clause-sound
returns-in-Err-clause-sound g c = λ damage told file.
    let told_b = told_there g.P.Ground c.args.pages.now c.looked.pages c.args.index.now c.args.key c.args.slot c.looked.low c.looked.first c.looked.invariant
    told file in
    let file_b = file_there g.P.Ground c.args.pages.now c.looked.pages c.args.index.now c.args.key c.args.slot c.looked.low c.looked.first c.looked.invariant
    told file in
    c.in-Err.ensures.sound damage told_b file_b.whole

pub at_least-requires-clause-ready : goal.at_least-requires-clause-ready
at_least-requires-clause-ready g c = g.P.Ground.leads_ready _ _ c.looked.invariant.kept.leads c.requires.ready

pub looked-init : goal.looked-init
looked-init g c =
    record { kept = keeps_refl g.P.Ground c.args.pages.now; reached = omega arith; passed = λ told file found rest. rest; looked = λ told end more. more }

pub returns-in-Err-clause-first : goal.returns-in-Err-clause-first
returns-in-Err-clause-first g c = tt

pub returns-in-Err-clause-way : goal.returns-in-Err-clause-way
returns-in-Err-clause-way g c = tt

pub returns-in-Err-live_slot-clause-first : goal.returns-in-Err-live_slot-clause-first
returns-in-Err-live_slot-clause-first g c = tt

pub returns-in-Err-live_slot-clause-way : goal.returns-in-Err-live_slot-clause-way
returns-in-Err-live_slot-clause-way g c = tt

pub returns-in-Ok-None-clause-cause : goal.returns-in-Ok-None-clause-cause
returns-in-Ok-None-clause-cause g c = tt

pub returns-in-Ok-None-clause-fault : goal.returns-in-Ok-None-clause-fault
returns-in-Ok-None-clause-fault g c = tt

pub returns-in-Ok-None-clause-sound : goal.returns-in-Ok-None-clause-sound
returns-in-Ok-None-clause-sound g c = tt

pub returns-in-Ok-Some-live_slot-clause-cause : goal.returns-in-Ok-Some-live_slot-clause-cause
returns-in-Ok-Some-live_slot-clause-cause g c = tt

pub returns-in-Ok-Some-live_slot-clause-fault : goal.returns-in-Ok-Some-live_slot-clause-fault
returns-in-Ok-Some-live_slot-clause-fault g c = tt

pub returns-in-Ok-Some-live_slot-clause-sound : goal.returns-in-Ok-Some-live_slot-clause-sound
returns-in-Ok-Some-live_slot-clause-sound g c = tt

pub overflow_add-low : goal.overflow_add-low
overflow_add-low g c = omega (arith, small_next (g.P.Ground.geometry c.at_least.new.pages) c.in-Ok-Some.page.0 c.in-Ok-None-live_slot.ensures.area)

pub looked-smaller : goal.looked-smaller
looked-smaller g c =
    let up : c.looked.low ≤ c.in-Ok-Some.page.0 = subst (IsAtLeast c.looked.low) c.in-Ok-Some.field-0-is c.in-Ok-Some.ensures.above in
    let same = g.P.Ground.leads_geometry _ _ (g.P.Ground.leads_trans _ _ _ c.at_least.ensures.kept.leads c.live_slot.ensures.kept.leads) in
    nearer_end (g.P.Ground.geometry c.looked.pages) (g.P.Ground.geometry c.live_slot.new.pages) c.looked.low c.in-Ok-Some.page.0
    (ap (λ (y : Geometry). y.pages) same) up
    (lies_before g.P.Ground _ _ c.at_least.ensures.kept.leads _ c.in-Ok-None-live_slot.ensures.area)
