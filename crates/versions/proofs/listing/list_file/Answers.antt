use Rattle.std.proofs.Common.{◌≡◌, ◌++◌, ℕ, List, None, Some, subst, sym, ap, ◌∙◌, arith}
use Rattle.ex_base.specs.declared.geometry.Geometry.{Geometry}
use Rattle.ex_base.specs.declared.names.PageNo.{PageNo}
use Rattle.ex_base.specs.declared.names.Place.{Place}
use Rattle.slotted_pages.specs.Reads.{IsPage}
use Rattle.slotted_pages.specs.Edits.{slots_of}
use Rattle.file_index.specs.Index.{IsFilesPage}
use Rattle.versions.specs.Listed.{oids_of, rows_on, AreReadable}
use Rattle.file_bodies.specs.Bodies.{bodies_of}
use Rattle.file_bodies.specs.Places.{IsNext}
use Rattle.file_index.specs.Damage.{every_page}
use Rattle.file_bodies.specs.Damage.{HasListed, IsListedFault, IsLook, IsLookFault, page_from}
use Rattle.file_bodies.proofs.Blame.{carried}
use Rattle.versions.specs.Damage.{IsStepFault, LacksRecord, on_to, stepping, walking}
use Rattle.ex_base.proofs.Keeping.{keeps_on, cause_since}
use Rattle.versions.proofs.RowsListed.{IsListed, gathers_oids}
use Rattle.versions.proofs.Listed.{ListedTo, area, comes_next, listed_none, told_b, file_b, done, page_more, readable_here, rises, spelled, walked_out}
use Rattle.versions.proofs.listing.list_file.Goals as goal

pub pages-init : goal.pages-init
pages-init g c = subst (ListedTo g.V.Ground oids_of c.args.volume.now c.args.volume.now c.args.file_no None) (sym c.new-oids.ensures.items) (listed_none g.V.Ground oids_of gathers_oids c.args.volume.now c.args.file_no)

pub returns-in-Ok-None-clause-oids : goal.returns-in-Ok-None-clause-oids
returns-in-Ok-None-clause-oids g c = λ told index file is.
    let tb = told_b g.V.Ground oids_of c.args.volume.now c.pages.volume c.args.file_no c.pages.after c.pages.oids.items c.pages.invariant told index file is in
    let fb = file_b g.V.Ground oids_of c.args.volume.now c.pages.volume c.args.file_no c.pages.after c.pages.oids.items c.pages.invariant told index file is in
    done g.V.Ground oids_of c.args.volume.now c.pages.volume c.args.file_no c.pages.after c.pages.oids.items c.pages.invariant told index file is (subst (IsNext (bodies_of (g.V.Ground.image c.pages.volume) index) c.pages.after) c.in-Ok-None.field-0-is (c.in-Ok-None.ensures.next tb index fb is))

pub returns-in-Err-clause-sound : goal.returns-in-Err-clause-sound
returns-in-Err-clause-sound g c = λ damage told index file is all. c.in-Err.ensures.sound damage (told_b g.V.Ground oids_of c.args.volume.now c.pages.volume c.args.file_no c.pages.after c.pages.oids.items c.pages.invariant told index file is) index (file_b g.V.Ground oids_of c.args.volume.now c.pages.volume c.args.file_no c.pages.after c.pages.oids.items c.pages.invariant told index file is) is

pub returns-in-Err-list_page-clause-sound : goal.returns-in-Err-list_page-clause-sound
returns-in-Err-list_page-clause-sound g c = λ damage told index file is all.
    let tb = told_b g.V.Ground oids_of c.args.volume.now c.pages.volume c.args.file_no c.pages.after c.pages.oids.items c.pages.invariant told index file is in
    let fb = file_b g.V.Ground oids_of c.args.volume.now c.pages.volume c.args.file_no c.pages.after c.pages.oids.items c.pages.invariant told index file is in
    let next = subst (IsNext (bodies_of (g.V.Ground.image c.pages.volume) index) c.pages.after) c.in-Ok-Some.field-0-is (c.in-Ok-Some.ensures.next tb index fb is) in
    let kept = keeps_on g.V.Ground c.args.volume.now c.pages.volume c.next_place.new.pages c.pages.invariant.kept c.next_place.ensures.kept in
    let told_n = g.V.Ground.leads_told c.args.volume.now c.next_place.new.pages kept.leads told in
    let spelled_n = subst (λ (f : ℕ → List ℕ). IsPage (f c.in-Ok-Some.place.page.0)) (sym kept.images) (spelled g.V.Ground oids_of c.args.volume.now c.pages.volume c.args.file_no c.pages.after c.pages.oids.items c.pages.invariant told index file is c.in-Ok-Some.place next) in
    c.in-Err-list_page.ensures.sound damage told_n (rises g.V.Ground oids_of c.args.volume.now c.pages.volume c.args.file_no c.pages.after c.pages.oids.items c.pages.invariant told index file is c.in-Ok-Some.place next)
    (subst (λ (y : Geometry). IsFilesPage y c.in-Ok-Some.place.page.0) (sym (g.V.Ground.leads_geometry c.args.volume.now c.next_place.new.pages kept.leads)) (area g.V.Ground oids_of c.args.volume.now c.pages.volume c.args.file_no c.pages.after c.pages.oids.items c.pages.invariant told index file is c.in-Ok-Some.place next))
    spelled_n
    (subst (λ (f : ℕ → List ℕ). AreReadable (rows_on c.in-Ok-Some.place.page.0 c.in-Ok-Some.place.slot (slots_of (f c.in-Ok-Some.place.page.0)))) (sym kept.images) (readable_here g.V.Ground oids_of c.args.volume.now c.pages.volume c.args.file_no c.pages.after c.pages.oids.items c.pages.invariant told index file is c.in-Ok-Some.place next all))

pub pages-preserved : goal.pages-preserved
pages-preserved g c = record {
  kept = keeps_on g.V.Ground c.args.volume.now c.next_place.new.pages c.list_page.new.volume (keeps_on g.V.Ground c.args.volume.now c.pages.volume c.next_place.new.pages c.pages.invariant.kept c.next_place.ensures.kept) c.list_page.ensures.kept;
  short = omega arith;
  walked = λ told. on_to c.pages.after (record { page = c.in-Ok-Some.place.page; slot = 65535 }) (c.pages.invariant.walked told)
      (comes_next g.V.Ground c.args.volume.now c.pages.volume c.args.file_no c.pages.after _ c.in-Ok-Some.place c.pages.invariant.kept c.in-Ok-Some.ensures.way c.in-Ok-Some.field-0-is told)
      (omega (arith, c.in-Ok.ensures.rises, c.in-Ok.ensures.short));
  listed = λ told index file is.
      let tb = told_b g.V.Ground oids_of c.args.volume.now c.pages.volume c.args.file_no c.pages.after c.pages.oids.items c.pages.invariant told index file is in
      let fb = file_b g.V.Ground oids_of c.args.volume.now c.pages.volume c.args.file_no c.pages.after c.pages.oids.items c.pages.invariant told index file is in
      let next = subst (IsNext (bodies_of (g.V.Ground.image c.pages.volume) index) c.pages.after) c.in-Ok-Some.field-0-is (c.in-Ok-Some.ensures.next tb index fb is) in
      let kept = keeps_on g.V.Ground c.args.volume.now c.pages.volume c.next_place.new.pages c.pages.invariant.kept c.next_place.ensures.kept in
      let told_n = g.V.Ground.leads_told c.args.volume.now c.next_place.new.pages kept.leads told in
      let spelled_n = subst (λ (f : ℕ → List ℕ). IsPage (f c.in-Ok-Some.place.page.0)) (sym kept.images) (spelled g.V.Ground oids_of c.args.volume.now c.pages.volume c.args.file_no c.pages.after c.pages.oids.items c.pages.invariant told index file is c.in-Ok-Some.place next) in
      subst (IsListed oids_of (bodies_of (g.V.Ground.image c.args.volume.now) index) c.in-Ok-Some.place.page.0 65536)
      (ap (λ (f : ℕ → List ℕ). c.pages.oids.items ++ oids_of (rows_on c.in-Ok-Some.place.page.0 c.in-Ok-Some.place.slot (slots_of (f c.in-Ok-Some.place.page.0)))) (sym kept.images) ∙ sym (c.in-Ok.ensures.listed told_n spelled_n))
      (page_more g.V.Ground oids_of c.args.volume.now c.pages.volume c.args.file_no c.pages.after c.pages.oids.items c.pages.invariant told index file is c.in-Ok-Some.place next gathers_oids);
}

pub returns-in-Err-clause-fault : goal.returns-in-Err-clause-fault
returns-in-Err-clause-fault g c = λ told. walking c.pages.after (c.pages.invariant.walked told)
    (carried g.V.Ground c.args.volume.now c.pages.volume (λ y u. IsListedFault u c.args.file_no (λ index. IsLookFault y every_page u index (page_from c.pages.after) c.in-Err.fault) c.in-Err.fault) c.pages.invariant.kept c.in-Err.ensures.fault told)

pub returns-in-Err-list_page-clause-fault : goal.returns-in-Err-list_page-clause-fault
returns-in-Err-list_page-clause-fault g c = λ told.
    let h = carried g.V.Ground c.args.volume.now c.next_place.new.pages (λ y u. (at : Place) × (at.page ≡ c.in-Ok-Some.place.page) × IsStepFault y u (LacksRecord y u c.pages.after at) at c.in-Err-list_page.fault)
    (keeps_on g.V.Ground c.args.volume.now c.pages.volume c.next_place.new.pages c.pages.invariant.kept c.next_place.ensures.kept) c.in-Err-list_page.ensures.fault told in
    stepping c.pages.after h.0 (c.pages.invariant.walked told)
    (subst (λ (p : PageNo). HasListed (g.V.Ground.image c.args.volume.now) c.args.file_no (λ index. IsLook (g.V.Ground.geometry c.args.volume.now) (g.V.Ground.image c.args.volume.now) index (page_from c.pages.after) (Some p))) (sym h.1)
    (comes_next g.V.Ground c.args.volume.now c.pages.volume c.args.file_no c.pages.after _ c.in-Ok-Some.place c.pages.invariant.kept c.in-Ok-Some.ensures.way c.in-Ok-Some.field-0-is told))
    h.2

pub returns-in-Ok-None-clause-walk : goal.returns-in-Ok-None-clause-walk
returns-in-Ok-None-clause-walk g c = λ told. walked_out g.V.Ground c.args.volume.now c.pages.volume c.args.file_no c.pages.after _ c.pages.invariant.kept c.pages.invariant.walked c.in-Ok-None.ensures.way c.in-Ok-None.field-0-is told

pub returns-in-Ok-None-clause-sound : goal.returns-in-Ok-None-clause-sound
returns-in-Ok-None-clause-sound g c = tt

pub returns-in-Ok-None-clause-fault : goal.returns-in-Ok-None-clause-fault
returns-in-Ok-None-clause-fault g c = tt

pub returns-in-Ok-None-clause-cause : goal.returns-in-Ok-None-clause-cause
returns-in-Ok-None-clause-cause g c = tt

pub returns-in-Ok-None-clause-kept : goal.returns-in-Ok-None-clause-kept
returns-in-Ok-None-clause-kept g c = keeps_on g.V.Ground c.args.volume.now c.pages.volume c.next_place.new.pages c.pages.invariant.kept c.next_place.ensures.kept

pub returns-in-Err-clause-oids : goal.returns-in-Err-clause-oids
returns-in-Err-clause-oids g c = tt

pub returns-in-Err-clause-walk : goal.returns-in-Err-clause-walk
returns-in-Err-clause-walk g c = tt

pub returns-in-Err-clause-kept : goal.returns-in-Err-clause-kept
returns-in-Err-clause-kept g c = keeps_on g.V.Ground c.args.volume.now c.pages.volume c.next_place.new.pages c.pages.invariant.kept c.next_place.ensures.kept

pub returns-in-Err-clause-cause : goal.returns-in-Err-clause-cause
returns-in-Err-clause-cause g c = cause_since (g.V.Ground.faults c.args.volume.now) (g.V.Ground.faults c.pages.volume) (g.V.Ground.faults c.next_place.new.pages) c.in-Err.fault (g.V.Ground.leads_faults c.args.volume.now c.pages.volume c.pages.invariant.kept.leads) c.in-Err.ensures.cause

pub returns-in-Err-list_page-clause-oids : goal.returns-in-Err-list_page-clause-oids
returns-in-Err-list_page-clause-oids g c = tt

pub returns-in-Err-list_page-clause-walk : goal.returns-in-Err-list_page-clause-walk
returns-in-Err-list_page-clause-walk g c = tt

pub returns-in-Err-list_page-clause-kept : goal.returns-in-Err-list_page-clause-kept
returns-in-Err-list_page-clause-kept g c = keeps_on g.V.Ground c.args.volume.now c.next_place.new.pages c.list_page.new.volume (keeps_on g.V.Ground c.args.volume.now c.pages.volume c.next_place.new.pages c.pages.invariant.kept c.next_place.ensures.kept) c.list_page.ensures.kept

pub returns-in-Err-list_page-clause-cause : goal.returns-in-Err-list_page-clause-cause
returns-in-Err-list_page-clause-cause g c = cause_since (g.V.Ground.faults c.args.volume.now) (g.V.Ground.faults c.next_place.new.pages) (g.V.Ground.faults c.list_page.new.volume) c.in-Err-list_page.fault (g.V.Ground.leads_faults c.args.volume.now c.next_place.new.pages (keeps_on g.V.Ground c.args.volume.now c.pages.volume c.next_place.new.pages c.pages.invariant.kept c.next_place.ensures.kept).leads) c.in-Err-list_page.ensures.cause

pub list_page-requires : goal.list_page-requires
list_page-requires g c = g.V.Ground.leads_ready c.args.volume.now c.next_place.new.pages (keeps_on g.V.Ground c.args.volume.now c.pages.volume c.next_place.new.pages c.pages.invariant.kept c.next_place.ensures.kept).leads c.requires

pub next_place-requires : goal.next_place-requires
next_place-requires g c = g.V.Ground.leads_ready c.args.volume.now c.pages.volume c.pages.invariant.kept.leads c.requires
