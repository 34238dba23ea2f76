use Rattle.std.proofs.Common.{◌+◌, Option, subst, sym}
use Rattle.std.proofs.lemmas.Result.{IfErr-weaker, IfOk-weaker}
use Rattle.ex_base.specs.declared.names.Place.{Place}
use Rattle.file_bodies.specs.Bodies.{bodies_of}
use Rattle.file_bodies.specs.Places.{IsNext}
use Rattle.file_bodies.proofs.Belonging.{found_file, found_rows}
use Rattle.file_index.specs.Damage.{every_page}
use Rattle.file_bodies.specs.Damage.{listed, IsLookFault, page_from, IsLook, page_in, unlisted}
use Rattle.file_bodies.proofs.Blame.{carried}
use Rattle.ex_base.proofs.Keeping.{keeps_on}
use Rattle.ex_base.proofs.Handed.{cause_of}
use Rattle.file_bodies.proofs.reading.next_place.Goals as goal

pub returns-in-None-clause-next : goal.returns-in-None-clause-next
returns-in-None-clause-next g c = IfOk-weaker c.first_from.result _ _ (λ next first told index file number.
    let told_b = g.P.Ground.leads_told c.args.pages.now c.index_of.new.pages c.index_of.ensures.kept.leads told in
    let here = found_file g.P.Ground c.args.pages.now c.index_of.new.pages index c.in-Ok.index c.args.file_no file number (c.in-Ok.ensures.found told) c.index_of.ensures.kept in
    subst (λ (o : Option Place). IsNext (bodies_of (g.P.Ground.image c.args.pages.now) index) o next) (sym c.in-None.is)
    (found_rows g.P.Ground c.args.pages.now c.index_of.new.pages index c.in-Ok.index c.args.file_no 0 0 next file number (c.in-Ok.ensures.found told) c.index_of.ensures.kept (first told_b here))) c.first_from.ensures.first

pub returns-in-None-clause-sound : goal.returns-in-None-clause-sound
returns-in-None-clause-sound g c = IfErr-weaker c.first_from.result _ _ (λ fault never damage told index file number.
    let told_b = g.P.Ground.leads_told c.args.pages.now c.index_of.new.pages c.index_of.ensures.kept.leads told in
    never damage told_b (found_file g.P.Ground c.args.pages.now c.index_of.new.pages index c.in-Ok.index c.args.file_no file number (c.in-Ok.ensures.found told) c.index_of.ensures.kept)) c.first_from.ensures.sound

pub returns-in-Some-clause-next : goal.returns-in-Some-clause-next
returns-in-Some-clause-next g c = IfOk-weaker c.first_from-in-Some.result _ _ (λ next first told index file number.
    let told_b = g.P.Ground.leads_told c.args.pages.now c.index_of.new.pages c.index_of.ensures.kept.leads told in
    let here = found_file g.P.Ground c.args.pages.now c.index_of.new.pages index c.in-Ok.index c.args.file_no file number (c.in-Ok.ensures.found told) c.index_of.ensures.kept in
    subst (λ (o : Option Place). IsNext (bodies_of (g.P.Ground.image c.args.pages.now) index) o next) (sym c.in-Some.is)
    (rw (← c.from.ensures) (found_rows g.P.Ground c.args.pages.now c.index_of.new.pages index c.in-Ok.index c.args.file_no c.in-Some.place.page.0 (c.from.result + 1) next file number (c.in-Ok.ensures.found told) c.index_of.ensures.kept (first told_b here)))) c.first_from-in-Some.ensures.first

pub returns-in-Some-clause-sound : goal.returns-in-Some-clause-sound
returns-in-Some-clause-sound g c = IfErr-weaker c.first_from-in-Some.result _ _ (λ fault never damage told index file number.
    let told_b = g.P.Ground.leads_told c.args.pages.now c.index_of.new.pages c.index_of.ensures.kept.leads told in
    never damage told_b (found_file g.P.Ground c.args.pages.now c.index_of.new.pages index c.in-Ok.index c.args.file_no file number (c.in-Ok.ensures.found told) c.index_of.ensures.kept)) c.first_from-in-Some.ensures.sound

pub returns-in-None-clause-fault : goal.returns-in-None-clause-fault
returns-in-None-clause-fault g c = IfErr-weaker c.first_from.result _ _ (λ fault h told.
    listed c.in-Ok.index (c.in-Ok.ensures.lists told)
    (subst (λ (o : Option Place). IsLookFault (g.P.Ground.geometry c.args.pages.now) every_page (g.P.Ground.image c.args.pages.now) c.in-Ok.index (page_from o) fault) (sym c.in-None.is)
    (carried g.P.Ground c.args.pages.now c.index_of.new.pages (λ y u. IsLookFault y every_page u c.in-Ok.index 0 fault) c.index_of.ensures.kept h told))) c.first_from.ensures.fault

pub returns-in-Some-clause-fault : goal.returns-in-Some-clause-fault
returns-in-Some-clause-fault g c = IfErr-weaker c.first_from-in-Some.result _ _ (λ fault h told.
    listed c.in-Ok.index (c.in-Ok.ensures.lists told)
    (subst (λ (o : Option Place). IsLookFault (g.P.Ground.geometry c.args.pages.now) every_page (g.P.Ground.image c.args.pages.now) c.in-Ok.index (page_from o) fault) (sym c.in-Some.is)
    (carried g.P.Ground c.args.pages.now c.index_of.new.pages (λ y u. IsLookFault y every_page u c.in-Ok.index c.in-Some.place.page.0 fault) c.index_of.ensures.kept h told))) c.first_from-in-Some.ensures.fault

pub returns-in-Some-clause-way : goal.returns-in-Some-clause-way
returns-in-Some-clause-way g c = IfOk-weaker c.first_from-in-Some.result _ _ (λ next way told. record {
  index = c.in-Ok.index;
  lists = c.in-Ok.ensures.lists told;
  holds = subst (λ (o : Option Place). IsLook (g.P.Ground.geometry c.args.pages.now) (g.P.Ground.image c.args.pages.now) c.in-Ok.index (page_from o)
      (page_in next)) (sym c.in-Some.is)
      (carried g.P.Ground c.args.pages.now c.index_of.new.pages (λ y u. IsLook y u c.in-Ok.index c.in-Some.place.page.0 (page_in next)) c.index_of.ensures.kept
      way told);
}) c.first_from-in-Some.ensures.way

pub returns-in-None-clause-way : goal.returns-in-None-clause-way
returns-in-None-clause-way g c = IfOk-weaker c.first_from.result _ _ (λ next way told. record {
  index = c.in-Ok.index;
  lists = c.in-Ok.ensures.lists told;
  holds = subst (λ (o : Option Place). IsLook (g.P.Ground.geometry c.args.pages.now) (g.P.Ground.image c.args.pages.now) c.in-Ok.index (page_from o)
      (page_in next)) (sym c.in-None.is)
      (carried g.P.Ground c.args.pages.now c.index_of.new.pages (λ y u. IsLook y u c.in-Ok.index 0 (page_in next)) c.index_of.ensures.kept way told);
}) c.first_from.ensures.way

pub returns-in-Some-clause-kept : goal.returns-in-Some-clause-kept
returns-in-Some-clause-kept g c = keeps_on g.P.Ground _ _ _ c.index_of.ensures.kept c.first_from-in-Some.ensures.kept

pub returns-in-None-clause-kept : goal.returns-in-None-clause-kept
returns-in-None-clause-kept g c = keeps_on g.P.Ground _ _ _ c.index_of.ensures.kept c.first_from.ensures.kept

pub returns-in-Some-clause-cause : goal.returns-in-Some-clause-cause
returns-in-Some-clause-cause g c =
    cause_of g.P.Ground _ _ c.index_of.ensures.kept.leads c.first_from-in-Some.new.pages c.first_from-in-Some.result c.first_from-in-Some.ensures.cause

pub returns-in-None-clause-cause : goal.returns-in-None-clause-cause
returns-in-None-clause-cause g c = cause_of g.P.Ground _ _ c.index_of.ensures.kept.leads c.first_from.new.pages c.first_from.result c.first_from.ensures.cause

pub first_from-requires-in-Some-clause-ready : goal.first_from-requires-in-Some-clause-ready
first_from-requires-in-Some-clause-ready g c = g.P.Ground.leads_ready _ _ c.index_of.ensures.kept.leads c.requires

pub first_from-requires-clause-ready : goal.first_from-requires-clause-ready
first_from-requires-clause-ready g c = g.P.Ground.leads_ready _ _ c.index_of.ensures.kept.leads c.requires

pub returns-in-Err-clause-fault : goal.returns-in-Err-clause-fault
returns-in-Err-clause-fault g c = λ told. unlisted (c.in-Err.ensures.fault told)

pub returns-in-Err-clause-cause : goal.returns-in-Err-clause-cause
returns-in-Err-clause-cause g c = c.in-Err.ensures.cause
