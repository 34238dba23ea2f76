use Rattle.std.proofs.Common.{List, subst, sym, ℕ}
use Rattle.ex_base.proofs.Options.{at_none, at_some}
use Rattle.ex_base.specs.declared.geometry.Geometry.{Geometry}
use Rattle.slotted_pages.specs.Reads.{IsPage}
use Rattle.file_index.specs.Index.{IsFilesPage}
use Rattle.file_bodies.proofs.Belonging.{of_lies, of_page}
use Rattle.file_bodies.proofs.reading.is_of_file.Goals as goal

pub returns-in-Ok-Some-clause-fault : goal.returns-in-Ok-Some-clause-fault
returns-in-Ok-Some-clause-fault g c = λ told.
    let there = at_some c.in-Ok-Some.field-0 c.in-Ok-Some.field-0-0 _ c.in-Ok-Some.field-0-is c.in-Ok-Some.ensures.some (g.P.Ground.leads_told _ _ c.is_named.ensures.kept.leads told) in
    c.in-Err.ensures.fault told (subst (λ (f : ℕ → List ℕ). IsPage (f c.args.page.0)) c.is_named.ensures.kept.images there.0)

pub returns-in-Ok-None-clause-no : goal.returns-in-Ok-None-clause-no
returns-in-Ok-None-clause-no g c = λ f told of.
    at_none c.in-Ok-None.field-0 _ c.in-Ok-None.field-0-is c.in-Ok-None.ensures.none (g.P.Ground.leads_told _ _ c.is_named.ensures.kept.leads told)
    (subst (λ (y : Geometry). IsFilesPage y c.args.page.0) (sym (g.P.Ground.leads_geometry _ _ c.is_named.ensures.kept.leads)) (of_lies g.P.Ground c.args.pages.now c.args.page.0 of))
    (subst (λ (f : ℕ → List ℕ). IsPage (f c.args.page.0)) (sym c.is_named.ensures.kept.images) (of_page g.P.Ground c.args.pages.now c.args.page.0 of))

pub returns-in-Ok-None-clause-lacks : goal.returns-in-Ok-None-clause-lacks
returns-in-Ok-None-clause-lacks g c = λ f told is.
    at_none c.in-Ok-None.field-0 _ c.in-Ok-None.field-0-is c.in-Ok-None.ensures.none (g.P.Ground.leads_told _ _ c.is_named.ensures.kept.leads told)
    (subst (λ (y : Geometry). IsFilesPage y c.args.page.0) (sym (g.P.Ground.leads_geometry _ _ c.is_named.ensures.kept.leads)) is.area)
    (subst (λ (f : ℕ → List ℕ). IsPage (f c.args.page.0)) (sym c.is_named.ensures.kept.images) is.spelled)
