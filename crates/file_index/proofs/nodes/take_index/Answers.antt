use Rattle.std.proofs.Common.{sym}
use Rattle.std.proofs.lemmas.Result.{IfOk-weaker}
use Rattle.ex_base.proofs.Results.{if_ok_on_ok}
use Rattle.ex_base.specs.Area.{catalog_no}
use Rattle.file_index.proofs.Counts.{take_changes}
use Rattle.file_index.proofs.Chains.{taken_takes, if_ok_same}
use Rattle.file_index.proofs.nodes.take_index.Goals as goal

pub returns-clause-leads : goal.returns-clause-leads
returns-clause-leads g c = c.take_page.ensures.leads

pub returns-clause-touches : goal.returns-clause-touches
returns-clause-touches g c = c.take_page.ensures.touched

pub returns-clause-cause : goal.returns-clause-cause
returns-clause-cause g c = c.take_page.ensures.cause

pub returns-clause-no_damage : goal.returns-clause-no_damage
returns-clause-no_damage g c = c.take_page.ensures.no_damage

pub returns-clause-free : goal.returns-clause-free
returns-clause-free g c = c.take_page.ensures.pages

pub take_page-requires-clause-ready : goal.take_page-requires-clause-ready
take_page-requires-clause-ready g c = c.requires.ready

pub take_page-requires-clause-free : goal.take_page-requires-clause-free
take_page-requires-clause-free g c = c.requires.free

pub returns-clause-area : goal.returns-clause-area
returns-clause-area g c = IfOk-weaker c.take_page.result _ _ (λ page taken. (taken.area, taken.other)) c.take_page.ensures.taken

pub returns-clause-catalog : goal.returns-clause-catalog
returns-clause-catalog g c =
    if_ok_on_ok c.take_page.result _ _ (λ page taken. taken.images catalog_no (λ same. taken.other (sym same))) c.take_page.ensures.taken

pub returns-clause-takes : goal.returns-clause-takes
returns-clause-takes g c = if_ok_on_ok c.take_page.result _ _ (λ page taken. taken_takes g.P.Ground _ _ page.0 _ taken) c.take_page.ensures.taken

pub returns-clause-changes : goal.returns-clause-changes
returns-clause-changes g c =
    if_ok_same c.take_page.result _ _ _ (λ page taken leaves. take_changes g.P.Ground _ _ page.0 _ taken leaves c.take_page.ensures.leads)
    c.take_page.ensures.taken c.take_page.ensures.leaves
