use Rattle.std.proofs.Common.{sym}
use Rattle.std.proofs.lemmas.Result.{on_ok_weaker}
use Rattle.ex_base.specs.Area.{catalog_no}
use Rattle.file_index.proofs.Counts.{put_changes}
use Rattle.file_index.proofs.nodes.put_index.Goals as goal

pub returns-clause-leads : goal.returns-clause-leads
returns-clause-leads g c = c.put.ensures.leads

pub returns-clause-touches : goal.returns-clause-touches
returns-clause-touches g c = c.put.ensures.touched

pub returns-clause-cause : goal.returns-clause-cause
returns-clause-cause g c = c.put.ensures.cause

pub returns-clause-no_damage : goal.returns-clause-no_damage
returns-clause-no_damage g c = c.put.ensures.no_damage

pub put-requires-clause-ready : goal.put-requires-clause-ready
put-requires-clause-ready g c = c.requires.ready

pub put-requires-clause-held : goal.put-requires-clause-held
put-requires-clause-held g c = c.requires.held

pub returns-clause-held : goal.returns-clause-held
returns-clause-held g c = on_ok_weaker c.put.result (λ put. put.held) c.put.ensures.put

pub returns-clause-used : goal.returns-clause-used
returns-clause-used g c = on_ok_weaker c.put.result (λ put. put.used) c.put.ensures.put

pub returns-clause-free : goal.returns-clause-free
returns-clause-free g c = on_ok_weaker c.put.result (λ put. put.free) c.put.ensures.put

pub returns-clause-changes : goal.returns-clause-changes
returns-clause-changes g c = on_ok_weaker c.put.result (λ put. put_changes g.P.Ground _ _ c.args.named.now.page.0 _ put c.put.ensures.leads) c.put.ensures.put

pub returns-clause-catalog : goal.returns-clause-catalog
returns-clause-catalog g c = on_ok_weaker c.put.result (λ put. put.images catalog_no (λ same. c.requires.page.1 (sym same))) c.put.ensures.put
