use Rattle.std.proofs.Common.{◌≡◌, ◌≤◌, arith}
use Rattle.file_index.specs.Damage.{too_high, on_the_way}
use Rattle.file_index.proofs.Heights.{five_levels}
use Rattle.std.proofs.lemmas.Result.{IfErr-weaker}
use Rattle.ex_base.proofs.Handed.{no_value, not_given, cause_here}
use Rattle.ex_base.proofs.Results.{if_err_handed}
use Rattle.file_index.proofs.adding.add.Goals as goal

pub returns-then-added-gt-INDEX_LEVEL_MOST-clause-sound : goal.returns-then-added-gt-INDEX_LEVEL_MOST-clause-sound
returns-then-added-gt-INDEX_LEVEL_MOST-clause-sound g c = λ damage told files has.
    let edits = c.in_ok-added.ensures.adds told files has in
    let five : c.in_ok-added.added.level ≤ 5 =
    five_levels (g.P.Ground.geometry c.add_below.new.pages) (g.P.Ground.image c.add_below.new.pages) c.in_ok-added.added.file_no c.in_ok-added.added.level c.in_ok-added.added.root edits.index.whole in
    absurd (omega (arith, five, c.if-added-gt-INDEX_LEVEL_MOST.true))

pub returns-then-added-gt-INDEX_LEVEL_MOST-clause-fault : goal.returns-then-added-gt-INDEX_LEVEL_MOST-clause-fault
returns-then-added-gt-INDEX_LEVEL_MOST-clause-fault g c = λ told.
    let high : c.args.index.now.level ≡ 5 = omega (arith, c.if-added-gt-INDEX_LEVEL_MOST.true, c.in_ok-added.ensures.grows.one_more, c.requires.level) in
    too_high c.in-Some.root c.in-Some.is high c.no_index_page.ensures.is

pub returns-then-added-gt-INDEX_LEVEL_MOST-clause-adds : goal.returns-then-added-gt-INDEX_LEVEL_MOST-clause-adds
returns-then-added-gt-INDEX_LEVEL_MOST-clause-adds g c = tt

pub returns-then-added-gt-INDEX_LEVEL_MOST-clause-grows : goal.returns-then-added-gt-INDEX_LEVEL_MOST-clause-grows
returns-then-added-gt-INDEX_LEVEL_MOST-clause-grows g c = tt

pub returns-then-added-gt-INDEX_LEVEL_MOST-clause-placed : goal.returns-then-added-gt-INDEX_LEVEL_MOST-clause-placed
returns-then-added-gt-INDEX_LEVEL_MOST-clause-placed g c = tt

pub returns-then-added-gt-INDEX_LEVEL_MOST-clause-level : goal.returns-then-added-gt-INDEX_LEVEL_MOST-clause-level
returns-then-added-gt-INDEX_LEVEL_MOST-clause-level g c = tt

pub returns-then-added-gt-INDEX_LEVEL_MOST-clause-free : goal.returns-then-added-gt-INDEX_LEVEL_MOST-clause-free
returns-then-added-gt-INDEX_LEVEL_MOST-clause-free g c = tt

pub returns-then-added-gt-INDEX_LEVEL_MOST-clause-takes : goal.returns-then-added-gt-INDEX_LEVEL_MOST-clause-takes
returns-then-added-gt-INDEX_LEVEL_MOST-clause-takes g c = tt

pub returns-then-added-gt-INDEX_LEVEL_MOST-clause-way : goal.returns-then-added-gt-INDEX_LEVEL_MOST-clause-way
returns-then-added-gt-INDEX_LEVEL_MOST-clause-way g c = tt

pub returns-then-added-gt-INDEX_LEVEL_MOST-clause-catalog : goal.returns-then-added-gt-INDEX_LEVEL_MOST-clause-catalog
returns-then-added-gt-INDEX_LEVEL_MOST-clause-catalog g c = tt

pub returns-then-added-gt-INDEX_LEVEL_MOST-clause-leaves : goal.returns-then-added-gt-INDEX_LEVEL_MOST-clause-leaves
returns-then-added-gt-INDEX_LEVEL_MOST-clause-leaves g c = tt

pub returns-then-added-gt-INDEX_LEVEL_MOST-clause-touches : goal.returns-then-added-gt-INDEX_LEVEL_MOST-clause-touches
returns-then-added-gt-INDEX_LEVEL_MOST-clause-touches g c = tt

pub returns-clause-sound : goal.returns-clause-sound
returns-clause-sound g c = tt

pub returns-clause-fault : goal.returns-clause-fault
returns-clause-fault g c = tt

pub returns-clause-cause : goal.returns-clause-cause
returns-clause-cause g c = tt

pub returns-in_default-clause-sound : goal.returns-in_default-clause-sound
returns-in_default-clause-sound g c = tt

pub returns-in_default-clause-fault : goal.returns-in_default-clause-fault
returns-in_default-clause-fault g c = tt

pub returns-in_default-clause-cause : goal.returns-in_default-clause-cause
returns-in_default-clause-cause g c = tt

pub returns-in_err-added-clause-adds : goal.returns-in_err-added-clause-adds
returns-in_err-added-clause-adds g c = no_value c.from_residual.result _ c.in_err-added.field-0.0 c.from_residual.ensures.1

pub returns-in_err-added-clause-grows : goal.returns-in_err-added-clause-grows
returns-in_err-added-clause-grows g c = no_value c.from_residual.result _ c.in_err-added.field-0.0 c.from_residual.ensures.1

pub returns-in_err-added-clause-placed : goal.returns-in_err-added-clause-placed
returns-in_err-added-clause-placed g c = no_value c.from_residual.result _ c.in_err-added.field-0.0 c.from_residual.ensures.1

pub returns-in_err-added-clause-level : goal.returns-in_err-added-clause-level
returns-in_err-added-clause-level g c = no_value c.from_residual.result _ c.in_err-added.field-0.0 c.from_residual.ensures.1

pub returns-in_err-added-clause-free : goal.returns-in_err-added-clause-free
returns-in_err-added-clause-free g c = not_given c.from_residual.result _ c.in_err-added.field-0.0 c.from_residual.ensures.1

pub returns-in_err-added-clause-takes : goal.returns-in_err-added-clause-takes
returns-in_err-added-clause-takes g c = not_given c.from_residual.result _ c.in_err-added.field-0.0 c.from_residual.ensures.1

pub returns-in_err-added-clause-way : goal.returns-in_err-added-clause-way
returns-in_err-added-clause-way g c = not_given c.from_residual.result _ c.in_err-added.field-0.0 c.from_residual.ensures.1

pub returns-in_err-added-clause-catalog : goal.returns-in_err-added-clause-catalog
returns-in_err-added-clause-catalog g c = not_given c.from_residual.result _ c.in_err-added.field-0.0 c.from_residual.ensures.1

pub returns-in_err-added-clause-leaves : goal.returns-in_err-added-clause-leaves
returns-in_err-added-clause-leaves g c = not_given c.from_residual.result _ c.in_err-added.field-0.0 c.from_residual.ensures.1

pub returns-in_err-added-clause-touches : goal.returns-in_err-added-clause-touches
returns-in_err-added-clause-touches g c = not_given c.from_residual.result _ c.in_err-added.field-0.0 c.from_residual.ensures.1

pub returns-in_err-added-clause-sound : goal.returns-in_err-added-clause-sound
returns-in_err-added-clause-sound g c =
    if_err_handed c.from_residual.result _ c.in_err-added.field-0.0 c.from_residual.ensures.1
    (λ damage told files has. c.in_err-added.ensures.sound damage told has)

pub returns-in_err-added-clause-fault : goal.returns-in_err-added-clause-fault
returns-in_err-added-clause-fault g c =
    if_err_handed c.from_residual.result _ c.in_err-added.field-0.0 c.from_residual.ensures.1 (λ told. on_the_way (c.in_err-added.ensures.fault told))

pub returns-in_err-added-clause-cause : goal.returns-in_err-added-clause-cause
returns-in_err-added-clause-cause g c = cause_here _ _ c.from_residual.result c.in_err-added.field-0.0 c.from_residual.ensures.1 c.in_err-added.ensures.cause

pub returns-in_err-added-clause-leads : goal.returns-in_err-added-clause-leads
returns-in_err-added-clause-leads g c = c.add_below.ensures.leads

pub returns-clause-adds : goal.returns-clause-adds
returns-clause-adds g c = c.in_ok-added.ensures.adds

pub returns-clause-grows : goal.returns-clause-grows
returns-clause-grows g c = c.in_ok-added.ensures.grows

pub returns-clause-placed : goal.returns-clause-placed
returns-clause-placed g c = c.in_ok-added.ensures.placed

pub returns-clause-free : goal.returns-clause-free
returns-clause-free g c = c.in_ok-added.ensures.free

pub returns-clause-takes : goal.returns-clause-takes
returns-clause-takes g c = c.in_ok-added.ensures.takes

pub returns-clause-way : goal.returns-clause-way
returns-clause-way g c = c.in_ok-added.ensures.way

pub returns-clause-catalog : goal.returns-clause-catalog
returns-clause-catalog g c = c.in_ok-added.ensures.catalog

pub returns-clause-leaves : goal.returns-clause-leaves
returns-clause-leaves g c = c.in_ok-added.ensures.leaves

pub returns-clause-touches : goal.returns-clause-touches
returns-clause-touches g c = c.in_ok-added.ensures.touches

pub returns-clause-leads : goal.returns-clause-leads
returns-clause-leads g c = c.add_below.ensures.leads

pub returns-then-added-gt-INDEX_LEVEL_MOST-clause-leads : goal.returns-then-added-gt-INDEX_LEVEL_MOST-clause-leads
returns-then-added-gt-INDEX_LEVEL_MOST-clause-leads g c = c.add_below.ensures.leads

pub returns-clause-level : goal.returns-clause-level
returns-clause-level g c = c.if-added-gt-INDEX_LEVEL_MOST.false

pub returns-then-added-gt-INDEX_LEVEL_MOST-clause-cause : goal.returns-then-added-gt-INDEX_LEVEL_MOST-clause-cause
returns-then-added-gt-INDEX_LEVEL_MOST-clause-cause g c = c.no_index_page.ensures.cause _ _

pub returns-in_default-clause-leads : goal.returns-in_default-clause-leads
returns-in_default-clause-leads g c = g.P.Ground.leads_refl _

pub returns-then-index-eq0-clause-adds : goal.returns-then-index-eq0-clause-adds
returns-then-index-eq0-clause-adds g c = c.add_second.ensures.adds

pub returns-then-index-eq0-clause-grows : goal.returns-then-index-eq0-clause-grows
returns-then-index-eq0-clause-grows g c = c.add_second.ensures.grows

pub returns-then-index-eq0-clause-placed : goal.returns-then-index-eq0-clause-placed
returns-then-index-eq0-clause-placed g c = c.add_second.ensures.placed

pub returns-then-index-eq0-clause-takes : goal.returns-then-index-eq0-clause-takes
returns-then-index-eq0-clause-takes g c = c.add_second.ensures.takes

pub returns-then-index-eq0-clause-catalog : goal.returns-then-index-eq0-clause-catalog
returns-then-index-eq0-clause-catalog g c = c.add_second.ensures.catalog

pub returns-then-index-eq0-clause-leaves : goal.returns-then-index-eq0-clause-leaves
returns-then-index-eq0-clause-leaves g c = c.add_second.ensures.leaves

pub returns-then-index-eq0-clause-leads : goal.returns-then-index-eq0-clause-leads
returns-then-index-eq0-clause-leads g c = c.add_second.ensures.leads

pub returns-then-index-eq0-clause-cause : goal.returns-then-index-eq0-clause-cause
returns-then-index-eq0-clause-cause g c = c.add_second.ensures.cause

pub returns-then-index-eq0-clause-sound : goal.returns-then-index-eq0-clause-sound
returns-then-index-eq0-clause-sound g c =
    IfErr-weaker c.add_second.result _ _ (λ fault never damage told files has. never damage) c.add_second.ensures.no_damage

pub add_below-requires-clause-ready : goal.add_below-requires-clause-ready
add_below-requires-clause-ready g c = c.requires.ready

pub add_second-requires-clause-ready : goal.add_second-requires-clause-ready
add_second-requires-clause-ready g c = c.requires.ready

pub add_below-requires-clause-free : goal.add_below-requires-clause-free
add_below-requires-clause-free g c = c.requires.free

pub add_below-requires-clause-root : goal.add_below-requires-clause-root
add_below-requires-clause-root g c = c.in-Some.is

pub add_second-requires-clause-root : goal.add_second-requires-clause-root
add_second-requires-clause-root g c = c.in-Some.is
