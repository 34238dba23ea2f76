use Rattle.std.proofs.Common.{List, ℕ, subst, sym, ap, ◌∙◌}
use Rattle.ex_base.specs.declared.geometry.Geometry.{Geometry}
use Rattle.trees.specs.Node.{PairsOf, pairs_on}
use Rattle.history_plans.proofs.Results.{none_given}
use Rattle.ex_base.proofs.Keeping.{keeps_refl}
use Rattle.ex_base.specs.Area.{InPageArea}
use Rattle.trees.specs.Rows.{parts_of}
use Rattle.trees.proofs.Parts.{narrow}
use Rattle.history_plans.proofs.nodes.children.Goals as goal

pub returns-in-Ok-None-clause-sound : goal.returns-in-Ok-None-clause-sound
returns-in-Ok-None-clause-sound g c = λ damage told area pairs is.
    none_given _ c.in-Ok-None.field-0 c.in-Ok-None.field-0-is c.in-Ok-None.ensures.none pairs
    (subst (λ (bytes : List ℕ). PairsOf c.geometry-geometry.result.fan bytes c.args.level pairs) (sym (c.in-Ok.ensures.bytes told))
    (subst (λ (x : Geometry). PairsOf x.fan (g.V.Ground.image c.args.volume.now c.args.tree.page.0) c.args.level pairs) (sym c.geometry-geometry.ensures) is))

pub returns-then-not-in_page_area-clause-found : goal.returns-then-not-in_page_area-clause-found
returns-then-not-in_page_area-clause-found g c = tt

pub returns-then-not-in_page_area-clause-area : goal.returns-then-not-in_page_area-clause-area
returns-then-not-in_page_area-clause-area g c = tt

pub returns-then-not-in_page_area-clause-kept : goal.returns-then-not-in_page_area-clause-kept
returns-then-not-in_page_area-clause-kept g c = keeps_refl g.V.Ground c.args.volume.now

pub get-requires-clause-ready : goal.get-requires-clause-ready
get-requires-clause-ready g c = c.requires

pub returns-in-Err-clause-found : goal.returns-in-Err-clause-found
returns-in-Err-clause-found g c = tt

pub returns-in-Err-clause-area : goal.returns-in-Err-clause-area
returns-in-Err-clause-area g c = tt

pub returns-in-Err-clause-sound : goal.returns-in-Err-clause-sound
returns-in-Err-clause-sound g c = λ damage. absurd (c.in-Err.ensures.no_damage damage)

pub returns-in-Ok-Some-clause-sound : goal.returns-in-Ok-Some-clause-sound
returns-in-Ok-Some-clause-sound g c = tt

pub returns-in-Ok-Some-clause-cause : goal.returns-in-Ok-Some-clause-cause
returns-in-Ok-Some-clause-cause g c = tt

pub returns-in-Ok-None-clause-found : goal.returns-in-Ok-None-clause-found
returns-in-Ok-None-clause-found g c = tt

pub returns-in-Ok-None-clause-area : goal.returns-in-Ok-None-clause-area
returns-in-Ok-None-clause-area g c = tt

pub returns-in-Err-children_on-clause-found : goal.returns-in-Err-children_on-clause-found
returns-in-Err-children_on-clause-found g c = tt

pub returns-in-Err-children_on-clause-area : goal.returns-in-Err-children_on-clause-area
returns-in-Err-children_on-clause-area g c = tt

pub returns-in-Err-children_on-clause-sound : goal.returns-in-Err-children_on-clause-sound
returns-in-Err-children_on-clause-sound g c = λ damage. absurd damage

pub returns-in-Err-children_on-clause-cause : goal.returns-in-Err-children_on-clause-cause
returns-in-Err-children_on-clause-cause g c = tt

pub geometry-geometry-requires : goal.geometry-geometry-requires
geometry-geometry-requires g c = record { ready = c.requires }

pub get-requires-clause-page : goal.get-requires-clause-page
get-requires-clause-page g c = subst (λ (x : Geometry). InPageArea x c.args.tree.page.0) c.geometry-geometry.ensures (c.in_page_area.ensures.0 c.if-not-in_page_area.false)

pub returns-in-Ok-Some-clause-area : goal.returns-in-Ok-Some-clause-area
returns-in-Ok-Some-clause-area g c = subst (λ (x : Geometry). InPageArea x c.args.tree.page.0) c.geometry-geometry.ensures (c.in_page_area.ensures.0 c.if-not-in_page_area.false)

pub returns-in-Err-clause-kept : goal.returns-in-Err-clause-kept
returns-in-Err-clause-kept g c = c.get.follows.holds-at-none.0

pub returns-in-Ok-Some-clause-kept : goal.returns-in-Ok-Some-clause-kept
returns-in-Ok-Some-clause-kept g c = c.get.follows.holds-at-none.0

pub returns-in-Ok-None-clause-kept : goal.returns-in-Ok-None-clause-kept
returns-in-Ok-None-clause-kept g c = c.get.follows.holds-at-none.0

pub returns-in-Err-children_on-clause-kept : goal.returns-in-Err-children_on-clause-kept
returns-in-Err-children_on-clause-kept g c = c.get.follows.holds-at-none.0

pub children_on-requires : goal.children_on-requires
children_on-requires g c = narrow c.geometry-geometry.result

pub returns-in-Ok-Some-clause-found : goal.returns-in-Ok-Some-clause-found
returns-in-Ok-Some-clause-found g c = λ told. (rw c.in-Ok-Some.field-0-is at c.in-Ok-Some.ensures.found) ∙ ap (λ (bytes : List ℕ). parts_of 0 (pairs_on bytes)) (c.in-Ok.ensures.bytes told)
