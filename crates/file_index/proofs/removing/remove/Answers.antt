use Rattle.std.proofs.Common.{refl}
use Rattle.file_index.specs.Damage.{goes, stays}
use Rattle.file_index.proofs.Chains.{same_gives, more_none, le_from}
use Rattle.file_index.proofs.removing.remove.Goals as goal

pub returns-clause-sound : goal.returns-clause-sound
returns-clause-sound g c = tt

pub returns-clause-fault : goal.returns-clause-fault
returns-clause-fault g c = tt

pub returns-clause-cause : goal.returns-clause-cause
returns-clause-cause g c = tt

pub returns-then-ne-clause-sound : goal.returns-then-ne-clause-sound
returns-then-ne-clause-sound g c = tt

pub returns-then-ne-clause-fault : goal.returns-then-ne-clause-fault
returns-then-ne-clause-fault g c = tt

pub returns-then-ne-clause-cause : goal.returns-then-ne-clause-cause
returns-then-ne-clause-cause g c = tt

pub returns-in_default-clause-sound : goal.returns-in_default-clause-sound
returns-in_default-clause-sound g c = tt

pub returns-in_default-clause-fault : goal.returns-in_default-clause-fault
returns-in_default-clause-fault g c = tt

pub returns-in_default-clause-cause : goal.returns-in_default-clause-cause
returns-in_default-clause-cause g c = tt

pub returns-then-index-gt0-clause-removes : goal.returns-then-index-gt0-clause-removes
returns-then-index-gt0-clause-removes g c = c.remove_below.ensures.removes

pub returns-then-index-gt0-clause-shrinks : goal.returns-then-index-gt0-clause-shrinks
returns-then-index-gt0-clause-shrinks g c = c.remove_below.ensures.shrinks

pub returns-then-index-gt0-clause-free : goal.returns-then-index-gt0-clause-free
returns-then-index-gt0-clause-free g c = c.remove_below.ensures.free

pub returns-then-index-gt0-clause-gives : goal.returns-then-index-gt0-clause-gives
returns-then-index-gt0-clause-gives g c = c.remove_below.ensures.gives

pub returns-then-index-gt0-clause-sound : goal.returns-then-index-gt0-clause-sound
returns-then-index-gt0-clause-sound g c = c.remove_below.ensures.sound

pub returns-then-index-gt0-clause-fault : goal.returns-then-index-gt0-clause-fault
returns-then-index-gt0-clause-fault g c = c.remove_below.ensures.fault

pub returns-then-index-gt0-clause-way : goal.returns-then-index-gt0-clause-way
returns-then-index-gt0-clause-way g c = c.remove_below.ensures.way

pub returns-then-index-gt0-clause-catalog : goal.returns-then-index-gt0-clause-catalog
returns-then-index-gt0-clause-catalog g c = c.remove_below.ensures.catalog

pub returns-then-index-gt0-clause-leaves : goal.returns-then-index-gt0-clause-leaves
returns-then-index-gt0-clause-leaves g c = c.remove_below.ensures.leaves

pub returns-then-index-gt0-clause-leads : goal.returns-then-index-gt0-clause-leads
returns-then-index-gt0-clause-leads g c = c.remove_below.ensures.leads

pub returns-then-index-gt0-clause-cause : goal.returns-then-index-gt0-clause-cause
returns-then-index-gt0-clause-cause g c = c.remove_below.ensures.cause

pub returns-clause-leads : goal.returns-clause-leads
returns-clause-leads g c = g.P.Ground.leads_refl _

pub returns-clause-gives : goal.returns-clause-gives
returns-clause-gives g c = same_gives g.P.Ground _ _ refl refl

pub returns-clause-touches : goal.returns-clause-touches
returns-clause-touches g c = more_none _ _

pub returns-clause-free : goal.returns-clause-free
returns-clause-free g c = le_from refl

pub returns-clause-catalog : goal.returns-clause-catalog
returns-clause-catalog g c = refl

pub returns-clause-leaves : goal.returns-clause-leaves
returns-clause-leaves g c = refl

pub returns-then-ne-clause-leads : goal.returns-then-ne-clause-leads
returns-then-ne-clause-leads g c = g.P.Ground.leads_refl _

pub returns-then-ne-clause-gives : goal.returns-then-ne-clause-gives
returns-then-ne-clause-gives g c = same_gives g.P.Ground _ _ refl refl

pub returns-then-ne-clause-touches : goal.returns-then-ne-clause-touches
returns-then-ne-clause-touches g c = more_none _ _

pub returns-then-ne-clause-free : goal.returns-then-ne-clause-free
returns-then-ne-clause-free g c = le_from refl

pub returns-then-ne-clause-catalog : goal.returns-then-ne-clause-catalog
returns-then-ne-clause-catalog g c = refl

pub returns-then-ne-clause-leaves : goal.returns-then-ne-clause-leaves
returns-then-ne-clause-leaves g c = refl

pub returns-in_default-clause-leads : goal.returns-in_default-clause-leads
returns-in_default-clause-leads g c = g.P.Ground.leads_refl _

pub returns-in_default-clause-gives : goal.returns-in_default-clause-gives
returns-in_default-clause-gives g c = same_gives g.P.Ground _ _ refl refl

pub returns-in_default-clause-touches : goal.returns-in_default-clause-touches
returns-in_default-clause-touches g c = more_none _ _

pub returns-in_default-clause-free : goal.returns-in_default-clause-free
returns-in_default-clause-free g c = le_from refl

pub returns-in_default-clause-catalog : goal.returns-in_default-clause-catalog
returns-in_default-clause-catalog g c = refl

pub returns-in_default-clause-leaves : goal.returns-in_default-clause-leaves
returns-in_default-clause-leaves g c = refl

pub remove_below-requires-clause-ready : goal.remove_below-requires-clause-ready
remove_below-requires-clause-ready g c = c.requires.ready

pub remove_below-requires-clause-root : goal.remove_below-requires-clause-root
remove_below-requires-clause-root g c = c.in-Some.is

pub returns-then-index-gt0-clause-left : goal.returns-then-index-gt0-clause-left
returns-then-index-gt0-clause-left g c = c.remove_below.ensures.left

pub returns-clause-left : goal.returns-clause-left
returns-clause-left g c = λ told. goes refl

pub returns-then-ne-clause-left : goal.returns-then-ne-clause-left
returns-then-ne-clause-left g c = λ told. stays refl

pub returns-in_default-clause-left : goal.returns-in_default-clause-left
returns-in_default-clause-left g c = λ told. stays refl
