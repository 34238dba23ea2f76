use Rattle.std.proofs.Common.{◌≡◌, Option, None, false, refl, rules, sym, subst}
use Rattle.std.proofs.lemmas.Result.{IfErr-weaker, IfOk-weaker}
use Rattle.ex_base.specs.declared.names.PageNo.{PageNo}
use Rattle.ex_base.proofs.Keeping.{keeps_refl}
use Rattle.trees.specs.Owners.{page_here}
use Rattle.compact.specs.Found.{AreFound, CanCount, seen_in}
use Rattle.compact.proofs.Finding.{none_found}
use Rattle.compact.proofs.RootCounts.{sound_count}
use Rattle.compact.proofs.high.find_root.Goals as goal

pub returns-clause-found : goal.returns-clause-found
returns-clause-found g c = IfOk-weaker c.find_high.result _ _ (λ high h told nodes can.
    subst (λ (o : Option PageNo). AreFound (g.B.Ground.geometry c.args.blocks.now) c.args.dense (g.B.Ground.unit c.args.blocks.now) c.args.root.now.height (page_here o) high (seen_in c.find_high.new.found) c.find_high.new.found.above.items nodes) (sym c.in-Some.is)
    (h told c.args.root.now.height refl nodes (subst (λ (o : Option PageNo). CanCount (g.B.Ground.geometry c.args.blocks.now) c.args.dense (g.B.Ground.unit c.args.blocks.now) c.args.root.now.height (page_here o) (seen_in c.args.found.now) c.args.found.now.above.items nodes) c.in-Some.is can))) c.find_high.ensures.found

pub returns-clause-sound : goal.returns-clause-sound
returns-clause-sound g c = IfErr-weaker c.find_high.result _ _ (λ fault h told whole damage.
    sound_count (g.B.Ground.geometry c.args.blocks.now) (g.B.Ground.unit c.args.blocks.now) c.args.root.now c.in-Some.page fault c.in-Some.is whole (h told) damage) c.find_high.ensures.fault

pub returns-in_default-clause-found : goal.returns-in_default-clause-found
returns-in_default-clause-found g c = λ told nodes can.
    let none : c.args.root.now.page ≡ None = search rules in
    subst (λ (o : Option PageNo). AreFound (g.B.Ground.geometry c.args.blocks.now) c.args.dense (g.B.Ground.unit c.args.blocks.now) c.args.root.now.height (page_here o) false (seen_in c.args.found.now) c.args.found.now.above.items nodes) (sym none)
    (none_found (g.B.Ground.geometry c.args.blocks.now) c.args.dense (g.B.Ground.unit c.args.blocks.now) c.args.root.now.height (seen_in c.args.found.now) c.args.found.now.above.items nodes can.found)

pub find_high-requires : goal.find_high-requires
find_high-requires g c = record { ready = c.requires.ready }

pub returns-in_default-clause-grows : goal.returns-in_default-clause-grows
returns-in_default-clause-grows g c = λ p has. has

pub returns-in_default-clause-sound : goal.returns-in_default-clause-sound
returns-in_default-clause-sound g c = tt

pub returns-in_default-clause-kept : goal.returns-in_default-clause-kept
returns-in_default-clause-kept g c = keeps_refl g.B.Ground c.args.blocks.now

pub returns-in_default-clause-cause : goal.returns-in_default-clause-cause
returns-in_default-clause-cause g c = tt

pub returns-clause-grows : goal.returns-clause-grows
returns-clause-grows g c = c.find_high.ensures.grows

pub returns-clause-kept : goal.returns-clause-kept
returns-clause-kept g c = c.find_high.ensures.kept

pub returns-clause-cause : goal.returns-clause-cause
returns-clause-cause g c = c.find_high.ensures.cause
