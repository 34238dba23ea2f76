use Rattle.std.proofs.Common.{◌≡◌, true, false, sym, ◌∙◌, eqb-true, eq-eqb}
use Rattle.std.proofs.lemmas.Result.{IfOk-weaker}
use Rattle.page_alloc.specs.UnitSet.{used_at}
use Rattle.object_files.specs.Reads.{entry_of}
use Rattle.file_walk.proofs.Walking.{root_added, root_free, none_added, none_free, nothing_added}
use Rattle.file_walk.proofs.indexes.walk_root.Goals as goal

pub returns-in-None-clause-added : goal.returns-in-None-clause-added
returns-in-None-clause-added g c = λ is images told. none_added (g.P.Ground.geometry c.args.pages.now) images (entry_of c.args.entry.now) c.args.walked.now c.in-None.is (eqb-true c.args.entry.now.level 0 is)

pub returns-in-None-clause-pages : goal.returns-in-None-clause-pages
returns-in-None-clause-pages g c = λ is. nothing_added (g.P.Ground.geometry c.args.pages.now) c.args.units.now c.args.walked.now

pub returns-in-None-clause-bad : goal.returns-in-None-clause-bad
returns-in-None-clause-bad g c = λ isnt images told free.
    let level = none_free (g.P.Ground.geometry c.args.pages.now) images (used_at c.args.units.now) (entry_of c.args.entry.now) c.in-None.is free in
    absurd (let f : false ≡ true = sym isnt ∙ eq-eqb c.args.entry.now.level 0 level in cc)

pub returns-in-Some-clause-added : goal.returns-in-Some-clause-added
returns-in-Some-clause-added g c = IfOk-weaker c.walk_under.result _ _ (λ whole adds is images told. root_added (g.P.Ground.geometry c.args.pages.now) images (entry_of c.args.entry.now) c.in-Some.page c.args.walked.now c.walk_under.new.walked c.in-Some.is (adds is images told)) c.walk_under.ensures.added

pub returns-in-Some-clause-bad : goal.returns-in-Some-clause-bad
returns-in-Some-clause-bad g c = IfOk-weaker c.walk_under.result _ _ (λ whole never isnt images told free. never isnt images told (root_free (g.P.Ground.geometry c.args.pages.now) images (used_at c.args.units.now) (entry_of c.args.entry.now) c.in-Some.page c.in-Some.is free)) c.walk_under.ensures.bad
