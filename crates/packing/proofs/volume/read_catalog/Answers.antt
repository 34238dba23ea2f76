use Rattle.std.proofs.Common.{rules, ◌∙◌, subst}
use Rattle.std.proofs.lemmas.Result.{IfOk-weaker}
use Rattle.packing.specs.Loop.{ReadsAtRest}
use Rattle.packing.proofs.Reading.{catalog_shown, keeps_of}
use Rattle.packing.proofs.volume.read_catalog.Goals as goal

pub returns-clause-keeps : goal.returns-clause-keeps
returns-clause-keeps g c =
    let l = c.catalog_bytes.ensures.kept.leads in
    subst (λ (d : g.row.D.Denot). ReadsAtRest (g.D.World.outside c.args.disk.now) (g.D.World.outside d) c.args.volume.now (record c.args.volume.now { groups = c.catalog_bytes.new.pages.groups.now })) (search rules)
    (keeps_of (g.D.World.outside c.args.disk.now) (g.D.World.outside c.catalog_bytes.new.pages.disk.now) c.args.volume.now c.catalog_bytes.new.pages.groups.now l.only l.kinds l.sizes l.behind l.told c.requires.ready)

pub returns-clause-bytes : goal.returns-clause-bytes
returns-clause-bytes g c = IfOk-weaker c.catalog_bytes.result _ _
    (λ page bytes d image rests. bytes (rests.told.1, rests.told.2) ∙ catalog_shown (g.D.World.outside c.args.disk.now) c.args.volume.now d image rests) c.catalog_bytes.ensures.bytes
