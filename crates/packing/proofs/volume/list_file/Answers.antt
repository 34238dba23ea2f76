use Rattle.std.proofs.Common.{rules, refl, subst}
use Rattle.std.proofs.lemmas.Result.{IfOk-weaker, IfErr-weaker}
use Rattle.packing.specs.Loop.{ReadsAtRest}
use Rattle.packing.proofs.Listing.{listed_file, never_damaged}
use Rattle.packing.proofs.Reading.{keeps_of, rest_shows}
use Rattle.packing.proofs.volume.list_file.Goals as goal

pub returns-clause-keeps : goal.returns-clause-keeps
returns-clause-keeps g c =
    let l = c.objects_in_file.ensures.kept.leads in
    subst (λ (d : g.row.D.Denot). ReadsAtRest (g.D.World.outside c.args.disk.now) (g.D.World.outside d) c.args.volume.now (record c.args.volume.now { groups = c.objects_in_file.new.volume.groups.now })) (search rules)
    (keeps_of (g.D.World.outside c.args.disk.now) (g.D.World.outside c.objects_in_file.new.volume.disk.now) c.args.volume.now c.objects_in_file.new.volume.groups.now l.only l.kinds l.sizes l.behind l.told c.requires.ready)

pub returns-clause-listed : goal.returns-clause-listed
returns-clause-listed g c = IfOk-weaker c.objects_in_file.result _ _
    (λ versions given d image rests e f has is.
    listed_file _ _ d.volume (rest_shows _ _ (g.D.World.outside c.args.disk.now) c.args.volume.now (record { geometry = refl; unit = refl; image = refl; held = refl }) d image rests) e f has
    versions.items c.args.file_no is (given (rests.told.1, rests.told.2))) c.objects_in_file.ensures.versions

pub returns-clause-sound : goal.returns-clause-sound
returns-clause-sound g c = IfErr-weaker c.objects_in_file.result _ _
    (λ fault never damage d image rests has.
    never_damaged _ _ d.volume (rest_shows _ _ (g.D.World.outside c.args.disk.now) c.args.volume.now (record { geometry = refl; unit = refl; image = refl; held = refl }) d image rests) has.0 has.1 has.2
    c.args.file_no has.3 (never damage (rests.told.1, rests.told.2))) c.objects_in_file.ensures.sound
