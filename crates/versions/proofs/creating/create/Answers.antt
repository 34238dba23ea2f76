use Rattle.std.proofs.Common.{◌≡◌, ℕ, true, length, subst, arith, sym, ap}
use Rattle.file_bodies.specs.Damage.{IsListedFault, IsPlacingFault}
use Rattle.file_bodies.specs.Placing.{start_of}
use Rattle.ex_base.specs.declared.names.Oid.{Oid}
use Rattle.versions.specs.Versions.{CreatesVersion, PutsVersion}
use Rattle.versions.proofs.creating.create.Goals as goal

pub returns-in-Err-clause-fault : goal.returns-in-Err-clause-fault
returns-in-Err-clause-fault g c = λ told.
    let long : length c.write_small.new.out ≡ 36 = omega arith in
    subst (λ (n : ℕ). IsListedFault (g.V.Ground.image c.args.volume.now) c.args.room.now.file_no (λ index. IsPlacingFault (g.V.Ground.geometry c.args.volume.now) (g.V.Ground.held c.args.volume.now) (g.V.Ground.image c.args.volume.now) index (start_of c.args.room.now n) c.in-Err.fault) c.in-Err.fault) long
    (c.in-Err.ensures.fault told)

pub returns-in-Err-clause-created : goal.returns-in-Err-clause-created
returns-in-Err-clause-created g c = tt

pub returns-in-Err-clause-anywhere : goal.returns-in-Err-clause-anywhere
returns-in-Err-clause-anywhere g c = tt

pub returns-in-Err-clause-number : goal.returns-in-Err-clause-number
returns-in-Err-clause-number g c = tt

pub returns-in-Err-clause-room : goal.returns-in-Err-clause-room
returns-in-Err-clause-room g c = tt

pub returns-in-Err-clause-pages : goal.returns-in-Err-clause-pages
returns-in-Err-clause-pages g c = tt

pub returns-in-Err-clause-takes : goal.returns-in-Err-clause-takes
returns-in-Err-clause-takes g c = tt

pub returns-in-Err-clause-leaves : goal.returns-in-Err-clause-leaves
returns-in-Err-clause-leaves g c = tt

pub returns-in-Err-clause-touches : goal.returns-in-Err-clause-touches
returns-in-Err-clause-touches g c = tt

pub returns-in-Err-clause-sound : goal.returns-in-Err-clause-sound
returns-in-Err-clause-sound g c = c.in-Err.ensures.sound

pub returns-in-Err-clause-leads : goal.returns-in-Err-clause-leads
returns-in-Err-clause-leads g c = c.place_body.ensures.leads

pub returns-in-Err-clause-cause : goal.returns-in-Err-clause-cause
returns-in-Err-clause-cause g c = c.in-Err.ensures.cause

pub returns-in-Ok-clause-unplaced : goal.returns-in-Ok-clause-unplaced
returns-in-Ok-clause-unplaced g c = tt

pub returns-in-Ok-clause-sound : goal.returns-in-Ok-clause-sound
returns-in-Ok-clause-sound g c = tt

pub returns-in-Ok-clause-fault : goal.returns-in-Ok-clause-fault
returns-in-Ok-clause-fault g c = tt

pub returns-in-Ok-clause-cause : goal.returns-in-Ok-clause-cause
returns-in-Ok-clause-cause g c = tt

pub returns-in-Ok-clause-pages : goal.returns-in-Ok-clause-pages
returns-in-Ok-clause-pages g c = c.in-Ok.ensures.free

pub returns-in-Ok-clause-takes : goal.returns-in-Ok-clause-takes
returns-in-Ok-clause-takes g c = c.in-Ok.ensures.takes

pub returns-in-Ok-clause-leaves : goal.returns-in-Ok-clause-leaves
returns-in-Ok-clause-leaves g c = c.in-Ok.ensures.leaves

pub returns-in-Ok-clause-touches : goal.returns-in-Ok-clause-touches
returns-in-Ok-clause-touches g c = c.in-Ok.ensures.touches

pub returns-in-Ok-clause-leads : goal.returns-in-Ok-clause-leads
returns-in-Ok-clause-leads g c = c.place_body.ensures.leads

pub place_body-requires-clause-ready : goal.place_body-requires-clause-ready
place_body-requires-clause-ready g c = c.requires.ready

pub returns-in-Ok-clause-anywhere : goal.returns-in-Ok-clause-anywhere
returns-in-Ok-clause-anywhere g c = λ told index file same.
    subst (λ (o : Oid). PutsVersion g.V.Ground c.args.volume.now c.place_body.new.pages index o) (sym c.oid_at.ensures)
    (record { body = c.write_small.new.out; spelled = c.write_small.ensures; puts = c.in-Ok.ensures.anywhere told index file same })

pub returns-in-Ok-clause-created : goal.returns-in-Ok-clause-created
returns-in-Ok-clause-created g c = λ told index file same room.
    subst (λ (o : Oid). CreatesVersion g.V.Ground c.args.volume.now c.place_body.new.pages index o) (sym c.oid_at.ensures)
    (record { body = c.write_small.new.out; spelled = c.write_small.ensures; places = c.in-Ok.ensures.placed told index file same room })

pub returns-in-Ok-clause-number : goal.returns-in-Ok-clause-number
returns-in-Ok-clause-number g c = ap (λ (o : Oid). o.unique) c.oid_at.ensures

pub returns-in-Err-clause-unplaced : goal.returns-in-Err-clause-unplaced
returns-in-Err-clause-unplaced g c = c.in-Err.ensures.unplaced

pub returns-in-Ok-clause-grows : goal.returns-in-Ok-clause-grows
returns-in-Ok-clause-grows g c =
    subst (λ (o : Oid). g.V.Ground.held c.args.volume.now o.page.0 ≡ true → g.V.Ground.free c.place_body.new.pages ≡ g.V.Ground.free c.args.volume.now)
    (sym c.oid_at.ensures) c.in-Ok.ensures.grows

pub returns-in-Err-clause-grows : goal.returns-in-Err-clause-grows
returns-in-Err-clause-grows g c = tt
