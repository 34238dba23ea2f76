use Rattle.std.proofs.Common.{ℕ, List, subst, sym, arith}
use Rattle.std.proofs.lemmas.Result.{IfOk-weaker, IfErr-weaker}
use Rattle.object_records.specs.Record.{BodyOf}
use Rattle.file_bodies.proofs.Belonging.{file_of_body}
use Rattle.version_tree.specs.Links.{in_its_file, IsStored}
use Rattle.versions.proofs.Results.{of_found, ok_of}
use Rattle.version_tree.proofs.HeadLaws.{body_fits}
use Rattle.versions.proofs.Standing.{one_body}
use Rattle.version_tree.proofs.ReadPlaces.{err_both, read_on, some_both, stored_told}
use Rattle.version_tree.proofs.links.stored_at.Goals as goal

pub returns-in-Ok-clause-reads : goal.returns-in-Ok-clause-reads
returns-in-Ok-clause-reads g c = IfOk-weaker c.copy_on.result _ _ (λ stored h told.
    some_both c.in-Ok.body _ _ _ h (c.in-Ok.ensures.stands told) (λ b is stands. read_on (g.V.Ground.image c.args.volume.now) c.args.place b.now stored is stands)) c.copy_on.ensures.read

pub returns-in-Ok-clause-sound : goal.returns-in-Ok-clause-sound
returns-in-Ok-clause-sound g c = IfErr-weaker c.copy_on.result _ _ (λ fault h damage told index body is has spelled.
    of_found c.in-Ok.body _ _ _ _ (c.in-Ok.ensures.found told (file_of_body g.V.Ground c.args.volume.now index c.args.place body has)) (h damage)
    (λ never. never body (record { index = index; has = has }))
    (λ b some never. never is (subst (λ (t : List ℕ). BodyOf t is) (sym (one_body g.V.Ground c.args.volume.now index c.args.place b.now body some has)) spelled))) c.copy_on.ensures.sound

pub returns-in-Ok-clause-cause : goal.returns-in-Ok-clause-cause
returns-in-Ok-clause-cause g c = c.copy_on.ensures.cause _ _

pub returns-in-Err-clause-fault : goal.returns-in-Err-clause-fault
returns-in-Err-clause-fault g c = λ told. in_its_file (c.in-Err.ensures.fault told)

pub returns-in-Ok-clause-fits : goal.returns-in-Ok-clause-fits
returns-in-Ok-clause-fits g c = ok_of c.copy_on.result _ (λ told index body has.
    omega (arith, body_fits g.V.Ground c.args.volume.now index c.args.place body has, c.in-Ok.ensures.page told index body has))

pub returns-in-Ok-clause-fault : goal.returns-in-Ok-clause-fault
returns-in-Ok-clause-fault g c = IfErr-weaker c.copy_on.result _ _ (λ fault h told. stored_told g.V.Ground c.args.volume.now c.args.place fault h.1 (λ damage index body is has spelled. h.0 damage told index body is has spelled))
    (err_both c.copy_on.result _ _ (returns-in-Ok-clause-sound g c) c.copy_on.ensures.fault)

pub returns-in-Err-clause-stored : goal.returns-in-Err-clause-stored
returns-in-Err-clause-stored g c = tt

pub returns-in-Err-clause-reads : goal.returns-in-Err-clause-reads
returns-in-Err-clause-reads g c = tt

pub returns-in-Err-clause-fits : goal.returns-in-Err-clause-fits
returns-in-Err-clause-fits g c = tt

pub body_at-requires : goal.body_at-requires
body_at-requires g c = c.requires

pub returns-in-Err-clause-sound : goal.returns-in-Err-clause-sound
returns-in-Err-clause-sound g c = λ damage told index body is has spelled.
    c.in-Err.ensures.sound damage told (file_of_body g.V.Ground c.args.volume.now index c.args.place body has)

pub returns-in-Ok-clause-stored : goal.returns-in-Ok-clause-stored
returns-in-Ok-clause-stored g c = IfOk-weaker c.copy_on.result _ _ (λ stored h told index body has.
    of_found c.in-Ok.body _ _ _ _ (c.in-Ok.ensures.found told (file_of_body g.V.Ground c.args.volume.now index c.args.place body has)) h
    (λ never. absurd (never body (record { index = index; has = has })))
    (λ b some is. subst (λ (t : List ℕ). IsStored stored c.args.place t) (one_body g.V.Ground c.args.volume.now index c.args.place b.now body some has) is)) c.copy_on.ensures.stored
