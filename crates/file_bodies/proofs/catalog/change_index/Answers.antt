use Rattle.std.proofs.Common.{◌≡◌, ℕ, ap, subst, eqb-true, Some, sym}
use Rattle.ex_base.specs.declared.names.PageNo.{PageNo}
use Rattle.file_bodies.specs.Indexes.{SetsIndex}
use Rattle.file_bodies.proofs.Entries.{index_same, same_sets}
use Rattle.ex_base.specs.Area.{catalog_no}
use Rattle.std.proofs.lemmas.Result.{IfErr-weaker, on_ok_weaker}
use Rattle.file_bodies.specs.Files.{index_at}
use Rattle.file_bodies.specs.Damage.{IsFileFault}
use Rattle.file_bodies.proofs.catalog.change_index.Goals as goal

pub returns-then-eq-clause-sets : goal.returns-then-eq-clause-sets
returns-then-eq-clause-sets g c = λ told whole at.
    let same : c.args.old.now ≡ c.args.new.now = index_same _ c.args.old.now c.args.new.now c.eq.result (λ x y e. ap (λ (n : ℕ). let p : PageNo = record { 0 = n } in p) (eqb-true x.0 y.0 e)) c.eq.ensures c.if-eq.true in
    subst (SetsIndex g.P.Ground c.args.pages.now c.args.pages.now) same (same_sets g.P.Ground c.args.pages.now c.args.old.now whole at)

pub returns-clause-sound : goal.returns-clause-sound
returns-clause-sound g c = IfErr-weaker c.write_index.result _ _ (λ fault never damage told placed whole at.
    never damage told placed whole c.args.old.now
    (subst (λ (n : ℕ). index_at (g.P.Ground.image c.args.pages.now) n ≡ Some c.args.old.now) (sym c.requires.usable.same_file) at)) c.write_index.ensures.sound

pub returns-clause-sets : goal.returns-clause-sets
returns-clause-sets g c = on_ok_weaker c.write_index.result (λ sets told whole at. sets told) c.write_index.ensures.sets

pub returns-clause-fault : goal.returns-clause-fault
returns-clause-fault g c = IfErr-weaker c.write_index.result _ _ (λ fault blames told.
    subst (λ (n : ℕ). IsFileFault (g.P.Ground.image c.args.pages.now catalog_no) n fault) c.requires.usable.same_file (blames told)) c.write_index.ensures.fault

pub returns-then-eq-clause-leads : goal.returns-then-eq-clause-leads
returns-then-eq-clause-leads g c = g.P.Ground.leads_refl _

pub write_index-requires-clause-buffer : goal.write_index-requires-clause-buffer
write_index-requires-clause-buffer g c = c.requires.buffer

pub returns-clause-touches : goal.returns-clause-touches
returns-clause-touches g c = c.write_index.ensures.touches

pub returns-clause-leads : goal.returns-clause-leads
returns-clause-leads g c = c.write_index.ensures.leads

pub returns-clause-held : goal.returns-clause-held
returns-clause-held g c = c.write_index.ensures.held

pub returns-clause-free : goal.returns-clause-free
returns-clause-free g c = c.write_index.ensures.free

pub returns-clause-cause : goal.returns-clause-cause
returns-clause-cause g c = c.write_index.ensures.cause
