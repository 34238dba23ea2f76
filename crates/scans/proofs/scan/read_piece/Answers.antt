use Rattle.std.proofs.Common.{ℕ, arith, ◌∙◌, length, subst}
use Rattle.std.proofs.lemmas.List.{take_at}
use Rattle.std.proofs.lemmas.Result.{IfErr-weaker, on_ok_weaker}
use Rattle.ex_base.specs.Bytes.{bytes_at}
use Rattle.std.proofs.Common.{ap}
use Rattle.trees.specs.Damage.{IsRootReadFault}
use Rattle.scans.proofs.scan.read_piece.Goals as goal

pub returns-clause-bytes : goal.returns-clause-bytes
returns-clause-bytes g c =
    on_ok_weaker c.read.result (λ read told bytes spells.
    take_at c.read.new.out _ c.fit.new.block.len (omega (arith, c.read.auto.out, c.deref_mut.ensures.len)) ∙ read told bytes spells ∙ ap (bytes_at bytes c.args.pos) (ap length c.deref_mut.ensures.value ∙ c.in_ok-fit.ensures)) c.read.ensures.bytes

pub returns-clause-fault : goal.returns-clause-fault
returns-clause-fault g c =
    IfErr-weaker c.read.result _ _ (λ f h told.
    subst (λ (n : ℕ). IsRootReadFault (g.B.Ground.geometry c.args.blocks.now) (g.B.Ground.unit c.args.blocks.now) c.args.root.now c.args.pos n f) (ap length c.deref_mut.ensures.value ∙ c.in_ok-fit.ensures) (h told)) c.read.ensures.fault
