use Rattle.std.proofs.Common.{◌≡◌, ℕ, ap, arith, length, refl, subst, IfOk}
use Rattle.std.proofs.lemmas.Result.{IfErr-weaker}
use Rattle.ex_base.specs.declared.geometry.Geometry.{Geometry}
use Rattle.ex_base.specs.declared.names.Area.{Area}
use Rattle.ex_base.specs.declared.names.Area.TheVariants.{Segment}
use Rattle.ex_base.specs.Area.{NamesLeaf}
use Rattle.ex_base.specs.Bytes.{bytes_at}
use Rattle.ex_base.specs.Ports.{IsLowest, TakesUnit}
use Rattle.ex_base.specs.Sizes.{leaf_bytes}
use Rattle.ex_base.proofs.Keeping.{cause_on}
use Rattle.ex_base.proofs.Results.{from_ok, if_err_handed, if_ok_from}
use Rattle.compact.specs.Walk.{LeafCopied}
use Rattle.compact.proofs.Handed.{cause_here, no_value}
use Rattle.compact.proofs.LeafSteps.{leaf_copied}
use Rattle.compact.proofs.leaves.copy_leaf.Goals as goal

pub returns-clause-copied : goal.returns-clause-copied
returns-clause-copied g c =
    let len : length c.leaf_into.new.out ≡ leaf_bytes (g.B.Ground.geometry c.args.blocks.now) = omega (arith, c.leaf_into.auto.out, c.requires.buffer) in
    if_ok_from c.new_leaf.result (λ copy. LeafCopied g.B.Ground c.args.blocks.now c.new_leaf.new.self c.args.page.0 copy.0) (λ copy is.
    leaf_copied g.B.Ground c.args.blocks.now c.leaf_into.new.self c.new_leaf.new.self c.args.page.0 copy.0 c.leaf_into.new.out len
    (λ told. subst (λ n. c.leaf_into.new.out ≡ bytes_at (g.B.Ground.unit c.args.blocks.now c.args.page.0) 0 n) (omega (arith, c.leaf_into.auto.out)) (c.in_ok-leaf_into.ensures.bytes told)) c.in_ok-leaf_into.ensures.kept c.new_leaf.ensures.leads
    (subst (λ r. IfOk r (λ p. TakesUnit g.B.Ground c.leaf_into.new.self c.new_leaf.new.self Segment p.0 c.leaf_into.new.out)) is c.new_leaf.ensures.taken)
    (subst (λ r. IfOk r (λ p. IsLowest (g.B.Ground.geometry c.leaf_into.new.self) (g.B.Ground.used c.leaf_into.new.self) Segment p.0)) is c.new_leaf.ensures.lowest)
    (from_ok c.new_leaf.result copy _ is c.new_leaf.ensures.references)
    (from_ok c.new_leaf.result copy _ is c.new_leaf.ensures.leaves)
    (from_ok c.new_leaf.result copy _ is c.new_leaf.ensures.pages))

pub geometry-requires : goal.geometry-requires
geometry-requires g c = record { ready = c.requires.ready }

pub leaf_into-requires-clause-ready : goal.leaf_into-requires-clause-ready
leaf_into-requires-clause-ready g c = c.requires.ready

pub leaf_into-requires-clause-page : goal.leaf_into-requires-clause-page
leaf_into-requires-clause-page g c = subst (λ (h : Geometry). NamesLeaf h c.args.page.0) c.geometry.ensures (c.if-not-names_leaf.ensures.0 refl)

pub leaf_into-requires-clause-range : goal.leaf_into-requires-clause-range
leaf_into-requires-clause-range g c = omega (arith, c.requires.buffer)

pub new_leaf-requires-clause-ready : goal.new_leaf-requires-clause-ready
new_leaf-requires-clause-ready g c = let kept = c.leaf_into.ensures.kept in g.B.Ground.leads_ready c.args.blocks.now c.leaf_into.new.self kept.leads c.requires.ready

pub new_leaf-requires-clause-free : goal.new_leaf-requires-clause-free
new_leaf-requires-clause-free g c = let kept = c.leaf_into.ensures.kept in omega (arith, ap (λ (free : Area → ℕ). free Segment) kept.free, c.free.ensures, c.if-free-eq0.false)

pub returns-then-not-names_leaf-clause-extends : goal.returns-then-not-names_leaf-clause-extends
returns-then-not-names_leaf-clause-extends g c = tt

pub returns-then-not-names_leaf-clause-copied : goal.returns-then-not-names_leaf-clause-copied
returns-then-not-names_leaf-clause-copied g c = tt

pub returns-then-not-names_leaf-clause-buffer : goal.returns-then-not-names_leaf-clause-buffer
returns-then-not-names_leaf-clause-buffer g c = refl

pub returns-then-not-names_leaf-clause-leads : goal.returns-then-not-names_leaf-clause-leads
returns-then-not-names_leaf-clause-leads g c = g.B.Ground.leads_refl c.args.blocks.now

pub returns-in_err-leaf_into-clause-extends : goal.returns-in_err-leaf_into-clause-extends
returns-in_err-leaf_into-clause-extends g c = no_value c.from_residual.result _ c.in_err-leaf_into.field-0.0 c.from_residual.ensures.1

pub returns-in_err-leaf_into-clause-copied : goal.returns-in_err-leaf_into-clause-copied
returns-in_err-leaf_into-clause-copied g c = no_value c.from_residual.result _ c.in_err-leaf_into.field-0.0 c.from_residual.ensures.1

pub returns-in_err-leaf_into-clause-sound : goal.returns-in_err-leaf_into-clause-sound
returns-in_err-leaf_into-clause-sound g c = if_err_handed c.from_residual.result _ c.in_err-leaf_into.field-0.0 c.from_residual.ensures.1 (λ named some damage. c.in_err-leaf_into.ensures.no_damage damage)

pub returns-in_err-leaf_into-clause-buffer : goal.returns-in_err-leaf_into-clause-buffer
returns-in_err-leaf_into-clause-buffer g c = c.leaf_into.auto.out

pub returns-in_err-leaf_into-clause-leads : goal.returns-in_err-leaf_into-clause-leads
returns-in_err-leaf_into-clause-leads g c = let kept = c.leaf_into.ensures.kept in kept.leads

pub returns-in_err-leaf_into-clause-cause : goal.returns-in_err-leaf_into-clause-cause
returns-in_err-leaf_into-clause-cause g c = cause_here (g.B.Ground.faults c.args.blocks.now) (g.B.Ground.faults c.leaf_into.new.self) c.from_residual.result c.in_err-leaf_into.field-0.0 c.from_residual.ensures.1 c.in_err-leaf_into.ensures.cause

pub returns-clause-sound : goal.returns-clause-sound
returns-clause-sound g c = IfErr-weaker c.new_leaf.result _ _ (λ fault never named some damage. never damage) c.new_leaf.ensures.no_damage

pub returns-clause-buffer : goal.returns-clause-buffer
returns-clause-buffer g c = c.leaf_into.auto.out

pub returns-clause-leads : goal.returns-clause-leads
returns-clause-leads g c = let kept = c.leaf_into.ensures.kept in g.B.Ground.leads_trans c.args.blocks.now c.leaf_into.new.self c.new_leaf.new.self kept.leads c.new_leaf.ensures.leads

pub returns-clause-cause : goal.returns-clause-cause
returns-clause-cause g c = let kept = c.leaf_into.ensures.kept in cause_on (g.B.Ground.faults c.args.blocks.now) (g.B.Ground.faults c.leaf_into.new.self) (g.B.Ground.faults c.new_leaf.new.self) c.new_leaf.result (g.B.Ground.leads_faults c.args.blocks.now c.leaf_into.new.self kept.leads) c.new_leaf.ensures.cause
