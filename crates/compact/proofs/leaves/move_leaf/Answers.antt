use Rattle.std.proofs.Common.{◌≡◌, ◌≢◌, ℕ, None, Some, true, rules, arith, ap, refl, sym, subst, ◌∙◌}
use Rattle.ex_base.specs.declared.geometry.Geometry.{Geometry}
use Rattle.ex_base.specs.declared.names.PageNo.{PageNo}
use Rattle.ex_base.specs.Area.{NamesLeaf}
use Rattle.ex_base.specs.declared.faults.PortFault.TheVariants.{Memory}
use Rattle.ex_base.proofs.Results.{if_err_handed}
use Rattle.trees.proofs.Laid.{extends_refl}
use Rattle.compact.specs.High.{is_high}
use Rattle.compact.specs.Moves.{copies_of}
use Rattle.compact.specs.Walk.{LeafCopied, TreeMoved}
use Rattle.compact.proofs.Handed.{cause_here, no_value}
use Rattle.compact.proofs.LeafSteps.{copied_leaf, high_leaf, known_copy}
use Rattle.compact.proofs.Unmoved.{unmoved_some}
use Rattle.compact.proofs.leaves.move_leaf.Goals as goal

pub returns-in-Some-clause-moved : goal.returns-in-Some-clause-moved
returns-in-Some-clause-moved g c = λ told move least part same can.
    let sent : copies_of c.args.moves.now part.page.0 ≡ Some c.in-Some.copy = ap (λ (p : PageNo). copies_of c.args.moves.now p.0) same ∙ sym c.in-Some.ensures in
    subst (λ (p : PageNo). TreeMoved g.B.Ground move c.args.dense c.args.blocks.now c.args.blocks.now (copies_of c.args.moves.now) (copies_of c.args.moves.now) 0 p.0 c.in-Some.copy.0) same
    (known_copy g.B.Ground move c.args.dense c.args.blocks.now (copies_of c.args.moves.now) 0 least part c.in-Some.copy can sent)

pub returns-in_err-copy-clause-sound : goal.returns-in_err-copy-clause-sound
returns-in_err-copy-clause-sound g c =
    let at : is_high c.geometry.result c.args.dense c.args.page.0 ≡ true = search rules in
    let high : is_high (g.B.Ground.geometry c.args.blocks.now) c.args.dense c.args.page.0 ≡ true = subst (λ (h : Geometry). is_high h c.args.dense c.args.page.0 ≡ true) c.geometry.ensures at in
    let none : copies_of c.args.moves.now c.args.page.0 ≡ None = search rules in
    if_err_handed c.from_residual.result _ c.in_err-copy.field-0.0 c.from_residual.ensures.1 (λ told move least part same can damage.
    let tree = can.trees.0 in
    let some = unmoved_some (copies_of c.args.moves.now) move.leaves part.page.0 (high_leaf g.B.Ground move c.args.dense c.args.blocks.now least part tree (subst (λ (p : PageNo). is_high (g.B.Ground.geometry c.args.blocks.now) c.args.dense p.0 ≡ true) (sym same) high)) (subst (λ (p : PageNo). copies_of c.args.moves.now p.0 ≡ None) (sym same) none) in
    c.in_err-copy.ensures.sound (subst (λ (p : PageNo). NamesLeaf (g.B.Ground.geometry c.args.blocks.now) p.0) same tree.named) (omega (arith, can.room.leaves, some)) damage)

pub returns-clause-moved : goal.returns-clause-moved
returns-clause-moved g c = λ told move least part same can.
    let at : is_high c.geometry.result c.args.dense c.args.page.0 ≡ true = search rules in
    let high : is_high (g.B.Ground.geometry c.args.blocks.now) c.args.dense c.args.page.0 ≡ true = subst (λ (h : Geometry). is_high h c.args.dense c.args.page.0 ≡ true) c.geometry.ensures at in
    let none : copies_of c.args.moves.now c.args.page.0 ≡ None = search rules in
    subst (λ (p : PageNo). TreeMoved g.B.Ground move c.args.dense c.args.blocks.now c.copy_leaf.new.blocks (copies_of c.args.moves.now) (copies_of c.add.new.self) 0 p.0 c.in_ok-copy.copy.0) same
    (copied_leaf g.B.Ground move c.args.dense c.args.blocks.now c.copy_leaf.new.blocks (copies_of c.args.moves.now) (copies_of c.add.new.self) least part c.in_ok-copy.copy can
    (subst (λ (p : PageNo). is_high (g.B.Ground.geometry c.args.blocks.now) c.args.dense p.0 ≡ true) (sym same) high) (subst (λ (p : PageNo). copies_of c.args.moves.now p.0 ≡ None) (sym same) none) told c.in_ok-copy.ensures.extends
    (subst (λ (p : PageNo). LeafCopied g.B.Ground c.args.blocks.now c.copy_leaf.new.blocks p.0 c.in_ok-copy.copy.0) (sym same) c.in_ok-copy.ensures.copied) c.in_ok-add.ensures.keeps
    (subst (λ (p : PageNo). copies_of c.add.new.self p.0 ≡ Some c.in_ok-copy.copy) (sym same) (c.in_ok-add.ensures.here none))
    (subst (λ (p : PageNo). (q : ℕ) → q ≢ p.0 → copies_of c.add.new.self q ≡ copies_of c.args.moves.now q) (sym same) c.in_ok-add.ensures.others))

-- ---- what else is asked and promised

pub geometry-requires : goal.geometry-requires
geometry-requires g c = record { ready = c.requires.ready }

pub returns-then-not-is_high-clause-extends : goal.returns-then-not-is_high-clause-extends
returns-then-not-is_high-clause-extends g c = extends_refl g.B.Ground c.args.blocks.now

pub returns-then-not-is_high-clause-sound : goal.returns-then-not-is_high-clause-sound
returns-then-not-is_high-clause-sound g c = tt

pub returns-then-not-is_high-clause-keeps : goal.returns-then-not-is_high-clause-keeps
returns-then-not-is_high-clause-keeps g c = λ p copy is. is

pub returns-then-not-is_high-clause-buffer : goal.returns-then-not-is_high-clause-buffer
returns-then-not-is_high-clause-buffer g c = refl

pub returns-then-not-is_high-clause-leads : goal.returns-then-not-is_high-clause-leads
returns-then-not-is_high-clause-leads g c = g.B.Ground.leads_refl c.args.blocks.now

pub returns-then-not-is_high-clause-cause : goal.returns-then-not-is_high-clause-cause
returns-then-not-is_high-clause-cause g c = tt

pub returns-in-Some-clause-extends : goal.returns-in-Some-clause-extends
returns-in-Some-clause-extends g c = extends_refl g.B.Ground c.args.blocks.now

pub returns-in-Some-clause-sound : goal.returns-in-Some-clause-sound
returns-in-Some-clause-sound g c = tt

pub returns-in-Some-clause-keeps : goal.returns-in-Some-clause-keeps
returns-in-Some-clause-keeps g c = λ p copy is. is

pub returns-in-Some-clause-buffer : goal.returns-in-Some-clause-buffer
returns-in-Some-clause-buffer g c = refl

pub returns-in-Some-clause-leads : goal.returns-in-Some-clause-leads
returns-in-Some-clause-leads g c = g.B.Ground.leads_refl c.args.blocks.now

pub returns-in-Some-clause-cause : goal.returns-in-Some-clause-cause
returns-in-Some-clause-cause g c = tt

pub copy_leaf-requires-clause-ready : goal.copy_leaf-requires-clause-ready
copy_leaf-requires-clause-ready g c = c.requires.ready

pub copy_leaf-requires-clause-buffer : goal.copy_leaf-requires-clause-buffer
copy_leaf-requires-clause-buffer g c = c.requires.buffer

pub returns-in_err-copy-clause-extends : goal.returns-in_err-copy-clause-extends
returns-in_err-copy-clause-extends g c = no_value c.from_residual.result _ c.in_err-copy.field-0.0 c.from_residual.ensures.1

pub returns-in_err-copy-clause-moved : goal.returns-in_err-copy-clause-moved
returns-in_err-copy-clause-moved g c = no_value c.from_residual.result _ c.in_err-copy.field-0.0 c.from_residual.ensures.1

pub returns-in_err-copy-clause-keeps : goal.returns-in_err-copy-clause-keeps
returns-in_err-copy-clause-keeps g c = λ p copy is. is

pub returns-in_err-copy-clause-buffer : goal.returns-in_err-copy-clause-buffer
returns-in_err-copy-clause-buffer g c = c.copy_leaf.ensures.buffer

pub returns-in_err-copy-clause-leads : goal.returns-in_err-copy-clause-leads
returns-in_err-copy-clause-leads g c = c.copy_leaf.ensures.leads

pub returns-in_err-copy-clause-cause : goal.returns-in_err-copy-clause-cause
returns-in_err-copy-clause-cause g c = cause_here (g.B.Ground.faults c.args.blocks.now) (g.B.Ground.faults c.copy_leaf.new.blocks) c.from_residual.result c.in_err-copy.field-0.0 c.from_residual.ensures.1 c.in_err-copy.ensures.cause

pub returns-in_err-add-clause-extends : goal.returns-in_err-add-clause-extends
returns-in_err-add-clause-extends g c = no_value c.from_residual-in_err-add.result _ Memory c.from_residual-in_err-add.ensures.1

pub returns-in_err-add-clause-moved : goal.returns-in_err-add-clause-moved
returns-in_err-add-clause-moved g c = no_value c.from_residual-in_err-add.result _ Memory c.from_residual-in_err-add.ensures.1

pub returns-in_err-add-clause-sound : goal.returns-in_err-add-clause-sound
returns-in_err-add-clause-sound g c = if_err_handed c.from_residual-in_err-add.result _ Memory c.from_residual-in_err-add.ensures.1 (λ told move least part same can damage. damage)

pub returns-in_err-add-clause-keeps : goal.returns-in_err-add-clause-keeps
returns-in_err-add-clause-keeps g c = c.add.ensures.keeps

pub returns-in_err-add-clause-buffer : goal.returns-in_err-add-clause-buffer
returns-in_err-add-clause-buffer g c = c.copy_leaf.ensures.buffer

pub returns-in_err-add-clause-leads : goal.returns-in_err-add-clause-leads
returns-in_err-add-clause-leads g c = c.copy_leaf.ensures.leads

pub returns-in_err-add-clause-cause : goal.returns-in_err-add-clause-cause
returns-in_err-add-clause-cause g c = cause_here (g.B.Ground.faults c.args.blocks.now) (g.B.Ground.faults c.copy_leaf.new.blocks) c.from_residual-in_err-add.result Memory c.from_residual-in_err-add.ensures.1 tt

pub returns-clause-extends : goal.returns-clause-extends
returns-clause-extends g c = c.in_ok-copy.ensures.extends

pub returns-clause-sound : goal.returns-clause-sound
returns-clause-sound g c = tt

pub returns-clause-keeps : goal.returns-clause-keeps
returns-clause-keeps g c = c.add.ensures.keeps

pub returns-clause-buffer : goal.returns-clause-buffer
returns-clause-buffer g c = c.copy_leaf.ensures.buffer

pub returns-clause-leads : goal.returns-clause-leads
returns-clause-leads g c = c.copy_leaf.ensures.leads

pub returns-clause-cause : goal.returns-clause-cause
returns-clause-cause g c = tt
