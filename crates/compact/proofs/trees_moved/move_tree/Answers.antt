use Rattle.std.proofs.Common.{◌≡◌, Option, ap, refl, sym, subst}
use Rattle.ex_base.specs.declared.names.PageNo.{PageNo}
use Rattle.ex_base.specs.declared.names.Root.{Root}
use Rattle.ex_base.specs.declared.faults.PortFault.TheVariants.{Memory}
use Rattle.ex_base.proofs.Results.{if_err_handed}
use Rattle.trees.proofs.Laid.{extends_refl}
use Rattle.compact.specs.Moved.{IsMoved, MayMove}
use Rattle.compact.specs.Moves.{copies_of}
use Rattle.compact.proofs.Handed.{cause_here, no_value}
use Rattle.compact.proofs.Roots.{move_of, root_at, root_can, root_moved}
use Rattle.compact.proofs.trees_moved.move_tree.Goals as goal

pub returns-in_err-copy-clause-sound : goal.returns-in_err-copy-clause-sound
returns-in_err-copy-clause-sound g c =
    let root = c.args.root.now in
    let same : c.args.root.now ≡ root_at root.height c.in-Some.page root.size = ap (λ (page : Option PageNo). record { height = root.height; page = page; size = root.size }) c.in-Some.is in
    if_err_handed c.from_residual-in_err-copy.result _ c.in_err-copy.field-0.0 c.from_residual-in_err-copy.ensures.1 (λ told may damage.
    let there = subst (MayMove g.B.Ground c.args.blocks.now c.args.dense (copies_of c.args.moves.now)) same may in
    c.in_err-copy.ensures.sound told root.height refl (move_of g.B.Ground c.args.blocks.now c.args.dense (copies_of c.args.moves.now) (root_at root.height c.in-Some.page root.size))
    (root_can g.B.Ground c.args.blocks.now c.args.dense (copies_of c.args.moves.now) root.height root.size c.in-Some.page there) damage)

pub returns-clause-moved : goal.returns-clause-moved
returns-clause-moved g c = λ told may.
    let root = c.args.root.now in
    let same : c.args.root.now ≡ root_at root.height c.in-Some.page root.size = ap (λ (page : Option PageNo). record { height = root.height; page = page; size = root.size }) c.in-Some.is in
    let there = subst (MayMove g.B.Ground c.args.blocks.now c.args.dense (copies_of c.args.moves.now)) same may in
    subst (λ (r : Root). IsMoved g.B.Ground c.args.blocks.now c.move_part.new.blocks c.args.dense (copies_of c.args.moves.now) (copies_of c.move_part.new.moves) r (root_at root.height c.in_ok-copy.copy root.size)) (sym same)
    (root_moved g.B.Ground c.args.blocks.now c.move_part.new.blocks c.args.dense (copies_of c.args.moves.now) (copies_of c.move_part.new.moves) root.height root.size c.in-Some.page c.in_ok-copy.copy c.in_ok-copy.ensures.extends there
    (c.in_ok-copy.ensures.moved told root.height refl (move_of g.B.Ground c.args.blocks.now c.args.dense (copies_of c.args.moves.now) (root_at root.height c.in-Some.page root.size))
    (root_can g.B.Ground c.args.blocks.now c.args.dense (copies_of c.args.moves.now) root.height root.size c.in-Some.page there)))

-- ---- what else is asked and promised

pub returns-in_default-clause-extends : goal.returns-in_default-clause-extends
returns-in_default-clause-extends g c = extends_refl g.B.Ground c.args.blocks.now

pub returns-in_default-clause-sound : goal.returns-in_default-clause-sound
returns-in_default-clause-sound g c = tt

pub returns-in_default-clause-keeps : goal.returns-in_default-clause-keeps
returns-in_default-clause-keeps g c = λ p copy is. is

pub returns-in_default-clause-leads : goal.returns-in_default-clause-leads
returns-in_default-clause-leads g c = g.B.Ground.leads_refl c.args.blocks.now

pub returns-in_default-clause-cause : goal.returns-in_default-clause-cause
returns-in_default-clause-cause g c = tt

pub returns-in_default-clause-size : goal.returns-in_default-clause-size
returns-in_default-clause-size g c = refl

pub returns-in_default-clause-height : goal.returns-in_default-clause-height
returns-in_default-clause-height g c = refl

pub geometry-requires : goal.geometry-requires
geometry-requires g c = record { ready = c.requires.ready }

pub returns-in_err-buffer-clause-size : goal.returns-in_err-buffer-clause-size
returns-in_err-buffer-clause-size g c = no_value c.from_residual.result _ Memory c.from_residual.ensures.1

pub returns-in_err-buffer-clause-height : goal.returns-in_err-buffer-clause-height
returns-in_err-buffer-clause-height g c = no_value c.from_residual.result _ Memory c.from_residual.ensures.1

pub returns-in_err-buffer-clause-extends : goal.returns-in_err-buffer-clause-extends
returns-in_err-buffer-clause-extends g c = no_value c.from_residual.result _ Memory c.from_residual.ensures.1

pub returns-in_err-buffer-clause-moved : goal.returns-in_err-buffer-clause-moved
returns-in_err-buffer-clause-moved g c = no_value c.from_residual.result _ Memory c.from_residual.ensures.1

pub returns-in_err-buffer-clause-sound : goal.returns-in_err-buffer-clause-sound
returns-in_err-buffer-clause-sound g c = if_err_handed c.from_residual.result _ Memory c.from_residual.ensures.1 (λ told may damage. damage)

pub returns-in_err-buffer-clause-keeps : goal.returns-in_err-buffer-clause-keeps
returns-in_err-buffer-clause-keeps g c = λ p copy is. is

pub returns-in_err-buffer-clause-leads : goal.returns-in_err-buffer-clause-leads
returns-in_err-buffer-clause-leads g c = g.B.Ground.leads_refl c.args.blocks.now

pub returns-in_err-buffer-clause-cause : goal.returns-in_err-buffer-clause-cause
returns-in_err-buffer-clause-cause g c = cause_here (g.B.Ground.faults c.args.blocks.now) (g.B.Ground.faults c.args.blocks.now) c.from_residual.result Memory c.from_residual.ensures.1 tt

pub move_part-requires-clause-ready : goal.move_part-requires-clause-ready
move_part-requires-clause-ready g c = c.requires.ready

pub returns-in_err-copy-clause-size : goal.returns-in_err-copy-clause-size
returns-in_err-copy-clause-size g c = no_value c.from_residual-in_err-copy.result _ c.in_err-copy.field-0.0 c.from_residual-in_err-copy.ensures.1

pub returns-in_err-copy-clause-height : goal.returns-in_err-copy-clause-height
returns-in_err-copy-clause-height g c = no_value c.from_residual-in_err-copy.result _ c.in_err-copy.field-0.0 c.from_residual-in_err-copy.ensures.1

pub returns-in_err-copy-clause-extends : goal.returns-in_err-copy-clause-extends
returns-in_err-copy-clause-extends g c = no_value c.from_residual-in_err-copy.result _ c.in_err-copy.field-0.0 c.from_residual-in_err-copy.ensures.1

pub returns-in_err-copy-clause-moved : goal.returns-in_err-copy-clause-moved
returns-in_err-copy-clause-moved g c = no_value c.from_residual-in_err-copy.result _ c.in_err-copy.field-0.0 c.from_residual-in_err-copy.ensures.1

pub returns-in_err-copy-clause-keeps : goal.returns-in_err-copy-clause-keeps
returns-in_err-copy-clause-keeps g c = c.move_part.ensures.keeps

pub returns-in_err-copy-clause-leads : goal.returns-in_err-copy-clause-leads
returns-in_err-copy-clause-leads g c = c.move_part.ensures.leads

pub returns-in_err-copy-clause-cause : goal.returns-in_err-copy-clause-cause
returns-in_err-copy-clause-cause g c = cause_here (g.B.Ground.faults c.args.blocks.now) (g.B.Ground.faults c.move_part.new.blocks) c.from_residual-in_err-copy.result c.in_err-copy.field-0.0 c.from_residual-in_err-copy.ensures.1 c.in_err-copy.ensures.cause

pub returns-clause-size : goal.returns-clause-size
returns-clause-size g c = refl

pub returns-clause-height : goal.returns-clause-height
returns-clause-height g c = refl

pub returns-clause-extends : goal.returns-clause-extends
returns-clause-extends g c = c.in_ok-copy.ensures.extends

pub returns-clause-sound : goal.returns-clause-sound
returns-clause-sound g c = tt

pub returns-clause-keeps : goal.returns-clause-keeps
returns-clause-keeps g c = c.move_part.ensures.keeps

pub returns-clause-leads : goal.returns-clause-leads
returns-clause-leads g c = c.move_part.ensures.leads

pub returns-clause-cause : goal.returns-clause-cause
returns-clause-cause g c = tt
