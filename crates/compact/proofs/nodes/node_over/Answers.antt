use Rattle.std.proofs.Common.{◌≡◌, List, length, get_or, rules, arith, ap, refl, sym, subst, ◌∙◌, true≢false}
use Rattle.trees.specs.Built.{AreSome}
use Rattle.ex_base.proofs.Results.{if_err_handed}
use Rattle.trees.specs.Made.{Holds}
use Rattle.trees.specs.Rows.{row_size}
use Rattle.trees.specs.declared.rows.Part.{Part}
use Rattle.trees.proofs.Laid.{extends_refl}
use Rattle.trees.proofs.Reading.{no_part}
use Rattle.compact.specs.Walk.{NodeMade}
use Rattle.compact.proofs.Handed.{cause_here, no_value}
use Rattle.compact.proofs.NewNodes.{new_node}
use Rattle.compact.proofs.nodes.node_over.Goals as goal

pub returns-clause-made : goal.returns-clause-made
returns-clause-made g c = λ told turned l same holds.
    let made = c.in_ok-above.ensures in
    let row : c.deref.result.now ≡ c.args.made.now.row.items = c.deref.ensures.value in
    let held = subst (Holds g.B.Ground c.args.blocks.now l) (sym row) holds in
    let len : c.len.result ≡ length c.deref.result.now = search rules in
    subst (λ (r : List Part). NodeMade g.B.Ground c.args.blocks.now c.nodes_by.new.blocks l c.args.made.now.row.items (record { size = c.args.part.size; page = (get_or r 0 no_part).page })) (sym c.deref-nodes.ensures.value)
    (subst (λ (r : List Part). NodeMade g.B.Ground c.args.blocks.now c.nodes_by.new.blocks l r (record { size = c.args.part.size; page = (get_or c.in_ok-above.above.items 0 no_part).page })) row
    (new_node g.B.Ground c.args.blocks.now c.nodes_by.new.blocks l c.deref.result.now c.in_ok-above.above.items c.args.part.size c.len.result len made.count (made.sum ∙ ap row_size row ∙ c.requires.size) made.took made.spent (made.built told l same held) (made.counts told l same held)))

-- ---- what else is asked and promised

pub returns-then-not-made-clause-extends : goal.returns-then-not-made-clause-extends
returns-then-not-made-clause-extends g c = extends_refl g.B.Ground c.args.blocks.now

pub returns-then-not-made-clause-sound : goal.returns-then-not-made-clause-sound
returns-then-not-made-clause-sound g c = tt

pub returns-then-not-made-clause-buffer : goal.returns-then-not-made-clause-buffer
returns-then-not-made-clause-buffer g c = refl

pub returns-then-not-made-clause-leads : goal.returns-then-not-made-clause-leads
returns-then-not-made-clause-leads g c = g.B.Ground.leads_refl c.args.blocks.now

pub returns-then-not-made-clause-cause : goal.returns-then-not-made-clause-cause
returns-then-not-made-clause-cause g c = tt

pub returns-then-not-made-clause-same : goal.returns-then-not-made-clause-same
returns-then-not-made-clause-same g c = λ still. (refl, refl)

pub returns-then-free-eq0-clause-extends : goal.returns-then-free-eq0-clause-extends
returns-then-free-eq0-clause-extends g c = tt

pub returns-then-free-eq0-clause-same : goal.returns-then-free-eq0-clause-same
returns-then-free-eq0-clause-same g c = tt

pub returns-then-free-eq0-clause-made : goal.returns-then-free-eq0-clause-made
returns-then-free-eq0-clause-made g c = tt

pub returns-then-free-eq0-clause-buffer : goal.returns-then-free-eq0-clause-buffer
returns-then-free-eq0-clause-buffer g c = refl

pub returns-then-free-eq0-clause-leads : goal.returns-then-free-eq0-clause-leads
returns-then-free-eq0-clause-leads g c = g.B.Ground.leads_refl c.args.blocks.now

pub geometry-len-requires : goal.geometry-len-requires
geometry-len-requires g c = record { ready = c.requires.ready }

pub nodes_by-requires-clause-ready : goal.nodes_by-requires-clause-ready
nodes_by-requires-clause-ready g c = c.requires.ready

pub nodes_by-requires-clause-level : goal.nodes_by-requires-clause-level
nodes_by-requires-clause-level g c = c.requires.level

pub returns-in_err-above-clause-extends : goal.returns-in_err-above-clause-extends
returns-in_err-above-clause-extends g c = no_value c.from_residual.result _ c.in_err-above.field-0.0 c.from_residual.ensures.1

pub returns-in_err-above-clause-same : goal.returns-in_err-above-clause-same
returns-in_err-above-clause-same g c = no_value c.from_residual.result _ c.in_err-above.field-0.0 c.from_residual.ensures.1

pub returns-in_err-above-clause-made : goal.returns-in_err-above-clause-made
returns-in_err-above-clause-made g c = no_value c.from_residual.result _ c.in_err-above.field-0.0 c.from_residual.ensures.1

pub returns-in_err-above-clause-sound : goal.returns-in_err-above-clause-sound
returns-in_err-above-clause-sound g c = if_err_handed c.from_residual.result _ c.in_err-above.field-0.0 c.from_residual.ensures.1 (λ room damage. c.in_err-above.ensures.no_damage damage)

pub returns-in_err-above-clause-leads : goal.returns-in_err-above-clause-leads
returns-in_err-above-clause-leads g c = c.nodes_by.ensures.leads

pub returns-in_err-above-clause-cause : goal.returns-in_err-above-clause-cause
returns-in_err-above-clause-cause g c = cause_here (g.B.Ground.faults c.args.blocks.now) (g.B.Ground.faults c.nodes_by.new.blocks) c.from_residual.result c.in_err-above.field-0.0 c.from_residual.ensures.1 c.in_err-above.ensures.cause

pub returns-clause-extends : goal.returns-clause-extends
returns-clause-extends g c = c.in_ok-above.ensures.extends

pub returns-clause-sound : goal.returns-clause-sound
returns-clause-sound g c = tt

pub returns-clause-leads : goal.returns-clause-leads
returns-clause-leads g c = c.nodes_by.ensures.leads

pub returns-clause-cause : goal.returns-clause-cause
returns-clause-cause g c = tt

pub nodes_by-requires-clause-sizes : goal.nodes_by-requires-clause-sizes
nodes_by-requires-clause-sizes g c = subst AreSome (sym c.deref.ensures.value) c.requires.sizes

pub nodes_by-requires-clause-limit : goal.nodes_by-requires-clause-limit
nodes_by-requires-clause-limit g c = omega (arith, ap row_size c.deref.ensures.value, c.requires.size, c.requires.limit)

pub nodes_by-requires-clause-free : goal.nodes_by-requires-clause-free
nodes_by-requires-clause-free g c = omega (arith, c.free.ensures, c.if-free-eq0.false)

pub returns-then-not-made-clause-made : goal.returns-then-not-made-clause-made
returns-then-not-made-clause-made g c = λ told turned. absurd (true≢false (sym turned ∙ c.if-not-made.true))

pub returns-then-free-eq0-clause-sound : goal.returns-then-free-eq0-clause-sound
returns-then-free-eq0-clause-sound g c = λ room damage. omega (arith, room c.if-not-made.false, c.free.ensures, c.if-free-eq0.true)

pub returns-clause-same : goal.returns-clause-same
returns-clause-same g c = λ still. absurd (true≢false (sym c.if-not-made.false ∙ still))
