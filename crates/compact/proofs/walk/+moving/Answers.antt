use Rattle.std.proofs.Common.{◌≡◌, ◌+◌, ◌-◌, ◌≤◌, ◌∷◌, [], List, None, false, length, get_or, take_all, rules, arith, ap, refl, sym, subst, ◌∙◌}
use Rattle.std.proofs.lemmas.Result.{IfErr-weaker, IfOk-weaker}
use Rattle.ex_base.specs.declared.geometry.Geometry.{Geometry}
use Rattle.ex_base.specs.Sizes.{leaf_bytes, object_most}
use Rattle.ex_base.proofs.Geometries.{page_le}
use Rattle.ex_base.specs.declared.faults.PortFault.TheVariants.{Memory}
use Rattle.ex_base.proofs.Results.{cause_handed, if_err_handed}
use Rattle.trees.specs.Made.{sizes_of}
use Rattle.trees.specs.Rows.{row_size}
use Rattle.trees.specs.declared.rows.Part.{Part}
use Rattle.trees.proofs.Laid.{extends_kept, extends_on, extends_refl}
use Rattle.trees.proofs.Reading.{no_part}
use Rattle.trees.proofs.Sizes.{front_most, size-front}
use Rattle.compact.specs.Moves.{copies_of}
use Rattle.compact.specs.Walk.{CanMove, RowMoved, TreeMoved}
use Rattle.compact.proofs.Handed.{cause_here, no_value}
use Rattle.compact.proofs.LeafSteps.{known_copy}
use Rattle.compact.proofs.Loop.{RowSoFar, more_so_far, no_row}
use Rattle.compact.proofs.Rows.{can_at}
use Rattle.compact.proofs.Walking.{below_can, node_done, room_of, same_length, same_size, same_some, sound_read}
use Rattle.compact.proofs.walk.+moving.Goals as goal

-- ---- a leaf

pub move_part-returns-then-level-eq0-clause-moved : goal.move_part-returns-then-level-eq0-clause-moved
move_part-returns-then-level-eq0-clause-moved g t c = IfOk-weaker c.move_leaf.result _ _ (λ copy h told l same move can.
    let zero : l ≡ 0 = sym same ∙ c.if-level-eq0.true in
    subst (λ k. TreeMoved g.B.Ground move c.args.dense c.args.blocks.now c.move_leaf.new.blocks (copies_of c.args.moves.now) (copies_of c.move_leaf.new.moves) k c.args.part.page.0 copy.0) (sym zero)
    (h told move c.args.least c.args.part refl (subst (λ k. CanMove g.B.Ground move c.args.dense c.args.blocks.now (copies_of c.args.moves.now) k c.args.least (c.args.part ∷ [])) zero can))) c.move_leaf.ensures.moved

pub move_part-returns-then-level-eq0-clause-sound : goal.move_part-returns-then-level-eq0-clause-sound
move_part-returns-then-level-eq0-clause-sound g t c = IfErr-weaker c.move_leaf.result _ _ (λ fault h told l same move can damage.
    let zero : l ≡ 0 = sym same ∙ c.if-level-eq0.true in
    h told move c.args.least c.args.part refl (subst (λ k. CanMove g.B.Ground move c.args.dense c.args.blocks.now (copies_of c.args.moves.now) k c.args.least (c.args.part ∷ [])) zero can) damage) c.move_leaf.ensures.sound

-- ---- a node

pub move_part-returns-in-Some-clause-moved : goal.move_part-returns-in-Some-clause-moved
move_part-returns-in-Some-clause-moved g t c = λ told l same move can. known_copy g.B.Ground move c.args.dense c.args.blocks.now (copies_of c.args.moves.now) l c.args.least c.args.part c.in-Some.copy can (sym c.in-Some.ensures)

pub move_part-returns-in_err-below-clause-sound : goal.move_part-returns-in_err-below-clause-sound
move_part-returns-in_err-below-clause-sound g t c =
    if_err_handed c.from_residual.result _ c.in_err-below.field-0.0 c.from_residual.ensures.1 (λ told l same move can damage.
    sound_read g.B.Ground move c.args.dense c.args.blocks.now (copies_of c.args.moves.now) l c.args.level c.args.least c.args.part c.in_err-below.field-0.0 c.if-level-eq0.false same can (c.in_err-below.ensures.fault told) damage)

pub move_part-returns-in_err-made-clause-sound : goal.move_part-returns-in_err-made-clause-sound
move_part-returns-in_err-made-clause-sound g t c =
    let kept = c.in_ok-below.ensures.kept in
    if_err_handed c.from_residual-in_err-made.result _ c.in_err-made.field-0.0 c.from_residual-in_err-made.ensures.1 (λ told l same move can damage.
    c.in_err-made.ensures.sound (g.B.Ground.leads_told c.args.blocks.now c.row_of.new.blocks kept.leads told) (c.args.level - 1) refl move
    (below_can g.B.Ground move c.args.dense c.args.blocks.now c.row_of.new.blocks (copies_of c.args.moves.now) l c.args.level c.args.least c.args.part c.in_ok-below.below.items c.deref.result.now c.if-level-eq0.false same kept (c.in_ok-below.ensures.found told) c.deref.ensures.value can) damage)

pub move_part-returns-in_err-copy-clause-sound : goal.move_part-returns-in_err-copy-clause-sound
move_part-returns-in_err-copy-clause-sound g t c =
    let kept = c.in_ok-below.ensures.kept in
    let none : copies_of c.args.moves.now c.args.part.page.0 ≡ None = search rules in
    if_err_handed c.from_residual-in_err-copy.result _ c.in_err-copy.field-0.0 c.from_residual-in_err-copy.ensures.1 (λ told l same move can damage.
    c.in_err-copy.ensures.sound (λ turned.
    room_of g.B.Ground move c.args.blocks.now c.row_of.new.blocks c.move_row.new.blocks c.args.dense (copies_of c.args.moves.now) (copies_of c.move_row.new.moves) l c.args.level c.args.least c.args.part c.in_ok-below.below.items c.deref.result.now c.in_ok-made.made.row.items c.in_ok-made.made.changed same
    (record {
      inner = c.if-level-eq0.false;
      kept = kept;
      row = c.in_ok-below.ensures.found told;
      same = c.deref.ensures.value;
      extends = c.in_ok-made.ensures.extends;
      sizes = c.in_ok-made.ensures.sizes;
      keeps = c.in_ok-made.ensures.keeps;
      none = none;
      moved = c.in_ok-made.ensures.moved (g.B.Ground.leads_told c.args.blocks.now c.row_of.new.blocks kept.leads told);
    }) can turned) damage)

pub move_part-returns-clause-moved : goal.move_part-returns-clause-moved
move_part-returns-clause-moved g t c =
    let kept = c.in_ok-below.ensures.kept in
    let none : copies_of c.args.moves.now c.args.part.page.0 ≡ None = search rules in λ told l same move can.
    let told_read = g.B.Ground.leads_told c.args.blocks.now c.row_of.new.blocks kept.leads told in
    let told_moved = g.B.Ground.leads_told c.row_of.new.blocks c.move_row.new.blocks c.in_ok-made.ensures.extends.leads told_read in
    node_done g.B.Ground move c.args.blocks.now c.row_of.new.blocks c.move_row.new.blocks c.node_over.new.blocks c.args.dense (copies_of c.args.moves.now) (copies_of c.move_row.new.moves) (copies_of c.add.new.self) l c.args.level c.args.least c.args.part c.in_ok-below.below.items c.deref.result.now
    c.in_ok-made.made.row.items c.in_ok-made.made.changed c.in_ok-copy.copy same
    (record {
      inner = c.if-level-eq0.false;
      kept = kept;
      row = c.in_ok-below.ensures.found told;
      same = c.deref.ensures.value;
      extends = c.in_ok-made.ensures.extends;
      sizes = c.in_ok-made.ensures.sizes;
      keeps = c.in_ok-made.ensures.keeps;
      none = none;
      moved = c.in_ok-made.ensures.moved told_read;
    })
    (record {
      extends = c.in_ok-copy.ensures.extends;
      same = c.in_ok-copy.ensures.same;
      made_new = c.in_ok-copy.ensures.made told_moved;
      keeps = c.in_ok-add.ensures.keeps;
      here = c.in_ok-add.ensures.here;
      others = c.in_ok-add.ensures.others;
    }) can

pub move_part-move_row-requires : goal.move_part-move_row-requires
move_part-move_row-requires g t c κs within =
    let kept = c.in_ok-below.ensures.kept in
    let geo : g.B.Ground.geometry c.row_of.new.blocks ≡ g.B.Ground.geometry c.args.blocks.now = g.B.Ground.leads_geometry c.args.blocks.now c.row_of.new.blocks kept.leads in
    let ready : g.B.Ground.ready c.row_of.new.blocks = g.B.Ground.leads_ready c.args.blocks.now c.row_of.new.blocks kept.leads c.requires.ready in
    let buffer : length c.args.buffer.now ≡ leaf_bytes (g.B.Ground.geometry c.row_of.new.blocks) = c.requires.buffer ∙ ap leaf_bytes (sym geo) in
    let limit : row_size c.deref.result.now ≤ object_most = omega (arith, ap row_size c.deref.ensures.value, c.in_ok-below.ensures.counted.sum, c.requires.limit) in
    search rules

pub move_part-node_over-requires : goal.move_part-node_over-requires
move_part-node_over-requires g t c =
    let kept = c.in_ok-below.ensures.kept in
    let made = c.in_ok-made.ensures in
    let items = c.in_ok-made.made.row.items in
    let one : g.B.Ground.geometry c.row_of.new.blocks ≡ g.B.Ground.geometry c.args.blocks.now = g.B.Ground.leads_geometry c.args.blocks.now c.row_of.new.blocks kept.leads in
    let geo : g.B.Ground.geometry c.move_row.new.blocks ≡ g.B.Ground.geometry c.args.blocks.now = g.B.Ground.leads_geometry c.row_of.new.blocks c.move_row.new.blocks made.extends.leads ∙ one in
    let sizes = made.sizes ∙ ap sizes_of c.deref.ensures.value in
    let count : length items ≡ length c.in_ok-below.below.items = same_length items c.in_ok-below.below.items sizes in
    record {
      ready = g.B.Ground.leads_ready c.row_of.new.blocks c.move_row.new.blocks made.extends.leads (g.B.Ground.leads_ready c.args.blocks.now c.row_of.new.blocks kept.leads c.requires.ready);
      buffer = omega (arith, made.buffer, c.requires.buffer, page_le (g.B.Ground.geometry c.args.blocks.now), ap (λ (h : Geometry). h.page_size) geo);
      level = omega (arith, c.if-level-eq0.false);
      some = omega (arith, count, c.in_ok-below.ensures.counted.filled.enough, c.requires.least);
      few = omega (arith, count, c.in_ok-below.ensures.counted.few, ap (λ (h : Geometry). h.fan) geo);
      sizes = same_some items c.in_ok-below.below.items sizes c.in_ok-below.ensures.counted.some;
      size = same_size items c.in_ok-below.below.items sizes ∙ c.in_ok-below.ensures.counted.sum;
      limit = c.requires.limit;
    }

-- ---- a row

pub move_row-loop-part-init : goal.move_row-loop-part-init
move_row-loop-part-init g t c =
    let none : c.new-made.result.items ≡ [] = search rules in
    subst (λ (xs : List Part). RowSoFar g.B.Ground c.args.blocks.now c.args.blocks.now c.args.dense (copies_of c.args.moves.now) (copies_of c.args.moves.now) c.args.level c.args.row.now 0 xs false (length c.args.buffer.now) (length c.args.buffer.now)) (sym none)
    (no_row g.B.Ground c.args.blocks.now c.args.dense (copies_of c.args.moves.now) c.args.level c.args.row.now (length c.args.buffer.now))

pub move_row-move_part-requires : goal.move_row-move_part-requires
move_row-move_part-requires g t c κs within =
    let so_far = c.loop-part.invariant in
    let geo : g.B.Ground.geometry c.loop-part.blocks ≡ g.B.Ground.geometry c.args.blocks.now = g.B.Ground.leads_geometry c.args.blocks.now c.loop-part.blocks so_far.extends.leads in
    let ready : g.B.Ground.ready c.loop-part.blocks = g.B.Ground.leads_ready c.args.blocks.now c.loop-part.blocks so_far.extends.leads c.requires.ready in
    let buffer : length c.loop-part.buffer ≡ leaf_bytes (g.B.Ground.geometry c.loop-part.blocks) = so_far.buffer ∙ c.requires.buffer ∙ ap leaf_bytes (sym geo) in
    let limit : (get_or c.args.row.now c.loop-part.part-index no_part).size ≤ object_most = omega (arith, size-front c.args.row.now c.loop-part.part-index c.loop-part-test.true, front_most c.args.row.now (c.loop-part.part-index + 1), c.requires.limit) in
    let least : 1 ≤ c.geometry-fan.result.fan = omega (arith, c.geometry-fan.result.two) in
    search rules

pub move_row-returns-in_err-page-clause-sound : goal.move_row-returns-in_err-page-clause-sound
move_row-returns-in_err-page-clause-sound g t c =
    let so_far = c.loop-part.invariant in
    let fan = ap (λ (h : Geometry). h.fan) c.geometry-fan.ensures in
    if_err_handed c.from_residual.result _ c.in_err-page.field-0.0 c.from_residual.ensures.1 (λ told l same move can damage.
    let at = can_at g.B.Ground move c.args.dense c.args.blocks.now c.loop-part.blocks (copies_of c.args.moves.now) (copies_of c.loop-part.moves) l (g.B.Ground.geometry c.args.blocks.now).fan c.loop-part.part-index c.args.row.now _ _ c.loop-part-test.true so_far.extends can (so_far.moved told l same move can).step in
    c.in_err-page.ensures.sound (g.B.Ground.leads_told c.args.blocks.now c.loop-part.blocks so_far.extends.leads told) l same move
    (subst (λ k. CanMove g.B.Ground move c.args.dense c.loop-part.blocks (copies_of c.loop-part.moves) l k (get_or c.args.row.now c.loop-part.part-index no_part ∷ [])) (sym fan) at) damage)

pub move_row-loop-part-preserved : goal.move_row-loop-part-preserved
move_row-loop-part-preserved g t c =
    let so_far = c.loop-part.invariant in
    let fan = ap (λ (h : Geometry). h.fan) c.geometry-fan.ensures in
    more_so_far g.B.Ground c.args.blocks.now c.loop-part.blocks c.move_part.new.blocks c.args.dense (copies_of c.args.moves.now) (copies_of c.loop-part.moves) (copies_of c.move_part.new.moves) c.args.level c.args.row.now c.loop-part.part-index c.loop-part.made.items c.put.new.items.items c.loop-part.changed c.is_changed-changed.result (length c.args.buffer.now)
    (length c.loop-part.buffer) (length c.move_part.new.buffer) c.in_ok-page.page c.loop-part-test.true so_far c.in_ok-page.ensures.extends c.in_ok-page.ensures.keeps c.in_ok-page.ensures.buffer c.in_ok-put.ensures c.is_changed-changed.ensures.not c.is_changed-changed.ensures.some
    (λ told l same move can. c.in_ok-page.ensures.moved told l same move (subst (λ k. CanMove g.B.Ground move c.args.dense c.loop-part.blocks (copies_of c.loop-part.moves) l k (get_or c.args.row.now c.loop-part.part-index no_part ∷ [])) (sym fan) can))

pub move_row-returns-clause-sizes : goal.move_row-returns-clause-sizes
move_row-returns-clause-sizes g t c = c.loop-part.invariant.sizes ∙ ap sizes_of (take_all c.loop-part.part-index c.args.row.now (omega arith))

pub move_row-returns-clause-moved : goal.move_row-returns-clause-moved
move_row-returns-clause-moved g t c = λ told l same move can.
    subst (λ (r : List Part). RowMoved g.B.Ground move c.args.dense c.args.blocks.now c.loop-part.blocks (copies_of c.args.moves.now) (copies_of c.loop-part.moves) l r c.loop-part.made.items c.loop-part.changed) (take_all c.loop-part.part-index c.args.row.now (omega arith))
    (c.loop-part.invariant.moved told l same move can)

-- ---- what else is asked and promised

pub move_part-move_leaf-requires-clause-ready : goal.move_part-move_leaf-requires-clause-ready
move_part-move_leaf-requires-clause-ready g t c = c.requires.ready

pub move_part-move_leaf-requires-clause-buffer : goal.move_part-move_leaf-requires-clause-buffer
move_part-move_leaf-requires-clause-buffer g t c = c.requires.buffer

pub move_part-row_of-requires : goal.move_part-row_of-requires
move_part-row_of-requires g t c = c.requires.ready

pub move_part-overflow_sub-level : goal.move_part-overflow_sub-level
move_part-overflow_sub-level g t c = omega (arith, c.if-level-eq0.false)

pub move_row-geometry-fan-requires : goal.move_row-geometry-fan-requires
move_row-geometry-fan-requires g t c = record { ready = c.requires.ready }

pub move_row-offset_bounds-row-part-index : goal.move_row-offset_bounds-row-part-index
move_row-offset_bounds-row-part-index g t c = omega arith

pub move_row-loop-part-smaller : goal.move_row-loop-part-smaller
move_row-loop-part-smaller g t c = omega (arith, c.loop-part-test.true)

pub move_part-returns-then-level-eq0-clause-extends : goal.move_part-returns-then-level-eq0-clause-extends
move_part-returns-then-level-eq0-clause-extends g t c = c.move_leaf.ensures.extends

pub move_part-returns-then-level-eq0-clause-keeps : goal.move_part-returns-then-level-eq0-clause-keeps
move_part-returns-then-level-eq0-clause-keeps g t c = c.move_leaf.ensures.keeps

pub move_part-returns-then-level-eq0-clause-buffer : goal.move_part-returns-then-level-eq0-clause-buffer
move_part-returns-then-level-eq0-clause-buffer g t c = c.move_leaf.ensures.buffer

pub move_part-returns-then-level-eq0-clause-leads : goal.move_part-returns-then-level-eq0-clause-leads
move_part-returns-then-level-eq0-clause-leads g t c = c.move_leaf.ensures.leads

pub move_part-returns-then-level-eq0-clause-cause : goal.move_part-returns-then-level-eq0-clause-cause
move_part-returns-then-level-eq0-clause-cause g t c = c.move_leaf.ensures.cause

pub move_part-returns-in-Some-clause-extends : goal.move_part-returns-in-Some-clause-extends
move_part-returns-in-Some-clause-extends g t c = extends_refl g.B.Ground c.args.blocks.now

pub move_part-returns-in-Some-clause-sound : goal.move_part-returns-in-Some-clause-sound
move_part-returns-in-Some-clause-sound g t c = tt

pub move_part-returns-in-Some-clause-keeps : goal.move_part-returns-in-Some-clause-keeps
move_part-returns-in-Some-clause-keeps g t c = λ p copy is. is

pub move_part-returns-in-Some-clause-buffer : goal.move_part-returns-in-Some-clause-buffer
move_part-returns-in-Some-clause-buffer g t c = refl

pub move_part-returns-in-Some-clause-leads : goal.move_part-returns-in-Some-clause-leads
move_part-returns-in-Some-clause-leads g t c = g.B.Ground.leads_refl c.args.blocks.now

pub move_part-returns-in-Some-clause-cause : goal.move_part-returns-in-Some-clause-cause
move_part-returns-in-Some-clause-cause g t c = tt

pub move_part-returns-in_err-below-clause-extends : goal.move_part-returns-in_err-below-clause-extends
move_part-returns-in_err-below-clause-extends g t c = no_value c.from_residual.result _ c.in_err-below.field-0.0 c.from_residual.ensures.1

pub move_part-returns-in_err-below-clause-moved : goal.move_part-returns-in_err-below-clause-moved
move_part-returns-in_err-below-clause-moved g t c = no_value c.from_residual.result _ c.in_err-below.field-0.0 c.from_residual.ensures.1

pub move_part-returns-in_err-below-clause-keeps : goal.move_part-returns-in_err-below-clause-keeps
move_part-returns-in_err-below-clause-keeps g t c = λ p copy is. is

pub move_part-returns-in_err-below-clause-buffer : goal.move_part-returns-in_err-below-clause-buffer
move_part-returns-in_err-below-clause-buffer g t c = refl

pub move_part-returns-in_err-below-clause-leads : goal.move_part-returns-in_err-below-clause-leads
move_part-returns-in_err-below-clause-leads g t c = let kept = c.row_of.ensures.kept in kept.leads

pub move_part-returns-in_err-below-clause-cause : goal.move_part-returns-in_err-below-clause-cause
move_part-returns-in_err-below-clause-cause g t c = cause_here (g.B.Ground.faults c.args.blocks.now) (g.B.Ground.faults c.row_of.new.blocks) c.from_residual.result c.in_err-below.field-0.0 c.from_residual.ensures.1 c.in_err-below.ensures.cause

pub move_part-returns-in_err-made-clause-extends : goal.move_part-returns-in_err-made-clause-extends
move_part-returns-in_err-made-clause-extends g t c = no_value c.from_residual-in_err-made.result _ c.in_err-made.field-0.0 c.from_residual-in_err-made.ensures.1

pub move_part-returns-in_err-made-clause-moved : goal.move_part-returns-in_err-made-clause-moved
move_part-returns-in_err-made-clause-moved g t c = no_value c.from_residual-in_err-made.result _ c.in_err-made.field-0.0 c.from_residual-in_err-made.ensures.1

pub move_part-returns-in_err-made-clause-keeps : goal.move_part-returns-in_err-made-clause-keeps
move_part-returns-in_err-made-clause-keeps g t c = c.move_row.ensures.keeps

pub move_part-returns-in_err-made-clause-buffer : goal.move_part-returns-in_err-made-clause-buffer
move_part-returns-in_err-made-clause-buffer g t c = c.move_row.ensures.buffer

pub move_part-returns-in_err-made-clause-leads : goal.move_part-returns-in_err-made-clause-leads
move_part-returns-in_err-made-clause-leads g t c = let kept = c.in_ok-below.ensures.kept in g.B.Ground.leads_trans c.args.blocks.now c.row_of.new.blocks c.move_row.new.blocks kept.leads c.move_row.ensures.leads

pub move_part-returns-in_err-made-clause-cause : goal.move_part-returns-in_err-made-clause-cause
move_part-returns-in_err-made-clause-cause g t c = let kept = c.in_ok-below.ensures.kept in cause_handed (g.B.Ground.faults c.args.blocks.now) (g.B.Ground.faults c.row_of.new.blocks) (g.B.Ground.faults c.move_row.new.blocks) c.from_residual-in_err-made.result c.in_err-made.field-0.0 c.from_residual-in_err-made.ensures.1 (g.B.Ground.leads_faults c.args.blocks.now c.row_of.new.blocks kept.leads) c.in_err-made.ensures.cause

pub move_part-returns-in_err-copy-clause-extends : goal.move_part-returns-in_err-copy-clause-extends
move_part-returns-in_err-copy-clause-extends g t c = no_value c.from_residual-in_err-copy.result _ c.in_err-copy.field-0.0 c.from_residual-in_err-copy.ensures.1

pub move_part-returns-in_err-copy-clause-moved : goal.move_part-returns-in_err-copy-clause-moved
move_part-returns-in_err-copy-clause-moved g t c = no_value c.from_residual-in_err-copy.result _ c.in_err-copy.field-0.0 c.from_residual-in_err-copy.ensures.1

pub move_part-returns-in_err-copy-clause-keeps : goal.move_part-returns-in_err-copy-clause-keeps
move_part-returns-in_err-copy-clause-keeps g t c = c.move_row.ensures.keeps

pub move_part-returns-in_err-copy-clause-buffer : goal.move_part-returns-in_err-copy-clause-buffer
move_part-returns-in_err-copy-clause-buffer g t c = c.node_over.ensures.buffer ∙ c.move_row.ensures.buffer

pub move_part-returns-in_err-copy-clause-leads : goal.move_part-returns-in_err-copy-clause-leads
move_part-returns-in_err-copy-clause-leads g t c = let kept = c.in_ok-below.ensures.kept in g.B.Ground.leads_trans c.args.blocks.now c.move_row.new.blocks c.node_over.new.blocks (g.B.Ground.leads_trans c.args.blocks.now c.row_of.new.blocks c.move_row.new.blocks kept.leads c.move_row.ensures.leads) c.node_over.ensures.leads

pub move_part-returns-in_err-copy-clause-cause : goal.move_part-returns-in_err-copy-clause-cause
move_part-returns-in_err-copy-clause-cause g t c = let kept = c.in_ok-below.ensures.kept in cause_handed (g.B.Ground.faults c.args.blocks.now) (g.B.Ground.faults c.move_row.new.blocks) (g.B.Ground.faults c.node_over.new.blocks) c.from_residual-in_err-copy.result c.in_err-copy.field-0.0 c.from_residual-in_err-copy.ensures.1 (g.B.Ground.leads_faults c.args.blocks.now c.move_row.new.blocks (g.B.Ground.leads_trans c.args.blocks.now c.row_of.new.blocks c.move_row.new.blocks kept.leads c.move_row.ensures.leads)) c.in_err-copy.ensures.cause

pub move_part-returns-in_err-add-clause-extends : goal.move_part-returns-in_err-add-clause-extends
move_part-returns-in_err-add-clause-extends g t c = no_value c.from_residual-in_err-add.result _ Memory c.from_residual-in_err-add.ensures.1

pub move_part-returns-in_err-add-clause-moved : goal.move_part-returns-in_err-add-clause-moved
move_part-returns-in_err-add-clause-moved g t c = no_value c.from_residual-in_err-add.result _ Memory c.from_residual-in_err-add.ensures.1

pub move_part-returns-in_err-add-clause-sound : goal.move_part-returns-in_err-add-clause-sound
move_part-returns-in_err-add-clause-sound g t c = if_err_handed c.from_residual-in_err-add.result _ Memory c.from_residual-in_err-add.ensures.1 (λ told l same move can damage. damage)

pub move_part-returns-in_err-add-clause-keeps : goal.move_part-returns-in_err-add-clause-keeps
move_part-returns-in_err-add-clause-keeps g t c = λ p copy is. c.add.ensures.keeps p copy (c.move_row.ensures.keeps p copy is)

pub move_part-returns-in_err-add-clause-buffer : goal.move_part-returns-in_err-add-clause-buffer
move_part-returns-in_err-add-clause-buffer g t c = c.node_over.ensures.buffer ∙ c.move_row.ensures.buffer

pub move_part-returns-in_err-add-clause-leads : goal.move_part-returns-in_err-add-clause-leads
move_part-returns-in_err-add-clause-leads g t c = let kept = c.in_ok-below.ensures.kept in g.B.Ground.leads_trans c.args.blocks.now c.move_row.new.blocks c.node_over.new.blocks (g.B.Ground.leads_trans c.args.blocks.now c.row_of.new.blocks c.move_row.new.blocks kept.leads c.move_row.ensures.leads) c.node_over.ensures.leads

pub move_part-returns-in_err-add-clause-cause : goal.move_part-returns-in_err-add-clause-cause
move_part-returns-in_err-add-clause-cause g t c = cause_here (g.B.Ground.faults c.args.blocks.now) (g.B.Ground.faults c.node_over.new.blocks) c.from_residual-in_err-add.result Memory c.from_residual-in_err-add.ensures.1 tt

pub move_part-returns-clause-extends : goal.move_part-returns-clause-extends
move_part-returns-clause-extends g t c = let kept = c.in_ok-below.ensures.kept in extends_on g.B.Ground c.args.blocks.now c.move_row.new.blocks c.node_over.new.blocks (extends_on g.B.Ground c.args.blocks.now c.row_of.new.blocks c.move_row.new.blocks (extends_kept g.B.Ground c.args.blocks.now c.row_of.new.blocks kept) c.in_ok-made.ensures.extends) c.in_ok-copy.ensures.extends

pub move_part-returns-clause-sound : goal.move_part-returns-clause-sound
move_part-returns-clause-sound g t c = tt

pub move_part-returns-clause-keeps : goal.move_part-returns-clause-keeps
move_part-returns-clause-keeps g t c = λ p copy is. c.add.ensures.keeps p copy (c.move_row.ensures.keeps p copy is)

pub move_part-returns-clause-buffer : goal.move_part-returns-clause-buffer
move_part-returns-clause-buffer g t c = c.node_over.ensures.buffer ∙ c.move_row.ensures.buffer

pub move_part-returns-clause-leads : goal.move_part-returns-clause-leads
move_part-returns-clause-leads g t c = let kept = c.in_ok-below.ensures.kept in g.B.Ground.leads_trans c.args.blocks.now c.move_row.new.blocks c.node_over.new.blocks (g.B.Ground.leads_trans c.args.blocks.now c.row_of.new.blocks c.move_row.new.blocks kept.leads c.move_row.ensures.leads) c.node_over.ensures.leads

pub move_part-returns-clause-cause : goal.move_part-returns-clause-cause
move_part-returns-clause-cause g t c = tt

pub move_row-returns-in_err-page-clause-extends : goal.move_row-returns-in_err-page-clause-extends
move_row-returns-in_err-page-clause-extends g t c = no_value c.from_residual.result _ c.in_err-page.field-0.0 c.from_residual.ensures.1

pub move_row-returns-in_err-page-clause-sizes : goal.move_row-returns-in_err-page-clause-sizes
move_row-returns-in_err-page-clause-sizes g t c = no_value c.from_residual.result _ c.in_err-page.field-0.0 c.from_residual.ensures.1

pub move_row-returns-in_err-page-clause-moved : goal.move_row-returns-in_err-page-clause-moved
move_row-returns-in_err-page-clause-moved g t c = no_value c.from_residual.result _ c.in_err-page.field-0.0 c.from_residual.ensures.1

pub move_row-returns-in_err-page-clause-keeps : goal.move_row-returns-in_err-page-clause-keeps
move_row-returns-in_err-page-clause-keeps g t c = let so_far = c.loop-part.invariant in λ p copy is. c.move_part.ensures.keeps p copy (so_far.keeps p copy is)

pub move_row-returns-in_err-page-clause-buffer : goal.move_row-returns-in_err-page-clause-buffer
move_row-returns-in_err-page-clause-buffer g t c = let so_far = c.loop-part.invariant in c.move_part.ensures.buffer ∙ so_far.buffer

pub move_row-returns-in_err-page-clause-leads : goal.move_row-returns-in_err-page-clause-leads
move_row-returns-in_err-page-clause-leads g t c = let so_far = c.loop-part.invariant in g.B.Ground.leads_trans c.args.blocks.now c.loop-part.blocks c.move_part.new.blocks so_far.extends.leads c.move_part.ensures.leads

pub move_row-returns-in_err-page-clause-cause : goal.move_row-returns-in_err-page-clause-cause
move_row-returns-in_err-page-clause-cause g t c = let so_far = c.loop-part.invariant in cause_handed (g.B.Ground.faults c.args.blocks.now) (g.B.Ground.faults c.loop-part.blocks) (g.B.Ground.faults c.move_part.new.blocks) c.from_residual.result c.in_err-page.field-0.0 c.from_residual.ensures.1 (g.B.Ground.leads_faults c.args.blocks.now c.loop-part.blocks so_far.extends.leads) c.in_err-page.ensures.cause

pub move_row-returns-in_err-put-clause-extends : goal.move_row-returns-in_err-put-clause-extends
move_row-returns-in_err-put-clause-extends g t c = no_value c.from_residual-in_err-put.result _ Memory c.from_residual-in_err-put.ensures.1

pub move_row-returns-in_err-put-clause-sizes : goal.move_row-returns-in_err-put-clause-sizes
move_row-returns-in_err-put-clause-sizes g t c = no_value c.from_residual-in_err-put.result _ Memory c.from_residual-in_err-put.ensures.1

pub move_row-returns-in_err-put-clause-moved : goal.move_row-returns-in_err-put-clause-moved
move_row-returns-in_err-put-clause-moved g t c = no_value c.from_residual-in_err-put.result _ Memory c.from_residual-in_err-put.ensures.1

pub move_row-returns-in_err-put-clause-sound : goal.move_row-returns-in_err-put-clause-sound
move_row-returns-in_err-put-clause-sound g t c = if_err_handed c.from_residual-in_err-put.result _ Memory c.from_residual-in_err-put.ensures.1 (λ told l same move can damage. damage)

pub move_row-returns-in_err-put-clause-keeps : goal.move_row-returns-in_err-put-clause-keeps
move_row-returns-in_err-put-clause-keeps g t c = let so_far = c.loop-part.invariant in λ p copy is. c.move_part.ensures.keeps p copy (so_far.keeps p copy is)

pub move_row-returns-in_err-put-clause-buffer : goal.move_row-returns-in_err-put-clause-buffer
move_row-returns-in_err-put-clause-buffer g t c = let so_far = c.loop-part.invariant in c.move_part.ensures.buffer ∙ so_far.buffer

pub move_row-returns-in_err-put-clause-leads : goal.move_row-returns-in_err-put-clause-leads
move_row-returns-in_err-put-clause-leads g t c = let so_far = c.loop-part.invariant in g.B.Ground.leads_trans c.args.blocks.now c.loop-part.blocks c.move_part.new.blocks so_far.extends.leads c.move_part.ensures.leads

pub move_row-returns-in_err-put-clause-cause : goal.move_row-returns-in_err-put-clause-cause
move_row-returns-in_err-put-clause-cause g t c = cause_here (g.B.Ground.faults c.args.blocks.now) (g.B.Ground.faults c.move_part.new.blocks) c.from_residual-in_err-put.result Memory c.from_residual-in_err-put.ensures.1 tt

pub move_row-returns-clause-extends : goal.move_row-returns-clause-extends
move_row-returns-clause-extends g t c = c.loop-part.invariant.extends

pub move_row-returns-clause-sound : goal.move_row-returns-clause-sound
move_row-returns-clause-sound g t c = tt

pub move_row-returns-clause-keeps : goal.move_row-returns-clause-keeps
move_row-returns-clause-keeps g t c = c.loop-part.invariant.keeps

pub move_row-returns-clause-buffer : goal.move_row-returns-clause-buffer
move_row-returns-clause-buffer g t c = c.loop-part.invariant.buffer

pub move_row-returns-clause-leads : goal.move_row-returns-clause-leads
move_row-returns-clause-leads g t c = let so_far = c.loop-part.invariant in so_far.extends.leads

pub move_row-returns-clause-cause : goal.move_row-returns-clause-cause
move_row-returns-clause-cause g t c = tt
