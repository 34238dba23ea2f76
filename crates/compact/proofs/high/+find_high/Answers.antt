use Rattle.std.proofs.Common.{rules, arith, [], ◌∷◌, ◌≡◌, Bool, Some, ◌+◌, ◌-◌, ◌∙◌, ap, sym, subst, get_or, nat_eq}
use Rattle.std.specs.HashMap.{get}
use Rattle.ex_base.specs.declared.geometry.Geometry.{Geometry}
use Rattle.ex_base.specs.declared.faults.PortFault.TheVariants.{Memory}
use Rattle.ex_base.proofs.Keeping.{keeps_on, keeps_refl}
use Rattle.ex_base.proofs.Results.{cause_handed, if_err_handed}
use Rattle.trees.specs.Damage.{IsWalkFault}
use Rattle.trees.specs.Rows.{IsFilled, IsRowOn}
use Rattle.trees.proofs.Blame.{walk_back, walk_below, walk_node}
use Rattle.trees.proofs.Reading.{no_part}
use Rattle.trees.proofs.RowReads.{walk_tree}
use Rattle.compact.specs.Found.{AreFound, seen_in}
use Rattle.compact.specs.High.{is_high}
use Rattle.compact.proofs.Finding.{CountSoFar, known_found, leaf_found, next_count, node_counted, start_count}
use Rattle.compact.proofs.Handed.{cause_here, no_value}
use Rattle.compact.specs.declared.high.Found.{Found}
use Rattle.compact.proofs.high.+find_high.Goals as goal

pub returns-then-level-eq0-clause-found : goal.returns-then-level-eq0-clause-found
returns-then-level-eq0-clause-found g t c = λ told l same nodes can.
    let zero : l ≡ 0 = sym same ∙ c.if-level-eq0.true in
    let high : c.is_high.result ≡ is_high (g.B.Ground.geometry c.args.blocks.now) c.args.dense c.args.tree.page.0 = ◌∙◌ {b = is_high c.geometry.result c.args.dense c.args.tree.page.0} c.is_high.ensures (ap (λ (h : Geometry). is_high h c.args.dense c.args.tree.page.0) c.geometry.ensures) in
    subst (λ k. AreFound (g.B.Ground.geometry c.args.blocks.now) c.args.dense (g.B.Ground.unit c.args.blocks.now) k (c.args.tree.page.0 ∷ []) c.is_high.result (seen_in c.args.found.now) c.args.found.now.above.items nodes) (sym zero)
    (subst (λ (b : Bool). AreFound (g.B.Ground.geometry c.args.blocks.now) c.args.dense (g.B.Ground.unit c.args.blocks.now) 0 (c.args.tree.page.0 ∷ []) b (seen_in c.args.found.now) c.args.found.now.above.items nodes) (sym high)
    (leaf_found (g.B.Ground.geometry c.args.blocks.now) c.args.dense (g.B.Ground.unit c.args.blocks.now) c.args.tree.page.0 (seen_in c.args.found.now) c.args.found.now.above.items nodes can.found))

pub returns-in-Some-clause-found : goal.returns-in-Some-clause-found
returns-in-Some-clause-found g t c = λ told l same nodes can.
    let there : get nat_eq c.args.found.now.seen c.args.tree.page.0 ≡ Some c.in-Some.high = search rules in
    known_found (g.B.Ground.geometry c.args.blocks.now) c.args.dense (g.B.Ground.unit c.args.blocks.now) l c.args.tree.page.0 c.in-Some.high (seen_in c.args.found.now) c.args.found.now.above.items nodes there can

pub find_high-requires : goal.find_high-requires
find_high-requires g t c κs within =
    let ready : g.B.Ground.ready c.loop-child.blocks = g.B.Ground.leads_ready c.args.blocks.now c.loop-child.blocks c.loop-child.invariant.kept.leads c.requires.ready in
    search rules

pub returns-in_err-other-clause-fault : goal.returns-in_err-other-clause-fault
returns-in_err-other-clause-fault g t c =
    if_err_handed c.from_residual-in_err-other.result _ c.in_err-other.field-0.0 c.from_residual-in_err-other.ensures.1
    (λ told. walk_below (g.B.Ground.geometry c.args.blocks.now) (g.B.Ground.unit c.args.blocks.now) c.args.level c.args.least 0 (c.args.tree ∷ []) c.deref-child-items.result.now c.in_err-other.field-0.0 c.if-level-eq0.false (omega arith) c.in_ok-below.ensures.area (subst (IsRowOn (g.B.Ground.geometry c.args.blocks.now) ((g.B.Ground.unit c.args.blocks.now) c.args.tree.page.0) c.args.level c.args.tree.size) (sym c.deref-child-items.ensures.value) (c.in_ok-below.ensures.found told)) (subst (IsFilled (g.B.Ground.geometry c.args.blocks.now) c.args.level c.args.least) (sym c.deref-child-items.ensures.value) c.in_ok-below.ensures.counted.filled)
    (walk_back g.B.Ground c.args.blocks.now c.loop-child.blocks (c.args.level - 1) (g.B.Ground.geometry c.args.blocks.now).fan c.deref-child-items.result.now c.in_err-other.field-0.0 c.loop-child.invariant.kept
    (λ later. walk_tree (g.B.Ground.geometry c.loop-child.blocks) (g.B.Ground.unit c.loop-child.blocks) (c.args.level - 1) (g.B.Ground.geometry c.args.blocks.now).fan c.loop-child.child-index c.deref-child-items.result.now c.in_err-other.field-0.0 c.loop-child-test.true
    (subst (λ k. IsWalkFault (g.B.Ground.geometry c.loop-child.blocks) (g.B.Ground.unit c.loop-child.blocks) (c.args.level - 1) k (get_or c.deref-child-items.result.now c.loop-child.child-index no_part ∷ []) c.in_err-other.field-0.0) (ap (λ (x : Geometry). x.fan) (c.geometry-fan.ensures ∙ g.B.Ground.leads_geometry c.args.blocks.now c.row_of.new.blocks c.in_ok-below.ensures.kept.leads)) (c.in_err-other.ensures.fault later))) told))

pub loop-child-init : goal.loop-child-init
loop-child-init g t c = start_count g.B.Ground c.args.blocks.now c.row_of.new.blocks c.args.dense c.args.level (seen_in c.args.found.now) c.args.found.now.above.items c.deref-child-items.result.now c.in_ok-below.ensures.kept

pub loop-child-preserved : goal.loop-child-preserved
loop-child-preserved g t c =
    subst (λ (b : Bool). CountSoFar g.B.Ground c.args.blocks.now c.find_high.new.blocks c.args.dense c.args.level (seen_in c.args.found.now) (seen_in c.find_high.new.found) c.args.found.now.above.items c.find_high.new.found.above.items c.deref-child-items.result.now (c.loop-child.child-index + 1) b) (sym c.either-high.ensures)
    (next_count g.B.Ground c.args.blocks.now c.loop-child.blocks c.find_high.new.blocks c.args.dense c.args.level (seen_in c.args.found.now) (seen_in c.loop-child.found) (seen_in c.find_high.new.found) c.args.found.now.above.items c.loop-child.found.above.items c.find_high.new.found.above.items c.deref-child-items.result.now c.loop-child.child-index
    c.loop-child.high c.in_ok-other.other c.loop-child-test.true c.loop-child.invariant c.in_ok-other.ensures.kept c.in_ok-other.ensures.grows c.in_ok-other.ensures.found)

pub returns-clause-grows : goal.returns-clause-grows
returns-clause-grows g t c = λ p has. c.in_ok-note.ensures.grows p (c.loop-child.invariant.grows p has)

pub returns-clause-found : goal.returns-clause-found
returns-clause-found g t c = λ told l same nodes can.
    let noted = c.in_ok-note.ensures in
    node_counted g.B.Ground c.args.blocks.now c.loop-child.blocks c.args.dense c.args.level l c.args.tree.page.0 c.loop-child.child-index c.in_ok-below.below.items c.deref-child-items.result.now c.loop-child.high (seen_in c.args.found.now) (seen_in c.loop-child.found) (seen_in c.note.new.self)
    c.args.found.now.above.items c.loop-child.found.above.items c.note.new.self.above.items nodes c.if-level-eq0.false same (c.in_ok-below.ensures.found told).parts c.deref-child-items.ensures.value told c.loop-child.invariant (omega arith) can
    (λ h sent. let is = noted.known h sent in (ap seen_in is, ap (λ (f : Found). f.above.items) is)) noted.here noted.others noted.above

-- ---- what else is asked and promised

pub geometry-requires : goal.geometry-requires
geometry-requires g t c = record { ready = c.requires.ready }

pub row_of-requires : goal.row_of-requires
row_of-requires g t c = c.requires.ready

pub geometry-fan-requires : goal.geometry-fan-requires
geometry-fan-requires g t c = let kept = c.in_ok-below.ensures.kept in record { ready = g.B.Ground.leads_ready c.args.blocks.now c.row_of.new.blocks kept.leads c.requires.ready }

pub offset_bounds-child-items-child-index : goal.offset_bounds-child-items-child-index
offset_bounds-child-items-child-index g t c = omega arith

pub overflow_sub-level : goal.overflow_sub-level
overflow_sub-level g t c = omega (arith, c.if-level-eq0.false)

pub loop-child-smaller : goal.loop-child-smaller
loop-child-smaller g t c = omega (arith, c.loop-child-test.true)

pub returns-then-level-eq0-clause-grows : goal.returns-then-level-eq0-clause-grows
returns-then-level-eq0-clause-grows g t c = λ p has. has

pub returns-then-level-eq0-clause-fault : goal.returns-then-level-eq0-clause-fault
returns-then-level-eq0-clause-fault g t c = tt

pub returns-then-level-eq0-clause-kept : goal.returns-then-level-eq0-clause-kept
returns-then-level-eq0-clause-kept g t c = keeps_refl g.B.Ground c.args.blocks.now

pub returns-then-level-eq0-clause-cause : goal.returns-then-level-eq0-clause-cause
returns-then-level-eq0-clause-cause g t c = tt

pub returns-in-Some-clause-grows : goal.returns-in-Some-clause-grows
returns-in-Some-clause-grows g t c = λ p has. has

pub returns-in-Some-clause-fault : goal.returns-in-Some-clause-fault
returns-in-Some-clause-fault g t c = tt

pub returns-in-Some-clause-kept : goal.returns-in-Some-clause-kept
returns-in-Some-clause-kept g t c = keeps_refl g.B.Ground c.args.blocks.now

pub returns-in-Some-clause-cause : goal.returns-in-Some-clause-cause
returns-in-Some-clause-cause g t c = tt

pub returns-in_err-below-clause-found : goal.returns-in_err-below-clause-found
returns-in_err-below-clause-found g t c = no_value c.from_residual.result _ c.in_err-below.field-0.0 c.from_residual.ensures.1

pub returns-in_err-below-clause-grows : goal.returns-in_err-below-clause-grows
returns-in_err-below-clause-grows g t c = no_value c.from_residual.result _ c.in_err-below.field-0.0 c.from_residual.ensures.1

pub returns-in_err-below-clause-fault : goal.returns-in_err-below-clause-fault
returns-in_err-below-clause-fault g t c =
    if_err_handed c.from_residual.result _ c.in_err-below.field-0.0 c.from_residual.ensures.1
    (λ told. walk_node (g.B.Ground.geometry c.args.blocks.now) (g.B.Ground.unit c.args.blocks.now) c.args.level c.args.least 0 (c.args.tree ∷ []) c.in_err-below.field-0.0 c.if-level-eq0.false (omega arith) (c.in_err-below.ensures.fault told))

pub returns-in_err-below-clause-kept : goal.returns-in_err-below-clause-kept
returns-in_err-below-clause-kept g t c = c.row_of.ensures.kept

pub returns-in_err-below-clause-cause : goal.returns-in_err-below-clause-cause
returns-in_err-below-clause-cause g t c = cause_here (g.B.Ground.faults c.args.blocks.now) (g.B.Ground.faults c.row_of.new.blocks) c.from_residual.result c.in_err-below.field-0.0 c.from_residual.ensures.1 c.in_err-below.ensures.cause

pub returns-in_err-other-clause-found : goal.returns-in_err-other-clause-found
returns-in_err-other-clause-found g t c = no_value c.from_residual-in_err-other.result _ c.in_err-other.field-0.0 c.from_residual-in_err-other.ensures.1

pub returns-in_err-other-clause-grows : goal.returns-in_err-other-clause-grows
returns-in_err-other-clause-grows g t c = no_value c.from_residual-in_err-other.result _ c.in_err-other.field-0.0 c.from_residual-in_err-other.ensures.1

pub returns-in_err-other-clause-kept : goal.returns-in_err-other-clause-kept
returns-in_err-other-clause-kept g t c = let so_far = c.loop-child.invariant in keeps_on g.B.Ground c.args.blocks.now c.loop-child.blocks c.find_high.new.blocks so_far.kept c.find_high.ensures.kept

pub returns-in_err-other-clause-cause : goal.returns-in_err-other-clause-cause
returns-in_err-other-clause-cause g t c = let so_far = c.loop-child.invariant in cause_handed (g.B.Ground.faults c.args.blocks.now) (g.B.Ground.faults c.loop-child.blocks) (g.B.Ground.faults c.find_high.new.blocks) c.from_residual-in_err-other.result c.in_err-other.field-0.0 c.from_residual-in_err-other.ensures.1 (g.B.Ground.leads_faults c.args.blocks.now c.loop-child.blocks so_far.kept.leads) c.in_err-other.ensures.cause

pub returns-in_err-note-clause-found : goal.returns-in_err-note-clause-found
returns-in_err-note-clause-found g t c = no_value c.from_residual-in_err-note.result _ Memory c.from_residual-in_err-note.ensures.1

pub returns-in_err-note-clause-grows : goal.returns-in_err-note-clause-grows
returns-in_err-note-clause-grows g t c = no_value c.from_residual-in_err-note.result _ Memory c.from_residual-in_err-note.ensures.1

pub returns-in_err-note-clause-fault : goal.returns-in_err-note-clause-fault
returns-in_err-note-clause-fault g t c = if_err_handed c.from_residual-in_err-note.result _ Memory c.from_residual-in_err-note.ensures.1 (λ told. tt)

pub returns-in_err-note-clause-kept : goal.returns-in_err-note-clause-kept
returns-in_err-note-clause-kept g t c = c.loop-child.invariant.kept

pub returns-in_err-note-clause-cause : goal.returns-in_err-note-clause-cause
returns-in_err-note-clause-cause g t c = cause_here (g.B.Ground.faults c.args.blocks.now) (g.B.Ground.faults c.loop-child.blocks) c.from_residual-in_err-note.result Memory c.from_residual-in_err-note.ensures.1 tt

pub returns-clause-fault : goal.returns-clause-fault
returns-clause-fault g t c = tt

pub returns-clause-kept : goal.returns-clause-kept
returns-clause-kept g t c = c.loop-child.invariant.kept

pub returns-clause-cause : goal.returns-clause-cause
returns-clause-cause g t c = tt
