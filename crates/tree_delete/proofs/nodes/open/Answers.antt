use Rattle.std.proofs.Common.{true≢false, inl, inr, ◌-◌, ◌≤◌, suc, List, [], ◌∷◌, ◌++◌, length, ap, sym, subst, ◌∙◌, arith}
use Rattle.std.proofs.lemmas.List.{append-nil}
use Rattle.ex_base.specs.declared.geometry.Geometry.{Geometry}
use Rattle.ex_base.proofs.Results.{if_err_handed, cause_handed}
use Rattle.trees.specs.declared.rows.Part.{Part}
use Rattle.trees.specs.Made.{Holds}
use Rattle.tree_delete.specs.Cuts.{all_of, AreChildren, HasSoundEnds}
use Rattle.trees.proofs.Growing.{holds_split}
use Rattle.tree_delete.proofs.LeafLaws.{first_gone}
use Rattle.trees.proofs.Growing.{holds_kept}
use Rattle.tree_delete.proofs.NodeLaws.{opened_back}
use Rattle.trees.specs.Damage.{IsNodeAt, IsWalkFault}
use Rattle.trees.proofs.Blame.{walk_back}
use Rattle.tree_delete.proofs.Faults.{walk_run, walk_either, walks_back, walk_near_left, walk_near_right}
use Rattle.tree_delete.proofs.OpenLaws.{all_left, all_right, opens_here, opens_left, opens_right, opened_here, opened_left, opened_right}
use Rattle.std.specs.Vec.{vec_len}
use Rattle.tree_delete.specs.Beside.{enough, widens_before, widens_behind, AreNodesAt, IsSoundBeside}
use Rattle.tree_delete.proofs.Beside.{beside_up, nodes_back, none_there}
use Rattle.ex_base.proofs.Handed.{no_value, cause_here}
use Rattle.ex_base.specs.declared.faults.PortFault.TheVariants.{Memory}
use Rattle.ex_base.proofs.Keeping.{keeps_on}
use Rattle.tree_delete.proofs.nodes.open.Goals as goal

pub returns-then-fan-len-clause-counted : goal.returns-then-fan-len-clause-counted
returns-then-fan-len-clause-counted g c =
    opens_here (g.B.Ground.geometry c.args.blocks.now) c.args.level c.args.cut c.in_ok-below.below c.requires.cut_at c.in_ok-below.ensures.cut_at c.in_ok-below.ensures.sum c.in_ok-below.ensures.few
    (omega (arith, c.if-fan-len.true, c.len.ensures, c.len-2.ensures, c.in_ok-below.below.left.ok.0, c.in_ok-below.below.right.ok.0, ap (λ (k : Geometry). k.fan) c.geometry-fan.ensures))

pub returns-then-fan-len-clause-opened : goal.returns-then-fan-len-clause-opened
returns-then-fan-len-clause-opened g c = λ told l same holds.
    let parts = holds_split g.B.Ground c.args.blocks.now (suc l) c.args.cut.left.items (c.args.cut.run.items ++ c.args.cut.right.items) holds in
    let others = holds_split g.B.Ground c.args.blocks.now (suc l) c.args.cut.run.items c.args.cut.right.items parts.1 in
    opened_here g.B.Ground c.args.blocks.now l c.args.cut c.in_ok-below.below (c.in_ok-below.ensures.below told l same others.0)

pub returns-in-Some-clause-counted : goal.returns-in-Some-clause-counted
returns-in-Some-clause-counted g c =
    let geo = g.B.Ground.leads_geometry c.args.blocks.now c.cut_below.new.blocks c.in_ok-below.ensures.kept.leads in
    opens_left (g.B.Ground.geometry c.args.blocks.now) c.args.level c.args.cut c.in_ok-below.below c.pop.new.self c.in_ok-joined.field-0 c.in-Some.near c.in_ok-row.row.items c.requires.cut_at c.in_ok-below.ensures.cut_at c.in_ok-below.ensures.sum c.in_ok-below.ensures.less c.in_ok-below.ensures.few
    (subst (λ k. AreChildren (g.B.Ground.geometry c.args.blocks.now) c.args.level k (c.in-Some.near ∷ []) c.in_ok-row.row.items) (ap (λ (k : Geometry). k.fan) c.geometry-fan.ensures)
    (subst (λ k. AreChildren k c.args.level c.geometry-fan.result.fan (c.in-Some.near ∷ []) c.in_ok-row.row.items) geo c.in_ok-row.ensures.counted))
    c.in-Some.ensures.items (c.in_ok-joined.ensures ∙ ap (λ (xs : List Part). xs ++ (c.deref-in-Some.result.now ++ [])) c.deref.ensures.value ∙ ap (λ (xs : List Part). c.in_ok-row.row.items ++ (xs ++ [])) c.deref-in-Some.ensures.value)

pub returns-in-Some-clause-opened : goal.returns-in-Some-clause-opened
returns-in-Some-clause-opened g c = λ told l same holds.
    let kept = c.in_ok-below.ensures.kept in
    let parts = holds_split g.B.Ground c.args.blocks.now (suc l) c.args.cut.left.items (c.args.cut.run.items ++ c.args.cut.right.items) holds in
    let others = holds_split g.B.Ground c.args.blocks.now (suc l) c.args.cut.run.items c.args.cut.right.items parts.1 in
    let fronts = holds_split g.B.Ground c.args.blocks.now (suc l) c.pop.new.self.items (c.in-Some.near ∷ []) (subst (Holds g.B.Ground c.args.blocks.now (suc l)) c.in-Some.ensures.items parts.0) in
    let told_b = g.B.Ground.leads_told c.args.blocks.now c.cut_below.new.blocks kept.leads told in
    opened_left g.B.Ground c.args.blocks.now l c.args.cut c.in_ok-below.below c.pop.new.self c.in_ok-joined.field-0 c.in-Some.near c.in_ok-row.row.items (c.in_ok-below.ensures.below told l same others.0)
    (opened_back g.B.Ground c.args.blocks.now c.cut_below.new.blocks l (c.in-Some.near ∷ []) c.in_ok-row.row.items kept (c.in_ok-row.ensures.opened told_b l same (holds_kept g.B.Ground c.args.blocks.now c.cut_below.new.blocks (suc l) (c.in-Some.near ∷ []) kept fronts.1)))
    c.in-Some.ensures.items (c.in_ok-joined.ensures ∙ ap (λ (xs : List Part). xs ++ (c.deref-in-Some.result.now ++ [])) c.deref.ensures.value ∙ ap (λ (xs : List Part). c.in_ok-row.row.items ++ (xs ++ [])) c.deref-in-Some.ensures.value)

pub returns-clause-counted : goal.returns-clause-counted
returns-clause-counted g c =
    let geo = g.B.Ground.leads_geometry c.args.blocks.now c.cut_below.new.blocks c.in_ok-below.ensures.kept.leads in
    let some : 1 ≤ length c.args.cut.right.items = omega (arith, c.remove-near.ensures.len, c.args.cut.right.ok.0) in
    opens_right (g.B.Ground.geometry c.args.blocks.now) c.args.level c.args.cut c.in_ok-below.below c.pop.new.self c.remove-near.new.self c.in_ok-joined-2.field-0 c.remove-near.result c.in_ok-row-2.row.items c.requires.cut_at c.in_ok-below.ensures.cut_at c.in_ok-below.ensures.sum c.in_ok-below.ensures.less c.in_ok-below.ensures.few
    (subst (λ k. AreChildren (g.B.Ground.geometry c.args.blocks.now) c.args.level k (c.remove-near.result ∷ []) c.in_ok-row-2.row.items) (ap (λ (k : Geometry). k.fan) c.geometry-fan.ensures)
    (subst (λ k. AreChildren k c.args.level c.geometry-fan.result.fan (c.remove-near.result ∷ []) c.in_ok-row-2.row.items) geo c.in_ok-row-2.ensures.counted))
    (sym (append-nil c.pop.new.self.items) ∙ sym c.in_default.ensures.items) (first_gone c.args.cut.right.items c.remove-near.new.self.items c.remove-near.result some c.remove-near.ensures.value c.remove-near.ensures.items)
    (c.in_ok-joined-2.ensures ∙ ap (λ (xs : List Part). xs ++ (c.deref-3.result.now ++ [])) c.deref-2.ensures.value ∙ ap (λ (xs : List Part). c.in_ok-below.below.right.items ++ (xs ++ [])) c.deref-3.ensures.value)

pub returns-clause-opened : goal.returns-clause-opened
returns-clause-opened g c = λ told l same holds.
    let kept = c.in_ok-below.ensures.kept in
    let some : 1 ≤ length c.args.cut.right.items = omega (arith, c.remove-near.ensures.len, c.args.cut.right.ok.0) in
    let right = first_gone c.args.cut.right.items c.remove-near.new.self.items c.remove-near.result some c.remove-near.ensures.value c.remove-near.ensures.items in
    let parts = holds_split g.B.Ground c.args.blocks.now (suc l) c.args.cut.left.items (c.args.cut.run.items ++ c.args.cut.right.items) holds in
    let others = holds_split g.B.Ground c.args.blocks.now (suc l) c.args.cut.run.items c.args.cut.right.items parts.1 in
    let backs = holds_split g.B.Ground c.args.blocks.now (suc l) (c.remove-near.result ∷ []) c.remove-near.new.self.items (subst (Holds g.B.Ground c.args.blocks.now (suc l)) right others.1) in
    let told_b = g.B.Ground.leads_told c.args.blocks.now c.cut_below.new.blocks kept.leads told in
    opened_right g.B.Ground c.args.blocks.now l c.args.cut c.in_ok-below.below c.pop.new.self c.remove-near.new.self c.in_ok-joined-2.field-0 c.remove-near.result c.in_ok-row-2.row.items (c.in_ok-below.ensures.below told l same others.0)
    (opened_back g.B.Ground c.args.blocks.now c.cut_below.new.blocks l (c.remove-near.result ∷ []) c.in_ok-row-2.row.items kept (c.in_ok-row-2.ensures.opened told_b l same (holds_kept g.B.Ground c.args.blocks.now c.cut_below.new.blocks (suc l) (c.remove-near.result ∷ []) kept backs.0)))
    (sym (append-nil c.pop.new.self.items) ∙ sym c.in_default.ensures.items) right
    (c.in_ok-joined-2.ensures ∙ ap (λ (xs : List Part). xs ++ (c.deref-3.result.now ++ [])) c.deref-2.ensures.value ∙ ap (λ (xs : List Part). c.in_ok-below.below.right.items ++ (xs ++ [])) c.deref-3.ensures.value)

pub returns-then-fan-len-clause-walk : goal.returns-then-fan-len-clause-walk
returns-then-fan-len-clause-walk g c = λ told fault h.
    walk_run (g.B.Ground.geometry c.args.blocks.now) (g.B.Ground.unit c.args.blocks.now) c.args.level (g.B.Ground.geometry c.args.blocks.now).fan c.args.cut fault
    (subst (λ k. IsWalkFault (g.B.Ground.geometry c.args.blocks.now) (g.B.Ground.unit c.args.blocks.now) c.args.level k c.args.cut.run.items fault) (ap (λ (k : Geometry). k.fan) c.geometry-fan.ensures) (c.in_ok-below.ensures.walk told fault h))

pub returns-in-Some-clause-walk : goal.returns-in-Some-clause-walk
returns-in-Some-clause-walk g c = λ told fault h.
    let all = all_left c.in_ok-below.below c.in_ok-joined.field-0 c.in_ok-row.row.items (c.in_ok-joined.ensures ∙ ap (λ (xs : List Part). xs ++ (c.deref-in-Some.result.now ++ [])) c.deref.ensures.value ∙ ap (λ (xs : List Part). c.in_ok-row.row.items ++ (xs ++ [])) c.deref-in-Some.ensures.value) in
    let fan = ap (λ (k : Geometry). k.fan) c.geometry-fan.ensures in
    elim (walk_either (g.B.Ground.geometry c.args.blocks.now) (g.B.Ground.unit c.args.blocks.now) (c.args.level - 1) (g.B.Ground.geometry c.args.blocks.now).fan c.in_ok-row.row.items (all_of c.in_ok-below.below) fault (subst (λ r. IsWalkFault (g.B.Ground.geometry c.args.blocks.now) (g.B.Ground.unit c.args.blocks.now) (c.args.level - 1) (g.B.Ground.geometry c.args.blocks.now).fan r fault) all h)) [
      | inl x ↦ walk_near_left (g.B.Ground.geometry c.args.blocks.now) (g.B.Ground.unit c.args.blocks.now) c.args.level (g.B.Ground.geometry c.args.blocks.now).fan c.args.cut c.pop.new.self.items c.in-Some.near fault c.in-Some.ensures.items
          (subst (λ k. IsWalkFault (g.B.Ground.geometry c.args.blocks.now) (g.B.Ground.unit c.args.blocks.now) c.args.level k (c.in-Some.near ∷ []) fault) fan
          (walks_back g.B.Ground c.args.blocks.now c.cut_below.new.blocks c.args.level c.geometry-fan.result.fan (c.in-Some.near ∷ []) c.in_ok-row.row.items c.in_ok-below.ensures.kept c.in_ok-row.ensures.walk told fault x))
      | inr y ↦ walk_run (g.B.Ground.geometry c.args.blocks.now) (g.B.Ground.unit c.args.blocks.now) c.args.level (g.B.Ground.geometry c.args.blocks.now).fan c.args.cut fault (subst (λ k. IsWalkFault (g.B.Ground.geometry c.args.blocks.now) (g.B.Ground.unit c.args.blocks.now) c.args.level k c.args.cut.run.items fault) fan (c.in_ok-below.ensures.walk told fault y))
    ]

pub returns-clause-walk : goal.returns-clause-walk
returns-clause-walk g c = λ told fault h.
    let some : 1 ≤ length c.args.cut.right.items = omega (arith, c.remove-near.ensures.len, c.args.cut.right.ok.0) in
    let right = first_gone c.args.cut.right.items c.remove-near.new.self.items c.remove-near.result some c.remove-near.ensures.value c.remove-near.ensures.items in
    let all = all_right c.in_ok-below.below c.in_ok-joined-2.field-0 c.in_ok-row-2.row.items (c.in_ok-joined-2.ensures ∙ ap (λ (xs : List Part). xs ++ (c.deref-3.result.now ++ [])) c.deref-2.ensures.value ∙ ap (λ (xs : List Part). c.in_ok-below.below.right.items ++ (xs ++ [])) c.deref-3.ensures.value) in
    let fan = ap (λ (k : Geometry). k.fan) c.geometry-fan.ensures in
    elim (walk_either (g.B.Ground.geometry c.args.blocks.now) (g.B.Ground.unit c.args.blocks.now) (c.args.level - 1) (g.B.Ground.geometry c.args.blocks.now).fan (all_of c.in_ok-below.below) c.in_ok-row-2.row.items fault (subst (λ r. IsWalkFault (g.B.Ground.geometry c.args.blocks.now) (g.B.Ground.unit c.args.blocks.now) (c.args.level - 1) (g.B.Ground.geometry c.args.blocks.now).fan r fault) all h)) [
      | inl y ↦ walk_run (g.B.Ground.geometry c.args.blocks.now) (g.B.Ground.unit c.args.blocks.now) c.args.level (g.B.Ground.geometry c.args.blocks.now).fan c.args.cut fault (subst (λ k. IsWalkFault (g.B.Ground.geometry c.args.blocks.now) (g.B.Ground.unit c.args.blocks.now) c.args.level k c.args.cut.run.items fault) fan (c.in_ok-below.ensures.walk told fault y))
      | inr x ↦ walk_near_right (g.B.Ground.geometry c.args.blocks.now) (g.B.Ground.unit c.args.blocks.now) c.args.level (g.B.Ground.geometry c.args.blocks.now).fan c.args.cut c.remove-near.new.self.items c.remove-near.result fault right
          (subst (λ k. IsWalkFault (g.B.Ground.geometry c.args.blocks.now) (g.B.Ground.unit c.args.blocks.now) c.args.level k (c.remove-near.result ∷ []) fault) fan
          (walks_back g.B.Ground c.args.blocks.now c.cut_below.new.blocks c.args.level c.geometry-fan.result.fan (c.remove-near.result ∷ []) c.in_ok-row-2.row.items c.in_ok-below.ensures.kept c.in_ok-row-2.ensures.walk told fault x))
    ]

pub returns-in_err-below-clause-fault : goal.returns-in_err-below-clause-fault
returns-in_err-below-clause-fault g c =
    if_err_handed c.from_residual.result _ c.in_err-below.field-0.0 c.from_residual.ensures.1
    (λ told. walk_run (g.B.Ground.geometry c.args.blocks.now) (g.B.Ground.unit c.args.blocks.now) c.args.level (g.B.Ground.geometry c.args.blocks.now).fan c.args.cut c.in_err-below.field-0.0
    (subst (λ k. IsWalkFault (g.B.Ground.geometry c.args.blocks.now) (g.B.Ground.unit c.args.blocks.now) c.args.level k c.args.cut.run.items c.in_err-below.field-0.0) (ap (λ (k : Geometry). k.fan) c.geometry-fan.ensures) (c.in_err-below.ensures.fault told)))

pub returns-in_err-row-clause-fault : goal.returns-in_err-row-clause-fault
returns-in_err-row-clause-fault g c =
    if_err_handed c.from_residual-in_err-row.result _ c.in_err-row.field-0.0 c.from_residual-in_err-row.ensures.1
    (λ told. walk_near_left (g.B.Ground.geometry c.args.blocks.now) (g.B.Ground.unit c.args.blocks.now) c.args.level (g.B.Ground.geometry c.args.blocks.now).fan c.args.cut c.pop.new.self.items c.in-Some.near c.in_err-row.field-0.0 c.in-Some.ensures.items
    (subst (λ k. IsWalkFault (g.B.Ground.geometry c.args.blocks.now) (g.B.Ground.unit c.args.blocks.now) c.args.level k (c.in-Some.near ∷ []) c.in_err-row.field-0.0) (ap (λ (k : Geometry). k.fan) c.geometry-fan.ensures)
    (walk_back g.B.Ground c.args.blocks.now c.cut_below.new.blocks c.args.level c.geometry-fan.result.fan (c.in-Some.near ∷ []) c.in_err-row.field-0.0 c.in_ok-below.ensures.kept c.in_err-row.ensures.fault told)))

pub returns-in_err-row-2-clause-fault : goal.returns-in_err-row-2-clause-fault
returns-in_err-row-2-clause-fault g c =
    let some : 1 ≤ length c.args.cut.right.items = omega (arith, c.remove-near.ensures.len, c.args.cut.right.ok.0) in
    let right = first_gone c.args.cut.right.items c.remove-near.new.self.items c.remove-near.result some c.remove-near.ensures.value c.remove-near.ensures.items in
    if_err_handed c.from_residual-in_err-row-2.result _ c.in_err-row-2.field-0.0 c.from_residual-in_err-row-2.ensures.1
    (λ told. walk_near_right (g.B.Ground.geometry c.args.blocks.now) (g.B.Ground.unit c.args.blocks.now) c.args.level (g.B.Ground.geometry c.args.blocks.now).fan c.args.cut c.remove-near.new.self.items c.remove-near.result c.in_err-row-2.field-0.0 right
    (subst (λ k. IsWalkFault (g.B.Ground.geometry c.args.blocks.now) (g.B.Ground.unit c.args.blocks.now) c.args.level k (c.remove-near.result ∷ []) c.in_err-row-2.field-0.0) (ap (λ (k : Geometry). k.fan) c.geometry-fan.ensures)
    (walk_back g.B.Ground c.args.blocks.now c.cut_below.new.blocks c.args.level c.geometry-fan.result.fan (c.remove-near.result ∷ []) c.in_err-row-2.field-0.0 c.in_ok-below.ensures.kept c.in_err-row-2.ensures.fault told)))

pub returns-then-fan-len-clause-way : goal.returns-then-fan-len-clause-way
returns-then-fan-len-clause-way g c = λ told ends. subst (λ k. HasSoundEnds (g.B.Ground.geometry c.args.blocks.now) (g.B.Ground.unit c.args.blocks.now) c.args.level k c.args.cut) (ap (λ (k : Geometry). k.fan) c.geometry-fan.ensures) (c.in_ok-below.ensures.way told ends)

pub returns-in-Some-clause-way : goal.returns-in-Some-clause-way
returns-in-Some-clause-way g c = λ told ends. subst (λ k. HasSoundEnds (g.B.Ground.geometry c.args.blocks.now) (g.B.Ground.unit c.args.blocks.now) c.args.level k c.args.cut) (ap (λ (k : Geometry). k.fan) c.geometry-fan.ensures) (c.in_ok-below.ensures.way told ends)

pub returns-clause-way : goal.returns-clause-way
returns-clause-way g c = λ told ends. subst (λ k. HasSoundEnds (g.B.Ground.geometry c.args.blocks.now) (g.B.Ground.unit c.args.blocks.now) c.args.level k c.args.cut) (ap (λ (k : Geometry). k.fan) c.geometry-fan.ensures) (c.in_ok-below.ensures.way told ends)

pub returns-then-fan-len-clause-beside : goal.returns-then-fan-len-clause-beside
returns-then-fan-len-clause-beside g c = λ told opens.
    let nodes = c.in_ok-below.ensures.nodes told in
    beside_up (g.B.Ground.geometry c.args.blocks.now) (g.B.Ground.unit c.args.blocks.now) c.args.level (g.B.Ground.geometry c.args.blocks.now).fan c.args.cut c.in_ok-below.below c.requires.level
    (subst (λ k. AreNodesAt (g.B.Ground.geometry c.args.blocks.now) (g.B.Ground.unit c.args.blocks.now) c.args.level k c.args.cut.run.items) (ap (λ (k : Geometry). k.fan) c.geometry-fan.ensures) nodes.0) nodes.1
    (enough (omega (arith, c.if-fan-len.true, c.len.ensures, c.len-2.ensures, c.in_ok-below.below.left.ok.0, c.in_ok-below.below.right.ok.0, ap (λ (k : Geometry). k.fan) c.geometry-fan.ensures)) opens)

pub returns-in-Some-clause-beside : goal.returns-in-Some-clause-beside
returns-in-Some-clause-beside g c = λ told opens.
    let nodes = c.in_ok-below.ensures.nodes told in
    let near = nodes_back g.B.Ground c.args.blocks.now c.cut_below.new.blocks c.args.level c.geometry-fan.result.fan (c.in-Some.near ∷ []) c.in_ok-row.row.items c.in_ok-below.ensures.kept c.in_ok-row.ensures.nodes told in
    let node : IsNodeAt (g.B.Ground.geometry c.args.blocks.now) (g.B.Ground.unit c.args.blocks.now) c.args.level c.in-Some.near.size (g.B.Ground.geometry c.args.blocks.now).fan c.in-Some.near.page.0 =
    subst (λ k. IsNodeAt (g.B.Ground.geometry c.args.blocks.now) (g.B.Ground.unit c.args.blocks.now) c.args.level c.in-Some.near.size k c.in-Some.near.page.0) (ap (λ (k : Geometry). k.fan) c.geometry-fan.ensures) near.0.0 in
    beside_up (g.B.Ground.geometry c.args.blocks.now) (g.B.Ground.unit c.args.blocks.now) c.args.level (g.B.Ground.geometry c.args.blocks.now).fan c.args.cut c.in_ok-below.below c.requires.level
    (subst (λ k. AreNodesAt (g.B.Ground.geometry c.args.blocks.now) (g.B.Ground.unit c.args.blocks.now) c.args.level k c.args.cut.run.items) (ap (λ (k : Geometry). k.fan) c.geometry-fan.ensures) nodes.0) nodes.1
    (widens_before c.pop.new.self.items c.in-Some.near c.in-Some.ensures.items node
    (subst (λ lefts. IsSoundBeside (g.B.Ground.geometry c.args.blocks.now) (g.B.Ground.unit c.args.blocks.now) (c.args.level - 1) (g.B.Ground.geometry c.args.blocks.now).fan lefts c.in_ok-below.below.run.items c.in_ok-below.below.right.items c.in_ok-below.below.at c.in_ok-below.below.len)
    (c.in_ok-joined.ensures ∙ ap (λ (xs : List Part). xs ++ (c.deref-in-Some.result.now ++ [])) c.deref.ensures.value ∙ ap (λ (xs : List Part). c.in_ok-row.row.items ++ (xs ++ [])) c.deref-in-Some.ensures.value ∙ ap (λ (xs : List Part). c.in_ok-row.row.items ++ xs) (append-nil c.in_ok-below.below.left.items) ∙ ap (λ (xs : List Part). xs ++ c.in_ok-below.below.left.items) near.1)
    opens))

pub returns-clause-beside : goal.returns-clause-beside
returns-clause-beside g c = λ told opens.
    let nodes = c.in_ok-below.ensures.nodes told in
    let some : 1 ≤ length c.args.cut.right.items = omega (arith, c.remove-near.ensures.len, c.args.cut.right.ok.0) in
    let right = first_gone c.args.cut.right.items c.remove-near.new.self.items c.remove-near.result some c.remove-near.ensures.value c.remove-near.ensures.items in
    let near = nodes_back g.B.Ground c.args.blocks.now c.cut_below.new.blocks c.args.level c.geometry-fan.result.fan (c.remove-near.result ∷ []) c.in_ok-row-2.row.items c.in_ok-below.ensures.kept c.in_ok-row-2.ensures.nodes told in
    let node : IsNodeAt (g.B.Ground.geometry c.args.blocks.now) (g.B.Ground.unit c.args.blocks.now) c.args.level c.remove-near.result.size (g.B.Ground.geometry c.args.blocks.now).fan c.remove-near.result.page.0 =
    subst (λ k. IsNodeAt (g.B.Ground.geometry c.args.blocks.now) (g.B.Ground.unit c.args.blocks.now) c.args.level c.remove-near.result.size k c.remove-near.result.page.0) (ap (λ (k : Geometry). k.fan) c.geometry-fan.ensures) near.0.0 in
    beside_up (g.B.Ground.geometry c.args.blocks.now) (g.B.Ground.unit c.args.blocks.now) c.args.level (g.B.Ground.geometry c.args.blocks.now).fan c.args.cut c.in_ok-below.below c.requires.level
    (subst (λ k. AreNodesAt (g.B.Ground.geometry c.args.blocks.now) (g.B.Ground.unit c.args.blocks.now) c.args.level k c.args.cut.run.items) (ap (λ (k : Geometry). k.fan) c.geometry-fan.ensures) nodes.0) nodes.1
    (widens_behind c.remove-near.result c.remove-near.new.self.items (none_there (vec_len c.args.cut.left) c.args.cut.left.items (omega (arith, c.args.cut.left.ok.0)) (λ more. true≢false (sym (c.in_default.ensures.variant.1 more)))) right node
    (subst (λ rights. IsSoundBeside (g.B.Ground.geometry c.args.blocks.now) (g.B.Ground.unit c.args.blocks.now) (c.args.level - 1) (g.B.Ground.geometry c.args.blocks.now).fan c.in_ok-below.below.left.items c.in_ok-below.below.run.items rights c.in_ok-below.below.at c.in_ok-below.below.len)
    (c.in_ok-joined-2.ensures ∙ ap (λ (xs : List Part). xs ++ (c.deref-3.result.now ++ [])) c.deref-2.ensures.value ∙ ap (λ (xs : List Part). c.in_ok-below.below.right.items ++ (xs ++ [])) c.deref-3.ensures.value ∙ ap (λ (xs : List Part). c.in_ok-below.below.right.items ++ xs) (append-nil c.in_ok-row-2.row.items ∙ near.1))
    opens))

-- ---- what else is asked and promised

pub returns-in_err-below-clause-counted : goal.returns-in_err-below-clause-counted
returns-in_err-below-clause-counted g c = no_value c.from_residual.result _ c.in_err-below.field-0.0 c.from_residual.ensures.1

pub returns-in_err-below-clause-opened : goal.returns-in_err-below-clause-opened
returns-in_err-below-clause-opened g c = no_value c.from_residual.result _ c.in_err-below.field-0.0 c.from_residual.ensures.1

pub returns-in_err-below-clause-way : goal.returns-in_err-below-clause-way
returns-in_err-below-clause-way g c = no_value c.from_residual.result _ c.in_err-below.field-0.0 c.from_residual.ensures.1

pub returns-in_err-below-clause-beside : goal.returns-in_err-below-clause-beside
returns-in_err-below-clause-beside g c = no_value c.from_residual.result _ c.in_err-below.field-0.0 c.from_residual.ensures.1

pub returns-in_err-below-clause-walk : goal.returns-in_err-below-clause-walk
returns-in_err-below-clause-walk g c = no_value c.from_residual.result _ c.in_err-below.field-0.0 c.from_residual.ensures.1

pub returns-in_err-below-clause-kept : goal.returns-in_err-below-clause-kept
returns-in_err-below-clause-kept g c = c.cut_below.ensures.kept

pub returns-in_err-below-clause-cause : goal.returns-in_err-below-clause-cause
returns-in_err-below-clause-cause g c = cause_here (g.B.Ground.faults c.args.blocks.now) (g.B.Ground.faults c.cut_below.new.blocks) c.from_residual.result c.in_err-below.field-0.0 c.from_residual.ensures.1 c.in_err-below.ensures.cause

pub returns-in_err-row-clause-counted : goal.returns-in_err-row-clause-counted
returns-in_err-row-clause-counted g c = no_value c.from_residual-in_err-row.result _ c.in_err-row.field-0.0 c.from_residual-in_err-row.ensures.1

pub returns-in_err-row-clause-opened : goal.returns-in_err-row-clause-opened
returns-in_err-row-clause-opened g c = no_value c.from_residual-in_err-row.result _ c.in_err-row.field-0.0 c.from_residual-in_err-row.ensures.1

pub returns-in_err-row-clause-way : goal.returns-in_err-row-clause-way
returns-in_err-row-clause-way g c = no_value c.from_residual-in_err-row.result _ c.in_err-row.field-0.0 c.from_residual-in_err-row.ensures.1

pub returns-in_err-row-clause-beside : goal.returns-in_err-row-clause-beside
returns-in_err-row-clause-beside g c = no_value c.from_residual-in_err-row.result _ c.in_err-row.field-0.0 c.from_residual-in_err-row.ensures.1

pub returns-in_err-row-clause-walk : goal.returns-in_err-row-clause-walk
returns-in_err-row-clause-walk g c = no_value c.from_residual-in_err-row.result _ c.in_err-row.field-0.0 c.from_residual-in_err-row.ensures.1

pub returns-in_err-row-clause-kept : goal.returns-in_err-row-clause-kept
returns-in_err-row-clause-kept g c = keeps_on g.B.Ground c.args.blocks.now c.cut_below.new.blocks c.children_of.new.blocks c.in_ok-below.ensures.kept c.children_of.ensures.kept

pub returns-in_err-row-clause-cause : goal.returns-in_err-row-clause-cause
returns-in_err-row-clause-cause g c = cause_handed (g.B.Ground.faults c.args.blocks.now) (g.B.Ground.faults c.cut_below.new.blocks) (g.B.Ground.faults c.children_of.new.blocks) c.from_residual-in_err-row.result c.in_err-row.field-0.0 c.from_residual-in_err-row.ensures.1 (g.B.Ground.leads_faults c.args.blocks.now c.cut_below.new.blocks c.in_ok-below.ensures.kept.leads) c.in_err-row.ensures.cause

pub returns-in_err-joined-clause-counted : goal.returns-in_err-joined-clause-counted
returns-in_err-joined-clause-counted g c = no_value c.from_residual-in_err-joined.result _ Memory c.from_residual-in_err-joined.ensures.1

pub returns-in_err-joined-clause-opened : goal.returns-in_err-joined-clause-opened
returns-in_err-joined-clause-opened g c = no_value c.from_residual-in_err-joined.result _ Memory c.from_residual-in_err-joined.ensures.1

pub returns-in_err-joined-clause-way : goal.returns-in_err-joined-clause-way
returns-in_err-joined-clause-way g c = no_value c.from_residual-in_err-joined.result _ Memory c.from_residual-in_err-joined.ensures.1

pub returns-in_err-joined-clause-beside : goal.returns-in_err-joined-clause-beside
returns-in_err-joined-clause-beside g c = no_value c.from_residual-in_err-joined.result _ Memory c.from_residual-in_err-joined.ensures.1

pub returns-in_err-joined-clause-walk : goal.returns-in_err-joined-clause-walk
returns-in_err-joined-clause-walk g c = no_value c.from_residual-in_err-joined.result _ Memory c.from_residual-in_err-joined.ensures.1

pub returns-in_err-joined-clause-fault : goal.returns-in_err-joined-clause-fault
returns-in_err-joined-clause-fault g c = if_err_handed c.from_residual-in_err-joined.result _ Memory c.from_residual-in_err-joined.ensures.1 (λ told. tt)

pub returns-in_err-joined-clause-kept : goal.returns-in_err-joined-clause-kept
returns-in_err-joined-clause-kept g c = keeps_on g.B.Ground c.args.blocks.now c.cut_below.new.blocks c.children_of.new.blocks c.in_ok-below.ensures.kept c.children_of.ensures.kept

pub returns-in_err-joined-clause-cause : goal.returns-in_err-joined-clause-cause
returns-in_err-joined-clause-cause g c = cause_here (g.B.Ground.faults c.args.blocks.now) (g.B.Ground.faults c.children_of.new.blocks) c.from_residual-in_err-joined.result Memory c.from_residual-in_err-joined.ensures.1 tt

pub returns-in_err-row-2-clause-counted : goal.returns-in_err-row-2-clause-counted
returns-in_err-row-2-clause-counted g c = no_value c.from_residual-in_err-row-2.result _ c.in_err-row-2.field-0.0 c.from_residual-in_err-row-2.ensures.1

pub returns-in_err-row-2-clause-opened : goal.returns-in_err-row-2-clause-opened
returns-in_err-row-2-clause-opened g c = no_value c.from_residual-in_err-row-2.result _ c.in_err-row-2.field-0.0 c.from_residual-in_err-row-2.ensures.1

pub returns-in_err-row-2-clause-way : goal.returns-in_err-row-2-clause-way
returns-in_err-row-2-clause-way g c = no_value c.from_residual-in_err-row-2.result _ c.in_err-row-2.field-0.0 c.from_residual-in_err-row-2.ensures.1

pub returns-in_err-row-2-clause-beside : goal.returns-in_err-row-2-clause-beside
returns-in_err-row-2-clause-beside g c = no_value c.from_residual-in_err-row-2.result _ c.in_err-row-2.field-0.0 c.from_residual-in_err-row-2.ensures.1

pub returns-in_err-row-2-clause-walk : goal.returns-in_err-row-2-clause-walk
returns-in_err-row-2-clause-walk g c = no_value c.from_residual-in_err-row-2.result _ c.in_err-row-2.field-0.0 c.from_residual-in_err-row-2.ensures.1

pub returns-in_err-row-2-clause-kept : goal.returns-in_err-row-2-clause-kept
returns-in_err-row-2-clause-kept g c = keeps_on g.B.Ground c.args.blocks.now c.cut_below.new.blocks c.children_of-2.new.blocks c.in_ok-below.ensures.kept c.children_of-2.ensures.kept

pub returns-in_err-row-2-clause-cause : goal.returns-in_err-row-2-clause-cause
returns-in_err-row-2-clause-cause g c = cause_handed (g.B.Ground.faults c.args.blocks.now) (g.B.Ground.faults c.cut_below.new.blocks) (g.B.Ground.faults c.children_of-2.new.blocks) c.from_residual-in_err-row-2.result c.in_err-row-2.field-0.0 c.from_residual-in_err-row-2.ensures.1 (g.B.Ground.leads_faults c.args.blocks.now c.cut_below.new.blocks c.in_ok-below.ensures.kept.leads) c.in_err-row-2.ensures.cause

pub returns-in_err-joined-2-clause-counted : goal.returns-in_err-joined-2-clause-counted
returns-in_err-joined-2-clause-counted g c = no_value c.from_residual-in_err-joined-2.result _ Memory c.from_residual-in_err-joined-2.ensures.1

pub returns-in_err-joined-2-clause-opened : goal.returns-in_err-joined-2-clause-opened
returns-in_err-joined-2-clause-opened g c = no_value c.from_residual-in_err-joined-2.result _ Memory c.from_residual-in_err-joined-2.ensures.1

pub returns-in_err-joined-2-clause-way : goal.returns-in_err-joined-2-clause-way
returns-in_err-joined-2-clause-way g c = no_value c.from_residual-in_err-joined-2.result _ Memory c.from_residual-in_err-joined-2.ensures.1

pub returns-in_err-joined-2-clause-beside : goal.returns-in_err-joined-2-clause-beside
returns-in_err-joined-2-clause-beside g c = no_value c.from_residual-in_err-joined-2.result _ Memory c.from_residual-in_err-joined-2.ensures.1

pub returns-in_err-joined-2-clause-walk : goal.returns-in_err-joined-2-clause-walk
returns-in_err-joined-2-clause-walk g c = no_value c.from_residual-in_err-joined-2.result _ Memory c.from_residual-in_err-joined-2.ensures.1

pub returns-in_err-joined-2-clause-fault : goal.returns-in_err-joined-2-clause-fault
returns-in_err-joined-2-clause-fault g c = if_err_handed c.from_residual-in_err-joined-2.result _ Memory c.from_residual-in_err-joined-2.ensures.1 (λ told. tt)

pub returns-in_err-joined-2-clause-kept : goal.returns-in_err-joined-2-clause-kept
returns-in_err-joined-2-clause-kept g c = keeps_on g.B.Ground c.args.blocks.now c.cut_below.new.blocks c.children_of-2.new.blocks c.in_ok-below.ensures.kept c.children_of-2.ensures.kept

pub returns-in_err-joined-2-clause-cause : goal.returns-in_err-joined-2-clause-cause
returns-in_err-joined-2-clause-cause g c = cause_here (g.B.Ground.faults c.args.blocks.now) (g.B.Ground.faults c.children_of-2.new.blocks) c.from_residual-in_err-joined-2.result Memory c.from_residual-in_err-joined-2.ensures.1 tt

pub returns-then-fan-len-clause-fault : goal.returns-then-fan-len-clause-fault
returns-then-fan-len-clause-fault g c = tt

pub returns-then-fan-len-clause-cause : goal.returns-then-fan-len-clause-cause
returns-then-fan-len-clause-cause g c = tt

pub returns-then-fan-len-clause-kept : goal.returns-then-fan-len-clause-kept
returns-then-fan-len-clause-kept g c = c.in_ok-below.ensures.kept

pub returns-in-Some-clause-fault : goal.returns-in-Some-clause-fault
returns-in-Some-clause-fault g c = tt

pub returns-in-Some-clause-cause : goal.returns-in-Some-clause-cause
returns-in-Some-clause-cause g c = tt

pub returns-in-Some-clause-kept : goal.returns-in-Some-clause-kept
returns-in-Some-clause-kept g c = keeps_on g.B.Ground c.args.blocks.now c.cut_below.new.blocks c.children_of.new.blocks c.in_ok-below.ensures.kept c.children_of.ensures.kept

pub returns-clause-fault : goal.returns-clause-fault
returns-clause-fault g c = tt

pub returns-clause-cause : goal.returns-clause-cause
returns-clause-cause g c = tt

pub returns-clause-kept : goal.returns-clause-kept
returns-clause-kept g c = keeps_on g.B.Ground c.args.blocks.now c.cut_below.new.blocks c.children_of-2.new.blocks c.in_ok-below.ensures.kept c.children_of-2.ensures.kept

pub cut_below-requires-clause-ready : goal.cut_below-requires-clause-ready
cut_below-requires-clause-ready g c = c.requires.ready

pub cut_below-requires-clause-level : goal.cut_below-requires-clause-level
cut_below-requires-clause-level g c = c.requires.level
