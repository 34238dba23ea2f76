use Rattle.std.proofs.Common.{◌≡◌, ◌-◌, ◌≤◌, ℕ, Bool, true, false, [], ◌∷◌, sym, ap, subst, ◌∙◌, arith, rules, true≢false, OnOk}
use Rattle.std.proofs.lemmas.Result.{IfErr-weaker, on_ok_weaker}
use Rattle.ex_base.specs.declared.geometry.Geometry.{Geometry}
use Rattle.ex_base.specs.Ports.{without_ref}
use Rattle.trees.specs.Rows.{IsRowOn, IsFilled}
use Rattle.trees.specs.Counted.{HasCounts}
use Rattle.trees.specs.Made.{pages_of}
use Rattle.version_delete.specs.Released.{AreApart, IsFreed, Released}
use Rattle.version_delete.proofs.Releasing.{drops_of, not_last, so_far_more, gives_less, gives_unowned, gives_on, all_of, some_level}
use Rattle.version_delete.proofs.LastOwner.{gives_unread, unread_fault, gives_after, all_released, leaf_fault, tree_fault, tree_way}
use Rattle.version_delete.proofs.owners.+giving.Goals as goal

-- ---- a node that has no owner left

pub give_up-returns-in-Err-clause-gives : goal.give_up-returns-in-Err-clause-gives
give_up-returns-in-Err-clause-gives g t c = λ before loses. gives_unread g.B.Ground before c.args.blocks.now c.row_of.new.blocks c.args.tree loses c.in-Err.ensures.kept

pub give_up-returns-in-Err-clause-fault : goal.give_up-returns-in-Err-clause-fault
give_up-returns-in-Err-clause-fault g t c = λ before loses told logged roots at is.
    unread_fault g.B.Ground before c.args.blocks.now c.row_of.new.blocks c.args.tree loses c.in-Err.ensures.kept c.args.level c.args.least c.in-Err.fault c.requires.node c.in-Err.ensures.fault told

pub give_up-returns-in-Err-clause-way : goal.give_up-returns-in-Err-clause-way
give_up-returns-in-Err-clause-way g t c = λ before loses keeps told.
    unread_fault g.B.Ground before c.args.blocks.now c.row_of.new.blocks c.args.tree loses c.in-Err.ensures.kept c.args.level c.args.least c.in-Err.fault c.requires.node c.in-Err.ensures.fault told

pub give_up-returns-in-Ok-release_leaves-clause-released : goal.give_up-returns-in-Ok-release_leaves-clause-released
give_up-returns-in-Ok-release_leaves-clause-released g t c = λ before loses.
    let b = g.B.Ground in
    let lowest : 0 ≡ c.args.level - 1 = omega (arith, c.if-level-eq1.true) in
    all_released b before c.args.blocks.now c.row_of.new.blocks c.args.tree loses c.in-Ok.ensures.kept c.give_unit.new.self c.give_unit.ensures.given c.requires.used c.args.level c.deref.result.now c.requires.node c.in-Ok.ensures.area
    (λ told. subst (IsRowOn (b.geometry c.args.blocks.now) (b.unit c.args.blocks.now c.args.tree.page.0) c.args.level c.args.tree.size) (sym c.deref.ensures.value) (c.in-Ok.ensures.found told))
    c.release_leaves.new.blocks (subst (λ k. Released b c.give_unit.new.self c.release_leaves.new.blocks k (pages_of c.deref.result.now)) lowest c.in-Ok-release_leaves.ensures.released)

pub give_up-returns-in-Ok-release_leaves-clause-gives : goal.give_up-returns-in-Ok-release_leaves-clause-gives
give_up-returns-in-Ok-release_leaves-clause-gives g t c = λ before loses.
    gives_after g.B.Ground before c.args.blocks.now c.row_of.new.blocks c.args.tree loses c.in-Ok.ensures.kept c.give_unit.new.self c.give_unit.ensures.given c.requires.used c.release_leaves.new.blocks c.in-Ok-release_leaves.ensures.gives

pub give_up-returns-in-Err-release_leaves-clause-gives : goal.give_up-returns-in-Err-release_leaves-clause-gives
give_up-returns-in-Err-release_leaves-clause-gives g t c = λ before loses.
    gives_after g.B.Ground before c.args.blocks.now c.row_of.new.blocks c.args.tree loses c.in-Ok.ensures.kept c.give_unit.new.self c.give_unit.ensures.given c.requires.used c.release_leaves.new.blocks c.in-Err-release_leaves.ensures.gives

pub give_up-returns-in-Err-release_leaves-clause-fault : goal.give_up-returns-in-Err-release_leaves-clause-fault
give_up-returns-in-Err-release_leaves-clause-fault g t c = λ before loses told logged roots at is.
    let b = g.B.Ground in
    leaf_fault b before c.args.blocks.now c.row_of.new.blocks c.args.tree loses c.in-Ok.ensures.kept c.give_unit.new.self c.give_unit.ensures.given c.requires.used c.args.level c.deref.result.now c.requires.node c.in-Ok.ensures.area
    (λ told. subst (IsRowOn (b.geometry c.args.blocks.now) (b.unit c.args.blocks.now c.args.tree.page.0) c.args.level c.args.tree.size) (sym c.deref.ensures.value) (c.in-Ok.ensures.found told))
    c.args.least (subst (IsFilled (b.geometry c.args.blocks.now) c.args.level c.args.least) (sym c.deref.ensures.value) c.in-Ok.ensures.counted.filled)
    c.in-Err-release_leaves.fault c.if-level-eq1.true c.in-Err-release_leaves.ensures.fault told

pub give_up-returns-in-Err-release_leaves-clause-way : goal.give_up-returns-in-Err-release_leaves-clause-way
give_up-returns-in-Err-release_leaves-clause-way g t c = λ before loses keeps told.
    let b = g.B.Ground in
    leaf_fault b before c.args.blocks.now c.row_of.new.blocks c.args.tree loses c.in-Ok.ensures.kept c.give_unit.new.self c.give_unit.ensures.given c.requires.used c.args.level c.deref.result.now c.requires.node c.in-Ok.ensures.area
    (λ told. subst (IsRowOn (b.geometry c.args.blocks.now) (b.unit c.args.blocks.now c.args.tree.page.0) c.args.level c.args.tree.size) (sym c.deref.ensures.value) (c.in-Ok.ensures.found told))
    c.args.least (subst (IsFilled (b.geometry c.args.blocks.now) c.args.level c.args.least) (sym c.deref.ensures.value) c.in-Ok.ensures.counted.filled)
    c.in-Err-release_leaves.fault c.if-level-eq1.true c.in-Err-release_leaves.ensures.fault told

-- ---- the trees below it, one after the other

pub give_up-release-requires : goal.give_up-release-requires
give_up-release-requires g t c κs within =
    let b = g.B.Ground in
    let given = gives_unowned b c.args.blocks.now c.row_of.new.blocks c.give_unit.new.self c.args.tree.page.0 c.in-Ok.ensures.kept c.give_unit.ensures.given c.requires.used c.requires.unnamed in
    let ready : b.ready c.loop-child.blocks = b.frees_ready (IsFreed b c.give_unit.new.self c.loop-child.blocks) c.give_unit.new.self c.loop-child.blocks c.loop-child.invariant.gives.frees
    (b.frees_ready (IsFreed b c.args.blocks.now c.give_unit.new.self) c.args.blocks.now c.give_unit.new.self given.frees c.requires.ready) in
    let counts : HasCounts b c.loop-child.blocks = c.loop-child.invariant.gives.counts (given.counts c.requires.counts) in
    let apart : AreApart b c.loop-child.blocks = c.loop-child.invariant.gives.apart (given.apart c.requires.apart) in
    search rules

pub give_up-loop-child-preserved : goal.give_up-loop-child-preserved
give_up-loop-child-preserved g t c =
    so_far_more g.B.Ground c.give_unit.new.self c.loop-child.blocks c.release.new.blocks c.args.level c.deref-child-items.result.now c.loop-child.child-index c.tick.new.self c.loop-child.steps c.release.new.steps c.loop-child-test.true c.loop-child.invariant
    c.in-Ok-release.ensures.released c.in-Ok-release.ensures.gives c.in-Ok-release.ensures.cost c.release.ensures.rises

pub give_up-returns-clause-released : goal.give_up-returns-clause-released
give_up-returns-clause-released g t c = λ before loses.
    let b = g.B.Ground in
    all_released g.B.Ground before c.args.blocks.now c.row_of.new.blocks c.args.tree loses c.in-Ok.ensures.kept c.give_unit.new.self c.give_unit.ensures.given c.requires.used c.args.level c.deref-child-items.result.now c.requires.node c.in-Ok.ensures.area
    (λ told. subst (IsRowOn (b.geometry c.args.blocks.now) (b.unit c.args.blocks.now c.args.tree.page.0) c.args.level c.args.tree.size) (sym c.deref-child-items.ensures.value) (c.in-Ok.ensures.found told))
    c.loop-child.blocks (all_of b c.give_unit.new.self c.loop-child.blocks c.args.level c.deref-child-items.result.now c.loop-child.child-index c.tick.new.self c.loop-child.steps c.loop-child-test.false c.loop-child.invariant)

pub give_up-returns-clause-gives : goal.give_up-returns-clause-gives
give_up-returns-clause-gives g t c = λ before loses.
    gives_after g.B.Ground before c.args.blocks.now c.row_of.new.blocks c.args.tree loses c.in-Ok.ensures.kept c.give_unit.new.self c.give_unit.ensures.given c.requires.used c.loop-child.blocks c.loop-child.invariant.gives

pub give_up-returns-in-Err-release-clause-gives : goal.give_up-returns-in-Err-release-clause-gives
give_up-returns-in-Err-release-clause-gives g t c = λ before loses.
    gives_after g.B.Ground before c.args.blocks.now c.row_of.new.blocks c.args.tree loses c.in-Ok.ensures.kept c.give_unit.new.self c.give_unit.ensures.given c.requires.used c.release.new.blocks
    (gives_on g.B.Ground c.give_unit.new.self c.loop-child.blocks c.release.new.blocks c.loop-child.invariant.gives c.in-Err-release.ensures.gives)

pub give_up-returns-in-Err-release-clause-fault : goal.give_up-returns-in-Err-release-clause-fault
give_up-returns-in-Err-release-clause-fault g t c = λ before loses.
    let b = g.B.Ground in
    tree_fault g.B.Ground before c.args.blocks.now c.row_of.new.blocks c.args.tree loses c.in-Ok.ensures.kept c.give_unit.new.self c.give_unit.ensures.given c.requires.used c.args.level c.deref-child-items.result.now c.requires.node c.in-Ok.ensures.area
    (λ told. subst (IsRowOn (b.geometry c.args.blocks.now) (b.unit c.args.blocks.now c.args.tree.page.0) c.args.level c.args.tree.size) (sym c.deref-child-items.ensures.value) (c.in-Ok.ensures.found told))
    c.args.least (subst (IsFilled (b.geometry c.args.blocks.now) c.args.level c.args.least) (sym c.deref-child-items.ensures.value) c.in-Ok.ensures.counted.filled)
    c.in-Err-release.fault c.loop-child.blocks c.geometry-fan.result.fan c.loop-child.child-index (ap (λ (x : Geometry). x.fan) c.geometry-fan.ensures) c.loop-child-test.true c.loop-child.invariant.gives c.loop-child.invariant.released c.in-Err-release.ensures.fault

pub give_up-returns-in-Err-release-clause-way : goal.give_up-returns-in-Err-release-clause-way
give_up-returns-in-Err-release-clause-way g t c = λ before loses.
    let b = g.B.Ground in
    tree_way g.B.Ground before c.args.blocks.now c.row_of.new.blocks c.args.tree loses c.in-Ok.ensures.kept c.give_unit.new.self c.give_unit.ensures.given c.requires.used c.args.level c.deref-child-items.result.now c.requires.node c.in-Ok.ensures.area
    (λ told. subst (IsRowOn (b.geometry c.args.blocks.now) (b.unit c.args.blocks.now c.args.tree.page.0) c.args.level c.args.tree.size) (sym c.deref-child-items.ensures.value) (c.in-Ok.ensures.found told))
    c.args.least (subst (IsFilled (b.geometry c.args.blocks.now) c.args.level c.args.least) (sym c.deref-child-items.ensures.value) c.in-Ok.ensures.counted.filled)
    c.in-Err-release.fault c.loop-child.blocks c.geometry-fan.result.fan c.loop-child.child-index (ap (λ (x : Geometry). x.fan) c.geometry-fan.ensures) c.loop-child-test.true c.loop-child.invariant.gives c.in-Err-release.ensures.way

-- ---- an owner is taken away

pub release-returns-then-level-eq0-clause-released : goal.release-returns-then-level-eq0-clause-released
release-returns-then-level-eq0-clause-released g t c =
    subst (λ k. OnOk c.release_leaf.result (Released g.B.Ground c.args.blocks.now c.release_leaf.new.blocks k (c.args.tree.page.0 ∷ []))) (sym c.if-level-eq0.true) c.release_leaf.ensures.released

pub release-returns-then-not-drop_ref-clause-released : goal.release-returns-then-not-drop_ref-clause-released
release-returns-then-not-drop_ref-clause-released g t c =
    let page = c.args.tree.page.0 in
    not_last g.B.Ground c.args.blocks.now c.drop_ref.new.self c.args.level page (drops_of g.B.Ground c.args.blocks.now c.drop_ref.new.self page (without_ref (g.B.Ground.refs c.args.blocks.now page)) c.drop_ref.ensures.counts)
    (λ one. true≢false (sym (c.drop_ref.ensures.last.1 one) ∙ c.if-not-drop_ref.true))

pub release-returns-then-not-drop_ref-clause-gives : goal.release-returns-then-not-drop_ref-clause-gives
release-returns-then-not-drop_ref-clause-gives g t c =
    let page = c.args.tree.page.0 in
    let b = g.B.Ground in
    gives_less b c.args.blocks.now c.drop_ref.new.self page (drops_of b c.args.blocks.now c.drop_ref.new.self page (without_ref (b.refs c.args.blocks.now page)) c.drop_ref.ensures.counts)

pub release-give_up-requires : goal.release-give_up-requires
release-give_up-requires g t c κs within =
    let page = c.args.tree.page.0 in
    let b = g.B.Ground in
    let dropped = c.drop_ref.ensures.counts in
    let last : b.refs c.args.blocks.now page ≡ 1 = c.drop_ref.ensures.last.0 c.if-not-drop_ref.false in
    let less = gives_less b c.args.blocks.now c.drop_ref.new.self page (drops_of b c.args.blocks.now c.drop_ref.new.self page (without_ref (b.refs c.args.blocks.now page)) dropped) in
    let ready : b.ready c.drop_ref.new.self = b.leads_ready c.args.blocks.now c.drop_ref.new.self dropped.leads c.requires.ready in
    let counts : HasCounts b c.drop_ref.new.self = less.counts c.requires.counts in
    let apart : AreApart b c.drop_ref.new.self = less.apart c.requires.apart in
    let node : 1 ≤ c.args.level = some_level c.args.level c.if-level-eq0.false in
    let used : b.used c.drop_ref.new.self page ≡ true = ap (λ (f : ℕ → Bool). f page) dropped.used ∙ c.requires.counts.used page (omega (arith, last)) in
    let unnamed : b.refs c.drop_ref.new.self page ≡ 0 = omega (arith, dropped.counted, last) in
    let unlogged : b.held c.drop_ref.new.self page ≡ false = ap (λ (f : ℕ → Bool). f page) dropped.held ∙ c.requires.apart page (omega (arith, last)) in
    search rules

pub release-returns-clause-released : goal.release-returns-clause-released
release-returns-clause-released g t c =
    on_ok_weaker c.give_up.result (λ all. all c.args.blocks.now record { last = c.drop_ref.ensures.last.0 c.if-not-drop_ref.false; counts = c.drop_ref.ensures.counts }) c.give_up.ensures.released

pub release-returns-clause-gives : goal.release-returns-clause-gives
release-returns-clause-gives g t c = c.give_up.ensures.gives c.args.blocks.now record { last = c.drop_ref.ensures.last.0 c.if-not-drop_ref.false; counts = c.drop_ref.ensures.counts }

pub release-returns-clause-fault : goal.release-returns-clause-fault
release-returns-clause-fault g t c =
    IfErr-weaker c.give_up.result _ _ (λ fault all. all c.args.blocks.now record { last = c.drop_ref.ensures.last.0 c.if-not-drop_ref.false; counts = c.drop_ref.ensures.counts }) c.give_up.ensures.fault

pub release-returns-clause-way : goal.release-returns-clause-way
release-returns-clause-way g t c =
    IfErr-weaker c.give_up.result _ _ (λ fault all. all c.args.blocks.now record { last = c.drop_ref.ensures.last.0 c.if-not-drop_ref.false; counts = c.drop_ref.ensures.counts }) c.give_up.ensures.way
