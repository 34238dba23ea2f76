use Rattle.std.proofs.Common.{arith, ltb-true, lt-ltb, true≢false, sym, ◌∙◌, ne_eqb, ◌+◌, ◌-◌, ◌/◌}
use Rattle.std.proofs.Math.Nat.{mod-eq-sub-div-mul, div-mul-le_self}
use Rattle.ex_base.proofs.Areas.{leaf_there, single_there, single_below}
use Rattle.ex_base.proofs.geometry.Geometry.names_leaf.Goals as goal

pub returns-then-self-eq1 : goal.returns-then-self-eq1
returns-then-self-eq1 c = (
  λ below. single_there c.args.self.now c.args.page.0 c.if-self-eq1.true (omega (arith, c.if-page-first.false)) (ltb-true _ _ below),
  λ named. lt-ltb _ _ (single_below c.args.self.now c.args.page.0 c.if-self-eq1.true named),
)

pub returns-then-offset-self-eq0 : goal.returns-then-offset-self-eq0
returns-then-offset-self-eq0 c =
    let offset = c.args.page.0 - (257 + c.args.self.now.pages) in
    let len = c.args.self.now.seg_len in (
      λ below. (
        offset / len,
        ltb-true _ _ below,
        omega (arith, mod-eq-sub-div-mul offset len, div-mul-le_self offset len, c.if-offset-self-eq0.true),
      ),
      λ named. lt-ltb _ _ (leaf_there c.args.self.now c.args.page.0 named).1,
    )

pub returns-else-offset-self-eq0 : goal.returns-else-offset-self-eq0
returns-else-offset-self-eq0 c = (λ e. absurd (true≢false (sym e ∙ ne_eqb _ _ c.if-offset-self-eq0.false)), λ named. absurd (c.if-offset-self-eq0.false (leaf_there c.args.self.now c.args.page.0 named).0))
