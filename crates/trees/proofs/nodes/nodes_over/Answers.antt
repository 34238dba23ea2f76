use Rattle.std.proofs.Common.{◌≡◌, ◌∙◌, ap, sym, subst, length, arith, IfOk, OnOk}
use Rattle.ex_base.specs.declared.geometry.Geometry.{Geometry}
use Rattle.trees.specs.Split.{most_pairs}
use Rattle.trees.specs.Made.{Spent}
use Rattle.trees.specs.Built.{IsCut, even_lens}
use Rattle.trees.proofs.Over.{even_cut, length-even_lens}
use Rattle.trees.proofs.nodes.nodes_over.Goals as goal

pub nodes_by-requires-clause-lens : goal.nodes_by-requires-clause-lens
nodes_by-requires-clause-lens g c =
    let geo = g.B.Ground.geometry c.args.blocks.now in
    let is : c.deref.result.now ≡ even_lens (g.B.Ground.geometry c.args.blocks.now).fan (length c.args.row.now) = c.deref.ensures.value ∙ c.in_ok-lens.ensures ∙ ap (λ (k : Geometry). even_lens k.fan (length c.args.row.now)) c.geometry.ensures in
    subst (IsCut (most_pairs (g.B.Ground.geometry c.args.blocks.now).fan) (length c.args.row.now)) (sym is) (even_cut geo.fan (length c.args.row.now) (omega (arith, geo.two)) c.requires.some)

pub nodes_by-requires-clause-free : goal.nodes_by-requires-clause-free
nodes_by-requires-clause-free g c =
    let geo = g.B.Ground.geometry c.args.blocks.now in
    let is : c.deref.result.now ≡ even_lens (g.B.Ground.geometry c.args.blocks.now).fan (length c.args.row.now) = c.deref.ensures.value ∙ c.in_ok-lens.ensures ∙ ap (λ (k : Geometry). even_lens k.fan (length c.args.row.now)) c.geometry.ensures in
    omega (arith, ap length is, length-even_lens (g.B.Ground.geometry c.args.blocks.now).fan (length c.args.row.now) (omega (arith, geo.two)) c.requires.some, c.requires.free)

pub returns-clause-count : goal.returns-clause-count
returns-clause-count g c =
    let geo = g.B.Ground.geometry c.args.blocks.now in
    let is : c.deref.result.now ≡ even_lens (g.B.Ground.geometry c.args.blocks.now).fan (length c.args.row.now) = c.deref.ensures.value ∙ c.in_ok-lens.ensures ∙ ap (λ (k : Geometry). even_lens k.fan (length c.args.row.now)) c.geometry.ensures in
    subst (λ n. IfOk c.nodes_by.result (λ above. length above.items ≡ n)) (ap length is ∙ length-even_lens geo.fan (length c.args.row.now) (omega (arith, geo.two)) c.requires.some) c.nodes_by.ensures.count

pub returns-clause-spent : goal.returns-clause-spent
returns-clause-spent g c =
    let geo = g.B.Ground.geometry c.args.blocks.now in
    let is : c.deref.result.now ≡ even_lens (g.B.Ground.geometry c.args.blocks.now).fan (length c.args.row.now) = c.deref.ensures.value ∙ c.in_ok-lens.ensures ∙ ap (λ (k : Geometry). even_lens k.fan (length c.args.row.now)) c.geometry.ensures in
    subst (λ n. OnOk c.nodes_by.result (Spent g.B.Ground c.args.blocks.now c.nodes_by.new.blocks 0 n)) (ap length is ∙ length-even_lens geo.fan (length c.args.row.now) (omega (arith, geo.two)) c.requires.some) c.nodes_by.ensures.spent
