use Rattle.std.proofs.Common.{Option, Some, sym, subst}
use Rattle.std.proofs.lemmas.Result.{IfOk-weaker}
use Rattle.ex_base.specs.declared.names.PageNo.{PageNo}
use Rattle.file_index.specs.Index.{IsIndex, keys_under, keys_of}
use Rattle.file_index.specs.Least.{IsLeastFrom}
use Rattle.file_index.proofs.Picking.{least_is, rises_of}
use Rattle.file_index.proofs.least.at_least.Goals as goal

pub returns-in-Some-clause-least : goal.returns-in-Some-clause-least
returns-in-Some-clause-least g c =
    let image = g.P.Ground.image c.args.pages.now in
    let level = c.args.index.now.level in
    IfOk-weaker c.least_below.result _ _ (λ answer found told index.
    let at : IsIndex (g.P.Ground.geometry c.args.pages.now) (g.P.Ground.image c.args.pages.now) c.args.index.now.file_no c.args.index.now.level (Some c.in-Some.page) =
    subst (λ (r : Option PageNo). IsIndex (g.P.Ground.geometry c.args.pages.now) (g.P.Ground.image c.args.pages.now) c.args.index.now.file_no c.args.index.now.level r) c.in-Some.is index in
    subst (λ (r : Option PageNo). IsLeastFrom (keys_of (g.P.Ground.image c.args.pages.now) c.args.index.now.level r) c.args.key.0 answer) (sym c.in-Some.is)
    (subst (λ (o : Option PageNo). IsLeastFrom (keys_under (g.P.Ground.image c.args.pages.now) c.args.index.now.level c.in-Some.page.0) c.args.key.0 o) (sym (found told at.whole (rises_of (keys_under (g.P.Ground.image c.args.pages.now) c.args.index.now.level c.in-Some.page.0) at.rising)))
    (least_is 0 c.args.key.0 (keys_under (g.P.Ground.image c.args.pages.now) c.args.index.now.level c.in-Some.page.0) (rises_of (keys_under (g.P.Ground.image c.args.pages.now) c.args.index.now.level c.in-Some.page.0) at.rising)))) c.least_below.ensures.least
