use Rattle.std.proofs.Common.{◌≢◌, List, subst, sym, ◌+◌, ◌∙◌, ℕ, ap, refl}
use Rattle.std.proofs.lemmas.Bool.{eqb-false}
use Rattle.std.proofs.lemmas.Result.{IfOk-weaker, on_ok_weaker}
use Rattle.file_index.specs.declared.Entry.{Entry}
use Rattle.ex_base.specs.declared.names.Index.{Index}
use Rattle.file_index.specs.Nodes.{IsWritten}
use Rattle.file_index.specs.Edits.{EditsIndex, put_in}
use Rattle.file_index.proofs.Tops.{second_added}
use Rattle.ex_base.proofs.Results.{if_ok_on_ok}
use Rattle.file_index.proofs.Growing.{grows_one, grows_same}
use Rattle.file_index.proofs.Chains.{same_takes, more_none, le_from}
use Rattle.file_index.proofs.adding.add_second.Goals as goal

pub returns-in-Err-clause-cause : goal.returns-in-Err-clause-cause
returns-in-Err-clause-cause g c = c.in-Err.ensures.cause _ _

pub returns-clause-adds : goal.returns-clause-adds
returns-clause-adds g c = IfOk-weaker c.take_root.result _ _ (λ added made told files has.
    let differ : c.args.root.0 ≢ c.args.key.0 = eqb-false c.args.root.0 c.args.key.0 (sym c.if-eq.ensures) in
    subst (λ (i : Index). EditsIndex g.P.Ground c.args.pages.now c.take_root.new.pages (put_in c.args.key.0) c.args.index.now i) (sym made.is)
    (second_added g.P.Ground c.args.pages.now c.take_root.new.pages c.args.index.now c.args.root made.page c.args.key.0 c.requires.root c.requires.level differ has files made.changes
    (subst (λ (l : List Entry). IsWritten g.P.Ground c.take_root.new.pages made.page.0 1 c.args.index.now.file_no l) c.two_leaves-top.ensures (made.written told)))) c.take_root.ensures.made

pub returns-in-Err-clause-adds : goal.returns-in-Err-clause-adds
returns-in-Err-clause-adds g c = tt

pub returns-in-Err-clause-grows : goal.returns-in-Err-clause-grows
returns-in-Err-clause-grows g c = tt

pub returns-in-Err-clause-placed : goal.returns-in-Err-clause-placed
returns-in-Err-clause-placed g c = tt

pub returns-in-Err-clause-free : goal.returns-in-Err-clause-free
returns-in-Err-clause-free g c = tt

pub returns-in-Err-clause-takes : goal.returns-in-Err-clause-takes
returns-in-Err-clause-takes g c = tt

pub returns-in-Err-clause-catalog : goal.returns-in-Err-clause-catalog
returns-in-Err-clause-catalog g c = tt

pub returns-in-Err-clause-leaves : goal.returns-in-Err-clause-leaves
returns-in-Err-clause-leaves g c = tt

pub returns-in-Err-clause-touches : goal.returns-in-Err-clause-touches
returns-in-Err-clause-touches g c = tt

pub returns-then-eq-clause-no_damage : goal.returns-then-eq-clause-no_damage
returns-then-eq-clause-no_damage g c = tt

pub returns-then-eq-clause-cause : goal.returns-then-eq-clause-cause
returns-then-eq-clause-cause g c = tt

pub returns-in-Err-clause-leads : goal.returns-in-Err-clause-leads
returns-in-Err-clause-leads g c = g.P.Ground.leads_refl _

pub returns-in-Err-clause-no_damage : goal.returns-in-Err-clause-no_damage
returns-in-Err-clause-no_damage g c = c.in-Err.ensures.no_damage

pub page_buffer-requires : goal.page_buffer-requires
page_buffer-requires g c = c.requires.ready

pub take_root-requires-clause-ready : goal.take_root-requires-clause-ready
take_root-requires-clause-ready g c = c.requires.ready

pub take_root-requires-clause-free : goal.take_root-requires-clause-free
take_root-requires-clause-free g c = c.requires.free

pub returns-clause-takes : goal.returns-clause-takes
returns-clause-takes g c = c.take_root.ensures.takes

pub returns-clause-touches : goal.returns-clause-touches
returns-clause-touches g c = c.take_root.ensures.touches

pub returns-clause-catalog : goal.returns-clause-catalog
returns-clause-catalog g c = c.take_root.ensures.catalog

pub returns-clause-leads : goal.returns-clause-leads
returns-clause-leads g c = c.take_root.ensures.leads

pub returns-clause-no_damage : goal.returns-clause-no_damage
returns-clause-no_damage g c = c.take_root.ensures.no_damage

pub returns-clause-cause : goal.returns-clause-cause
returns-clause-cause g c = c.take_root.ensures.cause

pub returns-clause-leaves : goal.returns-clause-leaves
returns-clause-leaves g c = if_ok_on_ok c.take_root.result _ _ (λ made over. over.changes.leaves) c.take_root.ensures.made

pub returns-clause-free : goal.returns-clause-free
returns-clause-free g c = on_ok_weaker c.take_root.result (λ taken. le_from taken) c.take_root.ensures.free

pub returns-clause-placed : goal.returns-clause-placed
returns-clause-placed g c = IfOk-weaker c.take_root.result _ _ (λ made placed files. placed) c.take_root.ensures.placed

pub returns-clause-grows : goal.returns-clause-grows
returns-clause-grows g c =
    IfOk-weaker c.take_root.result _ _ (λ made is. grows_one c.args.index.now made (is.0 ∙ sym (ap (λ (n : ℕ). n + 1) c.requires.level)) is.1 is.2)
    c.take_root.ensures.level

pub returns-then-eq-clause-grows : goal.returns-then-eq-clause-grows
returns-then-eq-clause-grows g c = grows_same c.args.index.now c.args.root c.requires.root

pub returns-then-eq-clause-leads : goal.returns-then-eq-clause-leads
returns-then-eq-clause-leads g c = g.P.Ground.leads_refl _

pub returns-then-eq-clause-takes : goal.returns-then-eq-clause-takes
returns-then-eq-clause-takes g c = same_takes g.P.Ground _ _ refl refl

pub returns-then-eq-clause-touches : goal.returns-then-eq-clause-touches
returns-then-eq-clause-touches g c = more_none _ _

pub returns-then-eq-clause-free : goal.returns-then-eq-clause-free
returns-then-eq-clause-free g c = more_none _ _

pub returns-then-eq-clause-catalog : goal.returns-then-eq-clause-catalog
returns-then-eq-clause-catalog g c = refl

pub returns-then-eq-clause-leaves : goal.returns-then-eq-clause-leaves
returns-then-eq-clause-leaves g c = refl
