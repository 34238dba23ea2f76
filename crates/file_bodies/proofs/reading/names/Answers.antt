use Rattle.std.proofs.Common.{◌≡◌, ap, subst, arith, Some, None, eq-eqb, eqb-true, sym, true≢false, ◌∙◌}
use Rattle.std.proofs.lemmas.Option.{same_Some}
use Rattle.ex_base.specs.declared.names.PageNo.{PageNo}
use Rattle.file_index.specs.Least.{IsLeastFrom}
use Rattle.file_bodies.specs.Bodies.{pages_in}
use Rattle.std.proofs.lemmas.Bool.{false≢true}
use Rattle.file_bodies.proofs.PageNumbers.{least_named}
use Rattle.std.specs.Prelude.{Contains}
use Rattle.file_bodies.proofs.reading.names.Goals as goal

pub returns-in-Ok-None-clause-no : goal.returns-in-Ok-None-clause-no
returns-in-Ok-None-clause-no g c = λ none told file named.
    let least = subst (IsLeastFrom (pages_in (g.P.Ground.image c.args.pages.now) c.args.index.now) c.args.page.0) c.in-Ok-None.field-0-is (c.in-Ok-None.ensures.least told file.whole) in
    absurd (omega (arith, least c.args.page.0 named))

pub returns-in-Ok-None-clause-yes : goal.returns-in-Ok-None-clause-yes
returns-in-Ok-None-clause-yes g c = λ t. absurd (false≢true t)

pub returns-in-Ok-None-clause-kept : goal.returns-in-Ok-None-clause-kept
returns-in-Ok-None-clause-kept g c = c.at_least.ensures.kept

pub returns-in-Ok-Some-clause-kept : goal.returns-in-Ok-Some-clause-kept
returns-in-Ok-Some-clause-kept g c = c.at_least.ensures.kept

pub returns-in-Err-clause-kept : goal.returns-in-Err-clause-kept
returns-in-Err-clause-kept g c = c.at_least.ensures.kept

pub returns-in-Err-clause-fault : goal.returns-in-Err-clause-fault
returns-in-Err-clause-fault g c = c.in-Err.ensures.fault

pub returns-in-Err-clause-cause : goal.returns-in-Err-clause-cause
returns-in-Err-clause-cause g c = c.in-Err.ensures.cause

pub returns-in-Err-clause-sound : goal.returns-in-Err-clause-sound
returns-in-Err-clause-sound g c = λ damage told file. c.in-Err.ensures.sound damage told file.whole

pub returns-in-Ok-None-clause-way : goal.returns-in-Ok-None-clause-way
returns-in-Ok-None-clause-way g c = c.in-Ok-None.ensures.way

pub returns-in-Ok-Some-clause-way : goal.returns-in-Ok-Some-clause-way
returns-in-Ok-Some-clause-way g c = c.in-Ok-Some.ensures.way

pub returns-in-Ok-Some-clause-yes : goal.returns-in-Ok-Some-clause-yes
returns-in-Ok-Some-clause-yes g c = λ t told file.
    let least : IsLeastFrom (pages_in (g.P.Ground.image c.args.pages.now) c.args.index.now) c.args.page.0 (Some c.in-Ok-Some.found) =
    subst (IsLeastFrom (pages_in (g.P.Ground.image c.args.pages.now) c.args.index.now) c.args.page.0) c.in-Ok-Some.field-0-is
    (c.in-Ok-Some.ensures.least told file.whole) in
    subst (Contains (pages_in (g.P.Ground.image c.args.pages.now) c.args.index.now)) (eqb-true c.in-Ok-Some.found.0 c.args.page.0 (sym c.eq.ensures ∙ t))
    least.0

pub returns-in-Ok-Some-clause-no : goal.returns-in-Ok-Some-clause-no
returns-in-Ok-Some-clause-no g c = λ f told file named.
    let least : IsLeastFrom (pages_in (g.P.Ground.image c.args.pages.now) c.args.index.now) c.args.page.0 (Some c.in-Ok-Some.found) =
    subst (IsLeastFrom (pages_in (g.P.Ground.image c.args.pages.now) c.args.index.now) c.args.page.0) c.in-Ok-Some.field-0-is
    (c.in-Ok-Some.ensures.least told file.whole) in
    let same = least_named (pages_in (g.P.Ground.image c.args.pages.now) c.args.index.now) c.args.page.0 c.in-Ok-Some.found least named in
    true≢false (sym (eq-eqb c.in-Ok-Some.found.0 c.args.page.0 same) ∙ sym c.eq.ensures ∙ f)

pub returns-in-Ok-None-clause-lacks : goal.returns-in-Ok-None-clause-lacks
returns-in-Ok-None-clause-lacks g c = λ f told at. let e : None ≡ Some c.args.page = sym c.in-Ok-None.field-0-is ∙ c.in-Ok-None.ensures.found told ∙ at in cc

pub returns-in-Ok-Some-clause-lacks : goal.returns-in-Ok-Some-clause-lacks
returns-in-Ok-Some-clause-lacks g c = λ f told at.
    let same : c.in-Ok-Some.found ≡ c.args.page = same_Some _ _ (sym c.in-Ok-Some.field-0-is ∙ c.in-Ok-Some.ensures.found told ∙ at) in
    true≢false (sym (eq-eqb c.in-Ok-Some.found.0 c.args.page.0 (ap (λ (p : PageNo). p.0) same)) ∙ sym c.eq.ensures ∙ f)
