use Rattle.std.proofs.Common.{◌∙◌, ◌+◌, ◌≤◌, ℕ, subst}
use Rattle.std.proofs.lemmas.Result.{IfErr-weaker, on_ok_weaker}
use Rattle.ex_base.specs.declared.faults.PortFault.TheVariants.{Memory}
use Rattle.ex_base.proofs.Handed.{cause_of}
use Rattle.ex_base.proofs.Results.{if_err_handed}
use Rattle.versions.proofs.Results.{ok_of}
use Rattle.session_core.proofs.TakingPages.{keeps_takes, put_takes, takes_both}
use Rattle.session_core.proofs.updates.creating.count_number.Goals as goal

pub returns-in_default-clause-cause : goal.returns-in_default-clause-cause
returns-in_default-clause-cause g c = c.no_catalog.ensures.cause _ _

pub put-requires-clause-ready : goal.put-requires-clause-ready
put-requires-clause-ready g c = (let kept = c.get.follows.holds-at-none.0 in g.V.Ground.leads_ready c.args.volume.now c.get.follows.lender-at-none kept.leads c.requires.ready)

pub returns-in_err-get-clause-sound : goal.returns-in_err-get-clause-sound
returns-in_err-get-clause-sound g c = if_err_handed c.from_residual.result _ _ c.from_residual.ensures.1 (λ damage told page. c.in_err-get.ensures.no_damage damage)

pub returns-in_err-page-clause-sound : goal.returns-in_err-page-clause-sound
returns-in_err-page-clause-sound g c = if_err_handed c.from_residual-in_err-page.result _ Memory c.from_residual-in_err-page.ensures.1 (λ damage. absurd damage)

pub returns-clause-free : goal.returns-clause-free
returns-clause-free g c = (let kept = c.get.follows.holds-at-none.0 in on_ok_weaker c.put.result (λ puts. puts.free ∙ kept.free) c.put.ensures.put)

pub returns-clause-takes : goal.returns-clause-takes
returns-clause-takes g c =
    let kept = c.get.follows.holds-at-none.0 in
    on_ok_weaker c.put.result (λ puts. takes_both g.V.Ground c.args.volume.now c.get.follows.lender-at-none c.put.new.self (keeps_takes g.V.Ground c.args.volume.now c.get.follows.lender-at-none kept) (put_takes g.V.Ground c.get.follows.lender-at-none c.put.new.self _ _ puts)) c.put.ensures.put

pub returns-clause-touches : goal.returns-clause-touches
returns-clause-touches g c =
    let kept = c.get.follows.holds-at-none.0 in
    ok_of c.put.result _ (subst (λ (n : ℕ). g.V.Ground.touched c.put.new.self ≤ n + 1) kept.touched c.put.ensures.touched)

pub returns-clause-sound : goal.returns-clause-sound
returns-clause-sound g c = IfErr-weaker c.put.result _ _ (λ fault never damage told page. never damage) c.put.ensures.no_damage

pub returns-clause-leads : goal.returns-clause-leads
returns-clause-leads g c = (let kept = c.get.follows.holds-at-none.0 in g.V.Ground.leads_trans c.args.volume.now c.get.follows.lender-at-none c.put.new.self kept.leads c.put.ensures.leads)

pub returns-clause-cause : goal.returns-clause-cause
returns-clause-cause g c = (let kept = c.get.follows.holds-at-none.0 in cause_of g.V.Ground c.args.volume.now c.get.follows.lender-at-none kept.leads c.put.new.self c.put.result c.put.ensures.cause)
