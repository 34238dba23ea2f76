use Rattle.std.proofs.Common.{ap, ◌∙◌, sym, inr, refl, subst}
use Rattle.table_model.specs.Requests.{reference_of}
use Rattle.session_core.specs.Sessions.{SessionState}
use Rattle.session_core.proofs.Naming.{missing_here, oid_for}
use Rattle.session_core.specs.Finding.{oid_among, IsFound, IsUnnamed}
use Rattle.session_core.proofs.Sessions.{seen}
use Rattle.ex_base.proofs.Options.{at_some}
use Rattle.session_core.proofs.Quiet.{nothing_changed}
use Rattle.session_core.specs.Damage.{image_on}
use Rattle.session_core.specs.Ways.{IsLookFor}
use Rattle.session_core.proofs.Ways.{none_found, none_looked, one_looked}
use Rattle.session_core.proofs.session.Session.named.Goals as goal

pub returns-in-Err-clause-named : goal.returns-in-Err-clause-named
returns-in-Err-clause-named g c = λ before same now.
    missing_here c.self.inside.names (reference_of c.args.x.now) c.in-Err.why (ap (λ (s : SessionState). s.names) c.self.view_is) same now c.in-Err.ensures

pub returns-in-Some-clause-asked : goal.returns-in-Some-clause-asked
returns-in-Some-clause-asked g c = ap (λ (s : SessionState). oid_among s.names (reference_of c.args.x.now)) (sym c.self.view_is) ∙ c.in-Ok.ensures

pub returns-in-Err-clause-session : goal.returns-in-Err-clause-session
returns-in-Err-clause-session g c = seen c.self.view_is c.self.invariant

pub returns-in-Err-clause-only : goal.returns-in-Err-clause-only
returns-in-Err-clause-only g c = nothing_changed (g.H.World.outside c.args.host.now) c.args.self.now

pub returns-in-Some-clause-limit : goal.returns-in-Some-clause-limit
returns-in-Some-clause-limit g c = at_some _ c.in-Some.found _ c.in-Some.is c.in_ok-found.ensures.limit

pub returns-in-Some-clause-root : goal.returns-in-Some-clause-root
returns-in-Some-clause-root g c = at_some _ c.in-Some.found _ c.in-Some.is c.in_ok-found.ensures.root

pub returns-in-Some-clause-large : goal.returns-in-Some-clause-large
returns-in-Some-clause-large g c = at_some _ c.in-Some.found _ c.in-Some.is c.in_ok-found.ensures.large

pub returns-in-Some-clause-rooted : goal.returns-in-Some-clause-rooted
returns-in-Some-clause-rooted g c = at_some _ c.in-Some.found _ c.in-Some.is c.in_ok-found.ensures.rooted

pub returns-in-Some-clause-named : goal.returns-in-Some-clause-named
returns-in-Some-clause-named g c = λ before same now. record {
  named_by = oid_for c.self.inside.names (reference_of c.args.x.now) (ap (λ (s : SessionState). s.names) c.self.view_is) same now ∙ c.in-Ok.ensures;
  told = subst (IsFound before _) c.in-Some.is (c.in_ok-found.ensures.found before same now);
}

pub returns-in-None-clause-named : goal.returns-in-None-clause-named
returns-in-None-clause-named g c = λ before same now.
    inr (refl, (_, oid_for c.self.inside.names (reference_of c.args.x.now) (ap (λ (s : SessionState). s.names) c.self.view_is) same now ∙ c.in-Ok.ensures, subst (IsFound before _) c.in-None.is (c.in_ok-found.ensures.found before same now)))

pub returns-in-Err-clause-way : goal.returns-in-Err-clause-way
returns-in-Err-clause-way g c = λ tells. none_looked (g.H.World.outside c.args.host.now) c.args.self.now (reference_of c.args.x.now) c.in-Err.why
    (subst (λ (s : SessionState). IsUnnamed s.names (reference_of c.args.x.now) c.in-Err.why) c.self.view_is c.in-Err.ensures)

pub returns-in-Some-clause-way : goal.returns-in-Some-clause-way
returns-in-Some-clause-way g c = λ tells. one_looked (g.H.World.outside c.args.host.now) c.args.self.now (reference_of c.args.x.now) c.in-Ok.oid c.in-Some.found
    (ap (λ (s : SessionState). oid_among s.names (reference_of c.args.x.now)) (sym c.self.view_is) ∙ c.in-Ok.ensures)
    (subst (IsLookFor c.args.self.now.geometry (image_on (g.H.World.outside c.args.host.now) c.args.self.now) c.in-Ok.oid) c.in-Some.is (c.in_ok-found.ensures.way tells))

pub returns-in-None-clause-way : goal.returns-in-None-clause-way
returns-in-None-clause-way g c = λ tells. none_found (g.H.World.outside c.args.host.now) c.args.self.now (reference_of c.args.x.now) c.in-Ok.oid _
    (ap (λ (s : SessionState). oid_among s.names (reference_of c.args.x.now)) (sym c.self.view_is) ∙ c.in-Ok.ensures)
    (subst (IsLookFor c.args.self.now.geometry (image_on (g.H.World.outside c.args.host.now) c.args.self.now) c.in-Ok.oid) c.in-None.is (c.in_ok-found.ensures.way tells))
