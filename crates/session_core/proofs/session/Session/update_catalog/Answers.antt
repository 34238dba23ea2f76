use Rattle.session_core.specs.contracts.session.Session as session
use Rattle.session_core.proofs.Sessions.{edited, noted}
use Rattle.std.proofs.Common.{subst, sym}
use Rattle.meta_pages.specs.Overlays.{Overlays}
use Rattle.session_core.specs.Sessions.{IsSession}
use Rattle.session_core.proofs.session.Session.update_catalog.Goals as goal

pub invariant_of-self-in_err-push : goal.invariant_of-self-in_err-push
invariant_of-self-in_err-push c =
    edited (session.the_view c.self.inside) c.args.self.now c.args.catalog.now c.args.kind c.edit.new.self c.push.new.self.items c.self.view_is c.self.invariant
    (record { catalog = c.requires.catalog; updates = c.requires.updates; touched = c.requires.touched; opened = c.requires.opened })
    c.in_ok-edit.ensures.ok c.in_err-push.ensures.items

pub invariant_of-self-2 : goal.invariant_of-self-2
invariant_of-self-2 c =
    noted (session.the_view c.self.inside) c.args.self.now c.args.catalog.now c.args.kind c.edit.new.self c.push.new.self.items c.self.view_is c.self.invariant
    (record { catalog = c.requires.catalog; updates = c.requires.updates; touched = c.requires.touched; opened = c.requires.opened })
    c.in_ok-edit.ensures.ok c.in_ok-push.ensures.items

pub invariant_of-self : goal.invariant_of-self
invariant_of-self c = subst (λ (o : Overlays). IsSession (record (session.the_view c.self.inside) { meta = o })) (sym c.in_err-edit.ensures.err) c.self.invariant
