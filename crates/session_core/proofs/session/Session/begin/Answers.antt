use Rattle.std.proofs.Common.{◌∙◌, ap, sym, ℕ, List, length, subst}
use Rattle.table_model.specs.Requests as request
use Rattle.table_model.specs.declared.reply.Refusal.TheVariants as refusal
use Rattle.session_core.specs.contracts.session.Session as session
use Rattle.session_core.specs.Sessions.{SessionState}
use Rattle.session_core.proofs.Sessions.{not_begun, is_begun, seen, still_closed, still_up, begun_is, if_error, read_last, started_with}
use Rattle.session_core.proofs.Quiet.{refused_at_once, quiet_stop}
use Rattle.session_core.proofs.Refusing.{open_refused}
use Rattle.session_core.proofs.Accepted.{begin_quietly, begin_spent}
use Rattle.session_core.proofs.session.Session.begin.Goals as goal
use Rattle.ex_base.specs.declared.geometry.Geometry.{Geometry}
use Rattle.object_files.specs.Edits.{IsCatalogPage}
use Rattle.session_views.specs.declared.stop.Stop.TheVariants as stop
use Rattle.ex_base.proofs.Results.{if_no_error}

pub returns-then-is_open : goal.returns-then-is_open
returns-then-is_open g c =
    let is = seen c.self.view_is c.self.invariant in
    refused_at_once c.args.self.now request.Begin refusal.TxnOpen is
    (λ before from now q. open_refused before q now.shows.shared.open_txn (ap (λ (s : SessionState). s.opened) (from ∙ sym c.self.view_is) ∙ sym c.is_open.ensures ∙ c.if-is_open.true))

pub returns-then-last : goal.returns-then-last
returns-then-last g c =
    begin_spent c.args.self.now c.catalog.new.self c.in_ok-page.page.items c.last_txn-last.result (seen c.self.view_is c.self.invariant) c.catalog.ensures.frames (ap (λ (s : SessionState). s.opened) (sym c.self.view_is) ∙ (sym c.is_open.ensures ∙ c.if-is_open.false))
    (record { catalog = c.in_ok-page.ensures.catalog; read = c.in_ok-page.ensures.read }) (read_last c.last_txn-last.result c.view_of.result c.deref.result.now c.in_ok-page.page.items c.last_txn-last.ensures c.view_of.ensures c.deref.ensures.value) c.if-last.true

pub invariant_of-self : goal.invariant_of-self
invariant_of-self g c =
    not_begun (session.the_view c.self-2.inside) c.start.new.self c.self-2.invariant (still_closed c.self-2.view_is c.self.view_is c.catalog.ensures.frames (sym c.is_open.ensures ∙ c.if-is_open.false)) (still_up c.self-2.view_is c.catalog.ensures.frames c.requires.up) (if_error c.start.result (sym c.if-is_err.ensures.value) c.start.ensures.err)

pub invariant_of-self-2 : goal.invariant_of-self-2
invariant_of-self-2 g c =
    is_begun (session.the_view c.self-2.inside) c.start.new.self c.clear.new.self.items c.in_ok-page.page.items c.self-2.invariant (still_closed c.self-2.view_is c.self.view_is c.catalog.ensures.frames (sym c.is_open.ensures ∙ c.if-is_open.false)) (still_up c.self-2.view_is c.catalog.ensures.frames c.requires.up) (started_with c.start.new.self (session.the_view c.self-2.inside).meta c.deref-2.result.now c.in_ok-page.page.items (if_no_error c.start.result (sym c.if-is_err.ensures.value) c.start.ensures.ok) c.deref-2.ensures.value) c.clear.ensures.items

pub returns : goal.returns
returns g c =
    begin_quietly c.args.self.now c.catalog.new.self _ c.in_ok-page.page.items c.last_txn-last.result (seen c.self.view_is c.self.invariant) c.catalog.ensures.frames (ap (λ (s : SessionState). s.opened) (sym c.self.view_is) ∙ (sym c.is_open.ensures ∙ c.if-is_open.false)) c.requires.up
    (record { catalog = c.in_ok-page.ensures.catalog; read = c.in_ok-page.ensures.read }) (read_last c.last_txn-last.result c.view_of.result c.deref.result.now c.in_ok-page.page.items c.last_txn-last.ensures c.view_of.ensures c.deref.ensures.value) c.if-last.false
    (begun_is (session.the_view c.self-2.inside) c.catalog.new.self c.start.new.self c.clear.new.self.items c.in_ok-page.page.items c.self-2.view_is (started_with c.start.new.self (session.the_view c.self-2.inside).meta c.deref-2.result.now c.in_ok-page.page.items (if_no_error c.start.result (sym c.if-is_err.ensures.value) c.start.ensures.ok) c.deref-2.ensures.value) c.clear.ensures.items)

pub view_of-requires : goal.view_of-requires
view_of-requires g c = subst IsCatalogPage (sym c.deref.ensures.value) c.in_ok-page.ensures.catalog

pub start-requires : goal.start-requires
start-requires g c =
    let only = c.catalog.ensures.frames in
    let sizes = ap (λ (h : Geometry). h.page_size) (c.self-2.invariant.meta ∙ ap (λ (t : SessionState). t.geometry) (c.self-2.view_is ∙ only.same)) in
    record { whole = ap (λ (l : List ℕ). length l) c.deref-2.ensures.value ∙ c.in_ok-page.ensures.len ∙ sym sizes }

pub returns-then-is_err : goal.returns-then-is_err
returns-then-is_err g c =
    let only = c.catalog.ensures.frames in
    let same = c.self-2.view_is ∙ only.same in
    quiet_stop request.Begin stop.Memory only.reads (ap (λ (t : SessionState). t.geometry) same) (ap (λ (t : SessionState). t.log) same) (ap (λ (t : SessionState). t.down) same) tt (ap (λ (t : SessionState). t.scans) same)
