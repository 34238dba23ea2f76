use Rattle.transactions.proofs.LaterSessions.{has_room}
use Rattle.std.proofs.Common.{◌∙◌, ℕ, List, length, ap, subst}
use Rattle.object_files.specs.Catalog.{Catalog}
use Rattle.object_files.specs.Reads.{catalog_on}
use Rattle.session_core.specs.Finding.{IsOutside}
use Rattle.transactions.specs.Summaries.{AreTotals, IfCatalog}
use Rattle.session_core.proofs.Sessions.{viewed}
use Rattle.transactions.proofs.Summing.{sums_stopped, sums_unread, sums_up}
use Rattle.transactions.proofs.summary.sum_up.Goals as goal

pub returns-in-Err : goal.returns-in-Err
returns-in-Err g c = sums_unread c.in-Err.stop c.catalog.ensures.frames c.catalog.ensures.session c.in-Err.ensures.stops

pub returns-in-Err-total_in : goal.returns-in-Err-total_in
returns-in-Err-total_in g c =
    sums_stopped c.in-Ok.page.items c.catalog.ensures.frames c.total_in.ensures.only c.catalog.ensures.session (record { catalog = c.in-Ok.ensures.catalog; read = c.in-Ok.ensures.read }) c.in-Err-total_in.stop c.in-Err-total_in.ensures.stops
    c.in-Err-total_in.ensures.damage
    (subst (λ (page : List ℕ). IfCatalog (g.H.World.outside c.catalog.new.disk) c.catalog.new.self page (λ before. IsOutside c.in-Err-total_in.stop)) c.deref.ensures.value c.in-Err-total_in.ensures.sound)

pub returns : goal.returns
returns g c =
    let view = viewed c.view_of-catalog.result c.deref-2.result.now c.in-Ok.page.items c.view_of-catalog.ensures c.deref-2.ensures.value in
    sums_up c.in-Ok.page.items c.catalog.ensures.frames c.total_in.ensures.only c.catalog.ensures.session (record { catalog = c.in-Ok.ensures.catalog; read = c.in-Ok.ensures.read })
    c.last_txn.result c.len.result c.in-Ok-total_in.totals c.used.result c.used-2.result
    (subst (λ (page : List ℕ). IfCatalog (g.H.World.outside c.catalog.new.disk) c.catalog.new.self page (λ before. AreTotals before.machine (catalog_on page).entries c.in-Ok-total_in.totals)) c.deref.ensures.value c.in-Ok-total_in.ensures.totals)
    (record { last_is = c.last_txn.ensures ∙ ap (λ (k : Catalog). k.last) view; files_is = c.len.ensures ∙ ap (λ (k : Catalog). length k.entries) view; pages_is = c.used.ensures; segs_is = c.used-2.ensures })

pub total_in-requires-clause-room : goal.total_in-requires-clause-room
total_in-requires-clause-room g c = has_room c.catalog.ensures.frames c.requires
