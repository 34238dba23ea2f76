use Rattle.std.proofs.Common.{rules, ◌≡◌, List, [], ◌∷◌, ◌++◌, length, sym, ap, subst, ◌∙◌}
use Rattle.std.specs.Prelude.{reverse}
use Rattle.ex_base.specs.declared.names.Oid.{Oid}
use Rattle.version_tree.specs.Lineage.{below, first_from, listed, listed_from}
use Rattle.version_tree.specs.declared.lineage.Member.{Member}
use Rattle.version_tree.proofs.LineageOrder.{InOrder, fewer, order_next, order_start, rest_at}
use Rattle.version_tree.proofs.MemberRuns.{all_same}
use Rattle.version_tree.specs.Lookup.{Rises}
use Rattle.version_tree.specs.declared.lookup.Order.TheVariants.{ByOlder, ByPlace}
use Rattle.version_tree.proofs.lineage.list_members.Goals as goal

pub rests-init : goal.rests-init
rests-init c =
    let members = c.args.members.now in
    let places = c.in_ok-places.places.items in
    let olders = c.in_ok-olders.olders.items in
    let is : c.push.new.self.items ≡ rest_at (length members) c.first_from.result ∷ [] = search rules in
    let first : c.first_from.result ≡ first_from (length places) places c.args.member = c.first_from.ensures ∙ ap (λ (t : List Member). first_from (length t) t c.args.member) c.deref.ensures.value in
    let all = ap (listed_from (length members) olders) first ∙ all_same members places olders c.args.member c.in_ok-places.ensures c.in_ok-olders.ensures in
    subst (λ (t : List Oid). InOrder olders (listed members c.args.member) c.push.new.self.items t) (sym c.new-oids.ensures.items)
    (order_start (length members) olders (listed members c.args.member) c.first_from.result c.push.new.self.items is all)

pub rests-smaller : goal.rests-smaller
rests-smaller c =
    let next = c.in-Some.next in
    let todo = subst (λ (t : List Member). c.list_next.new.todo.items ≡ c.pop.new.self.items ++ reverse (below next.levels t next.member)) c.deref-in-Some.ensures.value c.in-Ok.ensures.todo in
    fewer c.in_ok-olders.olders.items c.rests.todo.items c.pop.new.self.items c.list_next.new.todo.items next c.in-Some.ensures.items todo

pub rests-preserved : goal.rests-preserved
rests-preserved c =
    let next = c.in-Some.next in
    let todo = subst (λ (t : List Member). c.list_next.new.todo.items ≡ c.pop.new.self.items ++ reverse (below next.levels t next.member)) c.deref-in-Some.ensures.value c.in-Ok.ensures.todo in
    order_next c.in_ok-olders.olders.items (listed c.args.members.now c.args.member) c.rests.todo.items c.pop.new.self.items c.list_next.new.todo.items next c.rests.oids.items c.list_next.new.oids.items
    c.in-Some.ensures.items todo c.in-Ok.ensures.oids c.rests.invariant

pub list_next-requires : goal.list_next-requires
list_next-requires c = subst (λ (t : List Member). Rises ByOlder t) (sym c.deref-in-Some.ensures.value) c.in_ok-olders.ensures.rise

pub first_from-requires : goal.first_from-requires
first_from-requires c = subst (λ (t : List Member). Rises ByPlace t) (sym c.deref.ensures.value) c.in_ok-places.ensures.rise

pub returns-in-Err-clause-no_damage : goal.returns-in-Err-clause-no_damage
returns-in-Err-clause-no_damage c = c.in-Err.ensures.no_damage

pub returns-in-Err-clause-cause : goal.returns-in-Err-clause-cause
returns-in-Err-clause-cause c = c.in-Err.ensures.cause
