-- What the test of a decision says: a volume may decide so.
use Rattle.std.proofs.Common.{◌≡◌, ◌+◌, List, [], ◌∷◌, All, sym, ◌∙◌, Option, Some, None, Bool, true, false, ◌&&◌, ◌||◌, not, true≢false}
use Rattle.std.specs.Prelude.{IsTrue, IfOk, Result, Ok, Err, ◌==◌, nat_le}
use Rattle.std.specs.List.{list_any}
use Rattle.std.specs.declared.alloc.AllocError.{AllocError}
use Rattle.std.proofs.lemmas.Bool.{and_parts, and_from, or_parts, leb-true, eq-eqb, not-true}
use Rattle.std.proofs.lemmas.List.Elements.{All-nil, All-cons, All-weaker}
use Rattle.ex_base.specs.declared.names.Place.{Place}
use Rattle.ex_base.specs.declared.names.Area.TheVariants.{Page, Segment}
use Rattle.version_lists.specs.declared.version.Version.{Version}
use Rattle.version_lists.specs.Changes.{new_version}
use Rattle.table_model.specs.declared.machine.Machine.{Machine}
use Rattle.table_model.specs.declared.machine.Pick.{Pick}
use Rattle.table_model.specs.declared.reply.Refusal.{Refusal}
use Rattle.table_model.specs.Tables.{SamePlace, versions_of}
use Rattle.table_model.specs.Requests.{Request}
use Rattle.table_model.specs.Requests as request
use Rattle.table_model.specs.Machines.{shown}
use Rattle.table_model.specs.Needs.{need, charge, is_update}
use Rattle.table_model.specs.Refusals.{refusal_of}
use Rattle.table_model.specs.Steps.{Allows, Asks, IsVacant, TakesNone, WithinNeed, IfAccepted, IsAllowed, new_oid}
use Rattle.table_picks.specs.Picks.{lies_at, is_vacant, takes_none, asks, within_need, is_allowed}

none_lies : (place : Place) (vs : List Version) → list_any (lies_at place) vs ≡ false → All (λ v. lies_at place v ≡ false) vs
none_lies place [] none = All-nil (λ v. lies_at place v ≡ false)
none_lies place (v ∷ vs) none =
    let both = or_parts (lies_at place v) (list_any (lies_at place) vs) none in
    All-cons (λ v. lies_at place v ≡ false) v vs both.0 (none_lies place vs both.1)

vacant_by : (m : Machine) (q : Pick) → is_vacant m q ≡ true → IsVacant m q
vacant_by m q h =
    All-weaker (λ (v : Version). lies_at q.place v ≡ false) (λ (v : Version). SamePlace v (new_version (new_oid m q)) → ⊥)
    (λ v isnt same. true≢false (sym (and_from (v.oid.page.0 == q.place.page.0) (v.oid.slot == q.place.slot) (eq-eqb (v.oid.page.0) (q.place.page.0) same.0) (eq-eqb (v.oid.slot) (q.place.slot) same.1)) ∙ isnt))
    (versions_of (shown m)) (none_lies q.place (versions_of (shown m)) (not-true (list_any (lies_at q.place) (versions_of (shown m))) h))

takes_by : (m : Machine) (q : Pick) → takes_none m q ≡ true → TakesNone m q
takes_by m q h =
    let both = and_parts (nat_le q.pages m.pages_used) (nat_le q.segs m.segs_used) h in
    record { pages = leb-true q.pages m.pages_used both.0; segs = leb-true q.segs m.segs_used both.1 }

asks_by : (m : Machine) (r : Request) (q : Pick) → asks m r q ≡ true → Asks m r q
asks_by m request.Commit q h = takes_by m q h
asks_by m request.Abort q h = takes_by m q h
asks_by m (request.Close name) q h = takes_by m q h
asks_by m (request.Create file bind) q h = vacant_by m q h
asks_by m (request.Freeze x bind) q h = vacant_by m q h
asks_by m (request.Derive x bind) q h = vacant_by m q h
asks_by m _ q h = tt

within_by : (m : Machine) (r : Request) (q : Pick) → within_need m r q ≡ true → WithinNeed m r q
within_by m r q h =
    let outer = and_parts (nat_le q.pages (m.pages_used + need m.geometry r q Page) && nat_le q.segs (m.segs_used + need m.geometry r q Segment)) (nat_le q.touched (m.touched + charge r)) h in
    let inner = and_parts (nat_le q.pages (m.pages_used + need m.geometry r q Page)) (nat_le q.segs (m.segs_used + need m.geometry r q Segment)) outer.0 in
    record {
      pages = leb-true q.pages (m.pages_used + need m.geometry r q Page) inner.0;
      segs = leb-true q.segs (m.segs_used + need m.geometry r q Segment) inner.1;
      touched = leb-true q.touched (m.touched + charge r) outer.1;
    }

update_within : (b w : Bool) → (not b || w) ≡ true → b ≡ true → w ≡ true
update_within true w h is = h
update_within false w h is = cc

if_accepted : (o : Option Refusal) (A : Type 0) → A → IfAccepted o A
if_accepted None A a = a
if_accepted (Some why) A a = tt

allowed_by : (m : Machine) (r : Request) (q : Pick) → is_allowed m r q ≡ true → Allows m r q
allowed_by m r q h =
    let both = and_parts (asks m r q) (not (is_update r) || within_need m r q) h in
    let is : IsAllowed m r q = (asks_by m r q both.0, λ update. within_by m r q (update_within (is_update r) (within_need m r q) both.1 update)) in
    if_accepted (refusal_of m r q) (IsAllowed m r q) is

pub allows_after : (m : Machine) (r : Request) (q : Pick) (o : Result Bool AllocError) → IfOk o (λ holds. holds ≡ is_allowed m r q) → IfOk o (λ holds. IsTrue holds → Allows m r q)
allows_after m r q (Ok holds) is = λ yes. allowed_by m r q (sym is ∙ yes)
allows_after m r q (Err e) is = tt
