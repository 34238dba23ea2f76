-- Records that stand in order of place, body by body and page by page.
use Rattle.std.proofs.Common.{◌≡◌, ◌<◌, ◌≤◌, ◌+◌, ℕ, List, [], ◌∷◌, ◌++◌, map, refl, sym, ap, subst, ◌∙◌, arith, inl, inr}
use Rattle.std.specs.List.{AllByRecursion}
use Rattle.std.proofs.lemmas.List.{map-append}
use Rattle.ex_base.specs.declared.names.Place.{Place}
use Rattle.ex_base.specs.Order.{Rising}
use Rattle.ex_base.proofs.Each.{each_as}
use Rattle.ex_base.proofs.Rows.{each-append}
use Rattle.file_index.specs.Index.{Rises}
use Rattle.file_index.proofs.Picking.{rises_of}
use Rattle.record_links.specs.declared.Linked.{Linked}
use Rattle.record_links.specs.Links.{IsBefore, InPlaceOrder}
use Rattle.file_walk.specs.declared.records.Standing.{Standing}
use Rattle.file_walk.specs.Objects.{StandBefore, linked_in, links_of}

abbrev slot_at : ℕ → ℕ → Place
slot_at page slot = record { page = record { 0 = page }; slot = slot }

pub none_stand : (page slot : ℕ) → StandBefore [] page slot
none_stand page slot = record { order = tt; before = tt }

later : (records : List Standing) (page slot to at : ℕ) → ((p : Place) → IsBefore p (slot_at page slot) → IsBefore p (slot_at to at)) → StandBefore records page slot → StandBefore records to at
later records page slot to at goes is = record {
  order = is.order;
  before = each_as (λ (s : Standing). IsBefore s.linked.place (slot_at page slot)) (λ (s : Standing). IsBefore s.linked.place (slot_at to at)) records (λ s b. goes s.linked.place b) is.before;
}

to_slot : (page slot : ℕ) (p : Place) → IsBefore p (slot_at page slot) → IsBefore p (slot_at page (slot + 1))
to_slot page slot p (inl l) = inl l
to_slot page slot p (inr l) = inr (l.0, omega (arith, l.1))

pub stand_slot : (records : List Standing) (page slot : ℕ) → StandBefore records page slot → StandBefore records page (slot + 1)
stand_slot records page slot is = later records page slot page (slot + 1) (to_slot page slot) is

to_page : (page slot to : ℕ) → page < to → (p : Place) → IsBefore p (slot_at page slot) → IsBefore p (slot_at to 0)
to_page page slot to lt p (inl l) = inl (omega (arith, l, lt))
to_page page slot to lt p (inr l) = inl (omega (arith, l.0, lt))

pub stand_page : (records : List Standing) (page slot : ℕ) → StandBefore records page slot → StandBefore records (page + 1) 0
stand_page records page slot is = later records page slot (page + 1) 0 (to_page page slot (page + 1) (omega arith)) is

from_page : (page to : ℕ) → page ≤ to → (p : Place) → IsBefore p (slot_at page 0) → IsBefore p (slot_at to 0)
from_page page to le p (inl l) = inl (omega (arith, l, le))
from_page page to le p (inr l) = absurd (omega (arith, l.1))

pub stand_from : (records : List Standing) (page to : ℕ) → page ≤ to → StandBefore records page 0 → StandBefore records to 0
stand_from records page to le is = later records page 0 to 0 (from_page page to le) is

order_push : (rs : List Linked) (r : Linked) → InPlaceOrder rs → AllByRecursion (λ (x : Linked). IsBefore x.place r.place) rs → InPlaceOrder (rs ++ r ∷ [])
order_push [] r order before = tt
order_push (x ∷ []) r order before = (before.0, tt)
order_push (x ∷ y ∷ rs) r order before = (order.0, order_push (y ∷ rs) r order.1 before.1)

links_before : (place : Place) (records : List Standing) → AllByRecursion (λ (s : Standing). IsBefore s.linked.place place) records → AllByRecursion (λ (x : Linked). IsBefore x.place place) (links_of records)
links_before place [] is = tt
links_before place (s ∷ records) is = (is.0, links_before place records is.1)

pub stand_push : (records now : List Standing) (s : Standing) (page slot : ℕ) → s.linked.place ≡ slot_at page slot → now ≡ records ++ s ∷ [] → StandBefore records page slot → StandBefore now page (slot + 1)
stand_push records now s page slot here same is =
    let before = subst (λ (p : Place). AllByRecursion (λ (x : Standing). IsBefore x.linked.place p) records) (sym here) is.before in
    subst (λ (all : List Standing). StandBefore all page (slot + 1)) (sym same) (record {
      order = subst InPlaceOrder (sym (map-append linked_in records (s ∷ []))) (order_push (links_of records) s.linked is.order (links_before s.linked.place records before));
      before = each-append (λ (x : Standing). IsBefore x.linked.place (slot_at page (slot + 1))) records (s ∷ []) (stand_slot records page slot is).before
          (subst (λ (p : Place). IsBefore p (slot_at page (slot + 1))) (sym here) (inr (refl, omega arith)), tt);
    })

-- ---- page by page

-- Records stand before all the pages that are left.
pub record StandsTo (records : List Standing) (left : List ℕ) : Type 0 where
  pub least : ℕ
  pub stand : StandBefore records least 0
  pub rises : Rises least left

pub stands_none : (pages : List ℕ) → Rising pages → StandsTo [] pages
stands_none pages rising = record { least = 0; stand = none_stand 0 0; rises = rises_of pages rising }

pub stands_step : (records now : List Standing) (page : ℕ) (left : List ℕ) → StandsTo records (page ∷ left) → (StandBefore records page 0 → StandBefore now (page + 1) 0) → StandsTo now left
stands_step records now page left to read = record { least = page + 1; stand = read (stand_from records to.least page to.rises.0 to.stand); rises = to.rises.1 }
