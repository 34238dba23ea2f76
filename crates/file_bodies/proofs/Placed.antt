-- A body on the lowest page of its file with room.
use Rattle.std.proofs.Common.{◌≡◌, ◌≤◌, ℕ, true, false, List, [], ◌∷◌, length, Bool, Some, None, refl, sym, ap, subst, ◌∙◌, arith, ◌⊎◌, inl, inr, ltb-true, ltb-false}
use Rattle.std.specs.Prelude.{Contains, nat_le, nat_lt, if◌then◌else◌, slice_index_or}
use Rattle.std.proofs.lemmas.Bool.{cases_lt, leb-true}
use Rattle.ex_base.specs.declared.ground.Ground as ground
use Rattle.ex_base.specs.declared.geometry.Geometry.{Geometry}
use Rattle.ex_base.specs.declared.names.Place.{Place}
use Rattle.ex_base.specs.Ports.{Keeps, PutsImage}
use Rattle.slotted_pages.specs.FilePage.{Slot, room_of}
use Rattle.slotted_pages.specs.Edits.{slots_of, with_slot, place_for, need_of, vacant_at}
use Rattle.slotted_pages.proofs.EditLaws.{long_enough}
use Rattle.ex_base.specs.declared.names.Index.{Index}
use Rattle.file_bodies.specs.declared.placing.Room.{Room}
use Rattle.file_bodies.specs.Bodies.{pages_in}
use Rattle.file_bodies.specs.Files.{HasFile, EditsFile}
use Rattle.file_bodies.specs.Places.{slot_for, NoRoom, IsRoom, IsChosen, IsRoomy, IsOnNewPage, PlacesBody, PutsBody}
use Rattle.file_bodies.specs.Placing.{IsPlaced, NoneFrom, start_of, lowered_to}
use Rattle.file_bodies.proofs.Slots.{slots_written}
use Rattle.file_bodies.proofs.Moving.{kept_edits}
use Rattle.file_bodies.proofs.Searching.{longer_none}

-- the slot that a body gets is vacant, or the first behind the last
vacant_none : (slots : List Slot) → slice_index_or slots (vacant_at slots) None ≡ None
vacant_none [] = refl
vacant_none (None ∷ slots) = refl
vacant_none (Some body ∷ slots) = vacant_none slots

vacant_le : (slots : List Slot) → vacant_at slots ≤ length slots
vacant_le [] = omega arith
vacant_le (None ∷ slots) = omega arith
vacant_le (Some body ∷ slots) = omega (arith, vacant_le slots)

slot_is : (t : Bool) (n slot : ℕ) → (if t then Some n else None) ≡ Some slot → slot ≡ n
slot_is true n slot e = let same : n ≡ slot = cc in sym same
slot_is false n slot e = absurd cc

pub place_is : (size : ℕ) (slots : List Slot) (len slot : ℕ) → place_for size slots len ≡ Some slot → slot ≡ vacant_at slots
place_is size slots len slot e = slot_is (nat_le (need_of slots len) (room_of size slots)) (vacant_at slots) slot e

module _ {S : Type 0} (g : ground.Ghosts S) where
  -- below a page that was edited, the file's other pages have the room that they had
  pub no_room_after : (a c : S) (index after : Index) (place : Place) (was is : Slot) (len : ℕ) → EditsFile g a c index after place was is → NoRoom g a index len 0 place.page.0 → NoRoom g c after len 0 place.page.0
  no_room_after a c index after place was is len edit none page named low high =
      let old = edit.others page (λ same. absurd (omega arith)) named in
      let same : slot_for g c page len ≡ slot_for g a page len =
      ap (λ (y : Geometry). place_for y.page_size (slots_of (g.image c page)) len) (g.leads_geometry a c edit.changes.leads) ∙ ap (λ (t : List ℕ). place_for (g.geometry a).page_size (slots_of t) len) old.1 in
      same ∙ none page old.0 low high

  -- a room that is lowered to a page that was edited
  pub lowered_true : (a c : S) (index after : Index) (place : Place) (was is : Slot) (room : Room) → EditsFile g a c index after place was is → IsRoom g a index room → IsRoom g c after (lowered_to room place.page.0)
  lowered_true a c index after place was is room edit true_a = lowered (nat_lt place.page.0 room.from.0) refl
    where
      below : (to : ℕ) → to ≤ place.page.0 → to ≤ room.from.0 → NoRoom g c after room.len 0 to
      below to le le_from page named low high =
          let old = edit.others page (λ same. absurd (omega arith)) named in
          let same : slot_for g c page room.len ≡ slot_for g a page room.len =
          ap (λ (y : Geometry). place_for y.page_size (slots_of (g.image c page)) room.len) (g.leads_geometry a c edit.changes.leads) ∙ ap (λ (t : List ℕ). place_for (g.geometry a).page_size (slots_of t) room.len) old.1 in
          same ∙ true_a page old.0 low (omega arith)

      lowered : (t : Bool) → nat_lt place.page.0 room.from.0 ≡ t → IsRoom g c after (if t then record room { from = record { 0 = place.page.0 } } else room)
      lowered true e = below place.page.0 (omega arith) (omega (arith, ltb-true place.page.0 room.from.0 e))
      lowered false e = below room.from.0 (ltb-false place.page.0 room.from.0 e) (omega arith)

  -- from where a search begins, nothing below has room
  pub all_below : (a : S) (index : Index) (from len : ℕ) (place : ℕ) → NoRoom g a index len 0 from → NoRoom g a index len from place → NoRoom g a index len 0 place
  all_below a index from len place below passed page named low high = elim (cases_lt page from) [
    | inl lt ↦ below page named low lt
    | inr le ↦ passed page named le high
  ]

  pub none_below : (a : S) (index : Index) (from len : ℕ) → NoRoom g a index len 0 from → NoneFrom g a index len from → NoneFrom g a index len 0
  none_below a index from len below none page named low = elim (cases_lt page from) [
    | inl lt ↦ below page named low lt
    | inr le ↦ none page named le
  ]

  -- the body comes onto a page with room
  edit_old : (a b c : S) (index : Index) (from : ℕ) (body image : List ℕ) (place : Place) → HasFile g a index → g.tells a → IsPlaced g a index from body place image → Keeps g a b → PutsImage g b c place.page.0 image → g.leads b c
      → EditsFile g a c index index place None (Some body)
  edit_old a b c index from body image place file told placed kept put leads =
      let slot : place.slot ≡ vacant_at (slots_of (g.image a place.page.0)) = place_is (g.geometry a).page_size (slots_of (g.image a place.page.0)) (length body) place.slot placed.slot in
      let vacant : slice_index_or (slots_of (g.image a place.page.0)) place.slot None ≡ None = ap (λ (n : ℕ). slice_index_or (slots_of (g.image a place.page.0)) n None) slot ∙ vacant_none (slots_of (g.image a place.page.0)) in
      let le : place.slot ≤ length (slots_of (g.image a place.page.0)) = omega (arith, vacant_le (slots_of (g.image a place.page.0))) in
      slots_written g a b c index place None (Some body) image (with_slot (slots_of (g.image a place.page.0)) place.slot (Some body)) file placed.named vacant le refl
      (omega (arith, (long_enough (slots_of (g.image a place.page.0)) place.slot (Some body) le).0)) placed.spelled kept put told leads

  pub puts_old : (a b c : S) (index : Index) (from : ℕ) (body image : List ℕ) (place : Place) → HasFile g a index → g.tells a → IsPlaced g a index from body place image → Keeps g a b → PutsImage g b c place.page.0 image → g.leads b c
      → PutsBody g a c index place body
  puts_old a b c index from body image place file told placed kept put leads = record {
    after = index;
    edit = edit_old a b c index from body image place file told placed kept put leads;
    vacant = inl (record { named = placed.named; slot = placed.slot });
  }

  pub placed_old : (a b c : S) (index : Index) (from : ℕ) (body image : List ℕ) (place : Place) → HasFile g a index → g.tells a → IsPlaced g a index from body place image → Keeps g a b → PutsImage g b c place.page.0 image → g.leads b c
      → NoRoom g a index (length body) 0 from → PlacesBody g a c index place body
  placed_old a b c index from body image place file told placed kept put leads below =
      let edit = edit_old a b c index from body image place file told placed kept put leads in
      let lowest = all_below a index from (length body) place.page.0 below placed.passed in
      record {
        after = index;
        edit = edit;
        chosen = inl (record { named = placed.named; slot = placed.slot; lowest = lowest });
        below = no_room_after a c index index place None (Some body) (length body) edit lowest;
      }

  -- what a caller remembers serves the search
  pub room_serves : (a : S) (index : Index) (room : Room) (len : ℕ) → IsRoom g a index room → NoRoom g a index len 0 (start_of room len)
  room_serves a index room len is = serves (nat_le room.len len) refl
    where
      serves : (t : Bool) → nat_le room.len len ≡ t → NoRoom g a index len 0 (if t then room.from.0 else 0)
      serves true e page named low high = longer_none (g.geometry a).page_size (slots_of (g.image a page)) room.len len (leb-true room.len len e) (is page named low high)
      serves false e page named low high = absurd (omega arith)

  -- a body placed in a state that keeps everything
  same_slot : (a b : S) (page len : ℕ) → Keeps g a b → slot_for g a page len ≡ slot_for g b page len
  same_slot a b page len kept = ap (λ (y : Geometry). place_for y.page_size (slots_of (g.image a page)) len) (sym (g.leads_geometry a b kept.leads)) ∙ ap (λ (f : ℕ → List ℕ). place_for (g.geometry b).page_size (slots_of (f page)) len) (sym kept.images)

  kept_none : (a b : S) (index : Index) (len from to : ℕ) → Keeps g a b → NoRoom g b index len from to → NoRoom g a index len from to
  kept_none a b index len from to kept none page named low high =
      same_slot a b page len kept ∙ none page (rw kept.images named) low high

  pub none_kept : (a b : S) (index : Index) (len from to : ℕ) → Keeps g a b → NoRoom g a index len from to → NoRoom g b index len from to
  none_kept a b index len from to kept none page named low high = sym (same_slot a b page len kept) ∙ none page (subst (λ (f : ℕ → List ℕ). Contains (pages_in f index) page) kept.images named) low high

  kept_chosen : (a b : S) (index : Index) (len : ℕ) (place : Place) → Keeps g a b → IsChosen g b index len place → IsChosen g a index len place
  kept_chosen a b index len place kept (inl low) = inl (record {
    named = subst (λ (f : ℕ → List ℕ). Contains (pages_in f index) place.page.0) kept.images low.named;
    slot = same_slot a b place.page.0 len kept ∙ low.slot;
    lowest = kept_none a b index len 0 place.page.0 kept low.lowest;
  })
  kept_chosen a b index len place kept (inr fresh) = inr (record {
    none = λ page named. same_slot a b page len kept ∙ fresh.none page (rw kept.images named);
    taken = subst (λ (h : ℕ → Bool). h place.page.0 ≡ false) kept.held fresh.taken;
    slot = fresh.slot;
  })

  pub none_from_kept : (a b : S) (index : Index) (len from : ℕ) → Keeps g a b → NoneFrom g a index len from → NoneFrom g b index len from
  none_from_kept a b index len from kept none page named low = sym (same_slot a b page len kept) ∙ none page (subst (λ (f : ℕ → List ℕ). Contains (pages_in f index) page) kept.images named) low

  kept_vacant : (a b : S) (index : Index) (len : ℕ) (place : Place) → Keeps g a b → IsRoomy g b index len place ⊎ IsOnNewPage g b place → IsRoomy g a index len place ⊎ IsOnNewPage g a place
  kept_vacant a b index len place kept (inl roomy) = inl (record {
    named = subst (λ (f : ℕ → List ℕ). Contains (pages_in f index) place.page.0) kept.images roomy.named;
    slot = same_slot a b place.page.0 len kept ∙ roomy.slot;
  })
  kept_vacant a b index len place kept (inr fresh) = inr (record {
    taken = subst (λ (h : ℕ → Bool). h place.page.0 ≡ false) kept.held fresh.taken;
    slot = fresh.slot;
  })

  pub kept_puts : (a b c : S) (index : Index) (place : Place) (body : List ℕ) → Keeps g a b → PutsBody g b c index place body → PutsBody g a c index place body
  kept_puts a b c index place body kept p = record {
    after = p.after;
    edit = kept_edits g a b c index p.after place None (Some body) kept p.edit;
    vacant = kept_vacant a b index (length body) place kept p.vacant;
  }

  pub kept_places : (a b c : S) (index : Index) (place : Place) (body : List ℕ) → Keeps g a b → PlacesBody g b c index place body → PlacesBody g a c index place body
  kept_places a b c index place body kept p = record {
    after = p.after;
    edit = kept_edits g a b c index p.after place None (Some body) kept p.edit;
    chosen = kept_chosen a b index (length body) place kept p.chosen;
    below = p.below;
  }
