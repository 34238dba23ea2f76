-- One slot of a page of a file is changed, and the page is written.
use Rattle.std.proofs.Common.{◌≡◌, ◌≤◌, ◌<◌, ℕ, zero, suc, true, List, [], ◌∷◌, length, Some, None, refl, sym, ap, subst, arith, ◌+◌}
use Rattle.std.specs.Prelude.{slice_index_or, Contains, ◌↔◌, Bool, IsTrue}
use Rattle.ex_base.specs.declared.ground.Ground as ground
use Rattle.ex_base.specs.declared.names.Place.{Place}
use Rattle.ex_base.specs.Ports.{times, Keeps, PutsImage}
use Rattle.ex_base.proofs.Counts.{contains_times}
use Rattle.slotted_pages.specs.FilePage.{Slot, SlotsOf, room_of, body_of}
use Rattle.slotted_pages.specs.Reads.{page_on, IsPage}
use Rattle.slotted_pages.specs.Edits.{slots_of, with_slot, with_slots, trimmed, body_in}
use Rattle.slotted_pages.proofs.EditLaws.{long_enough}
use Rattle.ex_base.specs.declared.names.Index.{Index}
use Rattle.file_index.specs.Index.{IsFilesPage}
use Rattle.file_bodies.specs.Bodies.{Row, bodies_from, bodies_on, pages_in, EditsRow}
use Rattle.file_bodies.specs.Files.{IsPageOf, IsLive, HasFile, HasBody, EditsFile}
use Rattle.file_bodies.proofs.Pages.{stands_live, slots_are}
use Rattle.file_bodies.proofs.Moving.{lies, page_held, kept_file, kept_edits, put_edits}
use Rattle.file_bodies.proofs.Rows.{each_at, slot_edits, rows_trimmed}

pub stands_below : (slots : List Slot) (i : ℕ) (body : List ℕ) → slice_index_or slots i None ≡ Some body → i < length slots
stands_below [] i body is = absurd (let e : None ≡ Some body = is in cc)
stands_below (s ∷ slots) zero body is = omega arith
stands_below (s ∷ slots) (suc i) body is = omega (arith, stands_below slots i body is)

module _ {S : Type 0} (g : ground.Ghosts S) where
  pub page_of : (a : S) (index : Index) (p : ℕ) → HasFile g a index → 1 ≤ times p (pages_in (g.image a) index) → IsPageOf index.file_no (g.image a p)
  page_of a index p file c = each_at (λ q. IsPageOf index.file_no (g.image a q)) (pages_in (g.image a) index) p file.pages c

  -- a page whose slots became others, which have these rows
  pub slots_written : (a b c : S) (index : Index) (place : Place) (was is : Slot) (content : List ℕ) (slots : List Slot) → HasFile g a index → Contains (pages_in (g.image a) index) place.page.0
      → slice_index_or (slots_of (g.image a place.page.0)) place.slot None ≡ was → place.slot ≤ length (slots_of (g.image a place.page.0))
      → bodies_from place.page.0 0 slots ≡ bodies_from place.page.0 0 (with_slot (slots_of (g.image a place.page.0)) place.slot is) → 1 ≤ length slots
      → SlotsOf content (with_slots (page_on (g.image a place.page.0)) slots) → Keeps g a b → PutsImage g b c place.page.0 content → g.tells a → g.leads b c
      → EditsFile g a c index index place was is
  slots_written a b c index place was is content slots file named stands le rows some spelled kept put told leads =
      let p : ℕ = place.page.0 in
      let at_a : 1 ≤ times place.page.0 (pages_in (g.image a) index) = contains_times place.page.0 (pages_in (g.image a) index) named in
      let at_b : 1 ≤ times place.page.0 (pages_in (g.image b) index) = rw kept.images at_a in
      let edit = slot_edits place.page.0 0 place.slot (slots_of (g.image a place.page.0)) place.slot is (omega arith) le in
      let named_was : EditsRow (bodies_on (g.image a) place.page.0) (bodies_from place.page.0 0 (with_slot (slots_of (g.image a place.page.0)) place.slot is)) place was is =
      subst (λ (s : Slot). EditsRow (bodies_on (g.image a) place.page.0) (bodies_from place.page.0 0 (with_slot (slots_of (g.image a place.page.0)) place.slot is)) place s is) stands edit in
      let to_slots : EditsRow (bodies_on (g.image a) place.page.0) (bodies_from place.page.0 0 slots) place was is = subst (λ (t : List Row). EditsRow (bodies_on (g.image a) place.page.0) t place was is) (sym rows) named_was in
      let at_state : EditsRow (bodies_on (g.image b) place.page.0) (bodies_from place.page.0 0 slots) place was is = rw kept.images to_slots in
      let number : (page_on (g.image a place.page.0)).file_no ≡ index.file_no = (page_of a index place.page.0 file at_a).number in
      kept_edits g a b c index index place was is kept
      (put_edits g b c index place.page.0 content (kept_file g a b index kept file) at_b put (g.leads_told a b kept.leads told) leads (with_slots (page_on (g.image a place.page.0)) slots) place was is refl spelled number some at_state)

  -- what a read of the page of a body needs to be sound
  pub body_sound : (a : S) (index : Index) (place : Place) (body : List ℕ) → HasBody g a index place body
      → (IsFilesPage (g.geometry a) place.page.0 → g.held a place.page.0 ≡ true → IsPage (g.image a place.page.0) → IsLive (g.image a place.page.0) place.slot → ⊥) → ⊥
  body_sound a index place body has never =
      let at : 1 ≤ times place.page.0 (pages_in (g.image a) index) = contains_times place.page.0 (pages_in (g.image a) index) has.named in
      let page = (page_of a index place.page.0 has.file at).spelled in
      never (lies g a index place.page.0 has.file at) (page_held g a index place.page.0 has.file at) page (stands_live (g.image a place.page.0) place.slot body page has.stands)

  -- whether a body fits in the place of another, as it is read on the page
  pub fits_read : (a : S) (index : Index) (place : Place) (was body out : List ℕ) (done : Bool) → HasBody g a index place was → out ≡ g.image a place.page.0
      → length out ≡ (g.geometry a).page_size
      → IsTrue done ↔ (length body ≤ length (body_in out place.slot) + room_of (length out) (slots_of out))
      → IsTrue done ↔ (length body ≤ length was + room_of (g.geometry a).page_size (slots_of (g.image a place.page.0)))
  fits_read a index place was body out done has read size fits =
      subst (λ (n : ℕ). IsTrue done ↔ (length body ≤ length was + room_of n (slots_of (g.image a place.page.0)))) size
      (subst (λ (w : List ℕ). IsTrue done ↔ (length body ≤ length w + room_of (length out) (slots_of (g.image a place.page.0)))) (ap body_of has.stands)
      (subst (λ (t : List ℕ). IsTrue done ↔ (length body ≤ length (body_in t place.slot) + room_of (length out) (slots_of t))) read fits))

  -- a body is put in the place of another
  pub body_changed : (a b c : S) (index : Index) (place : Place) (was body out content : List ℕ) → HasBody g a index place was → Keeps g a b → g.tells a → out ≡ g.image a place.page.0
      → SlotsOf content (with_slots (page_on out) (with_slot (slots_of out) place.slot (Some body))) → PutsImage g b c place.page.0 content → g.leads b c → EditsFile g a c index index place (Some was) (Some body)
  body_changed a b c index place was body out content has kept told read spelled put leads =
      let below = stands_below (slots_of (g.image a place.page.0)) place.slot was has.stands in
      let here : SlotsOf content (with_slots (page_on (g.image a place.page.0)) (with_slot (slots_of (g.image a place.page.0)) place.slot (Some body))) =
      subst (λ (t : List ℕ). SlotsOf content (with_slots (page_on t) (with_slot (slots_of t) place.slot (Some body)))) read spelled in
      slots_written a b c index place (Some was) (Some body) content (with_slot (slots_of (g.image a place.page.0)) place.slot (Some body)) has.file has.named has.stands (omega arith) refl
      (omega (arith, (long_enough (slots_of (g.image a place.page.0)) place.slot (Some body) (omega arith)).0)) here kept put told leads

  -- a body is taken out of a page that keeps another one
  pub body_removed : (a b c : S) (index : Index) (place : Place) (was out content : List ℕ) → HasBody g a index place was → Keeps g a b → g.tells a → out ≡ g.image a place.page.0
      → SlotsOf content (with_slots (page_on out) (trimmed (with_slot (slots_of out) place.slot None))) → 1 ≤ length (slots_of content) → PutsImage g b c place.page.0 content → g.leads b c → EditsFile g a c index index place (Some was) None
  body_removed a b c index place was out content has kept told read spelled some put leads =
      let below = stands_below (slots_of (g.image a place.page.0)) place.slot was has.stands in
      let here : SlotsOf content (with_slots (page_on (g.image a place.page.0)) (trimmed (with_slot (slots_of (g.image a place.page.0)) place.slot None))) =
      subst (λ (t : List ℕ). SlotsOf content (with_slots (page_on t) (trimmed (with_slot (slots_of t) place.slot None)))) read spelled in
      let count : 1 ≤ length (trimmed (with_slot (slots_of (g.image a place.page.0)) place.slot None)) = omega (arith, some, ap length (slots_are content (with_slots (page_on (g.image a place.page.0)) (trimmed (with_slot (slots_of (g.image a place.page.0)) place.slot None))) here)) in
      slots_written a b c index place (Some was) None content (trimmed (with_slot (slots_of (g.image a place.page.0)) place.slot None)) has.file has.named has.stands (omega arith)
      (rows_trimmed place.page.0 0 (with_slot (slots_of (g.image a place.page.0)) place.slot None)) count here kept put told leads
