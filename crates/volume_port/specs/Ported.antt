-- The meanings of a session's port, over its store and what the session keeps of its logged pages.
use Rattle.std.specs.Prelude.{◌≡◌, ℕ, Bool, true, false, not, ◌&&◌, nat_lt, nat_eq, if◌then◌else◌, List, [], length, unwrap_or, ◌⊎◌, Some, None, refl}
use Rattle.std.proofs.Common.{◌∙◌, inl, inr, ⊎_elim}
use Rattle.std.proofs.lemmas.Bool.{cases_Bool, both_ways}
use Rattle.std.specs.Borrow.{MutBor}
use Rattle.std.specs.Map.{lookup}
use Rattle.ex_base.specs.declared.geometry.Geometry.{Geometry}
use Rattle.ex_base.specs.declared.ground.Ground as ground
use Rattle.ex_base.specs.Area.{area_end, catalog_no}
use Rattle.buffer_groups.specs.Frames.{Frames}
use Rattle.buffer_groups.specs.Groups.{HasFrame}
use Rattle.meta_pages.specs.Overlays.{Overlays, image_at}
use Rattle.tree_store.specs.Stored.{NoUnit}
use Rattle.volume_port.specs.Logged.{LoggedSet, is_held}

-- whether the page lies in the page area
abbrev pub in_pages : Geometry → ℕ → Bool
in_pages g page = not (nat_lt page catalog_no) && nat_lt page (area_end g)

-- The working image of each page of the page area: that of the overlay, and else the bytes of the unit.
abbrev pub image_over : Geometry → Overlays → (ℕ → List ℕ) → ℕ → List ℕ
image_over g meta unit page = if in_pages g page then unwrap_or (image_at meta page) (unit page) else []

-- a page that the working state has is used
abbrev pub IsUsed : (ℕ → Bool) → LoggedSet → ℕ → Type 0
IsUsed used pages page = is_held pages page ≡ true → used page ≡ true

-- a page is at hand: the overlay has an image of it, or the group at an index a frame
abbrev pub IsAtHand : Overlays → List Frames → ℕ → ℕ → Type 0
IsAtHand meta groups index page = image_at meta page ≡ None → HasFrame groups index page

-- The store is ready, and all parts are of its geometry. The working state has the catalog, and each page that it has is used. Of the touched pages it
-- has just those with an image.
pub record IsReady {S : Type 0} (g : ground.Ghosts S) (store : S) (meta : Overlays) (pages : LoggedSet) : Type 0 where
  pub ready : g.ready store
  pub overlay : meta.geometry ≡ g.geometry store
  pub held_len : length pages ≡ area_end (g.geometry store)
  pub catalog : is_held pages catalog_no ≡ true
  pub in_use : (page : ℕ) → IsUsed (g.used store) pages page
  pub images : (page : ℕ) (image : List ℕ) → lookup (nat_eq page) meta.working ≡ Some (Some image) → is_held pages page ≡ true
  pub gone : (page : ℕ) → lookup (nat_eq page) meta.working ≡ Some None → is_held pages page ≡ false

-- the page is there, or it was given back
abbrev pub IsKnown : Overlays → LoggedSet → ℕ → Type 0
IsKnown meta pages page = (is_held pages page ≡ true) ⊎ (lookup (nat_eq page) meta.working ≡ Some None)

-- the page is there, and the transaction touched it not
abbrev pub IsUntouched : Overlays → LoggedSet → ℕ → Type 0
IsUntouched meta pages page = (is_held pages page ≡ true) × (lookup (nat_eq page) meta.working ≡ None)

-- An earlier and a later state of a port, over the same borrowed parts. Each unit that was used and that is not of the set is used still, and on the
-- disk nothing changed but bytes of other units. A page that is there no more is one that the transaction gave back, and one that is there untouched was
-- so before. The committed images are the same.
pub record Moves {S : Type 0} (g : ground.Ghosts S) (freed : ℕ → Type 0) (a b : S) (m n : MutBor Overlays) (k l : MutBor LoggedSet) (r t : MutBor (List ℕ)) : Type 0 where
  pub store : g.frees freed a b
  pub meta : n.ghost_name ≡ m.ghost_name
  pub pages : l.ghost_name ≡ k.ghost_name
  pub room : t.ghost_name ≡ r.ghost_name
  pub used : (unit : ℕ) → g.used a unit ≡ true → (freed unit → ⊥) → g.used b unit ≡ true
  pub given_back : (page : ℕ) → IsKnown m.now k.now page → is_held l.now page ≡ false → lookup (nat_eq page) n.now.working ≡ Some None
  pub untouched : (page : ℕ) → IsUntouched n.now l.now page → IsUntouched m.now k.now page
  pub committed : n.now.committed ≡ m.now.committed
  pub ready : IsReady g a m.now k.now → IsReady g b n.now l.now

-- where neither the flags nor the working images changed
pub unchanged : (meta : Overlays) (pages : LoggedSet) (page : ℕ) → IsKnown meta pages page → is_held pages page ≡ false → lookup (nat_eq page) meta.working ≡ Some None
unchanged meta pages page known now = ⊎_elim (λ there. absurd (both_ways _ now there)) (λ row. row) known

module _ {S : Type 0} (g : ground.Ghosts S) where
  pub moves_same : (a : S) (m : MutBor Overlays) (k : MutBor LoggedSet) (r : MutBor (List ℕ)) → Moves g NoUnit a a m m k k r r
  moves_same a m k r = record {
    store = g.frees_leads NoUnit a a (g.leads_refl a);
    meta = refl;
    pages = refl;
    room = refl;
    used = λ unit is stays. is;
    given_back = λ page known now. unchanged m.now k.now page known now;
    untouched = λ page is. is;
    committed = refl;
    ready = λ is. is;
  }

  pub moves_on : (freed : ℕ → Type 0) (a b c : S) (m n o : MutBor Overlays) (k l j : MutBor LoggedSet) (r t u : MutBor (List ℕ))
      → Moves g freed a b m n k l r t → Moves g freed b c n o l j t u → Moves g freed a c m o k j r u
  moves_on freed a b c m n o k l j r t u x y = record {
    store = g.frees_trans freed a b c x.store y.store;
    meta = y.meta ∙ x.meta;
    pages = y.pages ∙ x.pages;
    room = y.room ∙ x.room;
    used = λ unit is stays. y.used unit (x.used unit is stays) stays;
    given_back = λ page known now. ⊎_elim
        (λ there. y.given_back page (inl there) now)
        (λ away. y.given_back page (inr (x.given_back page known away)) now) (cases_Bool (is_held l.now page));
    untouched = λ page is. x.untouched page (y.untouched page is);
    committed = y.committed ∙ x.committed;
    ready = λ is. y.ready (x.ready is);
  }

  pub moves_more : (few many : ℕ → Type 0) → ((unit : ℕ) → few unit → many unit) → (a b : S) (m n : MutBor Overlays) (k l : MutBor LoggedSet) (r t : MutBor (List ℕ))
      → Moves g few a b m n k l r t → Moves g many a b m n k l r t
  moves_more few many wider a b m n k l r t x = record {
    store = g.frees_more few many wider a b x.store;
    meta = x.meta;
    pages = x.pages;
    room = x.room;
    used = λ unit is stays. x.used unit is (λ few. stays (wider unit few));
    given_back = x.given_back;
    untouched = x.untouched;
    committed = x.committed;
    ready = x.ready;
  }
