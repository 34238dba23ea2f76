-- A row of a file's list stands in the file.
use Rattle.std.proofs.Common.{◌≡◌, ℕ, suc, ◌+◌, List, [], ◌∷◌, ◌++◌, Some, None, refl, sym, ap, subst, ◌∙◌, arith, inl, inr, ◌⊎◌, ◌≤◌}
use Rattle.std.specs.Prelude.{slice_index_or}
use Rattle.std.specs.List.{flat_map}
use Rattle.ex_base.specs.declared.ground.Ground as ground
use Rattle.ex_base.specs.declared.names.Place.{Place}
use Rattle.ex_base.specs.Ports.{times}
use Rattle.ex_base.proofs.Counts.{times_contains, times_here}
use Rattle.slotted_pages.specs.FilePage.{Slot}
use Rattle.slotted_pages.specs.Edits.{slots_of}
use Rattle.ex_base.specs.declared.names.Index.{Index}
use Rattle.file_bodies.specs.Bodies.{Row, place_at, bodies_from, bodies_on, bodies_of, pages_in}
use Rattle.file_bodies.specs.Files.{HasFile, HasBody, EditsFile}

-- the row stands in the list
abbrev pub InRows : List Row → Row → Type 0
InRows [] row = ⊥
InRows (x ∷ xs) row = (x ≡ row) ⊎ InRows xs row

pub in_mid : (front back : List Row) (row : Row) → InRows (front ++ (row ∷ back)) row
in_mid [] back row = inl refl
in_mid (x ∷ front) back row = inr (in_mid front back row)

in_app : (xs ys : List Row) (row : Row) → InRows (xs ++ ys) row → InRows xs row ⊎ InRows ys row
in_app [] ys row h = inr h
in_app (x ∷ xs) ys row h = elim h [
  | inl e ↦ inl (inl e)
  | inr r ↦ elim (in_app xs ys row r) [
    | inl a ↦ inl (inr a)
    | inr b ↦ inr b
  ]
]

-- it stands in the slots of a page, from a number on
record AtSlot (page at : ℕ) (slots : List Slot) (row : Row) : Type 0 where
  pub k : ℕ
  pub place : row.0 ≡ place_at page (at + k)
  pub stands : slice_index_or slots k None ≡ Some row.1

next_slot : (page at : ℕ) (s : Slot) (slots : List Slot) (row : Row) → AtSlot page (suc at) slots row → AtSlot page at (s ∷ slots) row
next_slot page at s slots row h = record {
  k = suc h.k;
  place = let e : suc at + h.k ≡ at + suc h.k = omega arith in h.place ∙ ap (place_at page) e;
  stands = h.stands;
}

in_slots : (page at : ℕ) (slots : List Slot) (row : Row) → InRows (bodies_from page at slots) row → AtSlot page at slots row
in_slots page at [] row h = absurd h
in_slots page at (None ∷ slots) row h = next_slot page at None slots row (in_slots page (suc at) slots row h)
in_slots page at (Some body ∷ slots) row h = elim h [
  | inl e ↦ record {
    k = 0;
    place = let z : at ≡ at + 0 = omega arith in sym (ap (λ (r : Row). r.0) e) ∙ ap (place_at page) z;
    stands = ap (λ (r : Row). Some r.1) e;
  }
  | inr r ↦ next_slot page at (Some body) slots row (in_slots page (suc at) slots row r)
]

-- it stands on a page of a list
record OnPage (image : ℕ → List ℕ) (pages : List ℕ) (row : Row) : Type 0 where
  pub page : ℕ
  pub named : 1 ≤ times page pages
  pub at : AtSlot page 0 (slots_of (image page)) row

on_pages : (image : ℕ → List ℕ) (pages : List ℕ) (row : Row) → InRows (flat_map (bodies_on image) pages) row → OnPage image pages row
on_pages image [] row h = absurd h
on_pages image (page ∷ pages) row h = elim (in_app (bodies_on image page) (flat_map (bodies_on image) pages) row h) [
  | inl here ↦ record { page = page; named = omega (arith, times_here page page pages refl); at = in_slots page 0 (slots_of (image page)) row here }
  | inr there ↦
      let on = on_pages image pages row there in
      record { page = on.page; named = omega (arith, on.named); at = on.at }
]

module _ {S : Type 0} (g : ground.Ghosts S) where
  pub row_stands : (s : S) (index : Index) (place : Place) (body : List ℕ) → HasFile g s index → InRows (bodies_of (g.image s) index) (place, body) → HasBody g s index place body
  row_stands s index place body file h =
      let on = on_pages (g.image s) (pages_in (g.image s) index) (place, body) h in
      let page : on.page ≡ place.page.0 = sym (ap (λ (p : Place). p.page.0) on.at.place) in
      let slot : on.at.k ≡ place.slot = omega (arith, ap (λ (p : Place). p.slot) on.at.place) in
      record {
        file = file;
        named = times_contains place.page.0 (pages_in (g.image s) index) (subst (λ (p : ℕ). 1 ≤ times p (pages_in (g.image s) index)) page on.named);
        stands = subst (λ (k : ℕ). slice_index_or (slots_of (g.image s place.page.0)) k None ≡ Some body) slot
            (subst (λ (p : ℕ). slice_index_or (slots_of (g.image s p)) on.at.k None ≡ Some body) page on.at.stands);
      }

  -- what came into a file stands in it
  pub edit_stands : (a b : S) (before after : Index) (place : Place) (was : Slot) (body : List ℕ) → EditsFile g a b before after place was (Some body) → HasBody g b after place body
  edit_stands a b before after place was body e =
      row_stands b after place body e.file (subst (λ (rows : List Row). InRows rows (place, body)) (sym e.bodies.after) (in_mid e.bodies.front e.bodies.back (place, body)))
