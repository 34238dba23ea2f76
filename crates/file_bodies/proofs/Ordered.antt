-- The bodies of a file stand in order of their places.
use Rattle.std.proofs.Common.{◌≡◌, ◌<◌, ◌+◌, ℕ, suc, List, [], ◌∷◌, ◌++◌, Some, None, refl, subst, arith, inl, inr}
use Rattle.std.specs.List.{flat_map}
use Rattle.ex_base.specs.declared.ground.Ground as ground
use Rattle.ex_base.specs.declared.names.Place.{Place}
use Rattle.slotted_pages.specs.FilePage.{Slot}
use Rattle.slotted_pages.specs.Edits.{slots_of}
use Rattle.ex_base.specs.declared.names.Index.{Index}
use Rattle.file_index.specs.Index.{Rises}
use Rattle.file_index.proofs.Picking.{rises_of}
use Rattle.file_bodies.specs.Bodies.{Row, bodies_from, bodies_on, bodies_of, pages_in, InPlaceOrder}
use Rattle.file_bodies.specs.Files.{HasFile}
use Rattle.file_bodies.specs.Places.{IsFrom}

-- each row stands behind the one before it, the first from a slot of a page on
abbrev Follow : ℕ → ℕ → List Row → Type 0
Follow page slot [] = Unit {0}
Follow page slot (r ∷ rows) = IsFrom page slot r.0 × Follow r.0.page.0 (r.0.slot + 1) rows

follow_weak : (p s q t : ℕ) (rows : List Row) → ((x : Place) → IsFrom q t x → IsFrom p s x) → Follow q t rows → Follow p s rows
follow_weak p s q t [] f h = tt
follow_weak p s q t (r ∷ rows) f h = (f r.0 h.0, h.1)

follow_page : (page at : ℕ) (slots : List Slot) (rest : List Row) → ((n : ℕ) → Follow page n rest) → Follow page at (bodies_from page at slots ++ rest)
follow_page page at [] rest f = f at
follow_page page at (None ∷ slots) rest f =
    follow_weak page at page (suc at) (bodies_from page (suc at) slots ++ rest) (λ x h. elim h [
      | inl behind ↦ inl behind
      | inr same ↦ inr (same.0, omega (arith, same.1))
    ]) (follow_page page (suc at) slots rest f)
follow_page page at (Some body ∷ slots) rest f =
    let next : suc at ≡ at + 1 = omega arith in
    (inr (refl, omega arith), subst (λ (n : ℕ). Follow page n (bodies_from page (suc at) slots ++ rest)) next (follow_page page (suc at) slots rest f))

follow_file : (image : ℕ → List ℕ) (keys : List ℕ) (a page slot : ℕ) → page < a → Rises a keys → Follow page slot (flat_map (bodies_on image) keys)
follow_file image [] a page slot lt rises = tt
follow_file image (k ∷ keys) a page slot lt rises =
    follow_weak page slot k 0 (bodies_on image k ++ flat_map (bodies_on image) keys) (λ x h. elim h [
      | inl behind ↦ inl (omega (arith, rises.0))
      | inr same ↦ inl (omega (arith, rises.0, same.0))
    ]) (follow_page k 0 (slots_of (image k)) (flat_map (bodies_on image) keys) (λ n. follow_file image keys (k + 1) k n (omega arith) rises.1))

in_order : (page slot : ℕ) (rows : List Row) → Follow page slot rows → InPlaceOrder rows
in_order page slot [] h = tt
in_order page slot (r ∷ []) h = tt
in_order page slot (r ∷ q ∷ rows) h = (
  elim h.1.0 [
    | inl behind ↦ inl behind
    | inr same ↦ inr (same.0, omega (arith, same.1))
  ],
  in_order r.0.page.0 (r.0.slot + 1) (q ∷ rows) h.1,
)

pages_in_order : (image : ℕ → List ℕ) (keys : List ℕ) → Rises 0 keys → InPlaceOrder (flat_map (bodies_on image) keys)
pages_in_order image [] rises = tt
pages_in_order image (k ∷ keys) rises =
    in_order k 0 (bodies_on image k ++ flat_map (bodies_on image) keys) (follow_page k 0 (slots_of (image k)) (flat_map (bodies_on image) keys) (λ n. follow_file image keys (k + 1) k n (omega arith) rises.1))

pub ordered : {S : Type 0} (g : ground.Ghosts S) (s : S) (index : Index) → HasFile g s index → InPlaceOrder (bodies_of (g.image s) index)
ordered g s index file = pages_in_order (g.image s) (pages_in (g.image s) index) (rises_of (pages_in (g.image s) index) file.whole.rising)
