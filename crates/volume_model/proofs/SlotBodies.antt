-- The bodies of a page, and the slots that they stand in.
use Rattle.std.proofs.Common.{◌≡◌, ◌+◌, ◌≤◌, ℕ, zero, suc, List, [], ◌∷◌, length, Some, None, sym, ap, subst, arith, inl, inr}
use Rattle.std.specs.Prelude.{slice_index_or}
use Rattle.std.specs.List.{AllZip, zip}
use Rattle.std.proofs.lemmas.List.{length-append}
use Rattle.ex_base.specs.declared.names.Place.{Place}
use Rattle.ex_base.proofs.Members.{In}
use Rattle.slotted_pages.specs.FilePage.{Slot, bodies, body_of}
use Rattle.volume_model.specs.Parts.{bodies_from}

-- a body of a page stands in its slot
pub slot_in : (page slot : ℕ) (slots : List Slot) (row : Place × List ℕ) → In row (bodies_from page slot slots) → (row.0.page.0 ≡ page) × ((k : ℕ) × (row.0.slot ≡ slot + k) × (slice_index_or slots k None ≡ Some row.1))
slot_in page slot [] row has = absurd has
slot_in page slot (None ∷ slots) row has =
    let rest = slot_in page (suc slot) slots row has in
    (rest.0, (suc rest.1.0, omega (arith, rest.1.1), rest.1.2))
slot_in page slot (Some body ∷ slots) row (inl same) =
    (ap (λ (r : Place × List ℕ). r.0.page.0) same, (0, omega (arith, ap (λ (r : Place × List ℕ). r.0.slot) same), ap (λ (r : Place × List ℕ). Some r.1) (sym same)))
slot_in page slot (Some body ∷ slots) row (inr has) =
    let rest = slot_in page (suc slot) slots row has in
    (rest.0, (suc rest.1.0, omega (arith, rest.1.1), rest.1.2))

-- it is one of the page's bodies
pub body_inside : (slots : List Slot) (k : ℕ) (body : List ℕ) → slice_index_or slots k None ≡ Some body → length body ≤ length (bodies slots)
body_inside [] k body is = absurd (let none : None ≡ Some body = is in cc)
body_inside (slot ∷ slots) zero body is =
    let here : slot ≡ Some body = is in
    omega (arith, ap (λ (s : Slot). length (body_of s)) here, length-append (body_of slot) (bodies slots))
body_inside (slot ∷ slots) (suc k) body is = omega (arith, body_inside slots k body is, length-append (body_of slot) (bodies slots))

-- what holds of two items that stand beside each other
pub zip_at : {A B : Type 0} (R : A → B → Type 0) (xs : List A) (ys : List B) (pair : A × B) → AllZip R xs ys → In pair (zip xs ys) → R pair.0 pair.1
zip_at R [] ys pair each has = absurd has
zip_at R (x ∷ xs) [] pair each has = absurd has
zip_at {A} {B} R (x ∷ xs) (y ∷ ys) pair each (inl same) = subst (λ (p : A × B). R p.0 p.1) (sym same) each.0
zip_at R (x ∷ xs) (y ∷ ys) pair each (inr has) = zip_at R xs ys pair each.1 has
