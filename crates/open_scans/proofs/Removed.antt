-- A scan that is taken out of the list of all.
use Rattle.std.proofs.Common.{◌≡◌, ◌+◌, ◌<◌, ◌≤◌, ℕ, zero, suc, List, [], ◌∷◌, map, length, take, drop, Some, None, refl, ap, arith, inl, inr, ⊎_elim}
use Rattle.std.specs.Prelude.{slice_get}
use Rattle.std.specs.List.{AllZip, remove}
use Rattle.std.proofs.lemmas.List.{length-append, length-drop, length-take}
use Rattle.std.proofs.lemmas.Option.{slice_get_cases}
use Rattle.ex_base.specs.Ports.{times}
use Rattle.ex_base.proofs.Members.{In}
use Rattle.open_scans.specs.OpenScans.{OpenRow, scan_of}
use Rattle.trees.specs.Owners.{root_pages}
use Rattle.volume_model.specs.Shown.{HeldScan, root_here, roots_here}
use Rattle.volume_model.proofs.ScansKept.{roots_more}

pub row_at : {A : Type 0} (xs : List A) (i : ℕ) → i < length xs → (x : A) × (slice_get xs i ≡ Some x)
row_at xs i inside = ⊎_elim (λ (x, lt, is, same). (x, is)) (λ (past, none). absurd (omega (arith, inside, past))) (slice_get_cases xs i).1

pub in_at : {A : Type 0} (xs : List A) (i : ℕ) (x : A) → slice_get xs i ≡ Some x → In x xs
in_at [] i x is = absurd (let none : None ≡ Some x = is in cc)
in_at (y ∷ xs) zero x is = inl (let same : Some y ≡ Some x = is in cc)
in_at (y ∷ xs) (suc i) x is = inr (in_at xs i x is)

pub zip_removed : {A B : Type 0} (R : A → B → Type 0) (xs : List A) (ys : List B) (i : ℕ) → AllZip R xs ys → AllZip R (remove xs i) (remove ys i)
zip_removed R [] [] zero each = tt
zip_removed R [] [] (suc i) each = tt
zip_removed R [] (y ∷ ys) i each = absurd each
zip_removed R (x ∷ xs) [] i each = absurd each
zip_removed R (x ∷ xs) (y ∷ ys) zero each = each.1
zip_removed R (x ∷ xs) (y ∷ ys) (suc i) each = (each.0, zip_removed R xs ys i each.1)

pub map_removed : (rows : List OpenRow) (i : ℕ) → map scan_of (remove rows i) ≡ remove (map scan_of rows) i
map_removed [] zero = refl
map_removed [] (suc i) = refl
map_removed (row ∷ rows) zero = refl
map_removed (row ∷ rows) (suc i) = ap (λ (scans : List HeldScan). row.scan ∷ scans) (map_removed rows i)

-- the pages of the roots of the other scans, and that of the one that was taken out
pub roots_removed : (u : ℕ) (rows : List OpenRow) (i : ℕ) (row : OpenRow) → slice_get rows i ≡ Some row
    → times u (root_pages (roots_here (map scan_of (remove rows i)))) + times u (root_pages (root_here row.scan.root)) ≡ times u (root_pages (roots_here (map scan_of rows)))
roots_removed u [] i row is = absurd (let none : None ≡ Some row = is in cc)
roots_removed u (first ∷ rows) zero row is =
    let here : Some first ≡ Some row = is in
    let same : first ≡ row = cc in
    omega (arith, roots_more u first.scan (map scan_of rows), ap (λ (r : OpenRow). times u (root_pages (root_here r.scan.root))) same)
roots_removed u (first ∷ rows) (suc i) row is =
    omega (arith, roots_more u first.scan (map scan_of rows), roots_more u first.scan (map scan_of (remove rows i)), roots_removed u rows i row is)

pub fewer_left : {A : Type 0} (xs : List A) (i : ℕ) → length (remove xs i) ≤ length xs
fewer_left xs i = omega (arith, length-append (take i xs) (drop (suc i) xs), length-take i xs, length-drop (suc i) xs)
