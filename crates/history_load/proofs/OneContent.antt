-- What stands behind the entries of a catalog is one list of files alone.
use Rattle.std.proofs.Common.{◌≡◌, ℕ, List, [], ◌∷◌, refl, sym, subst, ◌∙◌}
use Rattle.std.specs.List.{AllByRecursion, AllZip}
use Rattle.ex_base.specs.declared.geometry.Geometry.{Geometry}
use Rattle.ex_base.specs.declared.names.Place.{Place}
use Rattle.object_files.specs.Catalog.{FileEntry}
use Rattle.object_records.specs.Record.{Record}
use Rattle.slotted_pages.specs.FilePage.{FilePage}
use Rattle.trees.specs.Trees.{Units}
use Rattle.volume_model.specs.Parts.{HasIndex, HasPage, HasPages, IsStored, bodies_in}
use Rattle.volume_model.specs.Volume.{FileContent, Stored}
use Rattle.volume_model.proofs.OneReading.{one_page, one_record}

-- what stands beside a list is one list, where each item has one alone
one_beside : {A B : Type 0} (R : A → B → Type 0) → ((x : A) (y z : B) → R x y → R x z → y ≡ z) → (xs : List A) (ys zs : List B) → AllZip R xs ys → AllZip R xs zs → ys ≡ zs
one_beside R one [] [] [] p q = refl
one_beside R one [] [] (z ∷ zs) p q = absurd q
one_beside R one [] (y ∷ ys) zs p q = absurd p
one_beside R one (x ∷ xs) [] zs p q = absurd p
one_beside R one (x ∷ xs) (y ∷ ys) [] p q = absurd q
one_beside R one (x ∷ xs) (y ∷ ys) (z ∷ zs) p q =
    let here = one x y z p.0 q.0 in
    let rest = one_beside R one xs ys zs p.1 q.1 in
    cc (here, rest)

abbrev stored_with : Place → Record → Stored
stored_with place body = record { place = place; body = body }

one_stored : (row : Place × List ℕ) (s t : Stored) → IsStored row s → IsStored row t → s ≡ t
one_stored row s t p q =
    let place : s.place ≡ t.place = sym p.0 ∙ q.0 in
    let body : s.body ≡ t.body = one_record row.1 s.body t.body p.1 q.1 in
    let same : stored_with s.place s.body ≡ stored_with t.place t.body = cc (place, body) in
    same

abbrev file_with : List ℕ → List ℕ → List FilePage → List Stored → FileContent
file_with numbers index_pages pages stored = record { numbers = numbers; index_pages = index_pages; pages = pages; stored = stored }

-- the records of a file
abbrev pub HasRecords : FileContent → Type 0
HasRecords file = AllZip IsStored (bodies_in file) file.stored

one_file : (g : Geometry) (units : Units) (entry : FileEntry) (a b : FileContent) → HasIndex g units entry a → HasIndex g units entry b → HasPages units entry a → HasPages units entry b → HasRecords a → HasRecords b → a ≡ b
one_file g units entry a b index_a index_b pages_a pages_b records_a records_b =
    let numbers : a.numbers ≡ b.numbers = index_a.numbers ∙ sym index_b.numbers in
    let index_pages : a.index_pages ≡ b.index_pages = index_a.index_pages ∙ sym index_b.index_pages in
    let pages : a.pages ≡ b.pages = one_beside (HasPage units entry) (λ page x y p q. one_page (units page) x y p.0 q.0) a.numbers a.pages b.pages pages_a (subst (λ (ns : List ℕ). AllZip (HasPage units entry) ns b.pages) (sym numbers) pages_b) in
    let bodies : bodies_in a ≡ bodies_in b = cc (numbers, pages) in
    let stored : a.stored ≡ b.stored = one_beside IsStored one_stored (bodies_in a) a.stored b.stored records_a (subst (λ (rows : List (Place × List ℕ)). AllZip IsStored rows b.stored) (sym bodies) records_b) in
    let same : file_with a.numbers a.index_pages a.pages a.stored ≡ file_with b.numbers b.index_pages b.pages b.stored = cc (numbers, index_pages, pages, stored) in
    same

pub one_content : (g : Geometry) (units : Units) (entries : List FileEntry) (xs ys : List FileContent) → AllZip (HasIndex g units) entries xs → AllZip (HasIndex g units) entries ys
    → AllZip (HasPages units) entries xs → AllZip (HasPages units) entries ys → AllByRecursion HasRecords xs → AllByRecursion HasRecords ys → xs ≡ ys
one_content g units [] [] [] i j p q r s = refl
one_content g units [] [] (y ∷ ys) i j p q r s = absurd j
one_content g units [] (x ∷ xs) ys i j p q r s = absurd i
one_content g units (e ∷ entries) [] ys i j p q r s = absurd i
one_content g units (e ∷ entries) (x ∷ xs) [] i j p q r s = absurd j
one_content g units (e ∷ entries) (x ∷ xs) (y ∷ ys) i j p q r s =
    let here = one_file g units e x y i.0 j.0 p.0 q.0 r.0 s.0 in
    let rest = one_content g units entries xs ys i.1 j.1 p.1 q.1 r.1 s.1 in
    cc (here, rest)
