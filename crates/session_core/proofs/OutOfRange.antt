-- No version of a volume stands at a place that is out of the range of its fields.
use Rattle.std.proofs.Common.{◌≡◌, ◌∙◌, ℕ, suc, ◌+◌, ◌<◌, ◌^◌, List, [], ◌∷◌, length, Some, None, sym, ap, subst, arith, inl, inr}
use Rattle.std.specs.List.{AllZip, zip}
use Rattle.ex_base.specs.declared.geometry.Geometry.{Geometry}
use Rattle.ex_base.specs.declared.names.Oid.{Oid}
use Rattle.ex_base.specs.declared.names.Place.{Place}
use Rattle.ex_base.proofs.Each.{split_each}
use Rattle.ex_base.proofs.Members.{In, from_flat, of_each}
use Rattle.op_log.specs.declared.record.LogRecord.{LogRecord}
use Rattle.slotted_pages.specs.FilePage.{Slot, FilePage}
use Rattle.file_index.specs.Index.{IsFilesPage}
use Rattle.trees.specs.Trees.{Units}
use Rattle.table_model.specs.Tables.{version_at}
use Rattle.version_lists.specs.declared.version.Version.{Version}
use Rattle.volume_model.specs.Parts.{HasBodies, HasIndex, HasPage, HasPages, bodies_from, bodies_in}
use Rattle.volume_model.specs.Volume.{Volume, table_of}
use Rattle.volume_edits.proofs.Contents.{at_beside}
use Rattle.volume_edits.proofs.Counted.{file_lies}
use Rattle.volume_edits.proofs.Finding.{found_or_not, row_stored}
use Rattle.session_core.specs.Finding.{IsOutOfRange}
use Rattle.volume_edits.proofs.Records.{OfVersion, record_of}
use Rattle.volume_model.proofs.Volumes.{Parts}

-- the place of a body on a page is on the page, in one of its slots
placed_from : (page slot : ℕ) (slots : List Slot) (row : Place × List ℕ) → In row (bodies_from page slot slots) → (row.0.page.0 ≡ page) × (row.0.slot < slot + length slots)
placed_from page slot [] row inside = absurd inside
placed_from page slot (None ∷ slots) row inside = let rest = placed_from page (suc slot) slots row inside in (rest.0, omega (arith, rest.1))
placed_from page slot (Some body ∷ slots) row (inl here) = (ap (λ (r : Place × List ℕ). r.0.page.0) here, omega (arith, ap (λ (r : Place × List ℕ). r.0.slot) here))
placed_from page slot (Some body ∷ slots) row (inr later) = let rest = placed_from page (suc slot) slots row later in (rest.0, omega (arith, rest.1))

-- what holds of a number and its page, found side by side
side_by_side : {A B : Type 0} (R : A → B → Type 0) (xs : List A) (ys : List B) (pair : A × B) → AllZip R xs ys → In pair (zip xs ys) → In pair.0 xs × R pair.0 pair.1
side_by_side R [] [] pair h inside = absurd inside
side_by_side R [] (y ∷ ys) pair h inside = absurd h
side_by_side R (x ∷ xs) [] pair h inside = absurd h
side_by_side R (x ∷ xs) (y ∷ ys) pair h (inl here) = (inl (ap (λ p. p.0) here), subst (λ p. R p.0 p.1) (sym here) h.0)
side_by_side R (x ∷ xs) (y ∷ ys) pair h (inr later) = let rest = side_by_side R xs ys pair h.1 later in (inr rest.0, rest.1)

module _ (g : Geometry) (records : List LogRecord) (units : Units) (v : Volume) (parts : Parts g records units v) where
  place_fits : {oid : Oid} {version : Version} (own : OfVersion units v oid version) → (oid.page.0 < 2 ^ 32) × (oid.slot < 2 ^ 16)
  place_fits {oid} own =
      let index = at_beside (HasIndex g units) v.catalog.entries v.files own.e own.f own.beside parts.1.0.0 in
      let pages = at_beside (HasPages units) v.catalog.entries v.files own.e own.f own.beside parts.1.1.0 in
      let bodies : HasBodies own.f = of_each HasBodies own.f v.files parts.1.1.1.0 own.file in
      let row = row_stored own.x (bodies_in own.f) own.f.stored bodies.records own.stored in
      let on = from_flat (λ (pair : ℕ × FilePage). bodies_from pair.0 0 pair.1.slots) row.0 (zip own.f.numbers own.f.pages) row.1 in
      let side = side_by_side (HasPage units own.e) own.f.numbers own.f.pages on.0 pages on.1 in
      let place = placed_from on.0.0 0 on.0.1.slots row.0 on.2 in
      let lies = of_each (IsFilesPage g) on.0.0 own.f.numbers (split_each (IsFilesPage g) own.f.numbers own.f.index_pages (file_lies g units own.e own.f index)).0 side.0 in
      let same_page : row.0.0.page.0 ≡ oid.page.0 = ap (λ (p : Place). p.page.0) row.2.0 ∙ ap (λ (o : Oid). o.page.0) own.named in
      let same_slot : row.0.0.slot ≡ oid.slot = ap (λ (p : Place). p.slot) row.2.0 ∙ ap (λ (o : Oid). o.slot) own.named in
      let room = side.1.0.fits.room in
      let size = side.1.0.fits.page in
      let few = g.few_pages in
      (omega (arith, lies.0.1, place.0, same_page, few), omega (arith, place.1, same_slot, room, size))

  pub none_out_of_range : (oid : Oid) → IsOutOfRange oid → version_at (table_of units v) oid ≡ None
  none_out_of_range oid out = elim (found_or_not (version_at (table_of units v) oid)) [
    | inl nothing ↦ nothing
    | inr some ↦ absurd (never (place_fits (record_of g records units v parts oid some.0 some.1)) out)
  ]
    where
      never : (oid.page.0 < 2 ^ 32) × (oid.slot < 2 ^ 16) → IsOutOfRange oid → ⊥
      never fits (inl page) = omega (arith, fits.0, page)
      never fits (inr slot) = omega (arith, fits.1, slot)
