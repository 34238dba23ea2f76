-- The pages of a file and the bodies on them, as a port reads them.
use Rattle.std.proofs.Common.{◌≡◌, ℕ, suc, List, [], ◌∷◌, Some, None, refl, sym, subst, ◌∙◌}
use Rattle.std.specs.Prelude.{map}
use Rattle.std.specs.List.{flat_map, AllByRecursion, AllZip, zip}
use Rattle.ex_base.specs.declared.geometry.Geometry.{Geometry}
use Rattle.slotted_pages.specs.FilePage.{FilePage, Slot, SlotsOf}
use Rattle.slotted_pages.specs.Reads.{page_on}
use Rattle.file_index.specs.Index.{IsFilesPage}
use Rattle.file_bodies.specs.Bodies.{bodies_on}
use Rattle.file_bodies.specs.Bodies as rows
use Rattle.file_bodies.specs.Files.{IsPageOf}
use Rattle.object_files.specs.Catalog.{FileEntry}
use Rattle.trees.specs.Trees.{Units}
use Rattle.trees.proofs.SameUnits.{Kept}
use Rattle.volume_model.specs.Parts.{HasPage, bodies_from}

pub same_bodies : (page slot : ℕ) (slots : List Slot) → bodies_from page slot slots ≡ rows.bodies_from page slot slots
same_bodies page slot [] = refl
same_bodies page slot (None ∷ slots) = same_bodies page (suc slot) slots
same_bodies page slot (Some body ∷ slots) = let rest = same_bodies page (suc slot) slots in cc rest

pub bodies_read : (image : ℕ → List ℕ) (keys : List ℕ) → flat_map (λ (row : ℕ × FilePage). bodies_from row.0 0 row.1.slots) (zip keys (map (λ (n : ℕ). page_on (image n)) keys)) ≡ flat_map (bodies_on image) keys
bodies_read image [] = refl
bodies_read image (k ∷ keys) =
    let here = same_bodies k 0 (page_on (image k)).slots in
    let rest = bodies_read image keys in
    cc (here, rest)

-- ---- the pages of a file

pub own_pages : (image units : ℕ → List ℕ) (g : Geometry) (entry : FileEntry) (file_no : ℕ) (keys : List ℕ) → file_no ≡ entry.file_no → ((p : ℕ) → IsFilesPage g p → units p ≡ image p) → AllByRecursion (λ page. IsPageOf file_no (image page)) keys → AllByRecursion (IsFilesPage g) keys
    → AllZip (HasPage units entry) keys (map (λ (n : ℕ). page_on (image n)) keys)
own_pages image units g entry file_no [] number same pages lie = tt
own_pages image units g entry file_no (k ∷ keys) number same pages lie = (
  (subst (λ (bytes : List ℕ). SlotsOf bytes (page_on (image k))) (sym (same k lie.0)) pages.0.spelled, pages.0.some, pages.0.number ∙ number),
  own_pages image units g entry file_no keys number same pages.1 lie.1,
)

pub pages_kept : (old new : Units) (entry : FileEntry) (numbers : List ℕ) (pages : List FilePage) → Kept old new numbers → AllZip (HasPage old entry) numbers pages → AllZip (HasPage new entry) numbers pages
pages_kept old new entry [] [] kept h = tt
pages_kept old new entry [] (p ∷ pages) kept h = h
pages_kept old new entry (page ∷ numbers) [] kept h = h
pages_kept old new entry (page ∷ numbers) (p ∷ pages) kept h =
    ((subst (λ (bytes : List ℕ). SlotsOf bytes p) (sym kept.0) h.0.0, h.0.1, h.0.2), pages_kept old new entry numbers pages kept.1 h.1)
