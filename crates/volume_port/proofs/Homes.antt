-- A logged page after it was read.
use Rattle.std.proofs.Common.{◌≡◌, ◌≤◌, ◌<◌, ℕ, List, length, All, Option, Some, None, Result, Ok, Err, slice_get, slice_set, MatchOption, MatchResult, sym, subst}
use Rattle.ex_base.specs.Area.{catalog_no}
use Rattle.buffer_groups.specs.Frames.{Frames, Brought, NotBrought}
use Rattle.buffer_groups.proofs.GroupLists.{at_index}
use Rattle.std.proofs.lemmas.List.Elements.{All-set}
use Rattle.tree_store.proofs.Forgetting.{frame_brought, frame_not_brought}
use Rattle.tree_store.specs.Stored.{AreFromCatalog}

-- ---- no frame is of the superblock or the log

abbrev IsFromCatalog : Frames → Type 0
IsFromCatalog f = All (λ (e : ℕ × List ℕ). catalog_no ≤ e.0) f.entries

-- after a page with an image was lent, or one that has none was brought
pub frame_after : {T E : Type 0} (disk : Option (List ℕ)) (f h : Frames) (page : ℕ) (o : Option (List ℕ)) (r : Result T E) (bytes : T → List ℕ) → catalog_no ≤ page
    → MatchOption o (MatchResult r (λ s. Brought disk f h page (bytes s)) (λ _. NotBrought f h page)) (λ _. h ≡ f) → IsFromCatalog f → IsFromCatalog h
frame_after disk f h page None (Ok s) bytes le brought all = frame_brought disk f h page (bytes s) le brought all
frame_after disk f h page None (Err e) bytes le none all = frame_not_brought f h page none all
frame_after disk f h page (Some image) r bytes le same all = subst IsFromCatalog (sym same) all

pub behind_set : (gs : List Frames) (index : ℕ) (f h : Frames) → slice_get gs index ≡ Some f → index < length gs → (IsFromCatalog f → IsFromCatalog h) → AreFromCatalog gs → AreFromCatalog (slice_set gs index h)
behind_set gs index f h is lt step all = All-set IsFromCatalog gs index h (step (at_index IsFromCatalog gs index f is lt all)) all
