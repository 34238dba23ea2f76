-- Edits of a file at some of its places, one after the other.
use Rattle.std.proofs.Common.{◌≡◌, ◌≢◌, ℕ, Bool, true, false, List, [], ◌∷◌, ◌++◌, map, Option, Some, None, refl, sym, ap, subst, ◌∙◌}
use Rattle.std.specs.Prelude.{◌==◌, if◌then◌else◌}
use Rattle.ex_base.specs.declared.ground.Ground as ground
use Rattle.ex_base.specs.declared.names.PageNo.{PageNo}
use Rattle.ex_base.specs.declared.names.Place.{Place}
use Rattle.ex_base.specs.Area.{catalog_no}
use Rattle.ex_base.specs.Ports.{Keeps}
use Rattle.slotted_pages.specs.FilePage.{Slot}
use Rattle.object_files.specs.Catalog.{FileEntry, Catalog}
use Rattle.object_files.specs.Reads.{catalog_on}
use Rattle.object_files.specs.Edits.{indexed, with_entries}
use Rattle.ex_base.specs.declared.names.Index.{Index}
use Rattle.file_index.specs.Changes.{Changes}
use Rattle.file_index.proofs.Counts.{keeps_changes, changes_trans}
use Rattle.file_bodies.specs.Bodies.{bodies_of}
use Rattle.file_bodies.specs.Files.{HasFile, HasBody, EditsFile, all_pages, with_index}
use Rattle.file_bodies.proofs.Moving.{kept_file}
use Rattle.file_bodies.proofs.Ordered.{ordered}
use Rattle.version_tree.specs.Bodies.{body_at, PlaceChange, changed_at, EditsBodies}
use Rattle.version_tree.proofs.Places.{put_at, gone_at, changed_app, unchanged, body_there, there_body}

-- the index that is put last stands in the catalog
index_over : (es : List FileEntry) (f l m : ℕ) (r q : Option PageNo) → map (indexed f m q) (map (indexed f l r) es) ≡ map (indexed f m q) es
index_over [] f l m r q = refl
index_over (e ∷ es) f l m r q =
    ap (λ (t : FileEntry). t ∷ map (indexed f m q) (map (indexed f l r) es)) (by_test (e.file_no == f) refl)
    ∙ ap (λ (t : List FileEntry). indexed f m q e ∷ t) (index_over es f l m r q)
  where
    by_test : (b : Bool) → (e.file_no == f) ≡ b → indexed f m q (indexed f l r e) ≡ indexed f m q e
    by_test true is =
        let once : indexed f l r e ≡ record e { level = l; root = r } = ap (λ (b : Bool). if b then record e { level = l; root = r } else e) is in
        let over : indexed f m q (record e { level = l; root = r }) ≡ record e { level = m; root = q } = ap (λ (b : Bool). if b then record e { level = m; root = q } else record e { level = l; root = r }) is in
        ap (indexed f m q) once ∙ over ∙ sym (ap (λ (b : Bool). if b then record e { level = m; root = q } else e) is)
    by_test false is = ap (indexed f m q) (ap (λ (b : Bool). if b then record e { level = l; root = r } else e) is)

last_index : (c : Catalog) (mid after : Index) → after.file_no ≡ mid.file_no → with_index (with_index c mid) after ≡ with_index c after
last_index c mid after same =
    subst (λ (f : ℕ). with_entries c (map (indexed after.file_no after.level after.root) (map (indexed f mid.level mid.root) c.entries)) ≡ with_index c after) same
    (ap (with_entries c) (index_over c.entries after.file_no mid.level after.level mid.root after.root))

module _ {S : Type 0} (g : ground.Ghosts S) where
  edit_changes : (a b : S) (before after : Index) (place : Place) (was is : Slot) → EditsFile g a b before after place was is
      → ((other : Place) → body_at other (bodies_of (g.image b) after) ≡ changed_at ((place, is) ∷ []) other (body_at other (bodies_of (g.image a) before)))
      → EditsBodies g a b before after ((place, is) ∷ [])
  edit_changes a b before after place was is e bodies = record { file = e.file; same_file = e.same_file; bodies = bodies; catalog = e.catalog; pages = e.changes }

  -- a body that is put, or changed in its place
  pub edit_puts : (a b : S) (before after : Index) (place : Place) (was : Slot) (body : List ℕ) → EditsFile g a b before after place was (Some body)
      → EditsBodies g a b before after ((place, Some body) ∷ [])
  edit_puts a b before after place was body e =
      edit_changes a b before after place was (Some body) e (put_at (bodies_of (g.image a) before) (bodies_of (g.image b) after) place was body (ordered g b after e.file) e.bodies)

  -- a body that is taken out
  pub edit_removes : (a b : S) (before after : Index) (place : Place) (body : List ℕ) → HasFile g a before → EditsFile g a b before after place (Some body) None
      → EditsBodies g a b before after ((place, None) ∷ [])
  edit_removes a b before after place body file e =
      edit_changes a b before after place (Some body) None e (gone_at (bodies_of (g.image a) before) (bodies_of (g.image b) after) place body (ordered g a before file) e.bodies)

  -- one edit after another
  pub bodies_then : (a b c : S) (before mid after : Index) (first next : List PlaceChange) → EditsBodies g a b before mid first → EditsBodies g b c mid after next
      → EditsBodies g a c before after (next ++ first)
  bodies_then a b c before mid after first next e f = record {
    file = f.file;
    same_file = f.same_file ∙ e.same_file;
    bodies = λ place. f.bodies place ∙ ap (changed_at next place) (e.bodies place) ∙ sym (changed_app next first place (body_at place (bodies_of (g.image a) before)));
    catalog = f.catalog ∙ ap (λ (t : Catalog). with_index t after) e.catalog ∙ last_index (catalog_on (g.image a catalog_no)) mid after f.same_file;
    pages = changes_trans g a b c (catalog_no ∷ all_pages (g.image a) before) (catalog_no ∷ all_pages (g.image b) mid) (catalog_no ∷ all_pages (g.image c) after) e.pages f.pages;
  }

  -- a state that keeps everything, before an edit or behind it
  pub keeps_bodies : (a b c : S) (before after : Index) (changes : List PlaceChange) → Keeps g a b → EditsBodies g b c before after changes → EditsBodies g a c before after changes
  keeps_bodies a b c before after changes kept e = record {
    file = e.file;
    same_file = e.same_file;
    bodies = subst (λ (f : ℕ → List ℕ). (place : Place) → body_at place (bodies_of (g.image c) after) ≡ changed_at changes place (body_at place (bodies_of f before))) kept.images e.bodies;
    catalog = subst (λ (f : ℕ → List ℕ). catalog_on (g.image c catalog_no) ≡ with_index (catalog_on (f catalog_no)) after) kept.images e.catalog;
    pages = changes_trans g a b c (catalog_no ∷ all_pages (g.image a) before) (catalog_no ∷ all_pages (g.image a) before) (catalog_no ∷ all_pages (g.image c) after)
        (keeps_changes g a b (catalog_no ∷ all_pages (g.image a) before) kept)
        (subst (λ (f : ℕ → List ℕ). Changes g b c (catalog_no ∷ all_pages f before) (catalog_no ∷ all_pages (g.image c) after)) kept.images e.pages);
  }

  pub bodies_keep : (a b c : S) (before after : Index) (changes : List PlaceChange) → EditsBodies g a b before after changes → Keeps g b c → EditsBodies g a c before after changes
  bodies_keep a b c before after changes e kept = record {
    file = kept_file g b c after kept e.file;
    same_file = e.same_file;
    bodies = subst (λ (f : ℕ → List ℕ). (place : Place) → body_at place (bodies_of f after) ≡ changed_at changes place (body_at place (bodies_of (g.image a) before))) (sym kept.images) e.bodies;
    catalog = subst (λ (f : ℕ → List ℕ). catalog_on (f catalog_no) ≡ with_index (catalog_on (g.image a catalog_no)) after) (sym kept.images) e.catalog;
    pages = changes_trans g a b c (catalog_no ∷ all_pages (g.image a) before) (catalog_no ∷ all_pages (g.image b) after) (catalog_no ∷ all_pages (g.image c) after)
        e.pages
        (subst (λ (f : ℕ → List ℕ). Changes g b c (catalog_no ∷ all_pages (g.image b) after) (catalog_no ∷ all_pages f after)) (sym kept.images) (keeps_changes g b c (catalog_no ∷ all_pages (g.image b) after) kept));
  }

  -- what stands at a place after changes stands there in the file
  pub changed_body : (a b : S) (before after : Index) (changes : List PlaceChange) (place : Place) (was body : List ℕ) → EditsBodies g a b before after changes → HasBody g a before place was
      → changed_at changes place (Some was) ≡ Some body → HasBody g b after place body
  changed_body a b before after changes place was body e has is =
      there_body g b after place body e.file (e.bodies place ∙ ap (changed_at changes place) (body_there g a before place was has) ∙ is)

  -- a body at another place stays
  pub other_body : (a b : S) (before after : Index) (at : Place) (s : Slot) (place : Place) (body : List ℕ) → EditsBodies g a b before after ((at, s) ∷ []) → at ≢ place → HasBody g a before place body → HasBody g b after place body
  other_body a b before after at s place body e differ has = changed_body a b before after ((at, s) ∷ []) place body body e has (unchanged at place s (Some body) differ)
