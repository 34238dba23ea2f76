-- A body on a page that is new in its file.
use Rattle.std.proofs.Common.{◌≡◌, ◌≤◌, ◌+◌, ◌-◌, ℕ, true, List, [], ◌∷◌, length, Option, Some, None, refl, sym, ap, subst, ◌∙◌, arith, inr}
use Rattle.std.specs.Prelude.{IfSome, nat_le}
use Rattle.std.proofs.lemmas.Bool.Decides.{nat_tests}
use Rattle.ex_base.specs.declared.ground.Ground as ground
use Rattle.ex_base.specs.declared.geometry.Geometry.{Geometry}
use Rattle.ex_base.specs.declared.names.Area.TheVariants.{Segment}
use Rattle.ex_base.specs.Area.{catalog_no}
use Rattle.ex_base.specs.Ports.{TakesPage}
use Rattle.slotted_pages.specs.FilePage.{Slot, FilePage, SlotsOf}
use Rattle.slotted_pages.specs.Reads.{page_on}
use Rattle.slotted_pages.specs.Edits.{slots_of, with_slot, with_slots, place_for}
use Rattle.ex_base.specs.declared.names.Index.{Index}
use Rattle.file_index.specs.Edits.{EditsIndex, put_in}
use Rattle.object_files.specs.Edits.{IsCatalogPage}
use Rattle.file_bodies.specs.Bodies.{place_at}
use Rattle.file_bodies.specs.Files.{index_at, HasFile, EditsFile}
use Rattle.file_bodies.specs.Indexes.{SetsIndex}
use Rattle.file_bodies.specs.Places.{slot_for, PlacesBody, PutsBody}
use Rattle.file_bodies.specs.Placing.{NoneFrom}
use Rattle.file_bodies.proofs.Pages.{slots_are}
use Rattle.file_bodies.proofs.Indexing.{reindexed, catalog_stays, taken_held, taken_index, taken_catalog, taken_edits}
use Rattle.slotted_pages.proofs.PageLaws.{page_read_is}

-- the first body of a page
abbrev pub first_page : ℕ → List ℕ → FilePage
first_page file_no body = record { file_no = file_no; slots = Some body ∷ [] }

placed_first : (size len : ℕ) → len + 20 ≤ size → place_for size [] len ≡ Some 0
placed_first size len fits =
    let test : nat_le (len + 4) (size - 16) ≡ true = grind (arith, nat_tests) in
    rw test refl

pub first_placed : (e content body : List ℕ) (file_no size : ℕ) (r : Option ℕ) → SlotsOf e (record { file_no = file_no; slots = [] }) → length e ≡ size → length body + 20 ≤ size → r ≡ place_for (length e) (slots_of e) (length body)
    → IfSome r (λ slot. SlotsOf content (with_slots (page_on e) (with_slot (slots_of e) slot (Some body)))) → SlotsOf content (first_page file_no body)
first_placed e content body file_no size r empty len fits is placed =
    let slots : slots_of e ≡ [] = slots_are e (record { file_no = file_no; slots = [] }) empty in
    let first : r ≡ Some 0 = is ∙ ap (λ (n : ℕ). place_for n (slots_of e) (length body)) len ∙ ap (λ (t : List Slot). place_for size t (length body)) slots ∙ placed_first size (length body) fits in
    let at : SlotsOf content (with_slots (page_on e) (with_slot (slots_of e) 0 (Some body))) = subst (λ (o : Option ℕ). IfSome o (λ slot. SlotsOf content (with_slots (page_on e) (with_slot (slots_of e) slot (Some body))))) first placed in
    subst (λ (p : FilePage). SlotsOf content (with_slots p (with_slot p.slots 0 (Some body)))) (page_read_is e (record { file_no = file_no; slots = [] }) empty) at

module _ {S : Type 0} (g : ground.Ghosts S) (a b c : S) (index after : Index) (p : ℕ) (content : List ℕ) (file : HasFile g a index) (take : TakesPage g a b p content) (told : g.tells a) (leads : g.leads a b) (leaves : g.free b Segment ≡ g.free a Segment)
    (e : EditsIndex g b c (put_in p) index after) where
  catalog_c : g.image c catalog_no ≡ g.image a catalog_no
  catalog_c = catalog_stays g b c (put_in p) index after e (taken_index g a b c index after p content file take told leads leaves).whole (taken_held g a b c index after p content file take told leads leaves)
      ∙ taken_catalog g a b c index after p content file take told leads leaves

  -- the catalog still has the file's old index
  pub still_catalog : IsCatalogPage (g.image c catalog_no)
  still_catalog = subst IsCatalogPage (sym catalog_c) file.catalog.whole

  pub still_entry : index_at (g.image c) index.file_no ≡ Some index
  still_entry = subst (λ (t : List ℕ). index_at (λ (q : ℕ). t) index.file_no ≡ Some index) (sym catalog_c) file.entry

  fresh_edit : (d : S) (body : List ℕ) → SetsIndex g c d after → SlotsOf content (first_page index.file_no body) → EditsFile g a d index after (place_at p 0) None (Some body)
  fresh_edit d body sets spelled =
      let r = reindexed g b c d (put_in p) index after (taken_index g a b c index after p content file take told leads leaves) (taken_held g a b c index after p content file take told leads leaves) e sets in
      taken_edits g a b d index after p content file take told leads leaves r (first_page index.file_no body) body spelled refl refl

  pub fresh_puts : (d : S) (body : List ℕ) → SetsIndex g c d after → SlotsOf content (first_page index.file_no body) → PutsBody g a d index (place_at p 0) body
  fresh_puts d body sets spelled = record {
    after = after;
    edit = fresh_edit d body sets spelled;
    vacant = inr (record { taken = take.was_not_held; slot = refl });
  }

  pub fresh_placed : (d : S) (body : List ℕ) → SetsIndex g c d after → SlotsOf content (first_page index.file_no body) → NoneFrom g a index (length body) 0 → PlacesBody g a d index (place_at p 0) body
  fresh_placed d body sets spelled none =
      let edit = fresh_edit d body sets spelled in
      record {
        after = after;
        edit = edit;
        chosen = inr (record { none = λ page named. none page named (omega arith); taken = take.was_not_held; slot = refl });
        below = λ page named low high.
            let old = edit.others page (λ same. absurd (omega arith)) named in
            let same : slot_for g d page (length body) ≡ slot_for g a page (length body) =
            ap (λ (y : Geometry). place_for y.page_size (slots_of (g.image d page)) (length body)) (g.leads_geometry a d edit.changes.leads) ∙ ap (λ (t : List ℕ). place_for (g.geometry a).page_size (slots_of t) (length body)) old.1 in
            same ∙ none page old.0 (omega arith);
      }
