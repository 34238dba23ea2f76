-- How far the rows of a file are listed.
use Rattle.std.proofs.Common.{◌≡◌, ◌≤◌, ◌+◌, ℕ, List, [], ◌∷◌, ◌++◌, Option, Some, None, refl, sym, subst}
use Rattle.ex_base.specs.declared.ground.Ground as ground
use Rattle.ex_base.specs.declared.names.Place.{Place}
use Rattle.ex_base.specs.Ports.{Keeps, times}
use Rattle.ex_base.proofs.Counts.{contains_times}
use Rattle.slotted_pages.specs.Reads.{IsPage}
use Rattle.slotted_pages.specs.Edits.{slots_of}
use Rattle.object_records.specs.Record.{Record, BodyOf}
use Rattle.ex_base.specs.declared.names.Index.{Index}
use Rattle.file_index.specs.Index.{IsFilesPage}
use Rattle.file_index.proofs.Picking.{rises_of}
use Rattle.file_bodies.specs.Bodies.{Row, bodies_of, pages_in}
use Rattle.file_bodies.specs.Damage.{HasListed, IsLook, page_from, page_in}
use Rattle.file_bodies.specs.Files.{HasFile, HasBody}
use Rattle.file_bodies.specs.Places.{IsFirstFrom, FirstFrom, IsNext}
use Rattle.file_bodies.proofs.Blame.{carried}
use Rattle.file_bodies.proofs.Moving.{kept_file, lies}
use Rattle.file_bodies.proofs.Slots.{page_of}
use Rattle.file_bodies.proofs.Ordered.{ordered}
use Rattle.versions.specs.Damage.{ComesNext, IsWalkedOut, IsWalkedTo, at_front}
use Rattle.versions.specs.Listed.{rank_of, rows_on, start_rank, AreReadable}
use Rattle.versions.proofs.FileRows.{InRows, in_mid, row_stands}
use Rattle.versions.proofs.PageRows.{PageCut, few_slots, live_within, on_page, page_cut, page_listed}
use Rattle.versions.proofs.RowsListed.{Gathers, IsShort, IsListed, key_of, slot_of, none_listed, next_listed, all_listed, next_rank, at_mid}

-- the first row from there on, as the record says it
next_first : (rows : List Row) (after : Option Place) (place : Place) → IsNext rows after (Some place) → IsFirstFrom rows (key_of after) (slot_of after) place
next_first rows None place next = next
next_first rows (Some p) place next = next

none_next : (rows : List Row) (after : Option Place) → IsNext rows after None → FirstFrom rows (key_of after) (slot_of after) None
none_next rows None next = next
none_next rows (Some p) next = next

module _ {S : Type 0} (g : ground.Ghosts S) where
  -- the place that comes next in a state with the same meanings
  pub comes_next : (a b : S) (file_no : ℕ) (after next : Option Place) (place : Place) → Keeps g a b
      → (g.tells b → HasListed (g.image b) file_no (λ index. IsLook (g.geometry b) (g.image b) index (page_from after) (page_in next))) → next ≡ Some place → g.tells a → ComesNext (g.geometry a) (g.image a) file_no after place
  comes_next a b file_no after next place kept h is told =
      subst (λ (o : Option Place). HasListed (g.image a) file_no (λ index. IsLook (g.geometry a) (g.image a) index (page_from after) (page_in o))) is
      (carried g a b (λ y u. HasListed u file_no (λ index. IsLook y u index (page_from after) (page_in next))) kept h told)

  -- no place comes next in a state with the same meanings
  pub walked_out : (a b : S) (file_no : ℕ) (after next : Option Place) → Keeps g a b → (g.tells a → IsWalkedTo (g.geometry a) (g.image a) file_no after)
      → (g.tells b → HasListed (g.image b) file_no (λ index. IsLook (g.geometry b) (g.image b) index (page_from after) (page_in next))) → next ≡ None → g.tells a → IsWalkedOut (g.geometry a) (g.image a) file_no
  walked_out a b file_no after next kept walked h is told = record {
    last = after;
    walked = walked told;
    ends = subst (λ (o : Option Place). HasListed (g.image a) file_no (λ index. IsLook (g.geometry a) (g.image a) index (page_from after) (page_in o))) is
        (carried g a b (λ y u. HasListed u file_no (λ index. IsLook y u index (page_from after) (page_in next))) kept h told);
  }

  -- Up to a place the rows of the file are listed, in a state with the same meanings.
  pub record ListedTo {A : Type 0} (of : List Row → List A) (a b : S) (file_no : ℕ) (after : Option Place) (items : List A) : Type 0 where
    pub kept : Keeps g a b
    pub short : IsShort after
    pub listed : g.tells a → (index : Index) → HasFile g a index → index.file_no ≡ file_no → IsListed of (bodies_of (g.image a) index) (key_of after) (slot_of after) items
    pub walked : g.tells a → IsWalkedTo (g.geometry a) (g.image a) file_no after

  pub listed_none : {A : Type 0} (of : List Row → List A) → Gathers of → (a : S) (file_no : ℕ) → ListedTo of a a file_no None []
  listed_none of gathers a file_no = record { kept = record { units = refl; images = refl; used = refl; refs = refl; held = refl; free = refl; touched = refl; leads = g.leads_refl a }; short = tt; listed = λ told index file is. none_listed of gathers (bodies_of (g.image a) index); walked = λ told. at_front }

  module _ {A : Type 0} (of : List Row → List A) (a b : S) (file_no : ℕ) (after : Option Place) (items : List A) (to : ListedTo of a b file_no after items) (told : g.tells a) (index : Index) (file : HasFile g a index) (is : index.file_no ≡ file_no) where
    pub told_b : g.tells b
    told_b = g.leads_told a b to.kept.leads told

    pub file_b : HasFile g b index
    file_b = kept_file g a b index to.kept file

    same_rows : (o : Option Place) → IsNext (bodies_of (g.image b) index) after o → IsNext (bodies_of (g.image a) index) after o
    same_rows o = subst (λ (f : ℕ → List ℕ). IsNext (bodies_of f index) after o) to.kept.images

    pub done : IsNext (bodies_of (g.image b) index) after None → items ≡ of (bodies_of (g.image a) index)
    done next = all_listed of (bodies_of (g.image a) index) (key_of after) (slot_of after) items (to.listed told index file is) (none_next (bodies_of (g.image a) index) after (same_rows None next))

    module _ (place : Place) (next : IsNext (bodies_of (g.image b) index) after (Some place)) where
      pub first : IsFirstFrom (bodies_of (g.image a) index) (key_of after) (slot_of after) place
      first = next_first (bodies_of (g.image a) index) after place (same_rows (Some place) next)

      pub stands : HasBody g a index place first.body
      stands = row_stands g a index place first.body file (subst (λ (rows : List Row). InRows rows (place, first.body)) (sym first.is) (in_mid first.front first.back (place, first.body)))

      pub rises : start_rank after ≤ rank_of place
      rises = next_rank after place to.short first.reached

      pub readable : AreReadable (bodies_of (g.image a) index) → (r : Record) × BodyOf first.body r
      readable all = at_mid (λ (row : Row). (r : Record) × BodyOf row.1 r) first.front (place, first.body) first.back (subst AreReadable first.is all)

      pub one_more : Gathers of → IsListed of (bodies_of (g.image a) index) place.page.0 (place.slot + 1) (items ++ of ((place, first.body) ∷ []))
      one_more gathers = next_listed of gathers (bodies_of (g.image a) index) (key_of after) (slot_of after) items place first (ordered g a index file) (to.listed told index file is)

      named : 1 ≤ times place.page.0 (pages_in (g.image a) index)
      named = contains_times place.page.0 (pages_in (g.image a) index) stands.named

      pub area : IsFilesPage (g.geometry a) place.page.0
      area = lies g a index place.page.0 file named

      pub spelled : IsPage (g.image a place.page.0)
      spelled = (page_of g a index place.page.0 file named).spelled

      cut : PageCut (g.image a) (pages_in (g.image a) index) place.page.0 place.slot
      cut = page_cut (g.image a) (pages_in (g.image a) index) place.page.0 place.slot (rises_of (pages_in (g.image a) index) file.whole.rising) named
          (live_within (slots_of (g.image a place.page.0)) place.slot first.body stands.stands) (few_slots (g.image a place.page.0) spelled)

      pub readable_here : AreReadable (bodies_of (g.image a) index) → AreReadable (rows_on place.page.0 place.slot (slots_of (g.image a place.page.0)))
      readable_here all = on_page (λ (row : Row). (r : Record) × BodyOf row.1 r) (g.image a) (pages_in (g.image a) index) place.page.0 place.slot cut all

      pub page_more : Gathers of → IsListed of (bodies_of (g.image a) index) place.page.0 65536 (items ++ of (rows_on place.page.0 place.slot (slots_of (g.image a place.page.0))))
      page_more gathers = page_listed of gathers (g.image a) (pages_in (g.image a) index) (key_of after) (slot_of after) items place first (ordered g a index file) cut (to.listed told index file is)
