-- From the entries of an index page to the entry that a key leads to, its page, and back.
use Rattle.std.proofs.Common.{◌≡◌, ◌≤◌, ◌+◌, ◌/◌, ℕ, suc, true, List, [], ◌∷◌, ◌++◌, length, take, drop, Option, Some, refl, sym, ap, subst, arith}
use Rattle.std.specs.Prelude.{slice_index_or, option_to_list}
use Rattle.ex_base.specs.declared.ground.Ground as ground
use Rattle.ex_base.specs.declared.geometry.Geometry.{Geometry}
use Rattle.ex_base.specs.Ports.{Keeps}
use Rattle.ex_base.proofs.Counts.{times_here}
use Rattle.file_index.specs.declared.Entry.{Entry}
use Rattle.file_index.specs.IndexPage.{entries_on, most_entries}
use Rattle.file_index.specs.Changes.{Changes}
use Rattle.file_index.specs.Index.{IsFilesPage, IsNamed}
use Rattle.file_index.specs.Nodes.{heads, first_key, Stored, IsPlace}
use Rattle.file_index.specs.Edits.{IsRow, Becomes}
use Rattle.file_index.proofs.Closing.{row_rises}
use Rattle.file_index.proofs.Lists.{IsLocal}
use Rattle.file_index.proofs.Placing.{Placed, placed, replaced_at}
use Rattle.file_index.proofs.Rewriting.{open_row}
use Rattle.file_index.proofs.Stepping.{Child, child_row, child_held, child_written, child_same, news}

pub first_key_is : (es : List Entry) (e : Entry) → 1 ≤ length es → e ≡ slice_index_or es 0 e → e.key ≡ first_key es
first_key_is [] e some item = absurd (omega arith)
first_key_is (x ∷ es) e some item = ap (λ (y : Entry). y.key) item

module _ {S : Type 0} (g : ground.Ghosts S) (a : S) (file_no l m key : ℕ) (entries : List Entry) (at : ℕ) (child : Entry) (step : suc m ≡ l) (place : IsPlace key entries at) (item : child ≡ slice_index_or entries at child) where
  here : IsRow g a file_no l entries → Placed g a file_no l key entries at child
  here row = placed g a file_no l key entries at child place item row

  -- a page that isn't what its entry says is no part of a whole index
  pub never_read : (IsFilesPage (g.geometry a) child.page.0 → g.held a child.page.0 ≡ true → IsNamed (g.geometry a).page_size (g.image a child.page.0) l file_no (Some child.key) → ⊥) → IsRow g a file_no l entries → ⊥
  never_read never row =
      let o = open_row g a file_no m l (child ∷ []) step (here row).row in
      never o.named.0.0 (o.held child.page.0 (omega (arith, times_here child.page.0 child.page.0 [] refl))) o.named.0.1

  module _ (b : S) (es : List Entry) (kept : Keeps g a b) (read : es ≡ entries_on (g.image a child.page.0)) where
    child_is : IsRow g a file_no l entries → Child g a b file_no l m child es
    child_is row = record { step = step; row = (here row).row; kept = kept; read = read }

    pub row_below : IsRow g a file_no l entries → IsRow g b file_no m es
    row_below row = child_row g a b file_no l m child es (child_is row)

    -- the entries below stay
    pub stays_below : (c : S) (edit : List ℕ → List ℕ) (N : List Entry) → IsLocal key edit → IsRow g a file_no l entries → Becomes g b c file_no m edit es N → N ≡ es → Becomes g a c file_no l edit entries entries
    stays_below c edit N local row below same =
        let becomes = child_same g a b c file_no l m edit child es (child_is row) (subst (λ (t : List Entry). Becomes g b c file_no m edit es t) same below) in
        replaced_at g a file_no l c key edit entries (child ∷ []) entries at child local row (here row) becomes (here row).is

    pub held_below : (c : S) (edit : List ℕ → List ℕ) (N : List Entry) → IsRow g a file_no l entries → Becomes g b c file_no m edit es N → g.held c child.page.0 ≡ true
    held_below c edit N row below = child_held g a b c file_no l m edit child es N (child_is row) below

    -- they were written over the child's page, or that and a second one
    pub written_below : (c d : S) (edit : List ℕ → List ℕ) (N now : List Entry) (first : Entry) (second : Option Entry) → IsLocal key edit → IsRow g a file_no l entries → Becomes g b c file_no m edit es N
        → Changes g c d (child.page.0 ∷ []) (child.page.0 ∷ heads (option_to_list second)) → Stored g d child.page.0 l file_no N second → most_entries (g.geometry a).page_size / 2 ≤ length N
        → first.page.0 ≡ child.page.0 → first.key ≡ first_key N → now ≡ take at entries ++ ((first ∷ option_to_list second) ++ drop (at + 1) entries) → Becomes g a d file_no l edit entries now
    written_below c d edit N now first second local row below changes stored half same_page same_key is =
        let leads = g.leads_trans a b d kept.leads (g.leads_trans b c d below.changes.leads changes.leads) in
        let enough : most_entries (g.geometry d).page_size / 2 ≤ length N = subst (λ (y : Geometry). most_entries y.page_size / 2 ≤ length N) (sym (g.leads_geometry a d leads)) half in
        let n = news g d child.page.0 l file_no first second N stored (row_rises g c file_no m N below.row) enough same_page same_key in
        let becomes = child_written g a b c d file_no l m edit child first second es N (child_is row) below changes same_page n in
        replaced_at g a file_no l d key edit entries (first ∷ option_to_list second) now at child local row (here row) becomes is
