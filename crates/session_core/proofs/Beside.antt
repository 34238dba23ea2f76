-- The room beside the record of a version, as a port over a session that shows tells it.
use Rattle.std.proofs.Common.{◌≡◌, ◌∙◌, ℕ, List, Result, Ok, Err, sym, ap}
use Rattle.std.proofs.lemmas.Result.{IfErr-weaker}
use Rattle.std.specs.Prelude.{IfOk, IfErr, OnOk}
use Rattle.ex_base.specs.declared.ground.Ground as ground
use Rattle.ex_base.specs.declared.geometry.Geometry.{Geometry}
use Rattle.ex_base.specs.declared.faults.PortFault.{PortFault}
use Rattle.ex_base.specs.declared.names.Oid.{Oid}
use Rattle.ex_base.specs.Area.{InPageArea}
use Rattle.ex_base.specs.Ports.{IsDamage}
use Rattle.slotted_pages.specs.FilePage.{FilePage, SlotsOf, room_of}
use Rattle.slotted_pages.specs.Edits.{slots_of}
use Rattle.slotted_pages.specs.Reads.{IsPage}
use Rattle.slotted_pages.proofs.PageLaws.{page_read_is}
use Rattle.file_bodies.specs.Files.{IsOfFile}
use Rattle.file_bodies.proofs.Belonging.{of_page}
use Rattle.object_records.specs.Record.{Record}
use Rattle.disk_model.specs.Outside.{Outside}
use Rattle.session_views.specs.View.{View, ShowsNow}
use Rattle.session_core.specs.Sessions.{SessionState}
use Rattle.session_core.specs.Meant.{meant}
use Rattle.session_core.specs.Finding.{PortShows, IfLive, IfShown}
use Rattle.session_core.specs.Needs.{room_beside}
use Rattle.session_core.proofs.Finding.{page_lies, reads_live}

-- what a view of a page tells
pub room_told : (size room : ℕ) (page image : List ℕ) (p : FilePage) → room ≡ room_of size p.slots → SlotsOf page p → page ≡ image → room ≡ room_of size (slots_of image)
room_told size room page image p is spelled same =
    is ∙ ap (λ (q : FilePage). room_of size q.slots) (sym (page_read_is page p spelled)) ∙ ap (λ (bytes : List ℕ). room_of size (slots_of bytes)) same

-- no damage for a view in which the version is live
pub error_live : {T : Type 0} (w : Outside) (old : SessionState) (oid : Oid) (result : Result T PortFault)
    → ((before : View SessionState) → before.session ≡ old → ShowsNow meant w before → IfLive before oid (λ bytes. IfErr result (λ fault. IsDamage fault → ⊥)))
    → IfErr result (λ fault. IfShown w old (λ before. IfLive before oid (λ bytes. IsDamage fault → ⊥)))
error_live w old oid (Ok x) each = tt
error_live w old oid (Err fault) each = each

module _ {S : Type 0} (g : ground.Ghosts S) (s : S) {before : View SessionState} (shows : PortShows g s before) where
  pub beside : (oid : Oid) (room : ℕ) → InPageArea (g.geometry s) oid.page.0 → room ≡ room_of (g.geometry s).page_size (slots_of (g.image s oid.page.0)) → room ≡ room_beside before oid
  beside oid room lies is =
      is ∙ ap (λ (h : Geometry). room_of h.page_size (slots_of (g.image s oid.page.0))) shows.geometry
      ∙ ap (λ (bytes : List ℕ). room_of before.session.geometry.page_size (slots_of bytes)) (shows.image oid.page.0 lies)

  pub room_is : (oid : Oid) (result : Result ℕ PortFault) → IfOk result (λ room. g.tells s → room ≡ room_of (g.geometry s).page_size (slots_of (g.image s oid.page.0))) → OnOk result (InPageArea (g.geometry s) oid.page.0)
      → IfOk result (λ room. room ≡ room_beside before oid)
  room_is oid (Ok room) told lies = beside oid room lies (told shows.tells)
  room_is oid (Err fault) told lies = tt

  -- a page with a live version is one of a file
  pub room_sound : (oid : Oid) (result : Result ℕ PortFault) → IfErr result (λ fault. IsDamage fault → g.tells s → InPageArea (g.geometry s) oid.page.0 → IsPage (g.image s oid.page.0) → ⊥)
      → IfLive before oid (λ bytes. IfErr result (λ fault. IsDamage fault → ⊥))
  room_sound oid result sound version is =
      let reads = reads_live g s shows oid version is in
      let record_is : Record = record { head = reads.head; content = reads.content } in
      let of : IsOfFile g s oid.page.0 = record { index = reads.index; file = reads.stored.stands.file; named = reads.stored.stands.named } in
      IfErr-weaker result _ _ (λ fault sound damage. sound damage shows.tells (page_lies g s shows reads.index oid record_is reads.stored) (of_page g s oid.page.0 of)) sound
