-- What the volume decides of a version that a line names, as a session finds it.
use Rattle.std.proofs.Common.{◌≡◌, ◌∙◌, ◌+◌, ℕ, List, [], Option, Some, None, refl, sym, ap, nat_lt, nat_eq}
use Rattle.std.proofs.lemmas.Bool.{cond-true, lt-ltb}
use Rattle.std.specs.Prelude.{nat_le, is_none, ◌&&◌, unwrap_or, slice_index_or}
use Rattle.std.specs.Map.{lookup}
use Rattle.ex_base.specs.declared.names.Oid.{Oid}
use Rattle.ex_base.specs.declared.names.Root.{Root}
use Rattle.ex_base.specs.Area.{InPageArea, area_end, page_at, leaf_at}
use Rattle.slotted_pages.specs.FilePage.{Slot, body_of, room_of}
use Rattle.slotted_pages.specs.Edits.{slots_of}
use Rattle.object_records.specs.Record.{Content, Small, Large}
use Rattle.object_records.specs.Reads.{record_on}
use Rattle.session_views.specs.View.{View}
use Rattle.versions.specs.Versions.{record_len}
use Rattle.versions.specs.Found.{root_of, size_of}
use Rattle.versions.specs.declared.finding.Found.{Found}
use Rattle.volume_model.specs.Shown.{Held, laid_over_page}
use Rattle.volume_port.proofs.HeldCatalog.{laid_over_log}
use Rattle.session_core.specs.declared.session.objects.Named.{Named}
use Rattle.session_core.specs.Sessions.{SessionState}
use Rattle.session_core.specs.Meant.{held_view, units_held, slots_at, content_at, fits_small, height_of}
use Rattle.session_core.specs.Finding.{TellsVersion, held_image, content_named}
use Rattle.session_core.specs.Needs.{root_height, room_beside, fits_beside}

body_is : (slot : Slot) → unwrap_or slot [] ≡ body_of slot
body_is None = refl
body_is (Some body) = refl

-- the bytes of a page of the page area
pub unit_at : (v : View Held) (page : ℕ) → InPageArea v.session.geometry page → units_held v page ≡ held_image v.session v.disk page
unit_at v page lies =
    cond-true (nat_lt page (area_end v.session.geometry)) (laid_over_page (unwrap_or (lookup (nat_eq page) v.session.overlay) (page_at v.session.geometry v.disk page)) (page_at v.session.geometry v.disk page) (lookup (nat_eq page) v.session.working_pages)) (leaf_at v.session.geometry v.disk page) (lt-ltb page (area_end v.session.geometry) lies.1)
    ∙ laid_over_log (lookup (nat_eq page) v.session.working_pages) (lookup (nat_eq page) v.session.overlay) (page_at v.session.geometry v.disk page)

module _ (v : View Held) (oid : Oid) (lies : InPageArea v.session.geometry oid.page.0) where
  abbrev page : ℕ
  page = oid.page.0

  pub slots_here : slots_at v oid ≡ slots_of (held_image v.session v.disk page)
  slots_here = ap slots_of (unit_at v page lies)

  pub content_here : content_at v oid ≡ content_named v oid
  content_here =
      ap (λ (slots : List Slot). (record_on (unwrap_or (slice_index_or slots oid.slot None) [])).content) slots_here
      ∙ ap (λ (body : List ℕ). (record_on body).content) (body_is (slice_index_or (slots_of (held_image v.session v.disk page)) oid.slot None))

fits_as : (size room : ℕ) (slots : List Slot) (found : Found) (n : ℕ) (content : Content) → found.root ≡ root_of content → found.size ≡ size_of content → room ≡ room_of size slots
    → (is_none found.root && nat_le (record_len n) (record_len found.size + room)) ≡ fits_small size slots n content
fits_as size room slots found n (Small bytes) root held same = cc (root, held, same)
fits_as size room slots found n (Large tree) root held same = cc (root)

height_as : (root : Option Root) (content : Content) → root ≡ root_of content → root_height root ≡ height_of content
height_as root (Small bytes) is = ap root_height is
height_as root (Large tree) is = ap root_height is

-- whether it stays small, and its height, are as the pick has them
pub pick_small : (before : View SessionState) (version : Named) (n : ℕ) → TellsVersion before version.oid version.found
    → fits_beside before version n ≡ fits_small before.session.geometry.page_size (slots_at (held_view before) version.oid) n (content_at (held_view before) version.oid)
pick_small before version n told =
    let v = held_view before in
    let content = sym (content_here v version.oid told.lies) in
    fits_as before.session.geometry.page_size (room_beside before version.oid) (slots_at v version.oid) version.found n (content_at v version.oid) (told.root ∙ ap root_of content) (told.content ∙ ap size_of content)
    (ap (λ (slots : List Slot). room_of before.session.geometry.page_size slots) (sym (slots_here v version.oid told.lies)))

pub pick_height : (before : View SessionState) (version : Named) → TellsVersion before version.oid version.found → root_height version.found.root ≡ height_of (content_at (held_view before) version.oid)
pick_height before version told =
    let v = held_view before in
    height_as version.found.root (content_at v version.oid) (told.root ∙ ap root_of (sym (content_here v version.oid told.lies)))
