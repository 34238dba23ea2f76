-- The catalog as a session reads it.
use Rattle.std.specs.Prelude.{◌≡◌, ℕ, List, All, Some, unwrap_or, ⊤}
use Rattle.ex_base.specs.declared.geometry.Geometry.{Geometry}
use Rattle.ex_base.specs.declared.names.PageNo.{PageNo}
use Rattle.ex_base.specs.declared.faults.Seen.{Seen}
use Rattle.ex_base.specs.Seen.{catalog_seen, nothing_seen}
use Rattle.ex_base.specs.Area.{catalog_no, page_at}
use Rattle.disk_model.specs.Outside.{Outside, Rose}
use Rattle.buffer_groups.specs.declared.group.FetchFault.{FetchFault}
use Rattle.buffer_groups.specs.declared.group.FetchFault.TheVariants as fetch
use Rattle.buffer_groups.specs.Frames.{Frames, Lends}
use Rattle.meta_pages.specs.Overlays.{Overlays, image_at}
use Rattle.object_files.specs.Catalog.{Catalog, CatalogOf}
use Rattle.session_views.specs.declared.stop.Stop.{Stop}
use Rattle.session_views.specs.declared.stop.Stop.TheVariants as stop
use Rattle.session_core.specs.Sessions.{SessionState}

-- the bytes of the catalog, where the disk holds d: the transaction's image, or that of the log, or what stands at home
abbrev pub catalog_over : Geometry → Overlays → List ℕ → List ℕ
catalog_over g meta d = unwrap_or (image_at meta catalog_no) (page_at g d catalog_no)

abbrev pub catalog_bytes : SessionState → List ℕ → List ℕ
catalog_bytes s d = catalog_over s.geometry s.meta d

-- each frame has the bytes that the disk holds of its page
abbrev pub FramesLend : Outside → SessionState → Type 0
FramesLend w s = All (Lends w.disk) s.groups

-- The page of the catalog, as it is read, is outside of its grammar.
pub record IsDamaged (w : Outside) (groups : List Frames) (catalog : List ℕ → List ℕ) (page : PageNo) (want got : Seen) : Type 0 where
  pub page_is : page.0 ≡ catalog_no
  pub want_is : want ≡ catalog_seen
  pub got_is : got ≡ nothing_seen
  pub isnt : (d : List ℕ) → w.disk ≡ Some d → All (Lends w.disk) groups → (c : Catalog) → CatalogOf (catalog d) c → ⊥

-- why a reading of the catalog stops
abbrev pub ReadingStops : Outside → Outside → List Frames → (List ℕ → List ℕ) → Stop → Type 0
ReadingStops a b groups catalog stop.Memory = ⊤
ReadingStops a b groups catalog stop.Disk = Rose a.disk_faults b.disk_faults
ReadingStops a b groups catalog (stop.Damaged page want got) = IsDamaged a groups catalog page want got
ReadingStops a b groups catalog stop.Down = ⊥

-- what a session stops at where a page can't be read
abbrev pub stop_of : FetchFault → Stop
stop_of fetch.Disk = stop.Disk
stop_of fetch.Memory = stop.Memory
