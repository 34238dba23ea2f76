-- A port over the volume of a session.
use Rattle.std.proofs.Common.{◌≡◌, ◌∙◌, ap, ℕ, List, map, Option, arith}
use Rattle.ex_base.specs.Sizes.{most_page}
use Rattle.trees.specs.declared.Pair.{Pair}
use Rattle.trees.specs.Names.{names_on, page_of_pair}
use Rattle.trees.specs.Trees.{Units}
use Rattle.trees.specs.Node.{PairsOf}
use Rattle.trees.proofs.NameLaws.{names_of_node}
use Rattle.ex_base.specs.declared.geometry.Geometry.{Geometry}
use Rattle.ex_base.specs.declared.ground.Ground as ground
use Rattle.page_alloc.specs.UnitSet.{free_count, refs_at, used_at}
use Rattle.disk_model.specs.Outside.{Outside}
use Rattle.meta_pages.specs.Overlays.{Overlays}
use Rattle.tree_store.specs.Stored.{Tells, unit_bytes}
use Rattle.volume_port.specs.Logged.{is_held}
use Rattle.volume_port.specs.Ported.{image_over}
use Rattle.session_core.specs.Contents.{VolumePages, pages_in, pages_over}
use Rattle.session_core.specs.Finding.{IsPortOf}
use Rattle.session_core.specs.Sessions.{SessionState, volume_held}
use Rattle.volume_port.specs.declared.state.VolumeState.{VolumeState}

-- The port is over a session's volume: it has its bytes, images and logged pages, the units in use with their references, and as many free ones.
pub record IsPortWith {S : Type 0} (g : ground.Ghosts S) (s : S) (geometry : Geometry) (disk : Option (List ℕ)) (p : VolumeState) : Type 0 where
  pub geometry_is : g.geometry s ≡ geometry
  pub unit : g.unit s ≡ unit_bytes geometry disk
  pub image : g.image s ≡ image_over geometry p.meta (unit_bytes geometry disk)
  pub held : g.held s ≡ is_held p.pages
  pub used : g.used s ≡ used_at p.units
  pub refs : g.refs s ≡ refs_at p.units
  pub free : g.free s ≡ free_count p.units.geometry (used_at p.units)

-- The port is ready, over this volume, and tells its bytes where the volume's frames lend them.
pub record PortBegins {S : Type 0} (g : ground.Ghosts S) (s : S) (a : Outside) (v : VolumeState) : Type 0 where
  pub ready : g.ready s
  pub over : IsPortWith g s v.geometry a.disk v
  pub told : Tells a v.groups → g.tells s

abbrev pub made_pages : Geometry → (ℕ → List ℕ) → Units → VolumePages
made_pages geometry image units = record { geometry = geometry; image = image; units = units }

pub port_of : {S : Type 0} (g : ground.Ghosts S) (s : S) (session : SessionState) (disk : Option (List ℕ)) → IsPortWith g s session.geometry disk (volume_held session) → IsPortOf g s session disk
port_of g s session disk over = record { geometry = over.geometry_is; unit = over.unit; image = over.image; held = over.held }

-- it has the volume's pages, as their images lie over the disk
pub port_pages : {S : Type 0} (g : ground.Ghosts S) (s : S) (geometry : Geometry) (w : Outside) (p : VolumeState) → IsPortWith g s geometry w.disk p → pages_in g s ≡ pages_over geometry p.meta w
port_pages g s geometry w p over =
    ap (λ (h : Geometry). made_pages h (g.image s) (g.unit s)) over.geometry_is
    ∙ ap (λ (image : ℕ → List ℕ). made_pages geometry image (g.unit s)) over.image
    ∙ ap (λ (units : Units). made_pages geometry (image_over geometry p.meta (unit_bytes geometry w.disk)) units) over.unit

-- they lie so over the same disk
pub same_disk : (geometry : Geometry) (meta : Overlays) (a b : Outside) → a.disk ≡ b.disk → pages_over geometry meta a ≡ pages_over geometry meta b
same_disk geometry meta a b same = ap (λ (disk : Option (List ℕ)). made_pages geometry (image_over geometry meta (unit_bytes geometry disk)) (unit_bytes geometry disk)) same

-- what a node names, as ports count it, are the pages of its pairs
pub pairs_named : (g : Geometry) (page : List ℕ) (level : ℕ) (pairs : List Pair) → PairsOf g.fan page level pairs → names_on page ≡ map page_of_pair pairs
pairs_named g page level pairs is = names_of_node g.fan page level pairs (omega (arith, most_page g, g.narrow)) is
