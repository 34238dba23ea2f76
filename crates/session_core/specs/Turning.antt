-- How the roots that an open transaction gained and lost turn in an update.
use Rattle.std.specs.Prelude.{◌≡◌, ◌⊎◌, ◌≤◌, ◌+◌, ◌++◌, ℕ, Bool, List, length, Option, Contains}
use Rattle.ex_base.specs.declared.geometry.Geometry.{Geometry}
use Rattle.ex_base.specs.declared.names.Root.{Root}
use Rattle.ex_base.specs.Ports.{times}
use Rattle.buffer_groups.specs.Frames.{Frames}
use Rattle.disk_model.specs.Outside.{Outside}
use Rattle.page_alloc.specs.UnitSet.{UnitSet}
use Rattle.trees.specs.Owners.{root_pages}
use Rattle.volume_model.specs.Held.{root_here}
use Rattle.volume_port.specs.Giving.{is_logged}
use Rattle.volume_port.specs.GivingUp.{CountsRoot, GivesTrees, OwnRoots, ReleasesRoots}
use Rattle.volume_port.specs.Logged.{LoggedSet}
use Rattle.volume_port.specs.declared.state.VolumeState.{VolumeState}

-- A root with the page of this one was taken out of a list; the others are in it still.
pub record TakenOut (old new : List Root) (root : Option Root) : Type 0 where
  pub pages : (u : ℕ) → times u (root_pages new) + times u (root_pages (root_here root)) ≡ times u (root_pages old)
  pub others : (each : Root) → Contains new each → Contains old each
  pub fewer : length new ≤ length old

-- no root of the list has the page of this one
abbrev pub NonePaged : List Root → Option Root → Type 0
NonePaged roots root = (u : ℕ) → 1 ≤ times u (root_pages (root_here root)) → times u (root_pages roots) ≡ 0

-- The root that went was gained, by its page: its tree has an owner less, and the lost ones are as they were.
pub record WasGained (pages : LoggedSet) (kept : List Bool) (g : Geometry) (a : Outside) (groups : List Frames) (old new : UnitSet) (gained rest lost loses : List Root) (gone : Option Root) : Type 0 where
  pub taken_out : TakenOut gained rest gone
  pub released : ReleasesRoots pages kept g a groups old new (root_here gone)
  pub lost_stay : loses ≡ lost

-- No gained root has its page, or no root went: it is lost, and the units are as they were.
pub record WasCommitted (old new : UnitSet) (gained rest lost loses : List Root) (gone : Option Root) : Type 0 where
  pub none : NonePaged gained gone
  pub units : new ≡ old
  pub stays : rest ≡ gained
  pub lost_now : loses ≡ lost ++ root_here gone

-- A root went, if one did: of the gained ones these are left.
abbrev pub RootWent : LoggedSet → List Bool → Geometry → Outside → List Frames → UnitSet → UnitSet → List Root → List Root → List Root → List Root → Option Root → Type 0
RootWent pages kept g a groups old new gained rest lost loses gone = WasGained pages kept g a groups old new gained rest lost loses gone ⊎ WasCommitted old new gained rest lost loses gone

-- The root that came is counted and gained, and the one that went is given up or lost.
pub record RootsTurned (pages : LoggedSet) (kept : List Bool) (g : Geometry) (a : Outside) (groups : List Frames) (old new : UnitSet) (gained gains lost loses : List Root) (gone come : Option Root) : Type 0 where
  pub counted : UnitSet
  pub counts : CountsRoot come old counted
  pub rest : List Root
  pub went : RootWent pages kept g a groups counted new gained rest lost loses gone
  pub gained_now : gains ≡ rest ++ root_here come

-- ---- the same of a volume

-- trees were given up
abbrev pub VolumeGives : Outside → Outside → VolumeState → VolumeState → Type 0
VolumeGives a b old new = GivesTrees (is_logged old.pages old.kept) old.geometry a b old.units new.units old.groups new.groups

-- With these units, the trees of these roots own theirs.
abbrev pub VolumeOwns : Outside → VolumeState → UnitSet → List Root → Type 0
VolumeOwns a v units roots = OwnRoots v.pages v.kept v.geometry a v.groups units roots

-- a root went, if one did
abbrev pub VolumeWent : Outside → VolumeState → VolumeState → List Root → List Root → List Root → List Root → Option Root → Type 0
VolumeWent a old new gained rest lost loses gone = RootWent old.pages old.kept old.geometry a old.groups old.units new.units gained rest lost loses gone

-- the roots were turned
abbrev pub VolumeTurned : Outside → VolumeState → VolumeState → List Root → List Root → List Root → List Root → Option Root → Option Root → Type 0
VolumeTurned a old new gained gains lost loses gone come = RootsTurned old.pages old.kept old.geometry a old.groups old.units new.units gained gains lost loses gone come
