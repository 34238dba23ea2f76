-- The meanings of a port for reading alone.
use Rattle.std.specs.Prelude.{◌≡◌, ◌≢◌, ◌≤◌, ◌<◌, ℕ, List, length, All, refl, IsSome, slice_get}
use Rattle.std.proofs.Common.{◌∙◌, sym, subst, ap, arith}
use Rattle.std.specs.Borrow.{MutBor}
use Rattle.ex_base.specs.declared.geometry.Geometry.{Geometry}
use Rattle.ex_base.specs.Sizes.{volume_bytes}
use Rattle.disk_model.specs.Outside.{Outside, ReadsOnly}
use Rattle.disk_model.specs.Runs.{reads_refl, reads_trans}
use Rattle.buffer_groups.specs.Frames.{Frames, Lends}
use Rattle.buffer_groups.specs.Groups.{SameKinds}
use Rattle.buffer_groups.proofs.GroupLists.{same_count}
use Rattle.meta_pages.specs.Overlays.{Overlays}
use Rattle.tree_store.specs.Stored.{AreFromCatalog}
use Rattle.volume_port.specs.Logged.{LoggedSet}

-- the disk tells its bytes, and each frame lends them
abbrev pub TellsBytes : Outside → List Frames → Type 0
TellsBytes o groups = IsSome o.disk × All (Lends o.disk) groups

-- The parts are of one geometry, the disk has room for its volume, and no frame is of the superblock or the log.
pub record CanRead (g : Geometry) (disk_size : ℕ) (groups : List Frames) (index : ℕ) (meta : Overlays) : Type 0 where
  pub group : index < length groups
  pub disk : volume_bytes g ≤ disk_size
  pub frames : All (λ (f : Frames). f.page_size ≡ g.page_size) groups
  pub behind : AreFromCatalog groups
  pub overlay : meta.geometry ≡ g

-- No group but the one at the index changed.
abbrev pub OthersStay : ℕ → List Frames → List Frames → Type 0
OthersStay index old new = (other : ℕ) → other ≢ index → slice_get new other ≡ slice_get old other

-- An earlier and a later state of a port for reading alone, over the same borrowed parts: the disk was read at most, and nothing changed but frames of the
-- port's group, in groups of the kinds that they were, and the room.
pub record Reads {D : Type 0} (outside : D → Outside) (d e : MutBor D) (f h : MutBor (List Frames)) (r t : MutBor (List ℕ)) (i j : ℕ) (a b : Geometry)
    (m n : Overlays) (k l : LoggedSet) : Type 0 where
  pub disk : e.ghost_name ≡ d.ghost_name
  pub frames : h.ghost_name ≡ f.ghost_name
  pub room : t.ghost_name ≡ r.ghost_name
  pub index : j ≡ i
  pub geometry : b ≡ a
  pub meta : n ≡ m
  pub pages : l ≡ k
  pub only : ReadsOnly (outside d.now) (outside e.now)
  pub sizes : (size : ℕ) → All (λ (x : Frames). x.page_size ≡ size) f.now → All (λ (x : Frames). x.page_size ≡ size) h.now
  pub kinds : SameKinds f.now h.now
  pub others : OthersStay i f.now h.now
  pub behind : AreFromCatalog f.now → AreFromCatalog h.now
  pub told : TellsBytes (outside d.now) f.now → TellsBytes (outside e.now) h.now

module _ {D : Type 0} (outside : D → Outside) where
  pub reads_same : (d : MutBor D) (f : MutBor (List Frames)) (r : MutBor (List ℕ)) (i : ℕ) (a : Geometry) (m : Overlays) (k : LoggedSet)
      → Reads outside d d f f r r i i a a m m k k
  reads_same d f r i a m k = record {
    disk = refl;
    frames = refl;
    room = refl;
    index = refl;
    geometry = refl;
    meta = refl;
    pages = refl;
    only = reads_refl (outside d.now);
    sizes = λ size h. h;
    kinds = refl;
    others = λ other apart. refl;
    behind = λ h. h;
    told = λ h. h;
  }

  pub reads_on : (d e x : MutBor D) (f h y : MutBor (List Frames)) (r t u : MutBor (List ℕ)) (i j z : ℕ) (a b c : Geometry) (m n o : Overlays) (k l q : LoggedSet)
      → Reads outside d e f h r t i j a b m n k l → Reads outside e x h y t u j z b c n o l q → Reads outside d x f y r u i z a c m o k q
  reads_on d e x f h y r t u i j z a b c m n o k l q one two = record {
    disk = two.disk ∙ one.disk;
    frames = two.frames ∙ one.frames;
    room = two.room ∙ one.room;
    index = two.index ∙ one.index;
    geometry = two.geometry ∙ one.geometry;
    meta = two.meta ∙ one.meta;
    pages = two.pages ∙ one.pages;
    only = reads_trans one.only two.only;
    sizes = λ size is. two.sizes size (one.sizes size is);
    kinds = two.kinds ∙ one.kinds;
    others = λ other apart. two.others other (λ same. apart (same ∙ one.index)) ∙ one.others other apart;
    behind = λ is. two.behind (one.behind is);
    told = λ is. two.told (one.told is);
  }

  pub reads_ready : (d e : MutBor D) (f h : MutBor (List Frames)) (r t : MutBor (List ℕ)) (i j : ℕ) (a b : Geometry) (m n : Overlays) (k l : LoggedSet)
      → Reads outside d e f h r t i j a b m n k l → CanRead a (outside d.now).size f.now i m → CanRead b (outside e.now).size h.now j n
  reads_ready d e f h r t i j a b m n k l x ready =
      let size : (outside e.now).size ≡ (outside d.now).size = x.only.nothing.only.goes.size in
      subst (λ (g : Geometry). CanRead g (outside e.now).size h.now j n) (sym x.geometry)
      (subst (λ (p : ℕ). CanRead a (outside e.now).size h.now p n) (sym x.index)
      (record {
        group = omega (arith, ready.group, same_count f.now h.now x.kinds);
        disk = omega (arith, ready.disk, size);
        frames = x.sizes a.page_size ready.frames;
        behind = x.behind ready.behind;
        overlay = ap (λ (o : Overlays). o.geometry) x.meta ∙ ready.overlay;
      }))
