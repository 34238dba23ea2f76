-- The meanings of a store, over its parts.
use Rattle.std.specs.Prelude.{◌≡◌, ◌≤◌, ◌<◌, ◌+◌, ◌*◌, ℕ, zero, suc, Bool, true, List, [], length, nat_lt, if◌then◌else◌, Option, IsSome, IsTrue, refl, unwrap_or, All}
use Rattle.std.proofs.Common.{◌∙◌, subst}
use Rattle.std.specs.Borrow.{MutBor}
use Rattle.ex_base.specs.declared.geometry.Geometry.{Geometry}
use Rattle.ex_base.specs.Area.{IsUnit, area_end, catalog_no}
use Rattle.ex_base.specs.Bytes.{part}
use Rattle.ex_base.specs.Ports.{refs_most}
use Rattle.ex_base.specs.Sizes.{leaf_bytes, volume_bytes}
use Rattle.disk_model.specs.Outside.{Outside}
use Rattle.disk_model.specs.Changes.{ChangesWithin, InRange, changes_refl, changes_trans, changes_wider}
use Rattle.buffer_groups.specs.Frames.{Frames, Lends}
use Rattle.buffer_groups.specs.Groups.{SameKinds, forgotten_in_all}
use Rattle.page_alloc.specs.UnitSet.{UnitSet, used_at, refs_at}

-- how many bytes the unit has
abbrev pub unit_len : Geometry → ℕ → ℕ
unit_len g p = if nat_lt p (area_end g) then g.page_size else leaf_bytes g

-- the bytes of the unit on a disk
abbrev pub unit_bytes : Geometry → Option (List ℕ) → ℕ → List ℕ
unit_bytes g held p = part (unwrap_or held []) (p * g.page_size) (unit_len g p)

-- the places of a unit's bytes
abbrev pub InUnit : Geometry → ℕ → ℕ → Type 0
InUnit g p i = InRange (p * g.page_size) (unit_len g p) i

-- The places of the bytes of units, but for those of the units that are used and not freed.
pub record InRest (g : Geometry) (used : ℕ → Bool) (freed : ℕ → Type 0) (i : ℕ) : Type 0 where
  pub unit : (p : ℕ) × (IsUnit g p × InUnit g p i)
  pub apart : (p : ℕ) → IsUnit g p → used p ≡ true → (freed p → ⊥) → InUnit g p i → ⊥

-- the groups without the frames of n pages from one on
abbrev pub unit_forgotten : ℕ → ℕ → List Frames → List Frames
unit_forgotten p zero groups = groups
unit_forgotten p (suc n) groups = forgotten_in_all (p + n) (unit_forgotten p n groups)

-- The numbers of the used units name units, a unit that has a reference is used, and counts are in their
-- limit.
pub record IsCounted (g : Geometry) (units : UnitSet) : Type 0 where
  pub geometry : units.geometry ≡ g
  pub named : (p : ℕ) → used_at units p ≡ true → IsUnit g p
  pub owned : (p : ℕ) → 1 ≤ refs_at units p → used_at units p ≡ true
  pub few : (p : ℕ) → refs_at units p ≤ refs_most

-- Each frame is of the catalog's page or of one behind it.
abbrev pub AreFromCatalog : List Frames → Type 0
AreFromCatalog groups = All (λ (f : Frames). All (λ (e : ℕ × List ℕ). catalog_no ≤ e.0) f.entries) groups

-- The parts are of one geometry, the disk has room for its volume, and no frame is of the superblock or the log.
pub record Fits (g : Geometry) (disk_size : ℕ) (groups : List Frames) (index : ℕ) (units : UnitSet) : Type 0 where
  pub group : index < length groups
  pub disk : volume_bytes g ≤ disk_size
  pub frames : All (λ (f : Frames). f.page_size ≡ g.page_size) groups
  pub behind : AreFromCatalog groups
  pub counted : IsCounted g units

-- the disk is honest and tells its bytes, and each frame lends them
abbrev pub Tells : Outside → List Frames → Type 0
Tells o groups = IsTrue o.honest × IsSome o.disk × All (Lends o.disk) groups

-- An earlier and a later state of a store: the same references, the same geometry, each group of the kind that it was. Of the units that were used none became free but those of the
-- set, and on the disk nothing changed but bytes of units that were free or of the set.
pub record Frees {D : Type 0} (outside : D → Outside) (freed : ℕ → Type 0) (d e : MutBor D) (u v : MutBor UnitSet) (f h : MutBor (List Frames)) (i j : ℕ) (a b : Geometry) : Type 0 where
  pub disk : e.ghost_name ≡ d.ghost_name
  pub units : v.ghost_name ≡ u.ghost_name
  pub frames : h.ghost_name ≡ f.ghost_name
  pub index : j ≡ i
  pub geometry : b ≡ a
  pub used : (p : ℕ) → used_at u.now p ≡ true → (freed p → ⊥) → used_at v.now p ≡ true
  pub changes : ChangesWithin (InRest a (used_at u.now) freed) (outside d.now) (outside e.now)
  pub fits : Fits a (outside d.now).size f.now i u.now → Fits b (outside e.now).size h.now j v.now
  pub told : Tells (outside d.now) f.now → Tells (outside e.now) h.now
  pub kinds : SameKinds f.now h.now

-- no unit
abbrev pub NoUnit : ℕ → Type 0
NoUnit p = ⊥

-- what lies in no unit that is used later lies in none that was used before, but for those that were freed
rest_before : (a b : Geometry) (u v : UnitSet) (freed : ℕ → Type 0) → b ≡ a → ((p : ℕ) → used_at u p ≡ true → (freed p → ⊥) → used_at v p ≡ true) → (i : ℕ) → InRest b (used_at v) freed i → InRest a (used_at u) freed i
rest_before a b u v freed same grows i rest =
    let at = subst (λ (g : Geometry). InRest g (used_at v) freed i) same rest in
    record { unit = at.unit; apart = λ p unit used stays. at.apart p unit (grows p used stays) stays }

module _ {D : Type 0} (outside : D → Outside) where
  pub frees_same : (freed : ℕ → Type 0) (d : MutBor D) (u : MutBor UnitSet) (f : MutBor (List Frames)) (i : ℕ) (a : Geometry) → Frees outside freed d d u u f f i i a a
  frees_same freed d u f i a = record {
    disk = refl;
    units = refl;
    frames = refl;
    index = refl;
    geometry = refl;
    used = λ p is stays. is;
    changes = changes_refl (InRest a (used_at u.now) freed) (outside d.now);
    fits = λ x. x;
    told = λ x. x;
    kinds = refl;
  }

  pub frees_on : (freed : ℕ → Type 0) (d e m : MutBor D) (u v w : MutBor UnitSet) (f h k : MutBor (List Frames)) (i j l : ℕ) (a b c : Geometry)
      → Frees outside freed d e u v f h i j a b → Frees outside freed e m v w h k j l b c → Frees outside freed d m u w f k i l a c
  frees_on freed d e m u v w f h k i j l a b c x y = record {
    disk = y.disk ∙ x.disk;
    units = y.units ∙ x.units;
    frames = y.frames ∙ x.frames;
    index = y.index ∙ x.index;
    geometry = y.geometry ∙ x.geometry;
    used = λ p is stays. y.used p (x.used p is stays) stays;
    changes = changes_trans x.changes (changes_wider (InRest b (used_at v.now) freed) (InRest a (used_at u.now) freed) y.changes (rest_before a b u.now v.now freed x.geometry x.used));
    fits = λ s. y.fits (x.fits s);
    told = λ s. y.told (x.told s);
    kinds = y.kinds ∙ x.kinds;
  }

  pub frees_wider : (few many : ℕ → Type 0) → ((p : ℕ) → few p → many p) → (d e : MutBor D) (u v : MutBor UnitSet) (f h : MutBor (List Frames)) (i j : ℕ) (a b : Geometry)
      → Frees outside few d e u v f h i j a b → Frees outside many d e u v f h i j a b
  frees_wider few many wider d e u v f h i j a b x = record {
    disk = x.disk;
    units = x.units;
    frames = x.frames;
    index = x.index;
    geometry = x.geometry;
    used = λ p is stays. x.used p is (λ freed. stays (wider p freed));
    changes = changes_wider (InRest a (used_at u.now) few) (InRest a (used_at u.now) many) x.changes
        (λ q rest. record { unit = rest.unit; apart = λ p unit used stays. rest.apart p unit used (λ freed. stays (wider p freed)) });
    fits = x.fits;
    told = x.told;
    kinds = x.kinds;
  }
