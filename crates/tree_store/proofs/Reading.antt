-- What a store is after a page was brought into a frame.
use Rattle.std.proofs.Common.{◌≡◌, ◌≤◌, ◌<◌, ◌+◌, ◌*◌, ℕ, List, length, All, Option, Some, None, IfSome, IsSome, nat_eq, slice_get, refl, sym, ap, subst, ◌∙◌, arith}
use Rattle.std.proofs.Math.Nat.{mul-le-mul_right}
use Rattle.std.specs.Map.{lookup}
use Rattle.std.specs.Borrow.{MutBor}
use Rattle.ex_base.specs.declared.geometry.Geometry.{Geometry}
use Rattle.ex_base.specs.Area.{InPageArea}
use Rattle.ex_base.specs.Bytes.{part}
use Rattle.ex_base.specs.Sizes.{volume_bytes}
use Rattle.disk_model.specs.Outside.{Outside, ReadsOnly}
use Rattle.disk_model.specs.Changes.{changes_nothing}
use Rattle.disk_model.specs.Runs.{honest_on}
use Rattle.buffer_groups.specs.Frames.{Frames, Lends, page_of}
use Rattle.buffer_groups.specs.Groups.{GroupsKeep}
use Rattle.buffer_groups.proofs.FrameLists.{frame_bytes}
use Rattle.buffer_groups.proofs.GroupLists.{at_index, same_count}
use Rattle.page_alloc.specs.UnitSet.{UnitSet, used_at}
use Rattle.tree_store.specs.Stored.{AreFromCatalog, Fits, Tells, Frees, InRest, NoUnit, unit_bytes}
use Rattle.tree_store.proofs.Places.{page_len}

told_along : (a b : Outside) (f h : List Frames) → ReadsOnly a b → GroupsKeep a.disk f h → Tells a f → Tells b h
told_along a b f h only keeps told =
    let same = only.nothing.disk in (
      honest_on only.nothing.only.goes told.0,
      subst (λ (o : Option (List ℕ)). IsSome o) (sym same) told.1,
      subst (λ (o : Option (List ℕ)). All (Lends o) h) (sym same) (keeps.lends told.2),
    )

fits_along : (g : Geometry) (m n : ℕ) (a : Option (List ℕ)) (f h : List Frames) (i : ℕ) (u : UnitSet) → n ≡ m → GroupsKeep a f h → (AreFromCatalog f → AreFromCatalog h) → Fits g m f i u → Fits g n h i u
fits_along g m n a f h i u same keeps behind fits = record {
  group = omega (arith, same_count f h keeps.kinds, fits.group);
  disk = omega (arith, same, fits.disk);
  frames = keeps.sizes g.page_size fits.frames;
  behind = behind fits.behind;
  counted = fits.counted;
}

pub read_leads : {D : Type 0} (outside : D → Outside) (d e : MutBor D) (u : MutBor UnitSet) (f h : MutBor (List Frames)) (i : ℕ) (a : Geometry)
    → e.ghost_name ≡ d.ghost_name → h.ghost_name ≡ f.ghost_name → ReadsOnly (outside d.now) (outside e.now) → GroupsKeep (outside d.now).disk f.now h.now → (AreFromCatalog f.now → AreFromCatalog h.now)
    → Frees outside NoUnit d e u u f h i i a a
read_leads outside d e u f h i a disk groups only keeps behind = record {
  disk = disk;
  units = refl;
  frames = groups;
  index = refl;
  geometry = refl;
  used = λ p is stays. is;
  changes = changes_nothing (InRest a (used_at u.now) NoUnit) only.nothing;
  fits = fits_along a (outside d.now).size (outside e.now).size (outside d.now).disk f.now h.now i u.now only.nothing.only.goes.size keeps behind;
  told = told_along (outside d.now) (outside e.now) f.now h.now only keeps;
  kinds = keeps.kinds;
}

-- the page lies inside the disk
page_range : (g : Geometry) (page size : ℕ) (f : Frames) → InPageArea g page → f.page_size ≡ g.page_size → volume_bytes g ≤ size → (page + 1) * f.page_size ≤ size
page_range g page size f area same fits =
    let h : (page + 1) * g.page_size ≤ (257 + g.pages + g.segs * g.seg_len) * g.page_size = mul-le-mul_right g.page_size (omega (arith, area)) in
    rw same (omega (arith, h, fits))

pub range_at : (g : Geometry) (page size index : ℕ) (gs : List Frames) (o : Option Frames) → slice_get gs index ≡ o → index < length gs → InPageArea g page
    → All (λ (f : Frames). f.page_size ≡ g.page_size) gs → volume_bytes g ≤ size → IfSome o (λ (f : Frames). (page + 1) * f.page_size ≤ size)
range_at g page size index gs None is h area sizes fits = tt
range_at g page size index gs (Some f) is h area sizes fits = page_range g page size f area (at_index (λ (x : Frames). x.page_size ≡ g.page_size) gs index f is h sizes) fits

none_apart : IsSome {T = List ℕ} None → ⊥
none_apart e = cc

-- the frame of a page lends the unit's bytes
pub held_is_unit : (g : Geometry) (o : Outside) (held : Option (List ℕ)) (groups : List Frames) (index page : ℕ) (got : Frames) (shown : List ℕ) → o.disk ≡ held
    → index < length groups → All (λ (f : Frames). f.page_size ≡ g.page_size) groups → InPageArea g page
    → slice_get groups index ≡ Some got → lookup (nat_eq page) got.entries ≡ Some shown → Tells o groups → shown ≡ unit_bytes g o.disk page
held_is_unit g o None groups index page got shown there h sizes area is found told = absurd (none_apart (subst (λ (x : Option (List ℕ)). IsSome x) there told.1))
held_is_unit g o (Some b) groups index page got shown there h sizes area is found told =
    let size = at_index (λ (x : Frames). x.page_size ≡ g.page_size) groups index got is h sizes in
    let lends = at_index (Lends o.disk) groups index got is h told.2 in
    frame_bytes b got.page_size page got.entries shown (lends b there) found
    ∙ ap (λ n. page_of b n page) size
    ∙ ap (λ n. part b (page * g.page_size) n) (sym (page_len g page area))
    ∙ ap (λ (x : Option (List ℕ)). unit_bytes g x page) (sym there)
