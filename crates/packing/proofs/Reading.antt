-- A port over the parts of a volume at rest shows the volume, and leaves it at rest.
use Rattle.std.proofs.Common.{◌≡◌, ◌∙◌, ℕ, List, [], All, Option, None, nat_eq, refl, sym, ap, subst, arith}
use Rattle.std.specs.Prelude.{unwrap_or}
use Rattle.std.specs.Map.{lookup}
use Rattle.ex_base.specs.declared.ground.Ground as ground
use Rattle.ex_base.specs.declared.geometry.Geometry.{Geometry}
use Rattle.ex_base.specs.Area.{catalog_no}
use Rattle.disk_model.specs.Outside.{Outside, ReadsOnly}
use Rattle.disk_model.specs.Runs.{honest_on, reads_refl}
use Rattle.buffer_groups.specs.Frames.{Frames}
use Rattle.buffer_groups.specs.Groups.{SameKinds}
use Rattle.buffer_groups.proofs.GroupLists.{same_count}
use Rattle.meta_pages.specs.Overlays.{image_at, over}
use Rattle.trees.specs.Trees.{Units}
use Rattle.tree_store.specs.Stored.{AreFromCatalog, unit_bytes}
use Rattle.volume_model.specs.Shown.{WorkingRow}
use Rattle.volume_model.specs.Volume.{Decoded, units_of}
use Rattle.volume_edits.specs.Ported.{ShowsVolume}
use Rattle.volume_port.specs.Ported.{image_over}
use Rattle.volume_port.specs.Reading.{CanRead, TellsBytes}
use Rattle.volume_port.specs.State.{IsAtRest}
use Rattle.volume_port.specs.declared.state.VolumeState.{VolumeState}
use Rattle.volume_port.proofs.WorkingUnits.{image_is}
use Rattle.version_lists.specs.declared.version.Object.{Object}
use Rattle.packing.specs.Loop.{IsPacking, ReadsAtRest}
use Rattle.packing.specs.Packing.{pages_free, segs_used}
use Rattle.packing.specs.Resting.{IsIdle}
use Rattle.packing.specs.declared.start.Start.{Start}
use Rattle.packing.proofs.AtRest.{IsPortOf, at_home, at_rest, home_is}

module _ (w : Outside) (volume : VolumeState) (d : Decoded) (disk : List ℕ) (rests : IsAtRest w volume d disk) where
  -- what a port over the state reads are the units of the volume
  pub units_home : unit_bytes volume.geometry w.disk ≡ units_of d disk
  units_home =
      ap (λ (geometry : Geometry). unit_bytes geometry w.disk) (sym rests.geometry) ∙ ap (λ (held : Option (List ℕ)). unit_bytes d.geometry held) rests.holds
      ∙ home_is d.geometry disk ∙ sym (at_home d disk rests.none)

  no_image : (page : ℕ) → image_at volume.meta page ≡ None
  no_image page =
      ap (λ (rows : List WorkingRow). over (lookup (nat_eq page) rows) (lookup (nat_eq page) volume.meta.committed)) rests.working
      ∙ ap (λ (rows : List (ℕ × List ℕ)). over None (lookup (nat_eq page) rows)) rests.images

  -- the catalog's page is lent as the volume has it
  pub catalog_shown : image_over volume.geometry volume.meta (unit_bytes volume.geometry w.disk) catalog_no ≡ units_of d disk catalog_no
  catalog_shown =
      let some = volume.geometry.some_pages in
      image_is volume.geometry volume.meta (unit_bytes volume.geometry w.disk) catalog_no (omega arith, omega (arith, some))
      ∙ ap (λ (image : Option (List ℕ)). unwrap_or image (unit_bytes volume.geometry w.disk catalog_no)) (no_image catalog_no)
      ∙ ap (λ (units : Units). units catalog_no) units_home

-- a port over the parts shows the volume
pub rest_shows : {S : Type 0} (g : ground.Ghosts S) (s : S) (w : Outside) (volume : VolumeState) → IsPortOf g s w volume → (d : Decoded) (disk : List ℕ) → IsAtRest w volume d disk → ShowsVolume g s [] d.volume
rest_shows g s w volume port d disk rests = at_rest g s w volume port d disk rests

-- ---- a volume stays at rest

pub rest_kept : (a b : Outside) (old : VolumeState) (groups : List Frames) (d : Decoded) (disk : List ℕ) → ReadsOnly a b → SameKinds old.groups groups
    → ((size : ℕ) → All (λ (x : Frames). x.page_size ≡ size) old.groups → All (λ (x : Frames). x.page_size ≡ size) groups) → (AreFromCatalog old.groups → AreFromCatalog groups)
    → (TellsBytes a old.groups → TellsBytes b groups) → IsAtRest a old d disk → IsAtRest b (record old { groups = groups }) d disk
rest_kept a b old groups d disk reads kinds sizes behind told rests =
    let goes = reads.nothing.only.goes in
    record {
      told = let lent = told (rests.told.1, rests.told.2) in (honest_on goes rests.told.0, lent.0, lent.1);
      ready = record {
        fits = record {
          group = omega (arith, rests.ready.fits.group, same_count old.groups groups kinds);
          disk = omega (arith, rests.ready.fits.disk, goes.size);
          frames = sizes old.geometry.page_size rests.ready.fits.frames;
          behind = behind rests.ready.fits.behind;
          counted = rests.ready.fits.counted;
        };
        overlay = rests.ready.overlay;
        held_len = rests.ready.held_len;
        kept_len = rests.ready.kept_len;
        catalog = rests.ready.catalog;
        in_use = rests.ready.in_use;
        images = rests.ready.images;
        gone = rests.ready.gone;
      };
      holds = reads.nothing.disk ∙ rests.holds;
      none = rests.none;
      geometry = rests.geometry;
      committed = record { parts = rests.committed.parts; durable = λ image here. rests.committed.durable image (reads.nothing.back rests.told.0 image here); shown = rests.committed.shown };
      images = rests.images;
      working = rests.working;
      knows = rests.knows;
      owned = rests.owned;
      kept = rests.kept;
    }

pub keeps_of : (a b : Outside) (old : VolumeState) (groups : List Frames) → ReadsOnly a b → SameKinds old.groups groups
    → ((size : ℕ) → All (λ (x : Frames). x.page_size ≡ size) old.groups → All (λ (x : Frames). x.page_size ≡ size) groups) → (AreFromCatalog old.groups → AreFromCatalog groups)
    → (TellsBytes a old.groups → TellsBytes b groups) → CanRead old.geometry a.size old.groups 0 old.meta → ReadsAtRest a b old (record old { groups = groups })
keeps_of a b old groups reads kinds sizes behind told ready =
    let goes = reads.nothing.only.goes in
    record {
      only = reads;
      rest = refl;
      ready = record {
        group = omega (arith, ready.group, same_count old.groups groups kinds);
        disk = omega (arith, ready.disk, goes.size);
        frames = sizes old.geometry.page_size ready.frames;
        behind = behind ready.behind;
        overlay = ready.overlay;
      };
      rests = λ d disk rests. rest_kept a b old groups d disk reads kinds sizes behind told rests;
    }

pub keeps_none : (a : Outside) (old : VolumeState) → CanRead old.geometry a.size old.groups 0 old.meta → ReadsAtRest a a old old
keeps_none a old ready = record { only = reads_refl a; rest = refl; ready = ready; rests = λ d disk rests. rests }

-- ---- a volume that is packed, and is read

pub can_read : (size : ℕ) (volume : VolumeState) → IsIdle size volume → CanRead volume.geometry size volume.groups 0 volume.meta
can_read size volume idle = record {
  group = idle.ready.fits.group;
  disk = idle.ready.fits.disk;
  frames = idle.ready.fits.frames;
  behind = idle.ready.fits.behind;
  overlay = idle.ready.overlay;
}

idle_over : (size later : ℕ) (old : VolumeState) (groups : List Frames) → IsIdle size old → CanRead old.geometry later groups 0 old.meta → IsIdle later (record old { groups = groups })
idle_over size later old groups idle ready = record {
  ready = record {
    fits = record { group = ready.group; disk = ready.disk; frames = ready.frames; behind = ready.behind; counted = idle.ready.fits.counted };
    overlay = idle.ready.overlay;
    held_len = idle.ready.held_len;
    kept_len = idle.ready.kept_len;
    catalog = idle.ready.catalog;
    in_use = idle.ready.in_use;
    images = idle.ready.images;
    gone = idle.ready.gone;
  };
  log = idle.log;
  working = idle.working;
  committed = idle.committed;
}

pub idle_read : (a b : Outside) (old new : VolumeState) → ReadsAtRest a b old new → IsIdle a.size old → IsIdle b.size new
idle_read a b old new reads idle =
    let ready : CanRead old.geometry b.size new.groups 0 old.meta = subst (λ (v : VolumeState). CanRead v.geometry b.size new.groups 0 v.meta) reads.rest reads.ready in
    subst (IsIdle b.size) (sym reads.rest) (idle_over a.size b.size old new.groups idle ready)

pub packing_read : (a b : Outside) (old new : VolumeState) (d : Decoded) (disk : List ℕ) (start : Start) (later : List Object) → ReadsAtRest a b old new → IsPacking a old d disk start later → IsPacking b new d disk start later
packing_read a b old new d disk start later reads p = record {
  rests = reads.rests d disk p.rests;
  since = p.since;
  last = p.last;
  segs = ap segs_used reads.rest ∙ p.segs;
  pages = omega (arith, p.pages, ap pages_free reads.rest);
  low = p.low;
}
