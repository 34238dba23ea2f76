-- The state between two versions: nothing runs, and the parts are of one geometry.
use Rattle.std.proofs.Common.{◌≡◌, ◌∙◌, ℕ, true, List, [], length, All, Some, None, nat_eq, sym, ap, arith}
use Rattle.std.specs.Map.{lookup}
use Rattle.std.proofs.lemmas.List.{nil_from_length}
use Rattle.ex_base.specs.declared.geometry.Geometry.{Geometry}
use Rattle.disk_model.specs.Outside.{Outside}
use Rattle.buffer_groups.specs.Frames.{Frames}
use Rattle.buffer_groups.specs.Groups.{SameKinds}
use Rattle.buffer_groups.proofs.GroupLists.{same_count}
use Rattle.meta_pages.specs.Overlays.{Overlays}
use Rattle.op_log.specs.State.{LogState}
use Rattle.page_alloc.specs.UnitSet.{UnitSet, used_at}
use Rattle.tree_store.specs.Stored.{AreFromCatalog, IsCounted, NoUnit}
use Rattle.volume_model.specs.Shown.{WorkingRow}
use Rattle.volume_port.specs.Logged.{is_held}
use Rattle.volume_port.specs.State.{AreReady, Moved}
use Rattle.volume_port.specs.declared.state.VolumeState.{VolumeState}
use Rattle.packing.specs.Resting.{IsIdle}

-- a log in which no record counts
abbrev pub closed_log : Geometry → LogState
closed_log g = record { geometry = g; end = 0; count = 0 }

-- where a port left the working pages as many as they were
pub idle_kept : {w x : Outside} (old new : VolumeState) → IsIdle w.size old → Moved NoUnit w x old new → length new.meta.working ≡ length old.meta.working → IsIdle x.size new
idle_kept old new idle moved same = record {
  ready = moved.ready;
  log =
      ap (λ (v : VolumeState). v.log) moved.rest ∙ idle.log
      ∙ ap closed_log (sym (ap (λ (v : VolumeState). v.geometry) moved.rest));
  working = nil_from_length new.meta.working (same ∙ ap length idle.working);
  committed = moved.committed ∙ idle.committed;
}

-- once the working pages were committed, and written home
pub idle_settled : (size later_size : ℕ) (old : VolumeState) (units : UnitSet) (groups : List Frames) (meta : Overlays) (log : LogState) → AreReady size old → later_size ≡ size → IsCounted old.geometry units
    → ((page : ℕ) → is_held old.pages page ≡ true → used_at units page ≡ true) → SameKinds old.groups groups → All (λ (f : Frames). f.page_size ≡ old.geometry.page_size) groups → AreFromCatalog groups
    → meta.geometry ≡ old.geometry → meta.working ≡ [] → meta.committed ≡ [] → log ≡ closed_log old.geometry
    → IsIdle later_size (record old { units = units; groups = groups; meta = meta; log = log })
idle_settled size later_size old units groups meta log ready same counted in_use kinds sizes behind overlay working committed closed = record {
  ready = record {
    fits = record {
      group = omega (arith, ready.fits.group, same_count old.groups groups kinds);
      disk = omega (arith, ready.fits.disk, same);
      frames = sizes;
      behind = behind;
      counted = counted;
    };
    overlay = overlay;
    held_len = ready.held_len;
    kept_len = ready.kept_len;
    catalog = ready.catalog;
    in_use = λ page held. in_use page held;
    images = λ page image row. absurd (let none : None ≡ Some (Some image) = sym (untouched page) ∙ row in cc);
    gone = λ page row. absurd (let none : None ≡ Some None = sym (untouched page) ∙ row in cc);
  };
  log = closed;
  working = working;
  committed = committed;
}
  where
    untouched : (page : ℕ) → lookup (nat_eq page) meta.working ≡ None
    untouched page = ap (λ (rows : List WorkingRow). lookup (nat_eq page) rows) working
