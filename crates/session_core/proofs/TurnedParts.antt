-- The volume of a session after an update whose roots were turned and whose pages were swept.
use Rattle.std.proofs.Common.{◌≡◌, ◌≤◌, ◌∙◌, ⊎_elim, ℕ, Bool, List, All, Option, sym, ap, subst}
use Rattle.std.proofs.lemmas.Bool.{both_ways, cases_Bool, or_from, or_left}
use Rattle.ex_base.specs.declared.geometry.Geometry.{Geometry}
use Rattle.ex_base.specs.declared.names.Root.{Root}
use Rattle.disk_model.specs.Outside.{Outside}
use Rattle.disk_model.specs.Changes.{changes_nothing, changes_trans}
use Rattle.buffer_groups.specs.Frames.{Frames, Lends}
use Rattle.page_alloc.specs.UnitSet.{UnitSet, free_count, used_at}
use Rattle.volume_model.specs.Meaning.{shows_narrower}
use Rattle.session_views.specs.View.{View}
use Rattle.table_model.specs.declared.table.Table.{Table}
use Rattle.tree_store.specs.Stored.{InRest, IsCounted, NoUnit}
use Rattle.volume_port.specs.Giving.{is_logged}
use Rattle.volume_port.specs.GivingUp.{CountsRoot, GivesTrees}
use Rattle.volume_port.specs.Logged.{is_held}
use Rattle.session_core.specs.Meant.{held_view}
use Rattle.session_core.specs.Sessions.{SessionState, Swept}
use Rattle.session_core.specs.Turning.{RootsTurned}
use Rattle.session_core.specs.Updates.{HasRoots, HoldsTable, HoldsTurned, IsLoose}
use Rattle.volume_port.specs.State.{Moved}
use Rattle.volume_port.specs.declared.state.VolumeState.{VolumeState}
use Rattle.session_core.proofs.Tracking.{counted_gives}
use Rattle.volume_port.proofs.GivingUp.{gives_tells}

-- a volume with other units and frames
abbrev pub with_units : VolumeState → UnitSet → List Frames → VolumeState
with_units p units groups = record p { units = units; groups = groups }

-- No unit is given back where trees go but one that neither state has as a logged page,
pub gives_moved : {a b c : Outside} (old mid : VolumeState) (left : UnitSet) (groups : List Frames) → GivesTrees (is_logged mid.pages mid.kept) mid.geometry b c mid.units left mid.groups groups
    → Moved NoUnit a b old mid → Moved (IsLoose mid.pages mid.kept) a c old (with_units mid left groups)
gives_moved {a} {b} {c} old mid left groups gives moved =
    let is = moved.ready in
    record {
      changes = changes_trans moved.changes (changes_nothing (InRest old.geometry (used_at old.units) NoUnit) gives.only.nothing);
      told = λ tells. gives_tells gives (moved.told tells);
      used = λ unit was stays. gives.logged unit (⊎_elim (λ yes. yes) (λ no. absurd (stays no)) (cases_Bool (is_logged mid.pages mid.kept unit))) (moved.used unit was (λ none. none));
      given_back = moved.given_back;
      untouched = moved.untouched;
      committed = moved.committed;
      kinds = gives.kinds ∙ moved.kinds;
      ready = record {
        fits = gives.fits is.fits;
        overlay = is.overlay;
        held_len = is.held_len;
        kept_len = is.kept_len;
        catalog = is.catalog;
        in_use = λ page held. gives.logged page (or_left (is_held mid.pages page) (is_held mid.kept page) held) (is.in_use page held);
        images = is.images;
        gone = is.gone;
      };
      rest = ap (λ (v : VolumeState). with_units v left groups) moved.rest;
    }

-- nor where pages are swept.
pub swept_moved : {a c : Outside} (old p : VolumeState) (units : UnitSet) → Swept p.meta.working p.kept p.units units
    → Moved (IsLoose p.pages p.kept) a c old p → Moved (IsLoose p.pages p.kept) a c old (with_units p units p.groups)
swept_moved {a} {c} old p units swept moved =
    let is = moved.ready in
    record {
      changes = moved.changes;
      told = moved.told;
      used = λ unit was stays. swept.units.stays unit (moved.used unit was stays) (λ (away, off). stays (or_from (is_held p.pages unit) (is_held p.kept unit) (is.gone unit away) off));
      given_back = moved.given_back;
      untouched = moved.untouched;
      committed = moved.committed;
      kinds = moved.kinds;
      ready = record {
        fits = (let fits = is.fits in record { group = fits.group; disk = fits.disk; frames = fits.frames; behind = fits.behind; counted = counted_gives p.geometry _ p.units units fits.counted swept.units });
        overlay = is.overlay;
        held_len = is.held_len;
        kept_len = is.kept_len;
        catalog = is.catalog;
        in_use = λ page held. swept.units.stays page (is.in_use page held) (λ (away, off). both_ways _ (is.gone page away) held);
        images = is.images;
        gone = is.gone;
      };
      rest = ap (λ (v : VolumeState). with_units v units p.groups) moved.rest;
    }

-- the same of a volume that is equal
pub moved_as : {a c : Outside} {old p q : VolumeState} → p ≡ q → Moved (IsLoose p.pages p.kept) a c old p → Moved (IsLoose q.pages q.kept) a c old q
moved_as {a} {c} {old} same moved = subst (λ (v : VolumeState). Moved (IsLoose v.pages v.kept) a c old v) same moved

module _ {b c : Outside} (mid : VolumeState) (left units : UnitSet) (groups : List Frames) (gives : GivesTrees (is_logged mid.pages mid.kept) mid.geometry b c mid.units left mid.groups groups)
    (swept : Swept mid.meta.working mid.kept left units) where
  -- Where a volume holds a table also once roots are turned and pages are swept, it holds it then.
  pub turned_holds : (before : View SessionState) (gained lost gains loses : List Root) (gone come : Option Root) (table : Table) → before.session.geometry ≡ mid.geometry → before.session.kept ≡ mid.kept → HasRoots before.session gained lost
      → RootsTurned mid.pages mid.kept mid.geometry b mid.groups mid.units left gained gains lost loses gone come → HoldsTurned before b mid gone come table
      → HoldsTable before c (with_units mid units groups) gains loses table
  turned_holds before gained lost gains loses gone come table geometry flags roots turned holds = record {
    later = holds.later;
    holds = gives.only.nothing.disk ∙ holds.holds;
    rules = holds.rules;
    shows = λ m new rest with shared. shows_narrower b.images c.images (held_view (record { machine = m; session = new; disk = holds.later })) (λ image here. gives.only.nothing.back holds.honest image here) (holds.shows m new (
        let same_units : units ≡ new.units = sym (ap (λ (v : VolumeState). v.units) rest.volume) in
        let same_groups : groups ≡ new.groups = sym (ap (λ (v : VolumeState). v.groups) rest.volume) in
        record {
          is = rest.is;
          lends = λ tells.
              subst (λ (f : List Frames). All (Lends b.disk) f) same_groups
              (subst (λ (o : Option (List ℕ)). All (Lends o) groups) gives.only.nothing.disk (gives.told (tells.1, tells.2)).1);
          left = left;
          turned =
              subst (λ (k : List Bool). RootsTurned mid.pages k before.session.geometry b mid.groups mid.units left before.session.gained new.gained before.session.lost new.lost gone come) (sym flags)
              (subst (λ (h : Geometry). RootsTurned mid.pages mid.kept h b mid.groups mid.units left before.session.gained new.gained before.session.lost new.lost gone come) (sym geometry)
              (subst (λ (r : List Root). RootsTurned mid.pages mid.kept mid.geometry b mid.groups mid.units left r new.gained before.session.lost new.lost gone come) (sym roots.gained)
              (subst (λ (r : List Root). RootsTurned mid.pages mid.kept mid.geometry b mid.groups mid.units left gained r before.session.lost new.lost gone come) (sym rest.gained)
              (subst (λ (r : List Root). RootsTurned mid.pages mid.kept mid.geometry b mid.groups mid.units left gained gains r new.lost gone come) (sym roots.lost)
              (subst (λ (r : List Root). RootsTurned mid.pages mid.kept mid.geometry b mid.groups mid.units left gained gains lost r gone come) (sym rest.lost) turned)))));
          swept = subst (λ (u : UnitSet). Swept mid.meta.working before.session.kept left u) same_units (subst (λ (k : List Bool). Swept mid.meta.working k left units) (sym flags) swept);
          volume = rest.volume ∙ ap (λ (u : UnitSet). with_units mid u groups) same_units ∙ ap (λ (f : List Frames). with_units mid new.units f) same_groups;
          scans = rest.scans;
        }
        ) with shared);
  }

-- an owner more of the root that came takes none away
pub counts_first : {a b : Outside} (held : ℕ → Bool) (g : Geometry) (come : Option Root) (old mid new : UnitSet) (was now : List Frames) → CountsRoot come old mid → ((h : Geometry) → IsCounted h old → IsCounted h mid)
    → GivesTrees held g a b mid new was now → GivesTrees held g a b old new was now
counts_first held g come old mid new was now counts counted gives = record {
  only = gives.only;
  told = gives.told;
  kinds = gives.kinds;
  fits = λ fits. gives.fits (record { group = fits.group; disk = fits.disk; frames = fits.frames; behind = fits.behind; counted = counted g fits.counted });
  geometry = gives.geometry ∙ counts.geometry;
  fewer = λ unit is. sym (ap (λ (f : ℕ → Bool). f unit) counts.used) ∙ gives.fewer unit is;
  logged = λ unit held used. gives.logged unit held (ap (λ (f : ℕ → Bool). f unit) counts.used ∙ used);
  free = λ area.
      subst (λ (h : Geometry). free_count h (used_at old) area ≤ free_count new.geometry (used_at new) area) counts.geometry
      (subst (λ (f : ℕ → Bool). free_count mid.geometry f area ≤ free_count new.geometry (used_at new) area) counts.used (gives.free area));
}
