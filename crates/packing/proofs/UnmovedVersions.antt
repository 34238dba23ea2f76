-- A version whose tree has no high leaf: its root stays, and the volume is at rest.
use Rattle.std.proofs.Common.{◌≡◌, ◌∙◌, ℕ, Bool, true, List, [], Some, refl, sym, ap, subst, inl, inr}
use Rattle.std.specs.List.{AllByRecursion}
use Rattle.ex_base.specs.declared.names.PageNo.{PageNo}
use Rattle.ex_base.specs.declared.names.Root.{Root}
use Rattle.ex_base.specs.Area.{catalog_no}
use Rattle.disk_model.specs.Outside.{Outside}
use Rattle.page_alloc.specs.UnitSet.{used_at}
use Rattle.trees.specs.Made.{AreUsed, Has}
use Rattle.trees.specs.Trees.{IsNamed, Units, root_units, units_on}
use Rattle.compact.specs.High.{root_high_leaves, root_low_leaves}
use Rattle.compact.specs.Moved.{Copies, IsSoundPair}
use Rattle.volume_model.specs.Homes.{home}
use Rattle.volume_model.specs.Volume.{Decoded, units_of}
use Rattle.volume_port.specs.State.{IsAtRest}
use Rattle.volume_port.specs.declared.state.VolumeState.{VolumeState}
use Rattle.packing.specs.Resting.{HasOwnCopies, MovesVersion}
use Rattle.packing.specs.Working.{MovesWorking}
use Rattle.packing.specs.declared.objects.LargeVersion.{LargeVersion}
use Rattle.packing.proofs.AtRest.{at_home}
use Rattle.packing.proofs.LowTrees.{no_high_leaf}

module _ {w x : Outside} (old new : VolumeState) (d : Decoded) (disk : List ℕ) (dense : ℕ) (moves after : Copies) (version : LargeVersion) (made : Root) (rests : IsAtRest w old d disk) (own : HasOwnCopies old d disk dense moves version)
    (working : MovesWorking w x old new d disk dense moves after version made) (same : made ≡ version.root) where
  abbrev root : Root
  root = version.root

  abbrev A : Units
  A = units_of d disk

  abbrev H : Units
  H = home d.geometry working.later

  abbrev F : Units
  F = units_of d working.later

  home_is : H ≡ F
  home_is = sym (at_home d working.later rests.none)

  over_root : (P : Units → Root → Type 0) → P H made → P F root
  over_root P is = subst (λ (units : Units). P units root) home_is (subst (P H) same is)

  catalog_used : used_at old.units catalog_no ≡ true
  catalog_used = rests.ready.in_use catalog_no rests.ready.catalog

  sound_still : (level page : ℕ) (copy : PageNo) → Has (root_units A root) page → after page ≡ Some copy → IsNamed d.geometry A level page → (in_use : ℕ → Bool) → AreUsed in_use (units_on F level copy.0) → IsSoundPair d.geometry F in_use dense level page copy.0
  sound_still level page copy inside sent named in_use used =
      let sound = working.tree.sound level page copy inside sent named in
      subst (λ (units : Units). IsSoundPair d.geometry units in_use dense level page copy.0) home_is (record {
        named = sound.named;
        sized = sound.sized;
        bytes = sound.bytes;
        shape = sound.shape;
        used = subst (λ (units : Units). AreUsed in_use (units_on units level copy.0)) (sym home_is) used;
        low = sound.low;
        still = sound.still;
        stay = sound.stay;
      })

  pub stays_version : MovesVersion x old new d disk dense moves after version
  stays_version = record {
    again = record {
      decoded = d;
      image = working.later;
      rests = working.rests same;
      same = record {
        geometry = refl;
        table = working.still.table;
        catalog = refl;
        page = working.still.units catalog_no (catalog_used, λ none. none);
        pages = refl;
      };
    };
    made = root;
    others = λ s there other. there;
    stored = λ s there other. there;
    moved = own.stored;
    there = own.there;
    oid = own.oid;
    large = own.large;
    high = over_root (λ units r. root_high_leaves d.geometry dense units r ≡ []) (no_high_leaf d.geometry dense H made working.tree.low);
    low = over_root (λ units r. AllByRecursion (Has (root_units units r)) (root_low_leaves d.geometry dense A root)) working.tree.stay;
    units = λ u used out. ap (λ (units : Units). units u) (sym home_is) ∙ working.tree.stays u used;
    fresh = λ page copy sent. elim (working.tree.fresh page copy sent) [
      | inl before ↦ inl before
      | inr both ↦ inr (both.0, over_root (λ units r. Has (root_units units r) copy.0) both.1)
    ];
    each = working.tree.each;
    sound = sound_still;
    sent = working.tree.sent;
    between = used_at new.units;
    kept = λ u used. working.moved.used u used (λ none. none);
    fewer = λ u used. used;
    stay = λ u free taken. taken;
    pages = working.tree.of_pages;
    segs = working.tree.of_segs;
  }
