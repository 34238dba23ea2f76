-- The first versions of an object were moved.
use Rattle.std.proofs.Common.{◌≡◌, ℕ, ◌+◌, ◌<◌, ◌≤◌, List, ◌∷◌, length, drop, get_or, None, refl, subst, ◌∙◌, arith}
use Rattle.std.specs.List.{AllByRecursion}
use Rattle.std.proofs.lemmas.List.{drop_all, drop_more}
use Rattle.ex_base.proofs.Each.{each_with}
use Rattle.ex_base.proofs.Members.{each_in}
use Rattle.disk_model.specs.Outside.{DiskOnly, IsWorld, Leaves, Outside}
use Rattle.disk_model.specs.Runs.{disk_refl, disk_trans}
use Rattle.version_lists.specs.declared.version.Object.{Object}
use Rattle.volume_model.specs.Committed.{StandsForVolume}
use Rattle.volume_model.specs.Volume.{Decoded}
use Rattle.volume_port.specs.State.{IsAtRest}
use Rattle.volume_port.specs.declared.state.VolumeState.{VolumeState}
use Rattle.compact.specs.Moved.{Copies, KeepsCopies}
use Rattle.packing.specs.Dense.{need_in}
use Rattle.packing.specs.Loop.{AreOfObject, IsMoving, IsPacking, MovesUntil, NeedsAsMuch, PacksUntil}
use Rattle.packing.specs.Packing.{HoldsTableOf, KeepsTable}
use Rattle.packing.specs.Resting.{HasOwnCopies, HasRoomFor, IsIdle, IsStartOf, MovesVersion, PackCause}
use Rattle.packing.specs.declared.fault.PackFault.{PackFault}
use Rattle.packing.specs.declared.fault.PackFault.TheVariants as fault
use Rattle.packing.specs.declared.objects.LargeVersion.{LargeVersion}
use Rattle.packing.specs.declared.start.Start.{Start}
use Rattle.packing.proofs.Ends.{begun, ended, own_copies, room}
use Rattle.packing.proofs.Moments.{keeps_now, keeps_on, same_refl, same_trans}
use Rattle.packing.proofs.PackedObjects.{records_on, records_self}
use Rattle.packing.proofs.Stepping.{needs_left, records_left, stepped}

-- what a list has behind its end
abbrev pub no_version : LargeVersion
no_version = record { least = 0; oid = record { page = record { 0 = 0 }; slot = 0; unique = 0 }; root = record { height = 0; page = None; size = 0 } }

-- The volume is idle, and where it was one that is packed, the versions from an index on are left.
pub record MovedSoFar (w z : Outside) (old new : VolumeState) (start : Start) (versions : List LargeVersion) (moves : Copies) (i : ℕ) : Type 0 where
  pub idle : IsIdle z.size new
  pub geometry : new.geometry ≡ old.geometry
  pub only : DiskOnly w z
  pub until : (d : Decoded) (disk : List ℕ) (later : List Object) (object : Object) → IsPacking w old d disk start (object ∷ later) → AreOfObject d.volume object versions → need_in d disk start.segs object ≤ start.pages
      → MovesUntil z new d disk start object later moves (drop i versions) × KeepsTable w z d disk

needs_same : (d : Decoded) (disk : List ℕ) (dense : ℕ) (later : List Object) → AllByRecursion (NeedsAsMuch d disk d disk dense) later
needs_same d disk dense later = each_in (NeedsAsMuch d disk d disk dense) later (λ o h. refl)

pub none_moved : (w : Outside) (old : VolumeState) (start : Start) (versions : List LargeVersion) (moves : Copies) → IsWorld w → IsIdle w.size old → ((page : ℕ) → moves page ≡ None) → MovedSoFar w w old old start versions moves 0
none_moved w old start versions moves world idle none = record {
  idle = idle;
  geometry = refl;
  only = disk_refl w;
  until = λ d disk later object p are enough. (
    record {
      again = record { decoded = d; image = disk; rests = p.rests; same = same_refl d disk };
      moving = begun w old d disk start object later moves versions p are enough none;
      needs = needs_same d disk start.segs later;
      records = records_self d.volume later;
    },
    keeps_now w old d disk p.rests world,
  );
}

-- what moving one version promises
pub record Installs (z c : Outside) (now new : VolumeState) (start : Start) (moves after : Copies) (version : LargeVersion) : Type 0 where
  pub keeps : KeepsCopies moves after
  pub any_moment : (d : Decoded) (image : List ℕ) → IsAtRest z now d image → IsStartOf d image start → HasOwnCopies now d image start.segs moves version → HasRoomFor now d image start.segs moves version.root → Leaves z c (StandsForVolume d image)
  pub holds : (d : Decoded) (image : List ℕ) → IsAtRest z now d image → IsStartOf d image start → HasOwnCopies now d image start.segs moves version → HasRoomFor now d image start.segs moves version.root → HoldsTableOf c d image

module _ (w z c : Outside) (old now new : VolumeState) (start : Start) (versions : List LargeVersion) (moves after : Copies) (i : ℕ) (lt : i < length versions) (x : MovedSoFar w z old now start versions moves i)
    (does : Installs z c now new start moves after (get_or versions i no_version)) where
  abbrev version : LargeVersion
  version = get_or versions i no_version

  abbrev left : List LargeVersion
  left = drop (i + 1) versions

  module _ (d : Decoded) (disk : List ℕ) (later : List Object) (object : Object) (p : IsPacking w old d disk start (object ∷ later)) (are : AreOfObject d.volume object versions) (enough : need_in d disk start.segs object ≤ start.pages) where
    so_far : MovesUntil z now d disk start object later moves (drop i versions)
    so_far = let both = x.until d disk later object p are enough in both.0

    moving : IsMoving z now so_far.again.decoded so_far.again.image start object later moves (version ∷ left)
    moving = subst (IsMoving z now so_far.again.decoded so_far.again.image start object later moves) (drop_more versions i no_version lt) so_far.moving

    owns : HasOwnCopies now so_far.again.decoded so_far.again.image start.segs moves version
    owns = own_copies z now so_far.again.decoded so_far.again.image start object later moves version left moving

    has_room : HasRoomFor now so_far.again.decoded so_far.again.image start.segs moves version.root
    has_room = room z now so_far.again.decoded so_far.again.image start object later moves version left moving

    step_keeps : KeepsTable z c so_far.again.decoded so_far.again.image
    step_keeps = record {
      any_moment = does.any_moment so_far.again.decoded so_far.again.image so_far.moving.rests so_far.moving.since owns has_room;
      holds = does.holds so_far.again.decoded so_far.again.image so_far.moving.rests so_far.moving.since owns has_room;
    }

    -- what can't be of a volume that is packed
    pub never_then : ((d : Decoded) (image : List ℕ) → IsAtRest z now d image → HasOwnCopies now d image start.segs moves version → HasRoomFor now d image start.segs moves version.root → ⊥) → ⊥
    never_then never = never so_far.again.decoded so_far.again.image so_far.moving.rests owns has_room

    pub keeps_then : KeepsTable w c d disk
    keeps_then = let both = x.until d disk later object p are enough in keeps_on w z c d so_far.again.decoded disk so_far.again.image so_far.again.same both.1 step_keeps

    until_then : MovesVersion c now new so_far.again.decoded so_far.again.image start.segs moves after version → MovesUntil c new d disk start object later after left
    until_then moved = record {
      again = record {
        decoded = moved.again.decoded;
        image = moved.again.image;
        rests = moved.again.rests;
        same = same_trans d so_far.again.decoded moved.again.decoded disk so_far.again.image moved.again.image so_far.again.same moved.again.same;
      };
      moving = stepped z c now new so_far.again.decoded so_far.again.image start object later moves after version left moving does.keeps moved;
      needs = each_with (NeedsAsMuch d disk so_far.again.decoded so_far.again.image start.segs) (NeedsAsMuch so_far.again.decoded so_far.again.image moved.again.decoded moved.again.image start.segs)
          (NeedsAsMuch d disk moved.again.decoded moved.again.image start.segs) later (λ o one two. two ∙ one) so_far.needs
          (needs_left z c now new so_far.again.decoded so_far.again.image start object later moves after version left moving does.keeps moved);
      records = records_on d.volume so_far.again.decoded.volume moved.again.decoded.volume later so_far.records
          (records_left z c now new so_far.again.decoded so_far.again.image start object later moves after version left moving does.keeps moved);
    }

  pub one_more : IsIdle c.size new → new.geometry ≡ now.geometry → DiskOnly z c
      → ((d : Decoded) (image : List ℕ) → IsAtRest z now d image → IsStartOf d image start → HasOwnCopies now d image start.segs moves version → HasRoomFor now d image start.segs moves version.root
      → MovesVersion c now new d image start.segs moves after version) → MovedSoFar w c old new start versions after (i + 1)
  one_more idle geometry only moved = record {
    idle = idle;
    geometry = geometry ∙ x.geometry;
    only = disk_trans x.only only;
    until = λ d disk later object p are enough.
        let s = so_far d disk later object p are enough in (
          until_then d disk later object p are enough (moved s.again.decoded s.again.image s.moving.rests s.moving.since (owns d disk later object p are enough) (has_room d disk later object p are enough)),
          keeps_then d disk later object p are enough,
        );
  }

-- all of them
pub all_moved : (w z : Outside) (old new : VolumeState) (start : Start) (versions : List LargeVersion) (moves : Copies) (i : ℕ) → length versions ≤ i → MovedSoFar w z old new start versions moves i
    → (d : Decoded) (disk : List ℕ) (later : List Object) (object : Object) → IsPacking w old d disk start (object ∷ later) → AreOfObject d.volume object versions → need_in d disk start.segs object ≤ start.pages
    → PacksUntil z new d disk start later
all_moved w z old new start versions moves i end x d disk later object p are enough =
    let both = x.until d disk later object p are enough in
    let m = both.0 in
    record {
      again = m.again;
      packing = ended z new m.again.decoded m.again.image start object later moves (subst (IsMoving z new m.again.decoded m.again.image start object later moves) (drop_all i versions end) m.moving);
      needs = m.needs;
      records = m.records;
    }

-- ---- faults

-- what a later step was failed by
pub cause_since : (a b c : Outside) (why : PackFault) → DiskOnly a b → PackCause b c why → PackCause a c why
cause_since a b c fault.Disk only cause = let goes = only.goes in omega (arith, goes.disk_faults, cause)
cause_since a b c fault.Memory only cause = tt
cause_since a b c (fault.Damaged page want got) only cause = cause
cause_since a b c (fault.NoPages need free) only cause = tt
