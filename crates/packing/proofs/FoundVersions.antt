-- A listed version of a volume at rest that a port finds and then moves.
use Rattle.std.proofs.Common.{◌≡◌, ◌∙◌, ℕ, List, Option, Some, None, false, length, sym, ap, subst}
use Rattle.std.proofs.lemmas.Option.{same_Some}
use Rattle.ex_base.specs.declared.ground.Ground as ground
use Rattle.ex_base.specs.declared.names.Index.{Index}
use Rattle.ex_base.specs.declared.names.Root.{Root}
use Rattle.ex_base.specs.Ports.{Keeps}
use Rattle.ex_base.proofs.Each.{each_as}
use Rattle.ex_base.proofs.Keeping.{same_geometry}
use Rattle.disk_model.specs.Outside.{Outside}
use Rattle.file_bodies.specs.Files.{HasFileOf}
use Rattle.file_bodies.proofs.Belonging.{file_of_body}
use Rattle.object_records.specs.Record.{Large, Record}
use Rattle.object_records.specs.declared.Head.{Head}
use Rattle.trees.specs.Counted.{NamesPairs}
use Rattle.trees.specs.Trees.{root_units}
use Rattle.tree_store.specs.Stored.{NoUnit, Tells}
use Rattle.versions.specs.Found.{IsReadable, found_of}
use Rattle.versions.specs.Versions.{AreInUse, HasRecord, HasVersion, IsTreeUnit, place_of}
use Rattle.versions.specs.declared.finding.Found.{Found}
use Rattle.versions.proofs.Standing.{version_readable}
use Rattle.volume_model.specs.Volume.{Decoded}
use Rattle.volume_port.specs.State.{IsAtRest, Moved}
use Rattle.volume_port.specs.declared.state.VolumeState.{VolumeState}
use Rattle.compact.specs.Moved.{Copies, MayMove}
use Rattle.packing.specs.Moving.{CopiesAreAway, VersionMoved}
use Rattle.packing.specs.Resting.{HasOwnCopies, HasRoomFor}
use Rattle.packing.specs.Working.{FindsAndMoves, FindsDamage, MovesWorking}
use Rattle.packing.specs.declared.objects.LargeVersion.{LargeVersion}
use Rattle.packing.proofs.AtRest.{IsPortWith}
use Rattle.packing.proofs.VersionsAtRest.{bytes, copies_away, has_version, in_use, index, may_move}
use Rattle.packing.proofs.WorkingMoves.{moves_working}

-- a port that only read is over the same parts
pub over_kept : {S : Type 0} (g : ground.Ghosts S) (a m : S) (w : Outside) (volume : VolumeState) → IsPortWith g a w volume → Keeps g a m → IsPortWith g m w volume
over_kept g a m w volume over kept = record {
  port = record {
    geometry = same_geometry g a m kept ∙ over.port.geometry;
    unit = kept.units ∙ over.port.unit;
    image = kept.images ∙ over.port.image;
    held = kept.held ∙ over.port.held;
  };
  used = kept.used ∙ over.used;
  refs = kept.refs ∙ over.refs;
  free = kept.free ∙ over.free;
}

-- ---- through any port

module _ {S : Type 0} (g : ground.Ghosts S) (a m : S) (version : LargeVersion) (dense : ℕ) (moves : Copies) (read : Keeps g a m) where
  -- it is told with its head and its root
  found_at : (told : Option Found) (found : Found) → told ≡ Some found → (g.tells a → (at : Index) (r : Record) → HasRecord g a at version.oid r → told ≡ Some (found_of r)) → g.tells a → (at : Index) (head : Head) → HasRecord g a at version.oid (record { head = head; content = Large version.root })
      → found ≡ found_of (record { head = head; content = Large version.root })
  found_at told found is finds tells at head has = same_Some found (found_of (record { head = head; content = Large version.root })) (sym is ∙ finds tells at (record { head = head; content = Large version.root }) has)

  module _ (told : Option Found) (found : Found) (is : told ≡ Some found) (finds : g.tells a → (at : Index) (r : Record) → HasRecord g a at version.oid r → told ≡ Some (found_of r)) where
    pub finds_and_moves : (b : S) (after : Copies) (root made : Root) → root ≡ version.root
        → (g.tells m → AreInUse g m → (index : Index) (spelled : List ℕ) → HasVersion g m index version.oid found.head (Large root) spelled → MayMove g m dense moves root → CopiesAreAway g m moves (root_units (g.unit m) root)
        → VersionMoved g m b index version.oid found.head dense moves after root made spelled) → FindsAndMoves g a b version dense moves after made
    finds_and_moves b after root made same moved = record {
      mid = m;
      read = read;
      moved = λ tells at index head spelled has in_use stands may away.
          let head_is : found.head ≡ head = ap (λ (f : Found). f.head) (found_at told found is finds tells at head has) in
          subst (λ (r : Root). VersionMoved g m b index version.oid head dense moves after r made spelled) same
          (subst (λ (h : Head). VersionMoved g m b index version.oid h dense moves after root made spelled) head_is
          (moved (g.leads_told a m read.leads tells) in_use index spelled
          (subst (λ (r : Root). HasVersion g m index version.oid found.head (Large r) spelled) (sym same) (subst (λ (h : Head). HasVersion g m index version.oid h (Large version.root) spelled) (sym head_is) stands))
          (subst (λ (r : Root). MayMove g m dense moves r) (sym same) may)
          (subst (λ (r : Root). CopiesAreAway g m moves (root_units (g.unit m) r)) (sym same) away)));
    }

    -- damage that the move tells of
    pub moves_damaged : (root : Root) → root ≡ version.root
        → (g.tells m → AreInUse g m → (index : Index) (spelled : List ℕ) → HasVersion g m index version.oid found.head (Large root) spelled → MayMove g m dense moves root → ⊥) → FindsDamage g a version dense moves
    moves_damaged root same never = record {
      mid = m;
      read = read;
      never = λ tells at index head spelled has file readable in_use stands may.
          let head_is : found.head ≡ head = ap (λ (f : Found). f.head) (found_at told found is finds tells at head has) in
          never (g.leads_told a m read.leads tells) in_use index spelled
          (subst (λ (r : Root). HasVersion g m index version.oid found.head (Large r) spelled) (sym same) (subst (λ (h : Head). HasVersion g m index version.oid h (Large version.root) spelled) (sym head_is) stands))
          (subst (λ (r : Root). MayMove g m dense moves r) (sym same) may);
    }

    -- what stands there has another root, or none
    pub found_other : (found.root ≡ Some version.root → ⊥) → FindsDamage g a version dense moves
    found_other differ = record {
      mid = m;
      read = read;
      never = λ tells at index head spelled has file readable in_use stands may. differ (ap (λ (f : Found). f.root) (found_at told found is finds tells at head has));
    }

  -- nothing stands there
  pub found_none : (told : Option Found) → told ≡ None → (g.tells a → (at : Index) (r : Record) → HasRecord g a at version.oid r → told ≡ Some (found_of r)) → FindsDamage g a version dense moves
  found_none told none finds = record {
    mid = m;
    read = read;
    never = λ tells at index head spelled has file readable in_use stands may.
        absurd (let no : None ≡ Some (found_of (record { head = head; content = Large version.root })) = sym none ∙ finds tells at (record { head = head; content = Large version.root }) has in cc);
  }

  -- the search told of damage
  pub finding_damaged : (g.tells a → HasFileOf g a version.oid.page.0 → IsReadable g a (place_of version.oid) → ⊥) → FindsDamage g a version dense moves
  finding_damaged never = record { mid = m; read = read; never = λ tells at index head spelled has file readable in_use stands may. never tells file readable }

-- ---- over a volume at rest

module _ {S : Type 0} (g : ground.Ghosts S) (a : S) (w : Outside) (old : VolumeState) (over : IsPortWith g a w old) (told : Tells w old.groups → g.tells a) (d : Decoded) (disk : List ℕ) (rests : IsAtRest w old d disk) (dense : ℕ) (moves : Copies) (version : LargeVersion)
    (own : HasOwnCopies old d disk dense moves version) (room : HasRoomFor old d disk dense moves version.root) where
  stands : HasVersion g a (index g a w old over d disk rests dense moves version own) version.oid own.stored.body.head (Large version.root) (bytes g a w old over d disk rests dense moves version own)
  stands = has_version g a w old over d disk rests dense moves version own

  file_there : HasFileOf g a version.oid.page.0
  file_there = file_of_body g a (index g a w old over d disk rests dense moves version own) (place_of version.oid) stands.stored.body stands.stored.stands

  readable : IsReadable g a (place_of version.oid)
  readable = version_readable g a (index g a w old over d disk rests dense moves version own) version.oid own.stored.body.head (Large version.root) (bytes g a w old over d disk rests dense moves version own) (record {
    stored = stands.stored;
    spells = stands.spells;
    apart = each_as (IsTreeUnit g a) (λ u. g.held a u ≡ false) (root_units (g.unit a) version.root) (λ u is. is.1) stands.units;
  })

  pub never_damaged : FindsDamage g a version dense moves → ⊥
  never_damaged finds =
      let later : IsPortWith g finds.mid w old = over_kept g a finds.mid w old over finds.read in
      finds.never (told rests.told) (index g a w old over d disk rests dense moves version own) (index g finds.mid w old later d disk rests dense moves version own) own.stored.body.head (bytes g finds.mid w old later d disk rests dense moves version own)
      stands.stored file_there readable (in_use g finds.mid w old later d disk rests dense moves version own) (has_version g finds.mid w old later d disk rests dense moves version own) (may_move g finds.mid w old later d disk rests dense moves version own room)

  pub works_after : (b : S) (x : Outside) (new : VolumeState) (after : Copies) (made : Root) → NamesPairs g → IsPortWith g b x new → Moved NoUnit w x old new → FindsAndMoves g a b version dense moves after made
      → (made ≡ version.root → length new.meta.working ≡ length old.meta.working) → MovesWorking w x old new d disk dense moves after version made
  works_after b x new after made names later_over moved finds untouched =
      let mid : IsPortWith g finds.mid w old = over_kept g a finds.mid w old over finds.read in
      moves_working g finds.mid b old new names mid later_over moved d disk rests dense moves after version own made
      (finds.moved (told rests.told) (index g a w old over d disk rests dense moves version own) (index g finds.mid w old mid d disk rests dense moves version own) own.stored.body.head (bytes g finds.mid w old mid d disk rests dense moves version own)
      stands.stored (in_use g finds.mid w old mid d disk rests dense moves version own) (has_version g finds.mid w old mid d disk rests dense moves version own)
      (may_move g finds.mid w old mid d disk rests dense moves version own room) (copies_away g finds.mid w old mid d disk rests dense moves version own))
      untouched
