-- The change of a version as an update of the volume.
use Rattle.std.proofs.Common.{◌≡◌, ◌≤◌, ℕ, List, length, Option, ◌∙◌}
use Rattle.std.specs.Prelude.{Ok, Err}
use Rattle.ex_base.specs.declared.faults.PortFault.{PortFault}
use Rattle.ex_base.specs.declared.ground.Ground as ground
use Rattle.ex_base.specs.declared.names.Oid.{Oid}
use Rattle.ex_base.specs.declared.names.Root.{Root}
use Rattle.ex_base.specs.Ports.{IsDamage, Keeps}
use Rattle.ex_base.specs.declared.names.Index.{Index}
use Rattle.object_records.specs.Record.{Content}
use Rattle.object_records.specs.declared.Head.{Head}
use Rattle.object_records.specs.declared.State.TheVariants.{Current}
use Rattle.versions.specs.Edited.{HasNeed}
use Rattle.versions.specs.Versions.{AreInUse, Change, HasVersion, InRange, changed, count_of, place_of}
use Rattle.volume_edits.proofs.Showing.{version_found}
use Rattle.volume_edits.specs.TableUpdates.{Changes}
use Rattle.session_core.specs.Performed.{Updates}
use Rattle.volume_model.proofs.States.{is_current}
use Rattle.volume_edits.proofs.BytesChanged.{EditsBytes, NoRoot, becomes_changed}
use Rattle.volume_edits.proofs.MovedVolumes.{in_use}

module _ {S : Type 0} (g : ground.Ghosts S) (old new : S) (oid : Oid) (change : Change) where
  pub version_changed : (gone come : Option Root) → g.leads old new → (count_of change ≡ 0 → Keeps g old new) → NoRoot change gone come → (1 ≤ count_of change → EditsBytes g old new oid change gone come)
      → Updates g old new (Changes oid change) (Ok (record { oid = oid; gone = gone; come = come }))
  version_changed gone come leads nothing no_root edited = record {
    done = λ records v tells vol asks apart used. becomes_changed g old new oid change gone come leads nothing no_root edited records v tells vol asks apart;
    sound = tt;
  }

  pub change_failed : (fault : PortFault)
      → (IsDamage fault → g.tells old → AreInUse g old → (index : Index) (head : Head) (content : Content) (bytes : List ℕ) → HasVersion g old index oid head content bytes → head.state ≡ Current → InRange change (length bytes)
      → HasNeed g old (place_of oid) content change (length (changed change bytes)) → ⊥)
      → Updates g old new (Changes oid change) (Err fault)
  change_failed fault sound = record {
    done = tt;
    sound = λ damage records v tells vol asks room.
        let found = version_found g old records v vol.shows vol oid asks.version asks.is in
        sound damage tells (in_use g old records v vol) found.index found.head found.content asks.version.bytes found.stands (is_current found.head.state (found.frozen ∙ asks.current)) asks.inside
        (room found.index found.head found.content asks.version.bytes found.stands);
  }
