-- The removal of a version as an update of the volume.
use Rattle.std.proofs.Common.{◌≡◌, true≢false, Option, None, subst, sym, ◌∙◌}
use Rattle.std.specs.Prelude.{Ok, Err, IsSome}
use Rattle.ex_base.specs.declared.faults.PortFault.{PortFault}
use Rattle.ex_base.specs.declared.ground.Ground as ground
use Rattle.ex_base.specs.declared.names.Oid.{Oid}
use Rattle.ex_base.specs.declared.names.Root.{Root}
use Rattle.ex_base.specs.Ports.{IsDamage}
use Rattle.ex_base.specs.declared.names.Index.{Index}
use Rattle.file_bodies.specs.Bodies.{bodies_of}
use Rattle.file_index.specs.Taking.{OnlyGives}
use Rattle.object_records.specs.Record.{Record}
use Rattle.object_records.specs.declared.State.TheVariants.{Current, Frozen}
use Rattle.table_model.specs.Tables.{without_version}
use Rattle.versions.specs.Versions.{HasRecord, place_of, root_of}
use Rattle.version_tree.specs.Linked.{AreLinked}
use Rattle.version_tree.specs.Removals.{Drops, IsBranch, TakesOut}
use Rattle.volume_edits.specs.Ported.{units_in}
use Rattle.volume_edits.proofs.Dropped.{drops_version}
use Rattle.volume_edits.proofs.TakenOut.{removes_version}
use Rattle.volume_edits.proofs.Showing.{version_found}
use Rattle.volume_edits.proofs.Standings.{linked_there, newer_in_table, only_in_table}
use Rattle.volume_model.specs.Volume.{table_of}
use Rattle.volume_edits.specs.TableUpdates.{BecomesVolume, Drops as DropsVersion, Removes}
use Rattle.session_core.specs.Performed.{Updates}
use Rattle.volume_edits.proofs.MovedVolumes.{moved_volume}
use Rattle.volume_model.proofs.States.{is_current, is_frozen_state}

module _ {S : Type 0} (g : ground.Ghosts S) (old new : S) (oid : Oid) where
  -- the root that is answered is that of the record
  abbrev RootGone : Option Root → Type 0
  RootGone gone = g.tells old → (index : Index) (is : Record) → HasRecord g old index oid is → gone ≡ root_of is.content

  pub version_removed : (gone : Option Root) → g.leads old new → OnlyGives g old new → RootGone gone
      → (g.tells old → AreLinked g old → (index : Index) (is : Record) → HasRecord g old index oid is → TakesOut g old new index (place_of oid) is)
      → (g.tells old → AreLinked g old → (index : Index) (is : Record) → HasRecord g old index oid is → IsBranch (bodies_of (g.image old) index) is.head.older)
      → Updates g old new (Removes oid) (Ok (record { oid = oid; gone = gone; come = None }))
  version_removed gone leads gives root takes branch = record {
    done = λ records v tells vol asks apart used.
        let found = version_found g old records v vol.shows vol oid asks.version asks.is in
        let own : Record = record { head = found.head; content = found.content } in
        let linked = linked_there g old records v vol.shows in
        let went : gone ≡ root_of found.content = root tells found.index own found.stands.stored in
        subst (λ (r : Option Root). BecomesVolume g old new records v (without_version oid (table_of (units_in g old) v)) r None) (sym went)
        (moved_volume g old records v vol new (root_of found.content) None (without_version oid (table_of (units_in g old) v))
        (removes_version g old new records v vol found.index oid own (g.leads_geometry old new leads) apart used gives found.stands.stored
        (is_current found.head.state (found.frozen ∙ asks.current)) (branch tells linked found.index own found.stands.stored) (takes tells linked found.index own found.stands.stored)));
    sound = tt;
  }

  pub removal_failed : (fault : PortFault)
      → (IsDamage fault → g.tells old → AreLinked g old → (index : Index) (is : Record) → HasRecord g old index oid is → is.head.state ≡ Current → IsBranch (bodies_of (g.image old) index) is.head.older → ⊥)
      → Updates g old new (Removes oid) (Err fault)
  removal_failed fault sound = record {
    done = tt;
    sound = λ damage records v tells vol asks room.
        let found = version_found g old records v vol.shows vol oid asks.version asks.is in
        let own : Record = record { head = found.head; content = found.content } in
        let alone = (only_in_table g old records v vol.shows oid asks.version found.index own asks.is found.stands.stored).1
        (λ branch. sound damage tells (linked_there g old records v vol.shows) found.index own found.stands.stored (is_current found.head.state (found.frozen ∙ asks.current)) branch) in
        absurd (true≢false (sym alone ∙ asks.others));
  }

  pub version_dropped : (gone : Option Root) → g.leads old new → OnlyGives g old new → RootGone gone
      → (g.tells old → AreLinked g old → (index : Index) (is : Record) → HasRecord g old index oid is → Drops g old new index (place_of oid) is)
      → Updates g old new (DropsVersion oid) (Ok (record { oid = oid; gone = gone; come = None }))
  version_dropped gone leads gives root drops = record {
    done = λ records v tells vol asks apart used.
        let found = version_found g old records v vol.shows vol oid asks.version asks.is in
        let own : Record = record { head = found.head; content = found.content } in
        let went : gone ≡ root_of found.content = root tells found.index own found.stands.stored in
        subst (λ (r : Option Root). BecomesVolume g old new records v (without_version oid (table_of (units_in g old) v)) r None) (sym went)
        (moved_volume g old records v vol new (root_of found.content) None (without_version oid (table_of (units_in g old) v))
        (drops_version g old new records v vol found.index oid own (g.leads_geometry old new leads) apart used gives found.stands.stored
        (is_frozen_state found.head.state (found.frozen ∙ asks.frozen)) (drops tells (linked_there g old records v vol.shows) found.index own found.stands.stored)));
    sound = tt;
  }

  pub drop_failed : (fault : PortFault)
      → (IsDamage fault → g.tells old → AreLinked g old → (index : Index) (is : Record) → HasRecord g old index oid is → is.head.state ≡ Frozen → IsSome is.head.newer → ⊥)
      → Updates g old new (DropsVersion oid) (Err fault)
  drop_failed fault sound = record {
    done = tt;
    sound = λ damage records v tells vol asks room.
        let found = version_found g old records v vol.shows vol oid asks.version asks.is in
        let own : Record = record { head = found.head; content = found.content } in
        sound damage tells (linked_there g old records v vol.shows) found.index own found.stands.stored (is_frozen_state found.head.state (found.frozen ∙ asks.frozen))
        ((newer_in_table g old records v vol.shows oid asks.version found.index own asks.is found.stands.stored asks.frozen).0 asks.one);
  }
