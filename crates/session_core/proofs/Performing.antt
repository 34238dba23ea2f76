-- An update of objects that is performed through a port over the volume of a session.
use Rattle.std.specs.Prelude.{Result, Ok, Err, IfOk, IfErr, OnOk, ℕ}
use Rattle.std.proofs.Common.{◌≡◌, ap, subst}
use Rattle.ex_base.specs.declared.ground.Ground as ground
use Rattle.ex_base.specs.declared.faults.PortFault.{PortFault}
use Rattle.ex_base.specs.Ports.{IsDamage}
use Rattle.ex_base.specs.declared.names.Area.{Area}
use Rattle.disk_model.specs.Outside.{Outside}
use Rattle.meta_pages.specs.Overlays.{AreRows}
use Rattle.session_core.specs.declared.updates.Done.{Done}
use Rattle.session_core.specs.declared.updates.ObjectUpdate.{ObjectUpdate}
use Rattle.session_core.specs.Performed.{IsUpdate}
use Rattle.volume_edits.specs.TableUpdates.{Asks, HasRoom, TableUpdate, TakesNeed, updated}
use Rattle.session_core.specs.Contents.{Shaped, VolumePages, pages_in, pages_over}
use Rattle.session_core.specs.Performed.{LeavesShaped, Updates}
use Rattle.page_alloc.specs.UnitSet.{free_count, used_at}
use Rattle.table_model.specs.declared.table.Table.{Table}
use Rattle.table_model.specs.Machines.{shown}
use Rattle.tree_store.specs.Stored.{NoUnit}
use Rattle.trees.specs.Counted.{NamesPairs}
use Rattle.volume_model.specs.Volume.{Volume}
use Rattle.session_core.specs.Updates.{HasRoomFor, HoldsTurned, IfAsked, OwnsGone, TakesAtMost}
use Rattle.volume_port.specs.State.{Moved}
use Rattle.volume_port.specs.declared.state.VolumeState.{VolumeState}
use Rattle.session_core.proofs.Holding.{never_shown, own_free, own_shows, own_volume, same_table, update_holds, update_owns}
use Rattle.session_core.proofs.PortParts.{IsPortWith, PortBegins, port_pages}
use Rattle.session_core.proofs.Roomed.{has_room, has_taken}

module _ {S : Type 0} (g : ground.Ghosts S) (s t : S) (update : ObjectUpdate) (result : Result Done PortFault) (does : (u : TableUpdate) → IsUpdate update u → Updates g s t u result)
    (a : Outside) (old : VolumeState) (begins : PortBegins g s a old) where
  module _ (names : NamesPairs g) (leads : g.leads s t) {b : Outside} (new : VolumeState) (moved : Moved NoUnit a b old new) (later : IsPortWith g t old.geometry b.disk new) where
    -- what it leaves holds the table that it makes,
    pub performed_shown : IfOk result (λ done. IfAsked a old update (λ before u. AreRows new.meta → HoldsTurned before b new done.gone done.come (updated u done.oid (shown before.machine))))
    performed_shown = by result does
      where
        by : (r : Result Done PortFault) → ((u : TableUpdate) → IsUpdate update u → Updates g s t u r)
            → IfOk r (λ done. IfAsked a old update (λ before u. AreRows new.meta → HoldsTurned before b new done.gone done.come (updated u done.oid (shown before.machine))))
        by (Err fault) does = tt
        by (Ok done) does = λ before has now u is asked rows. update_holds g s old begins.over begins.told (Asks u) names t begins.ready leads new moved later (updated u done.oid) done.gone done.come (does u is).done before has now asked rows

    -- and the contents of the versions lie as the update leaves them
    pub performed_shaped : ((u : TableUpdate) → IsUpdate update u → IfOk result (λ done. LeavesShaped g s t u done.oid))
        → IfOk result (λ done. IfAsked a old update (λ before u. Shaped (pages_over old.geometry old.meta a) (pages_over old.geometry new.meta b) u done.oid))
    performed_shaped lies = by result lies
      where
        was : pages_in g s ≡ pages_over old.geometry old.meta a
        was = port_pages g s old.geometry a old begins.over

        now_there : pages_in g t ≡ pages_over old.geometry new.meta b
        now_there = port_pages g t old.geometry b new later

        by : (r : Result Done PortFault) → ((u : TableUpdate) → IsUpdate update u → IfOk r (λ done. LeavesShaped g s t u done.oid))
            → IfOk r (λ done. IfAsked a old update (λ before u. Shaped (pages_over old.geometry old.meta a) (pages_over old.geometry new.meta b) u done.oid))
        by (Err fault) lies = tt
        by (Ok done) lies = λ before has now u is asked.
            subst (λ (p : VolumePages). Shaped p (pages_over old.geometry new.meta b) u done.oid) was
            (subst (λ (p : VolumePages). Shaped (pages_in g s) p u done.oid) now_there
            (lies u is now.shows.decoded.records now.shows.working (own_shows g s old begins.over begins.told has now).tells (own_volume g s old begins.over begins.told has now)
            (subst (λ (table : Table). Asks u now.shows.working table) (same_table g s old begins.over begins.told has now) asked)))

    -- and the root that went owns its tree
    pub performed_owns : IfOk result (λ done. IfAsked a old update (λ before u. OwnsGone before b new done.gone done.come))
    performed_owns = by result does
      where
        by : (r : Result Done PortFault) → ((u : TableUpdate) → IsUpdate update u → Updates g s t u r) → IfOk r (λ done. IfAsked a old update (λ before u. OwnsGone before b new done.gone done.come))
        by (Err fault) does = tt
        by (Ok done) does = λ before has now u is asked. update_owns g s old begins.over begins.told (Asks u) names t begins.ready leads new moved later (updated u done.oid) done.gone done.come (does u is).done before has now asked

    -- and it took no more units than the session counts for it
    pub performed_kept : ((u : TableUpdate) → IsUpdate update u → OnOk result (TakesNeed g s t u)) → OnOk result (IfAsked a old update (TakesAtMost (free_count new.units.geometry (used_at new.units))))
    performed_kept takes = by result takes
      where
        by : (r : Result Done PortFault) → ((u : TableUpdate) → IsUpdate update u → OnOk r (TakesNeed g s t u)) → OnOk r (IfAsked a old update (TakesAtMost (free_count new.units.geometry (used_at new.units))))
        by (Err fault) takes = tt
        by (Ok done) takes = λ before has now u is asked.
            has_taken g s (own_shows g s old begins.over begins.told has now) begins.ready now.shows.decoded.records now.shows.working (own_volume g s old begins.over begins.told has now)
            (same_table g s old begins.over begins.told has now) t (free_count new.units.geometry (used_at new.units)) (own_free g s old begins.over begins.told has now) (λ area. ap (λ (free : Area → ℕ). free area) later.free)
            u asked (takes u is)

  -- where it has its room, it tells of no damage
  pub performed_sound : IfErr result (λ fault. IfAsked a old update (λ before u. HasRoomFor before u → IsDamage fault → ⊥))
  performed_sound = by result does
    where
      by : (r : Result Done PortFault) → ((u : TableUpdate) → IsUpdate update u → Updates g s t u r) → IfErr r (λ fault. IfAsked a old update (λ before u. HasRoomFor before u → IsDamage fault → ⊥))
      by (Ok done) does = tt
      by (Err fault) does = λ before has now u is asked room damage.
          never_shown g s old begins.over begins.told (λ (v : Volume) (table : Table). Asks u v table × HasRoom g s u)
          (λ records v tells vol asks. (does u is).sound damage records v tells vol asks.0 asks.1) before has now
          (asked, has_room g s (own_shows g s old begins.over begins.told has now) begins.ready (own_free g s old begins.over begins.told has now) u now.shows.working asked room)
