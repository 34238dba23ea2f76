-- A volume whose version's bytes are changed, or that is left as it is where nothing is.
use Rattle.std.proofs.Common.{◌≡◌, ◌≤◌, ℕ, List, Option, None, sym, subst, arith, inl, inr}
use Rattle.std.proofs.lemmas.Bool.{cases_lt}
use Rattle.ex_base.specs.declared.ground.Ground as ground
use Rattle.ex_base.specs.declared.names.Oid.{Oid}
use Rattle.ex_base.specs.declared.names.Root.{Root}
use Rattle.ex_base.specs.Ports.{Keeps}
use Rattle.ex_base.specs.declared.names.Index.{Index}
use Rattle.object_records.specs.Record.{Content}
use Rattle.object_records.specs.declared.Head.{Head}
use Rattle.op_log.specs.declared.record.LogRecord.{LogRecord}
use Rattle.table_model.specs.declared.table.Table.{Table}
use Rattle.table_model.specs.Tables.{with_bytes}
use Rattle.versions.specs.Edited.{TurnsVersion}
use Rattle.versions.specs.Versions.{AreInUse, Change, HasVersion, changed, count_of, root_of}
use Rattle.volume_edits.specs.Ported.{IsApart, IsVolume, units_in}
use Rattle.volume_edits.proofs.Changing.{changes_volume}
use Rattle.volume_edits.proofs.Showing.{version_found}
use Rattle.volume_model.specs.Volume.{Volume, table_of}
use Rattle.volume_edits.specs.TableUpdates.{AsksChange, BecomesVolume}
use Rattle.volume_edits.proofs.Tables.{bytes_stay, nothing_changed, table_formed}
use Rattle.volume_edits.proofs.MovedVolumes.{changed_volume, in_use, kept_volume}

-- an edit of the version, whose new bytes are those that the change makes, with the roots that go and come
abbrev pub EditsBytes : {S : Type 0} → ground.Ghosts S → S → S → Oid → Change → Option Root → Option Root → Type 0
EditsBytes g old new oid change gone come = g.tells old → AreInUse g old → (index : Index) (head : Head) (content : Content) (bytes : List ℕ) → HasVersion g old index oid head content bytes
    → TurnsVersion g old new index oid head content change (changed change bytes) gone come

-- without bytes no root goes, and none comes
abbrev pub NoRoot : Change → Option Root → Option Root → Type 0
NoRoot change gone come = count_of change ≡ 0 → (gone ≡ None) × (come ≡ None)

module _ {S : Type 0} (g : ground.Ghosts S) (old new : S) (oid : Oid) (change : Change) where
  pub becomes_changed : (gone come : Option Root) → g.leads old new → (count_of change ≡ 0 → Keeps g old new) → NoRoot change gone come → (1 ≤ count_of change → EditsBytes g old new oid change gone come)
      → (records : List LogRecord) (v : Volume) → g.tells old → IsVolume g old records v → AsksChange (table_of (units_in g old) v) oid change → IsApart g new
      → BecomesVolume g old new records v (with_bytes oid (changed change) (table_of (units_in g old) v)) gone come
  becomes_changed gone come leads nothing no_root edited records v tells vol asks apart = elim (cases_lt (count_of change) 1) [
    | inl few ↦
        let none : count_of change ≡ 0 = omega (arith, few) in
        let away = no_root none in
        subst (λ (r : Option Root). BecomesVolume g old new records v (with_bytes oid (changed change) (table_of (units_in g old) v)) r come) (sym away.0)
        (subst (λ (r : Option Root). BecomesVolume g old new records v (with_bytes oid (changed change) (table_of (units_in g old) v)) None r) (sym away.1)
        (subst (λ (t : Table). BecomesVolume g old new records v t None None) (sym (bytes_stay oid (changed change) (nothing_changed change none) (table_of (units_in g old) v) (table_formed (g.geometry old) records (units_in g old) v vol.shows.parts))) (kept_volume g old records v vol new (nothing none))))
    | inr some ↦
        let found = version_found g old records v vol.shows vol oid asks.version asks.is in
        let turns = edited some tells (in_use g old records v vol) found.index found.head found.content asks.version.bytes found.stands in
        subst (λ (r : Option Root). BecomesVolume g old new records v (with_bytes oid (changed change) (table_of (units_in g old) v)) r come) (sym turns.went)
        (subst (λ (r : Option Root). BecomesVolume g old new records v (with_bytes oid (changed change) (table_of (units_in g old) v)) (root_of found.content) r) (sym turns.came)
        (changed_volume g old records v vol new oid asks.version (changed change) (root_of found.content) (root_of turns.edit.now) asks.is
        (changes_volume g old new records v vol found.index oid found.head found.content change asks.version.bytes (changed change asks.version.bytes) (g.leads_geometry old new leads) apart found.stands turns.edit)))
  ]
