-- What a port that shows a view lists of the relatives of a version.
use Rattle.std.proofs.Common.{◌≡◌, ◌∙◌, List, Option, Some, Result, Ok, Err, sym, ap, subst}
use Rattle.std.specs.Prelude.{IsPermutation, IfErr, IfOk, option_map}
use Rattle.std.proofs.lemmas.List.Sorted.{IsPermutation-trans}
use Rattle.std.proofs.lemmas.Result.{IfErr-weaker}
use Rattle.ex_base.specs.declared.ground.Ground as ground
use Rattle.ex_base.specs.declared.faults.PortFault.{PortFault}
use Rattle.ex_base.specs.declared.names.Oid.{Oid}
use Rattle.ex_base.specs.Ports.{IsDamage}
use Rattle.disk_model.specs.Outside.{Outside}
use Rattle.ex_base.specs.declared.names.Index.{Index}
use Rattle.file_bodies.specs.Bodies.{bodies_of}
use Rattle.object_records.specs.Record.{Record}
use Rattle.version_lists.specs.declared.version.Version.{Version}
use Rattle.version_lists.specs.Versions.{derived_from, listed, numbered_in, unique_of}
use Rattle.table_model.specs.declared.table.Table.{Table}
use Rattle.table_model.specs.Machines.{shown}
use Rattle.table_model.specs.Steps.{oids, versions_if}
use Rattle.table_model.specs.Tables.{object_at, version_at, versions_of}
use Rattle.session_views.specs.View.{View}
use Rattle.versions.specs.Listed.{AreByNumber}
use Rattle.versions.specs.Versions.{HasRecord, place_of}
use Rattle.version_tree.specs.Lineage.{IsListing}
use Rattle.version_tree.specs.Linked.{AreLinked, OidAt, oids_from}
use Rattle.volume_edits.specs.Ported.{units_in}
use Rattle.volume_edits.specs.Shown.{ReadsVersion}
use Rattle.volume_model.specs.Volume.{table_of}
use Rattle.volume_edits.proofs.Standings.{derived_in_table, linked_there, listed_in_table, older_in_table}
use Rattle.session_core.specs.Finding.{AreRelatives, IfShown, IfVersion, PortShows, oids_if}
use Rattle.session_core.specs.Sessions.{SessionState}
use Rattle.session_core.specs.declared.session.relatives.Relation.TheVariants as relation
use Rattle.session_core.proofs.Finding.{reads_live}

module _ {S : Type 0} (g : ground.Ghosts S) (s : S) {before : View SessionState} (shows : PortShows g s before) (oid : Oid) (version : Version) (is : version_at (shown before.machine) oid ≡ Some version) where
  reads : ReadsVersion g s oid version
  reads = reads_live g s shows oid version is

  abbrev own : Record
  own = record { head = reads.head; content = reads.content }

  there : version_at (table_of (units_in g s) shows.working) oid ≡ Some version
  there = ap (λ (t : Table). version_at t oid) (sym shows.table) ∙ is

  linked : AreLinked g s
  linked = linked_there g s shows.records shows.working shows.volume

  pub object_listed : (listing : List Oid) → (g.tells s → (index : Index) (is : Record) → HasRecord g s index oid is → IsListing (bodies_of (g.image s) index) (record { oid = oid; older = is.head.older }) listing)
      → AreRelatives before.machine version relation.Object listing
  object_listed listing lists =
      listed_in_table g s shows.records shows.working shows.volume oid version reads.index own there reads.stored listing (lists shows.tells reads.index own reads.stored)
      ∙ ap (λ (t : Table). oids (listed (versions_if (object_at t oid)))) (sym shows.table)
      ∙ ap (λ (o : Oid). oids (listed (versions_if (object_at (shown before.machine) o)))) (sym reads.named)

  pub derived_listed : (found : List Oid) → (g.tells s → AreLinked g s → (index : Index) (is : Record) → HasRecord g s index oid is → IsPermutation (oids_from (place_of oid) (bodies_of (g.image s) index)) found) → AreByNumber found
      → AreRelatives before.machine version relation.Derived found
  derived_listed found moves ordered = (
    subst (λ (t : Table). IsPermutation (oids (derived_from (unique_of version) (versions_of t))) found) (sym shows.table)
        (IsPermutation-trans _ _ _ (derived_in_table g s shows.records shows.working shows.volume oid version reads.index own there reads.stored) (moves shows.tells linked reads.index own reads.stored)),
    ordered,
  )

  pub older_listed : (found : Option Oid) (list : List Oid) → list ≡ oids_if found → (g.tells s → AreLinked g s → (index : Index) (is : Record) → HasRecord g s index oid is → OidAt (bodies_of (g.image s) index) is.head.older found)
      → AreRelatives before.machine version relation.Older list
  older_listed found list same told =
      same ∙ ap oids_if (older_in_table g s shows.records shows.working shows.volume oid version reads.index own there reads.stored found (told shows.tells linked reads.index own reads.stored))
      ∙ ap (λ (t : Table). oids_if (option_map (λ (w : Version). w.oid) (numbered_in (versions_of t) version.older))) (sym shows.table)

  -- what is so for no record of a file isn't so for the version
  pub never_here : (P : Type 0) → (P → g.tells s → AreLinked g s → (index : Index) (is : Record) → HasRecord g s index oid is → ⊥) → P → ⊥
  never_here P never so = never so shows.tells linked reads.index own reads.stored

  -- a call that is sound for a record of a file is so for the version
  pub sound_here : {T : Type 0} (result : Result T PortFault) → IfErr result (λ fault. IsDamage fault → g.tells s → AreLinked g s → (index : Index) (is : Record) → HasRecord g s index oid is → ⊥)
      → IfErr result (λ fault. IsDamage fault → ⊥)
  sound_here result sound = IfErr-weaker result _ _ (λ fault never damage. never damage shows.tells linked reads.index own reads.stored) sound

-- what holds of the result for each version
pub ok_version : {T E : Type 0} (w : Outside) (old : SessionState) (oid : Oid) (result : Result T E) (Q : View SessionState → Version → T → Type 0)
    → IfShown w old (λ before. IfVersion before oid (λ version. IfOk result (Q before version))) → IfOk result (λ x. IfShown w old (λ before. IfVersion before oid (λ version. Q before version x)))
ok_version w old oid (Ok x) Q each = each
ok_version w old oid (Err e) Q each = tt

pub error_version : {T E : Type 0} (w : Outside) (old : SessionState) (oid : Oid) (result : Result T E) (Q : View SessionState → Version → E → Type 0)
    → IfShown w old (λ before. IfVersion before oid (λ version. IfErr result (Q before version))) → IfErr result (λ e. IfShown w old (λ before. IfVersion before oid (λ version. Q before version e)))
error_version w old oid (Ok x) Q each = tt
error_version w old oid (Err e) Q each = each
