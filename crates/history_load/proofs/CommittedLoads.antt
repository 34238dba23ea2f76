-- What a load wrote may be committed, and is the table of the stream then.
use Rattle.std.proofs.Common.{◌≡◌, ◌⊎◌, ◌↔◌, inl, inr, ℕ, true, nat_eq, List, [], ◌∷◌, ◌++◌, Some, None, refl, sym, ap, subst, ◌∙◌}
use Rattle.std.specs.Map.{lookup}
use Rattle.std.specs.Prelude.{Contains}
use Rattle.ex_base.specs.declared.geometry.Geometry.{Geometry}
use Rattle.ex_base.specs.declared.names.OpNote.{OpNote}
use Rattle.disk_model.specs.Outside.{Outside}
use Rattle.op_log.specs.declared.record.LogRecord.{LogRecord}
use Rattle.op_log.specs.Decoding.{NumberFollows, last_number}
use Rattle.op_log.specs.State.{LogState}
use Rattle.commits.proofs.Reached.{reach_behind, same_reach}
use Rattle.table_model.specs.declared.table.Table.{Table}
use Rattle.table_model.specs.Tables.{empty_table}
use Rattle.version_lists.proofs.Lists.{contains_has}
use Rattle.volume_model.specs.Committed.{CommittedAs, IsOverlayOf, MayCommit, StandsForEither, with_records}
use Rattle.volume_model.specs.CrashImage.{agrees_stands}
use Rattle.volume_model.specs.Parts.{StandsFor, SuperOf}
use Rattle.volume_model.specs.SameVolume.{parts_kept, reach_kept, table_kept}
use Rattle.volume_model.specs.Shown.{PageRow, WorkingRow, working_units}
use Rattle.volume_model.specs.Volume.{Decoded, Volume, file_pages, reach_of, table_of, units_of}
use Rattle.volume_port.specs.declared.state.VolumeState.{VolumeState}
use Rattle.volume_port.specs.State.{IsAtRest}
use Rattle.history_model.specs.Dumps.{IsDump, IsHistoryOf}
use Rattle.history_model.specs.Stream.{stream_of}
use Rattle.history_load.specs.Loads.{HoldsDump, ImageReaches, IsDumpImage, LoadsAs, units_loaded}
use Rattle.history_load.proofs.EmptyVolumes.{no_files}
use Rattle.history_load.proofs.NewCatalogs.{all_kept, catalog_row, none_gone, same_units}

module _ (w : Outside) (p : VolumeState) (d : Decoded) (image : List ℕ) (rests : IsAtRest w p d image) (empty : table_of (units_of d image) d.volume ≡ empty_table) where
  no_page : (page : ℕ) → Contains (file_pages d.volume) page → ⊥
  no_page page there =
      let none = no_files d.geometry d.records (units_of d image) d.volume rests.committed.parts.1.1 empty in
      contains_has [] page (subst (λ (pages : List ℕ). Contains pages page) none there)

  pub no_overlay : IsOverlayOf d.volume p.meta.committed
  no_overlay = subst (IsOverlayOf d.volume) (sym rests.images) tt

  -- a crash before leaves the empty table
  pub was_empty : (e : List ℕ) → w.images e → StandsFor e empty_table
  was_empty e may = subst (StandsFor e) empty (agrees_stands image e d rests.committed.parts (rests.committed.durable e may))

  pub loads_there : (stream page : List ℕ) (last segs : ℕ) → LoadsAs p.geometry image stream page last segs → LoadsAs d.geometry image stream page last segs
  loads_there stream page last segs loads = subst (λ (g : Geometry). LoadsAs g image stream page last segs) (sym rests.geometry) loads

  module _ (stream page : List ℕ) (last segs : ℕ) (loads : LoadsAs d.geometry image stream page last segs) where
    abbrev v : Volume
    v = loads.volume

    abbrev made : Table
    made = table_of (units_loaded d.geometry image page) v

    may_load : MayCommit d image (catalog_row page) last v
    may_load = record {
      follows = subst (λ (rs : List LogRecord). NumberFollows (last_number rs) last) (sym rests.none) tt;
      last = loads.last_is;
      parts = parts_kept d.geometry [] (units_loaded d.geometry image page) (working_units d image (catalog_row page)) v (all_kept d image page rests.none v) loads.parts;
      images = (λ some. inl refl, tt);
      kept = λ unit there. none_gone page unit;
      left = λ unit there other. absurd (no_page unit there);
      no_tree = λ unit there. absurd (no_page unit there);
    }

    made_is : table_of (working_units d image (catalog_row page)) v ≡ made
    made_is = table_kept (units_loaded d.geometry image page) (working_units d image (catalog_row page)) v (all_kept d image page rests.none v)

    abbrev dump_there : IsDump stream p.geometry made
    dump_there = record {
      history = loads.dump.history;
      spelled = loads.dump.spelled ∙ ap (λ (g : Geometry). stream_of g loads.dump.history) rests.geometry;
      of = subst (λ (g : Geometry). IsHistoryOf g loads.dump.history made) rests.geometry loads.dump.of;
    }

    -- where the catalog alone is touched
    module _ (rows : List WorkingRow) (touched : rows ≡ catalog_row page) where
      pub may_commit : MayCommit d image rows last v
      may_commit = subst (λ (rs : List WorkingRow). MayCommit d image rs last v) (sym touched) may_load

      working_is : table_of (working_units d image rows) v ≡ made
      working_is = ap (λ (rs : List WorkingRow). table_of (working_units d image rs) v) touched ∙ made_is

      -- what is committed reaches what was loaded
      module _ (after : Outside) (notes : List OpNote) (later : List ℕ) (log : LogState) (overlay : List PageRow) (done : CommittedAs d image rows last notes v after.images later log overlay) where
        abbrev now : Decoded
        now = with_records d (done.earlier ++ done.made ∷ []) v

        unit_stays : (unit : ℕ) → Contains (reach_of (units_loaded d.geometry image page) v) unit → units_of now later unit ≡ units_loaded d.geometry image page unit
        unit_stays unit there =
            done.pages unit (reach_behind d.geometry (units_loaded d.geometry image page) v unit loads.parts there) (λ stale. none_gone page unit (subst (λ (rs : List WorkingRow). lookup (nat_eq unit) rs ≡ Some None) touched stale.0))
            ∙ ap (λ (rs : List WorkingRow). working_units d image rs unit) touched ∙ same_units d image page rests.none unit

        reach_stays : reach_of (units_of now later) v ≡ reach_of (units_loaded d.geometry image page) v
        reach_stays = reach_kept (units_loaded d.geometry image page) (units_of now later) v (same_reach (units_loaded d.geometry image page) (units_of now later) v unit_stays)

        image_reaches : ImageReaches later segs
        image_reaches = record {
          decoded = now;
          parts = done.committed.parts;
          reaches = record {
            used = loads.reaches.used;
            each = λ unit. subst (λ (units : List ℕ). (loads.reaches.used unit ≡ true) ↔ Contains units unit) (sym reach_stays) (loads.reaches.each unit);
            segs_are = loads.reaches.segs_are;
          };
        }

      pub holds_dump : (after : Outside) (notes : List OpNote) (later : List ℕ) (log : LogState) (overlay : List PageRow) → after.disk ≡ Some later
          → CommittedAs d image rows last notes v after.images later log overlay → HoldsDump after p.geometry stream segs
      holds_dump after notes later log overlay holds done =
          let now = with_records d (done.earlier ++ done.made ∷ []) v in
          let table_is : table_of (units_of now later) v ≡ made = done.table ∙ working_is in
          record {
            table = made;
            dump = dump_there;
            leaves = loads.leaves;
            image = later;
            holds = holds;
            super = subst (SuperOf later) rests.geometry done.committed.parts.0;
            stands = record { decoded = now; parts = done.committed.parts; same = sym table_is };
            reaches = image_reaches after notes later log overlay done;
            left = λ e may. subst (StandsFor e) table_is (agrees_stands later e now done.committed.parts (done.committed.durable e may));
          }

      pub either_load : (e : List ℕ) → StandsForEither d image rows v e → StandsFor e empty_table ⊎ IsDumpImage p.geometry stream e
      either_load e (inl was) = inl (subst (StandsFor e) empty was)
      either_load e (inr now) = inr (record { table = made; dump = dump_there; stands = subst (StandsFor e) working_is now })
