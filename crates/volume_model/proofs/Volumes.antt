-- What a working volume is, of a session that shows: its parts over its working pages, and its table.
use Rattle.std.proofs.Common.{◌≡◌, ◌∙◌, ℕ, suc, false, List, [], ◌∷◌, length, map, Option, Some, None, is_some, refl, sym, ap, subst}
use Rattle.std.specs.Prelude.{unwrap_or}
use Rattle.std.specs.List.{AllByRecursion, AllZip, zip}
use Rattle.ex_base.specs.declared.geometry.Geometry.{Geometry}
use Rattle.ex_base.proofs.Each.{each_from}
use Rattle.op_log.specs.declared.record.LogRecord.{LogRecord}
use Rattle.object_files.specs.Catalog.{FileEntry, name_of}
use Rattle.trees.specs.Trees.{Units}
use Rattle.table_model.specs.declared.table.Table.{Table}
use Rattle.table_model.specs.declared.table.TableFile.{TableFile}
use Rattle.table_model.specs.Machines.{shown}
use Rattle.session_views.specs.View.{View}
use Rattle.volume_model.specs.Parts.{HoldsOf, content_parts}
use Rattle.volume_model.specs.SameVolume.{kept_from_reach, parts_kept, table_kept}
use Rattle.trees.proofs.SameUnits.{Kept}
use Rattle.volume_model.specs.Shown.{Held, Shows, WorkingShown, working_units}
use Rattle.volume_model.specs.Volume.{FileContent, Volume, Decoded, file_of, table_of, units_of, reach_of}

-- ---- parts

abbrev pub Parts : Geometry → List LogRecord → Units → Volume → Type 0
Parts g records units v = AllByRecursion (HoldsOf g records units v) content_parts

-- units that are the same on what a volume reaches
pub all_same : (old new : Units) (v : Volume) → ((u : ℕ) → new u ≡ old u) → Kept old new (reach_of old v)
all_same old new v same = each_from (λ u. new u ≡ old u) (reach_of old v) (λ u _. same u)

pub parts_same : (g : Geometry) (records : List LogRecord) (old new : Units) (v : Volume) → ((u : ℕ) → new u ≡ old u) → Parts g records old v → Parts g records new v
parts_same g records old new v same parts = parts_kept g records old new v (kept_from_reach old new v (all_same old new v same)) parts

pub table_same : (old new : Units) (v : Volume) → ((u : ℕ) → new u ≡ old u) → table_of new v ≡ table_of old v
table_same old new v same = table_kept old new v (kept_from_reach old new v (all_same old new v same))

-- ---- what a view shows

parts_by : (d : Decoded) (v : View Held) (working : Volume) (o : Option Table) → WorkingShown d v working o → Parts d.geometry d.records (units_of d v.disk) d.volume
    → Parts d.geometry d.records (working_units d v.disk v.session.working_pages) working
parts_by d v working None (none, same) whole =
    subst (λ (rows : List (ℕ × Option (List ℕ))). Parts d.geometry d.records (working_units d v.disk rows) working) (sym none)
    (subst (λ (w : Volume). Parts d.geometry d.records (units_of d v.disk) w) (sym same) whole)
parts_by d v working (Some table) shows whole = shows.parts

table_by : (d : Decoded) (v : View Held) (working : Volume) (o : Option Table) → v.machine.working ≡ o → WorkingShown d v working o → v.machine.committed ≡ table_of (units_of d v.disk) d.volume
    → shown v.machine ≡ table_of (working_units d v.disk v.session.working_pages) working
table_by d v working None is (none, same) committed =
    ap (λ (o : Option Table). unwrap_or o v.machine.committed) is
    ∙ committed
    ∙ ap (λ (w : Volume). table_of (units_of d v.disk) w) (sym same)
    ∙ ap (λ (rows : List (ℕ × Option (List ℕ))). table_of (working_units d v.disk rows) working) (sym none)
table_by d v working (Some table) is shows committed = ap (λ (o : Option Table). unwrap_or o v.machine.committed) is ∙ shows.same

pub shown_parts : {may_leave : List ℕ → Type 0} {v : View Held} (shows : Shows may_leave v)
    → Parts shows.decoded.geometry shows.decoded.records (working_units shows.decoded v.disk v.session.working_pages) shows.working
shown_parts {may_leave} {v} shows = parts_by shows.decoded v shows.working v.machine.working shows.working_shown shows.parts.1.1

pub shown_table : {may_leave : List ℕ → Type 0} {v : View Held} (shows : Shows may_leave v) → shown v.machine ≡ table_of (working_units shows.decoded v.disk v.session.working_pages) shows.working
shown_table {may_leave} {v} shows = table_by shows.decoded v shows.working v.machine.working refl shows.working_shown shows.committed

-- ---- the names of its files

module _ (R : FileEntry → FileContent → Type 0) where
  pub names_shown : (units : Units) (entries : List FileEntry) (files : List FileContent) → AllZip R entries files → map (λ (f : TableFile). f.name) (map (file_of units) (zip entries files)) ≡ map name_of entries
  names_shown units [] [] h = refl
  names_shown units [] (file ∷ files) h = refl
  names_shown units (entry ∷ entries) [] h = absurd h
  names_shown units (entry ∷ entries) (file ∷ files) h = ap (λ (ns : List (List ℕ)). entry.name ∷ ns) (names_shown units entries files h.1)

  pub as_many_files : (units : Units) (entries : List FileEntry) (files : List FileContent) → AllZip R entries files → length (map (file_of units) (zip entries files)) ≡ length entries
  as_many_files units [] [] h = refl
  as_many_files units [] (file ∷ files) h = refl
  as_many_files units (entry ∷ entries) [] h = absurd h
  as_many_files units (entry ∷ entries) (file ∷ files) h = ap suc (as_many_files units entries files h.1)

-- without a transaction nothing is touched, and the working volume is the committed one
pub idle_of : (d : Decoded) (v : View Held) (working : Volume) (o : Option Table) → is_some o ≡ false → WorkingShown d v working o → (v.session.working_pages ≡ []) × (working ≡ d.volume)
idle_of d v working None closed h = h
idle_of d v working (Some table) closed h = absurd (cc)
