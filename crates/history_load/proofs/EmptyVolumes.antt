-- A volume of the empty table has no file.
use Rattle.std.proofs.Common.{◌≡◌, List, [], ◌∷◌, refl, ap}
use Rattle.std.specs.Prelude.{map}
use Rattle.std.specs.List.{AllByRecursion, AllZip, flat_map, zip}
use Rattle.ex_base.specs.declared.geometry.Geometry.{Geometry}
use Rattle.object_files.specs.Catalog.{FileEntry}
use Rattle.op_log.specs.declared.record.LogRecord.{LogRecord}
use Rattle.table_model.specs.declared.table.Table.{Table}
use Rattle.table_model.specs.Tables.{empty_table}
use Rattle.trees.specs.Trees.{Units}
use Rattle.volume_model.specs.Parts.{HasIndex, HoldsOf, content_parts}
use Rattle.volume_model.specs.Volume.{FileContent, Volume, file_of, file_pages, pages_of_file, table_of}

no_rows : (g : Geometry) (units : Units) (entries : List FileEntry) (files : List FileContent) → AllZip (HasIndex g units) entries files → map (file_of units) (zip entries files) ≡ [] → files ≡ []
no_rows g units entries [] both none = refl
no_rows g units [] (f ∷ files) both none = absurd both
no_rows g units (e ∷ entries) (f ∷ files) both none = absurd (let same : file_of units (e, f) ∷ map (file_of units) (zip entries files) ≡ [] = none in cc)

pub no_content : (g : Geometry) (records : List LogRecord) (units : Units) (v : Volume) → AllByRecursion (HoldsOf g records units v) content_parts → table_of units v ≡ empty_table → v.files ≡ []
no_content g records units v parts empty = no_rows g units v.catalog.entries v.files parts.1.0.0 (ap (λ (t : Table). t.files) empty)

pub no_files : (g : Geometry) (records : List LogRecord) (units : Units) (v : Volume) → AllByRecursion (HoldsOf g records units v) content_parts → table_of units v ≡ empty_table → file_pages v ≡ []
no_files g records units v parts empty = ap (flat_map pages_of_file) (no_content g records units v parts empty)
