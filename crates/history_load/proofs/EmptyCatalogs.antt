-- A volume is of the empty table exactly where its catalog is the first one.
use Rattle.std.proofs.Common.{◌≡◌, ℕ, List, [], ◌∷◌, length, refl, ap, arith}
use Rattle.std.specs.List.{AllByRecursion, AllZip}
use Rattle.ex_base.specs.declared.geometry.Geometry.{Geometry}
use Rattle.object_files.specs.Catalog.{Catalog, FileEntry, fresh_catalog}
use Rattle.op_log.specs.declared.record.LogRecord.{LogRecord}
use Rattle.table_model.specs.declared.table.Table.{Table}
use Rattle.table_model.specs.Tables.{empty_table}
use Rattle.trees.specs.Trees.{Units}
use Rattle.volume_model.specs.Parts.{HasIndex, HoldsOf, content_parts}
use Rattle.volume_model.specs.Volume.{FileContent, Volume, table_of}
use Rattle.history_load.proofs.EmptyVolumes.{no_content}

no_items : {A : Type 0} (xs : List A) → length xs ≡ 0 → xs ≡ []
no_items [] none = refl
no_items (x ∷ xs) none = absurd (omega (arith, none))

abbrev catalog_with : ℕ → ℕ → List FileEntry → Catalog
catalog_with next_unique last entries = record { next_unique = next_unique; last = last; entries = entries }

pub is_fresh : (c : Catalog) → length c.entries ≡ 0 → c.next_unique ≡ 1 → c.last ≡ 0 → c ≡ fresh_catalog
is_fresh c none next last =
    let entries = no_items c.entries none in
    let same : catalog_with c.next_unique c.last c.entries ≡ catalog_with 1 0 [] = cc (entries, next, last) in
    same

abbrev volume_with : List FileContent → Catalog → Volume
volume_with files c = record { catalog = c; files = files }

pub fresh_is_empty : (units : Units) (v : Volume) → v.catalog ≡ fresh_catalog → table_of units v ≡ empty_table
fresh_is_empty units v fresh = ap (λ (c : Catalog). table_of units (volume_with v.files c)) fresh

no_entries : (g : Geometry) (units : Units) (entries : List FileEntry) (files : List FileContent) → AllZip (HasIndex g units) entries files → files ≡ [] → length entries ≡ 0
no_entries g units [] files indexes none = refl
no_entries g units (e ∷ entries) [] indexes none = absurd indexes
no_entries g units (e ∷ entries) (f ∷ files) indexes none = absurd (let same : f ∷ files ≡ [] = none in cc)

pub empty_is_fresh : (g : Geometry) (records : List LogRecord) (units : Units) (v : Volume) → AllByRecursion (HoldsOf g records units v) content_parts → table_of units v ≡ empty_table → v.catalog ≡ fresh_catalog
empty_is_fresh g records units v parts empty =
    is_fresh v.catalog (no_entries g units v.catalog.entries v.files parts.1.0.0 (no_content g records units v parts empty)) (ap (λ (t : Table). t.next_unique) empty) (ap (λ (t : Table). t.last) empty)
