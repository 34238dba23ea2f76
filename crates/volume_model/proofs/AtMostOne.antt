-- An image stands for at most one table.
use Rattle.std.proofs.Common.{◌≡◌, ℕ, List, [], ◌∷◌, refl, sym, ap, subst, ◌∙◌}
use Rattle.std.specs.List.{AllByRecursion, AllZip}
use Rattle.ex_base.specs.declared.geometry.Geometry.{Geometry}
use Rattle.ex_base.specs.Area.{log_at}
use Rattle.op_log.specs.declared.record.LogRecord.{LogRecord}
use Rattle.op_log.specs.Log.{LogSpells}
use Rattle.op_log.proofs.OneList.{one_list}
use Rattle.object_files.specs.Catalog.{Catalog, FileEntry}
use Rattle.volume_model.proofs.OneReading.{one_catalog}
use Rattle.trees.specs.Trees.{Units}
use Rattle.table_model.specs.declared.table.Table.{Table}
use Rattle.volume_model.specs.Parts.{HasIndex, HasPages, HasBodies, HoldsOf, content_parts, Decodes, StandsFor}
use Rattle.volume_model.specs.Volume.{FileContent, Volume, Decoded, units_after, units_of, table_of}
use Rattle.volume_model.proofs.OneVolume.{one_geometry, one_file}

-- an index, pages and bodies belong to at most one list of files
pub one_list_of_files : (g : Geometry) (units : Units) (entries : List FileEntry) (fs gs : List FileContent) → AllZip (HasIndex g units) entries fs → AllZip (HasIndex g units) entries gs → AllZip (HasPages units) entries fs → AllZip (HasPages units) entries gs → AllByRecursion HasBodies fs → AllByRecursion HasBodies gs → fs ≡ gs
one_list_of_files g units [] [] [] c d p q l m = refl
one_list_of_files g units [] [] (y ∷ gs) c d p q l m = absurd d
one_list_of_files g units [] (x ∷ fs) gs c d p q l m = absurd c
one_list_of_files g units (entry ∷ entries) [] gs c d p q l m = absurd c
one_list_of_files g units (entry ∷ entries) (x ∷ fs) [] c d p q l m = absurd d
one_list_of_files g units (entry ∷ entries) (x ∷ fs) (y ∷ gs) c d p q l m =
    let here : x ≡ y = one_file g units entry x y c.0 d.0 p.0 q.0 l.0 m.0 in
    let rest = one_list_of_files g units entries fs gs c.1 d.1 p.1 q.1 l.1 m.1 in
    cc (here, rest)

abbrev made_volume : Catalog → List FileContent → Volume
made_volume catalog files = record { catalog = catalog; files = files }

one_volume : (g : Geometry) (records : List LogRecord) (units : Units) (v w : Volume) → AllByRecursion (HoldsOf g records units v) content_parts → AllByRecursion (HoldsOf g records units w) content_parts → v ≡ w
one_volume g records units v w (catalog, (file, (page, (body, (node, (balance, (unique, end))))))) (catalog', (file', (page', (body', (node', (balance', (unique', end'))))))) =
    let same : v.catalog ≡ w.catalog = one_catalog _ v.catalog w.catalog catalog.0 catalog'.0 in
    let files : v.files ≡ w.files = one_list_of_files g units v.catalog.entries v.files w.files file.0 (subst (λ (c : Catalog). AllZip (HasIndex g units) c.entries w.files) (sym same) file'.0) page (subst (λ (c : Catalog). AllZip (HasPages units) c.entries w.files) (sym same) page') body body' in
    let volumes : made_volume v.catalog v.files ≡ made_volume w.catalog w.files = cc (same, files) in
    volumes

one_decoding : (disk : List ℕ) (g h : Geometry) (rs qs : List LogRecord) (v w : Volume) → g ≡ h → rs ≡ qs → AllByRecursion (HoldsOf g rs (units_after g rs disk) v) content_parts → AllByRecursion (HoldsOf h qs (units_after h qs disk) w) content_parts → table_of (units_after g rs disk) v ≡ table_of (units_after h qs disk) w
one_decoding disk g h rs qs v w geometry records p q =
    let moved : AllByRecursion (HoldsOf g rs (units_after g rs disk) w) content_parts = subst (λ (x : Geometry). AllByRecursion (HoldsOf x rs (units_after x rs disk) w) content_parts) (sym geometry) (subst (λ (x : List LogRecord). AllByRecursion (HoldsOf h x (units_after h x disk) w) content_parts) (sym records) q) in
    let same : v ≡ w = one_volume g rs (units_after g rs disk) v w p moved in
    ap (table_of (units_after g rs disk)) same ∙ ap (λ (x : Geometry). table_of (units_after x rs disk) w) geometry ∙ ap (λ (x : List LogRecord). table_of (units_after h x disk) w) records

decoded_once : (disk : List ℕ) (d e : Decoded) → Decodes disk d → Decodes disk e → table_of (units_of d disk) d.volume ≡ table_of (units_of e disk) e.volume
decoded_once disk d e (super, (log, content)) (super', (log', content')) =
    let geometry : d.geometry ≡ e.geometry = one_geometry disk d.geometry e.geometry super super' in
    let records : d.records ≡ e.records = one_list d.geometry (log_at d.geometry disk) d.records e.records log.says (subst (λ (x : Geometry). LogSpells x (log_at x disk) e.records) (sym geometry) log'.says) in
    one_decoding disk d.geometry e.geometry d.records e.records d.volume e.volume geometry records content content'

pub one_table : (disk : List ℕ) (a b : Table) → StandsFor disk a → StandsFor disk b → a ≡ b
one_table disk a b p q = p.same ∙ decoded_once disk p.decoded q.decoded p.parts q.parts ∙ sym q.same
