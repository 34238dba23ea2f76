-- What a volume reaches lies behind the log, and an image that has it stands for the volume's table.
use Rattle.std.proofs.Common.{◌≡◌, ◌≢◌, ◌≤◌, ℕ, zero, suc, List, [], ◌∷◌, ◌++◌, Option, Some, None, sym, arith}
use Rattle.std.specs.Prelude.{Contains}
use Rattle.std.specs.List.{flat_map, AllByRecursion}
use Rattle.ex_base.specs.declared.geometry.Geometry.{Geometry}
use Rattle.ex_base.specs.declared.names.PageNo.{PageNo}
use Rattle.ex_base.specs.declared.names.Root.{Root}
use Rattle.ex_base.specs.Area.{InPageArea, catalog_no}
use Rattle.ex_base.proofs.Each.{each_as, each_from, each_of}
use Rattle.op_log.specs.declared.record.LogRecord.{LogRecord}
use Rattle.op_log.specs.AfterLog.{AllApply}
use Rattle.op_log.specs.Log.{SaysLog}
use Rattle.trees.specs.declared.Pair.{Pair}
use Rattle.trees.specs.Node.{pairs_on}
use Rattle.trees.specs.Trees.{Units, IsNamed, RootNamed, units_on, root_units, root_units_at}
use Rattle.trees.proofs.SameUnits.{Kept}
use Rattle.volume_model.proofs.FilePages.{file_pages_are}
use Rattle.volume_model.specs.Parts.{HasIndex, HoldsOf, IsLastOf, SuperOf, Decodes, StandsFor, content_parts}
use Rattle.volume_model.specs.SameVolume.{kept_from_reach, parts_kept, table_kept}
use Rattle.volume_model.specs.Volume.{Volume, file_pages, roots_in, stored_in, reach_of, table_of, units_after}
use Rattle.std.specs.List.{AllZip}

-- ---- behind the log

abbrev Behind : List ℕ → Type 0
Behind us = AllByRecursion (λ (u : ℕ). catalog_no ≤ u) us

behind_both : (xs ys : List ℕ) → Behind xs → Behind ys → Behind (xs ++ ys)
behind_both [] ys p q = q
behind_both (x ∷ xs) ys p q = (p.0, behind_both xs ys p.1 q)

behind_flat : {A : Type 0} (f : A → List ℕ) (xs : List A) → AllByRecursion (λ x. Behind (f x)) xs → Behind (flat_map f xs)
behind_flat f [] h = tt
behind_flat f (x ∷ xs) h = behind_both (f x) (flat_map f xs) h.0 (behind_flat f xs h.1)

tree_behind : (g : Geometry) (units : Units) (l page : ℕ) → IsNamed g units l page → Behind (units_on units l page)
tree_behind g units zero page named = (omega (arith, named.2), tt)
tree_behind g units (suc l) page named = (
  named.0.0,
  behind_flat (λ (pair : Pair). units_on units l pair.page.0) (pairs_on (units page))
      (each_as (λ (pair : Pair). IsNamed g units l pair.page.0) (λ (pair : Pair). Behind (units_on units l pair.page.0)) (pairs_on (units page)) (λ pair n. tree_behind g units l pair.page.0 n) named.2),
)

root_behind : (g : Geometry) (units : Units) (height : ℕ) (page : Option PageNo) → RootNamed g units height page → Behind (root_units_at units height page)
root_behind g units height None named = tt
root_behind g units height (Some page) named = tree_behind g units height page.0 named

files_behind : (g : Geometry) (units : Units) (v : Volume) → AllZip (HasIndex g units) v.catalog.entries v.files → Behind (file_pages v)
files_behind g units v h = each_as (λ (page : ℕ). InPageArea g page × (page ≢ catalog_no)) (λ (page : ℕ). catalog_no ≤ page) (file_pages v) (λ page is. is.0.0) (file_pages_are g units v h)

pub reach_behind : (g : Geometry) (units : Units) (v : Volume) (page : ℕ) → AllByRecursion (HoldsOf g [] units v) content_parts → Contains (reach_of units v) page → catalog_no ≤ page
reach_behind g units v page (catalog, (file, (filled, (body, (node, rest))))) at =
    let trees = each_as (λ (root : Root). RootNamed g units root.height root.page) (λ (root : Root). Behind (root_units units root)) (roots_in (stored_in v)) (λ root n. root_behind g units root.height root.page n) node.named in
    each_of (λ (u : ℕ). catalog_no ≤ u) (reach_of units v) page
    (behind_both (catalog_no ∷ file_pages v) (flat_map (root_units units) (roots_in (stored_in v))) (omega arith, files_behind g units v file.0) (behind_flat (root_units units) (roots_in (stored_in v)) trees)) at

-- ---- what an image stands for

-- parts hold with any records whose last number is the catalog's
pub with_last : (g : Geometry) (records : List LogRecord) (units : Units) (v : Volume) → IsLastOf records v.catalog.last → AllByRecursion (HoldsOf g [] units v) content_parts → AllByRecursion (HoldsOf g records units v) content_parts
with_last g records units v last (catalog, rest) = ((catalog.0, last), rest)

pub without_last : (g : Geometry) (records : List LogRecord) (units : Units) (v : Volume) → AllByRecursion (HoldsOf g records units v) content_parts → AllByRecursion (HoldsOf g [] units v) content_parts
without_last g records units v (catalog, rest) = ((catalog.0, tt), rest)

pub same_reach : (old new : Units) (v : Volume) → ((page : ℕ) → Contains (reach_of old v) page → new page ≡ old page) → Kept old new (reach_of old v)
same_reach old new v same = each_from (λ u. new u ≡ old u) (reach_of old v) same

module _ (g : Geometry) (records : List LogRecord) (old : Units) (v : Volume) (image : List ℕ) (same : (page : ℕ) → Contains (reach_of old v) page → units_after g records image page ≡ old page) where
  -- An image with these records, where what the volume reaches is as it was, decodes as the volume,
  pub decodes_as : SuperOf image g → SaysLog g records image → AllApply records → IsLastOf records v.catalog.last → AllByRecursion (HoldsOf g [] old v) content_parts
      → Decodes image (record { geometry = g; records = records; volume = v })
  decodes_as super log apply last parts =
      let kept = kept_from_reach old (units_after g records image) v (same_reach old (units_after g records image) v same) in
      (super, (record { says = log; apply = apply }, with_last g records (units_after g records image) v last (parts_kept g [] old (units_after g records image) v kept parts)))

  -- with the same table.
  pub table_as : table_of (units_after g records image) v ≡ table_of old v
  table_as = table_kept old (units_after g records image) v (kept_from_reach old (units_after g records image) v (same_reach old (units_after g records image) v same))

  pub stands_as : SuperOf image g → SaysLog g records image → AllApply records → IsLastOf records v.catalog.last → AllByRecursion (HoldsOf g [] old v) content_parts → StandsFor image (table_of old v)
  stands_as super log apply last parts = record { decoded = record { geometry = g; records = records; volume = v }; parts = decodes_as super log apply last parts; same = sym table_as }
