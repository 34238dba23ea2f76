-- The laws of histories of volumes.
use Rattle.std.proofs.Common.{ℕ, List}
use Rattle.std.specs.Prelude.{Contains, ◌↔◌}
use Rattle.std.specs.List.{AllByRecursion, flat_map}
use Rattle.ex_base.specs.declared.geometry.Geometry.{Geometry}
use Rattle.ex_base.specs.declared.names.Root.{Root}
use Rattle.op_log.specs.declared.record.LogRecord.{LogRecord}
use Rattle.table_model.specs.Tables.{IsTable}
use Rattle.trees.specs.Trees.{Units}
use Rattle.version_lists.specs.Sorted.{in_order}
use Rattle.version_lists.proofs.Lists.{Has, contains_has, has_contains, has_flat, has_flat_from}
use Rattle.version_lists.proofs.Sorted.{order_has, order_has_from}
use Rattle.volume_model.specs.Parts.{HoldsOf, content_parts}
use Rattle.volume_model.specs.Volume.{FileContent, Stored, Volume, root_in, roots_in, stored_in, table_of, unique_of}
use Rattle.history_model.specs.Dumps.{IsHistoryOf}
use Rattle.history_model.specs.History.{History}
use Rattle.history_model.specs.Items.{AreItems}
use Rattle.history_model.specs.Trees.{IsUnder}
use Rattle.history_volumes.specs.Histories.{IsHistoryOn, roots_in_order}
use Rattle.history_volumes.specs.Laws.{IsTreeThere}
use Rattle.history_volumes.specs.Transcribed.{AreTranscribed}
use Rattle.history_volumes.specs.Walks.{firsts}
use Rattle.history_volumes.proofs.Dumped.{files_are}
use Rattle.history_volumes.proofs.Firsts.{firsts_from, firsts_has}
use Rattle.history_volumes.proofs.Named.{apart, leaf_named, node_named}
use Rattle.history_volumes.proofs.Transcribing.{tree_bytes, tree_named, tree_shape, tree_sized, tree_units}

pub tree_there : (g : Geometry) (h : History) (units : Units) (leaf node : ℕ → ℕ) (l number n : ℕ) → AreTranscribed g h units leaf node → IsUnder h l number n → IsTreeThere g h units leaf node l number n
tree_there g h units leaf node l number n at is = record {
  named = tree_named g h units leaf node at l number n is;
  sized = tree_sized g h units leaf node at l number n is;
  bytes = tree_bytes g h units leaf node at l number n is;
  shape = tree_shape g h units leaf node at l number n is;
  units_are = tree_units g h units leaf node at l number n is;
}

-- ---- each once

-- the roots in order are the roots of the records
pub in_records : (v : Volume) (root : Root) → Has (roots_in_order v) root → Has (roots_in (stored_in v)) root
in_records v root m =
    let f = has_flat_from (λ (x : FileContent). roots_in (in_order unique_of x.stored)) v.files root m in
    let s = has_flat_from (λ (x : Stored). root_in x.body.content) (in_order unique_of f.0.stored) root f.2 in
    has_flat (λ (x : Stored). root_in x.body.content) (stored_in v) s.0 root (has_flat (λ (x : FileContent). x.stored) v.files f.0 s.0 f.1 (order_has_from unique_of f.0.stored s.0 s.1)) s.2

pub in_files : (v : Volume) (root : Root) → Has (roots_in (stored_in v)) root → Has (roots_in_order v) root
in_files v root m =
    let s = has_flat_from (λ (x : Stored). root_in x.body.content) (stored_in v) root m in
    let f = has_flat_from (λ (x : FileContent). x.stored) v.files s.0 s.1 in
    has_flat (λ (x : FileContent). roots_in (in_order unique_of x.stored)) v.files f.0 root f.1
    (has_flat (λ (x : Stored). root_in x.body.content) (in_order unique_of f.0.stored) s.0 root (order_has unique_of f.0.stored s.0 f.2) s.2)

pub once : (v : Volume) (left : Root → List ℕ) (unit : ℕ) → Contains (firsts (flat_map left (roots_in_order v))) unit ↔ Contains (flat_map left (roots_in (stored_in v))) unit
once v left unit = (to, from)
  where
    to : Contains (firsts (flat_map left (roots_in_order v))) unit → Contains (flat_map left (roots_in (stored_in v))) unit
    to there =
        let root = has_flat_from left (roots_in_order v) unit (firsts_from (flat_map left (roots_in_order v)) unit (contains_has (firsts (flat_map left (roots_in_order v))) unit there)) in
        has_contains (flat_map left (roots_in (stored_in v))) unit (has_flat left (roots_in (stored_in v)) root.0 unit (in_records v root.0 root.1) root.2)

    from : Contains (flat_map left (roots_in (stored_in v))) unit → Contains (firsts (flat_map left (roots_in_order v))) unit
    from there =
        let root = has_flat_from left (roots_in (stored_in v)) unit (contains_has (flat_map left (roots_in (stored_in v))) unit there) in
        has_contains (firsts (flat_map left (roots_in_order v))) unit (firsts_has (flat_map left (roots_in_order v)) unit (has_flat left (roots_in_order v) root.0 unit (in_files v root.0 root.1) root.2))

-- ---- a history of the table

pub history_of : (g : Geometry) (records : List LogRecord) (units : Units) (v : Volume) (h : History) → AllByRecursion (HoldsOf g records units v) content_parts → IsTable g (table_of units v) → AreItems g h → IsHistoryOn g units v h → IsHistoryOf g h (table_of units v)
history_of g records units v h parts rules items on = record {
  items = items;
  rules = rules;
  next_unique = on.next_unique;
  last = on.last;
  files = files_are g records units v h parts on;
  leaves_named = leaf_named g records units v h parts on;
  nodes_named = node_named g records units v h parts on;
  lengths = on.lengths;
  apart = apart g records units v h parts on;
  pages = on.pages;
}
