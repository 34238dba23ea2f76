-- Where a stream goes on.
use Rattle.std.specs.Prelude.{◌≡◌, ◌≤◌, ◌<◌, ◌+◌, ◌^◌, ℕ, suc, Bool, true, false, nat_lt, if◌then◌else◌, List, [], ◌++◌, length, drop, Option, Some, None}
use Rattle.std.specs.List.{flat_map}
use Rattle.ex_base.specs.declared.geometry.Geometry.{Geometry}
use Rattle.ex_base.specs.Area.{catalog_no}
use Rattle.object_files.specs.Catalog.{FileEntry}
use Rattle.object_files.specs.Edits.{entries_on}
use Rattle.record_lists.specs.declared.Listed.{Listed}
use Rattle.volume_edits.specs.Ported.{index_named}
use Rattle.history_model.specs.History.{History, HistoryFile, HistoryVersion, numbered}
use Rattle.history_model.specs.Stream.{file_item, leaf_item, node_item, stream_of, version_item}
use Rattle.history_plans.specs.Plans.{StreamPlan}
use Rattle.history_dump.specs.Items.{records_of}
use Rattle.history_dump.specs.declared.position.Position.{Position}
use Rattle.history_dump.specs.declared.position.Position.TheVariants.{Head, Leaf, Node, File, Version, End}

-- ---- one position after the other

-- what comes behind the item at a position
abbrev pub position_after : Position → Position
position_after Head = Leaf 0
position_after (Leaf at) = Leaf (suc at)
position_after (Node at) = Node (suc at)
position_after (File at) = Version (suc at) 0
position_after (Version next at) = Version next (suc at)
position_after End = End

-- The index of the item behind it can be counted.
abbrev pub IsBelow : Position → Type 0
IsBelow Head = Unit {0}
IsBelow (Leaf at) = at + 1 < 2 ^ 32
IsBelow (Node at) = at + 1 < 2 ^ 32
IsBelow (File at) = at + 1 < 2 ^ 32
IsBelow (Version next at) = at + 1 < 2 ^ 64
IsBelow End = Unit {0}

abbrev pub file_or_end : StreamPlan → ℕ → Position
file_or_end plan at = if nat_lt at plan.head.files then File at else End

abbrev pub node_or_file : StreamPlan → ℕ → Position
node_or_file plan at = if nat_lt at (length plan.nodes) then Node at else file_or_end plan 0

abbrev pub leaf_or_node : StreamPlan → ℕ → Position
leaf_or_node plan at = if nat_lt at (length plan.leaves) then Leaf at else node_or_file plan 0

-- The position of the same item, which there is, where so many records are listed.
abbrev pub settled : StreamPlan → ℕ → Position → Position
settled plan listed Head = Head
settled plan listed (Leaf at) = leaf_or_node plan at
settled plan listed (Node at) = node_or_file plan at
settled plan listed (File at) = file_or_end plan at
settled plan listed (Version next at) = if nat_lt at listed then Version next at else file_or_end plan next
settled plan listed End = End

-- there is an item at the position
abbrev pub IsThere : StreamPlan → ℕ → Position → Type 0
IsThere plan listed Head = Unit {0}
IsThere plan listed (Leaf at) = at < length plan.leaves
IsThere plan listed (Node at) = at < length plan.nodes
IsThere plan listed (File at) = at < plan.head.files
IsThere plan listed (Version next at) = at < listed
IsThere plan listed End = ⊥

-- ---- what comes from a position on

abbrev pub versions_if : Option HistoryFile → List HistoryVersion
versions_if None = []
versions_if (Some f) = f.versions

abbrev pub is_end : Position → Bool
is_end End = true
is_end position = false

-- the versions of the file in front of the one at an index
abbrev pub versions_before : History → ℕ → List HistoryVersion
versions_before h next = versions_if (numbered h.files next)

-- the bytes of the stream from a position on
abbrev pub stream_from : Geometry → History → Position → List ℕ
stream_from g h Head = stream_of g h
stream_from g h (Leaf at) = flat_map leaf_item (drop at h.leaves) ++ (flat_map node_item h.nodes ++ flat_map file_item h.files)
stream_from g h (Node at) = flat_map node_item (drop at h.nodes) ++ flat_map file_item h.files
stream_from g h (File at) = flat_map file_item (drop at h.files)
stream_from g h (Version next at) = flat_map version_item (drop at (versions_before h next)) ++ flat_map file_item (drop next h.files)
stream_from g h End = []

-- Behind the head of a file its records are listed: those of the entry of the catalog in front of that at an index.
abbrev pub AreRecordsOf : (ℕ → List ℕ) → ℕ → List Listed → Type 0
AreRecordsOf image next records = (entry : FileEntry) × (numbered (entries_on (image catalog_no)) next ≡ Some entry) × (records ≡ records_of image (index_named entry))

-- The position is one of the stream of a history, and behind the head of a file its records are listed.
abbrev pub IsAt : (ℕ → List ℕ) → History → Position → List Listed → Type 0
IsAt image h Head records = Unit {0}
IsAt image h (Leaf at) records = at ≤ length h.leaves
IsAt image h (Node at) records = at ≤ length h.nodes
IsAt image h (File at) records = at ≤ length h.files
IsAt image h (Version next at) records = (at ≤ length (versions_before h next)) × (next ≤ length h.files) × AreRecordsOf image next records
IsAt image h End records = Unit {0}
