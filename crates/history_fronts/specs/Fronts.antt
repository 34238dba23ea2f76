-- Fronts of streams, item by item: what may come next, and what every front of a dump has.
use Rattle.std.specs.Prelude.{◌≡◌, ℕ, zero, suc, ◌≤◌, nat_lt, if◌then◌else◌, List, [], ◌∷◌, ◌++◌, length, map, Option, Some, None, Contains, IfSome}
use Rattle.std.specs.List.{flat_map, AllByRecursion}
use Rattle.ex_base.specs.declared.geometry.Geometry.{Geometry}
use Rattle.ex_base.specs.Even.{sum_of}
use Rattle.ex_base.specs.Order.{Rising, RisingTexts}
use Rattle.ex_base.specs.Sizes.{files_most}
use Rattle.trees.specs.Node.{Node}
use Rattle.history_model.specs.FilePages.{pages_for}
use Rattle.history_model.specs.History.{History, HistoryFile, HistoryVersion, number_in}
use Rattle.history_model.specs.Items.{IsLeafItem, IsNodeItem, IsVersionItem}
use Rattle.history_model.specs.Stream.{FitsHead, StreamHead, leaf_item, misfit_of, node_item, version_item}
use Rattle.history_items.specs.ItemLaws.{FileFront, IsFileFront, front_bytes}
use Rattle.history_fronts.specs.declared.turns.Turn.{Turn}
use Rattle.history_fronts.specs.declared.turns.Turn.TheVariants.{Leaf as LeafTurn, Node as NodeTurn, Version as VersionTurn, File as FileTurn, End as NoTurn}

-- ---- items

-- an item behind the head of a stream; of a file its head alone, behind which its versions come
pub data Item : Type 0 where
  ALeaf : List ℕ → Item
  ANode : Node → Item
  AFile : FileFront → Item
  AVersion : HistoryVersion → Item

abbrev pub spelled : Item → List ℕ
spelled (ALeaf leaf) = leaf_item leaf
spelled (ANode node) = node_item node
spelled (AFile front) = front_bytes front
spelled (AVersion v) = version_item v

-- the items of a history behind its head, in order
abbrev pub file_items : HistoryFile → List Item
file_items f = AFile (record { name = f.name; versions = length f.versions }) ∷ map AVersion f.versions

abbrev pub items_of : History → List Item
items_of h = map ALeaf h.leaves ++ (map ANode h.nodes ++ flat_map file_items h.files)

-- ---- fronts

-- What came in whole items: the head, leaves and nodes, and files with their versions.
pub record Front : Type 0 where
  pub head : StreamHead
  pub leaves : List (List ℕ)
  pub nodes : List Node
  -- the files before the last one
  pub files : List HistoryFile
  -- the last file, with the versions that came
  pub hand : Option HistoryFile
  -- how many versions of it are still to come
  pub missing : ℕ

abbrev pub one_of : Option HistoryFile → List HistoryFile
one_of None = []
one_of (Some f) = f ∷ []

abbrev pub files_of : Front → List HistoryFile
files_of f = f.files ++ one_of f.hand

-- the head alone
abbrev pub begun : StreamHead → Front
begun head = record { head = head; leaves = []; nodes = []; files = []; hand = None; missing = 0 }

abbrev pub with_version : HistoryVersion → Option HistoryFile → Option HistoryFile
with_version v None = None
with_version v (Some f) = Some (record { name = f.name; versions = f.versions ++ v ∷ [] })

abbrev pub one_less : ℕ → ℕ
one_less zero = zero
one_less (suc n) = n

-- with one more item
abbrev pub after : Front → Item → Front
after f (ALeaf leaf) = record { head = f.head; leaves = f.leaves ++ leaf ∷ []; nodes = f.nodes; files = f.files; hand = f.hand; missing = f.missing }
after f (ANode node) = record { head = f.head; leaves = f.leaves; nodes = f.nodes ++ node ∷ []; files = f.files; hand = f.hand; missing = f.missing }
after f (AFile front) = record { head = f.head; leaves = f.leaves; nodes = f.nodes; files = files_of f; hand = Some (record { name = front.name; versions = [] }); missing = front.versions }
after f (AVersion v) = record { head = f.head; leaves = f.leaves; nodes = f.nodes; files = f.files; hand = with_version v f.hand; missing = one_less f.missing }

-- the history that a whole front is of
abbrev pub history_of : Front → History
history_of f = record { next_unique = f.head.next_unique; last = f.head.last; pages = f.head.pages; leaves = f.leaves; nodes = f.nodes; files = files_of f }

-- ---- what comes next

-- behind so many leaves, nodes and files, where so many versions of the last file are to come
abbrev pub turn_by : StreamHead → ℕ → ℕ → ℕ → ℕ → Turn
turn_by head leaves nodes files missing =
    if nat_lt leaves head.leaves then LeafTurn
    else if nat_lt nodes head.nodes then NodeTurn
    else if nat_lt 0 missing then VersionTurn
    else if nat_lt files head.files then FileTurn
    else NoTurn

abbrev pub turn_of : Front → Turn
turn_of f = turn_by f.head (length f.leaves) (length f.nodes) (length (files_of f)) f.missing

-- the item is one, and of the kind that comes next, behind so many leaves and nodes
abbrev pub FitsTurn : Geometry → ℕ → ℕ → Turn → Item → Type 0
FitsTurn g leaves nodes LeafTurn (ALeaf leaf) = IsLeafItem g leaf
FitsTurn g leaves nodes NodeTurn (ANode node) = IsNodeItem g leaves nodes node
FitsTurn g leaves nodes VersionTurn (AVersion v) = IsVersionItem g leaves nodes v
FitsTurn g leaves nodes FileTurn (AFile front) = IsFileFront front
FitsTurn g leaves nodes turn item = ⊥

-- ---- what every front of a dump has

-- each version that one is derived from is in the file
abbrev pub HasOlders : HistoryFile → Type 0
HasOlders f = AllByRecursion (λ (v : HistoryVersion). IfSome v.older (Contains (map number_in f.versions))) f.versions

pub record IsSound (g : Geometry) (f : Front) : Type 0 where
  -- Names rise, and in each file the numbers of versions.
  pub names : RisingTexts (map (λ (file : HistoryFile). file.name) (files_of f))
  pub rising : AllByRecursion (λ (file : HistoryFile). Rising (map number_in file.versions)) (files_of f)
  -- The files need no more pages than the head says.
  pub pages : sum_of (pages_for g.page_size) (files_of f) ≤ f.head.pages
  -- What the versions of whole files are derived from is there.
  pub olders : AllByRecursion HasOlders f.files
  pub last : f.missing ≡ 0 → IfSome f.hand HasOlders

-- the item may come next: it fits, and the front with it is sound
pub record IsNext (g : Geometry) (f : Front) (item : Item) : Type 0 where
  pub fits : FitsTurn g f.head.leaves (length f.nodes) (turn_of f) item
  pub sound : IsSound g (after f item)

-- the items lead from one front to the other
abbrev pub Leads : Geometry → Front → List Item → Front → Type 0
Leads g f [] k = f ≡ k
Leads g f (item ∷ items) k = IsNext g f item × Leads g (after f item) items k

-- The head may be that of a dump for volumes of these sizes.
pub record IsDumpHead (g : Geometry) (head : StreamHead) : Type 0 where
  pub fits : FitsHead head
  pub sizes : misfit_of g head ≡ None
  pub some : 1 ≤ head.next_unique
  pub few : head.files ≤ files_most g
