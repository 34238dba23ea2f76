-- Bytes that are read: whole items, and then the front of one more.
use Rattle.std.specs.Prelude.{◌≡◌, ◌⊎◌, ℕ, ◌<◌, List, [], ◌∷◌, ◌++◌, length, take, Option, Some, None}
use Rattle.std.specs.List.{flat_map}
use Rattle.disk_model.specs.Outside.{BeginsWith}
use Rattle.ex_base.specs.declared.geometry.Geometry.{Geometry}
use Rattle.ex_base.specs.Bytes.{IsBytes}
use Rattle.history_model.specs.Dumps.{IsNoDump}
use Rattle.history_model.specs.Stream.{head_bytes}
use Rattle.history_items.specs.Needs.{need_of_file, need_of_leaf, need_of_node, need_of_version}
use Rattle.history_fronts.specs.declared.turns.Turn.TheVariants.{Leaf as LeafTurn, Node as NodeTurn, Version as VersionTurn, File as FileTurn, End as NoTurn}
use Rattle.history_fronts.specs.declared.turns.Turn.{Turn}
use Rattle.history_fronts.specs.Fronts.{Front, IsDumpHead, IsNext, Item, Leads, begun, spelled, turn_of}

-- ---- how many bytes the next item needs of which some came

-- behind the end nothing may come
abbrev pub need_of_end : List ℕ → Option ℕ
need_of_end [] = Some 1
need_of_end (b ∷ bytes) = None

abbrev pub need_at : Geometry → ℕ → ℕ → Turn → List ℕ → Option ℕ
need_at g leaves nodes LeafTurn bytes = need_of_leaf g bytes
need_at g leaves nodes NodeTurn bytes = need_of_node g leaves nodes bytes
need_at g leaves nodes VersionTurn bytes = need_of_version g leaves nodes bytes
need_at g leaves nodes FileTurn bytes = need_of_file bytes
need_at g leaves nodes NoTurn bytes = need_of_end bytes

abbrev pub need_behind : Geometry → Front → List ℕ → Option ℕ
need_behind g f bytes = need_at g f.head.leaves (length f.nodes) (turn_of f) bytes

-- Each shorter front of the bytes asks for more than it has.
abbrev pub AsksBelow : (List ℕ → Option ℕ) → List ℕ → Type 0
AsksBelow need bytes = (k : ℕ) → k < length bytes → (n : ℕ) × (need (take k bytes) ≡ Some n) × (k < n)

-- So do the bytes themselves.
pub record Asks (need : List ℕ → Option ℕ) (bytes : List ℕ) : Type 0 where
  pub below : AsksBelow need bytes
  pub need_is : ℕ
  pub asks : need bytes ≡ Some need_is
  pub more : length bytes < need_is

-- ---- readings

-- The bytes are the head and the items up to a front, and then these.
pub record IsFrontOf (g : Geometry) (joined : List ℕ) (f : Front) (held : List ℕ) : Type 0 where
  pub items : List Item
  pub head : IsDumpHead g f.head
  pub leads : Leads g (begun f.head) items f
  pub joined_is : joined ≡ head_bytes f.head ++ (flat_map spelled items ++ held)

-- and these are the front of one more item, as far as fields tell
pub record IsReadTo (g : Geometry) (joined : List ℕ) (f : Front) (held : List ℕ) : Type 0 where
  pub bytes : IsBytes joined
  pub front : IsFrontOf g joined f held
  pub asks : Asks (need_behind g f) held

-- The held bytes can't go on behind the front: no item begins so, or they are one that may not come next.
pub record IsRefused (g : Geometry) (f : Front) (held : List ℕ) : Type 0 where
  pub below : AsksBelow (need_behind g f) held
  pub here : (need_behind g f held ≡ None) ⊎ (need_behind g f held ≡ Some (length held))
  pub none : (item : Item) → IsNext g f item → held ≡ spelled item → ⊥

-- no dump begins so
abbrev pub NoneBegins : Geometry → List ℕ → Type 0
NoneBegins g bytes = (stream : List ℕ) → BeginsWith stream bytes → IsNoDump stream g
