-- Bytes that were read so far, and bytes that can't be.
use Rattle.std.specs.Prelude.{◌≡◌, ℕ, ◌<◌, List, ◌++◌, length, Option, Some}
use Rattle.ex_base.specs.declared.geometry.Geometry.{Geometry}
use Rattle.ex_base.specs.Bytes.{IsBytes}
use Rattle.history_fronts.specs.Fronts.{Front}
use Rattle.history_fronts.specs.Readings.{AsksBelow, IsFrontOf, IsReadTo, NoneBegins, need_at, need_behind}
use Rattle.history_fronts.specs.Fronts.{turn_by}
use Rattle.history_fronts.specs.declared.turns.Turn.{Turn}
use Rattle.history_items.specs.Heads.{stream_head}
use Rattle.history_reads.specs.declared.progress.Progress.{Progress}
use Rattle.history_reads.specs.Kept.{Keeps}

-- the kind of the item that comes next
abbrev pub turn_now : Progress → Turn
turn_now p = turn_by (stream_head p.head) p.leaves p.nodes p.files p.missing

-- what the next item needs of which these bytes came
abbrev pub need_now : Progress → List ℕ → Option ℕ
need_now p bytes = need_at p.geometry p.head.leaves p.nodes (turn_now p) bytes

-- The joined bytes are read: whole items, and then the held ones, which are the front of one more.
pub record IsRead (g : Geometry) (joined : List ℕ) (p : Progress) (held : List ℕ) : Type 0 where
  pub front : Front
  pub to : IsReadTo g joined front held
  pub keeps : Keeps g front p

-- The joined bytes are whole items, and then the held ones, which are one more item by themselves.
pub record HasItem (g : Geometry) (joined : List ℕ) (p : Progress) (held : List ℕ) : Type 0 where
  pub front : Front
  pub bytes : IsBytes joined
  pub to : IsFrontOf g joined front held
  pub below : AsksBelow (need_behind g front) held
  pub whole : need_behind g front held ≡ Some (length held)
  pub keeps : Keeps g front p

-- Whatever follows, no dump begins with these bytes, and no state reads them.
pub record CantBeRead (g : Geometry) (joined : List ℕ) : Type 0 where
  pub none : (rest : List ℕ) → NoneBegins g (joined ++ rest)
  pub alone : (rest held : List ℕ) (p : Progress) → IsRead g (joined ++ rest) p held → ⊥
