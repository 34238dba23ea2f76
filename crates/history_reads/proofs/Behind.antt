-- What a reader needs is what the front asks.
use Rattle.std.proofs.Common.{◌≡◌, ℕ, ◌+◌, ◌<◌, ◌≤◌, List, [], ◌∷◌, ◌++◌, length, Option, Some, None, refl, ap, ◌∙◌, arith}
use Rattle.std.proofs.lemmas.Option.{same_Some}
use Rattle.ex_base.specs.declared.geometry.Geometry.{Geometry}
use Rattle.history_model.specs.Stream.{StreamHead}
use Rattle.history_items.specs.ItemLaws.{NeedStays}
use Rattle.history_items.proofs.Stays.{file_stays, leaf_stays, node_stays, version_stays}
use Rattle.history_fronts.specs.declared.turns.Turn.{Turn}
use Rattle.history_fronts.specs.declared.turns.Turn.TheVariants.{Leaf as LeafTurn, Node as NodeTurn, Version as VersionTurn, File as FileTurn, End as NoTurn}
use Rattle.history_fronts.specs.Fronts.{Front, files_of, turn_by, turn_of}
use Rattle.history_fronts.specs.Readings.{Asks, need_at, need_behind, need_of_end}
use Rattle.history_reads.specs.declared.progress.Progress.{Progress}
use Rattle.history_reads.specs.Kept.{Keeps}
use Rattle.history_reads.specs.Reads.{need_now, turn_now}

-- ---- by the numbers of the front

abbrev need_with : Geometry → List ℕ → StreamHead → ℕ → ℕ → ℕ → ℕ → Option ℕ
need_with g bytes head l n f m = need_at g head.leaves n (turn_by head l n f m) bytes

pub turn_same : (g : Geometry) (f : Front) (p : Progress) → Keeps g f p → turn_now p ≡ turn_of f
turn_same g f p k =
    ap (λ (h : StreamHead). turn_by h p.leaves p.nodes p.files p.missing) k.head
    ∙ ap (λ (x : ℕ). turn_by f.head x p.nodes p.files p.missing) k.leaves
    ∙ ap (λ (x : ℕ). turn_by f.head (length f.leaves) x p.files p.missing) k.nodes
    ∙ ap (λ (x : ℕ). turn_by f.head (length f.leaves) (length f.nodes) x p.missing) k.files
    ∙ ap (λ (x : ℕ). turn_by f.head (length f.leaves) (length f.nodes) (length (files_of f)) x) k.missing

pub need_same : (g : Geometry) (f : Front) (p : Progress) (bytes : List ℕ) → Keeps g f p → need_now p bytes ≡ need_behind g f bytes
need_same g f p bytes k =
    ap (λ (h : Geometry). need_at h p.head.leaves p.nodes (turn_now p) bytes) k.geometry
    ∙ ap (λ (h : StreamHead). need_at g h.leaves p.nodes (turn_now p) bytes) k.head
    ∙ ap (λ (n : ℕ). need_at g f.head.leaves n (turn_now p) bytes) k.nodes
    ∙ ap (λ (t : Turn). need_at g f.head.leaves (length f.nodes) t bytes) (turn_same g f p k)

-- ---- what is asked of no bytes, and of some more

record AsksNone (g : Geometry) (leaves nodes : ℕ) (turn : Turn) : Type 0 where
  n : ℕ
  asks : need_at g leaves nodes turn [] ≡ Some n
  some : 0 < n

asks_none : (g : Geometry) (leaves nodes : ℕ) (turn : Turn) → AsksNone g leaves nodes turn
asks_none g leaves nodes LeafTurn = record { n = 4; asks = refl; some = omega arith }
asks_none g leaves nodes NodeTurn = record { n = 3; asks = refl; some = omega arith }
asks_none g leaves nodes VersionTurn = record { n = 18; asks = refl; some = omega arith }
asks_none g leaves nodes FileTurn = record { n = 1; asks = refl; some = omega arith }
asks_none g leaves nodes NoTurn = record { n = 1; asks = refl; some = omega arith }

pub asks_at_start : (g : Geometry) (leaves nodes : ℕ) (turn : Turn) → (n : ℕ) × (need_at g leaves nodes turn [] ≡ Some n) × (0 < n)
asks_at_start g leaves nodes turn = let none = asks_none g leaves nodes turn in (none.n, none.asks, none.some)

pub none_asks : (g : Geometry) (f : Front) → Asks (need_behind g f) []
none_asks g f =
    let none = asks_none g f.head.leaves (length f.nodes) (turn_of f) in
    record { below = λ k lt. absurd (omega (arith, lt)); need_is = none.n; asks = none.asks; more = none.some }

pub asking_none : (p : Progress) → (n : ℕ) × (need_now p [] ≡ Some n) × (length {A = ℕ} [] < n)
asking_none p = let none = asks_none p.geometry p.head.leaves p.nodes (turn_now p) in (none.n, none.asks, none.some)

end_stays : NeedStays need_of_end
end_stays [] [] n e few = e
end_stays [] (b ∷ more) n e few = absurd (let one : 1 ≡ n = same_Some 1 n e in omega arith)
end_stays (b ∷ bytes) more n e few = absurd (let no : None ≡ Some n = e in cc)

pub turn_stays : (g : Geometry) (leaves nodes : ℕ) (turn : Turn) → NeedStays (need_at g leaves nodes turn)
turn_stays g leaves nodes LeafTurn = leaf_stays g
turn_stays g leaves nodes NodeTurn = node_stays g leaves nodes
turn_stays g leaves nodes VersionTurn = version_stays g leaves nodes
turn_stays g leaves nodes FileTurn = file_stays
turn_stays g leaves nodes NoTurn = end_stays
