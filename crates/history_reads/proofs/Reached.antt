-- What each front has that is reached by items.
use Rattle.std.proofs.Common.{◌≡◌, ◌<◌, ◌≤◌, List, [], ◌∷◌, ◌++◌, length, Option, Some, None, refl, sym, ap, subst, ◌∙◌, arith}
use Rattle.ex_base.specs.declared.geometry.Geometry.{Geometry}
use Rattle.history_model.specs.History.{HistoryFile, HistoryVersion}
use Rattle.history_model.specs.Stream.{StreamHead}
use Rattle.history_fronts.specs.declared.turns.Turn.{Turn}
use Rattle.history_fronts.specs.declared.turns.Turn.TheVariants.{Leaf as LeafTurn, Node as NodeTurn, Version as VersionTurn, File as FileTurn}
use Rattle.history_fronts.specs.Fronts.{AFile, ALeaf, ANode, AVersion, FitsTurn, Front, IsSound, Item, Leads, after, begun, files_of, turn_of, with_version}
use Rattle.history_fronts.proofs.Said.{Says, file_fits, leaf_fits, node_fits, says_of, version_fits}
use Rattle.history_reads.specs.Kept.{IsReached}

says_front : (f : Front) (t : Turn) → turn_of f ≡ t → Says f.head (length f.leaves) (length f.nodes) (length (files_of f)) f.missing t
says_front f t e = says_of f.head (length f.leaves) (length f.nodes) (length (files_of f)) f.missing t e

some_more : (v : HistoryVersion) (o : Option HistoryFile) (file : HistoryFile) → o ≡ Some file → (later : HistoryFile) × (with_version v o ≡ Some later)
some_more v o file e = (record { name = file.name; versions = file.versions ++ v ∷ [] }, ap (with_version v) e)

pub reached_next : (g : Geometry) (f : Front) (item : Item) → IsReached f → FitsTurn g f.head.leaves (length f.nodes) (turn_of f) item → IsReached (after f item)
reached_next g f (ALeaf leaf) is fits =
    let says : length f.leaves < f.head.leaves = says_front f LeafTurn (leaf_fits g f.head.leaves (length f.nodes) (turn_of f) leaf fits).0 in
    let none = is.no_nodes says in
    record { no_files = λ lt. (none.1, none.2); no_nodes = λ lt. none; hand = is.hand; first = is.first }
reached_next g f (ANode node) is fits =
    let says : (f.head.leaves ≤ length f.leaves) × (length f.nodes < f.head.nodes) = says_front f NodeTurn (node_fits g f.head.leaves (length f.nodes) (turn_of f) node fits).0 in
    let none = is.no_files says.1 in
    record { no_files = λ lt. none; no_nodes = λ lt. absurd (omega (arith, says.0, lt)); hand = is.hand; first = is.first }
reached_next g f (AFile file) is fits =
    let says : (f.head.leaves ≤ length f.leaves) × (f.head.nodes ≤ length f.nodes) × (f.missing ≡ 0) × (length (files_of f) < f.head.files) = says_front f FileTurn (file_fits g f.head.leaves (length f.nodes) (turn_of f) file fits).0 in
    record {
      no_files = λ lt. absurd (omega (arith, says.1, lt));
      no_nodes = λ lt. absurd (omega (arith, says.0, lt));
      hand = λ lt. (record { name = file.name; versions = [] }, refl);
      first = λ e. absurd (cc);
    }
reached_next g f (AVersion v) is fits =
    let says : (f.head.leaves ≤ length f.leaves) × (f.head.nodes ≤ length f.nodes) × (0 < f.missing) = says_front f VersionTurn (version_fits g f.head.leaves (length f.nodes) (turn_of f) v fits).0 in
    let hand = is.hand says.2 in
    let later = some_more v f.hand hand.0 hand.1 in
    record {
      no_files = λ lt. absurd (omega (arith, says.1, lt));
      no_nodes = λ lt. absurd (omega (arith, says.0, lt));
      hand = λ lt. later;
      first = λ e. absurd (let no : Some later.0 ≡ None = sym later.1 ∙ e in cc);
    }

pub reached_by : (g : Geometry) (p f : Front) (items : List Item) → IsReached p → IsSound g p → Leads g p items f → IsReached f × IsSound g f
reached_by g p f [] is sound leads = (subst IsReached leads is, subst (IsSound g) leads sound)
reached_by g p f (item ∷ items) is sound leads = reached_by g (after p item) f items (reached_next g p item is leads.0.fits) leads.0.sound leads.1

pub reached_begun : (head : StreamHead) → IsReached (begun head)
reached_begun head = record { no_files = λ lt. (refl, refl); no_nodes = λ lt. (refl, refl, refl); hand = λ lt. absurd (omega (arith, lt)); first = λ e. refl }

pub sound_begun : (g : Geometry) (head : StreamHead) → IsSound g (begun head)
sound_begun g head = record { names = tt; rising = tt; pages = omega arith; olders = tt; last = λ e. tt }
