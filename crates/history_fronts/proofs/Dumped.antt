-- The items of a dump lead to its end.
use Rattle.std.proofs.Common.{◌≡◌, ℕ, suc, ◌+◌, ◌<◌, ◌≤◌, not, ◌==◌, nat_lt, List, [], ◌∷◌, ◌++◌, length, map, Option, Some, None, refl, sym, ap, subst, ◌∙◌, arith, append_assoc}
use Rattle.std.specs.List.{flat_map, AllByRecursion}
use Rattle.std.proofs.lemmas.Bool.{cond-false, cond-true, eq-eqb, le-ltb, lt-ltb}
use Rattle.std.proofs.lemmas.List.{append-nil, length-append, length_push, map-append, nil_from_length}
use Rattle.ex_base.specs.declared.geometry.Geometry.{Geometry}
use Rattle.ex_base.specs.Even.{sum_of}
use Rattle.ex_base.specs.Order.{Rising, RisingTexts}
use Rattle.ex_base.proofs.Each.{each_as, split_each}
use Rattle.ex_base.proofs.Rows.{each-append, sum_of-append}
use Rattle.std.specs.Ordering.{nat_cmp}
use Rattle.std.specs.Cmp.Lexicographic.{slice_cmp}
use Rattle.std.specs.declared.cmp.Ordering.TheVariants.{Less}
use Rattle.trees.specs.Node.{Node}
use Rattle.table_model.specs.declared.table.Table.{Table}
use Rattle.history_model.specs.FilePages.{pages_for}
use Rattle.history_model.specs.History.{History, HistoryFile, HistoryVersion, number_in}
use Rattle.history_model.specs.Items.{AreNodeItems, IsFileItem, IsLeafItem, IsVersionItem}
use Rattle.history_model.specs.Stream.{StreamHead, head_of, misfit_of}
use Rattle.history_model.specs.Dumps.{IsHistoryOf}
use Rattle.history_fronts.specs.declared.turns.Turn.TheVariants.{File as FileTurn, Leaf as LeafTurn, End as NoTurn, Node as NodeTurn, Version as VersionTurn}
use Rattle.history_fronts.specs.Fronts.{AFile, ALeaf, ANode, AVersion, FitsTurn, Front, HasOlders, IsDumpHead, IsSound, Item, Leads, after, begun, file_items, history_of, items_of, one_of, turn_by, turn_of}
use Rattle.history_fronts.proofs.Prefixes.{dump_olders, front_needs, in_order_front}

-- ---- turns

turn_leaf : (head : StreamHead) (l n f m : ℕ) → l < head.leaves → turn_by head l n f m ≡ LeafTurn
turn_leaf head l n f m lt = cond-true (nat_lt l head.leaves) LeafTurn _ (lt-ltb l head.leaves lt)

turn_node : (head : StreamHead) (l n f m : ℕ) → head.leaves ≤ l → n < head.nodes → turn_by head l n f m ≡ NodeTurn
turn_node head l n f m le lt = cond-false (nat_lt l head.leaves) _ _ (le-ltb l head.leaves le) ∙ cond-true (nat_lt n head.nodes) NodeTurn _ (lt-ltb n head.nodes lt)

turn_version : (head : StreamHead) (l n f m : ℕ) → head.leaves ≤ l → head.nodes ≤ n → 0 < m → turn_by head l n f m ≡ VersionTurn
turn_version head l n f m le ne lt =
    cond-false (nat_lt l head.leaves) _ _ (le-ltb l head.leaves le) ∙ cond-false (nat_lt n head.nodes) _ _ (le-ltb n head.nodes ne) ∙ cond-true (nat_lt 0 m) VersionTurn _ (lt-ltb 0 m lt)

turn_file : (head : StreamHead) (l n f : ℕ) → head.leaves ≤ l → head.nodes ≤ n → f < head.files → turn_by head l n f 0 ≡ FileTurn
turn_file head l n f le ne lt =
    cond-false (nat_lt l head.leaves) _ _ (le-ltb l head.leaves le) ∙ cond-false (nat_lt n head.nodes) _ _ (le-ltb n head.nodes ne) ∙ cond-true (nat_lt f head.files) FileTurn NoTurn (lt-ltb f head.files lt)

turn_none : (head : StreamHead) (l n f : ℕ) → head.leaves ≤ l → head.nodes ≤ n → head.files ≤ f → turn_by head l n f 0 ≡ NoTurn
turn_none head l n f le ne fe =
    cond-false (nat_lt l head.leaves) _ _ (le-ltb l head.leaves le) ∙ cond-false (nat_lt n head.nodes) _ _ (le-ltb n head.nodes ne) ∙ cond-false (nat_lt f head.files) FileTurn NoTurn (le-ltb f head.files fe)

-- ---- ways one behind the other

leads_on : (g : Geometry) (p q r : Front) (xs ys : List Item) → Leads g p xs q → Leads g q ys r → Leads g p (xs ++ ys) r
leads_on g p q r [] ys a b = subst (λ (f : Front). Leads g f ys r) (sym a) b
leads_on g p q r (x ∷ xs) ys a b = (a.0, leads_on g (after p x) q r xs ys a.1 b)

abbrev front_at : StreamHead → List (List ℕ) → List Node → List HistoryFile → Option HistoryFile → ℕ → Front
front_at head leaves nodes files hand missing = record { head = head; leaves = leaves; nodes = nodes; files = files; hand = hand; missing = missing }

-- ---- leaves and nodes

no_files : (g : Geometry) (head : StreamHead) (leaves : List (List ℕ)) (nodes : List Node) → IsSound g (front_at head leaves nodes [] None 0)
no_files g head leaves nodes = record { names = tt; rising = tt; pages = omega arith; olders = tt; last = λ e. tt }

leaves_lead : (g : Geometry) (head : StreamHead) (done todo : List (List ℕ)) → length done + length todo ≡ head.leaves → AllByRecursion (IsLeafItem g) todo → Leads g (front_at head done [] [] None 0) (map ALeaf todo) (front_at head (done ++ todo) [] [] None 0)
leaves_lead g head done [] count are = ap (λ (ls : List (List ℕ)). front_at head ls [] [] None 0) (sym (append-nil done))
leaves_lead g head done (leaf ∷ todo) count are = (
  record {
    fits = subst (λ turn. FitsTurn g head.leaves 0 turn (ALeaf leaf)) (sym (turn_leaf head (length done) 0 0 0 (omega arith))) are.0;
    sound = no_files g head (done ++ leaf ∷ []) [];
  },
  subst (λ (ls : List (List ℕ)). Leads g (front_at head (done ++ leaf ∷ []) [] [] None 0) (map ALeaf todo) (front_at head ls [] [] None 0)) (append_assoc done (leaf ∷ []) todo)
      (leaves_lead g head (done ++ leaf ∷ []) todo (omega (arith, length_push done leaf)) are.1),
)

nodes_lead : (g : Geometry) (head : StreamHead) (leaves : List (List ℕ)) (done todo : List Node) → length leaves ≡ head.leaves → length done + length todo ≡ head.nodes → AreNodeItems g head.leaves (length done) todo → Leads g (front_at head leaves done [] None 0) (map ANode todo) (front_at head leaves (done ++ todo) [] None 0)
nodes_lead g head leaves done [] all count are = ap (λ (ns : List Node). front_at head leaves ns [] None 0) (sym (append-nil done))
nodes_lead g head leaves done (node ∷ todo) all count are = (
  record {
    fits = subst (λ turn. FitsTurn g head.leaves (length done) turn (ANode node)) (sym (turn_node head (length leaves) (length done) 0 0 (omega arith) (omega arith))) are.0;
    sound = no_files g head leaves (done ++ node ∷ []);
  },
  subst (λ (ns : List Node). Leads g (front_at head leaves (done ++ node ∷ []) [] None 0) (map ANode todo) (front_at head leaves ns [] None 0)) (append_assoc done (node ∷ []) todo)
      (nodes_lead g head leaves (done ++ node ∷ []) todo all (omega (arith, length_push done node))
      (subst (λ (n : ℕ). AreNodeItems g head.leaves n todo) (let step : suc (length done) ≡ length (done ++ node ∷ []) = omega (arith, length_push done node) in step) are.1)),
)

-- ---- files

abbrev name_in : HistoryFile → List ℕ
name_in f = f.name

abbrev AreRising : HistoryFile → Type 0
AreRising f = Rising (map number_in f.versions)

-- what the files of a dump have
record AreGood (g : Geometry) (head : StreamHead) (files : List HistoryFile) : Type 0 where
  items : AllByRecursion (IsFileItem g head.leaves head.nodes) files
  names : RisingTexts (map name_in files)
  pages : sum_of (pages_for g.page_size) files ≤ head.pages
  olders : AllByRecursion HasOlders files
  count : length files ≡ head.files

rising_items : (g : Geometry) (leaves nodes : ℕ) (f : HistoryFile) → IsFileItem g leaves nodes f → AreRising f
rising_items g leaves nodes f is = is.rising

part_sound : (g : Geometry) (head : StreamHead) (leaves : List (List ℕ)) (nodes : List Node) (files : List HistoryFile) (f : HistoryFile) (todo : List HistoryFile) (done more : List HistoryVersion) (missing : ℕ)
    → AreGood g head (files ++ f ∷ todo) → done ++ more ≡ f.versions → (missing ≡ 0 → more ≡ []) → IsSound g (front_at head leaves nodes files (Some (record { name = f.name; versions = done })) missing)
part_sound g head leaves nodes files f todo done more missing good split whole = record {
  names =
      let all : map name_in (files ++ f ∷ todo) ≡ (map name_in files ++ f.name ∷ []) ++ map name_in todo = map-append name_in files (f ∷ todo) ∙ sym (append_assoc (map name_in files) (f.name ∷ []) (map name_in todo)) in
      let mine : map name_in (files ++ part ∷ []) ≡ map name_in files ++ f.name ∷ [] = map-append name_in files (part ∷ []) in
      subst RisingTexts (sym mine) (in_order_front (λ (x y : List ℕ). slice_cmp nat_cmp x y ≡ Less) (map name_in files ++ f.name ∷ []) (map name_in todo) (subst RisingTexts all good.names));
  rising =
      let numbers : map number_in f.versions ≡ map number_in done ++ map number_in more = ap (map number_in) (sym split) ∙ map-append number_in done more in
      each-append AreRising files (part ∷ []) (each_as (IsFileItem g head.leaves head.nodes) AreRising files (rising_items g head.leaves head.nodes) items.0)
      (in_order_front (λ (x y : ℕ). x < y) (map number_in done) (map number_in more) (subst Rising numbers items.1.0.rising), tt);
  pages =
      let fewer : pages_for g.page_size part ≤ pages_for g.page_size f = subst (λ (vs : List HistoryVersion). pages_for g.page_size part ≤ pages_for g.page_size (record { name = f.name; versions = vs })) split (front_needs g.page_size f.name done more) in
      omega (arith, fewer, sum_of-append (pages_for g.page_size) files (part ∷ []), sum_of-append (pages_for g.page_size) files (f ∷ todo), good.pages);
  olders = olders.0;
  last = λ none.
      let all : f.versions ≡ done = sym split ∙ ap (λ (vs : List HistoryVersion). done ++ vs) (whole none) ∙ append-nil done in
      subst (λ (vs : List HistoryVersion). HasOlders (record { name = f.name; versions = vs })) all olders.1.0;
}
  where
    part : HistoryFile
    part = record { name = f.name; versions = done }

    items : AllByRecursion (IsFileItem g head.leaves head.nodes) files × AllByRecursion (IsFileItem g head.leaves head.nodes) (f ∷ todo)
    items = split_each (IsFileItem g head.leaves head.nodes) files (f ∷ todo) good.items

    olders : AllByRecursion HasOlders files × AllByRecursion HasOlders (f ∷ todo)
    olders = split_each HasOlders files (f ∷ todo) good.olders

versions_lead : (g : Geometry) (head : StreamHead) (leaves : List (List ℕ)) (nodes : List Node) (files : List HistoryFile) (f : HistoryFile) (todo : List HistoryFile) (done more : List HistoryVersion)
    → length leaves ≡ head.leaves → length nodes ≡ head.nodes → AreGood g head (files ++ f ∷ todo) → done ++ more ≡ f.versions → AllByRecursion (IsVersionItem g head.leaves head.nodes) more
    → Leads g (front_at head leaves nodes files (Some (record { name = f.name; versions = done })) (length more)) (map AVersion more) (front_at head leaves nodes files (Some f) 0)
versions_lead g head leaves nodes files f todo done [] all both good split are = ap (λ (vs : List HistoryVersion). front_at head leaves nodes files (Some (record { name = f.name; versions = vs })) 0) (sym (append-nil done) ∙ split)
versions_lead g head leaves nodes files f todo done (v ∷ more) all both good split are =
    let next : (done ++ v ∷ []) ++ more ≡ f.versions = append_assoc done (v ∷ []) more ∙ split in (
      record {
        fits = subst (λ (n : ℕ). FitsTurn g head.leaves n (turn_by head (length leaves) n (length (files ++ record { name = f.name; versions = done } ∷ [])) (length (v ∷ more))) (AVersion v)) (sym both)
            (subst (λ turn. FitsTurn g head.leaves head.nodes turn (AVersion v)) (sym (turn_version head (length leaves) head.nodes _ (length (v ∷ more)) (omega arith) (omega arith) (omega arith))) are.0);
        sound = part_sound g head leaves nodes files f todo (done ++ v ∷ []) more (length more) good next (nil_from_length more);
      },
      versions_lead g head leaves nodes files f todo (done ++ v ∷ []) more all both good next are.1,
    )

-- where the items of files lead
record ToEnd (g : Geometry) (head : StreamHead) (leaves : List (List ℕ)) (nodes : List Node) (files : List HistoryFile) (from : Front) (items : List Item) : Type 0 where
  before : List HistoryFile
  hand : Option HistoryFile
  leads : Leads g from items (front_at head leaves nodes before hand 0)
  all : before ++ one_of hand ≡ files

files_lead : (g : Geometry) (head : StreamHead) (leaves : List (List ℕ)) (nodes : List Node) (files before : List HistoryFile) (hand : Option HistoryFile) (todo : List HistoryFile)
    → length leaves ≡ head.leaves → length nodes ≡ head.nodes → AreGood g head files → (before ++ one_of hand) ++ todo ≡ files → ToEnd g head leaves nodes files (front_at head leaves nodes before hand 0) (flat_map file_items todo)
files_lead g head leaves nodes files before hand [] all both good split = record { before = before; hand = hand; leads = refl; all = sym (append-nil (before ++ one_of hand)) ∙ split }
files_lead g head leaves nodes files before hand (f ∷ todo) all both good split =
    let here : AreGood g head ((before ++ one_of hand) ++ f ∷ todo) = subst (AreGood g head) (sym split) good in
    let is = (split_each (IsFileItem g head.leaves head.nodes) (before ++ one_of hand) (f ∷ todo) here.items).1.0 in
    let count : length (before ++ one_of hand) < head.files = omega (arith, here.count, length-append (before ++ one_of hand) (f ∷ todo)) in
    let rest = files_lead g head leaves nodes files (before ++ one_of hand) (Some f) todo all both good (append_assoc (before ++ one_of hand) (f ∷ []) todo ∙ split) in
    let turn = turn_file head (length leaves) (length nodes) (length (before ++ one_of hand)) (omega arith) (omega arith) count in
    record {
      before = rest.before;
      hand = rest.hand;
      leads = (
        record {
          fits = subst (λ t. FitsTurn g head.leaves (length nodes) t (AFile (record { name = f.name; versions = length f.versions }))) (sym turn) (is.name, is.few);
          sound = part_sound g head leaves nodes (before ++ one_of hand) f todo [] f.versions (length f.versions) here refl (nil_from_length f.versions);
        },
        leads_on g _ (front_at head leaves nodes (before ++ one_of hand) (Some f) 0) _ (map AVersion f.versions) (flat_map file_items todo)
            (versions_lead g head leaves nodes (before ++ one_of hand) f todo [] f.versions all both here refl is.versions) rest.leads,
      );
      all = rest.all;
    }

-- ---- the whole dump

same_sizes : (g : Geometry) (h : History) → misfit_of g (head_of g h) ≡ None
same_sizes g h =
    cond-false (not (g.page_size == g.page_size)) _ _ (ap not (eq-eqb g.page_size g.page_size refl))
    ∙ cond-false (not (g.seg_len == g.seg_len)) _ _ (ap not (eq-eqb g.seg_len g.seg_len refl))
    ∙ cond-false (not (g.fan == g.fan)) _ _ (ap not (eq-eqb g.fan g.fan refl))

pub dumps_lead : (g : Geometry) (h : History) (t : Table) → IsHistoryOf g h t → IsDumpHead g (head_of g h) × (f : Front) × Leads g (begun (head_of g h)) (items_of h) f × (turn_of f ≡ NoTurn) × (history_of f ≡ h)
dumps_lead g h t is =
    let good : AreGood g (head_of g h) h.files = record { items = is.items.files; names = is.items.names; pages = omega (arith, is.pages); olders = dump_olders g h t is; count = refl } in
    let files = files_lead g (head_of g h) h.leaves h.nodes h.files [] None h.files refl refl good refl in
    let nodes = nodes_lead g (head_of g h) h.leaves [] h.nodes refl (omega arith) is.items.nodes in
    let leaves = leaves_lead g (head_of g h) [] h.leaves (omega arith) is.items.leaves in
    let end : Front = front_at (head_of g h) h.leaves h.nodes files.before files.hand 0 in
    let none = turn_none (head_of g h) (length h.leaves) (length h.nodes) (length (files.before ++ one_of files.hand)) (omega arith) (omega arith) (omega (arith, ap length files.all)) in (
      record { fits = is.items.head; sizes = same_sizes g h; some = omega (arith, is.rules.some, is.next_unique); few = is.items.few },
      front_at (head_of g h) h.leaves h.nodes files.before files.hand 0,
      leads_on g (begun (head_of g h)) (front_at (head_of g h) h.leaves [] [] None 0) _ (map ALeaf h.leaves) (map ANode h.nodes ++ flat_map file_items h.files) leaves
          (leads_on g (front_at (head_of g h) h.leaves [] [] None 0) (front_at (head_of g h) h.leaves h.nodes [] None 0) _ (map ANode h.nodes) (flat_map file_items h.files) nodes files.leads),
      none,
      ap (λ (fs : List HistoryFile). made_history h fs) files.all,
    )
  where
    made_history : History → List HistoryFile → History
    made_history h fs = record { next_unique = h.next_unique; last = h.last; pages = h.pages; leaves = h.leaves; nodes = h.nodes; files = fs }
