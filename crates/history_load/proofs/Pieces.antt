-- A leaf or a node that was taken.
use Rattle.std.proofs.Common.{◌≡◌, ◌<◌, ◌≤◌, ◌+◌, ◌*◌, ◌-◌, ℕ, zero, suc, Bool, true, false, nat_lt, List, [], ◌∷◌, ◌++◌, length, map, drop, take, Option, Some, None, refl, sym, ap, subst, ◌∙◌, add-one, arith}
use Rattle.std.specs.List.{AllZip, flat_map, zip}
use Rattle.std.specs.Prelude.{if◌then◌else◌}
use Rattle.std.proofs.lemmas.Bool.{ltb-false}
use Rattle.std.proofs.lemmas.List.{length_push, take-append-drop, take_at}
use Rattle.disk_model.specs.Outside.{Outside}
use Rattle.ex_base.specs.declared.geometry.Geometry.{Geometry}
use Rattle.ex_base.specs.Fields.{four_bytes, length-field_bytes}
use Rattle.ex_base.specs.declared.names.Area.{Area}
use Rattle.ex_base.specs.declared.names.Area.TheVariants.{Page, Segment}
use Rattle.ex_base.proofs.Each.{each_as}
use Rattle.ex_base.proofs.FieldLaws.{same_front}
use Rattle.object_files.specs.Catalog.{FileEntry, name_of}
use Rattle.object_files.specs.Edits.{entries_on}
use Rattle.trees.specs.Node.{Node}
use Rattle.trees.specs.Trees.{Units}
use Rattle.volume_model.specs.Homes.{home}
use Rattle.volume_model.specs.Parts.{HasIndex}
use Rattle.volume_model.specs.Volume.{FileContent}
use Rattle.history_volumes.specs.Histories.{IsFileOn}
use Rattle.history_writes.specs.Places.{leaf_place, node_place}
use Rattle.history_counts.specs.Pages.{pages_by}
use Rattle.history_counts.specs.declared.page_needs.PageNeeds.{PageNeeds}
use Rattle.history_fronts.specs.declared.turns.Turn.{Turn}
use Rattle.history_fronts.specs.declared.turns.Turn.TheVariants.{Leaf as LeafTurn, Node as NodeTurn}
use Rattle.ex_base.specs.Fields.{number_at}
use Rattle.history_fronts.specs.Fronts.{ALeaf, ANode, FitsTurn, Front, Item, after, files_of, history_of, one_of, spelled, turn_of}
use Rattle.history_fronts.specs.Readings.{IsReadTo, need_at}
use Rattle.history_fronts.proofs.TurnItems.{leaf_of_turn}
use Rattle.history_items.specs.Heads.{stream_head}
use Rattle.history_items.specs.declared.head.Head.{Head}
use Rattle.history_model.specs.History.{HistoryFile, all_versions}
use Rattle.history_model.specs.Items.{IsChild, IsLeafItem, IsNodeItem, children_most}
use Rattle.history_model.specs.Stream.{StreamHead, lack_of, leaf_item}
use Rattle.history_reads.specs.Kept.{AreOfOneStream, Keeps}
use Rattle.history_reads.specs.Reads.{HasItem, IsRead, turn_now}
use Rattle.history_reads.specs.declared.progress.Progress.{Progress}
use Rattle.history_reads.proofs.Items.{node_named, node_whole}
use Rattle.history_items.specs.Reads.{node_read}
use Rattle.history_writes.specs.Files.{AreFilesOn}
use Rattle.history_writes.specs.Pieces.{ArePiecesOn}
use Rattle.history_load.specs.AtHand.{IsReady}
use Rattle.history_load.specs.Loading.{HasFileIf, HasWholeItem, IsLoader, IsNextWithin, LoadsItem, StandTo, TakesItem, name_in, page_behind}
use Rattle.history_load.specs.declared.files_at_hand.FilesAtHand.{FilesAtHand}
use Rattle.history_load.specs.declared.loader.Loader.{Loader}
use Rattle.history_load.proofs.Facts.{reached, says_front, turn_is}
use Rattle.history_load.proofs.Growing.{no_files_on}
use Rattle.history_load.proofs.Taken.{took}

-- ---- what it does to what is kept of the stream

-- No file came before it.
pub record PieceIs (f k : Front) (was now : Progress) (item : Item) : Type 0 where
  pub front_is : k ≡ after f item
  pub none : files_of f ≡ []
  pub none_after : files_of (after f item) ≡ []
  pub missing_was : was.missing ≡ 0
  pub missing : now.missing ≡ 0
  pub files : now.files ≡ was.files
  pub needs : now.needs ≡ was.needs

none_missing : (f : Front) → (0 < f.missing → (file : HistoryFile) × (f.hand ≡ Some file)) → f.hand ≡ None → f.missing ≡ 0
none_missing f hand none = by_count f.missing refl
  where
    by_count : (n : ℕ) → f.missing ≡ n → f.missing ≡ 0
    by_count zero e = e
    by_count (suc n) e = absurd (let has = hand (omega (arith, e)) in let no : Some has.0 ≡ None = sym has.1 ∙ none in cc)

no_files : (f : Front) → f.files ≡ [] → f.hand ≡ None → files_of f ≡ []
no_files f files hand = ap (λ (fs : List HistoryFile). fs ++ one_of f.hand) files ∙ ap one_of hand

-- ---- a leaf

pub record LeafIs (g : Geometry) (held : List ℕ) (f k : Front) (was now : Progress) : Type 0 where
  pub is : IsLeafItem g (drop 4 held)
  pub number : now.leaves ≡ suc (length f.leaves)
  pub more : length f.leaves < f.head.leaves
  pub piece : PieceIs f k was now (ALeaf (drop 4 held))

behind_length : (held leaf : List ℕ) → held ≡ leaf_item leaf → leaf ≡ drop 4 held
behind_length held leaf is =
    let four = length-field_bytes 4 (length leaf) in
    let front : take 4 held ≡ four_bytes (length leaf) = ap (take 4) is ∙ take_at (four_bytes (length leaf)) leaf 4 four in
    (same_front (four_bytes (length leaf)) (take 4 held) leaf (drop 4 held) (sym (ap (λ (bytes : List ℕ). length bytes) front)) (sym is ∙ sym (take-append-drop 4 held))).1

pub leaf_is : (g : Geometry) (joined : List ℕ) (was now : Progress) (held : List ℕ) (has : HasItem g joined was held) (read : IsRead g joined now []) → turn_now was ≡ LeafTurn → LeafIs g held has.front read.front was now
leaf_is g joined was now held has read at =
    let t = took g joined was now held has read in
    let turn = turn_is g joined was held LeafTurn at has in
    let of = leaf_of_turn g has.front.head.leaves (length has.front.nodes) t.item (subst (λ (kind : Turn). FitsTurn g has.front.head.leaves (length has.front.nodes) kind t.item) turn t.fits) in
    let says : length has.front.leaves < has.front.head.leaves = says_front has.front LeafTurn turn in
    let reach = (reached g joined was held has).0 in
    let nothing = reach.no_nodes says in
    let body : of.0 ≡ drop 4 held = behind_length held of.0 (t.spelled_is ∙ ap spelled of.2) in
    let item : t.item ≡ ALeaf (drop 4 held) = of.2 ∙ ap ALeaf body in
    let front : read.front ≡ after has.front (ALeaf (drop 4 held)) = t.front_is ∙ ap (after has.front) item in
    let keeps : Keeps g (after has.front (ALeaf (drop 4 held))) now = subst (λ (f : Front). Keeps g f now) front read.keeps in
    let none_left = none_missing has.front reach.hand nothing.2 in
    let none = no_files has.front nothing.1 nothing.2 in
    record {
      is = subst (IsLeafItem g) body of.1;
      number = keeps.leaves ∙ length_push has.front.leaves (drop 4 held) ∙ add-one (length has.front.leaves);
      more = says;
      piece = record {
        front_is = front;
        none = none;
        none_after = none;
        missing_was = has.keeps.missing ∙ none_left;
        missing = keeps.missing ∙ none_left;
        files = keeps.files ∙ sym has.keeps.files;
        needs = keeps.needs ∙ sym has.keeps.needs;
      };
    }

-- ---- a node

pub record NodeIs (g : Geometry) (held : List ℕ) (f k : Front) (was now : Progress) : Type 0 where
  pub is : IsNodeItem g f.head.leaves (length f.nodes) (node_read held)
  pub number : now.nodes ≡ suc (length f.nodes)
  pub more : length f.nodes < f.head.nodes
  pub piece : PieceIs f k was now (ANode (node_read held))

-- All its pairs came.
pub node_long : (g : Geometry) (joined : List ℕ) (p : Progress) (held : List ℕ) → HasItem g joined p held → turn_now p ≡ NodeTurn → (3 ≤ length held) × (3 + 12 * number_at 2 held 1 ≡ length held)
node_long g joined p held has at =
    let turn = turn_is g joined p held NodeTurn at has in
    node_whole g has.front.head.leaves (length has.front.nodes) held (ap (λ (t : Turn). need_at g has.front.head.leaves (length has.front.nodes) t held) (sym turn) ∙ has.whole)

pub node_is : (g : Geometry) (joined : List ℕ) (was now : Progress) (held : List ℕ) (has : HasItem g joined was held) (read : IsRead g joined now []) → turn_now was ≡ NodeTurn → NodeIs g held has.front read.front was now
node_is g joined was now held has read at =
    let t = took g joined was now held has read in
    let turn = turn_is g joined was held NodeTurn at has in
    let item = node_named g has.front.head.leaves (length has.front.nodes) (turn_of has.front) held t.item turn t.fits t.spelled_is in
    let fits : FitsTurn g has.front.head.leaves (length has.front.nodes) NodeTurn (ANode (node_read held)) =
    subst (λ (i : Item). FitsTurn g has.front.head.leaves (length has.front.nodes) NodeTurn i) item (subst (λ (kind : Turn). FitsTurn g has.front.head.leaves (length has.front.nodes) kind t.item) turn t.fits) in
    let says : (has.front.head.leaves ≤ length has.front.leaves) × (length has.front.nodes < has.front.head.nodes) = says_front has.front NodeTurn turn in
    let reach = (reached g joined was held has).0 in
    let nothing = reach.no_files says.1 in
    let front : read.front ≡ after has.front (ANode (node_read held)) = t.front_is ∙ ap (after has.front) item in
    let keeps : Keeps g (after has.front (ANode (node_read held))) now = subst (λ (f : Front). Keeps g f now) front read.keeps in
    let none_left = none_missing has.front reach.hand nothing.1 in
    let none = no_files has.front nothing.0 nothing.1 in
    record {
      is = fits;
      number = keeps.nodes ∙ length_push has.front.nodes (node_read held) ∙ add-one (length has.front.nodes);
      more = says.1;
      piece = record {
        front_is = front;
        none = none;
        none_after = none;
        missing_was = has.keeps.missing ∙ none_left;
        missing = keeps.missing ∙ none_left;
        files = keeps.files ∙ sym has.keeps.files;
        needs = keeps.needs ∙ sym has.keeps.needs;
      };
    }

most_wider : (leaves before more behind level : ℕ) → leaves ≤ more → before ≤ behind → children_most leaves before level ≤ children_most more behind level
most_wider leaves before more behind zero le ge = omega arith
most_wider leaves before more behind (suc zero) le ge = le
most_wider leaves before more behind (suc (suc l)) le ge = ge

pub node_wider : (g : Geometry) (leaves before more behind : ℕ) (node : Node) → leaves ≤ more → before ≤ behind → IsNodeItem g leaves before node → IsNodeItem g more behind node
node_wider g leaves before more behind node le ge is = record {
  is = is.is;
  fields = is.fields;
  children = each_as (IsChild (children_most leaves before node.level)) (IsChild (children_most more behind node.level)) node.pairs (λ pair child. (child.0, (let most = most_wider leaves before more behind node.level le ge in omega (arith, child.1)))) is.children;
}

abbrev lacks : ℕ → ℕ → StreamHead → Bool → Bool → Option (Area × (ℕ × ℕ))
lacks pages segs head b c = if b then Some (Page, (head.nodes + head.pages, pages)) else if c then Some (Segment, (head.leaves, segs)) else None

-- the areas have room for the leaves and nodes of the head
pub room_for : (pages segs : ℕ) (head : StreamHead) → lack_of pages segs head ≡ None → (head.nodes + head.pages ≤ pages) × (head.leaves ≤ segs)
room_for pages segs head none = by_tests (nat_lt pages (head.nodes + head.pages)) (nat_lt segs head.leaves) refl refl none
  where
    by_tests : (b c : Bool) → nat_lt pages (head.nodes + head.pages) ≡ b → nat_lt segs head.leaves ≡ c → lacks pages segs head b c ≡ None → (head.nodes + head.pages ≤ pages) × (head.leaves ≤ segs)
    by_tests true c p q e = absurd (cc)
    by_tests false true p q e = absurd (cc)
    by_tests false false p q e = (ltb-false pages (head.nodes + head.pages) p, ltb-false segs head.leaves q)

-- ---- what it does to what was loaded

none_stand : (g : Geometry) (units : Units) (first end : ℕ) (entries : List FileEntry) → AreFilesOn g units first end [] entries → entries ≡ []
none_stand g units first end [] on = refl
none_stand g units first end (e ∷ entries) on = absurd (by_contents on.contents on.indexes on.on)
  where
    by_contents : (contents : List FileContent) → AllZip (HasIndex g units) (e ∷ entries) contents → AllZip (IsFileOn (leaf_place g) node_place) [] (zip (e ∷ entries) contents) → ⊥
    by_contents [] indexes on = indexes
    by_contents (c ∷ contents) indexes on = on

stand_none : (g : Geometry) (image later : List ℕ) (first : ℕ) (f k : Front) (files new : FilesAtHand) (was now : ℕ) → was ≡ 0 → now ≡ 0 → files_of f ≡ [] → files_of k ≡ [] → new.catalog.items ≡ files.catalog.items
    → StandTo g image first f was files → StandTo g later first k now new
stand_none g image later first f k files new was now old_none new_none before behind same stand =
    let on : AreFilesOn g (home g image) first files.next (files_of f) (entries_on files.catalog.items) = subst (λ (n : ℕ). StandTo g image first f n files) old_none stand in
    let none : entries_on files.catalog.items ≡ [] = none_stand g (home g image) first files.next (entries_on files.catalog.items) (subst (λ (fs : List HistoryFile). AreFilesOn g (home g image) first files.next fs (entries_on files.catalog.items)) before on) in
    let none_now : entries_on new.catalog.items ≡ [] = ap (λ (page : List ℕ). entries_on page) same ∙ none in
    subst (λ (n : ℕ). StandTo g later first k n new) (sym new_none)
    (subst (λ (fs : List HistoryFile). AreFilesOn g (home g later) first new.next fs (entries_on new.catalog.items)) (sym behind)
    (subst (λ (es : List FileEntry). AreFilesOn g (home g later) first new.next [] es) (sym none_now) (no_files_on g (home g later) first new.next)))

-- All that is kept of the stream is the same.
pub record SameProgress (p q : Progress) : Type 0 where
  pub geometry : q.geometry ≡ p.geometry
  pub head : q.head ≡ p.head
  pub leaves : q.leaves ≡ p.leaves
  pub nodes : q.nodes ≡ p.nodes
  pub files : q.files ≡ p.files
  pub missing : q.missing ≡ p.missing
  pub lengths : q.lengths ≡ p.lengths
  pub name : q.name ≡ p.name
  pub needs : q.needs ≡ p.needs
  pub numbers : q.numbers ≡ p.numbers

pub read_as : (g : Geometry) (joined held : List ℕ) (p q : Progress) → SameProgress p q → IsRead g joined p held → IsRead g joined q held
read_as g joined held p q same read = record {
  front = read.front;
  to = read.to;
  keeps = record {
    geometry = same.geometry ∙ read.keeps.geometry;
    head = ap stream_head same.head ∙ read.keeps.head;
    leaves = same.leaves ∙ read.keeps.leaves;
    nodes = same.nodes ∙ read.keeps.nodes;
    files = same.files ∙ read.keeps.files;
    missing = same.missing ∙ read.keeps.missing;
    lengths = same.lengths ∙ read.keeps.lengths;
    name = same.name ∙ read.keeps.name;
    needs = same.needs ∙ read.keeps.needs;
    numbers = same.numbers ∙ read.keeps.numbers;
  };
}

-- What was done with a leaf or a node.
pub record IsPieceTaken (g : Geometry) (a b : Outside) (old new : Loader) (item : Item) : Type 0 where
  pub reads : (h : Geometry) (joined : List ℕ) → HasItem h joined old.progress old.gathered.held → IsRead h joined new.progress []
  pub is : (joined : List ℕ) (has : HasItem g joined old.progress old.gathered.held) (read : IsRead g joined new.progress []) → PieceIs has.front read.front old.progress new.progress item
  pub written : (joined image : List ℕ) (has : HasItem g joined old.progress old.gathered.held) → a.disk ≡ Some image → ArePiecesOn g image has.front → (later : List ℕ) × (b.disk ≡ Some later) × ArePiecesOn g later (after has.front item)
  pub held : new.gathered.held ≡ []
  pub room : new.gathered.room ≡ old.gathered.room
  pub catalog : new.files.catalog.items ≡ old.files.catalog.items
  pub next : new.files.next ≡ old.files.next
  pub count : new.files.count ≡ old.files.count
  pub ready : IsReady g new.files
  pub stream : AreOfOneStream old.progress new.progress

read_whole : (g : Geometry) (joined held : List ℕ) (p : Progress) → held ≡ [] → (read : IsRead g joined p []) → IsReadTo g joined read.front held
read_whole g joined held p none read = subst (λ (bytes : List ℕ). IsReadTo g joined read.front bytes) (sym none) read.to

-- ---- the loader that has it

pub same_nodes : (old new : Loader) → AreOfOneStream old.progress new.progress → page_behind new.progress.head.nodes ≡ page_behind old.progress.head.nodes
same_nodes old new stream = ap (λ (h : Head). page_behind h.nodes) stream.1

same_count : (f k : Front) → files_of f ≡ [] → files_of k ≡ [] → length (all_versions (history_of f)) ≡ length (all_versions (history_of k))
same_count f k one two = ap (λ (fs : List HistoryFile). length (flat_map (λ (file : HistoryFile). file.versions) fs)) (one ∙ sym two)

next_within : (g : Geometry) (first next now_next : ℕ) (was now : Progress) → was.missing ≡ 0 → now.missing ≡ 0 → now.needs ≡ was.needs → now_next ≡ next → IsNextWithin was.missing first next was.needs → IsNextWithin now.missing first now_next now.needs
next_within g first next now_next was now before behind needs same within =
    let zero_was : next ≤ first + pages_by was.needs = subst (λ (n : ℕ). IsNextWithin n first next was.needs) before within in
    let zero_now : now_next ≤ first + pages_by now.needs = subst (λ (n : PageNeeds). now_next ≤ first + pages_by n) (sym needs) (subst (λ (n : ℕ). n ≤ first + pages_by was.needs) (sym same) zero_was) in
    subst (λ (n : ℕ). IsNextWithin n first now_next now.needs) (sym behind) zero_now

piece_loads : (g : Geometry) (a b : Outside) (old new : Loader) (item : Item) → IsPieceTaken g a b old new item → LoadsItem g a b old new
piece_loads g a b old new item taken image joined honest holds before =
    let read = taken.reads g joined before.item in
    let is = taken.is joined before.item read in
    let put = taken.written joined image before.item holds before.pieces in (
      put.0,
      put.1,
      record {
        read = record { front = read.front; to = read_whole g joined new.gathered.held new.progress taken.held read; keeps = read.keeps };
        pieces = subst (λ (f : Front). ArePiecesOn g put.0 f) (sym is.front_is) put.2;
        files = subst (λ (n : ℕ). StandTo g put.0 n read.front new.progress.missing new.files) (sym (same_nodes old new taken.stream))
            (stand_none g image put.0 (page_behind old.progress.head.nodes) before.item.front read.front old.files new.files old.progress.missing new.progress.missing is.missing_was is.missing is.none (ap files_of is.front_is ∙ is.none_after) taken.catalog before.files);
        count = taken.count ∙ before.count ∙ same_count before.item.front read.front is.none (ap files_of is.front_is ∙ is.none_after);
      },
    )

piece_is : (g : Geometry) (a b : Outside) (old new : Loader) (item : Item) → HasWholeItem g old → IsPieceTaken g a b old new item → IsLoader g new
piece_is g a b old new item whole taken =
    let read = taken.reads g whole.joined whole.item in
    let is = taken.is whole.joined whole.item read in
    record {
      joined = whole.joined;
      read = record { front = read.front; to = read_whole g whole.joined new.gathered.held new.progress taken.held read; keeps = read.keeps };
      of = record {
        room = ap (λ (h : Head). lack_of (g.pages - 1) g.segs (stream_head h)) taken.stream.1 ∙ whole.of.room;
        gathered = taken.room ∙ whole.of.gathered;
        names = ap (λ (page : List ℕ). map name_of (entries_on page)) taken.catalog ∙ whole.of.names ∙ ap (map name_in) (is.none ∙ sym (ap files_of is.front_is ∙ is.none_after));
        file = subst (λ (n : ℕ). HasFileIf g new n) (sym is.missing) taken.ready;
        behind = omega (arith, whole.of.behind, taken.next, same_nodes old new taken.stream);
        next = subst (λ (n : ℕ). IsNextWithin new.progress.missing n new.files.next new.progress.needs) (sym (same_nodes old new taken.stream))
            (next_within g (page_behind old.progress.head.nodes) old.files.next new.files.next old.progress new.progress is.missing_was is.missing is.needs taken.next whole.of.next);
        count = omega (arith, whole.of.count, taken.count, is.missing, is.missing_was, is.files);
      };
    }

pub piece_takes : (g : Geometry) (a b : Outside) (old new : Loader) (item : Item) → HasWholeItem g old → IsPieceTaken g a b old new item → TakesItem g a b old new
piece_takes g a b old new item whole taken = record { loads = piece_loads g a b old new item taken; is = piece_is g a b old new item whole taken; stream = taken.stream }
