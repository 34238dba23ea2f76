-- What an item that is taken or refused means for the bytes.
use Rattle.std.proofs.Common.{◌≡◌, ℕ, ◌-◌, List, [], length, Result, Ok, Err, refl, sym, subst, ◌∙◌}
use Rattle.std.specs.Prelude.{OnOk}
use Rattle.std.proofs.lemmas.List.{append-nil}
use Rattle.ex_base.specs.declared.geometry.Geometry.{Geometry}
use Rattle.ex_base.specs.Bytes.{IsBytes}
use Rattle.history_model.specs.Stream.{StreamHead, head_bytes}
use Rattle.history_items.specs.Reads.{node_read, version_read}
use Rattle.history_fronts.specs.declared.turns.Turn.{Turn}
use Rattle.history_fronts.specs.declared.turns.Turn.TheVariants.{Leaf as LeafTurn, Node as NodeTurn, Version as VersionTurn, File as FileTurn, End as NoTurn}
use Rattle.history_fronts.specs.Fronts.{AFile, ALeaf, ANode, AVersion, IsDumpHead, IsSound, Item, after, begun, turn_of}
use Rattle.history_reads.specs.declared.progress.Progress.{Progress}
use Rattle.history_reads.specs.declared.progress.ReadFault.{ReadFault}
use Rattle.history_reads.specs.Steps.{Asking}
use Rattle.history_reads.specs.Kept.{IsReached, Keeps, Refuses, Takes}
use Rattle.history_reads.specs.Reads.{CantBeRead, HasItem, IsRead, turn_now}
use Rattle.history_reads.proofs.Behind.{asking_none, none_asks, turn_same}
use Rattle.history_reads.proofs.Items.{file_named, front_read, leaf_named, never_named, node_named, version_named}
use Rattle.history_reads.proofs.Reached.{reached_begun, reached_by, sound_begun}
use Rattle.history_reads.proofs.Reading.{accepted, item_is, item_refused}

-- the bytes are this item, whatever was read before
abbrev pub Names : Progress → List ℕ → Item → Type 0
Names p bytes item = (g : Geometry) (joined : List ℕ) (has : HasItem g joined p bytes) → (item_is g joined p bytes has).item ≡ item

has_reached : (g : Geometry) (joined : List ℕ) (p : Progress) (bytes : List ℕ) (has : HasItem g joined p bytes) → IsReached has.front × IsSound g has.front
has_reached g joined p bytes has = reached_by g (begun has.front.head) has.front has.to.items (reached_begun has.front.head) (sound_begun g has.front.head) has.to.leads

pub reads_on : (p now : Progress) (bytes : List ℕ) (item : Item) → Takes p now item → Names p bytes item → (g : Geometry) (joined : List ℕ) → HasItem g joined p bytes → IsRead g joined now []
reads_on p now bytes item takes names g joined has =
    let is = item_is g joined p bytes has in
    let same : item ≡ is.item = sym (names g joined has) in
    let reached = has_reached g joined p bytes has in
    let both = takes g has.front has.keeps reached.0 reached.1 in
    accepted g joined p now bytes has is (subst (λ (i : Item). IsSound g (after has.front i)) same both.1) (subst (λ (i : Item). Keeps g (after has.front i) now) same both.0)

pub refuses_on : (p : Progress) (bytes : List ℕ) (item : Item) → Refuses p item → Names p bytes item → (g : Geometry) (joined : List ℕ) → HasItem g joined p bytes → CantBeRead g joined
refuses_on p bytes item refuses names g joined has =
    let is = item_is g joined p bytes has in
    let reached = has_reached g joined p bytes has in
    item_refused g joined p bytes has is (λ sound. refuses g has.front has.keeps reached.0 (subst (λ (i : Item). IsSound g (after has.front i)) (names g joined has) sound))

-- ---- which one it is

turn_at : (g : Geometry) (joined : List ℕ) (p : Progress) (bytes : List ℕ) (turn : Turn) → turn_now p ≡ turn → (has : HasItem g joined p bytes) → turn_of has.front ≡ turn
turn_at g joined p bytes turn at has = sym (turn_same g has.front p has.keeps) ∙ at

pub names_node : (p : Progress) (bytes : List ℕ) → turn_now p ≡ NodeTurn → Names p bytes (ANode (node_read bytes))
names_node p bytes at g joined has =
    let is = item_is g joined p bytes has in
    node_named g has.front.head.leaves (length has.front.nodes) (turn_of has.front) bytes is.item (turn_at g joined p bytes NodeTurn at has) is.fits is.spelled_is

pub names_version : (p : Progress) (bytes : List ℕ) → turn_now p ≡ VersionTurn → Names p bytes (AVersion (version_read bytes))
names_version p bytes at g joined has =
    let is = item_is g joined p bytes has in
    version_named g has.front.head.leaves (length has.front.nodes) (turn_of has.front) bytes is.item (turn_at g joined p bytes VersionTurn at has) is.fits is.spelled_is

pub names_file : (p : Progress) (bytes : List ℕ) → turn_now p ≡ FileTurn → Names p bytes (AFile (front_read bytes))
names_file p bytes at g joined has =
    let is = item_is g joined p bytes has in
    file_named g has.front.head.leaves (length has.front.nodes) (turn_of has.front) bytes is.item (turn_at g joined p bytes FileTurn at has) is.fits is.spelled_is

-- of a leaf only its length is noted
pub leaf_reads_on : (p now : Progress) (bytes : List ℕ) → turn_now p ≡ LeafTurn → ((leaf : List ℕ) → length leaf ≡ length bytes - 4 → Takes p now (ALeaf leaf)) → (g : Geometry) (joined : List ℕ) → HasItem g joined p bytes → IsRead g joined now []
leaf_reads_on p now bytes at takes g joined has =
    let is = item_is g joined p bytes has in
    let leaf = leaf_named g has.front.head.leaves (length has.front.nodes) (turn_of has.front) bytes is.item (turn_at g joined p bytes LeafTurn at has) is.fits is.spelled_is in
    let reached = has_reached g joined p bytes has in
    let both = takes leaf.0 leaf.2 g has.front has.keeps reached.0 reached.1 in
    let same : ALeaf leaf.0 ≡ is.item = sym leaf.1 in
    accepted g joined p now bytes has is (subst (λ (i : Item). IsSound g (after has.front i)) same both.1) (subst (λ (i : Item). Keeps g (after has.front i) now) same both.0)

-- behind the end there is no item
pub none_at_all : (p : Progress) (bytes : List ℕ) → turn_now p ≡ NoTurn → (g : Geometry) (joined : List ℕ) → HasItem g joined p bytes → ⊥
none_at_all p bytes at g joined has =
    let is = item_is g joined p bytes has in
    never_named g has.front.head.leaves (length has.front.nodes) (turn_of has.front) is.item (turn_at g joined p bytes NoTurn at has) is.fits

-- ---- the head alone

pub begin_reads : (g : Geometry) (head : StreamHead) (p : Progress) (bytes : List ℕ) → IsDumpHead g head → Keeps g (begun head) p → IsBytes bytes → bytes ≡ head_bytes head → IsRead g bytes p []
begin_reads g head p bytes is keeps are e = record {
  front = begun head;
  to = record {
    bytes = are;
    front = record { items = []; head = is; leads = refl; joined_is = e ∙ sym (append-nil (head_bytes head)) };
    asks = none_asks g (begun head);
  };
  keeps = keeps;
}

-- ---- where the answer says whether

pub ok_reads : (r : Result (Unit {0}) ReadFault) (p now : Progress) (bytes : List ℕ) (item : Item) → OnOk r (Takes p now item) → Names p bytes item → OnOk r ((g : Geometry) (joined : List ℕ) → HasItem g joined p bytes → IsRead g joined now [])
ok_reads (Ok x) p now bytes item takes names = reads_on p now bytes item takes names
ok_reads (Err e) p now bytes item takes names = tt

pub ok_asks : (r : Result (Unit {0}) ReadFault) (now : Progress) → OnOk r (Asking now [])
ok_asks (Ok x) now = asking_none now
ok_asks (Err e) now = tt
