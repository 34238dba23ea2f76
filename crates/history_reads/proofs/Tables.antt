-- What leaves and nodes do to what is kept.
use Rattle.std.proofs.Common.{◌≡◌, ℕ, suc, ◌+◌, ◌-◌, ◌<◌, ◌≤◌, List, [], ◌∷◌, ◌++◌, length, map, replicate, Option, None, refl, sym, ap, subst, ◌∙◌, arith, append_assoc}
use Rattle.std.specs.Prelude.{slice_set}
use Rattle.std.specs.List.{flat_map}
use Rattle.std.proofs.lemmas.List.{append-nil, flat_map_more, length-map, length_push, map_push, set_at}
use Rattle.ex_base.specs.declared.geometry.Geometry.{Geometry}
use Rattle.ex_base.specs.Sizes.{leaf_bytes}
use Rattle.trees.specs.Node.{Node}
use Rattle.history_model.specs.Dumps.{namings_by, namings_on}
use Rattle.history_model.specs.History.{HistoryFile, HistoryVersion}
use Rattle.history_model.specs.Stream.{StreamHead}
use Rattle.history_items.specs.Heads.{stream_head}
use Rattle.history_counts.specs.CountLaws.{leaf_length}
use Rattle.history_counts.specs.Lengths.{Lengths, no_lengths, raised_by}
use Rattle.history_counts.proofs.Noted.{raised_by-append}
use Rattle.history_fronts.specs.Fronts.{ALeaf, ANode, Front, IsSound, after, begun, one_of}
use Rattle.history_reads.specs.declared.progress.Progress.{Progress}
use Rattle.history_reads.specs.Kept.{Takes, lengths_so_far, namings_so_far}

abbrev pub made_lengths : List ℕ → List ℕ → ℕ → Lengths
made_lengths lengths longest most = record { lengths = lengths; longest = longest; most = most }

-- ---- a leaf

length_set : (ls : List (List ℕ)) (leaf : List ℕ) (all : ℕ) → length ls < all → slice_set (map leaf_length ls ++ replicate (all - length ls) 0) (length ls) (length leaf) ≡ map leaf_length (ls ++ leaf ∷ []) ++ replicate (all - length (ls ++ leaf ∷ [])) 0
length_set ls leaf all lt =
    let one : replicate {A = ℕ} (all - length ls) 0 ≡ 0 ∷ replicate (all - length (ls ++ leaf ∷ [])) 0 = ap (λ (n : ℕ). replicate {A = ℕ} n 0) (let e : all - length ls ≡ suc (all - length (ls ++ leaf ∷ [])) = omega (arith, length_push ls leaf) in e) in
    ap (λ (t : List ℕ). slice_set (map leaf_length ls ++ t) (length ls) (length leaf)) one
    ∙ set_at (map leaf_length ls) 0 (replicate (all - length (ls ++ leaf ∷ [])) 0) (length leaf) (length ls) (length-map ls leaf_length)
    ∙ sym (append_assoc (map leaf_length ls) (length leaf ∷ []) (replicate (all - length (ls ++ leaf ∷ [])) 0))
    ∙ ap (λ (t : List ℕ). t ++ replicate (all - length (ls ++ leaf ∷ [])) 0) (sym (map_push leaf_length ls leaf))

pub leaf_lengths : (g : Geometry) (f : Front) (leaf : List ℕ) → length f.leaves < f.head.leaves → record { lengths = slice_set (lengths_so_far g f).lengths (length f.leaves) (length leaf); longest = (lengths_so_far g f).longest; most = leaf_bytes g } ≡ lengths_so_far g (after f (ALeaf leaf))
leaf_lengths g f leaf lt = ap (λ (ls : List ℕ). made_lengths ls (lengths_so_far g f).longest (leaf_bytes g)) (length_set f.leaves leaf f.head.leaves lt)

pub leaf_sound : (g : Geometry) (f : Front) (leaf : List ℕ) → IsSound g f → IsSound g (after f (ALeaf leaf))
leaf_sound g f leaf sound = record { names = sound.names; rising = sound.rising; pages = sound.pages; olders = sound.olders; last = sound.last }

-- what a leaf leaves behind
pub record LeafTaken (was now : Progress) (leaf : List ℕ) : Type 0 where
  pub geometry : now.geometry ≡ was.geometry
  pub head : now.head ≡ was.head
  pub leaves : now.leaves ≡ was.leaves + 1
  pub nodes : now.nodes ≡ was.nodes
  pub files : now.files ≡ was.files
  pub missing : now.missing ≡ was.missing
  pub lengths : now.lengths ≡ record { lengths = slice_set was.lengths.lengths was.leaves (length leaf); longest = was.lengths.longest; most = was.lengths.most }
  pub name : now.name ≡ was.name
  pub needs : now.needs ≡ was.needs
  pub numbers : now.numbers ≡ was.numbers

pub leaf_takes : (was now : Progress) (leaf : List ℕ) → was.leaves < was.head.leaves → LeafTaken was now leaf → Takes was now (ALeaf leaf)
leaf_takes was now leaf lt taken = λ g f k reached sound.
    let few : length f.leaves < f.head.leaves = omega (arith, k.leaves, ap (λ (h : StreamHead). h.leaves) k.head) in (
      record {
        geometry = taken.geometry ∙ k.geometry;
        head = ap stream_head taken.head ∙ k.head;
        leaves = omega (arith, taken.leaves, k.leaves, length_push f.leaves leaf);
        nodes = taken.nodes ∙ k.nodes;
        files = taken.files ∙ k.files;
        missing = taken.missing ∙ k.missing;
        lengths =
            taken.lengths
            ∙ ap (λ (l : Lengths). made_lengths (slice_set l.lengths was.leaves (length leaf)) l.longest l.most) k.lengths
            ∙ ap (λ (n : ℕ). made_lengths (slice_set (lengths_so_far g f).lengths n (length leaf)) (lengths_so_far g f).longest (leaf_bytes g)) k.leaves
            ∙ leaf_lengths g f leaf few;
        name = taken.name ∙ k.name;
        needs = taken.needs ∙ k.needs;
        numbers = taken.numbers ∙ k.numbers;
      },
      leaf_sound g f leaf sound,
    )

-- ---- a node

abbrev versions_named : List HistoryFile → Option HistoryFile → List (ℕ × ℕ)
versions_named files hand = flat_map (λ (v : HistoryVersion). namings_by v.content) (flat_map (λ (file : HistoryFile). file.versions) (files ++ one_of hand))

-- behind nothing it comes to the end
add_behind : (a x b t : List (ℕ × ℕ)) → b ≡ a ++ x → t ≡ [] → b ++ t ≡ (a ++ t) ++ x
add_behind a x b t e none = subst (λ (u : List (ℕ × ℕ)). b ++ u ≡ (a ++ u) ++ x) (sym none) (append-nil b ∙ e ∙ ap (λ (u : List (ℕ × ℕ)). u ++ x) (sym (append-nil a)))

node_named : (f : Front) (node : Node) → f.files ≡ [] → f.hand ≡ None → namings_so_far (after f (ANode node)) ≡ namings_so_far f ++ namings_on node
node_named f node files hand =
    let none : versions_named f.files f.hand ≡ [] = ap (λ (fs : List HistoryFile). versions_named fs f.hand) files ∙ ap (λ (o : Option HistoryFile). versions_named [] o) hand in
    add_behind (flat_map namings_on f.nodes) (namings_on node) (flat_map namings_on (f.nodes ++ node ∷ [])) (versions_named f.files f.hand) (sym (flat_map_more namings_on [] f.nodes node)) none

node_sound : (g : Geometry) (f : Front) (node : Node) → IsSound g f → IsSound g (after f (ANode node))
node_sound g f node sound = record { names = sound.names; rising = sound.rising; pages = sound.pages; olders = sound.olders; last = sound.last }

-- what a node leaves behind
pub record NodeTaken (was now : Progress) (node : Node) : Type 0 where
  pub geometry : now.geometry ≡ was.geometry
  pub head : now.head ≡ was.head
  pub leaves : now.leaves ≡ was.leaves
  pub nodes : now.nodes ≡ was.nodes + 1
  pub files : now.files ≡ was.files
  pub missing : now.missing ≡ was.missing
  pub lengths : now.lengths ≡ record { lengths = was.lengths.lengths; longest = raised_by was.lengths.most was.lengths.longest (namings_on node); most = was.lengths.most }
  pub name : now.name ≡ was.name
  pub needs : now.needs ≡ was.needs
  pub numbers : now.numbers ≡ was.numbers

-- more namings
pub lengths_more : (g : Geometry) (f k : Front) (more : List (ℕ × ℕ)) → k.head ≡ f.head → k.leaves ≡ f.leaves → namings_so_far k ≡ namings_so_far f ++ more
    → record { lengths = (lengths_so_far g f).lengths; longest = raised_by (leaf_bytes g) (lengths_so_far g f).longest more; most = leaf_bytes g } ≡ lengths_so_far g k
lengths_more g f k more head leaves named =
    let longest : raised_by (leaf_bytes g) (lengths_so_far g f).longest more ≡ raised_by (leaf_bytes g) (replicate f.head.leaves 0) (namings_so_far k) =
    sym (raised_by-append (leaf_bytes g) (replicate f.head.leaves 0) (namings_so_far f) more) ∙ ap (raised_by (leaf_bytes g) (replicate f.head.leaves 0)) (sym named) in
    ap (λ (l : List ℕ). made_lengths (lengths_so_far g f).lengths l (leaf_bytes g)) longest
    ∙ ap (λ (h : StreamHead). made_lengths (map leaf_length f.leaves ++ replicate (h.leaves - length f.leaves) 0) (raised_by (leaf_bytes g) (replicate h.leaves 0) (namings_so_far k)) (leaf_bytes g)) (sym head)
    ∙ ap (λ (ls : List (List ℕ)). made_lengths (map leaf_length ls ++ replicate (k.head.leaves - length ls) 0) (raised_by (leaf_bytes g) (replicate k.head.leaves 0) (namings_so_far k)) (leaf_bytes g)) (sym leaves)

pub node_takes : (was now : Progress) (node : Node) → was.nodes < was.head.nodes → NodeTaken was now node → Takes was now (ANode node)
node_takes was now node lt taken = λ g f k reached sound.
    let none = reached.no_files (omega (arith, k.nodes, ap (λ (h : StreamHead). h.nodes) k.head)) in (
      record {
        geometry = taken.geometry ∙ k.geometry;
        head = ap stream_head taken.head ∙ k.head;
        leaves = taken.leaves ∙ k.leaves;
        nodes = omega (arith, taken.nodes, k.nodes, length_push f.nodes node);
        files = taken.files ∙ k.files;
        missing = taken.missing ∙ k.missing;
        lengths =
            taken.lengths
            ∙ ap (λ (l : Lengths). made_lengths l.lengths (raised_by l.most l.longest (namings_on node)) l.most) k.lengths
            ∙ lengths_more g f (after f (ANode node)) (namings_on node) refl refl (node_named f node none.0 none.1);
        name = taken.name ∙ k.name;
        needs = taken.needs ∙ k.needs;
        numbers = taken.numbers ∙ k.numbers;
      },
      node_sound g f node sound,
    )

-- ---- the head alone

pub begun_lengths : (g : Geometry) (head : StreamHead) → no_lengths (leaf_bytes g) head.leaves ≡ lengths_so_far g (begun head)
begun_lengths g head = ap (λ (n : ℕ). made_lengths (replicate n 0) (replicate head.leaves 0) (leaf_bytes g)) (let e : head.leaves ≡ head.leaves - length {A = List ℕ} [] = omega arith in e)
