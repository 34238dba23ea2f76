-- Of the segment area a volume as which a history stands reaches as many units as the history has leaves, where those lie at the lowest ones.
use Rattle.std.proofs.Common.{◌≡◌, ◌↔◌, ◌≤◌, ◌<◌, suc-mul, inl, inr, ℕ, zero, suc, Bool, true, false, nat_eq, List, ◌∷◌, length, refl, sym, subst, ap, ◌∙◌, arith}
use Rattle.std.specs.Prelude.{Contains, if◌then◌else◌}
use Rattle.std.specs.Cmp.{nat_eq_equiv}
use Rattle.std.specs.List.{AllByRecursion, list_any}
use Rattle.std.proofs.Math.Nat.{mul-le-mul_right}
use Rattle.std.proofs.lemmas.Bool.{cases_Bool, cases_lt, eqb-true}
use Rattle.std.proofs.lemmas.Map.Views.{Contains-from_any, list_any-from_Contains}
use Rattle.ex_base.specs.declared.geometry.Geometry.{Geometry}
use Rattle.ex_base.specs.declared.names.Area.TheVariants.{Segment}
use Rattle.ex_base.specs.Area.{InPageArea, catalog_no, unit_at}
use Rattle.file_index.specs.Index.{IsFilesPage}
use Rattle.op_log.specs.declared.record.LogRecord.{LogRecord}
use Rattle.trees.specs.Trees.{Units}
use Rattle.trees.proofs.Owned.{page_no_leaf}
use Rattle.version_lists.proofs.Lists.{Has, contains_has, has_back, has_contains, has_either}
use Rattle.volume_model.specs.Parts.{HoldsOf, content_parts}
use Rattle.volume_model.specs.Shown.{used_below}
use Rattle.volume_model.specs.Volume.{Volume, file_pages, reach_of}
use Rattle.volume_model.proofs.FilePages.{file_pages_are}
use Rattle.volume_model.proofs.Places.{each_has}
use Rattle.history_load.specs.Loads.{ReachesSegs}
use Rattle.history_model.specs.Dumps.{AreAsNamed}
use Rattle.history_model.specs.History.{History}
use Rattle.history_model.specs.Items.{AreItems}
use Rattle.history_model.specs.Trees.{LeafPiece, NodePiece, Piece}
use Rattle.history_volumes.specs.Transcribed.{piece_place}
use Rattle.history_volumes.proofs.Numbers.{numbered_from, numbered_within}
use Rattle.history_load.specs.Laws.{LieLowest}
use Rattle.history_load.specs.Pieces.{IsPieceOf}
use Rattle.history_load.specs.Placed.{StandsAs, tree_units}
use Rattle.history_load.proofs.StandingPieces.{piece_there}

-- ---- counting

all_used : (used : ℕ → Bool) (at : ℕ → ℕ) (n : ℕ) → ((j : ℕ) → j < n → used (at j) ≡ true) → used_below used at n ≡ n
all_used used at zero all = refl
all_used used at (suc n) all =
    let one : ◌≡◌ {A = ℕ} (if used (at n) then 1 else 0) 1 = ap {B = ℕ} (λ (b : Bool). if b then 1 else 0) (all n (omega arith)) in
    omega (arith, one, all_used used at n (λ j lt. all j (omega (arith, lt))))

none_from : (used : ℕ → Bool) (at : ℕ → ℕ) (few n : ℕ) → few ≤ n → ((j : ℕ) → few ≤ j → j < n → used (at j) ≡ false) → used_below used at n ≡ used_below used at few
none_from used at few zero le none = ap (used_below used at) (let same : 0 ≡ few = omega (arith, le) in same)
none_from used at few (suc n) le none = elim (cases_lt n few) [
  | inl last ↦ ap (used_below used at) (let same : suc n ≡ few = omega (arith, le, last) in same)
  | inr before ↦
      let free : ◌≡◌ {A = ℕ} (if used (at n) then 1 else 0) 0 = ap {B = ℕ} (λ (b : Bool). if b then 1 else 0) (none n before (omega arith)) in
      omega (arith, free, none_from used at few n before (λ j from to. none j from (omega (arith, to))))
]

-- ---- units of the segment area

-- an earlier one stands before
before : (g : Geometry) (i j : ℕ) → i < j → unit_at g Segment i < unit_at g Segment j
before g i j lt = omega (arith, g.some_length, suc-mul i g.seg_len, mul-le-mul_right {m = suc i} {n = j} g.seg_len lt)

one_unit : (g : Geometry) (i j : ℕ) → unit_at g Segment i ≡ unit_at g Segment j → i ≡ j
one_unit g i j same = elim (cases_lt i j) [
  | inl less ↦ absurd (omega (arith, same, before g i j less))
  | inr most ↦ elim (cases_lt j i) [
    | inl more ↦ absurd (omega (arith, same, before g j i more))
    | inr least ↦ omega (arith, most, least)
  ]
]

module _ (g : Geometry) (records : List LogRecord) (units : Units) (v : Volume) (h : History) (leaf node : ℕ → ℕ) (parts : AllByRecursion (HoldsOf g records units v) content_parts)
    (items : AreItems g h) (lengths : AreAsNamed h 1 h.leaves) (on : StandsAs g units v h leaf node) (lowest : LieLowest g h leaf) where
  abbrev used : ℕ → Bool
  used unit = list_any (nat_eq unit) (reach_of units v)

  each_used : (unit : ℕ) → (used unit ≡ true) ↔ Contains (reach_of units v) unit
  each_used unit = (Contains-from_any (λ x y same. eqb-true x y same) unit (reach_of units v), list_any-from_Contains nat_eq_equiv unit (reach_of units v))

  -- the catalog and the pages of files are pages of the page area
  page_here : (page : ℕ) → Has (catalog_no ∷ file_pages v) page → InPageArea g page
  page_here page (inl is) = subst (InPageArea g) is (omega arith, omega (arith, g.some_pages))
  page_here page (inr there) = (each_has (IsFilesPage g) (file_pages v) (file_pages_are g units v parts.1.0.0) page there).0

  of_piece : (j : ℕ) → j < g.segs → (piece : Piece) → IsPieceOf h piece → piece_place leaf node piece ≡ unit_at g Segment j → j < length h.leaves
  of_piece j lt (LeafPiece zero) is at = absurd (omega (arith, (numbered_within h.leaves 0 is.0 is.1).0))
  of_piece j lt (LeafPiece (suc i)) is at =
      let within : i < length h.leaves = (numbered_within h.leaves (suc i) is.0 is.1).1 in
      omega (arith, within, one_unit g i j (sym (lowest i within) ∙ at))
  of_piece j lt (NodePiece i) is at = absurd (page_no_leaf g (node i) (on.transcribed.nodes i is.0 is.1).area (j, lt, at))

  -- a unit of the segment area that is reached is that of a leaf
  of_leaf : (j : ℕ) → j < g.segs → Has (reach_of units v) (unit_at g Segment j) → j < length h.leaves
  of_leaf j lt there = elim (has_either (catalog_no ∷ file_pages v) (tree_units units v) (unit_at g Segment j) there) [
    | inl page ↦ absurd (page_no_leaf g (unit_at g Segment j) (page_here (unit_at g Segment j) page) (j, lt, refl))
    | inr unit ↦
        let piece = piece_there g records units v h leaf node parts items lengths on (unit_at g Segment j) unit in
        of_piece j lt piece.0 piece.1 piece.2
  ]

  leaf_used : (j : ℕ) → j < length h.leaves → used (unit_at g Segment j) ≡ true
  leaf_used j lt =
      let reached = on.reached (LeafPiece (suc j)) (numbered_from h.leaves (suc j) (omega arith) lt) in
      let unit = subst (Has (tree_units units v)) (lowest j lt) (contains_has (tree_units units v) (leaf (suc j)) reached) in
      (each_used (unit_at g Segment j)).1 (has_contains (reach_of units v) (unit_at g Segment j) (has_back (catalog_no ∷ file_pages v) (tree_units units v) (unit_at g Segment j) unit))

  none_used : (j : ℕ) → length h.leaves ≤ j → j < g.segs → used (unit_at g Segment j) ≡ false
  none_used j from lt = elim (cases_Bool (used (unit_at g Segment j))) [
    | inl is ↦ absurd (let less = of_leaf j lt (contains_has (reach_of units v) (unit_at g Segment j) ((each_used (unit_at g Segment j)).0 is)) in omega (arith, from, less))
    | inr isnt ↦ isnt
  ]

  -- there are units for all leaves
  few_leaves : (n : ℕ) → length h.leaves ≡ n → n ≤ g.segs
  few_leaves zero is = omega arith
  few_leaves (suc n) is =
      let lt : n < length h.leaves = omega (arith, is) in
      let leaf_at = numbered_from h.leaves (suc n) (omega arith) lt in
      let area = (on.transcribed.leaves (suc n) leaf_at.0 leaf_at.1).area in
      let same : n ≡ area.0 = one_unit g n area.0 (sym (lowest n lt) ∙ area.2) in
      omega (arith, same, area.1)

  pub reaches_leaves : ReachesSegs g units v (length h.leaves)
  reaches_leaves = record {
    used = used;
    each = each_used;
    segs_are =
        sym (none_from used (unit_at g Segment) (length h.leaves) g.segs (few_leaves (length h.leaves) refl) none_used ∙ all_used used (unit_at g Segment) (length h.leaves) leaf_used);
  }
