-- No two pieces of a history lie at one place.
use Rattle.std.proofs.Common.{◌≡◌, ◌≤◌, inl, inr, ℕ, zero, suc, sym, subst, ap, arith}
use Rattle.std.proofs.lemmas.Bool.{cases_lt}
use Rattle.std.proofs.lemmas.Option.{none-some}
use Rattle.ex_base.specs.declared.geometry.Geometry.{Geometry}
use Rattle.ex_base.specs.Area.{NamesLeaf}
use Rattle.trees.specs.Trees.{Units}
use Rattle.trees.proofs.Owned.{page_no_leaf}
use Rattle.history_model.specs.History.{History}
use Rattle.history_model.specs.Trees.{LeafPiece, NodePiece}
use Rattle.history_volumes.specs.Transcribed.{AreTranscribed}
use Rattle.history_load.specs.Pieces.{IsPieceOf}
use Rattle.history_load.specs.Placed.{LieApart}
use Rattle.history_writes.specs.Places.{leaf_place, node_place}
use Rattle.history_writes.proofs.Placing.{leaves_differ}

one_leaf : (g : Geometry) (i j : ℕ) → 1 ≤ i → 1 ≤ j → leaf_place g i ≡ leaf_place g j → i ≡ j
one_leaf g i j some other same = elim (cases_lt i j) [
  | inl less ↦ absurd (leaves_differ g i j some less same)
  | inr most ↦ elim (cases_lt j i) [
    | inl more ↦ absurd (leaves_differ g j i other more (sym same))
    | inr least ↦ omega (arith, most, least)
  ]
]

module _ (g : Geometry) (h : History) (units : Units) (at : AreTranscribed g h units (leaf_place g) node_place) where
  -- 0 is no number
  leaf_some : (i : ℕ) → IsPieceOf h (LeafPiece i) → 1 ≤ i
  leaf_some zero is = absurd (none-some is.0 is.1)
  leaf_some (suc i) is = omega arith

  never_both : (i j : ℕ) → IsPieceOf h (LeafPiece i) → IsPieceOf h (NodePiece j) → leaf_place g i ≡ node_place j → ⊥
  never_both i j leaf node same = page_no_leaf g (node_place j) (at.nodes j node.0 node.1).area (subst (NamesLeaf g) same (at.leaves i leaf.0 leaf.1).area)

  pub pieces_apart : LieApart h (leaf_place g) node_place
  pieces_apart (LeafPiece i) (LeafPiece j) one other same = ap LeafPiece (one_leaf g i j (leaf_some i one) (leaf_some j other) same)
  pieces_apart (LeafPiece i) (NodePiece j) one other same = absurd (never_both i j one other same)
  pieces_apart (NodePiece i) (LeafPiece j) one other same = absurd (never_both j i other one (sym same))
  pieces_apart (NodePiece i) (NodePiece j) one other same = ap NodePiece (omega (arith, same))
