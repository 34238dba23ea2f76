-- The pieces of the trees of a history that was transcribed.
use Rattle.std.proofs.Common.{◌≡◌, inl, inr, ℕ, zero, suc, List, map, Option, Some, None, refl, subst}
use Rattle.ex_base.specs.declared.geometry.Geometry.{Geometry}
use Rattle.ex_base.specs.declared.names.PageNo.{PageNo}
use Rattle.trees.specs.declared.Pair.{Pair}
use Rattle.trees.specs.Trees.{Units, root_units_at}
use Rattle.version_lists.proofs.Lists.{Has, has_flat_from}
use Rattle.history_model.specs.History.{History, pairs_of}
use Rattle.history_model.specs.Trees.{IsRooted, IsUnder, Piece, pieces_rooted, pieces_under}
use Rattle.history_volumes.specs.Histories.{page_placed}
use Rattle.history_volumes.specs.Transcribed.{AreTranscribed, piece_place, place_of}
use Rattle.history_volumes.proofs.Transcribing.{child_of, pairs_are, tree_units}
use Rattle.history_load.specs.Pieces.{IsPieceOf}

module _ (g : Geometry) (h : History) (units : Units) (leaf node : ℕ → ℕ) (at : AreTranscribed g h units leaf node) where
  -- they are those of the history
  of_tree : (l number n : ℕ) (piece : Piece) → IsUnder h l number n → Has (pieces_under h l number) piece → IsPieceOf h piece
  of_tree zero number n piece is (inl e) = subst (IsPieceOf h) e (is.0, is.1)
  of_tree zero number n piece is (inr none) = absurd none
  of_tree (suc l) number n piece is (inl e) = subst (IsPieceOf h) e (is.0, is.1)
  of_tree (suc l) number n piece is (inr more) =
      let from = has_flat_from (λ (pair : Pair). pieces_under h l pair.page.0) (pairs_of h number) piece more in
      let child = child_of (IsUnder h l) 0 is.0.pairs is.4 from.0 (subst (λ (ps : List Pair). Has ps from.0) (pairs_are g h units leaf node at number is.0 is.1) from.1) in
      of_tree l from.0.page.0 child.0 piece child.1 from.2

  pub of_root : (height size : ℕ) (page : Option PageNo) (piece : Piece) → IsRooted g h height size page → Has (pieces_rooted h height page) piece → IsPieceOf h piece
  of_root height size None piece rooted there = absurd there
  of_root height size (Some number) piece rooted there = of_tree height number.0 size piece rooted.0 there

  -- and the units of the tree are their places
  pub units_of_pieces : (height size : ℕ) (page : Option PageNo) → IsRooted g h height size page
      → root_units_at units height (page_placed (place_of leaf node height) page) ≡ map (piece_place leaf node) (pieces_rooted h height page)
  units_of_pieces height size None rooted = refl
  units_of_pieces height size (Some number) rooted = tree_units g h units leaf node at height number.0 size rooted.0
