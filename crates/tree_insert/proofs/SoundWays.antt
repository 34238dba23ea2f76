-- Sound ways through a tree that is edited.
use Rattle.std.proofs.Common.{◌∙◌, ◌≡◌, ◌≢◌, ◌⊎◌, inl, inr, ℕ, zero, suc, ◌+◌, ◌-◌, ◌<◌, ◌≤◌, List, [], ◌∷◌, ◌++◌, length, take, drop, get_or, Option, Some, None, sym, ap, subst, arith}
use Rattle.std.specs.List.{AllByRecursion}
use Rattle.std.proofs.lemmas.List.{take-append-drop}
use Rattle.ex_base.specs.Area.{NamesLeaf}
use Rattle.ex_base.specs.declared.geometry.Geometry.{Geometry}
use Rattle.ex_base.specs.declared.names.PageNo.{PageNo}
use Rattle.ex_base.specs.declared.names.Root.{Root}
use Rattle.ex_base.proofs.Each.{each_at}
use Rattle.trees.specs.Trees.{Units}
use Rattle.trees.specs.declared.rows.Part.{Part}
use Rattle.trees.specs.Damage.{NamesNode, IsSoundWay, IsSoundEnd, IsSoundRoot, root_row_at}
use Rattle.trees.specs.Rows.{row_size, IsRowOn}
use Rattle.trees.proofs.Ways.{way_append, way_back, way_front, way_index, way_inner, way_inside, way_move, way_past}
use Rattle.trees.specs.Built.{AreSome}
use Rattle.tree_insert.specs.Places.{IsAt}
use Rattle.tree_insert.specs.Replaced.{EachRow, IsSpan}
use Rattle.tree_insert.proofs.BelowRows.{CountedRow}
use Rattle.tree_insert.proofs.LeafStep.{cut_three}
use Rattle.trees.proofs.Reading.{no_part}
use Rattle.tree_insert.proofs.PlaceLaws.{read_size, size-front}
use Rattle.trees.proofs.Sizes.{front_le, piece_size}

-- ---- a root

pub root_way : (geo : Geometry) (u : Units) (leaf : ℕ → Type 0) (root : Root) (page : PageNo) (f t : ℕ) → root.page ≡ Some page → IsSoundWay geo u leaf root.height 2 (record { size = root.size; page = page } ∷ []) f t → IsSoundRoot geo u leaf root f t
root_way geo u leaf root page f t is h = subst (λ (p : Option PageNo). IsSoundWay geo u leaf root.height 2 (root_row_at root.size p) f t) (sym is) h

pub no_root_way : (geo : Geometry) (u : Units) (leaf : ℕ → Type 0) (root : Root) (f t : ℕ) → root.page ≡ None → IsSoundRoot geo u leaf root f t
no_root_way geo u leaf root f t is = subst (λ (p : Option PageNo). IsSoundWay geo u leaf root.height 2 (root_row_at root.size p) f t) (sym is) (way_past geo u leaf root.height 2 [] f t (omega arith))

-- ---- the place of new bytes

module _ (geo : Geometry) (u : Units) (leaf : ℕ → Type 0) where
  -- the tree that takes the bytes has the byte before the place, or begins the row
  pub place_way : (level least : ℕ) (row : List Part) (pos index at : ℕ) → AreSome row → IsAt row pos index at → IsSoundWay geo u leaf level least (get_or row index no_part ∷ []) (at - 1) (at - 1) → IsSoundWay geo u leaf level least row (pos - 1) (pos - 1)
  place_way level least row pos index at some h way =
      let one : 1 ≤ (get_or row index no_part).size = each_at (λ (part : Part). 1 ≤ part.size) row index no_part h.inside some in
      let size = read_size row index h.inside in
      let start : row_size (take index row) ≤ pos - 1 = starts row pos index at h in
      way_index geo u leaf level least row index (pos - 1) (pos - 1) h.inside (omega arith) start (omega (arith, h.start, h.fits))
      (way_move geo u leaf level least (get_or row index no_part ∷ []) (at - 1) (at - 1) (pos - 1 - row_size (take index row)) (pos - 1 - row_size (take index row)) (omega (arith, h.start)) (omega (arith, h.start)) way)
    where
      starts : (row : List Part) (pos index at : ℕ) → IsAt row pos index at → row_size (take index row) ≤ pos - 1
      starts row pos zero at h = omega arith
      starts row pos (suc i) at h = omega (arith, h.start, h.first (λ e. omega arith))

  -- leaves around the place that are all read
  pub leaves_way_at : (row old : List Part) (pos index at first end : ℕ) → AreSome row → IsAt row pos index at → first ≤ index → index < end → end ≤ length row → old ≡ take (end - first) (drop first row)
      → ((byte : ℕ) → byte < row_size old → IsSoundWay geo u leaf 0 0 old byte byte) → IsSoundWay geo u leaf 0 0 row (pos - 1) (pos - 1)
  leaves_way_at row old pos index at first end some h low high inside is ways =
      let one : 1 ≤ (get_or row index no_part).size = each_at (λ (part : Part). 1 ≤ part.size) row index no_part h.inside some in
      let size = read_size row index h.inside in
      let start : row_size (take first row) ≤ pos - 1 = omega (arith, starts row pos index at h, front_le row first index low) in
      let whole : row_size (take first row) + row_size old ≡ row_size (take end row) = ap (λ r. row_size (take first row) + row_size r) is ∙ piece_size row first end (omega arith) in
      let stop : pos - 1 < row_size (take first row) + row_size old = omega (arith, whole, h.start, h.fits, size-front row index h.inside, front_le row (index + 1) end (omega arith)) in
      subst (λ r. IsSoundWay geo u leaf 0 0 r (pos - 1) (pos - 1)) (sym (cut_three row first end (omega arith)))
      (way_inside geo u leaf 0 0 (take first row) (take (end - first) (drop first row)) (drop end row) (pos - 1) (pos - 1) start start (omega (arith, stop, ap row_size is))
      (subst (λ r. IsSoundWay geo u leaf 0 0 r (pos - 1 - row_size (take first row)) (pos - 1 - row_size (take first row))) is (ways (pos - 1 - row_size (take first row)) (omega (arith, stop, start)))))
    where
      starts : (row : List Part) (pos index at : ℕ) → IsAt row pos index at → row_size (take index row) ≤ pos - 1
      starts row pos zero at h = omega arith
      starts row pos (suc i) at h = omega (arith, h.start, h.first (λ e. omega arith))

  -- from the children of a run of nodes to the run
  pub run_way : (level least : ℕ) (run : List Part) (lens : List ℕ) (row : List Part) (f t : ℕ) → level ≢ 0 → EachRow (CountedRow geo level least) run lens row → EachRow (λ part r. IsRowOn geo (u part.page.0) level part.size r) run lens row
      → AllByRecursion (λ (part : Part). NamesNode geo part.page.0) run → IsSoundWay geo u leaf (level - 1) geo.fan row f t → IsSoundWay geo u leaf level least run f t
  run_way level least [] lens row f t up counted on area way = way_past geo u leaf level least [] f t (omega arith)
  run_way level least (part ∷ run) [] row f t up counted on area way = absurd counted
  run_way level least (part ∷ run) (n ∷ lens) row f t up counted on area way =
      let split : IsSoundWay geo u leaf (level - 1) geo.fan (take n row ++ drop n row) f t = subst (λ r. IsSoundWay geo u leaf (level - 1) geo.fan r f t) (sym (take-append-drop n row)) way in
      way_append geo u leaf level least (part ∷ []) run f t
      (way_inner geo u leaf level least part (take n row) f t up area.0 on.1 counted.1.filled (λ inside. way_front geo u leaf (level - 1) geo.fan (take n row) (drop n row) f t split))
      (λ far. run_way level least run lens (drop n row) (f - (part.size + 0)) (t - (part.size + 0)) up counted.2 on.2 area.1
      (way_move geo u leaf (level - 1) geo.fan (drop n row) (f - row_size (take n row)) (t - row_size (take n row)) (f - (part.size + 0)) (t - (part.size + 0)) (omega (arith, counted.1.sum)) (omega (arith, counted.1.sum))
      (way_back geo u leaf (level - 1) geo.fan (take n row) (drop n row) f t (omega (arith, counted.1.sum, far)) split)))

  -- from the trees that hold a range to the row
  pub touched_way : (level least : ℕ) (row : List Part) (pos n first end at byte : ℕ) → IsSpan row pos n first end at → pos ≤ byte → byte < pos + n
      → ((b : ℕ) → at ≤ b → b < at + n → IsSoundWay geo u leaf level least (take (end - first) (drop first row)) b b) → IsSoundWay geo u leaf level least row byte byte
  touched_way level least row pos n first end at byte h low high ways =
      subst (λ r. IsSoundWay geo u leaf level least r byte byte) (sym (cut_three row first end (omega (arith, h.order))))
      (way_inside geo u leaf level least (take first row) (take (end - first) (drop first row)) (drop end row) byte byte (omega (arith, h.start)) (omega (arith, h.start)) (omega (arith, h.start, h.touched.all))
      (ways (byte - row_size (take first row)) (omega (arith, h.start)) (omega (arith, h.start))))

-- an end of a range in the trees that hold it
pub touched_end : (geo : Geometry) (u : Units) (level least : ℕ) (row : List Part) (pos n first end at border : ℕ) → 1 ≤ n → IsSpan row pos n first end at → (border ≡ pos) ⊎ (border ≡ pos + n)
    → ((b : ℕ) → (b ≡ at) ⊎ (b ≡ at + n) → IsSoundEnd geo u level least (take (end - first) (drop first row)) b) → IsSoundEnd geo u level least row border
touched_end geo u level least row pos n first end at border many h which ends some =
    subst (λ r. IsSoundWay geo u (NamesLeaf geo) level least r (border - 1) border) (sym (cut_three row first end (omega (arith, h.order))))
    (way_append geo u (NamesLeaf geo) level least (take first row) (take (end - first) (drop first row) ++ drop end row) (border - 1) border
    (way_past geo u (NamesLeaf geo) level least (take first row) (border - 1) border (reach which))
    (λ far. way_append geo u (NamesLeaf geo) level least (take (end - first) (drop first row)) (drop end row) (border - 1 - row_size (take first row)) (border - row_size (take first row))
    (way_move geo u (NamesLeaf geo) level least (take (end - first) (drop first row)) (border - row_size (take first row) - 1) (border - row_size (take first row)) (border - 1 - row_size (take first row)) (border - row_size (take first row)) (omega arith) (omega arith)
    (ends (border - row_size (take first row)) (inner which) (omega (arith, far, some))))
    (λ beyond. absurd (last which beyond))))
  where
    reach : (border ≡ pos) ⊎ (border ≡ pos + n) → row_size (take first row) ≤ border
    reach (inl is) = omega (arith, h.start, is)
    reach (inr is) = omega (arith, h.start, is)

    inner : (border ≡ pos) ⊎ (border ≡ pos + n) → (border - row_size (take first row) ≡ at) ⊎ (border - row_size (take first row) ≡ at + n)
    inner (inl is) = inl (omega (arith, h.start, is))
    inner (inr is) = inr (omega (arith, h.start, is))

    last : (border ≡ pos) ⊎ (border ≡ pos + n) → row_size (take (end - first) (drop first row)) ≤ border - 1 - row_size (take first row) → ⊥
    last (inl is) beyond = omega (arith, h.start, is, h.touched.all, many, some)
    last (inr is) beyond = omega (arith, h.start, is, h.touched.all, many, some)
