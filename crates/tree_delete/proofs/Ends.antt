-- Sound ways to the ends of a range.
use Rattle.std.proofs.Common.{◌≡◌, ◌⊎◌, inl, inr, ℕ, ◌+◌, ◌-◌, ◌<◌, ◌≤◌, List, [], ◌++◌, sym, ap, subst, refl, arith}
use Rattle.std.proofs.lemmas.Bool.{cases_lt}
use Rattle.ex_base.specs.Area.{NamesLeaf}
use Rattle.ex_base.specs.declared.geometry.Geometry.{Geometry}
use Rattle.ex_base.specs.declared.ground.Ground as ground
use Rattle.ex_base.specs.Ports.{Keeps}
use Rattle.trees.specs.Trees.{Units}
use Rattle.trees.specs.declared.rows.Part.{Part}
use Rattle.trees.specs.Damage.{IsSoundEnd, IsSoundWay}
use Rattle.trees.specs.Rows.{row_size}
use Rattle.trees.proofs.Ways.{way_append, way_back, way_fewer, way_front, way_kept, way_low, way_move, way_past}
use Rattle.tree_delete.specs.declared.cut.Cut.{Cut}
use Rattle.tree_delete.specs.Cuts.{HasSoundEnds, IsCutOf}
use Rattle.tree_delete.specs.Leaves.{IsWider}
use Rattle.tree_delete.proofs.CutLaws.{size_app}

pub ends_kept : {S : Type 0} (g : ground.Ghosts S) (a b : S) (level least : ℕ) (cut : Cut) → Keeps g a b → (g.tells b → HasSoundEnds (g.geometry b) (g.unit b) level least cut) → g.tells a → HasSoundEnds (g.geometry a) (g.unit a) level least cut
ends_kept g a b level least cut k later told = (
  λ some. way_kept g NamesLeaf a b level least cut.run.items (cut.at - 1) cut.at k (λ told_b. (later told_b).0 some) told,
  λ some. way_kept g NamesLeaf a b level least cut.run.items (cut.at + cut.len - 1) (cut.at + cut.len) k (λ told_b. (later told_b).1 some) told,
)

module _ (geo : Geometry) (u : Units) where
  pub ends_low : (level other least : ℕ) (cut : Cut) → level ≡ 0 → HasSoundEnds geo u 0 other cut → HasSoundEnds geo u level least cut
  ends_low level other least cut low h = (
    λ some. way_low geo u (NamesLeaf geo) level other least cut.run.items (cut.at - 1) cut.at low (h.0 some),
    λ some. way_low geo u (NamesLeaf geo) level other least cut.run.items (cut.at + cut.len - 1) (cut.at + cut.len) low (h.1 some),
  )

  pub ends_nowhere : (level least : ℕ) (cut : Cut) → row_size cut.run.items ≡ 0 → HasSoundEnds geo u level least cut
  ends_nowhere level least cut none = (
    λ some. way_past geo u (NamesLeaf geo) level least cut.run.items (cut.at - 1) cut.at (omega (arith, none)),
    λ some. way_past geo u (NamesLeaf geo) level least cut.run.items (cut.at + cut.len - 1) (cut.at + cut.len) (omega (arith, none)),
  )

  -- ---- from a cut to the row that it goes through

  start_of_cut : (l least : ℕ) (left lead gone tail right run : List Part) (a b n : ℕ) → row_size left + a ≡ b → run ≡ lead ++ tail → (gone ≡ []) ⊎ ((a ≤ row_size lead) × (row_size lead ≤ a + n)) → a + n ≤ row_size run
      → IsSoundEnd geo u l least run a → IsSoundEnd geo u l least (left ++ ((lead ++ (gone ++ tail)) ++ right)) b
  start_of_cut l least left lead gone tail right run a b n start run_is through inside end some =
      let run_size = ap row_size run_is in
      way_append geo u (NamesLeaf geo) l least left ((lead ++ (gone ++ tail)) ++ right) (b - 1) b (way_past geo u (NamesLeaf geo) l least left (b - 1) b (omega (arith, start)))
      (λ far.
      let one : 1 ≤ a = omega (arith, start, far, some) in
      way_move geo u (NamesLeaf geo) l least ((lead ++ (gone ++ tail)) ++ right) (a - 1) a (b - 1 - row_size left) (b - row_size left) (omega (arith, start)) (omega (arith, start))
      (way_append geo u (NamesLeaf geo) l least (lead ++ (gone ++ tail)) right (a - 1) a (middle one through (subst (λ r. IsSoundWay geo u (NamesLeaf geo) l least r (a - 1) a) run_is (end one)))
      (λ beyond. absurd (omega (arith, one, inside, run_size, beyond, size_app lead tail, size_app lead (gone ++ tail), size_app gone tail)))))
    where
      middle : 1 ≤ a → (gone ≡ []) ⊎ ((a ≤ row_size lead) × (row_size lead ≤ a + n)) → IsSoundWay geo u (NamesLeaf geo) l least (lead ++ tail) (a - 1) a → IsSoundWay geo u (NamesLeaf geo) l least (lead ++ (gone ++ tail)) (a - 1) a
      middle one (inl none) way = subst (λ g. IsSoundWay geo u (NamesLeaf geo) l least (lead ++ (g ++ tail)) (a - 1) a) (sym none) way
      middle one (inr h) way = way_append geo u (NamesLeaf geo) l least lead (gone ++ tail) (a - 1) a (way_front geo u (NamesLeaf geo) l least lead tail (a - 1) a way) (λ far. absurd (omega (arith, one, h.0, far)))

  end_of_cut : (l least : ℕ) (left lead gone tail right run : List Part) (a b n less : ℕ) → row_size left + a ≡ b → less + row_size gone ≡ n → run ≡ lead ++ tail → (gone ≡ []) ⊎ ((a ≤ row_size lead) × (row_size lead ≤ a + less)) → a + less ≤ row_size run
      → IsSoundEnd geo u l least run (a + less) → IsSoundEnd geo u l least (left ++ ((lead ++ (gone ++ tail)) ++ right)) (b + n)
  end_of_cut l least left lead gone tail right run a b n less start sum run_is through inside end some =
      let run_size = ap row_size run_is in
      way_append geo u (NamesLeaf geo) l least left ((lead ++ (gone ++ tail)) ++ right) (b + n - 1) (b + n) (way_past geo u (NamesLeaf geo) l least left (b + n - 1) (b + n) (omega (arith, start)))
      (λ far.
      let one : 1 ≤ a + n = omega (arith, start, far, some) in
      way_move geo u (NamesLeaf geo) l least ((lead ++ (gone ++ tail)) ++ right) (a + n - 1) (a + n) (b + n - 1 - row_size left) (b + n - row_size left) (omega (arith, start)) (omega (arith, start))
      (way_append geo u (NamesLeaf geo) l least (lead ++ (gone ++ tail)) right (a + n - 1) (a + n) (middle one through)
      (λ beyond. absurd (omega (arith, one, sum, inside, run_size, beyond, size_app lead tail, size_app lead (gone ++ tail), size_app gone tail)))))
    where
      given : 1 ≤ a + less → IsSoundWay geo u (NamesLeaf geo) l least (lead ++ tail) (a + less - 1) (a + less)
      given many = subst (λ r. IsSoundWay geo u (NamesLeaf geo) l least r (a + less - 1) (a + less)) run_is (end many)

      middle : 1 ≤ a + n → (gone ≡ []) ⊎ ((a ≤ row_size lead) × (row_size lead ≤ a + less)) → IsSoundWay geo u (NamesLeaf geo) l least (lead ++ (gone ++ tail)) (a + n - 1) (a + n)
      middle one (inl none) =
          let same : less ≡ n = omega (arith, sum, ap row_size none) in
          subst (λ g. IsSoundWay geo u (NamesLeaf geo) l least (lead ++ (g ++ tail)) (a + n - 1) (a + n)) (sym none)
          (way_move geo u (NamesLeaf geo) l least (lead ++ tail) (a + less - 1) (a + less) (a + n - 1) (a + n) (omega (arith, same)) (omega (arith, same)) (given (omega (arith, same, one))))
      middle one (inr h) =
          way_append geo u (NamesLeaf geo) l least lead (gone ++ tail) (a + n - 1) (a + n) (way_past geo u (NamesLeaf geo) l least lead (a + n - 1) (a + n) (omega (arith, h.1, sum)))
          (λ far. way_append geo u (NamesLeaf geo) l least gone tail (a + n - 1 - row_size lead) (a + n - row_size lead) (way_past geo u (NamesLeaf geo) l least gone (a + n - 1 - row_size lead) (a + n - row_size lead) (omega (arith, h.1, sum)))
          (λ behind.
          let enough : row_size lead + 1 ≤ a + less = omega (arith, far, behind, sum, one) in
          way_move geo u (NamesLeaf geo) l least tail (a + less - 1 - row_size lead) (a + less - row_size lead) (a + n - 1 - row_size lead - row_size gone) (a + n - row_size lead - row_size gone) (omega (arith, sum)) (omega (arith, sum))
          (way_back geo u (NamesLeaf geo) l least lead tail (a + less - 1) (a + less) (omega (arith, enough)) (given (omega (arith, enough))))))

  pub ends_of_cut : (l least : ℕ) (row : List Part) (at len : ℕ) (cut : Cut) → IsCutOf row at len cut → HasSoundEnds geo u l least cut → IsSoundEnd geo u l least row at × IsSoundEnd geo u l least row (at + len)
  ends_of_cut l least row at len cut h ends = (
    subst (λ r. IsSoundEnd geo u l least r at) (sym h.whole) (start_of_cut l least cut.left.items h.lead h.gone h.tail cut.right.items cut.run.items cut.at at cut.len h.start h.run h.through h.inside ends.0),
    subst (λ r. IsSoundEnd geo u l least r (at + len)) (sym h.whole) (end_of_cut l least cut.left.items h.lead h.gone h.tail cut.right.items cut.run.items cut.at at len cut.len h.start h.less h.run h.through h.inside ends.1),
  )

  -- ---- from a wider run of leaves

  -- an end in one run is the same end in another run of the row
  end_moved : (l least : ℕ) (left run right left2 run2 right2 : List Part) (a b : ℕ) → left2 ++ (run2 ++ right2) ≡ left ++ (run ++ right) → row_size left2 + b ≡ row_size left + a → b ≤ row_size run2 → IsSoundEnd geo u l least run2 b → IsSoundEnd geo u l least run a
  end_moved l least left run right left2 run2 right2 a b same start inside end some =
      let whole : IsSoundWay geo u (NamesLeaf geo) l least (left2 ++ (run2 ++ right2)) (row_size left + a - 1) (row_size left + a) =
      way_append geo u (NamesLeaf geo) l least left2 (run2 ++ right2) (row_size left + a - 1) (row_size left + a) (way_past geo u (NamesLeaf geo) l least left2 (row_size left + a - 1) (row_size left + a) (omega (arith, start)))
      (λ far.
      let one : 1 ≤ b = omega (arith, start, far, some) in
      way_move geo u (NamesLeaf geo) l least (run2 ++ right2) (b - 1) b (row_size left + a - 1 - row_size left2) (row_size left + a - row_size left2) (omega (arith, start)) (omega (arith, start))
      (way_append geo u (NamesLeaf geo) l least run2 right2 (b - 1) b (end one) (λ beyond. absurd (omega (arith, one, inside, beyond))))) in
      way_front geo u (NamesLeaf geo) l least run right (a - 1) a
      (way_move geo u (NamesLeaf geo) l least (run ++ right) (row_size left + a - 1 - row_size left) (row_size left + a - row_size left) (a - 1) a (omega (arith, some)) (omega arith)
      (way_back geo u (NamesLeaf geo) l least left (run ++ right) (row_size left + a - 1) (row_size left + a) (omega (arith, some)) (subst (λ r. IsSoundWay geo u (NamesLeaf geo) l least r (row_size left + a - 1) (row_size left + a)) same whole)))

  -- leaves that are read but for the range
  pub leaf_ends : (full : ℕ) (cut wider : Cut) → IsWider full cut wider → cut.at + cut.len ≤ row_size cut.run.items
      → ((byte : ℕ) → byte < row_size wider.run.items → (byte < wider.at) ⊎ (wider.at + wider.len ≤ byte) → IsSoundWay geo u (NamesLeaf geo) 0 0 wider.run.items byte byte) → HasSoundEnds geo u 0 0 cut
  leaf_ends full cut wider h fits ways =
      let inside = h.inside fits in (
        end_moved 0 0 cut.left.items cut.run.items cut.right.items wider.left.items wider.run.items wider.right.items cut.at wider.at h.row h.start (omega (arith, inside))
            (λ one. way_fewer geo u (NamesLeaf geo) 0 0 wider.run.items (wider.at - 1) (wider.at - 1) (wider.at - 1) wider.at refl (omega arith) (omega arith) (ways (wider.at - 1) (omega (arith, one, inside)) (inl (omega (arith, one))))),
        end_moved 0 0 cut.left.items cut.run.items cut.right.items wider.left.items wider.run.items wider.right.items (cut.at + cut.len) (wider.at + wider.len) h.row (omega (arith, h.start, h.less)) inside
            (λ one. elim (cases_lt (wider.at + wider.len) (row_size wider.run.items)) [
              | inl more ↦ way_fewer geo u (NamesLeaf geo) 0 0 wider.run.items (wider.at + wider.len) (wider.at + wider.len) (wider.at + wider.len - 1) (wider.at + wider.len) refl (omega arith) (omega arith) (ways (wider.at + wider.len) more (inr (omega arith)))
              | inr all ↦ way_past geo u (NamesLeaf geo) 0 0 wider.run.items (wider.at + wider.len - 1) (wider.at + wider.len) all
            ]),
      )
