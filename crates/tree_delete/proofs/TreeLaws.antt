-- What a cut leaves of a whole tree.
use Rattle.std.proofs.Common.{◌≡◌, ◌≢◌, ◌⊎◌, ℕ, zero, suc, ◌-◌, ◌/◌, ◌≤◌, Bool, List, [], ◌∷◌, ◌++◌, refl, sym, ap, subst, ◌∙◌, arith, inl, inr}
use Rattle.std.proofs.lemmas.Bool.{cases_lt}
use Rattle.std.proofs.lemmas.List.{append-nil, nil_from_length}
use Rattle.ex_base.specs.Edits.{deleted}
use Rattle.ex_base.specs.Ports.{Keeps}
use Rattle.ex_base.specs.Sizes.{leaf_bytes}
use Rattle.ex_base.specs.declared.geometry.Geometry.{Geometry}
use Rattle.ex_base.specs.declared.ground.Ground as ground
use Rattle.ex_base.proofs.Each.{each_as, each_mapped}
use Rattle.trees.specs.Shape.{Subtree}
use Rattle.trees.specs.Trees.{Units}
use Rattle.trees.specs.declared.rows.Part.{Part}
use Rattle.trees.specs.Rows.{row_bytes, row_shape, row_units, AreTrees}
use Rattle.trees.specs.Made.{Has, Holds}
use Rattle.tree_delete.specs.declared.cut.Cut.{Cut}
use Rattle.tree_delete.specs.Cuts.{all_of, sides, cut_bytes, AreHalves, HaveHalves, IsBelow}
use Rattle.tree_delete.specs.Left.{IsLeft, AreRootLeaves, AreRoots, IsTrimmed}
use Rattle.trees.proofs.Growing.{holds_kept}
use Rattle.trees.proofs.Counts.{counted_back}
use Rattle.tree_delete.proofs.NodeLaws.{halves_two, half_children}

have_of : (geo : Geometry) (l : ℕ) (trees : List (Subtree l)) → AreHalves geo l trees → HaveHalves geo l trees
have_of geo zero trees all = tt
have_of geo (suc l) trees all = half_children geo l trees all

run_have : (geo : Geometry) (u : Units) (l : ℕ) (cut : Cut) → AreHalves geo l (row_shape u l (all_of cut)) → HaveHalves geo l (row_shape u l cut.run.items)
run_have geo u l cut all =
    let parts = halves_two geo u l cut.left.items (cut.run.items ++ cut.right.items) all in
    let others = halves_two geo u l cut.run.items cut.right.items parts.1 in
    have_of geo l (row_shape u l cut.run.items) others.0

-- leaves of a root
leaf_roots : (geo : Geometry) (u : Units) (row : List Part) → AreTrees geo u 0 row → AreRootLeaves (leaf_bytes geo) row → AreRoots geo 0 (row_shape u 0 row)
leaf_roots geo u row trees (inr halves) = inl (each_mapped (λ n. (leaf_bytes geo / 2 ≤ n) × (n ≤ leaf_bytes geo)) (λ (part : Part). part.size) row halves)
leaf_roots geo u [] trees (inl one) = absurd (omega arith)
leaf_roots geo u (part ∷ []) trees (inl one) = inr (part.size, refl, trees.0.1)
leaf_roots geo u (part ∷ next ∷ row) trees (inl one) = absurd (omega arith)

module _ {S : Type 0} (g : ground.Ghosts S) where
  -- the row of the cut's own level
  pub trimmed_here : (a b : S) (level l m : ℕ) (cut : Cut) (row : List Part) → g.leads a b → level ≡ l → level ≡ m → (level ≡ 0) ⊎ (1 ≤ sides cut) → (level ≡ 0 → sides cut ≡ 0 → AreRootLeaves (leaf_bytes (g.geometry a)) row)
      → (1 ≤ sides cut → AreHalves (g.geometry a) l (row_shape (g.unit a) l (all_of cut))) → IsLeft g a b l cut row → IsTrimmed g a b (row_units (g.unit a) l (all_of cut)) (cut_bytes (g.unit a) l cut) m row
  trimmed_here a b level l m cut row leads to_l to_m side roots halves left =
      let geo = g.leads_geometry a b leads in
      subst (λ n. IsTrimmed g a b (row_units (g.unit a) l (all_of cut)) (cut_bytes (g.unit a) l cut) n row) (sym to_l ∙ to_m) (record {
        trees = left.grew.trees;
        bytes_are = left.grew.bytes_are;
        units = left.grew.units;
        roots = elim (cases_lt 0 (sides cut)) [
          | inl some ↦ inl (subst (λ q. AreHalves q l (row_shape (g.unit b) l row)) (sym geo) (subst (AreHalves (g.geometry a) l) (sym left.grew.shape_is) (left.halves some (halves some))))
          | inr none ↦
              let no_sides : sides cut ≡ 0 = omega arith in
              let lowest : level ≡ 0 = elim side [
                | inl e ↦ e
                | inr some ↦ absurd (omega arith)
              ] in
              let l_is : l ≡ 0 = sym to_l ∙ lowest in
              let leaves : AreRootLeaves (leaf_bytes (g.geometry b)) row = subst (λ q. AreRootLeaves (leaf_bytes q) row) (sym geo) (roots lowest no_sides) in
              let trees : AreTrees (g.geometry b) (g.unit b) 0 row = subst (λ n. AreTrees (g.geometry b) (g.unit b) n row) l_is left.grew.trees in
              subst (λ n. AreRoots (g.geometry b) n (row_shape (g.unit b) n row)) (sym l_is) (leaf_roots (g.geometry b) (g.unit b) row trees leaves)
        ];
      })

  -- the row of a level below
  trimmed_node : (a b d : S) (l m : ℕ) (cut below : Cut) (row : List Part) → Keeps g a b → sides cut ≡ 0 → Holds g a (suc l) (all_of cut) → HaveHalves (g.geometry a) (suc l) (row_shape (g.unit a) (suc l) cut.run.items)
      → (Holds g a (suc l) cut.run.items → IsBelow g a l cut.run.items cut.at cut.len below)
      → (Holds g b l (all_of below) → (1 ≤ sides below → AreHalves (g.geometry b) l (row_shape (g.unit b) l (all_of below))) → HaveHalves (g.geometry b) l (row_shape (g.unit b) l below.run.items) → IsTrimmed g b d (row_units (g.unit b) l (all_of below)) (cut_bytes (g.unit b) l below) m row)
      → IsTrimmed g a d (row_units (g.unit a) (suc l) (all_of cut)) (cut_bytes (g.unit a) (suc l) cut) m row
  trimmed_node a b d l m cut below row k none holds have opens rest =
      let no_left : cut.left.items ≡ [] = nil_from_length cut.left.items (omega arith) in
      let no_right : cut.right.items ≡ [] = nil_from_length cut.right.items (omega arith) in
      let run_is : all_of cut ≡ cut.run.items = ap (λ (xs : List Part). xs ++ (cut.run.items ++ cut.right.items)) no_left ∙ ap (λ (xs : List Part). cut.run.items ++ xs) no_right ∙ append-nil cut.run.items in
      let bytes_is : cut_bytes (g.unit a) (suc l) cut ≡ deleted (row_bytes (g.unit a) (suc l) cut.run.items) cut.at cut.len =
      ap (λ (r : List Part). row_bytes (g.unit a) (suc l) r ++ (deleted (row_bytes (g.unit a) (suc l) cut.run.items) cut.at cut.len ++ row_bytes (g.unit a) (suc l) cut.right.items)) no_left
      ∙ ap (λ (r : List Part). deleted (row_bytes (g.unit a) (suc l) cut.run.items) cut.at cut.len ++ row_bytes (g.unit a) (suc l) r) no_right ∙ append-nil (deleted (row_bytes (g.unit a) (suc l) cut.run.items) cut.at cut.len) in
      let low = opens (subst (Holds g a (suc l)) run_is holds) in
      let geo = g.leads_geometry a b k.leads in
      let half : AreHalves (g.geometry b) l (row_shape (g.unit b) l (all_of below)) =
      subst (λ u. AreHalves (g.geometry b) l (row_shape u l (all_of below))) (sym k.units) (subst (λ q. AreHalves q l (row_shape (g.unit a) l (all_of below))) (sym geo) (low.halves have)) in
      let done = rest (holds_kept g a b l (all_of below) k low.holds) (λ some. half) (run_have (g.geometry b) (g.unit b) l below half) in
      record {
        trees = done.trees;
        bytes_are = done.bytes_are ∙ ap (λ (u : Units). cut_bytes u l below) k.units ∙ low.bytes ∙ sym bytes_is;
        units = record {
          own = each_as _ _ (row_units (g.unit d) m row) (λ p x. elim x [
            | inl t ↦ inl (sym (ap (λ (f : ℕ → Bool). f p) k.used) ∙ t.0, t.1)
            | inr o ↦ inr (subst (λ r. Has (row_units (g.unit a) (suc l) r) p) (sym run_is) (low.units p (subst (λ u. Has (row_units u l (all_of below)) p) k.units o)))
          ]) done.units.own;
          all = λ p t. done.units.all p (ap (λ (f : ℕ → Bool). f p) k.used ∙ t.0, t.1);
          counts = λ names. counted_back g a b d k (done.units.counts names);
        };
        roots = done.roots;
      }

  pub trimmed_below : (a b d : S) (level l m : ℕ) (cut below : Cut) (row : List Part) → g.tells a → level ≡ l → level ≢ 0 → Keeps g a b → sides cut ≡ 0 → Holds g a l (all_of cut) → HaveHalves (g.geometry a) l (row_shape (g.unit a) l cut.run.items)
      → (g.tells a → (n : ℕ) → level ≡ suc n → Holds g a (suc n) cut.run.items → IsBelow g a n cut.run.items cut.at cut.len below)
      → (g.tells b → (n : ℕ) → level - 1 ≡ n → Holds g b n (all_of below) → (1 ≤ sides below → AreHalves (g.geometry b) n (row_shape (g.unit b) n (all_of below))) → HaveHalves (g.geometry b) n (row_shape (g.unit b) n below.run.items)
      → IsTrimmed g b d (row_units (g.unit b) n (all_of below)) (cut_bytes (g.unit b) n below) m row)
      → IsTrimmed g a d (row_units (g.unit a) l (all_of cut)) (cut_bytes (g.unit a) l cut) m row
  trimmed_below a b d level zero m cut below row told same above k none holds have opens rest = absurd (above same)
  trimmed_below a b d level (suc l) m cut below row told same above k none holds have opens rest =
      trimmed_node a b d l m cut below row k none holds have (opens told l same) (rest (g.leads_told a b k.leads told) l (omega arith))
