-- How a part of a row that grew makes the row grow, and the row its node.
use Rattle.std.proofs.Common.{◌≡◌, ◌⊎◌, ℕ, suc, ◌≤◌, List, [], ◌∷◌, ◌++◌, length, Bool, true, sym, ap, subst, ◌∙◌, inl, inr}
use Rattle.std.proofs.lemmas.List.{map-append}
use Rattle.std.specs.List.{AllByRecursion}
use Rattle.ex_base.specs.Area.{NamesLeaf}
use Rattle.ex_base.specs.Sizes.{leaf_bytes}
use Rattle.ex_base.specs.declared.geometry.Geometry.{Geometry}
use Rattle.ex_base.proofs.Rows.{each-append}
use Rattle.ex_base.proofs.Each.{each_as, split_each}
use Rattle.ex_base.specs.declared.ground.Ground as ground
use Rattle.ex_base.specs.Ports.{Keeps}
use Rattle.trees.proofs.Counts.{counted_back}
use Rattle.trees.specs.Shape.{Subtree}
use Rattle.trees.specs.Trees.{Units, shape_on}
use Rattle.trees.specs.declared.rows.Part.{Part}
use Rattle.trees.specs.Rows.{AreTrees, row_bytes, row_shape, row_units}
use Rattle.trees.specs.Made.{Extends, AreUsed, Holds, Has, IsTaken, Took, pages_of, sizes_of}
use Rattle.trees.proofs.Laid.{has_left, has_right, leaf_units}
use Rattle.trees.proofs.Over.{units_app, bytes_app, all_has}
use Rattle.trees.proofs.Kept.{row_extends}
use Rattle.trees.proofs.RootSteps.{turned_on, turned_built, used_after, over_row}
use Rattle.trees.specs.Built.{Built, even_lens}
use Rattle.trees.specs.Split.{nodes_over}
use Rattle.trees.specs.Counted.{Counted, NamesPairs}
use Rattle.trees.specs.Grown.{Grew}

pub shape_app : (u : Units) (l : ℕ) (xs ys : List Part) → row_shape u l (xs ++ ys) ≡ row_shape u l xs ++ row_shape u l ys
shape_app u l xs ys = map-append (λ (part : Part). shape_on u l part.page.0 part.size) xs ys

module _ {S : Type 0} (g : ground.Ghosts S) where
  -- the parts of a row that is held
  pub holds_split : (a : S) (l : ℕ) (xs ys : List Part) → Holds g a l (xs ++ ys) → Holds g a l xs × Holds g a l ys
  holds_split a l xs ys h =
      let trees = split_each _ xs ys h.trees in
      let used = split_each (λ p. g.used a p ≡ true) (row_units (g.unit a) l xs) (row_units (g.unit a) l ys) (subst (AreUsed (g.used a)) (units_app (g.unit a) l xs ys) h.used) in
      (record { trees = trees.0; used = used.0 }, record { trees = trees.1; used = used.1 })

  -- a row that stays
  stays : (a b : S) (l : ℕ) (row : List Part) → Extends g a b → Holds g a l row
      → AreTrees (g.geometry b) (g.unit b) l row × AllByRecursion (λ p. IsTaken g a b p ⊎ Has (row_units (g.unit a) l row) p) (row_units (g.unit b) l row)
  stays a b l row ext h =
      let same = row_extends g a b l row ext h in (
        subst (λ geo. AreTrees geo (g.unit b) l row) (sym (g.leads_geometry a b ext.leads)) same.trees,
        subst (AllByRecursion (λ p. IsTaken g a b p ⊎ Has (row_units (g.unit a) l row) p)) (sym same.units)
            (each_as (λ p. Has (row_units (g.unit a) l row) p) _ (row_units (g.unit a) l row) (λ p x. inr x) (all_has (row_units (g.unit a) l row))),
      )

  pub widen : (a b : S) (xs ys us : List ℕ) → ((p : ℕ) → Has xs p → Has ys p) → AllByRecursion (λ p. IsTaken g a b p ⊎ Has xs p) us → AllByRecursion (λ p. IsTaken g a b p ⊎ Has ys p) us
  widen a b xs ys us f all = each_as _ _ us (λ p h. elim h [ inl t ↦ inl t | inr o ↦ inr (f p o) ]) all

  -- ---- a state that keeps all but the count of faults

  pub holds_kept : (a b : S) (l : ℕ) (row : List Part) → Keeps g a b → Holds g a l row → Holds g b l row
  holds_kept a b l row k h = record {
    trees = subst (λ geo. AreTrees geo (g.unit b) l row) (sym (g.leads_geometry a b k.leads)) (subst (λ u. AreTrees (g.geometry a) u l row) (sym k.units) h.trees);
    used = subst (λ u. AreUsed (g.used b) (row_units u l row)) (sym k.units) (subst (λ f. AreUsed f (row_units (g.unit a) l row)) (sym k.used) h.used);
  }

  pub grew_back : (a b d : S) (l : ℕ) (was now : List Part) (bytes : List ℕ) (shape : List (Subtree l)) → Keeps g a b → Grew g b d l was now bytes shape → Grew g a d l was now bytes shape
  grew_back a b d l was now bytes shape k h = record {
    trees = h.trees;
    bytes_are = h.bytes_are;
    shape_is = h.shape_is;
    units = record {
      own = subst (λ u. AllByRecursion (λ p. IsTaken g a d p ⊎ Has (row_units u l was) p) (row_units (g.unit d) l now)) k.units
          (each_as _ _ (row_units (g.unit d) l now) (λ p x. elim x [
            | inl t ↦ inl (sym (ap (λ (f : ℕ → Bool). f p) k.used) ∙ t.0, t.1)
            | inr o ↦ inr o
          ]) h.units.own);
      all = λ p t. h.units.all p (ap (λ (f : ℕ → Bool). f p) k.used ∙ t.0, t.1);
      counts = λ names. counted_back g a b d k (h.units.counts names);
    };
  }

  -- what stands on both sides of a run stays
  pub grew_between : (a b : S) (l : ℕ) (left run right made : List Part) (bytes : List ℕ) (shape : List (Subtree l)) → Extends g a b → Holds g a l (left ++ (run ++ right)) → Grew g a b l run made bytes shape
      → Grew g a b l (left ++ (run ++ right)) (left ++ (made ++ right)) (row_bytes (g.unit a) l left ++ (bytes ++ row_bytes (g.unit a) l right)) (row_shape (g.unit a) l left ++ (shape ++ row_shape (g.unit a) l right))
  grew_between a b l left run right made bytes shape ext h grew =
      let first = holds_split a l left (run ++ right) h in
      let second = holds_split a l run right first.1 in
      let same_left = row_extends g a b l left ext first.0 in
      let same_right = row_extends g a b l right ext second.1 in
      let on_left = stays a b l left ext first.0 in
      let on_right = stays a b l right ext second.1 in
      let old_units : row_units (g.unit a) l (left ++ (run ++ right)) ≡ row_units (g.unit a) l left ++ (row_units (g.unit a) l run ++ row_units (g.unit a) l right) =
      units_app (g.unit a) l left (run ++ right) ∙ ap (λ us. row_units (g.unit a) l left ++ us) (units_app (g.unit a) l run right) in
      let new_units : row_units (g.unit b) l (left ++ (made ++ right)) ≡ row_units (g.unit b) l left ++ (row_units (g.unit b) l made ++ row_units (g.unit b) l right) =
      units_app (g.unit b) l left (made ++ right) ∙ ap (λ us. row_units (g.unit b) l left ++ us) (units_app (g.unit b) l made right) in
      record {
        trees = each-append _ left (made ++ right) on_left.0 (each-append _ made right grew.trees on_right.0);
        bytes_are = bytes_app (g.unit b) l left (made ++ right) ∙ ap (λ xs. row_bytes (g.unit b) l left ++ xs) (bytes_app (g.unit b) l made right)
            ∙ ap (λ xs. xs ++ (row_bytes (g.unit b) l made ++ row_bytes (g.unit b) l right)) same_left.bytes
            ∙ ap (λ xs. row_bytes (g.unit a) l left ++ (xs ++ row_bytes (g.unit b) l right)) grew.bytes_are
            ∙ ap (λ xs. row_bytes (g.unit a) l left ++ (bytes ++ xs)) same_right.bytes;
        shape_is = shape_app (g.unit b) l left (made ++ right) ∙ ap (λ xs. row_shape (g.unit b) l left ++ xs) (shape_app (g.unit b) l made right)
            ∙ ap (λ xs. xs ++ (row_shape (g.unit b) l made ++ row_shape (g.unit b) l right)) same_left.shape
            ∙ ap (λ xs. row_shape (g.unit a) l left ++ (xs ++ row_shape (g.unit b) l right)) grew.shape_is
            ∙ ap (λ xs. row_shape (g.unit a) l left ++ (shape ++ xs)) same_right.shape;
        units = record {
          own = subst (λ us. AllByRecursion (λ p. IsTaken g a b p ⊎ Has us p) (row_units (g.unit b) l (left ++ (made ++ right)))) (sym old_units)
              (subst (AllByRecursion (λ p. IsTaken g a b p ⊎ Has (row_units (g.unit a) l left ++ (row_units (g.unit a) l run ++ row_units (g.unit a) l right)) p)) (sym new_units)
              (each-append _ (row_units (g.unit b) l left) (row_units (g.unit b) l made ++ row_units (g.unit b) l right)
              (widen a b (row_units (g.unit a) l left) _ (row_units (g.unit b) l left) (λ p x. has_left (row_units (g.unit a) l left) _ p x) on_left.1)
              (each-append _ (row_units (g.unit b) l made) (row_units (g.unit b) l right)
              (widen a b (row_units (g.unit a) l run) _ (row_units (g.unit b) l made) (λ p x. has_right (row_units (g.unit a) l left) _ p (has_left (row_units (g.unit a) l run) (row_units (g.unit a) l right) p x)) grew.units.own)
              (widen a b (row_units (g.unit a) l right) _ (row_units (g.unit b) l right) (λ p x. has_right (row_units (g.unit a) l left) _ p (has_right (row_units (g.unit a) l run) (row_units (g.unit a) l right) p x)) on_right.1))));
          all = λ p t. subst (λ us. Has us p) (sym new_units) (has_right (row_units (g.unit b) l left) _ p (has_left (row_units (g.unit b) l made) (row_units (g.unit b) l right) p (grew.units.all p t)));
          counts = grew.units.counts;
        };
      }

  -- new leaves in the place of a run
  leaf_trees : (geo : Geometry) (u : Units) (made : List Part) (lengths : List ℕ) → sizes_of made ≡ lengths → AllByRecursion (λ (part : Part). NamesLeaf geo part.page.0) made → AllByRecursion (λ n. (1 ≤ n) × (n ≤ leaf_bytes geo)) lengths → AreTrees geo u 0 made
  leaf_trees geo u [] lengths same named fit = tt
  leaf_trees geo u (part ∷ made) [] same named fit = absurd cc
  leaf_trees geo u (part ∷ made) (n ∷ lengths) same named fit =
      let here : n ≡ part.size = cc in
      let rest : sizes_of made ≡ lengths = cc in
      ((named.0, subst (λ k. (1 ≤ k) × (k ≤ leaf_bytes geo)) here fit.0), leaf_trees geo u made lengths rest named.1 fit.1)

  pub grew_leaves : (a b : S) (run made : List Part) (lengths bytes : List ℕ) → Extends g a b → sizes_of made ≡ lengths → AllByRecursion (λ n. (1 ≤ n) × (n ≤ leaf_bytes (g.geometry a))) lengths
      → AllByRecursion (λ (part : Part). NamesLeaf (g.geometry a) part.page.0) made → Took g a b (pages_of made) → Counted g a b → row_bytes (g.unit b) 0 made ≡ bytes → Grew g a b 0 run made bytes lengths
  grew_leaves a b run made lengths bytes ext same fit named took counts bytes_are =
      let units : row_units (g.unit b) 0 made ≡ pages_of made = leaf_units (g.unit b) made in
      record {
        trees = subst (λ geo. AreTrees geo (g.unit b) 0 made) (sym (g.leads_geometry a b ext.leads)) (leaf_trees (g.geometry a) (g.unit b) made lengths same named fit);
        bytes_are = bytes_are;
        shape_is = same;
        units = record {
          own = subst (AllByRecursion (λ p. IsTaken g a b p ⊎ Has (row_units (g.unit a) 0 run) p)) (sym units) (each_as (IsTaken g a b) _ (pages_of made) (λ p t. inl t) took.each);
          all = λ p t. subst (λ us. Has us p) (sym units) (took.all p t);
          counts = λ names. counts;
        };
      }

  -- new nodes over a row that grew come in the place of nodes that hold its units
  pub grew_over : (a b c : S) (l : ℕ) (mid row grown above : List Part) (bytes : List ℕ) (shape : List (Subtree l)) → Extends g a b → Extends g b c → Holds g a l row
      → ((p : ℕ) → Has (row_units (g.unit a) l row) p → Has (row_units (g.unit a) (suc l) mid) p) → Grew g a b l row grown bytes shape → Took g b c (pages_of above) → (Holds g b l grown → Built g c l (even_lens (g.geometry b).fan (length grown)) grown above)
      → (Holds g b l grown → NamesPairs g → Counted g b c) → Grew g a c (suc l) mid above bytes (nodes_over (g.geometry a).fan shape)
  grew_over a b c l mid row grown above bytes shape x y holds units grew took build counts =
      let held : Holds g b l grown = record { trees = grew.trees; used = used_after g a b (row_units (g.unit a) l row) (row_units (g.unit b) l grown) x holds.used grew.units } in
      let built = build held in
      let same = row_extends g b c l grown y held in
      let turned = turned_on g a b c (row_units (g.unit a) l row) (row_units (g.unit b) l grown) (row_units (g.unit c) (suc l) above) x y grew.units
      (turned_built g b c l (even_lens (g.geometry b).fan (length grown)) grown above took built (counts held) (row_units (g.unit b) l grown) same.units)
      (λ p h. built.all p (inr (subst (λ us. Has us p) (sym same.units) h))) in
      record {
        trees = built.trees;
        bytes_are = built.bytes ∙ same.bytes ∙ grew.bytes_are;
        shape_is = built.shape ∙ sym (over_row (g.geometry b).fan (g.unit c) l grown) ∙ ap (λ (k : Geometry). nodes_over k.fan (row_shape (g.unit c) l grown)) (g.leads_geometry a b x.leads)
            ∙ ap (nodes_over (g.geometry a).fan) (same.shape ∙ grew.shape_is);
        units = record {
          own = widen a c (row_units (g.unit a) l row) (row_units (g.unit a) (suc l) mid) (row_units (g.unit c) (suc l) above) units turned.own;
          all = turned.all;
          counts = turned.counts;
        };
      }
