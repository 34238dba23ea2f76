-- One level more of roots.
use Rattle.std.proofs.Common.{◌≡◌, ◌⊎◌, ℕ, zero, suc, ◌-◌, ◌<◌, ◌≤◌, List, [], ◌∷◌, length, true, Some, refl, sym, ap, subst, ◌∙◌, arith, inl, inr, true≢false}
use Rattle.std.proofs.lemmas.List.{append-nil, length-map}
use Rattle.std.proofs.lemmas.Bool.{cases_Bool}
use Rattle.std.specs.List.{AllByRecursion}
use Rattle.ex_base.specs.declared.names.Root.{Root}
use Rattle.ex_base.specs.Even.{cut_by}
use Rattle.trees.specs.Split.{nodes_over}
use Rattle.ex_base.specs.declared.ground.Ground as ground
use Rattle.ex_base.proofs.Each.{each_as}
use Rattle.trees.specs.Shape.{Subtree, rooted}
use Rattle.trees.specs.Trees.{Units, root_units, bytes_on, shape_on, units_on}
use Rattle.trees.specs.declared.rows.Part.{Part}
use Rattle.trees.specs.Rows.{row_shape, row_units}
use Rattle.trees.specs.Made.{Extends, AreUsed, Holds, Has, IsTaken, Took, pages_of}
use Rattle.trees.specs.Built.{Built, even_lens}
use Rattle.trees.proofs.Over.{all_has}
use Rattle.trees.proofs.Kept.{row_extends}
use Rattle.trees.specs.Counted.{Counted, NamesPairs}
use Rattle.trees.proofs.Counts.{counted_on, counted_same}
use Rattle.trees.specs.Grown.{Turned, IsRooted}

pub has_each : (P : ℕ → Type 0) (xs : List ℕ) (p : ℕ) → AllByRecursion P xs → Has xs p → P p
has_each P [] p all h = absurd h
has_each P (x ∷ xs) p all h = elim h [
  | inl e ↦ subst P e all.0
  | inr r ↦ has_each P xs p all.1 r
]

module _ {S : Type 0} (g : ground.Ghosts S) where
  -- what was taken in the first or the second of two steps was taken
  pub taken_first : (a b c : S) (p : ℕ) → Extends g b c → IsTaken g a b p → IsTaken g a c p
  taken_first a b c p y h = (h.0, y.used p h.1)

  pub taken_second : (a b c : S) (p : ℕ) → Extends g a b → IsTaken g b c p → IsTaken g a c p
  taken_second a b c p x h = elim (cases_Bool (g.used a p)) [
    | inl used ↦ absurd (true≢false (sym (x.used p used) ∙ h.0))
    | inr free ↦ (free, h.1)
  ]

  pub taken_in : (a b c : S) (p : ℕ) → IsTaken g a c p → IsTaken g a b p ⊎ IsTaken g b c p
  taken_in a b c p h = elim (cases_Bool (g.used b p)) [
    | inl used ↦ inl (h.0, used)
    | inr free ↦ inr (free, h.1)
  ]

  -- two steps, of which the second keeps all units
  pub turned_on : (a b c : S) (xs ys zs : List ℕ) → Extends g a b → Extends g b c → Turned g a b xs ys → Turned g b c ys zs → ((p : ℕ) → Has ys p → Has zs p) → Turned g a c xs zs
  turned_on a b c xs ys zs x y first second stay = record {
    own = each_as (λ p. IsTaken g b c p ⊎ Has ys p) (λ p. IsTaken g a c p ⊎ Has xs p) zs (λ p h. elim h [
      | inl t ↦ inl (taken_second a b c p x t)
      | inr old ↦ elim (has_each (λ p. IsTaken g a b p ⊎ Has xs p) ys p first.own old) [
        | inl t ↦ inl (taken_first a b c p y t)
        | inr o ↦ inr o
      ]
    ]) second.own;
    all = λ p h. elim (taken_in a b c p h) [
      | inl t ↦ stay p (first.all p t)
      | inr t ↦ second.all p t
    ];
    counts = λ names. counted_on g a b c x y (first.counts names) (second.counts names);
  }

  -- the units of nodes over a row
  own_built : (a b : S) (l : ℕ) (lens : List ℕ) (row above : List Part) → Took g a b (pages_of above) → Built g b l lens row above → (units : List ℕ) → row_units (g.unit b) l row ≡ units
      → AllByRecursion (λ p. IsTaken g a b p ⊎ Has units p) (row_units (g.unit b) (suc l) above)
  own_built a b l lens row above took built units same = each_as _ (λ p. IsTaken g a b p ⊎ Has units p) (row_units (g.unit b) (suc l) above) (λ p h. elim h [
    | inl new ↦ inl (has_each (IsTaken g a b) (pages_of above) p took.each new)
    | inr old ↦ inr (subst (λ us. Has us p) same old)
  ]) built.own

  pub turned_built : (a b : S) (l : ℕ) (lens : List ℕ) (row above : List Part) → Took g a b (pages_of above) → Built g b l lens row above → (NamesPairs g → Counted g a b)
      → (units : List ℕ) → row_units (g.unit b) l row ≡ units → Turned g a b units (row_units (g.unit b) (suc l) above)
  turned_built a b l lens row above took built counts units same = record {
    own = own_built a b l lens row above took built units same;
    all = λ p h. built.all p (inl (took.all p h));
    counts = counts;
  }

  own_used : (a b : S) (xs ys : List ℕ) → Extends g a b → AreUsed (g.used a) xs → AllByRecursion (λ p. IsTaken g a b p ⊎ Has xs p) ys → AreUsed (g.used b) ys
  own_used a b xs ys ext used own = each_as (λ p. IsTaken g a b p ⊎ Has xs p) (λ p. g.used b p ≡ true) ys (λ p h. elim h [
    | inl t ↦ t.1
    | inr o ↦ ext.used p (has_each (λ p. g.used a p ≡ true) xs p used o)
  ]) own

  pub used_after : (a b : S) (xs ys : List ℕ) → Extends g a b → AreUsed (g.used a) xs → Turned g a b xs ys → AreUsed (g.used b) ys
  used_after a b xs ys ext used turned = own_used a b xs ys ext used turned.own

  -- the row of nodes is held
  pub built_holds : (a b : S) (l : ℕ) (lens : List ℕ) (row above : List Part) → Extends g a b → Holds g a l row → Took g a b (pages_of above) → Built g b l lens row above → Holds g b (suc l) above
  built_holds a b l lens row above ext h took built =
      let same = row_extends g a b l row ext h in
      record {
        trees = built.trees;
        used = own_used a b (row_units (g.unit a) l row) (row_units (g.unit b) (suc l) above) ext h.used (own_built a b l lens row above took built (row_units (g.unit a) l row) same.units);
      }

-- ---- shapes

rooted_one : (fan levels h : ℕ) (tree : Subtree h) → rooted fan levels h (tree ∷ []) ≡ Some (h, tree)
unfolding rooted
rooted_one fan levels h tree = refl

rooted_more : (fan levels h : ℕ) (trees : List (Subtree h)) → 2 ≤ length trees → length trees ≤ levels → rooted fan levels h trees ≡ rooted fan (levels - 1) (suc h) (nodes_over fan trees)
unfolding rooted
rooted_more fan levels h [] two le = absurd (omega arith)
rooted_more fan levels h (tree ∷ []) two le = absurd (omega arith)
rooted_more fan zero h (tree ∷ next ∷ rest) two le = absurd (omega arith)
rooted_more fan (suc levels) h (tree ∷ next ∷ rest) two le = ap (λ n. rooted fan n (suc h) (nodes_over fan (tree ∷ next ∷ rest))) (let e : levels ≡ suc levels - 1 = omega arith in e)

-- ---- shapes under nodes

pub over_is : {A : Type 0} (fan : ℕ) (xs : List A) → nodes_over fan xs ≡ cut_by (even_lens fan (length xs)) xs
unfolding nodes_over
over_is fan xs = refl

pub over_row : (fan : ℕ) (u : Units) (l : ℕ) (row : List Part) → nodes_over fan (row_shape u l row) ≡ cut_by (even_lens fan (length row)) (row_shape u l row)
over_row fan u l row = over_is fan (row_shape u l row) ∙ ap (λ n. cut_by (even_lens fan n) (row_shape u l row)) (length-map row (λ (part : Part). shape_on u l part.page.0 part.size))

-- ---- one tree

pub root_here : {S : Type 0} (g : ground.Ghosts S) (a : S) (level l : ℕ) (row : List Part) (tree : Part) → level ≡ l → row ≡ tree ∷ [] → Holds g a l row → IsRooted g a a l row (record { height = level; page = Some tree.page; size = tree.size })
root_here g a level l row tree same is h =
    subst (λ k. IsRooted g a a l row (record { height = k; page = Some tree.page; size = tree.size })) (sym same)
    (subst (λ r. Holds g a l r → IsRooted g a a l r (record { height = l; page = Some tree.page; size = tree.size })) (sym is) (λ held. record {
      named = held.trees.0.0;
      sized = held.trees.0.1;
      bytes = sym (append-nil (bytes_on (g.unit a) l tree.page.0 tree.size));
      shape = λ levels le. sym (rooted_one (g.geometry a).fan levels l (shape_on (g.unit a) l tree.page.0 tree.size));
      units = record {
        own = subst (λ us. AllByRecursion (λ p. IsTaken g a a p ⊎ Has us p) (units_on (g.unit a) l tree.page.0)) (sym (append-nil (units_on (g.unit a) l tree.page.0)))
            (each_as (λ p. Has (units_on (g.unit a) l tree.page.0) p) _ (units_on (g.unit a) l tree.page.0) (λ p x. inr x) (all_has (units_on (g.unit a) l tree.page.0)));
        all = λ p t. absurd (true≢false (sym t.1 ∙ t.0));
        counts = λ names. counted_same g a;
      };
      stay = λ p x. subst (λ us. Has us p) (append-nil (units_on (g.unit a) l tree.page.0)) x;
    }) h)

pub root_above : {S : Type 0} (g : ground.Ghosts S) (a b c : S) (l : ℕ) (row above : List Part) (root : Root) → 2 ≤ length row → Extends g a b → Extends g b c → Took g a b (pages_of above)
    → length above < length row → Holds g a l row → Built g b l (even_lens (g.geometry a).fan (length row)) row above → (NamesPairs g → Counted g a b) → IsRooted g b c (suc l) above root → IsRooted g a c l row root
root_above g a b c l row above root two x y took fewer holds built counts rest =
    let same = row_extends g a b l row x holds in
    let geo = g.leads_geometry a b x.leads in
    record {
      named = rest.named;
      sized = rest.sized;
      bytes = rest.bytes ∙ built.bytes ∙ same.bytes;
      shape = λ levels le.
          let many : length (row_shape (g.unit a) l row) ≡ length row = length-map row (λ (part : Part). shape_on (g.unit a) l part.page.0 part.size) in
          rest.shape (levels - 1) (omega arith)
          ∙ ap (rooted (g.geometry b).fan (levels - 1) (suc l)) (built.shape ∙ ap (cut_by (even_lens (g.geometry a).fan (length row))) same.shape ∙ sym (over_row (g.geometry a).fan (g.unit a) l row))
          ∙ ap (λ k. rooted k.fan (levels - 1) (suc l) (nodes_over (g.geometry a).fan (row_shape (g.unit a) l row))) geo
          ∙ sym (rooted_more (g.geometry a).fan levels l (row_shape (g.unit a) l row) (omega arith) (omega arith));
      units = turned_on g a b c (row_units (g.unit a) l row) (row_units (g.unit b) (suc l) above) (root_units (g.unit c) root) x y
          (turned_built g a b l (even_lens (g.geometry a).fan (length row)) row above took built counts (row_units (g.unit a) l row) same.units) rest.units rest.stay;
      stay = λ p h. rest.stay p (built.all p (inr (subst (λ us. Has us p) (sym same.units) h)));
    }
