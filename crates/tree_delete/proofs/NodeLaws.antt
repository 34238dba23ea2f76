-- The children of a row of nodes.
use Rattle.std.proofs.Common.{◌≡◌, ℕ, suc, ◌+◌, ◌-◌, ◌*◌, ◌<◌, ◌≤◌, List, [], ◌∷◌, ◌++◌, length, take, get_or, refl, sym, ap, subst, ◌∙◌, arith, inl, inr}
use Rattle.std.specs.List.{AllByRecursion}
use Rattle.std.proofs.lemmas.List.{append-nil, length-append, take_more}
use Rattle.ex_base.specs.Edits.{deleted}
use Rattle.ex_base.specs.Ports.{Keeps}
use Rattle.ex_base.specs.Sizes.{object_most}
use Rattle.ex_base.specs.declared.geometry.Geometry.{Geometry}
use Rattle.ex_base.specs.declared.ground.Ground as ground
use Rattle.ex_base.proofs.Rows.{each-append}
use Rattle.trees.specs.Split.{most_pairs}
use Rattle.trees.specs.Shape.{Subtree}
use Rattle.trees.specs.Trees.{Units, bytes_on, shape_on}
use Rattle.trees.specs.declared.rows.Part.{Part}
use Rattle.trees.specs.Rows.{row_size, row_bytes, row_shape, row_units, AreTrees, IsCounted, IsRowOn}
use Rattle.ex_base.specs.declared.faults.PortFault.{PortFault}
use Rattle.trees.specs.Damage.{IsSoundWay, IsWalkFault, NamesNode}
use Rattle.ex_base.specs.Area.{NamesLeaf}
use Rattle.trees.proofs.Ways.{way_append, way_back, way_front, way_inner, way_move, way_past}
use Rattle.trees.proofs.Blame.{walk_below}
use Rattle.tree_delete.proofs.Faults.{walk_nowhere, walk_either}
use Rattle.trees.proofs.Parts.{below_fit}
use Rattle.trees.proofs.Reading.{row_trees, row_spells, shape_below, units_below, no_part}
use Rattle.ex_base.proofs.Keeping.{keeps_on, keeps_refl}
use Rattle.ex_base.proofs.Each.{each_mapped, each_unmapped, split_each}
use Rattle.trees.specs.Made.{AreUsed, Has, Holds}
use Rattle.trees.proofs.Over.{bytes_app, units_app}
use Rattle.tree_delete.specs.declared.cut.Cut.{Cut}
use Rattle.tree_delete.specs.Cuts.{all_of, IsCutAt, IsCutOf, AreHalves, HaveHalves, AreChildren, IsOpened, IsBelow}
use Rattle.tree_delete.specs.Beside.{AreNodesAt, children_on}
use Rattle.tree_delete.proofs.Beside.{children_app, node_one}
use Rattle.tree_delete.proofs.CutLaws.{size_app, in_either, in_first, in_second, each_cut, size_cut, units_cut, bytes_cut}
use Rattle.trees.proofs.RootSteps.{has_each}
use Rattle.trees.proofs.Growing.{holds_split, shape_app}

-- ---- lists

pub each_within : (P : ℕ → Type 0) (xs ys : List ℕ) → ((p : ℕ) → Has xs p → Has ys p) → AllByRecursion P ys → AllByRecursion P xs
each_within P [] ys within all = tt
each_within P (x ∷ xs) ys within all = (has_each P ys x all (within x (inl refl)), each_within P xs ys (λ p h. within p (inr h)) all)

-- the trees of some of a row
pub halves_two : (geo : Geometry) (u : Units) (l : ℕ) (xs ys : List Part) → AreHalves geo l (row_shape u l (xs ++ ys)) → AreHalves geo l (row_shape u l xs) × AreHalves geo l (row_shape u l ys)
halves_two geo u l xs ys all = split_each _ (row_shape u l xs) (row_shape u l ys) (subst (AreHalves geo l) (shape_app u l xs ys) all)

pub halves_join : (geo : Geometry) (u : Units) (l : ℕ) (xs ys : List Part) → AreHalves geo l (row_shape u l xs) → AreHalves geo l (row_shape u l ys) → AreHalves geo l (row_shape u l (xs ++ ys))
halves_join geo u l xs ys p q = subst (AreHalves geo l) (sym (shape_app u l xs ys)) (each-append _ (row_shape u l xs) (row_shape u l ys) p q)

pub half_children : (geo : Geometry) (l : ℕ) (trees : List (Subtree (suc l))) → AreHalves geo (suc l) trees → HaveHalves geo (suc l) trees
half_children geo l [] all = tt
half_children geo l (tree ∷ trees) all = (all.0.2, half_children geo l trees all.1)

have_two : (geo : Geometry) (u : Units) (l : ℕ) (xs ys : List Part) → HaveHalves geo (suc l) (row_shape u (suc l) (xs ++ ys)) → HaveHalves geo (suc l) (row_shape u (suc l) xs) × HaveHalves geo (suc l) (row_shape u (suc l) ys)
have_two geo u l xs ys all = split_each (AreHalves geo l) (row_shape u (suc l) xs) (row_shape u (suc l) ys) (subst (AllByRecursion (AreHalves geo l)) (shape_app u (suc l) xs ys) all)

module _ {S : Type 0} (g : ground.Ghosts S) where
  -- ---- rows that are held

  pub holds_back : (a b : S) (l : ℕ) (row : List Part) → Keeps g a b → Holds g b l row → Holds g a l row
  holds_back a b l row k h = record {
    trees = subst (λ geo. AreTrees geo (g.unit a) l row) (g.leads_geometry a b k.leads) (subst (λ u. AreTrees (g.geometry b) u l row) k.units h.trees);
    used = subst (λ u. AreUsed (g.used a) (row_units u l row)) k.units (subst (λ f. AreUsed f (row_units (g.unit b) l row)) k.used h.used);
  }

  pub holds_join : (s : S) (l : ℕ) (xs ys : List Part) → Holds g s l xs → Holds g s l ys → Holds g s l (xs ++ ys)
  holds_join s l xs ys p q = record {
    trees = each-append _ xs ys p.trees q.trees;
    used = subst (AreUsed (g.used s)) (sym (units_app (g.unit s) l xs ys)) (each-append _ (row_units (g.unit s) l xs) (row_units (g.unit s) l ys) p.used q.used);
  }

  -- ---- children

  pub opened_one : (s : S) (l : ℕ) (part : Part) (below : List Part) → IsRowOn (g.geometry s) (g.unit s part.page.0) (suc l) part.size below → Holds g s (suc l) (part ∷ []) → IsOpened g s l (part ∷ []) below
  opened_one s l part below on h = record {
    holds = record {
      trees = row_trees (g.geometry s) (g.unit s) l part.page.0 part.size below h.trees.0.0 h.trees.0.1 on.parts;
      used = (subst (AreUsed (g.used s)) (units_below (g.unit s) l part below on.parts) h.used).1;
    };
    bytes = row_spells (g.unit s) l part.page.0 part.size below on.parts ∙ sym (append-nil (bytes_on (g.unit s) (suc l) part.page.0 part.size));
    units = λ p has. subst (λ us. Has us p) (sym (units_below (g.unit s) l part below on.parts)) (inr has);
    halves = λ all. subst (AreHalves (g.geometry s) l) (shape_below (g.unit s) l part.page.0 part.size below on.parts) all.0;
  }

  pub opened_join : (s : S) (l : ℕ) (xs ys ds es : List Part) → IsOpened g s l xs ds → IsOpened g s l ys es → IsOpened g s l (xs ++ ys) (ds ++ es)
  opened_join s l xs ys ds es p q = record {
    holds = holds_join s l ds es p.holds q.holds;
    bytes = bytes_app (g.unit s) l ds es ∙ ap (λ zs. zs ++ row_bytes (g.unit s) l es) p.bytes ∙ ap (λ zs. row_bytes (g.unit s) (suc l) xs ++ zs) q.bytes ∙ sym (bytes_app (g.unit s) (suc l) xs ys);
    units = λ u has. elim (in_either (g.unit s) l ds es u has) [
      | inl x ↦ in_first (g.unit s) (suc l) xs ys u (p.units u x)
      | inr y ↦ in_second (g.unit s) (suc l) xs ys u (q.units u y)
    ];
    halves = λ all.
        let parts = have_two (g.geometry s) (g.unit s) l xs ys all in
        halves_join (g.geometry s) (g.unit s) l ds es (p.halves parts.0) (q.halves parts.1);
  }

  pub opened_back : (a b : S) (l : ℕ) (row below : List Part) → Keeps g a b → IsOpened g b l row below → IsOpened g a l row below
  opened_back a b l row below k h = record {
    holds = holds_back a b l below k h.holds;
    bytes = subst (λ u. row_bytes u l below ≡ row_bytes u (suc l) row) k.units h.bytes;
    units = subst (λ u. (p : ℕ) → Has (row_units u l below) p → Has (row_units u (suc l) row) p) k.units h.units;
    halves = subst (λ geo. HaveHalves geo (suc l) (row_shape (g.unit a) (suc l) row) → AreHalves geo l (row_shape (g.unit a) l below)) (g.leads_geometry a b k.leads)
        (subst (λ u. HaveHalves (g.geometry b) (suc l) (row_shape u (suc l) row) → AreHalves (g.geometry b) l (row_shape u l below)) k.units h.halves);
  }

  -- ---- the loop over the nodes

  pub record OpenedSoFar (old now : S) (level least : ℕ) (row : List Part) (i : ℕ) (all : List Part) : Type 0 where
    pub kept : Keeps g old now
    pub counted : AreChildren (g.geometry old) level least (take i row) all
    pub opened : g.tells old → (l : ℕ) → level ≡ suc l → Holds g old (suc l) (take i row) → IsOpened g old l (take i row) all
    pub walk : g.tells old → (fault : PortFault) → IsWalkFault (g.geometry old) (g.unit old) (level - 1) (g.geometry old).fan all fault → IsWalkFault (g.geometry old) (g.unit old) level least row fault
    pub way : g.tells old → (f t : ℕ) → IsSoundWay (g.geometry old) (g.unit old) (NamesLeaf (g.geometry old)) (level - 1) (g.geometry old).fan all f t → IsSoundWay (g.geometry old) (g.unit old) (NamesLeaf (g.geometry old)) level least (take i row) f t
    pub nodes : g.tells old → AreNodesAt (g.geometry old) (g.unit old) level least (take i row) × (all ≡ children_on (g.unit old) (take i row))

  pub opened_start : (s : S) (level least : ℕ) (row : List Part) → OpenedSoFar s s level least row 0 []
  opened_start s level least row = record {
    kept = keeps_refl g s;
    counted = record { sum = refl; some = tt; fits = λ _. tt; few = omega arith; enough = omega arith };
    opened = λ told l same h. record { holds = record { trees = tt; used = tt }; bytes = refl; units = λ p has. has; halves = λ all. tt };
    walk = λ told fault h. walk_nowhere (g.geometry s) (g.unit s) (level - 1) level (g.geometry s).fan least row fault h;
    way = λ told f t h. way_past (g.geometry s) (g.unit s) (NamesLeaf (g.geometry s)) level least [] f t (omega arith);
    nodes = λ told. (tt, refl);
  }

  one_more : (geo : Geometry) (level least : ℕ) (xs all children : List Part) (part : Part) → 1 ≤ level → IsCounted geo level part.size least children → AreChildren geo level least xs all → AreChildren geo level least (xs ++ (part ∷ [])) (all ++ children)
  one_more geo level least xs all children part above c h =
      let count : length (xs ++ (part ∷ [])) ≡ length xs + 1 = length-append xs (part ∷ []) in
      record {
        sum = omega (arith, size_app all children, size_app xs (part ∷ []), c.sum, h.sum);
        some = each-append _ all children h.some c.some;
        fits = λ lowest. each-append _ all children (h.fits lowest) (below_fit geo level part.size least children (λ none. omega arith) c lowest);
        few = omega (arith, length-append all children, c.few, h.few, ap (λ k. k * most_pairs geo.fan) count);
        enough = omega (arith, length-append all children, c.filled.enough, h.enough, ap (λ k. k * least) count);
      }

  pub opened_more : (old now mid : S) (level least : ℕ) (row : List Part) (i : ℕ) (all after children lent : List Part) → 1 ≤ level → i < length row → OpenedSoFar old now level least row i all → Keeps g now mid → IsCounted (g.geometry now) level (get_or row i no_part).size least children
      → (g.tells now → IsRowOn (g.geometry now) (g.unit now (get_or row i no_part).page.0) level (get_or row i no_part).size children) → NamesNode (g.geometry now) (get_or row i no_part).page.0 → lent ≡ children → after ≡ all ++ lent → OpenedSoFar old mid level least row (i + 1) after
  opened_more old now mid level least row i all after children lent above lt h k counted found area lent_is after_is =
      let part : Part = get_or row i no_part in
      let more : take (i + 1) row ≡ take i row ++ (get_or row i no_part ∷ []) = take_more row i no_part lt in
      let is : after ≡ all ++ children = after_is ∙ ap (λ (xs : List Part). all ++ xs) lent_is in
      let geo = g.leads_geometry old now h.kept.leads in
      record {
        kept = keeps_on g old now mid h.kept k;
        counted = subst (λ xs. AreChildren (g.geometry old) level least xs after) (sym more)
            (subst (AreChildren (g.geometry old) level least (take i row ++ (get_or row i no_part ∷ []))) (sym is)
            (one_more (g.geometry old) level least (take i row) all children (get_or row i no_part) above (subst (λ (k : Geometry). IsCounted k level (get_or row i no_part).size least children) geo counted) h.counted));
        opened = λ told l same holds.
            let parts = holds_split g old (suc l) (take i row) (get_or row i no_part ∷ []) (subst (Holds g old (suc l)) more holds) in
            let on : IsRowOn (g.geometry old) (g.unit old (get_or row i no_part).page.0) (suc l) (get_or row i no_part).size children =
            subst (λ m. IsRowOn (g.geometry old) (g.unit old (get_or row i no_part).page.0) m (get_or row i no_part).size children) same
            (subst (λ (geo : Geometry). IsRowOn geo (g.unit old (get_or row i no_part).page.0) level (get_or row i no_part).size children) geo
            (subst (λ (u : Units). IsRowOn (g.geometry now) (u (get_or row i no_part).page.0) level (get_or row i no_part).size children) h.kept.units (found (g.leads_told old now h.kept.leads told)))) in
            subst (λ xs. IsOpened g old l xs after) (sym more)
            (subst (IsOpened g old l (take i row ++ (get_or row i no_part ∷ []))) (sym is)
            (opened_join old l (take i row) (get_or row i no_part ∷ []) all children (h.opened told l same parts.0) (opened_one old l (get_or row i no_part) children on parts.1)));
        walk = λ told fault w.
            let on : IsRowOn (g.geometry old) (g.unit old (get_or row i no_part).page.0) level (get_or row i no_part).size children =
            subst (λ (geo : Geometry). IsRowOn geo (g.unit old (get_or row i no_part).page.0) level (get_or row i no_part).size children) geo
            (subst (λ (u : Units). IsRowOn (g.geometry now) (u (get_or row i no_part).page.0) level (get_or row i no_part).size children) h.kept.units (found (g.leads_told old now h.kept.leads told))) in
            let here : IsCounted (g.geometry old) level (get_or row i no_part).size least children = subst (λ (k : Geometry). IsCounted k level (get_or row i no_part).size least children) geo counted in
            elim (walk_either (g.geometry old) (g.unit old) (level - 1) (g.geometry old).fan all children fault (subst (λ xs. IsWalkFault (g.geometry old) (g.unit old) (level - 1) (g.geometry old).fan xs fault) is w)) [
              | inl x ↦ h.walk told fault x
              | inr y ↦ walk_below (g.geometry old) (g.unit old) level least i row children fault (λ none. omega arith) lt (subst (λ (k : Geometry). NamesNode k (get_or row i no_part).page.0) geo area) on here.filled y
            ];
        way = λ told f t w.
            let on : IsRowOn (g.geometry old) (g.unit old (get_or row i no_part).page.0) level (get_or row i no_part).size children =
            subst (λ (geo : Geometry). IsRowOn geo (g.unit old (get_or row i no_part).page.0) level (get_or row i no_part).size children) geo
            (subst (λ (u : Units). IsRowOn (g.geometry now) (u (get_or row i no_part).page.0) level (get_or row i no_part).size children) h.kept.units (found (g.leads_told old now h.kept.leads told))) in
            let here : IsCounted (g.geometry old) level (get_or row i no_part).size least children = subst (λ (k : Geometry). IsCounted k level (get_or row i no_part).size least children) geo counted in
            let both = subst (λ xs. IsSoundWay (g.geometry old) (g.unit old) (NamesLeaf (g.geometry old)) (level - 1) (g.geometry old).fan xs f t) is w in
            subst (λ xs. IsSoundWay (g.geometry old) (g.unit old) (NamesLeaf (g.geometry old)) level least xs f t) (sym more)
            (way_append (g.geometry old) (g.unit old) (NamesLeaf (g.geometry old)) level least (take i row) (get_or row i no_part ∷ []) f t
            (h.way told f t (way_front (g.geometry old) (g.unit old) (NamesLeaf (g.geometry old)) (level - 1) (g.geometry old).fan all children f t both))
            (λ far. way_inner (g.geometry old) (g.unit old) (NamesLeaf (g.geometry old)) level least (get_or row i no_part) children (f - row_size (take i row)) (t - row_size (take i row)) (λ none. omega arith) (subst (λ (k : Geometry). NamesNode k (get_or row i no_part).page.0) geo area) on here.filled
            (λ inside. way_move (g.geometry old) (g.unit old) (NamesLeaf (g.geometry old)) (level - 1) (g.geometry old).fan children (f - row_size all) (t - row_size all) (f - row_size (take i row)) (t - row_size (take i row)) (omega (arith, h.counted.sum)) (omega (arith, h.counted.sum))
            (way_back (g.geometry old) (g.unit old) (NamesLeaf (g.geometry old)) (level - 1) (g.geometry old).fan all children f t (omega (arith, h.counted.sum, far)) both))));
        nodes = λ told.
            let on : IsRowOn (g.geometry old) (g.unit old (get_or row i no_part).page.0) level (get_or row i no_part).size children =
            subst (λ (geo : Geometry). IsRowOn geo (g.unit old (get_or row i no_part).page.0) level (get_or row i no_part).size children) geo
            (subst (λ (u : Units). IsRowOn (g.geometry now) (u (get_or row i no_part).page.0) level (get_or row i no_part).size children) h.kept.units (found (g.leads_told old now h.kept.leads told))) in
            let here : IsCounted (g.geometry old) level (get_or row i no_part).size least children = subst (λ (k : Geometry). IsCounted k level (get_or row i no_part).size least children) geo counted in
            let one = node_one (g.geometry old) (g.unit old) level least (get_or row i no_part) children (subst (λ (k : Geometry). NamesNode k (get_or row i no_part).page.0) geo area) on here.filled in (
              subst (AreNodesAt (g.geometry old) (g.unit old) level least) (sym more) (each-append _ (take i row) (get_or row i no_part ∷ []) (h.nodes told).0 (one.0, tt)),
              is ∙ ap (λ (xs : List Part). xs ++ children) (h.nodes told).1 ∙ ap (λ (xs : List Part). children_on (g.unit old) (take i row) ++ xs) one.1
                  ∙ sym (children_app (g.unit old) (take i row) (get_or row i no_part ∷ [])) ∙ ap (children_on (g.unit old)) (sym more),
            );
      }

  -- ---- the cut through the children

  pub below_is : (s : S) (l : ℕ) (run row : List Part) (at len : ℕ) (below : Cut) → g.ready s → g.tells s → IsOpened g s l run row → IsCutOf row at len below → IsBelow g s l run at len below
  below_is s l run row at len below ready told o h = record {
    holds = record {
      trees = each_cut _ row at len below h o.holds.trees;
      used = each_within _ (row_units (g.unit s) l (all_of below)) (row_units (g.unit s) l row) (units_cut (g.unit s) l row at len below h) o.holds.used;
    };
    bytes = sym (bytes_cut (g.geometry s) (g.unit s) l row at len below (g.whole s ready told) o.holds.trees h) ∙ ap (λ xs. deleted xs at len) o.bytes;
    units = λ p has. o.units p (units_cut (g.unit s) l row at len below h p has);
    halves = λ all.
        each_mapped _ (λ (part : Part). shape_on (g.unit s) l part.page.0 part.size) (all_of below)
        (each_cut _ row at len below h (each_unmapped _ (λ (part : Part). shape_on (g.unit s) l part.page.0 part.size) row (o.halves all)));
  }

pub below_at : (geo : Geometry) (level least : ℕ) (run row : List Part) (at len : ℕ) (below : Cut) → AreChildren geo level least run row → row_size run ≤ object_most → IsCutOf row at len below → IsCutAt geo (level - 1) below
below_at geo level least run row at len below c limit h = record {
  some = each_cut _ row at len below h c.some;
  fits = λ lowest. each_cut _ row at len below h (c.fits lowest);
  inside = h.inside;
  few = h.few;
  limit = omega (arith, size_cut row at len below h, h.less, c.sum);
}
