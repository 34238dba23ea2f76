-- A root after an insert or an append.
use Rattle.std.proofs.Common.{◌≡◌, ℕ, zero, suc, ◌+◌, ◌*◌, ◌/◌, ◌<◌, ◌≤◌, ◌^◌, List, [], ◌∷◌, ◌++◌, length, drop, Option, Some, None, refl, sym, ap, subst, ◌∙◌, arith, inl, inr, true, true≢false}
use Rattle.std.specs.List.{AllByRecursion}
use Rattle.std.proofs.lemmas.Bool.{cases_lt}
use Rattle.std.proofs.lemmas.List.{append-nil, length-map, take_all, drop_all}
use Rattle.std.proofs.Math.Nat.{mul-le-mul_left}
use Rattle.ex_base.specs.Edits.{inserted}
use Rattle.ex_base.specs.declared.geometry.Geometry.{Geometry}
use Rattle.ex_base.specs.declared.names.Root.{Root}
use Rattle.ex_base.specs.declared.names.Area.{Area}
use Rattle.ex_base.specs.declared.names.PageNo.{PageNo}
use Rattle.ex_base.specs.declared.ground.Ground as ground
use Rattle.ex_base.specs.Needs.{growth_leaves, growth_need}
use Rattle.ex_base.specs.Sizes.{leaf_bytes, object_most}
use Rattle.ex_base.proofs.Rows.{each-append}
use Rattle.ex_base.proofs.Each.{each_as}
use Rattle.ex_base.proofs.Geometries.{leaf_some}
use Rattle.ex_base.proofs.NeedLaws.{growth_need_up, growth_few}
use Rattle.trees.specs.Layout.{first_lengths}
use Rattle.trees.specs.Shape.{Subtree, Shape, one_tree, IsBalanced, ins_shape, app_shape}
use Rattle.trees.specs.Trees.{Units, RootSpells, RootNamed, RootSized, root_shape, root_bytes, root_units, shape_on, units_on, bytes_on}
use Rattle.trees.proofs.SameUnits.{bytes_same, shape_same, named_same, sized_same}
use Rattle.trees.proofs.TreeLaws.{AreWhole, length-bytes_on}
use Rattle.trees.proofs.Balance.{inserted as insert_balanced, appended as append_balanced}
use Rattle.trees.specs.declared.rows.Part.{Part}
use Rattle.trees.specs.Rows.{row_bytes, row_shape, row_units}
use Rattle.trees.specs.Made.{Extends, AreUsed, Has, Holds}
use Rattle.trees.proofs.Over.{all_has}
use Rattle.trees.proofs.Parts.{narrow}
use Rattle.tree_insert.specs.declared.layout.Growth.{Growth}
use Rattle.tree_insert.specs.declared.layout.Growth.TheVariants.{Insert, Append}
use Rattle.tree_insert.specs.Edited.{shape_by, GrewRoot, IsEdited}
use Rattle.trees.proofs.Counts.{counted_same}
use Rattle.trees.specs.Grown.{Turned, Grew, IsRooted}
use Rattle.tree_insert.specs.Growth.{IsSpot, parts_by}
use Rattle.tree_insert.specs.Need.{counted}
use Rattle.trees.specs.Roots.{IsRootFor}
use Rattle.trees.proofs.RootSteps.{turned_on, used_after}
use Rattle.tree_insert.proofs.Paid.{few_grown}

-- ---- shapes

some_shape : (growth : Growth) (fan full h n : ℕ) (tree : Subtree h) (pos : ℕ) → 1 ≤ n → one_tree fan h (parts_by growth fan full n h tree pos) ≡ shape_by growth fan full (Some (h, tree)) pos n
unfolding ins_shape app_shape
some_shape Insert fan full h zero tree pos some = absurd (omega arith)
some_shape Insert fan full h (suc n) tree pos some = refl
some_shape Append fan full h zero tree pos some = absurd (omega arith)
some_shape Append fan full h (suc n) tree pos some = refl

first_shape : (growth : Growth) (fan full n pos : ℕ) → 1 ≤ n → one_tree fan 0 (first_lengths full n) ≡ shape_by growth fan full None pos n
unfolding ins_shape app_shape
first_shape Insert fan full zero pos some = absurd (omega arith)
first_shape Insert fan full (suc n) pos some = refl
first_shape Append fan full zero pos some = absurd (omega arith)
first_shape Append fan full (suc n) pos some = refl

pub shape_balanced : (growth : Growth) (fan full : ℕ) (shape : Shape) (pos n : ℕ) → 2 ≤ fan → 2 ≤ full → IsBalanced fan full shape → IsBalanced fan full (shape_by growth fan full shape pos n)
shape_balanced Insert fan full shape pos n wide roomy balanced = (insert_balanced fan full shape pos n (record { wide = wide; roomy = roomy }) balanced).balanced
shape_balanced Append fan full shape pos n wide roomy balanced = (append_balanced fan full shape n (record { wide = wide; roomy = roomy }) balanced).balanced

-- ---- a root with a tree, and one without

abbrev pub root_of : ℕ → Option PageNo → ℕ → Root
root_of height page size = record { height = height; page = page; size = size }

pub tree_root : {S : Type 0} (g : ground.Ghosts S) (a b : S) (growth : Growth) (l height size : ℕ) (page : PageNo) (made : List Part) (bytes : List ℕ) (pos : ℕ) (given : List ℕ) → height ≡ l → 1 ≤ length given
    → RootSpells (g.geometry a) (g.unit a) (root_of height (Some page) size) bytes → AreUsed (g.used a) (root_units (g.unit a) (root_of height (Some page) size))
    → (Holds g a l (record { size = size; page = page } ∷ []) → Grew g a b l (record { size = size; page = page } ∷ []) made (inserted (row_bytes (g.unit a) l (record { size = size; page = page } ∷ [])) pos given)
    (parts_by growth (g.geometry a).fan (leaf_bytes (g.geometry a)) (length given) l (shape_on (g.unit a) l page.0 size) pos))
    → GrewRoot g a b growth l (root_of height (Some page) size) made bytes pos given
tree_root g a b growth l height size page made bytes pos given same some spells used grew =
    let part : Part = record { size = size; page = page } in
    let named = subst (λ h. RootNamed (g.geometry a) (g.unit a) h (Some page)) same spells.named in
    let sized = subst (λ h. RootSized (g.geometry a) (g.unit a) h size (Some page)) same spells.sized in
    let units : units_on (g.unit a) height page.0 ≡ units_on (g.unit a) l page.0 = ap (λ h. units_on (g.unit a) h page.0) same in
    let held : Holds g a l (record { size = size; page = page } ∷ []) = record {
      trees = ((named, sized), tt);
      used = each-append _ (units_on (g.unit a) l page.0) [] (subst (AreUsed (g.used a)) units used) tt;
    } in
    let spelled : row_bytes (g.unit a) l (record { size = size; page = page } ∷ []) ≡ bytes =
    append-nil (bytes_on (g.unit a) l page.0 size) ∙ ap (λ h. bytes_on (g.unit a) h page.0 size) (sym same) ∙ sym spells.spelled in
    record {
      was = record { size = size; page = page } ∷ [];
      holds = held;
      units = append-nil (units_on (g.unit a) l page.0) ∙ sym units;
      parts = parts_by growth (g.geometry a).fan (leaf_bytes (g.geometry a)) (length given) l (shape_on (g.unit a) l page.0 size) pos;
      grew = subst (λ xs. Grew g a b l (record { size = size; page = page } ∷ []) made (inserted xs pos given) (parts_by growth (g.geometry a).fan (leaf_bytes (g.geometry a)) (length given) l (shape_on (g.unit a) l page.0 size) pos)) spelled (grew held);
      shape = some_shape growth (g.geometry a).fan (leaf_bytes (g.geometry a)) l (length given) (shape_on (g.unit a) l page.0 size) pos some
          ∙ ap (λ h. shape_by growth (g.geometry a).fan (leaf_bytes (g.geometry a)) (Some (h, shape_on (g.unit a) h page.0 size)) pos (length given)) (sym same);
    }

front_none : (given : List ℕ) (pos : ℕ) → pos ≡ 0 → inserted [] pos given ≡ given
front_none given pos none = ap (λ k. inserted [] k given) none ∙ append-nil given

pub first_root : {S : Type 0} (g : ground.Ghosts S) (a b : S) (growth : Growth) (l : ℕ) (root : Root) (made : List Part) (bytes : List ℕ) (pos : ℕ) (given : List ℕ) → root.page ≡ None → root.height ≡ 0 → root.height ≡ l → pos ≡ 0 → 1 ≤ length given
    → RootSpells (g.geometry a) (g.unit a) root bytes → Grew g a b 0 [] made given (first_lengths (leaf_bytes (g.geometry a)) (length given)) → GrewRoot g a b growth l root made bytes pos given
first_root g a b growth zero root made bytes pos given none low same start some spells grew =
    let no_bytes : bytes ≡ [] = spells.spelled ∙ ap (λ p. root_bytes (g.unit a) (root_of root.height p root.size)) none in
    record {
      was = [];
      holds = record { trees = tt; used = tt };
      units = sym (ap (λ p. root_units (g.unit a) (root_of root.height p root.size)) none);
      parts = first_lengths (leaf_bytes (g.geometry a)) (length given);
      grew = subst (λ xs. Grew g a b 0 [] made xs (first_lengths (leaf_bytes (g.geometry a)) (length given))) (sym (ap (λ xs. inserted xs pos given) no_bytes ∙ front_none given pos start)) grew;
      shape = first_shape growth (g.geometry a).fan (leaf_bytes (g.geometry a)) (length given) pos some
          ∙ ap (λ s. shape_by growth (g.geometry a).fan (leaf_bytes (g.geometry a)) s pos (length given)) (sym (ap (λ p. root_shape (g.unit a) (root_of root.height p root.size)) none));
    }
first_root g a b growth (suc l) root made bytes pos given none low same start some spells grew = absurd (omega arith)

-- a root without a tree has size 0, so that bytes go in at 0
pub none_start : (growth : Growth) (pos size : ℕ) → size ≡ 0 → IsSpot growth pos size → pos ≡ 0
none_start Insert pos size none spot = omega arith
none_start Append pos size none spot = omega arith

-- a root with a page has bytes
pub some_size : (geo : Geometry) (root : Root) (page : PageNo) → IsRootFor geo root → root.page ≡ Some page → 1 ≤ root.size
some_size geo root page h is = elim (cases_lt 0 root.size) [
  | inl lt ↦ lt
  | inr le ↦ let none : Some page ≡ None = sym is ∙ h.some (omega arith) in absurd cc
]

-- ---- under new roots

pub edited : {S : Type 0} (g : ground.Ghosts S) (a m d : S) (growth : Growth) (l : ℕ) (root made_root : Root) (made : List Part) (bytes : List ℕ) (pos : ℕ) (given : List ℕ) → Extends g a m → Extends g m d → RootSpells (g.geometry a) (g.unit a) root bytes
    → GrewRoot g a m growth l root made bytes pos given → (Holds g m l made → IsRooted g m d l made made_root) → IsEdited g a d growth root made_root bytes pos given
edited g a m d growth l root made_root made bytes pos given x y spells h roots =
    let grew = h.grew in
    let held : Holds g m l made = record { trees = grew.trees; used = used_after g a m (row_units (g.unit a) l h.was) (row_units (g.unit m) l made) x h.holds.used grew.units } in
    let on = roots held in
    let geo_m = g.leads_geometry a m x.leads in
    let geo_d = g.leads_geometry m d y.leads ∙ geo_m in
    let count : length (row_shape (g.unit m) l made) ≡ length made = length-map made (λ (part : Part). shape_on (g.unit m) l part.page.0 part.size) in
    let shape : root_shape (g.unit d) made_root ≡ shape_by growth (g.geometry a).fan (leaf_bytes (g.geometry a)) (root_shape (g.unit a) root) pos (length given) =
    on.shape (length (row_shape (g.unit m) l made)) (omega arith) ∙ ap (λ (geo : Geometry). one_tree geo.fan l (row_shape (g.unit m) l made)) geo_m ∙ ap (one_tree (g.geometry a).fan l) grew.shape_is ∙ h.shape in
    record {
      spells = record {
        named = on.named;
        sized = on.sized;
        balanced = subst (λ (geo : Geometry). IsBalanced geo.fan (leaf_bytes geo) (root_shape (g.unit d) made_root)) (sym geo_d)
            (subst (IsBalanced (g.geometry a).fan (leaf_bytes (g.geometry a))) (sym shape) (shape_balanced growth (g.geometry a).fan (leaf_bytes (g.geometry a)) (root_shape (g.unit a) root) pos (length given)
            (omega (arith, (g.geometry a).two)) (omega (arith, leaf_some (g.geometry a))) spells.balanced));
        spelled = sym (on.bytes ∙ grew.bytes_are);
      };
      shape = shape;
      units = turned_on g a m d (root_units (g.unit a) root) (row_units (g.unit m) l made) (root_units (g.unit d) made_root) x y
          (subst (λ us. Turned g a m us (row_units (g.unit m) l made)) h.units grew.units) on.units on.stay;
    }

-- ---- the need

pub fan_height : (fan h : ℕ) → h * (2 * fan) ≡ 2 * (fan * h)
fan_height fan zero = omega arith
fan_height fan (suc h) = omega (arith, fan_height fan h)

need_times : (fan leaves h free : ℕ) → 2 ≤ fan → leaves / fan + 4 * (h + 3) ≤ free → leaves + 4 * (fan * h) + 11 * fan ≤ fan * free
need_times fan leaves h free wide le =
    let product : fan * (leaves / fan + 4 * (h + 3)) ≤ fan * free = mul-le-mul_left fan le in
    omega arith

pub enough_pages : (fan leaves h free : ℕ) → 2 ≤ fan → leaves / fan + 4 * (h + 3) ≤ free → leaves + h * (2 * fan) ≤ fan * free
enough_pages fan leaves h free wide le = omega (arith, need_times fan leaves h free wide le, fan_height fan h)

pub enough_roots : (fan leaves h before count after : ℕ) → 2 ≤ fan → leaves / fan + 4 * (h + 3) ≤ before → fan * before + count ≤ leaves + h * (2 * fan) + fan * after → count + fan ≤ fan * after + 2
enough_roots fan leaves h before count after wide le paid = omega (arith, need_times fan leaves h before wide le, fan_height fan h)

pub taken_pages : (fan leaves h before count mid after : ℕ) → 2 ≤ fan → 1 ≤ count → fan * before + count ≤ leaves + h * (2 * fan) + fan * mid → (count ≡ 1 → after ≡ mid) → (2 ≤ count → fan * mid + 2 ≤ count + fan + fan * after)
    → before ≤ after + (leaves / fan + 4 * (h + 3))
taken_pages fan leaves h before count mid after wide some paid lone rest = elim (cases_lt (after + (leaves / fan + 4 * (h + 3))) before) [
  | inr le ↦ le
  | inl lt ↦
      let product : fan * (after + (leaves / fan + 4 * (h + 3))) ≤ fan * before = mul-le-mul_left fan (let le : after + (leaves / fan + 4 * (h + 3)) ≤ before = omega arith in le) in
      let bound : fan * mid + 1 ≤ count + fan + fan * after = elim (cases_lt count 2) [
        | inl one ↦ omega (arith, ap (λ k. fan * k) (lone (omega arith)))
        | inr two ↦ omega (arith, rest two)
      ] in
      absurd (omega (arith, fan_height fan h))
]

-- ---- edits of no bytes

no_change : (growth : Growth) (fan full : ℕ) (shape : Shape) (pos : ℕ) → shape ≡ shape_by growth fan full shape pos 0
unfolding ins_shape app_shape
no_change Insert fan full shape pos = refl
no_change Append fan full shape pos = refl

pub nothing_changes : (growth : Growth) (fan full : ℕ) (shape : Shape) (pos n : ℕ) → n ≡ 0 → shape ≡ shape_by growth fan full shape pos n
nothing_changes growth fan full shape pos n none = subst (λ k. shape ≡ shape_by growth fan full shape pos k) (sym none) (no_change growth fan full shape pos)

pub nothing_turned : {S : Type 0} (g : ground.Ghosts S) (a : S) (units : List ℕ) → Turned g a a units units
nothing_turned g a units = record {
  own = each_as (λ p. Has units p) _ units (λ p h. inr h) (all_has units);
  all = λ p t. absurd (true≢false (sym t.1 ∙ t.0));
  counts = λ names. counted_same g a;
}

-- ---- bytes at the end

spelled_length : (geo : Geometry) (u : Units) (height size : ℕ) (page : Option PageNo) (bytes : List ℕ) → AreWhole geo u → RootSpells geo u (root_of height page size) bytes → length bytes ≡ size
spelled_length geo u height size None bytes whole h = omega (arith, ap length h.spelled, h.sized.0)
spelled_length geo u height size (Some page) bytes whole h = ap length h.spelled ∙ length-bytes_on geo u height page.0 size whole h.named h.sized

end_is : (bytes given : List ℕ) (k : ℕ) → length bytes ≡ k → inserted bytes k given ≡ bytes ++ given
end_is bytes given k is =
    ap (λ xs. (xs ++ given) ++ drop k bytes) (take_all k bytes (omega arith)) ∙ ap (λ xs. (bytes ++ given) ++ xs) (drop_all k bytes (omega arith)) ∙ append-nil (bytes ++ given)

pub spells_end : {S : Type 0} (g : ground.Ghosts S) (a b : S) (root made : Root) (bytes given : List ℕ) → g.ready a → g.tells a → RootSpells (g.geometry a) (g.unit a) root bytes
    → RootSpells (g.geometry b) (g.unit b) made (inserted bytes root.size given) → RootSpells (g.geometry b) (g.unit b) made (bytes ++ given)
spells_end g a b root made bytes given ready told spells h =
    subst (RootSpells (g.geometry b) (g.unit b) made) (end_is bytes given root.size (spelled_length (g.geometry a) (g.unit a) root.height root.size root.page bytes (g.whole a ready told) spells)) h

-- ---- the need of what is counted is no larger than that of all bytes

counted_most : (geo : Geometry) (page : Option PageNo) (n : ℕ) → counted geo page n ≤ n
counted_most geo None n = omega arith
counted_most geo (Some page) n = omega arith

pub counted_need : (geo : Geometry) (page : Option PageNo) (n height : ℕ) (area : Area) → growth_need geo (counted geo page n) height area ≤ growth_need geo n height area
counted_need geo page n height area = growth_need_up geo (counted geo page n) n height area (counted_most geo page n)

-- the trees that come in the place of a root's are counted by 32 bits
pub few_roots : (geo : Geometry) (page : Option PageNo) (n height count before after : ℕ) → n ≤ object_most → height ≤ 64 → after ≤ before
    → geo.fan * before + count ≤ growth_leaves geo (counted geo page n) + height * (2 * geo.fan) + geo.fan * after → count < 2 ^ 32
few_roots geo page n height count before after most low fewer paid =
    few_grown geo.fan (growth_leaves geo (counted geo page n)) height count count 1 before after (narrow geo) (omega (arith, low))
    (growth_few geo (counted geo page n) (omega (arith, counted_most geo page n, most))) (omega arith) (omega arith) fewer paid

-- ---- the old root

same_tree : (geo : Geometry) (u v : Units) (height size : ℕ) (page : Option PageNo) (bytes : List ℕ) → AllByRecursion (λ p. v p ≡ u p) (root_units u (root_of height page size)) → RootSpells geo u (root_of height page size) bytes → RootSpells geo v (root_of height page size) bytes
same_tree geo u v height size None bytes kept h = record { named = tt; sized = h.sized; balanced = tt; spelled = h.spelled }
same_tree geo u v height size (Some page) bytes kept h = record {
  named = named_same geo u v height page.0 kept h.named;
  sized = sized_same geo u v height page.0 size kept h.sized;
  balanced = subst (λ shape. IsBalanced geo.fan (leaf_bytes geo) (Some (height, shape))) (sym (shape_same u v height page.0 size kept)) h.balanced;
  spelled = h.spelled ∙ sym (bytes_same u v height page.0 size kept);
}

-- a root over used units still spells its bytes
pub root_stays : {S : Type 0} (g : ground.Ghosts S) (a b : S) (root : Root) (bytes : List ℕ) → Extends g a b → AreUsed (g.used a) (root_units (g.unit a) root) → RootSpells (g.geometry a) (g.unit a) root bytes → RootSpells (g.geometry b) (g.unit b) root bytes
root_stays g a b root bytes ext used h =
    subst (λ (geo : Geometry). RootSpells geo (g.unit b) root bytes) (sym (g.leads_geometry a b ext.leads))
    (same_tree (g.geometry a) (g.unit a) (g.unit b) root.height root.size root.page bytes (each_as (λ p. g.used a p ≡ true) (λ p. g.unit b p ≡ g.unit a p) (root_units (g.unit a) root) (λ p is_used. ext.units p is_used) used) h)
