-- Leaves of a tree, counted and listed.
use Rattle.std.proofs.Common.{◌≡◌, ◌≢◌, ℕ, zero, suc, ◌+◌, ◌-◌, ◌<◌, ◌≤◌, List, [], ◌∷◌, ◌++◌, length, take, drop, get_or, Option, Some, refl, sym, ap, subst, ◌∙◌, arith, append_assoc, take_all, inl, inr, false, nat_eq}
use Rattle.std.proofs.lemmas.Bool.{cases_lt, cases_Bool}
use Rattle.std.proofs.lemmas.Bool.Decides.{nat_tests}
use Rattle.std.proofs.lemmas.List.{append-nil, length-append, length-take-le, take-append-le, take-take, drop_all, take_more}
use Rattle.ex_base.specs.Ports.{Keeps}
use Rattle.ex_base.specs.declared.geometry.Geometry.{Geometry}
use Rattle.ex_base.specs.declared.ground.Ground as ground
use Rattle.ex_base.specs.declared.names.PageNo.{PageNo}
use Rattle.ex_base.specs.declared.names.Root.{Root}
use Rattle.trees.specs.Shape.{Nested, joined, leaves_of}
use Rattle.trees.specs.Trees.{Units, RootNamed, RootSized, RootSpells, root_shape, root_shape_at, shape_on}
use Rattle.trees.specs.declared.rows.Part.{Part}
use Rattle.trees.specs.Damage.{AnyPage, IsSoundWay}
use Rattle.trees.specs.Rows.{AreTrees, IsRowOn, row_shape, row_size}
use Rattle.trees.proofs.Ways.{way_append, way_kept, way_past}
use Rattle.ex_base.proofs.Keeping.{keeps_on}
use Rattle.ex_base.proofs.Each.{split_each}
use Rattle.trees.proofs.Reading.{row_trees, shape_below, no_part}
use Rattle.tree_insert.specs.declared.lengths.Counted.{Counted}
use Rattle.tree_insert.specs.Counts.{AreBounded, AreCounted, AreSound}
use Rattle.trees.proofs.Growing.{shape_app}
use Rattle.trees.proofs.Sizes.{around_row}
use Rattle.tree_insert.proofs.PlaceLaws.{read_size, size-front}

-- ---- the leaves of trees side by side

joined-append : {A : Type 0} (h : ℕ) (xs ys : List (Nested A h)) → joined (suc h) (xs ++ ys) ≡ joined (suc h) xs ++ joined (suc h) ys
joined-append h [] ys = refl
joined-append h (x ∷ xs) ys = ap (λ zs. joined h x ++ zs) (joined-append h xs ys) ∙ sym (append_assoc (joined h x) (joined (suc h) xs) (joined (suc h) ys))

joined-one : {A : Type 0} (h : ℕ) (x : Nested A h) → joined (suc h) (x ∷ []) ≡ joined h x
joined-one h x = append-nil (joined h x)

abbrev pub leaves_in : Units → ℕ → List Part → List ℕ
leaves_in u l row = joined (suc l) (row_shape u l row)

pub leaves_more : (u : Units) (l : ℕ) (row : List Part) (i : ℕ) → i < length row → leaves_in u l (take (i + 1) row) ≡ leaves_in u l (take i row) ++ joined l (shape_on u l (get_or row i no_part).page.0 (get_or row i no_part).size)
leaves_more u l row i lt =
    ap (leaves_in u l) (take_more row i no_part lt) ∙ ap (joined (suc l)) (shape_app u l (take i row) (get_or row i no_part ∷ []))
    ∙ joined-append l (row_shape u l (take i row)) (row_shape u l (get_or row i no_part ∷ []))
    ∙ ap (λ xs. leaves_in u l (take i row) ++ xs) (joined-one l (shape_on u l (get_or row i no_part).page.0 (get_or row i no_part).size))

-- the trees of a row, one of them
pub tree_of : (geo : Geometry) (u : Units) (l : ℕ) (row : List Part) (i : ℕ) → i < length row → AreTrees geo u l row → AreTrees geo u l (get_or row i no_part ∷ [])
tree_of geo u l row i lt trees =
    (split_each _ (get_or row i no_part ∷ []) (drop (i + 1) row) (split_each _ (take i row) ((get_or row i no_part ∷ []) ++ drop (i + 1) row) (subst (AreTrees geo u l) (around_row row i lt) trees)).1).0

-- ---- the count

module _ {S : Type 0} (g : ground.Ghosts S) where
  pub record CountSoFar (old now : S) (before after : ℕ → Option Counted) (level : ℕ) (row : List Part) (i leaves : ℕ) : Type 0 where
    pub kept : Keeps g old now
    pub bounded : AreBounded after
    pub most : leaves ≤ row_size (take i row)
    pub known : g.tells old → AreCounted (g.geometry old) (g.unit old) before → AreCounted (g.geometry old) (g.unit old) after
    pub ways : g.tells old → AreSound (g.geometry old) (g.unit old) before → AreSound (g.geometry old) (g.unit old) after
    pub way : g.tells old → AreSound (g.geometry old) (g.unit old) before → (byte : ℕ) → IsSoundWay (g.geometry old) (g.unit old) AnyPage (level - 1) (g.geometry old).fan (take i row) byte byte
    pub count : g.tells old → AreCounted (g.geometry old) (g.unit old) before → (l : ℕ) → level - 1 ≡ l → AreTrees (g.geometry old) (g.unit old) l row → leaves ≡ length (leaves_in (g.unit old) l (take i row))

  pub count_start : (old now : S) (known : ℕ → Option Counted) (level : ℕ) (row : List Part) → Keeps g old now → AreBounded known → CountSoFar old now known known level row 0 0
  count_start old now known level row k bounded = record {
    kept = k;
    bounded = bounded;
    most = omega arith;
    known = λ told h. h;
    ways = λ told h. h;
    way = λ told h byte. way_past (g.geometry old) (g.unit old) AnyPage (level - 1) (g.geometry old).fan [] byte byte (omega arith);
    count = λ told h l same trees. refl;
  }

  sound_at : (a b : S) (known : ℕ → Option Counted) → Keeps g a b → AreSound (g.geometry a) (g.unit a) known → AreSound (g.geometry b) (g.unit b) known
  sound_at a b known k h = subst (λ geo. AreSound geo (g.unit b) known) (sym (g.leads_geometry a b k.leads)) (subst (λ u. AreSound (g.geometry a) u known) (sym k.units) h)

  sound_back : (a b : S) (known : ℕ → Option Counted) → Keeps g a b → AreSound (g.geometry b) (g.unit b) known → AreSound (g.geometry a) (g.unit a) known
  sound_back a b known k h = subst (λ u. AreSound (g.geometry a) u known) k.units (subst (λ geo. AreSound geo (g.unit b) known) (g.leads_geometry a b k.leads) h)

  counted_at : (a b : S) (known : ℕ → Option Counted) → Keeps g a b → AreCounted (g.geometry a) (g.unit a) known → AreCounted (g.geometry b) (g.unit b) known
  counted_at a b known k h = subst (λ geo. AreCounted geo (g.unit b) known) (sym (g.leads_geometry a b k.leads)) (subst (λ u. AreCounted (g.geometry a) u known) (sym k.units) h)

  counted_back : (a b : S) (known : ℕ → Option Counted) → Keeps g a b → AreCounted (g.geometry b) (g.unit b) known → AreCounted (g.geometry a) (g.unit a) known
  counted_back a b known k h = subst (λ u. AreCounted (g.geometry a) u known) k.units (subst (λ geo. AreCounted geo (g.unit b) known) (g.leads_geometry a b k.leads) h)

  pub count_more : (old now new : S) (before mid after : ℕ → Option Counted) (level fan : ℕ) (row : List Part) (i leaves more : ℕ) → fan ≡ (g.geometry old).fan → i < length row → CountSoFar old now before mid level row i leaves → Keeps g now new → AreBounded after → more ≤ (get_or row i no_part).size
      → (g.tells now → AreCounted (g.geometry now) (g.unit now) mid → AreCounted (g.geometry now) (g.unit now) after)
      → (g.tells now → AreCounted (g.geometry now) (g.unit now) mid → (l : ℕ) → level - 1 ≡ l → AreTrees (g.geometry now) (g.unit now) l (get_or row i no_part ∷ []) → more ≡ length (joined l (shape_on (g.unit now) l (get_or row i no_part).page.0 (get_or row i no_part).size)))
      → (g.tells now → (g.geometry now).fan ≤ fan → AreSound (g.geometry now) (g.unit now) mid → AreSound (g.geometry now) (g.unit now) after)
      → (g.tells now → fan ≤ (g.geometry now).fan → AreSound (g.geometry now) (g.unit now) mid → (byte : ℕ) → IsSoundWay (g.geometry now) (g.unit now) AnyPage (level - 1) fan (get_or row i no_part ∷ []) byte byte)
      → CountSoFar old new before after level row (i + 1) (leaves + more)
  count_more old now new before mid after level fan row i leaves more fan_is lt h k bounded most known count ways way = record {
    kept = keeps_on g old now new h.kept k;
    bounded = bounded;
    most = omega (arith, h.most, size-front row i lt, read_size row i lt);
    known = λ told start. counted_back old now after h.kept (known (g.leads_told old now h.kept.leads told) (counted_at old now mid h.kept (h.known told start)));
    ways = λ told start.
        sound_back old now after h.kept (ways (g.leads_told old now h.kept.leads told) (omega (arith, fan_is, ap (λ geo. geo.fan) (g.leads_geometry old now h.kept.leads))) (sound_at old now mid h.kept (h.ways told start)));
    way = λ told start byte.
        subst (λ r. IsSoundWay (g.geometry old) (g.unit old) AnyPage (level - 1) (g.geometry old).fan r byte byte) (sym (take_more row i no_part lt))
        (way_append (g.geometry old) (g.unit old) AnyPage (level - 1) (g.geometry old).fan (take i row) (get_or row i no_part ∷ []) byte byte (h.way told start byte)
        (λ far. subst (λ n. IsSoundWay (g.geometry old) (g.unit old) AnyPage (level - 1) n (get_or row i no_part ∷ []) (byte - row_size (take i row)) (byte - row_size (take i row))) fan_is
        (way_kept g (λ geo. AnyPage) old now (level - 1) fan (get_or row i no_part ∷ []) (byte - row_size (take i row)) (byte - row_size (take i row)) h.kept
        (λ told_now. way told_now (omega (arith, fan_is, ap (λ geo. geo.fan) (g.leads_geometry old now h.kept.leads))) (sound_at old now mid h.kept (h.ways told start)) (byte - row_size (take i row))) told)));
    count = λ told start l same trees.
        let here : AreTrees (g.geometry now) (g.unit now) l (get_or row i no_part ∷ []) =
        subst (λ geo. AreTrees geo (g.unit now) l (get_or row i no_part ∷ [])) (sym (g.leads_geometry old now h.kept.leads)) (subst (λ u. AreTrees (g.geometry old) u l (get_or row i no_part ∷ [])) (sym h.kept.units) (tree_of (g.geometry old) (g.unit old) l row i lt trees)) in
        let own : more ≡ length (joined l (shape_on (g.unit old) l (get_or row i no_part).page.0 (get_or row i no_part).size)) =
        subst (λ u. more ≡ length (joined l (shape_on u l (get_or row i no_part).page.0 (get_or row i no_part).size))) h.kept.units (count (g.leads_told old now h.kept.leads told) (counted_at old now mid h.kept (h.known told start)) l same here) in
        omega (arith, h.count told start l same trees, own, ap length (leaves_more (g.unit old) l row i lt), length-append (leaves_in (g.unit old) l (take i row)) (joined l (shape_on (g.unit old) l (get_or row i no_part).page.0 (get_or row i no_part).size)));
  }

-- all children of a node
pub count_node : (geo : Geometry) (u : Units) (level l : ℕ) (tree : Part) (below : List Part) (leaves : ℕ) → level ≡ l → level ≢ 0 → IsRowOn geo (u tree.page.0) level tree.size below
    → ((m : ℕ) → level - 1 ≡ m → AreTrees geo u m below → leaves ≡ length (leaves_in u m below)) → AreTrees geo u l (tree ∷ []) → leaves ≡ length (joined l (shape_on u l tree.page.0 tree.size))
count_node geo u level zero tree below leaves same up on count trees = absurd (up same)
count_node geo u level (suc l) tree below leaves same up on count trees =
    count l (omega arith) (row_trees geo u l tree.page.0 tree.size below trees.0.0 trees.0.1 on.parts) ∙ ap (λ t. length (joined (suc l) t)) (sym (shape_below u l tree.page.0 tree.size below on.parts))

-- ---- the first lengths

front_on : (most : ℕ) (a b : List ℕ) → take most (take most a ++ b) ≡ take most (a ++ b)
front_on most a b = elim (cases_lt (length a) most) [
  | inl few ↦ ap (λ xs. take most (xs ++ b)) (take_all most a (omega arith))
  | inr many ↦ take-append-le most (take most a) b (omega (arith, length-take-le most a many)) ∙ take-take most most a (omega arith) ∙ sym (take-append-le most a b many)
]

pub front_more : (most : ℕ) (old now after a b all : List ℕ) → now ≡ take most (old ++ a) → after ≡ take most (now ++ b) → all ≡ a ++ b → after ≡ take most (old ++ all)
front_more most old now after a b all now_is after_is all_is =
    after_is ∙ ap (λ xs. take most (xs ++ b)) now_is ∙ front_on most (old ++ a) b ∙ ap (take most) (append_assoc old a b ∙ ap (λ xs. old ++ xs) (sym all_is))

module _ {S : Type 0} (g : ground.Ghosts S) where
  pub record FrontSoFar (old now : S) (most level : ℕ) (row : List Part) (i : ℕ) (before after : List ℕ) : Type 0 where
    pub kept : Keeps g old now
    pub few : length after ≤ most
    pub lengths : g.tells old → (l : ℕ) → level - 1 ≡ l → AreTrees (g.geometry old) (g.unit old) l row → after ≡ take most (before ++ leaves_in (g.unit old) l (take i row))

  pub front_start : (old now : S) (most level : ℕ) (row : List Part) (before : List ℕ) → Keeps g old now → length before ≤ most → FrontSoFar old now most level row 0 before before
  front_start old now most level row before k few = record {
    kept = k;
    few = few;
    lengths = λ told l same trees. sym (ap (take most) (append-nil before) ∙ take_all most before few);
  }

  pub front_step : (old now new : S) (most level : ℕ) (row : List Part) (i : ℕ) (before mid after : List ℕ) → i < length row → FrontSoFar old now most level row i before mid → Keeps g now new → length after ≤ most
      → (g.tells now → (l : ℕ) → level - 1 ≡ l → AreTrees (g.geometry now) (g.unit now) l (get_or row i no_part ∷ []) → after ≡ take most (mid ++ joined l (shape_on (g.unit now) l (get_or row i no_part).page.0 (get_or row i no_part).size)))
      → FrontSoFar old new most level row (i + 1) before after
  front_step old now new most level row i before mid after lt h k few more = record {
    kept = keeps_on g old now new h.kept k;
    few = few;
    lengths = λ told l same trees.
        let here : AreTrees (g.geometry now) (g.unit now) l (get_or row i no_part ∷ []) =
        subst (λ geo. AreTrees geo (g.unit now) l (get_or row i no_part ∷ [])) (sym (g.leads_geometry old now h.kept.leads)) (subst (λ u. AreTrees (g.geometry old) u l (get_or row i no_part ∷ [])) (sym h.kept.units) (tree_of (g.geometry old) (g.unit old) l row i lt trees)) in
        let own : after ≡ take most (mid ++ joined l (shape_on (g.unit old) l (get_or row i no_part).page.0 (get_or row i no_part).size)) =
        subst (λ u. after ≡ take most (mid ++ joined l (shape_on u l (get_or row i no_part).page.0 (get_or row i no_part).size))) h.kept.units (more (g.leads_told old now h.kept.leads told) l same here) in
        front_more most before mid after (leaves_in (g.unit old) l (take i row)) (joined l (shape_on (g.unit old) l (get_or row i no_part).page.0 (get_or row i no_part).size)) (leaves_in (g.unit old) l (take (i + 1) row)) (h.lengths told l same trees) own (leaves_more (g.unit old) l row i lt);
  }

-- one length more, where there is room
pub room_for_one : (most : ℕ) (old now : List ℕ) (n : ℕ) → length old < most → now ≡ old ++ (n ∷ []) → now ≡ take most (old ++ (n ∷ []))
room_for_one most old now n lt is = is ∙ sym (take_all most (old ++ (n ∷ [])) (omega (arith, length-append old (n ∷ []))))

pub front_node : (geo : Geometry) (u : Units) (most level l : ℕ) (tree : Part) (below : List Part) (before after : List ℕ) → level ≡ l → level ≢ 0 → IsRowOn geo (u tree.page.0) level tree.size below
    → ((m : ℕ) → level - 1 ≡ m → AreTrees geo u m below → after ≡ take most (before ++ leaves_in u m below)) → AreTrees geo u l (tree ∷ []) → after ≡ take most (before ++ joined l (shape_on u l tree.page.0 tree.size))
front_node geo u most level zero tree below before after same up on lengths trees = absurd (up same)
front_node geo u most level (suc l) tree below before after same up on lengths trees =
    lengths l (omega arith) (row_trees geo u l tree.page.0 tree.size below trees.0.0 trees.0.1 on.parts) ∙ ap (λ t. take most (before ++ joined (suc l) t)) (sym (shape_below u l tree.page.0 tree.size below on.parts))

-- ---- what is known of one node more

bounded_at : (known : ℕ → Option Counted) (p q : ℕ) (c d : Counted) → p ≡ q → known p ≡ Some c → known q ≡ Some d → c ≡ d
bounded_at known p q c d same at there =
    let both : Some c ≡ Some d = sym at ∙ ap known same ∙ there in
    cc

pub bounded_put : (old new : ℕ → Option Counted) (p : ℕ) (c : Counted) → new p ≡ Some c → ((q : ℕ) → nat_eq p q ≡ false → new q ≡ old q) → AreBounded old → c.leaves ≤ c.size → AreBounded new
bounded_put old new p c at others bounded le q d there = elim (cases_Bool (nat_eq p q)) [
  | inl taken ↦
      let same : p ≡ q = grind (arith, nat_tests) in
      subst (λ (x : Counted). x.leaves ≤ x.size) (bounded_at new p q c d same at there) le
  | inr apart ↦ bounded q d (sym (others q apart) ∙ there)
]

pub counted_put : (geo : Geometry) (u : Units) (old new : ℕ → Option Counted) (p : ℕ) (c : Counted) → new p ≡ Some c → ((q : ℕ) → nat_eq p q ≡ false → new q ≡ old q) → AreCounted geo u old
    → ((l : ℕ) → c.level ≡ l → AreTrees geo u l (record { size = c.size; page = record { 0 = p } } ∷ []) → c.leaves ≡ length (joined l (shape_on u l p c.size))) → AreCounted geo u new
counted_put geo u old new p c at others counted here q d there = elim (cases_Bool (nat_eq p q)) [
  | inl taken ↦
      let same : p ≡ q = grind (arith, nat_tests) in
      subst (λ (r : ℕ). (l : ℕ) → d.level ≡ l → AreTrees geo u l (record { size = d.size; page = record { 0 = r } } ∷ []) → d.leaves ≡ length (joined l (shape_on u l r d.size))) same
      (subst (λ (x : Counted). (l : ℕ) → x.level ≡ l → AreTrees geo u l (record { size = x.size; page = record { 0 = p } } ∷ []) → x.leaves ≡ length (joined l (shape_on u l p x.size))) (bounded_at new p q c d same at there) here)
  | inr apart ↦ counted q d (sym (others q apart) ∙ there)
]

pub sound_put : (geo : Geometry) (u : Units) (old new : ℕ → Option Counted) (p : ℕ) (c : Counted) → new p ≡ Some c → ((q : ℕ) → nat_eq p q ≡ false → new q ≡ old q) → AreSound geo u old
    → ((byte : ℕ) → IsSoundWay geo u AnyPage c.level geo.fan (record { size = c.size; page = record { 0 = p } } ∷ []) byte byte) → AreSound geo u new
sound_put geo u old new p c at others sound here q d there = elim (cases_Bool (nat_eq p q)) [
  | inl taken ↦
      let same : p ≡ q = grind (arith, nat_tests) in
      subst (λ (r : ℕ). (byte : ℕ) → IsSoundWay geo u AnyPage d.level geo.fan (record { size = d.size; page = record { 0 = r } } ∷ []) byte byte) same
      (subst (λ (x : Counted). (byte : ℕ) → IsSoundWay geo u AnyPage x.level geo.fan (record { size = x.size; page = record { 0 = p } } ∷ []) byte byte) (bounded_at new p q c d same at there) here)
  | inr apart ↦ sound q d (sym (others q apart) ∙ there)
]

-- ---- the tree of a root

pub leaf_front : (u : Units) (most level l : ℕ) (tree : Part) (old now : List ℕ) → level ≡ 0 → level ≡ l → length old < most → now ≡ old ++ (tree.size ∷ []) → now ≡ take most (old ++ joined l (shape_on u l tree.page.0 tree.size))
leaf_front u most level zero tree old now none same lt is = room_for_one most old now tree.size lt is
leaf_front u most level (suc l) tree old now none same lt is = absurd (omega arith)

pub root_trees : (geo : Geometry) (u : Units) (root : Root) (page : PageNo) (bytes : List ℕ) → root.page ≡ Some page → RootSpells geo u root bytes → AreTrees geo u root.height (record { size = root.size; page = page } ∷ [])
root_trees geo u root page bytes is spells = ((subst (RootNamed geo u root.height) is spells.named, subst (RootSized geo u root.height root.size) is spells.sized), tt)

pub root_leaves : (u : Units) (root : Root) (page : PageNo) → root.page ≡ Some page → leaves_of (root_shape u root) ≡ joined root.height (shape_on u root.height page.0 root.size)
root_leaves u root page is = ap (λ p. leaves_of (root_shape_at u root.height root.size p)) is

pub root_count : {S : Type 0} (g : ground.Ghosts S) (a b : S) (root : Root) (page : PageNo) (bytes : List ℕ) (n : ℕ) → root.page ≡ Some page → Keeps g a b → RootSpells (g.geometry a) (g.unit a) root bytes
    → (AreTrees (g.geometry b) (g.unit b) root.height (record { size = root.size; page = page } ∷ []) → n ≡ length (joined root.height (shape_on (g.unit b) root.height page.0 root.size))) → n ≡ length (leaves_of (root_shape (g.unit a) root))
root_count g a b root page bytes n is k spells count =
    let trees : AreTrees (g.geometry b) (g.unit b) root.height (record { size = root.size; page = page } ∷ []) =
    subst (λ geo. AreTrees geo (g.unit b) root.height (record { size = root.size; page = page } ∷ [])) (sym (g.leads_geometry a b k.leads)) (subst (λ u. AreTrees (g.geometry a) u root.height (record { size = root.size; page = page } ∷ [])) (sym k.units) (root_trees (g.geometry a) (g.unit a) root page bytes is spells)) in
    subst (λ u. n ≡ length (joined root.height (shape_on u root.height page.0 root.size))) k.units (count trees) ∙ ap length (sym (root_leaves (g.unit a) root page is))

-- the front of a buffer, filled
pub front_filled : (leaves out found : List ℕ) → found ≡ take (length out) leaves → found ++ drop (length found) out ≡ take (length out) leaves ++ drop (length leaves) out
front_filled leaves out found is = elim (cases_lt (length leaves) (length out)) [
  | inl few ↦
      let whole : found ≡ leaves = is ∙ take_all (length out) leaves (omega arith) in
      ap (λ xs. xs ++ drop (length found) out) is ∙ ap (λ xs. take (length out) leaves ++ drop (length xs) out) whole
  | inr many ↦
      let count : length found ≡ length out = ap length is ∙ length-take-le (length out) leaves many in
      ap (λ xs. xs ++ drop (length found) out) is ∙ ap (λ xs. take (length out) leaves ++ xs) (drop_all (length found) out (omega arith) ∙ sym (drop_all (length leaves) out many))
]
