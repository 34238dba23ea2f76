-- Trees and their copies in later states.
use Rattle.std.proofs.Common.{◌≡◌, ◌≢◌, inl, inr, ℕ, true, false, List, Some, refl, sym, ap, subst, ◌∙◌}
use Rattle.std.specs.List.{AllByRecursion}
use Rattle.std.proofs.lemmas.Bool.{cases_eq}
use Rattle.ex_base.specs.declared.geometry.Geometry.{Geometry}
use Rattle.ex_base.specs.declared.ground.Ground as ground
use Rattle.ex_base.specs.declared.names.PageNo.{PageNo}
use Rattle.ex_base.specs.Sizes.{leaf_bytes}
use Rattle.ex_base.proofs.Each.{each_as}
use Rattle.trees.specs.Damage.{AvoidsCatalog}
use Rattle.trees.specs.Made.{AreUsed, Extends, Has}
use Rattle.trees.specs.Trees.{Units, IsNamed, HasSize, shape_on, units_on}
use Rattle.trees.specs.declared.rows.Part.{Part}
use Rattle.trees.proofs.SameUnits.{Kept, units_same, bytes_same, shape_same, named_same, sized_same}
use Rattle.compact.specs.High.{has_high, nodes_above, high_leaves, low_leaves}
use Rattle.compact.specs.Moved.{Copies, AreLow, HasCopy, IsOwn, IsSent, KeepsCopies}
use Rattle.compact.specs.Walk.{Move, HasLeast, IsTreeOf, IsGoodPair, AreGood}
use Rattle.compact.proofs.Levels.{same_level, high_same, low_inside}

pub kept_back : (u v : Units) (l page : ℕ) → Kept u v (units_on u l page) → Kept v u (units_on v l page)
kept_back u v l page kept = subst (Kept v u) (sym (units_same u v l page kept)) (each_as (λ p. v p ≡ u p) (λ p. u p ≡ v p) (units_on u l page) (λ p e. sym e) kept)

-- what has a copy keeps it
pub each_sent : (moves after : Copies) (pages : List ℕ) → KeepsCopies moves after → AllByRecursion (HasCopy moves) pages → AllByRecursion (HasCopy after) pages
each_sent moves after pages keeps sent = each_as (HasCopy moves) (HasCopy after) pages (λ p has. (has.0, keeps p has.0 has.1)) sent

-- what was sent of a tree stays so where its units are kept
pub sent_same : (g : Geometry) (dense : ℕ) (u v : Units) (moves : Copies) (l page : ℕ) → Kept u v (units_on u l page) → IsSent g dense u moves l page → IsSent g dense v moves l page
sent_same g dense u v moves l page kept sent =
    let high = high_same g dense u v l page kept in
    record {
      leaves = subst (AllByRecursion (HasCopy moves)) (sym high.leaves) sent.leaves;
      nodes = subst (AllByRecursion (HasCopy moves)) (sym high.nodes) sent.nodes;
    }

module _ {S : Type 0} (g : ground.Ghosts S) where
  pub kept_of : (a b : S) (units : List ℕ) → Extends g a b → AreUsed (g.used a) units → Kept (g.unit a) (g.unit b) units
  kept_of a b units ext used = each_as (λ p. g.used a p ≡ true) (λ p. g.unit b p ≡ g.unit a p) units (λ p h. ext.units p h) used

  pub used_on : (a b : S) (units : List ℕ) → Extends g a b → AreUsed (g.used a) units → AreUsed (g.used b) units
  used_on a b units ext used = each_as (λ p. g.used a p ≡ true) (λ p. g.used b p ≡ true) units (λ p h. ext.used p h) used

  -- a tree of the move, in a later state
  pub tree_later : (move : Move S) (dense : ℕ) (a b : S) (l least : ℕ) (part : Part) → Extends g a b → IsTreeOf g move dense a l least part → IsTreeOf g move dense b l least part
  tree_later move dense a b l least part ext t =
      let geo : g.geometry b ≡ g.geometry a = g.leads_geometry a b ext.leads in
      let kept = kept_of a b (units_on (g.unit a) l part.page.0) ext t.used in
      let units : units_on (g.unit b) l part.page.0 ≡ units_on (g.unit a) l part.page.0 = units_same (g.unit a) (g.unit b) l part.page.0 kept in
      let high = high_same (g.geometry a) dense (g.unit a) (g.unit b) l part.page.0 kept in
      record {
        named = subst (λ (h : Geometry). IsNamed h (g.unit b) l part.page.0) (sym geo) (named_same (g.geometry a) (g.unit a) (g.unit b) l part.page.0 kept t.named);
        sized = subst (λ (h : Geometry). HasSize h (g.unit b) l part.page.0 part.size) (sym geo) (sized_same (g.geometry a) (g.unit a) (g.unit b) l part.page.0 part.size kept t.sized);
        enough = subst (λ (h : Geometry). HasLeast h.fan (leaf_bytes h) least l (shape_on (g.unit b) l part.page.0 part.size)) (sym geo)
            (subst (HasLeast (g.geometry a).fan (leaf_bytes (g.geometry a)) least l) (sym (shape_same (g.unit a) (g.unit b) l part.page.0 part.size kept)) t.enough);
        used = subst (AreUsed (g.used b)) (sym units) (used_on a b (units_on (g.unit a) l part.page.0) ext t.used);
        begun = subst (AreUsed (g.used move.start)) (sym units) t.begun;
        avoids = subst AvoidsCatalog (sym units) t.avoids;
        units = subst (AllByRecursion (Has move.units)) (sym units) t.units;
        nodes = subst (λ (h : Geometry). AllByRecursion (Has move.nodes) (nodes_above h dense (g.unit b) l part.page.0)) (sym geo) (subst (AllByRecursion (Has move.nodes)) (sym high.nodes) t.nodes);
        leaves = subst (λ (h : Geometry). AllByRecursion (Has move.leaves) (high_leaves h dense (g.unit b) l part.page.0)) (sym geo) (subst (AllByRecursion (Has move.leaves)) (sym high.leaves) t.leaves);
      }

  pub each_later : (move : Move S) (dense : ℕ) (a b : S) (l least : ℕ) (row : List Part) → Extends g a b → AllByRecursion (IsTreeOf g move dense a l least) row → AllByRecursion (IsTreeOf g move dense b l least) row
  each_later move dense a b l least row ext trees = each_as (IsTreeOf g move dense a l least) (IsTreeOf g move dense b l least) row (λ part t. tree_later move dense a b l least part ext t) trees

  -- a unit that may be in the tree stays so
  own_later : (move : Move S) (a b : S) (units : List ℕ) → Extends g a b → AllByRecursion (IsOwn g move.start a move.first move.units) units → AllByRecursion (IsOwn g move.start b move.first move.units) units
  own_later move a b units ext own = each_as (IsOwn g move.start a move.first move.units) (IsOwn g move.start b move.first move.units) units (λ p is. elim is [
    | inl taken ↦ inl (taken.0, ext.used p taken.1)
    | inr other ↦ inr other
  ]) own

  -- a good pair, with more copies
  pub good_more : (move : Move S) (dense : ℕ) (s : S) (moves after : Copies) (l page copy : ℕ) → KeepsCopies moves after → IsGoodPair g move dense s moves l page copy → IsGoodPair g move dense s after l page copy
  good_more move dense s moves after l page copy keeps good = record {
    sound = good.sound;
    own = good.own;
    sent = record {
      leaves = each_sent moves after (high_leaves (g.geometry s) dense (g.unit s) l page) keeps good.sent.leaves;
      nodes = each_sent moves after (nodes_above (g.geometry s) dense (g.unit s) l page) keeps good.sent.nodes;
    };
  }

  -- and in a later state
  pub good_later : (move : Move S) (dense : ℕ) (a b : S) (moves : Copies) (l page copy : ℕ) → Extends g a b → AreUsed (g.used a) (units_on (g.unit a) l page) → IsGoodPair g move dense a moves l page copy → IsGoodPair g move dense b moves l page copy
  good_later move dense a b moves l page copy ext used good =
      let s = good.sound in
      let geo : g.geometry b ≡ g.geometry a = g.leads_geometry a b ext.leads in
      let kept = kept_of a b (units_on (g.unit a) l copy) ext s.used in
      let from = kept_of a b (units_on (g.unit a) l page) ext used in
      let units : units_on (g.unit b) l copy ≡ units_on (g.unit a) l copy = units_same (g.unit a) (g.unit b) l copy kept in
      let back = λ (n : ℕ) (h : HasSize (g.geometry b) (g.unit b) l page n). sized_same (g.geometry a) (g.unit b) (g.unit a) l page n (kept_back (g.unit a) (g.unit b) l page from) (subst (λ (k : Geometry). HasSize k (g.unit b) l page n) geo h) in
      record {
        sound = record {
          named = subst (λ (h : Geometry). IsNamed h (g.unit b) l copy) (sym geo) (named_same (g.geometry a) (g.unit a) (g.unit b) l copy kept s.named);
          sized = λ n h. subst (λ (k : Geometry). HasSize k (g.unit b) l copy n) (sym geo) (sized_same (g.geometry a) (g.unit a) (g.unit b) l copy n kept (s.sized n (back n h)));
          bytes = λ n h. bytes_same (g.unit a) (g.unit b) l copy n kept ∙ s.bytes n (back n h) ∙ sym (bytes_same (g.unit a) (g.unit b) l page n from);
          shape = λ n h. shape_same (g.unit a) (g.unit b) l copy n kept ∙ s.shape n (back n h) ∙ sym (shape_same (g.unit a) (g.unit b) l page n from);
          used = subst (AreUsed (g.used b)) (sym units) (used_on a b (units_on (g.unit a) l copy) ext s.used);
          low = subst (λ (h : Geometry). AreLow h dense (units_on (g.unit b) l copy)) (sym geo) (subst (AreLow (g.geometry a) dense) (sym units) s.low);
          still = λ none. s.still (sym (high_same (g.geometry a) dense (g.unit a) (g.unit b) l page from).high ∙ subst (λ (h : Geometry). has_high h dense (g.unit b) l page ≡ false) geo none);
          stay = subst (λ (h : Geometry). AllByRecursion (Has (units_on (g.unit b) l copy)) (low_leaves h dense (g.unit b) l page)) (sym geo)
              (subst (AllByRecursion (Has (units_on (g.unit b) l copy))) (sym (high_same (g.geometry a) dense (g.unit a) (g.unit b) l page from).low)
              (subst (λ (us : List ℕ). AllByRecursion (Has us) (low_leaves (g.geometry a) dense (g.unit a) l page)) (sym units) s.stay));
        };
        own = subst (AllByRecursion (IsOwn g move.start b move.first move.units)) (sym units) (own_later move a b (units_on (g.unit a) l copy) ext good.own);
        sent = subst (λ (h : Geometry). IsSent h dense (g.unit b) moves l page) (sym geo) (sent_same (g.geometry a) dense (g.unit a) (g.unit b) moves l page from good.sent);
      }

  -- all of them
  pub pairs_later : (move : Move S) (dense : ℕ) (a b : S) (moves : Copies) → Extends g move.start a → Extends g a b → AreGood g move dense a moves → AreGood g move dense b moves
  pairs_later move dense a b moves since ext good = λ level page copy has sent named used.
      let units : units_on (g.unit a) level page ≡ units_on (g.unit move.start) level page = units_same (g.unit move.start) (g.unit a) level page (kept_of move.start a (units_on (g.unit move.start) level page) since used) in
      good_later move dense a b moves level page copy.0 ext (subst (AreUsed (g.used a)) (sym units) (used_on move.start a (units_on (g.unit move.start) level page) since used)) (good level page copy has sent named used)

  -- a tree of the move stood at the start
  pub begun_tree : (move : Move S) (dense : ℕ) (s : S) (l least : ℕ) (part : Part) → Extends g move.start s → IsTreeOf g move dense s l least part
      → IsNamed (g.geometry move.start) (g.unit move.start) l part.page.0 × AreUsed (g.used move.start) (units_on (g.unit move.start) l part.page.0)
  begun_tree move dense s l least part since t =
      let back : Kept (g.unit s) (g.unit move.start) (units_on (g.unit s) l part.page.0) = each_as (λ p. g.used move.start p ≡ true) (λ p. g.unit move.start p ≡ g.unit s p) (units_on (g.unit s) l part.page.0) (λ p h. sym (since.units p h)) t.begun in (
        subst (λ (h : Geometry). IsNamed h (g.unit move.start) l part.page.0) (g.leads_geometry move.start s since.leads) (named_same (g.geometry s) (g.unit s) (g.unit move.start) l part.page.0 back t.named),
        subst (AreUsed (g.used move.start)) (sym (units_same (g.unit s) (g.unit move.start) l part.page.0 back)) t.begun,
      )

  -- one pair more
  pub pairs_put : (move : Move S) (dense : ℕ) (s : S) (moves after : Copies) (l page : ℕ) (copy : PageNo) → KeepsCopies moves after → after page ≡ Some copy → ((q : ℕ) → q ≢ page → after q ≡ moves q)
      → IsNamed (g.geometry move.start) (g.unit move.start) l page → IsGoodPair g move dense s after l page copy.0 → AreGood g move dense s moves → AreGood g move dense s after
  pairs_put move dense s moves after l page copy keeps here others named good all = λ level q c has sent there used. elim (cases_eq q page) [
    | inl same ↦
        let which : Some copy ≡ Some c = sym here ∙ ap after (sym same) ∙ sent in
        let is : copy ≡ c = cc in
        let at : level ≡ l = same_level (g.geometry move.start) (g.unit move.start) level l page (subst (IsNamed (g.geometry move.start) (g.unit move.start) level) same there) named in
        subst (λ k. IsGoodPair g move dense s after k q c.0) (sym at) (subst (λ p. IsGoodPair g move dense s after l p c.0) (sym same) (subst (λ (d : PageNo). IsGoodPair g move dense s after l page d.0) is good))
    | inr differ ↦ good_more move dense s moves after level q c.0 keeps (all level q c has (sym (others q differ) ∙ sent) there used)
  ]

  -- a tree without a high unit is its own copy
  pub good_self : (move : Move S) (dense : ℕ) (s : S) (moves : Copies) (l least : ℕ) (part : Part) → IsTreeOf g move dense s l least part → AreLow (g.geometry s) dense (units_on (g.unit s) l part.page.0) → IsSent (g.geometry s) dense (g.unit s) moves l part.page.0
      → IsGoodPair g move dense s moves l part.page.0 part.page.0
  good_self move dense s moves l least part t low sent = record {
    sound = record { named = t.named; sized = λ n h. h; bytes = λ n h. refl; shape = λ n h. refl; used = t.used; low = low; still = λ none. refl; stay = low_inside (g.geometry s) dense (g.unit s) l part.page.0 };
    own = each_as (Has move.units) (IsOwn g move.start s move.first move.units) (units_on (g.unit s) l part.page.0) (λ p has. inr (inl has)) t.units;
    sent = sent;
  }
