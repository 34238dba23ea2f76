-- What a port over the parts of a volume leaves of the volume.
use Rattle.std.proofs.Common.{◌≡◌, ◌∙◌, ℕ, List, length, map, refl, sym, ap, subst, arith}
use Rattle.std.specs.Borrow.{MutBor}
use Rattle.ex_base.specs.declared.geometry.Geometry.{Geometry}
use Rattle.ex_base.specs.declared.ground.Ground as ground
use Rattle.ex_base.specs.Area.{area_end}
use Rattle.ex_base.specs.Sizes.{most_page}
use Rattle.disk_model.specs.Changes.{ChangesWithin}
use Rattle.disk_model.specs.Outside.{Outside}
use Rattle.buffer_groups.specs.Frames.{Frames}
use Rattle.meta_pages.specs.Overlays.{Overlays}
use Rattle.page_alloc.specs.UnitSet.{UnitSet, used_at}
use Rattle.trees.specs.declared.Pair.{Pair}
use Rattle.trees.specs.Names.{names_on, page_of_pair}
use Rattle.trees.specs.Node.{PairsOf}
use Rattle.trees.proofs.NameLaws.{names_of_node}
use Rattle.tree_store.specs.Stored.{Fits, Frees, InRest, NoUnit, Tells}
use Rattle.volume_port.specs.Logged.{LoggedSet}
use Rattle.volume_port.specs.Ported.{IsReady, IsUsed, Moves}
use Rattle.volume_port.specs.State.{AreReady, Moved}
use Rattle.volume_port.specs.declared.state.VolumeState.{VolumeState}
use Rattle.packing.specs.Working.{with_parts}
use Rattle.packing.proofs.AtRest.{IsPortWith}

-- what a node names, as ports count it, are the pages of its pairs
pub pairs_named : (g : Geometry) (page : List ℕ) (level : ℕ) (pairs : List Pair) → PairsOf g.fan page level pairs → names_on page ≡ map page_of_pair pairs
pairs_named g page level pairs is = names_of_node g.fan page level pairs (omega (arith, most_page g, g.narrow)) is

module _ {S : Type 0} (g : ground.Ghosts S) where
  pub ready_of : (store : S) (size : ℕ) (v : VolumeState) → g.geometry store ≡ v.geometry → g.used store ≡ used_at v.units → g.ready store → AreReady size v → IsReady g store v.meta v.pages
  ready_of store size v same used is are = record {
    ready = is;
    overlay = are.overlay ∙ sym same;
    held_len = are.held_len ∙ ap area_end (sym same);
    catalog = are.catalog;
    in_use = λ page. subst (λ (us : ℕ → _). IsUsed us v.pages page) (sym used) (are.in_use page);
    images = are.images;
    gone = are.gone;
  }

  are_ready : (store : S) (size : ℕ) (v : VolumeState) → g.geometry store ≡ v.geometry → g.used store ≡ used_at v.units → Fits v.geometry size v.groups 0 v.units → length v.kept ≡ area_end v.geometry → IsReady g store v.meta v.pages
      → AreReady size v
  are_ready store size v same used fits kept is = record {
    fits = fits;
    overlay = is.overlay ∙ same;
    held_len = is.held_len ∙ ap area_end same;
    kept_len = kept;
    catalog = is.catalog;
    in_use = λ page. subst (λ (us : ℕ → _). IsUsed us v.pages page) used (is.in_use page);
    images = is.images;
    gone = is.gone;
  }

  -- a port over a volume's parts moves the volume
  pub volume_moved : {D : Type 0} (outside : D → Outside) (v : VolumeState) (a b : S) (d e : MutBor D) (u w : MutBor UnitSet) (f h : MutBor (List Frames)) (i j : ℕ) (x y : Geometry)
      (m n : MutBor Overlays) (k l : MutBor LoggedSet) (r t : MutBor (List ℕ)) → i ≡ 0 → g.used a ≡ used_at u.now → g.used b ≡ used_at w.now → g.geometry a ≡ x → g.geometry b ≡ y → x ≡ v.geometry → g.ready a
      → AreReady (outside d.now).size (with_parts v u.now f.now m.now k.now) → Moves g NoUnit a b m n k l r t → Frees outside NoUnit d e u w f h i j x y
      → Moved NoUnit (outside d.now) (outside e.now) (with_parts v u.now f.now m.now k.now) (with_parts v w.now h.now n.now l.now)
  volume_moved outside v a b d e u w f h i j x y m n k l r t main was is at now whole ready are moves frees = record {
    changes = subst (λ (z : Geometry). ChangesWithin (InRest z (used_at u.now) NoUnit) (outside d.now) (outside e.now)) whole frees.changes;
    told = frees.told;
    used = frees.used;
    given_back = moves.given_back;
    untouched = moves.untouched;
    committed = moves.committed;
    kinds = frees.kinds;
    ready =
        are_ready b (outside e.now).size (with_parts v w.now h.now n.now l.now) (now ∙ frees.geometry ∙ whole) is
        (subst (λ (z : Geometry). Fits z (outside e.now).size h.now 0 w.now) (frees.geometry ∙ whole)
        (subst (λ (q : ℕ). Fits y (outside e.now).size h.now q w.now) (frees.index ∙ main)
        (frees.fits (subst (λ (z : Geometry). Fits z (outside d.now).size f.now i u.now) (sym whole) (subst (λ (q : ℕ). Fits v.geometry (outside d.now).size f.now q u.now) (sym main) are.fits)))))
        are.kept_len
        (moves.ready (ready_of a (outside d.now).size (with_parts v u.now f.now m.now k.now) (at ∙ whole) was ready are));
    rest = refl;
  }

-- ---- a port that was made over a volume

-- the volume with these parts and this geometry
abbrev pub with_all : VolumeState → Geometry → UnitSet → List Frames → Overlays → LoggedSet → VolumeState
with_all v x units groups meta pages = record v { geometry = x; units = units; groups = groups; meta = meta; pages = pages }

parts_are : (v : VolumeState) (u : UnitSet) (f : List Frames) (m : Overlays) (k : LoggedSet) → u ≡ v.units → f ≡ v.groups → m ≡ v.meta → k ≡ v.pages → with_parts v u f m k ≡ v
parts_are v u f m k units groups meta pages = λ i. with_parts v (units i) (groups i) (meta i) (pages i)

pub all_are : (v : VolumeState) (x : Geometry) (u : UnitSet) (f : List Frames) (m : Overlays) (k : LoggedSet) → x ≡ v.geometry → u ≡ v.units → f ≡ v.groups → m ≡ v.meta → k ≡ v.pages → with_all v x u f m k ≡ v
all_are v x u f m k geometry units groups meta pages = λ i. with_all v (geometry i) (units i) (groups i) (meta i) (pages i)

pub parts_same : (v : VolumeState) (u w : UnitSet) (f h : List Frames) (m n : Overlays) (k l : LoggedSet) → u ≡ w → f ≡ h → m ≡ n → k ≡ l → with_parts v u f m k ≡ with_parts v w h n l
parts_same v u w f h m n k l units groups meta pages = λ i. with_parts v (units i) (groups i) (meta i) (pages i)

-- what the disk tells and the frames lend is told through the port
pub told_made : {D : Type 0} (outside : D → Outside) (here real : D) (f h : List Frames) → here ≡ real → f ≡ h → Tells (outside real) h → Tells (outside here) f
told_made outside here real f h is same told = subst (λ d. Tells (outside d) f) (sym is) (subst (λ (fs : List Frames). Tells (outside real) fs) (sym same) told)

-- the parts as a port left them are the volume's afterwards
pub all_later : (v new : VolumeState) (y : Geometry) (u : UnitSet) (f : List Frames) (m : Overlays) (k : LoggedSet) → y ≡ v.geometry → with_parts v u f m k ≡ new → with_all v y u f m k ≡ new
all_later v new y u f m k geometry is = ap (λ (z : Geometry). with_all v z u f m k) geometry ∙ is

-- so the port is over the volume
pub port_over : {S D : Type 0} (g : ground.Ghosts S) (s : S) (outside : D → Outside) (here real : D) (v new : VolumeState) (x : Geometry) (u : UnitSet) (f : List Frames) (m : Overlays) (k : LoggedSet) → here ≡ real → with_all v x u f m k ≡ new → IsPortWith g s (outside here) (with_all v x u f m k)
    → IsPortWith g s (outside real) new
port_over g s outside here real v new x u f m k is parts over = subst (λ (w : VolumeState). IsPortWith g s (outside real) w) parts (subst (λ d. IsPortWith g s (outside d) (with_all v x u f m k)) is over)

module _ {D : Type 0} (outside : D → Outside) (v : VolumeState) (real : D) (are : AreReady (outside real).size v) (here : D) (i : ℕ) (x : Geometry) (u : UnitSet) (f : List Frames) (m : Overlays) (k : LoggedSet) (is : here ≡ real) (main : i ≡ 0) (whole : x ≡ v.geometry)
    (units : u ≡ v.units) (groups : f ≡ v.groups) (meta : m ≡ v.meta) (pages : k ≡ v.pages) where
  pub ready_made : AreReady (outside here).size (with_parts v u f m k)
  ready_made = subst (λ d. AreReady (outside d).size (with_parts v u f m k)) (sym is) (subst (λ (w : VolumeState). AreReady (outside real).size w) (sym (parts_are v u f m k units groups meta pages)) are)

  pub fits_made : Fits x (outside here).size f i u
  fits_made = subst (λ (j : ℕ). Fits x (outside here).size f j u) (sym main) (subst (λ (z : Geometry). Fits z (outside here).size f 0 u) (sym whole) ready_made.fits)

  -- and what it leaves of the volume
  pub port_moved : (new : VolumeState) (after there : D) (w : UnitSet) (h : List Frames) (n : Overlays) (l : LoggedSet) → there ≡ after → with_parts v w h n l ≡ new → Moved NoUnit (outside here) (outside there) (with_parts v u f m k) (with_parts v w h n l)
      → Moved NoUnit (outside real) (outside after) v new
  port_moved new after there w h n l ends later moved =
      subst (λ (z : VolumeState). Moved NoUnit (outside real) (outside after) v z) later
      (subst (λ (z : VolumeState). Moved NoUnit (outside real) (outside after) z (with_parts v w h n l)) (parts_are v u f m k units groups meta pages)
      (subst (λ d. Moved NoUnit (outside d) (outside after) (with_parts v u f m k) (with_parts v w h n l)) is
      (subst (λ d. Moved NoUnit (outside here) (outside d) (with_parts v u f m k) (with_parts v w h n l)) ends moved)))

pub same_as : (n k m : ℕ) → n ≡ k → k ≡ m → n ≡ m
same_as n k m one two = one ∙ two
