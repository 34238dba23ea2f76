-- What a port leaves of the volume that it is over.
use Rattle.std.proofs.Common.{◌≡◌, ◌∙◌, ℕ, List, length, refl, sym, ap, subst}
use Rattle.std.specs.Borrow.{MutBor}
use Rattle.ex_base.specs.declared.geometry.Geometry.{Geometry}
use Rattle.ex_base.specs.declared.ground.Ground as ground
use Rattle.ex_base.specs.Area.{area_end}
use Rattle.disk_model.specs.Changes.{ChangesWithin}
use Rattle.disk_model.specs.Outside.{Outside}
use Rattle.buffer_groups.specs.Frames.{Frames}
use Rattle.meta_pages.specs.Overlays.{Overlays}
use Rattle.page_alloc.specs.UnitSet.{UnitSet, used_at}
use Rattle.tree_store.specs.Stored.{Fits, Frees, InRest, NoUnit, Tells}
use Rattle.session_core.proofs.PortParts.{IsPortWith, PortBegins}
use Rattle.volume_port.specs.Logged.{LoggedSet}
use Rattle.volume_port.specs.Ported.{IsReady, IsUsed, Moves}
use Rattle.session_core.specs.Updates.{HasParts, with_parts}
use Rattle.volume_port.specs.State.{AreReady, Moved}
use Rattle.volume_port.specs.declared.state.VolumeState.{VolumeState}

module _ {S : Type 0} (g : ground.Ghosts S) where
  pub ready_of : (store : S) (size : ℕ) (v : VolumeState) → g.geometry store ≡ v.geometry → g.used store ≡ used_at v.units → g.ready store → AreReady size v → IsReady g store v.meta v.pages
  ready_of store size v same used is are = record {
    ready = is;
    overlay = are.overlay ∙ sym same;
    held_len = are.held_len ∙ ap area_end (sym same);
    catalog = are.catalog;
    in_use = λ page. subst (λ (us : ℕ → _). IsUsed us v.pages page) (sym used) (are.in_use page);
    images = are.images;
    gone = are.gone;
  }

  are_ready : (store : S) (size : ℕ) (v : VolumeState) → g.geometry store ≡ v.geometry → g.used store ≡ used_at v.units → Fits v.geometry size v.groups 0 v.units → length v.kept ≡ area_end v.geometry → IsReady g store v.meta v.pages
      → AreReady size v
  are_ready store size v same used fits kept is = record {
    fits = fits;
    overlay = is.overlay ∙ same;
    held_len = is.held_len ∙ ap area_end same;
    kept_len = kept;
    catalog = is.catalog;
    in_use = λ page. subst (λ (us : ℕ → _). IsUsed us v.pages page) used (is.in_use page);
    images = is.images;
    gone = is.gone;
  }

  -- a port moves the volume that it is over
  pub volume_moved : {D : Type 0} (outside : D → Outside) (w : VolumeState) (a b : S) (d e : MutBor D) (u v : MutBor UnitSet) (f h : MutBor (List Frames)) (i j : ℕ) (x y : Geometry)
      (m n : MutBor Overlays) (k l : MutBor LoggedSet) (r t : MutBor (List ℕ)) → i ≡ 0 → g.used a ≡ used_at u.now → g.used b ≡ used_at v.now → g.geometry a ≡ x → g.geometry b ≡ y → x ≡ w.geometry → g.ready a
      → AreReady (outside d.now).size (with_parts w u.now f.now m.now k.now) → Moves g NoUnit a b m n k l r t → Frees outside NoUnit d e u v f h i j x y
      → Moved NoUnit (outside d.now) (outside e.now) (with_parts w u.now f.now m.now k.now) (with_parts w v.now h.now n.now l.now)
  volume_moved outside w a b d e u v f h i j x y m n k l r t main was is at now whole ready are moves frees = record {
    changes = subst (λ (z : Geometry). ChangesWithin (InRest z (used_at u.now) NoUnit) (outside d.now) (outside e.now)) whole frees.changes;
    told = frees.told;
    used = frees.used;
    given_back = moves.given_back;
    untouched = moves.untouched;
    committed = moves.committed;
    kinds = frees.kinds;
    ready =
        are_ready b (outside e.now).size (with_parts w v.now h.now n.now l.now) (now ∙ frees.geometry ∙ whole) is
        (subst (λ (z : Geometry). Fits z (outside e.now).size h.now 0 v.now) (frees.geometry ∙ whole)
        (subst (λ (q : ℕ). Fits y (outside e.now).size h.now q v.now) (frees.index ∙ main)
        (frees.fits (subst (λ (z : Geometry). Fits z (outside d.now).size f.now i u.now) (sym whole) (subst (λ (q : ℕ). Fits w.geometry (outside d.now).size f.now q u.now) (sym main) are.fits)))))
        are.kept_len
        (moves.ready (ready_of a (outside d.now).size (with_parts w u.now f.now m.now k.now) (at ∙ whole) was ready are));
    rest = refl;
  }

-- ---- a port that was made over a volume

-- The disk, the sizes, the group and the parts are those of the volume.
pub record IsMade {D : Type 0} (v : VolumeState) (x y : D) (h : Geometry) (i : ℕ) (u : UnitSet) (f : List Frames) (m : Overlays) (k : LoggedSet) : Type 0 where
  pub disk : y ≡ x
  pub geometry : h ≡ v.geometry
  pub main : i ≡ 0
  pub parts : with_parts v u f m k ≡ v

pub parts_same : (v : VolumeState) (u w : UnitSet) (f h : List Frames) (m n : Overlays) (k l : LoggedSet) → u ≡ w → f ≡ h → m ≡ n → k ≡ l → with_parts v u f m k ≡ with_parts v w h n l
parts_same v u w f h m n k l one two three four = cc (one, two, three, four)

-- as it was made of these parts
pub made_of : {D : Type 0} (v : VolumeState) {x y : D} {g h : Geometry} {i : ℕ} {u w : UnitSet} {f n : List Frames} {m o : Overlays} {k l : LoggedSet} → HasParts v g u f m k → x ≡ y → g ≡ h → i ≡ 0 → u ≡ w → f ≡ n → m ≡ o → k ≡ l
    → IsMade v x y h i w n o l
made_of v {u = u} {w} {f} {n} {m} {o} {k} {l} has disk geometry main units groups meta pages =
    record { disk = sym disk; geometry = sym geometry ∙ has.geometry; main = main; parts = sym (parts_same v u w f n m o k l units groups meta pages) ∙ has.parts }

module _ {D : Type 0} (outside : D → Outside) (v : VolumeState) (x y : D) (h : Geometry) (i : ℕ) (u : UnitSet) (f : List Frames) (m : Overlays) (k : LoggedSet) (made : IsMade v x y h i u f m k) (are : AreReady (outside x).size v) where
  pub ready_there : AreReady (outside y).size (with_parts v u f m k)
  ready_there = subst (λ d. AreReady (outside d).size (with_parts v u f m k)) (sym made.disk) (subst (λ (w : VolumeState). AreReady (outside x).size w) (sym made.parts) are)

  pub fits_there : Fits h (outside y).size f i u
  fits_there =
      subst (λ (j : ℕ). Fits h (outside y).size f j u) (sym made.main) (subst (λ (z : Geometry). Fits z (outside y).size f 0 u) (sym made.geometry) ready_there.fits)

  pub begins_over : {S : Type 0} (g : ground.Ghosts S) (s : S) → (Fits h (outside y).size f i u → AreReady (outside y).size (with_parts v u f m k) → g.ready s) → IsPortWith g s h (outside y).disk (with_parts v u f m k) → (Tells (outside y) f → g.tells s)
      → PortBegins g s (outside x) v
  begins_over g s ready over told = record {
    ready = ready fits_there ready_there;
    over = subst (λ d. IsPortWith g s v.geometry (outside d).disk v) made.disk (subst (λ (z : Geometry). IsPortWith g s z (outside y).disk v) made.geometry (subst (λ (w : VolumeState). IsPortWith g s h (outside y).disk w) made.parts over));
    told = λ tells. told (subst (λ d. Tells (outside d) f) (sym made.disk) (subst (λ (w : VolumeState). Tells (outside x) w.groups) (sym made.parts) tells));
  }

-- as the volume is before and after the borrow
pub moved_at : {D : Type 0} (outside : D → Outside) (before a b after : D) (old x y new : VolumeState) → a ≡ before → b ≡ after → x ≡ old → y ≡ new → Moved NoUnit (outside a) (outside b) x y → Moved NoUnit (outside before) (outside after) old new
moved_at outside before a b after old x y new one two three four moved =
    subst (λ d. Moved NoUnit (outside d) (outside after) old new) one
    (subst (λ d. Moved NoUnit (outside a) (outside d) old new) two
    (subst (λ (v : VolumeState). Moved NoUnit (outside a) (outside b) v new) three
    (subst (λ (v : VolumeState). Moved NoUnit (outside a) (outside b) x v) four moved)))

pub later_at : {S D : Type 0} (g : ground.Ghosts S) (s : S) (outside : D → Outside) (b after : D) (h k : Geometry) (y new : VolumeState) → b ≡ after → h ≡ k → y ≡ new → IsPortWith g s h (outside b).disk y → IsPortWith g s k (outside after).disk new
later_at g s outside b after h k y new one two three over =
    subst (λ d. IsPortWith g s k (outside d).disk new) one (subst (λ (z : Geometry). IsPortWith g s z (outside b).disk new) two (subst (λ (v : VolumeState). IsPortWith g s h (outside b).disk v) three over))
