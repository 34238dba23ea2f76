-- What an edit of one file leaves of a volume's pages and units.
use Rattle.std.proofs.Common.{◌≡◌, ℕ, ◌+◌, ◌<◌, ◌≤◌, true, false, List, ◌∷◌, refl, sym, subst, ◌∙◌, arith, inl, inr, ltb}
use Rattle.std.proofs.lemmas.Bool.{cases_Bool, le-ltb}
use Rattle.std.specs.Prelude.{Contains}
use Rattle.std.specs.List.{flat_map, AllByRecursion}
use Rattle.ex_base.specs.declared.ground.Ground as ground
use Rattle.ex_base.specs.declared.geometry.Geometry.{Geometry}
use Rattle.ex_base.specs.declared.names.Root.{Root}
use Rattle.ex_base.specs.Area.{catalog_no, area_end, IsUnit}
use Rattle.ex_base.specs.Ports.{times}
use Rattle.ex_base.proofs.Members.{contains_in, each_in, in_right}
use Rattle.ex_base.proofs.Each.{each_parted, each_with}
use Rattle.op_log.specs.declared.record.LogRecord.{LogRecord}
use Rattle.file_index.specs.Changes.{count_of}
use Rattle.trees.specs.Trees.{root_units, RootNamed}
use Rattle.volume_model.specs.Links.{Apart}
use Rattle.volume_model.specs.Volume.{Volume, file_pages, roots_in, stored_in, reach_of}
use Rattle.volume_edits.specs.Ported.{ShowsVolume, IsVolume, IsApart, units_in}
use Rattle.volume_model.proofs.Kept.{root_placed}
use Rattle.volume_edits.proofs.Counted.{in_area}

-- the unit keeps its bytes, stays in use, and is no logged page
pub record IsStill {S : Type 0} (g : ground.Ghosts S) (old new : S) (u : ℕ) : Type 0 where
  pub unit : g.unit new u ≡ g.unit old u
  pub used : g.used new u ≡ true
  pub held : g.held new u ≡ false

-- The logged pages change as the pages of one file do, and of the catalog and those pages alone the images; each unit in use that is no logged page stays.
pub record Frame {S : Type 0} (g : ground.Ghosts S) (old new : S) (before after : List ℕ) : Type 0 where
  pub geometry : g.geometry new ≡ g.geometry old
  pub counted : (p : ℕ) → count_of (g.held new p) + times p (catalog_no ∷ before) ≡ count_of (g.held old p) + times p (catalog_no ∷ after)
  pub images : (p : ℕ) → g.held old p ≡ true → times p (catalog_no ∷ before) ≡ 0 → g.image new p ≡ g.image old p
  pub units : (u : ℕ) → g.used old u ≡ true → g.held old u ≡ false → IsStill g old new u
  pub in_use : (p : ℕ) → g.held new p ≡ true → g.used new p ≡ true
  pub apart : IsApart g new

-- a unit of the volume that is no logged page
abbrev pub IsPlacedUnit : {S : Type 0} → ground.Ghosts S → S → ℕ → Type 0
IsPlacedUnit g s u = IsUnit (g.geometry s) u × (g.held s u ≡ false)

-- a unit of the volume that is in use and no logged page
abbrev pub IsTreeOf : {S : Type 0} → ground.Ghosts S → S → ℕ → Type 0
IsTreeOf g s u = IsUnit (g.geometry s) u × (g.used s u ≡ true) × (g.held s u ≡ false)

module _ {S : Type 0} (g : ground.Ghosts S) where
  -- behind the page area the unit's own bytes
  pub past_area : (s : S) (unit : ℕ) → area_end (g.geometry s) ≤ unit → units_in g s unit ≡ g.unit s unit
  past_area s unit le = let t : ltb unit (area_end (g.geometry s)) ≡ false = le-ltb unit (area_end (g.geometry s)) le in rw t refl

  -- the bytes of a unit that is no logged page
  pub own_bytes : (s : S) (unit : ℕ) → IsApart g s → IsUnit (g.geometry s) unit → g.held s unit ≡ false → units_in g s unit ≡ g.unit s unit
  own_bytes s unit apart (inl area) held = in_area g s unit area.1 ∙ apart unit area held
  own_bytes s unit apart (inr leaf) held = past_area s unit (let e = leaf.2 in omega arith)

  -- the units of every tree that a volume shows
  pub placed_units : (s : S) (records : List LogRecord) (v : Volume) → ShowsVolume g s records v → AllByRecursion (λ (root : Root). AllByRecursion (IsPlacedUnit g s) (root_units (units_in g s) root)) (roots_in (stored_in v))
  placed_units s records v is =
      let nodes = is.parts.1.1.1.1.0 in
      each_with (λ (root : Root). RootNamed (g.geometry s) (units_in g s) root.height root.page) (λ (root : Root). Apart (root_units (units_in g s) root) (catalog_no ∷ file_pages v))
      (λ (root : Root). AllByRecursion (IsPlacedUnit g s) (root_units (units_in g s) root)) (roots_in (stored_in v))
      (λ root named apart. each_with (IsUnit (g.geometry s)) (λ u. ¬ Contains (catalog_no ∷ file_pages v) u) (IsPlacedUnit g s) (root_units (units_in g s) root) (λ u unit lacks. (unit, not_held u lacks)) (root_placed (g.geometry s) (units_in g s) root.height root.page named) apart) nodes.named nodes.no_file_page
    where
      not_held : (u : ℕ) → (Contains (catalog_no ∷ file_pages v) u → ⊥) → g.held s u ≡ false
      not_held u lacks = elim (cases_Bool (g.held s u)) [ inl t ↦ absurd (lacks ((is.held u).0 t)) | inr f ↦ f ]

  -- the units of every tree of a volume
  pub tree_units : (s : S) (records : List LogRecord) (v : Volume) → IsVolume g s records v → AllByRecursion (λ (root : Root). AllByRecursion (IsTreeOf g s) (root_units (units_in g s) root)) (roots_in (stored_in v))
  tree_units s records v is =
      each_with (λ (root : Root). AllByRecursion (IsPlacedUnit g s) (root_units (units_in g s) root)) (λ (root : Root). AllByRecursion (λ u. g.used s u ≡ true) (root_units (units_in g s) root))
      (λ (root : Root). AllByRecursion (IsTreeOf g s) (root_units (units_in g s) root)) (roots_in (stored_in v))
      (λ root placed used. each_with (IsPlacedUnit g s) (λ u. g.used s u ≡ true) (IsTreeOf g s) (root_units (units_in g s) root) (λ u p t. (p.0, t, p.1)) placed used)
      (placed_units s records v is.shows)
      (each_parted (λ u. g.used s u ≡ true) (root_units (units_in g s)) (roots_in (stored_in v))
      (each_in (λ u. g.used s u ≡ true) (flat_map (root_units (units_in g s)) (roots_in (stored_in v)))
      (λ u inside. is.used u (contains_in u (reach_of (units_in g s) v) (in_right u (catalog_no ∷ file_pages v) (flat_map (root_units (units_in g s)) (roots_in (stored_in v))) inside)))))

  module _ (old new : S) (before after : List ℕ) (frame : Frame g old new before after) where
    -- a tree's unit keeps what is read of it
    pub still_bytes : (u : ℕ) → IsApart g old → IsTreeOf g old u → units_in g new u ≡ units_in g old u
    still_bytes u apart tree =
        let still = frame.units u tree.1 tree.2 in
        own_bytes new u frame.apart (subst (λ (gm : Geometry). IsUnit gm u) (sym frame.geometry) tree.0) still.held ∙ still.unit ∙ sym (own_bytes old u apart tree.0 tree.2)

    -- and so does a page of another file
    pub page_bytes : (p : ℕ) → p < area_end (g.geometry old) → g.held old p ≡ true → times p (catalog_no ∷ before) ≡ 0 → units_in g new p ≡ units_in g old p
    page_bytes p lt held none =
        in_area g new p (subst (λ (gm : Geometry). p < area_end gm) (sym frame.geometry) lt) ∙ frame.images p held none ∙ sym (in_area g old p lt)
