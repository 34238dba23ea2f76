-- The content of a version that the port has, as one of a volume.
use Rattle.std.proofs.Common.{◌≡◌, ℕ, List, ◌∷◌, ◌++◌, Some, refl, sym, subst, ◌∙◌, inl}
use Rattle.std.specs.List.{flat_map, AllByRecursion}
use Rattle.std.proofs.lemmas.List.{append-nil}
use Rattle.ex_base.specs.declared.ground.Ground as ground
use Rattle.ex_base.specs.declared.names.Oid.{Oid}
use Rattle.ex_base.specs.declared.names.Root.{Root}
use Rattle.ex_base.specs.Area.{IsUnit}
use Rattle.ex_base.proofs.Each.{each_with}
use Rattle.ex_base.proofs.Members.{In, in_right}
use Rattle.ex_base.specs.declared.names.Index.{Index}
use Rattle.file_bodies.specs.Bodies.{Row, bodies_of, pages_in}
use Rattle.object_records.specs.Record.{Content, Small, Large, Record, BodyOf}
use Rattle.trees.specs.Trees.{root_units, RootNamed}
use Rattle.versions.specs.Versions.{HasRecord, Spells, IsTreeUnit, place_of, content_units}
use Rattle.volume_model.specs.Volume.{root_in, content_in}
use Rattle.volume_edits.specs.Ported.{IsApart, units_in}
use Rattle.volume_model.proofs.Kept.{RootKept, root_placed, units_of_root, spelled_root}
use Rattle.volume_edits.proofs.Frames.{own_bytes}
use Rattle.volume_edits.proofs.Finding.{StandsAt, row_stands}
use Rattle.volume_edits.proofs.VolumeTrees.{IsFine, IsTree}

module _ {S : Type 0} (g : ground.Ghosts S) (s : S) (apart : IsApart g s) where
  -- ---- a content that is spelled over units in use

  large_kept : (root : Root) → RootNamed (g.geometry s) (g.unit s) root.height root.page → AllByRecursion (IsTreeUnit g s) (root_units (g.unit s) root) → RootKept (g.unit s) (units_in g s) root
  large_kept root named units = each_with (IsUnit (g.geometry s)) (IsTreeUnit g s) (λ u. units_in g s u ≡ g.unit s u) (root_units (g.unit s) root) (λ u is tree. own_bytes g s u apart is tree.1) (root_placed (g.geometry s) (g.unit s) root.height root.page named) units

  -- the units of its tree are the same in the volume
  pub own_units : (content : Content) (bytes : List ℕ) → Spells (g.geometry s) (g.unit s) content bytes → AllByRecursion (IsTreeUnit g s) (content_units (g.unit s) content)
      → flat_map (root_units (units_in g s)) (root_in content) ≡ content_units (g.unit s) content
  own_units (Small held) bytes spells units = refl
  own_units (Large root) bytes spells units = append-nil (root_units (units_in g s) root) ∙ units_of_root (g.unit s) (units_in g s) root.height root.page (large_kept root spells.0.named units)

  pub own_trees : (content : Content) (bytes : List ℕ) → Spells (g.geometry s) (g.unit s) content bytes → AllByRecursion (IsTreeUnit g s) (content_units (g.unit s) content) → AllByRecursion (IsTree (g.geometry s) (units_in g s)) (root_in content)
  own_trees (Small held) bytes spells units = tt
  own_trees (Large root) bytes spells units =
      let moved = spelled_root (g.geometry s) (g.unit s) (units_in g s) root bytes (large_kept root spells.0.named units) spells.0 in
      ((moved.named, record { sized = moved.sized; balanced = moved.balanced; limit = spells.1 }), tt)

  pub own_fine : (content : Content) (bytes : List ℕ) → Spells (g.geometry s) (g.unit s) content bytes → AllByRecursion (IsTreeUnit g s) (content_units (g.unit s) content)
      → AllByRecursion (λ (root : Root). AllByRecursion (IsFine g s) (root_units (units_in g s) root)) (root_in content)
  own_fine (Small held) bytes spells units = tt
  own_fine (Large root) bytes spells units = (subst (AllByRecursion (IsFine g s)) (sym (units_of_root (g.unit s) (units_in g s) root.height root.page (large_kept root spells.0.named units))) units, tt)

  pub own_content : (content : Content) (bytes : List ℕ) → Spells (g.geometry s) (g.unit s) content bytes → AllByRecursion (IsTreeUnit g s) (content_units (g.unit s) content) → content_in (units_in g s) content ≡ bytes
  own_content (Small held) bytes spells units = sym spells
  own_content (Large root) bytes spells units =
      let moved = spelled_root (g.geometry s) (g.unit s) (units_in g s) root bytes (large_kept root spells.0.named units) spells.0 in
      sym moved.spelled

  -- ---- the body that stands where a row names it

  pub body_there : (index : Index) (oid : Oid) (r : Record) (front back : List Row) (body : List ℕ) → HasRecord g s index oid r → bodies_of (g.image s) index ≡ front ++ ((place_of oid, body) ∷ back) → BodyOf body r
  body_there index oid r front back body has rows =
      let row : Row = (place_of oid, body) in
      let inside : In (place_of oid, body) (bodies_of (g.image s) index) = subst (λ (t : List Row). In (place_of oid, body) t) (sym rows) (in_right (place_of oid, body) front ((place_of oid, body) ∷ back) (inl refl)) in
      let stands : StandsAt (g.image s) (pages_in (g.image s) index) (place_of oid) body = row_stands (g.image s) (pages_in (g.image s) index) (place_of oid, body) inside in
      let both : Some has.body ≡ Some body = sym has.stands.stands ∙ stands.1 in
      let same : has.body ≡ body = cc in
      subst (λ (b : List ℕ). BodyOf b r) same has.spelled
