-- The trees of a volume.
use Rattle.std.proofs.Common.{◌≡◌, ◌≢◌, ℕ, true, false, true≢false, sym, ap, ◌∙◌, refl, List}
use Rattle.std.specs.List.{AllByRecursion}
use Rattle.ex_base.specs.declared.ground.Ground as ground
use Rattle.ex_base.specs.declared.geometry.Geometry.{Geometry}
use Rattle.ex_base.specs.declared.names.Root.{Root}
use Rattle.ex_base.specs.Area.{IsUnit, catalog_no}
use Rattle.ex_base.proofs.Each.{each_as, each_with}
use Rattle.trees.specs.Damage.{IsWhole}
use Rattle.trees.specs.Trees.{Units, root_bytes, root_units, RootNamed}
use Rattle.op_log.specs.declared.record.LogRecord.{LogRecord}
use Rattle.volume_model.specs.Parts.{HasBalance}
use Rattle.volume_model.specs.Volume.{Volume, roots_in, stored_in}
use Rattle.volume_edits.specs.Ported.{IsApart, IsVolume, units_in}
use Rattle.volume_model.proofs.Kept.{RootKept, root_placed, spelled_root, units_of_root}
use Rattle.volume_edits.proofs.Frames.{IsTreeOf, own_bytes, tree_units}

abbrev pub IsTree : Geometry → Units → Root → Type 0
IsTree g units root = RootNamed g units root.height root.page × HasBalance g units root

-- in use, and no logged page
abbrev pub IsFine : {S : Type 0} → ground.Ghosts S → S → ℕ → Type 0
IsFine g s u = (g.used s u ≡ true) × (g.held s u ≡ false)

-- a tree of a volume that a port has
pub record IsVolumeTree {S : Type 0} (g : ground.Ghosts S) (s : S) (root : Root) : Type 0 where
  pub tree : AllByRecursion (IsTreeOf g s) (root_units (units_in g s) root)
  pub named : RootNamed (g.geometry s) (units_in g s) root.height root.page
  pub balance : HasBalance (g.geometry s) (units_in g s) root

module _ {S : Type 0} (g : ground.Ghosts S) (s : S) where
  pub volume_trees : (records : List LogRecord) (v : Volume) → IsVolume g s records v → AllByRecursion (IsVolumeTree g s) (roots_in (stored_in v))
  volume_trees records v vol =
      each_with (λ (root : Root). AllByRecursion (IsTreeOf g s) (root_units (units_in g s) root)) (IsTree (g.geometry s) (units_in g s)) (IsVolumeTree g s) (roots_in (stored_in v)) (λ root t k. record { tree = t; named = k.0; balance = k.1 }) (tree_units g s records v vol)
      (each_with (λ (root : Root). RootNamed (g.geometry s) (units_in g s) root.height root.page) (HasBalance (g.geometry s) (units_in g s)) (IsTree (g.geometry s) (units_in g s)) (roots_in (stored_in v)) (λ root n b. (n, b)) vol.shows.parts.1.1.1.1.0.named vol.shows.parts.1.1.1.1.1.0)

  module _ (apart : IsApart g s) (root : Root) (tree : IsTree (g.geometry s) (units_in g s) root) (fine : AllByRecursion (IsFine g s) (root_units (units_in g s) root)) where
    -- the port's own units are the tree's
    pub own_kept : RootKept (units_in g s) (g.unit s) root
    own_kept = each_with (IsUnit (g.geometry s)) (IsFine g s) (λ u. g.unit s u ≡ units_in g s u) (root_units (units_in g s) root) (λ u is f. sym (own_bytes g s u apart is f.1)) (root_placed (g.geometry s) (units_in g s) root.height root.page tree.0) fine

    pub own_units : root_units (g.unit s) root ≡ root_units (units_in g s) root
    own_units = units_of_root (units_in g s) (g.unit s) root.height root.page own_kept

    -- a tree is whole
    pub whole_tree : g.held s catalog_no ≡ true → IsWhole (g.geometry s) (g.unit s) root
    whole_tree catalog = record {
      bytes = root_bytes (units_in g s) root;
      spells = spelled_root (g.geometry s) (units_in g s) (g.unit s) root (root_bytes (units_in g s) root) own_kept (record { named = tree.0; sized = tree.1.sized; balanced = tree.1.balanced; spelled = refl });
      avoids = rw own_units (each_as (IsFine g s) (λ p. p ≢ catalog_no) (root_units (units_in g s) root) (λ p f same. true≢false (sym (ap (g.held s) same ∙ catalog) ∙ f.1)) fine);
    }
