-- What is read of a root's tree depends on its own units alone.
use Rattle.std.proofs.Common.{◌≡◌, ℕ, List, Option, Some, None, refl, sym, ap, subst, ◌∙◌}
use Rattle.ex_base.specs.declared.geometry.Geometry.{Geometry}
use Rattle.ex_base.specs.declared.names.PageNo.{PageNo}
use Rattle.ex_base.specs.declared.names.Root.{Root}
use Rattle.ex_base.specs.Sizes.{leaf_bytes}
use Rattle.trees.specs.Shape.{IsBalanced}
use Rattle.trees.specs.Trees.{Units, RootNamed, RootSized, RootSpells, root_bytes_at, root_shape_at, root_units, root_units_at}
use Rattle.trees.proofs.SameUnits.{Kept, bytes_same, named_same, shape_same, sized_same, units_same}

-- the root's units are as they were
abbrev pub RootKept : Units → Units → Root → Type 0
RootKept old new root = Kept old new (root_units old root)

pub units_of_root : (old new : Units) (height : ℕ) (page : Option PageNo) → Kept old new (root_units_at old height page) → root_units_at new height page ≡ root_units_at old height page
units_of_root old new height None kept = refl
units_of_root old new height (Some page) kept = units_same old new height page.0 kept

pub bytes_of_root : (old new : Units) (height size : ℕ) (page : Option PageNo) → Kept old new (root_units_at old height page) → root_bytes_at new height size page ≡ root_bytes_at old height size page
bytes_of_root old new height size None kept = refl
bytes_of_root old new height size (Some page) kept = bytes_same old new height page.0 size kept

pub shape_of_root : (old new : Units) (height size : ℕ) (page : Option PageNo) → Kept old new (root_units_at old height page) → root_shape_at new height size page ≡ root_shape_at old height size page
shape_of_root old new height size None kept = refl
shape_of_root old new height size (Some page) kept = ap (λ shape. Some (height, shape)) (shape_same old new height page.0 size kept)

pub named_root : (g : Geometry) (old new : Units) (height : ℕ) (page : Option PageNo) → Kept old new (root_units_at old height page) → RootNamed g old height page → RootNamed g new height page
named_root g old new height None kept h = h
named_root g old new height (Some page) kept h = named_same g old new height page.0 kept h

pub sized_root : (g : Geometry) (old new : Units) (height size : ℕ) (page : Option PageNo) → Kept old new (root_units_at old height page) → RootSized g old height size page → RootSized g new height size page
sized_root g old new height size None kept h = h
sized_root g old new height size (Some page) kept h = sized_same g old new height page.0 size kept h

-- the root spells its bytes as before
pub spelled_root : (g : Geometry) (old new : Units) (root : Root) (bytes : List ℕ) → RootKept old new root → RootSpells g old root bytes → RootSpells g new root bytes
spelled_root g old new root bytes kept h = record {
  named = named_root g old new root.height root.page kept h.named;
  sized = sized_root g old new root.height root.size root.page kept h.sized;
  balanced = subst (IsBalanced g.fan (leaf_bytes g)) (sym (shape_of_root old new root.height root.size root.page kept)) h.balanced;
  spelled = h.spelled ∙ sym (bytes_of_root old new root.height root.size root.page kept);
}
