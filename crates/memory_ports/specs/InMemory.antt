-- The meanings of a volume in memory, over its parts.
use Rattle.std.specs.Prelude.{◌≡◌, ◌≤◌, ◌+◌, ◌*◌, ℕ, Bool, true, false, List, length, Some, slice_index_or, refl}
use Rattle.std.proofs.Common.{◌∙◌, arith}
use Rattle.ex_base.specs.declared.geometry.Geometry.{Geometry}
use Rattle.ex_base.specs.Area.{NamesLeaf, area_end, catalog_no}
use Rattle.ex_base.specs.Bytes.{part, length-part}
use Rattle.ex_base.specs.Sizes.{leaf_bytes, volume_bytes}
use Rattle.page_alloc.specs.UnitSet.{UnitSet, used_at}
use Rattle.tree_store.specs.Stored.{IsCounted, unit_bytes}
use Rattle.tree_store.specs.Whole.{leaf_len, leaf_range}
use Rattle.std.proofs.Common.{ap}

-- the working image of a page
abbrev pub image_in : Geometry → List ℕ → ℕ → List ℕ
image_in g images p = part images (p * g.page_size) g.page_size

-- whether the flag of a page is set
abbrev pub flag_in : List Bool → ℕ → Bool
flag_in flags p = slice_index_or flags p false

-- each page whose flag is set is used
abbrev pub AreInUse : UnitSet → List Bool → Type 0
AreInUse units flags = (page : ℕ) → flag_in flags page ≡ true → used_at units page ≡ true

-- The parts are of one geometry: a byte for each place of the volume, an image and a flag for each page up to the end of the page area. The catalog's
-- flag is set, and each page whose flag is set is used.
pub record IsVolume (g : Geometry) (units : UnitSet) (bytes images : List ℕ) (flags : List Bool) : Type 0 where
  pub counted : IsCounted g units
  pub bytes_len : length bytes ≡ volume_bytes g
  pub images_len : length images ≡ area_end g * g.page_size
  pub flags_len : length flags ≡ area_end g
  pub catalog : flag_in flags catalog_no ≡ true
  pub in_use : AreInUse units flags

-- an earlier and a later state
pub record Follows (g h : Geometry) (u v : UnitSet) (a b images later : List ℕ) (flags set : List Bool) : Type 0 where
  pub geometry : h ≡ g
  pub ready : IsVolume g u a images flags → IsVolume h v b later set

pub follows_same : (g : Geometry) (u : UnitSet) (a images : List ℕ) (flags : List Bool) → Follows g g u u a a images images flags flags
follows_same g u a images flags = record { geometry = refl; ready = λ is. is }

pub follows_on : (g h k : Geometry) (u v w : UnitSet) (a b c x y z : List ℕ) (l m n : List Bool) → Follows g h u v a b x y l m → Follows h k v w b c y z m n → Follows g k u w a c x z l n
follows_on g h k u v w a b c x y z l m n one two = record { geometry = two.geometry ∙ one.geometry; ready = λ is. two.ready (one.ready is) }

-- the leaves are whole
pub leaf_in : (g : Geometry) (p : ℕ) (u : UnitSet) (bytes images : List ℕ) (flags : List Bool) → IsVolume g u bytes images flags → NamesLeaf g p → leaf_bytes g ≤ length (unit_bytes g (Some bytes) p)
leaf_in g p u bytes images flags is leaf =
    let inside : p * g.page_size + leaf_bytes g ≤ length bytes = omega (arith, leaf_range g p 0 (leaf_bytes g) (length bytes) leaf (omega arith) (omega (arith, is.bytes_len))) in
    let len : length (unit_bytes g (Some bytes) p) ≡ leaf_bytes g = ap (λ n. length (part bytes (p * g.page_size) n)) (leaf_len g p leaf) ∙ length-part bytes (p * g.page_size) (leaf_bytes g) inside in
    omega (arith, len)
