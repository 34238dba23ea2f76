-- The superblock, which names a volume's sizes: page 0 of the volume.
use Rattle.std.specs.Prelude.{◌≡◌, ◌≤◌, ℕ, ◌-◌, List, [], ◌∷◌, ◌++◌, length, take, drop, refl}
use Rattle.std.proofs.Common.{arith, length-append}
use Rattle.std.proofs.lemmas.List.{length-replicate}
use Rattle.ex_base.specs.declared.geometry.Geometry.{Geometry}
use Rattle.ex_base.specs.Fields.{field_bytes, four_bytes, zeros}
use Rattle.ex_base.specs.Sizes.{least_page}

-- "EXSMVOL1"
abbrev pub magic : List ℕ
magic = 69 ∷ 88 ∷ 83 ∷ 77 ∷ 86 ∷ 79 ∷ 76 ∷ 49 ∷ []

-- the number of the format in which volumes are made
abbrev pub format_now : ℕ
format_now = 2

-- the number of the oldest format whose volumes are read
abbrev pub format_oldest : ℕ
format_oldest = 1

-- what stands in a superblock of a format behind the magic: the sizes, the number of the format, and zeros
unfoldable pub super_rest : ℕ → Geometry → List ℕ
super_rest format g =
    four_bytes g.page_size ++ four_bytes g.pages ++ four_bytes g.segs ++ four_bytes g.seg_len ++ four_bytes g.fan ++ four_bytes format
    ++ zeros (g.page_size - 32)

-- the superblock of a format
unfoldable pub super_page : ℕ → Geometry → List ℕ
super_page format g = magic ++ super_rest format g

-- a format whose volumes are read
abbrev pub IsFormat : ℕ → Type 0
IsFormat format = (format_oldest ≤ format) × (format ≤ format_now)

-- The page is a superblock of this geometry, of a format that is read.
pub record IsSuper (page : List ℕ) (g : Geometry) : Type 0 where
  pub format : ℕ
  pub known : IsFormat format
  pub spelled : page ≡ super_page format g

pub length-super_rest : (format : ℕ) (g : Geometry) → length (super_rest format g) ≡ g.page_size - 8
unfolding super_rest field_bytes
length-super_rest format g = omega (arith, length-replicate {A = ℕ} (g.page_size - 32) 0, least_page g)

pub length-super_page : (format : ℕ) (g : Geometry) → length (super_page format g) ≡ g.page_size
unfolding super_page
length-super_page format g = omega (arith, length-append magic (super_rest format g), length-super_rest format g, least_page g)

pub drop-super_page : (format : ℕ) (g : Geometry) → drop 8 (super_page format g) ≡ super_rest format g
unfolding super_page
drop-super_page format g = refl

pub take-super_page : (format : ℕ) (g : Geometry) → take 8 (super_page format g) ≡ magic
unfolding super_page
take-super_page format g = refl
