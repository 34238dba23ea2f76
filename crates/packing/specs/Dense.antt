-- Which volumes are dense, and which object of a volume can't be moved for want of pages.
use Rattle.std.specs.Prelude.{◌≡◌, ◌≤◌, ◌<◌, ◌↔◌, ℕ, Bool, List, ◌∷◌, ◌++◌, Some, Contains, filter}
use Rattle.std.specs.List.{AllByRecursion}
use Rattle.std.specs.Option.{is_some}
use Rattle.ex_base.specs.declared.names.Area.TheVariants.{Segment}
use Rattle.ex_base.specs.declared.names.Root.{Root}
use Rattle.ex_base.specs.Area.{unit_at}
use Rattle.version_lists.specs.declared.version.Object.{Object}
use Rattle.version_lists.specs.Versions.{numbered_in}
use Rattle.table_model.specs.Tables.{objects_of}
use Rattle.volume_model.specs.Parts.{Decodes}
use Rattle.volume_model.specs.Volume.{Decoded, Stored, Volume, reach_of, roots_in, stored_in, table_of, unique_of, units_of}
use Rattle.compact.specs.High.{need_of}

-- The units of the segment area that the volume on the image reaches are so many of the lowest ones.
pub record IsDense (image : List ℕ) (count : ℕ) : Type 0 where
  pub decoded : Decoded
  pub parts : Decodes image decoded
  pub low : (j : ℕ) → j < decoded.geometry.segs → (j < count) ↔ Contains (reach_of (units_of decoded image) decoded.volume) (unit_at decoded.geometry Segment j)
  pub most : count ≤ decoded.geometry.segs

-- ---- objects that lack pages

-- a record of one of the object's versions
abbrev pub is_of : Object → Stored → Bool
is_of object s = is_some (numbered_in object.versions (Some (unique_of s)))

-- the roots of the object's large versions
abbrev pub roots_of_object : Volume → Object → List Root
roots_of_object v object = roots_in (filter (is_of object) (stored_in v))

-- how many nodes lead to high units in the trees of the object
abbrev pub need_in : Decoded → List ℕ → ℕ → Object → ℕ
need_in d image dense object = need_of d.geometry dense (units_of d image) (roots_of_object d.volume object)

-- at most as many as pages are free
abbrev pub HasEnough : Decoded → List ℕ → ℕ → ℕ → Object → Type 0
HasEnough d image dense free object = need_in d image dense object ≤ free

-- The first of these objects of which more nodes lead to high units than pages are free.
pub record IsFirstLacking (d : Decoded) (image : List ℕ) (dense free need : ℕ) (objects : List Object) : Type 0 where
  pub before : List Object
  pub object : Object
  pub behind : List Object
  pub parted : objects ≡ before ++ object ∷ behind
  pub enough : AllByRecursion (HasEnough d image dense free) before
  pub need_is : need ≡ need_in d image dense object
  pub more : free < need

-- all objects of the volume's table, by the names of their files and by their least numbers
abbrev pub all_objects : Decoded → List ℕ → List Object
all_objects d image = objects_of (table_of (units_of d image) d.volume)
