-- What a volume holds: files of objects, each object a tree of versions.
use Rattle.std.specs.Prelude.{ℕ, ◌+◌, ◌^◌, ◌<◌, ◌≤◌, ◌≡◌, List, [], ◌∷◌, length, map, filter, find, flat_map, Bool, not, bytes_eq, if◌then◌else◌, Option, AllPairs, All, IsTrue}
use Rattle.std.specs.List.{list_any}
use Rattle.std.specs.Cmp.Lexicographic.{slice_cmp}
use Rattle.std.specs.Ordering.{nat_cmp, is_lt}
use Rattle.ex_base.specs.Sizes.{files_most, object_most}
use Rattle.ex_base.specs.declared.names.Oid.{Oid}
use Rattle.ex_base.specs.declared.geometry.Geometry.{Geometry}
use Rattle.version_lists.specs.declared.version.Version.{Version}
use Rattle.version_lists.specs.declared.version.Object.{Object}
use Rattle.version_lists.specs.Sorted.{Rise}
use Rattle.version_lists.specs.Versions.{Differ, has_oid, unique_of}
use Rattle.version_lists.specs.Objects.{IsTree, least_of, objects_formed, versions_of_all}
use Rattle.version_lists.specs.Changes.{created_in, derived_in, edited_in, frozen_in, without_in}
use Rattle.table_model.specs.declared.table.TableFile.{TableFile}
use Rattle.table_model.specs.declared.table.Table.{Table}
use Rattle.table_model.specs.Words.{is_name}

-- ---- what a table has

abbrev pub has_name : List ℕ → TableFile → Bool
has_name name f = bytes_eq f.name name

abbrev pub objects_of : Table → List Object
objects_of t = flat_map (λ f. f.objects) t.files

abbrev pub versions_in : TableFile → List Version
versions_in f = flat_map (λ o. o.versions) f.objects

abbrev pub versions_of : Table → List Version
versions_of t = flat_map versions_in t.files

-- the versions of a file, in order of their numbers
abbrev pub all_in : TableFile → List Version
all_in f = versions_of_all f.objects

abbrev pub is_current : Version → Bool
is_current v = not v.frozen

-- the current versions of a file, in order of their numbers
abbrev pub current_in : TableFile → List Version
current_in f = filter is_current (all_in f)

abbrev pub file_at : Table → List ℕ → Option TableFile
file_at t name = find (has_name name) t.files

abbrev pub version_at : Table → Oid → Option Version
version_at t oid = find (has_oid oid) (versions_of t)

-- the object that has the version
abbrev pub object_at : Table → Oid → Option Object
object_at t oid = find (λ o. list_any (has_oid oid) o.versions) (objects_of t)

-- ---- what the updates do to a table

-- the versions of a file changed, and its objects formed of what is left
abbrev pub with_versions : (List Version → List Version) → TableFile → TableFile
with_versions change f = record f { objects = objects_formed (change (all_in f)) }

-- the versions of every file changed
abbrev pub in_each_file : (List Version → List Version) → Table → Table
in_each_file change t = record t { files = map (with_versions change) t.files }

-- a file put in before the first whose name comes later
abbrev pub file_inserted : TableFile → List TableFile → List TableFile
file_inserted f [] = f ∷ []
file_inserted f (g ∷ gs) = if is_lt (slice_cmp nat_cmp f.name g.name) then f ∷ g ∷ gs else g ∷ file_inserted f gs

abbrev pub with_file : List ℕ → Table → Table
with_file name t = record t { files = file_inserted (record { name = name; objects = [] }) t.files }

abbrev pub without_file : List ℕ → Table → Table
without_file name t = record t { files = filter (λ f. not (has_name name f)) t.files }

-- the next unique number is used up
abbrev pub numbered : Table → Table
numbered t = record t { next_unique = t.next_unique + 1 }

abbrev pub object_added : Oid → List ℕ → TableFile → TableFile
object_added oid name f = if has_name name f then with_versions (created_in oid) f else f

-- a new object in the file
abbrev pub with_object : Oid → List ℕ → Table → Table
with_object oid name t = record t { files = map (object_added oid name) t.files }

-- the version's bytes changed
abbrev pub with_bytes : Oid → (List ℕ → List ℕ) → Table → Table
with_bytes oid change t = in_each_file (edited_in oid change) t

-- A frozen copy of the version comes between it and its older one.
abbrev pub with_frozen : Oid → Oid → Table → Table
with_frozen oid copy t = in_each_file (frozen_in oid copy) t

-- A current copy of the version is derived from it.
abbrev pub with_derived : Oid → Oid → Table → Table
with_derived oid copy t = in_each_file (derived_in oid copy) t

-- The version goes. What is derived from it is derived from its older one instead.
abbrev pub without_version : Oid → Table → Table
without_version oid t = in_each_file (without_in oid) t

-- ---- the rules of a table

abbrev pub empty_table : Table
empty_table = record { next_unique = 1; last = 0; files = [] }

abbrev pub SamePlace : Version → Version → Type 0
SamePlace v w = (v.oid.page.0 ≡ w.oid.page.0) × (v.oid.slot ≡ w.oid.slot)

-- the file comes before the other in byte order of names
abbrev pub ComesBefore : TableFile → TableFile → Type 0
ComesBefore f h = IsTrue (is_lt (slice_cmp nat_cmp f.name h.name))

-- no two versions lie in one place
abbrev pub LieApart : Version → Version → Type 0
LieApart v w = SamePlace v w → ⊥

-- The rules of a table on a volume: its numbers fit their fields; it has at most as many files as the catalog has room for, in byte order of
-- their names, each name once; each object is a tree of versions, and those of a file stand in order of their least numbers; each version has a
-- number of its own that was given before, a place of its own, and at most as many bytes as an object may have.
pub record IsTable (g : Geometry) (t : Table) : Type 0 where
  pub some : 1 ≤ t.next_unique
  pub next : t.next_unique < 2 ^ 64
  pub number : t.last < 2 ^ 64
  pub files : length t.files ≤ files_most g
  pub names : All (λ f. IsTrue (is_name f.name)) t.files
  pub sorted : AllPairs ComesBefore t.files
  pub ordered : All (λ f. Rise (map least_of f.objects)) t.files
  pub trees : All (λ o. IsTree o.versions) (objects_of t)
  pub numbers : All (λ v. (1 ≤ unique_of v) × (unique_of v < t.next_unique)) (versions_of t)
  pub distinct : AllPairs Differ (versions_of t)
  pub apart : AllPairs LieApart (versions_of t)
  pub sizes : All (λ v. length v.bytes ≤ object_most) (versions_of t)
