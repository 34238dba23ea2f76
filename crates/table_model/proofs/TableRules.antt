-- What keeps the rules of a table: the files stay, and their objects are formed of changed versions.
use Rattle.std.proofs.Common.{◌≡◌, ℕ, ◌^◌, ◌<◌, ◌≤◌, List, length, map, All, AllPairs, sym, subst, IsTrue}
use Rattle.std.specs.Prelude.{flat_map}
use Rattle.std.specs.List.Sorted.{IsPermutation}
use Rattle.std.proofs.lemmas.List.{length-map}
use Rattle.std.proofs.lemmas.List.Elements.{All-map}
use Rattle.std.proofs.lemmas.List.Sorted.{All-permutation}
use Rattle.ex_base.specs.declared.geometry.Geometry.{Geometry}
use Rattle.ex_base.specs.Sizes.{object_most}
use Rattle.version_lists.specs.declared.version.Object.{Object}
use Rattle.version_lists.specs.declared.version.Version.{Version}
use Rattle.version_lists.specs.Sorted.{Rise}
use Rattle.version_lists.specs.Versions.{Differ, unique_of}
use Rattle.version_lists.specs.Objects.{IsTree, least_of, objects_formed}
use Rattle.version_lists.proofs.Lists.{Has, all_has, has_all, has_flat, has_flat_from, pairs_permutation}
use Rattle.version_lists.proofs.Sorted.{order_has, order_has_from, order_permutation}
use Rattle.version_lists.proofs.Links.{Linked}
use Rattle.version_lists.proofs.Forming.{formed_permutation, formed_rise, formed_trees}
use Rattle.version_lists.proofs.Trees.{trees_formed, trees_linked}
use Rattle.table_model.specs.declared.table.Table.{Table}
use Rattle.table_model.specs.declared.table.TableFile.{TableFile}
use Rattle.table_model.specs.Words.{is_name}
use Rattle.table_model.specs.Tables.{IsTable, ComesBefore, LieApart, all_in, objects_of, versions_of, versions_in, with_versions}
use Rattle.table_model.proofs.Lists.{pairs_map, pairs_parted, all_joined, all_parted, flat_map_of_map, flat_permuted}

-- what the versions of a table keep
pub record AreVersions (next : ℕ) (vs : List Version) : Type 0 where
  pub numbers : All (λ v. (1 ≤ unique_of v) × (unique_of v < next)) vs
  pub distinct : AllPairs Differ vs
  pub apart : AllPairs LieApart vs
  pub sizes : All (λ v. length v.bytes ≤ object_most) vs

-- in another order
pub permuted_versions : (next : ℕ) (vs ws : List Version) → IsPermutation vs ws → AreVersions next vs → AreVersions next ws
permuted_versions next vs ws moved are = record {
  numbers = All-permutation (λ (v : Version). (1 ≤ unique_of v) × (unique_of v < next)) vs ws moved are.numbers;
  distinct = pairs_permutation Differ (λ v w differ e. differ (sym e)) vs ws moved are.distinct;
  apart = pairs_permutation LieApart (λ v w apart same. apart (sym same.0, sym same.1)) vs ws moved are.apart;
  sizes = All-permutation (λ (v : Version). length v.bytes ≤ object_most) vs ws moved are.sizes;
}

-- ---- the versions of each file in order of their numbers

abbrev pub all_of : Table → List Version
all_of t = flat_map all_in t.files

pub versions_ordered : (t : Table) → IsPermutation (versions_of t) (all_of t)
versions_ordered t = flat_permuted versions_in all_in t.files (λ f m. order_permutation unique_of (versions_in f))

pub has_file : (t : Table) (f : TableFile) (v : Version) → Has t.files f → Has (all_in f) v → Has (versions_of t) v
has_file t f v m h = has_flat versions_in t.files f v m (order_has_from unique_of (versions_in f) v h)

pub in_file : (t : Table) (v : Version) → Has (versions_of t) v → (f : TableFile) × Has t.files f × Has (all_in f) v
in_file t v h = let r = has_flat_from versions_in t.files v h in (r.0, r.1, order_has unique_of (versions_in r.0) v r.2)

module _ (g : Geometry) (t : Table) (is : IsTable g t) where
  pub versions_of_table : AreVersions t.next_unique (versions_of t)
  versions_of_table = record { numbers = is.numbers; distinct = is.distinct; apart = is.apart; sizes = is.sizes }

  pub ordered_of_table : AreVersions t.next_unique (all_of t)
  ordered_of_table = permuted_versions t.next_unique (versions_of t) (all_of t) (versions_ordered t) versions_of_table

  file_trees : (f : TableFile) → Has t.files f → All (λ (o : Object). IsTree o.versions) f.objects
  file_trees =
      all_has (λ (f : TableFile). All (λ (o : Object). IsTree o.versions) f.objects) t.files
      (all_parted (λ (o : Object). IsTree o.versions) (λ (f : TableFile). f.objects) t.files is.trees)

  file_differ : (f : TableFile) → Has t.files f → AllPairs Differ (versions_in f)
  file_differ = all_has (λ (f : TableFile). AllPairs Differ (versions_in f)) t.files (pairs_parted Differ versions_in t.files is.distinct)

  -- the versions of a file are linked
  pub file_linked : (f : TableFile) → Has t.files f → Linked (all_in f)
  file_linked f m = trees_linked f.objects (file_trees f m) (file_differ f m)

  -- and its objects are those that they form
  pub file_formed : (f : TableFile) → Has t.files f → objects_formed (all_in f) ≡ f.objects
  file_formed f m = trees_formed f.objects (file_trees f m) (file_differ f m) (all_has (λ (f : TableFile). Rise (map least_of f.objects)) t.files is.ordered f m)

  -- their numbers were given before
  pub file_below : (f : TableFile) → Has t.files f → (v : Version) → Has (all_in f) v → unique_of v < t.next_unique
  file_below f m v h = (all_has (λ (v : Version). (1 ≤ unique_of v) × (unique_of v < t.next_unique)) (versions_of t) is.numbers v (has_file t f v m h)).1

-- ---- the versions of each file change

abbrev pub changed_file : (TableFile → List Version → List Version) → TableFile → TableFile
changed_file change f = with_versions (change f) f

abbrev pub changed : (TableFile → List Version → List Version) → ℕ → Table → Table
changed change next t = record t { next_unique = next; files = map (changed_file change) t.files }

module _ (t : Table) (change : TableFile → List Version → List Version) (next : ℕ) (linked : (f : TableFile) → Has t.files f → Linked (change f (all_in f))) where
  abbrev after : TableFile → List Version
  after f = change f (all_in f)

  abbrev versions_formed : TableFile → List Version
  versions_formed f = flat_map (λ (o : Object). o.versions) (objects_formed (after f))

  changed_objects : objects_of (changed change next t) ≡ flat_map (λ f. objects_formed (after f)) t.files
  changed_objects = flat_map_of_map (λ (f : TableFile). f.objects) (changed_file change) t.files

  changed_versions : versions_of (changed change next t) ≡ flat_map versions_formed t.files
  changed_versions = flat_map_of_map versions_in (changed_file change) t.files

  -- the table has the changed versions
  pub changed_permutation : IsPermutation (flat_map after t.files) (versions_of (changed change next t))
  changed_permutation =
      subst (IsPermutation (flat_map after t.files)) (sym changed_versions)
      (flat_permuted after versions_formed t.files (λ f m. formed_permutation (after f) (linked f m)))

  pub table_changes : (g : Geometry) → IsTable g t → 1 ≤ next → next < 2 ^ 64 → AreVersions next (flat_map after t.files) → IsTable g (changed change next t)
  table_changes g is some room vs =
      let are = permuted_versions next (flat_map after t.files) (versions_of (changed change next t)) changed_permutation vs in
      record {
        some = some;
        next = room;
        number = is.number;
        files = rw (length-map t.files (changed_file change)) is.files;
        names = All-map (λ (f : TableFile). IsTrue (is_name f.name)) (changed_file change) t.files is.names;
        sorted = pairs_map ComesBefore (changed_file change) t.files is.sorted;
        ordered = All-map (λ (f : TableFile). Rise (map least_of f.objects)) (changed_file change) t.files
            (has_all (λ (f : TableFile). Rise (map least_of (objects_formed (after f)))) t.files (λ f m. formed_rise (after f) (linked f m)));
        trees = subst (λ (os : List Object). All (λ (o : Object). IsTree o.versions) os) (sym changed_objects)
            (all_joined (λ (o : Object). IsTree o.versions) (λ f. objects_formed (after f)) t.files
            (has_all (λ (f : TableFile). All (λ (o : Object). IsTree o.versions) (objects_formed (after f))) t.files (λ f m. formed_trees (after f) (linked f m))));
        numbers = are.numbers;
        distinct = are.distinct;
        apart = are.apart;
        sizes = are.sizes;
      }
