-- The records of files as the walks list them: their roots, each with its object.
use Rattle.std.proofs.Common.{◌≡◌, ℕ, List, [], ◌∷◌, ◌++◌, map, IfSome, refl, ap, subst, ◌∙◌}
use Rattle.std.specs.Prelude.{Contains}
use Rattle.std.specs.List.{AllByRecursion, flat_map}
use Rattle.std.proofs.lemmas.List.{map-append}
use Rattle.ex_base.specs.declared.names.Place.{Place}
use Rattle.ex_base.specs.declared.names.Root.{Root}
use Rattle.ex_base.proofs.Each.{each_mapped}
use Rattle.file_walk.specs.Numbers.{uniques}
use Rattle.file_walk.specs.Objects.{AreObjects, found_of, linked_of, root_found}
use Rattle.file_walk.specs.Parts.{stored_of}
use Rattle.file_walk.proofs.SameLinks.{linked_all, objects_kept}
use Rattle.file_walk.proofs.Lists.{contains_map}
use Rattle.node_walk.specs.declared.ObjectRoot.{ObjectRoot}
use Rattle.node_walk.specs.TreesNamed.{tree_in, trees_in}
use Rattle.object_records.specs.Record.{Content, Small, Large}
use Rattle.record_links.specs.declared.Linked.{Linked}
use Rattle.record_links.specs.Links as kept
use Rattle.record_links.proofs.Alike.{alike}
use Rattle.version_lists.proofs.Lists.{Has, contains_has, has_contains, has_flat, has_flat_from, has_map, has_map_from}
use Rattle.volume_model.specs.Parts.{HasBodies}
use Rattle.volume_model.specs.Volume.{FileContent, Stored, root_in, roots_in, unique_of}
use Rattle.volume_model.proofs.Links.{if_some, linked_olders, older_at}
use Rattle.volume_model.proofs.Places.{each_has, has_each}
use Rattle.restart.specs.Content.{root_list, roots_found}

-- ---- numbers

pub numbers_listed : (object : Place → ℕ) (stored : List Stored) → uniques (map (found_of object) stored) ≡ map unique_of stored
numbers_listed object [] = refl
numbers_listed object (s ∷ stored) = ap (λ (rest : List ℕ). unique_of s ∷ rest) (numbers_listed object stored)

-- ---- roots

abbrev with_object : ℕ → Root → ObjectRoot
with_object object root = record { object = object; root = root }

-- the root of a large record, with its object
abbrev roots_of : (Place → ℕ) → Stored → List ObjectRoot
roots_of object s = map (with_object (object s.place)) (root_in s.body.content)

abbrev pub object_roots : (Place → ℕ) → List Stored → List ObjectRoot
object_roots object stored = flat_map (roots_of object) stored

found_root : (object : ℕ) (content : Content) → root_list object (root_found content) ≡ map (with_object object) (root_in content)
found_root object (Small bytes) = refl
found_root object (Large root) = refl

pub roots_listed : (object : Place → ℕ) (stored : List Stored) → roots_found (map (found_of object) stored) ≡ object_roots object stored
roots_listed object [] = refl
roots_listed object (s ∷ stored) =
    ap (λ (front : List ObjectRoot). front ++ roots_found (map (found_of object) stored)) (found_root (object s.place) s.body.content) ∙ ap (λ (rest : List ObjectRoot). roots_of object s ++ rest) (roots_listed object stored)

tree_of : (object : ℕ) (roots : List Root) → trees_in (map (with_object object) roots) ≡ roots
tree_of object [] = refl
tree_of object (root ∷ roots) = ap (λ (rest : List Root). root ∷ rest) (tree_of object roots)

pub trees_listed : (object : Place → ℕ) (stored : List Stored) → trees_in (object_roots object stored) ≡ roots_in stored
trees_listed object [] = refl
trees_listed object (s ∷ stored) =
    map-append tree_in (roots_of object s) (object_roots object stored)
    ∙ ap (λ (front : List Root). front ++ trees_in (object_roots object stored)) (tree_of (object s.place) (root_in s.body.content))
    ∙ ap (λ (rest : List Root). root_in s.body.content ++ rest) (trees_listed object stored)

pub root_there : (object : Place → ℕ) (stored : List Stored) (s : Stored) (root : Root) → Contains stored s → Has (root_in s.body.content) root → Contains (object_roots object stored) (with_object (object s.place) root)
root_there object stored s root there inside =
    has_contains (object_roots object stored) (with_object (object s.place) root)
    (has_flat (roots_of object) stored s (with_object (object s.place) root) (contains_has stored s there) (has_map (with_object (object s.place)) (root_in s.body.content) root inside))

-- the record of a root
pub record RecordOf (object : Place → ℕ) (stored : List Stored) (r : ObjectRoot) : Type 0 where
  pub record_of : Stored
  pub there : Contains stored record_of
  pub root : Has (root_in record_of.body.content) r.root
  pub object_is : object record_of.place ≡ r.object

pub root_from : (object : Place → ℕ) (stored : List Stored) (r : ObjectRoot) → Contains (object_roots object stored) r → RecordOf object stored r
root_from object stored r there =
    let s = has_flat_from (roots_of object) stored r (contains_has (object_roots object stored) r there) in
    let root = has_map_from (with_object (object s.0.place)) (root_in s.0.body.content) r s.2 in
    record {
      record_of = s.0;
      there = has_contains stored s.0 s.1;
      root = subst (Has (root_in s.0.body.content)) (ap tree_in root.2) root.1;
      object_is = ap (λ (o : ObjectRoot). o.object) root.2;
    }

-- ---- objects

abbrev Named : List Linked → Linked → Type 0
Named all l = IfSome l.head.older (kept.IsOlder all l)

-- the older one of each record of the files is one of them
pub olders_there : (files : List FileContent) → AllByRecursion HasBodies files → kept.HaveOlders (linked_all (stored_of files))
olders_there files bodies =
    each_mapped (Named (linked_all (stored_of files))) linked_of (stored_of files) (has_each (λ (s : Stored). Named (linked_all (stored_of files)) (linked_of s)) (stored_of files) one)
  where
    one : (s : Stored) → Has (stored_of files) s → Named (linked_all (stored_of files)) (linked_of s)
    one s h =
        let file = has_flat_from (λ (f : FileContent). f.stored) files s h in
        if_some (kept.IsOlder (linked_all (stored_of files)) (linked_of s)) s.body.head.older (λ place named.
        let o = older_at file.0.stored (linked_olders file.0.stored (each_has HasBodies files bodies file.0 file.1).linked) s file.2 place named in
        let there = has_flat (λ (f : FileContent). f.stored) files file.0 o.older file.1 (contains_has file.0.stored o.older o.there) in
        record {
          older = linked_of o.older;
          there = contains_map linked_of (stored_of files) o.older (has_contains (stored_of files) o.older there);
          place_is = o.place_is;
          frozen = o.frozen;
          lower = o.lower;
        })

-- any two ways to tell objects apart agree
pub objects_agree : (stored : List Stored) (one other : Place → ℕ) (s t : Stored) → kept.HaveOlders (linked_all stored) → AreObjects stored one → AreObjects stored other → Contains stored s → Contains stored t
    → one s.place ≡ one t.place → other s.place ≡ other t.place
objects_agree stored one other s t olders a b there here =
    alike (linked_all stored) one other (linked_of s) (linked_of t) olders (objects_kept stored one a) (objects_kept stored other b) (contains_map linked_of stored s there) (contains_map linked_of stored t here)
