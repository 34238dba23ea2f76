-- The updates that add or remove files keep the rules of tables.
use Rattle.std.proofs.Common.{◌≡◌, inl, inr, ℕ, ◌<◌, ◌≤◌, List, [], ◌∷◌, ◌++◌, length, map, All, AllPairs, refl, sym, ap, subst, ◌∙◌, arith, IsTrue, Bool, true, false, cond, not, Some, true≢false}
use Rattle.std.specs.Prelude.{filter, find, flat_map, bytes_eq, nat_lt}
use Rattle.std.specs.Cmp.Lexicographic.{slice_cmp}
use Rattle.std.specs.Ordering.{nat_cmp, is_lt, is_eq, ordering_reverse}
use Rattle.std.specs.declared.cmp.Ordering.{Ordering}
use Rattle.std.specs.declared.cmp.Ordering.TheVariants.{Less, Equal, Greater}
use Rattle.std.proofs.lemmas.Bool.{cases_Bool, ltb-false}
use Rattle.std.proofs.lemmas.Cmp.{nat_list_cmp_total}
use Rattle.std.proofs.lemmas.Map.Text.{is_eq-slice_cmp}
use Rattle.std.proofs.lemmas.Slice.Eq.{bytes_eq-Decides}
use Rattle.std.proofs.lemmas.List.Elements.{All-nil, All-cons, All-head, All-tail, All-weaker}
use Rattle.std.proofs.lemmas.List.Kept.{AllPairs-cons}
use Rattle.ex_base.specs.declared.geometry.Geometry.{Geometry}
use Rattle.ex_base.specs.Sizes.{files_most}
use Rattle.version_lists.specs.declared.version.Object.{Object}
use Rattle.version_lists.specs.declared.version.Version.{Version}
use Rattle.version_lists.specs.Objects.{IsTree, least_of}
use Rattle.version_lists.specs.Sorted.{Rise}
use Rattle.version_lists.proofs.Lists.{all_has, filter_all}
use Rattle.table_model.specs.declared.table.Table.{Table}
use Rattle.table_model.specs.declared.table.TableFile.{TableFile}
use Rattle.table_model.specs.Words.{is_name}
use Rattle.table_model.specs.Tables.{IsTable, ComesBefore, objects_of, versions_of, versions_in, has_name, file_at, with_file, without_file, file_inserted}
use Rattle.table_model.specs.Refusals.{has_objects}
use Rattle.table_model.proofs.Lists.{part_filter, part_all, part_pairs, part_flat, part_length, More, here, past, more_all, more_length, more_flat, pairs_nil, pairs_head, pairs_tail}
use Rattle.table_model.proofs.TableRules.{versions_of_table}
use Rattle.table_model.proofs.NewVersions.{part_versions}

-- ---- names of files

-- a file that comes before another has another name
pub other_name : (name : List ℕ) (f h : TableFile) → ComesBefore f h → has_name name f ≡ true → has_name name h ≡ false
other_name name f h before has = elim (cases_Bool (has_name name h)) [
  | inl too ↦
      let same : f.name ≡ h.name = (bytes_eq-Decides f.name name).0 has ∙ sym ((bytes_eq-Decides h.name name).0 too) in
      let equal : is_eq (slice_cmp nat_cmp f.name h.name) ≡ true = is_eq-slice_cmp f.name h.name ∙ (bytes_eq-Decides f.name h.name).1 same in
      absurd (not_both (slice_cmp nat_cmp f.name h.name) before equal)
  | inr hasnt ↦ hasnt
]
  where
    not_both : (o : Ordering) → IsTrue (is_lt o) → is_eq o ≡ true → ⊥
    not_both Less lt eq = cc
    not_both Equal lt eq = cc
    not_both Greater lt eq = cc

-- the file that is put in comes before the first that it isn't behind
insert_sorted : (f : TableFile) (hs : List TableFile) → AllPairs ComesBefore hs → All (λ (h : TableFile). has_name f.name h ≡ false) hs → AllPairs ComesBefore (file_inserted f hs) × More f hs (file_inserted f hs)
insert_sorted f [] sorted others = (AllPairs-cons ComesBefore f [] (All-nil (ComesBefore f)) sorted, here)
insert_sorted f (h ∷ hs) sorted others = elim (cases_Bool (is_lt (slice_cmp nat_cmp f.name h.name))) [
  | inl first ↦
      let whole : file_inserted f (h ∷ hs) ≡ f ∷ h ∷ hs = ap (λ (b : Bool). cond b (f ∷ h ∷ hs) (h ∷ file_inserted f hs)) first in
      let later : All (ComesBefore f) hs = All-weaker (ComesBefore h) (ComesBefore f) (λ g next. follows f h g first next) hs (pairs_head ComesBefore h hs sorted) in
      let made : AllPairs ComesBefore (f ∷ h ∷ hs) × More f (h ∷ hs) (f ∷ h ∷ hs) = (AllPairs-cons ComesBefore f (h ∷ hs) (All-cons (ComesBefore f) h hs first later) sorted, here) in
      subst (λ (xs : List TableFile). AllPairs ComesBefore xs × More f (h ∷ hs) xs) (sym whole) made
  | inr isnt ↦
      let whole : file_inserted f (h ∷ hs) ≡ h ∷ file_inserted f hs = ap (λ (b : Bool). cond b (f ∷ h ∷ hs) (h ∷ file_inserted f hs)) isnt in
      let deep = insert_sorted f hs (pairs_tail ComesBefore h hs sorted) (All-tail (λ (h : TableFile). has_name f.name h ≡ false) h hs others) in
      let before = behind f h isnt (All-head (λ (h : TableFile). has_name f.name h ≡ false) h hs others) in
      let made : AllPairs ComesBefore (h ∷ file_inserted f hs) × More f (h ∷ hs) (h ∷ file_inserted f hs) =
      (AllPairs-cons ComesBefore h (file_inserted f hs) (more_all (ComesBefore h) deep.1 before (pairs_head ComesBefore h hs sorted)) deep.0, past deep.1) in
      subst (λ (xs : List TableFile). AllPairs ComesBefore xs × More f (h ∷ hs) xs) (sym whole) made
]
  where
    is_less : (o : Ordering) → IsTrue (is_lt o) → o ≡ Less
    is_less Less lt = refl
    is_less Equal lt = cc
    is_less Greater lt = cc

    follows : (f h g : TableFile) → ComesBefore f h → ComesBefore h g → ComesBefore f g
    follows f h g fh hg = ap is_lt (nat_list_cmp_total.trans f.name h.name g.name (is_less _ fh) (is_less _ hg))

    greater : (o : Ordering) → is_lt o ≡ false → is_eq o ≡ false → o ≡ Greater
    greater Less lt eq = cc
    greater Equal lt eq = cc
    greater Greater lt eq = refl

    behind : (f h : TableFile) → is_lt (slice_cmp nat_cmp f.name h.name) ≡ false → has_name f.name h ≡ false → ComesBefore h f
    behind f h isnt other =
        let unequal : bytes_eq f.name h.name ≡ false = elim (cases_Bool (bytes_eq f.name h.name)) [
          | inl same ↦ absurd (true≢false (sym ((bytes_eq-Decides h.name f.name).1 (sym ((bytes_eq-Decides f.name h.name).0 same))) ∙ other))
          | inr differ ↦ differ
        ] in
        ap is_lt (nat_list_cmp_total.antisymm h.name f.name ∙ ap ordering_reverse (greater _ isnt (is_eq-slice_cmp f.name h.name ∙ unequal)))

-- ---- file

pub file_versions : (t : Table) (name : List ℕ) → AllPairs ComesBefore t.files → All (λ (h : TableFile). has_name name h ≡ false) t.files → versions_of (with_file name t) ≡ versions_of t
file_versions t name sorted others = more_flat versions_in (insert_sorted (record { name = name; objects = [] }) t.files sorted others).1 refl

pub file_keeps : (g : Geometry) (t : Table) (name : List ℕ) → IsTable g t → length t.files < files_most g → IsTrue (is_name name) → All (λ (h : TableFile). has_name name h ≡ false) t.files → IsTable g (with_file name t)
file_keeps g t name is room spelled others =
    let f : TableFile = record { name = name; objects = [] } in
    let made = insert_sorted f t.files is.sorted others in
    let same_objects : objects_of (with_file name t) ≡ objects_of t = more_flat (λ (h : TableFile). h.objects) made.1 refl in
    let same_versions = file_versions t name is.sorted others in
    record {
      some = is.some;
      next = is.next;
      number = is.number;
      files = rw (more_length made.1) (omega (arith, room));
      names = more_all (λ (h : TableFile). IsTrue (is_name h.name)) made.1 spelled is.names;
      sorted = made.0;
      ordered = more_all (λ (h : TableFile). Rise (map least_of h.objects)) made.1 (pairs_nil (λ (a b : ℕ). a < b)) is.ordered;
      trees = rw same_objects is.trees;
      numbers = rw same_versions is.numbers;
      distinct = rw same_versions is.distinct;
      apart = rw same_versions is.apart;
      sizes = rw same_versions is.sizes;
    }

-- ---- unfile

module _ (name : List ℕ) where
  abbrev other : TableFile → Bool
  other f = not (has_name name f)

  empty_if : (os : List Object) → nat_lt 0 (length os) ≡ false → flat_map (λ (o : Object). o.versions) os ≡ []
  empty_if [] none = refl
  empty_if (o ∷ os) none = let short = ltb-false 0 (length (o ∷ os)) none in absurd (omega arith)

  -- the file that goes has no versions
  others_versions : (fs : List TableFile) → AllPairs ComesBefore fs → has_objects (find (has_name name) fs) ≡ false → flat_map versions_in (filter other fs) ≡ flat_map versions_in fs
  others_versions [] sorted empty = refl
  others_versions (f ∷ fs) sorted empty = elim (cases_Bool (has_name name f)) [
    | inl has ↦
        let none = empty_if f.objects (sym (ap (λ (b : Bool). has_objects (cond b (Some f) (find (has_name name) fs))) has) ∙ empty) in
        ap (λ (b : Bool). flat_map versions_in (cond (not b) (f ∷ filter other fs) (filter other fs))) has
        ∙ ap (flat_map versions_in) (filter_all other fs (λ h m. ap not (other_name name f h (all_has (ComesBefore f) fs (pairs_head ComesBefore f fs sorted) h m) has)))
        ∙ ap (λ (vs : List Version). vs ++ flat_map versions_in fs) (sym none)
    | inr hasnt ↦
        ap (λ (b : Bool). flat_map versions_in (cond (not b) (f ∷ filter other fs) (filter other fs))) hasnt
        ∙ ap (λ (vs : List Version). versions_in f ++ vs) (others_versions fs (pairs_tail ComesBefore f fs sorted)
        (sym (ap (λ (b : Bool). has_objects (cond b (Some f) (find (has_name name) fs))) hasnt) ∙ empty))
  ]

pub unfile_versions : (t : Table) (name : List ℕ) → AllPairs ComesBefore t.files → has_objects (file_at t name) ≡ false → versions_of (without_file name t) ≡ versions_of t
unfile_versions t name sorted empty = others_versions name t.files sorted empty

pub unfile_keeps : (g : Geometry) (t : Table) (name : List ℕ) → IsTable g t → IsTable g (without_file name t)
unfile_keeps g t name is =
    let part = part_filter (λ (f : TableFile). not (has_name name f)) t.files in
    let fewer : length (filter (λ (f : TableFile). not (has_name name f)) t.files) ≤ length t.files = part_length part in
    let vs = part_versions t.next_unique _ _ (part_flat versions_in part) (versions_of_table g t is) in
    record {
      some = is.some;
      next = is.next;
      number = is.number;
      files = omega (arith, fewer, is.files);
      names = part_all (λ (h : TableFile). IsTrue (is_name h.name)) part is.names;
      sorted = part_pairs ComesBefore part is.sorted;
      ordered = part_all (λ (h : TableFile). Rise (map least_of h.objects)) part is.ordered;
      trees = part_all (λ (o : Object). IsTree o.versions) (part_flat (λ (h : TableFile). h.objects) part) is.trees;
      numbers = vs.numbers;
      distinct = vs.distinct;
      apart = vs.apart;
      sizes = vs.sizes;
    }
