-- The versions of an object are listed alike as records of a file and as versions of the table.
use Rattle.std.proofs.Common.{◌≡◌, ◌<◌, ◌+◌, ◌-◌, ℕ, zero, suc, Bool, true, false, cond, List, [], ◌∷◌, ◌++◌, length, Option, Some, None, refl, sym, ap, subst, ◌∙◌, arith, inl, inr}
use Rattle.std.specs.Prelude.{map, filter, flat_map, nat_lt, ◌==◌}
use Rattle.std.specs.Cmp.{both_ways}
use Rattle.std.specs.List.Sorted.{IsPermutation, IsSortedByKey}
use Rattle.std.specs.Ordering.{nat_cmp}
use Rattle.std.proofs.lemmas.Bool.{eqb-true, eq-eqb, false≢true, le-ltb, lt-ltb, ltb-true}
use Rattle.std.proofs.lemmas.List.{append-nil, length-map}
use Rattle.std.proofs.lemmas.List.{map-append}
use Rattle.std.proofs.lemmas.Option.{same_Some}
use Rattle.ex_base.specs.declared.names.Oid.{Oid}
use Rattle.ex_base.specs.declared.names.Place.{Place}
use Rattle.file_bodies.specs.Bodies.{Row}
use Rattle.trees.specs.Trees.{Units}
use Rattle.version_lists.specs.declared.version.Version.{Version}
use Rattle.version_lists.specs.declared.version.Object.{Object}
use Rattle.version_lists.specs.Sorted.{in_order}
use Rattle.version_lists.specs.Versions.{unique_of as number_of, derived_from, first_number, is_derived_from, is_first, listed, listed_from, numbered_in}
use Rattle.version_lists.specs.Objects.{object_from, objects_formed, least_of, IsTree}
use Rattle.version_lists.proofs.Climbing.{first_here, first_up, parent_of, same_first, version_ends}
use Rattle.version_lists.proofs.Forming.{formed_trees, is_first_from}
use Rattle.version_lists.proofs.Links.{Linked, derived_has}
use Rattle.version_lists.proofs.Lists.{Has, Rises, all_has, contains_has, filter_all, filter_length, filter_none, filter_one_more, find_has, find_key, find_none, has_filter, has_filter_from, has_map, has_map_from, rises_filter, rises_map, rises_one, rising_agree}
use Rattle.version_lists.proofs.Sorted.{order_has, order_has_from, order_map, order_rises}
use Rattle.version_lists.proofs.Trees.{single, tree_linked}
use Rattle.ex_base.specs.Places.{is_place}
use Rattle.version_tree.specs.Lineage.{IsListing, comes_from, derived_among, first_from, member_at, member_of, older_at}
use Rattle.version_tree.specs.Lineage as lineage
use Rattle.version_tree.specs.declared.lineage.Member.{Member}
use Rattle.version_tree.proofs.LineageOrder.{first_ends, first_stops, first_steps}
use Rattle.volume_model.specs.Links.{HaveOlders, names_older, place_in}
use Rattle.volume_model.specs.Volume.{Stored, FileContent, number_at, unique_of, version_of, versions_stored}
use Rattle.volume_model.proofs.Links.{linked_olders, named_place, older_at as older_record}
use Rattle.volume_model.proofs.Numbers.{derived_by_place, number_there, place_by_derived}
use Rattle.volume_model.proofs.Places.{Sep, sep_map, sep_one, sep_unlike}
use Rattle.ex_base.proofs.SamePlaces.{at_itself, same_place_is}
use Rattle.volume_edits.proofs.FileVersions.{IsFile, linked_file, sep_permuted}
use Rattle.volume_model.proofs.InOrder.{permuted_from, permuted_has, sorted_rises}
use Rattle.volume_edits.proofs.RecordEdits.{stored_of}

-- ---- lists

filter_of_map : {A B : Type 0} (p : B → Bool) (f : A → B) (xs : List A) → filter p (map f xs) ≡ map f (filter (λ x. p (f x)) xs)
filter_of_map p f [] = refl
filter_of_map {A} {B} p f (x ∷ xs) = ap (λ (l : List B). cond (p (f x)) (f x ∷ l) l) (filter_of_map p f xs) ∙ by (p (f x))
  where
    by : (b : Bool) → cond b (f x ∷ map f (filter (λ y. p (f y)) xs)) (map f (filter (λ y. p (f y)) xs)) ≡ map f (cond b (x ∷ filter (λ y. p (f y)) xs) (filter (λ y. p (f y)) xs))
    by true = refl
    by false = refl

filter_same : {A : Type 0} (p q : A → Bool) (xs : List A) → ((x : A) → Has xs x → p x ≡ q x) → filter p xs ≡ filter q xs
filter_same p q [] same = refl
filter_same {A} p q (x ∷ xs) same =
    ap (λ (b : Bool). cond b (x ∷ filter p xs) (filter p xs)) (same x (inl refl)) ∙ ap (λ (l : List A). cond (q x) (x ∷ l) l) (filter_same p q xs (λ y m. same y (inr m)))

flat_same : {A B : Type 0} (f g : A → List B) (xs : List A) → ((x : A) → Has xs x → f x ≡ g x) → flat_map f xs ≡ flat_map g xs
flat_same f g [] same = refl
flat_same {A} {B} f g (x ∷ xs) same = ap (λ (l : List B). l ++ flat_map f xs) (same x (inl refl)) ∙ ap (λ (l : List B). g x ++ l) (flat_same f g xs (λ y m. same y (inr m)))

-- two lists of parts, of which each part is told alike
flat_alike : {X A B C D E : Type 0} (k : X → A) (f : A → List B) (p : B → E) (l : X → C) (h : C → List D) (q : D → E) (xs : List X) → ((x : X) → Has xs x → map p (f (k x)) ≡ map q (h (l x)))
    → map p (flat_map f (map k xs)) ≡ map q (flat_map h (map l xs))
flat_alike k f p l h q [] same = refl
flat_alike {E = E} k f p l h q (x ∷ xs) same =
    map-append p (f (k x)) (flat_map f (map k xs)) ∙ ap (λ (t : List E). t ++ map p (flat_map f (map k xs))) (same x (inl refl))
    ∙ ap (λ (t : List E). map q (h (l x)) ++ t) (flat_alike k f p l h q xs (λ y m. same y (inr m))) ∙ sym (map-append q (h (l x)) (flat_map h (map l xs)))

-- ---- what is listed of a tree, in some more levels

module _ (vs : List Version) (linked : Linked vs) where
  step : (n : ℕ) (v : Version) → listed_from (suc n) vs v ≡ v ∷ flat_map (listed_from n vs) (derived_from (number_of v) vs)
  unfolding listed_from
  step n v = refl

  last : (v : Version) → listed_from zero vs v ≡ v ∷ []
  unfolding listed_from
  last v = refl

  -- how many have a higher number
  above : Version → ℕ
  above v = length (filter (λ (w : Version). nat_lt (number_of v) (number_of w)) vs)

  above_less : (v w : Version) → Has vs w → number_of v < number_of w → above w < above v
  unfolding above
  above_less v w m lt =
      filter_one_more (λ (x : Version). nat_lt (number_of w) (number_of x)) (λ (x : Version). nat_lt (number_of v) (number_of x)) vs w m
      (le-ltb (number_of w) (number_of w) (omega arith)) (lt-ltb (number_of v) (number_of w) lt)
      (λ x k e. let d = ltb-true (number_of w) (number_of x) e in lt-ltb (number_of v) (number_of x) (omega (arith, d, lt)))

  above_within : (v : Version) → Has vs v → above v < length vs
  unfolding above
  above_within v m =
      let l = filter_one_more (λ (x : Version). nat_lt (number_of v) (number_of x)) (λ (x : Version). true) vs v m (le-ltb (number_of v) (number_of v) (omega arith)) refl (λ x k e. refl) in
      let d = ap length (filter_all (λ (x : Version). true) vs (λ x k. refl)) in
      omega (arith, l, d)

  -- a current version has nothing below it
  none_below : (v : Version) → Has vs v → v.frozen ≡ false → derived_from (number_of v) vs ≡ []
  none_below v m current = filter_none (is_derived_from (number_of v)) vs (λ d k. by d k (is_derived_from (number_of v) d) refl)
    where
      by : (d : Version) → Has vs d → (b : Bool) → is_derived_from (number_of v) d ≡ b → is_derived_from (number_of v) d ≡ false
      by d k false is = is
      by d k true is =
          let r = derived_has vs (number_of v) d (has_filter (is_derived_from (number_of v)) vs d k is) in
          let p = parent_of vs linked d k (number_of v) r.1 in
          let same = rises_one number_of vs p.parent v linked.0 p.there m (same_Some (number_of p.parent) (number_of v) (sym p.is ∙ r.1)) in
          absurd (false≢true (sym current ∙ ap (λ (w : Version). w.frozen) (sym same) ∙ p.frozen))

  -- what is derived from a frozen version is current, or has a higher number
  more_levels : (n : ℕ) (v : Version) → Has vs v → (v.frozen ≡ true → above v < n) → listed_from (suc n) vs v ≡ listed_from n vs v
  more_levels zero v m deep = step zero v ∙ ap (λ (l : List Version). v ∷ flat_map (listed_from zero vs) l) (none_below v m (by v.frozen deep)) ∙ sym (last v)
    where
      by : (b : Bool) → (b ≡ true → above v < zero) → b ≡ false
      by true d = absurd (let l = d refl in omega (arith, l))
      by false d = refl
  more_levels (suc n) v m deep =
      step (suc n) v ∙ ap (λ (l : List Version). v ∷ l) (flat_same (listed_from (suc n) vs) (listed_from n vs) (derived_from (number_of v) vs) (λ d k.
      let r = derived_has vs (number_of v) d k in
      let p = parent_of vs linked d r.0 (number_of v) r.1 in
      let same = rises_one number_of vs p.parent v linked.0 p.there m (same_Some (number_of p.parent) (number_of v) (sym p.is ∙ r.1)) in
      more_levels n d r.0 (λ frozen.
      let high : number_of v < number_of d = subst (λ (w : Version). number_of w < number_of d) same (p.lower frozen) in
      let less = above_less v d r.0 high in
      let limit = deep (ap (λ (w : Version). w.frozen) (sym same) ∙ p.frozen) in
      omega (arith, less, limit)))) ∙ sym (step n v)

  -- so a list as deep as it is long is deep enough
  pub deep_enough : (k : ℕ) (v : Version) → Has vs v → listed_from (length vs + k) vs v ≡ listed_from (length vs) vs v
  deep_enough zero v m = ap (λ n. listed_from n vs v) (let e : length vs + zero ≡ length vs = omega arith in e)
  deep_enough (suc k) v m =
      let within = above_within v m in
      ap (λ n. listed_from n vs v) (let e : length vs + suc k ≡ suc (length vs + k) = omega arith in e)
      ∙ more_levels (length vs + k) v m (λ frozen. omega (arith, within)) ∙ deep_enough k v m

-- ---- what is listed of an object

module _ (vs : List Version) (linked : Linked vs) (first : Version) (there : Has vs first) (is : first.older ≡ None) where
  abbrev top : Version → ℕ
  top v = first_number (length vs) vs v

  abbrev of_first : Version → Bool
  of_first v = top v == number_of first

  abbrev own : List Version
  own = filter of_first vs

  first_in : Has (filter is_first vs) first
  first_in = has_filter is_first vs first there (is_first_from first is)

  is_object : Has (objects_formed vs) (object_from vs first)
  is_object = order_has least_of (map (object_from vs) (filter is_first vs)) (object_from vs first) (has_map (object_from vs) (filter is_first vs) first first_in)

  tree : IsTree own
  tree = all_has (λ (o : Object). IsTree o.versions) (objects_formed vs) (formed_trees vs linked) (object_from vs first) is_object

  first_own : Has own first
  first_own = has_filter of_first vs first there (eq-eqb (top first) (number_of first) (first_here (length vs) vs first is))

  firsts_are : filter is_first own ≡ first ∷ []
  firsts_are =
      let one = single (filter is_first own) tree.one in
      let inside : Has (one.0 ∷ []) first = subst (λ (l : List Version). Has l first) one.1 (has_filter is_first own first first_own (is_first_from first is)) in
      one.1 ∙ ap (λ (w : Version). w ∷ []) (alone one.0 inside)
    where
      alone : (w : Version) → Has (w ∷ []) first → w ≡ first
      alone w (inl e) = e
      alone w (inr m) = absurd m

  -- what is derived from one of its versions is one of its versions
  same_derived : (v : Version) → Has own v → derived_from (number_of v) own ≡ derived_from (number_of v) vs
  same_derived v m =
      rising_agree number_of (derived_from (number_of v) own) (derived_from (number_of v) vs)
      (rises_filter number_of (is_derived_from (number_of v)) own (rises_filter number_of of_first vs linked.0)) (rises_filter number_of (is_derived_from (number_of v)) vs linked.0)
      (λ d k. let r = has_filter_from (is_derived_from (number_of v)) own d k in has_filter (is_derived_from (number_of v)) vs d (has_filter_from of_first vs d r.0).0 r.1)
      (λ d k.
      let r = has_filter_from (is_derived_from (number_of v)) vs d k in
      let o = derived_has vs (number_of v) d k in
      let mine = has_filter_from of_first vs v m in
      let p = parent_of vs linked d r.0 (number_of v) o.1 in
      let same = rises_one number_of vs p.parent v linked.0 p.there mine.0 (same_Some (number_of p.parent) (number_of v) (sym p.is ∙ o.1)) in
      let reached : top d ≡ number_of first = same_first vs linked d r.0 p ∙ ap top same ∙ eqb-true (top v) (number_of first) mine.1 in
      has_filter (is_derived_from (number_of v)) own d (has_filter of_first vs d r.0 (eq-eqb (top d) (number_of first) reached)) r.1)

  same_below : (n : ℕ) (v : Version) → Has own v → listed_from n own v ≡ listed_from n vs v
  unfolding listed_from
  same_below zero v m = refl
  same_below (suc n) v m =
      ap (λ (l : List Version). v ∷ l) (flat_same (listed_from n own) (listed_from n vs) (derived_from (number_of v) own) (λ d k. same_below n d (has_filter_from (is_derived_from (number_of v)) own d k).0)
      ∙ ap (flat_map (listed_from n vs)) (same_derived v m))

  pub listed_object : listed own ≡ listed_from (length vs) vs first
  listed_object =
      let short = filter_length of_first vs in
      let more : length vs ≡ length own + (length vs - length own) = omega (arith, short) in
      ap (flat_map (listed_from (length own) own)) firsts_are ∙ append-nil (listed_from (length own) own first)
      ∙ sym (deep_enough own (tree_linked own tree) (length vs - length own) first first_own) ∙ ap (λ n. listed_from n own first) (sym more)
      ∙ same_below (length vs) first first_own

no_steps : (vs : List Version) (v : Version) → first_number zero vs v ≡ number_of v
unfolding first_number
no_steps vs v = refl

-- ---- records and versions of a file

module _ (units : Units) (f : FileContent) (file : IsFile f) where
  olders : HaveOlders f.stored
  olders = linked_olders f.stored file.links

  abbrev read_as : Stored → Version
  read_as s = version_of units f.stored s

  abbrev member_as : Stored → Member
  member_as s = member_at s.place s.body.head

  -- in order of their numbers
  abbrev sorted : List Stored
  sorted = in_order unique_of f.stored

  abbrev vs : List Version
  vs = versions_stored units f.stored

  abbrev ms : List Member
  ms = map member_as sorted

  vs_are : vs ≡ map read_as sorted
  vs_are = order_map unique_of number_of read_as f.stored (λ s. refl)

  linked : Linked vs
  linked = linked_file units f file

  in_file : (s : Stored) → Has sorted s → Has f.stored s
  in_file s m = order_has_from unique_of f.stored s m

  in_sorted : (s : Stored) → Has f.stored s → Has sorted s
  in_sorted s m = order_has unique_of f.stored s m

  in_versions : (s : Stored) → Has sorted s → Has vs (read_as s)
  in_versions s m = subst (λ (l : List Version). Has l (read_as s)) (sym vs_are) (has_map read_as sorted s m)

  up : Rises unique_of sorted
  up = order_rises unique_of f.stored (sep_unlike unique_of f.stored file.numbers)

  -- ---- what is derived from a record

  members_derived : (s : Stored) → derived_among ms (member_as s) ≡ map member_as (filter (names_older s.place) sorted)
  members_derived s = filter_of_map (comes_from s.place) member_as sorted

  versions_derived : (s : Stored) → Has sorted s → derived_from (number_of (read_as s)) vs ≡ map read_as (filter (names_older s.place) sorted)
  versions_derived s m =
      ap (derived_from (unique_of s)) vs_are ∙ filter_of_map (is_derived_from (unique_of s)) read_as sorted
      ∙ ap (map read_as) (filter_same (λ t. is_derived_from (unique_of s) (read_as t)) (names_older s.place) sorted (λ t k.
      both_ways (is_derived_from (unique_of s) (read_as t)) (names_older s.place t)
      (λ e. names_it t (place_by_derived units f.stored file.places file.numbers olders t s (in_file t k) (in_file s m) e))
      (λ e. derived_by_place units f.stored file.places file.numbers olders t s (in_file t k) (in_file s m) (named_place s.place t.body.head.older e))))
    where
      names_it : (t : Stored) → t.body.head.older ≡ Some s.place → names_older s.place t ≡ true
      names_it t e = ap (is_place s.place) e ∙ at_itself s.place s.place refl

  abbrev oid_in : Version → Oid
  oid_in w = w.oid

  abbrev oid_of_member : Member → Oid
  oid_of_member m = m.oid

  listed_alike : (n : ℕ) (s : Stored) → Has sorted s → map oid_of_member (lineage.listed_from n ms (member_as s)) ≡ map oid_in (listed_from n vs (read_as s))
  unfolding lineage.listed_from listed_from
  listed_alike zero s m = refl
  listed_alike (suc n) s m =
      ap (λ (l : List Oid). (member_as s).oid ∷ l)
      (ap (λ (l : List Member). map oid_of_member (flat_map (lineage.listed_from n ms) l)) (members_derived s)
      ∙ flat_alike member_as (lineage.listed_from n ms) oid_of_member read_as (listed_from n vs) oid_in (filter (names_older s.place) sorted) (λ t k. listed_alike n t (has_filter_from (names_older s.place) sorted t k).0)
      ∙ ap (λ (l : List Version). map oid_in (flat_map (listed_from n vs) l)) (sym (versions_derived s m)))

  -- ---- climbs

  member_found : (place : Place) (t : Stored) → Has sorted t → t.place ≡ place → older_at ms (Some place) ≡ Some (member_as t)
  member_found place t m is = by (older_at ms (Some place)) refl
    where
      by : (o : Option Member) → older_at ms (Some place) ≡ o → older_at ms (Some place) ≡ Some (member_as t)
      by None none = absurd (false≢true (sym (find_none (lineage.stands_at place) ms none (member_as t) (has_map member_as sorted t m)) ∙ at_itself t.place place is))
      by (Some w) some =
          let r = find_has (lineage.stands_at place) ms w some in
          let k = has_map_from member_as sorted w r.0 in
          let at : (k.0).place ≡ place = same_place_is (k.0).place place (ap (lineage.stands_at place) k.2 ∙ r.1) in
          some ∙ ap Some (sym k.2 ∙ ap member_as (sep_one place_in f.stored k.0 t file.places (in_file k.0 k.1) (in_file t m) (at ∙ sym is)))

  -- the record that both climbs come to
  record Climbed (n : ℕ) (s : Stored) : Type 0 where
    t : Stored
    there : Has sorted t
    member : first_from n ms (member_as s) ≡ member_as t
    number : first_number n vs (read_as s) ≡ unique_of t

  climbed_alike : (n : ℕ) (s : Stored) → Has sorted s → Climbed n s
  climbed_alike zero s m = record { t = s; there = m; member = first_ends zero ms (member_as s) refl; number = no_steps vs (read_as s) }
  climbed_alike (suc n) s m = by s.body.head.older refl (climbed_alike n)
    where
      by : (link : Option Place) → s.body.head.older ≡ link → ((t : Stored) → Has sorted t → Climbed n t) → Climbed (suc n) s
      by None e rest = record {
        t = s;
        there = m;
        member = first_stops (suc n) ms (member_as s) (ap (older_at ms) e);
        number = first_here (suc n) vs (read_as s) (ap (number_at f.stored) e);
      }
      by (Some place) e rest =
          let o = older_record f.stored olders s (in_file s m) place e in
          let inside : Has f.stored o.older = contains_has f.stored o.older o.there in
          let r = rest o.older (in_sorted o.older inside) in
          let number : (read_as s).older ≡ Some (unique_of o.older) = ap (number_at f.stored) e ∙ number_there units f.stored file.places file.numbers olders o.older place inside o.place_is in
          record {
            t = r.t;
            there = r.there;
            member = first_steps (suc n) n ms (member_as s) (member_as o.older) refl (ap (older_at ms) e ∙ member_found place o.older (in_sorted o.older inside) o.place_is) ∙ r.member;
            number = first_up n vs (read_as s) (read_as o.older) (ap (numbered_in vs) number ∙ find_key number_of vs (read_as o.older) (unique_of o.older) linked.0 (in_versions o.older (in_sorted o.older inside)) refl) ∙ r.number;
          }

  as_many : length ms ≡ length vs
  as_many = length-map sorted member_as ∙ sym (length-map sorted read_as) ∙ ap length (sym vs_are)

  -- the members of a listing are the records
  members_are : (rows : List Row) → f.stored ≡ stored_of rows → (members : List Member) → IsPermutation (map member_of rows) members → IsSortedByKey lineage.number_of nat_cmp members → members ≡ ms
  members_are rows read members moves order =
      rising_agree lineage.number_of members ms (sorted_rises lineage.number_of members order (sep_permuted lineage.number_of (map member_as f.stored) members moved apart))
      (rises_map unique_of lineage.number_of member_as sorted (λ s. refl) up) to from
    where
      mapped : (xs : List Row) → map member_as (stored_of xs) ≡ map member_of xs
      mapped [] = refl
      mapped (x ∷ xs) = ap (λ (l : List Member). member_of x ∷ l) (mapped xs)

      moved : IsPermutation (map member_as f.stored) members
      moved = subst (λ (l : List Member). IsPermutation l members) (sym (ap (map member_as) read ∙ mapped rows)) moves

      apart : Sep lineage.number_of (map member_as f.stored)
      apart = sep_map member_as lineage.number_of f.stored file.numbers

      to : (m : Member) → Has members m → Has ms m
      to m h = let r = has_map_from member_as f.stored m (permuted_from (map member_as f.stored) members moved m h) in subst (Has ms) r.2 (has_map member_as sorted r.0 (in_sorted r.0 r.1))

      from : (m : Member) → Has ms m → Has members m
      from m h = let r = has_map_from member_as sorted m h in permuted_has (map member_as f.stored) members moved m (subst (Has (map member_as f.stored)) r.2 (has_map member_as f.stored r.0 (in_file r.0 r.1)))

  -- ---- what is listed

  -- an object of the file that has the version
  object_is : (o : Object) (s t : Stored) → Has sorted s → Has sorted t → first_number (length vs) vs (read_as s) ≡ unique_of t → Has (objects_formed vs) o → Has o.versions (read_as s)
      → ((read_as t).older ≡ None) × (o ≡ object_from vs (read_as t))
  object_is o s t m k number formed inside =
      let e = version_ends vs linked (read_as s) (in_versions s m) in
      let ends : e.first ≡ read_as t = rises_one number_of vs e.first (read_as t) linked.0 e.there (in_versions t k) (sym (e.number (length vs) (omega arith)) ∙ number) in
      let r = has_map_from (object_from vs) (filter is_first vs) o (order_has_from least_of (map (object_from vs) (filter is_first vs)) o formed) in
      let first = has_filter_from is_first vs r.0 r.1 in
      let own : Has (object_from vs r.0).versions (read_as s) = subst (λ (x : Object). Has x.versions (read_as s)) (sym r.2) inside in
      let top = has_filter_from (λ (w : Version). first_number (length vs) vs w == number_of r.0) vs (read_as s) own in
      let same : r.0 ≡ read_as t = rises_one number_of vs r.0 (read_as t) linked.0 first.0 (in_versions t k) (sym (eqb-true (first_number (length vs) vs (read_as s)) (number_of r.0) top.1) ∙ number) in
      (ap (λ (w : Version). w.older) (sym ends) ∙ e.is, sym r.2 ∙ ap (object_from vs) same)

  pub listed_in_file : (o : Object) (s : Stored) → Has f.stored s → Has (objects_formed vs) o → Has o.versions (read_as s) → (rows : List Row) → f.stored ≡ stored_of rows → (listing : List Oid)
      → IsListing rows (member_as s) listing → listing ≡ map oid_in (listed o.versions)
  listed_in_file o s inside formed own rows read listing is =
      let m = in_sorted s inside in
      let members : is.members ≡ ms = members_are rows read is.members is.same is.ordered in
      let c = climbed_alike (length vs) s m in
      let object = object_is o s c.t m c.there c.number formed own in
      is.oids_are ∙ ap (λ (l : List Member). map oid_of_member (lineage.listed l (member_as s))) members
      ∙ ap (λ (n : ℕ). map oid_of_member (lineage.listed_from n ms (first_from n ms (member_as s)))) as_many
      ∙ ap (λ (x : Member). map oid_of_member (lineage.listed_from (length vs) ms x)) c.member
      ∙ listed_alike (length vs) c.t c.there
      ∙ ap (map oid_in) (sym (listed_object vs linked (read_as c.t) (in_versions c.t c.there) object.0))
      ∙ sym (ap (λ (x : Object). map oid_in (listed x.versions)) object.1)
