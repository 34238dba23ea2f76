-- The large versions of a file, object by object.
use Rattle.std.proofs.Common.{◌≡◌, ◌<◌, List, [], ◌∷◌, ◌++◌, refl, sym, ap, subst, ◌∙◌, arith, true}
use Rattle.std.specs.Prelude.{Contains}
use Rattle.std.specs.List.{AllByRecursion}
use Rattle.object_records.specs.Record.{Large}
use Rattle.ex_base.specs.declared.names.Root.{Root}
use Rattle.ex_base.proofs.Each.{each_as}
use Rattle.ex_base.proofs.Members.{contains_none}
use Rattle.version_lists.specs.declared.version.Object.{Object}
use Rattle.version_lists.specs.Objects.{least_of}
use Rattle.volume_model.specs.Volume.{Stored, Volume, stored_in}
use Rattle.packing.specs.Dense.{is_of}
use Rattle.packing.specs.Loop.{AreOfObject, IsOfObject, KeepsRecords}
use Rattle.packing.specs.declared.objects.LargeVersion.{LargeVersion}

-- The versions are those of the first object, and behind them those of the others, each with its object's least number, which rises from one object to the next.
abbrev pub AreGrouped : Volume → List Object → List LargeVersion → Type 0
AreGrouped v [] versions = versions ≡ []
AreGrouped v (o ∷ objects) versions = (group : List LargeVersion) × (rest : List LargeVersion) × (versions ≡ group ++ rest) × AreOfObject v o group
    × AllByRecursion (λ (x : LargeVersion). x.least ≡ least_of o) group × AllByRecursion (λ (x : LargeVersion). least_of o < x.least) rest × AreGrouped v objects rest

-- An object without a large version.
abbrev pub HasNoLarge : Volume → Object → Type 0
HasNoLarge v o = (s : Stored) (root : Root) → Contains (stored_in v) s → is_of o s ≡ true → s.body.content ≡ Large root → ⊥

-- The first object of those left that has large versions, with them.
pub record NextGroup (v : Volume) (objects : List Object) (versions : List LargeVersion) : Type 0 where
  pub skipped : List Object
  pub object : Object
  pub behind : List Object
  pub parted : objects ≡ skipped ++ object ∷ behind
  pub none : AllByRecursion (HasNoLarge v) skipped
  pub first : LargeVersion
  pub more : List LargeVersion
  pub rest : List LargeVersion
  pub group : versions ≡ (first ∷ more) ++ rest
  pub are : AreOfObject v object (first ∷ more)
  pub same : AllByRecursion (λ (x : LargeVersion). x.least ≡ first.least) (first ∷ more)
  pub other : AllByRecursion (λ (x : LargeVersion). first.least < x.least) rest
  pub grouped : AreGrouped v behind rest

no_large : (v : Volume) (o : Object) → AreOfObject v o [] → HasNoLarge v o
no_large v o are = λ s root there is large. let version = are.all s root there is large in contains_none version.0 version.1

pub next_group : (v : Volume) (objects : List Object) (x : LargeVersion) (versions : List LargeVersion) → AreGrouped v objects (x ∷ versions) → NextGroup v objects (x ∷ versions)
next_group v [] x versions none = absurd (cc (none))
next_group v (o ∷ objects) x versions (group, rest, parted, are, same, other, grouped) = by_group (λ xs is. next_group v objects x versions (subst (AreGrouped v objects) (sym is) xs)) group parted are same
  where
    by_group : ((xs : AreGrouped v objects rest) → x ∷ versions ≡ rest → NextGroup v objects (x ∷ versions)) → (group : List LargeVersion) → x ∷ versions ≡ group ++ rest → AreOfObject v o group
        → AllByRecursion (λ (y : LargeVersion). y.least ≡ least_of o) group → NextGroup v (o ∷ objects) (x ∷ versions)
    by_group go [] is are same =
        let next = go grouped is in
        record {
          skipped = o ∷ next.skipped;
          object = next.object;
          behind = next.behind;
          parted = ap (λ (os : List Object). o ∷ os) next.parted;
          none = (no_large v o are, next.none);
          first = next.first;
          more = next.more;
          rest = next.rest;
          group = next.group;
          are = next.are;
          same = next.same;
          other = next.other;
          grouped = next.grouped;
        }
    by_group go (first ∷ more) is are same = record {
      skipped = [];
      object = o;
      behind = objects;
      parted = refl;
      none = tt;
      first = first;
      more = more;
      rest = rest;
      group = is;
      are = are;
      same = each_as (λ (y : LargeVersion). y.least ≡ least_of o) (λ (y : LargeVersion). y.least ≡ first.least) (first ∷ more) (λ y e. e ∙ sym same.0) same;
      other = each_as (λ (y : LargeVersion). least_of o < y.least) (λ (y : LargeVersion). first.least < y.least) rest (λ y lt. omega (arith, lt, same.0)) other;
      grouped = grouped;
    }

-- where the records of an object stay, its versions are the same
pub of_object_kept : (v now : Volume) (o : Object) (versions : List LargeVersion) → KeepsRecords v now o → AreOfObject v o versions → AreOfObject now o versions
of_object_kept v now o versions kept are = record {
  each = each_as (IsOfObject v o) (IsOfObject now o) versions (λ x is. let stored = is.1 in
      let both = kept is.0 is.2 in
      (is.0, record { there = both.0 stored.there; oid = stored.oid; large = stored.large }, is.2)) are.each;
  all = λ s root there is large.
      let both = kept s is in
      let version = are.all s root (both.1 there) is large in
      let stored = version.2 in
      (version.0, version.1, record { there = both.0 stored.there; oid = stored.oid; large = stored.large });
  once = are.once;
}

-- where no version is left, no object left has a large one
pub none_left : (v : Volume) (objects : List Object) → AreGrouped v objects [] → AllByRecursion (HasNoLarge v) objects
none_left v [] none = tt
none_left v (o ∷ objects) (group, rest, parted, are, same, other, grouped) = by_group (λ is. none_left v objects (subst (AreGrouped v objects) (sym is) grouped)) group parted are
  where
    by_group : ([] ≡ rest → AllByRecursion (HasNoLarge v) objects) → (group : List LargeVersion) → [] ≡ group ++ rest → AreOfObject v o group → AllByRecursion (HasNoLarge v) (o ∷ objects)
    by_group go [] is are = (no_large v o are, go is)
    by_group go (x ∷ more) is are = absurd (cc (is))
