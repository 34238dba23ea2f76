-- The version that another one is derived from, and how many are derived from one.
use Rattle.std.proofs.Common.{◌≡◌, ◌∙◌, ℕ, List, [], ◌∷◌, length, Option, Some, None, true, refl, sym, ap, subst}
use Rattle.std.specs.Prelude.{◌↔◌, is_some, option_map, slice_get}
use Rattle.std.proofs.lemmas.List.Sorted.{length_permutation}
use Rattle.std.proofs.lemmas.List.{length-map}
use Rattle.ex_base.specs.declared.names.Oid.{Oid}
use Rattle.disk_model.specs.Outside.{Outside}
use Rattle.version_lists.specs.declared.version.Version.{Version}
use Rattle.version_lists.specs.Versions.{derived_from, unique_of}
use Rattle.table_model.specs.declared.table.Table.{Table}
use Rattle.table_model.specs.declared.machine.Machine.{Machine}
use Rattle.table_model.specs.Machines.{shown}
use Rattle.table_model.specs.Refusals.{branches_if, is_only_one}
use Rattle.table_model.specs.Steps.{oids}
use Rattle.table_model.specs.Tables.{IsTable, version_at, versions_of}
use Rattle.table_model.proofs.Keeping.{shown_is}
use Rattle.session_views.specs.View.{View, ShowsNow}
use Rattle.session_core.specs.Finding.{AreRelatives, IsFound, TellsVersion, oids_if}
use Rattle.session_core.specs.Meant.{meant}
use Rattle.session_core.specs.Sessions.{SessionState}
use Rattle.session_core.specs.declared.session.objects.Named.{Named}
use Rattle.session_core.specs.declared.session.relatives.Relation.TheVariants as relation
use Rattle.versions.specs.declared.finding.Found.{Found}
use Rattle.volume_edits.proofs.OlderVersion.{named_there, numbered_is, older_there, only_by_branches}

-- as many are listed as are derived
pub derived_counted : (m : Machine) (version : Version) (found : List Oid) → AreRelatives m version relation.Derived found → length found ≡ branches_if (versions_of (shown m)) (Some version)
derived_counted m version found are =
    length_permutation (oids (derived_from (unique_of version) (versions_of (shown m)))) found are.0
    ∙ length-map (derived_from (unique_of version) (versions_of (shown m))) (λ (w : Version). w.oid)

pub is_derived : {A : Type 0} (older : Option A) → is_some older ≡ true → older ≡ None → ⊥
is_derived None some is = absurd cc
is_derived (Some x) some is = absurd cc

module _ {w : Outside} {before : View SessionState} (now : ShowsNow meant w before) (version : Named) (told : TellsVersion before version.oid version.found) (derived : version.found.head.older ≡ None → ⊥) where
  abbrev t : Table
  t = shown before.machine

  pub rules : IsTable before.machine.geometry t
  rules = shown_is before.machine now.shows.rules

  pub number : (n : ℕ) × (told.version.older ≡ Some n)
  number = by told.version.older refl
    where
      by : (older : Option ℕ) → told.version.older ≡ older → (n : ℕ) × (told.version.older ≡ Some n)
      by None is = absurd (derived (told.first.1 is))
      by (Some n) is = (n, is)

  abbrev pub its_older : Version
  its_older = (older_there before.machine.geometry t rules version.oid told.version told.is number.0 number.1).0

  pub one_listed : (list : List Oid) → AreRelatives before.machine told.version relation.Older list → list ≡ its_older.oid ∷ []
  one_listed list are = are ∙ ap (λ (o : Option Version). oids_if (option_map (λ (x : Version). x.oid) o)) (numbered_is before.machine.geometry t rules version.oid told.version told.is number.0 number.1)

  pub first_listed : (list : List Oid) (first : Option Oid) → AreRelatives before.machine told.version relation.Older list → first ≡ slice_get list 0 → first ≡ Some its_older.oid
  first_listed list first are is = is ∙ ap (λ (l : List Oid). slice_get l 0) (one_listed list are)

  pub none_listed : (list : List Oid) → AreRelatives before.machine told.version relation.Older list → None ≡ slice_get list 0 → ⊥
  none_listed list are none = absurd (let both : Some its_older.oid ≡ None = sym (first_listed list None are none) in cc)

  module _ (later : View SessionState) (machine : later.machine ≡ before.machine) (oid : Oid) (is : oid ≡ its_older.oid) where
    found_later : version_at (shown later.machine) oid ≡ Some its_older
    found_later =
        ap (λ (m : Machine). version_at (shown m) oid) machine ∙ ap (version_at t) is
        ∙ named_there before.machine.geometry t rules version.oid told.version told.is number.0 number.1

    -- it is found,
    pub never_missing : IsFound later oid None → ⊥
    never_missing none = absurd (let both : Some its_older ≡ None = sym found_later ∙ none in cc)

    -- and its newer place says whether others are derived from it
    pub only_told : (found : Found) → TellsVersion later oid found → is_some found.head.newer ≡ is_only_one (versions_of t) (Some told.version)
    only_told found tells =
        let both : Some tells.version ≡ Some its_older = sym tells.is ∙ found_later in
        let same : tells.version ≡ its_older = cc in
        let frozen : tells.version.frozen ≡ true = ap (λ (x : Version). x.frozen) same ∙ (older_there before.machine.geometry t rules version.oid told.version told.is number.0 number.1).1.frozen in
        only_by_branches before.machine.geometry t rules version.oid told.version told.is number.0 number.1 (is_some found.head.newer)
        (subst (λ (x : Version). (is_some found.head.newer ≡ true) ↔ (branches_if (versions_of t) (Some x) ≡ 1)) same
        (subst (λ (m : Machine). (is_some found.head.newer ≡ true) ↔ (branches_if (versions_of (shown m)) (Some tells.version) ≡ 1)) machine (tells.one frozen)))
