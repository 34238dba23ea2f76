-- The version that another one of a table is derived from.
use Rattle.std.proofs.Common.{◌≡◌, ◌↔◌, ◌∙◌, ℕ, ◌≤◌, Bool, true, false, true≢false, length, Option, Some, refl, sym, ap, arith, inl, inr}
use Rattle.std.specs.Prelude.{find, nat_le, ◌==◌}
use Rattle.std.proofs.lemmas.Bool.{cases_Bool, eqb-true, eq-eqb, leb-true, le-leb}
use Rattle.ex_base.specs.declared.geometry.Geometry.{Geometry}
use Rattle.ex_base.specs.declared.names.Oid.{Oid}
use Rattle.version_lists.specs.declared.version.Version.{Version}
use Rattle.version_lists.specs.Versions.{derived_from, has_oid, numbered_in, unique_of}
use Rattle.version_lists.proofs.Lists.{Has, contains_has, find_has, find_none, has_length}
use Rattle.version_lists.proofs.Links.{has_derived, number_from_oid, older_of}
use Rattle.table_model.specs.declared.table.Table.{Table}
use Rattle.table_model.specs.Refusals.{branches_if, has_one, is_only_one}
use Rattle.table_model.specs.Tables.{IsTable, all_in, version_at, versions_of}
use Rattle.table_model.proofs.Found.{only}
use Rattle.table_model.proofs.TableRules.{file_linked, has_file, in_file}
use Rattle.volume_edits.proofs.Finding.{found_or_not, same_as_oid}

module _ (g : Geometry) (t : Table) (is : IsTable g t) (oid : Oid) (v : Version) (named : version_at t oid ≡ Some v) (number : ℕ) (older : v.older ≡ Some number) where
  inside : Has (versions_of t) v
  inside = (find_has (has_oid oid) (versions_of t) v named).0

  -- It is there, and frozen. At least the one that names it is derived from it.
  pub record IsOlderOf (w : Version) : Type 0 where
    pub there : Has (versions_of t) w
    pub number_is : unique_of w ≡ number
    pub frozen : w.frozen ≡ true
    pub derived : 1 ≤ length (derived_from number (versions_of t))

  pub older_there : (w : Version) × IsOlderOf w
  older_there =
      let file = in_file t v inside in
      let linked = file_linked g t is file.0 file.1 in
      let named_older = older_of (all_in file.0) v number (linked.1 v file.2) older in (
        named_older.older,
        record {
          there = has_file t file.0 named_older.older file.1 (contains_has (all_in file.0) named_older.older named_older.there);
          number_is = named_older.number_is;
          frozen = named_older.frozen;
          derived = has_length (derived_from number (versions_of t)) v (has_derived (versions_of t) number v inside older);
        },
      )

  -- what a test of numbers or of identifiers finds is it
  found_by : (p : Version → Bool) (w : Version) → Has (versions_of t) w → p w ≡ true → ((x : Version) → p x ≡ true → unique_of x ≡ unique_of w) → find p (versions_of t) ≡ Some w
  found_by p w there test one = elim (found_or_not (find p (versions_of t))) [
    | inl none ↦ absurd (true≢false (sym test ∙ find_none p (versions_of t) none w there))
    | inr some ↦
        let found = find_has p (versions_of t) some.0 some.1 in
        some.1 ∙ ap (λ (x : Version). let o : Option Version = Some x in o) (only g t is some.0 w found.0 there (one some.0 found.1))
  ]

  pub numbered_is : numbered_in (versions_of t) v.older ≡ Some older_there.0
  numbered_is =
      let w = older_there.0 in
      let o = older_there.1 in
      ap (numbered_in (versions_of t)) older
      ∙ found_by (λ (x : Version). unique_of x == number) w o.there (eq-eqb (unique_of w) number o.number_is) (λ x test. eqb-true (unique_of x) number test ∙ sym o.number_is)

  -- the OID of the one that a list tells is that of a version of the table
  pub named_there : version_at t older_there.0.oid ≡ Some older_there.0
  named_there =
      let w = older_there.0 in
      found_by (has_oid w.oid) w older_there.1.there (same_as_oid w.oid w.oid refl) (λ x test. number_of x w.oid test)
    where
      number_of : (x : Version) (o : Oid) → has_oid o x ≡ true → unique_of x ≡ o.unique
      number_of x o test = number_from_oid o x test

  -- the test of the only one, by how many are derived from the older one
  pub only_by_branches : (newer : Bool) → (newer ≡ true ↔ (branches_if (versions_of t) (Some older_there.0) ≡ 1)) → newer ≡ is_only_one (versions_of t) (Some v)
  only_by_branches newer tells = by newer tells ∙ sym (ap (has_one (versions_of t)) older)
    where
      many : branches_if (versions_of t) (Some older_there.0) ≡ length (derived_from number (versions_of t))
      many = ap (λ (n : ℕ). length (derived_from n (versions_of t))) older_there.1.number_is

      by : (b : Bool) → (b ≡ true ↔ (branches_if (versions_of t) (Some older_there.0) ≡ 1)) → b ≡ nat_le (length (derived_from number (versions_of t))) 1
      by true h = sym (le-leb (length (derived_from number (versions_of t))) 1 (let one = sym many ∙ h.0 refl in omega (arith, one)))
      by false h = elim (cases_Bool (nat_le (length (derived_from number (versions_of t))) 1)) [
        | inl few ↦ absurd (true≢false (sym (h.1 (many ∙ (let le = leb-true (length (derived_from number (versions_of t))) 1 few in let one = older_there.1.derived in omega (arith, le, one))))))
        | inr not_few ↦ sym not_few
      ]
