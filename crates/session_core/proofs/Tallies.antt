-- How many objects and versions a port that shows a view counts in a file.
use Rattle.std.proofs.Common.{◌≡◌, ◌∙◌, ◌+◌, ℕ, Bool, true, false, cond, ltb, List, [], ◌∷◌, length, map, Option, Some, None, sym, ap, arith, inl, inr, refl}
use Rattle.std.specs.Prelude.{◌↔◌, Contains, filter, is_none}
use Rattle.std.specs.List.{AllZip, count_by}
use Rattle.std.proofs.lemmas.List.{length-map}
use Rattle.std.proofs.lemmas.List.Sorted.{length_permutation}
use Rattle.std.proofs.lemmas.List.Sums.{length-filter}
use Rattle.std.proofs.lemmas.Option.{none-some}
use Rattle.ex_base.specs.declared.ground.Ground as ground
use Rattle.ex_base.proofs.Each.{each_of}
use Rattle.ex_base.proofs.Members.{contains_in, in_contains}
use Rattle.ex_base.specs.declared.names.Index.{Index}
use Rattle.file_bodies.specs.Bodies.{Row, bodies_of}
use Rattle.file_bodies.specs.Files.{HasFile}
use Rattle.object_files.specs.Catalog.{FileEntry}
use Rattle.object_records.specs.Record.{Record}
use Rattle.object_records.proofs.RecordLaws.{record_read}
use Rattle.session_views.specs.View.{View}
use Rattle.table_model.specs.declared.table.Table.{Table}
use Rattle.table_model.specs.declared.table.TableFile.{TableFile}
use Rattle.table_model.specs.Machines.{shown}
use Rattle.table_model.specs.Tables.{file_at, versions_in}
use Rattle.trees.specs.Trees.{Units}
use Rattle.version_lists.specs.Objects.{objects_formed}
use Rattle.version_lists.specs.Sorted.{in_order, put_by}
use Rattle.version_lists.specs.Versions.{unique_of as number_of, is_first as is_first_version}
use Rattle.version_lists.proofs.Forming.{as_many_objects, formed_permutation}
use Rattle.version_lists.proofs.Lists.{Has, contains_has, filter_cons, has_contains}
use Rattle.version_lists.proofs.Sorted.{order_permutation}
use Rattle.version_tree.specs.declared.lineage.Member.{Member}
use Rattle.version_tree.specs.Lineage.{member_of}
use Rattle.volume_edits.specs.Ported.{HasContent, index_named, units_in}
use Rattle.volume_edits.proofs.Branches.{first_told}
use Rattle.volume_edits.proofs.Contents.{content_of, pairs}
use Rattle.volume_edits.proofs.FileVersions.{IsFile, linked_file}
use Rattle.volume_edits.proofs.Finding.{file_in}
use Rattle.volume_edits.proofs.Listed.{beside_entry, file_there}
use Rattle.volume_edits.proofs.Lists.{as_long}
use Rattle.volume_edits.proofs.Showing.{apart_numbers, whole}
use Rattle.volume_model.specs.Parts.{IsStored}
use Rattle.volume_model.specs.Volume.{FileContent, Stored, file_of, version_of, versions_stored}
use Rattle.session_core.specs.declared.session.tally.Tally.{Tally}
use Rattle.session_core.specs.Finding.{IfPortFile, PortShows}
use Rattle.session_core.specs.Sessions.{SessionState}
use Rattle.session_core.specs.Tallies.{IsTally, is_first, objects_if, versions_if}

-- ---- how many items of a list pass, in an order of them

abbrev one_if : Bool → ℕ
one_if b = cond b 1 0

put_passes : {A : Type 0} (p : A → Bool) (key : A → ℕ) (x : A) (xs : List A) → length (filter p (put_by key x xs)) ≡ cond (p x) 1 0 + length (filter p xs)
put_passes p key x [] = filter_cons p x []
put_passes p key x (y ∷ ys) = placed (ltb (key x) (key y)) (put_passes p key x ys)
  where
    placed : (b : Bool) → length (filter p (put_by key x ys)) ≡ cond (p x) 1 0 + length (filter p ys) → length (filter p (cond b (x ∷ (y ∷ ys)) (y ∷ put_by key x ys))) ≡ cond (p x) 1 0 + length (filter p (y ∷ ys))
    placed true rest = filter_cons p x (y ∷ ys)
    placed false rest = omega (arith, rest, filter_cons p y (put_by key x ys), filter_cons p y ys)

order_passes : {A : Type 0} (p : A → Bool) (key : A → ℕ) (xs : List A) → length (filter p (in_order key xs)) ≡ length (filter p xs)
order_passes p key [] = refl
order_passes p key (x ∷ xs) = omega (arith, put_passes p key x (in_order key xs), filter_cons p x xs, order_passes p key xs)

-- ---- the records of a file

same_none : {A B : Type 0} (a : Option A) (b : Option B) → (a ≡ None) ↔ (b ≡ None) → is_none a ≡ is_none b
same_none None None both = refl
same_none None (Some y) both = absurd (none-some y (sym (both.0 refl)))
same_none (Some x) None both = absurd (none-some x (sym (both.1 refl)))
same_none (Some x) (Some y) both = refl

module _ (units : Units) (all : List Stored) (told : (x : Stored) → Has all x → (x.body.head.older ≡ None) ↔ ((version_of units all x).older ≡ None)) where
  -- the records without an older place are the versions without an older one
  firsts_read : (rows : List Row) (stored : List Stored) → ((x : Stored) → Has stored x → Has all x) → AllZip IsStored rows stored
      → length (filter is_first (map member_of rows)) ≡ length (filter is_first_version (map (version_of units all) stored))
  firsts_read [] [] inside h = refl
  firsts_read [] (s ∷ stored) inside h = absurd h
  firsts_read (row ∷ rows) [] inside h = absurd h
  firsts_read (row ∷ rows) (s ∷ stored) inside h =
      let same : is_first (member_of row) ≡ is_first_version (version_of units all s) =
      ap (λ (r : Record). is_none r.head.older) (record_read row.1 s.body h.0.1) ∙ same_none s.body.head.older (version_of units all s).older (told s (inside s (inl refl))) in
      let counts : one_if (is_first (member_of row)) ≡ one_if (is_first_version (version_of units all s)) = ap one_if same in
      omega (
        arith,
        counts,
        filter_cons is_first (member_of row) (map member_of rows),
        filter_cons is_first_version (version_of units all s) (map (version_of units all) stored),
        firsts_read rows stored (λ x k. inside x (inr k)) h.1,
      )

-- a file has as many objects as records without an older place,
objects_counted : (units : Units) (f : FileContent) (rows : List Row) → ((x : Stored) → Has f.stored x → (x.body.head.older ≡ None) ↔ ((version_of units f.stored x).older ≡ None)) → AllZip IsStored rows f.stored
    → count_by is_first (map member_of rows) ≡ length (objects_formed (versions_stored units f.stored))
objects_counted units f rows told h =
    sym (length-filter is_first (map member_of rows))
    ∙ firsts_read units f.stored told rows f.stored (λ x k. k) h
    ∙ sym (order_passes is_first_version number_of (map (version_of units f.stored) f.stored))
    ∙ sym (as_many_objects (versions_stored units f.stored))

-- and as many versions as records.
versions_counted : (units : Units) (e : FileEntry) (f : FileContent) (rows : List Row) → IsFile f → AllZip IsStored rows f.stored → length (map member_of rows) ≡ length (versions_in (file_of units (e, f)))
versions_counted units e f rows whole h =
    length-map rows member_of
    ∙ as_long IsStored rows f.stored h
    ∙ sym (length-map f.stored (version_of units f.stored))
    ∙ sym (length_permutation (map (version_of units f.stored) f.stored) (versions_stored units f.stored) (order_permutation number_of (map (version_of units f.stored) f.stored)))
    ∙ sym (length_permutation (versions_stored units f.stored) (versions_in (file_of units (e, f))) (formed_permutation (versions_stored units f.stored) (linked_file units f whole)))

-- ---- through a port

module _ {S : Type 0} (g : ground.Ghosts S) (s : S) where
  tallied : {before : View SessionState} (shows : PortShows g s before) (e : FileEntry) (members : List Member) (t : Tally) → Contains shows.working.catalog.entries e → members ≡ map member_of (bodies_of (g.image s) (index_named e))
      → t.objects ≡ count_by is_first members → t.versions ≡ length members → IsTally before.machine e.name t
  tallied {before} shows e members t there are objects versions =
      let v = shows.working in
      let vol = shows.volume in
      let records = shows.records in
      let U : Units = units_in g s in
      let rows = bodies_of (g.image s) (index_named e) in
      let at = beside_entry v.catalog.entries v.files e (pairs g s records v vol) (in_contains e v.catalog.entries there) in
      let f : FileContent = at.0 in
      let content : HasContent g s e f = content_of g s records v vol e at.0 at.1 in
      let own : Has v.files f = contains_has v.files at.0 (contains_in at.0 v.files (file_in v e at.0 at.1)) in
      let named : file_at (shown before.machine) e.name ≡ Some (file_of U (e, f)) = ap (λ (table : Table). file_at table e.name) shows.table ∙ file_there g s records v vol e at.0 at.1 in
      let is_file : IsFile f = each_of IsFile v.files at.0 (whole g s records v vol) (has_contains v.files at.0 own) in
      record {
        objects = objects ∙ ap (count_by is_first) are
            ∙ objects_counted U at.0 rows (first_told U v.catalog.entries v.files (pairs g s records v vol) (whole g s records v vol) (apart_numbers g s records v vol) at.0 own) content.records
            ∙ sym (ap (λ (o : Option TableFile). length (objects_if o)) named);
        versions = versions ∙ ap length are ∙ versions_counted U e at.0 rows is_file content.records ∙ sym (ap (λ (o : Option TableFile). length (versions_if o)) named);
      }

  -- what is counted of the versions of a file that were collected
  pub tallies : (file_no : ℕ) (members : List Member) (t : Tally) → (g.tells s → (index : Index) → HasFile g s index → index.file_no ≡ file_no → members ≡ map member_of (bodies_of (g.image s) index)) → t.objects ≡ count_by is_first members
      → t.versions ≡ length members → IfPortFile g s file_no (λ before name. IsTally before.machine name t)
  tallies file_no members t collected objects versions = λ before shows e there number.
      let v = shows.working in
      let at = beside_entry v.catalog.entries v.files e (pairs g s shows.records v shows.volume) (in_contains e v.catalog.entries there) in
      let content : HasContent g s e at.0 = content_of g s shows.records v shows.volume e at.0 at.1 in
      tallied shows e members t there (collected shows.tells (index_named e) content.file number) objects versions
