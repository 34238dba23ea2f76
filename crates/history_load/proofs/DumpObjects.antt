-- Where a dump was written, the trees of its objects lie apart from each other and from the pages of its files.
use Rattle.std.proofs.Common.{◌≡◌, ◌++◌, ℕ, List, [], ◌∷◌, map, Option, Some, None, refl, sym, subst, ap, ◌∙◌}
use Rattle.std.specs.Prelude.{Contains}
use Rattle.std.specs.List.{AllByRecursion, flat_map}
use Rattle.std.proofs.lemmas.List.Concat.{flat_map-append}
use Rattle.ex_base.specs.declared.geometry.Geometry.{Geometry}
use Rattle.ex_base.specs.declared.names.Place.{Place}
use Rattle.ex_base.specs.declared.names.Root.{Root}
use Rattle.ex_base.specs.Area.{catalog_no}
use Rattle.ex_base.specs.Order.{AllDiffer}
use Rattle.object_files.specs.Catalog.{Catalog}
use Rattle.object_records.specs.Record.{Content}
use Rattle.table_model.specs.declared.table.Table.{Table}
use Rattle.table_model.specs.declared.table.TableFile.{TableFile}
use Rattle.table_model.specs.Tables.{objects_of, versions_of}
use Rattle.trees.specs.Trees.{Units, root_units}
use Rattle.version_lists.specs.declared.version.Object.{Object}
use Rattle.version_lists.specs.declared.version.Version.{Version}
use Rattle.version_lists.specs.Objects.{IsTree}
use Rattle.version_lists.specs.Versions.{unique_of as number_of}
use Rattle.version_lists.proofs.Forming.{is_first_from}
use Rattle.version_lists.proofs.Lists.{Has, all_has, contains_has, has_contains, has_flat, has_flat_from, has_map_from}
use Rattle.version_lists.proofs.Trees.{root_of}
use Rattle.volume_model.specs.Links.{Apart, HasObjects, place_in, stored_units}
use Rattle.volume_model.specs.Parts.{HasBodies}
use Rattle.volume_model.specs.Volume.{FileContent, Stored, Volume, file_pages, number_at, number_if, root_in, roots_in, stored_in, unique_of}
use Rattle.volume_model.proofs.Places.{Sep, each_has, has_each, has_stands, sep_from, sep_one, sep_parted}
use Rattle.volume_model.proofs.Standing.{files_at, numbers_apart}
use Rattle.restart.specs.Content.{volume_of}
use Rattle.history_model.specs.Dumps.{IsHistoryOf}
use Rattle.history_model.specs.History.{History, HistoryFile, all_versions}
use Rattle.history_model.specs.Stream.{number_or_none}
use Rattle.history_model.specs.Trees.{Gives, Piece, pieces_of, pieces_rooted}
use Rattle.history_volumes.specs.Transcribed.{piece_place}
use Rattle.history_volumes.proofs.Named.{large_content}
use Rattle.history_writes.specs.Files.{HasNewer, HasOlder}
use Rattle.history_load.specs.Pieces.{IsPieceOf}
use Rattle.history_load.specs.Written.{AreWellPlaced, IsWrittenAt}
use Rattle.history_load.proofs.DumpLinks.{linked, object_of, older_there}
use Rattle.history_load.proofs.DumpVersions.{InObject, OfFile, OfRecord, differ, in_object, in_table, number_is, numbers_differ, of_file, of_record}
use Rattle.history_load.proofs.ObjectIndex.{HasNumber, at_index, index_of, same_index}
use Rattle.history_load.proofs.OneContent.{HasRecords}
use Rattle.history_load.proofs.StandingPieces.{own_root}
use Rattle.history_load.proofs.TreePieces.{of_root, units_of_pieces}

-- the versions of all objects, file by file
by_files : (files : List TableFile) → flat_map (λ (o : Object). o.versions) (flat_map (λ (f : TableFile). f.objects) files) ≡ flat_map (λ (f : TableFile). flat_map (λ (o : Object). o.versions) f.objects) files
by_files [] = refl
by_files (f ∷ files) =
    flat_map-append (λ (o : Object). o.versions) f.objects (flat_map (λ (k : TableFile). k.objects) files)
    ∙ ap (λ (vs : List Version). flat_map (λ (o : Object). o.versions) f.objects ++ vs) (by_files files)

module _ (g : Geometry) (h : History) (t : Table) (units : Units) (c : Catalog) (leaf node : ℕ → ℕ) (of : IsHistoryOf g h t) (w : IsWrittenAt g units h c.entries leaf node) (well : AreWellPlaced h w.contents leaf node) where
  abbrev v : Volume
  v = volume_of c w.contents

  -- ---- the records of each file

  abbrev File : FileContent → Type 0
  File x = OfFile g h t leaf node of x

  pub file_of : (x : FileContent) → Has w.contents x → File x
  file_of x there = of_file g h t leaf node of units c.entries w.contents w.pages w.on x there

  pub numbers : AllDiffer (map unique_of (stored_in v))
  numbers = numbers_differ g h t leaf node of units c.entries w.contents w.pages w.on

  numbers_apart_in : Sep unique_of (stored_in v)
  numbers_apart_in = sep_from unique_of (stored_in v) numbers

  apart_in_file : (x : FileContent) → Has w.contents x → Sep unique_of x.stored
  apart_in_file x there = each_has (λ (y : FileContent). Sep unique_of y.stored) w.contents (sep_parted unique_of (λ (y : FileContent). y.stored) w.contents numbers_apart_in) x there

  olders : (x : FileContent) → Has w.contents x → AllByRecursion (HasOlder x.stored) x.stored
  olders x there = each_has (λ (y : FileContent). AllByRecursion (HasOlder y.stored) y.stored) w.contents well.older x there

  newers : (x : FileContent) → Has w.contents x → AllByRecursion (HasNewer x.stored) x.stored
  newers x there = each_has (λ (y : FileContent). AllByRecursion (HasNewer y.stored) y.stored) w.contents well.newer x there

  pub bodies : AllByRecursion HasBodies w.contents
  bodies = has_each HasBodies w.contents (λ x there. record {
    records = each_has HasRecords w.contents w.records x there;
    linked = linked g h t leaf node of x (file_of x there) (apart_in_file x there) (olders x there) (newers x there);
  })

  places_apart : Sep place_in (stored_in v)
  places_apart = numbers_apart units (stored_in v) (files_at units c.entries w.contents w.pages bodies) numbers_apart_in

  -- a record is one of a file, and a version
  pub record Among (s : Stored) : Type 0 where
    pub file : FileContent
    pub in_contents : Has w.contents file
    pub there : Has file.stored s
    pub is : OfRecord g h t leaf node of file (file_of file in_contents) s

  pub among : (s : Stored) → Has (stored_in v) s → Among s
  among s there =
      let file = has_flat_from (λ (x : FileContent). x.stored) w.contents s there in
      record { file = file.0; in_contents = file.1; there = file.2; is = of_record g h t leaf node of file.0 (file_of file.0 file.1) s file.2 }

  pub own_there : (s : Stored) (a : Among s) → Has (all_versions h) a.is.own
  own_there s a = let f = file_of a.file a.in_contents in has_flat (λ (x : HistoryFile). x.versions) h.files f.file a.is.own f.among a.is.there

  pub number_same : (s : Stored) (a : Among s) → unique_of s ≡ number_of a.is.version
  number_same s a = number_is g h t leaf node of a.file (file_of a.file a.in_contents) s a.is

  pub object_is : (s : Stored) (a : Among s) → InObject g h t leaf node of (file_of a.file a.in_contents).table_file a.is.version
  object_is s a = in_object g h t leaf node of (file_of a.file a.in_contents).table_file a.is.version (file_of a.file a.in_contents).of_table a.is.listed

  -- ---- objects

  abbrev objects : List Object
  objects = objects_of t

  all_apart : Sep number_of (flat_map (λ (o : Object). o.versions) objects)
  all_apart = subst (Sep number_of) (sym (by_files t.files)) (differ g h t leaf node of)

  label : Place → ℕ
  label place = index_of objects (number_or_none (number_at (stored_in v) (Some place)))

  label_is : (s : Stored) → Has (stored_in v) s → label s.place ≡ index_of objects (unique_of s)
  unfolding label
  label_is s there = ap (λ (found : Option Stored). index_of objects (number_or_none (number_if found))) (has_stands (stored_in v) s.place s places_apart there refl)

  in_its_object : (s : Stored) → Has (stored_in v) s → (o : Object) × Has objects o × HasNumber o (unique_of s)
  in_its_object s there =
      let a = among s there in
      let object = object_is s a in
      (object.object, object.among, (a.is.version, object.there, sym (number_same s a)))

  joined : (s older : Stored) → Has (stored_in v) s → Has (stored_in v) older → s.body.head.older ≡ Some older.place → label s.place ≡ label older.place
  joined s older there also is =
      let a = among s there in
      let f = file_of a.file a.in_contents in
      let object = object_of g h t leaf node of a.file f (apart_in_file a.file a.in_contents) (olders a.file a.in_contents) (newers a.file a.in_contents) s a.is in
      let o = older_there g h t leaf node of a.file f (apart_in_file a.file a.in_contents) (olders a.file a.in_contents) (newers a.file a.in_contents) s a.is older.place a.there is in
      let same = sep_one place_in (stored_in v) o.at older places_apart (has_flat (λ (x : FileContent). x.stored) w.contents a.file o.at a.in_contents o.there) also o.place_is in
      let index = same_index objects object.object (unique_of s) (unique_of o.at) all_apart object.among (a.is.version, object.there, sym (number_same s a))
      (o.own.version, o.in_object, sym (number_is g h t leaf node of a.file f o.at o.own)) in
      label_is s there ∙ index ∙ ap (λ (x : Stored). index_of objects (unique_of x)) same ∙ sym (label_is older also)

  tree_of : (object : Object) → Has objects object → IsTree object.versions
  tree_of object there = all_has (λ (o : Object). IsTree o.versions) objects of.rules.trees object there

  -- the version with the number of a record without an older one is the first of its object
  first_is : (s : Stored) (object : Object) (there : Has objects object) (has : HasNumber object (unique_of s)) → Has (stored_in v) s → s.body.head.older ≡ None → has.0 ≡ (root_of object.versions (tree_of object there)).first
  first_is s object there has here none =
      let a = among s here in
      let own = object_is s a in
      let same = sep_one number_of (versions_of t) has.0 a.is.version (differ g h t leaf node of) (in_table g h t leaf node of object has.0 there has.1)
      (in_table g h t leaf node of own.object a.is.version own.among own.there) (has.2 ∙ number_same s a) in
      let older : has.0.older ≡ None = ap (λ (x : Version). x.older) same ∙ sym a.is.is.older ∙ a.is.on.older ∙ ap (number_at a.file.stored) none in
      (root_of object.versions (tree_of object there)).only has.0 has.1 (is_first_from has.0 older)

  one_first : (s r : Stored) → Has (stored_in v) s → Has (stored_in v) r → s.body.head.older ≡ None → r.body.head.older ≡ None → label s.place ≡ label r.place → s.place ≡ r.place
  one_first s r there also none neither same =
      let one = at_index objects (unique_of s) (unique_of r) (in_its_object s there) (in_its_object r also) (sym (label_is s there) ∙ same ∙ label_is r also) in
      let version = first_is s one.0 one.1 one.2 there none ∙ sym (first_is r one.0 one.1 one.3 also neither) in
      ap place_in (sep_one unique_of (stored_in v) s r numbers_apart_in there also (sym one.2.2 ∙ ap number_of version ∙ one.3.2))

  -- ---- the units of trees

  -- a unit of a record's tree is the place of a piece of its version's
  pub record UnitPiece (content : Content) (unit : ℕ) : Type 0 where
    pub piece : Piece
    pub there : Has (pieces_of h content) piece
    pub is : IsPieceOf h piece
    pub place : piece_place leaf node piece ≡ unit

  pub unit_piece : (s : Stored) (a : Among s) (unit : ℕ) → Has (stored_units units s) unit → UnitPiece a.is.own.content unit
  unit_piece s a unit there =
      let root = has_flat_from (root_units units) (root_in s.body.content) unit there in
      let own = own_root leaf node a.is.own.content root.0 (sym a.is.on.content ∙ large_content s.body.content root.0 root.1) in
      let gives = subst (λ (content : Content). Gives g h content a.is.version.bytes) own.large a.is.is.bytes in
      let here = subst (λ (r : Root). Has (root_units units r) unit) (sym own.placed) root.2 in
      let from = has_map_from (piece_place leaf node) (pieces_rooted h own.own.height own.own.page) unit
      (subst (λ (us : List ℕ). Has us unit) (units_of_pieces g h units leaf node w.transcribed own.own.height own.own.size own.own.page gives.0) here) in
      record {
        piece = from.0;
        there = subst (λ (content : Content). Has (pieces_of h content) from.0) (sym own.large) from.1;
        is = of_root g h units leaf node w.transcribed own.own.height own.own.size own.own.page from.0 gives.0 from.1;
        place = from.2;
      }

  shared : (s r : Stored) (unit : ℕ) → Has (stored_in v) s → Has (stored_in v) r → Has (stored_units units s) unit → Has (stored_units units r) unit → label s.place ≡ label r.place
  shared s r unit there also here too =
      let a = among s there in
      let b = among r also in
      let p = unit_piece s a unit here in
      let q = unit_piece r b unit too in
      let same = w.apart p.piece q.piece p.is q.is (p.place ∙ sym q.place) in
      let one = of.apart a.is.own b.is.own q.piece (has_contains (all_versions h) a.is.own (own_there s a)) (has_contains (all_versions h) b.is.own (own_there r b))
      (has_contains (pieces_of h a.is.own.content) q.piece (subst (Has (pieces_of h a.is.own.content)) same p.there)) (has_contains (pieces_of h b.is.own.content) q.piece q.there) in
      let x = has_map_from number_of one.0.versions a.is.own.unique (contains_has (map number_of one.0.versions) a.is.own.unique one.2) in
      let y = has_map_from number_of one.0.versions b.is.own.unique (contains_has (map number_of one.0.versions) b.is.own.unique one.3) in
      label_is s there
      ∙ same_index objects one.0 (unique_of s) (unique_of r) all_apart (contains_has objects one.0 one.1) (x.0, x.1, x.2 ∙ a.is.on.unique) (y.0, y.1, y.2 ∙ b.is.on.unique)
      ∙ sym (label_is r also)

  pub has_objects : HasObjects units (stored_in v)
  has_objects = record {
    object = label;
    joined = λ s older there also is. joined s older (contains_has (stored_in v) s there) (contains_has (stored_in v) older also) is;
    one_first = λ s r there also none neither same. one_first s r (contains_has (stored_in v) s there) (contains_has (stored_in v) r also) none neither same;
    apart = λ s r there also differs. has_each (λ (unit : ℕ). ¬ Contains (stored_units units r) unit) (stored_units units s) (λ unit here too.
        differs (shared s r unit (contains_has (stored_in v) s there) (contains_has (stored_in v) r also) here (contains_has (stored_units units r) unit too)));
  }

  off_pages : (root : Root) → Has (roots_in (stored_in v)) root → (unit : ℕ) → Has (root_units units root) unit → ¬ Contains (catalog_no ∷ file_pages v) unit
  off_pages root there unit here =
      let s = has_flat_from (λ (x : Stored). root_in x.body.content) (stored_in v) root there in
      let p = unit_piece s.0 (among s.0 s.1) unit (has_flat (root_units units) (root_in s.0.body.content) root unit s.2 here) in
      subst (λ (u : ℕ). ¬ Contains (catalog_no ∷ file_pages v) u) p.place (well.off p.piece p.is)

  pub no_file_page : AllByRecursion (λ (root : Root). Apart (root_units units root) (catalog_no ∷ file_pages v)) (roots_in (stored_in v))
  no_file_page = has_each (λ (root : Root). Apart (root_units units root) (catalog_no ∷ file_pages v)) (roots_in (stored_in v))
      (λ root there. has_each (λ (unit : ℕ). ¬ Contains (catalog_no ∷ file_pages v) unit) (root_units units root) (off_pages root there))
