-- How much of a stream was given.
use Rattle.std.proofs.Common.{◌≡◌, ◌≤◌, ◌+◌, ◌-◌, ℕ, zero, suc, Bool, true, false, List, [], ◌∷◌, ◌++◌, length, take, drop, Some, refl, sym, subst, ap, ◌∙◌, arith}
use Rattle.std.specs.Prelude.{nat_lt, if◌then◌else◌, slice_get, Contains, ◌↔◌}
use Rattle.std.specs.List.{AllByRecursion, AllZip}
use Rattle.std.proofs.lemmas.List.{drop-append-le, drop-drop, drop_all, length-append, length-drop, length-take, take-append-le}
use Rattle.std.proofs.lemmas.Option.{none-some, same_Some}
use Rattle.ex_base.specs.declared.ground.Ground as ground
use Rattle.ex_base.specs.declared.geometry.Geometry.{Geometry}
use Rattle.ex_base.specs.declared.names.Index.{Index}
use Rattle.ex_base.specs.Area.{InPageArea, area_end, catalog_no}
use Rattle.ex_base.specs.Bytes.{part}
use Rattle.ex_base.specs.Ports.{Keeps}
use Rattle.file_bodies.proofs.Entries.{entries_are}
use Rattle.object_files.specs.Catalog.{FileEntry}
use Rattle.object_files.specs.Edits.{entries_on}
use Rattle.op_log.specs.declared.record.LogRecord.{LogRecord}
use Rattle.trees.specs.Trees.{Units}
use Rattle.volume_model.specs.Parts.{HoldsOf, content_parts}
use Rattle.volume_model.specs.Volume.{Volume, file_pages}
use Rattle.volume_edits.specs.Ported.{ShowsVolume, index_named, units_in}
use Rattle.record_lists.specs.declared.Listed.{Listed}
use Rattle.history_model.specs.History.{History, HistoryFile, numbered}
use Rattle.history_model.specs.Stream.{StreamHead, stream_of}
use Rattle.history_volumes.proofs.Numbers.{numbered_from}
use Rattle.history_plans.specs.Plans.{IsPlanOf, StreamPlan}
use Rattle.history_dump.specs.Items.{IsListedVersion, IsPlannedLeaf, IsPlannedNode, ShowsStream, records_of}
use Rattle.history_dump.specs.Positions.{AreRecordsOf, IsAt, is_end, position_after, settled, stream_from, versions_before, versions_if}
use Rattle.history_dump.specs.Writing.{IsGiving, IsWriting, item_left}
use Rattle.history_dump.specs.declared.dumper.Dumper.{Dumper}
use Rattle.history_dump.specs.declared.items.Items.{Items}
use Rattle.history_dump.specs.declared.position.Position.{Position}
use Rattle.history_dump.specs.declared.position.Position.TheVariants.{Head, Leaf, Node, File, Version, End}
use Rattle.volume_model.proofs.FewRoots.{few_stored_in}
use Rattle.history_dump.proofs.Positions.{AreLong, HasCounts, settled_at, settled_bytes, settled_there}
use Rattle.history_dump.proofs.Shown.{stream_shown}
use Rattle.history_dump.proofs.Steps.{some_left, zip_long}

-- ---- bytes of a stream

-- what is given of an item is the next part of the stream
pub part_given : (stream left rest : List ℕ) (at n : ℕ) → left ++ rest ≡ drop at stream → n ≤ length left → take n left ≡ part stream at n
unfolding part
part_given stream left rest at n is le = sym (take-append-le n left rest le) ∙ ap (take n) is

pub rest_given : (stream left rest : List ℕ) (at n : ℕ) → left ++ rest ≡ drop at stream → n ≤ length left → drop n left ++ rest ≡ drop (at + n) stream
rest_given stream left rest at n is le = sym (drop-append-le n left rest le) ∙ ap (drop n) is ∙ drop-drop n at stream

pub inside_given : (stream left rest : List ℕ) (at n : ℕ) → left ++ rest ≡ drop at stream → at ≤ length stream → n ≤ length left → at + n ≤ length stream
inside_given stream left rest at n is inside le = omega (arith, ap length is, length-append left rest, length-drop at stream, inside, le)

pub all_given : (stream left rest : List ℕ) (at : ℕ) → left ++ rest ≡ drop at stream → at ≤ length stream → left ≡ [] → rest ≡ [] → at ≡ length stream
all_given stream left rest at is inside none end = omega (arith, ap length is, length-append left rest, length-drop at stream, ap length none, ap length end, inside)

-- ---- the item that was made last

pub left_len : (d : Dumper) → length (item_left d) ≡ d.end - d.given
left_len d = let inside = d.inside in omega (arith, length-drop d.given (take d.end d.room.items), length-take d.end d.room.items, inside)

pub left_none : (d : Dumper) → d.end ≤ d.given → item_left d ≡ []
left_none d all = drop_all d.given (take d.end d.room.items) (omega (arith, length-take d.end d.room.items, all))

-- ---- what a port shows

module _ {S : Type 0} (g : ground.Ghosts S) where
  pub shown_by : (s : S) (v : Volume) (h : History) (d : Dumper) (at : ℕ) → IsWriting g s v h d at → ShowsStream g s d.items.plan h
  shown_by s v h d at is = stream_shown g s is.records v h d.items.plan is.shows is.gives.on is.gives.plan (few_stored_in (g.geometry s) is.records (units_in g s) v is.shows.parts)

  module _ (s : S) (plan : StreamPlan) (h : History) (shows : ShowsStream g s plan h) where
    pub counts_of : HasCounts plan h
    counts_of = record {
      leaves = zip_long (IsPlannedLeaf g s) plan.leaves h.leaves shows.leaves;
      nodes = zip_long (IsPlannedNode g s plan) plan.nodes h.nodes shows.nodes;
      files = ap (λ (x : StreamHead). x.files) shows.head;
    }

    -- the records that are listed behind a file's head are those of its versions
    pub listed_versions : (next : ℕ) (records : List Listed) (f : HistoryFile) → AreRecordsOf (g.image s) next records → numbered h.files next ≡ Some f
        → (index : Index) × AllZip (IsListedVersion g s plan index) records f.versions
    listed_versions zero records f are is = absurd (none-some f is)
    listed_versions (suc at) records f are is =
        let file = shows.files at f is in
        let entries : entries_on (g.image s catalog_no) ≡ file.catalog.entries = entries_are (g.image s catalog_no) file.catalog file.spelled in
        let same : file.entry ≡ are.0 = same_Some file.entry are.0 (sym file.entry_is ∙ sym (ap (λ (es : List FileEntry). slice_get es at) entries) ∙ are.1) in
        let records_are : records_of (g.image s) (index_named file.entry) ≡ records = ap (λ (e : FileEntry). records_of (g.image s) (index_named e)) same ∙ sym are.2 in
        (index_named file.entry, subst (λ (rs : List Listed). AllZip (IsListedVersion g s plan (index_named file.entry)) rs f.versions) records_are file.versions)

    -- the file whose versions come
    pub file_before : (next : ℕ) (records : List Listed) → AreRecordsOf (g.image s) next records → next ≤ length h.files → (f : HistoryFile) × (numbered h.files next ≡ Some f)
    file_before zero records are le = absurd (none-some are.0 are.1)
    file_before (suc at) records are le = numbered_from h.files (suc at) (omega arith) le

    pub versions_listed : (next at : ℕ) (records : List Listed) → IsAt (g.image s) h (Version next at) records → (index : Index) × AllZip (IsListedVersion g s plan index) records (versions_before h next)
    versions_listed next at records is =
        let f = file_before next records is.2 is.1 in
        let listed = listed_versions next records f.0 is.2 f.1 in
        (listed.0, subst (AllZip (IsListedVersion g s plan listed.0) records) (sym (ap versions_if f.1)) listed.1)

    pub long_at : (records : List Listed) (position : Position) → IsAt (g.image s) h position records → AreLong h records position
    long_at records Head is = tt
    long_at records (Leaf at) is = tt
    long_at records (Node at) is = tt
    long_at records (File at) is = tt
    long_at records (Version next at) is = let listed = versions_listed next at records is in zip_long (IsListedVersion g s plan listed.0) records (versions_before h next) listed.1
    long_at records End is = tt

  -- ---- the same in a state that shows the same

  pub record IsSame (a b : S) : Type 0 where
    pub geometry : g.geometry b ≡ g.geometry a
    pub units : g.unit b ≡ g.unit a
    pub images : g.image b ≡ g.image a
    pub held : g.held b ≡ g.held a

  pub same_kept : (a b : S) → Keeps g a b → IsSame a b
  same_kept a b kept = record { geometry = g.leads_geometry a b kept.leads; units = kept.units; images = kept.images; held = kept.held }

  pub same_back : (a b : S) → IsSame a b → IsSame b a
  same_back a b is = record { geometry = sym is.geometry; units = sym is.units; images = sym is.images; held = sym is.held }

  abbrev units_by : Geometry → (ℕ → List ℕ) → (ℕ → List ℕ) → Units
  units_by geometry image unit u = if nat_lt u (area_end geometry) then image u else unit u

  same_units : (a b : S) → IsSame a b → units_in g b ≡ units_in g a
  same_units a b is =
      let one : units_by (g.geometry b) (g.image b) (g.unit b) ≡ units_by (g.geometry a) (g.image b) (g.unit b) = ap (λ (x : Geometry). units_by x (g.image b) (g.unit b)) is.geometry in
      let two : units_by (g.geometry a) (g.image b) (g.unit b) ≡ units_by (g.geometry a) (g.image a) (g.unit b) = ap (λ (x : ℕ → List ℕ). units_by (g.geometry a) x (g.unit b)) is.images in
      let three : units_by (g.geometry a) (g.image a) (g.unit b) ≡ units_by (g.geometry a) (g.image a) (g.unit a) = ap (λ (x : ℕ → List ℕ). units_by (g.geometry a) (g.image a) x) is.units in
      one ∙ two ∙ three

  same_shown : (a b : S) (records : List LogRecord) (v : Volume) → IsSame a b → ShowsVolume g a records v → ShowsVolume g b records v
  same_shown a b records v is shows = record {
    parts = subst (λ (u : Units). AllByRecursion (HoldsOf (g.geometry b) records u v) content_parts) (sym (same_units a b is))
        (subst (λ (x : Geometry). AllByRecursion (HoldsOf x records (units_in g a) v) content_parts) (sym is.geometry) shows.parts);
    held = λ page. subst (λ (f : ℕ → Bool). (f page ≡ true) ↔ Contains (catalog_no ∷ file_pages v) page) (sym is.held) (shows.held page);
    apart = λ page area off.
        let area_was : InPageArea (g.geometry a) page = subst (λ (x : Geometry). InPageArea x page) is.geometry area in
        ap (λ (f : ℕ → List ℕ). f page) is.images ∙ shows.apart page area_was (sym (ap (λ (f : ℕ → Bool). f page) is.held) ∙ off) ∙ sym (ap (λ (f : ℕ → List ℕ). f page) is.units);
  }

  pub writing_same : (a b : S) (v : Volume) (h : History) (d : Dumper) (at : ℕ) → IsSame a b → IsWriting g a v h d at → IsWriting g b v h d at
  writing_same a b v h d at is writing = record {
    records = writing.records;
    shows = same_shown a b writing.records v is writing.shows;
    gives = subst (λ (image : ℕ → List ℕ). IsGiving (g.geometry b) (units_in g b) image v h d at) (sym is.images)
        (subst (λ (u : Units). IsGiving (g.geometry b) u (g.image a) v h d at) (sym (same_units a b is))
        (subst (λ (x : Geometry). IsGiving x (units_in g a) (g.image a) v h d at) (sym is.geometry) writing.gives));
  }

  -- ---- an item more, and bytes of it

  -- What was made at a settled position is left, and what comes behind it.
  pub made_on : (s : S) (v : Volume) (h : History) (old new : Dumper) (at n : ℕ) (position : Position) → IsWriting g s v h old at → item_left old ≡ []
      → position ≡ settled old.items.plan (length old.items.records.items) old.position → new.items.plan ≡ old.items.plan → new.given ≡ 0 → new.end ≡ n → new.position ≡ position_after position
      → (stream_from (g.geometry s) h position ≡ take n new.room.items ++ stream_from (g.geometry s) h (position_after position)) × IsAt (g.image s) h (position_after position) new.items.records.items
      → IsWriting g s v h new at
  made_on s v h old new at n position is none settles plan given end place made =
      let geo = g.geometry s in
      let shows = shown_by s v h old at is in
      let long = long_at s old.items.plan h shows old.items.records.items old.position is.gives.position in
      let bytes : stream_from geo h position ≡ stream_from geo h old.position =
      ap (stream_from geo h) settles ∙ settled_bytes geo old.items.plan h (counts_of s old.items.plan h shows) (g.image s) old.items.records.items old.position is.gives.position long in
      let left : item_left new ≡ take n new.room.items = ap (λ (k : ℕ). drop k (take new.end new.room.items)) given ∙ ap (λ (k : ℕ). take k new.room.items) end in
      record {
        records = is.records;
        shows = is.shows;
        gives = record {
          on = is.gives.on;
          plan = subst (λ (p : StreamPlan). IsPlanOf geo (units_in g s) v p h) (sym plan) is.gives.plan;
          position = subst (λ (p : Position). IsAt (g.image s) h p new.items.records.items) (sym place) made.1;
          inside = is.gives.inside;
          left =
              ap (λ (p : Position). item_left new ++ stream_from geo h p) place ∙ ap (λ (xs : List ℕ). xs ++ stream_from geo h (position_after position)) left ∙ sym made.0 ∙ bytes
              ∙ sym (ap (λ (xs : List ℕ). xs ++ stream_from geo h old.position) none) ∙ is.gives.left;
        };
      }

  -- where no item is left to make
  pub ended : (s : S) (v : Volume) (h : History) (old new : Dumper) (at : ℕ) → IsWriting g s v h old at → new.items ≡ old.items → item_left new ≡ item_left old
      → new.position ≡ settled old.items.plan (length old.items.records.items) old.position → IsWriting g s v h new at
  ended s v h old new at is items left place =
      let geo = g.geometry s in
      let shows = shown_by s v h old at is in
      let long = long_at s old.items.plan h shows old.items.records.items old.position is.gives.position in
      let counts = counts_of s old.items.plan h shows in
      let bytes = settled_bytes geo old.items.plan h counts (g.image s) old.items.records.items old.position is.gives.position long in
      let there = settled_at geo old.items.plan h counts (g.image s) old.items.records.items old.position is.gives.position long in
      record {
        records = is.records;
        shows = is.shows;
        gives = record {
          on = is.gives.on;
          plan = subst (λ (x : Items). IsPlanOf geo (units_in g s) v x.plan h) (sym items) is.gives.plan;
          position = subst (λ (x : Items). IsAt (g.image s) h new.position x.records.items) (sym items) (subst (λ (p : Position). IsAt (g.image s) h p old.items.records.items) (sym place) there);
          inside = is.gives.inside;
          left = ap (λ (xs : List ℕ). xs ++ stream_from geo h new.position) left ∙ ap (λ (p : Position). item_left old ++ stream_from geo h p) place ∙ ap (λ (xs : List ℕ). item_left old ++ xs) bytes ∙ is.gives.left;
        };
      }

  -- Where all was given, no item is left to make.
  pub end_settled : (s : S) (v : Volume) (h : History) (d : Dumper) → IsWriting g s v h d (length (stream_of (g.geometry s) h)) → is_end (settled d.items.plan (length d.items.records.items) d.position) ≡ true
  end_settled s v h d is = by (is_end (settled d.items.plan (length d.items.records.items) d.position)) refl
    where
      by : (b : Bool) → is_end (settled d.items.plan (length d.items.records.items) d.position) ≡ b → b ≡ true
      by true e = refl
      by false e =
          let geo = g.geometry s in
          let plan = d.items.plan in
          let records = d.items.records.items in
          let shows = shown_by s v h d (length (stream_of geo h)) is in
          let long = long_at s plan h shows records d.position is.gives.position in
          let counts = counts_of s plan h shows in
          let bytes = settled_bytes geo plan h counts (g.image s) records d.position is.gives.position long in
          let at = settled_at geo plan h counts (g.image s) records d.position is.gives.position long in
          let there = settled_there plan (length records) d.position e in
          let some = some_left geo h plan counts records (settled plan (length records) d.position) there (long_at s plan h shows records (settled plan (length records) d.position) at) in
          absurd (omega (arith, some, ap length bytes, ap length is.gives.left, length-append (item_left d) (stream_from geo h d.position), length-drop (length (stream_of geo h)) (stream_of geo h)))

  -- and the item that was made last was given whole
  pub end_left : (s : S) (v : Volume) (h : History) (d : Dumper) → IsWriting g s v h d (length (stream_of (g.geometry s) h)) → length (item_left d) ≡ 0
  end_left s v h d is =
      let geo = g.geometry s in
      omega (arith, ap length is.gives.left, length-append (item_left d) (stream_from geo h d.position), length-drop (length (stream_of geo h)) (stream_of geo h))

  -- some bytes of the item that was made last
  pub given_on : (s : S) (v : Volume) (h : History) (old new : Dumper) (at n : ℕ) → IsWriting g s v h old at → n ≤ length (item_left old) → new.items ≡ old.items → new.position ≡ old.position → item_left new ≡ drop n (item_left old)
      → IsWriting g s v h new (at + n)
  given_on s v h old new at n is le items place left =
      let geo = g.geometry s in
      record {
        records = is.records;
        shows = is.shows;
        gives = record {
          on = is.gives.on;
          plan = subst (λ (x : Items). IsPlanOf geo (units_in g s) v x.plan h) (sym items) is.gives.plan;
          position = subst (λ (x : Items). IsAt (g.image s) h new.position x.records.items) (sym items) (subst (λ (p : Position). IsAt (g.image s) h p old.items.records.items) (sym place) is.gives.position);
          inside = inside_given (stream_of geo h) (item_left old) (stream_from geo h old.position) at n is.gives.left is.gives.inside le;
          left =
              ap (λ (xs : List ℕ). xs ++ stream_from geo h new.position) left ∙ ap (λ (p : Position). drop n (item_left old) ++ stream_from geo h p) place
              ∙ rest_given (stream_of geo h) (item_left old) (stream_from geo h old.position) at n is.gives.left le;
        };
      }

  -- the settled position is one of the stream
  pub settled_is : (s : S) (v : Volume) (h : History) (d : Dumper) (at : ℕ) → IsWriting g s v h d at → IsAt (g.image s) h (settled d.items.plan (length d.items.records.items) d.position) d.items.records.items
  settled_is s v h d at is =
      let shows = shown_by s v h d at is in
      settled_at (g.geometry s) d.items.plan h (counts_of s d.items.plan h shows) (g.image s) d.items.records.items d.position is.gives.position (long_at s d.items.plan h shows d.items.records.items d.position is.gives.position)
