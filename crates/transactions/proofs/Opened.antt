-- How a line that opens a scan is answered.
use Rattle.std.proofs.Common.{◌≡◌, ◌∙◌, ℕ, ◌+◌, ◌<◌, ◌≤◌, Bool, true, false, cond, not, List, [], ◌∷◌, ◌++◌, length, Option, Some, None, is_some, Result, Ok, Err, IsTrue, refl, sym, ap, subst, arith, inl, inr}
use Rattle.std.specs.Prelude.{bytes_eq, is_none, nat_le, map, option_map, position}
use Rattle.std.specs.List.{position_from}
use Rattle.std.proofs.lemmas.Bool.{leb-false}
use Rattle.std.proofs.lemmas.Iterator.Adapters.{position_from-zero}
use Rattle.std.specs.Option.{option_or}
use Rattle.std.proofs.lemmas.List.{length-map}
use Rattle.std.proofs.lemmas.Slice.Zip.{AllZip-long}
use Rattle.disk_model.specs.Outside.{Outside}
use Rattle.disk_model.specs.Runs.{reads_trans}
use Rattle.ex_base.specs.declared.names.Oid.{Oid}
use Rattle.ex_base.specs.declared.names.Root.{Root}
use Rattle.open_scans.specs.GroupRows.{group_index, is_row_named}
use Rattle.open_scans.specs.OpenScans.{scan_of}
use Rattle.session_views.specs.declared.stop.Stop.{Stop}
use Rattle.session_views.specs.View.{View, ShowsNow}
use Rattle.table_model.specs.declared.machine.GroupRow.{GroupRow}
use Rattle.table_model.specs.declared.machine.Machine.{Machine}
use Rattle.table_model.specs.declared.machine.Pick.{Pick}
use Rattle.table_model.specs.declared.reply.Refusal.{Refusal}
use Rattle.table_model.specs.declared.reply.Refusal.TheVariants as refusal
use Rattle.table_model.specs.declared.reply.Reply.TheVariants as reply
use Rattle.version_lists.specs.declared.version.Version.{Version}
use Rattle.table_model.specs.Machines.{bytes_if, bytes_of, main, oid_of, scans_most, shown, version_if, version_of}
use Rattle.table_model.specs.Refusals.{first, lacks_group, no_group, refusal_of, too_many_scans, when}
use Rattle.table_model.specs.Requests.{Reference, Request, is_request}
use Rattle.table_model.specs.Requests as request
use Rattle.table_model.specs.Steps.{Step}
use Rattle.table_model.proofs.StepsKeep.{steps_keep}
use Rattle.volume_model.specs.Homes.{home}
use Rattle.volume_model.specs.Shown.{ScanShown}
use Rattle.session_core.specs.declared.session.objects.Named.{Named}
use Rattle.session_core.specs.Finding.{IfShown, IsMissing, IsNamed, IsOutside, LineStops, NamesVersion}
use Rattle.session_core.specs.Meant.{held_view, meant, pick_of}
use Rattle.session_core.specs.Opening.{IfTold, OpensScan, ShowsThen, first_row, with_scan}
use Rattle.session_core.specs.ScanRows.{takes_name}
use Rattle.session_core.specs.Sessions.{IsSession, SessionState}
use Rattle.session_core.specs.Steps.{OnlyFrames}
use Rattle.session_core.proofs.Accepted.{took_place}
use Rattle.session_core.proofs.Naming.{frames_twice}
use Rattle.session_core.proofs.Quiet.{same_view, with_groups}
use Rattle.session_core.proofs.Taken.{group_as, taken_as}
use Rattle.transactions.specs.Lines.{ScansLine}
use Rattle.transactions.specs.Scanning.{MayOpen, OpensThrough, group_asked, scan_refusal}
use Rattle.transactions.proofs.Changed.{names_then}
use Rattle.transactions.proofs.Naming.{named_first, the_size_named, the_version}
use Rattle.transactions.proofs.ScanLines.{scans_refused, scans_stopped}

-- ---- its refusals

none_is : (o : Option ℕ) → not (is_some o) ≡ is_none o
none_is None = refl
none_is (Some x) = refl

module _ {w : Outside} {before : View SessionState} (now : ShowsNow meant w before) (x : Reference) (name : List ℕ) (group : Option (List ℕ)) where
  abbrev m : Machine
  m = before.machine

  abbrev s : SessionState
  s = before.session

  -- those that don't tell of the version
  abbrev rest : Option Refusal
  rest = first (no_group m group ∷ too_many_scans m ∷ [])

  abbrev rest_there : Option Refusal
  rest_there = first (when (is_none (group_asked s.group_rows group)) refusal.NoGroup ∷ when (nat_le scans_most (length s.scans)) (refusal.TooMany true) ∷ [])

  lacks : (o : Option (List ℕ)) → lacks_group m o ≡ is_none (group_asked s.group_rows o)
  lacks None = refl
  lacks (Some n) = ap not (group_as before now.shows n) ∙ none_is (group_index s.group_rows n)

  as_many : length m.scans ≡ length s.scans
  as_many =
      let g = now.shows.decoded.geometry in
      (let e = AllZip-long (ScanShown g (home g before.disk)) m.scans (map scan_of s.scans) now.shows.scans in omega (arith, e, length-map s.scans scan_of))

  rest_is : rest_there ≡ rest
  rest_is =
      ap (λ (b : Bool). first (when b refusal.NoGroup ∷ when (nat_le scans_most (length s.scans)) (refusal.TooMany true) ∷ [])) (sym (lacks group))
      ∙ ap (λ (n : ℕ). first (no_group m group ∷ when (nat_le scans_most n) (refusal.TooMany true) ∷ [])) (sym as_many)

  missing_is : (why : Refusal) → IsMissing m x why → scan_refusal s (Err why) name group ≡ named_first (oid_of m x) (version_of m x) (takes_name s name) rest
  unfolding named_first
  missing_is why (inl (is, none)) =
      ap (λ (y : Refusal). scan_refusal s (Err y) name group) is
      ∙ sym (ap (λ (o : Option Oid). option_or (when (is_none o) refusal.NoName) (option_or (when (takes_name s name) refusal.NameTaken) (option_or (when (is_none (version_of m x)) refusal.NoObject) rest))) none)
  missing_is why (inr (is, (oid, named, none))) =
      ap (λ (y : Refusal). scan_refusal s (Err y) name group) is
      ∙ sym (
      ap (λ (o : Option Oid). option_or (when (is_none o) refusal.NoName) (option_or (when (takes_name s name) refusal.NameTaken) (option_or (when (is_none (version_if (shown m) o)) refusal.NoObject) rest))) named
      ∙ ap (λ (v : Option Version). option_or (when (takes_name s name) refusal.NameTaken) (option_or (when (is_none v) refusal.NoObject) rest)) none
      )

  named_is : (version : Named) → NamesVersion before x version → scan_refusal s (Ok version) name group ≡ named_first (oid_of m x) (version_of m x) (takes_name s name) rest
  unfolding named_first
  named_is version names =
      ap (λ (o : Option Refusal). option_or (when (takes_name s name) refusal.NameTaken) o) rest_is
      ∙ sym (
      ap (λ (o : Option Oid). option_or (when (is_none o) refusal.NoName) (option_or (when (takes_name s name) refusal.NameTaken) (option_or (when (is_none (version_of m x)) refusal.NoObject) rest))) names.named_by
      ∙ ap (λ (v : Option Version). option_or (when (takes_name s name) refusal.NameTaken) (option_or (when (is_none v) refusal.NoObject) rest)) (the_version m x version.oid names.told.version names.named_by names.told.is)
      )

  -- The machine refuses the line as the session does.
  pub refuses_as : (told : Result Named Refusal) (q : Pick) → IsNamed before x told → refusal_of m (request.Scan x name group) q ≡ scan_refusal s told name group
  unfolding named_first
  refuses_as told q names =
      ap (λ (b : Bool). option_or (when (is_none (oid_of m x)) refusal.NoName) (option_or (when b refusal.NameTaken) (option_or (when (is_none (version_of m x)) refusal.NoObject) rest))) (taken_as before now.shows name)
      ∙ sym (by told names)
    where
      by : (r : Result Named Refusal) → IsNamed before x r → scan_refusal s r name group ≡ named_first (oid_of m x) (version_of m x) (takes_name s name) rest
      by (Ok version) has = named_is version has
      by (Err why) has = missing_is why has

-- ---- the line

module _ {a mid : Outside} {old found : SessionState} (x : Reference) (name : List ℕ) (group : Option (List ℕ)) (told : Result Named Refusal) (only : OnlyFrames a mid old found) (is : IsSession old)
    (names : IfShown a old (λ before. IsNamed before x told)) where
  abbrev r : Request
  r = request.Scan x name group

  -- what the session refused with other frames
  same_refusal : scan_refusal found told name group ≡ scan_refusal old told name group
  same_refusal = ap (λ (s : SessionState). scan_refusal s told name group) only.same

  pub scan_refused : (why : Refusal) → scan_refusal found told name group ≡ Some why → ScansLine a mid old found r (Ok (reply.No why))
  scan_refused why refuses =
      scans_refused r why only is
      (λ before same now q. refuses_as now x name group told q (names before same now) ∙ ap (λ (s : SessionState). scan_refusal s told name group) same ∙ sym same_refusal ∙ refuses)

  pub scan_stopped : {b : Outside} (new : SessionState) (why : Stop) → OnlyFrames mid b found new → LineStops a b why → IfShown a old (λ before. IsOutside why) → ScansLine a b old new r (Err why)
  scan_stopped new why later stops sound =
      let both = frames_twice only later in
      scans_stopped r why (record {
        reads = both.reads;
        geometry = ap (λ (s : SessionState). s.geometry) both.same;
        log = ap (λ (s : SessionState). s.log) both.same;
        down = ap (λ (s : SessionState). s.down) both.same;
      }) stops sound (ap (λ (s : SessionState). s.scans) both.same)

  pub scan_done : {b : Outside} (new : SessionState) (version : Named) (index : ℕ) → MayOpen found told name group version index → IsTrue (is_request r) → OpensScan mid b found new name version.found.root index
      → IfShown mid found (λ before. IfTold before version (λ bytes. ShowsThen before b new (with_scan name bytes before.machine))) → ScansLine a b old new r (Ok (reply.Scan name version.found.size))
  scan_done {b} new version index may form (small, opened) shows = record {
    reads = reads_trans only.reads opened.frames.reads;
    geometry = ap (λ (s : SessionState). s.geometry) opened.same ∙ ap (λ (s : SessionState). s.geometry) only.same;
    log = ap (λ (s : SessionState). s.log) opened.same ∙ ap (λ (s : SessionState). s.log) only.same;
    down = ap (λ (s : SessionState). s.down) opened.same ∙ ap (λ (s : SessionState). s.down) only.same;
    stops = tt;
    sound = tt;
    refused = λ (why, refused). absurd (cc);
    stepped = λ before same now.
        let m = before.machine in
        let own : NamesVersion before x version = subst (λ (t : Result Named Refusal). IsNamed before x t) may.found (names before same now) in
        let view = with_groups before found in
        let named : NamesVersion view x version = names_then before x version same only own in
        let bytes = named.told.version.bytes in
        let after : Machine = with_scan name bytes m in
        let q : Pick = pick_of (held_view before) r (held_view (record { machine = after; session = new; disk = before.disk })) in
        let accepts : refusal_of m r q ≡ None =
        refuses_as now x name group told q (names before same now) ∙ ap (λ (s : SessionState). scan_refusal s told name group) same ∙ sym same_refusal ∙ may.none in
        let bytes_are : bytes_of m x ≡ bytes = ap bytes_if (the_version m x version.oid named.told.version named.named_by named.told.is) in
        let step : Step m r q (reply.Scan name version.found.size) after =
        took_place m after r q (reply.Scan name version.found.size) accepts (ap (λ (n : ℕ). reply.Scan name n) (sym (the_size_named before x version own))) (ap (λ (b : List ℕ). with_scan name b m) (sym bytes_are)) (tt, λ none. absurd (cc)) in
        record {
          after = record { machine = after; session = new; disk = before.disk };
          is = refl;
          shows = shows view refl (same_view before same now only is.sizes) named.told (steps_keep m r q (reply.Scan name version.found.size) after now.shows.rules form step);
          step = step;
        };
    scans = inr (record {
      row = first_row name version.found.root small index;
      rows = ap (λ (s : SessionState). s.scans) opened.same ∙ ap (λ (s : SessionState). s.scans ++ first_row name version.found.root small index ∷ []) only.same;
    });
  }

  -- why the scan stops is told of the session that was found first
  pub scan_sound : (version : Named) (why : Stop) → told ≡ Ok version → IfShown mid found (λ before. IfTold before version (λ bytes. IsOutside why)) → IfShown a old (λ before. IsOutside why)
  scan_sound version why is_found sound = λ before same now.
      let own : NamesVersion before x version = subst (λ (t : Result Named Refusal). IsNamed before x t) is_found (names before same now) in
      sound (with_groups before found) refl (same_view before same now only is.sizes) (names_then before x version same only own).told

-- ---- what may be opened

-- an index of a place where a test passes is that of a place
inside_from : {A : Type 0} (p : A → Bool) (k : ℕ) (xs : List A) (i : ℕ) → position_from p k xs ≡ Some i → i < k + length xs
inside_from p k [] i is = absurd (let none : None ≡ Some i = is in cc)
inside_from p k (x ∷ xs) i is = by (p x) is (λ later. inside_from p (k + 1) xs i later)
  where
    by : (b : Bool) → cond b (Some k) (position_from p (k + 1) xs) ≡ Some i → (position_from p (k + 1) xs ≡ Some i → i < k + 1 + length xs) → i < k + length (x ∷ xs)
    by true here later = (let same : k ≡ i = cc in omega (arith, same))
    by false rest later = omega (arith, later rest)

group_inside : (rows : List GroupRow) (name : List ℕ) (index : ℕ) → group_index rows name ≡ Some index → index ≤ length rows
group_inside rows name index is = by (bytes_eq main name) is
  where
    at : (o : Option ℕ) → position (is_row_named name) rows ≡ o → option_map (λ (i : ℕ). i + 1) o ≡ Some index → index ≤ length rows
    at None none some = absurd (let never : None ≡ Some index = some in cc)
    at (Some i) found some =
        let here : Some (i + 1) ≡ Some index = some in
        let same : i + 1 ≡ index = cc in
        omega (arith, same, inside_from (is_row_named name) 0 rows i (sym (position_from-zero (is_row_named name) rows) ∙ found))

    by : (b : Bool) → cond b (Some 0) (option_map (λ (i : ℕ). i + 1) (position (is_row_named name) rows)) ≡ Some index → index ≤ length rows
    by true zero_is = (let same : 0 ≡ index = cc in omega (arith, same))
    by false some = at (position (is_row_named name) rows) refl some

pub may_group : {s : SessionState} {told : Result Named Refusal} {name : List ℕ} {group : Option (List ℕ)} {version : Named} {index : ℕ} → MayOpen s told name group version index → index ≤ length s.group_rows
may_group {s} {told} {name} {group} {version} {index} may = by group may.asked
  where
    by : (o : Option (List ℕ)) → group_asked s.group_rows o ≡ Some index → index ≤ length s.group_rows
    by None is = (let here : Some 0 ≡ Some index = is in let same : 0 ≡ index = cc in omega (arith, same))
    by (Some n) is = group_inside s.group_rows n index is

last_none : (taken lacks many : Bool) → option_or (when taken refusal.NameTaken) (option_or (when lacks refusal.NoGroup) (option_or (when many (refusal.TooMany true)) None)) ≡ None → many ≡ false
last_none true lacks many none = absurd (cc)
last_none false true many none = absurd (cc)
last_none false false true none = absurd (cc)
last_none false false false none = refl

pub may_few : {s : SessionState} {told : Result Named Refusal} {name : List ℕ} {group : Option (List ℕ)} {version : Named} {index : ℕ} → MayOpen s told name group version index → length s.scans < scans_most
may_few {s} {told} {name} {group} {version} {index} may =
    leb-false scans_most (length s.scans)
    (last_none (takes_name s name) (is_none (group_asked s.group_rows group)) (nat_le scans_most (length s.scans)) (subst (λ (t : Result Named Refusal). scan_refusal s t name group ≡ None) may.found may.none))

-- ---- the group that it reads through

pub opened_through : {a m b : Outside} {old mid new : SessionState} {told : Result Named Refusal} {root : Option Root} {version : Named} {index : ℕ}
    (name : List ℕ) (group : Option (List ℕ)) → OnlyFrames a m old mid → OpensScan m b mid new name root index → MayOpen mid told name group version index → OpensThrough old new.scans name group
opened_through {old = old} {root = root} {index = index} name group only opened may = record {
  row = first_row name root opened.0 index;
  rows = ap (λ (s : SessionState). s.scans) opened.1.same ∙ ap (λ (s : SessionState). s.scans ++ first_row name root opened.0 index ∷ []) only.same;
  name_is = refl;
  through = ap (λ (s : SessionState). group_asked s.group_rows group) (sym only.same) ∙ may.asked;
}
