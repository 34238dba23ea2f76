-- What a port that shows a view lists of a file, and the catalog that was read before.
use Rattle.std.proofs.Common.{◌≡◌, ◌∙◌, ℕ, All, List, [], ◌∷◌, Some, Result, Ok, Err, refl, sym, ap, subst, inl, inr}
use Rattle.std.specs.Prelude.{Contains, IfOk, IfErr, IsPermutation}
use Rattle.std.specs.List.{AllZip}
use Rattle.ex_base.specs.declared.ground.Ground as ground
use Rattle.ex_base.specs.declared.faults.PortFault.{PortFault}
use Rattle.ex_base.specs.declared.names.Oid.{Oid}
use Rattle.ex_base.specs.Ports.{IsDamage}
use Rattle.ex_base.proofs.Members.{In, in_contains}
use Rattle.disk_model.specs.Outside.{Outside}
use Rattle.buffer_groups.specs.Frames.{Frames}
use Rattle.ex_base.specs.declared.names.Index.{Index}
use Rattle.file_bodies.specs.Bodies.{Row, bodies_of}
use Rattle.file_bodies.specs.Files.{HasFile}
use Rattle.object_files.specs.Catalog.{FileEntry}
use Rattle.object_files.specs.Reads.{catalog_on}
use Rattle.table_model.specs.declared.table.Table.{Table}
use Rattle.table_model.specs.Steps.{current_if, oids}
use Rattle.table_model.specs.Tables.{file_at}
use Rattle.session_views.specs.View.{View, ShowsNow}
use Rattle.versions.specs.Listed.{AreByNumber, AreReadable, oids_of}
use Rattle.volume_model.specs.Parts.{IsStored}
use Rattle.volume_model.specs.Volume.{FileContent, Stored, Volume}
use Rattle.volume_edits.specs.Ported.{HasContent, index_named}
use Rattle.volume_edits.proofs.Contents.{contents}
use Rattle.volume_edits.proofs.Listed.{file_listed}
use Rattle.session_core.specs.Catalogs.{FramesLend, catalog_bytes}
use Rattle.session_core.specs.Finding.{IfFile, IfPortFile, IsPortOver, PortShows, oids_listed}
use Rattle.session_core.specs.Meant.{meant}
use Rattle.session_core.specs.Sessions.{IsSession, SessionState}
use Rattle.session_core.specs.Steps.{OnlyFrames}
use Rattle.session_core.proofs.Accepted.{ReadsCatalog, shown_on}
use Rattle.session_core.proofs.Finding.{port_shows, port_working}
use Rattle.session_core.proofs.Quiet.{shown_lends, with_groups}

-- ---- a file of a volume, through a port

zip_at : {A B : Type 0} (R : A → B → Type 0) (xs : List A) (ys : List B) (x : A) → AllZip R xs ys → In x xs → (y : B) × R x y
zip_at R [] ys x h there = absurd there
zip_at R (z ∷ xs) [] x h there = absurd h
zip_at {A = A} R (z ∷ xs) (y ∷ ys) x h (inl same) = (y, subst (λ (w : A). R w y) (sym same) h.0)
zip_at R (z ∷ xs) (y ∷ ys) x h (inr later) = zip_at R xs ys x h.1 later

stored_readable : (rows : List Row) (stored : List Stored) → AllZip IsStored rows stored → AreReadable rows
stored_readable [] stored h = tt
stored_readable (row ∷ rows) [] h = absurd h
stored_readable (row ∷ rows) (s ∷ stored) h = ((s.body, h.0.1), stored_readable rows stored h.1)

module _ {S : Type 0} (g : ground.Ghosts S) (s : S) where
  content_here : {before : View SessionState} (shows : PortShows g s before) (e : FileEntry) → Contains shows.working.catalog.entries e → (f : FileContent) × HasContent g s e f
  content_here shows e there = zip_at (HasContent g s) shows.working.catalog.entries shows.working.files e (contents g s shows.records shows.working shows.volume) (in_contains e shows.working.catalog.entries there)

  module _ {T : Type 0} (items : T → List Oid) (file_no : ℕ) where
    pub lists_here : (result : Result T PortFault)
        → IfOk result (λ oids. g.tells s → (index : Index) → HasFile g s index → index.file_no ≡ file_no → IsPermutation (oids_of (bodies_of (g.image s) index)) (items oids))
        → IfOk result (λ oids. AreByNumber (items oids)) → IfOk result (λ oids. IfPortFile g s file_no (λ before name. items oids ≡ oids_listed before.machine name))
    lists_here (Err fault) moves sorted = tt
    lists_here (Ok found) moves sorted = λ before shows e there number.
        let content = content_here shows e there in
        let file = content.1.file in
        file_listed g s shows.records shows.working shows.volume e (index_named e) (items found) there file refl (moves shows.tells (index_named e) file number) sorted
        ∙ sym (ap (λ (t : Table). oids (current_if (file_at t e.name))) shows.table)

  pub lists_sound : {T : Type 0} (file_no : ℕ) (result : Result T PortFault)
      → IfErr result (λ fault. IsDamage fault → g.tells s → (index : Index) → HasFile g s index → index.file_no ≡ file_no → AreReadable (bodies_of (g.image s) index) → ⊥)
      → IfErr result (λ fault. IfPortFile g s file_no (λ before name. IsDamage fault → ⊥))
  lists_sound file_no (Ok found) sound = tt
  lists_sound file_no (Err fault) sound = λ before shows e there number damage.
      let content = content_here shows e there in
      sound damage shows.tells (index_named e) content.1.file number (stored_readable (bodies_of (g.image s) (index_named e)) content.0.stored content.1.records)

  -- what holds of the files of a port over a session holds of those that the session shows
  pub file_on : {w : Outside} {old : SessionState} → IsPortOver g s w old → (file_no : ℕ) (P : View SessionState → List ℕ → Type 0) → IfPortFile g s file_no P → IfFile w old file_no P
  file_on over file_no P each = λ before same now e there number.
      each before (port_shows g s over before same now) e (subst (λ (v : Volume). Contains v.catalog.entries e) (sym (port_working g s over before same now)) there) number

-- ---- the catalog, once more after it was read

-- the catalog that was read is the one that the session goes on to show
pub on_after : {a b : Outside} {old mid : SessionState} (page : List ℕ) → IsSession old → OnlyFrames a b old mid → ReadsCatalog a old page → (before : View SessionState) → before.session ≡ old → ShowsNow meant a before
    → (later : ShowsNow meant b (with_groups before mid)) → catalog_on page ≡ later.shows.working.catalog
on_after {a} {b} {old} {mid} page is one reads before same now later = shown_on later page (record { catalog = reads.catalog; read = λ d holds _. read_later d holds }) (shown_lends later sizes)
  where
    sizes : All (λ (f : Frames). f.page_size ≡ mid.geometry.page_size) mid.groups
    sizes = subst (λ (n : ℕ). All (λ (f : Frames). f.page_size ≡ n) mid.groups) (ap (λ (s : SessionState). s.geometry.page_size) (sym one.same)) (one.sizes old.geometry.page_size is.sizes)

    lends : FramesLend a old
    lends = subst (FramesLend a) same (shown_lends now (subst (λ (s : SessionState). All (λ (f : Frames). f.page_size ≡ s.geometry.page_size) s.groups) (sym same) is.sizes))

    read_later : (d : List ℕ) → b.disk ≡ Some d → page ≡ catalog_bytes mid d
    read_later d holds =
        let both : Some before.disk ≡ Some d = sym now.holds ∙ sym one.reads.nothing.disk ∙ holds in
        let disk : before.disk ≡ d = cc in
        reads.read before.disk now.holds lends ∙ ap (catalog_bytes old) disk ∙ ap (λ (s : SessionState). catalog_bytes s d) (sym one.same)
