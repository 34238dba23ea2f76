-- How a line is answered that lists a file.
use Rattle.std.proofs.Common.{◌≡◌, ◌∙◌, ℕ, Bool, false, List, [], ◌∷◌, Option, Some, None, Ok, Err, refl, sym, ap, subst}
use Rattle.std.specs.Prelude.{Contains, is_none, option_map}
use Rattle.std.proofs.lemmas.Slice.Eq.{bytes_eq-Decides}
use Rattle.ex_base.specs.declared.names.Oid.{Oid}
use Rattle.ex_base.proofs.Members.{contains_in}
use Rattle.disk_model.specs.Outside.{Outside}
use Rattle.object_files.specs.Catalog.{Catalog, FileEntry}
use Rattle.object_files.specs.Edits.{has_name}
use Rattle.object_files.specs.Reads.{catalog_on}
use Rattle.table_model.specs.declared.reply.Refusal.TheVariants as refusal
use Rattle.table_model.specs.declared.reply.Reply.TheVariants as reply
use Rattle.table_model.specs.Machines.{shown}
use Rattle.table_model.specs.Refusals.{first, when}
use Rattle.table_model.specs.Requests as request
use Rattle.table_model.specs.Tables.{file_at}
use Rattle.session_views.specs.declared.stop.Stop.{Stop}
use Rattle.session_views.specs.View.{View}
use Rattle.volume_edits.proofs.Finding.{find_in}
use Rattle.session_core.specs.Finding.{IfFile, IfShown, IsOutside, LineStops, oids_listed}
use Rattle.transactions.specs.Lines.{ReadsLine}
use Rattle.transactions.specs.Refused.{entry_named}
use Rattle.session_core.specs.Sessions.{IsSession, SessionState}
use Rattle.session_core.specs.Steps.{OnlyFrames, Stops}
use Rattle.session_core.proofs.Accepted.{ReadsCatalog, shown_on}
use Rattle.transactions.proofs.Naming.{answers_so, line_stops, refuses_so}
use Rattle.session_core.proofs.Naming.{frames_twice, later_stops}
use Rattle.session_core.proofs.Quiet.{same_view, shown_lends, with_groups}
use Rattle.transactions.proofs.Refusing.{missing, same_counts}
use Rattle.session_core.proofs.Listing.{on_after}
use Rattle.session_core.proofs.Stopping.{unread_outside, unread_stops}

-- ---- the line

abbrev number_of : FileEntry → ℕ
number_of e = e.file_no

unnumbered : (o : Option FileEntry) → None ≡ option_map number_of o → o ≡ None
unnumbered None is = refl
unnumbered (Some e) is = absurd (cc)

numbered : (n : ℕ) (o : Option FileEntry) → Some n ≡ option_map number_of o → (e : FileEntry) × (o ≡ Some e) × (e.file_no ≡ n)
numbered n None is = absurd (cc)
numbered n (Some e) is = (e, refl, cc)

pub list_unread : {a b : Outside} {old mid : SessionState} (name : List ℕ) (why : Stop) → OnlyFrames a b old mid → IsSession old → Stops a b old why → ReadsLine a b old mid (request.ListFile name) (Err why)
list_unread {a} {b} {old} name why only is stops = line_stops (request.ListFile name) why only (unread_stops a b old why stops) (unread_outside b why is stops)

pub list_refused : {a b : Outside} {old mid : SessionState} (name page : List ℕ) → OnlyFrames a b old mid → IsSession old → ReadsCatalog a old page → None ≡ option_map number_of (entry_named (catalog_on page) name)
    → ReadsLine a b old mid (request.ListFile name) (Ok (reply.No refusal.NoFile))
list_refused {a} {b} {old} {mid} name page only is reads none = record {
  only = only;
  stops = tt;
  sound = tt;
  stepped = λ before same now.
      let session = subst IsSession (sym same) is in
      let on = shown_on now page (subst (λ (s : SessionState). ReadsCatalog a s page) (sym same) reads) (shown_lends now session.sizes) in
      let none_there : entry_named now.shows.working.catalog name ≡ None = ap (λ (c : Catalog). entry_named c name) (sym on) ∙ unnumbered (entry_named (catalog_on page) name) none in
      let table = missing name (shown before.machine).files now.shows.working.catalog.entries (same_counts {v = before} now.shows session.units.geometry).names in
      refuses_so (request.ListFile name) refusal.NoFile only is before same now
      (λ q. ap (λ (t : Bool). first (when t refusal.NoFile ∷ [])) (table ∙ ap (λ (o : Option FileEntry). is_none o) none_there));
}

module _ {a b c : Outside} {old mid new : SessionState} (name page : List ℕ) (file_no : ℕ) (one : OnlyFrames a b old mid) (two : OnlyFrames b c mid new) (is : IsSession old) (reads : ReadsCatalog a old page)
    (number : Some file_no ≡ option_map number_of (entry_named (catalog_on page) name)) where
  -- what holds of the file with the number holds of the one with the name
  named_file : (P : View SessionState → List ℕ → Type 0) → IfFile b mid file_no P → IfShown a old (λ before. P (with_groups before mid) name)
  named_file P each = λ before same now.
      let later = same_view before same now one is.sizes in
      let entry = numbered file_no (entry_named (catalog_on page) name) number in
      let there = find_in (has_name name) (catalog_on page).entries entry.0 entry.1 in
      let on = on_after page is one reads before same now later in
      subst (P (with_groups before mid)) ((bytes_eq-Decides (entry.0).name name).0 there.1)
      (each (with_groups before mid) refl later entry.0 (subst (λ (k : Catalog). Contains k.entries entry.0) on (contains_in entry.0 (catalog_on page).entries there.0)) entry.2)

  there_is : IfShown a old (λ before. is_none (file_at (shown before.machine) name) ≡ false)
  there_is = λ before same now.
      let session = subst IsSession (sym same) is in
      let on = shown_on now page (subst (λ (s : SessionState). ReadsCatalog a s page) (sym same) reads) (shown_lends now session.sizes) in
      let entry = numbered file_no (entry_named (catalog_on page) name) number in
      missing name (shown before.machine).files now.shows.working.catalog.entries (same_counts {v = before} now.shows session.units.geometry).names
      ∙ ap (λ (k : Catalog). is_none (entry_named k name)) (sym on) ∙ ap (λ (o : Option FileEntry). is_none o) entry.1

  pub list_line : (oids : List Oid) → IfFile b mid file_no (λ before name. oids ≡ oids_listed before.machine name) → ReadsLine a c old new (request.ListFile name) (Ok (reply.List oids))
  list_line oids each = record {
    only = frames_twice one two;
    stops = tt;
    sound = tt;
    stepped = λ before same now.
        answers_so (request.ListFile name) (reply.List oids) (frames_twice one two) is before same now
        (λ q. sym (ap (λ (t : Bool). first (when t refusal.NoFile ∷ [])) (there_is before same now)))
        (λ q. ap reply.List (named_file (λ before name. oids ≡ oids_listed before.machine name) each before same now))
        (λ q. refl)
        (λ q. (tt, λ update. absurd (cc)));
  }

  pub list_stopped : (why : Stop) → LineStops b c why → IfFile b mid file_no (λ before name. IsOutside why) → ReadsLine a c old new (request.ListFile name) (Err why)
  list_stopped why stops sound = line_stops (request.ListFile name) why (frames_twice one two) (later_stops a b c why one.reads stops) (named_file (λ before name. IsOutside why) sound)
