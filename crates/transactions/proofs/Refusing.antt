-- The refusals of commands on files are those of the machine that the session shows.
use Rattle.std.proofs.Common.{◌≡◌, ◌∙◌, ℕ, ◌+◌, ◌-◌, Bool, true, false, cond, List, [], ◌∷◌, length, map, Option, Some, None, is_some, refl, sym, ap, subst, arith}
use Rattle.std.specs.Prelude.{is_none, find, nat_lt, nat_le, ◌/◌, ◌||◌, bytes_eq}
use Rattle.std.specs.Option.{option_or}
use Rattle.ex_base.specs.declared.geometry.Geometry.{Geometry}
use Rattle.ex_base.specs.declared.names.Area.TheVariants.{Page, Segment}
use Rattle.page_alloc.specs.UnitSet.{free_count, used_at}
use Rattle.object_files.specs.Catalog.{Catalog, FileEntry}
use Rattle.object_files.specs.Edits as entries
use Rattle.table_model.specs.declared.table.TableFile.{TableFile}
use Rattle.table_model.specs.declared.table.Table.{Table}
use Rattle.table_model.specs.declared.machine.Pick.{Pick}
use Rattle.table_model.specs.declared.reply.Refusal.{Refusal}
use Rattle.table_model.specs.declared.reply.Refusal.TheVariants as refusal
use Rattle.table_model.specs.Requests as request
use Rattle.table_model.specs.Machines.{shown, updates_most, touched_most}
use Rattle.table_model.specs.Needs.{free}
use Rattle.table_model.specs.Refusals.{refusal_of, has_objects, when}
use Rattle.table_model.specs.Tables as tables
use Rattle.session_views.specs.View.{View}
use Rattle.volume_model.specs.Shown.{Shows}
use Rattle.session_core.specs.Sessions.{SessionState}
use Rattle.session_core.specs.Meant.{held_view}
use Rattle.session_core.specs.Counts.{free_in}
use Rattle.transactions.specs.Refused.{entry_named, file_charge, file_need, has_pages, long_txn, full_in, file_refusal, unfile_refusal}
use Rattle.std.proofs.lemmas.List.{length-map}
use Rattle.object_files.specs.Catalog.{name_of}
use Rattle.volume_model.specs.Parts.{HasIndex}
use Rattle.volume_model.specs.Shown.{working_units}
use Rattle.volume_model.proofs.Volumes.{names_shown, shown_parts}
use Rattle.volume_model.proofs.Showing.{shows_catalog, session_geometry}
use Rattle.session_core.proofs.Refusing.{SameOpen, free_left, none_is_false}

-- ---- the file of a name

-- files that have the names of the entries
abbrev pub SameNames : List TableFile → List FileEntry → Type 0
SameNames fs es = map (λ (f : TableFile). f.name) fs ≡ map name_of es

heads : {A : Type 0} {x y : A} {xs ys : List A} → x ∷ xs ≡ y ∷ ys → (x ≡ y) × (xs ≡ ys)
heads e = (cc (e), cc (e))

found : (name : List ℕ) (fs : List TableFile) (es : List FileEntry) → SameNames fs es → is_some (find (tables.has_name name) fs) ≡ is_some (find (entries.has_name name) es)
found name [] [] same = refl
found name [] (e ∷ es) same = absurd (cc (same))
found name (f ∷ fs) [] same = absurd (cc (same))
found name (f ∷ fs) (e ∷ es) same =
    let both = heads same in
    subst (λ (n : List ℕ). is_some (cond (bytes_eq n name) (Some f) (find (tables.has_name name) fs)) ≡ is_some (cond (bytes_eq e.name name) (Some e) (find (entries.has_name name) es))) (sym both.0)
    (elim (bytes_eq e.name name) as (λ b. is_some (cond b (Some f) (find (tables.has_name name) fs)) ≡ is_some (cond b (Some e) (find (entries.has_name name) es))) [
      | true ↦ refl
      | false ↦ found name fs es both.1
    ])

below_zero : (n : ℕ) → nat_lt n 0 ≡ false
below_zero n = grind arith

-- what the view gives of the machine
pub record SameCounts (v : View SessionState) (c : Catalog) : Type 0 where
  pub is_open : SameOpen v
  pub names : SameNames (shown v.machine).files c.entries
  pub geometry : v.machine.geometry ≡ v.session.geometry
  pub notes : v.machine.notes ≡ v.session.notes
  pub touched : v.machine.touched ≡ length v.session.meta.working
  pub free_pages : free v.machine Page ≡ free_in v.session Page

pub same_counts : {may_leave : List ℕ → Type 0} {v : View SessionState} (shows : Shows may_leave (held_view v)) → v.session.units.geometry ≡ v.session.geometry → SameCounts v shows.working.catalog
same_counts {may_leave} {v} shows same =
    let g = shows.decoded.geometry in
    let units_is : v.session.units.geometry ≡ g = same ∙ session_geometry shows in
    let left = free_left g (used_at v.session.units) Page in
    let used = shows.used.pages in
    let area : v.machine.geometry.pages ≡ g.pages = ap (λ (g : Geometry). g.pages) shows.geometry in
    let here : free_in v.session Page ≡ free_count g (used_at v.session.units) Page = ap (λ (g : Geometry). free_count g (used_at v.session.units) Page) units_is in
    record {
      is_open = shows.shared.open_txn;
      names = ap (λ (t : Table). map (λ (f : TableFile). f.name) t.files) (shows_catalog shows).table
          ∙ names_shown (HasIndex g (working_units shows.decoded v.disk v.session.meta.working)) (working_units shows.decoded v.disk v.session.meta.working) shows.working.catalog.entries shows.working.files (shown_parts shows).1.0.0;
      geometry = shows.shared.geometry;
      notes = shows.shared.notes;
      touched = shows.used.touched;
      free_pages = omega (arith, left, used, area, here);
    }

one_less : (a : Option Refusal) → option_or (option_or a (option_or None None)) None ≡ option_or a None
one_less None = refl
one_less (Some why) = refl

-- what an update is told, from whether no transaction is open, whether a file has the name, the page size, the files, the updates, the touched
-- pages, the free pages, and whether segment units are wanting
abbrev file_told : Bool → Bool → ℕ → ℕ → ℕ → ℕ → ℕ → Bool → ℕ → Option Refusal
file_told none found size files updates touched pages wanting segs =
    option_or (when none refusal.NoTxn)
    (option_or (when found refusal.FileExists)
    (option_or (when (nat_le ((size - 32) / 48) files) refusal.FilesFull)
    (option_or (when (nat_le updates_most updates || nat_lt touched_most (touched + 2)) (refusal.LongTxn updates touched))
    (option_or (option_or (when (nat_lt pages 2) (refusal.Full Page 2 pages)) (option_or (when wanting (refusal.Full Segment 0 segs)) None)) None))))

told : {none none' found found' : Bool} {size size' files files' updates updates' touched touched' pages pages' : ℕ} {wanting wanting' : Bool} (segs : ℕ)
    → none ≡ none' → found ≡ found' → size ≡ size' → files ≡ files' → updates ≡ updates' → touched ≡ touched' → pages ≡ pages' → wanting ≡ wanting'
    → file_told none found size files updates touched pages wanting segs ≡ file_told none' found' size' files' updates' touched' pages' wanting' segs
told segs a b c d e f g h = cc (a, b, c, d, e, f, g, h)

pub file_refused : (v : View SessionState) (c : Catalog) (name : List ℕ) (q : Pick) → SameCounts v c → v.session.opened ≡ true → refusal_of v.machine (request.File name) q ≡ file_refusal v.session c name
file_refused v c name q same opened =
    let some = none_is_false v.machine.working (same.is_open ∙ opened) in
    let finds = found name (shown v.machine).files c.entries same.names in
    let many = sym (length-map (shown v.machine).files (λ (f : TableFile). f.name)) ∙ ap length same.names ∙ length-map c.entries name_of in
    let size = ap (λ (g : Geometry). g.page_size) same.geometry in
    let change : refusal_of v.machine (request.File name) q
    ≡ file_told false (is_some (entry_named c name)) v.session.geometry.page_size (length c.entries) (length v.session.notes) (length v.session.meta.working) (free_in v.session Page) false (free v.machine Segment) =
    told (free v.machine Segment) some finds size many (ap length same.notes) same.touched same.free_pages (below_zero (free v.machine Segment)) in
    change
    ∙ ap (λ (o : Option Refusal). option_or (when (is_some (entry_named c name)) refusal.FileExists) (option_or (when (nat_le ((v.session.geometry.page_size - 32) / 48) (length c.entries)) refusal.FilesFull) (option_or (long_txn v.session file_charge) o)))
    (one_less (full_in v.session Page file_need))

pub missing : (name : List ℕ) (fs : List TableFile) (es : List FileEntry) → SameNames fs es → is_none (find (tables.has_name name) fs) ≡ is_none (find (entries.has_name name) es)
missing name [] [] same = refl
missing name [] (e ∷ es) same = absurd (cc (same))
missing name (f ∷ fs) [] same = absurd (cc (same))
missing name (f ∷ fs) (e ∷ es) same =
    let both = heads same in
    subst (λ (n : List ℕ). is_none (cond (bytes_eq n name) (Some f) (find (tables.has_name name) fs)) ≡ is_none (cond (bytes_eq e.name name) (Some e) (find (entries.has_name name) es))) (sym both.0)
    (elim (bytes_eq e.name name) as (λ b. is_none (cond b (Some f) (find (tables.has_name name) fs)) ≡ is_none (cond b (Some e) (find (entries.has_name name) es))) [
      | true ↦ refl
      | false ↦ missing name fs es both.1
    ])

abbrev unfile_told : Bool → Bool → Bool → ℕ → ℕ → Bool → Bool → ℕ → ℕ → Option Refusal
unfile_told none absent full updates touched wanting_pages wanting pages segs =
    option_or (when none refusal.NoTxn)
    (option_or (when absent refusal.NoFile)
    (option_or (when full refusal.NotEmpty)
    (option_or (when (nat_le updates_most updates || nat_lt touched_most (touched + 2)) (refusal.LongTxn updates touched))
    (option_or (option_or (when wanting_pages (refusal.Full Page 0 pages)) (option_or (when wanting (refusal.Full Segment 0 segs)) None)) None))))

untold : {none none' absent absent' full full' : Bool} {updates updates' touched touched' : ℕ} {wanting_pages wanting_pages' wanting wanting' : Bool} (pages segs : ℕ)
    → none ≡ none' → absent ≡ absent' → full ≡ full' → updates ≡ updates' → touched ≡ touched' → wanting_pages ≡ wanting_pages' → wanting ≡ wanting'
    → unfile_told none absent full updates touched wanting_pages wanting pages segs ≡ unfile_told none' absent' full' updates' touched' wanting_pages' wanting' pages segs
untold pages segs a b c d e f g = cc (a, b, c, d, e, f, g)

pub unfile_refused : (v : View SessionState) (c : Catalog) (name : List ℕ) (q : Pick) → SameCounts v c → has_objects (find (tables.has_name name) (shown v.machine).files) ≡ has_pages (entry_named c name) → v.session.opened ≡ true
    → refusal_of v.machine (request.Unfile name) q ≡ unfile_refusal v.session c name
unfile_refused v c name q same empty opened =
    let some = none_is_false v.machine.working (same.is_open ∙ opened) in
    let absent = missing name (shown v.machine).files c.entries same.names in
    let change : refusal_of v.machine (request.Unfile name) q
    ≡ unfile_told false (is_none (entry_named c name)) (has_pages (entry_named c name)) (length v.session.notes) (length v.session.meta.working) false false (free v.machine Page) (free v.machine Segment) =
    untold (free v.machine Page) (free v.machine Segment) some absent empty (ap length same.notes) same.touched (below_zero (free v.machine Page)) (below_zero (free v.machine Segment)) in
    change
