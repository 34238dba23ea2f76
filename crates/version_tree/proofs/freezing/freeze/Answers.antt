use Rattle.std.proofs.Common.{◌≡◌, ◌≤◌, ◌+◌, ◌⊎◌, ℕ, List, true, false, length, sym, ap, subst, ◌∙◌, arith}
use Rattle.std.specs.Prelude.{IsSomeAnd}
use Rattle.ex_base.specs.declared.names.Oid.{Oid}
use Rattle.ex_base.specs.Ports.{IsDamage}
use Rattle.object_records.specs.Record.{Record, BodyOf}
use Rattle.ex_base.specs.declared.names.Index.{Index}
use Rattle.ex_base.specs.declared.geometry.Geometry.{Geometry}
use Rattle.ex_base.specs.declared.names.Area.{Area}
use Rattle.ex_base.specs.declared.names.Area.TheVariants.{Page, Segment}
use Rattle.ex_base.proofs.Keeping.{keeps_on}
use Rattle.ex_base.proofs.Results.{if_err_handed}
use Rattle.object_records.specs.declared.Head.{Head}
use Rattle.object_records.specs.declared.State.TheVariants.{Current}
use Rattle.file_bodies.specs.Places.{IsChosen}
use Rattle.file_bodies.specs.declared.placing.Room.{Room}
use Rattle.file_bodies.proofs.Blame.{carried_held}
use Rattle.file_bodies.proofs.Moving.{kept_body, kept_file}
use Rattle.versions.specs.Versions.{place_of}
use Rattle.version_tree.specs.Copies.{Freezes, IsCopyFault, IsVersionIn, not_current, of_older}
use Rattle.versions.specs.Damage.{record_fault}
use Rattle.version_tree.specs.Links.{IsRecordFault, of_body, of_version}
use Rattle.version_tree.specs.declared.links.Stored.{Stored}
use Rattle.version_tree.proofs.Copying.{kept_freezes, read_of, version_in}
use Rattle.version_tree.proofs.Linking.{head_read, kept_linked, linked_limits}
use Rattle.version_tree.proofs.RoomsKept.{chosen_back, room_kept}
use Rattle.version_tree.proofs.ReadPlaces.{first_kept, freezing_of, older_read, older_told, other_state, out_of, state_read}
use Rattle.version_tree.proofs.WholeLinks.{read_whole}
use Rattle.ex_base.proofs.Handed.{no_value, not_given, cause_here, handed_after, cause_after}
use Rattle.std.proofs.lemmas.Bool.{false≢true}
use Rattle.version_tree.proofs.Takings.{takes_after}
use Rattle.version_tree.proofs.freezing.freeze.Goals as goal

pub returns-in_err-version-clause-sound : goal.returns-in_err-version-clause-sound
returns-in_err-version-clause-sound g c = if_err_handed c.from_residual.result _ _ c.from_residual.ensures.1 (λ damage told links index is has current file.
    c.in_err-version.ensures.sound damage told index is has (linked_limits g.V.Ground c.args.volume.now index c.args.oid.now is links has))

pub returns-in_err-version-clause-fault : goal.returns-in_err-version-clause-fault
returns-in_err-version-clause-fault g c = if_err_handed c.from_residual.result _ _ c.from_residual.ensures.1 (λ told. of_version (c.in_err-version.ensures.fault told))

pub returns-in_err-check-clause-sound : goal.returns-in_err-check-clause-sound
returns-in_err-check-clause-sound g c = if_err_handed c.from_residual-in_err-check.result _ _ c.from_residual-in_err-check.ensures.1 (λ damage told links index is has current file.
    let at = c.in_ok-version.ensures.stored told index is has in
    let yes : c.is_current.result ≡ true = c.is_current.ensures.1 (ap (λ (h : Head). h.state) (head_read g.V.Ground has.body is c.in_ok-version.version.head has.spelled at.head) ∙ current) in
    let isnt : c.is_current.result ≡ false = c.in_err-check.ensures.fault.0 in
    absurd (false≢true (sym isnt ∙ yes)))

pub returns-in_err-check-clause-fault : goal.returns-in_err-check-clause-fault
returns-in_err-check-clause-fault g c = if_err_handed c.from_residual-in_err-check.result _ _ c.from_residual-in_err-check.ensures.1 (λ told.
    of_body c.in_ok-version.version.body.items (c.in_ok-version.ensures.reads told).read.stands
    (not_current (other_state (g.V.Ground.image c.args.volume.now) c.args.oid.now c.in_ok-version.version Current c.is_current.result (c.in_ok-version.ensures.reads told) c.is_current.ensures.1 c.in_err-check.ensures.fault.0) (c.in_err-check.ensures.fault.1 ∙ ap record_fault (c.in_ok-version.ensures.reads told).read.at)))

pub returns-in_err-older-clause-sound : goal.returns-in_err-older-clause-sound
returns-in_err-older-clause-sound g c = if_err_handed c.from_residual-in_err-older.result _ _ c.from_residual-in_err-older.ensures.1 (λ damage told links index is has current file.
    let kept = c.stored_version.ensures.kept in
    let told_b = g.V.Ground.leads_told c.args.volume.now c.stored_version.new.volume kept.leads told in
    let stands = kept_body g.V.Ground c.args.volume.now c.stored_version.new.volume index (place_of c.args.oid.now) has.body kept has.stands in
    c.in_err-older.ensures.sound damage told_b (kept_linked g.V.Ground c.args.volume.now c.stored_version.new.volume kept links) index (place_of c.args.oid.now) has.body stands (c.in_ok-version.ensures.stored told index is has))

pub returns-in_err-older-clause-fault : goal.returns-in_err-older-clause-fault
returns-in_err-older-clause-fault g c = if_err_handed c.from_residual-in_err-older.result _ _ c.from_residual-in_err-older.ensures.1 (λ told.
    let v = c.in_ok-version.ensures.reads told in
    of_body c.in_ok-version.version.body.items v.read.stands (of_older (older_told g.V.Ground c.args.volume.now c.stored_version.new.volume c.stored_version.ensures.kept c.args.oid.now c.in_ok-version.version c.in_err-older.field-0.0 v c.in_err-older.ensures.fault told)))

pub returns-in-Ok-clause-frozen : goal.returns-in-Ok-clause-frozen
returns-in-Ok-clause-frozen g c = λ told links index is has file.
    let kept = c.stored_version.ensures.kept in
    let later = c.linked_older.ensures.kept in
    let told_b = g.V.Ground.leads_told c.args.volume.now c.stored_version.new.volume kept.leads told in
    let told_d = g.V.Ground.leads_told c.stored_version.new.volume c.linked_older.new.volume later.leads told_b in
    let stands = kept_body g.V.Ground c.args.volume.now c.stored_version.new.volume index (place_of c.args.oid.now) has.body kept has.stands in
    let links_b = kept_linked g.V.Ground c.args.volume.now c.stored_version.new.volume kept links in
    let at = c.in_ok-version.ensures.stored told index is has in
    let fits : length has.body + 20 ≤ (g.V.Ground.geometry c.stored_version.new.volume).page_size =
    subst (λ (y : Geometry). length has.body + 20 ≤ y.page_size) (sym (g.V.Ground.leads_geometry c.args.volume.now c.stored_version.new.volume kept.leads)) (c.in_ok-version.ensures.fits told index is has) in
    let read = read_of g.V.Ground c.stored_version.new.volume c.linked_older.new.volume index (place_of c.args.oid.now) has.body is c.in_ok-version.version c.in_ok-older.older links_b later stands has.spelled at fits
    (c.in_ok-older.ensures.older told_b links_b index (place_of c.args.oid.now) has.body stands at) in
    let current = sym (ap (λ (h : Head). h.state) (head_read g.V.Ground has.body is c.in_ok-version.version.head has.spelled at.head)) ∙ c.is_current.ensures.0 c.in_ok-check.ensures.holds in
    subst (λ (o : Oid). Freezes g.V.Ground c.args.volume.now c.freeze_read.new.volume index (place_of c.args.oid.now) is o) (sym c.oid_at.ensures)
    (kept_freezes g.V.Ground c.args.volume.now c.linked_older.new.volume c.freeze_read.new.volume index c.in_ok-version.version.place (place_of c.args.oid.now) is _ at.stands
    (keeps_on g.V.Ground c.args.volume.now c.stored_version.new.volume c.linked_older.new.volume kept later)
    (c.in-Ok.ensures.frozen told_d index is read current file))

pub returns-in-Ok-clause-chosen : goal.returns-in-Ok-clause-chosen
returns-in-Ok-clause-chosen g c = λ told index is has same room.
    let kept = keeps_on g.V.Ground c.args.volume.now c.stored_version.new.volume c.linked_older.new.volume c.stored_version.ensures.kept c.linked_older.ensures.kept in
    let told_d = g.V.Ground.leads_told c.args.volume.now c.linked_older.new.volume kept.leads told in
    let at = c.in_ok-version.ensures.stored told index is has in
    subst (λ (o : Oid). IsChosen g.V.Ground c.args.volume.now index (length has.body) (place_of o)) (sym c.oid_at.ensures)
    (chosen_back g.V.Ground c.args.volume.now c.linked_older.new.volume kept index (length has.body) c.in-Ok.place
    (subst (λ (n : ℕ). IsChosen g.V.Ground c.linked_older.new.volume index n c.in-Ok.place) (ap (λ (t : List ℕ). length t) at.bytes)
    (c.in-Ok.ensures.chosen told_d index (kept_file g.V.Ground c.args.volume.now c.linked_older.new.volume index kept has.stands.file) same (room_kept g.V.Ground c.args.volume.now c.linked_older.new.volume kept index c.args.room.now room))))

pub returns-in-Ok-clause-len : goal.returns-in-Ok-clause-len
returns-in-Ok-clause-len g c = λ told index is has.
    ap (λ (r : Room). r.len) c.in-Ok.ensures.room ∙ ap (λ (t : List ℕ). length t) (c.in_ok-version.ensures.stored told index is has).bytes

pub returns-in-Ok-clause-reads : goal.returns-in-Ok-clause-reads
returns-in-Ok-clause-reads g c = λ told.
    let kept = c.stored_version.ensures.kept in
    let told_b = g.V.Ground.leads_told c.args.volume.now c.stored_version.new.volume kept.leads told in
    let v = c.in_ok-version.ensures.reads told in
    record {
      body = c.in_ok-version.version.body.items;
      version = v.version;
      holds = (state_read (g.V.Ground.image c.args.volume.now) (g.V.Ground.image c.stored_version.new.volume) kept.images c.args.oid.now c.in_ok-version.version v Current (c.is_current.ensures.0 c.in_ok-check.ensures.holds), older_read (g.V.Ground.image c.args.volume.now) (g.V.Ground.image c.stored_version.new.volume) kept.images c.args.oid.now c.in_ok-version.version v (c.in_ok-older.ensures.link told_b));
    }

pub returns-in-Ok-clause-come : goal.returns-in-Ok-clause-come
returns-in-Ok-clause-come g c = λ told index is has.
    let at = c.in_ok-version.ensures.stored told index is has in
    c.root_in.ensures.root is (subst (λ (b : List ℕ). BodyOf b is) (sym (c.deref.ensures.value ∙ at.bytes)) has.spelled)

pub returns-in-Ok-clause-asked : goal.returns-in-Ok-clause-asked
returns-in-Ok-clause-asked g c = λ told index is has.
    let at = c.in_ok-version.ensures.stored told index is has in
    sym (ap (λ (h : Head). h.state) (head_read g.V.Ground has.body is c.in_ok-version.version.head has.spelled at.head)) ∙ c.is_current.ensures.0 c.in_ok-check.ensures.holds

pub returns-in-Ok-clause-pages : goal.returns-in-Ok-clause-pages
returns-in-Ok-clause-pages g c = omega (arith, c.in-Ok.ensures.pages, ap (λ (f : Area → ℕ). f Page) c.stored_version.ensures.kept.free, ap (λ (f : Area → ℕ). f Page) c.linked_older.ensures.kept.free)

pub returns-clause-sound : goal.returns-clause-sound
returns-clause-sound g c = λ damage told links index is has current file.
    let kept = c.stored_version.ensures.kept in
    let later = c.linked_older.ensures.kept in
    let told_b = g.V.Ground.leads_told c.args.volume.now c.stored_version.new.volume kept.leads told in
    let told_d = g.V.Ground.leads_told c.stored_version.new.volume c.linked_older.new.volume later.leads told_b in
    let stands = kept_body g.V.Ground c.args.volume.now c.stored_version.new.volume index (place_of c.args.oid.now) has.body kept has.stands in
    let links_b = kept_linked g.V.Ground c.args.volume.now c.stored_version.new.volume kept links in
    let at = c.in_ok-version.ensures.stored told index is has in
    let fits : length has.body + 20 ≤ (g.V.Ground.geometry c.stored_version.new.volume).page_size =
    subst (λ (y : Geometry). length has.body + 20 ≤ y.page_size) (sym (g.V.Ground.leads_geometry c.args.volume.now c.stored_version.new.volume kept.leads)) (c.in_ok-version.ensures.fits told index is has) in
    let read = read_of g.V.Ground c.stored_version.new.volume c.linked_older.new.volume index (place_of c.args.oid.now) has.body is c.in_ok-version.version c.in_ok-older.older links_b later stands has.spelled at fits
    (c.in_ok-older.ensures.older told_b links_b index (place_of c.args.oid.now) has.body stands at) in
    c.in-Err.ensures.sound damage told_d index is read current file

pub returns-clause-fault : goal.returns-clause-fault
returns-clause-fault g c = λ told.
    let kept = c.stored_version.ensures.kept in
    let both = keeps_on g.V.Ground c.args.volume.now c.stored_version.new.volume c.linked_older.new.volume kept c.linked_older.ensures.kept in
    let told_b = g.V.Ground.leads_told c.args.volume.now c.stored_version.new.volume kept.leads told in
    let told_d = g.V.Ground.leads_told c.args.volume.now c.linked_older.new.volume both.leads told in
    let v = c.in_ok-version.ensures.reads told in
    of_body c.in_ok-version.version.body.items v.read.stands
    (freezing_of g.V.Ground c.args.volume.now (g.V.Ground.image c.stored_version.new.volume) c.args.room.now c.args.oid.now c.in_ok-version.version c.in_ok-older.older c.in-Err.fault v (c.in_ok-older.ensures.reads told_b)
    (first_kept
    (λ h. (
      h.0,
      λ damage. out_of g.V.Ground c.args.volume.now c.args.room.now c.args.oid.now c.in_ok-version.version v (λ index is has file. h.1 damage index is
          (version_in g.V.Ground c.args.volume.now c.linked_older.new.volume index (place_of c.args.oid.now) has.body is c.in_ok-version.version both has.stands has.spelled (c.in_ok-version.ensures.stored told index is has) (c.in_ok-version.ensures.fits told index is has)) file),
    ))
    (carried_held g.V.Ground c.args.volume.now c.linked_older.new.volume
    (λ y k u. (IsCopyFault y k u c.args.room.now c.in_ok-version.version.place c.in_ok-version.version.body.items c.in-Err.fault
    × (IsDamage c.in-Err.fault → (index : Index) (is : Record) → IsVersionIn g.V.Ground c.linked_older.new.volume index c.in_ok-version.version is → index.file_no ≡ c.args.room.now.file_no → ⊥))
    ⊎ IsSomeAnd c.in_ok-older.older (λ (s : Stored). IsRecordFault s.place c.in-Err.fault)) both c.in-Err.ensures.fault told))
    (λ damage index n file.
    let read = read_whole g.V.Ground c.args.volume.now c.linked_older.new.volume both index c.args.oid.now c.in_ok-version.version c.in_ok-older.older (g.V.Ground.image c.stored_version.new.volume) kept.images v
    (c.in_ok-older.ensures.reads told_b) (c.in_ok-older.ensures.link told_b) (c.in_ok-version.ensures.fits told index) n in
    c.in-Err.ensures.sound damage told_d index n.is read (ap (λ (h : Head). h.state) (sym read.head) ∙ c.is_current.ensures.0 c.in_ok-check.ensures.holds) file))

pub returns-in_err-version-clause-frozen : goal.returns-in_err-version-clause-frozen
returns-in_err-version-clause-frozen g c = no_value c.from_residual.result _ c.in_err-version.field-0.0 c.from_residual.ensures.1

pub returns-in_err-version-clause-asked : goal.returns-in_err-version-clause-asked
returns-in_err-version-clause-asked g c = not_given c.from_residual.result _ c.in_err-version.field-0.0 c.from_residual.ensures.1

pub returns-in_err-version-clause-reads : goal.returns-in_err-version-clause-reads
returns-in_err-version-clause-reads g c = not_given c.from_residual.result _ c.in_err-version.field-0.0 c.from_residual.ensures.1

pub returns-in_err-version-clause-number : goal.returns-in_err-version-clause-number
returns-in_err-version-clause-number g c = no_value c.from_residual.result _ c.in_err-version.field-0.0 c.from_residual.ensures.1

pub returns-in_err-version-clause-come : goal.returns-in_err-version-clause-come
returns-in_err-version-clause-come g c = no_value c.from_residual.result _ c.in_err-version.field-0.0 c.from_residual.ensures.1

pub returns-in_err-version-clause-chosen : goal.returns-in_err-version-clause-chosen
returns-in_err-version-clause-chosen g c = no_value c.from_residual.result _ c.in_err-version.field-0.0 c.from_residual.ensures.1

pub returns-in_err-version-clause-room : goal.returns-in_err-version-clause-room
returns-in_err-version-clause-room g c = no_value c.from_residual.result _ c.in_err-version.field-0.0 c.from_residual.ensures.1

pub returns-in_err-version-clause-len : goal.returns-in_err-version-clause-len
returns-in_err-version-clause-len g c = not_given c.from_residual.result _ c.in_err-version.field-0.0 c.from_residual.ensures.1

pub returns-in_err-version-clause-pages : goal.returns-in_err-version-clause-pages
returns-in_err-version-clause-pages g c = not_given c.from_residual.result _ c.in_err-version.field-0.0 c.from_residual.ensures.1

pub returns-in_err-version-clause-takes : goal.returns-in_err-version-clause-takes
returns-in_err-version-clause-takes g c = not_given c.from_residual.result _ c.in_err-version.field-0.0 c.from_residual.ensures.1

pub returns-in_err-version-clause-leaves : goal.returns-in_err-version-clause-leaves
returns-in_err-version-clause-leaves g c = not_given c.from_residual.result _ c.in_err-version.field-0.0 c.from_residual.ensures.1

pub returns-in_err-version-clause-touches : goal.returns-in_err-version-clause-touches
returns-in_err-version-clause-touches g c = not_given c.from_residual.result _ c.in_err-version.field-0.0 c.from_residual.ensures.1

pub returns-in_err-version-clause-leads : goal.returns-in_err-version-clause-leads
returns-in_err-version-clause-leads g c = c.stored_version.ensures.kept.leads

pub returns-in_err-version-clause-cause : goal.returns-in_err-version-clause-cause
returns-in_err-version-clause-cause g c =
    cause_here (g.V.Ground.faults c.args.volume.now) (g.V.Ground.faults c.stored_version.new.volume) c.from_residual.result c.in_err-version.field-0.0
    c.from_residual.ensures.1 c.in_err-version.ensures.cause

pub returns-in_err-check-clause-frozen : goal.returns-in_err-check-clause-frozen
returns-in_err-check-clause-frozen g c = no_value c.from_residual-in_err-check.result _ c.in_err-check.field-0.0 c.from_residual-in_err-check.ensures.1

pub returns-in_err-check-clause-asked : goal.returns-in_err-check-clause-asked
returns-in_err-check-clause-asked g c = not_given c.from_residual-in_err-check.result _ c.in_err-check.field-0.0 c.from_residual-in_err-check.ensures.1

pub returns-in_err-check-clause-reads : goal.returns-in_err-check-clause-reads
returns-in_err-check-clause-reads g c = not_given c.from_residual-in_err-check.result _ c.in_err-check.field-0.0 c.from_residual-in_err-check.ensures.1

pub returns-in_err-check-clause-number : goal.returns-in_err-check-clause-number
returns-in_err-check-clause-number g c = no_value c.from_residual-in_err-check.result _ c.in_err-check.field-0.0 c.from_residual-in_err-check.ensures.1

pub returns-in_err-check-clause-come : goal.returns-in_err-check-clause-come
returns-in_err-check-clause-come g c = no_value c.from_residual-in_err-check.result _ c.in_err-check.field-0.0 c.from_residual-in_err-check.ensures.1

pub returns-in_err-check-clause-chosen : goal.returns-in_err-check-clause-chosen
returns-in_err-check-clause-chosen g c = no_value c.from_residual-in_err-check.result _ c.in_err-check.field-0.0 c.from_residual-in_err-check.ensures.1

pub returns-in_err-check-clause-room : goal.returns-in_err-check-clause-room
returns-in_err-check-clause-room g c = no_value c.from_residual-in_err-check.result _ c.in_err-check.field-0.0 c.from_residual-in_err-check.ensures.1

pub returns-in_err-check-clause-len : goal.returns-in_err-check-clause-len
returns-in_err-check-clause-len g c = not_given c.from_residual-in_err-check.result _ c.in_err-check.field-0.0 c.from_residual-in_err-check.ensures.1

pub returns-in_err-check-clause-pages : goal.returns-in_err-check-clause-pages
returns-in_err-check-clause-pages g c = not_given c.from_residual-in_err-check.result _ c.in_err-check.field-0.0 c.from_residual-in_err-check.ensures.1

pub returns-in_err-check-clause-takes : goal.returns-in_err-check-clause-takes
returns-in_err-check-clause-takes g c = not_given c.from_residual-in_err-check.result _ c.in_err-check.field-0.0 c.from_residual-in_err-check.ensures.1

pub returns-in_err-check-clause-leaves : goal.returns-in_err-check-clause-leaves
returns-in_err-check-clause-leaves g c = not_given c.from_residual-in_err-check.result _ c.in_err-check.field-0.0 c.from_residual-in_err-check.ensures.1

pub returns-in_err-check-clause-touches : goal.returns-in_err-check-clause-touches
returns-in_err-check-clause-touches g c = not_given c.from_residual-in_err-check.result _ c.in_err-check.field-0.0 c.from_residual-in_err-check.ensures.1

pub returns-in_err-check-clause-leads : goal.returns-in_err-check-clause-leads
returns-in_err-check-clause-leads g c = c.stored_version.ensures.kept.leads

pub returns-in_err-check-clause-cause : goal.returns-in_err-check-clause-cause
returns-in_err-check-clause-cause g c =
    cause_here (g.V.Ground.faults c.args.volume.now) (g.V.Ground.faults c.stored_version.new.volume) c.from_residual-in_err-check.result
    c.in_err-check.field-0.0 c.from_residual-in_err-check.ensures.1
    (c.in_err-check.ensures.cause (g.V.Ground.faults c.args.volume.now) (g.V.Ground.faults c.stored_version.new.volume))

pub returns-in_err-older-clause-frozen : goal.returns-in_err-older-clause-frozen
returns-in_err-older-clause-frozen g c = no_value c.from_residual-in_err-older.result _ c.in_err-older.field-0.0 c.from_residual-in_err-older.ensures.1

pub returns-in_err-older-clause-asked : goal.returns-in_err-older-clause-asked
returns-in_err-older-clause-asked g c = not_given c.from_residual-in_err-older.result _ c.in_err-older.field-0.0 c.from_residual-in_err-older.ensures.1

pub returns-in_err-older-clause-reads : goal.returns-in_err-older-clause-reads
returns-in_err-older-clause-reads g c = not_given c.from_residual-in_err-older.result _ c.in_err-older.field-0.0 c.from_residual-in_err-older.ensures.1

pub returns-in_err-older-clause-number : goal.returns-in_err-older-clause-number
returns-in_err-older-clause-number g c = no_value c.from_residual-in_err-older.result _ c.in_err-older.field-0.0 c.from_residual-in_err-older.ensures.1

pub returns-in_err-older-clause-come : goal.returns-in_err-older-clause-come
returns-in_err-older-clause-come g c = no_value c.from_residual-in_err-older.result _ c.in_err-older.field-0.0 c.from_residual-in_err-older.ensures.1

pub returns-in_err-older-clause-chosen : goal.returns-in_err-older-clause-chosen
returns-in_err-older-clause-chosen g c = no_value c.from_residual-in_err-older.result _ c.in_err-older.field-0.0 c.from_residual-in_err-older.ensures.1

pub returns-in_err-older-clause-room : goal.returns-in_err-older-clause-room
returns-in_err-older-clause-room g c = no_value c.from_residual-in_err-older.result _ c.in_err-older.field-0.0 c.from_residual-in_err-older.ensures.1

pub returns-in_err-older-clause-len : goal.returns-in_err-older-clause-len
returns-in_err-older-clause-len g c = not_given c.from_residual-in_err-older.result _ c.in_err-older.field-0.0 c.from_residual-in_err-older.ensures.1

pub returns-in_err-older-clause-pages : goal.returns-in_err-older-clause-pages
returns-in_err-older-clause-pages g c = not_given c.from_residual-in_err-older.result _ c.in_err-older.field-0.0 c.from_residual-in_err-older.ensures.1

pub returns-in_err-older-clause-takes : goal.returns-in_err-older-clause-takes
returns-in_err-older-clause-takes g c = not_given c.from_residual-in_err-older.result _ c.in_err-older.field-0.0 c.from_residual-in_err-older.ensures.1

pub returns-in_err-older-clause-leaves : goal.returns-in_err-older-clause-leaves
returns-in_err-older-clause-leaves g c = not_given c.from_residual-in_err-older.result _ c.in_err-older.field-0.0 c.from_residual-in_err-older.ensures.1

pub returns-in_err-older-clause-touches : goal.returns-in_err-older-clause-touches
returns-in_err-older-clause-touches g c = not_given c.from_residual-in_err-older.result _ c.in_err-older.field-0.0 c.from_residual-in_err-older.ensures.1

pub returns-in_err-older-clause-leads : goal.returns-in_err-older-clause-leads
returns-in_err-older-clause-leads g c =
    g.V.Ground.leads_trans c.args.volume.now c.stored_version.new.volume c.linked_older.new.volume c.stored_version.ensures.kept.leads
    c.linked_older.ensures.kept.leads

pub returns-in_err-older-clause-cause : goal.returns-in_err-older-clause-cause
returns-in_err-older-clause-cause g c =
    handed_after g.V.Ground c.args.volume.now c.stored_version.new.volume c.stored_version.ensures.kept.leads c.linked_older.new.volume
    c.from_residual-in_err-older.result c.in_err-older.field-0.0 c.from_residual-in_err-older.ensures.1 c.in_err-older.ensures.cause

pub returns-in-Ok-clause-unplaced : goal.returns-in-Ok-clause-unplaced
returns-in-Ok-clause-unplaced g c = tt

pub returns-in-Ok-clause-sound : goal.returns-in-Ok-clause-sound
returns-in-Ok-clause-sound g c = tt

pub returns-in-Ok-clause-fault : goal.returns-in-Ok-clause-fault
returns-in-Ok-clause-fault g c = tt

pub returns-in-Ok-clause-leads : goal.returns-in-Ok-clause-leads
returns-in-Ok-clause-leads g c =
    g.V.Ground.leads_trans c.args.volume.now c.linked_older.new.volume c.freeze_read.new.volume
    (g.V.Ground.leads_trans c.args.volume.now c.stored_version.new.volume c.linked_older.new.volume c.stored_version.ensures.kept.leads
    c.linked_older.ensures.kept.leads)
    c.freeze_read.ensures.leads

pub returns-in-Ok-clause-cause : goal.returns-in-Ok-clause-cause
returns-in-Ok-clause-cause g c = tt

pub returns-clause-frozen : goal.returns-clause-frozen
returns-clause-frozen g c = tt

pub returns-clause-asked : goal.returns-clause-asked
returns-clause-asked g c = tt

pub returns-clause-reads : goal.returns-clause-reads
returns-clause-reads g c = tt

pub returns-clause-number : goal.returns-clause-number
returns-clause-number g c = tt

pub returns-clause-come : goal.returns-clause-come
returns-clause-come g c = tt

pub returns-clause-chosen : goal.returns-clause-chosen
returns-clause-chosen g c = tt

pub returns-clause-room : goal.returns-clause-room
returns-clause-room g c = tt

pub returns-clause-len : goal.returns-clause-len
returns-clause-len g c = tt

pub returns-clause-pages : goal.returns-clause-pages
returns-clause-pages g c = tt

pub returns-clause-takes : goal.returns-clause-takes
returns-clause-takes g c = tt

pub returns-clause-leaves : goal.returns-clause-leaves
returns-clause-leaves g c = tt

pub returns-clause-touches : goal.returns-clause-touches
returns-clause-touches g c = tt

pub returns-clause-leads : goal.returns-clause-leads
returns-clause-leads g c =
    g.V.Ground.leads_trans c.args.volume.now c.linked_older.new.volume c.freeze_read.new.volume
    (g.V.Ground.leads_trans c.args.volume.now c.stored_version.new.volume c.linked_older.new.volume c.stored_version.ensures.kept.leads
    c.linked_older.ensures.kept.leads)
    c.freeze_read.ensures.leads

pub returns-clause-cause : goal.returns-clause-cause
returns-clause-cause g c =
    cause_after g.V.Ground c.args.volume.now c.linked_older.new.volume
    (g.V.Ground.leads_trans c.args.volume.now c.stored_version.new.volume c.linked_older.new.volume c.stored_version.ensures.kept.leads
    c.linked_older.ensures.kept.leads)
    c.freeze_read.new.volume c.in-Err.fault c.in-Err.ensures.cause

pub stored_version-requires : goal.stored_version-requires
stored_version-requires g c = c.requires.ready

pub linked_older-requires : goal.linked_older-requires
linked_older-requires g c = g.V.Ground.leads_ready c.args.volume.now c.stored_version.new.volume c.stored_version.ensures.kept.leads c.requires.ready

pub freeze_read-requires-clause-ready : goal.freeze_read-requires-clause-ready
freeze_read-requires-clause-ready g c =
    g.V.Ground.leads_ready c.args.volume.now c.linked_older.new.volume
    (g.V.Ground.leads_trans c.args.volume.now c.stored_version.new.volume c.linked_older.new.volume c.stored_version.ensures.kept.leads
    c.linked_older.ensures.kept.leads)
    c.requires.ready

pub returns-in-Ok-clause-number : goal.returns-in-Ok-clause-number
returns-in-Ok-clause-number g c = ap (λ (o : Oid). o.unique) c.oid_at.ensures

pub returns-in-Ok-clause-leaves : goal.returns-in-Ok-clause-leaves
returns-in-Ok-clause-leaves g c = c.in-Ok.ensures.leaves ∙ ap (λ (f : Area → ℕ). f Segment) (keeps_on g.V.Ground c.args.volume.now c.stored_version.new.volume c.linked_older.new.volume c.stored_version.ensures.kept c.linked_older.ensures.kept).free

pub returns-in-Ok-clause-takes : goal.returns-in-Ok-clause-takes
returns-in-Ok-clause-takes g c =
    takes_after g.V.Ground c.args.volume.now c.linked_older.new.volume c.freeze_read.new.volume
    (keeps_on g.V.Ground c.args.volume.now c.stored_version.new.volume c.linked_older.new.volume c.stored_version.ensures.kept c.linked_older.ensures.kept)
    c.in-Ok.ensures.takes

pub returns-in-Ok-clause-touches : goal.returns-in-Ok-clause-touches
returns-in-Ok-clause-touches g c = omega (arith, c.in-Ok.ensures.touches, c.stored_version.ensures.kept.touched, c.linked_older.ensures.kept.touched)

pub returns-in-Ok-clause-room : goal.returns-in-Ok-clause-room
returns-in-Ok-clause-room g c =
    (ap (λ (r : Room). r.file_no) c.in-Ok.ensures.room, ap (λ (r : Room). r.from) c.in-Ok.ensures.room ∙ sym (ap (λ (o : Oid). o.page) c.oid_at.ensures))

pub freeze_read-requires-clause-free : goal.freeze_read-requires-clause-free
freeze_read-requires-clause-free g c = omega (arith, c.requires.free, ap (λ (f : Area → ℕ). f Page) c.stored_version.ensures.kept.free, ap (λ (f : Area → ℕ). f Page) c.linked_older.ensures.kept.free)
