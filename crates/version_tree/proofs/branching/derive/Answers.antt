use Rattle.std.proofs.Common.{◌≡◌, ℕ, List, length, true, false, refl, subst, sym, ap, ◌∙◌, arith}
use Rattle.ex_base.specs.declared.names.Oid.{Oid}
use Rattle.object_records.specs.Record.{BodyOf}
use Rattle.ex_base.specs.declared.names.Area.{Area}
use Rattle.ex_base.specs.declared.names.Area.TheVariants.{Page, Segment}
use Rattle.ex_base.proofs.Results.{if_err_handed}
use Rattle.object_records.specs.declared.Head.{Head}
use Rattle.object_records.specs.declared.State.TheVariants.{Frozen}
use Rattle.file_bodies.specs.Places.{IsChosen}
use Rattle.file_bodies.specs.declared.placing.Room.{Room}
use Rattle.file_bodies.proofs.Blame.{carried_held}
use Rattle.file_bodies.proofs.Moving.{kept_file}
use Rattle.versions.specs.Versions.{place_of}
use Rattle.version_tree.specs.Copies.{Derives, IsCopyFault, not_asked}
use Rattle.versions.specs.Damage.{record_fault}
use Rattle.version_tree.specs.Links.{of_body, of_version}
use Rattle.version_tree.proofs.Copying.{kept_derives, version_in}
use Rattle.version_tree.proofs.Linking.{head_read}
use Rattle.version_tree.proofs.RoomsKept.{chosen_back, room_kept}
use Rattle.version_tree.proofs.ReadPlaces.{deriving_of, other_state, out_of, state_read}
use Rattle.ex_base.proofs.Handed.{no_value, not_given, cause_here, cause_after}
use Rattle.std.proofs.lemmas.Bool.{false≢true}
use Rattle.version_tree.proofs.Takings.{takes_after}
use Rattle.version_tree.proofs.branching.derive.Goals as goal

pub returns-in_err-version-clause-sound : goal.returns-in_err-version-clause-sound
returns-in_err-version-clause-sound g c = if_err_handed c.from_residual.result _ _ c.from_residual.ensures.1 (λ damage told index is has limits frozen file.
    c.in_err-version.ensures.sound damage told index is has limits)

pub returns-in_err-version-clause-fault : goal.returns-in_err-version-clause-fault
returns-in_err-version-clause-fault g c = if_err_handed c.from_residual.result _ _ c.from_residual.ensures.1 (λ told. of_version (c.in_err-version.ensures.fault told))

pub returns-in_err-check-clause-sound : goal.returns-in_err-check-clause-sound
returns-in_err-check-clause-sound g c = if_err_handed c.from_residual-in_err-check.result _ _ c.from_residual-in_err-check.ensures.1 (λ damage told index is has limits frozen file.
    let at = c.in_ok-version.ensures.stored told index is has in
    let yes : c.is_frozen.result ≡ true = c.is_frozen.ensures.1 (ap (λ (h : Head). h.state) (head_read g.V.Ground has.body is c.in_ok-version.version.head has.spelled at.head) ∙ frozen) in
    let isnt : c.is_frozen.result ≡ false = c.in_err-check.ensures.fault.0 in
    absurd (false≢true (sym isnt ∙ yes)))

pub returns-in_err-check-clause-fault : goal.returns-in_err-check-clause-fault
returns-in_err-check-clause-fault g c = if_err_handed c.from_residual-in_err-check.result _ _ c.from_residual-in_err-check.ensures.1 (λ told.
    of_body c.in_ok-version.version.body.items (c.in_ok-version.ensures.reads told).read.stands
    (not_asked (other_state (g.V.Ground.image c.args.volume.now) c.args.oid.now c.in_ok-version.version Frozen c.is_frozen.result (c.in_ok-version.ensures.reads told) c.is_frozen.ensures.1 c.in_err-check.ensures.fault.0) (c.in_err-check.ensures.fault.1 ∙ ap record_fault (c.in_ok-version.ensures.reads told).read.at)))

pub returns-in-Ok-clause-derived : goal.returns-in-Ok-clause-derived
returns-in-Ok-clause-derived g c = λ told index is has file.
    let kept = c.stored_version.ensures.kept in
    let told_b = g.V.Ground.leads_told c.args.volume.now c.stored_version.new.volume kept.leads told in
    let at = c.in_ok-version.ensures.stored told index is has in
    let v = version_in g.V.Ground c.args.volume.now c.stored_version.new.volume index (place_of c.args.oid.now) has.body is c.in_ok-version.version kept has.stands has.spelled at (c.in_ok-version.ensures.fits told index is has) in
    subst (λ (o : Oid). Derives g.V.Ground c.args.volume.now c.derive_read.new.volume index (place_of c.args.oid.now) is o) (sym c.oid_at.ensures)
    (kept_derives g.V.Ground c.args.volume.now c.stored_version.new.volume c.derive_read.new.volume index c.in_ok-version.version.place (place_of c.args.oid.now) is _ at.stands kept (c.in-Ok.ensures.derived told_b index is v file))

pub returns-in-Ok-clause-chosen : goal.returns-in-Ok-clause-chosen
returns-in-Ok-clause-chosen g c = λ told index is has same room.
    let kept = c.stored_version.ensures.kept in
    let told_b = g.V.Ground.leads_told c.args.volume.now c.stored_version.new.volume kept.leads told in
    let at = c.in_ok-version.ensures.stored told index is has in
    subst (λ (o : Oid). IsChosen g.V.Ground c.args.volume.now index (length has.body) (place_of o)) (sym c.oid_at.ensures)
    (chosen_back g.V.Ground c.args.volume.now c.stored_version.new.volume kept index (length has.body) c.in-Ok.place
    (subst (λ (n : ℕ). IsChosen g.V.Ground c.stored_version.new.volume index n c.in-Ok.place) (ap (λ (t : List ℕ). length t) at.bytes)
    (c.in-Ok.ensures.chosen told_b index (kept_file g.V.Ground c.args.volume.now c.stored_version.new.volume index kept has.stands.file) same (room_kept g.V.Ground c.args.volume.now c.stored_version.new.volume kept index c.args.room.now room))))

pub returns-in-Ok-clause-len : goal.returns-in-Ok-clause-len
returns-in-Ok-clause-len g c = λ told index is has.
    ap (λ (r : Room). r.len) c.in-Ok.ensures.room ∙ ap (λ (t : List ℕ). length t) (c.in_ok-version.ensures.stored told index is has).bytes

pub returns-in-Ok-clause-reads : goal.returns-in-Ok-clause-reads
returns-in-Ok-clause-reads g c = λ told.
    let v = c.in_ok-version.ensures.reads told in
    record {
      body = c.in_ok-version.version.body.items;
      version = v.version;
      holds = state_read (g.V.Ground.image c.args.volume.now) (g.V.Ground.image c.args.volume.now) refl c.args.oid.now c.in_ok-version.version v Frozen (c.is_frozen.ensures.0 c.in_ok-check.ensures.holds);
    }

pub returns-in-Ok-clause-come : goal.returns-in-Ok-clause-come
returns-in-Ok-clause-come g c = λ told index is has.
    let at = c.in_ok-version.ensures.stored told index is has in
    c.root_in.ensures.root is (subst (λ (b : List ℕ). BodyOf b is) (sym (c.deref.ensures.value ∙ at.bytes)) has.spelled)

pub returns-in-Ok-clause-asked : goal.returns-in-Ok-clause-asked
returns-in-Ok-clause-asked g c = λ told index is has.
    let at = c.in_ok-version.ensures.stored told index is has in
    sym (ap (λ (h : Head). h.state) (head_read g.V.Ground has.body is c.in_ok-version.version.head has.spelled at.head)) ∙ c.is_frozen.ensures.0 c.in_ok-check.ensures.holds

pub returns-in-Ok-clause-pages : goal.returns-in-Ok-clause-pages
returns-in-Ok-clause-pages g c = omega (arith, c.in-Ok.ensures.pages, ap (λ (f : Area → ℕ). f Page) c.stored_version.ensures.kept.free)

pub returns-clause-sound : goal.returns-clause-sound
returns-clause-sound g c = λ damage told index is has limits frozen file.
    c.in-Err.ensures.sound damage (g.V.Ground.leads_told c.args.volume.now c.stored_version.new.volume c.stored_version.ensures.kept.leads told) index is
    (version_in g.V.Ground c.args.volume.now c.stored_version.new.volume index (place_of c.args.oid.now) has.body is c.in_ok-version.version c.stored_version.ensures.kept has.stands has.spelled (c.in_ok-version.ensures.stored told index is has) (c.in_ok-version.ensures.fits told index is has)) file

pub returns-clause-fault : goal.returns-clause-fault
returns-clause-fault g c = λ told.
    let v = c.in_ok-version.ensures.reads told in
    of_body c.in_ok-version.version.body.items v.read.stands
    (deriving_of g.V.Ground c.args.volume.now c.args.room.now c.args.oid.now c.in_ok-version.version c.in-Err.fault v
    (carried_held g.V.Ground c.args.volume.now c.stored_version.new.volume (λ y k u. IsCopyFault y k u c.args.room.now c.in_ok-version.version.place c.in_ok-version.version.body.items c.in-Err.fault) c.stored_version.ensures.kept c.in-Err.ensures.fault told)
    (λ damage. out_of g.V.Ground c.args.volume.now c.args.room.now c.args.oid.now c.in_ok-version.version v (λ index is has file.
    c.in-Err.ensures.sound damage (g.V.Ground.leads_told c.args.volume.now c.stored_version.new.volume c.stored_version.ensures.kept.leads told) index is
    (version_in g.V.Ground c.args.volume.now c.stored_version.new.volume index (place_of c.args.oid.now) has.body is c.in_ok-version.version c.stored_version.ensures.kept has.stands has.spelled (c.in_ok-version.ensures.stored told index is has) (c.in_ok-version.ensures.fits told index is has)) file)))

pub returns-in_err-version-clause-derived : goal.returns-in_err-version-clause-derived
returns-in_err-version-clause-derived g c = no_value c.from_residual.result _ c.in_err-version.field-0.0 c.from_residual.ensures.1

pub returns-in_err-version-clause-asked : goal.returns-in_err-version-clause-asked
returns-in_err-version-clause-asked g c = not_given c.from_residual.result _ c.in_err-version.field-0.0 c.from_residual.ensures.1

pub returns-in_err-version-clause-reads : goal.returns-in_err-version-clause-reads
returns-in_err-version-clause-reads g c = not_given c.from_residual.result _ c.in_err-version.field-0.0 c.from_residual.ensures.1

pub returns-in_err-version-clause-number : goal.returns-in_err-version-clause-number
returns-in_err-version-clause-number g c = no_value c.from_residual.result _ c.in_err-version.field-0.0 c.from_residual.ensures.1

pub returns-in_err-version-clause-come : goal.returns-in_err-version-clause-come
returns-in_err-version-clause-come g c = no_value c.from_residual.result _ c.in_err-version.field-0.0 c.from_residual.ensures.1

pub returns-in_err-version-clause-chosen : goal.returns-in_err-version-clause-chosen
returns-in_err-version-clause-chosen g c = no_value c.from_residual.result _ c.in_err-version.field-0.0 c.from_residual.ensures.1

pub returns-in_err-version-clause-room : goal.returns-in_err-version-clause-room
returns-in_err-version-clause-room g c = no_value c.from_residual.result _ c.in_err-version.field-0.0 c.from_residual.ensures.1

pub returns-in_err-version-clause-len : goal.returns-in_err-version-clause-len
returns-in_err-version-clause-len g c = not_given c.from_residual.result _ c.in_err-version.field-0.0 c.from_residual.ensures.1

pub returns-in_err-version-clause-pages : goal.returns-in_err-version-clause-pages
returns-in_err-version-clause-pages g c = not_given c.from_residual.result _ c.in_err-version.field-0.0 c.from_residual.ensures.1

pub returns-in_err-version-clause-takes : goal.returns-in_err-version-clause-takes
returns-in_err-version-clause-takes g c = not_given c.from_residual.result _ c.in_err-version.field-0.0 c.from_residual.ensures.1

pub returns-in_err-version-clause-leaves : goal.returns-in_err-version-clause-leaves
returns-in_err-version-clause-leaves g c = not_given c.from_residual.result _ c.in_err-version.field-0.0 c.from_residual.ensures.1

pub returns-in_err-version-clause-touches : goal.returns-in_err-version-clause-touches
returns-in_err-version-clause-touches g c = not_given c.from_residual.result _ c.in_err-version.field-0.0 c.from_residual.ensures.1

pub returns-in_err-version-clause-leads : goal.returns-in_err-version-clause-leads
returns-in_err-version-clause-leads g c = c.stored_version.ensures.kept.leads

pub returns-in_err-version-clause-cause : goal.returns-in_err-version-clause-cause
returns-in_err-version-clause-cause g c =
    cause_here (g.V.Ground.faults c.args.volume.now) (g.V.Ground.faults c.stored_version.new.volume) c.from_residual.result c.in_err-version.field-0.0
    c.from_residual.ensures.1 c.in_err-version.ensures.cause

pub returns-in_err-check-clause-derived : goal.returns-in_err-check-clause-derived
returns-in_err-check-clause-derived g c = no_value c.from_residual-in_err-check.result _ c.in_err-check.field-0.0 c.from_residual-in_err-check.ensures.1

pub returns-in_err-check-clause-asked : goal.returns-in_err-check-clause-asked
returns-in_err-check-clause-asked g c = not_given c.from_residual-in_err-check.result _ c.in_err-check.field-0.0 c.from_residual-in_err-check.ensures.1

pub returns-in_err-check-clause-reads : goal.returns-in_err-check-clause-reads
returns-in_err-check-clause-reads g c = not_given c.from_residual-in_err-check.result _ c.in_err-check.field-0.0 c.from_residual-in_err-check.ensures.1

pub returns-in_err-check-clause-number : goal.returns-in_err-check-clause-number
returns-in_err-check-clause-number g c = no_value c.from_residual-in_err-check.result _ c.in_err-check.field-0.0 c.from_residual-in_err-check.ensures.1

pub returns-in_err-check-clause-come : goal.returns-in_err-check-clause-come
returns-in_err-check-clause-come g c = no_value c.from_residual-in_err-check.result _ c.in_err-check.field-0.0 c.from_residual-in_err-check.ensures.1

pub returns-in_err-check-clause-chosen : goal.returns-in_err-check-clause-chosen
returns-in_err-check-clause-chosen g c = no_value c.from_residual-in_err-check.result _ c.in_err-check.field-0.0 c.from_residual-in_err-check.ensures.1

pub returns-in_err-check-clause-room : goal.returns-in_err-check-clause-room
returns-in_err-check-clause-room g c = no_value c.from_residual-in_err-check.result _ c.in_err-check.field-0.0 c.from_residual-in_err-check.ensures.1

pub returns-in_err-check-clause-len : goal.returns-in_err-check-clause-len
returns-in_err-check-clause-len g c = not_given c.from_residual-in_err-check.result _ c.in_err-check.field-0.0 c.from_residual-in_err-check.ensures.1

pub returns-in_err-check-clause-pages : goal.returns-in_err-check-clause-pages
returns-in_err-check-clause-pages g c = not_given c.from_residual-in_err-check.result _ c.in_err-check.field-0.0 c.from_residual-in_err-check.ensures.1

pub returns-in_err-check-clause-takes : goal.returns-in_err-check-clause-takes
returns-in_err-check-clause-takes g c = not_given c.from_residual-in_err-check.result _ c.in_err-check.field-0.0 c.from_residual-in_err-check.ensures.1

pub returns-in_err-check-clause-leaves : goal.returns-in_err-check-clause-leaves
returns-in_err-check-clause-leaves g c = not_given c.from_residual-in_err-check.result _ c.in_err-check.field-0.0 c.from_residual-in_err-check.ensures.1

pub returns-in_err-check-clause-touches : goal.returns-in_err-check-clause-touches
returns-in_err-check-clause-touches g c = not_given c.from_residual-in_err-check.result _ c.in_err-check.field-0.0 c.from_residual-in_err-check.ensures.1

pub returns-in_err-check-clause-leads : goal.returns-in_err-check-clause-leads
returns-in_err-check-clause-leads g c = c.stored_version.ensures.kept.leads

pub returns-in_err-check-clause-cause : goal.returns-in_err-check-clause-cause
returns-in_err-check-clause-cause g c =
    cause_here (g.V.Ground.faults c.args.volume.now) (g.V.Ground.faults c.stored_version.new.volume) c.from_residual-in_err-check.result
    c.in_err-check.field-0.0 c.from_residual-in_err-check.ensures.1
    (c.in_err-check.ensures.cause (g.V.Ground.faults c.args.volume.now) (g.V.Ground.faults c.stored_version.new.volume))

pub returns-in-Ok-clause-unplaced : goal.returns-in-Ok-clause-unplaced
returns-in-Ok-clause-unplaced g c = tt

pub returns-in-Ok-clause-sound : goal.returns-in-Ok-clause-sound
returns-in-Ok-clause-sound g c = tt

pub returns-in-Ok-clause-fault : goal.returns-in-Ok-clause-fault
returns-in-Ok-clause-fault g c = tt

pub returns-in-Ok-clause-leads : goal.returns-in-Ok-clause-leads
returns-in-Ok-clause-leads g c =
    g.V.Ground.leads_trans c.args.volume.now c.stored_version.new.volume c.derive_read.new.volume c.stored_version.ensures.kept.leads
    c.derive_read.ensures.leads

pub returns-in-Ok-clause-cause : goal.returns-in-Ok-clause-cause
returns-in-Ok-clause-cause g c = tt

pub returns-clause-derived : goal.returns-clause-derived
returns-clause-derived g c = tt

pub returns-clause-asked : goal.returns-clause-asked
returns-clause-asked g c = tt

pub returns-clause-reads : goal.returns-clause-reads
returns-clause-reads g c = tt

pub returns-clause-number : goal.returns-clause-number
returns-clause-number g c = tt

pub returns-clause-come : goal.returns-clause-come
returns-clause-come g c = tt

pub returns-clause-chosen : goal.returns-clause-chosen
returns-clause-chosen g c = tt

pub returns-clause-room : goal.returns-clause-room
returns-clause-room g c = tt

pub returns-clause-len : goal.returns-clause-len
returns-clause-len g c = tt

pub returns-clause-pages : goal.returns-clause-pages
returns-clause-pages g c = tt

pub returns-clause-takes : goal.returns-clause-takes
returns-clause-takes g c = tt

pub returns-clause-leaves : goal.returns-clause-leaves
returns-clause-leaves g c = tt

pub returns-clause-touches : goal.returns-clause-touches
returns-clause-touches g c = tt

pub returns-clause-leads : goal.returns-clause-leads
returns-clause-leads g c =
    g.V.Ground.leads_trans c.args.volume.now c.stored_version.new.volume c.derive_read.new.volume c.stored_version.ensures.kept.leads
    c.derive_read.ensures.leads

pub returns-clause-cause : goal.returns-clause-cause
returns-clause-cause g c =
    cause_after g.V.Ground c.args.volume.now c.stored_version.new.volume c.stored_version.ensures.kept.leads c.derive_read.new.volume c.in-Err.fault
    c.in-Err.ensures.cause

pub stored_version-requires : goal.stored_version-requires
stored_version-requires g c = c.requires.ready

pub derive_read-requires-clause-ready : goal.derive_read-requires-clause-ready
derive_read-requires-clause-ready g c =
    g.V.Ground.leads_ready c.args.volume.now c.stored_version.new.volume c.stored_version.ensures.kept.leads c.requires.ready

pub returns-in-Ok-clause-number : goal.returns-in-Ok-clause-number
returns-in-Ok-clause-number g c = ap (λ (o : Oid). o.unique) c.oid_at.ensures

pub returns-in-Ok-clause-leaves : goal.returns-in-Ok-clause-leaves
returns-in-Ok-clause-leaves g c = c.in-Ok.ensures.leaves ∙ ap (λ (f : Area → ℕ). f Segment) c.stored_version.ensures.kept.free

pub returns-in-Ok-clause-takes : goal.returns-in-Ok-clause-takes
returns-in-Ok-clause-takes g c =
    takes_after g.V.Ground c.args.volume.now c.stored_version.new.volume c.derive_read.new.volume c.stored_version.ensures.kept c.in-Ok.ensures.takes

pub returns-in-Ok-clause-touches : goal.returns-in-Ok-clause-touches
returns-in-Ok-clause-touches g c = omega (arith, c.in-Ok.ensures.touches, c.stored_version.ensures.kept.touched)

pub returns-in-Ok-clause-room : goal.returns-in-Ok-clause-room
returns-in-Ok-clause-room g c =
    (ap (λ (r : Room). r.file_no) c.in-Ok.ensures.room, ap (λ (r : Room). r.from) c.in-Ok.ensures.room ∙ sym (ap (λ (o : Oid). o.page) c.oid_at.ensures))

pub derive_read-requires-clause-free : goal.derive_read-requires-clause-free
derive_read-requires-clause-free g c = omega (arith, c.requires.free, ap (λ (f : Area → ℕ). f Page) c.stored_version.ensures.kept.free)
