use Rattle.std.proofs.Common.{◌≡◌, ◌≤◌, ◌+◌, ◌⊎◌, ℕ, true, false, List, length, Option, Some, sym, ap, subst, ◌∙◌, arith}
use Rattle.std.specs.Prelude.{IsSome, IsSomeAnd}
use Rattle.std.proofs.lemmas.Result.{on_ok_weaker, IfOk-weaker, IfErr-weaker}
use Rattle.ex_base.specs.declared.geometry.Geometry.{Geometry}
use Rattle.ex_base.specs.declared.names.Area.{Area}
use Rattle.ex_base.specs.declared.names.Area.TheVariants.{Page, Segment}
use Rattle.ex_base.proofs.Keeping.{keeps_on}
use Rattle.ex_base.proofs.Results.{if_err_handed}
use Rattle.object_records.specs.Record.{BodyOf}
use Rattle.object_records.specs.declared.Head.{Head}
use Rattle.object_records.specs.declared.State.TheVariants.{Frozen}
use Rattle.file_bodies.specs.Bodies.{bodies_of}
use Rattle.file_bodies.specs.Damage.{IsTakingFault}
use Rattle.file_bodies.proofs.Blame.{carried_held}
use Rattle.file_bodies.proofs.Moving.{kept_body}
use Rattle.versions.specs.Versions.{place_of}
use Rattle.versions.specs.Damage.{record_fault}
use Rattle.version_tree.specs.Links.{IsRecordFault, ReadOn, StoredAt, of_body, of_version}
use Rattle.version_tree.specs.Removals.{not_asked, of_newer, of_older}
use Rattle.version_tree.proofs.Dropped.{between_of, kept_drops, none_linked}
use Rattle.version_tree.proofs.Linking.{head_read, kept_linked, linked_limits}
use Rattle.version_tree.proofs.WholeLinks.{between_whole}
use Rattle.version_tree.proofs.ReadPlaces.{dropping_of, err_both, newer_read, newer_told, none_named, not_some, older_read, older_told, other_state, some_named, state_read}
use Rattle.versions.proofs.Results.{ok_of}
use Rattle.version_tree.specs.declared.links.Stored.{Stored}
use Rattle.ex_base.proofs.Handed.{not_given, no_value, cause_here, handed_after, cause_of}
use Rattle.std.proofs.lemmas.Bool.{false≢true}
use Rattle.version_tree.proofs.Takings.{gives_after}
use Rattle.version_tree.proofs.dropping.drop_version.Goals as goal

pub returns-in_err-version-clause-sound : goal.returns-in_err-version-clause-sound
returns-in_err-version-clause-sound g c = if_err_handed c.from_residual.result _ _ c.from_residual.ensures.1 (λ damage told links index is has frozen some.
    c.in_err-version.ensures.sound damage told index is has (linked_limits g.V.Ground c.args.volume.now index c.args.oid.now is links has))

pub returns-in_err-version-clause-fault : goal.returns-in_err-version-clause-fault
returns-in_err-version-clause-fault g c = if_err_handed c.from_residual.result _ _ c.from_residual.ensures.1 (λ told. of_version (c.in_err-version.ensures.fault told))

pub returns-in_err-check-clause-sound : goal.returns-in_err-check-clause-sound
returns-in_err-check-clause-sound g c = if_err_handed c.from_residual-in_err-check.result _ _ c.from_residual-in_err-check.ensures.1 (λ damage told links index is has frozen some.
    let at = c.in_ok-version.ensures.stored told index is has in
    let yes : c.is_frozen.result ≡ true = c.is_frozen.ensures.1 (ap (λ (h : Head). h.state) (head_read g.V.Ground has.body is c.in_ok-version.version.head has.spelled at.head) ∙ frozen) in
    let isnt : c.is_frozen.result ≡ false = c.in_err-check.ensures.fault.0 in
    absurd (false≢true (sym isnt ∙ yes)))

pub returns-in_err-check-clause-fault : goal.returns-in_err-check-clause-fault
returns-in_err-check-clause-fault g c = if_err_handed c.from_residual-in_err-check.result _ _ c.from_residual-in_err-check.ensures.1 (λ told.
    of_body c.in_ok-version.version.body.items (c.in_ok-version.ensures.reads told).read.stands
    (not_asked (λ frozen some. other_state (g.V.Ground.image c.args.volume.now) c.args.oid.now c.in_ok-version.version Frozen c.is_frozen.result (c.in_ok-version.ensures.reads told) c.is_frozen.ensures.1 c.in_err-check.ensures.fault.0 frozen) (c.in_err-check.ensures.fault.1 ∙ ap record_fault (c.in_ok-version.ensures.reads told).read.at)))

pub returns-in_err-older-clause-sound : goal.returns-in_err-older-clause-sound
returns-in_err-older-clause-sound g c = if_err_handed c.from_residual-in_err-older.result _ _ c.from_residual-in_err-older.ensures.1 (λ damage told links index is has frozen some.
    let kept = c.stored_version.ensures.kept in
    let told_b = g.V.Ground.leads_told c.args.volume.now c.stored_version.new.volume kept.leads told in
    let stands = kept_body g.V.Ground c.args.volume.now c.stored_version.new.volume index (place_of c.args.oid.now) has.body kept has.stands in
    c.in_err-older.ensures.sound damage told_b (kept_linked g.V.Ground c.args.volume.now c.stored_version.new.volume kept links) index (place_of c.args.oid.now) has.body stands (c.in_ok-version.ensures.stored told index is has))

pub returns-in_err-older-clause-fault : goal.returns-in_err-older-clause-fault
returns-in_err-older-clause-fault g c = if_err_handed c.from_residual-in_err-older.result _ _ c.from_residual-in_err-older.ensures.1 (λ told.
    let v = c.in_ok-version.ensures.reads told in
    of_body c.in_ok-version.version.body.items v.read.stands (of_older (older_told g.V.Ground c.args.volume.now c.stored_version.new.volume c.stored_version.ensures.kept c.args.oid.now c.in_ok-version.version c.in_err-older.field-0.0 v c.in_err-older.ensures.fault told)))

pub returns-in_err-found-clause-sound : goal.returns-in_err-found-clause-sound
returns-in_err-found-clause-sound g c = if_err_handed c.from_residual-in_err-found.result _ _ c.from_residual-in_err-found.ensures.1 (λ damage told links index is has frozen some.
    let kept = keeps_on g.V.Ground c.args.volume.now c.stored_version.new.volume c.linked_older.new.volume c.stored_version.ensures.kept c.linked_older.ensures.kept in
    let told_d = g.V.Ground.leads_told c.args.volume.now c.linked_older.new.volume kept.leads told in
    let stands = kept_body g.V.Ground c.args.volume.now c.linked_older.new.volume index (place_of c.args.oid.now) has.body kept has.stands in
    c.in_err-found.ensures.sound damage told_d (kept_linked g.V.Ground c.args.volume.now c.linked_older.new.volume kept links) index (place_of c.args.oid.now) has.body stands (c.in_ok-version.ensures.stored told index is has))

pub returns-in_err-found-clause-fault : goal.returns-in_err-found-clause-fault
returns-in_err-found-clause-fault g c = if_err_handed c.from_residual-in_err-found.result _ _ c.from_residual-in_err-found.ensures.1 (λ told.
    let v = c.in_ok-version.ensures.reads told in
    of_body c.in_ok-version.version.body.items v.read.stands (of_newer (newer_told g.V.Ground c.args.volume.now c.linked_older.new.volume
    (keeps_on g.V.Ground c.args.volume.now c.stored_version.new.volume c.linked_older.new.volume c.stored_version.ensures.kept c.linked_older.ensures.kept) c.args.oid.now c.in_ok-version.version c.in_err-found.field-0.0 v c.in_err-found.ensures.fault told)))

pub returns-clause-sound : goal.returns-clause-sound
returns-clause-sound g c = λ damage told links index is has frozen some.
    let kept = keeps_on g.V.Ground c.args.volume.now c.stored_version.new.volume c.linked_older.new.volume c.stored_version.ensures.kept c.linked_older.ensures.kept in
    let told_d = g.V.Ground.leads_told c.args.volume.now c.linked_older.new.volume kept.leads told in
    let stands = kept_body g.V.Ground c.args.volume.now c.linked_older.new.volume index (place_of c.args.oid.now) has.body kept has.stands in
    let at = c.in_ok-version.ensures.stored told index is has in
    let down = c.in_ok-found.ensures.newer told_d (kept_linked g.V.Ground c.args.volume.now c.linked_older.new.volume kept links) index (place_of c.args.oid.now) has.body stands at in
    none_linked (bodies_of (g.V.Ground.image c.linked_older.new.volume) index) c.in_ok-version.version.head.newer
    (subst (λ (o : Option Stored). StoredAt (bodies_of (g.V.Ground.image c.linked_older.new.volume) index) c.in_ok-version.version.head.newer o) c.in-None.is down)
    (subst (λ (h : Head). IsSome h.newer) (sym (head_read g.V.Ground has.body is c.in_ok-version.version.head has.spelled at.head)) some)

pub returns-clause-fault : goal.returns-clause-fault
returns-clause-fault g c = λ told.
    let both = keeps_on g.V.Ground c.args.volume.now c.stored_version.new.volume c.linked_older.new.volume c.stored_version.ensures.kept c.linked_older.ensures.kept in
    let told_d = g.V.Ground.leads_told c.args.volume.now c.linked_older.new.volume both.leads told in
    let v = c.in_ok-version.ensures.reads told in
    let none = none_named (g.V.Ground.image c.linked_older.new.volume) c.in_ok-version.version.head.newer (subst (λ (o : Option Stored). ReadOn (g.V.Ground.image c.linked_older.new.volume) c.in_ok-version.version.head.newer o) c.in-None.is (c.in_ok-found.ensures.reads told_d)) in
    of_body c.in_ok-version.version.body.items v.read.stands
    (not_asked (λ frozen some. not_some c.in_ok-version.version.head.newer none (subst (λ (h : Head). IsSome h.newer) (sym v.read.head) some)) (c.no_record.ensures.is ∙ ap record_fault v.read.at))

pub returns-in-Some-clause-reads : goal.returns-in-Some-clause-reads
returns-in-Some-clause-reads g c = ok_of c.drop_read.result _ (λ told.
    let kept = c.stored_version.ensures.kept in
    let told_b = g.V.Ground.leads_told c.args.volume.now c.stored_version.new.volume kept.leads told in
    let v = c.in_ok-version.ensures.reads told in
    let both = keeps_on g.V.Ground c.args.volume.now c.stored_version.new.volume c.linked_older.new.volume kept c.linked_older.ensures.kept in
    let told_d = g.V.Ground.leads_told c.args.volume.now c.linked_older.new.volume both.leads told in
    let some = some_named (g.V.Ground.image c.linked_older.new.volume) c.in_ok-version.version.head.newer c.in-Some.newer (subst (λ (o : Option Stored). ReadOn (g.V.Ground.image c.linked_older.new.volume) c.in_ok-version.version.head.newer o) c.in-Some.is (c.in_ok-found.ensures.reads told_d)) in
    record {
      body = c.in_ok-version.version.body.items;
      version = v.version;
      holds = (
        state_read (g.V.Ground.image c.args.volume.now) (g.V.Ground.image c.stored_version.new.volume) kept.images c.args.oid.now c.in_ok-version.version v Frozen (c.is_frozen.ensures.0 c.in_ok-check.ensures.holds),
        older_read (g.V.Ground.image c.args.volume.now) (g.V.Ground.image c.stored_version.new.volume) kept.images c.args.oid.now c.in_ok-version.version v (c.in_ok-older.ensures.link told_b),
        subst (λ (h : Head). IsSome h.newer) v.read.head some,
        newer_read (g.V.Ground.image c.args.volume.now) (g.V.Ground.image c.linked_older.new.volume) both.images c.args.oid.now c.in_ok-version.version v (c.in_ok-found.ensures.link told_d),
      );
    })

pub returns-in-Some-clause-asked : goal.returns-in-Some-clause-asked
returns-in-Some-clause-asked g c = ok_of c.drop_read.result _ (λ told index is has.
    let at = c.in_ok-version.ensures.stored told index is has in
    sym (ap (λ (h : Head). h.state) (head_read g.V.Ground has.body is c.in_ok-version.version.head has.spelled at.head)) ∙ c.is_frozen.ensures.0 c.in_ok-check.ensures.holds)

pub returns-in-Some-clause-gone : goal.returns-in-Some-clause-gone
returns-in-Some-clause-gone g c = IfOk-weaker c.drop_read.result _ _ (λ gone h told index is has.
    let at = c.in_ok-version.ensures.stored told index is has in
    h is (subst (λ (b : List ℕ). BodyOf b is) (sym at.bytes) has.spelled)) c.drop_read.ensures.gone

pub returns-in-Some-clause-pages : goal.returns-in-Some-clause-pages
returns-in-Some-clause-pages g c = on_ok_weaker c.drop_read.result (λ p. omega (arith, p, ap (λ (f : Area → ℕ). f Page) c.stored_version.ensures.kept.free, ap (λ (f : Area → ℕ). f Page) c.linked_older.ensures.kept.free, ap (λ (f : Area → ℕ). f Page) c.linked_newer.ensures.kept.free)) c.drop_read.ensures.pages

pub returns-in-Some-clause-leaves : goal.returns-in-Some-clause-leaves
returns-in-Some-clause-leaves g c = on_ok_weaker c.drop_read.result (λ l. l ∙ ap (λ (f : Area → ℕ). f Segment) (c.linked_newer.ensures.kept.free ∙ c.linked_older.ensures.kept.free ∙ c.stored_version.ensures.kept.free)) c.drop_read.ensures.leaves

pub returns-in-Some-clause-touches : goal.returns-in-Some-clause-touches
returns-in-Some-clause-touches g c = on_ok_weaker c.drop_read.result (λ t. omega (arith, t, c.stored_version.ensures.kept.touched, c.linked_older.ensures.kept.touched, c.linked_newer.ensures.kept.touched)) c.drop_read.ensures.touches

pub returns-in-Some-clause-fault : goal.returns-in-Some-clause-fault
returns-in-Some-clause-fault g c = IfErr-weaker c.drop_read.result _ _ (λ fault both told.
    let ab = c.stored_version.ensures.kept in
    let ad = keeps_on g.V.Ground c.args.volume.now c.stored_version.new.volume c.linked_older.new.volume ab c.linked_older.ensures.kept in
    let kept = keeps_on g.V.Ground c.args.volume.now c.linked_older.new.volume c.linked_newer.new.volume ad c.linked_newer.ensures.kept in
    let told_b = g.V.Ground.leads_told c.args.volume.now c.stored_version.new.volume ab.leads told in
    let told_d = g.V.Ground.leads_told c.args.volume.now c.linked_older.new.volume ad.leads told in
    let told_e = g.V.Ground.leads_told c.args.volume.now c.linked_newer.new.volume kept.leads told in
    let v = c.in_ok-version.ensures.reads told in
    let down = subst (λ (o : Option Stored). ReadOn (g.V.Ground.image c.linked_older.new.volume) c.in_ok-version.version.head.newer o) c.in-Some.is (c.in_ok-found.ensures.reads told_d) in
    of_body c.in_ok-version.version.body.items v.read.stands
    (dropping_of g.V.Ground c.args.volume.now c.drop_read.new.volume (g.V.Ground.image c.stored_version.new.volume) (g.V.Ground.image c.linked_older.new.volume)
    c.args.oid.now c.in_ok-version.version c.in-Some.newer c.in_ok-older.older fault v (c.in_ok-older.ensures.reads told_b) down
    (carried_held g.V.Ground c.args.volume.now c.linked_newer.new.volume
    (λ y k u. IsTakingFault y k u (g.V.Ground.held c.drop_read.new.volume) (g.V.Ground.image c.drop_read.new.volume) c.in_ok-version.version.place fault
    ⊎ IsRecordFault c.in-Some.newer.place fault ⊎ IsSomeAnd c.in_ok-older.older (λ (s : Stored). IsRecordFault s.place fault)) kept both.0 told)
    (λ damage index n. both.1 damage told_e index n.is
    (between_whole g.V.Ground c.args.volume.now c.linked_newer.new.volume kept index c.args.oid.now c.in_ok-version.version c.in_ok-older.older (g.V.Ground.image c.stored_version.new.volume) ab.images v
    (c.in_ok-older.ensures.reads told_b) (c.in_ok-older.ensures.link told_b) (c.in_ok-version.ensures.fits told index) n
    c.in-Some.newer (g.V.Ground.image c.linked_older.new.volume) ad.images down (c.in_ok-found.ensures.link told_d) (c.is_frozen.ensures.0 c.in_ok-check.ensures.holds)))))
    (err_both c.drop_read.result _ _ c.drop_read.ensures.fault c.drop_read.ensures.sound)

pub returns-in-Some-clause-dropped : goal.returns-in-Some-clause-dropped
returns-in-Some-clause-dropped g c = on_ok_weaker c.drop_read.result (λ h told links index is has.
    let ab = c.stored_version.ensures.kept in
    let bd = c.linked_older.ensures.kept in
    let de = c.linked_newer.ensures.kept in
    let ad = keeps_on g.V.Ground c.args.volume.now c.stored_version.new.volume c.linked_older.new.volume ab bd in
    let be = keeps_on g.V.Ground c.stored_version.new.volume c.linked_older.new.volume c.linked_newer.new.volume bd de in
    let told_b = g.V.Ground.leads_told c.args.volume.now c.stored_version.new.volume ab.leads told in
    let told_d = g.V.Ground.leads_told c.args.volume.now c.linked_older.new.volume ad.leads told in
    let told_e = g.V.Ground.leads_told c.linked_older.new.volume c.linked_newer.new.volume de.leads told_d in
    let links_b = kept_linked g.V.Ground c.args.volume.now c.stored_version.new.volume ab links in
    let links_d = kept_linked g.V.Ground c.args.volume.now c.linked_older.new.volume ad links in
    let stands_b = kept_body g.V.Ground c.args.volume.now c.stored_version.new.volume index (place_of c.args.oid.now) has.body ab has.stands in
    let stands_d = kept_body g.V.Ground c.args.volume.now c.linked_older.new.volume index (place_of c.args.oid.now) has.body ad has.stands in
    let at = c.in_ok-version.ensures.stored told index is has in
    let fits : length has.body + 20 ≤ (g.V.Ground.geometry c.stored_version.new.volume).page_size =
    subst (λ (y : Geometry). length has.body + 20 ≤ y.page_size) (sym (g.V.Ground.leads_geometry c.args.volume.now c.stored_version.new.volume ab.leads)) (c.in_ok-version.ensures.fits told index is has) in
    let up = c.in_ok-older.ensures.older told_b links_b index (place_of c.args.oid.now) has.body stands_b at in
    let down = subst (λ (i : ℕ → List ℕ). StoredAt (bodies_of i index) c.in_ok-version.version.head.newer (Some c.in-Some.newer)) bd.images
    (subst (λ (o : Option Stored). StoredAt (bodies_of (g.V.Ground.image c.linked_older.new.volume) index) c.in_ok-version.version.head.newer o) c.in-Some.is
    (c.in_ok-found.ensures.newer told_d links_d index (place_of c.args.oid.now) has.body stands_d at)) in
    let between = between_of g.V.Ground c.stored_version.new.volume c.linked_newer.new.volume index (place_of c.args.oid.now) has.body is c.in_ok-version.version c.in-Some.newer c.in_ok-older.older links_b be stands_b has.spelled at fits
    (c.is_frozen.ensures.0 c.in_ok-check.ensures.holds) up down in
    kept_drops g.V.Ground c.args.volume.now c.linked_newer.new.volume c.drop_read.new.volume index c.in_ok-version.version.place (place_of c.args.oid.now) is at.stands
    (keeps_on g.V.Ground c.args.volume.now c.linked_older.new.volume c.linked_newer.new.volume ad de) (h told_e index is between)) c.drop_read.ensures.dropped

pub returns-in-Some-clause-sound : goal.returns-in-Some-clause-sound
returns-in-Some-clause-sound g c = IfErr-weaker c.drop_read.result _ _ (λ fault h damage told links index is has frozen some.
    let ab = c.stored_version.ensures.kept in
    let bd = c.linked_older.ensures.kept in
    let de = c.linked_newer.ensures.kept in
    let ad = keeps_on g.V.Ground c.args.volume.now c.stored_version.new.volume c.linked_older.new.volume ab bd in
    let be = keeps_on g.V.Ground c.stored_version.new.volume c.linked_older.new.volume c.linked_newer.new.volume bd de in
    let told_b = g.V.Ground.leads_told c.args.volume.now c.stored_version.new.volume ab.leads told in
    let told_d = g.V.Ground.leads_told c.args.volume.now c.linked_older.new.volume ad.leads told in
    let told_e = g.V.Ground.leads_told c.linked_older.new.volume c.linked_newer.new.volume de.leads told_d in
    let links_b = kept_linked g.V.Ground c.args.volume.now c.stored_version.new.volume ab links in
    let links_d = kept_linked g.V.Ground c.args.volume.now c.linked_older.new.volume ad links in
    let stands_b = kept_body g.V.Ground c.args.volume.now c.stored_version.new.volume index (place_of c.args.oid.now) has.body ab has.stands in
    let stands_d = kept_body g.V.Ground c.args.volume.now c.linked_older.new.volume index (place_of c.args.oid.now) has.body ad has.stands in
    let at = c.in_ok-version.ensures.stored told index is has in
    let fits : length has.body + 20 ≤ (g.V.Ground.geometry c.stored_version.new.volume).page_size =
    subst (λ (y : Geometry). length has.body + 20 ≤ y.page_size) (sym (g.V.Ground.leads_geometry c.args.volume.now c.stored_version.new.volume ab.leads)) (c.in_ok-version.ensures.fits told index is has) in
    let up = c.in_ok-older.ensures.older told_b links_b index (place_of c.args.oid.now) has.body stands_b at in
    let down = subst (λ (i : ℕ → List ℕ). StoredAt (bodies_of i index) c.in_ok-version.version.head.newer (Some c.in-Some.newer)) bd.images
    (subst (λ (o : Option Stored). StoredAt (bodies_of (g.V.Ground.image c.linked_older.new.volume) index) c.in_ok-version.version.head.newer o) c.in-Some.is
    (c.in_ok-found.ensures.newer told_d links_d index (place_of c.args.oid.now) has.body stands_d at)) in
    h damage told_e index is
    (between_of g.V.Ground c.stored_version.new.volume c.linked_newer.new.volume index (place_of c.args.oid.now) has.body is c.in_ok-version.version c.in-Some.newer c.in_ok-older.older links_b be stands_b has.spelled at fits
    (c.is_frozen.ensures.0 c.in_ok-check.ensures.holds) up down)) c.drop_read.ensures.sound

pub returns-in_err-version-clause-dropped : goal.returns-in_err-version-clause-dropped
returns-in_err-version-clause-dropped g c = not_given c.from_residual.result _ c.in_err-version.field-0.0 c.from_residual.ensures.1

pub returns-in_err-version-clause-asked : goal.returns-in_err-version-clause-asked
returns-in_err-version-clause-asked g c = not_given c.from_residual.result _ c.in_err-version.field-0.0 c.from_residual.ensures.1

pub returns-in_err-version-clause-reads : goal.returns-in_err-version-clause-reads
returns-in_err-version-clause-reads g c = not_given c.from_residual.result _ c.in_err-version.field-0.0 c.from_residual.ensures.1

pub returns-in_err-version-clause-gone : goal.returns-in_err-version-clause-gone
returns-in_err-version-clause-gone g c = no_value c.from_residual.result _ c.in_err-version.field-0.0 c.from_residual.ensures.1

pub returns-in_err-version-clause-pages : goal.returns-in_err-version-clause-pages
returns-in_err-version-clause-pages g c = not_given c.from_residual.result _ c.in_err-version.field-0.0 c.from_residual.ensures.1

pub returns-in_err-version-clause-gives : goal.returns-in_err-version-clause-gives
returns-in_err-version-clause-gives g c = not_given c.from_residual.result _ c.in_err-version.field-0.0 c.from_residual.ensures.1

pub returns-in_err-version-clause-leaves : goal.returns-in_err-version-clause-leaves
returns-in_err-version-clause-leaves g c = not_given c.from_residual.result _ c.in_err-version.field-0.0 c.from_residual.ensures.1

pub returns-in_err-version-clause-touches : goal.returns-in_err-version-clause-touches
returns-in_err-version-clause-touches g c = not_given c.from_residual.result _ c.in_err-version.field-0.0 c.from_residual.ensures.1

pub returns-in_err-version-clause-leads : goal.returns-in_err-version-clause-leads
returns-in_err-version-clause-leads g c = c.stored_version.ensures.kept.leads

pub returns-in_err-version-clause-cause : goal.returns-in_err-version-clause-cause
returns-in_err-version-clause-cause g c =
    cause_here (g.V.Ground.faults c.args.volume.now) (g.V.Ground.faults c.stored_version.new.volume) c.from_residual.result c.in_err-version.field-0.0
    c.from_residual.ensures.1 c.in_err-version.ensures.cause

pub returns-in_err-check-clause-dropped : goal.returns-in_err-check-clause-dropped
returns-in_err-check-clause-dropped g c = not_given c.from_residual-in_err-check.result _ c.in_err-check.field-0.0 c.from_residual-in_err-check.ensures.1

pub returns-in_err-check-clause-asked : goal.returns-in_err-check-clause-asked
returns-in_err-check-clause-asked g c = not_given c.from_residual-in_err-check.result _ c.in_err-check.field-0.0 c.from_residual-in_err-check.ensures.1

pub returns-in_err-check-clause-reads : goal.returns-in_err-check-clause-reads
returns-in_err-check-clause-reads g c = not_given c.from_residual-in_err-check.result _ c.in_err-check.field-0.0 c.from_residual-in_err-check.ensures.1

pub returns-in_err-check-clause-gone : goal.returns-in_err-check-clause-gone
returns-in_err-check-clause-gone g c = no_value c.from_residual-in_err-check.result _ c.in_err-check.field-0.0 c.from_residual-in_err-check.ensures.1

pub returns-in_err-check-clause-pages : goal.returns-in_err-check-clause-pages
returns-in_err-check-clause-pages g c = not_given c.from_residual-in_err-check.result _ c.in_err-check.field-0.0 c.from_residual-in_err-check.ensures.1

pub returns-in_err-check-clause-gives : goal.returns-in_err-check-clause-gives
returns-in_err-check-clause-gives g c = not_given c.from_residual-in_err-check.result _ c.in_err-check.field-0.0 c.from_residual-in_err-check.ensures.1

pub returns-in_err-check-clause-leaves : goal.returns-in_err-check-clause-leaves
returns-in_err-check-clause-leaves g c = not_given c.from_residual-in_err-check.result _ c.in_err-check.field-0.0 c.from_residual-in_err-check.ensures.1

pub returns-in_err-check-clause-touches : goal.returns-in_err-check-clause-touches
returns-in_err-check-clause-touches g c = not_given c.from_residual-in_err-check.result _ c.in_err-check.field-0.0 c.from_residual-in_err-check.ensures.1

pub returns-in_err-check-clause-leads : goal.returns-in_err-check-clause-leads
returns-in_err-check-clause-leads g c = c.stored_version.ensures.kept.leads

pub returns-in_err-check-clause-cause : goal.returns-in_err-check-clause-cause
returns-in_err-check-clause-cause g c =
    cause_here (g.V.Ground.faults c.args.volume.now) (g.V.Ground.faults c.stored_version.new.volume) c.from_residual-in_err-check.result
    c.in_err-check.field-0.0 c.from_residual-in_err-check.ensures.1
    (c.in_err-check.ensures.cause (g.V.Ground.faults c.args.volume.now) (g.V.Ground.faults c.stored_version.new.volume))

pub returns-in_err-older-clause-dropped : goal.returns-in_err-older-clause-dropped
returns-in_err-older-clause-dropped g c = not_given c.from_residual-in_err-older.result _ c.in_err-older.field-0.0 c.from_residual-in_err-older.ensures.1

pub returns-in_err-older-clause-asked : goal.returns-in_err-older-clause-asked
returns-in_err-older-clause-asked g c = not_given c.from_residual-in_err-older.result _ c.in_err-older.field-0.0 c.from_residual-in_err-older.ensures.1

pub returns-in_err-older-clause-reads : goal.returns-in_err-older-clause-reads
returns-in_err-older-clause-reads g c = not_given c.from_residual-in_err-older.result _ c.in_err-older.field-0.0 c.from_residual-in_err-older.ensures.1

pub returns-in_err-older-clause-gone : goal.returns-in_err-older-clause-gone
returns-in_err-older-clause-gone g c = no_value c.from_residual-in_err-older.result _ c.in_err-older.field-0.0 c.from_residual-in_err-older.ensures.1

pub returns-in_err-older-clause-pages : goal.returns-in_err-older-clause-pages
returns-in_err-older-clause-pages g c = not_given c.from_residual-in_err-older.result _ c.in_err-older.field-0.0 c.from_residual-in_err-older.ensures.1

pub returns-in_err-older-clause-gives : goal.returns-in_err-older-clause-gives
returns-in_err-older-clause-gives g c = not_given c.from_residual-in_err-older.result _ c.in_err-older.field-0.0 c.from_residual-in_err-older.ensures.1

pub returns-in_err-older-clause-leaves : goal.returns-in_err-older-clause-leaves
returns-in_err-older-clause-leaves g c = not_given c.from_residual-in_err-older.result _ c.in_err-older.field-0.0 c.from_residual-in_err-older.ensures.1

pub returns-in_err-older-clause-touches : goal.returns-in_err-older-clause-touches
returns-in_err-older-clause-touches g c = not_given c.from_residual-in_err-older.result _ c.in_err-older.field-0.0 c.from_residual-in_err-older.ensures.1

pub returns-in_err-older-clause-leads : goal.returns-in_err-older-clause-leads
returns-in_err-older-clause-leads g c =
    g.V.Ground.leads_trans c.args.volume.now c.stored_version.new.volume c.linked_older.new.volume c.stored_version.ensures.kept.leads
    c.linked_older.ensures.kept.leads

pub returns-in_err-older-clause-cause : goal.returns-in_err-older-clause-cause
returns-in_err-older-clause-cause g c =
    handed_after g.V.Ground c.args.volume.now c.stored_version.new.volume c.stored_version.ensures.kept.leads c.linked_older.new.volume
    c.from_residual-in_err-older.result c.in_err-older.field-0.0 c.from_residual-in_err-older.ensures.1 c.in_err-older.ensures.cause

pub returns-in_err-found-clause-dropped : goal.returns-in_err-found-clause-dropped
returns-in_err-found-clause-dropped g c = not_given c.from_residual-in_err-found.result _ c.in_err-found.field-0.0 c.from_residual-in_err-found.ensures.1

pub returns-in_err-found-clause-asked : goal.returns-in_err-found-clause-asked
returns-in_err-found-clause-asked g c = not_given c.from_residual-in_err-found.result _ c.in_err-found.field-0.0 c.from_residual-in_err-found.ensures.1

pub returns-in_err-found-clause-reads : goal.returns-in_err-found-clause-reads
returns-in_err-found-clause-reads g c = not_given c.from_residual-in_err-found.result _ c.in_err-found.field-0.0 c.from_residual-in_err-found.ensures.1

pub returns-in_err-found-clause-gone : goal.returns-in_err-found-clause-gone
returns-in_err-found-clause-gone g c = no_value c.from_residual-in_err-found.result _ c.in_err-found.field-0.0 c.from_residual-in_err-found.ensures.1

pub returns-in_err-found-clause-pages : goal.returns-in_err-found-clause-pages
returns-in_err-found-clause-pages g c = not_given c.from_residual-in_err-found.result _ c.in_err-found.field-0.0 c.from_residual-in_err-found.ensures.1

pub returns-in_err-found-clause-gives : goal.returns-in_err-found-clause-gives
returns-in_err-found-clause-gives g c = not_given c.from_residual-in_err-found.result _ c.in_err-found.field-0.0 c.from_residual-in_err-found.ensures.1

pub returns-in_err-found-clause-leaves : goal.returns-in_err-found-clause-leaves
returns-in_err-found-clause-leaves g c = not_given c.from_residual-in_err-found.result _ c.in_err-found.field-0.0 c.from_residual-in_err-found.ensures.1

pub returns-in_err-found-clause-touches : goal.returns-in_err-found-clause-touches
returns-in_err-found-clause-touches g c = not_given c.from_residual-in_err-found.result _ c.in_err-found.field-0.0 c.from_residual-in_err-found.ensures.1

pub returns-in_err-found-clause-leads : goal.returns-in_err-found-clause-leads
returns-in_err-found-clause-leads g c =
    g.V.Ground.leads_trans c.args.volume.now c.linked_older.new.volume c.linked_newer.new.volume
    (g.V.Ground.leads_trans c.args.volume.now c.stored_version.new.volume c.linked_older.new.volume c.stored_version.ensures.kept.leads
    c.linked_older.ensures.kept.leads)
    c.linked_newer.ensures.kept.leads

pub returns-in_err-found-clause-cause : goal.returns-in_err-found-clause-cause
returns-in_err-found-clause-cause g c =
    handed_after g.V.Ground c.args.volume.now c.linked_older.new.volume
    (g.V.Ground.leads_trans c.args.volume.now c.stored_version.new.volume c.linked_older.new.volume c.stored_version.ensures.kept.leads
    c.linked_older.ensures.kept.leads)
    c.linked_newer.new.volume c.from_residual-in_err-found.result c.in_err-found.field-0.0 c.from_residual-in_err-found.ensures.1 c.in_err-found.ensures.cause

pub returns-in-Some-clause-leads : goal.returns-in-Some-clause-leads
returns-in-Some-clause-leads g c =
    g.V.Ground.leads_trans c.args.volume.now c.linked_newer.new.volume c.drop_read.new.volume
    (g.V.Ground.leads_trans c.args.volume.now c.linked_older.new.volume c.linked_newer.new.volume
    (g.V.Ground.leads_trans c.args.volume.now c.stored_version.new.volume c.linked_older.new.volume c.stored_version.ensures.kept.leads
    c.linked_older.ensures.kept.leads) c.linked_newer.ensures.kept.leads)
    c.drop_read.ensures.leads

pub returns-in-Some-clause-cause : goal.returns-in-Some-clause-cause
returns-in-Some-clause-cause g c =
    cause_of g.V.Ground c.args.volume.now c.linked_newer.new.volume
    (g.V.Ground.leads_trans c.args.volume.now c.linked_older.new.volume c.linked_newer.new.volume
    (g.V.Ground.leads_trans c.args.volume.now c.stored_version.new.volume c.linked_older.new.volume c.stored_version.ensures.kept.leads
    c.linked_older.ensures.kept.leads) c.linked_newer.ensures.kept.leads)
    c.drop_read.new.volume c.drop_read.result c.drop_read.ensures.cause

pub returns-clause-dropped : goal.returns-clause-dropped
returns-clause-dropped g c = tt

pub returns-clause-asked : goal.returns-clause-asked
returns-clause-asked g c = tt

pub returns-clause-reads : goal.returns-clause-reads
returns-clause-reads g c = tt

pub returns-clause-gone : goal.returns-clause-gone
returns-clause-gone g c = tt

pub returns-clause-pages : goal.returns-clause-pages
returns-clause-pages g c = tt

pub returns-clause-gives : goal.returns-clause-gives
returns-clause-gives g c = tt

pub returns-clause-leaves : goal.returns-clause-leaves
returns-clause-leaves g c = tt

pub returns-clause-touches : goal.returns-clause-touches
returns-clause-touches g c = tt

pub returns-clause-leads : goal.returns-clause-leads
returns-clause-leads g c =
    g.V.Ground.leads_trans c.args.volume.now c.linked_older.new.volume c.linked_newer.new.volume
    (g.V.Ground.leads_trans c.args.volume.now c.stored_version.new.volume c.linked_older.new.volume c.stored_version.ensures.kept.leads
    c.linked_older.ensures.kept.leads)
    c.linked_newer.ensures.kept.leads

pub returns-clause-cause : goal.returns-clause-cause
returns-clause-cause g c = c.no_record.ensures.cause (g.V.Ground.faults c.args.volume.now) (g.V.Ground.faults c.linked_newer.new.volume)

pub stored_version-requires : goal.stored_version-requires
stored_version-requires g c = c.requires

pub linked_older-requires : goal.linked_older-requires
linked_older-requires g c = g.V.Ground.leads_ready c.args.volume.now c.stored_version.new.volume c.stored_version.ensures.kept.leads c.requires

pub linked_newer-requires : goal.linked_newer-requires
linked_newer-requires g c =
    g.V.Ground.leads_ready c.args.volume.now c.linked_older.new.volume
    (g.V.Ground.leads_trans c.args.volume.now c.stored_version.new.volume c.linked_older.new.volume c.stored_version.ensures.kept.leads
    c.linked_older.ensures.kept.leads)
    c.requires

pub drop_read-requires : goal.drop_read-requires
drop_read-requires g c =
    g.V.Ground.leads_ready c.args.volume.now c.linked_newer.new.volume
    (g.V.Ground.leads_trans c.args.volume.now c.linked_older.new.volume c.linked_newer.new.volume
    (g.V.Ground.leads_trans c.args.volume.now c.stored_version.new.volume c.linked_older.new.volume c.stored_version.ensures.kept.leads
    c.linked_older.ensures.kept.leads) c.linked_newer.ensures.kept.leads)
    c.requires

pub returns-in-Some-clause-gives : goal.returns-in-Some-clause-gives
returns-in-Some-clause-gives g c = on_ok_weaker c.drop_read.result (gives_after g.V.Ground c.args.volume.now c.linked_newer.new.volume c.drop_read.new.volume
    (keeps_on g.V.Ground c.args.volume.now c.linked_older.new.volume c.linked_newer.new.volume
    (keeps_on g.V.Ground c.args.volume.now c.stored_version.new.volume c.linked_older.new.volume c.stored_version.ensures.kept
    c.linked_older.ensures.kept) c.linked_newer.ensures.kept)) c.drop_read.ensures.gives
