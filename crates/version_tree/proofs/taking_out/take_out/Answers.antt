use Rattle.std.proofs.Common.{◌≡◌, ◌≤◌, ◌+◌, ◌⊎◌, ℕ, true, false, List, length, sym, ap, subst, ◌∙◌, arith}
use Rattle.std.specs.Prelude.{IfSome, IsSomeAnd}
use Rattle.std.proofs.lemmas.Result.{on_ok_weaker, IfOk-weaker, IfErr-weaker}
use Rattle.ex_base.specs.declared.geometry.Geometry.{Geometry}
use Rattle.ex_base.specs.declared.names.Area.{Area}
use Rattle.ex_base.specs.declared.names.Area.TheVariants.{Page, Segment}
use Rattle.ex_base.proofs.Keeping.{keeps_on}
use Rattle.ex_base.proofs.Results.{if_err_handed}
use Rattle.object_records.specs.Record.{BodyOf}
use Rattle.object_records.specs.declared.Head.{Head}
use Rattle.object_records.specs.declared.State.TheVariants.{Current}
use Rattle.file_bodies.specs.Bodies.{bodies_of}
use Rattle.file_bodies.specs.Damage.{IsTakingFault}
use Rattle.file_bodies.proofs.Blame.{carried, carried_held}
use Rattle.file_bodies.proofs.Moving.{kept_body}
use Rattle.versions.specs.Versions.{place_of}
use Rattle.versions.specs.Damage.{record_fault}
use Rattle.version_tree.specs.Links.{IsRecordFault, IsWalkFault, IsWalkedFrom, of_body, of_version}
use Rattle.version_tree.specs.declared.links.Stored.{Stored}
use Rattle.version_tree.specs.Removals.{IsBranch, no_branch, not_current, other_from, to_older}
use Rattle.version_tree.proofs.Copying.{just_stand, read_of}
use Rattle.version_tree.proofs.RowsGathered.{linked_readable}
use Rattle.version_tree.proofs.Linking.{head_read, kept_linked, linked_limits}
use Rattle.version_tree.proofs.WholeLinks.{read_whole}
use Rattle.version_tree.proofs.ReadPlaces.{each_named, err_both, older_read, older_told, only_on, other_state, searching_of, state_read, taking_of}
use Rattle.versions.proofs.Results.{ok_of}
use Rattle.version_tree.proofs.TakenOut.{branch_of, branch_read, kept_takes, leaving_of}
use Rattle.ex_base.proofs.Handed.{not_given, no_value, cause_here, handed_after, cause_of}
use Rattle.std.proofs.lemmas.Bool.{false≢true}
use Rattle.version_tree.proofs.Takings.{gives_after}
use Rattle.version_tree.proofs.taking_out.take_out.Goals as goal

pub returns-in_err-version-clause-sound : goal.returns-in_err-version-clause-sound
returns-in_err-version-clause-sound g c = if_err_handed c.from_residual.result _ _ c.from_residual.ensures.1 (λ damage told links index is has current branch.
    c.in_err-version.ensures.sound damage told index is has (linked_limits g.V.Ground c.args.volume.now index c.args.oid.now is links has))

pub returns-in_err-version-clause-fault : goal.returns-in_err-version-clause-fault
returns-in_err-version-clause-fault g c = if_err_handed c.from_residual.result _ _ c.from_residual.ensures.1 (λ told. of_version (c.in_err-version.ensures.fault told))

pub returns-in_err-check-clause-sound : goal.returns-in_err-check-clause-sound
returns-in_err-check-clause-sound g c = if_err_handed c.from_residual-in_err-check.result _ _ c.from_residual-in_err-check.ensures.1 (λ damage told links index is has current branch.
    let at = c.in_ok-version.ensures.stored told index is has in
    let yes : c.is_current.result ≡ true = c.is_current.ensures.1 (ap (λ (h : Head). h.state) (head_read g.V.Ground has.body is c.in_ok-version.version.head has.spelled at.head) ∙ current) in
    let isnt : c.is_current.result ≡ false = c.in_err-check.ensures.fault.0 in
    absurd (false≢true (sym isnt ∙ yes)))

pub returns-in_err-check-clause-fault : goal.returns-in_err-check-clause-fault
returns-in_err-check-clause-fault g c = if_err_handed c.from_residual-in_err-check.result _ _ c.from_residual-in_err-check.ensures.1 (λ told.
    of_body c.in_ok-version.version.body.items (c.in_ok-version.ensures.reads told).read.stands
    (not_current (other_state (g.V.Ground.image c.args.volume.now) c.args.oid.now c.in_ok-version.version Current c.is_current.result (c.in_ok-version.ensures.reads told) c.is_current.ensures.1 c.in_err-check.ensures.fault.0) (c.in_err-check.ensures.fault.1 ∙ ap record_fault (c.in_ok-version.ensures.reads told).read.at)))

pub returns-in_err-older-clause-sound : goal.returns-in_err-older-clause-sound
returns-in_err-older-clause-sound g c = if_err_handed c.from_residual-in_err-older.result _ _ c.from_residual-in_err-older.ensures.1 (λ damage told links index is has current branch.
    let kept = c.stored_version.ensures.kept in
    let told_b = g.V.Ground.leads_told c.args.volume.now c.stored_version.new.volume kept.leads told in
    let stands = kept_body g.V.Ground c.args.volume.now c.stored_version.new.volume index (place_of c.args.oid.now) has.body kept has.stands in
    c.in_err-older.ensures.sound damage told_b (kept_linked g.V.Ground c.args.volume.now c.stored_version.new.volume kept links) index (place_of c.args.oid.now) has.body stands (c.in_ok-version.ensures.stored told index is has))

pub returns-in_err-older-clause-fault : goal.returns-in_err-older-clause-fault
returns-in_err-older-clause-fault g c = if_err_handed c.from_residual-in_err-older.result _ _ c.from_residual-in_err-older.ensures.1 (λ told.
    let v = c.in_ok-version.ensures.reads told in
    of_body c.in_ok-version.version.body.items v.read.stands (to_older (older_told g.V.Ground c.args.volume.now c.stored_version.new.volume c.stored_version.ensures.kept c.args.oid.now c.in_ok-version.version c.in_err-older.field-0.0 v c.in_err-older.ensures.fault told)))

pub returns-in_err-check-2-clause-sound : goal.returns-in_err-check-2-clause-sound
returns-in_err-check-2-clause-sound g c = if_err_handed c.from_residual-in_err-check-2.result _ _ c.from_residual-in_err-check-2.ensures.1 (λ damage told links index is has current branch.
    let kept = c.stored_version.ensures.kept in
    let told_b = g.V.Ground.leads_told c.args.volume.now c.stored_version.new.volume kept.leads told in
    let links_b = kept_linked g.V.Ground c.args.volume.now c.stored_version.new.volume kept links in
    let stands = kept_body g.V.Ground c.args.volume.now c.stored_version.new.volume index (place_of c.args.oid.now) has.body kept has.stands in
    let at = c.in_ok-version.ensures.stored told index is has in
    let up = c.in_ok-older.ensures.older told_b links_b index (place_of c.args.oid.now) has.body stands at in
    let link = subst (λ (h : Head). IsBranch (bodies_of (g.V.Ground.image c.stored_version.new.volume) index) h.older) (sym (head_read g.V.Ground has.body is c.in_ok-version.version.head has.spelled at.head))
    (subst (λ (i : ℕ → List ℕ). IsBranch (bodies_of i index) is.head.older) (sym kept.images) branch) in
    let yes : c.is_branch.result ≡ true = c.is_branch.ensures.1 (branch_read (bodies_of (g.V.Ground.image c.stored_version.new.volume) index) c.in_ok-version.version.head.older c.in_ok-older.older up link) in
    let isnt : c.is_branch.result ≡ false = c.in_err-check-2.ensures.fault.0 in
    absurd (false≢true (sym isnt ∙ yes)))

pub returns-in_err-check-2-clause-fault : goal.returns-in_err-check-2-clause-fault
returns-in_err-check-2-clause-fault g c = if_err_handed c.from_residual-in_err-check-2.result _ _ c.from_residual-in_err-check-2.ensures.1 (λ told.
    let kept = c.stored_version.ensures.kept in
    let told_b = g.V.Ground.leads_told c.args.volume.now c.stored_version.new.volume kept.leads told in
    let v = c.in_ok-version.ensures.reads told in
    of_body c.in_ok-version.version.body.items v.read.stands
    (no_branch (only_on (g.V.Ground.image c.args.volume.now) (g.V.Ground.image c.stored_version.new.volume) c.args.oid.now c.in_ok-version.version c.in_ok-older.older kept.images v (c.in_ok-older.ensures.reads told_b)
    (λ many. absurd (
    let yes : c.is_branch.result ≡ true = c.is_branch.ensures.1 many in
    let no : c.is_branch.result ≡ false = c.in_err-check-2.ensures.fault.0 in false≢true (sym no ∙ yes)))) (c.in_err-check-2.ensures.fault.1 ∙ ap record_fault v.read.at)))

pub returns-in_err-other-clause-sound : goal.returns-in_err-other-clause-sound
returns-in_err-other-clause-sound g c = if_err_handed c.from_residual-in_err-other.result _ _ c.from_residual-in_err-other.ensures.1 (λ damage told links index is has current branch.
    let kept = c.stored_version.ensures.kept in
    let later = c.linked_older.ensures.kept in
    let both = keeps_on g.V.Ground c.args.volume.now c.stored_version.new.volume c.linked_older.new.volume kept later in
    let told_b = g.V.Ground.leads_told c.args.volume.now c.stored_version.new.volume kept.leads told in
    let told_d = g.V.Ground.leads_told c.args.volume.now c.linked_older.new.volume both.leads told in
    let links_b = kept_linked g.V.Ground c.args.volume.now c.stored_version.new.volume kept links in
    let links_d = kept_linked g.V.Ground c.args.volume.now c.linked_older.new.volume both links in
    let stands = kept_body g.V.Ground c.args.volume.now c.stored_version.new.volume index (place_of c.args.oid.now) has.body kept has.stands in
    let at = c.in_ok-version.ensures.stored told index is has in
    let fits : length has.body + 20 ≤ (g.V.Ground.geometry c.stored_version.new.volume).page_size =
    subst (λ (y : Geometry). length has.body + 20 ≤ y.page_size) (sym (g.V.Ground.leads_geometry c.args.volume.now c.stored_version.new.volume kept.leads)) (c.in_ok-version.ensures.fits told index is has) in
    let read = read_of g.V.Ground c.stored_version.new.volume c.linked_older.new.volume index (place_of c.args.oid.now) has.body is c.in_ok-version.version c.in_ok-older.older links_b later stands has.spelled at fits
    (c.in_ok-older.ensures.older told_b links_b index (place_of c.args.oid.now) has.body stands at) in
    c.in_err-other.ensures.sound damage told_d index (just_stand g.V.Ground c.linked_older.new.volume index c.in_ok-older.older read.frozen)
    (linked_readable g.V.Ground c.linked_older.new.volume index links_d read.has.file))

pub returns-in_err-other-clause-fault : goal.returns-in_err-other-clause-fault
returns-in_err-other-clause-fault g c = if_err_handed c.from_residual-in_err-other.result _ _ c.from_residual-in_err-other.ensures.1 (λ told.
    let kept = c.stored_version.ensures.kept in
    let told_b = g.V.Ground.leads_told c.args.volume.now c.stored_version.new.volume kept.leads told in
    let v = c.in_ok-version.ensures.reads told in
    of_body c.in_ok-version.version.body.items v.read.stands
    (searching_of g.V.Ground c.args.volume.now c.other_from.new.volume (g.V.Ground.image c.stored_version.new.volume)
    c.args.oid.now c.in_ok-version.version c.in_ok-older.older c.in_err-other.field-0.0 v (c.in_ok-older.ensures.reads told_b)
    (carried g.V.Ground c.args.volume.now c.linked_older.new.volume (λ y u. IsSomeAnd c.in_ok-older.older (λ (s : Stored). IsWalkFault y u s.place c.in_err-other.field-0.0))
    (keeps_on g.V.Ground c.args.volume.now c.stored_version.new.volume c.linked_older.new.volume kept c.linked_older.ensures.kept) c.in_err-other.ensures.fault told)))

pub returns-clause-reads : goal.returns-clause-reads
returns-clause-reads g c = ok_of c.take_read.result _ (λ told.
    let kept = c.stored_version.ensures.kept in
    let told_b = g.V.Ground.leads_told c.args.volume.now c.stored_version.new.volume kept.leads told in
    let both = keeps_on g.V.Ground c.args.volume.now c.stored_version.new.volume c.linked_older.new.volume kept c.linked_older.ensures.kept in
    let v = c.in_ok-version.ensures.reads told in
    let walk = carried g.V.Ground c.args.volume.now c.linked_older.new.volume (λ y u. IfSome c.in_ok-older.older (λ (s : Stored). IsWalkedFrom y u s.place)) both c.in_ok-other.ensures.walk told in
    record {
      body = c.in_ok-version.version.body.items;
      version = v.version;
      holds = (
        state_read (g.V.Ground.image c.args.volume.now) (g.V.Ground.image c.stored_version.new.volume) kept.images c.args.oid.now c.in_ok-version.version v Current (c.is_current.ensures.0 c.in_ok-check.ensures.holds),
        older_read (g.V.Ground.image c.args.volume.now) (g.V.Ground.image c.stored_version.new.volume) kept.images c.args.oid.now c.in_ok-version.version v (c.in_ok-older.ensures.link told_b),
        subst (λ (h : Head). IfSome h.older (IsWalkedFrom (g.V.Ground.geometry c.args.volume.now) (g.V.Ground.image c.args.volume.now))) v.read.head
            (each_named (g.V.Ground.image c.stored_version.new.volume) c.in_ok-version.version.head.older c.in_ok-older.older (IsWalkedFrom (g.V.Ground.geometry c.args.volume.now) (g.V.Ground.image c.args.volume.now)) (c.in_ok-older.ensures.reads told_b) walk),
      );
    })

pub returns-clause-asked : goal.returns-clause-asked
returns-clause-asked g c = ok_of c.take_read.result _ (λ told index is has.
    let at = c.in_ok-version.ensures.stored told index is has in
    sym (ap (λ (h : Head). h.state) (head_read g.V.Ground has.body is c.in_ok-version.version.head has.spelled at.head)) ∙ c.is_current.ensures.0 c.in_ok-check.ensures.holds)

pub returns-clause-branch : goal.returns-clause-branch
returns-clause-branch g c = ok_of c.take_read.result _ (λ told links index is has.
    let kept = c.stored_version.ensures.kept in
    let told_b = g.V.Ground.leads_told c.args.volume.now c.stored_version.new.volume kept.leads told in
    let links_b = kept_linked g.V.Ground c.args.volume.now c.stored_version.new.volume kept links in
    let stands = kept_body g.V.Ground c.args.volume.now c.stored_version.new.volume index (place_of c.args.oid.now) has.body kept has.stands in
    let at = c.in_ok-version.ensures.stored told index is has in
    let up = c.in_ok-older.ensures.older told_b links_b index (place_of c.args.oid.now) has.body stands at in
    subst (λ (i : ℕ → List ℕ). IsBranch (bodies_of i index) is.head.older) kept.images
    (subst (λ (h : Head). IsBranch (bodies_of (g.V.Ground.image c.stored_version.new.volume) index) h.older) (head_read g.V.Ground has.body is c.in_ok-version.version.head has.spelled at.head)
    (branch_of (bodies_of (g.V.Ground.image c.stored_version.new.volume) index) c.in_ok-version.version.head.older c.in_ok-older.older up (c.is_branch.ensures.0 c.in_ok-check-2.ensures.holds))))

pub returns-clause-gone : goal.returns-clause-gone
returns-clause-gone g c = IfOk-weaker c.take_read.result _ _ (λ gone h told index is has.
    let at = c.in_ok-version.ensures.stored told index is has in
    h is (subst (λ (b : List ℕ). BodyOf b is) (sym at.bytes) has.spelled)) c.take_read.ensures.gone

pub returns-clause-pages : goal.returns-clause-pages
returns-clause-pages g c = on_ok_weaker c.take_read.result (λ p. omega (arith, p, ap (λ (f : Area → ℕ). f Page) c.stored_version.ensures.kept.free, ap (λ (f : Area → ℕ). f Page) c.linked_older.ensures.kept.free, ap (λ (f : Area → ℕ). f Page) c.other_from.ensures.kept.free)) c.take_read.ensures.pages

pub returns-clause-leaves : goal.returns-clause-leaves
returns-clause-leaves g c = on_ok_weaker c.take_read.result (λ l. l ∙ ap (λ (f : Area → ℕ). f Segment) (c.other_from.ensures.kept.free ∙ c.linked_older.ensures.kept.free ∙ c.stored_version.ensures.kept.free)) c.take_read.ensures.leaves

pub returns-clause-touches : goal.returns-clause-touches
returns-clause-touches g c = on_ok_weaker c.take_read.result (λ t. omega (arith, t, c.stored_version.ensures.kept.touched, c.linked_older.ensures.kept.touched, c.other_from.ensures.kept.touched)) c.take_read.ensures.touches

pub returns-clause-fault : goal.returns-clause-fault
returns-clause-fault g c = IfErr-weaker c.take_read.result _ _ (λ fault both told.
    let ab = c.stored_version.ensures.kept in
    let ad = keeps_on g.V.Ground c.args.volume.now c.stored_version.new.volume c.linked_older.new.volume ab c.linked_older.ensures.kept in
    let kept = keeps_on g.V.Ground c.args.volume.now c.linked_older.new.volume c.other_from.new.volume ad c.other_from.ensures.kept in
    let told_d = g.V.Ground.leads_told c.args.volume.now c.linked_older.new.volume ad.leads told in
    let told_e = g.V.Ground.leads_told c.args.volume.now c.other_from.new.volume kept.leads told in
    let told_b = g.V.Ground.leads_told c.args.volume.now c.stored_version.new.volume c.stored_version.ensures.kept.leads told in
    let v = c.in_ok-version.ensures.reads told in
    of_body c.in_ok-version.version.body.items v.read.stands
    (taking_of g.V.Ground c.args.volume.now c.take_read.new.volume (g.V.Ground.image c.stored_version.new.volume)
    c.args.oid.now c.in_ok-version.version c.in_ok-older.older fault v (c.in_ok-older.ensures.reads told_b)
    (carried_held g.V.Ground c.args.volume.now c.other_from.new.volume
    (λ y k u. IsTakingFault y k u (g.V.Ground.held c.take_read.new.volume) (g.V.Ground.image c.take_read.new.volume) c.in_ok-version.version.place fault
    ⊎ IsSomeAnd c.in_ok-older.older (λ (s : Stored). IsRecordFault s.place fault)) kept both.0 told)
    (λ damage index n.
    let read_d = read_whole g.V.Ground c.args.volume.now c.linked_older.new.volume ad index c.args.oid.now c.in_ok-version.version c.in_ok-older.older (g.V.Ground.image c.stored_version.new.volume) ab.images v
    (c.in_ok-older.ensures.reads told_b) (c.in_ok-older.ensures.link told_b) (c.in_ok-version.ensures.fits told index) n in
    let read_e = read_whole g.V.Ground c.args.volume.now c.other_from.new.volume kept index c.args.oid.now c.in_ok-version.version c.in_ok-older.older (g.V.Ground.image c.stored_version.new.volume) ab.images v
    (c.in_ok-older.ensures.reads told_b) (c.in_ok-older.ensures.link told_b) (c.in_ok-version.ensures.fits told index) n in
    let current = ap (λ (h : Head). h.state) (sym read_e.head) ∙ c.is_current.ensures.0 c.in_ok-check.ensures.holds in
    let left = subst (λ (i : ℕ → List ℕ). c.in_ok-other.other ≡ other_from (bodies_of i index) c.in_ok-version.version.place c.in_ok-older.older) (sym c.other_from.ensures.kept.images)
    (c.in_ok-other.ensures.other told_d index (just_stand g.V.Ground c.linked_older.new.volume index c.in_ok-older.older read_d.frozen)) in
    both.1 damage told_e index n.is (leaving_of g.V.Ground c.other_from.new.volume index c.in_ok-version.version c.in_ok-older.older c.in_ok-other.other n.is read_e current left))))
    (err_both c.take_read.result _ _ c.take_read.ensures.fault c.take_read.ensures.sound)

pub returns-clause-taken_out : goal.returns-clause-taken_out
returns-clause-taken_out g c = on_ok_weaker c.take_read.result (λ h told links index is has.
    let ab = c.stored_version.ensures.kept in
    let bd = c.linked_older.ensures.kept in
    let de = c.other_from.ensures.kept in
    let ad = keeps_on g.V.Ground c.args.volume.now c.stored_version.new.volume c.linked_older.new.volume ab bd in
    let be = keeps_on g.V.Ground c.stored_version.new.volume c.linked_older.new.volume c.other_from.new.volume bd de in
    let ae = keeps_on g.V.Ground c.args.volume.now c.linked_older.new.volume c.other_from.new.volume ad de in
    let told_b = g.V.Ground.leads_told c.args.volume.now c.stored_version.new.volume ab.leads told in
    let told_d = g.V.Ground.leads_told c.args.volume.now c.linked_older.new.volume ad.leads told in
    let told_e = g.V.Ground.leads_told c.args.volume.now c.other_from.new.volume ae.leads told in
    let links_b = kept_linked g.V.Ground c.args.volume.now c.stored_version.new.volume ab links in
    let stands = kept_body g.V.Ground c.args.volume.now c.stored_version.new.volume index (place_of c.args.oid.now) has.body ab has.stands in
    let at = c.in_ok-version.ensures.stored told index is has in
    let fits : length has.body + 20 ≤ (g.V.Ground.geometry c.stored_version.new.volume).page_size =
    subst (λ (y : Geometry). length has.body + 20 ≤ y.page_size) (sym (g.V.Ground.leads_geometry c.args.volume.now c.stored_version.new.volume ab.leads)) (c.in_ok-version.ensures.fits told index is has) in
    let up = c.in_ok-older.ensures.older told_b links_b index (place_of c.args.oid.now) has.body stands at in
    let read_d = read_of g.V.Ground c.stored_version.new.volume c.linked_older.new.volume index (place_of c.args.oid.now) has.body is c.in_ok-version.version c.in_ok-older.older links_b bd stands has.spelled at fits up in
    let read_e = read_of g.V.Ground c.stored_version.new.volume c.other_from.new.volume index (place_of c.args.oid.now) has.body is c.in_ok-version.version c.in_ok-older.older links_b be stands has.spelled at fits up in
    let current = sym (ap (λ (h : Head). h.state) (head_read g.V.Ground has.body is c.in_ok-version.version.head has.spelled at.head)) ∙ c.is_current.ensures.0 c.in_ok-check.ensures.holds in
    let left = subst (λ (i : ℕ → List ℕ). c.in_ok-other.other ≡ other_from (bodies_of i index) c.in_ok-version.version.place c.in_ok-older.older) (sym de.images)
    (c.in_ok-other.ensures.other told_d index (just_stand g.V.Ground c.linked_older.new.volume index c.in_ok-older.older read_d.frozen)) in
    kept_takes g.V.Ground c.args.volume.now c.other_from.new.volume c.take_read.new.volume index c.in_ok-version.version.place (place_of c.args.oid.now) is at.stands ae
    (h told_e index is (leaving_of g.V.Ground c.other_from.new.volume index c.in_ok-version.version c.in_ok-older.older c.in_ok-other.other is read_e current left))) c.take_read.ensures.taken_out

pub returns-clause-sound : goal.returns-clause-sound
returns-clause-sound g c = IfErr-weaker c.take_read.result _ _ (λ fault h damage told links index is has current branch.
    let ab = c.stored_version.ensures.kept in
    let bd = c.linked_older.ensures.kept in
    let de = c.other_from.ensures.kept in
    let ad = keeps_on g.V.Ground c.args.volume.now c.stored_version.new.volume c.linked_older.new.volume ab bd in
    let be = keeps_on g.V.Ground c.stored_version.new.volume c.linked_older.new.volume c.other_from.new.volume bd de in
    let ae = keeps_on g.V.Ground c.args.volume.now c.linked_older.new.volume c.other_from.new.volume ad de in
    let told_b = g.V.Ground.leads_told c.args.volume.now c.stored_version.new.volume ab.leads told in
    let told_d = g.V.Ground.leads_told c.args.volume.now c.linked_older.new.volume ad.leads told in
    let told_e = g.V.Ground.leads_told c.args.volume.now c.other_from.new.volume ae.leads told in
    let links_b = kept_linked g.V.Ground c.args.volume.now c.stored_version.new.volume ab links in
    let stands = kept_body g.V.Ground c.args.volume.now c.stored_version.new.volume index (place_of c.args.oid.now) has.body ab has.stands in
    let at = c.in_ok-version.ensures.stored told index is has in
    let fits : length has.body + 20 ≤ (g.V.Ground.geometry c.stored_version.new.volume).page_size =
    subst (λ (y : Geometry). length has.body + 20 ≤ y.page_size) (sym (g.V.Ground.leads_geometry c.args.volume.now c.stored_version.new.volume ab.leads)) (c.in_ok-version.ensures.fits told index is has) in
    let up = c.in_ok-older.ensures.older told_b links_b index (place_of c.args.oid.now) has.body stands at in
    let read_d = read_of g.V.Ground c.stored_version.new.volume c.linked_older.new.volume index (place_of c.args.oid.now) has.body is c.in_ok-version.version c.in_ok-older.older links_b bd stands has.spelled at fits up in
    let read_e = read_of g.V.Ground c.stored_version.new.volume c.other_from.new.volume index (place_of c.args.oid.now) has.body is c.in_ok-version.version c.in_ok-older.older links_b be stands has.spelled at fits up in
    let left = subst (λ (i : ℕ → List ℕ). c.in_ok-other.other ≡ other_from (bodies_of i index) c.in_ok-version.version.place c.in_ok-older.older) (sym de.images)
    (c.in_ok-other.ensures.other told_d index (just_stand g.V.Ground c.linked_older.new.volume index c.in_ok-older.older read_d.frozen)) in
    h damage told_e index is (leaving_of g.V.Ground c.other_from.new.volume index c.in_ok-version.version c.in_ok-older.older c.in_ok-other.other is read_e current left)) c.take_read.ensures.sound

pub returns-in_err-version-clause-taken_out : goal.returns-in_err-version-clause-taken_out
returns-in_err-version-clause-taken_out g c = not_given c.from_residual.result _ c.in_err-version.field-0.0 c.from_residual.ensures.1

pub returns-in_err-version-clause-asked : goal.returns-in_err-version-clause-asked
returns-in_err-version-clause-asked g c = not_given c.from_residual.result _ c.in_err-version.field-0.0 c.from_residual.ensures.1

pub returns-in_err-version-clause-reads : goal.returns-in_err-version-clause-reads
returns-in_err-version-clause-reads g c = not_given c.from_residual.result _ c.in_err-version.field-0.0 c.from_residual.ensures.1

pub returns-in_err-version-clause-branch : goal.returns-in_err-version-clause-branch
returns-in_err-version-clause-branch g c = not_given c.from_residual.result _ c.in_err-version.field-0.0 c.from_residual.ensures.1

pub returns-in_err-version-clause-gone : goal.returns-in_err-version-clause-gone
returns-in_err-version-clause-gone g c = no_value c.from_residual.result _ c.in_err-version.field-0.0 c.from_residual.ensures.1

pub returns-in_err-version-clause-pages : goal.returns-in_err-version-clause-pages
returns-in_err-version-clause-pages g c = not_given c.from_residual.result _ c.in_err-version.field-0.0 c.from_residual.ensures.1

pub returns-in_err-version-clause-gives : goal.returns-in_err-version-clause-gives
returns-in_err-version-clause-gives g c = not_given c.from_residual.result _ c.in_err-version.field-0.0 c.from_residual.ensures.1

pub returns-in_err-version-clause-leaves : goal.returns-in_err-version-clause-leaves
returns-in_err-version-clause-leaves g c = not_given c.from_residual.result _ c.in_err-version.field-0.0 c.from_residual.ensures.1

pub returns-in_err-version-clause-touches : goal.returns-in_err-version-clause-touches
returns-in_err-version-clause-touches g c = not_given c.from_residual.result _ c.in_err-version.field-0.0 c.from_residual.ensures.1

pub returns-in_err-version-clause-leads : goal.returns-in_err-version-clause-leads
returns-in_err-version-clause-leads g c = c.stored_version.ensures.kept.leads

pub returns-in_err-version-clause-cause : goal.returns-in_err-version-clause-cause
returns-in_err-version-clause-cause g c =
    cause_here (g.V.Ground.faults c.args.volume.now) (g.V.Ground.faults c.stored_version.new.volume) c.from_residual.result c.in_err-version.field-0.0
    c.from_residual.ensures.1 c.in_err-version.ensures.cause

pub returns-in_err-check-clause-taken_out : goal.returns-in_err-check-clause-taken_out
returns-in_err-check-clause-taken_out g c = not_given c.from_residual-in_err-check.result _ c.in_err-check.field-0.0 c.from_residual-in_err-check.ensures.1

pub returns-in_err-check-clause-asked : goal.returns-in_err-check-clause-asked
returns-in_err-check-clause-asked g c = not_given c.from_residual-in_err-check.result _ c.in_err-check.field-0.0 c.from_residual-in_err-check.ensures.1

pub returns-in_err-check-clause-reads : goal.returns-in_err-check-clause-reads
returns-in_err-check-clause-reads g c = not_given c.from_residual-in_err-check.result _ c.in_err-check.field-0.0 c.from_residual-in_err-check.ensures.1

pub returns-in_err-check-clause-branch : goal.returns-in_err-check-clause-branch
returns-in_err-check-clause-branch g c = not_given c.from_residual-in_err-check.result _ c.in_err-check.field-0.0 c.from_residual-in_err-check.ensures.1

pub returns-in_err-check-clause-gone : goal.returns-in_err-check-clause-gone
returns-in_err-check-clause-gone g c = no_value c.from_residual-in_err-check.result _ c.in_err-check.field-0.0 c.from_residual-in_err-check.ensures.1

pub returns-in_err-check-clause-pages : goal.returns-in_err-check-clause-pages
returns-in_err-check-clause-pages g c = not_given c.from_residual-in_err-check.result _ c.in_err-check.field-0.0 c.from_residual-in_err-check.ensures.1

pub returns-in_err-check-clause-gives : goal.returns-in_err-check-clause-gives
returns-in_err-check-clause-gives g c = not_given c.from_residual-in_err-check.result _ c.in_err-check.field-0.0 c.from_residual-in_err-check.ensures.1

pub returns-in_err-check-clause-leaves : goal.returns-in_err-check-clause-leaves
returns-in_err-check-clause-leaves g c = not_given c.from_residual-in_err-check.result _ c.in_err-check.field-0.0 c.from_residual-in_err-check.ensures.1

pub returns-in_err-check-clause-touches : goal.returns-in_err-check-clause-touches
returns-in_err-check-clause-touches g c = not_given c.from_residual-in_err-check.result _ c.in_err-check.field-0.0 c.from_residual-in_err-check.ensures.1

pub returns-in_err-check-clause-leads : goal.returns-in_err-check-clause-leads
returns-in_err-check-clause-leads g c = c.stored_version.ensures.kept.leads

pub returns-in_err-check-clause-cause : goal.returns-in_err-check-clause-cause
returns-in_err-check-clause-cause g c =
    cause_here (g.V.Ground.faults c.args.volume.now) (g.V.Ground.faults c.stored_version.new.volume) c.from_residual-in_err-check.result
    c.in_err-check.field-0.0 c.from_residual-in_err-check.ensures.1
    (c.in_err-check.ensures.cause (g.V.Ground.faults c.args.volume.now) (g.V.Ground.faults c.stored_version.new.volume))

pub returns-in_err-older-clause-taken_out : goal.returns-in_err-older-clause-taken_out
returns-in_err-older-clause-taken_out g c = not_given c.from_residual-in_err-older.result _ c.in_err-older.field-0.0 c.from_residual-in_err-older.ensures.1

pub returns-in_err-older-clause-asked : goal.returns-in_err-older-clause-asked
returns-in_err-older-clause-asked g c = not_given c.from_residual-in_err-older.result _ c.in_err-older.field-0.0 c.from_residual-in_err-older.ensures.1

pub returns-in_err-older-clause-reads : goal.returns-in_err-older-clause-reads
returns-in_err-older-clause-reads g c = not_given c.from_residual-in_err-older.result _ c.in_err-older.field-0.0 c.from_residual-in_err-older.ensures.1

pub returns-in_err-older-clause-branch : goal.returns-in_err-older-clause-branch
returns-in_err-older-clause-branch g c = not_given c.from_residual-in_err-older.result _ c.in_err-older.field-0.0 c.from_residual-in_err-older.ensures.1

pub returns-in_err-older-clause-gone : goal.returns-in_err-older-clause-gone
returns-in_err-older-clause-gone g c = no_value c.from_residual-in_err-older.result _ c.in_err-older.field-0.0 c.from_residual-in_err-older.ensures.1

pub returns-in_err-older-clause-pages : goal.returns-in_err-older-clause-pages
returns-in_err-older-clause-pages g c = not_given c.from_residual-in_err-older.result _ c.in_err-older.field-0.0 c.from_residual-in_err-older.ensures.1

pub returns-in_err-older-clause-gives : goal.returns-in_err-older-clause-gives
returns-in_err-older-clause-gives g c = not_given c.from_residual-in_err-older.result _ c.in_err-older.field-0.0 c.from_residual-in_err-older.ensures.1

pub returns-in_err-older-clause-leaves : goal.returns-in_err-older-clause-leaves
returns-in_err-older-clause-leaves g c = not_given c.from_residual-in_err-older.result _ c.in_err-older.field-0.0 c.from_residual-in_err-older.ensures.1

pub returns-in_err-older-clause-touches : goal.returns-in_err-older-clause-touches
returns-in_err-older-clause-touches g c = not_given c.from_residual-in_err-older.result _ c.in_err-older.field-0.0 c.from_residual-in_err-older.ensures.1

pub returns-in_err-older-clause-leads : goal.returns-in_err-older-clause-leads
returns-in_err-older-clause-leads g c =
    g.V.Ground.leads_trans c.args.volume.now c.stored_version.new.volume c.linked_older.new.volume c.stored_version.ensures.kept.leads
    c.linked_older.ensures.kept.leads

pub returns-in_err-older-clause-cause : goal.returns-in_err-older-clause-cause
returns-in_err-older-clause-cause g c =
    handed_after g.V.Ground c.args.volume.now c.stored_version.new.volume c.stored_version.ensures.kept.leads c.linked_older.new.volume
    c.from_residual-in_err-older.result c.in_err-older.field-0.0 c.from_residual-in_err-older.ensures.1 c.in_err-older.ensures.cause

pub returns-in_err-check-2-clause-taken_out : goal.returns-in_err-check-2-clause-taken_out
returns-in_err-check-2-clause-taken_out g c =
    not_given c.from_residual-in_err-check-2.result _ c.in_err-check-2.field-0.0 c.from_residual-in_err-check-2.ensures.1

pub returns-in_err-check-2-clause-asked : goal.returns-in_err-check-2-clause-asked
returns-in_err-check-2-clause-asked g c = not_given c.from_residual-in_err-check-2.result _ c.in_err-check-2.field-0.0 c.from_residual-in_err-check-2.ensures.1

pub returns-in_err-check-2-clause-reads : goal.returns-in_err-check-2-clause-reads
returns-in_err-check-2-clause-reads g c = not_given c.from_residual-in_err-check-2.result _ c.in_err-check-2.field-0.0 c.from_residual-in_err-check-2.ensures.1

pub returns-in_err-check-2-clause-branch : goal.returns-in_err-check-2-clause-branch
returns-in_err-check-2-clause-branch g c = not_given c.from_residual-in_err-check-2.result _ c.in_err-check-2.field-0.0 c.from_residual-in_err-check-2.ensures.1

pub returns-in_err-check-2-clause-gone : goal.returns-in_err-check-2-clause-gone
returns-in_err-check-2-clause-gone g c = no_value c.from_residual-in_err-check-2.result _ c.in_err-check-2.field-0.0 c.from_residual-in_err-check-2.ensures.1

pub returns-in_err-check-2-clause-pages : goal.returns-in_err-check-2-clause-pages
returns-in_err-check-2-clause-pages g c = not_given c.from_residual-in_err-check-2.result _ c.in_err-check-2.field-0.0 c.from_residual-in_err-check-2.ensures.1

pub returns-in_err-check-2-clause-gives : goal.returns-in_err-check-2-clause-gives
returns-in_err-check-2-clause-gives g c = not_given c.from_residual-in_err-check-2.result _ c.in_err-check-2.field-0.0 c.from_residual-in_err-check-2.ensures.1

pub returns-in_err-check-2-clause-leaves : goal.returns-in_err-check-2-clause-leaves
returns-in_err-check-2-clause-leaves g c = not_given c.from_residual-in_err-check-2.result _ c.in_err-check-2.field-0.0 c.from_residual-in_err-check-2.ensures.1

pub returns-in_err-check-2-clause-touches : goal.returns-in_err-check-2-clause-touches
returns-in_err-check-2-clause-touches g c =
    not_given c.from_residual-in_err-check-2.result _ c.in_err-check-2.field-0.0 c.from_residual-in_err-check-2.ensures.1

pub returns-in_err-check-2-clause-leads : goal.returns-in_err-check-2-clause-leads
returns-in_err-check-2-clause-leads g c =
    g.V.Ground.leads_trans c.args.volume.now c.stored_version.new.volume c.linked_older.new.volume c.stored_version.ensures.kept.leads
    c.linked_older.ensures.kept.leads

pub returns-in_err-check-2-clause-cause : goal.returns-in_err-check-2-clause-cause
returns-in_err-check-2-clause-cause g c =
    cause_here (g.V.Ground.faults c.args.volume.now) (g.V.Ground.faults c.linked_older.new.volume) c.from_residual-in_err-check-2.result
    c.in_err-check-2.field-0.0 c.from_residual-in_err-check-2.ensures.1
    (c.in_err-check-2.ensures.cause (g.V.Ground.faults c.args.volume.now) (g.V.Ground.faults c.linked_older.new.volume))

pub returns-in_err-other-clause-taken_out : goal.returns-in_err-other-clause-taken_out
returns-in_err-other-clause-taken_out g c = not_given c.from_residual-in_err-other.result _ c.in_err-other.field-0.0 c.from_residual-in_err-other.ensures.1

pub returns-in_err-other-clause-asked : goal.returns-in_err-other-clause-asked
returns-in_err-other-clause-asked g c = not_given c.from_residual-in_err-other.result _ c.in_err-other.field-0.0 c.from_residual-in_err-other.ensures.1

pub returns-in_err-other-clause-reads : goal.returns-in_err-other-clause-reads
returns-in_err-other-clause-reads g c = not_given c.from_residual-in_err-other.result _ c.in_err-other.field-0.0 c.from_residual-in_err-other.ensures.1

pub returns-in_err-other-clause-branch : goal.returns-in_err-other-clause-branch
returns-in_err-other-clause-branch g c = not_given c.from_residual-in_err-other.result _ c.in_err-other.field-0.0 c.from_residual-in_err-other.ensures.1

pub returns-in_err-other-clause-gone : goal.returns-in_err-other-clause-gone
returns-in_err-other-clause-gone g c = no_value c.from_residual-in_err-other.result _ c.in_err-other.field-0.0 c.from_residual-in_err-other.ensures.1

pub returns-in_err-other-clause-pages : goal.returns-in_err-other-clause-pages
returns-in_err-other-clause-pages g c = not_given c.from_residual-in_err-other.result _ c.in_err-other.field-0.0 c.from_residual-in_err-other.ensures.1

pub returns-in_err-other-clause-gives : goal.returns-in_err-other-clause-gives
returns-in_err-other-clause-gives g c = not_given c.from_residual-in_err-other.result _ c.in_err-other.field-0.0 c.from_residual-in_err-other.ensures.1

pub returns-in_err-other-clause-leaves : goal.returns-in_err-other-clause-leaves
returns-in_err-other-clause-leaves g c = not_given c.from_residual-in_err-other.result _ c.in_err-other.field-0.0 c.from_residual-in_err-other.ensures.1

pub returns-in_err-other-clause-touches : goal.returns-in_err-other-clause-touches
returns-in_err-other-clause-touches g c = not_given c.from_residual-in_err-other.result _ c.in_err-other.field-0.0 c.from_residual-in_err-other.ensures.1

pub returns-in_err-other-clause-leads : goal.returns-in_err-other-clause-leads
returns-in_err-other-clause-leads g c =
    g.V.Ground.leads_trans c.args.volume.now c.linked_older.new.volume c.other_from.new.volume
    (g.V.Ground.leads_trans c.args.volume.now c.stored_version.new.volume c.linked_older.new.volume c.stored_version.ensures.kept.leads
    c.linked_older.ensures.kept.leads)
    c.other_from.ensures.kept.leads

pub returns-in_err-other-clause-cause : goal.returns-in_err-other-clause-cause
returns-in_err-other-clause-cause g c =
    handed_after g.V.Ground c.args.volume.now c.linked_older.new.volume
    (g.V.Ground.leads_trans c.args.volume.now c.stored_version.new.volume c.linked_older.new.volume c.stored_version.ensures.kept.leads
    c.linked_older.ensures.kept.leads)
    c.other_from.new.volume c.from_residual-in_err-other.result c.in_err-other.field-0.0 c.from_residual-in_err-other.ensures.1 c.in_err-other.ensures.cause

pub returns-clause-leads : goal.returns-clause-leads
returns-clause-leads g c =
    g.V.Ground.leads_trans c.args.volume.now c.other_from.new.volume c.take_read.new.volume
    (g.V.Ground.leads_trans c.args.volume.now c.linked_older.new.volume c.other_from.new.volume
    (g.V.Ground.leads_trans c.args.volume.now c.stored_version.new.volume c.linked_older.new.volume c.stored_version.ensures.kept.leads
    c.linked_older.ensures.kept.leads) c.other_from.ensures.kept.leads)
    c.take_read.ensures.leads

pub returns-clause-cause : goal.returns-clause-cause
returns-clause-cause g c =
    cause_of g.V.Ground c.args.volume.now c.other_from.new.volume
    (g.V.Ground.leads_trans c.args.volume.now c.linked_older.new.volume c.other_from.new.volume
    (g.V.Ground.leads_trans c.args.volume.now c.stored_version.new.volume c.linked_older.new.volume c.stored_version.ensures.kept.leads
    c.linked_older.ensures.kept.leads) c.other_from.ensures.kept.leads)
    c.take_read.new.volume c.take_read.result c.take_read.ensures.cause

pub stored_version-requires : goal.stored_version-requires
stored_version-requires g c = c.requires

pub linked_older-requires : goal.linked_older-requires
linked_older-requires g c = g.V.Ground.leads_ready c.args.volume.now c.stored_version.new.volume c.stored_version.ensures.kept.leads c.requires

pub other_from-requires : goal.other_from-requires
other_from-requires g c =
    g.V.Ground.leads_ready c.args.volume.now c.linked_older.new.volume
    (g.V.Ground.leads_trans c.args.volume.now c.stored_version.new.volume c.linked_older.new.volume c.stored_version.ensures.kept.leads
    c.linked_older.ensures.kept.leads)
    c.requires

pub take_read-requires : goal.take_read-requires
take_read-requires g c =
    g.V.Ground.leads_ready c.args.volume.now c.other_from.new.volume
    (g.V.Ground.leads_trans c.args.volume.now c.linked_older.new.volume c.other_from.new.volume
    (g.V.Ground.leads_trans c.args.volume.now c.stored_version.new.volume c.linked_older.new.volume c.stored_version.ensures.kept.leads
    c.linked_older.ensures.kept.leads) c.other_from.ensures.kept.leads)
    c.requires

pub returns-clause-gives : goal.returns-clause-gives
returns-clause-gives g c = on_ok_weaker c.take_read.result (gives_after g.V.Ground c.args.volume.now c.other_from.new.volume c.take_read.new.volume
    (keeps_on g.V.Ground c.args.volume.now c.linked_older.new.volume c.other_from.new.volume
    (keeps_on g.V.Ground c.args.volume.now c.stored_version.new.volume c.linked_older.new.volume c.stored_version.ensures.kept
    c.linked_older.ensures.kept) c.other_from.ensures.kept)) c.take_read.ensures.gives
