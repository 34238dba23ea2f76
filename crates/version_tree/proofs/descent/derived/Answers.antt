use Rattle.std.proofs.Common.{ℕ, List, Option, refl, sym, ap, subst, ◌∙◌}
use Rattle.std.specs.Prelude.{IsPermutation}
use Rattle.std.proofs.lemmas.List.Sorted.{IsPermutation-refl}
use Rattle.std.proofs.lemmas.Result.{IfOk-weaker, IfErr-weaker, on_ok_weaker}
use Rattle.ex_base.specs.declared.names.Oid.{Oid}
use Rattle.ex_base.specs.declared.names.Place.{Place}
use Rattle.ex_base.proofs.Keeping.{keeps_on}
use Rattle.ex_base.proofs.Results.{if_err_handed}
use Rattle.object_records.specs.declared.Head.{Head}
use Rattle.file_bodies.specs.Bodies.{bodies_of}
use Rattle.file_bodies.specs.Files.{HasBody}
use Rattle.file_bodies.proofs.Blame.{carried}
use Rattle.file_bodies.proofs.Moving.{kept_body}
use Rattle.versions.specs.Versions.{place_of}
use Rattle.versions.proofs.Results.{ok_of}
use Rattle.version_tree.specs.Linked.{oids_from}
use Rattle.version_tree.specs.Links.{IsWalkFault, IsWalkedFrom, ReadOn, StoredAt, by_newer, by_walk, of_body, of_version, ports_own}
use Rattle.version_tree.specs.declared.links.Stored.{Stored}
use Rattle.version_tree.proofs.RowsGathered.{linked_readable, one_derived}
use Rattle.version_tree.proofs.Linking.{kept_linked, linked_limits}
use Rattle.version_tree.proofs.ReadPlaces.{newer_read, newer_told, none_named, not_some, some_named}
use Rattle.ex_base.proofs.Handed.{no_value, not_given, cause_here, handed_after, cause_of}
use Rattle.version_tree.proofs.descent.derived.Goals as goal

pub returns-in_err-version-clause-sound : goal.returns-in_err-version-clause-sound
returns-in_err-version-clause-sound g c = if_err_handed c.from_residual.result _ _ c.from_residual.ensures.1 (λ damage told linked index is has.
    c.in_err-version.ensures.sound damage told index is has (linked_limits g.V.Ground c.args.volume.now index c.args.oid.now is linked has))

pub returns-in_err-version-clause-fault : goal.returns-in_err-version-clause-fault
returns-in_err-version-clause-fault g c = if_err_handed c.from_residual.result _ _ c.from_residual.ensures.1 (λ told. of_version (c.in_err-version.ensures.fault told))

pub returns-in_err-found-clause-sound : goal.returns-in_err-found-clause-sound
returns-in_err-found-clause-sound g c = if_err_handed c.from_residual-in_err-found.result _ _ c.from_residual-in_err-found.ensures.1 (λ damage told linked index is has.
    let kept = c.stored_version.ensures.kept in
    let told_b = g.V.Ground.leads_told c.args.volume.now c.stored_version.new.volume kept.leads told in
    let stands = kept_body g.V.Ground c.args.volume.now c.stored_version.new.volume index (place_of c.args.oid.now) has.body kept has.stands in
    c.in_err-found.ensures.sound damage told_b (kept_linked g.V.Ground c.args.volume.now c.stored_version.new.volume kept linked) index (place_of c.args.oid.now) has.body stands (c.in_ok-version.ensures.stored told index is has))

pub returns-in_err-found-clause-fault : goal.returns-in_err-found-clause-fault
returns-in_err-found-clause-fault g c = if_err_handed c.from_residual-in_err-found.result _ _ c.from_residual-in_err-found.ensures.1 (λ told.
    let v = c.in_ok-version.ensures.reads told in
    of_body c.in_ok-version.version.body.items v.read.stands (by_newer (newer_told g.V.Ground c.args.volume.now c.stored_version.new.volume c.stored_version.ensures.kept c.args.oid.now c.in_ok-version.version c.in_err-found.field-0.0 v c.in_err-found.ensures.fault told)))

pub returns-in-Some-clause-oids : goal.returns-in-Some-clause-oids
returns-in-Some-clause-oids g c = IfOk-weaker c.list_one.result _ _ (λ oids one told linked index is has.
    let kept = c.stored_version.ensures.kept in
    let told_b = g.V.Ground.leads_told c.args.volume.now c.stored_version.new.volume kept.leads told in
    let links_b = kept_linked g.V.Ground c.args.volume.now c.stored_version.new.volume kept linked in
    let stands = kept_body g.V.Ground c.args.volume.now c.stored_version.new.volume index (place_of c.args.oid.now) has.body kept has.stands in
    let at = c.in_ok-version.ensures.stored told index is has in
    let down = subst (λ (o : Option Stored). StoredAt (bodies_of (g.V.Ground.image c.stored_version.new.volume) index) c.in_ok-version.version.head.newer o) c.in-Some.is
    (c.in_ok-found.ensures.newer told_b links_b index (place_of c.args.oid.now) has.body stands at) in
    let here = one_derived g.V.Ground c.stored_version.new.volume index (place_of c.args.oid.now) has.body c.in_ok-version.version.head c.in_ok-version.version.head.newer c.in-Some.newer links_b stands at.head refl down in
    subst (λ (i : ℕ → List ℕ). IsPermutation (oids_from (place_of c.args.oid.now) (bodies_of i index)) oids.items) kept.images
    (subst (λ (t : List Oid). IsPermutation t oids.items) (sym (here ∙ sym one)) (IsPermutation-refl oids.items))) c.list_one.ensures.one

pub returns-in-Some-clause-reads : goal.returns-in-Some-clause-reads
returns-in-Some-clause-reads g c = ok_of c.list_one.result _ (λ told.
    let kept = c.stored_version.ensures.kept in
    let told_b = g.V.Ground.leads_told c.args.volume.now c.stored_version.new.volume kept.leads told in
    let v = c.in_ok-version.ensures.reads told in
    let some = some_named (g.V.Ground.image c.stored_version.new.volume) c.in_ok-version.version.head.newer c.in-Some.newer (subst (λ (o : Option Stored). ReadOn (g.V.Ground.image c.stored_version.new.volume) c.in_ok-version.version.head.newer o) c.in-Some.is (c.in_ok-found.ensures.reads told_b)) in
    record {
      body = c.in_ok-version.version.body.items;
      version = v.version;
      holds = (
        newer_read (g.V.Ground.image c.args.volume.now) (g.V.Ground.image c.stored_version.new.volume) kept.images c.args.oid.now c.in_ok-version.version v (c.in_ok-found.ensures.link told_b),
        λ none. absurd (not_some c.in_ok-version.version.head.newer (ap (λ (h : Head). h.newer) v.read.head ∙ none) some),
      );
    })

pub returns-in-Some-clause-sound : goal.returns-in-Some-clause-sound
returns-in-Some-clause-sound g c = IfErr-weaker c.list_one.result _ _ (λ fault never damage told linked index is has. never damage) c.list_one.ensures.no_damage

pub returns-in-Some-clause-fault : goal.returns-in-Some-clause-fault
returns-in-Some-clause-fault g c = IfErr-weaker c.list_one.result _ _ (λ fault never told. of_version (ports_own never)) c.list_one.ensures.no_damage

pub returns-in-Some-clause-cause : goal.returns-in-Some-clause-cause
returns-in-Some-clause-cause g c = c.list_one.ensures.cause _ _

pub returns-clause-oids : goal.returns-clause-oids
returns-clause-oids g c = IfOk-weaker c.list_by_number.result _ _ (λ oids h told linked index is has.
    let kept = keeps_on g.V.Ground c.args.volume.now c.stored_version.new.volume c.linked_newer.new.volume c.stored_version.ensures.kept c.linked_newer.ensures.kept in
    let told_d = g.V.Ground.leads_told c.args.volume.now c.linked_newer.new.volume kept.leads told in
    let stands = kept_body g.V.Ground c.args.volume.now c.linked_newer.new.volume index (place_of c.args.oid.now) has.body kept has.stands in
    let at = c.in_ok-version.ensures.stored told index is has in
    subst (λ (p : Place). IsPermutation (oids_from p (bodies_of (g.V.Ground.image c.args.volume.now) index)) oids.items) at.stands
    (subst (λ (i : ℕ → List ℕ). IsPermutation (oids_from c.in_ok-version.version.place (bodies_of i index)) oids.items) kept.images
    (h told_d index has.body (subst (λ (p : Place). HasBody g.V.Ground c.linked_newer.new.volume index p has.body) (sym at.stands) stands)))) c.list_by_number.ensures.oids

pub returns-clause-reads : goal.returns-clause-reads
returns-clause-reads g c = on_ok_weaker c.list_by_number.result (λ h told.
    let kept = c.stored_version.ensures.kept in
    let told_b = g.V.Ground.leads_told c.args.volume.now c.stored_version.new.volume kept.leads told in
    let both = keeps_on g.V.Ground c.args.volume.now c.stored_version.new.volume c.linked_newer.new.volume kept c.linked_newer.ensures.kept in
    let v = c.in_ok-version.ensures.reads told in
    record {
      body = c.in_ok-version.version.body.items;
      version = v.version;
      holds = (
        newer_read (g.V.Ground.image c.args.volume.now) (g.V.Ground.image c.stored_version.new.volume) kept.images c.args.oid.now c.in_ok-version.version v (c.in_ok-found.ensures.link told_b),
        λ none. subst (λ (p : Place). IsWalkedFrom (g.V.Ground.geometry c.args.volume.now) (g.V.Ground.image c.args.volume.now) p) v.read.at
            (carried g.V.Ground c.args.volume.now c.linked_newer.new.volume (λ y u. IsWalkedFrom y u c.in_ok-version.version.place) both h told),
      );
    }) c.list_by_number.ensures.walk

pub returns-clause-sound : goal.returns-clause-sound
returns-clause-sound g c = IfErr-weaker c.list_by_number.result _ _ (λ fault h damage told linked index is has.
    let kept = keeps_on g.V.Ground c.args.volume.now c.stored_version.new.volume c.linked_newer.new.volume c.stored_version.ensures.kept c.linked_newer.ensures.kept in
    let told_d = g.V.Ground.leads_told c.args.volume.now c.linked_newer.new.volume kept.leads told in
    let stands = kept_body g.V.Ground c.args.volume.now c.linked_newer.new.volume index (place_of c.args.oid.now) has.body kept has.stands in
    let at = c.in_ok-version.ensures.stored told index is has in
    h damage told_d index has.body (subst (λ (p : Place). HasBody g.V.Ground c.linked_newer.new.volume index p has.body) (sym at.stands) stands)
    (linked_readable g.V.Ground c.linked_newer.new.volume index (kept_linked g.V.Ground c.args.volume.now c.linked_newer.new.volume kept linked) stands.file)) c.list_by_number.ensures.sound

pub returns-clause-fault : goal.returns-clause-fault
returns-clause-fault g c = IfErr-weaker c.list_by_number.result _ _ (λ fault h told.
    let kept = keeps_on g.V.Ground c.args.volume.now c.stored_version.new.volume c.linked_newer.new.volume c.stored_version.ensures.kept c.linked_newer.ensures.kept in
    let told_b = g.V.Ground.leads_told c.args.volume.now c.stored_version.new.volume c.stored_version.ensures.kept.leads told in
    let v = c.in_ok-version.ensures.reads told in
    let none = none_named (g.V.Ground.image c.stored_version.new.volume) c.in_ok-version.version.head.newer (subst (λ (o : Option Stored). ReadOn (g.V.Ground.image c.stored_version.new.volume) c.in_ok-version.version.head.newer o) c.in-None.is (c.in_ok-found.ensures.reads told_b)) in
    of_body c.in_ok-version.version.body.items v.read.stands (by_walk (ap (λ (b : Head). b.newer) (sym v.read.head) ∙ none)
    (subst (λ (p : Place). IsWalkFault (g.V.Ground.geometry c.args.volume.now) (g.V.Ground.image c.args.volume.now) p fault) v.read.at
    (carried g.V.Ground c.args.volume.now c.linked_newer.new.volume (λ y u. IsWalkFault y u c.in_ok-version.version.place fault) kept h told)))) c.list_by_number.ensures.fault

pub returns-in_err-version-clause-oids : goal.returns-in_err-version-clause-oids
returns-in_err-version-clause-oids g c = no_value c.from_residual.result _ c.in_err-version.field-0.0 c.from_residual.ensures.1

pub returns-in_err-version-clause-reads : goal.returns-in_err-version-clause-reads
returns-in_err-version-clause-reads g c = not_given c.from_residual.result _ c.in_err-version.field-0.0 c.from_residual.ensures.1

pub returns-in_err-version-clause-ordered : goal.returns-in_err-version-clause-ordered
returns-in_err-version-clause-ordered g c = no_value c.from_residual.result _ c.in_err-version.field-0.0 c.from_residual.ensures.1

pub returns-in_err-version-clause-kept : goal.returns-in_err-version-clause-kept
returns-in_err-version-clause-kept g c = c.stored_version.ensures.kept

pub returns-in_err-version-clause-cause : goal.returns-in_err-version-clause-cause
returns-in_err-version-clause-cause g c =
    cause_here (g.V.Ground.faults c.args.volume.now) (g.V.Ground.faults c.stored_version.new.volume) c.from_residual.result c.in_err-version.field-0.0
    c.from_residual.ensures.1 c.in_err-version.ensures.cause

pub returns-in_err-found-clause-oids : goal.returns-in_err-found-clause-oids
returns-in_err-found-clause-oids g c = no_value c.from_residual-in_err-found.result _ c.in_err-found.field-0.0 c.from_residual-in_err-found.ensures.1

pub returns-in_err-found-clause-reads : goal.returns-in_err-found-clause-reads
returns-in_err-found-clause-reads g c = not_given c.from_residual-in_err-found.result _ c.in_err-found.field-0.0 c.from_residual-in_err-found.ensures.1

pub returns-in_err-found-clause-ordered : goal.returns-in_err-found-clause-ordered
returns-in_err-found-clause-ordered g c = no_value c.from_residual-in_err-found.result _ c.in_err-found.field-0.0 c.from_residual-in_err-found.ensures.1

pub returns-in_err-found-clause-kept : goal.returns-in_err-found-clause-kept
returns-in_err-found-clause-kept g c =
    keeps_on g.V.Ground c.args.volume.now c.stored_version.new.volume c.linked_newer.new.volume c.stored_version.ensures.kept c.linked_newer.ensures.kept

pub returns-in_err-found-clause-cause : goal.returns-in_err-found-clause-cause
returns-in_err-found-clause-cause g c =
    handed_after g.V.Ground c.args.volume.now c.stored_version.new.volume c.stored_version.ensures.kept.leads c.linked_newer.new.volume
    c.from_residual-in_err-found.result c.in_err-found.field-0.0 c.from_residual-in_err-found.ensures.1 c.in_err-found.ensures.cause

pub returns-in-Some-clause-kept : goal.returns-in-Some-clause-kept
returns-in-Some-clause-kept g c =
    keeps_on g.V.Ground c.args.volume.now c.stored_version.new.volume c.linked_newer.new.volume c.stored_version.ensures.kept c.linked_newer.ensures.kept

pub returns-clause-kept : goal.returns-clause-kept
returns-clause-kept g c =
    keeps_on g.V.Ground c.args.volume.now c.linked_newer.new.volume c.list_by_number.new.volume
    (keeps_on g.V.Ground c.args.volume.now c.stored_version.new.volume c.linked_newer.new.volume c.stored_version.ensures.kept c.linked_newer.ensures.kept)
    c.list_by_number.ensures.kept

pub returns-clause-cause : goal.returns-clause-cause
returns-clause-cause g c =
    cause_of g.V.Ground c.args.volume.now c.linked_newer.new.volume
    (g.V.Ground.leads_trans c.args.volume.now c.stored_version.new.volume c.linked_newer.new.volume c.stored_version.ensures.kept.leads
    c.linked_newer.ensures.kept.leads)
    c.list_by_number.new.volume c.list_by_number.result c.list_by_number.ensures.cause

pub stored_version-requires : goal.stored_version-requires
stored_version-requires g c = c.requires

pub linked_newer-requires : goal.linked_newer-requires
linked_newer-requires g c = g.V.Ground.leads_ready c.args.volume.now c.stored_version.new.volume c.stored_version.ensures.kept.leads c.requires

pub list_by_number-requires : goal.list_by_number-requires
list_by_number-requires g c =
    g.V.Ground.leads_ready c.args.volume.now c.linked_newer.new.volume
    (g.V.Ground.leads_trans c.args.volume.now c.stored_version.new.volume c.linked_newer.new.volume c.stored_version.ensures.kept.leads
    c.linked_newer.ensures.kept.leads)
    c.requires

pub returns-clause-ordered : goal.returns-clause-ordered
returns-clause-ordered g c = c.list_by_number.ensures.ordered
