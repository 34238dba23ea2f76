use Rattle.std.proofs.Common.{◌≡◌, ℕ, List, Option, sym, ap, subst, ◌∙◌}
use Rattle.std.specs.Prelude.{IsPermutation, map}
use Rattle.std.proofs.lemmas.Result.{IfOk-weaker, IfErr-weaker}
use Rattle.ex_base.specs.declared.names.Place.{Place}
use Rattle.ex_base.proofs.Results.{if_err_handed}
use Rattle.object_records.specs.declared.Head.{Head}
use Rattle.file_bodies.specs.Bodies.{bodies_of}
use Rattle.file_bodies.specs.Files.{HasBody}
use Rattle.file_bodies.proofs.Blame.{carried}
use Rattle.file_bodies.proofs.Moving.{kept_body}
use Rattle.versions.specs.Versions.{place_of}
use Rattle.versions.proofs.Results.{ok_of}
use Rattle.version_tree.specs.Lineage.{listed, member_of}
use Rattle.version_tree.specs.Links.{IsWalkFault, IsWalkedFrom, of_body, of_version, ports_own}
use Rattle.version_tree.specs.declared.lineage.Member.{Member}
use Rattle.version_tree.proofs.RowsGathered.{linked_readable}
use Rattle.version_tree.proofs.Linking.{head_read, kept_linked, linked_limits}
use Rattle.ex_base.proofs.Handed.{no_value, not_given, cause_here, handed_after}
use Rattle.ex_base.proofs.Keeping.{keeps_on}
use Rattle.version_tree.proofs.all_versions.versions.Goals as goal

pub returns-in_err-version-clause-sound : goal.returns-in_err-version-clause-sound
returns-in_err-version-clause-sound g c = if_err_handed c.from_residual.result _ _ c.from_residual.ensures.1 (λ damage told linked index is has.
    c.in_err-version.ensures.sound damage told index is has (linked_limits g.V.Ground c.args.volume.now index c.args.oid.now is linked has))

pub returns-in_err-version-clause-fault : goal.returns-in_err-version-clause-fault
returns-in_err-version-clause-fault g c = if_err_handed c.from_residual.result _ _ c.from_residual.ensures.1 (λ told. of_version (c.in_err-version.ensures.fault told))

pub returns-in_err-members-clause-sound : goal.returns-in_err-members-clause-sound
returns-in_err-members-clause-sound g c = if_err_handed c.from_residual-in_err-members.result _ _ c.from_residual-in_err-members.ensures.1 (λ damage told linked index is has.
    let kept = c.stored_version.ensures.kept in
    let told_b = g.V.Ground.leads_told c.args.volume.now c.stored_version.new.volume kept.leads told in
    let stands = kept_body g.V.Ground c.args.volume.now c.stored_version.new.volume index (place_of c.args.oid.now) has.body kept has.stands in
    let at = c.in_ok-version.ensures.stored told index is has in
    c.in_err-members.ensures.sound damage told_b index has.body (subst (λ (p : Place). HasBody g.V.Ground c.stored_version.new.volume index p has.body) (sym at.stands) stands)
    (linked_readable g.V.Ground c.stored_version.new.volume index (kept_linked g.V.Ground c.args.volume.now c.stored_version.new.volume kept linked) stands.file))

pub returns-in_err-members-clause-fault : goal.returns-in_err-members-clause-fault
returns-in_err-members-clause-fault g c = if_err_handed c.from_residual-in_err-members.result _ _ c.from_residual-in_err-members.ensures.1 (λ told.
    let v = c.in_ok-version.ensures.reads told in
    of_body c.in_ok-version.version.body.items v.read.stands (subst (λ (p : Place). IsWalkFault (g.V.Ground.geometry c.args.volume.now) (g.V.Ground.image c.args.volume.now) p c.in_err-members.field-0.0) v.read.at
    (carried g.V.Ground c.args.volume.now c.stored_version.new.volume (λ y u. IsWalkFault y u c.in_ok-version.version.place c.in_err-members.field-0.0) c.stored_version.ensures.kept c.in_err-members.ensures.fault told)))

pub returns-clause-oids : goal.returns-clause-oids
returns-clause-oids g c = IfOk-weaker c.list_members.result _ _ (λ oids h told index is has.
    let kept = c.stored_version.ensures.kept in
    let told_b = g.V.Ground.leads_told c.args.volume.now c.stored_version.new.volume kept.leads told in
    let stands = kept_body g.V.Ground c.args.volume.now c.stored_version.new.volume index (place_of c.args.oid.now) has.body kept has.stands in
    let at = c.in_ok-version.ensures.stored told index is has in
    let heads : c.in_ok-version.version.head ≡ is.head = head_read g.V.Ground has.body is c.in_ok-version.version.head has.spelled at.head in
    record {
      members = c.in_ok-members.members.items;
      same = subst (λ (i : ℕ → List ℕ). IsPermutation (map member_of (bodies_of i index)) c.in_ok-members.members.items) kept.images
          (c.in_ok-members.ensures.members told_b index has.body (subst (λ (p : Place). HasBody g.V.Ground c.stored_version.new.volume index p has.body) (sym at.stands) stands));
      ordered = c.in_ok-members.ensures.ordered;
      oids_are = subst (λ (o : Option Place). oids.items ≡ map (λ (m : Member). m.oid) (listed c.in_ok-members.members.items (record { oid = c.args.oid.now; older = o }))) (ap (λ (t : Head). t.older) heads)
          (h ∙ ap (λ (t : List Member). map (λ (m : Member). m.oid) (listed t (record { oid = c.args.oid.now; older = c.in_ok-version.version.head.older }))) c.deref.ensures.value);
    }) c.list_members.ensures.oids

pub returns-clause-sound : goal.returns-clause-sound
returns-clause-sound g c = IfErr-weaker c.list_members.result _ _ (λ fault never damage told linked index is has. never damage) c.list_members.ensures.no_damage

pub returns-clause-fault : goal.returns-clause-fault
returns-clause-fault g c = IfErr-weaker c.list_members.result _ _ (λ fault never told. of_version (ports_own never)) c.list_members.ensures.no_damage

pub returns-clause-cause : goal.returns-clause-cause
returns-clause-cause g c = c.list_members.ensures.cause _ _

pub returns-clause-reads : goal.returns-clause-reads
returns-clause-reads g c = ok_of c.list_members.result _ (λ told.
    let v = c.in_ok-version.ensures.reads told in
    record {
      body = c.in_ok-version.version.body.items;
      version = v.version;
      holds = subst (λ (p : Place). IsWalkedFrom (g.V.Ground.geometry c.args.volume.now) (g.V.Ground.image c.args.volume.now) p) v.read.at
          (carried g.V.Ground c.args.volume.now c.stored_version.new.volume (λ y u. IsWalkedFrom y u c.in_ok-version.version.place) c.stored_version.ensures.kept c.in_ok-members.ensures.walk told);
    })

pub returns-in_err-version-clause-oids : goal.returns-in_err-version-clause-oids
returns-in_err-version-clause-oids g c = no_value c.from_residual.result _ c.in_err-version.field-0.0 c.from_residual.ensures.1

pub returns-in_err-version-clause-reads : goal.returns-in_err-version-clause-reads
returns-in_err-version-clause-reads g c = not_given c.from_residual.result _ c.in_err-version.field-0.0 c.from_residual.ensures.1

pub returns-in_err-version-clause-kept : goal.returns-in_err-version-clause-kept
returns-in_err-version-clause-kept g c = c.stored_version.ensures.kept

pub returns-in_err-version-clause-cause : goal.returns-in_err-version-clause-cause
returns-in_err-version-clause-cause g c =
    cause_here (g.V.Ground.faults c.args.volume.now) (g.V.Ground.faults c.stored_version.new.volume) c.from_residual.result c.in_err-version.field-0.0
    c.from_residual.ensures.1 c.in_err-version.ensures.cause

pub returns-in_err-members-clause-oids : goal.returns-in_err-members-clause-oids
returns-in_err-members-clause-oids g c = no_value c.from_residual-in_err-members.result _ c.in_err-members.field-0.0 c.from_residual-in_err-members.ensures.1

pub returns-in_err-members-clause-reads : goal.returns-in_err-members-clause-reads
returns-in_err-members-clause-reads g c = not_given c.from_residual-in_err-members.result _ c.in_err-members.field-0.0 c.from_residual-in_err-members.ensures.1

pub returns-in_err-members-clause-kept : goal.returns-in_err-members-clause-kept
returns-in_err-members-clause-kept g c =
    keeps_on g.V.Ground c.args.volume.now c.stored_version.new.volume c.members_of.new.volume c.stored_version.ensures.kept c.members_of.ensures.kept

pub returns-in_err-members-clause-cause : goal.returns-in_err-members-clause-cause
returns-in_err-members-clause-cause g c =
    handed_after g.V.Ground c.args.volume.now c.stored_version.new.volume c.stored_version.ensures.kept.leads c.members_of.new.volume
    c.from_residual-in_err-members.result c.in_err-members.field-0.0 c.from_residual-in_err-members.ensures.1 c.in_err-members.ensures.cause

pub returns-clause-kept : goal.returns-clause-kept
returns-clause-kept g c =
    keeps_on g.V.Ground c.args.volume.now c.stored_version.new.volume c.members_of.new.volume c.stored_version.ensures.kept c.members_of.ensures.kept

pub stored_version-requires : goal.stored_version-requires
stored_version-requires g c = c.requires

pub members_of-requires : goal.members_of-requires
members_of-requires g c = g.V.Ground.leads_ready c.args.volume.now c.stored_version.new.volume c.stored_version.ensures.kept.leads c.requires
