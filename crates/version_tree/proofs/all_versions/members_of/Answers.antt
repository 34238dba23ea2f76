use Rattle.std.proofs.Common.{rules, ℕ, List, sym, subst}
use Rattle.std.specs.Prelude.{IsPermutation}
use Rattle.std.proofs.lemmas.List.Sorted.{answers_always}
use Rattle.std.specs.Prelude.{map}
use Rattle.version_tree.specs.declared.lineage.Member.{Member}
use Rattle.file_bodies.specs.Bodies.{bodies_of}
use Rattle.file_bodies.proofs.Blame.{carried}
use Rattle.file_bodies.proofs.Moving.{kept_file}
use Rattle.versions.specs.Listed.{AreReadable}
use Rattle.versions.specs.Damage.{IsListingFault, IsWalkedOut}
use Rattle.version_tree.specs.Lineage.{member_of}
use Rattle.version_tree.specs.Links.{at_start}
use Rattle.version_tree.proofs.ReadPlaces.{walked_from, way_of}
use Rattle.ex_base.proofs.Keeping.{keeps_on}
use Rattle.ex_base.proofs.Handed.{cause_after}
use Rattle.version_tree.proofs.all_versions.members_of.Goals as goal

pub returns-in-Err-clause-fault : goal.returns-in-Err-clause-fault
returns-in-Err-clause-fault g c = λ told. at_start (c.in-Err.ensures.fault told)

pub returns-in-Ok-collect-clause-members : goal.returns-in-Ok-collect-clause-members
returns-in-Ok-collect-clause-members g c = λ told index body has.
    let kept = c.file_of.ensures.kept in
    let told_b = g.V.Ground.leads_told c.args.volume.now c.file_of.new.volume kept.leads told in
    let file_b = kept_file g.V.Ground c.args.volume.now c.file_of.new.volume index kept has.file in
    let all = c.in-Ok-collect.ensures.members told_b index file_b (c.in-Ok.ensures.number told index body has) in
    subst (λ (i : ℕ → List ℕ). IsPermutation (map member_of (bodies_of i index)) c.sort_unstable_by_key.new.self.items) kept.images
    (subst (λ (t : List Member). IsPermutation t c.sort_unstable_by_key.new.self.items) all c.sort_unstable_by_key.ensures.permutation)

pub returns-in-Ok-collect-clause-ordered : goal.returns-in-Ok-collect-clause-ordered
returns-in-Ok-collect-clause-ordered g c = c.sort_unstable_by_key.ensures.sorted (λ (m : Member). m.oid.unique) (answers_always _ _ _ (λ f a r h k. search rules))

pub returns-in-Err-collect-clause-sound : goal.returns-in-Err-collect-clause-sound
returns-in-Err-collect-clause-sound g c = λ damage told index body has readable.
    let kept = c.file_of.ensures.kept in
    let told_b = g.V.Ground.leads_told c.args.volume.now c.file_of.new.volume kept.leads told in
    let file_b = kept_file g.V.Ground c.args.volume.now c.file_of.new.volume index kept has.file in
    c.in-Err-collect.ensures.sound damage told_b index file_b (c.in-Ok.ensures.number told index body has) (subst (λ (i : ℕ → List ℕ). AreReadable (bodies_of i index)) (sym kept.images) readable)

pub returns-in-Err-collect-clause-fault : goal.returns-in-Err-collect-clause-fault
returns-in-Err-collect-clause-fault g c = λ told. way_of (g.V.Ground.geometry c.args.volume.now) (g.V.Ground.image c.args.volume.now) c.args.place c.in-Ok.file_no c.in-Err-collect.fault (c.in-Ok.ensures.page told) (c.in-Ok.ensures.shown told)
    (carried g.V.Ground c.args.volume.now c.file_of.new.volume (λ y u. IsListingFault y u c.in-Ok.file_no c.in-Err-collect.fault) c.file_of.ensures.kept c.in-Err-collect.ensures.fault told)

pub returns-in-Ok-collect-clause-walk : goal.returns-in-Ok-collect-clause-walk
returns-in-Ok-collect-clause-walk g c = λ told. walked_from (g.V.Ground.geometry c.args.volume.now) (g.V.Ground.image c.args.volume.now) c.args.place c.in-Ok.file_no (c.in-Ok.ensures.page told) (c.in-Ok.ensures.shown told)
    (carried g.V.Ground c.args.volume.now c.file_of.new.volume (λ y u. IsWalkedOut y u c.in-Ok.file_no) c.file_of.ensures.kept c.in-Ok-collect.ensures.walk told)

pub returns-in-Err-clause-members : goal.returns-in-Err-clause-members
returns-in-Err-clause-members g c = tt

pub returns-in-Err-clause-ordered : goal.returns-in-Err-clause-ordered
returns-in-Err-clause-ordered g c = tt

pub returns-in-Err-clause-walk : goal.returns-in-Err-clause-walk
returns-in-Err-clause-walk g c = tt

pub returns-in-Err-clause-kept : goal.returns-in-Err-clause-kept
returns-in-Err-clause-kept g c = c.file_of.ensures.kept

pub returns-in-Err-clause-cause : goal.returns-in-Err-clause-cause
returns-in-Err-clause-cause g c = c.in-Err.ensures.cause

pub returns-in-Ok-collect-clause-sound : goal.returns-in-Ok-collect-clause-sound
returns-in-Ok-collect-clause-sound g c = tt

pub returns-in-Ok-collect-clause-fault : goal.returns-in-Ok-collect-clause-fault
returns-in-Ok-collect-clause-fault g c = tt

pub returns-in-Ok-collect-clause-kept : goal.returns-in-Ok-collect-clause-kept
returns-in-Ok-collect-clause-kept g c =
    keeps_on g.V.Ground c.args.volume.now c.file_of.new.volume c.collect.new.volume c.file_of.ensures.kept c.collect.ensures.kept

pub returns-in-Ok-collect-clause-cause : goal.returns-in-Ok-collect-clause-cause
returns-in-Ok-collect-clause-cause g c = tt

pub returns-in-Err-collect-clause-members : goal.returns-in-Err-collect-clause-members
returns-in-Err-collect-clause-members g c = tt

pub returns-in-Err-collect-clause-ordered : goal.returns-in-Err-collect-clause-ordered
returns-in-Err-collect-clause-ordered g c = tt

pub returns-in-Err-collect-clause-walk : goal.returns-in-Err-collect-clause-walk
returns-in-Err-collect-clause-walk g c = tt

pub returns-in-Err-collect-clause-kept : goal.returns-in-Err-collect-clause-kept
returns-in-Err-collect-clause-kept g c =
    keeps_on g.V.Ground c.args.volume.now c.file_of.new.volume c.collect.new.volume c.file_of.ensures.kept c.collect.ensures.kept

pub returns-in-Err-collect-clause-cause : goal.returns-in-Err-collect-clause-cause
returns-in-Err-collect-clause-cause g c =
    cause_after g.V.Ground c.args.volume.now c.file_of.new.volume c.file_of.ensures.kept.leads c.collect.new.volume c.in-Err-collect.fault
    c.in-Err-collect.ensures.cause

pub file_of-requires : goal.file_of-requires
file_of-requires g c = c.requires

pub collect-requires : goal.collect-requires
collect-requires g c = g.V.Ground.leads_ready c.args.volume.now c.file_of.new.volume c.file_of.ensures.kept.leads c.requires

pub returns-in-Err-clause-sound : goal.returns-in-Err-clause-sound
returns-in-Err-clause-sound g c = λ damage told index body has readable. c.in-Err.ensures.sound damage told index body has
