use Rattle.std.proofs.Common.{◌+◌, None, map, subst, sym}
use Rattle.file_bodies.specs.Bodies.{bodies_of}
use Rattle.file_bodies.specs.Places.{IsNext}
use Rattle.file_index.specs.Damage.{every_page}
use Rattle.file_bodies.specs.Damage.{IsListedFault, IsLookFault, page_from}
use Rattle.file_bodies.proofs.Blame.{carried}
use Rattle.file_bodies.proofs.Moving.{kept_body}
use Rattle.versions.specs.Damage.{IsStepFault, LacksRecord, on_to, stepping, walking}
use Rattle.versions.proofs.Listed.{ListedTo, comes_next, listed_none, told_b, file_b, done, first, stands, rises, readable, one_more, walked_out}
use Rattle.versions.proofs.RowsListed.{IsListed}
use Rattle.version_tree.specs.Lineage.{member_of}
use Rattle.ex_base.proofs.Keeping.{keeps_on}
use Rattle.version_tree.proofs.RowsGathered.{gathers_members}
use Rattle.ex_base.proofs.Handed.{cause_after}
use Rattle.version_tree.proofs.all_versions.collect.Goals as goal

pub places-init : goal.places-init
places-init g c = subst (ListedTo g.V.Ground (map member_of) c.args.volume.now c.args.volume.now c.args.file_no None) (sym c.new-members.ensures.items) (listed_none g.V.Ground (map member_of) gathers_members c.args.volume.now c.args.file_no)

pub returns-in-Ok-None-clause-members : goal.returns-in-Ok-None-clause-members
returns-in-Ok-None-clause-members g c = λ told index file is.
    let tb = told_b g.V.Ground (map member_of) c.args.volume.now c.places.volume c.args.file_no c.places.after c.places.members.items c.places.invariant told index file is in
    let fb = file_b g.V.Ground (map member_of) c.args.volume.now c.places.volume c.args.file_no c.places.after c.places.members.items c.places.invariant told index file is in
    done g.V.Ground (map member_of) c.args.volume.now c.places.volume c.args.file_no c.places.after c.places.members.items c.places.invariant told index file is (subst (IsNext (bodies_of (g.V.Ground.image c.places.volume) index) c.places.after) c.in-Ok-None.field-0-is (c.in-Ok-None.ensures.next tb index fb is))

pub returns-in-Err-clause-sound : goal.returns-in-Err-clause-sound
returns-in-Err-clause-sound g c = λ damage told index file is all. c.in-Err.ensures.sound damage (told_b g.V.Ground (map member_of) c.args.volume.now c.places.volume c.args.file_no c.places.after c.places.members.items c.places.invariant told index file is) index (file_b g.V.Ground (map member_of) c.args.volume.now c.places.volume c.args.file_no c.places.after c.places.members.items c.places.invariant told index file is) is

pub returns-in-Err-collect_at-clause-sound : goal.returns-in-Err-collect_at-clause-sound
returns-in-Err-collect_at-clause-sound g c = λ damage told index file is all.
    let tb = told_b g.V.Ground (map member_of) c.args.volume.now c.places.volume c.args.file_no c.places.after c.places.members.items c.places.invariant told index file is in
    let fb = file_b g.V.Ground (map member_of) c.args.volume.now c.places.volume c.args.file_no c.places.after c.places.members.items c.places.invariant told index file is in
    let next = subst (IsNext (bodies_of (g.V.Ground.image c.places.volume) index) c.places.after) c.in-Ok-Some.field-0-is (c.in-Ok-Some.ensures.next tb index fb is) in
    let row = first g.V.Ground (map member_of) c.args.volume.now c.places.volume c.args.file_no c.places.after c.places.members.items c.places.invariant told index file is c.in-Ok-Some.place next in
    let kept = keeps_on g.V.Ground c.args.volume.now c.places.volume c.next_place.new.pages c.places.invariant.kept c.next_place.ensures.kept in
    let told_n = g.V.Ground.leads_told c.args.volume.now c.next_place.new.pages kept.leads told in
    let stands_n = kept_body g.V.Ground c.args.volume.now c.next_place.new.pages index c.in-Ok-Some.place row.body kept (stands g.V.Ground (map member_of) c.args.volume.now c.places.volume c.args.file_no c.places.after c.places.members.items c.places.invariant told index file is c.in-Ok-Some.place next) in
    let rb = readable g.V.Ground (map member_of) c.args.volume.now c.places.volume c.args.file_no c.places.after c.places.members.items c.places.invariant told index file is c.in-Ok-Some.place next all in
    c.in-Err-collect_at.ensures.sound damage told_n (rises g.V.Ground (map member_of) c.args.volume.now c.places.volume c.args.file_no c.places.after c.places.members.items c.places.invariant told index file is c.in-Ok-Some.place next) index row.body rb.0 stands_n rb.1

pub places-preserved : goal.places-preserved
places-preserved g c = record {
  kept = keeps_on g.V.Ground c.args.volume.now c.next_place.new.pages c.collect_at.new.volume (keeps_on g.V.Ground c.args.volume.now c.places.volume c.next_place.new.pages c.places.invariant.kept c.next_place.ensures.kept) c.collect_at.ensures.kept;
  short = c.in-Ok.ensures.short;
  walked = λ told. on_to c.places.after c.in-Ok-Some.place (c.places.invariant.walked told)
      (comes_next g.V.Ground c.args.volume.now c.places.volume c.args.file_no c.places.after _ c.in-Ok-Some.place c.places.invariant.kept c.in-Ok-Some.ensures.way c.in-Ok-Some.field-0-is told) c.in-Ok.ensures.rises;
  listed = λ told index file is.
      let tb = told_b g.V.Ground (map member_of) c.args.volume.now c.places.volume c.args.file_no c.places.after c.places.members.items c.places.invariant told index file is in
      let fb = file_b g.V.Ground (map member_of) c.args.volume.now c.places.volume c.args.file_no c.places.after c.places.members.items c.places.invariant told index file is in
      let next = subst (IsNext (bodies_of (g.V.Ground.image c.places.volume) index) c.places.after) c.in-Ok-Some.field-0-is (c.in-Ok-Some.ensures.next tb index fb is) in
      let row = first g.V.Ground (map member_of) c.args.volume.now c.places.volume c.args.file_no c.places.after c.places.members.items c.places.invariant told index file is c.in-Ok-Some.place next in
      let kept = keeps_on g.V.Ground c.args.volume.now c.places.volume c.next_place.new.pages c.places.invariant.kept c.next_place.ensures.kept in
      let told_n = g.V.Ground.leads_told c.args.volume.now c.next_place.new.pages kept.leads told in
      let stands_n = kept_body g.V.Ground c.args.volume.now c.next_place.new.pages index c.in-Ok-Some.place row.body kept (stands g.V.Ground (map member_of) c.args.volume.now c.places.volume c.args.file_no c.places.after c.places.members.items c.places.invariant told index file is c.in-Ok-Some.place next) in
      subst (IsListed (map member_of) (bodies_of (g.V.Ground.image c.args.volume.now) index) c.in-Ok-Some.place.page.0 (c.in-Ok-Some.place.slot + 1)) (sym (c.in-Ok.ensures.collected told_n index row.body stands_n)) (one_more g.V.Ground (map member_of) c.args.volume.now c.places.volume c.args.file_no c.places.after c.places.members.items c.places.invariant told index file is c.in-Ok-Some.place next gathers_members);
}

pub returns-in-Err-clause-fault : goal.returns-in-Err-clause-fault
returns-in-Err-clause-fault g c = λ told. walking c.places.after (c.places.invariant.walked told)
    (carried g.V.Ground c.args.volume.now c.places.volume (λ y u. IsListedFault u c.args.file_no (λ index. IsLookFault y every_page u index (page_from c.places.after) c.in-Err.fault) c.in-Err.fault) c.places.invariant.kept c.in-Err.ensures.fault told)

pub returns-in-Err-collect_at-clause-fault : goal.returns-in-Err-collect_at-clause-fault
returns-in-Err-collect_at-clause-fault g c = λ told. stepping c.places.after c.in-Ok-Some.place (c.places.invariant.walked told)
    (comes_next g.V.Ground c.args.volume.now c.places.volume c.args.file_no c.places.after _ c.in-Ok-Some.place c.places.invariant.kept c.in-Ok-Some.ensures.way c.in-Ok-Some.field-0-is told)
    (carried g.V.Ground c.args.volume.now c.next_place.new.pages (λ y u. IsStepFault y u (LacksRecord y u c.places.after c.in-Ok-Some.place) c.in-Ok-Some.place c.in-Err-collect_at.fault)
    (keeps_on g.V.Ground c.args.volume.now c.places.volume c.next_place.new.pages c.places.invariant.kept c.next_place.ensures.kept) c.in-Err-collect_at.ensures.fault told)

pub returns-in-Ok-None-clause-walk : goal.returns-in-Ok-None-clause-walk
returns-in-Ok-None-clause-walk g c = λ told. walked_out g.V.Ground c.args.volume.now c.places.volume c.args.file_no c.places.after _ c.places.invariant.kept c.places.invariant.walked c.in-Ok-None.ensures.way c.in-Ok-None.field-0-is told

pub returns-in-Ok-None-clause-sound : goal.returns-in-Ok-None-clause-sound
returns-in-Ok-None-clause-sound g c = tt

pub returns-in-Ok-None-clause-fault : goal.returns-in-Ok-None-clause-fault
returns-in-Ok-None-clause-fault g c = tt

pub returns-in-Ok-None-clause-cause : goal.returns-in-Ok-None-clause-cause
returns-in-Ok-None-clause-cause g c = tt

pub returns-in-Ok-None-clause-kept : goal.returns-in-Ok-None-clause-kept
returns-in-Ok-None-clause-kept g c =
    keeps_on g.V.Ground c.args.volume.now c.places.volume c.next_place.new.pages c.places.invariant.kept c.next_place.ensures.kept

pub returns-in-Err-clause-members : goal.returns-in-Err-clause-members
returns-in-Err-clause-members g c = tt

pub returns-in-Err-collect_at-clause-members : goal.returns-in-Err-collect_at-clause-members
returns-in-Err-collect_at-clause-members g c = tt

pub returns-in-Err-clause-walk : goal.returns-in-Err-clause-walk
returns-in-Err-clause-walk g c = tt

pub returns-in-Err-collect_at-clause-walk : goal.returns-in-Err-collect_at-clause-walk
returns-in-Err-collect_at-clause-walk g c = tt

pub returns-in-Err-clause-kept : goal.returns-in-Err-clause-kept
returns-in-Err-clause-kept g c = keeps_on g.V.Ground c.args.volume.now c.places.volume c.next_place.new.pages c.places.invariant.kept c.next_place.ensures.kept

pub returns-in-Err-clause-cause : goal.returns-in-Err-clause-cause
returns-in-Err-clause-cause g c =
    cause_after g.V.Ground c.args.volume.now c.places.volume c.places.invariant.kept.leads c.next_place.new.pages c.in-Err.fault c.in-Err.ensures.cause

pub returns-in-Err-collect_at-clause-kept : goal.returns-in-Err-collect_at-clause-kept
returns-in-Err-collect_at-clause-kept g c =
    keeps_on g.V.Ground c.args.volume.now c.next_place.new.pages c.collect_at.new.volume
    (keeps_on g.V.Ground c.args.volume.now c.places.volume c.next_place.new.pages c.places.invariant.kept c.next_place.ensures.kept) c.collect_at.ensures.kept

pub returns-in-Err-collect_at-clause-cause : goal.returns-in-Err-collect_at-clause-cause
returns-in-Err-collect_at-clause-cause g c =
    cause_after g.V.Ground c.args.volume.now c.next_place.new.pages
    (keeps_on g.V.Ground c.args.volume.now c.places.volume c.next_place.new.pages c.places.invariant.kept c.next_place.ensures.kept).leads
    c.collect_at.new.volume c.in-Err-collect_at.fault c.in-Err-collect_at.ensures.cause

pub next_place-requires : goal.next_place-requires
next_place-requires g c = g.V.Ground.leads_ready c.args.volume.now c.places.volume c.places.invariant.kept.leads c.requires

pub collect_at-requires : goal.collect_at-requires
collect_at-requires g c =
    g.V.Ground.leads_ready c.args.volume.now c.next_place.new.pages
    (keeps_on g.V.Ground c.args.volume.now c.places.volume c.next_place.new.pages c.places.invariant.kept c.next_place.ensures.kept).leads c.requires
