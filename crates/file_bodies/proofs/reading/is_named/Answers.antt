use Rattle.file_bodies.proofs.Belonging.{of_lies, of_page, of_yes, of_no, file_c, of_none}
use Rattle.file_bodies.proofs.Blame.{belonging_fault, belonging_lacks, belonging_way, carried}
use Rattle.file_bodies.specs.Damage.{IsCatalogFault, broken_catalog}
use Rattle.ex_base.proofs.Keeping.{keeps_on}
use Rattle.ex_base.proofs.Handed.{any_value, cause_after, cause_of}
use Rattle.file_bodies.proofs.Lacking.{lacks_file, lacks_page}
use Rattle.file_bodies.proofs.OwnFaults.{own_catalog}
use Rattle.object_files.specs.Edits.{IsCatalogPage}
use Rattle.std.proofs.Common.{refl}
use Rattle.std.proofs.lemmas.Bool.{false≢true}
use Rattle.ex_base.specs.Area.{catalog_no}
use Rattle.file_bodies.proofs.reading.is_named.Goals as goal
use Rattle.ex_base.proofs.Options.{at_none, at_some}
use Rattle.std.proofs.lemmas.Result.{IfErr-weaker, IfOk-weaker, on_ok_weaker}

pub returns-in-Ok-None-clause-no : goal.returns-in-Ok-None-clause-no
returns-in-Ok-None-clause-no g c = λ t told of. at_none c.in-Ok-None.field-0 _ c.in-Ok-None.field-0-is c.in-Ok-None.ensures.none told (of_lies g.P.Ground c.args.pages.now c.args.page.0 of) (of_page g.P.Ground c.args.pages.now c.args.page.0 of)

pub returns-clause-yes : goal.returns-clause-yes
returns-clause-yes g c = IfOk-weaker c.names.result _ _ (λ of yes t told files.
    let told_b = g.P.Ground.leads_told c.args.pages.now c.named_at.new.pages c.named_at.ensures.kept.leads told in
    let told_c = g.P.Ground.leads_told c.named_at.new.pages c.find_index.new.pages c.find_index.ensures.kept.leads told_b in
    let number = (at_some c.in-Ok-Some.field-0 c.in-Ok-Some.file_no _ c.in-Ok-Some.field-0-is c.in-Ok-Some.ensures.some told) in
    let file = file_c g.P.Ground c.args.pages.now c.named_at.new.pages c.find_index.new.pages c.args.page.0 c.in-Ok-Some.file_no c.named_at.ensures.kept c.find_index.ensures.kept number c.in-Ok-Some-find_index.index c.in-Ok-Some-find_index.field-0 c.in-Ok-Some-find_index.field-0-is (c.in-Ok-Some-find_index.ensures.found told_b) files in
    of_yes g.P.Ground c.args.pages.now c.named_at.new.pages c.find_index.new.pages c.args.page.0 c.in-Ok-Some.file_no c.named_at.ensures.kept c.find_index.ensures.kept number c.in-Ok-Some-find_index.index c.in-Ok-Some-find_index.field-0 c.in-Ok-Some-find_index.field-0-is (c.in-Ok-Some-find_index.ensures.found told_b) files (yes t told_c file)) c.names.ensures.yes

pub returns-clause-no : goal.returns-clause-no
returns-clause-no g c = IfOk-weaker c.names.result _ _ (λ of no t told is_of.
    let told_b = g.P.Ground.leads_told c.args.pages.now c.named_at.new.pages c.named_at.ensures.kept.leads told in
    let told_c = g.P.Ground.leads_told c.named_at.new.pages c.find_index.new.pages c.find_index.ensures.kept.leads told_b in
    let number = (at_some c.in-Ok-Some.field-0 c.in-Ok-Some.file_no _ c.in-Ok-Some.field-0-is c.in-Ok-Some.ensures.some told) in
    of_no g.P.Ground c.args.pages.now c.named_at.new.pages c.find_index.new.pages c.args.page.0 c.in-Ok-Some.file_no c.named_at.ensures.kept c.find_index.ensures.kept number c.in-Ok-Some-find_index.index c.in-Ok-Some-find_index.field-0 c.in-Ok-Some-find_index.field-0-is (c.in-Ok-Some-find_index.ensures.found told_b) (no t told_c) is_of) c.names.ensures.no

pub returns-clause-sound : goal.returns-clause-sound
returns-clause-sound g c = IfErr-weaker c.names.result _ _ (λ fault never damage told files.
    let told_b = g.P.Ground.leads_told c.args.pages.now c.named_at.new.pages c.named_at.ensures.kept.leads told in
    let told_c = g.P.Ground.leads_told c.named_at.new.pages c.find_index.new.pages c.find_index.ensures.kept.leads told_b in
    let number = (at_some c.in-Ok-Some.field-0 c.in-Ok-Some.file_no _ c.in-Ok-Some.field-0-is c.in-Ok-Some.ensures.some told) in
    never damage told_c (file_c g.P.Ground c.args.pages.now c.named_at.new.pages c.find_index.new.pages c.args.page.0 c.in-Ok-Some.file_no c.named_at.ensures.kept c.find_index.ensures.kept number c.in-Ok-Some-find_index.index c.in-Ok-Some-find_index.field-0 c.in-Ok-Some-find_index.field-0-is (c.in-Ok-Some-find_index.ensures.found told_b) files)) c.names.ensures.sound

pub returns-clause-fault : goal.returns-clause-fault
returns-clause-fault g c = IfErr-weaker c.names.result _ _ (λ fault h.
    belonging_fault g.P.Ground c.args.pages.now c.named_at.new.pages c.find_index.new.pages c.args.page.0 c.in-Ok-Some.file_no c.in-Ok-Some-find_index.index c.in-Ok-Some-find_index.field-0 fault c.named_at.ensures.kept c.find_index.ensures.kept
    (at_some c.in-Ok-Some.field-0 c.in-Ok-Some.file_no _ c.in-Ok-Some.field-0-is c.in-Ok-Some.ensures.some) c.in-Ok-Some-find_index.field-0-is c.in-Ok-Some-find_index.ensures.found c.in-Ok-Some-find_index.ensures.whole h) c.names.ensures.fault

pub returns-clause-way : goal.returns-clause-way
returns-clause-way g c = on_ok_weaker c.names.result (λ way.
    belonging_way g.P.Ground c.args.pages.now c.named_at.new.pages c.find_index.new.pages c.args.page.0 c.in-Ok-Some.file_no c.in-Ok-Some-find_index.index
    c.in-Ok-Some-find_index.field-0 c.named_at.ensures.kept c.find_index.ensures.kept
    (at_some c.in-Ok-Some.field-0 c.in-Ok-Some.file_no _ c.in-Ok-Some.field-0-is c.in-Ok-Some.ensures.some) c.in-Ok-Some-find_index.field-0-is
    c.in-Ok-Some-find_index.ensures.found c.in-Ok-Some-find_index.ensures.whole way) c.names.ensures.way

pub returns-clause-kept : goal.returns-clause-kept
returns-clause-kept g c = keeps_on g.P.Ground _ _ _ (keeps_on g.P.Ground _ _ _ c.named_at.ensures.kept c.find_index.ensures.kept) c.names.ensures.kept

pub returns-in-Ok-None-find_index-clause-kept : goal.returns-in-Ok-None-find_index-clause-kept
returns-in-Ok-None-find_index-clause-kept g c = keeps_on g.P.Ground _ _ _ c.named_at.ensures.kept c.find_index.ensures.kept

pub returns-in-Err-find_index-clause-kept : goal.returns-in-Err-find_index-clause-kept
returns-in-Err-find_index-clause-kept g c = keeps_on g.P.Ground _ _ _ c.named_at.ensures.kept c.find_index.ensures.kept

pub returns-in-Ok-None-find_index-clause-way : goal.returns-in-Ok-None-find_index-clause-way
returns-in-Ok-None-find_index-clause-way g c =
    belonging_lacks g.P.Ground c.args.pages.now c.named_at.new.pages c.args.page.0 c.in-Ok-Some.file_no c.in-Ok-None-find_index.field-0 c.named_at.ensures.kept
    (at_some c.in-Ok-Some.field-0 c.in-Ok-Some.file_no _ c.in-Ok-Some.field-0-is c.in-Ok-Some.ensures.some) c.in-Ok-None-find_index.field-0-is
    c.in-Ok-None-find_index.ensures.found c.in-Ok-None-find_index.ensures.whole

pub returns-in-Ok-None-find_index-clause-no : goal.returns-in-Ok-None-find_index-clause-no
returns-in-Ok-None-find_index-clause-no g c = λ t told is_of.
    let told_b = g.P.Ground.leads_told _ _ c.named_at.ensures.kept.leads told in
    let number = (at_some c.in-Ok-Some.field-0 c.in-Ok-Some.file_no _ c.in-Ok-Some.field-0-is c.in-Ok-Some.ensures.some told) in
    of_none g.P.Ground c.args.pages.now c.named_at.new.pages c.find_index.new.pages c.args.page.0 c.in-Ok-Some.file_no c.named_at.ensures.kept
    c.find_index.ensures.kept number c.in-Ok-None-find_index.field-0 c.in-Ok-None-find_index.field-0-is
    (c.in-Ok-None-find_index.ensures.found told_b) is_of

pub returns-in-Err-find_index-clause-fault : goal.returns-in-Err-find_index-clause-fault
returns-in-Err-find_index-clause-fault g c = λ told spelled.
    broken_catalog
    (carried g.P.Ground c.args.pages.now c.named_at.new.pages (λ y u. IsCatalogFault (u catalog_no) c.in-Err-find_index.fault) c.named_at.ensures.kept
    c.in-Err-find_index.ensures.fault told)

pub names-requires-clause-ready : goal.names-requires-clause-ready
names-requires-clause-ready g c =
    g.P.Ground.leads_ready _ _ (g.P.Ground.leads_trans _ _ _ c.named_at.ensures.kept.leads c.find_index.ensures.kept.leads) c.requires

pub returns-in-Err-find_index-clause-sound : goal.returns-in-Err-find_index-clause-sound
returns-in-Err-find_index-clause-sound g c = λ damage told files.
    let whole : IsCatalogPage (g.P.Ground.image c.named_at.new.pages catalog_no) = rw c.named_at.ensures.kept.images files.catalog.whole in
    c.in-Err-find_index.ensures.sound damage (g.P.Ground.leads_told _ _ c.named_at.ensures.kept.leads told) whole

pub returns-in-Ok-None-clause-way : goal.returns-in-Ok-None-clause-way
returns-in-Ok-None-clause-way g c =
    λ told area spelled. absurd (at_none c.in-Ok-None.field-0 _ c.in-Ok-None.field-0-is c.in-Ok-None.ensures.none told area spelled)

pub returns-clause-cause : goal.returns-clause-cause
returns-clause-cause g c =
    cause_of g.P.Ground _ _ (g.P.Ground.leads_trans _ _ _ c.named_at.ensures.kept.leads c.find_index.ensures.kept.leads) c.names.new.pages c.names.result
    c.names.ensures.cause

pub returns-in-Err-find_index-clause-cause : goal.returns-in-Err-find_index-clause-cause
returns-in-Err-find_index-clause-cause g c =
    cause_after g.P.Ground _ _ c.named_at.ensures.kept.leads c.find_index.new.pages c.in-Err-find_index.fault c.in-Err-find_index.ensures.cause

pub returns-clause-area : goal.returns-clause-area
returns-clause-area g c =
    any_value c.names.result _ (λ of t. at_some c.in-Ok-Some.field-0 c.in-Ok-Some.file_no _ c.in-Ok-Some.field-0-is c.in-Ok-Some.ensures.area)

pub returns-in-Ok-None-find_index-clause-yes : goal.returns-in-Ok-None-find_index-clause-yes
returns-in-Ok-None-find_index-clause-yes g c = λ t told files. absurd (false≢true t)

pub names-requires-clause-usable : goal.names-requires-clause-usable
names-requires-clause-usable g c = record {
  same_file = refl;
  level = (at_some c.in-Ok-Some-find_index.field-0 c.in-Ok-Some-find_index.index _ c.in-Ok-Some-find_index.field-0-is
      c.in-Ok-Some-find_index.ensures.usable).level;
  root = (at_some c.in-Ok-Some-find_index.field-0 c.in-Ok-Some-find_index.index _ c.in-Ok-Some-find_index.field-0-is
      c.in-Ok-Some-find_index.ensures.usable).root;
}

pub returns-in-Ok-None-clause-yes : goal.returns-in-Ok-None-clause-yes
returns-in-Ok-None-clause-yes g c = λ t told files. absurd (false≢true t)

pub returns-in-Err-clause-fault : goal.returns-in-Err-clause-fault
returns-in-Err-clause-fault g c = λ told spelled. broken_catalog (own_catalog _ c.in-Err.fault c.in-Err.ensures.no_damage)

pub find_index-requires : goal.find_index-requires
find_index-requires g c = g.P.Ground.leads_ready _ _ c.named_at.ensures.kept.leads c.requires

pub returns-in-Ok-None-find_index-clause-area : goal.returns-in-Ok-None-find_index-clause-area
returns-in-Ok-None-find_index-clause-area g c = λ t. absurd (false≢true t)

pub returns-in-Ok-None-clause-area : goal.returns-in-Ok-None-clause-area
returns-in-Ok-None-clause-area g c = λ t. absurd (false≢true t)

pub returns-in-Err-clause-sound : goal.returns-in-Err-clause-sound
returns-in-Err-clause-sound g c = λ damage told files. c.in-Err.ensures.no_damage damage

pub returns-in-Ok-None-clause-kept : goal.returns-in-Ok-None-clause-kept
returns-in-Ok-None-clause-kept g c = c.named_at.ensures.kept

pub returns-in-Err-clause-cause : goal.returns-in-Err-clause-cause
returns-in-Err-clause-cause g c = c.in-Err.ensures.cause

pub returns-in-Ok-None-clause-lacks : goal.returns-in-Ok-None-clause-lacks
returns-in-Ok-None-clause-lacks g c = λ f told is. at_none c.in-Ok-None.field-0 _ c.in-Ok-None.field-0-is c.in-Ok-None.ensures.none told is.area is.spelled

pub returns-in-Ok-None-find_index-clause-lacks : goal.returns-in-Ok-None-find_index-clause-lacks
returns-in-Ok-None-find_index-clause-lacks g c = λ f.
    lacks_file g.P.Ground c.args.pages.now c.named_at.new.pages c.args.page c.in-Ok-Some.file_no c.named_at.ensures.kept
    (at_some c.in-Ok-Some.field-0 c.in-Ok-Some.file_no _ c.in-Ok-Some.field-0-is c.in-Ok-Some.ensures.some) c.in-Ok-None-find_index.field-0
    c.in-Ok-None-find_index.ensures.found c.in-Ok-None-find_index.field-0-is

pub returns-clause-lacks : goal.returns-clause-lacks
returns-clause-lacks g c = IfOk-weaker c.names.result _ _ (λ of lacks f.
    lacks_page g.P.Ground c.args.pages.now c.named_at.new.pages c.args.page c.in-Ok-Some.file_no c.named_at.ensures.kept
    (at_some c.in-Ok-Some.field-0 c.in-Ok-Some.file_no _ c.in-Ok-Some.field-0-is c.in-Ok-Some.ensures.some) c.in-Ok-Some-find_index.field-0
    c.in-Ok-Some-find_index.ensures.found c.find_index.new.pages c.in-Ok-Some-find_index.index c.find_index.ensures.kept
    c.in-Ok-Some-find_index.field-0-is (lacks f)) c.names.ensures.lacks
