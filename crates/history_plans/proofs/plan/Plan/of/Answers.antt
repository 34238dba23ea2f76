use Rattle.std.proofs.Common.{◌≡◌, List, ℕ, subst, sym, ◌∙◌}
use Rattle.std.specs.List.{AllZip, flat_map}
use Rattle.std.proofs.lemmas.Result.{IfErr-weaker, IfOk-weaker}
use Rattle.ex_base.specs.declared.geometry.Geometry.{Geometry}
use Rattle.volume_edits.specs.Ported.{units_in}
use Rattle.history_plans.specs.Files.{HasStored, roots_stored}
use Rattle.history_plans.specs.Pieces.{IsClosed, LeavesRoots, PlannedPieces}
use Rattle.history_plans.specs.Plans.{PlansOf}
use Rattle.history_plans.proofs.Shown.{closed_mid, files_fit, files_mid, fit_mid, leaves_fit, left_back, named_mid, nodes_fit, pages_back, planned, shows_mid, trees_mid, catalog_is}
use Rattle.ex_base.proofs.Handed.{cause_after}
use Rattle.ex_base.proofs.Keeping.{keeps_on}
use Rattle.history_plans.proofs.plan.Plan.of.Goals as goal

pub returns-in-Err-plan_files-clause-sound : goal.returns-in-Err-plan_files-clause-sound
returns-in-Err-plan_files-clause-sound g c = λ damage told records v vol.
    let b = g.V.Ground in
    let old = c.args.volume.now in
    let mid = c.read_contents.new.volume in
    let k = c.in-Ok.ensures.kept in
    let have = subst (λ (ns : List ℕ). AllZip (HasStored b mid) ns v.files) (sym c.deref.ensures.value) (files_mid b old records v vol mid k c.in-Ok.contents (c.in-Ok.ensures.found told)) in
    c.in-Err-plan_files.ensures.sound damage (b.leads_told old mid k.leads told) (units_in b old) (shows_mid b old records v vol mid k) v.files have (trees_mid b old records v vol mid k) (fit_mid b old records v vol mid k)

pub returns-clause-plans : goal.returns-clause-plans
returns-clause-plans g c = IfOk-weaker c.make.result _ _ (λ plan of told records v vol.
    let b = g.V.Ground in
    let old = c.args.volume.now in
    let mid = c.read_contents.new.volume in
    let k = c.in-Ok.ensures.kept in
    let k2 = c.in-Ok-plan_files.ensures.kept in
    let told_mid = b.leads_told old mid k.leads told in
    let have = subst (λ (ns : List ℕ). AllZip (HasStored b mid) ns v.files) (sym c.deref.ensures.value) (files_mid b old records v vol mid k c.in-Ok.contents (c.in-Ok.ensures.found told)) in
    let left = left_back b old records v vol mid k c.plan_files.new.pieces
    (subst (λ (first : PlannedPieces). LeavesRoots (b.geometry mid) (units_in b old) (flat_map roots_stored v.files) first c.plan_files.new.pieces) c.new-pieces.ensures
    (c.in-Ok-plan_files.ensures.walked told_mid (units_in b old) (shows_mid b old records v vol mid k)
    (subst (λ (first : PlannedPieces). IsClosed (b.geometry mid) (units_in b old) first) (sym c.new-pieces.ensures) (closed_mid b old records v vol mid k)) v.files have (named_mid b old records v vol mid k))) in
    let pages = pages_back b old records v vol mid k c.in-Ok-plan_files.pages (c.in-Ok-plan_files.ensures.pages told_mid v.files have) in
    let geo : c.geometry.result ≡ b.geometry old = c.geometry.ensures ∙ b.leads_geometry mid c.plan_files.new.volume k2.leads ∙ b.leads_geometry old mid k.leads in
    planned b old records v vol c.requires told c.plan_files.new.pieces left c.in-Ok.contents c.in-Ok-plan_files.pages _ (c.in-Ok.ensures.found told) pages
    (subst (λ (x : Geometry). PlansOf x c.in-Ok.contents c.in-Ok-plan_files.pages c.plan_files.new.pieces plan) geo of)) c.make.ensures.made

pub returns-clause-sound : goal.returns-clause-sound
returns-clause-sound g c = IfErr-weaker c.make.result _ _ (λ fault never damage told records v vol.
    let b = g.V.Ground in
    let old = c.args.volume.now in
    let mid = c.read_contents.new.volume in
    let k = c.in-Ok.ensures.kept in
    let told_mid = b.leads_told old mid k.leads told in
    let have = subst (λ (ns : List ℕ). AllZip (HasStored b mid) ns v.files) (sym c.deref.ensures.value) (files_mid b old records v vol mid k c.in-Ok.contents (c.in-Ok.ensures.found told)) in
    let left = left_back b old records v vol mid k c.plan_files.new.pieces
    (subst (λ (first : PlannedPieces). LeavesRoots (b.geometry mid) (units_in b old) (flat_map roots_stored v.files) first c.plan_files.new.pieces) c.new-pieces.ensures
    (c.in-Ok-plan_files.ensures.walked told_mid (units_in b old) (shows_mid b old records v vol mid k)
    (subst (λ (first : PlannedPieces). IsClosed (b.geometry mid) (units_in b old) first) (sym c.new-pieces.ensures) (closed_mid b old records v vol mid k)) v.files have (named_mid b old records v vol mid k))) in
    never (files_fit b old records v vol c.in-Ok.contents (c.in-Ok.ensures.found told)) (leaves_fit b old records v vol c.requires told c.plan_files.new.pieces left) (nodes_fit b old records v vol c.requires told c.plan_files.new.pieces left)) c.make.ensures.sound

pub returns-clause-cause : goal.returns-clause-cause
returns-clause-cause g c = c.make.ensures.cause _ _

pub read_contents-requires : goal.read_contents-requires
read_contents-requires g c = c.requires

pub plan_files-requires : goal.plan_files-requires
plan_files-requires g c = g.V.Ground.leads_ready c.args.volume.now c.read_contents.new.volume c.in-Ok.ensures.kept.leads c.requires

pub returns-in-Err-clause-plans : goal.returns-in-Err-clause-plans
returns-in-Err-clause-plans g c = tt

pub returns-in-Err-clause-kept : goal.returns-in-Err-clause-kept
returns-in-Err-clause-kept g c = c.in-Err.ensures.kept

pub returns-in-Err-clause-cause : goal.returns-in-Err-clause-cause
returns-in-Err-clause-cause g c = c.in-Err.ensures.cause

pub returns-in-Err-plan_files-clause-plans : goal.returns-in-Err-plan_files-clause-plans
returns-in-Err-plan_files-clause-plans g c = tt

pub returns-in-Err-plan_files-clause-kept : goal.returns-in-Err-plan_files-clause-kept
returns-in-Err-plan_files-clause-kept g c = keeps_on g.V.Ground c.args.volume.now c.read_contents.new.volume c.plan_files.new.volume c.in-Ok.ensures.kept c.in-Err-plan_files.ensures.kept

pub returns-in-Err-plan_files-clause-cause : goal.returns-in-Err-plan_files-clause-cause
returns-in-Err-plan_files-clause-cause g c = cause_after g.V.Ground c.args.volume.now c.read_contents.new.volume c.in-Ok.ensures.kept.leads c.plan_files.new.volume c.in-Err-plan_files.fault c.in-Err-plan_files.ensures.cause

pub returns-clause-kept : goal.returns-clause-kept
returns-clause-kept g c = keeps_on g.V.Ground c.args.volume.now c.read_contents.new.volume c.plan_files.new.volume c.in-Ok.ensures.kept c.in-Ok-plan_files.ensures.kept

pub geometry-requires : goal.geometry-requires
geometry-requires g c = record { ready = g.V.Ground.leads_ready c.args.volume.now c.plan_files.new.volume (g.V.Ground.leads_trans c.args.volume.now c.read_contents.new.volume c.plan_files.new.volume c.in-Ok.ensures.kept.leads c.in-Ok-plan_files.ensures.kept.leads) c.requires }

pub returns-in-Err-clause-sound : goal.returns-in-Err-clause-sound
returns-in-Err-clause-sound g c = λ damage told records v vol. c.in-Err.ensures.sound damage told v.catalog (catalog_is g.V.Ground c.args.volume.now records v vol)
