use Rattle.ex_base.proofs.Handed.{cause_of}
use Rattle.ex_base.proofs.Options.{some_apart}
use Rattle.file_bodies.proofs.OwnFaults.{own_file}
use Rattle.std.proofs.Common.{List, None, subst, sym, ℕ, ◌∙◌, ◌≡◌}
use Rattle.ex_base.proofs.Results.{if_err_handed, on_ok_from}
use Rattle.ex_base.specs.Area.{catalog_no}
use Rattle.std.proofs.lemmas.Result.{IfErr-weaker, on_ok_weaker}
use Rattle.object_files.specs.Edits.{IsCatalogPage, entries_on}
use Rattle.file_bodies.proofs.Moving.{kept_put}
use Rattle.file_bodies.proofs.Blame.{blames_lists}
use Rattle.file_bodies.specs.Files.{index_in}
use Rattle.file_bodies.proofs.LaterSizes.{size_after}
use Rattle.file_bodies.proofs.Entries.{put_sets}
use Rattle.file_bodies.proofs.TouchedPages.{most_since}
use Rattle.file_bodies.proofs.PageNumbers.{catalog_lies, root_field, root_some}
use Rattle.file_bodies.proofs.catalog.write_index.Goals as goal

pub returns-then-not-has_file-clause-cause : goal.returns-then-not-has_file-clause-cause
returns-then-not-has_file-clause-cause g c = c.no_catalog.ensures.cause _ _

pub returns-clause-sets : goal.returns-clause-sets
returns-clause-sets g c = on_ok_weaker c.put.result (λ put told.
    let kept = c.get.follows.holds-at-none.0 in
    put_sets g.P.Ground c.args.pages.now c.put.new.self c.args.index.now c.copy_from_slice.new.self c.set_index.new.image
    (kept_put g.P.Ground c.args.pages.now c.get.follows.lender-at-none c.put.new.self catalog_no c.set_index.new.image kept put)
    (g.P.Ground.leads_trans _ _ _ kept.leads c.put.ensures.leads) told
    (c.copy_from_slice.ensures.after ∙ c.in_ok-get.ensures.bytes told) c.set_index.ensures) c.put.ensures.put

pub put-requires-clause-len : goal.put-requires-clause-len
put-requires-clause-len g c =
    size_after g.P.Ground _ _ c.get.follows.holds-at-none.0.leads _ (c.set_index.auto.image ∙ c.copy_from_slice.ensures.len ∙ c.requires.buffer)

pub returns-clause-sound : goal.returns-clause-sound
returns-clause-sound g c = IfErr-weaker c.put.result _ _ (λ fault never damage told placed whole was at. never damage) c.put.ensures.no_damage

pub returns-in_err-get-clause-sound : goal.returns-in_err-get-clause-sound
returns-in_err-get-clause-sound g c =
    if_err_handed c.from_residual.result _ c.in_err-get.field-0.0 c.from_residual.ensures.1
    (λ damage told placed whole was at. c.in_err-get.ensures.no_damage damage)

pub returns-clause-leads : goal.returns-clause-leads
returns-clause-leads g c = g.P.Ground.leads_trans _ _ _ c.get.follows.holds-at-none.0.leads c.put.ensures.leads

pub returns-clause-cause : goal.returns-clause-cause
returns-clause-cause g c = cause_of g.P.Ground _ _ c.get.follows.holds-at-none.0.leads c.put.new.self c.put.result c.put.ensures.cause

pub set_index-requires-clause-page : goal.set_index-requires-clause-page
set_index-requires-clause-page g c = c.has_file.ensures.whole c.if-not-has_file.false

pub set_index-requires-clause-file : goal.set_index-requires-clause-file
set_index-requires-clause-file g c = c.has_file.ensures.file c.if-not-has_file.false

pub set_index-requires-clause-level : goal.set_index-requires-clause-level
set_index-requires-clause-level g c = c.requires.usable.level

pub put-requires-clause-ready : goal.put-requires-clause-ready
put-requires-clause-ready g c = g.P.Ground.leads_ready _ _ c.get.follows.holds-at-none.0.leads c.requires.ready

pub returns-clause-held : goal.returns-clause-held
returns-clause-held g c = on_ok_weaker c.put.result (λ put.
    let on = kept_put g.P.Ground c.args.pages.now c.get.follows.lender-at-none c.put.new.self catalog_no c.set_index.new.image c.get.follows.holds-at-none.0
    put in
    (on.used, on.held)) c.put.ensures.put

pub returns-clause-free : goal.returns-clause-free
returns-clause-free g c =
    on_ok_weaker c.put.result
    (λ put. (kept_put g.P.Ground c.args.pages.now c.get.follows.lender-at-none c.put.new.self catalog_no c.set_index.new.image c.get.follows.holds-at-none.0
    put).free) c.put.ensures.put

pub returns-clause-touches : goal.returns-clause-touches
returns-clause-touches g c = on_ok_from c.put.result _ (λ x is. most_since _ _ _ _ c.put.ensures.touched c.get.follows.holds-at-none.0.touched)

pub returns-clause-fault : goal.returns-clause-fault
returns-clause-fault g c = IfErr-weaker c.put.result _ _ (λ fault never told. own_file _ _ fault never) c.put.ensures.no_damage

pub returns-then-not-has_file-clause-fault : goal.returns-then-not-has_file-clause-fault
returns-then-not-has_file-clause-fault g c = λ told.
    let read = c.copy_from_slice.ensures.after ∙ c.in_ok-get.ensures.bytes told in
    blames_lists (g.P.Ground.image c.args.pages.now catalog_no) c.args.index.now.file_no c.no_catalog.result (λ whole.
    subst (λ (t : List ℕ). index_in c.args.index.now.file_no (entries_on t) ≡ None) read
    (c.has_file.ensures.none c.if-not-has_file.true (subst IsCatalogPage (sym read) whole))) c.no_catalog.ensures.is

pub returns-then-not-has_file-clause-sound : goal.returns-then-not-has_file-clause-sound
returns-then-not-has_file-clause-sound g c = λ damage told placed whole was at.
    let read = c.copy_from_slice.ensures.after ∙ c.in_ok-get.ensures.bytes told in
    let none = subst (λ (t : List ℕ). index_in c.args.index.now.file_no (entries_on t) ≡ None) read
    (c.has_file.ensures.none c.if-not-has_file.true (subst IsCatalogPage (sym read) whole)) in
    some_apart was (sym at ∙ none)

pub copy_from_slice-requires : goal.copy_from_slice-requires
copy_from_slice-requires g c = c.requires.buffer ∙ sym c.in_ok-get.ensures.len

pub returns-then-not-has_file-clause-leads : goal.returns-then-not-has_file-clause-leads
returns-then-not-has_file-clause-leads g c = c.get.follows.holds-at-none.0.leads

pub set_index-requires-clause-root : goal.set_index-requires-clause-root
set_index-requires-clause-root g c = root_field (g.P.Ground.geometry c.args.pages.now) c.args.index.now.root c.requires.placed

pub set_index-requires-clause-rooted : goal.set_index-requires-clause-rooted
set_index-requires-clause-rooted g c = root_some c.args.index.now.level c.args.index.now.root c.requires.usable.root

pub put-requires-clause-page : goal.put-requires-clause-page
put-requires-clause-page g c = catalog_lies (g.P.Ground.geometry c.get.follows.lender-at-none)
