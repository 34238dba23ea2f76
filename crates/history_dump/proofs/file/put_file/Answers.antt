use Rattle.std.proofs.Common.{ℕ, List, length, sym, subst, ap, ◌∙◌, arith}
use Rattle.std.proofs.lemmas.Result.{IfOk-weaker, IfErr-weaker}
use Rattle.ex_base.specs.Area.{catalog_no}
use Rattle.object_files.specs.Catalog.{CatalogOf}
use Rattle.history_items.specs.Reads.{file_front}
use Rattle.record_lists.specs.declared.Listed.{Listed}
use Rattle.history_dump.proofs.Results.{ok_any}
use Rattle.ex_base.proofs.Handed.{cause_of}
use Rattle.ex_base.proofs.Keeping.{keeps_on}
use Rattle.history_dump.proofs.file.put_file.Goals as goal

pub returns-in-Ok-clause-item : goal.returns-in-Ok-clause-item
returns-in-Ok-clause-item g c = IfOk-weaker c.put_listed.result _ _ (λ n h told plan f is.
    let kept = c.in-Ok.ensures.kept in
    let long = (c.in-Ok.ensures.listed told plan f is).1 in
    h (g.V.Ground.leads_told c.args.volume.now c.list_file.new.volume kept.leads told) is.catalog is.entry
    (subst (λ (image : ℕ → List ℕ). CatalogOf (image catalog_no) is.catalog) (sym kept.images) is.spelled) is.entry_is
    ∙ ap (λ (rs : List Listed). file_front is.entry.name (length rs)) c.deref.ensures.value ∙ ap (λ (name : List ℕ). file_front name (length c.in-Ok.listed.items)) (sym is.name) ∙ ap (file_front f.name) long)
    c.put_listed.ensures.item

pub returns-in-Ok-clause-listed : goal.returns-in-Ok-clause-listed
returns-in-Ok-clause-listed g c = ok_any c.put_listed.result _ (λ told plan f is. (c.in-Ok.ensures.listed told plan f is).0)

pub returns-in-Ok-clause-sound : goal.returns-in-Ok-clause-sound
returns-in-Ok-clause-sound g c = IfErr-weaker c.put_listed.result _ _ (λ fault h damage told plan f is.
    let kept = c.in-Ok.ensures.kept in
    let long = (c.in-Ok.ensures.listed told plan f is).1 in
    h damage (g.V.Ground.leads_told c.args.volume.now c.list_file.new.volume kept.leads told) is.catalog is.entry
    (subst (λ (image : ℕ → List ℕ). CatalogOf (image catalog_no) is.catalog) (sym kept.images) is.spelled) is.entry_is (omega (arith, long, is.few, ap length c.deref.ensures.value))) c.put_listed.ensures.sound

pub list_file-requires : goal.list_file-requires
list_file-requires g c = c.requires.ready

pub put_listed-requires-clause-ready : goal.put_listed-requires-clause-ready
put_listed-requires-clause-ready g c = g.V.Ground.leads_ready c.args.volume.now c.list_file.new.volume c.in-Ok.ensures.kept.leads c.requires.ready

pub returns-in-Ok-clause-some : goal.returns-in-Ok-clause-some
returns-in-Ok-clause-some g c = c.put_listed.ensures.some

pub returns-in-Ok-clause-inside : goal.returns-in-Ok-clause-inside
returns-in-Ok-clause-inside g c = c.put_listed.ensures.inside

pub returns-in-Ok-clause-kept : goal.returns-in-Ok-clause-kept
returns-in-Ok-clause-kept g c = keeps_on g.V.Ground c.args.volume.now c.list_file.new.volume c.put_listed.new.volume c.in-Ok.ensures.kept c.put_listed.ensures.kept

pub returns-in-Ok-clause-cause : goal.returns-in-Ok-clause-cause
returns-in-Ok-clause-cause g c = cause_of g.V.Ground c.args.volume.now c.list_file.new.volume c.in-Ok.ensures.kept.leads c.put_listed.new.volume c.put_listed.result c.put_listed.ensures.cause

pub returns-in-Err-clause-item : goal.returns-in-Err-clause-item
returns-in-Err-clause-item g c = tt

pub returns-in-Err-clause-listed : goal.returns-in-Err-clause-listed
returns-in-Err-clause-listed g c = tt

pub returns-in-Err-clause-some : goal.returns-in-Err-clause-some
returns-in-Err-clause-some g c = tt

pub returns-in-Err-clause-inside : goal.returns-in-Err-clause-inside
returns-in-Err-clause-inside g c = tt

pub returns-in-Err-clause-sound : goal.returns-in-Err-clause-sound
returns-in-Err-clause-sound g c = c.in-Err.ensures.sound

pub returns-in-Err-clause-kept : goal.returns-in-Err-clause-kept
returns-in-Err-clause-kept g c = c.in-Err.ensures.kept

pub returns-in-Err-clause-cause : goal.returns-in-Err-clause-cause
returns-in-Err-clause-cause g c = c.in-Err.ensures.cause
