use Rattle.std.proofs.Common.{◌≡◌, ◌+◌, ◌/◌, ℕ, List, map, ap, ◌∙◌}
use Rattle.ex_base.specs.declared.geometry.Geometry.{Geometry}
use Rattle.file_bodies.specs.Bodies.{bodies_of}
use Rattle.version_lists.specs.Sorted.{in_order}
use Rattle.volume_model.specs.Volume.{unique_of}
use Rattle.history_model.specs.FilePages.{pages_filled}
use Rattle.history_plans.specs.Files.{pages_stored, roots_listed, roots_stored, size_stored}
use Rattle.history_plans.specs.Plans.{len_listed}
use Rattle.history_plans.proofs.Listing.{all_readable, lens_of_records, listed_stored, numbers_differ, order_listed, roots_of_records}
use Rattle.history_plans.proofs.Roots.{file_left, trees_listed}
use Rattle.history_plans.proofs.Walking.{shows_on}
use Rattle.ex_base.proofs.Handed.{cause_after}
use Rattle.ex_base.proofs.Keeping.{keeps_on}
use Rattle.history_plans.proofs.files.plan_file.Goals as goal

pub returns-in-Err-clause-sound : goal.returns-in-Err-clause-sound
returns-in-Err-clause-sound g c = λ damage told units shows file has trees.
    c.in-Err.ensures.sound damage told has.index has.whole has.is (all_readable (bodies_of (g.V.Ground.image c.args.volume.now) has.index) file.stored has.records)

pub returns-in-Ok-walk_records-clause-walked : goal.returns-in-Ok-walk_records-clause-walked
returns-in-Ok-walk_records-clause-walked g c = λ told units shows closed file has named.
    let rows = bodies_of (g.V.Ground.image c.args.volume.now) has.index in
    let items : c.in-Ok.records.items ≡ map listed_stored (in_order unique_of file.stored) =
    c.in-Ok.ensures.in_order told has.index has.whole has.is (numbers_differ rows file.stored has.records has.differ) ∙ order_listed rows file.stored has.records in
    let same : roots_listed c.deref.result.now ≡ roots_stored file = ap roots_listed (c.deref.ensures.value ∙ items) ∙ roots_of_records (in_order unique_of file.stored) in
    file_left g.V.Ground c.args.volume.now c.records_in_order.new.volume units c.deref.result.now file c.args.pieces.now c.walk_records.new.pieces c.in-Ok.ensures.kept same told shows closed named
    (λ told2 us shows2 closed2 named2. c.in-Ok-walk_records.ensures.walked told2 us shows2 closed2 named2)

pub returns-in-Ok-walk_records-clause-pages : goal.returns-in-Ok-walk_records-clause-pages
returns-in-Ok-walk_records-clause-pages g c = λ told file has.
    let rows = bodies_of (g.V.Ground.image c.args.volume.now) has.index in
    let items : c.in-Ok.records.items ≡ map listed_stored (in_order unique_of file.stored) =
    c.in-Ok.ensures.in_order told has.index has.whole has.is (numbers_differ rows file.stored has.records has.differ) ∙ order_listed rows file.stored has.records in
    let lens : map len_listed c.deref-in-Ok-walk_records.result.now ≡ map size_stored (in_order unique_of file.stored) =
    ap (map len_listed) (c.deref-in-Ok-walk_records.ensures.value ∙ items) ∙ lens_of_records (in_order unique_of file.stored) in
    c.pages_for.ensures
    ∙ ap (λ (ns : List ℕ). pages_filled c.geometry-page_size.result.page_size 0 ns + pages_filled c.geometry-page_size.result.page_size 0 ns / 16 + 4) lens
    ∙ ap (λ (x : Geometry). pages_stored x.page_size file) c.geometry-page_size.ensures

pub returns-clause-sound : goal.returns-clause-sound
returns-clause-sound g c = λ damage told units shows file has trees.
    let b = g.V.Ground in
    let k = c.in-Ok.ensures.kept in
    let rows = bodies_of (b.image c.args.volume.now) has.index in
    let items : c.in-Ok.records.items ≡ map listed_stored (in_order unique_of file.stored) =
    c.in-Ok.ensures.in_order told has.index has.whole has.is (numbers_differ rows file.stored has.records has.differ) ∙ order_listed rows file.stored has.records in
    let same : roots_listed c.deref.result.now ≡ roots_stored file = ap roots_listed (c.deref.ensures.value ∙ items) ∙ roots_of_records (in_order unique_of file.stored) in
    c.in-Err-walk_records.ensures.sound damage (b.leads_told c.args.volume.now c.records_in_order.new.volume k.leads told) units (shows_on b units c.args.volume.now c.records_in_order.new.volume k shows)
    (trees_listed b c.args.volume.now c.records_in_order.new.volume units c.deref.result.now file k same trees)

pub records_in_order-requires : goal.records_in_order-requires
records_in_order-requires g c = c.requires

pub walk_records-requires : goal.walk_records-requires
walk_records-requires g c = g.V.Ground.leads_ready c.args.volume.now c.records_in_order.new.volume c.in-Ok.ensures.kept.leads c.requires

pub returns-in-Err-clause-walked : goal.returns-in-Err-clause-walked
returns-in-Err-clause-walked g c = tt

pub returns-in-Err-clause-pages : goal.returns-in-Err-clause-pages
returns-in-Err-clause-pages g c = tt

pub returns-in-Err-clause-kept : goal.returns-in-Err-clause-kept
returns-in-Err-clause-kept g c = c.in-Err.ensures.kept

pub returns-in-Err-clause-cause : goal.returns-in-Err-clause-cause
returns-in-Err-clause-cause g c = c.in-Err.ensures.cause

pub returns-in-Ok-walk_records-clause-sound : goal.returns-in-Ok-walk_records-clause-sound
returns-in-Ok-walk_records-clause-sound g c = tt

pub returns-in-Ok-walk_records-clause-kept : goal.returns-in-Ok-walk_records-clause-kept
returns-in-Ok-walk_records-clause-kept g c = keeps_on g.V.Ground c.args.volume.now c.records_in_order.new.volume c.walk_records.new.volume c.in-Ok.ensures.kept c.in-Ok-walk_records.ensures.kept

pub returns-in-Ok-walk_records-clause-cause : goal.returns-in-Ok-walk_records-clause-cause
returns-in-Ok-walk_records-clause-cause g c = tt

pub returns-clause-walked : goal.returns-clause-walked
returns-clause-walked g c = tt

pub returns-clause-pages : goal.returns-clause-pages
returns-clause-pages g c = tt

pub returns-clause-kept : goal.returns-clause-kept
returns-clause-kept g c = keeps_on g.V.Ground c.args.volume.now c.records_in_order.new.volume c.walk_records.new.volume c.in-Ok.ensures.kept c.in-Err-walk_records.ensures.kept

pub returns-clause-cause : goal.returns-clause-cause
returns-clause-cause g c = cause_after g.V.Ground c.args.volume.now c.records_in_order.new.volume c.in-Ok.ensures.kept.leads c.walk_records.new.volume c.in-Err-walk_records.fault c.in-Err-walk_records.ensures.cause
