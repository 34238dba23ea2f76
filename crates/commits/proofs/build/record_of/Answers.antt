use Rattle.std.proofs.lemmas.Result.{IfOk-weaker}
use Rattle.meta_pages.specs.Overlays.{committed_image}
use Rattle.op_log.specs.Records.{IsLogRecord}
use Rattle.commits.proofs.WorkingRows.{is_record}
use Rattle.commits.proofs.build.record_of.Goals as goal

pub returns-clause-valid : goal.returns-clause-valid
returns-clause-valid c =
    let o = c.args.meta.now in
    let valid = is_record o (committed_image o) c.args.txn c.args.notes.now c.in_ok-pages.pages c.entries_of.ensures.rows c.in_ok-pages.ensures.rule c.ranges.txn.fits c.requires.few_notes c.requires.notes c.requires.few_pages c.requires.catalog in
    IfOk-weaker c.record_with.result _ (IsLogRecord o.geometry) valid c.record_with.ensures.value
