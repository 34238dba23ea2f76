use Rattle.std.proofs.Common.{◌<◌, None}
use Rattle.std.proofs.lemmas.Result.{IfOk-weaker}
use Rattle.ex_base.specs.Area.{log_size}
use Rattle.op_log.specs.Records.{IsLogRecord, record_len}
use Rattle.commits.proofs.RoomInLog.{record_room}
use Rattle.commits.proofs.WorkingRows.{is_of, is_record}
use Rattle.commits.proofs.build.record_of_images.Goals as goal

pub returns-clause-valid : goal.returns-clause-valid
returns-clause-valid c =
    let o = c.args.meta.now in
    let valid = is_record o (λ page. None) c.args.txn c.args.notes.now c.in_ok-pages.pages c.record_with.ensures.rows c.in_ok-pages.ensures c.ranges.txn.fits c.requires.few_notes c.requires.notes c.requires.few_pages c.requires.catalog in
    IfOk-weaker c.record_with.result _ (IsLogRecord o.geometry) valid c.record_with.ensures.value

pub returns-clause-room : goal.returns-clause-room
returns-clause-room c =
    let o = c.args.meta.now in
    let valid = is_record o (λ page. None) c.args.txn c.args.notes.now c.in_ok-pages.pages c.record_with.ensures.rows c.in_ok-pages.ensures c.ranges.txn.fits c.requires.few_notes c.requires.notes c.requires.few_pages c.requires.catalog in
    IfOk-weaker c.record_with.result _ (λ r. record_len r < log_size o.geometry)
    (λ r is. record_room o (λ page. None) c.args.txn c.args.notes.now r c.record_with.ensures.rows (is_of (λ page. None) c.args.txn c.args.notes.now o.working c.in_ok-pages.pages r c.in_ok-pages.ensures is) (valid r is)) c.record_with.ensures.value
