use Rattle.object_records.proofs.RecordLaws.{record_read}
use Rattle.object_records.proofs.record_of_a_body.Goals as goal

pub returns : goal.returns
returns c = record_read
