use Rattle.file_walk.proofs.Rows.{adds_rooted}
use Rattle.file_walk.proofs.records.read_page.Goals as goal

pub returns-in_ok-add_records-in-Some-clause-roots : goal.returns-in_ok-add_records-in-Some-clause-roots
returns-in_ok-add_records-in-Some-clause-roots g c = λ is rooted. adds_rooted c.args.records.now.items c.add_records.new.records.items _ (c.in_ok-add_records-in-Some.ensures.good is) rooted
