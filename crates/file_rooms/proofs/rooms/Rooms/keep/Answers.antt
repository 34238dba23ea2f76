use Rattle.file_rooms.proofs.Kept.{kept_all}
use Rattle.file_rooms.proofs.rooms.Rooms.keep.Goals as goal

pub returns : goal.returns
returns c = kept_all c.args.self.now c.pass.new.self c.raise.new.self c.args.asked.now c.args.page.0 c.args.grew c.place_behind.result.0 c.place_behind.ensures c.pass.ensures.roomy c.pass.ensures.others c.raise.ensures.rooms c.raise.ensures.others
