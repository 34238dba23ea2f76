use Rattle.std.proofs.lemmas.Result.{on_ok_weaker}
use Rattle.buffer_groups.proofs.FrameLists.{none_with_room, brought_put, not_brought_put, keeps_put}
use Rattle.buffer_groups.proofs.group.Group.put.Goals as goal

pub put_first-requires-clause-absent : goal.put_first-requires-clause-absent
put_first-requires-clause-absent c = rw c.make_room.ensures.frames (none_with_room c.args.page.0 c.args.self.now.policy c.args.self.now.cap c.args.self.now.entries c.requires.absent)

pub returns-clause-ok : goal.returns-clause-ok
returns-clause-ok c =
    on_ok_weaker c.put_first.result (λ is held told. brought_put held c.args.self.now c.make_room.new.self _ c.args.page.0 c.args.image c.put_first.result c.make_room.ensures.frames c.requires.absent is told)
    c.put_first.ensures.ok

pub returns-clause-err : goal.returns-clause-err
returns-clause-err c = not_brought_put c.args.self.now c.make_room.new.self _ c.args.page.0 c.put_first.result c.make_room.ensures.frames c.requires.absent c.put_first.ensures.err

pub returns-clause-keeps : goal.returns-clause-keeps
returns-clause-keeps c held told =
    keeps_put held c.args.self.now c.make_room.new.self _ c.args.page.0 c.args.image c.put_first.result c.make_room.ensures.frames c.put_first.ensures.ok c.put_first.ensures.err told
