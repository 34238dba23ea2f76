use Rattle.std.proofs.lemmas.Result.{on_ok_weaker}
use Rattle.buffer_groups.proofs.GroupLists.{groups_keep, held_of_size, one_brought}
use Rattle.buffer_groups.proofs.groups.Groups.put.Goals as goal

pub returns-clause-ok : goal.returns-clause-ok
returns-clause-ok c =
    let gs = c.args.self.now in
    let at = c.args.index in
    let is = c.at.ensures.value in
    on_ok_weaker c.put.result (λ put held size sizes told.
    one_brought held gs at c.args.page.0 c.at.result.now c.put.new.self c.args.image is c.requires.index
    (put held (held_of_size held gs at size c.args.page.0 c.at.result.now c.args.image is c.requires.index sizes told)))
    c.put.ensures.ok

pub returns-clause-keeps : goal.returns-clause-keeps
returns-clause-keeps c held size sizes told =
    let gs = c.args.self.now in
    let at = c.args.index in
    let is = c.at.ensures.value in
    groups_keep held gs at c.at.result.now c.put.new.self is c.requires.index
    (c.put.ensures.keeps held (held_of_size held gs at size c.args.page.0 c.at.result.now c.args.image is c.requires.index sizes told))
