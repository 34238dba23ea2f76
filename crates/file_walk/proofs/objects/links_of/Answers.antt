use Rattle.std.proofs.Common.{List, ◌++◌, ap, sym}
use Rattle.std.proofs.lemmas.List.{drop_more}
use Rattle.record_links.specs.declared.Linked.{Linked}
use Rattle.file_walk.specs.Objects.{linked_in, links_of}
use Rattle.file_walk.proofs.Lists.{collect_step, collect_end}
use Rattle.file_walk.proofs.objects.links_of.Goals as goal

pub loop-standing-init : goal.loop-standing-init
loop-standing-init c = ap (λ (t : List Linked). t ++ links_of c.args.records.now) (sym c.in_ok-links.ensures.items)

pub loop-standing-preserved : goal.loop-standing-preserved
loop-standing-preserved c =
    collect_step linked_in (links_of c.args.records.now) c.loop-standing.links.items c.push.new.self.items c.args.records.now c.loop-standing.standing-index _
    (drop_more c.args.records.now c.loop-standing.standing-index _ c.loop-standing-test.true) c.loop-standing.invariant c.in_ok-push.ensures.items

pub returns : goal.returns
returns c = collect_end linked_in (links_of c.args.records.now) c.loop-standing.links.items c.args.records.now c.loop-standing.standing-index c.loop-standing-test.false c.loop-standing.invariant
