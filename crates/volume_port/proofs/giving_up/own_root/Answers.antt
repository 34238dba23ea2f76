use Rattle.tree_store.proofs.Counting.{one_more_counted}
use Rattle.volume_port.proofs.Owning.{one_counted}
use Rattle.volume_port.proofs.giving_up.own_root.Goals as goal

pub returns-then-names_unit-clause-counts : goal.returns-then-names_unit-clause-counts
returns-then-names_unit-clause-counts c =
    let added = c.add_ref.ensures in
    one_counted c.args.root.now c.in-Some.page c.args.units.now c.add_ref.new.self c.in-Some.is added.geometry added.used added.refs

pub returns-then-names_unit-clause-counted : goal.returns-then-names_unit-clause-counted
returns-then-names_unit-clause-counted c = λ g counted.
    let added = c.add_ref.ensures in
    one_more_counted g c.args.units.now c.add_ref.new.self c.in-Some.page.0 added.geometry added.used added.refs counted
