use Rattle.std.proofs.Common.{◌<◌, length, subst, sym}
use Rattle.table_model.specs.Machines.{groups_most}
use Rattle.session_core.specs.Sessions.{SessionState}
use Rattle.session_core.specs.contracts.session.Session as session
use Rattle.session_core.proofs.HeldRows.{grouped_or, room_more}
use Rattle.session_core.proofs.session.Session.add_group.Goals as goal

pub invariant_of-self : goal.invariant_of-self
invariant_of-self c =
    let few = subst (λ (s : SessionState). length s.group_rows < groups_most) (sym c.self.view_is) c.requires.few in
    grouped_or (session.the_view c.self.inside) _ c.add_group.new.rows c.add_group.new.groups c.add_group.result few c.self.invariant c.add_group.ensures.rows_ok c.add_group.ensures.groups_ok c.add_group.ensures.rows_err c.add_group.ensures.groups_err

pub add_group-requires-clause-room : goal.add_group-requires-clause-room
add_group-requires-clause-room c = room_more (session.the_view c.self.inside) c.args.self.now c.self.view_is c.self.invariant c.requires.few
