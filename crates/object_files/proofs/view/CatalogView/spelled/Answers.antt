use Rattle.std.proofs.Common.{arith}
use Rattle.object_files.proofs.CatalogLaws.{count_given, inside_of, spelled_given}
use Rattle.object_files.proofs.view.CatalogView.spelled.Goals as goal

pub spelled_at-requires-clause-room : goal.spelled_at-requires-clause-room
spelled_at-requires-clause-room c = (inside_of c.self.inside.page.now c.args.self.now c.args.index c.self.invariant c.self.view_is c.requires).room

pub spelled_at-requires-clause-entry : goal.spelled_at-requires-clause-entry
spelled_at-requires-clause-entry c = c.self.invariant.entries c.args.index (omega (arith, count_given c.self.inside.page.now c.args.self.now c.self.view_is))

pub returns : goal.returns
returns c = spelled_given c.self.inside.page.now c.args.self.now c.args.index _ c.self.view_is c.requires c.spelled_at.ensures
