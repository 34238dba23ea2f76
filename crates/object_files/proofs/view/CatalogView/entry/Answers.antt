use Rattle.std.proofs.Common.{refl, arith}
use Rattle.object_files.proofs.CatalogLaws.{inside_of, entry_given}
use Rattle.object_files.proofs.view.CatalogView.entry.Goals as goal

pub name_of-requires-clause-inside : goal.name_of-requires-clause-inside
name_of-requires-clause-inside c = let h = inside_of c.self.inside.page.now c.args.self.now c.args.index c.self.invariant c.self.view_is c.requires in omega (arith, h.room)

pub name_of-requires-clause-room : goal.name_of-requires-clause-room
name_of-requires-clause-room c = let h = inside_of c.self.inside.page.now c.args.self.now c.args.index c.self.invariant c.self.view_is c.requires in h.name

pub bounds-self-inside-at : goal.bounds-self-inside-at
bounds-self-inside-at c = let h = inside_of c.self.inside.page.now c.args.self.now c.args.index c.self.invariant c.self.view_is c.requires in omega (arith, h.room)

pub get_page-requires : goal.get_page-requires
get_page-requires c = let h = inside_of c.self.inside.page.now c.args.self.now c.args.index c.self.invariant c.self.view_is c.requires in omega (arith, h.room)

pub number_of-requires : goal.number_of-requires
number_of-requires c = let h = inside_of c.self.inside.page.now c.args.self.now c.args.index c.self.invariant c.self.view_is c.requires in h.room

pub returns : goal.returns
returns c = entry_given c.self.inside.page.now c.args.self.now c.args.index _ _ _ _ c.self.view_is c.requires c.name_of.ensures refl c.get_page.ensures c.number_of.ensures
