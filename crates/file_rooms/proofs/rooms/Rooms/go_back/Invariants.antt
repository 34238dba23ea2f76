use Rattle.std.proofs.Common.{◌≡◌, []}
use Rattle.std.specs.BTreeSet.{btree_set_len}
use Rattle.file_rooms.proofs.GoingBack.{Going}
use Rattle.file_rooms.proofs.rooms.Rooms.go_back.Given as goal

abbrev pub invariant-pages : goal.invariant-pages
invariant-pages l = (l.self-inside.rooms.entries ≡ l.fn.self.rooms) × (l.self-inside.copies.entries ≡ []) × Going l.kept l.fn.self l.self-inside.roomy.keys l.self-inside.changed.keys l.is_lost

abbrev pub decreases-pages : goal.decreases-pages
decreases-pages l = btree_set_len l.self-inside.changed
