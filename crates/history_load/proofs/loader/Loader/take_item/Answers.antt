use Rattle.std.proofs.Common.{sym}
use Rattle.history_load.proofs.PiecesFed.{no_item_at_end}
use Rattle.history_load.proofs.loader.Loader.take_item.Goals as goal

pub unreachable-requires : goal.unreachable-requires
unreachable-requires g c = no_item_at_end c.args.self.now.progress.geometry c.requires.is.joined c.args.self.now.progress c.args.self.now.gathered.held c.requires.is.item (sym c.in-End.ensures)
