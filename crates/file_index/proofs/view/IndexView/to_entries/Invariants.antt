use Rattle.std.proofs.Common.{◌≡◌, take, length, vec_len, vec_capacity}
use Rattle.file_index.proofs.view.IndexView.to_entries.Given as goal

abbrev pub invariant-loop-index : goal.invariant-loop-index
invariant-loop-index l = (l.entries.items ≡ take l.index l.self.entries) × (vec_len l.entries ≡ l.index) × (vec_capacity l.entries ≡ length l.self.entries)
