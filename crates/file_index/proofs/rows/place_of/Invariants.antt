use Rattle.std.proofs.Common.{◌≡◌, ◌+◌, drop, ◌≤◌, ◌<◌, ◌-◌, length}
use Rattle.std.specs.Prelude.{slice_index_or}
use Rattle.file_index.specs.declared.Entry.{Entry}
use Rattle.file_index.specs.Damage.{place_in}
use Rattle.file_index.proofs.rows.place_of.Given as goal

abbrev pub invariant-loop-at : goal.invariant-loop-at
invariant-loop-at l = record { inside : l.at < length l.entries; low : 0 < l.at → (entry : Entry) → (slice_index_or l.entries l.at entry).key ≤ l.key; so_far : place_in l.key l.entries ≡ l.at + place_in l.key (drop l.at l.entries) }

abbrev pub decreases-loop-at : goal.decreases-loop-at
decreases-loop-at l = length l.entries - l.at
