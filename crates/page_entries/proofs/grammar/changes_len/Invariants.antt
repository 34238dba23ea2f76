use Rattle.std.proofs.Common.{◌≡◌, ◌↔◌, ◌-◌, ◌≤◌, length}
use Rattle.ex_base.specs.Fields.{number_at}
use Rattle.page_entries.specs.Fronts.{ChangesAt, changes_end}
use Rattle.page_entries.proofs.grammar.changes_len.Given as goal

-- the changes that are left stand where all do, and end there
abbrev pub invariant-loop-i : goal.invariant-loop-i
invariant-loop-i l = record {
  here : ChangesAt l.bytes 0 (number_at 2 l.bytes 4) 6 ↔ ChangesAt l.bytes l.least (number_at 2 l.bytes 4 - l.i) l.at;
  ends : changes_end l.bytes (number_at 2 l.bytes 4) 6 ≡ changes_end l.bytes (number_at 2 l.bytes 4 - l.i) l.at;
  inside : l.at ≤ length l.bytes;
}
