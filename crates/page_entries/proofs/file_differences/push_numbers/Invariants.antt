use Rattle.std.proofs.Common.{◌≡◌, ◌++◌, take}
use Rattle.std.specs.List.{flat_map}
use Rattle.ex_base.specs.Fields.{four_bytes}
use Rattle.page_entries.proofs.file_differences.push_numbers.Given as goal

abbrev pub invariant-loop-number : goal.invariant-loop-number
invariant-loop-number l = l.fields.items ≡ l.fn.fields.items ++ flat_map four_bytes (take l.number-index l.numbers)
