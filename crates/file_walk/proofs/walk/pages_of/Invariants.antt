use Rattle.std.proofs.Common.{◌≡◌, ◌++◌, drop}
use Rattle.std.specs.List.{flat_map}
use Rattle.file_walk.specs.Indexes.{walked_pages}
use Rattle.file_walk.specs.Walk.{page_numbers}
use Rattle.file_walk.proofs.walk.pages_of.Given as goal

abbrev pub invariant-loop-file : goal.invariant-loop-file
invariant-loop-file l = flat_map walked_pages l.files ≡ page_numbers l.pages.items ++ flat_map walked_pages (drop l.file-index l.files)
