use Rattle.std.proofs.Common.{◌↔◌, drop}
use Rattle.ex_base.specs.Order.{Rising}
use Rattle.file_index.specs.Index.{Rises}
use Rattle.file_walk.specs.Walk.{page_numbers}
use Rattle.file_walk.proofs.indexes.rise.Given as goal

-- all numbers rise exactly where those that are left rise from the least that may follow
abbrev pub invariant-loop-page : goal.invariant-loop-page
invariant-loop-page l = Rising (page_numbers l.pages) ↔ Rises l.least (page_numbers (drop l.page-index l.pages))
