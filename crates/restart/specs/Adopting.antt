-- What pages have once a record is taken over.
use Rattle.std.specs.Prelude.{ℕ, List, Option, None, ◌==◌, if◌then◌else◌}
use Rattle.std.specs.List.{list_any}
use Rattle.ex_base.specs.declared.names.PageNo.{PageNo}
use Rattle.op_log.specs.Records.{number_of}

-- A page among these has none.
abbrev pub freed_over : List PageNo → ℕ → Option (List ℕ) → Option (List ℕ)
freed_over pages page so_far = if list_any (λ freed. number_of freed == page) pages then None else so_far
