-- What the need of an append counts.
use Rattle.std.specs.Prelude.{ℕ, ◌-◌, Option, Some, None}
use Rattle.ex_base.specs.declared.geometry.Geometry.{Geometry}
use Rattle.ex_base.specs.declared.names.PageNo.{PageNo}

-- The bytes that the need of an append counts. Without a tree the old bytes are counted by the page that they fit.
abbrev pub counted : Geometry → Option PageNo → ℕ → ℕ
counted g None n = n - g.page_size
counted g (Some page) n = n
