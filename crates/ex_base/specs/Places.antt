-- Places of records.
use Rattle.std.specs.Prelude.{Bool, false, ◌==◌, ◌&&◌, Option, Some, None}
use Rattle.ex_base.specs.declared.names.Place.{Place}

abbrev pub same_place : Place → Place → Bool
same_place a b = (a.page.0 == b.page.0) && (a.slot == b.slot)

-- whether the place is named
abbrev pub is_place : Place → Option Place → Bool
is_place place None = false
is_place place (Some other) = same_place other place
