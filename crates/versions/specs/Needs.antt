-- The free units that an edit of a version asks for, of which it takes at most so many.
use Rattle.std.specs.Prelude.{ℕ, ◌==◌, if◌then◌else◌}
use Rattle.ex_base.specs.Needs.{growth_need, replace_need, delete_need}
use Rattle.ex_base.specs.declared.geometry.Geometry.{Geometry}
use Rattle.ex_base.specs.declared.names.Area.{Area}
use Rattle.object_records.specs.Record.{Content, Small, Large}
use Rattle.versions.specs.Versions.{Change, Inserts, Appends, Replaces, Deletes, count_of}

-- the height of its tree, 0 for a small version
abbrev pub height_in : Content → ℕ
height_in (Small bytes) = 0
height_in (Large root) = root.height

-- of an edit of a version that is large or becomes large; one of no bytes needs nothing
abbrev pub most_need : Geometry → Change → ℕ → Area → ℕ
most_need g (Inserts pos given) h area = growth_need g (count_of (Inserts pos given)) h area
most_need g (Appends given) h area = growth_need g (count_of (Appends given)) h area
most_need g (Replaces pos given) h area = replace_need g (count_of (Replaces pos given)) h area
most_need g (Deletes pos len) h area = delete_need h area

abbrev pub edit_need : Geometry → Change → Content → Area → ℕ
edit_need g change content area = if count_of change == 0 then 0 else most_need g change (height_in content) area
