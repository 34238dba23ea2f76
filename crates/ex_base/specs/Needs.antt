-- The units that an edit of a tree may take at most, by area.
use Rattle.std.specs.Prelude.{ℕ, ◌+◌, ◌-◌, ◌*◌, ◌/◌}
use Rattle.ex_base.specs.Sizes.{leaf_bytes}
use Rattle.ex_base.specs.declared.geometry.Geometry.{Geometry}
use Rattle.ex_base.specs.declared.names.Area.{Area}
use Rattle.ex_base.specs.declared.names.Area.TheVariants.{Page, Segment}

-- of an insert or append of n bytes into a tree of height h: the leaves, and the nodes over them
abbrev pub growth_leaves : Geometry → ℕ → ℕ
growth_leaves g n = n / leaf_bytes g + 5

abbrev pub growth_need : Geometry → ℕ → ℕ → Area → ℕ
growth_need g n h Segment = growth_leaves g n
growth_need g n h Page = growth_leaves g n / g.fan + 4 * (h + 3)

-- of a replace of n bytes
abbrev pub replaced_leaves : Geometry → ℕ → ℕ
replaced_leaves g n = 2 * n / leaf_bytes g + 3

abbrev pub replace_need : Geometry → ℕ → ℕ → Area → ℕ
replace_need g n h Segment = replaced_leaves g n
replace_need g n h Page = replaced_leaves g n / (g.fan - 1) + 4 * (h + 1)

-- of a delete
abbrev pub delete_need : ℕ → Area → ℕ
delete_need h Segment = 4
delete_need h Page = 8 * (h + 2)
