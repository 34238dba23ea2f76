-- The groups of a session, and what is found under their names.
use Rattle.std.proofs.Common.{◌≡◌, ◌∙◌, ℕ, ◌+◌, Bool, true, false, cond, ◌||◌, List, [], ◌∷◌, ◌++◌, length, map, Option, Some, None, is_some, refl, sym, ap, arith}
use Rattle.std.specs.Prelude.{bytes_eq, option_map, position}
use Rattle.std.specs.List.{list_any}
use Rattle.std.proofs.lemmas.List.{length-map, map-append}
use Rattle.buffer_groups.specs.Frames.{Frames}
use Rattle.buffer_groups.specs.Groups.{kind_of}
use Rattle.buffer_groups.specs.declared.policy.Policy.{Policy}
use Rattle.table_model.specs.declared.machine.GroupRow.{GroupRow}
use Rattle.table_model.specs.Machines.{main}
use Rattle.open_scans.specs.GroupRows.{AreGroupsOf, empty_group, group_index, is_row_named, kind_of_row, main_kind}
use Rattle.open_scans.proofs.Beside.{some_position}

-- ---- names

some_mapped : {A B : Type 0} (f : A → B) (o : Option A) → is_some (option_map f o) ≡ is_some o
some_mapped f None = refl
some_mapped f (Some x) = refl

-- a group has the name where it is that of `main` or of a row
pub some_group : (rows : List GroupRow) (name : List ℕ) → is_some (group_index rows name) ≡ (bytes_eq main name || list_any (is_row_named name) rows)
some_group rows name = by (bytes_eq main name)
  where
    by : (b : Bool) → is_some (cond b (Some 0) (option_map (λ (index : ℕ). index + 1) (position (is_row_named name) rows))) ≡ (b || list_any (is_row_named name) rows)
    by true = refl
    by false = some_mapped (λ (index : ℕ). index + 1) (position (is_row_named name) rows) ∙ some_position (is_row_named name) rows

-- ---- the frames

-- there are as many groups as rows, and `main`
pub groups_count : (rows : List GroupRow) (groups : List Frames) → AreGroupsOf rows groups → length groups ≡ length rows + 1
groups_count rows groups are = omega (arith, length-map groups kind_of, ap length are, length-map rows kind_of_row)

-- a group more, of a row more
pub groups_more : (rows : List GroupRow) (groups : List Frames) (row : GroupRow) (size : ℕ) → AreGroupsOf rows groups → AreGroupsOf (rows ++ row ∷ []) (groups ++ empty_group row size ∷ [])
groups_more rows groups row size are =
    map-append kind_of groups (empty_group row size ∷ []) ∙ ap (λ (kinds : List (ℕ × Policy)). kinds ++ kind_of_row row ∷ []) are
    ∙ ap (λ (kinds : List (ℕ × Policy)). main_kind ∷ kinds) (sym (map-append kind_of_row rows (row ∷ [])))
