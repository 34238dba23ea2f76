-- What holds of these counts.
use Rattle.std.specs.Prelude.{◌≡◌, ◌↔◌, ℕ, List, length, map, replicate}
use Rattle.std.specs.List.{AllByRecursion}
use Rattle.ex_base.specs.declared.geometry.Geometry.{Geometry}
use Rattle.ex_base.specs.Sizes.{leaf_bytes}
use Rattle.history_model.specs.Dumps.{AreAsNamed, namings}
use Rattle.history_model.specs.FilePages.{pages_needed}
use Rattle.history_model.specs.History.{History}
use Rattle.history_model.specs.Items.{IsLeafItem}
use Rattle.history_counts.specs.Lengths.{raised_by}
use Rattle.history_counts.specs.Pages.{needs_with_files, no_needs, pages_by}

abbrev pub leaf_length : List ℕ → ℕ
leaf_length leaf = length leaf

-- The lengths of leaves are their longest namings, as these are noted, exactly where each leaf is as long as its longest naming.
abbrev pub LengthsAreNamed : Type 0
LengthsAreNamed = (g : Geometry) (h : History) → AllByRecursion (IsLeafItem g) h.leaves
    → (map leaf_length h.leaves ≡ raised_by (leaf_bytes g) (replicate (length h.leaves) 0) (namings h)) ↔ AreAsNamed h 1 h.leaves

-- What is counted file by file and record by record is what a history needs.
abbrev pub PagesAreCounted : Type 0
PagesAreCounted = (page_size : ℕ) (h : History) → pages_by (needs_with_files page_size no_needs h.files) ≡ pages_needed page_size h
