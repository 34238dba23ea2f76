use Rattle.std.proofs.Common.{◌≡◌, drop}
use Rattle.std.specs.Prelude.{find, ◌==◌}
use Rattle.version_lists.specs.Versions.{unique_of}
use Rattle.table_lists.proofs.tree.numbered_in.Given as goal

-- what is found in the rest is found in all
abbrev pub invariant-loop-version : goal.invariant-loop-version
invariant-loop-version l = find (λ v. unique_of v == l.wanted) (drop l.version-index l.versions) ≡ find (λ v. unique_of v == l.wanted) l.versions
