use Rattle.std.proofs.Common.{◌≡◌, ◌++◌, take, drop}
use Rattle.table_model.specs.Tables.{file_inserted}
use Rattle.table_model.specs.declared.table.TableFile.{TableFile}
use Rattle.table_lists.proofs.files.place_of.Given as goal

-- the files so far stay before the new one
abbrev pub invariant-loop-i : goal.invariant-loop-i
invariant-loop-i l = (f : TableFile) → f.name ≡ l.name → file_inserted f l.files ≡ take l.i l.files ++ file_inserted f (drop l.i l.files)
