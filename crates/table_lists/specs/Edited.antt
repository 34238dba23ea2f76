-- What an edit makes of a version's bytes.
use Rattle.std.specs.Prelude.{List, ℕ}
use Rattle.ex_base.specs.Edits.{inserted, deleted, replaced, appended}
use Rattle.table_lists.specs.declared.edit.Edit.{Edit}
use Rattle.table_lists.specs.declared.edit.Edit.TheVariants.{Insert, Append, Replace, Delete}

abbrev pub edit_of : Edit → List ℕ → List ℕ
edit_of (Insert pos more) bytes = inserted bytes pos more.now
edit_of (Append more) bytes = appended bytes more.now
edit_of (Replace pos more) bytes = replaced bytes pos more.now
edit_of (Delete pos len) bytes = deleted bytes pos len
