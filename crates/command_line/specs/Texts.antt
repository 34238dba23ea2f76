-- What the program says on the standard error.
use Rattle.std.specs.Prelude.{ℕ, List, ◌++◌, codes}
use Rattle.std.specs.Fmt.{decimal}
use Rattle.ex_base.specs.declared.names.PageNo.{PageNo}
use Rattle.ex_base.specs.declared.faults.Seen.{Seen}
use Rattle.command_line.specs.declared.status.Status.{Status}
use Rattle.command_line.specs.Status.{code_of, status_name}

-- the last line: the status's number and name
abbrev pub status_line : Status → List ℕ
status_line s = codes "exsm: status " ++ decimal (code_of s) ++ codes " " ++ status_name s

-- what a page shows, or should show
abbrev pub seen_text : Seen → List ℕ
seen_text s = codes "kind " ++ decimal s.kind ++ codes ", level " ++ decimal s.level ++ codes ", total " ++ decimal s.total

-- which page isn't what it should be, and how
abbrev pub damage_text : PageNo → Seen → Seen → List ℕ
damage_text page want got = codes "page " ++ decimal page.0 ++ codes ": wanted " ++ seen_text want ++ codes "; found " ++ seen_text got
