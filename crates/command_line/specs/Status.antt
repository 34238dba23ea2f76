-- How the program ends.
use Rattle.std.specs.Prelude.{ℕ, ⊤, List, ◌++◌, codes}
use Rattle.session_views.specs.declared.part.Part.{Part}
use Rattle.session_views.specs.declared.part.Part.TheVariants.{Super, Log, Catalog, File, Page, Body, Node, Balance, Unique}
use Rattle.command_line.specs.declared.status.Status.{Status}
use Rattle.command_line.specs.declared.status.Status.TheVariants.{Done, Usage, ScriptFault, OutputFault, DiskFault, BadVolume, Memory, Damaged, AlreadyVolume, TooSmall, ScriptLong, NotEmpty, BadDump, Misfit, NoRoom, NoPages}

-- the exit status
abbrev pub code_of : Status → ℕ
code_of Done = 0
code_of Usage = 2
code_of ScriptFault = 3
code_of OutputFault = 4
code_of DiskFault = 5
code_of (BadVolume part) = 6
code_of Memory = 7
code_of (Damaged page want got) = 8
code_of AlreadyVolume = 9
code_of (TooSmall have need) = 10
code_of (ScriptLong max) = 11
code_of NotEmpty = 12
code_of BadDump = 13
code_of (Misfit field dump volume) = 14
code_of (NoRoom area need free) = 15
code_of (NoPages need free) = 16

-- The command was refused before it did anything but read: wrong words, a volume where none may be, or too small a disk.
abbrev pub IsRefusal : Status → Type 0
IsRefusal Done = ⊥
IsRefusal Usage = ⊤
IsRefusal ScriptFault = ⊥
IsRefusal OutputFault = ⊥
IsRefusal DiskFault = ⊥
IsRefusal (BadVolume part) = ⊥
IsRefusal Memory = ⊥
IsRefusal (Damaged page want got) = ⊥
IsRefusal AlreadyVolume = ⊤
IsRefusal (TooSmall have need) = ⊤
IsRefusal (ScriptLong max) = ⊥
IsRefusal NotEmpty = ⊥
IsRefusal BadDump = ⊥
IsRefusal (Misfit field dump volume) = ⊥
IsRefusal (NoRoom area need free) = ⊥
IsRefusal (NoPages need free) = ⊥

-- the name of a part of a volume
abbrev pub part_name : Part → List ℕ
part_name Super = codes "super"
part_name Log = codes "log"
part_name Catalog = codes "catalog"
part_name File = codes "file"
part_name Page = codes "page"
part_name Body = codes "body"
part_name Node = codes "node"
part_name Balance = codes "balance"
part_name Unique = codes "unique"

-- the name of a status
abbrev pub status_name : Status → List ℕ
status_name Done = codes "done"
status_name Usage = codes "usage"
status_name ScriptFault = codes "script fault"
status_name OutputFault = codes "output fault"
status_name DiskFault = codes "disk fault"
status_name (BadVolume part) = codes "bad volume " ++ part_name part
status_name Memory = codes "memory"
status_name (Damaged page want got) = codes "damaged"
status_name AlreadyVolume = codes "already a volume"
status_name (TooSmall have need) = codes "too small"
status_name (ScriptLong max) = codes "script long"
status_name NotEmpty = codes "not empty"
status_name BadDump = codes "bad dump"
status_name (Misfit field dump volume) = codes "misfit"
status_name (NoRoom area need free) = codes "no room"
status_name (NoPages need free) = codes "no pages"
