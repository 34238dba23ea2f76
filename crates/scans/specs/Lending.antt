-- What a scan is once the bytes that it lent are gone.
use Rattle.std.specs.Prelude.{⊤}
use Rattle.std.specs.Borrow.{follows_so, MutBor, Fml}
use mathlib.Core.Option.{none}
use Rattle.scans.specs.Scans.{Position}
use Rattle.scans.specs.contracts.scan.Scan.{the_row}

abbrev pub ScanRests : MutBor Position → (Position → Type 0) → Fml
ScanRests s P = follows_so the_row the_row s.ghost_name none (λ _ _. ⊤) P
