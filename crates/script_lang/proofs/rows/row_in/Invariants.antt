use Rattle.std.proofs.Common.{◌≡◌, drop, map}
use Rattle.script_lang.specs.Rows.{row_in}
use Rattle.script_lang.proofs.rows.row_in.Given as goal

-- The rows that are left have it, if there is one.
abbrev pub invariant-loop-row : goal.invariant-loop-row
invariant-loop-row l = row_in (map (λ row. (row.0, row.1.now, row.2.now)) (drop l.row-index l.rows)) l.word ≡ row_in (map (λ row. (row.0, row.1.now, row.2.now)) l.rows) l.word
