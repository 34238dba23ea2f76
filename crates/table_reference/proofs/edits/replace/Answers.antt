use Rattle.table_reference.proofs.edits.replace.Goals as goal

pub returns-clause-machine : goal.returns-clause-machine
returns-clause-machine c = rw (c.in_ok-update.ensures.machine, c.note.ensures, c.in_ok-table.ensures, c.the_key-key.ensures, c.shown.ensures, c.the_oid-oid.ensures, c.as_slice-more.ensures, c.in_ok-held.ensures)
