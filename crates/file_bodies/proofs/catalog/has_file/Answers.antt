use Rattle.std.proofs.Common.{sym, ◌∙◌, subst, List, map, ap}
use Rattle.std.specs.Prelude.{Contains}
use Rattle.object_files.specs.Catalog.{FileEntry, number_of}
use Rattle.file_bodies.specs.Files.{index_in}
use Rattle.file_bodies.proofs.Entries.{is_catalog, entries_are, has_number, not_some}
use Rattle.std.proofs.lemmas.Bool.{false≢true}
use Rattle.file_bodies.proofs.catalog.has_file.Goals as goal

pub returns-in-Some-clause-whole : goal.returns-in-Some-clause-whole
returns-in-Some-clause-whole c = λ t. is_catalog c.args.page.now c.in-Some.view c.in-Some.ensures.found

pub returns-in-Some-clause-file : goal.returns-in-Some-clause-file
returns-in-Some-clause-file c = λ t.
    subst (λ (es : List FileEntry). Contains (map number_of es) c.args.file_no) (sym (entries_are c.args.page.now c.in-Some.view c.in-Some.ensures.found))
    (has_number c.args.file_no c.in-Some.view.entries c.index_with.result c.index_with.ensures (sym c.is_some.ensures ∙ t))

pub returns-in-Some-clause-none : goal.returns-in-Some-clause-none
returns-in-Some-clause-none c = λ t whole.
    ap (index_in c.args.file_no) (entries_are c.args.page.now c.in-Some.view c.in-Some.ensures.found) ∙ sym c.index_with.ensures ∙ not_some c.index_with.result (sym c.is_some.ensures ∙ t)

pub returns-in-None-clause-whole : goal.returns-in-None-clause-whole
returns-in-None-clause-whole c = λ t. absurd (false≢true t)

pub returns-in-None-clause-file : goal.returns-in-None-clause-file
returns-in-None-clause-file c = λ t. absurd (false≢true t)
