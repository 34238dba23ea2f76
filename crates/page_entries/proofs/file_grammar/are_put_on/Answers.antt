use Rattle.std.proofs.Common.{List, ℕ, map, subst, sym, length}
use Rattle.object_files.specs.Catalog.{FileEntry, number_of}
use Rattle.page_entries.specs.Said.{NoneOf, numbers_read}
use Rattle.page_entries.proofs.Files.{same_put}
use Rattle.page_entries.proofs.file_grammar.are_put_on.Goals as goal

pub returns-in-Some : goal.returns-in-Some
returns-in-Some c = (
  λ yes. (c.in-Some.files.entries, c.in-Some.ensures.found, subst (λ (k : ℕ). NoneOf (numbers_read c.args.fields.now k 18) (map number_of c.in-Some.files.entries)) c.get_u16-removed.ensures (c.none_removed.ensures.0 yes)),
  λ all. c.none_removed.ensures.1 (subst (λ (k : ℕ). NoneOf (numbers_read c.args.fields.now k 18) (map number_of c.in-Some.files.entries)) (sym c.get_u16-removed.ensures)
      (subst (λ (es : List FileEntry). NoneOf (numbers_read c.args.fields.now _ 18) (map number_of es)) (same_put (length c.args.page.now) c.args.fields.now all.0 c.in-Some.files.entries all.1 c.in-Some.ensures.found) all.2)),
)
