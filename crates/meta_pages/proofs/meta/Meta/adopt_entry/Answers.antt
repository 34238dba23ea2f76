use Rattle.std.proofs.Common.{◌≡◌, ℕ, List, length, Option, Some}
use Rattle.std.specs.Prelude.{IfSome}
use Rattle.std.specs.Option.{option_map}
use Rattle.page_entries.specs.After.{Applies, said_after}
use Rattle.page_entries.specs.Said.{said_on}
use Rattle.page_entries.proofs.AfterLen.{fields_len}
use Rattle.meta_pages.proofs.Adopting.{each_mapped}
use Rattle.meta_pages.proofs.meta.Meta.adopt_entry.Goals as goal

pub adopt_page-requires-clause-whole : goal.adopt_page-requires-clause-whole
adopt_page-requires-clause-whole c =
    let size = c.args.self.now.geometry.page_size in
    let e = c.args.entry.now in
    fields_len size e.page.0 e.form e.fields _ c.in-Some.image c.requires.fields (each_mapped _ (λ (l : List ℕ). length l ≡ size) c.committed_at.result c.committed_at.ensures.len) (rw c.in-Some.is at c.in_ok-image.ensures.applies)
    (rw c.in-Some.is at c.in_ok-image.ensures.applied)
