-- The entry that a commit writes for a page.
use Rattle.std.specs.Prelude.{◌≡◌, ℕ, List, length, Option}
use Rattle.ex_base.specs.declared.names.PageNo.{PageNo}
use Rattle.page_entries.specs.declared.entry.PageEntry.{PageEntry}
use Rattle.page_entries.specs.Said.{AreFields, said_on}
use Rattle.page_entries.specs.Rule.{ByRule}

-- the entry says by the rule what became of the page, whose image so far was old, and is spelled for pages of its size
pub record IsEntryOf (page : PageNo) (old : Option (List ℕ)) (new : List ℕ) (entry : PageEntry) : Type 0 where
  pub page_is : entry.page ≡ page
  pub rule : ByRule page.0 old new (said_on entry.form entry.fields)
  pub fields : AreFields (length new) entry.form entry.fields
