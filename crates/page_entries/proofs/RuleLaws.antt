-- What the rule says of a page: one thing, which gives the page.
use Rattle.std.proofs.Common.{◌≡◌, ℕ, ◌<◌, ◌≤◌, List, length, Option, Some, None, refl, sym, ap, subst, ◌∙◌, arith}
use Rattle.std.specs.Prelude.{IfSome}
use Rattle.ex_base.specs.declared.names.PageNo.{PageNo}
use Rattle.ex_base.proofs.Options.{some_apart}
use Rattle.slotted_pages.specs.Reads.{IsPage, page_on}
use Rattle.slotted_pages.proofs.PageLaws.{Parts, parts_of}
use Rattle.object_files.specs.Edits.{IsCatalogPage, entries_on}
use Rattle.object_files.specs.Reads.{CatalogReads, catalog_on}
use Rattle.object_files.proofs.CatalogLaws.{spelled_reads}
use Rattle.page_entries.specs.Said.{Said, Whole, Files, AreFields, said_bytes, said_on}
use Rattle.page_entries.specs.After.{Applies, said_after}
use Rattle.page_entries.specs.Rule.{SlotsDiffer, FilesDiffer, files_changed, Differs, slots, files, ByRule, changed, whole}
use Rattle.page_entries.specs.declared.entry.PageEntry.{PageEntry}
use Rattle.page_entries.specs.declared.form.EntryForm.{EntryForm}
use Rattle.page_entries.specs.declared.form.EntryForm.TheVariants.{Image}
use Rattle.page_entries.specs.EntryOf.{IsEntryOf}
use Rattle.page_entries.proofs.ReadAgain.{spelled_again}
use Rattle.page_entries.proofs.SlotsDiffering.{slots_give}
use Rattle.page_entries.proofs.FilesDiffering.{files_give, one_gone}

-- ---- one thing

pub kinds_apart : (page : List ℕ) → IsPage page → IsCatalogPage page → ⊥
kinds_apart page one two =
    let p : Parts page (page_on page) = parts_of page (page_on page) one in
    let c : CatalogReads page = spelled_reads page (catalog_on page) two in
    omega (arith, p.kind, c.kind)

one_differs : (page : ℕ) (old new : List ℕ) (a b : Said) → Differs page old new a → Differs page old new b → a ≡ b
one_differs page old new a b (slots p) (slots q) = p.says ∙ sym q.says
one_differs page old new a b (slots p) (files q) = absurd (kinds_apart old p.was q.was)
one_differs page old new a b (files p) (slots q) = absurd (kinds_apart old q.was p.was)
one_differs page old new a b (files p) (files q) =
    p.says ∙ ap (λ (gone : List ℕ). Files (catalog_on new).next_unique (catalog_on new).last gone (files_changed (entries_on old) (entries_on new))) (one_gone (entries_on old) (entries_on new) p.removed q.removed p.gone q.gone) ∙ sym q.says

one_before : (a b : List ℕ) (old : Option (List ℕ)) → old ≡ Some a → old ≡ Some b → b ≡ a
one_before a b old p q = let both : Some b ≡ Some a = sym q ∙ p in cc

pub one_rule : (page : ℕ) (old : Option (List ℕ)) (new : List ℕ) (a b : Said) → ByRule page old new a → ByRule page old new b → a ≡ b
one_rule page old new a b (changed x e d lt) (changed y f k low) = one_differs page x new a b d (subst (λ (z : List ℕ). Differs page z new b) (one_before x y old e f) k)
one_rule page old new a b (changed x e d lt) (whole says none) = absurd (omega (arith, none x a e d, lt))
one_rule page old new a b (whole says none) (changed y f k low) = absurd (omega (arith, none y b f k, low))
one_rule page old new a b (whole says none) (whole says_too none_too) = says ∙ sym says_too

pub short_rule : (page : ℕ) (old : Option (List ℕ)) (new : List ℕ) (said : Said) → ByRule page old new said → length (said_bytes said) ≤ length new
short_rule page old new said (changed x e d lt) = omega (arith, lt)
short_rule page old new said (whole says none) = omega (arith, ap (λ (s : Said). length (said_bytes s)) says)

-- ---- the page

abbrev Gives : ℕ → Option (List ℕ) → List ℕ → Said → Type 0
Gives page old new said = Applies page said old × (said_after said old ≡ Some new)

changes_give : (page : ℕ) (old new : List ℕ) (said : Said) → length old ≡ length new → Differs page old new said → Gives page (Some old) new said
changes_give page old new said same (slots d) =
    let both = slots_give old new said same d in
    subst (Gives page (Some old) new) (sym d.says) (both.0, ap (λ (image : List ℕ). Some image) both.1)
changes_give page old new said same (files d) =
    let both = files_give page old new said d same in
    subst (Gives page (Some old) new) (sym d.says) ((d.catalog, both.0), ap (λ (image : List ℕ). Some image) both.1)

pub rule_gives : (page : ℕ) (old : Option (List ℕ)) (new : List ℕ) (said : Said) → IfSome old (λ before. length before ≡ length new) → ByRule page old new said → Gives page old new said
rule_gives page old new said same (whole says none) = subst (Gives page old new) (sym says) (tt, refl)
rule_gives page None new said same (changed x e d lt) = absurd (some_apart x (sym e))
rule_gives page (Some old) new said same (changed x e d lt) = changes_give page old new said same (subst (λ (z : List ℕ). Differs page z new said) (let is : x ≡ old = cc in is) d)

-- ---- the entry

pub no_difference : (page : ℕ) (old new : List ℕ) → ((said : Said) → SlotsDiffer old new said → ⊥) → ((said : Said) → FilesDiffer page old new said → ⊥) → (said : Said) → Differs page old new said → ⊥
no_difference page old new one two said (slots d) = one said d
no_difference page old new one two said (files d) = two said d

-- an entry with all bytes of the page, where what differs takes as many or nothing does
pub whole_entry : (page : PageNo) (old : Option (List ℕ)) (new : List ℕ) (e : PageEntry) → e.page ≡ page → e.form ≡ Image → e.fields ≡ new
    → ((before : List ℕ) (said : Said) → old ≡ Some before → Differs page.0 before new said → length new ≤ length (said_bytes said)) → IsEntryOf page old new e
unfolding said_on
whole_entry page old new e is form fields none = record {
  page_is = is;
  rule = subst (λ (f : EntryForm). ByRule page.0 old new (said_on f e.fields)) (sym form) (whole (ap (λ (t : List ℕ). Whole t) fields) none);
  fields = (Whole new, refl, sym form, fields);
}

-- no shorter than the page is what differs, where that is said in so many bytes
pub not_shorter : (page : ℕ) (old : Option (List ℕ)) (is new : List ℕ) (form : EntryForm) (fields : List ℕ) → old ≡ Some is → Differs page is new (said_on form fields) → AreFields (length new) form fields → length new ≤ length fields
    → (before : List ℕ) (said : Said) → old ≡ Some before → Differs page before new said → length new ≤ length (said_bytes said)
not_shorter page old is new form fields o d are long before said p e =
    let same : said_on form fields ≡ said = one_differs page is new (said_on form fields) said d (subst (λ (z : List ℕ). Differs page z new said) (one_before is before old o p) e) in
    omega (arith, long, ap length (spelled_again (length new) form fields are), ap (λ (s : Said). length (said_bytes s)) same)

none_before : (page : ℕ) (old : Option (List ℕ)) (is new : List ℕ) → old ≡ Some is → ((said : Said) → Differs page is new said → ⊥) → (before : List ℕ) (said : Said) → old ≡ Some before → Differs page before new said → length new ≤ length (said_bytes said)
none_before page old is new o none before said p e = absurd (none said (subst (λ (z : List ℕ). Differs page z new said) (one_before is before old o p) e))

pub entry_none : (page : PageNo) (old : Option (List ℕ)) (new : List ℕ) (e : PageEntry) → e.page ≡ page → e.form ≡ Image → e.fields ≡ new → old ≡ None → IsEntryOf page old new e
entry_none page old new e is form fields o = whole_entry page old new e is form fields (λ before said p d. absurd (some_apart before (sym p ∙ o)))

pub entry_other : (page : PageNo) (old : Option (List ℕ)) (before new : List ℕ) (e : PageEntry) → e.page ≡ page → e.form ≡ Image → e.fields ≡ new → old ≡ Some before → ((said : Said) → Differs page.0 before new said → ⊥) → IsEntryOf page old new e
entry_other page old before new e is form fields o none = whole_entry page old new e is form fields (none_before page.0 old before new o none)

pub entry_long : (page : PageNo) (old : Option (List ℕ)) (before new : List ℕ) (e d : PageEntry) → e.page ≡ page → e.form ≡ Image → e.fields ≡ new → old ≡ Some before → Differs page.0 before new (said_on d.form d.fields) → AreFields (length new) d.form d.fields → length new ≤ length d.fields → IsEntryOf page old new e
entry_long page old before new e d is form fields o differ are long = whole_entry page old new e is form fields (not_shorter page.0 old before new d.form d.fields o differ are long)

pub entry_short : (page : PageNo) (old : Option (List ℕ)) (before new : List ℕ) (e : PageEntry) → e.page ≡ page → old ≡ Some before → Differs page.0 before new (said_on e.form e.fields) → AreFields (length new) e.form e.fields → length e.fields < length new → IsEntryOf page old new e
entry_short page old before new e is o differ are short = record {
  page_is = is;
  rule = changed before o differ (omega (arith, short, ap length (spelled_again (length new) e.form e.fields are)));
  fields = are;
}
