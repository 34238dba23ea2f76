use Rattle.std.proofs.Common.{◌≡◌, ℕ, List, length, sym, ap, subst, ◌∙◌, arith}
use Rattle.std.proofs.lemmas.List.{take_at}
use Rattle.object_files.specs.Catalog.{CatalogOf, IsCatalog, catalog_page}
use Rattle.object_files.proofs.CatalogLaws.{length-spelled}
use Rattle.page_entries.specs.Said.{put_catalog}
use Rattle.page_entries.proofs.FilesApplied.{WrittenOf, found_page, no_page}
use Rattle.page_entries.proofs.file_changes.catalog_of.Goals as goal

pub returns-then-entries-size-clause-refused : goal.returns-then-entries-size-clause-refused
returns-then-entries-size-clause-refused c = λ es each is fits. absurd (omega (arith, ap length is, length-spelled es each, fits.room, c.if-entries-size.true))

pub returns-in-None-clause-refused : goal.returns-in-None-clause-refused
returns-in-None-clause-refused c = λ es each is fits.
    let long : length c.deref_mut.result.now ≡ c.args.size = omega (arith, c.deref_mut.ensures.len, c.in_ok-page.ensures.len) in
    let whole : c.deref.result.now ≡ c.write_catalog.new.image = c.deref.ensures.value ∙ take_at c.write_catalog.new.image _ c.in_ok-page.page.len (omega (arith, c.write_catalog.auto.image, c.deref_mut.ensures.len)) in
    let w : WrittenOf c.write_catalog.new.image c.args.entries.now (length c.deref_mut.result.now) c.args.next_unique c.args.last_txn es = record {
      long = c.write_catalog.auto.image;
      small = omega (arith, long, c.requires.size);
      room = omega (arith, long, c.if-entries-size.false, c.requires.head);
      next_fits = omega (arith, c.ranges.next_unique);
      last_fits = omega (arith, c.ranges.last_txn);
      each = each;
      entries_are = is;
      spelled = c.write_catalog.ensures;
    } in
    no_page c.write_catalog.new.image c.args.entries.now (length c.deref_mut.result.now) c.args.next_unique c.args.last_txn es w
    (λ d h. c.in-None.ensures.none d (subst (λ (t : List ℕ). CatalogOf t d) (sym whole) h)) (subst (λ (n : ℕ). IsCatalog n (put_catalog c.args.next_unique c.args.last_txn es)) (sym long) fits)

pub returns-clause-made : goal.returns-clause-made
returns-clause-made c = λ es each is.
    let long : length c.deref_mut.result.now ≡ c.args.size = omega (arith, c.deref_mut.ensures.len, c.in_ok-page.ensures.len) in
    let whole : c.deref.result.now ≡ c.write_catalog.new.image = c.deref.ensures.value ∙ take_at c.write_catalog.new.image _ c.in_ok-page.page.len (omega (arith, c.write_catalog.auto.image, c.deref_mut.ensures.len)) in
    let w : WrittenOf c.write_catalog.new.image c.args.entries.now (length c.deref_mut.result.now) c.args.next_unique c.args.last_txn es = record {
      long = c.write_catalog.auto.image;
      small = omega (arith, long, c.requires.size);
      room = omega (arith, long, c.if-entries-size.false, c.requires.head);
      next_fits = omega (arith, c.ranges.next_unique);
      last_fits = omega (arith, c.ranges.last_txn);
      each = each;
      entries_are = is;
      spelled = c.write_catalog.ensures;
    } in
    let made = found_page c.write_catalog.new.image c.args.entries.now (length c.deref_mut.result.now) c.args.next_unique c.args.last_txn es c.in-Some.field-0 w (subst (λ (t : List ℕ). CatalogOf t c.in-Some.field-0) whole c.in-Some.ensures.found) in (
      subst (λ (n : ℕ). IsCatalog n (put_catalog c.args.next_unique c.args.last_txn es)) long made.0,
      c.from_vec.ensures ∙ take_at c.write_catalog.new.image _ c.in_ok-page.page.len (omega (arith, c.write_catalog.auto.image, c.deref_mut.ensures.len)) ∙ made.1
          ∙ ap (λ (n : ℕ). catalog_page n (put_catalog c.args.next_unique c.args.last_txn es)) long,
    )
