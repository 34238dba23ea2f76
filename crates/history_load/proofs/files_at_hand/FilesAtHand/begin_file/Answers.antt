use Rattle.std.proofs.Common.{◌≡◌, ◌≤◌, ◌+◌, ◌*◌, ℕ, List, length, map, refl, sym, ap, subst, ◌∙◌, arith}
use Rattle.std.specs.Prelude.{Contains}
use Rattle.std.specs.List.{AllByRecursion}
use Rattle.std.specs.Vec.{with_items}
use Rattle.std.proofs.lemmas.List.{with_items_is}
use Rattle.ex_base.specs.Sizes.{least_page, most_page}
use Rattle.object_files.specs.Catalog.{name_of}
use Rattle.object_files.specs.Edits.{IsCatalogPage, entries_on, entry_inserted, new_file, numbers_on}
use Rattle.history_links.specs.declared.PlacedVersion.{PlacedVersion}
use Rattle.history_links.specs.Linked.{NumbersRise}
use Rattle.history_load.specs.AtHand.{LiesBehind}
use Rattle.history_load.proofs.Beginning.{begins, has_number}
use Rattle.history_load.proofs.Entries.{is_page}
use Rattle.history_load.proofs.files_at_hand.FilesAtHand.begin_file.Goals as goal

pub add_file-file_no-requires-clause-page : goal.add_file-file_no-requires-clause-page
add_file-file_no-requires-clause-page c = subst (λ (b : List ℕ). IsCatalogPage b) (sym c.deref_mut.ensures.value) c.requires.ready.catalog

pub add_file-file_no-requires-clause-unused : goal.add_file-file_no-requires-clause-unused
add_file-file_no-requires-clause-unused c = λ has. c.requires.unused (subst (λ (b : List ℕ). Contains (map name_of (entries_on b)) c.args.name.now) c.deref_mut.ensures.value has)

pub add_file-file_no-requires-clause-room : goal.add_file-file_no-requires-clause-room
add_file-file_no-requires-clause-room c = subst (λ (b : List ℕ). 32 + 48 * (length (entries_on b) + 1) ≤ length b) (sym c.deref_mut.ensures.value) c.requires.room

pub begin-requires : goal.begin-requires
begin-requires c = record { page = (omega (arith, c.requires.ready.page_size, least_page c.args.geometry.now), omega (arith, c.requires.ready.page_size, most_page c.args.geometry.now)) }

pub returns-clause-begins : goal.returns-clause-begins
returns-clause-begins c =
    let long : length c.add_file-file_no.new.image ≡ c.args.self.now.catalog.len = omega (arith, c.add_file-file_no.auto.image, c.deref_mut.ensures.len) in
    begins c.args.geometry.now c.args.self.now _ c.args.name.now c.deref_mut.result.now c.add_file-file_no.new.image c.add_file-file_no.result c.deref_mut.ensures.value (with_items_is c.args.self.now.catalog c.add_file-file_no.new.image long)
    c.begin.ensures.file c.add_file-file_no.ensures.number c.add_file-file_no.ensures.added c.begin.ensures.laid c.begin.ensures.written c.clear.ensures.items refl refl

pub returns-clause-ready : goal.returns-clause-ready
returns-clause-ready c =
    let long : length c.add_file-file_no.new.image ≡ c.args.self.now.catalog.len = omega (arith, c.add_file-file_no.auto.image, c.deref_mut.ensures.len) in
    let items = with_items_is c.args.self.now.catalog c.add_file-file_no.new.image long in
    let page = is_page c.add_file-file_no.new.image c.deref_mut.result.now (entry_inserted (new_file c.args.name.now c.add_file-file_no.result) (entries_on c.deref_mut.result.now)) c.add_file-file_no.ensures.added in
    let number = has_number c.add_file-file_no.new.image c.deref_mut.result.now c.args.name.now c.add_file-file_no.result c.add_file-file_no.ensures.added in
    let was = c.requires.ready in
    let size : length c.add_file-file_no.new.image ≡ c.args.geometry.now.page_size = omega (arith, c.add_file-file_no.auto.image, ap (λ (b : List ℕ). length b) c.deref_mut.ensures.value, was.catalog_size) in
    record {
      last = record {
        ready = record {
          catalog = subst (λ (b : List ℕ). IsCatalogPage b) (sym items) page;
          catalog_size = ap (λ (b : List ℕ). length b) items ∙ size;
          page_size = c.begin.ensures.size ∙ was.page_size;
          behind = was.behind;
          desk = was.desk;
        };
        number = subst (λ (n : ℕ). Contains (numbers_on (with_items c.args.self.now.catalog c.add_file-file_no.new.image).items) n) (sym c.begin.ensures.file) (subst (λ (b : List ℕ). Contains (numbers_on b) c.add_file-file_no.result) (sym items) number);
        first = c.begin.ensures.first;
        rising = subst (λ (vs : List PlacedVersion). NumbersRise vs) (sym c.clear.ensures.items) tt;
        places = subst (λ (vs : List PlacedVersion). AllByRecursion LiesBehind vs) (sym c.clear.ensures.items) tt;
      };
      page = c.begin.ensures.page;
    }
