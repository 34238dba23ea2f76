-- The files that differ: their changes have a spelling, and give the new catalog.
use Rattle.std.proofs.Common.{◌≡◌, ℕ, ◌+◌, ◌*◌, ◌≤◌, inl, inr, Bool, true, false, not, List, [], ◌∷◌, ◌++◌, length, map, filter, refl, sym, ap, subst, ◌∙◌, arith}
use Rattle.std.specs.Prelude.{Contains, ◌&&◌, ◌||◌, bytes_eq, if◌then◌else◌}
use Rattle.std.specs.List.{AllByRecursion}
use Rattle.std.specs.Ordering.{nat_cmp, is_lt, ordering_reverse}
use Rattle.std.specs.Cmp.Lexicographic.{slice_cmp, nat_list_cmp_total}
use Rattle.std.specs.declared.cmp.Ordering.TheVariants.{Less, Greater}
use Rattle.ex_base.specs.Area.{catalog_no}
use Rattle.ex_base.specs.Order.{RisingTexts, AllDiffer}
use Rattle.ex_base.proofs.Booleans.{same_bytes, bytes_test}
use Rattle.ex_base.proofs.Lists.{texts_tail}
use Rattle.ex_base.proofs.Each.{each_as}
use Rattle.ex_base.proofs.Filters.{each_kept, few_kept, in_kept, kept_in}
use Rattle.ex_base.proofs.Members.{In, in_contains, contains_in, of_each, each_in}
use Rattle.file_index.specs.Index.{Rises}
use Rattle.file_index.proofs.Picking.{rises_of}
use Rattle.object_files.specs.Catalog.{FileEntry, Catalog, IsEntry, IsCatalog, CatalogOf, catalog_page, entry_bytes, name_of, number_of}
use Rattle.object_files.specs.Edits.{IsCatalogPage, entries_on, numbers_on, entry_inserted}
use Rattle.object_files.specs.Reads.{catalog_on}
use Rattle.object_files.proofs.CatalogLaws.{catalog_read}
use Rattle.page_entries.specs.declared.form.EntryForm.TheVariants.{FileChanges}
use Rattle.page_entries.specs.Said.{Said, Files, FitsNumber, put_catalog, IsSaid, AreFields, said_bytes, said_on}
use Rattle.page_entries.specs.FilesAfter.{has_no, stays, files_put, files_after, catalog_after_files, FilesApply}
use Rattle.page_entries.specs.Rule.{AreGone, has_same, files_changed, FilesDiffer}
use Rattle.page_entries.proofs.Files.{one_list}
use Rattle.page_entries.proofs.Listing.{contains_has, has_contains}
use Rattle.page_entries.proofs.ReadAgain.{read_again}

-- ---- files in order of names

abbrev Before : FileEntry → FileEntry → Type 0
Before e f = slice_cmp nat_cmp e.name f.name ≡ Less

-- each comes before all later ones
abbrev pub Ordered : List FileEntry → Type 0
Ordered [] = Unit {0}
Ordered (e ∷ es) = AllByRecursion (Before e) es × Ordered es

before_each : (e : FileEntry) (es : List FileEntry) → RisingTexts (map name_of (e ∷ es)) → AllByRecursion (Before e) es
before_each e [] h = tt
before_each e (f ∷ fs) h = (h.0, each_as (Before f) (Before e) fs (λ g later. nat_list_cmp_total.trans e.name f.name g.name h.0 later) (before_each f fs h.1))

pub ordered : (es : List FileEntry) → RisingTexts (map name_of es) → Ordered es
ordered [] h = tt
ordered (e ∷ es) h = (before_each e es h, ordered es (texts_tail e.name (map name_of es) h))

in_order : (es : List FileEntry) → Ordered es → RisingTexts (map name_of es)
in_order [] h = tt
in_order (e ∷ []) h = tt
in_order (e ∷ f ∷ fs) h = (h.0.0, in_order (f ∷ fs) h.1)

turned : (e f : FileEntry) → Before e f → slice_cmp nat_cmp f.name e.name ≡ Greater
turned e f h = nat_list_cmp_total.antisymm f.name e.name ∙ ap ordering_reverse h

not_both : (e f : FileEntry) → Before e f → Before f e → ⊥
not_both e f one two = let clash : Greater ≡ Less = sym (turned e f one) ∙ two in absurd cc

not_self : (e f : FileEntry) → e ≡ f → Before e f → ⊥
not_self e f same h = not_both e f h (subst (λ (x : FileEntry). Before x e) same (subst (λ (x : FileEntry). Before e x) (sym same) h))

same_head : (x y : FileEntry) (a b : List FileEntry) → AllByRecursion (Before x) a → AllByRecursion (Before y) b → In x (y ∷ b) → In y (x ∷ a) → x ≡ y
same_head x y a b one two (inl same) back = same
same_head x y a b one two (inr later) (inl same) = sym same
same_head x y a b one two (inr later) (inr back) = absurd (not_both x y (of_each (Before x) y a one back) (of_each (Before y) x b two later))

strip : (x y z : FileEntry) (a b : List FileEntry) → x ≡ y → AllByRecursion (Before x) a → In z a → In z (y ∷ b) → In z b
strip x y z a b same one here (inr there) = there
strip x y z a b same one here (inl is) = absurd (not_self x z (same ∙ sym is) (of_each (Before x) z a one here))

-- two lists in order with the same files are one
same_ordered : (a b : List FileEntry) → Ordered a → Ordered b → ((x : FileEntry) → In x a → In x b) → ((x : FileEntry) → In x b → In x a) → a ≡ b
same_ordered [] [] one two to back = refl
same_ordered [] (y ∷ b) one two to back = absurd (back y (inl refl))
same_ordered (x ∷ a) [] one two to back = absurd (to x (inl refl))
same_ordered (x ∷ a) (y ∷ b) one two to back =
    let same : x ≡ y = same_head x y a b one.0 two.0 (to x (inl refl)) (back y (inl refl)) in
    let rest : a ≡ b = same_ordered a b one.1 two.1 (λ z h. strip x y z a b same one.0 h (to z (inr h))) (λ z h. strip y x z b a (sym same) two.0 h (back z (inr h))) in
    cc (same, rest)

-- ---- some of the files

kept_ordered : (p : FileEntry → Bool) (es : List FileEntry) → Ordered es → Ordered (filter p es)
kept_ordered p [] h = tt
kept_ordered p (e ∷ es) h = by_test (kept_ordered p es h.1) (p e)
  where
    by_test : Ordered (filter p es) → (b : Bool) → Ordered (if b then e ∷ filter p es else filter p es)
    by_test rest true = (each_kept (Before e) p es h.0, rest)
    by_test rest false = rest

-- ---- their numbers

number_in : (e : FileEntry) (es : List FileEntry) → In e es → Contains (map number_of es) e.file_no
number_in e es h = contains_in e.file_no (map number_of es) (go es h)
  where
    go : (es : List FileEntry) → In e es → In e.file_no (map number_of es)
    go [] h = absurd h
    go (f ∷ fs) (inl same) = inl (ap number_of same)
    go (f ∷ fs) (inr later) = inr (go fs later)

file_with : (n : ℕ) (es : List FileEntry) → Contains (map number_of es) n → (e : FileEntry) × In e es × (e.file_no ≡ n)
file_with n es h = go es (in_contains n (map number_of es) h)
  where
    go : (es : List FileEntry) → In n (map number_of es) → (e : FileEntry) × In e es × (e.file_no ≡ n)
    go [] h = absurd h
    go (f ∷ fs) (inl same) = (f, inl refl, sym same)
    go (f ∷ fs) (inr later) = let rest = go fs later in (rest.0, inr rest.1, rest.2)

one_number : (es : List FileEntry) (a b : FileEntry) → AllDiffer (map number_of es) → In a es → In b es → a.file_no ≡ b.file_no → a ≡ b
one_number [] a b differ one two same = absurd one
one_number (e ∷ es) a b differ (inl p) (inl q) same = p ∙ sym q
one_number (e ∷ es) a b differ (inl p) (inr q) same = absurd (differ.0 (subst (Contains (map number_of es)) (sym same ∙ ap number_of p) (number_in b es q)))
one_number (e ∷ es) a b differ (inr p) (inl q) same = absurd (differ.0 (subst (Contains (map number_of es)) (same ∙ ap number_of q) (number_in a es p)))
one_number (e ∷ es) a b differ (inr p) (inr q) same = one_number es a b differ.1 p q same

numbers_kept : (p : FileEntry → Bool) (es : List FileEntry) → AllDiffer (map number_of es) → AllDiffer (map number_of (filter p es))
numbers_kept p [] h = tt
numbers_kept p (e ∷ es) h = by_test (numbers_kept p es h.1) (p e)
  where
    by_test : AllDiffer (map number_of (filter p es)) → (b : Bool) → AllDiffer (map number_of (if b then e ∷ filter p es else filter p es))
    by_test rest true = (
      λ here. let found = file_with e.file_no (filter p es) here in h.0 (subst (Contains (map number_of es)) found.2 (number_in found.0 es (in_kept p es found.0 found.1).0)),
      rest,
    )
    by_test rest false = rest

-- ---- files that are the same

same_entry : (a b : FileEntry) → IsEntry a → IsEntry b → entry_bytes a ≡ entry_bytes b → a ≡ b
same_entry a b p q e = let whole : a ∷ [] ≡ b ∷ [] = one_list (a ∷ []) (b ∷ []) (p, tt) (q, tt) refl (ap (λ (t : List ℕ). t ++ []) e) in cc

same_in : (es : List FileEntry) (e : FileEntry) → AllByRecursion IsEntry es → IsEntry e → has_same es (entry_bytes e) ≡ true → In e es
same_in [] e each one h = absurd cc
same_in (f ∷ fs) e each one h = by_test (λ later. same_in fs e each.1 one later) (bytes_eq (entry_bytes f) (entry_bytes e)) refl h
  where
    by_test : (has_same fs (entry_bytes e) ≡ true → In e fs) → (b : Bool) → bytes_eq (entry_bytes f) (entry_bytes e) ≡ b → (b || has_same fs (entry_bytes e)) ≡ true → In e (f ∷ fs)
    by_test go true is h = inl (sym (same_entry f e each.0 one (same_bytes (entry_bytes f) (entry_bytes e) is)))
    by_test go false is h = inr (go h)

in_same : (es : List FileEntry) (e : FileEntry) → In e es → has_same es (entry_bytes e) ≡ true
in_same [] e h = absurd h
in_same (f ∷ fs) e (inl same) = ap (λ (b : Bool). b || has_same fs (entry_bytes e)) (bytes_test (entry_bytes f) (entry_bytes e) (ap entry_bytes (sym same)))
in_same (f ∷ fs) e (inr later) = by_test (in_same fs e later) (bytes_eq (entry_bytes f) (entry_bytes e))
  where
    by_test : has_same fs (entry_bytes e) ≡ true → (b : Bool) → (b || has_same fs (entry_bytes e)) ≡ true
    by_test rest true = refl
    by_test rest false = rest

-- ---- files that are put in again

insert_front : (e : FileEntry) (es : List FileEntry) → AllByRecursion (Before e) es → entry_inserted e es ≡ e ∷ es
insert_front e [] h = refl
insert_front e (f ∷ fs) h = ap (λ (b : Bool). if b then e ∷ f ∷ fs else f ∷ entry_inserted e fs) (ap is_lt h.0)

insert_behind : (x e : FileEntry) (es : List FileEntry) → Before x e → entry_inserted e (x ∷ es) ≡ x ∷ entry_inserted e es
insert_behind x e es h = ap (λ (b : Bool). if b then e ∷ x ∷ es else x ∷ entry_inserted e es) (ap is_lt (turned x e h))

put_behind : (x : FileEntry) (put es : List FileEntry) → AllByRecursion (Before x) put → files_put put (x ∷ es) ≡ x ∷ files_put put es
put_behind x [] es h = refl
put_behind x (e ∷ put) es h = ap (entry_inserted e) (put_behind x put es h.1) ∙ insert_behind x e (files_put put es) h.0

-- those that a test leaves out, put into those that it keeps, give all
put_back : (p : FileEntry → Bool) (es : List FileEntry) → Ordered es → files_put (filter (λ e. not (p e)) es) (filter p es) ≡ es
put_back p [] h = refl
put_back p (x ∷ xs) h = by_test (put_back p xs h.1) (p x)
  where
    by_test : files_put (filter (λ e. not (p e)) xs) (filter p xs) ≡ xs → (b : Bool)
        → files_put (if not b then x ∷ filter (λ e. not (p e)) xs else filter (λ e. not (p e)) xs) (if b then x ∷ filter p xs else filter p xs) ≡ x ∷ xs
    by_test rest true = put_behind x (filter (λ e. not (p e)) xs) (filter p xs) (each_kept (Before x) (λ e. not (p e)) xs h.0) ∙ ap (λ (t : List FileEntry). x ∷ t) rest
    by_test rest false = ap (entry_inserted x) rest ∙ insert_front x xs h.0

-- ---- two catalogs

pub record Changing (old new : List FileEntry) (removed : List ℕ) : Type 0 where
  pub was : AllByRecursion IsEntry old
  pub is : AllByRecursion IsEntry new
  pub old_order : Ordered old
  pub new_order : Ordered new
  pub old_numbers : AllDiffer (map number_of old)
  pub new_numbers : AllDiffer (map number_of new)
  pub gone : AreGone old new removed

abbrev same_as : List FileEntry → FileEntry → Bool
same_as old e = has_same old (entry_bytes e)

stays_parts : (a b : Bool) → (not a && not b) ≡ true → (a ≡ false) × (b ≡ false)
stays_parts true b h = absurd cc
stays_parts false true h = absurd cc
stays_parts false false h = (refl, refl)

stays_both : (a b : Bool) → (a ≡ true → ⊥) → (b ≡ true → ⊥) → (not a && not b) ≡ true
stays_both true b p q = absurd (p refl)
stays_both false true p q = absurd (q refl)
stays_both false false p q = refl

not_has : (xs : List ℕ) (n : ℕ) → has_no xs n ≡ false → Contains xs n → ⊥
not_has xs n none here = let clash : true ≡ false = sym (contains_has xs n here) ∙ none in absurd cc

-- a file that stays is as it was
stays_same : (old new : List FileEntry) (removed : List ℕ) → Changing old new removed → (e : FileEntry) → In e old → stays removed (files_changed old new) e ≡ true → In e new
stays_same old new removed c e here passes =
    let parts = stays_parts (has_no removed e.file_no) (has_no (map number_of (files_changed old new)) e.file_no) passes in
    by_number (has_no (map number_of new) e.file_no) refl parts.0 parts.1
  where
    by_file : (f : FileEntry) → In f new → f.file_no ≡ e.file_no → has_no (map number_of (files_changed old new)) e.file_no ≡ false → (b : Bool) → same_as old f ≡ b → In e new
    by_file f there same none true is = subst (λ (x : FileEntry). In x new) (one_number old f e c.old_numbers (same_in old f c.was (of_each IsEntry f new c.is there) is) here same) there
    by_file f there same none false is =
        absurd (not_has (map number_of (files_changed old new)) e.file_no none (subst (Contains (map number_of (files_changed old new))) same (number_in f (files_changed old new) (kept_in (λ x. not (same_as old x)) new f there (ap not is)))))

    by_number : (b : Bool) → has_no (map number_of new) e.file_no ≡ b → has_no removed e.file_no ≡ false → has_no (map number_of (files_changed old new)) e.file_no ≡ false → In e new
    by_number true is left none = let found = file_with e.file_no new (has_contains (map number_of new) e.file_no is) in by_file found.0 found.1 found.2 none (same_as old found.0) refl
    by_number false is left none = absurd (not_has removed e.file_no left ((c.gone.those e.file_no).1 (number_in e old here, not_has (map number_of new) e.file_no is)))

-- a file that is as it was stays
same_stays : (old new : List FileEntry) (removed : List ℕ) → Changing old new removed → (e : FileEntry) → In e new → In e old → stays removed (files_changed old new) e ≡ true
same_stays old new removed c e here there = stays_both (has_no removed e.file_no) (has_no (map number_of (files_changed old new)) e.file_no)
    (λ yes. ((c.gone.those e.file_no).0 (has_contains removed e.file_no yes)).1 (number_in e new here))
    (λ yes.
    let found = file_with e.file_no (files_changed old new) (has_contains (map number_of (files_changed old new)) e.file_no yes) in
    let kept = in_kept (λ x. not (same_as old x)) new found.0 found.1 in
    let is : found.0 ≡ e = one_number new found.0 e c.new_numbers kept.0 here found.2 in
    let clash : not true ≡ true = ap not (sym (in_same old found.0 (subst (λ (x : FileEntry). In x old) (sym is) there))) ∙ kept.1 in absurd cc)

pub files_given : (old new : List FileEntry) (removed : List ℕ) → Changing old new removed → files_after removed (files_changed old new) old ≡ new
files_given old new removed c =
    ap (files_put (files_changed old new))
    (same_ordered (filter (stays removed (files_changed old new)) old) (filter (same_as old) new) (kept_ordered (stays removed (files_changed old new)) old c.old_order) (kept_ordered (same_as old) new c.new_order)
    (λ e h. let kept = in_kept (stays removed (files_changed old new)) old e h in kept_in (same_as old) new e (stays_same old new removed c e kept.0 kept.1) (in_same old e kept.0))
    (λ e h. let kept = in_kept (same_as old) new e h in
    let there : In e old = same_in old e c.was (of_each IsEntry e new c.is kept.0) kept.1 in
    kept_in (stays removed (files_changed old new)) old e there (same_stays old new removed c e kept.0 there)))
    ∙ put_back (same_as old) new c.new_order

pub changing : (old new : List ℕ) (removed : List ℕ) → IsCatalogPage old → IsCatalogPage new → AreGone (entries_on old) (entries_on new) removed → Changing (entries_on old) (entries_on new) removed
changing old new removed was is gone = record {
  was = was.fits.entries;
  is = is.fits.entries;
  old_order = ordered (entries_on old) was.fits.sorted;
  new_order = ordered (entries_on new) is.fits.sorted;
  old_numbers = was.fits.numbers;
  new_numbers = is.fits.numbers;
  gone = gone;
}

-- ---- the spelling

put_fits : (size : ℕ) (p : FileEntry → Bool) (c : Catalog) → IsCatalog size c → IsCatalog size (put_catalog c.next_unique c.last (filter p c.entries))
put_fits size p c h = record {
  some_next = h.some_next;
  next_unique = h.next_unique;
  last = h.last;
  entries = each_kept IsEntry p c.entries h.entries;
  sorted = in_order (filter p c.entries) (kept_ordered p c.entries (ordered c.entries h.sorted));
  numbers = numbers_kept p c.entries h.numbers;
  room = omega (arith, h.room, few_kept p c.entries);
  page = h.page;
}

pub files_said : (size : ℕ) (old : List FileEntry) (c : Catalog) (removed : List ℕ) → AllByRecursion IsEntry old → IsCatalog size c → AreGone old c.entries removed → 32 + 48 * length removed ≤ size → IsSaid size (Files c.next_unique c.last removed (files_changed old c.entries))
files_said size old c removed was is gone few = record {
  put_fits = put_fits size (λ e. not (has_same old (entry_bytes e))) c is;
  few = few;
  numbers = each_in FitsNumber removed (λ n h.
      let found = file_with n old ((gone.those n).0 (contains_in n removed h)).0 in
      let low = of_each IsEntry found.0 old was found.1 in omega (arith, low.file_no, found.2));
  rising = gone.rising;
  apart = each_in (λ n. ¬ Contains (map number_of (files_changed old c.entries)) n) removed (λ n h here.
      let found = file_with n (files_changed old c.entries) here in
      let kept = in_kept (λ e. not (has_same old (entry_bytes e))) c.entries found.0 found.1 in
      ((gone.those n).0 (contains_in n removed h)).1 (subst (Contains (map number_of c.entries)) found.2 (number_in found.0 c.entries kept.0)));
}

-- ---- the new page

pub files_give : (page : ℕ) (old new : List ℕ) (said : Said) (d : FilesDiffer page old new said) → length old ≡ length new
    → FilesApply old (catalog_on new).next_unique (catalog_on new).last d.removed (files_changed (entries_on old) (entries_on new))
    × (catalog_page (length old) (catalog_after_files (catalog_on new).next_unique (catalog_on new).last d.removed (files_changed (entries_on old) (entries_on new)) old) ≡ new)
files_give page old new said d same =
    let given : catalog_after_files (catalog_on new).next_unique (catalog_on new).last d.removed (files_changed (entries_on old) (entries_on new)) old ≡ catalog_on new =
    ap (put_catalog (catalog_on new).next_unique (catalog_on new).last) (files_given (entries_on old) (entries_on new) d.removed (changing old new d.removed d.was d.is d.gone)) in (
      record {
        page = d.was;
        there = each_in (λ n. Contains (numbers_on old) n) d.removed (λ n h. ((d.gone.those n).0 (contains_in n d.removed h)).0);
        fits = subst (IsCatalog (length old)) (sym given) (subst (λ (n : ℕ). IsCatalog n (catalog_on new)) (sym same) d.is.fits);
      },
      ap (catalog_page (length old)) given ∙ ap (λ (n : ℕ). catalog_page n (catalog_on new)) same ∙ sym d.is.spelled,
    )

-- ---- what is found

pub files_found : (page : ℕ) (old new : List ℕ) (a b : Catalog) (gone fields : List ℕ) → page ≡ catalog_no → CatalogOf old a → CatalogOf new b → AreGone a.entries b.entries gone → length gone ≤ length a.entries → length old ≡ length new
    → fields ≡ said_bytes (Files b.next_unique b.last gone (files_changed a.entries b.entries)) → FilesDiffer page old new (said_on FileChanges fields) × AreFields (length new) FileChanges fields
files_found page old new a b gone fields catalog was is those few long spelled =
    let a_is : a ≡ catalog_on old = sym (catalog_read old a was) in
    let b_is : b ≡ catalog_on new = sym (catalog_read new b is) in
    let fits : IsSaid (length new) (Files b.next_unique b.last gone (files_changed a.entries b.entries)) = files_said (length new) a.entries b gone was.fits.entries is.fits those (omega (arith, few, was.fits.room, long)) in
    let read : said_on FileChanges fields ≡ Files b.next_unique b.last gone (files_changed a.entries b.entries) = ap (said_on FileChanges) spelled ∙ read_again (length new) (Files b.next_unique b.last gone (files_changed a.entries b.entries)) fits in (
      record {
        catalog = catalog;
        was = subst (CatalogOf old) a_is was;
        is = subst (CatalogOf new) b_is is;
        removed = gone;
        gone = subst (λ (c : Catalog). AreGone c.entries (entries_on new) gone) a_is (subst (λ (c : Catalog). AreGone a.entries c.entries gone) b_is those);
        says = read ∙ ap (λ (c : Catalog). Files b.next_unique b.last gone (files_changed c.entries b.entries)) a_is ∙ ap (λ (c : Catalog). Files c.next_unique c.last gone (files_changed (entries_on old) c.entries)) b_is;
      },
      (Files b.next_unique b.last gone (files_changed a.entries b.entries), fits, refl, spelled),
    )

-- ---- the numbers that are gone

least_of : (x n : ℕ) (xs : List ℕ) → Rises n xs → In x xs → n ≤ x
least_of x n [] h here = absurd here
least_of x n (y ∷ ys) h (inl same) = omega (arith, h.0, same)
least_of x n (y ∷ ys) h (inr later) = omega (arith, h.0, least_of x (y + 1) ys h.1 later)

same_rises : (a b : List ℕ) (m n : ℕ) → Rises m a → Rises n b → ((x : ℕ) → In x a → In x b) → ((x : ℕ) → In x b → In x a) → a ≡ b
same_rises [] [] m n one two to back = refl
same_rises [] (y ∷ b) m n one two to back = absurd (back y (inl refl))
same_rises (x ∷ a) [] m n one two to back = absurd (to x (inl refl))
same_rises (x ∷ a) (y ∷ b) m n one two to back =
    let same : x ≡ y = heads (to x (inl refl)) (back y (inl refl)) in
    let rest : a ≡ b = same_rises a b (x + 1) (y + 1) one.1 two.1 (λ z h. stripped x y z a b same one.1 h (to z (inr h))) (λ z h. stripped y x z b a (sym same) two.1 h (back z (inr h))) in
    cc (same, rest)
  where
    heads : In x (y ∷ b) → In y (x ∷ a) → x ≡ y
    heads (inl is) back = is
    heads (inr later) (inl is) = sym is
    heads (inr later) (inr back) = absurd (omega (arith, least_of x (y + 1) b two.1 later, least_of y (x + 1) a one.1 back))

    stripped : (x y z : ℕ) (a b : List ℕ) → x ≡ y → Rises (x + 1) a → In z a → In z (y ∷ b) → In z b
    stripped x y z a b same h here (inr there) = there
    stripped x y z a b same h here (inl is) = absurd (omega (arith, least_of z (x + 1) a h here, same, is))

pub one_gone : (old new : List FileEntry) (a b : List ℕ) → AreGone old new a → AreGone old new b → a ≡ b
one_gone old new a b one two = same_rises a b 0 0 (rises_of a one.rising) (rises_of b two.rising)
    (λ x h. in_contains x b ((two.those x).1 ((one.those x).0 (contains_in x a h))))
    (λ x h. in_contains x a ((one.those x).1 ((two.those x).0 (contains_in x b h))))
