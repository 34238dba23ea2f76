-- What the edits of entries make of a catalog page.
use Rattle.std.proofs.Common.{◌≡◌, ◌≢◌, ℕ, zero, suc, ◌+◌, ◌-◌, ◌*◌, ◌^◌, ◌<◌, ◌≤◌, List, [], ◌∷◌, ◌++◌, length, map, get_or, take, drop, set, Option, None, refl, sym, ap, subst, ◌∙◌, arith, append_assoc, drop-cons, inl, inr}
use Rattle.std.specs.Prelude.{Contains, IsSome}
use Rattle.std.specs.List.{flat_map, AllByRecursion}
use Rattle.std.specs.Ordering.{nat_cmp}
use Rattle.std.specs.Cmp.Lexicographic.{slice_cmp}
use Rattle.std.specs.declared.cmp.Ordering.TheVariants.{Less}
use Rattle.std.proofs.lemmas.Bool.{cases_lt}
use Rattle.std.proofs.lemmas.List.{append-nil, length-append, length-take, length-drop, length-replicate, length-map, take-append-drop, replicate-append-replicate, get_or-map}
use Rattle.ex_base.specs.declared.names.PageNo.{PageNo}
use Rattle.ex_base.specs.Bytes.{bytes_at, written}
use Rattle.ex_base.specs.Fields.{field_bytes, two_bytes, four_bytes, zeros, number_at, page_field, IsPageField}
use Rattle.ex_base.specs.Order.{RisingTexts, AllDiffer}
use Rattle.ex_base.proofs.FieldLaws.{four_is}
use Rattle.ex_base.proofs.Reading.{length-page_field}
use Rattle.ex_base.proofs.Rows.{each-append, each-take, each-drop}
use Rattle.object_files.specs.Catalog.{FileEntry, Catalog, entry_bytes, IsName, IsEntry, name_of, number_of, CatalogOf}
use Rattle.object_files.specs.Edits.{IsCatalogPage, entries_on, numbers_on, with_entries, new_file, entry_inserted, without_name, indexed, IsLowestUnused}
use Rattle.object_files.specs.Reads.{name_in, number_in, entry_in, read_entries, catalog_on, entry_at, EachReads}
use Rattle.object_files.proofs.CatalogLaws.{headed, spelled_reads, length-spelled, length-entries, entry_fields}
use Rattle.ex_base.proofs.Writing.{written_at}
use Rattle.object_files.proofs.EntryLists.{other_way, contains_of, inserted_at, sorted-more, numbers-more, without_at, sorted-less, numbers-less, indexed_at, names-indexed, numbers-indexed, each-indexed}
use Rattle.object_files.proofs.SpliceLaws.{length-headed, count_written, Spliced, spliced, split_page, CanStand, page_of}

-- ---- the entry of a new file

zeros_apart : (a b c : ℕ) → a ≡ b + c → zeros a ≡ zeros b ++ zeros c
zeros_apart a b c is = ap zeros is ∙ sym (replicate-append-replicate b c 0)

rest_of_entry : zeros 15 ≡ (0 ∷ (zeros 2 ++ page_field None)) ++ (zeros 4 ++ zeros 4)
unfolding field_bytes
rest_of_entry = refl

pub entry_made : (name : List ℕ) (file_no : ℕ) → length name ≤ 32 → written (written (set (zeros 48) 0 (length name)) 1 name) 40 (four_bytes file_no) ≡ entry_bytes (new_file name file_no)
entry_made name file_no short =
    let n : ℕ = length name in
    let fill : List ℕ = zeros (32 - length name) in
    let gap : List ℕ = 0 ∷ (zeros 2 ++ page_field None) in
    let split : zeros 47 ≡ zeros (length name) ++ (fill ++ zeros 15) = zeros_apart 47 (length name) (32 - length name + 15) (omega arith) ∙ ap (λ (t : List ℕ). zeros (length name) ++ t) (zeros_apart (32 - length name + 15) (32 - length name) 15 refl) in
    let named : written (set (zeros 48) 0 (length name)) 1 name ≡ (length name ∷ []) ++ (name ++ (fill ++ zeros 15)) =
    ap (λ (t : List ℕ). written (length name ∷ t) 1 name) split ∙ written_at (length name ∷ []) (zeros (length name)) name (fill ++ zeros 15) 1 refl (length-replicate (length name) 0) in
    let front : List ℕ = (length name ∷ (name ++ fill)) ++ gap in
    let apart : (length name ∷ []) ++ (name ++ (fill ++ zeros 15)) ≡ front ++ (zeros 4 ++ zeros 4) =
    ap (λ (t : List ℕ). length name ∷ (name ++ (fill ++ t))) rest_of_entry ∙ regroup (length name) name fill gap (zeros 4 ++ zeros 4) in
    let long : length front ≡ 40 = omega (arith, length-append (length name ∷ (name ++ fill)) gap, length-append name fill, length-replicate {A = ℕ} (32 - length name) 0, length-append (zeros 2) (page_field None), length-page_field None) in
    ap (λ (t : List ℕ). written t 40 (four_bytes file_no)) (named ∙ apart) ∙ written_at front (zeros 4) (four_bytes file_no) (zeros 4) 40 long (sym (four_is.len file_no))
    ∙ grouped (length name) name fill (zeros 2) (page_field None) (four_bytes file_no) (zeros 4)
  where
    regroup : (n : ℕ) (a b c d : List ℕ) → n ∷ (a ++ (b ++ (c ++ d))) ≡ ((n ∷ (a ++ b)) ++ c) ++ d
    regroup n a b c d = simp append_assoc

    grouped : (n : ℕ) (a b z p f r : List ℕ) → ((n ∷ (a ++ b)) ++ (0 ∷ (z ++ p))) ++ (f ++ r) ≡ (n ∷ []) ++ (a ++ b) ++ (0 ∷ []) ++ z ++ p ++ f ++ r
    grouped n a b z p f r = simp append_assoc

-- ---- what an edit knows of the page

pub record Known (image : List ℕ) (n : ℕ) : Type 0 where
  pub number : n ≡ length (entries_on image)
  pub room : 32 + 48 * n ≤ length image
  pub size : length image ≤ 8192
  pub reads : EachReads image n
  pub entry : (i : ℕ) (d : FileEntry) → i < n → get_or (entries_on image) i d ≡ entry_in image (entry_at i)

read_at : (page : List ℕ) (n at i : ℕ) (d : FileEntry) → i < n → get_or (read_entries page n at) i d ≡ entry_in page (at + 48 * i)
read_at page zero at i d lt = absurd (omega arith)
read_at page (suc n) at zero d lt = ap (entry_in page) (let e : at ≡ at + 48 * 0 = omega arith in e)
read_at page (suc n) at (suc i) d lt = read_at page n (at + 48) i d (omega arith) ∙ ap (entry_in page) (let e : at + 48 + 48 * i ≡ at + 48 * suc i = omega arith in e)

entries_are : (page : List ℕ) → entries_on page ≡ read_entries page (number_at 2 page 2) 32
unfolding catalog_on
entries_are page = refl

pub known_of : (image : List ℕ) (n : ℕ) → IsCatalogPage image → n ≡ number_at 2 image 2 → Known image n
known_of image n h is =
    let reads = spelled_reads image (catalog_on image) h in
    let count : length (entries_on image) ≡ number_at 2 image 2 = ap length (entries_are image) ∙ length-entries image (number_at 2 image 2) 32 in
    record {
      number = is ∙ sym count;
      room = omega (arith, reads.room, is);
      size = reads.size;
      reads = λ i lt. reads.entries i (omega (arith, is));
      entry = λ i d lt. ap (λ (t : List FileEntry). get_or t i d) (entries_are image) ∙ read_at image (number_at 2 image 2) 32 i d (omega (arith, is));
    }

abbrev no_entry : FileEntry
no_entry = new_file [] 0

name_here : (image : List ℕ) (n i : ℕ) → Known image n → i < n → (get_or (entries_on image) i no_entry).name ≡ name_in image (entry_at i)
name_here image n i k lt = ap (λ (e : FileEntry). e.name) (k.entry i no_entry lt)

number_here : (image : List ℕ) (n i : ℕ) → Known image n → i < n → (get_or (entries_on image) i no_entry).file_no ≡ number_in image (entry_at i)
number_here image n i k lt = ap (λ (e : FileEntry). e.file_no) (k.entry i no_entry lt)

-- the entry at an index, with those before it and those behind it
apart_at : (es : List FileEntry) (i : ℕ) → i < length es → es ≡ take i es ++ ((get_or es i no_entry ∷ []) ++ drop (suc i) es)
apart_at es i lt = sym (take-append-drop i es) ∙ ap (λ (t : List FileEntry). take i es ++ t) (drop-cons es i no_entry lt)

length-flat : (es : List FileEntry) → AllByRecursion IsEntry es → length (flat_map entry_bytes es) ≡ 48 * length es
length-flat es each = length-spelled es each

-- ---- a file is added

pub number_found : (image : List ℕ) (n num : ℕ) → Known image n → 1 ≤ num → ((i : ℕ) → i < n → number_in image (entry_at i) ≢ num) → ((k : ℕ) → 1 ≤ k → k < num → (i : ℕ) × (i < n) × (number_in image (entry_at i) ≡ k)) → IsLowestUnused (numbers_on image) num
number_found image n num k some unused lowest =
    let many : length (numbers_on image) ≡ length (entries_on image) = length-map (entries_on image) number_of in
    record {
      some = some;
      unused = λ found.
          let lt : found.0 < n = omega (arith, found.1, k.number, many) in
          unused found.0 lt (sym (number_here image n found.0 k lt) ∙ sym (get_or-map number_of (entries_on image) found.0 no_entry num (omega (arith, lt, k.number))) ∙ found.2);
      lowest = λ j low high.
          let found = lowest j low high in
          (found.0, omega (arith, found.1, k.number, many), get_or-map number_of (entries_on image) found.0 no_entry j (omega (arith, found.1, k.number)) ∙ number_here image n found.0 k found.1 ∙ found.2);
    }

pub added : (image name bytes second third : List ℕ) (n i num : ℕ) → IsCatalogPage image → Known image n → IsName name → (Contains (map name_of (entries_on image)) name → ⊥) → 32 + 48 * (length (entries_on image) + 1) ≤ length image → i ≤ n
    → ((k : ℕ) → k < i → slice_cmp nat_cmp name (name_in image (entry_at k)) ≢ Less) → (i < n → slice_cmp nat_cmp name (name_in image (entry_at i)) ≡ Less)
    → IsLowestUnused (numbers_on image) num → num < 2 ^ 32
    → bytes ≡ entry_bytes (new_file name num)
    → second ≡ take (32 + 48 * i) image ++ bytes ++ bytes_at image (32 + 48 * i) (32 + 48 * n - (32 + 48 * i)) ++ zeros (32 + 48 * n + 48 - (32 + 48 * i + length bytes + (32 + 48 * n - (32 + 48 * i)))) ++ drop (32 + 48 * n + 48) image
    → third ≡ written second 2 (two_bytes (n + 1))
    → CatalogOf third (with_entries (catalog_on image) (entry_inserted (new_file name num) (entries_on image)))
added image name bytes second third n i num h k named unused room le before later lowest fits made two three =
    let c : Catalog = catalog_on image in
    let es : List FileEntry = entries_on image in
    let e : FileEntry = new_file name num in
    let entry : IsEntry e = record { name = named; level = omega arith; rooted = λ some. absurd (omega arith); root = tt; some_no = lowest.some; file_no = fits } in
    let N : List ℕ = flat_map entry_bytes (e ∷ []) in
    let fronts : AllByRecursion IsEntry (take i es) = each-take IsEntry i es h.fits.entries in
    let backs : AllByRecursion IsEntry (drop i es) = each-drop IsEntry i es h.fits.entries in
    let two_is : second ≡ take (32 + 48 * i) image ++ N ++ bytes_at image (32 + 48 * i) (32 + 48 * n - (32 + 48 * i)) ++ zeros (32 + 48 * n + 48 - (32 + 48 * i + length N + (32 + 48 * n - (32 + 48 * i)))) ++ drop (32 + 48 * n + 48) image =
    two ∙ ap (λ (t : List ℕ). take (32 + 48 * i) image ++ t ++ bytes_at image (32 + 48 * i) (32 + 48 * n - (32 + 48 * i)) ++ zeros (32 + 48 * n + 48 - (32 + 48 * i + length t + (32 + 48 * n - (32 + 48 * i)))) ++ drop (32 + 48 * n + 48) image) (made ∙ sym (append-nil (entry_bytes e))) in
    let A : List ℕ = flat_map entry_bytes (take i es) in
    let B : List ℕ = flat_map entry_bytes (drop i es) in
    let sp : Spliced image A [] B (length es) c.next_unique c.last = split_page image c (take i es) [] (drop i es) h (sym (take-append-drop i es)) in
    let la : length A ≡ 48 * i = omega (arith, length-flat (take i es) fronts, length-take i es, k.number) in
    let lb : length B ≡ 48 * (n - i) = omega (arith, length-flat (drop i es) backs, length-drop i es, k.number) in
    let ln : length N ≡ 48 = length-flat (e ∷ []) (entry, tt) in
    let moved = spliced image A [] B N (length es) c.next_unique c.last (32 + 48 * i) (32 + 48 * i) (32 + 48 * n) (32 + 48 * n + 48) sp (omega (arith, la)) (omega arith) (omega (arith, lb)) (omega (arith, lb, ln)) (omega arith) (omega (arith, room, k.number)) in
    let count : n + 1 ≡ length (take i es ++ ((e ∷ []) ++ drop i es)) = omega (arith, k.number, length-append (take i es) ((e ∷ []) ++ drop i es), length-take i es, length-drop i es) in
    let three_is = three ∙ ap (λ (t : List ℕ). written t 2 (two_bytes (n + 1))) (two_is ∙ moved) ∙ count_written (length es) (n + 1) c.next_unique c.last _ ∙ ap (λ (m : ℕ). headed m c.next_unique c.last (A ++ (N ++ (B ++ zeros (length image - (32 + (length A + (length N + length B)))))))) count in
    let names_before : (j : ℕ) → j < i → slice_cmp nat_cmp name (get_or es j no_entry).name ≢ Less = λ j lt. subst (λ (x : List ℕ). slice_cmp nat_cmp name x ≢ Less) (sym (name_here image n j k (omega arith))) (before j lt) in
    let name_later : i < length es → slice_cmp nat_cmp name (get_or es i no_entry).name ≡ Less = λ lt. subst (λ (x : List ℕ). slice_cmp nat_cmp name x ≡ Less) (sym (name_here image n i k (omega (arith, k.number)))) (later (omega (arith, k.number))) in
    let many : length (map name_of es) ≡ length es = length-map es name_of in
    let other : (j : ℕ) → j < i → name ≢ (get_or es j no_entry).name = λ j lt same. unused (j, omega (arith, many, k.number), get_or-map name_of es j no_entry name (omega (arith, k.number)) ∙ sym same) in
    let can : CanStand (length image) c (take i es ++ ((e ∷ []) ++ drop i es)) = record {
      each = each-append IsEntry (take i es) ((e ∷ []) ++ drop i es) fronts (entry, backs);
      sorted = sorted-more e es i no_entry (omega (arith, k.number)) h.fits.sorted (λ j lt. other_way name (get_or es j no_entry).name (names_before j lt) (other j lt)) name_later;
      numbers = numbers-more e es i (omega (arith, k.number)) h.fits.numbers (λ has. lowest.unused (contains_of (map number_of es) num has));
      room = omega (arith, count, k.number, room);
    } in
    subst (λ (x : List FileEntry). CatalogOf third (with_entries (catalog_on image) x)) (sym (inserted_at e es i no_entry (omega (arith, k.number)) names_before name_later))
    (page_of image third c (take i es) (e ∷ []) (drop i es) h can three_is)

-- ---- a file is removed

pub name_inside : (image name : List ℕ) (n i : ℕ) → Known image n → Contains (map name_of (entries_on image)) name → i ≤ n → ((k : ℕ) → k < i → name_in image (entry_at k) ≢ name) → i < n
name_inside image name n i k found le before =
    let many : length (map name_of (entries_on image)) ≡ length (entries_on image) = length-map (entries_on image) name_of in
    let lt : found.0 < n = omega (arith, found.1, k.number, many) in
    let here : name_in image (entry_at found.0) ≡ name = sym (name_here image n found.0 k lt) ∙ sym (get_or-map name_of (entries_on image) found.0 no_entry name (omega (arith, lt, k.number))) ∙ found.2 in
    elim (cases_lt found.0 i) [
      | inl below ↦ absurd (before found.0 below here)
      | inr above ↦ omega (arith, above)
    ]

pub removed : (image name second third : List ℕ) (n i : ℕ) → IsCatalogPage image → Known image n → i < n → name_in image (entry_at i) ≡ name
    → second ≡ take (32 + 48 * i) image ++ [] ++ bytes_at image (32 + 48 * i + 48) (32 + 48 * n - (32 + 48 * i + 48)) ++ zeros (32 + 48 * n - (32 + 48 * i + 0 + (32 + 48 * n - (32 + 48 * i + 48)))) ++ drop (32 + 48 * n) image
    → third ≡ written second 2 (two_bytes (n - 1))
    → CatalogOf third (with_entries (catalog_on image) (without_name name (entries_on image)))
removed image name second third n i h k lt is two three =
    let c : Catalog = catalog_on image in
    let es : List FileEntry = entries_on image in
    let e : FileEntry = get_or es i no_entry in
    let inside : i < length es = omega (arith, k.number) in
    let fronts : AllByRecursion IsEntry (take i es) = each-take IsEntry i es h.fits.entries in
    let backs : AllByRecursion IsEntry (drop (suc i) es) = each-drop IsEntry (suc i) es h.fits.entries in
    let all : AllByRecursion IsEntry (drop i es) = each-drop IsEntry i es h.fits.entries in
    let A : List ℕ = flat_map entry_bytes (take i es) in
    let M : List ℕ = flat_map entry_bytes (e ∷ []) in
    let B : List ℕ = flat_map entry_bytes (drop (suc i) es) in
    let sp : Spliced image A M B (length es) c.next_unique c.last = split_page image c (take i es) (e ∷ []) (drop (suc i) es) h (apart_at es i inside) in
    let la : length A ≡ 48 * i = omega (arith, length-flat (take i es) fronts, length-take i es, k.number) in
    let lb : length B ≡ 48 * (n - suc i) = omega (arith, length-flat (drop (suc i) es) backs, length-drop (suc i) es, k.number) in
    let whole : drop i es ≡ e ∷ drop (suc i) es = drop-cons es i no_entry inside in
    let entry : IsEntry e = (subst (AllByRecursion IsEntry) whole all).0 in
    let lm : length M ≡ 48 = length-flat (e ∷ []) (entry, tt) in
    let moved = spliced image A M B [] (length es) c.next_unique c.last (32 + 48 * i) (32 + 48 * i + 48) (32 + 48 * n) (32 + 48 * n) sp (omega (arith, la)) (omega (arith, lm)) (omega (arith, lb)) (omega (arith, lb)) (omega arith) k.room in
    let count : n - 1 ≡ length (take i es ++ ([] ++ drop (suc i) es)) = omega (arith, k.number, length-append (take i es) (drop (suc i) es), length-take i es, length-drop (suc i) es) in
    let three_is = three ∙ ap (λ (t : List ℕ). written t 2 (two_bytes (n - 1))) (two ∙ moved) ∙ count_written (length es) (n - 1) c.next_unique c.last _ ∙ ap (λ (m : ℕ). headed m c.next_unique c.last (A ++ ([] ++ (B ++ zeros (length image - (32 + (length A + (0 + length B)))))))) count in
    let can : CanStand (length image) c (take i es ++ ([] ++ drop (suc i) es)) = record {
      each = each-append IsEntry (take i es) (drop (suc i) es) fronts backs;
      sorted = sorted-less es i inside h.fits.sorted;
      numbers = numbers-less es i inside h.fits.numbers;
      room = omega (arith, count, k.room);
    } in
    subst (λ (x : List FileEntry). CatalogOf third (with_entries (catalog_on image) x)) (sym (without_at name es i no_entry inside h.fits.sorted (name_here image n i k lt ∙ is)))
    (page_of image third c (take i es) [] (drop (suc i) es) h can three_is)

-- ---- a file gets an index

pub number_inside : (image : List ℕ) (n i num : ℕ) → Known image n → Contains (numbers_on image) num → i ≤ n → ((k : ℕ) → k < i → number_in image (entry_at k) ≢ num) → i < n
number_inside image n i num k found le before =
    let many : length (numbers_on image) ≡ length (entries_on image) = length-map (entries_on image) number_of in
    let lt : found.0 < n = omega (arith, found.1, k.number, many) in
    let here : number_in image (entry_at found.0) ≡ num = sym (number_here image n found.0 k lt) ∙ sym (get_or-map number_of (entries_on image) found.0 no_entry num (omega (arith, lt, k.number))) ∙ found.2 in
    elim (cases_lt found.0 i) [
      | inl below ↦ absurd (before found.0 below here)
      | inr above ↦ omega (arith, above)
    ]

set_behind : (front rest : List ℕ) (x v at : ℕ) → length front ≡ at → set (front ++ (x ∷ rest)) at v ≡ front ++ (v ∷ rest)
set_behind [] rest x v zero is = refl
set_behind [] rest x v (suc at) is = absurd (omega arith)
set_behind (y ∷ front) rest x v zero is = absurd (omega arith)
set_behind (y ∷ front) rest x v (suc at) is = ap (λ (t : List ℕ). y ∷ t) (set_behind front rest x v at (omega arith))

abbrev with_index : ℕ → Option PageNo → FileEntry → FileEntry
with_index level root e = record e { level = level; root = root }

-- the two fields of an entry that are written
fields_changed : (n next last level at : ℕ) (root : Option PageNo) (e : FileEntry) (A x : List ℕ) → length e.name ≤ 32 → at ≡ 32 + length A → written (set (headed n next last (A ++ (entry_bytes e ++ x))) (at + 33) level) (at + 36) (page_field root) ≡ headed n next last (A ++ (entry_bytes (with_index level root e) ++ x))
fields_changed n next last level at root e A x short is =
    let len : ℕ = length e.name in
    let fill : List ℕ = zeros (32 - length e.name) in
    let rest : List ℕ = four_bytes e.file_no ++ (zeros 4 ++ x) in
    let named : List ℕ = length e.name ∷ (e.name ++ fill) in
    let front : List ℕ = headed n next last (A ++ named) in
    let long : length front ≡ at + 33 = omega (arith, length-headed n next last (A ++ named), length-append A named, length-append e.name fill, length-replicate {A = ℕ} (32 - length e.name) 0) in
    let before : headed n next last (A ++ (entry_bytes e ++ x)) ≡ front ++ (e.level ∷ (zeros 2 ++ (page_field e.root ++ rest))) =
    ap (λ (t : List ℕ). headed n next last (A ++ t)) (entry_fields e x ∙ regroup (length e.name) e.name fill (e.level ∷ (zeros 2 ++ (page_field e.root ++ rest)))) ∙ pulled A named (e.level ∷ (zeros 2 ++ (page_field e.root ++ rest))) in
    let leveled : set (headed n next last (A ++ (entry_bytes e ++ x))) (at + 33) level ≡ (front ++ (level ∷ zeros 2)) ++ (page_field e.root ++ rest) =
    ap (λ (t : List ℕ). set t (at + 33) level) before ∙ set_behind front (zeros 2 ++ (page_field e.root ++ rest)) e.level level (at + 33) long ∙ sym (append_assoc front (level ∷ zeros 2) (page_field e.root ++ rest)) in
    ap (λ (t : List ℕ). written t (at + 36) (page_field root)) leveled
    ∙ written_at (front ++ (level ∷ zeros 2)) (page_field e.root) (page_field root) rest (at + 36) (omega (arith, long, length-append front (level ∷ zeros 2))) (length-page_field e.root ∙ sym (length-page_field root))
    ∙ append_assoc front (level ∷ zeros 2) (page_field root ++ rest)
    ∙ sym (pulled A named (level ∷ (zeros 2 ++ (page_field root ++ rest))))
    ∙ ap (λ (t : List ℕ). headed n next last (A ++ t)) (sym (entry_fields (with_index level root e) x ∙ regroup (length e.name) e.name fill (level ∷ (zeros 2 ++ (page_field root ++ rest)))))
  where
    regroup : (k : ℕ) (a b c : List ℕ) → k ∷ (a ++ (b ++ c)) ≡ (k ∷ (a ++ b)) ++ c
    regroup k a b c = simp append_assoc

    pulled : (a b c : List ℕ) → headed n next last (a ++ (b ++ c)) ≡ headed n next last (a ++ b) ++ c
    pulled a b c = simp append_assoc

pub index_set : (image third : List ℕ) (n i num level : ℕ) (root : Option PageNo) → IsCatalogPage image → Known image n → i < n → number_in image (entry_at i) ≡ num → IsPageField root → level ≤ 5 → (0 < level → IsSome root)
    → third ≡ written (set image (32 + 48 * i + 33) level) (32 + 48 * i + 36) (page_field root)
    → CatalogOf third (with_entries (catalog_on image) (map (indexed num level root) (entries_on image)))
index_set image third n i num level root h k lt is field high rooted three =
    let c : Catalog = catalog_on image in
    let es : List FileEntry = entries_on image in
    let e : FileEntry = get_or es i no_entry in
    let e' : FileEntry = with_index level root e in
    let inside : i < length es = omega (arith, k.number) in
    let fronts : AllByRecursion IsEntry (take i es) = each-take IsEntry i es h.fits.entries in
    let whole : drop i es ≡ e ∷ drop (suc i) es = drop-cons es i no_entry inside in
    let entry : IsEntry e = (subst (AllByRecursion IsEntry) whole (each-drop IsEntry i es h.fits.entries)).0 in
    let new : IsEntry e' = record { name = entry.name; level = high; rooted = rooted; root = field; some_no = entry.some_no; file_no = entry.file_no } in
    let A : List ℕ = flat_map entry_bytes (take i es) in
    let M : List ℕ = flat_map entry_bytes (e ∷ []) in
    let N : List ℕ = flat_map entry_bytes (e' ∷ []) in
    let B : List ℕ = flat_map entry_bytes (drop (suc i) es) in
    let sp : Spliced image A M B (length es) c.next_unique c.last = split_page image c (take i es) (e ∷ []) (drop (suc i) es) h (apart_at es i inside) in
    let la : length A ≡ 48 * i = omega (arith, length-flat (take i es) fronts, length-take i es, k.number) in
    let same : length M ≡ length N = length-flat (e ∷ []) (entry, tt) ∙ sym (length-flat (e' ∷ []) (new, tt)) in
    let rest : List ℕ = zeros (length image - (32 + (length A + (length M + length B)))) in
    let spelled : image ≡ headed (length es) c.next_unique c.last (A ++ (entry_bytes e ++ (B ++ rest))) = sp.spelled ∙ ap (λ (t : List ℕ). headed (length es) c.next_unique c.last (A ++ (t ++ (B ++ rest)))) (append-nil (entry_bytes e)) in
    let lists : map (indexed num level root) es ≡ take i es ++ (e' ∷ drop (suc i) es) = indexed_at num level root es i no_entry inside h.fits.numbers (number_here image n i k lt ∙ is) in
    let count : length es ≡ length (take i es ++ ((e' ∷ []) ++ drop (suc i) es)) = sym (length-map es (indexed num level root)) ∙ ap length lists in
    let three_is = three ∙ ap (λ (t : List ℕ). written (set t (32 + 48 * i + 33) level) (32 + 48 * i + 36) (page_field root)) spelled
    ∙ fields_changed (length es) c.next_unique c.last level (32 + 48 * i) root e A (B ++ rest) entry.name.short (omega (arith, la))
    ∙ ap (λ (t : List ℕ). headed (length es) c.next_unique c.last (A ++ (t ++ (B ++ rest)))) (sym (append-nil (entry_bytes e')))
    ∙ ap (λ (m : ℕ). headed m c.next_unique c.last (A ++ (N ++ (B ++ rest)))) count
    ∙ ap (λ (l : ℕ). headed (length (take i es ++ ((e' ∷ []) ++ drop (suc i) es))) c.next_unique c.last (A ++ (N ++ (B ++ zeros (length image - (32 + (length A + (l + length B)))))))) same in
    let can : CanStand (length image) c (take i es ++ ((e' ∷ []) ++ drop (suc i) es)) = record {
      each = subst (AllByRecursion IsEntry) lists (each-indexed num level root es high rooted field h.fits.entries);
      sorted = subst (λ (x : List FileEntry). RisingTexts (map name_of x)) lists (subst RisingTexts (sym (names-indexed num level root es)) h.fits.sorted);
      numbers = subst (λ (x : List FileEntry). AllDiffer (map number_of x)) lists (subst AllDiffer (sym (numbers-indexed num level root es)) h.fits.numbers);
      room = omega (arith, count, k.number, k.room);
    } in
    subst (λ (x : List FileEntry). CatalogOf third (with_entries (catalog_on image) x)) (sym lists)
    (page_of image third c (take i es) (e' ∷ []) (drop (suc i) es) h can three_is)
