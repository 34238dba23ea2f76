-- A page reads as the catalog exactly where it is the spelling of one, which is then the one that is read.
use Rattle.std.proofs.Common.{◌≡◌, ◌≢◌, ℕ, zero, suc, ◌+◌, ◌-◌, ◌*◌, ◌^◌, ◌<◌, ◌≤◌, true, List, [], ◌∷◌, ◌++◌, length, drop, map, get_or, Option, Some, refl, sym, ap, subst, ◌∙◌, arith, append_assoc}
use Rattle.std.specs.Prelude.{slice_index, slice_get, IsSome}
use Rattle.std.specs.List.{flat_map, AllByRecursion}
use Rattle.std.specs.Option.{option_map}
use Rattle.std.specs.Ordering.{nat_cmp}
use Rattle.std.specs.Cmp.Lexicographic.{slice_cmp}
use Rattle.std.specs.declared.cmp.Ordering.TheVariants.{Less}
use Rattle.std.proofs.lemmas.List.{append-nil, length-append, length-drop, length-replicate, drop_more}
use Rattle.ex_base.specs.declared.names.PageNo.{PageNo}
use Rattle.ex_base.specs.Bytes.{bytes_at, IsBytes}
use Rattle.ex_base.specs.Fields.{two_bytes, four_bytes, eight_bytes, zeros, number_at, page_field, page_read, page_in}
use Rattle.ex_base.specs.Order.{RisingTexts, AllDiffer}
use Rattle.ex_base.proofs.FieldLaws.{two_is, four_is, eight_is}
use Rattle.ex_base.proofs.Reading.{length-page_field}
use Rattle.ex_base.proofs.Places.{behind_more, bytes_there, number_there, number_spelled, bytes_spelled, length-bytes_at, page_there, page_spelled, page_fits, zero_run, zeros_spelled, AreZero-as}
use Rattle.ex_base.proofs.Lists.{two_front}
pub use Rattle.object_files.specs.Catalog.{headed}
use Rattle.object_files.specs.Catalog.{FileEntry, Catalog, entry_bytes, catalog_page, is_name_byte, IsEntry, name_of, number_of, CatalogOf}
use Rattle.object_files.specs.Reads.{name_in, number_in, entry_in, read_entries, catalog_on, EntryReads, CatalogReads}

-- ---- an entry and a page, field by field

pub entry_fields : (e : FileEntry) (x : List ℕ) → entry_bytes e ++ x ≡ length e.name ∷ (e.name ++ (zeros (32 - length e.name) ++ (e.level ∷ (zeros 2 ++ (page_field e.root ++ (four_bytes e.file_no ++ (zeros 4 ++ x)))))))
entry_fields e x = simp append_assoc

abbrev pub head_of : Catalog → List ℕ
head_of c = (1 ∷ 0 ∷ []) ++ two_bytes (length c.entries) ++ zeros 4 ++ eight_bytes c.next_unique ++ eight_bytes c.last ++ zeros 8 ++ flat_map entry_bytes c.entries

pub catalog_fields : (size : ℕ) (c : Catalog) → catalog_page size c ≡ 1 ∷ 0 ∷ (two_bytes (length c.entries) ++ (zeros 4 ++ (eight_bytes c.next_unique ++ (eight_bytes c.last ++ (zeros 8 ++ (flat_map entry_bytes c.entries ++ zeros (size - length (head_of c))))))))
unfolding catalog_page
catalog_fields size c = simp append_assoc

-- ---- one entry that is spelled

abbrev made_entry : List ℕ → ℕ → Option PageNo → ℕ → FileEntry
made_entry name level root file_no = record { name = name; level = level; root = root; file_no = file_no }

pub record EntryThere (page : List ℕ) (at : ℕ) (e : FileEntry) (rest : List ℕ) : Type 0 where
  pub reads : EntryReads page at
  pub same : entry_in page at ≡ e
  pub behind : drop (at + 48) page ≡ rest

head_there : (x y : ℕ) (page rest : List ℕ) (at : ℕ) → drop at page ≡ x ∷ rest → slice_index page at ≡ x
head_there x y page rest at e = sym (add_zero page at) ∙ ap (λ (t : List ℕ). slice_index t 0) e
  where
    add_zero : (xs : List ℕ) (n : ℕ) → slice_index (drop n xs) 0 ≡ slice_index xs n
    add_zero xs zero = refl
    add_zero [] (suc n) = refl
    add_zero (z ∷ xs) (suc n) = add_zero xs n

root_number : (page : List ℕ) (at : ℕ) (root : Option PageNo) → page_in page at ≡ root → IsSome root → 0 < number_at 4 page at
unfolding page_in
root_number page at root is some = number_some (number_at 4 page at) root is some
  where
    number_some : (n : ℕ) (root : Option PageNo) → page_read n ≡ root → IsSome root → 0 < n
    number_some zero root is some = let none : IsSome (page_read 0) = subst IsSome (sym is) some in absurd cc
    number_some (suc n) root is some = omega arith

some_root : (page : List ℕ) (at : ℕ) → 0 < number_at 4 page at → IsSome (page_in page at)
unfolding page_in
some_root page at some = read_some (number_at 4 page at) some
  where
    read_some : (n : ℕ) → 0 < n → IsSome (page_read n)
    read_some zero some = absurd (omega arith)
    read_some (suc n) some = refl

pub entry_there : (page rest : List ℕ) (at : ℕ) (e : FileEntry) → IsEntry e → drop at page ≡ entry_bytes e ++ rest → EntryThere page at e rest
entry_there page rest at e fits is =
    let n : ℕ = length e.name in
    let t44 : List ℕ = zeros 4 ++ rest in
    let t40 : List ℕ = four_bytes e.file_no ++ t44 in
    let t36 : List ℕ = page_field e.root ++ t40 in
    let t34 : List ℕ = zeros 2 ++ t36 in
    let t33 : List ℕ = e.level ∷ t34 in
    let fill : List ℕ = zeros (32 - length e.name) ++ t33 in
    let d0 : drop at page ≡ length e.name ∷ (e.name ++ fill) = is ∙ entry_fields e rest in
    let len : slice_index page at ≡ length e.name = head_there (length e.name) 0 page (e.name ++ fill) at d0 in
    let d1 : drop (at + 1) page ≡ e.name ++ fill = behind_more page (length e.name ∷ []) (e.name ++ fill) at 1 (at + 1) d0 refl refl in
    let name : name_in page at ≡ e.name = ap (bytes_at page (at + 1)) len ∙ bytes_there page e.name fill (at + 1) (length e.name) d1 refl in
    let dn : drop (at + 1 + length e.name) page ≡ fill = behind_more page e.name fill (at + 1) (length e.name) (at + 1 + length e.name) d1 refl refl in
    let d33 : drop (at + 33) page ≡ t33 = behind_more page (zeros (32 - length e.name)) t33 (at + 1 + length e.name) (32 - length e.name) (at + 33) dn (length-replicate {A = ℕ} (32 - length e.name) 0) (omega (arith, fits.name.short)) in
    let d34 : drop (at + 34) page ≡ t34 = behind_more page (e.level ∷ []) t34 (at + 33) 1 (at + 34) d33 refl (omega arith) in
    let level : slice_index page (at + 33) ≡ e.level = head_there e.level 0 page t34 (at + 33) d33 in
    let d36 : drop (at + 36) page ≡ t36 = behind_more page (zeros 2) t36 (at + 34) 2 (at + 36) d34 refl (omega arith) in
    let d40 : drop (at + 40) page ≡ t40 = behind_more page (page_field e.root) t40 (at + 36) 4 (at + 40) d36 (length-page_field e.root) (omega arith) in
    let d44 : drop (at + 44) page ≡ t44 = behind_more page (four_bytes e.file_no) t44 (at + 40) 4 (at + 44) d40 (four_is.len e.file_no) (omega arith) in
    let d48 : drop (at + 48) page ≡ rest = behind_more page (zeros 4) rest (at + 44) 4 (at + 48) d44 refl (omega arith) in
    let root : page_in page (at + 36) ≡ e.root = page_there e.root page t40 (at + 36) fits.root d36 in
    let number : number_in page at ≡ e.file_no = number_there 4 (2 ^ 32) four_bytes four_is page t44 (at + 40) e.file_no d40 fits.file_no in
    let same : made_entry (name_in page at) (slice_index page (at + 33)) (page_in page (at + 36)) (number_in page at) ≡ made_entry e.name e.level e.root e.file_no = cc (name, level, root, number) in
    let filled : bytes_at page (at + 1 + slice_index page at) (32 - slice_index page at) ≡ zeros (32 - length e.name) =
    ap (λ (k : ℕ). bytes_at page (at + 1 + k) (32 - k)) len ∙ bytes_there page (zeros (32 - length e.name)) t33 (at + 1 + length e.name) (32 - length e.name) dn (length-replicate {A = ℕ} (32 - length e.name) 0) in
    record {
      reads = record {
        some = omega (arith, len, fits.name.some);
        short = omega (arith, len, fits.name.short);
        bytes = subst (AllByRecursion (λ b. is_name_byte b ≡ true)) (sym name) fits.name.bytes;
        fill = AreZero-as _ (32 - length e.name) filled;
        level = omega (arith, level, fits.level);
        gap = AreZero-as _ 2 (bytes_there page (zeros 2) t36 (at + 34) 2 d34 refl);
        rooted = λ some. root_number page (at + 36) e.root root (fits.rooted (omega (arith, level)));
        number = omega (arith, number, fits.some_no);
        rest = AreZero-as _ 4 (bytes_there page (zeros 4) rest (at + 44) 4 d44 refl);
      };
      same = same;
      behind = d48;
    }

pub record EntriesThere (page : List ℕ) (at : ℕ) (entries : List FileEntry) (rest : List ℕ) : Type 0 where
  pub same : read_entries page (length entries) at ≡ entries
  pub reads : (i : ℕ) → i < length entries → EntryReads page (at + 48 * i)
  pub behind : drop (at + 48 * length entries) page ≡ rest

pub entries_there : (page rest : List ℕ) (at : ℕ) (entries : List FileEntry) → AllByRecursion IsEntry entries → drop at page ≡ flat_map entry_bytes entries ++ rest → EntriesThere page at entries rest
entries_there page rest at [] fits is = record { same = refl; reads = λ i lt. absurd (omega arith); behind = ap (λ (k : ℕ). drop k page) (let e : at + 48 * 0 ≡ at = omega arith in e) ∙ is }
entries_there page rest at (e ∷ entries) fits is =
    let here = entry_there page (flat_map entry_bytes entries ++ rest) at e fits.0 (is ∙ append_assoc (entry_bytes e) (flat_map entry_bytes entries) rest) in
    let next = entries_there page rest (at + 48) entries fits.1 here.behind in
    record {
      same = cc (here.same, next.same);
      reads = λ i lt. each i lt here.reads next.reads;
      behind = ap (λ (k : ℕ). drop k page) (let e : at + 48 * suc (length entries) ≡ at + 48 + 48 * length entries = omega arith in e) ∙ next.behind;
    }
  where
    each : (i : ℕ) → i < suc (length entries) → EntryReads page at → ((k : ℕ) → k < length entries → EntryReads page (at + 48 + 48 * k)) → EntryReads page (at + 48 * i)
    each zero lt first others = subst (EntryReads page) (let e : at ≡ at + 48 * 0 = omega arith in e) first
    each (suc i) lt first others = subst (EntryReads page) (let e : at + 48 + 48 * i ≡ at + 48 * suc i = omega arith in e) (others i (omega arith))

-- ---- the entry at an index

pub entry_here : (page : List ℕ) (n at i : ℕ) → i < n → slice_get (read_entries page n at) i ≡ Some (entry_in page (at + 48 * i))
entry_here page zero at i lt = absurd (omega arith)
entry_here page (suc n) at zero lt = ap (λ (k : ℕ). Some (entry_in page k)) (let e : at ≡ at + 48 * 0 = omega arith in e)
entry_here page (suc n) at (suc i) lt = entry_here page n (at + 48) i (omega arith) ∙ ap (λ (k : ℕ). Some (entry_in page k)) (let e : at + 48 + 48 * i ≡ at + 48 * suc i = omega arith in e)

pub length-entries : (page : List ℕ) (n at : ℕ) → length (read_entries page n at) ≡ n
length-entries page zero at = refl
length-entries page (suc n) at = ap suc (length-entries page n (at + 48))

-- ---- names in order

rising_from : (page : List ℕ) (n at : ℕ) → ((i : ℕ) → i + 1 < n → slice_cmp nat_cmp (name_in page (at + 48 * i)) (name_in page (at + 48 * (i + 1))) ≡ Less) → RisingTexts (map name_of (read_entries page n at))
rising_from page zero at h = tt
rising_from page (suc zero) at h = tt
rising_from page (suc (suc n)) at h =
    let first = h 0 (omega arith) in (
      subst (λ (k : ℕ). slice_cmp nat_cmp (name_in page k) (name_in page (at + 48)) ≡ Less) (let e : at + 48 * 0 ≡ at = omega arith in e) (subst (λ (k : ℕ). slice_cmp nat_cmp (name_in page (at + 48 * 0)) (name_in page k) ≡ Less) (let e : at + 48 * (0 + 1) ≡ at + 48 = omega arith in e) first),
      rising_from page (suc n) (at + 48) (λ i lt. subst (λ (k : ℕ). slice_cmp nat_cmp (name_in page k) (name_in page (at + 48 + 48 * (i + 1))) ≡ Less) (let e : at + 48 * (i + 1) ≡ at + 48 + 48 * i = omega arith in e) (subst (λ (k : ℕ). slice_cmp nat_cmp (name_in page (at + 48 * (i + 1))) (name_in page k) ≡ Less) (let e : at + 48 * (i + 1 + 1) ≡ at + 48 + 48 * (i + 1) = omega arith in e) (h (i + 1) (omega arith)))),
    )

rising_to : (page : List ℕ) (n at i : ℕ) → RisingTexts (map name_of (read_entries page n at)) → i + 1 < n → slice_cmp nat_cmp (name_in page (at + 48 * i)) (name_in page (at + 48 * (i + 1))) ≡ Less
rising_to page zero at i h lt = absurd (omega arith)
rising_to page (suc zero) at i h lt = absurd (omega arith)
rising_to page (suc (suc n)) at zero h lt = subst (λ (k : ℕ). slice_cmp nat_cmp (name_in page k) (name_in page (at + 48 * (0 + 1))) ≡ Less) (let e : at ≡ at + 48 * 0 = omega arith in e) (subst (λ (k : ℕ). slice_cmp nat_cmp (name_in page at) (name_in page k) ≡ Less) (let e : at + 48 ≡ at + 48 * (0 + 1) = omega arith in e) h.0)
rising_to page (suc (suc n)) at (suc i) h lt =
    let rest = rising_to page (suc n) (at + 48) i h.1 (omega arith) in
    subst (λ (k : ℕ). slice_cmp nat_cmp (name_in page k) (name_in page (at + 48 * (suc i + 1))) ≡ Less) (let e : at + 48 + 48 * i ≡ at + 48 * suc i = omega arith in e) (subst (λ (k : ℕ). slice_cmp nat_cmp (name_in page (at + 48 + 48 * i)) (name_in page k) ≡ Less) (let e : at + 48 + 48 * (i + 1) ≡ at + 48 * (suc i + 1) = omega arith in e) rest)

-- ---- numbers that differ

numbers_get : (page : List ℕ) (n at k d : ℕ) → k < n → get_or (map number_of (read_entries page n at)) k d ≡ number_in page (at + 48 * k)
numbers_get page zero at k d lt = absurd (omega arith)
numbers_get page (suc n) at zero d lt = ap (number_in page) (let e : at ≡ at + 48 * 0 = omega arith in e)
numbers_get page (suc n) at (suc k) d lt = numbers_get page n (at + 48) k d (omega arith) ∙ ap (number_in page) (let e : at + 48 + 48 * k ≡ at + 48 * suc k = omega arith in e)

length-numbers : (page : List ℕ) (n at : ℕ) → length (map number_of (read_entries page n at)) ≡ n
length-numbers page zero at = refl
length-numbers page (suc n) at = ap suc (length-numbers page n (at + 48))

abbrev Apart : List ℕ → ℕ → ℕ → Type 0
Apart page n at = (i : ℕ) → i < n → (j : ℕ) → i < j → j < n → number_in page (at + 48 * i) ≢ number_in page (at + 48 * j)

differ_from : (page : List ℕ) (n at : ℕ) → Apart page n at → AllDiffer (map number_of (read_entries page n at))
differ_from page zero at h = tt
differ_from page (suc n) at h = (
  λ found.
      let k : ℕ = found.0 in
      let lt : found.0 < n = omega (arith, found.1, length-numbers page n (at + 48)) in
      let same : number_in page (at + 48 + 48 * found.0) ≡ number_in page at = sym (numbers_get page n (at + 48) found.0 (number_in page at) lt) ∙ found.2 in
      h 0 (omega arith) (suc found.0) (omega arith) (omega arith) (ap (number_in page) (let e : at + 48 * 0 ≡ at = omega arith in e) ∙ sym same ∙ ap (number_in page) (let e : at + 48 + 48 * found.0 ≡ at + 48 * suc found.0 = omega arith in e)),
  differ_from page n (at + 48) (λ i li j lt lj e. h (suc i) (omega arith) (suc j) (omega arith) (omega arith)
      (ap (number_in page) (let a : at + 48 * suc i ≡ at + 48 + 48 * i = omega arith in a) ∙ e ∙ ap (number_in page) (let b : at + 48 + 48 * j ≡ at + 48 * suc j = omega arith in b))),
)

differ_to : (page : List ℕ) (n at : ℕ) → AllDiffer (map number_of (read_entries page n at)) → Apart page n at
differ_to page zero at h i li j lt lj e = absurd (omega arith)
differ_to page (suc n) at h i li zero lt lj e = absurd (omega arith)
differ_to page (suc n) at h zero li (suc j) lt lj e =
    let inside : j < length (map number_of (read_entries page n (at + 48))) = omega (arith, length-numbers page n (at + 48)) in
    let same : get_or (map number_of (read_entries page n (at + 48))) j (number_in page at) ≡ number_in page at =
    numbers_get page n (at + 48) j (number_in page at) (omega arith) ∙ ap (number_in page) (let a : at + 48 + 48 * j ≡ at + 48 * suc j = omega arith in a) ∙ sym e ∙ ap (number_in page) (let b : at + 48 * 0 ≡ at = omega arith in b) in
    h.0 (j, inside, same)
differ_to page (suc n) at h (suc i) li (suc j) lt lj e =
    differ_to page n (at + 48) h.1 i (omega arith) j (omega arith) (omega arith)
    (ap (number_in page) (let a : at + 48 + 48 * i ≡ at + 48 * suc i = omega arith in a) ∙ e ∙ ap (number_in page) (let b : at + 48 * suc j ≡ at + 48 + 48 * j = omega arith in b))

-- ---- an entry that is read, and spelled so

pub entry_back : (page : List ℕ) (at : ℕ) → IsBytes page → at + 48 ≤ length page → EntryReads page at → (IsEntry (entry_in page at)) × (drop at page ≡ entry_bytes (entry_in page at) ++ drop (at + 48) page)
entry_back page at bytes room h =
    let n : ℕ = slice_index page at in
    let short : slice_index page at ≤ 32 = h.short in
    let len : length (name_in page at) ≡ slice_index page at = length-bytes_at page (at + 1) (slice_index page at) (omega arith) in
    let d0 : drop at page ≡ slice_index page at ∷ drop (at + 1) page = drop_more page at 0 (omega arith) in
    let d1 : drop (at + 1) page ≡ name_in page at ++ drop (at + 1 + slice_index page at) page = bytes_spelled page (at + 1) (slice_index page at) (at + 1 + slice_index page at) refl in
    let dn : drop (at + 1 + slice_index page at) page ≡ zeros (32 - slice_index page at) ++ drop (at + 33) page = zeros_spelled page (at + 1 + slice_index page at) (32 - slice_index page at) (at + 33) (omega arith) (omega arith) h.fill in
    let d33 : drop (at + 33) page ≡ slice_index page (at + 33) ∷ drop (at + 34) page = drop_more page (at + 33) 0 (omega arith) ∙ ap (λ (k : ℕ). slice_index page (at + 33) ∷ drop k page) (let e : at + 33 + 1 ≡ at + 34 = omega arith in e) in
    let d34 : drop (at + 34) page ≡ zeros 2 ++ drop (at + 36) page = zeros_spelled page (at + 34) 2 (at + 36) (omega arith) (omega arith) h.gap in
    let d36 : drop (at + 36) page ≡ page_field (page_in page (at + 36)) ++ drop (at + 40) page = page_spelled page (at + 36) (at + 40) bytes (omega arith) (omega arith) in
    let d40 : drop (at + 40) page ≡ four_bytes (number_in page at) ++ drop (at + 44) page = number_spelled 4 (2 ^ 32) four_bytes four_is page (at + 40) (at + 44) bytes (omega arith) (omega arith) in
    let d44 : drop (at + 44) page ≡ zeros 4 ++ drop (at + 48) page = zeros_spelled page (at + 44) 4 (at + 48) (omega arith) (omega arith) h.rest in
    let filled : zeros (32 - slice_index page at) ≡ zeros (32 - length (name_in page at)) = ap (λ (k : ℕ). zeros (32 - k)) (sym len) in
    let whole : drop at page ≡ length (name_in page at) ∷ (name_in page at ++ (zeros (32 - length (name_in page at)) ++ (slice_index page (at + 33) ∷ (zeros 2 ++ (page_field (page_in page (at + 36)) ++ (four_bytes (number_in page at) ++ (zeros 4 ++ drop (at + 48) page))))))) =
    d0 ∙ ap (λ (k : ℕ). k ∷ drop (at + 1) page) (sym len)
    ∙ ap (λ (t : List ℕ). length (name_in page at) ∷ t) (d1 ∙ ap (λ (t : List ℕ). name_in page at ++ t) (dn ∙ ap (λ (t : List ℕ). t ++ drop (at + 33) page) filled ∙ ap (λ (t : List ℕ). zeros (32 - length (name_in page at)) ++ t) (d33 ∙ ap (λ (t : List ℕ). slice_index page (at + 33) ∷ t) (d34 ∙ ap (λ (t : List ℕ). zeros 2 ++ t) (d36 ∙ ap (λ (t : List ℕ). page_field (page_in page (at + 36)) ++ t) (d40 ∙ ap (λ (t : List ℕ). four_bytes (number_in page at) ++ t) d44)))))) in (
      record {
        name = record { some = omega (arith, len, h.some); short = omega (arith, len, h.short); bytes = h.bytes };
        level = h.level;
        rooted = λ some. some_root page (at + 36) (h.rooted some);
        root = page_fits page (at + 36) bytes;
        some_no = h.number;
        file_no = four_is.below page (at + 40) bytes;
      },
      whole ∙ sym (entry_fields (entry_in page at) (drop (at + 48) page)),
    )

pub entries_back : (page : List ℕ) (n at : ℕ) → IsBytes page → at + 48 * n ≤ length page → ((i : ℕ) → i < n → EntryReads page (at + 48 * i)) → (AllByRecursion IsEntry (read_entries page n at)) × (drop at page ≡ flat_map entry_bytes (read_entries page n at) ++ drop (at + 48 * n) page)
entries_back page zero at bytes room h = (tt, ap (λ (k : ℕ). drop k page) (let e : at ≡ at + 48 * 0 = omega arith in e))
entries_back page (suc n) at bytes room h =
    let here = entry_back page at bytes (omega arith) (subst (EntryReads page) (let e : at + 48 * 0 ≡ at = omega arith in e) (h 0 (omega arith))) in
    let rest = entries_back page n (at + 48) bytes (omega arith) (λ i lt. subst (EntryReads page) (let e : at + 48 * suc i ≡ at + 48 + 48 * i = omega arith in e) (h (suc i) (omega arith))) in (
      (here.0, rest.0),
      here.1 ∙ ap (λ (t : List ℕ). entry_bytes (entry_in page at) ++ t) (rest.1 ∙ ap (λ (k : ℕ). flat_map entry_bytes (read_entries page n (at + 48)) ++ drop k page) (let e : at + 48 + 48 * n ≡ at + 48 * suc n = omega arith in e)) ∙ sym (append_assoc (entry_bytes (entry_in page at)) (flat_map entry_bytes (read_entries page n (at + 48))) (drop (at + 48 * suc n) page)),
    )

-- ---- the page

pub length-entry : (e : FileEntry) → length e.name ≤ 32 → length (entry_bytes e) ≡ 48
length-entry e short =
    let whole : entry_bytes e ≡ length e.name ∷ (e.name ++ (zeros (32 - length e.name) ++ (e.level ∷ (zeros 2 ++ (page_field e.root ++ (four_bytes e.file_no ++ (zeros 4 ++ []))))))) = sym (append-nil (entry_bytes e)) ∙ entry_fields e [] in
    omega (arith, ap length whole, length-append e.name (zeros (32 - length e.name) ++ (e.level ∷ (zeros 2 ++ (page_field e.root ++ (four_bytes e.file_no ++ (zeros 4 ++ [])))))), length-append (zeros (32 - length e.name)) (e.level ∷ (zeros 2 ++ (page_field e.root ++ (four_bytes e.file_no ++ (zeros 4 ++ []))))), length-append (page_field e.root) (four_bytes e.file_no ++ (zeros 4 ++ [])), length-append (four_bytes e.file_no) (zeros 4 ++ []), length-replicate {A = ℕ} (32 - length e.name) 0, length-page_field e.root, four_is.len e.file_no)

pub length-spelled : (entries : List FileEntry) → AllByRecursion IsEntry entries → length (flat_map entry_bytes entries) ≡ 48 * length entries
length-spelled [] each = refl
length-spelled (e ∷ entries) each = omega (arith, length-append (entry_bytes e) (flat_map entry_bytes entries), length-entry e each.0.name.short, length-spelled entries each.1)

length-head : (c : Catalog) → AllByRecursion IsEntry c.entries → length (head_of c) ≡ 32 + 48 * length c.entries
length-head c each =
    let start : List ℕ = (1 ∷ 0 ∷ []) ++ two_bytes (length c.entries) ++ zeros 4 ++ eight_bytes c.next_unique ++ eight_bytes c.last ++ zeros 8 in
    omega (arith, length-append ((1 ∷ 0 ∷ []) ++ two_bytes (length c.entries) ++ zeros 4 ++ eight_bytes c.next_unique ++ eight_bytes c.last ++ zeros 8) (flat_map entry_bytes c.entries), length-append ((1 ∷ 0 ∷ []) ++ two_bytes (length c.entries) ++ zeros 4 ++ eight_bytes c.next_unique ++ eight_bytes c.last) (zeros 8), length-append ((1 ∷ 0 ∷ []) ++ two_bytes (length c.entries) ++ zeros 4 ++ eight_bytes c.next_unique) (eight_bytes c.last), length-append ((1 ∷ 0 ∷ []) ++ two_bytes (length c.entries) ++ zeros 4) (eight_bytes c.next_unique), length-append ((1 ∷ 0 ∷ []) ++ two_bytes (length c.entries)) (zeros 4), length-append (1 ∷ 0 ∷ []) (two_bytes (length c.entries)), two_is.len (length c.entries), eight_is.len c.next_unique, eight_is.len c.last, length-spelled c.entries each)

pub page_headed : (page : List ℕ) (c : Catalog) → AllByRecursion IsEntry c.entries → catalog_page (length page) c ≡ headed (length c.entries) c.next_unique c.last (flat_map entry_bytes c.entries ++ zeros (length page - (32 + 48 * length c.entries)))
page_headed page c each = catalog_fields (length page) c ∙ ap (λ (k : ℕ). headed (length c.entries) c.next_unique c.last (flat_map entry_bytes c.entries ++ zeros (length page - k))) (length-head c each)

-- what is read on a page that is spelled
record PageThere (page : List ℕ) (c : Catalog) : Type 0 where
  kind : slice_index page 0 ≡ 1
  second : slice_index page 1 ≡ 0
  count : number_at 2 page 2 ≡ length c.entries
  gap : bytes_at page 4 4 ≡ zeros 4
  next : number_at 8 page 8 ≡ c.next_unique
  last : number_at 8 page 16 ≡ c.last
  gap_eight : bytes_at page 24 8 ≡ zeros 8
  there : EntriesThere page 32 c.entries (zeros (length page - (32 + 48 * length c.entries)))

page_there_is : (page : List ℕ) (c : Catalog) → CatalogOf page c → PageThere page c
page_there_is page c h =
    let rest : List ℕ = flat_map entry_bytes c.entries ++ zeros (length page - (32 + 48 * length c.entries)) in
    let t24 : List ℕ = zeros 8 ++ rest in
    let t16 : List ℕ = eight_bytes c.last ++ t24 in
    let t8 : List ℕ = eight_bytes c.next_unique ++ t16 in
    let t4 : List ℕ = zeros 4 ++ t8 in
    let whole : page ≡ 1 ∷ 0 ∷ (two_bytes (length c.entries) ++ t4) = h.spelled ∙ page_headed page c h.fits.entries in
    let d2 : drop 2 page ≡ two_bytes (length c.entries) ++ t4 = ap (λ (t : List ℕ). drop 2 t) whole in
    let d4 : drop 4 page ≡ t4 = behind_more page (two_bytes (length c.entries)) t4 2 2 4 d2 (two_is.len (length c.entries)) refl in
    let d8 : drop 8 page ≡ t8 = behind_more page (zeros 4) t8 4 4 8 d4 refl refl in
    let d16 : drop 16 page ≡ t16 = behind_more page (eight_bytes c.next_unique) t16 8 8 16 d8 (eight_is.len c.next_unique) refl in
    let d24 : drop 24 page ≡ t24 = behind_more page (eight_bytes c.last) t24 16 8 24 d16 (eight_is.len c.last) refl in
    let d32 : drop 32 page ≡ rest = behind_more page (zeros 8) rest 24 8 32 d24 refl refl in
    record {
      kind = ap (λ (t : List ℕ). slice_index t 0) whole;
      second = ap (λ (t : List ℕ). slice_index t 1) whole;
      count = number_there 2 (2 ^ 16) two_bytes two_is page t4 2 (length c.entries) d2 (omega (arith, h.fits.room, h.fits.page));
      gap = bytes_there page (zeros 4) t8 4 4 d4 refl;
      next = number_there 8 (2 ^ 64) eight_bytes eight_is page t16 8 c.next_unique d8 h.fits.next_unique;
      last = number_there 8 (2 ^ 64) eight_bytes eight_is page t24 16 c.last d16 h.fits.last;
      gap_eight = bytes_there page (zeros 8) rest 24 8 d24 refl;
      there = entries_there page (zeros (length page - (32 + 48 * length c.entries))) 32 c.entries h.fits.entries d32;
    }

abbrev made_catalog : ℕ → ℕ → List FileEntry → Catalog
made_catalog next_unique last entries = record { next_unique = next_unique; last = last; entries = entries }

-- what is read on a catalog page is its catalog
pub catalog_read : (page : List ℕ) (c : Catalog) → CatalogOf page c → catalog_on page ≡ c
unfolding catalog_on
catalog_read page c h =
    let p : PageThere page c = page_there_is page c h in
    let entries : read_entries page (number_at 2 page 2) 32 ≡ c.entries = ap (λ (k : ℕ). read_entries page k 32) p.count ∙ p.there.same in
    let same : made_catalog (number_at 8 page 8) (number_at 8 page 16) (read_entries page (number_at 2 page 2) 32) ≡ made_catalog c.next_unique c.last c.entries = cc (p.next, p.last, entries) in
    same

pub spelled_reads : (page : List ℕ) (c : Catalog) → CatalogOf page c → CatalogReads page
spelled_reads page c h =
    let p : PageThere page c = page_there_is page c h in
    let entries : read_entries page (number_at 2 page 2) 32 ≡ c.entries = ap (λ (k : ℕ). read_entries page k 32) p.count ∙ p.there.same in
    let sorted : RisingTexts (map name_of (read_entries page (number_at 2 page 2) 32)) = subst (λ (x : List FileEntry). RisingTexts (map name_of x)) (sym entries) h.fits.sorted in
    let differ : AllDiffer (map number_of (read_entries page (number_at 2 page 2) 32)) = subst (λ (x : List FileEntry). AllDiffer (map number_of x)) (sym entries) h.fits.numbers in
    record {
      long = omega (arith, h.fits.room);
      size = h.fits.page;
      kind = p.kind;
      second = p.second;
      gap = AreZero-as _ 4 p.gap;
      some_next = omega (arith, p.next, h.fits.some_next);
      gap_eight = AreZero-as _ 8 p.gap_eight;
      room = omega (arith, p.count, h.fits.room);
      entries = λ i lt. p.there.reads i (omega (arith, p.count));
      sorted = λ i lt. rising_to page (number_at 2 page 2) 32 i sorted lt;
      numbers = λ i li j lt lj. differ_to page (number_at 2 page 2) 32 differ i li j lt lj;
      rest = AreZero-as _ (length page - (32 + 48 * length c.entries)) (ap (λ (k : ℕ). drop (32 + 48 * k) page) p.count ∙ p.there.behind);
    }

pub reads_spelled : (page : List ℕ) → IsBytes page → CatalogReads page → CatalogOf page (catalog_on page)
unfolding catalog_on
reads_spelled page bytes h =
    let n : ℕ = number_at 2 page 2 in
    let back = entries_back page (number_at 2 page 2) 32 bytes h.room h.entries in
    let count : length (read_entries page (number_at 2 page 2) 32) ≡ number_at 2 page 2 = length-entries page (number_at 2 page 2) 32 in
    let left : length (drop (32 + 48 * number_at 2 page 2) page) ≡ length page - (32 + 48 * length (read_entries page (number_at 2 page 2) 32)) = omega (arith, length-drop (32 + 48 * number_at 2 page 2) page, count) in
    let end : drop (32 + 48 * number_at 2 page 2) page ≡ zeros (length page - (32 + 48 * length (read_entries page (number_at 2 page 2) 32))) = zero_run _ h.rest ∙ ap zeros left in
    let d2 : drop 2 page ≡ two_bytes (number_at 2 page 2) ++ drop 4 page = number_spelled 2 (2 ^ 16) two_bytes two_is page 2 4 bytes refl (omega (arith, h.long)) in
    let d4 : drop 4 page ≡ zeros 4 ++ drop 8 page = zeros_spelled page 4 4 8 refl (omega (arith, h.long)) h.gap in
    let d8 : drop 8 page ≡ eight_bytes (number_at 8 page 8) ++ drop 16 page = number_spelled 8 (2 ^ 64) eight_bytes eight_is page 8 16 bytes refl (omega (arith, h.long)) in
    let d16 : drop 16 page ≡ eight_bytes (number_at 8 page 16) ++ drop 24 page = number_spelled 8 (2 ^ 64) eight_bytes eight_is page 16 24 bytes refl (omega (arith, h.long)) in
    let d24 : drop 24 page ≡ zeros 8 ++ drop 32 page = zeros_spelled page 24 8 32 refl h.long h.gap_eight in
    let entries : drop 32 page ≡ flat_map entry_bytes (read_entries page (number_at 2 page 2) 32) ++ zeros (length page - (32 + 48 * length (read_entries page (number_at 2 page 2) 32))) = back.1 ∙ ap (λ (t : List ℕ). flat_map entry_bytes (read_entries page (number_at 2 page 2) 32) ++ t) end in
    record {
      fits = record {
        some_next = h.some_next;
        next_unique = eight_is.below page 8 bytes;
        last = eight_is.below page 16 bytes;
        entries = back.0;
        sorted = rising_from page (number_at 2 page 2) 32 h.sorted;
        numbers = differ_from page (number_at 2 page 2) 32 h.numbers;
        room = omega (arith, count, h.room);
        page = h.size;
      };
      spelled = two_front page (omega (arith, h.long)) ∙ ap (λ (k : ℕ). k ∷ slice_index page 1 ∷ drop 2 page) h.kind ∙ ap (λ (k : ℕ). 1 ∷ k ∷ drop 2 page) h.second
          ∙ ap (λ (t : List ℕ). 1 ∷ 0 ∷ t) (d2 ∙ ap (λ (k : ℕ). two_bytes k ++ drop 4 page) (sym count) ∙ ap (λ (t : List ℕ). two_bytes (length (read_entries page (number_at 2 page 2) 32)) ++ t) (d4 ∙ ap (λ (t : List ℕ). zeros 4 ++ t) (d8 ∙ ap (λ (t : List ℕ). eight_bytes (number_at 8 page 8) ++ t) (d16 ∙ ap (λ (t : List ℕ). eight_bytes (number_at 8 page 16) ++ t) (d24 ∙ ap (λ (t : List ℕ). zeros 8 ++ t) entries)))))
          ∙ sym (page_headed page (catalog_on page) back.0);
    }

-- ---- what the calls of a view give

pub count_given : (page : List ℕ) (c : Catalog) → catalog_on page ≡ c → number_at 2 page 2 ≡ length c.entries
unfolding catalog_on
count_given page c is = sym (length-entries page (number_at 2 page 2) 32) ∙ ap (λ (x : Catalog). length x.entries) is

pub next_given : (page : List ℕ) (c : Catalog) → catalog_on page ≡ c → number_at 8 page 8 ≡ c.next_unique
unfolding catalog_on
next_given page c is = ap (λ (x : Catalog). x.next_unique) is

pub last_given : (page : List ℕ) (c : Catalog) → catalog_on page ≡ c → number_at 8 page 16 ≡ c.last
unfolding catalog_on
last_given page c is = ap (λ (x : Catalog). x.last) is

pub entry_given : (page : List ℕ) (c : Catalog) (i : ℕ) (name : List ℕ) (level : ℕ) (root : Option PageNo) (file_no : ℕ) → catalog_on page ≡ c → i < length c.entries → name ≡ name_in page (32 + 48 * i) → level ≡ slice_index page (32 + 48 * i + 33) → root ≡ page_in page (32 + 48 * i + 36) → file_no ≡ number_in page (32 + 48 * i) → slice_get c.entries i ≡ Some (made_entry name level root file_no)
unfolding catalog_on
entry_given page c i name level root file_no is lt a l b d =
    let same : made_entry (name_in page (32 + 48 * i)) (slice_index page (32 + 48 * i + 33)) (page_in page (32 + 48 * i + 36)) (number_in page (32 + 48 * i)) ≡ made_entry name level root file_no = cc (a, l, b, d) in
    sym (ap (λ (x : Catalog). slice_get x.entries i) is) ∙ entry_here page (number_at 2 page 2) 32 i (omega (arith, count_given page c is)) ∙ ap (λ (e : FileEntry). Some e) same

pub record Inside (page : List ℕ) (i : ℕ) : Type 0 where
  pub room : 32 + 48 * i + 48 ≤ length page
  pub name : 32 + 48 * i + 1 + slice_index page (32 + 48 * i) ≤ length page

pub inside_of : (page : List ℕ) (c : Catalog) (i : ℕ) → CatalogReads page → catalog_on page ≡ c → i < length c.entries → Inside page i
inside_of page c i h is lt =
    let number = count_given page c is in
    let short : slice_index page (32 + 48 * i) ≤ 32 = (h.entries i (omega arith)).short in
    record { room = omega (arith, h.room); name = omega (arith, h.room) }

-- the bytes of the entry at a position
pub entry_spelled : (page : List ℕ) (at n : ℕ) → n ≡ 48 → IsBytes page → at + 48 ≤ length page → EntryReads page at → bytes_at page at n ≡ entry_bytes (entry_in page at)
entry_spelled page at n is bytes room h =
    let here = entry_back page at bytes room h in
    let short : length (name_in page at) ≤ 32 = here.0.name.short in
    bytes_there page (entry_bytes (entry_in page at)) (drop (at + 48) page) at n here.1 (length-entry (entry_in page at) short ∙ sym is)

-- and of the entry at an index
pub spelled_given : (page : List ℕ) (c : Catalog) (i : ℕ) (x : List ℕ) → catalog_on page ≡ c → i < length c.entries → x ≡ entry_bytes (entry_in page (32 + 48 * i)) → option_map entry_bytes (slice_get c.entries i) ≡ Some x
unfolding catalog_on
spelled_given page c i x is lt spelled =
    let number = count_given page c is in
    ap (option_map entry_bytes) (sym (ap (λ (x : Catalog). slice_get x.entries i) is) ∙ entry_here page (number_at 2 page 2) 32 i (omega (arith, number))) ∙ ap (λ (t : List ℕ). Some t) (sym spelled)
