-- The fields of changes of files: what is read is spelled so, and what is spelled is read.
use Rattle.std.proofs.Common.{◌≡◌, ℕ, ◌+◌, ◌-◌, ◌*◌, ◌/◌, ◌^◌, ◌<◌, ◌≤◌, List, [], ◌++◌, length, take, drop, map, Option, Some, None, refl, sym, ap, subst, ◌∙◌, arith, append_assoc}
use Rattle.std.specs.Prelude.{IfNone}
use Rattle.std.specs.List.{flat_map, AllByRecursion}
use Rattle.std.proofs.lemmas.List.{length-append, length-drop, take_at, take_rest, append-nil}
use Rattle.ex_base.specs.Bytes.{bytes_at, IsBytes}
use Rattle.ex_base.specs.Fields.{two_bytes, four_bytes, eight_bytes, zeros, number_at}
use Rattle.ex_base.specs.Order.{Rising}
use Rattle.ex_base.proofs.FieldLaws.{two_is, eight_is, same_front, same_two, same_eight}
use Rattle.ex_base.proofs.Places.{behind_more, bytes_there, number_there, number_spelled, bytes_spelled, length-bytes_at}
use Rattle.object_files.specs.Catalog.{FileEntry, Catalog, entry_bytes, headed, catalog_page, IsEntry, IsCatalog, CatalogOf, number_of}
use Rattle.object_files.specs.Reads.{read_entries}
use Rattle.object_files.proofs.CatalogLaws.{EntriesThere, entries_there, page_headed, length-spelled}
use Rattle.page_entries.specs.declared.form.EntryForm.TheVariants.{FileChanges}
use Rattle.page_entries.specs.Said.{Said, Whole, Slots, Files, said_bytes, form_of, NoneOf, put_catalog, IsSaid, numbers_read, removed_count, put_count, put_begin, Says}
use Rattle.page_entries.specs.Fronts.{ArePut, removed_read}
use Rattle.page_entries.proofs.Numbers.{length-numbers, numbers_said, numbers_given, length-spelled_numbers}

-- ---- the page that the put files are written on

pub same_heads : (n m a b c d : ℕ) (x y : List ℕ) → n < 2 ^ 16 → m < 2 ^ 16 → a < 2 ^ 64 → b < 2 ^ 64 → c < 2 ^ 64 → d < 2 ^ 64 → headed n a c x ≡ headed m b d y → (n ≡ m) × (a ≡ b) × (c ≡ d) × (x ≡ y)
same_heads n m a b c d x y ln lm la lb lc ld e =
    let one = same_two n m _ _ ln lm (ap (λ (t : List ℕ). drop 2 t) e) in
    let two = same_eight a b _ _ la lb (ap (λ (t : List ℕ). drop 4 t) one.1) in
    let three = same_eight c d _ _ lc ld two.1 in
    (one.0, two.0, three.0, ap (λ (t : List ℕ). drop 8 t) three.1)

-- the head, the put files and zeros
abbrev pub put_page : List ℕ → ℕ → List ℕ
put_page f size = headed (put_count f) (number_at 8 f 0) (number_at 8 f 8) (bytes_at f (put_begin f) (48 * put_count f) ++ zeros (size - (32 + 48 * put_count f)))

pub put_found : (page f : List ℕ) (size : ℕ) (c : Catalog) → IsBytes f → length page ≡ size → page ≡ put_page f size → put_begin f + 48 * put_count f ≤ length f → CatalogOf page c → ArePut size f c.entries × (c ≡ put_catalog (number_at 8 f 0) (number_at 8 f 8) c.entries)
put_found page f size c fits long is room h =
    let small : length c.entries < 2 ^ 16 = omega (arith, h.fits.room, h.fits.page) in
    let same = same_heads (put_count f) (length c.entries) (number_at 8 f 0) c.next_unique (number_at 8 f 8) c.last (bytes_at f (put_begin f) (48 * put_count f) ++ zeros (size - (32 + 48 * put_count f))) (flat_map entry_bytes c.entries ++ zeros (length page - (32 + 48 * length c.entries)))
    (two_is.below f (18 + 4 * removed_count f) fits) small (eight_is.below f 0 fits) h.fits.next_unique (eight_is.below f 8 fits) h.fits.last (sym is ∙ h.spelled ∙ page_headed page c h.fits.entries) in
    let len : length (bytes_at f (put_begin f) (48 * put_count f)) ≡ length (flat_map entry_bytes c.entries) = omega (arith, length-bytes_at f (put_begin f) (48 * put_count f) room, length-spelled c.entries h.fits.entries, same.0) in
    let front = same_front (bytes_at f (put_begin f) (48 * put_count f)) (flat_map entry_bytes c.entries) (zeros (size - (32 + 48 * put_count f))) (zeros (length page - (32 + 48 * length c.entries))) len same.3 in
    let catalog : c ≡ put_catalog (number_at 8 f 0) (number_at 8 f 8) c.entries = sym (ap (λ (k : ℕ). put_catalog k (number_at 8 f 8) c.entries) same.1 ∙ ap (λ (k : ℕ). put_catalog c.next_unique k c.entries) same.2) in (
      record {
        fits = subst (λ (k : ℕ). IsCatalog k (put_catalog (number_at 8 f 0) (number_at 8 f 8) c.entries)) long (subst (IsCatalog (length page)) catalog h.fits);
        count = sym same.0;
        spelled = front.0;
      },
      catalog,
    )

pub put_none : (page f : List ℕ) (size : ℕ) (put : List FileEntry) → length page ≡ size → page ≡ put_page f size → ArePut size f put → CatalogOf page (put_catalog (number_at 8 f 0) (number_at 8 f 8) put)
put_none page f size put long is h = record {
  fits = subst (λ (k : ℕ). IsCatalog k (put_catalog (number_at 8 f 0) (number_at 8 f 8) put)) (sym long) h.fits;
  spelled = is ∙ ap (λ (t : List ℕ). headed (put_count f) (number_at 8 f 0) (number_at 8 f 8) (t ++ zeros (size - (32 + 48 * put_count f)))) h.spelled
      ∙ ap (λ (k : ℕ). headed k (number_at 8 f 0) (number_at 8 f 8) (flat_map entry_bytes put ++ zeros (size - (32 + 48 * k)))) (sym h.count)
      ∙ ap (λ (k : ℕ). headed (length put) (number_at 8 f 0) (number_at 8 f 8) (flat_map entry_bytes put ++ zeros (k - (32 + 48 * length put)))) (sym long)
      ∙ sym (page_headed page (put_catalog (number_at 8 f 0) (number_at 8 f 8) put) h.fits.entries);
}

pub put_written : (page f : List ℕ) (size n a b at : ℕ) → at ≡ put_begin f → n ≡ put_count f → a ≡ number_at 8 f 0 → b ≡ number_at 8 f 8 → put_begin f + 48 * put_count f ≤ length f
    → page ≡ headed (length (take (48 * n) (take (length f - at) (drop at f))) / 48) a b (take (48 * n) (take (length f - at) (drop at f)) ++ zeros (size - (32 + length (take (48 * n) (take (length f - at) (drop at f)))))) → page ≡ put_page f size
put_written page f size n a b at at_is n_is a_is b_is room is =
    let part : take (48 * n) (take (length f - at) (drop at f)) ≡ bytes_at f (put_begin f) (48 * put_count f) = ap (take (48 * n)) (take_rest f at) ∙ ap (λ (k : ℕ). bytes_at f k (48 * n)) at_is ∙ ap (λ (k : ℕ). bytes_at f (put_begin f) (48 * k)) n_is in
    let long : length (take (48 * n) (take (length f - at) (drop at f))) ≡ 48 * put_count f = ap length part ∙ length-bytes_at f (put_begin f) (48 * put_count f) room in
    let count : length (take (48 * n) (take (length f - at) (drop at f))) / 48 ≡ put_count f = omega (arith, long) in
    is ∙ ap (λ (k : ℕ). headed k a b (take (48 * n) (take (length f - at) (drop at f)) ++ zeros (size - (32 + length (take (48 * n) (take (length f - at) (drop at f))))))) count
    ∙ ap (λ (k : ℕ). headed (put_count f) k b (take (48 * n) (take (length f - at) (drop at f)) ++ zeros (size - (32 + length (take (48 * n) (take (length f - at) (drop at f))))))) a_is
    ∙ ap (λ (k : ℕ). headed (put_count f) (number_at 8 f 0) k (take (48 * n) (take (length f - at) (drop at f)) ++ zeros (size - (32 + length (take (48 * n) (take (length f - at) (drop at f))))))) b_is
    ∙ ap (λ (k : ℕ). headed (put_count f) (number_at 8 f 0) (number_at 8 f 8) (take (48 * n) (take (length f - at) (drop at f)) ++ zeros (size - (32 + k)))) long
    ∙ ap (λ (t : List ℕ). headed (put_count f) (number_at 8 f 0) (number_at 8 f 8) (t ++ zeros (size - (32 + 48 * put_count f)))) part

pub if_none_as : {A : Type 0} (o : Option A) (P Q : Type 0) → (P → Q) → IfNone o P → IfNone o Q
if_none_as None P Q f h = f h
if_none_as (Some x) P Q f h = tt

-- the put files are one list
pub same_put : (size : ℕ) (f : List ℕ) (a b : List FileEntry) → ArePut size f a → ArePut size f b → a ≡ b
same_put size f a b one two =
    let x : List ℕ = bytes_at f (put_begin f) (48 * put_count f) in
    let first : EntriesThere (bytes_at f (put_begin f) (48 * put_count f)) 0 a [] = entries_there (bytes_at f (put_begin f) (48 * put_count f)) [] 0 a one.fits.entries (one.spelled ∙ sym (append-nil (flat_map entry_bytes a))) in
    let second : EntriesThere (bytes_at f (put_begin f) (48 * put_count f)) 0 b [] = entries_there (bytes_at f (put_begin f) (48 * put_count f)) [] 0 b two.fits.entries (two.spelled ∙ sym (append-nil (flat_map entry_bytes b))) in
    sym first.same ∙ ap (λ (k : ℕ). read_entries (bytes_at f (put_begin f) (48 * put_count f)) k 0) (one.count ∙ sym two.count) ∙ second.same

-- ---- what is spelled

pub record FilesGiven (size : ℕ) (bytes : List ℕ) (next last : ℕ) (removed : List ℕ) (put : List FileEntry) (rest : List ℕ) : Type 0 where
  pub next_is : number_at 8 bytes 0 ≡ next
  pub last_is : number_at 8 bytes 8 ≡ last
  pub removed_is : removed_count bytes ≡ length removed
  pub numbers : removed_read bytes ≡ removed
  pub put_is : put_count bytes ≡ length put
  pub begin : put_begin bytes ≤ length bytes
  pub end : put_begin bytes + 48 * put_count bytes ≤ length bytes
  pub are_put : ArePut size bytes put
  pub read : read_entries bytes (put_count bytes) (put_begin bytes) ≡ put
  pub behind : drop (put_begin bytes + 48 * put_count bytes) bytes ≡ rest

pub files_given : (size : ℕ) (bytes rest : List ℕ) (next last : ℕ) (removed : List ℕ) (put : List FileEntry) → IsSaid size (Files next last removed put) → bytes ≡ said_bytes (Files next last removed put) ++ rest → FilesGiven size bytes next last removed put rest
files_given size bytes rest next last removed put fits e =
    let t5 : List ℕ = flat_map entry_bytes put ++ rest in
    let t4 : List ℕ = two_bytes (length put) ++ t5 in
    let t3 : List ℕ = flat_map four_bytes removed ++ t4 in
    let t2 : List ℕ = two_bytes (length removed) ++ t3 in
    let t1 : List ℕ = eight_bytes last ++ t2 in
    let r : ℕ = length removed in
    let few_r : length removed < 2 ^ 16 = omega (arith, fits.few, fits.put_fits.page) in
    let few_p : length put < 2 ^ 16 = omega (arith, fits.put_fits.room, fits.put_fits.page) in
    let d0 : drop 0 bytes ≡ eight_bytes next ++ t1 = e ∙ ungrouped (eight_bytes next) (eight_bytes last) (two_bytes (length removed)) (flat_map four_bytes removed) (two_bytes (length put)) (flat_map entry_bytes put) rest in
    let d8 : drop 8 bytes ≡ t1 = behind_more bytes (eight_bytes next) t1 0 8 8 d0 (eight_is.len next) refl in
    let d16 : drop 16 bytes ≡ t2 = behind_more bytes (eight_bytes last) t2 8 8 16 d8 (eight_is.len last) refl in
    let d18 : drop 18 bytes ≡ t3 = behind_more bytes (two_bytes (length removed)) t3 16 2 18 d16 (two_is.len (length removed)) refl in
    let numbers = numbers_given bytes t4 removed 18 fits.numbers d18 in
    let dput : drop (20 + 4 * length removed) bytes ≡ t5 = behind_more bytes (two_bytes (length put)) t5 (18 + 4 * length removed) 2 (20 + 4 * length removed) numbers.1 (two_is.len (length put)) (omega arith) in
    let removed_is : removed_count bytes ≡ length removed = number_there 2 (2 ^ 16) two_bytes two_is bytes t3 16 (length removed) d16 few_r in
    let put_is : put_count bytes ≡ length put = ap (λ (k : ℕ). number_at 2 bytes (18 + 4 * k)) removed_is ∙ number_there 2 (2 ^ 16) two_bytes two_is bytes t5 (18 + 4 * length removed) (length put) numbers.1 few_p in
    let begin : put_begin bytes ≡ 20 + 4 * length removed = ap (λ (k : ℕ). 20 + 4 * k) removed_is in
    let next_is : number_at 8 bytes 0 ≡ next = number_there 8 (2 ^ 64) eight_bytes eight_is bytes t1 0 next d0 fits.put_fits.next_unique in
    let last_is : number_at 8 bytes 8 ≡ last = number_there 8 (2 ^ 64) eight_bytes eight_is bytes t2 8 last d8 fits.put_fits.last in
    let long : length (flat_map entry_bytes put) ≡ 48 * length put = length-spelled put fits.put_fits.entries in
    let entries : EntriesThere bytes (20 + 4 * length removed) put rest = entries_there bytes rest (20 + 4 * length removed) put fits.put_fits.entries dput in
    let total : length bytes ≡ 8 + 8 + 2 + 4 * length removed + 2 + 48 * length put + length rest =
    omega (arith, ap length d0, length-append (eight_bytes next) t1, length-append (eight_bytes last) t2, length-append (two_bytes (length removed)) t3, length-append (flat_map four_bytes removed) t4, length-append (two_bytes (length put)) t5, length-append (flat_map entry_bytes put) rest, eight_is.len next, eight_is.len last, two_is.len (length removed), two_is.len (length put), length-spelled_numbers removed, long) in
    record {
      next_is = next_is;
      last_is = last_is;
      removed_is = removed_is;
      numbers = ap (λ (k : ℕ). numbers_read bytes k 18) removed_is ∙ numbers.0;
      put_is = put_is;
      begin = omega (arith, begin, total);
      end = omega (arith, begin, put_is, total);
      are_put = record {
        fits = subst (λ (k : ℕ). IsCatalog size (put_catalog k (number_at 8 bytes 8) put)) (sym next_is) (subst (λ (k : ℕ). IsCatalog size (put_catalog next k put)) (sym last_is) fits.put_fits);
        count = sym put_is;
        spelled = ap (λ (k : ℕ). bytes_at bytes k (48 * put_count bytes)) begin ∙ ap (λ (k : ℕ). bytes_at bytes (20 + 4 * length removed) (48 * k)) put_is ∙ bytes_there bytes (flat_map entry_bytes put) rest (20 + 4 * length removed) (48 * length put) dput long;
      };
      read = ap (λ (k : ℕ). read_entries bytes (put_count bytes) k) begin ∙ ap (λ (k : ℕ). read_entries bytes k (20 + 4 * length removed)) put_is ∙ entries.same;
      behind = ap (λ (k : ℕ). drop (k + 48 * put_count bytes) bytes) begin ∙ ap (λ (k : ℕ). drop (20 + 4 * length removed + 48 * k) bytes) put_is ∙ entries.behind;
    }
  where
    ungrouped : (a b c d e f g : List ℕ) → (a ++ (b ++ (c ++ (d ++ (e ++ f))))) ++ g ≡ a ++ (b ++ (c ++ (d ++ (e ++ (f ++ g)))))
    ungrouped a b c d e f g = simp append_assoc

pub no_files : (size : ℕ) (bytes : List ℕ) → ((next last : ℕ) (removed : List ℕ) (put : List FileEntry) (rest : List ℕ) → IsSaid size (Files next last removed put) → FilesGiven size bytes next last removed put rest → ⊥) → (said : Said) (rest : List ℕ) → IsSaid size said → form_of said ≡ FileChanges → bytes ≡ said_bytes said ++ rest → ⊥
no_files size bytes none (Whole image) rest fits is e = absurd cc
no_files size bytes none (Slots cs) rest fits is e = absurd cc
no_files size bytes none (Files next last removed put) rest fits is e = none next last removed put rest fits (files_given size bytes rest next last removed put fits e)

-- ---- what is read

pub says_files : (size : ℕ) (bytes : List ℕ) (n : ℕ) (put : List FileEntry) → IsBytes bytes → n ≡ put_begin bytes + 48 * put_count bytes → n ≤ length bytes → 32 + 48 * removed_count bytes ≤ size → Rising (removed_read bytes) → ArePut size bytes put → NoneOf (removed_read bytes) (map number_of put) → Says size FileChanges bytes n
says_files size bytes n put fits end inside few rising h apart =
    let r : ℕ = removed_count bytes in
    let count : length (removed_read bytes) ≡ removed_count bytes = length-numbers bytes (removed_count bytes) 18 in
    let numbers = numbers_said bytes (removed_count bytes) 18 fits (omega (arith, end, inside)) in
    let said : Said = Files (number_at 8 bytes 0) (number_at 8 bytes 8) (removed_read bytes) put in
    let rest : List ℕ = drop n bytes in
    let d0 : bytes ≡ eight_bytes (number_at 8 bytes 0) ++ drop 8 bytes = number_spelled 8 (2 ^ 64) eight_bytes eight_is bytes 0 8 fits refl (omega (arith, end, inside)) in
    let d8 : drop 8 bytes ≡ eight_bytes (number_at 8 bytes 8) ++ drop 16 bytes = number_spelled 8 (2 ^ 64) eight_bytes eight_is bytes 8 16 fits refl (omega (arith, end, inside)) in
    let d16 : drop 16 bytes ≡ two_bytes (removed_count bytes) ++ drop 18 bytes = number_spelled 2 (2 ^ 16) two_bytes two_is bytes 16 18 fits refl (omega (arith, end, inside)) in
    let dput : drop (18 + 4 * removed_count bytes) bytes ≡ two_bytes (put_count bytes) ++ drop (put_begin bytes) bytes = number_spelled 2 (2 ^ 16) two_bytes two_is bytes (18 + 4 * removed_count bytes) (20 + 4 * removed_count bytes) fits (omega arith) (omega (arith, end, inside)) in
    let dent : drop (put_begin bytes) bytes ≡ flat_map entry_bytes put ++ drop n bytes = bytes_spelled bytes (put_begin bytes) (48 * put_count bytes) n (sym end) ∙ ap (λ (t : List ℕ). t ++ drop n bytes) h.spelled in
    let whole : bytes ≡ said_bytes (Files (number_at 8 bytes 0) (number_at 8 bytes 8) (removed_read bytes) put) ++ drop n bytes =
    d0 ∙ ap (λ (t : List ℕ). eight_bytes (number_at 8 bytes 0) ++ t) (d8 ∙ ap (λ (t : List ℕ). eight_bytes (number_at 8 bytes 8) ++ t) (d16 ∙ ap (λ (k : ℕ). two_bytes k ++ drop 18 bytes) (sym count) ∙ ap (λ (t : List ℕ). two_bytes (length (removed_read bytes)) ++ t) (numbers.1 ∙ ap (λ (t : List ℕ). flat_map four_bytes (removed_read bytes) ++ t) (dput ∙ ap (λ (k : ℕ). two_bytes k ++ drop (put_begin bytes) bytes) (sym h.count) ∙ ap (λ (t : List ℕ). two_bytes (length put) ++ t) dent))))
    ∙ grouped (eight_bytes (number_at 8 bytes 0)) (eight_bytes (number_at 8 bytes 8)) (two_bytes (length (removed_read bytes))) (flat_map four_bytes (removed_read bytes)) (two_bytes (length put)) (flat_map entry_bytes put) (drop n bytes) in
    let total : length (said_bytes (Files (number_at 8 bytes 0) (number_at 8 bytes 8) (removed_read bytes) put)) ≡ n = omega (arith, ap length whole, length-append (said_bytes (Files (number_at 8 bytes 0) (number_at 8 bytes 8) (removed_read bytes) put)) (drop n bytes), length-drop n bytes, inside) in
    record {
      said = Files (number_at 8 bytes 0) (number_at 8 bytes 8) (removed_read bytes) put;
      fits = record { put_fits = h.fits; few = omega (arith, count, few); numbers = numbers.0; rising = rising; apart = apart };
      form_is = refl;
      spelled = ap (take n) whole ∙ take_at (said_bytes (Files (number_at 8 bytes 0) (number_at 8 bytes 8) (removed_read bytes) put)) (drop n bytes) n total;
      inside = inside;
    }
  where
    grouped : (a b c d e f g : List ℕ) → a ++ (b ++ (c ++ (d ++ (e ++ (f ++ g))))) ≡ (a ++ (b ++ (c ++ (d ++ (e ++ f))))) ++ g
    grouped a b c d e f g = simp append_assoc

-- ---- a page that is written of entries in their grammar

pub one_list : (a b : List FileEntry) → AllByRecursion IsEntry a → AllByRecursion IsEntry b → length a ≡ length b → flat_map entry_bytes a ≡ flat_map entry_bytes b → a ≡ b
one_list a b p q len e =
    let first : EntriesThere (flat_map entry_bytes a) 0 a [] = entries_there (flat_map entry_bytes a) [] 0 a p (sym (append-nil (flat_map entry_bytes a))) in
    let second : EntriesThere (flat_map entry_bytes a) 0 b [] = entries_there (flat_map entry_bytes a) [] 0 b q (e ∙ sym (append-nil (flat_map entry_bytes b))) in
    sym first.same ∙ ap (λ (k : ℕ). read_entries (flat_map entry_bytes a) k 0) len ∙ second.same

pub written_is : (page entries : List ℕ) (size next last : ℕ) (es : List FileEntry) → length page ≡ size → AllByRecursion IsEntry es → entries ≡ flat_map entry_bytes es → page ≡ headed (length entries / 48) next last (entries ++ zeros (size - (32 + length entries))) → page ≡ catalog_page (length page) (put_catalog next last es)
written_is page entries size next last es long each is e =
    let len : length entries ≡ 48 * length es = ap length is ∙ length-spelled es each in
    let count : length entries / 48 ≡ length es = omega (arith, len) in
    e ∙ ap (λ (k : ℕ). headed k next last (entries ++ zeros (size - (32 + length entries)))) count
    ∙ ap (λ (k : ℕ). headed (length es) next last (entries ++ zeros (size - (32 + k)))) len
    ∙ ap (λ (k : ℕ). headed (length es) next last (entries ++ zeros (k - (32 + 48 * length es)))) (sym long)
    ∙ ap (λ (t : List ℕ). headed (length es) next last (t ++ zeros (length page - (32 + 48 * length es)))) is
    ∙ sym (page_headed page (put_catalog next last es) each)

pub made_is : (page : List ℕ) (next last : ℕ) (es : List FileEntry) (c : Catalog) → next < 2 ^ 64 → last < 2 ^ 64 → length es < 2 ^ 16 → AllByRecursion IsEntry es → page ≡ catalog_page (length page) (put_catalog next last es) → CatalogOf page c → c ≡ put_catalog next last es
made_is page next last es c ln ll few each e h =
    let small : length c.entries < 2 ^ 16 = omega (arith, h.fits.room, h.fits.page) in
    let same = same_heads (length es) (length c.entries) next c.next_unique last c.last (flat_map entry_bytes es ++ zeros (length page - (32 + 48 * length es))) (flat_map entry_bytes c.entries ++ zeros (length page - (32 + 48 * length c.entries)))
    few small ln h.fits.next_unique ll h.fits.last (sym (page_headed page (put_catalog next last es) each) ∙ sym e ∙ h.spelled ∙ page_headed page c h.fits.entries) in
    let len : length (flat_map entry_bytes es) ≡ length (flat_map entry_bytes c.entries) = omega (arith, length-spelled es each, length-spelled c.entries h.fits.entries, same.0) in
    let front = same_front (flat_map entry_bytes es) (flat_map entry_bytes c.entries) (zeros (length page - (32 + 48 * length es))) (zeros (length page - (32 + 48 * length c.entries))) len same.3 in
    let entries : es ≡ c.entries = one_list es c.entries each h.fits.entries same.0 front.0 in
    sym (ap (λ (k : ℕ). put_catalog k last es) same.1 ∙ ap (λ (k : ℕ). put_catalog c.next_unique k es) same.2 ∙ ap (put_catalog c.next_unique c.last) entries)
