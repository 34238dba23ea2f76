-- A catalog page whose entries are replaced by others in one run of bytes.
use Rattle.std.proofs.Common.{◌≡◌, ℕ, ◌+◌, ◌-◌, ◌*◌, ◌≤◌, List, [], ◌∷◌, ◌++◌, length, map, take, drop, refl, sym, ap, ◌∙◌, arith, append_assoc}
use Rattle.std.specs.List.{flat_map, AllByRecursion}
use Rattle.std.proofs.lemmas.List.{length-append, length-replicate, take_at, drop_at, drop-drop, drop-replicate, replicate-append-replicate}
use Rattle.ex_base.specs.Bytes.{bytes_at, written}
use Rattle.ex_base.specs.Fields.{two_bytes, eight_bytes, zeros}
use Rattle.ex_base.specs.Order.{RisingTexts, AllDiffer}
use Rattle.ex_base.proofs.FieldLaws.{two_is, eight_is}
use Rattle.ex_base.proofs.Places.{bytes_there}
use Rattle.object_files.specs.Catalog.{FileEntry, Catalog, entry_bytes, IsEntry, name_of, number_of, CatalogOf}
use Rattle.object_files.specs.Edits.{with_entries}
use Rattle.object_files.proofs.CatalogLaws.{headed, page_headed, length-spelled}

pub headed-append : (n next last : ℕ) (x y : List ℕ) → headed n next last x ++ y ≡ headed n next last (x ++ y)
headed-append n next last x y = simp append_assoc

pub length-headed : (n next last : ℕ) (x : List ℕ) → length (headed n next last x) ≡ 32 + length x
length-headed n next last x =
    omega (arith, length-append (two_bytes n) (zeros 4 ++ (eight_bytes next ++ (eight_bytes last ++ (zeros 8 ++ x)))), length-append (eight_bytes next) (eight_bytes last ++ (zeros 8 ++ x)), length-append (eight_bytes last) (zeros 8 ++ x), two_is.len n, eight_is.len next, eight_is.len last)

take-headed : (n next last at : ℕ) (x y : List ℕ) → 32 + length x ≡ at → take at (headed n next last (x ++ y)) ≡ headed n next last x
take-headed n next last at x y is =
    ap (take at) (sym (headed-append n next last x y)) ∙ take_at (headed n next last x) y at (omega (arith, length-headed n next last x))

pub drop-headed : (n next last at : ℕ) (x y : List ℕ) → 32 + length x ≡ at → drop at (headed n next last (x ++ y)) ≡ y
drop-headed n next last at x y is =
    ap (drop at) (sym (headed-append n next last x y)) ∙ drop_at (headed n next last x) y at (omega (arith, length-headed n next last x))

pub count_written : (n m next last : ℕ) (x : List ℕ) → written (headed n next last x) 2 (two_bytes m) ≡ headed m next last x
count_written n m next last x =
    let behind : List ℕ = zeros 4 ++ (eight_bytes next ++ (eight_bytes last ++ (zeros 8 ++ x))) in
    ap (λ (k : ℕ). (1 ∷ 0 ∷ []) ++ two_bytes m ++ drop (2 + k) (headed n next last x)) (two_is.len m)
    ∙ ap (λ (t : List ℕ). 1 ∷ 0 ∷ (two_bytes m ++ t)) (drop_at (two_bytes n) behind 2 (two_is.len n))

-- the bytes of entries M, with A before them and B behind them, give way to N
pub record Spliced (image A M B : List ℕ) (n next last : ℕ) : Type 0 where
  pub spelled : image ≡ headed n next last (A ++ (M ++ (B ++ zeros (length image - (32 + (length A + (length M + length B)))))))

pub spliced : (image A M B N : List ℕ) (n next last start old_end end limit : ℕ) → Spliced image A M B n next last → start ≡ 32 + length A → old_end ≡ start + length M → end ≡ old_end + length B → start + length N + length B ≤ limit → end ≤ limit → limit ≤ length image
    → take start image ++ N ++ bytes_at image old_end (end - old_end) ++ zeros (limit - (start + length N + (end - old_end))) ++ drop limit image
    ≡ headed n next last (A ++ (N ++ (B ++ zeros (length image - (32 + (length A + (length N + length B)))))))
spliced image A M B N n next last start old_end end limit s a m b fits inside room =
    let size : ℕ = length image in
    let left : ℕ = length image - (32 + (length A + (length M + length B))) in
    let is : image ≡ headed n next last (A ++ (M ++ (B ++ zeros left))) = s.spelled in
    let am : A ++ (M ++ (B ++ zeros left)) ≡ (A ++ M) ++ (B ++ zeros left) = sym (append_assoc A M (B ++ zeros left)) in
    let front : take start image ≡ headed n next last A = ap (take start) is ∙ take-headed n next last start A (M ++ (B ++ zeros left)) (omega arith) in
    let behind : drop old_end image ≡ B ++ zeros left = ap (drop old_end) is ∙ ap (λ (t : List ℕ). drop old_end (headed n next last t)) am ∙ drop-headed n next last old_end (A ++ M) (B ++ zeros left) (omega (arith, length-append A M)) in
    let count : end - old_end ≡ length B = omega arith in
    let moved : bytes_at image old_end (end - old_end) ≡ B = bytes_there image B (zeros left) old_end (end - old_end) behind (sym count) in
    let amb : A ++ (M ++ (B ++ zeros left)) ≡ ((A ++ M) ++ B) ++ zeros left = am ∙ sym (append_assoc (A ++ M) B (zeros left)) in
    let rest : drop end image ≡ zeros left = ap (drop end) is ∙ ap (λ (t : List ℕ). drop end (headed n next last t)) amb ∙ drop-headed n next last end ((A ++ M) ++ B) (zeros left) (omega (arith, length-append (A ++ M) B, length-append A M)) in
    let more : limit ≡ end + (limit - end) = omega arith in
    let last_zeros : drop limit image ≡ zeros (left - (limit - end)) = zeros_behind image left end limit rest inside in
    let filled : ℕ = limit - (start + length N + (end - old_end)) in
    let total : filled + (left - (limit - end)) ≡ length image - (32 + (length A + (length N + length B))) = omega (arith, count) in
    ap (λ (t : List ℕ). t ++ N ++ bytes_at image old_end (end - old_end) ++ zeros filled ++ drop limit image) front
    ∙ ap (λ (t : List ℕ). headed n next last A ++ N ++ t ++ zeros filled ++ drop limit image) moved
    ∙ ap (λ (t : List ℕ). headed n next last A ++ N ++ B ++ zeros filled ++ t) last_zeros
    ∙ joined (headed n next last A) N B (zeros filled) (zeros (left - (limit - end)))
    ∙ ap (λ (t : List ℕ). headed n next last A ++ (N ++ (B ++ t))) (replicate-append-replicate filled (left - (limit - end)) 0 ∙ ap zeros total)
    ∙ headed-append n next last A (N ++ (B ++ zeros (length image - (32 + (length A + (length N + length B))))))
  where
    joined : (a b c d e : List ℕ) → a ++ b ++ c ++ d ++ e ≡ a ++ (b ++ (c ++ (d ++ e)))
    joined a b c d e = simp append_assoc

    zeros_behind : (x : List ℕ) (k e l : ℕ) → drop e x ≡ zeros k → e ≤ l → drop l x ≡ zeros (k - (l - e))
    zeros_behind x k e l is le =
        let split : l ≡ e + (l - e) = omega arith in
        ap (λ (j : ℕ). drop j x) split ∙ sym (drop-drop (l - e) e x) ∙ ap (drop (l - e)) is ∙ drop-replicate (l - e) k 0

-- ---- lists of entries and their bytes

pub flat-append : (xs ys : List FileEntry) → flat_map entry_bytes (xs ++ ys) ≡ flat_map entry_bytes xs ++ flat_map entry_bytes ys
flat-append [] ys = refl
flat-append (x ∷ xs) ys = ap (λ (t : List ℕ). entry_bytes x ++ t) (flat-append xs ys) ∙ sym (append_assoc (entry_bytes x) (flat_map entry_bytes xs) (flat_map entry_bytes ys))

-- the entries of a page fs those before, those that change and those behind
pub split_page : (image : List ℕ) (c : Catalog) (fs ms bs : List FileEntry) → CatalogOf image c → c.entries ≡ fs ++ (ms ++ bs) → Spliced image (flat_map entry_bytes fs) (flat_map entry_bytes ms) (flat_map entry_bytes bs) (length c.entries) c.next_unique c.last
split_page image c fs ms bs h is =
    let A : List ℕ = flat_map entry_bytes fs in
    let M : List ℕ = flat_map entry_bytes ms in
    let B : List ℕ = flat_map entry_bytes bs in
    let bytes : flat_map entry_bytes c.entries ≡ A ++ (M ++ B) = ap (flat_map entry_bytes) is ∙ flat-append fs (ms ++ bs) ∙ ap (λ (t : List ℕ). A ++ t) (flat-append ms bs) in
    let count : 48 * length c.entries ≡ length A + (length M + length B) = omega (arith, length-spelled c.entries h.fits.entries, ap length bytes, length-append A (M ++ B), length-append M B) in
    let rest : List ℕ = zeros (length image - (32 + (length A + (length M + length B)))) in
    record {
      spelled = h.spelled ∙ page_headed image c h.fits.entries
          ∙ ap (λ (k : ℕ). headed (length c.entries) c.next_unique c.last (flat_map entry_bytes c.entries ++ zeros (length image - (32 + k)))) count
          ∙ ap (λ (t : List ℕ). headed (length c.entries) c.next_unique c.last (t ++ rest)) bytes
          ∙ ap (headed (length c.entries) c.next_unique c.last) (append_assoc A (M ++ B) rest ∙ ap (λ (t : List ℕ). A ++ t) (append_assoc M B rest));
    }

-- what has to hold of new entries
pub record CanStand (size : ℕ) (c : Catalog) (entries : List FileEntry) : Type 0 where
  pub each : AllByRecursion IsEntry entries
  pub sorted : RisingTexts (map name_of entries)
  pub numbers : AllDiffer (map number_of entries)
  pub room : 32 + 48 * length entries ≤ size

-- the page with the bytes of new entries is the catalog with these entries
pub page_of : (image new : List ℕ) (c : Catalog) (fs ns bs : List FileEntry) → CatalogOf image c → CanStand (length image) c (fs ++ (ns ++ bs)) → new ≡ headed (length (fs ++ (ns ++ bs))) c.next_unique c.last (flat_map entry_bytes fs ++ (flat_map entry_bytes ns ++ (flat_map entry_bytes bs ++ zeros (length image - (32 + (length (flat_map entry_bytes fs) + (length (flat_map entry_bytes ns) + length (flat_map entry_bytes bs)))))))) → CatalogOf new (with_entries c (fs ++ (ns ++ bs)))
page_of image new c fs ns bs h can is =
    let entries : List FileEntry = fs ++ (ns ++ bs) in
    let A : List ℕ = flat_map entry_bytes fs in
    let N : List ℕ = flat_map entry_bytes ns in
    let B : List ℕ = flat_map entry_bytes bs in
    let bytes : flat_map entry_bytes (fs ++ (ns ++ bs)) ≡ A ++ (N ++ B) = flat-append fs (ns ++ bs) ∙ ap (λ (t : List ℕ). A ++ t) (flat-append ns bs) in
    let count : 48 * length (fs ++ (ns ++ bs)) ≡ length A + (length N + length B) = omega (arith, length-spelled (fs ++ (ns ++ bs)) can.each, ap length bytes, length-append A (N ++ B), length-append N B) in
    let rest : List ℕ = zeros (length image - (32 + (length A + (length N + length B)))) in
    let spelled : new ≡ headed (length (fs ++ (ns ++ bs))) c.next_unique c.last (flat_map entry_bytes (fs ++ (ns ++ bs)) ++ zeros (length image - (32 + 48 * length (fs ++ (ns ++ bs))))) =
    is ∙ ap (headed (length (fs ++ (ns ++ bs))) c.next_unique c.last) (ap (λ (t : List ℕ). A ++ t) (sym (append_assoc N B rest)) ∙ sym (append_assoc A (N ++ B) rest))
    ∙ ap (λ (t : List ℕ). headed (length (fs ++ (ns ++ bs))) c.next_unique c.last (t ++ rest)) (sym bytes)
    ∙ ap (λ (k : ℕ). headed (length (fs ++ (ns ++ bs))) c.next_unique c.last (flat_map entry_bytes (fs ++ (ns ++ bs)) ++ zeros (length image - (32 + k)))) (sym count) in
    let same : length new ≡ length image = omega (arith, ap length spelled, length-headed (length (fs ++ (ns ++ bs))) c.next_unique c.last (flat_map entry_bytes (fs ++ (ns ++ bs)) ++ zeros (length image - (32 + 48 * length (fs ++ (ns ++ bs))))), length-append (flat_map entry_bytes (fs ++ (ns ++ bs))) (zeros (length image - (32 + 48 * length (fs ++ (ns ++ bs))))), length-replicate {A = ℕ} (length image - (32 + 48 * length (fs ++ (ns ++ bs)))) 0, length-spelled (fs ++ (ns ++ bs)) can.each, can.room) in
    record {
      fits = record {
        some_next = h.fits.some_next;
        next_unique = h.fits.next_unique;
        last = h.fits.last;
        entries = can.each;
        sorted = can.sorted;
        numbers = can.numbers;
        room = omega (arith, same, can.room);
        page = omega (arith, same, h.fits.page);
      };
      spelled = spelled ∙ ap (λ (k : ℕ). headed (length (fs ++ (ns ++ bs))) c.next_unique c.last (flat_map entry_bytes (fs ++ (ns ++ bs)) ++ zeros (k - (32 + 48 * length (fs ++ (ns ++ bs)))))) (sym same)
          ∙ sym (page_headed new (with_entries c (fs ++ (ns ++ bs))) can.each);
    }
