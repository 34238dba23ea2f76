-- Loops that compare the files of a catalog with those of another one.
use Rattle.std.proofs.Common.{◌≡◌, ◌≢◌, ℕ, zero, suc, ◌+◌, ◌<◌, ◌≤◌, Bool, true, false, not, List, [], ◌∷◌, ◌++◌, length, take, map, filter, get_or, Option, Some, None, refl, sym, ap, subst, ◌∙◌, arith, slice_get}
use Rattle.std.specs.Prelude.{Contains, slice_index_or, bytes_eq, if◌then◌else◌}
use Rattle.std.specs.Option.{option_map}
use Rattle.std.specs.List.{flat_map, AllByRecursion}
use Rattle.std.specs.List.Sorted.{IsPermutation, IsNonDecreasing}
use Rattle.std.proofs.lemmas.Option.{slice_get_within, slice_get-get_or}
use Rattle.std.proofs.lemmas.List.{take_more, take_all, append-nil, map-append, length-map}
use Rattle.std.proofs.lemmas.List.Concat.{flat_map-append}
use Rattle.std.proofs.lemmas.List.Elements.{filter-append}
use Rattle.ex_base.specs.Order.{AllDiffer}
use Rattle.ex_base.proofs.Counts.{contains_permuted, permuted_contains, differ_permuted}
use Rattle.ex_base.proofs.Filters.{few_kept, in_kept, kept_in, differ_kept, any_more, any_there}
use Rattle.ex_base.proofs.Members.{in_contains, contains_in, contains_later}
use Rattle.file_index.specs.Index.{Rises}
use Rattle.file_index.proofs.Picking.{rising_of}
use Rattle.object_files.specs.Catalog.{FileEntry, entry_bytes, number_of}
use Rattle.page_entries.specs.FilesAfter.{has_no}
use Rattle.page_entries.specs.Rule.{AreGone, has_same, files_changed}
use Rattle.page_entries.proofs.Listing.{contains_has, has_contains}

-- ---- the numbers that are gone

abbrev pub is_gone : List FileEntry → ℕ → Bool
is_gone new n = not (has_no (map number_of new) n)

gone_step : (p : ℕ → Bool) (es : List FileEntry) (i : ℕ) (e : FileEntry) → slice_get es i ≡ Some e → filter p (map number_of (take (i + 1) es)) ≡ filter p (map number_of (take i es)) ++ (if p e.file_no then e.file_no ∷ [] else [])
gone_step p es i e is =
    let lt = slice_get_within es i e is in
    let here : get_or es i e ≡ e = let s : Some (get_or es i e) ≡ Some e = sym (slice_get-get_or es i e lt) ∙ is in cc in
    ap (λ (t : List FileEntry). filter p (map number_of t)) (take_more es i e lt) ∙ ap (filter p) (map-append number_of (take i es) (get_or es i e ∷ []))
    ∙ filter-append p (map number_of (take i es)) (map number_of (get_or es i e ∷ [])) ∙ ap (λ (x : FileEntry). filter p (map number_of (take i es)) ++ filter p (number_of x ∷ [])) here

pub gone_more : (p : ℕ → Bool) (es : List FileEntry) (i : ℕ) (e : FileEntry) (xs : List ℕ) → slice_get es i ≡ Some e → p e.file_no ≡ true → xs ≡ filter p (map number_of (take i es)) → xs ++ e.file_no ∷ [] ≡ filter p (map number_of (take (i + 1) es))
gone_more p es i e xs is passes so_far =
    ap (λ (t : List ℕ). t ++ e.file_no ∷ []) so_far ∙ sym (gone_step p es i e is ∙ ap (λ (b : Bool). filter p (map number_of (take i es)) ++ (if b then e.file_no ∷ [] else [])) passes)

pub gone_less : (p : ℕ → Bool) (es : List FileEntry) (i : ℕ) (e : FileEntry) (xs : List ℕ) → slice_get es i ≡ Some e → p e.file_no ≡ false → xs ≡ filter p (map number_of (take i es)) → xs ≡ filter p (map number_of (take (i + 1) es))
gone_less p es i e xs is none so_far =
    so_far ∙ sym (gone_step p es i e is ∙ ap (λ (b : Bool). filter p (map number_of (take i es)) ++ (if b then e.file_no ∷ [] else [])) none ∙ append-nil (filter p (map number_of (take i es))))

-- the numbers don't fall
abbrev Climbs : List ℕ → Type 0
Climbs xs = (i j : ℕ) (d : ℕ) → i ≤ j → j < length xs → slice_index_or xs i d ≤ slice_index_or xs j d

all_from : (low : ℕ) (xs : List ℕ) → ((j d : ℕ) → j < length xs → low ≤ slice_index_or xs j d) → ¬ Contains xs low → AllByRecursion (λ (m : ℕ). low + 1 ≤ m) xs
all_from low [] h lacks = tt
all_from low (x ∷ xs) h lacks =
    let other : x ≢ low = λ same. lacks (zero, omega arith, same) in
    let least : low ≤ x = h 0 0 (omega arith) in
    (apart x other least, all_from low xs (λ j d lt. h (suc j) d (omega arith)) (λ later. lacks (contains_later x low xs later)))
  where
    apart : (x : ℕ) → x ≢ low → low ≤ x → low + 1 ≤ x
    apart x other least = omega (arith, other, least)

climbs_rise : (least : ℕ) (xs : List ℕ) → Climbs xs → AllDiffer xs → AllByRecursion (λ (m : ℕ). least ≤ m) xs → Rises least xs
climbs_rise least [] climbs differ low = tt
climbs_rise least (x ∷ xs) climbs differ low =
    (low.0, climbs_rise (x + 1) xs (λ i j d le lt. climbs (suc i) (suc j) d (omega arith) (omega arith)) differ.1 (all_from x xs (λ j d lt. climbs 0 (suc j) d (omega arith) (omega arith)) differ.0))

all_some : (xs : List ℕ) → AllByRecursion (λ (m : ℕ). 0 ≤ m) xs
all_some [] = tt
all_some (x ∷ xs) = (omega arith, all_some xs)

gone_parts : (new : List FileEntry) (n : ℕ) → is_gone new n ≡ true → Contains (map number_of new) n → ⊥
gone_parts new n passes here = let clash : not true ≡ true = ap not (sym (contains_has (map number_of new) n here)) ∙ passes in absurd cc

gone_test : (new : List FileEntry) (n : ℕ) → (Contains (map number_of new) n → ⊥) → is_gone new n ≡ true
gone_test new n none = by_test (has_no (map number_of new) n) refl
  where
    by_test : (b : Bool) → has_no (map number_of new) n ≡ b → not b ≡ true
    by_test true is = absurd (none (has_contains (map number_of new) n is))
    by_test false is = refl

pub sorted_gone : (old new : List FileEntry) (i : ℕ) (xs ys : List ℕ) → AllDiffer (map number_of old) → length old ≤ i → xs ≡ filter (is_gone new) (map number_of (take i old)) → IsPermutation xs ys → IsNonDecreasing ys → AreGone old new ys
sorted_gone old new i xs ys differ le so_far same climbs =
    let all : xs ≡ filter (is_gone new) (map number_of old) = so_far ∙ ap (λ (t : List FileEntry). filter (is_gone new) (map number_of t)) (take_all i old le) in
    let once : AllDiffer ys = differ_permuted xs ys same (subst AllDiffer (sym all) (differ_kept (is_gone new) (map number_of old) differ)) in
    record {
      rising = rising_of 0 ys (climbs_rise 0 ys climbs once (all_some ys));
      those = λ n. (
        λ here. let kept = in_kept (is_gone new) (map number_of old) n (in_contains n (filter (is_gone new) (map number_of old)) (subst (λ (t : List ℕ). Contains t n) all (permuted_contains n xs ys same here))) in
            (contains_in n (map number_of old) kept.0, gone_parts new n kept.1),
        λ there. contains_permuted n xs ys same (subst (λ (t : List ℕ). Contains t n) (sym all) (contains_in n (filter (is_gone new) (map number_of old)) (kept_in (is_gone new) (map number_of old) n (in_contains n (map number_of old) there.0) (gone_test new n there.1)))),
      );
    }

pub few_gone : (old new : List FileEntry) (i : ℕ) (xs : List ℕ) → length old ≤ i → xs ≡ filter (is_gone new) (map number_of (take i old)) → length xs ≤ length old
few_gone old new i xs le so_far =
    let all : xs ≡ filter (is_gone new) (map number_of old) = so_far ∙ ap (λ (t : List FileEntry). filter (is_gone new) (map number_of t)) (take_all i old le) in
    omega (arith, ap length all, few_kept (is_gone new) (map number_of old), length-map old number_of)

-- ---- a file that is the same

mapped : (o : Option FileEntry) (b : List ℕ) → option_map entry_bytes o ≡ Some b → (e : FileEntry) × (o ≡ Some e) × (entry_bytes e ≡ b)
mapped None b is = absurd cc
mapped (Some e) b is = (e, refl, cc)

pub same_here : (es : List FileEntry) (i : ℕ) (b s : List ℕ) (t : Bool) → option_map entry_bytes (slice_get es i) ≡ Some b → t ≡ bytes_eq b s → t ≡ true → true ≡ has_same es s
same_here es i b s t there test is =
    let f = mapped (slice_get es i) b there in
    any_there (λ e. bytes_eq (entry_bytes e) s) es i f.0 f.1 (ap (λ (x : List ℕ). bytes_eq x s) f.2 ∙ sym test ∙ is)

pub same_next : (es : List FileEntry) (i : ℕ) (b s : List ℕ) (t : Bool) → option_map entry_bytes (slice_get es i) ≡ Some b → t ≡ bytes_eq b s → t ≡ false → has_same (take i es) s ≡ false → has_same (take (i + 1) es) s ≡ false
same_next es i b s t there test other none =
    let f = mapped (slice_get es i) b there in
    let lt = slice_get_within es i f.0 f.1 in
    let here : get_or es i f.0 ≡ f.0 = let s : Some (get_or es i f.0) ≡ Some f.0 = sym (slice_get-get_or es i f.0 lt) ∙ f.1 in cc in
    ap (λ (x : List FileEntry). has_same x s) (take_more es i f.0 lt) ∙ any_more (λ e. bytes_eq (entry_bytes e) s) (take i es) (get_or es i f.0) none
    ∙ ap (λ (e : FileEntry). bytes_eq (entry_bytes e) s) here ∙ ap (λ (x : List ℕ). bytes_eq x s) f.2 ∙ sym test ∙ other

pub same_none : (es : List FileEntry) (i : ℕ) (s : List ℕ) → length es ≤ i → has_same (take i es) s ≡ false → false ≡ has_same es s
same_none es i s le none = sym (ap (λ (x : List FileEntry). has_same x s) (sym (take_all i es le)) ∙ none)

-- ---- the files that changed

changed_step : (old new : List FileEntry) (i : ℕ) (e : FileEntry) → slice_get new i ≡ Some e → files_changed old (take (i + 1) new) ≡ files_changed old (take i new) ++ (if not (has_same old (entry_bytes e)) then e ∷ [] else [])
changed_step old new i e is =
    let lt = slice_get_within new i e is in
    let here : get_or new i e ≡ e = let s : Some (get_or new i e) ≡ Some e = sym (slice_get-get_or new i e lt) ∙ is in cc in
    ap (files_changed old) (take_more new i e lt) ∙ filter-append (λ x. not (has_same old (entry_bytes x))) (take i new) (get_or new i e ∷ [])
    ∙ ap (λ (x : FileEntry). files_changed old (take i new) ++ files_changed old (x ∷ [])) here

pub changed_more : (old new : List FileEntry) (i : ℕ) (b bytes : List ℕ) → option_map entry_bytes (slice_get new i) ≡ Some b → has_same old b ≡ false → bytes ≡ flat_map entry_bytes (files_changed old (take i new)) → bytes ++ b ≡ flat_map entry_bytes (files_changed old (take (i + 1) new))
changed_more old new i b bytes there none so_far =
    let f = mapped (slice_get new i) b there in
    let step : files_changed old (take (i + 1) new) ≡ files_changed old (take i new) ++ f.0 ∷ [] =
    changed_step old new i f.0 f.1 ∙ ap (λ (t : Bool). files_changed old (take i new) ++ (if not t then f.0 ∷ [] else [])) (ap (has_same old) f.2 ∙ none) in
    ap (λ (t : List ℕ). t ++ b) so_far ∙ ap (λ (t : List ℕ). flat_map entry_bytes (files_changed old (take i new)) ++ t) (sym (append-nil (entry_bytes f.0) ∙ f.2))
    ∙ sym (ap (flat_map entry_bytes) step ∙ flat_map-append entry_bytes (files_changed old (take i new)) (f.0 ∷ []))

pub changed_less : (old new : List FileEntry) (i : ℕ) (b bytes : List ℕ) → option_map entry_bytes (slice_get new i) ≡ Some b → has_same old b ≡ true → bytes ≡ flat_map entry_bytes (files_changed old (take i new)) → bytes ≡ flat_map entry_bytes (files_changed old (take (i + 1) new))
changed_less old new i b bytes there has so_far =
    let f = mapped (slice_get new i) b there in
    let step : files_changed old (take (i + 1) new) ≡ files_changed old (take i new) =
    changed_step old new i f.0 f.1 ∙ ap (λ (t : Bool). files_changed old (take i new) ++ (if not t then f.0 ∷ [] else [])) (ap (has_same old) f.2 ∙ has) ∙ append-nil (files_changed old (take i new)) in
    so_far ∙ sym (ap (flat_map entry_bytes) step)
