-- Lists of entries that gain one, lose one, or have one changed.
use Rattle.std.proofs.Common.{◌≡◌, ◌≢◌, ℕ, zero, suc, ◌<◌, ◌≤◌, ◌⊎◌, inl, inr, Bool, true, false, not, List, [], ◌∷◌, ◌++◌, length, map, get_or, take, drop, refl, sym, ap, subst, ◌∙◌, arith}
use Rattle.std.specs.Prelude.{Contains, ◌==◌, bytes_eq, if◌then◌else◌, Option, IsSome}
use Rattle.std.specs.List.{AllByRecursion}
use Rattle.std.specs.Cmp.Lexicographic.{slice_cmp, nat_list_cmp_total}
use Rattle.std.specs.Ordering.{nat_cmp, is_lt, ordering_reverse}
use Rattle.std.specs.declared.cmp.Ordering.{Ordering}
use Rattle.std.specs.declared.cmp.Ordering.TheVariants.{Less, Equal, Greater}
use Rattle.std.proofs.lemmas.Bool.Decides.{nat_tests}
use Rattle.std.proofs.lemmas.Map.Lookups.{exact_bytes}
use Rattle.ex_base.specs.declared.names.PageNo.{PageNo}
use Rattle.ex_base.specs.Fields.{IsPageField}
use Rattle.ex_base.specs.Order.{RisingTexts, AllDiffer}
use Rattle.ex_base.proofs.Lists.{texts_tail}
use Rattle.ex_base.proofs.Booleans.{same_number, same_bytes, bytes_test}
use Rattle.object_files.specs.Catalog.{FileEntry, IsEntry, name_of, number_of}
use Rattle.object_files.specs.Edits.{entry_inserted, without_name, has_name, indexed}

-- ---- names in order

abbrev Before : List ℕ → List ℕ → Type 0
Before a b = slice_cmp nat_cmp a b ≡ Less

not_before_self : (a b : List ℕ) → Before a b → a ≡ b → ⊥
not_before_self a b h same =
    let self : slice_cmp nat_cmp a a ≡ Less = ap (slice_cmp nat_cmp a) same ∙ h in
    let turned : Less ≡ Greater = sym self ∙ nat_list_cmp_total.antisymm a a ∙ ap ordering_reverse self in
    absurd cc

turned : (o : Ordering) (a b : List ℕ) → slice_cmp nat_cmp a b ≡ o → o ≢ Less → a ≢ b → Before b a
turned Less a b e not_less other = absurd (not_less refl)
turned Equal a b e not_less other = absurd (other (exact_bytes a b e))
turned Greater a b e not_less other = nat_list_cmp_total.antisymm b a ∙ ap ordering_reverse e

-- of two different names that are not in order, the other two are
pub other_way : (a b : List ℕ) → slice_cmp nat_cmp a b ≢ Less → a ≢ b → Before b a
other_way a b not_less other = turned (slice_cmp nat_cmp a b) a b refl not_less other

not_lt : (o : Ordering) → o ≢ Less → is_lt o ≡ false
not_lt Less other = absurd (other refl)
not_lt Equal other = refl
not_lt Greater other = refl

-- a first name is before each later one
all_later : (x : List ℕ) (es : List FileEntry) → RisingTexts (x ∷ map name_of es) → AllByRecursion (λ e. Before x e.name) es
all_later x [] h = tt
all_later x (e ∷ es) h = (h.0, earlier es (all_later e.name es h.1))
  where
    earlier : (fs : List FileEntry) → AllByRecursion (λ f. Before e.name f.name) fs → AllByRecursion (λ f. Before x f.name) fs
    earlier [] p = tt
    earlier (f ∷ fs) p = (nat_list_cmp_total.trans x e.name f.name h.0 p.0, earlier fs p.1)

each-get : (P : FileEntry → Type 0) (es : List FileEntry) (i : ℕ) (d : FileEntry) → AllByRecursion P es → i < length es → P (get_or es i d)
each-get P [] i d each lt = absurd (omega arith)
each-get P (e ∷ es) zero d each lt = each.0
each-get P (e ∷ es) (suc i) d each lt = each-get P es i d each.1 (omega arith)

-- ---- numbers in a list

abbrev Has : List ℕ → ℕ → Type 0
Has [] n = ⊥
Has (x ∷ xs) n = (x ≡ n) ⊎ Has xs n

has-get : (xs : List ℕ) (k n : ℕ) → k < length xs → get_or xs k n ≡ n → Has xs n
has-get [] k n lt e = absurd (omega arith)
has-get (x ∷ xs) zero n lt e = inl e
has-get (x ∷ xs) (suc k) n lt e = inr (has-get xs k n (omega arith) e)

pub has_of : (xs : List ℕ) (n : ℕ) → Contains xs n → Has xs n
has_of xs n found = has-get xs found.0 n found.1 found.2

pub contains_of : (xs : List ℕ) (n : ℕ) → Has xs n → Contains xs n
contains_of [] n h = absurd h
contains_of (x ∷ xs) n (inl e) = (0, omega arith, e)
contains_of (x ∷ xs) n (inr h) = let found = contains_of xs n h in (suc found.0, omega (arith, found.1), found.2)

-- ---- one more entry

pub inserted_at : (e : FileEntry) (es : List FileEntry) (i : ℕ) (d : FileEntry) → i ≤ length es → ((k : ℕ) → k < i → slice_cmp nat_cmp e.name (get_or es k d).name ≢ Less) → (i < length es → Before e.name (get_or es i d).name) → entry_inserted e es ≡ take i es ++ (e ∷ drop i es)
inserted_at e [] zero d le before later = refl
inserted_at e [] (suc i) d le before later = absurd (omega arith)
inserted_at e (f ∷ fs) zero d le before later = ap (λ (b : Bool). if b then e ∷ f ∷ fs else f ∷ entry_inserted e fs) (ap is_lt (later (omega arith)))
inserted_at e (f ∷ fs) (suc i) d le before later =
    let past : is_lt (slice_cmp nat_cmp e.name f.name) ≡ false = not_lt (slice_cmp nat_cmp e.name f.name) (before 0 (omega arith)) in
    ap (λ (b : Bool). if b then e ∷ f ∷ fs else f ∷ entry_inserted e fs) past ∙ ap (λ (t : List FileEntry). f ∷ t) (inserted_at e fs i d (omega arith) (λ k lt. before (suc k) (omega arith)) (λ lt. later (omega arith)))

pub sorted-more : (e : FileEntry) (es : List FileEntry) (i : ℕ) (d : FileEntry) → i ≤ length es → RisingTexts (map name_of es) → ((k : ℕ) → k < i → Before (get_or es k d).name e.name) → (i < length es → Before e.name (get_or es i d).name) → RisingTexts (map name_of (take i es ++ (e ∷ drop i es)))
sorted-more e [] zero d le h before later = tt
sorted-more e [] (suc i) d le h before later = absurd (omega arith)
sorted-more e (f ∷ fs) zero d le h before later = (later (omega arith), h)
sorted-more e (f ∷ []) (suc zero) d le h before later = (before 0 (omega arith), tt)
sorted-more e (f ∷ []) (suc (suc i)) d le h before later = absurd (omega arith)
sorted-more e (f ∷ g ∷ gs) (suc zero) d le h before later = (before 0 (omega arith), sorted-more e (g ∷ gs) zero d (omega arith) h.1 (λ k lt. absurd (omega arith)) (λ lt. later (omega arith)))
sorted-more e (f ∷ g ∷ gs) (suc (suc i)) d le h before later = (h.0, sorted-more e (g ∷ gs) (suc i) d (omega arith) h.1 (λ k lt. before (suc k) (omega arith)) (λ lt. later (omega arith)))

has-more : (e : FileEntry) (es : List FileEntry) (i n : ℕ) → i ≤ length es → Has (map number_of (take i es ++ (e ∷ drop i es))) n → (e.file_no ≡ n) ⊎ Has (map number_of es) n
has-more e [] zero n le h = h
has-more e [] (suc i) n le h = absurd (omega arith)
has-more e (f ∷ fs) zero n le h = h
has-more e (f ∷ fs) (suc i) n le (inl here) = inr (inl here)
has-more e (f ∷ fs) (suc i) n le (inr there) = elim (has-more e fs i n (omega arith) there) [ inl new ↦ inl new | inr old ↦ inr (inr old) ]

pub numbers-more : (e : FileEntry) (es : List FileEntry) (i : ℕ) → i ≤ length es → AllDiffer (map number_of es) → (Has (map number_of es) e.file_no → ⊥) → AllDiffer (map number_of (take i es ++ (e ∷ drop i es)))
numbers-more e [] zero le h new = (λ found. new (has_of [] e.file_no found), tt)
numbers-more e [] (suc i) le h new = absurd (omega arith)
numbers-more e (f ∷ fs) zero le h new = (λ found. new (has_of (map number_of (f ∷ fs)) e.file_no found), h)
numbers-more e (f ∷ fs) (suc i) le h new = (
  λ found. elim (has-more e fs i f.file_no (omega arith) (has_of _ f.file_no found)) [
    | inl same ↦ new (inl (sym same))
    | inr old ↦ h.0 (contains_of (map number_of fs) f.file_no old)
  ],
  numbers-more e fs i (omega arith) h.1 (λ old. new (inr old)),
)

-- ---- one entry less

keeps : (e : FileEntry) (name : List ℕ) → e.name ≢ name → not (has_name name e) ≡ true
keeps e name other = told (bytes_eq e.name name) (λ t. other (same_bytes e.name name t))
  where
    told : (b : Bool) → (b ≡ true → ⊥) → not b ≡ true
    told true h = absurd (h refl)
    told false h = refl

drops : (e : FileEntry) (name : List ℕ) → e.name ≡ name → not (has_name name e) ≡ false
drops e name same = ap not (bytes_test e.name name same)

without_none : (name : List ℕ) (es : List FileEntry) → AllByRecursion (λ e. Before name e.name) es → without_name name es ≡ es
without_none name [] later = refl
without_none name (e ∷ es) later =
    ap (λ (b : Bool). if b then e ∷ without_name name es else without_name name es) (keeps e name (λ same. not_before_self name e.name later.0 (sym same)))
    ∙ ap (λ (t : List FileEntry). e ∷ t) (without_none name es later.1)

pub without_at : (name : List ℕ) (es : List FileEntry) (i : ℕ) (d : FileEntry) → i < length es → RisingTexts (map name_of es) → (get_or es i d).name ≡ name → without_name name es ≡ take i es ++ drop (suc i) es
without_at name [] i d lt sorted is = absurd (omega arith)
without_at name (e ∷ es) zero d lt sorted is =
    ap (λ (b : Bool). if b then e ∷ without_name name es else without_name name es) (drops e name is)
    ∙ without_none name es (subst (λ (x : List ℕ). AllByRecursion (λ f. Before x f.name) es) is (all_later e.name es sorted))
without_at name (e ∷ es) (suc i) d lt sorted is =
    let later : Before e.name (get_or es i d).name = each-get (λ f. Before e.name f.name) es i d (all_later e.name es sorted) (omega arith) in
    ap (λ (b : Bool). if b then e ∷ without_name name es else without_name name es) (keeps e name (λ same. not_before_self e.name (get_or es i d).name later (same ∙ sym is)))
    ∙ ap (λ (t : List FileEntry). e ∷ t) (without_at name es i d (omega arith) (texts_tail e.name (map name_of es) sorted) is)

pub sorted-less : (es : List FileEntry) (i : ℕ) → i < length es → RisingTexts (map name_of es) → RisingTexts (map name_of (take i es ++ drop (suc i) es))
sorted-less [] i lt h = absurd (omega arith)
sorted-less (e ∷ es) zero lt h = texts_tail e.name (map name_of es) h
sorted-less (e ∷ []) (suc i) lt h = absurd (omega arith)
sorted-less (e ∷ f ∷ []) (suc zero) lt h = tt
sorted-less (e ∷ f ∷ g ∷ gs) (suc zero) lt h = (nat_list_cmp_total.trans e.name f.name g.name h.0 h.1.0, h.1.1)
sorted-less (e ∷ f ∷ fs) (suc (suc i)) lt h = (h.0, sorted-less (f ∷ fs) (suc i) (omega arith) h.1)

has-less : (es : List FileEntry) (i n : ℕ) → i < length es → Has (map number_of (take i es ++ drop (suc i) es)) n → Has (map number_of es) n
has-less [] i n lt h = absurd (omega arith)
has-less (e ∷ es) zero n lt h = inr h
has-less (e ∷ es) (suc i) n lt (inl here) = inl here
has-less (e ∷ es) (suc i) n lt (inr there) = inr (has-less es i n (omega arith) there)

pub numbers-less : (es : List FileEntry) (i : ℕ) → i < length es → AllDiffer (map number_of es) → AllDiffer (map number_of (take i es ++ drop (suc i) es))
numbers-less [] i lt h = absurd (omega arith)
numbers-less (e ∷ es) zero lt h = h.1
numbers-less (e ∷ es) (suc i) lt h = (
  λ found. h.0 (contains_of (map number_of es) e.file_no (has-less es i e.file_no (omega arith) (has_of _ e.file_no found))),
  numbers-less es i (omega arith) h.1,
)

-- ---- one entry that gets an index

other_number : (a b : ℕ) → a ≢ b → (a == b) ≡ false
other_number a b e = grind (arith, nat_tests)

abbrev changed : ℕ → Option PageNo → FileEntry → FileEntry
changed level root e = record e { level = level; root = root }

pub indexed_same : (file_no level : ℕ) (root : Option PageNo) (e : FileEntry) → e.file_no ≡ file_no → indexed file_no level root e ≡ changed level root e
indexed_same file_no level root e is = ap (λ (b : Bool). if b then changed level root e else e) (same_number e.file_no file_no is)

indexed_other : (file_no level : ℕ) (root : Option PageNo) (e : FileEntry) → e.file_no ≢ file_no → indexed file_no level root e ≡ e
indexed_other file_no level root e other = ap (λ (b : Bool). if b then changed level root e else e) (other_number e.file_no file_no other)

indexed_none : (file_no level : ℕ) (root : Option PageNo) (es : List FileEntry) → (Has (map number_of es) file_no → ⊥) → map (indexed file_no level root) es ≡ es
indexed_none file_no level root [] none = refl
indexed_none file_no level root (e ∷ es) none =
    let here = indexed_other file_no level root e (λ is. none (inl is)) in
    let rest = indexed_none file_no level root es (λ h. none (inr h)) in
    cc (here, rest)

has-number : (es : List FileEntry) (i : ℕ) (d : FileEntry) → i < length es → Has (map number_of es) (get_or es i d).file_no
has-number [] i d lt = absurd (omega arith)
has-number (e ∷ es) zero d lt = inl refl
has-number (e ∷ es) (suc i) d lt = inr (has-number es i d (omega arith))

pub indexed_at : (file_no level : ℕ) (root : Option PageNo) (es : List FileEntry) (i : ℕ) (d : FileEntry) → i < length es → AllDiffer (map number_of es) → (get_or es i d).file_no ≡ file_no → map (indexed file_no level root) es ≡ take i es ++ (changed level root (get_or es i d) ∷ drop (suc i) es)
indexed_at file_no level root [] i d lt differ is = absurd (omega arith)
indexed_at file_no level root (e ∷ es) zero d lt differ is =
    let here = indexed_same file_no level root e is in
    let rest = indexed_none file_no level root es (λ h. differ.0 (contains_of (map number_of es) e.file_no (subst (Has (map number_of es)) (sym is) h))) in
    cc (here, rest)
indexed_at file_no level root (e ∷ es) (suc i) d lt differ is =
    let other : e.file_no ≢ file_no = λ same. differ.0 (contains_of (map number_of es) e.file_no (subst (Has (map number_of es)) (is ∙ sym same) (has-number es i d (omega arith)))) in
    let here = indexed_other file_no level root e other in
    let rest = indexed_at file_no level root es i d (omega arith) differ.1 is in
    cc (here, rest)

name-indexed : (b : Bool) (level : ℕ) (root : Option PageNo) (e : FileEntry) → name_of (if b then changed level root e else e) ≡ name_of e
name-indexed true level root e = refl
name-indexed false level root e = refl

number-indexed : (b : Bool) (level : ℕ) (root : Option PageNo) (e : FileEntry) → number_of (if b then changed level root e else e) ≡ number_of e
number-indexed true level root e = refl
number-indexed false level root e = refl

pub names-indexed : (file_no level : ℕ) (root : Option PageNo) (es : List FileEntry) → map name_of (map (indexed file_no level root) es) ≡ map name_of es
names-indexed file_no level root [] = refl
names-indexed file_no level root (e ∷ es) =
    let here = name-indexed (e.file_no == file_no) level root e in
    let rest = names-indexed file_no level root es in
    cc (here, rest)

pub numbers-indexed : (file_no level : ℕ) (root : Option PageNo) (es : List FileEntry) → map number_of (map (indexed file_no level root) es) ≡ map number_of es
numbers-indexed file_no level root [] = refl
numbers-indexed file_no level root (e ∷ es) =
    let here = number-indexed (e.file_no == file_no) level root e in
    let rest = numbers-indexed file_no level root es in
    cc (here, rest)

entry-indexed : (b : Bool) (level : ℕ) (root : Option PageNo) (e : FileEntry) → level ≤ 5 → (0 < level → IsSome root) → IsPageField root → IsEntry e → IsEntry (if b then changed level root e else e)
entry-indexed true level root e high rooted field h = record { name = h.name; level = high; rooted = rooted; root = field; some_no = h.some_no; file_no = h.file_no }
entry-indexed false level root e high rooted field h = h

pub each-indexed : (file_no level : ℕ) (root : Option PageNo) (es : List FileEntry) → level ≤ 5 → (0 < level → IsSome root) → IsPageField root → AllByRecursion IsEntry es → AllByRecursion IsEntry (map (indexed file_no level root) es)
each-indexed file_no level root [] high rooted field each = tt
each-indexed file_no level root (e ∷ es) high rooted field each = (entry-indexed (e.file_no == file_no) level root e high rooted field each.0, each-indexed file_no level root es high rooted field each.1)
