-- Versions that stand by the least numbers of their objects stand object by object.
use Rattle.std.proofs.Common.{◌≡◌, ◌<◌, ◌≤◌, inl, inr, ℕ, true, List, [], ◌∷◌, ◌++◌, map, refl, sym, ap, subst, ◌∙◌, arith}
use Rattle.std.specs.Prelude.{Contains}
use Rattle.ex_base.specs.declared.names.Oid.{Oid}
use Rattle.ex_base.specs.declared.names.Root.{Root}
use Rattle.ex_base.specs.Order.{AllDiffer, InOrder}
use Rattle.ex_base.proofs.Counts.{same_or_not}
use Rattle.ex_base.proofs.Members.{In, contains_in, each_in, in_either, in_left, in_right}
use Rattle.object_records.specs.Record.{Large}
use Rattle.version_lists.specs.declared.version.Object.{Object}
use Rattle.version_lists.specs.Objects.{least_of}
use Rattle.version_lists.proofs.Lists as lists
use Rattle.volume_model.proofs.Places.{sep_from, sep_split, sep_to}
use Rattle.volume_model.specs.Volume.{Stored, Volume, stored_in, unique_of}
use Rattle.packing.specs.Dense.{is_of}
use Rattle.packing.specs.Loop.{AreOfObject, IsOfObject, IsStoredAs, number_of}
use Rattle.packing.specs.Objects.{ComesBefore}
use Rattle.packing.specs.declared.objects.LargeVersion.{LargeVersion}
use Rattle.packing.proofs.Grouped.{AreGrouped}
use Rattle.packing.proofs.OfObjects.{of_same_number}

-- ---- in order of least numbers

-- each version's least number is at most that of each later one
abbrev pub Ascend : List LargeVersion → Type 0
Ascend [] = Unit {0}
Ascend (x ∷ xs) = ((y : LargeVersion) → In y xs → x.least ≤ y.least) × Ascend xs

before_least : (x y : LargeVersion) → ComesBefore x y → x.least ≤ y.least
before_least x y (inl lower) = omega (arith, lower)
before_least x y (inr same) = omega (arith, same.0)

pub ascends : (versions : List LargeVersion) → InOrder ComesBefore versions → Ascend versions
ascends [] order = tt
ascends (x ∷ []) order = (λ y h. absurd h, tt)
ascends (x ∷ y ∷ xs) order =
    let rest = ascends (y ∷ xs) order.1 in
    let le = before_least x y order.0 in
    (λ z h. elim h [ inl e ↦ subst (λ (w : LargeVersion). x.least ≤ w.least) (sym e) le | inr later ↦ (let more = rest.0 z later in omega (arith, le, more)) ], rest)

-- ---- the versions with the least number that there is, and those behind them

pub record Split (n : ℕ) (versions : List LargeVersion) : Type 0 where
  pub front : List LargeVersion
  pub back : List LargeVersion
  pub is : versions ≡ front ++ back
  pub same : (x : LargeVersion) → In x front → x.least ≡ n
  pub more : (x : LargeVersion) → In x back → n < x.least
  pub ascend : Ascend back

split : (n : ℕ) (versions : List LargeVersion) → Ascend versions → ((x : LargeVersion) → In x versions → n ≤ x.least) → Split n versions
split n [] up low = record { front = []; back = []; is = refl; same = λ x h. absurd h; more = λ x h. absurd h; ascend = tt }
split n (x ∷ xs) up low = elim (same_or_not x.least n) [
  | inl is ↦
      let rest = split n xs up.1 (λ y h. low y (inr h)) in
      record {
        front = x ∷ rest.front;
        back = rest.back;
        is = ap (λ (ys : List LargeVersion). x ∷ ys) rest.is;
        same = λ y h. elim h [ inl e ↦ ap (λ (w : LargeVersion). w.least) e ∙ is | inr later ↦ rest.same y later ];
        more = rest.more;
        ascend = rest.ascend;
      }
  | inr other ↦
      let first : n < x.least = (let le = low x (inl refl) in omega (arith, le, other)) in
      record {
        front = [];
        back = x ∷ xs;
        is = refl;
        same = λ y h. absurd h;
        more = λ y h. elim h [ inl e ↦ subst (λ (w : LargeVersion). n < w.least) (sym e) first | inr later ↦ (let le = up.0 y later in omega (arith, first, le)) ];
        ascend = up;
      }
]

-- ---- the versions of some objects

-- an object of these of which a version is, with its least number
abbrev pub HasObject : Volume → List Object → LargeVersion → Type 0
HasObject v objects x = (o : Object) × lists.Has objects o × IsOfObject v o x × (x.least ≡ least_of o)

-- These are the large versions of some objects, each of them, and once, by the least numbers of the objects, which rise.
pub record AreByLeast (v : Volume) (objects : List Object) (versions : List LargeVersion) : Type 0 where
  pub rise : lists.Rises least_of objects
  pub apart : (a b : Object) → lists.Has objects a → lists.Has objects b → (s : Stored) → is_of a s ≡ true → is_of b s ≡ true → a ≡ b
  pub each : (x : LargeVersion) → In x versions → HasObject v objects x
  pub all : (o : Object) → lists.Has objects o → (s : Stored) (root : Root) → Contains (stored_in v) s → is_of o s ≡ true → s.body.content ≡ Large root → (x : LargeVersion) × In x versions × IsStoredAs v s x
  pub once : AllDiffer (map number_of versions)
  pub ascend : Ascend versions

-- the record of a version is of the version's object
of_stored : (v : Volume) (o : Object) (s : Stored) (x : LargeVersion) → IsStoredAs v s x → IsOfObject v o x → is_of o s ≡ true
of_stored v o s x stored of =
    let same : unique_of s ≡ unique_of of.0 = ap (λ (i : Oid). i.unique) (stored.oid ∙ sym of.1.oid) in
    of_same_number o s of.0 same ∙ of.2

once_split : (front back : List LargeVersion) → AllDiffer (map number_of (front ++ back)) → AllDiffer (map number_of front) × AllDiffer (map number_of back)
once_split front back once = let both = sep_split number_of front back (sep_from number_of (front ++ back) once) in (sep_to number_of front both.0, sep_to number_of back both.1)

module _ (v : Volume) (o : Object) (objects : List Object) (versions : List LargeVersion) (l : AreByLeast v (o ∷ objects) versions) where
  low : (x : LargeVersion) → In x versions → least_of o ≤ x.least
  low x h = let of = l.each x h in elim of.1 [
    | inl first ↦ omega (arith, of.3, ap least_of first)
    | inr later ↦ (let less = l.rise.0 of.0 later in omega (arith, less, of.3))
  ]

  parts : Split (least_of o) versions
  parts = split (least_of o) versions l.ascend low

  of_front : (x : LargeVersion) → In x parts.front → In x versions
  of_front x h = subst (In x) (sym parts.is) (in_left x parts.front parts.back h)

  of_back : (x : LargeVersion) → In x parts.back → In x versions
  of_back x h = subst (In x) (sym parts.is) (in_right x parts.front parts.back h)

  -- a version of the first object stands in front, and each other one behind
  is_first : (x : LargeVersion) → In x parts.front → IsOfObject v o x
  is_first x h =
      let of = l.each x (of_front x h) in
      elim of.1 [
        | inl first ↦ subst (λ (k : Object). IsOfObject v k x) (sym first) of.2
        | inr later ↦ absurd (let less = l.rise.0 of.0 later in omega (arith, less, of.3, parts.same x h))
      ]

  is_later : (x : LargeVersion) → In x parts.back → HasObject v objects x
  is_later x h =
      let of = l.each x (of_back x h) in
      elim of.1 [
        | inl first ↦ absurd (omega (arith, parts.more x h, of.3, ap least_of first))
        | inr later ↦ (of.0, later, of.2, of.3)
      ]

  first_apart : (other : Object) → lists.Has objects other → (s : Stored) → is_of o s ≡ true → is_of other s ≡ true → ⊥
  first_apart other later s is also =
      let same = l.apart o other (inl refl) (inr later) s is also in
      (let less = l.rise.0 other later in omega (arith, less, ap least_of same))

  are_first : AreOfObject v o parts.front
  are_first = record {
    each = each_in (IsOfObject v o) parts.front is_first;
    all = λ s root there is large.
        let found = l.all o (inl refl) s root there is large in
        elim (in_either found.0 parts.front parts.back (subst (In found.0) parts.is found.1)) [
          | inl front ↦ (found.0, contains_in found.0 parts.front front, found.2)
          | inr back ↦ let of = is_later found.0 back in absurd (first_apart of.0 of.1 s is (of_stored v of.0 s found.0 found.2 of.2))
        ];
    once = let both = once_split parts.front parts.back (subst (λ (xs : List LargeVersion). AllDiffer (map number_of xs)) parts.is l.once) in both.0;
  }

  later_by_least : AreByLeast v objects parts.back
  later_by_least = record {
    rise = l.rise.1;
    apart = λ a b h k s is also. l.apart a b (inr h) (inr k) s is also;
    each = is_later;
    all = λ other later s root there is large.
        let found = l.all other (inr later) s root there is large in
        elim (in_either found.0 parts.front parts.back (subst (In found.0) parts.is found.1)) [
          | inl front ↦ absurd (first_apart other later s (of_stored v o s found.0 found.2 (is_first found.0 front)) is)
          | inr back ↦ (found.0, back, found.2)
        ];
    once = let both = once_split parts.front parts.back (subst (λ (xs : List LargeVersion). AllDiffer (map number_of xs)) parts.is l.once) in both.1;
    ascend = parts.ascend;
  }

none_listed : (v : Volume) (versions : List LargeVersion) → AreByLeast v [] versions → versions ≡ []
none_listed v [] l = refl
none_listed v (x ∷ versions) l = absurd (let of = l.each x (inl refl) in of.1)

pub grouped : (v : Volume) (objects : List Object) (versions : List LargeVersion) → AreByLeast v objects versions → AreGrouped v objects versions
grouped v [] versions l = none_listed v versions l
grouped v (o ∷ objects) versions l =
    let both = parts v o objects versions l in (
      both.front,
      both.back,
      both.is,
      are_first v o objects versions l,
      each_in (λ (x : LargeVersion). x.least ≡ least_of o) both.front both.same,
      each_in (λ (x : LargeVersion). least_of o < x.least) both.back both.more,
      grouped v objects both.back (later_by_least v o objects versions l),
    )
