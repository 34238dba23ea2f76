-- Bytes lead to one front, and what is refused leads to none.
use Rattle.std.proofs.Common.{◌≡◌, ◌⊎◌, ℕ, ◌+◌, ◌<◌, ◌≤◌, List, [], ◌∷◌, ◌++◌, length, take, drop, Option, Some, None, refl, sym, ap, subst, ◌∙◌, arith, inl, inr, append_assoc}
use Rattle.std.specs.List.{flat_map}
use Rattle.std.proofs.lemmas.Bool.{cases_lt}
use Rattle.std.proofs.lemmas.List.{append-nil, get_or-append-add, get_or_append_left, get_or_past, length-append, take-append-drop, take-append-le, take_all, take_at}
use Rattle.std.proofs.lemmas.Option.{same_Some}
use Rattle.disk_model.specs.Outside.{BeginsWith}
use Rattle.ex_base.specs.declared.geometry.Geometry.{Geometry}
use Rattle.ex_base.specs.Bytes.{IsBytes}
use Rattle.history_model.specs.Stream.{StreamHead, head_bytes}
use Rattle.history_model.proofs.ItemReadings.{one_head}
use Rattle.history_fronts.specs.Fronts.{FitsTurn, Front, IsNext, Item, Leads, after, begun, spelled, turn_of}
use Rattle.history_fronts.specs.Readings.{Asks, IsFrontOf, IsReadTo, IsRefused, need_behind}
use Rattle.history_fronts.proofs.TurnItems.{one_item, turn_needs, whole_needs}

-- ---- parts of bytes

pub bytes_behind : (a b : List ℕ) → IsBytes (a ++ b) → IsBytes b
bytes_behind a b are i = let e = get_or-append-add a b i 0 in subst (λ (n : ℕ). n < 256) e (are (length a + i))

pub bytes_before : (a b : List ℕ) → IsBytes (a ++ b) → IsBytes a
bytes_before a b are i = elim (cases_lt i (length a)) [
  | inl lt ↦ let e = get_or_append_left a b 0 i lt in subst (λ (n : ℕ). n < 256) e (are i)
  | inr ge ↦ let e = get_or_past a i 0 ge in omega (arith, e)
]

-- of two ways to part a list the shorter front begins the other
longer_begins : (a b c d : List ℕ) → a ++ b ≡ c ++ d → length a ≤ length c → BeginsWith c a
longer_begins a b c d e le =
    let front : take (length a) c ≡ a = sym (take-append-le (length a) c d le) ∙ ap (take (length a)) (sym e) ∙ take_at a b (length a) refl in
    (drop (length a) c, sym (take-append-drop (length a) c) ∙ ap (λ (t : List ℕ). t ++ drop (length a) c) front)

-- ---- asking

asks_at : (need : List ℕ → Option ℕ) (bytes : List ℕ) → Asks need bytes → (k : ℕ) → k ≤ length bytes → (n : ℕ) × (need (take k bytes) ≡ Some n) × (k < n)
asks_at need bytes asks k le = elim (cases_lt k (length bytes)) [
  | inl lt ↦ asks.below k lt
  | inr ge ↦ (asks.need_is, ap need (take_all k bytes ge) ∙ asks.asks, let more = asks.more in omega arith)
]

-- a whole item doesn't ask for more
whole_asks : (g : Geometry) (f : Front) (item : Item) (held behind : List ℕ) → IsBytes (spelled item) → FitsTurn g f.head.leaves (length f.nodes) (turn_of f) item → ((n : ℕ) × (need_behind g f (take (length (spelled item)) held) ≡ Some n) × (length (spelled item) < n)) → held ≡ spelled item ++ behind → ⊥
whole_asks g f item held behind are is (n, asks, lt) e =
    let front : take (length (spelled item)) held ≡ spelled item = ap (take (length (spelled item))) e ∙ take_at (spelled item) behind (length (spelled item)) refl in
    let whole : need_behind g f (spelled item) ≡ Some (length (spelled item)) = whole_needs g f.head.leaves (length f.nodes) (turn_of f) item are is in
    let same : n ≡ length (spelled item) = same_Some n (length (spelled item)) (sym asks ∙ ap (need_behind g f) front ∙ whole) in
    omega arith

-- ---- two ways from one front

-- the second one ends with the first, or goes on with another item
abbrev Parted : Geometry → Front → Front → List ℕ → List ℕ → Type 0
Parted g q r b c = ((q ≡ r) × (b ≡ c)) ⊎ ((item : Item) × (items : List Item) × IsNext g q item × (b ≡ spelled item ++ (flat_map spelled items ++ c)))

pub parted : (g : Geometry) (p q r : Front) (xs ys : List Item) (b c : List ℕ) → Leads g p xs q → Leads g p ys r → IsBytes (flat_map spelled xs) → Asks (need_behind g r) c → flat_map spelled xs ++ b ≡ flat_map spelled ys ++ c → Parted g q r b c
parted g p q r [] [] b c to_q to_r are asks e = inl (sym to_q ∙ to_r, e)
parted g p q r [] (y ∷ ys) b c to_q to_r are asks e =
    inr (y, ys, subst (λ (f : Front). IsNext g f y) to_q to_r.0, e ∙ append_assoc (spelled y) (flat_map spelled ys) c)
parted g p q r (x ∷ xs) [] b c to_q to_r are asks e = absurd (
    let split : (spelled x ++ flat_map spelled xs) ++ b ≡ spelled x ++ (flat_map spelled xs ++ b) = append_assoc (spelled x) (flat_map spelled xs) b in
    let whole : c ≡ spelled x ++ (flat_map spelled xs ++ b) = sym e ∙ split in
    let here : Asks (need_behind g p) c = subst (λ (f : Front). Asks (need_behind g f) c) (sym to_r) asks in
    let le : length (spelled x) ≤ length c = omega (arith, ap length whole, length-append (spelled x) (flat_map spelled xs ++ b)) in
    whole_asks g p x c (flat_map spelled xs ++ b) (bytes_before (spelled x) (flat_map spelled xs) are) to_q.0.fits (asks_at (need_behind g p) c here (length (spelled x)) le) whole)
parted g p q r (x ∷ xs) (y ∷ ys) b c to_q to_r are asks e =
    let split : (spelled x ++ flat_map spelled xs) ++ b ≡ spelled x ++ (flat_map spelled xs ++ b) = append_assoc (spelled x) (flat_map spelled xs) b in
    let one = one_item g p.head.leaves (length p.nodes) (turn_of p) x y (flat_map spelled xs ++ b) (flat_map spelled ys ++ c) to_q.0.fits to_r.0.fits (sym split ∙ e ∙ append_assoc (spelled y) (flat_map spelled ys) c) in
    let on : Leads g (after p x) ys r = subst (λ (i : Item). Leads g (after p i) ys r) (sym one.0) to_r.1 in
    parted g (after p x) q r xs ys b c to_q.1 on (bytes_behind (spelled x) (flat_map spelled xs) are) asks one.1

-- ---- bytes that are read

-- the head stands once, and the items behind it
record SameHead (g : Geometry) (f k : Front) (xs ys : List Item) (b c : List ℕ) : Type 0 where
  from : Leads g (begun f.head) ys k
  behind : flat_map spelled xs ++ b ≡ flat_map spelled ys ++ c

same_head : (g : Geometry) (joined more rest : List ℕ) (f k : Front) (b c : List ℕ) (one : IsFrontOf g joined f b) (two : IsFrontOf g more k c) → more ≡ joined ++ rest → SameHead g f k one.items two.items (b ++ rest) c
same_head g joined more rest f k b c one two e =
    let whole : head_bytes f.head ++ (flat_map spelled one.items ++ (b ++ rest)) ≡ head_bytes k.head ++ (flat_map spelled two.items ++ c) =
    sym (e ∙ ap (λ (t : List ℕ). t ++ rest) one.joined_is ∙ append_assoc (head_bytes f.head) (flat_map spelled one.items ++ b) rest ∙ ap (λ (t : List ℕ). head_bytes f.head ++ t) (append_assoc (flat_map spelled one.items) b rest)) ∙ two.joined_is in
    let head = one_head f.head k.head (flat_map spelled one.items ++ (b ++ rest)) (flat_map spelled two.items ++ c) one.head.fits two.head.fits whole in
    record { from = subst (λ (h : StreamHead). Leads g (begun h) two.items k) (sym head.0) two.leads; behind = head.1 }

items_bytes : (g : Geometry) (joined : List ℕ) (f : Front) (held : List ℕ) → IsBytes joined → (one : IsFrontOf g joined f held) → IsBytes (flat_map spelled one.items ++ held)
items_bytes g joined f held bytes one = bytes_behind (head_bytes f.head) (flat_map spelled one.items ++ held) (subst IsBytes one.joined_is bytes)

held_bytes : (g : Geometry) (joined : List ℕ) (f : Front) (held : List ℕ) → IsBytes joined → IsFrontOf g joined f held → IsBytes held
held_bytes g joined f held bytes one = bytes_behind (flat_map spelled one.items) held (items_bytes g joined f held bytes one)

read_parted : (g : Geometry) (joined more rest : List ℕ) (f k : Front) (b c : List ℕ) → IsBytes joined → IsFrontOf g joined f b → IsFrontOf g more k c → Asks (need_behind g k) c → more ≡ joined ++ rest → Parted g f k (b ++ rest) c
read_parted g joined more rest f k b c bytes one two asks e =
    let s = same_head g joined more rest f k b c one two e in
    parted g (begun f.head) f k one.items two.items (b ++ rest) c one.leads s.from (bytes_before (flat_map spelled one.items) b (items_bytes g joined f b bytes one)) asks s.behind

pub one_front_of : (g : Geometry) (joined : List ℕ) (f k : Front) (held kept : List ℕ) → IsReadTo g joined f held → IsReadTo g joined k kept → (f ≡ k) × (held ≡ kept)
one_front_of g joined f k held kept one two =
    elim (read_parted g joined joined [] f k held kept one.bytes one.front two.front two.asks (sym (append-nil joined))) [
      | inl same ↦ (same.0, sym (append-nil held) ∙ same.1)
      | inr other ↦ absurd (went_on other.0 other.1 other.2 (sym (append-nil held) ∙ other.3))
    ]
  where
    went_on : (item : Item) (items : List Item) → IsNext g f item → held ≡ spelled item ++ (flat_map spelled items ++ kept) → ⊥
    went_on item items next e =
        let le : length (spelled item) ≤ length held = omega (arith, ap length e, length-append (spelled item) (flat_map spelled items ++ kept)) in
        whole_asks g f item held (flat_map spelled items ++ kept) (bytes_before (spelled item) (flat_map spelled items ++ kept) (subst IsBytes e (held_bytes g joined f held one.bytes one.front))) next.fits (asks_at (need_behind g f) held one.asks (length (spelled item)) le) e

-- ---- what is refused

ended : (g : Geometry) (f : Front) (held rest c : List ℕ) → IsRefused g f held → Asks (need_behind g f) c → held ++ rest ≡ c → ⊥
ended g f held rest c refused asks e =
    let le : length held ≤ length c = omega (arith, ap length e, length-append held rest) in
    let front : take (length held) c ≡ held = ap (take (length held)) (sym e) ∙ take_at held rest (length held) refl in
    let at = asks_at (need_behind g f) c asks (length held) le in
    let need : need_behind g f held ≡ Some at.0 = ap (need_behind g f) (sym front) ∙ at.1 in
    elim refused.here [
      | inl none ↦ (let no : None ≡ Some at.0 = sym none ∙ need in absurd (cc))
      | inr whole ↦ (let same : at.0 ≡ length held = same_Some at.0 (length held) (sym need ∙ whole) in absurd (omega (arith, same, at.2)))
    ]

went : (g : Geometry) (f : Front) (held rest more : List ℕ) (item : Item) → IsBytes held → IsRefused g f held → IsNext g f item → held ++ rest ≡ spelled item ++ more → ⊥
went g f held rest more item are refused next e = elim (cases_lt (length (spelled item)) (length held)) [
  | inl lt ↦ shorter lt
  | inr ge ↦ longer ge
]
  where
    shorter : length (spelled item) < length held → ⊥
    shorter lt =
        let begins = longer_begins (spelled item) more held rest (sym e) (omega arith) in
        whole_asks g f item held begins.0 (bytes_before (spelled item) begins.0 (subst IsBytes begins.1 are)) next.fits (refused.below (length (spelled item)) lt) begins.1

    longer : length held ≤ length (spelled item) → ⊥
    longer ge =
        let needs = turn_needs g f.head.leaves (length f.nodes) (turn_of f) held are in
        elim refused.here [
          | inl none ↦ needs.none none item next.fits (longer_begins held rest (spelled item) more e ge)
          | inr whole ↦ (
              let is = needs.whole whole in
              let one = one_item g f.head.leaves (length f.nodes) (turn_of f) is.0 item rest more is.1 next.fits (ap (λ (t : List ℕ). t ++ rest) (sym is.2) ∙ e) in
              refused.none item next (is.2 ∙ ap spelled one.0))
        ]

pub refused_nowhere : (g : Geometry) (joined more rest : List ℕ) (f k : Front) (held c : List ℕ) → IsBytes joined → IsFrontOf g joined f held → IsRefused g f held → IsFrontOf g more k c → Asks (need_behind g k) c → more ≡ joined ++ rest → ⊥
refused_nowhere g joined more rest f k held c bytes one refused two asks e =
    elim (read_parted g joined more rest f k held c bytes one two asks e) [
      | inl same ↦ ended g f held rest c refused (subst (λ (p : Front). Asks (need_behind g p) c) (sym same.0) asks) same.1
      | inr other ↦ went g f held rest (flat_map spelled other.1 ++ c) other.0 (held_bytes g joined f held bytes one) refused other.2 other.3
    ]

pub refused_alone : (g : Geometry) (joined rest : List ℕ) (f k : Front) (held kept : List ℕ) → IsBytes joined → IsFrontOf g joined f held → IsRefused g f held → IsReadTo g (joined ++ rest) k kept → ⊥
refused_alone g joined rest f k held kept bytes one refused two = refused_nowhere g joined (joined ++ rest) rest f k held kept bytes one refused two.front two.asks refl
