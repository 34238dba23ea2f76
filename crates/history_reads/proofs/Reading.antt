-- How a reading goes on.
use Rattle.std.proofs.Common.{◌≡◌, ℕ, ◌+◌, ◌-◌, ◌<◌, ◌≤◌, List, [], ◌∷◌, ◌++◌, length, take, drop, Option, Some, None, sym, ap, subst, ◌∙◌, arith, inl, inr, append_assoc}
use Rattle.std.specs.Prelude.{slice_index}
use Rattle.std.specs.List.{flat_map}
use Rattle.std.proofs.lemmas.Bool.{cases_lt}
use Rattle.std.proofs.lemmas.List.{append-nil, get_or-append-add, get_or_append_left, length-take-le, take-append-drop, take-append-le}
use Rattle.std.proofs.Math.Seq.{take-append-add}
use Rattle.ex_base.specs.declared.geometry.Geometry.{Geometry}
use Rattle.ex_base.specs.Bytes.{IsBytes}
use Rattle.ex_base.proofs.FieldLaws.{IsBytes-take}
use Rattle.history_model.specs.Stream.{StreamHead, head_bytes}
use Rattle.history_items.specs.ItemLaws.{NeedStays}
use Rattle.history_fronts.specs.Fronts.{FitsTurn, Front, IsDumpHead, IsNext, IsSound, Item, Leads, after, begun, spelled, turn_of}
use Rattle.history_fronts.specs.Readings.{Asks, AsksBelow, IsFrontOf, IsReadTo, IsRefused, NoneBegins, need_behind}
use Rattle.history_fronts.proofs.Begins.{head_after, none_begins}
use Rattle.history_fronts.proofs.Follows.{bytes_behind, refused_alone}
use Rattle.history_fronts.proofs.TurnItems.{one_item, turn_needs}
use Rattle.history_reads.specs.declared.progress.Progress.{Progress}
use Rattle.history_reads.specs.declared.steps.Filled.{Filled}
use Rattle.history_reads.specs.declared.steps.Filled.TheVariants.{More, Whole, Refused}
use Rattle.history_reads.specs.Kept.{Keeps}
use Rattle.history_reads.specs.Reads.{CantBeRead, HasItem, IsRead, need_now}
use Rattle.history_reads.specs.Steps.{FillIsRead, IsFilled, Took}
use Rattle.history_reads.proofs.Behind.{need_same, none_asks, turn_stays}

-- ---- bytes

pub bytes_both : (a b : List ℕ) → IsBytes a → IsBytes b → IsBytes (a ++ b)
bytes_both a b p q i = elim (cases_lt i (length a)) [
  | inl lt ↦ (let e = get_or_append_left a b 0 i lt in omega (arith, e, p i))
  | inr ge ↦ (
      let place : length a + (i - length a) ≡ i = omega arith in
      let e : slice_index (a ++ b) i ≡ slice_index b (i - length a) = ap (slice_index (a ++ b)) (sym place) ∙ get_or-append-add a b (i - length a) 0 in
      omega (arith, e, q (i - length a)))
]

-- ---- some bytes more

front_on : (g : Geometry) (joined : List ℕ) (f : Front) (held more : List ℕ) → IsFrontOf g joined f held → IsFrontOf g (joined ++ more) f (held ++ more)
front_on g joined f held more one = record {
  items = one.items;
  head = one.head;
  leads = one.leads;
  joined_is =
      ap (λ (t : List ℕ). t ++ more) one.joined_is
      ∙ append_assoc (head_bytes f.head) (flat_map spelled one.items ++ held) more
      ∙ ap (λ (t : List ℕ). head_bytes f.head ++ t) (append_assoc (flat_map spelled one.items) held more);
}

-- a need that isn't met stays at each front
below_on : (need : List ℕ → Option ℕ) (held more : List ℕ) (asks : Asks need held) → NeedStays need → length (held ++ more) ≤ asks.need_is → AsksBelow need (held ++ more)
below_on need held more asks stays few k lt = elim (cases_lt k (length held)) [
  | inl less ↦ (
      let at = asks.below k less in
      (at.0, ap need (take-append-le k held more (omega arith)) ∙ at.1, at.2))
  | inr ge ↦ (
      let split : take k (held ++ more) ≡ held ++ take (k - length held) more = ap (λ (n : ℕ). take n (held ++ more)) (let e : k ≡ length held + (k - length held) = omega arith in e) ∙ take-append-add held more (k - length held) in
      let len : length (held ++ take (k - length held) more) ≡ k = ap length (sym split) ∙ length-take-le k (held ++ more) (omega arith) in
      (asks.need_is, ap need split ∙ stays held (take (k - length held) more) asks.need_is asks.asks (omega (arith, len)), omega arith))
]

-- ---- a step of gathering

-- the joined bytes with what was taken of a piece
record IsOn (g : Geometry) (joined : List ℕ) (p : Progress) (held : List ℕ) (f : Front) : Type 0 where
  bytes : IsBytes joined
  front : IsFrontOf g joined f held
  below : AsksBelow (need_behind g f) held
  keeps : Keeps g f p

took_on : (g : Geometry) (joined : List ℕ) (p : Progress) (was now piece : List ℕ) (taken : ℕ) → IsBytes piece → Took p was now piece taken → (is : IsRead g joined p was) → IsOn g (joined ++ take taken piece) p now is.front
took_on g joined p was now piece taken are took is =
    let more : List ℕ = take taken piece in
    let n : ℕ = is.to.asks.need_is in
    let asked : need_now p was ≡ Some is.to.asks.need_is = need_same g is.front p was is.keeps ∙ is.to.asks.asks in
    let few : length (was ++ take taken piece) ≤ is.to.asks.need_is = omega (arith, ap length took.held, took.asked is.to.asks.need_is asked) in
    record {
      bytes = bytes_both joined (take taken piece) is.to.bytes (IsBytes-take taken piece are);
      front = subst (IsFrontOf g (joined ++ take taken piece) is.front) (sym took.held) (front_on g joined is.front was (take taken piece) is.to.front);
      below = subst (AsksBelow (need_behind g is.front)) (sym took.held) (below_on (need_behind g is.front) was (take taken piece) is.to.asks (turn_stays g is.front.head.leaves (length is.front.nodes) (turn_of is.front)) few);
      keeps = is.keeps;
    }

on_bytes : (g : Geometry) (joined : List ℕ) (p : Progress) (held : List ℕ) (f : Front) → IsOn g joined p held f → IsBytes held
on_bytes g joined p held f on =
    bytes_behind (flat_map spelled on.front.items) held (bytes_behind (head_bytes f.head) (flat_map spelled on.front.items ++ held) (subst IsBytes on.front.joined_is on.bytes))

-- what is refused can't be read, whatever follows
pub cant_read : (g : Geometry) (joined rest : List ℕ) (f : Front) (held : List ℕ) → IsBytes joined → IsFrontOf g joined f held → IsRefused g f held → CantBeRead g (joined ++ rest)
cant_read g joined rest f held bytes one refused = record {
  none = λ more. subst (NoneBegins g) (sym (append_assoc joined rest more)) (none_begins g joined (rest ++ more) f held bytes one refused);
  alone = λ more kept p is. refused_alone g joined (rest ++ more) f is.front held kept bytes one refused (subst (λ (t : List ℕ). IsReadTo g t is.front kept) (append_assoc joined rest more) is.to);
}

none_refused : (g : Geometry) (joined : List ℕ) (p : Progress) (held : List ℕ) (f : Front) → IsOn g joined p held f → need_now p held ≡ None → IsRefused g f held
none_refused g joined p held f on none =
    let needs = turn_needs g f.head.leaves (length f.nodes) (turn_of f) held (on_bytes g joined p held f on) in
    let need : need_behind g f held ≡ None = sym (need_same g f p held on.keeps) ∙ none in
    record {
      below = on.below;
      here = inl need;
      none = λ item next e. needs.none need item next.fits ([], sym e ∙ sym (append-nil held));
    }

pub fill_read : (p : Progress) (was now piece : List ℕ) (filled : Filled) → IsBytes piece → IsFilled p was now piece filled → FillIsRead p was now piece filled
fill_read p was now piece (More taken) are (took, asking) g joined is =
    let on = took_on g joined p was now piece taken are took is in
    record {
      front = is.front;
      to = record {
        bytes = on.bytes;
        front = on.front;
        asks = record { below = on.below; need_is = asking.0; asks = sym (need_same g is.front p now is.keeps) ∙ asking.1; more = asking.2 };
      };
      keeps = is.keeps;
    }
fill_read p was now piece (Whole taken) are (took, whole) g joined is =
    let on = took_on g joined p was now piece taken are took is in
    record { front = is.front; bytes = on.bytes; to = on.front; below = on.below; whole = sym (need_same g is.front p now is.keeps) ∙ whole; keeps = is.keeps }
fill_read p was now piece Refused are (taken, took, none) g joined is =
    let on = took_on g joined p was now piece taken are took is in
    let all : (joined ++ take taken piece) ++ drop taken piece ≡ joined ++ piece = append_assoc joined (take taken piece) (drop taken piece) ∙ ap (λ (t : List ℕ). joined ++ t) (take-append-drop taken piece) in
    subst (CantBeRead g) all (cant_read g (joined ++ take taken piece) (drop taken piece) is.front now on.bytes on.front (none_refused g (joined ++ take taken piece) p now is.front on none))

-- ---- a whole item

-- the item that the held bytes are
pub record ItemIs (g : Geometry) (f : Front) (held : List ℕ) : Type 0 where
  pub item : Item
  pub fits : FitsTurn g f.head.leaves (length f.nodes) (turn_of f) item
  pub spelled_is : held ≡ spelled item

pub item_is : (g : Geometry) (joined : List ℕ) (p : Progress) (held : List ℕ) (has : HasItem g joined p held) → ItemIs g has.front held
item_is g joined p held has =
    let on : IsOn g joined p held has.front = record { bytes = has.bytes; front = has.to; below = has.below; keeps = has.keeps } in
    let needs = turn_needs g has.front.head.leaves (length has.front.nodes) (turn_of has.front) held (on_bytes g joined p held has.front on) in
    let whole = needs.whole has.whole in
    record { item = whole.0; fits = whole.1; spelled_is = whole.2 }

-- ---- what comes of it

leads_more : (g : Geometry) (p q : Front) (items : List Item) (item : Item) → Leads g p items q → IsNext g q item → Leads g p (items ++ item ∷ []) (after q item)
leads_more g p q [] item leads next = (subst (λ (f : Front). IsNext g f item) (sym leads) next, ap (λ (f : Front). after f item) leads)
leads_more g p q (x ∷ items) item leads next = (leads.0, leads_more g (after p x) q items item leads.1 next)

items_more : (items : List Item) (item : Item) → flat_map spelled (items ++ item ∷ []) ++ [] ≡ flat_map spelled items ++ spelled item
items_more [] item = append-nil (spelled item ++ []) ∙ append-nil (spelled item)
items_more (x ∷ items) item = append_assoc (spelled x) (flat_map spelled (items ++ item ∷ [])) [] ∙ ap (λ (t : List ℕ). spelled x ++ t) (items_more items item) ∙ sym (append_assoc (spelled x) (flat_map spelled items) (spelled item))

pub accepted : (g : Geometry) (joined : List ℕ) (p now : Progress) (held : List ℕ) (has : HasItem g joined p held) (is : ItemIs g has.front held) → IsSound g (after has.front is.item) → Keeps g (after has.front is.item) now → IsRead g joined now []
accepted g joined p now held has is sound keeps =
    let same : (after has.front is.item).head ≡ has.front.head = head_after has.front is.item in
    let leads : Leads g (begun has.front.head) (has.to.items ++ is.item ∷ []) (after has.front is.item) = leads_more g (begun has.front.head) has.front has.to.items is.item has.to.leads (record { fits = is.fits; sound = sound }) in
    let joined_is : joined ≡ head_bytes has.front.head ++ (flat_map spelled (has.to.items ++ is.item ∷ []) ++ []) = has.to.joined_is ∙ ap (λ (t : List ℕ). head_bytes has.front.head ++ t) (ap (λ (t : List ℕ). flat_map spelled has.to.items ++ t) is.spelled_is ∙ sym (items_more has.to.items is.item)) in
    record {
      front = after has.front is.item;
      to = record {
        bytes = has.bytes;
        front = record {
          items = has.to.items ++ is.item ∷ [];
          head = subst (IsDumpHead g) (sym same) has.to.head;
          leads = subst (λ (h : StreamHead). Leads g (begun h) (has.to.items ++ is.item ∷ []) (after has.front is.item)) (sym same) leads;
          joined_is = subst (λ (h : StreamHead). joined ≡ head_bytes h ++ (flat_map spelled (has.to.items ++ is.item ∷ []) ++ [])) (sym same) joined_is;
        };
        asks = none_asks g (after has.front is.item);
      };
      keeps = keeps;
    }

pub item_refused : (g : Geometry) (joined : List ℕ) (p : Progress) (held : List ℕ) (has : HasItem g joined p held) (is : ItemIs g has.front held) → (IsSound g (after has.front is.item) → ⊥) → CantBeRead g joined
item_refused g joined p held has is unsound =
    subst (CantBeRead g) (append-nil joined) (cant_read g joined [] has.front held has.bytes has.to (record {
      below = has.below;
      here = inr has.whole;
      none = λ item next e.
          let e_same : spelled item ++ [] ≡ spelled is.item ++ [] = ap (λ (t : List ℕ). t ++ []) (sym e ∙ is.spelled_is) in
          let one = one_item g has.front.head.leaves (length has.front.nodes) (turn_of has.front) item is.item [] [] next.fits is.fits e_same in
          unsound (subst (λ (i : Item). IsSound g (after has.front i)) one.0 next.sound);
    }))
