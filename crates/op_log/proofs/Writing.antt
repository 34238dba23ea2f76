-- Bytes that are written one behind the other.
use Rattle.std.proofs.Common.{◌≡◌, ◌≤◌, ℕ, ◌+◌, ◌<◌, List, [], ◌∷◌, ◌++◌, length, take, drop, get_or, refl, sym, ◌∙◌, ap, subst, arith, append_assoc}
use Rattle.std.proofs.lemmas.List.{take_more, take-append-drop, take_at, append-nil, length-take, length-append}
use Rattle.std.proofs.lemmas.Grind.{flat_map-append}
use Rattle.std.specs.List.{flat_map}
use Rattle.ex_base.specs.Bytes.{written}
use Rattle.ex_base.specs.Fields.{field_bytes, length-field_bytes}
use Rattle.op_log.specs.declared.kind.RecordKind.{RecordKind}
use Rattle.op_log.specs.Records.{entry_len, entries_len}
use Rattle.page_entries.specs.declared.entry.PageEntry.{PageEntry}
use Rattle.op_log.specs.Writing.{Puts}

pub puts_nothing : (b : List ℕ) (at : ℕ) → Puts [] b b at at
puts_nothing b at = record { end_is = omega arith; front = sym (append-nil (take at b)) }

pub puts_then : {a b c : List ℕ} (x y : List ℕ) {p q r : ℕ} → Puts x a b p q → Puts y b c q r → Puts (x ++ y) a c p r
puts_then {a} x y {p} one two = record {
  end_is = omega (arith, one.end_is, two.end_is, length-append x y);
  front = two.front ∙ ap (λ (l : List ℕ). l ++ y) one.front ∙ append_assoc (take p a) x y;
}

pub puts_written : (x b : List ℕ) (at : ℕ) → at + length x ≤ length b → Puts x b (written b at x) at (at + length x)
puts_written x b at fits = record {
  end_is = refl;
  front = take_at (take at b ++ x) (drop (at + length x) b) (at + length x) (omega (arith, length-append (take at b) x, length-take at b));
}

pub puts_as : {x b c : List ℕ} {at end : ℕ} (d : List ℕ) (last : ℕ) → Puts x b c at end → d ≡ c → last ≡ end → Puts x b d at last
puts_as {x} {b} {c} {at} d last puts is ends = record { end_is = ends ∙ puts.end_is; front = ap (λ (l : List ℕ). take last l) is ∙ ap (λ (n : ℕ). take n c) ends ∙ puts.front }

pub puts_number : (b new : List ℕ) (at n value : ℕ) → at + n ≤ length b → new ≡ written b at (field_bytes n value) → Puts (field_bytes n value) b new at (at + n)
puts_number b new at n value fits is =
    let long = length-field_bytes n value in
    puts_as new (at + n) (puts_written (field_bytes n value) b at (omega (arith, long, fits))) is (omega (arith, long))

-- one item more
pub take-next : {A : Type 0} (xs : List A) (i : ℕ) (x : A) → i < length xs → x ≡ get_or xs i x → take (i + 1) xs ≡ take i xs ++ x ∷ []
take-next xs i x within is = take_more xs i x within ∙ ap (λ y. take i xs ++ y ∷ []) (sym is)

pub flat_map-next : {A : Type 0} (f : A → List ℕ) (xs : List A) (i : ℕ) (x : A) → i < length xs → x ≡ get_or xs i x → flat_map f (take (i + 1) xs) ≡ flat_map f (take i xs) ++ f x
flat_map-next f xs i x within is =
    ap (flat_map f) (take-next xs i x within is) ∙ flat_map-append f (take i xs) (x ∷ []) ∙ ap (λ (l : List ℕ). flat_map f (take i xs) ++ l) (append-nil (f x))

pub puts_next : {A : Type 0} (f : A → List ℕ) (xs : List A) (i : ℕ) (x : A) {a b c : List ℕ} {p q r : ℕ} → i < length xs → x ≡ get_or xs i x → Puts (flat_map f (take i xs)) a b p q → Puts (f x) b c q r
    → Puts (flat_map f (take (i + 1) xs)) a c p r
puts_next f xs i x {a} {b} {c} {p} {q} {r} within is one two =
    let both = puts_then (flat_map f (take i xs)) (f x) one two in
    subst (λ (l : List ℕ). Puts l a c p r) (sym (flat_map-next f xs i x within is)) both

pub entries_len-append : (kind : RecordKind) (xs ys : List PageEntry) → entries_len kind (xs ++ ys) ≡ entries_len kind xs + entries_len kind ys
entries_len-append kind [] ys = omega arith
entries_len-append kind (x ∷ xs) ys = omega (arith, entries_len-append kind xs ys)

pub entries_len-next : (kind : RecordKind) (xs : List PageEntry) (i : ℕ) (x : PageEntry) → i < length xs → x ≡ get_or xs i x → entries_len kind (take (i + 1) xs) ≡ entries_len kind (take i xs) + entry_len kind x
entries_len-next kind xs i x within is = omega (arith, ap (entries_len kind) (take-next xs i x within is), entries_len-append kind (take i xs) (x ∷ []))

pub entries_len-front : (kind : RecordKind) (i : ℕ) (xs : List PageEntry) → entries_len kind (take i xs) ≤ entries_len kind xs
entries_len-front kind i xs = omega (arith, ap (entries_len kind) (take-append-drop i xs), entries_len-append kind (take i xs) (drop i xs))

pub puts_for : {x y a b : List ℕ} {p q : ℕ} → Puts x a b p q → x ≡ y → Puts y a b p q
puts_for {x} {y} {a} {b} {p} {q} puts is = subst (λ (l : List ℕ). Puts l a b p q) is puts
