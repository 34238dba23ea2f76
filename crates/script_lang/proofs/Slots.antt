-- What a slot takes is what its word says.
use Rattle.std.proofs.Common.{◌≡◌, ℕ, ◌*◌, ◌/◌, ◌%◌, List, [], ◌∷◌, length, Bool, false, true, ◌&&◌, Option, Some, None, option_map, cond, ap, sym, subst, ◌∙◌, arith, refl, true≢false}
use Rattle.std.specs.Prelude.{◌==◌, codes, bytes_eq, nat_le}
use Rattle.std.specs.List.{slice_split, onto_first, list_all, AllPass}
use Rattle.std.proofs.lemmas.Bool.Decides.{nat_tests}
use Rattle.std.proofs.lemmas.Bool.{eqb-true, and_from}
use Rattle.std.proofs.lemmas.Slice.Eq.{bytes_eq-Decides}
use Rattle.std.proofs.lemmas.List.{length-replicate}
use Rattle.std.proofs.lemmas.List.Sums.{AllPass-from_list_all}
use Rattle.hex.specs.Hex.{is_hex_digit}
use Rattle.hex.proofs.HexLemmas.{decode_of-ok, decode_of-digits}
use Rattle.table_model.specs.Words.{is_name, is_number, number_of, is_hex, hex_bytes, hex_byte, bytes_or_none, colon, dot, is_oid, are_oid_parts, is_data, are_data_parts, data_of_parts, data_count}
use Rattle.table_model.specs.Requests.{Reference, Bound, Numbered}
use Rattle.script_lang.specs.Forms.{◌>>=◌, name_in, bound_in, number_in, numbered_in, numbered_in_parts, reference_in, begins_with_at, count_in, count_in_parts, key_in, frames_in, policy_in}
use Rattle.script_lang.specs.Grammar.{Key, Name, At, Number, Frames, Of, Given, fits}
use Rattle.script_lang.proofs.DataParts.{some_part}

-- ---- tests

pub and_first : (a b : Bool) → (a && b) ≡ true → a ≡ true
and_first true b h = refl
and_first false b h = h

pub and_second : (a b : Bool) → (a && b) ≡ true → b ≡ true
and_second true b h = h
and_second false b h = absurd (true≢false (sym h))

pub same_bytes : (a b : List ℕ) → bytes_eq a b ≡ true → a ≡ b
same_bytes a b h = (bytes_eq-Decides a b).0 h

pub equal_bytes : (a : List ℕ) → bytes_eq a a ≡ true
equal_bytes a = (bytes_eq-Decides a a).1 refl

equal_number : (n : ℕ) → (n == n) ≡ true
equal_number n = grind (arith, nat_tests)

-- ---- options

-- what it gives has this
abbrev pub Gives : {A : Type 0} → Option A → (A → Type 0) → Type 0
Gives None P = Unit {0}
Gives (Some x) P = P x

pub bind_gives : {A B : Type 0} (o : Option A) (k : A → Option B) (P : B → Type 0) → ((x : A) → o ≡ Some x → Gives (k x) P) → Gives (o >>= k) P
bind_gives None k P h = tt
bind_gives (Some x) k P h = h x refl

pub given : {A : Type 0} (o : Option A) (P : A → Type 0) (x : A) → Gives o P → o ≡ Some x → P x
given o P x h e = let G : Option _ → Type 0 = λ r. Gives r P in subst G e h

-- ---- words

pub key_reads : (key w : List ℕ) → fits (Key key) w ≡ true → key_in key w ≡ Some tt
key_reads key w h =
    let at : key ≡ w = same_bytes key w h in
    let yes : bytes_eq w key ≡ true = ap (bytes_eq w) at ∙ equal_bytes w in
    rw yes refl

pub key_spells : (key w : List ℕ) → Gives (key_in key w) (λ _. fits (Key key) w ≡ true)
key_spells key w = go (bytes_eq w key) refl
  where
    go : (b : Bool) → bytes_eq w key ≡ b → Gives (cond b (Some tt) None) (λ (u : Unit {0}). fits (Key key) w ≡ true)
    go true e = ap (λ l. bytes_eq l w) (sym (same_bytes w key e)) ∙ equal_bytes w
    go false e = tt

pub name_reads : (n w : List ℕ) → fits (Name n) w ≡ true → name_in w ≡ Some n
name_reads n w h =
    let at : n ≡ w = same_bytes n w (and_first _ _ h) in
    let yes : is_name w ≡ true = ap is_name (sym at) ∙ and_second _ _ h in
    rw yes (ap Some (sym at))

pub name_spells : (w : List ℕ) → Gives (name_in w) (λ n. fits (Name n) w ≡ true)
name_spells w = go (is_name w) refl
  where
    go : (b : Bool) → is_name w ≡ b → Gives (cond b (Some w) None) (λ n. fits (Name n) w ≡ true)
    go true e = and_from _ _ (equal_bytes w) e
    go false e = tt

pub at_reads : (n w : List ℕ) → fits (At n) w ≡ true → bound_in w ≡ Some n
at_reads n w h =
    let at : 64 ∷ n ≡ w = same_bytes (64 ∷ n) w (and_first _ _ h) in
    let yes : is_name n ≡ true = and_second _ _ h in
    ap bound_in (sym at) ∙ rw yes refl

pub at_spells : (w : List ℕ) → Gives (bound_in w) (λ n. fits (At n) w ≡ true)
at_spells [] = tt
at_spells (b ∷ name) = go (b == 64) refl
  where
    go : (c : Bool) → (b == 64) ≡ c → Gives (cond c (name_in name) None) (λ n. fits (At n) (b ∷ name) ≡ true)
    go true e =
        let P : List ℕ → Type 0 = λ n. fits (At n) (b ∷ name) ≡ true in
        bind_named (λ n. fits (At n) (b ∷ name) ≡ true) (λ h. rw (eqb-true b 64 e) (and_from _ _ (equal_bytes name) h))
      where
        bind_named : (P : List ℕ → Type 0) → (is_name name ≡ true → P name) → Gives (name_in name) P
        bind_named P h = named (is_name name) refl
          where
            named : (c : Bool) → is_name name ≡ c → Gives (cond c (Some name) None) P
            named true e = h e
            named false e = tt
    go false e = tt

pub number_reads : (n : ℕ) (w : List ℕ) → fits (Number n) w ≡ true → number_in w ≡ Some n
number_reads n w h =
    let yes : is_number w ≡ true = and_first _ _ h in
    let value : number_of w ≡ n = eqb-true (number_of w) n (and_second _ _ h) in
    rw yes (ap Some value)

-- the number of a word that is one
pub number_gives : (w : List ℕ) → Gives (number_in w) (λ n. (is_number w ≡ true) × (number_of w ≡ n))
number_gives w = go (is_number w) refl
  where
    go : (b : Bool) → is_number w ≡ b → Gives (cond b (Some (number_of w)) None) (λ n. (is_number w ≡ true) × (number_of w ≡ n))
    go true e = (e, refl)
    go false e = tt

pub number_fits : (n : ℕ) (w : List ℕ) → (is_number w ≡ true) × (number_of w ≡ n) → fits (Number n) w ≡ true
number_fits n w h = and_from _ _ h.0 (ap (λ m. m == n) h.1 ∙ equal_number n)

pub number_spells : (w : List ℕ) → Gives (number_in w) (λ n. fits (Number n) w ≡ true)
number_spells w = go (number_in w) (number_gives w)
  where
    go : (o : Option ℕ) → Gives o (λ n. (is_number w ≡ true) × (number_of w ≡ n)) → Gives o (λ n. fits (Number n) w ≡ true)
    go None h = tt
    go (Some n) h = number_fits n w h

pub frames_reads : (n : ℕ) (w : List ℕ) → fits (Frames n) w ≡ true → frames_in w ≡ Some n
frames_reads n w h =
    let most : nat_le n 1024 ≡ true = and_second _ _ h in
    let least : nat_le 1 n ≡ true = and_second _ _ (and_first _ _ h) in
    let number : number_in w ≡ Some n = number_reads n w (and_first _ _ (and_first _ _ h)) in
    let inside : (nat_le 1 n && nat_le n 1024) ≡ true = and_from _ _ least most in
    rw number (rw inside refl)

pub frames_spells : (w : List ℕ) → Gives (frames_in w) (λ n. fits (Frames n) w ≡ true)
frames_spells w = bind_gives (number_in w) (λ n. cond (nat_le 1 n && nat_le n 1024) (Some n) None) (λ n. fits (Frames n) w ≡ true)
    (λ n e. inside n (given (number_in w) (λ m. fits (Number m) w ≡ true) n (number_spells w) e))
  where
    inside : (n : ℕ) → fits (Number n) w ≡ true → Gives (cond (nat_le 1 n && nat_le n 1024) (Some n) None) (λ n. fits (Frames n) w ≡ true)
    inside n h = go (nat_le 1 n && nat_le n 1024) refl
      where
        go : (b : Bool) → (nat_le 1 n && nat_le n 1024) ≡ b → Gives (cond b (Some n) None) (λ n. fits (Frames n) w ≡ true)
        go true e = and_from _ _ (and_from _ _ h (and_first _ _ e)) (and_second _ _ e)
        go false e = tt

-- ---- objects

no_number_at : (h : List ℕ) → is_number (64 ∷ h) ≡ false
no_number_at h = go (is_number (64 ∷ h)) refl
  where
    go : (b : Bool) → is_number (64 ∷ h) ≡ b → b ≡ false
    go true e = sym (and_second (nat_le 1 (length (64 ∷ h)) && nat_le (length (64 ∷ h)) 20) _ (and_first _ _ e))
    go false e = refl

-- a word that begins with @ is no identifier
no_oid_at : (rest : List ℕ) (p s u : ℕ) → is_oid (64 ∷ rest) p s u ≡ true → ⊥
no_oid_at rest p s u h = go (some_part dot rest)
  where
    parts : (t : List (List ℕ)) (a : List ℕ) → are_oid_parts ((64 ∷ a) ∷ t) p s u ≡ true → ⊥
    parts [] a h = true≢false (sym h)
    parts (b ∷ []) a h = true≢false (sym h)
    parts (b ∷ c ∷ []) a h = true≢false (sym (and_first _ _ (and_first _ _ (and_first _ _ h))) ∙ no_number_at a)
    parts (b ∷ c ∷ d ∷ t) a h = true≢false (sym h)

    go : ((a : List ℕ) × (t : List (List ℕ)) × (slice_split dot rest ≡ a ∷ t)) → ⊥
    go (a, t, e) = parts t a (sym (ap (λ l. are_oid_parts (onto_first 64 l) p s u) e) ∙ h)

pub oid_reads : (p s u : ℕ) (w : List ℕ) → is_oid w p s u ≡ true → numbered_in w ≡ Some (Numbered p s u)
oid_reads p s u w = go (slice_split dot w)
  where
    go : (parts : List (List ℕ)) → are_oid_parts parts p s u ≡ true → numbered_in_parts parts ≡ Some (Numbered p s u)
    go [] h = absurd (true≢false (sym h))
    go (a ∷ []) h = absurd (true≢false (sym h))
    go (a ∷ b ∷ []) h = absurd (true≢false (sym h))
    go (a ∷ b ∷ c ∷ []) h =
        let ea : number_in a ≡ Some p = number_reads p a (and_first _ _ (and_first _ _ h)) in
        let eb : number_in b ≡ Some s = number_reads s b (and_second _ _ (and_first _ _ h)) in
        let ec : number_in c ≡ Some u = number_reads u c (and_second _ _ h) in
        rw ea (rw eb (rw ec refl))
    go (a ∷ b ∷ c ∷ d ∷ t) h = absurd (true≢false (sym h))

pub oid_spells : (w : List ℕ) → Gives (numbered_in w) (λ x. fits (Of x) w ≡ true)
oid_spells w = go (slice_split dot w) refl
  where
    go : (parts : List (List ℕ)) → slice_split dot w ≡ parts → Gives (numbered_in_parts parts) (λ x. fits (Of x) w ≡ true)
    go [] e = tt
    go (a ∷ []) e = tt
    go (a ∷ b ∷ []) e = tt
    go (a ∷ b ∷ c ∷ []) e =
        bind_gives (number_in a) _ _ (λ p ep. bind_gives (number_in b) _ _ (λ s es. bind_gives (number_in c) _ _ (λ u eu.
        ap (λ l. are_oid_parts l p s u) e
        ∙ and_from _ _ (and_from _ _ (given (number_in a) _ p (number_spells a) ep) (given (number_in b) _ s (number_spells b) es)) (given (number_in c) _ u (number_spells c) eu))))
    go (a ∷ b ∷ c ∷ d ∷ t) e = tt

pub reference_reads : (x : Reference) (w : List ℕ) → fits (Of x) w ≡ true → reference_in w ≡ Some x
reference_reads (Bound name) w h =
    let at : 64 ∷ name ≡ w = same_bytes (64 ∷ name) w (and_first _ _ h) in
    let yes : is_name name ≡ true = and_second _ _ h in
    ap reference_in (sym at) ∙ rw yes refl
reference_reads (Numbered p s u) [] h = oid_reads p s u [] h
reference_reads (Numbered p s u) (b ∷ rest) h = go (b == 64) refl
  where
    go : (c : Bool) → (b == 64) ≡ c → cond c (option_map Bound (bound_in (b ∷ rest))) (numbered_in (b ∷ rest)) ≡ Some (Numbered p s u)
    go true e = absurd (no_oid_at rest p s u (ap (λ (n : ℕ). is_oid (n ∷ rest) p s u) (sym (eqb-true b 64 e)) ∙ h))
    go false e = oid_reads p s u (b ∷ rest) h

pub reference_spells : (w : List ℕ) → Gives (reference_in w) (λ x. fits (Of x) w ≡ true)
reference_spells w = go (begins_with_at w)
  where
    bound : (o : Option (List ℕ)) → Gives o (λ n. fits (At n) w ≡ true) → Gives (option_map Bound o) (λ x. fits (Of x) w ≡ true)
    bound None h = tt
    bound (Some n) h = h

    go : (c : Bool) → Gives (cond c (option_map Bound (bound_in w)) (numbered_in w)) (λ x. fits (Of x) w ≡ true)
    go true = bound (bound_in w) (at_spells w)
    go false = oid_spells w

-- ---- data

hex_length : (digits : List ℕ) → is_hex digits ≡ true → length (hex_bytes digits) ≡ length digits / 2
hex_length digits h =
    let even : length digits % 2 ≡ 0 = eqb-true (length digits % 2) 0 (and_first (length digits % 2 == 0) (list_all is_hex_digit digits) h) in
    let all : AllPass is_hex_digit digits = AllPass-from_list_all is_hex_digit digits (and_second (length digits % 2 == 0) (list_all is_hex_digit digits) h) in
    let found = decode_of-digits digits even all in
    let twice : length digits ≡ 2 * length found.0 = (decode_of-ok digits found.0 found.1).2 in
    ap (λ r. length (bytes_or_none r)) found.1 ∙ (let half : length found.0 ≡ length digits / 2 = omega arith in half)

-- a data word gives so many bytes
abbrev pub IsDataOf : List ℕ → ℕ → Type 0
IsDataOf w n = (is_data w ≡ true) × (data_count w ≡ n)

abbrev PartsGive : List (List ℕ) → ℕ → Type 0
PartsGive parts n = (are_data_parts parts ≡ true) × (length (data_of_parts parts) ≡ n)

parts_give : (parts : List (List ℕ)) → Gives (count_in_parts parts) (PartsGive parts)
parts_give [] = tt
parts_give (a ∷ []) = tt
parts_give (key ∷ digits ∷ []) = go (bytes_eq key (codes "hex") && is_hex digits) refl
  where
    go : (b : Bool) → (bytes_eq key (codes "hex") && is_hex digits) ≡ b → Gives (cond b (Some (length digits / 2)) None) (PartsGive (key ∷ digits ∷ []))
    go true e = (e, hex_length digits (and_second _ _ e))
    go false e = tt
parts_give (key ∷ count ∷ byte ∷ []) = go (bytes_eq key (codes "rep") && ((length byte == 2) && is_hex byte)) refl
  where
    go : (b : Bool) → (bytes_eq key (codes "rep") && ((length byte == 2) && is_hex byte)) ≡ b → Gives (cond b (number_in count) None) (PartsGive (key ∷ count ∷ byte ∷ []))
    go true e = counted (number_in count) (number_gives count)
      where
        counted : (o : Option ℕ) → Gives o (λ n. (is_number count ≡ true) × (number_of count ≡ n)) → Gives o (PartsGive (key ∷ count ∷ byte ∷ []))
        counted None h = tt
        counted (Some n) h = (
          and_from _ _ (and_from _ _ (and_from _ _ (and_first _ _ e) h.0) (and_first _ _ (and_second _ _ e))) (and_second _ _ (and_second _ _ e)),
          length-replicate (number_of count) (hex_byte byte) ∙ h.1,
        )
    go false e = tt
parts_give (a ∷ b ∷ c ∷ d ∷ t) = tt

pub data_gives : (w : List ℕ) → Gives (count_in w) (IsDataOf w)
data_gives w = parts_give (slice_split colon w)

parts_count : (parts : List (List ℕ)) → are_data_parts parts ≡ true → count_in_parts parts ≡ Some (length (data_of_parts parts))
parts_count [] h = absurd (true≢false (sym h))
parts_count (a ∷ []) h = absurd (true≢false (sym h))
parts_count (key ∷ digits ∷ []) h = rw h (ap Some (sym (hex_length digits (and_second _ _ h))))
parts_count (key ∷ count ∷ byte ∷ []) h =
    let key_count : (bytes_eq key (codes "rep") && is_number count) ≡ true =
    and_first (bytes_eq key (codes "rep") && is_number count) (length byte == 2) (and_first (bytes_eq key (codes "rep") && is_number count && (length byte == 2)) (is_hex byte) h) in
    let two : (length byte == 2) ≡ true =
    and_second (bytes_eq key (codes "rep") && is_number count) (length byte == 2) (and_first (bytes_eq key (codes "rep") && is_number count && (length byte == 2)) (is_hex byte) h) in
    let digits : is_hex byte ≡ true = and_second (bytes_eq key (codes "rep") && is_number count && (length byte == 2)) (is_hex byte) h in
    let number : is_number count ≡ true = and_second (bytes_eq key (codes "rep")) (is_number count) key_count in
    let whole : (bytes_eq key (codes "rep") && ((length byte == 2) && is_hex byte)) ≡ true =
    and_from _ _ (and_first (bytes_eq key (codes "rep")) (is_number count) key_count) (and_from _ _ two digits) in
    rw whole (rw number (ap Some (sym (length-replicate (number_of count) (hex_byte byte)))))
parts_count (a ∷ b ∷ c ∷ d ∷ t) h = absurd (true≢false (sym h))

pub given_reads : (g w : List ℕ) → fits (Given g) w ≡ true → (g ≡ w) × (count_in w ≡ Some (data_count g))
given_reads g w h =
    let at : g ≡ w = same_bytes g w (and_first _ _ h) in
    (at, ap count_in (sym at) ∙ parts_count (slice_split colon g) (and_second _ _ h))

pub given_spells : (w : List ℕ) → Gives (count_in w) (λ n. (fits (Given w) w ≡ true) × (data_count w ≡ n))
given_spells w = go (count_in w) (data_gives w)
  where
    go : (o : Option ℕ) → Gives o (IsDataOf w) → Gives o (λ n. (fits (Given w) w ≡ true) × (data_count w ≡ n))
    go None h = tt
    go (Some n) h = (and_from _ _ (equal_bytes w) h.0, h.1)
