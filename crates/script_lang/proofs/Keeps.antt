-- What a slot that a word fits keeps: its form and its limit, and a name as a line spells it.
use Rattle.std.proofs.Common.{◌≡◌, ℕ, ◌^◌, List, [], ◌∷◌, Bool, true, false, ◌&&◌, ap, sym, ◌∙◌, refl, true≢false}
use Rattle.std.specs.Prelude.{◌==◌, nat_le, nat_lt}
use Rattle.std.specs.List.{slice_split}
use Rattle.std.proofs.lemmas.Bool.{eqb-true, and_from}
use lib.Pointwise.{pointwise}
use Rattle.table_model.specs.Words.{is_name, is_number, number_of, is_data, dot, are_oid_parts}
use Rattle.table_model.specs.Requests.{Bound, Numbered, is_reference, spelled_reference}
use Rattle.table_model.proofs.KeptNames.{name_is_kept}
use Rattle.script_lang.specs.Grammar.{Slot, Key, Name, At, Number, Frames, Of, Given, NoWord, fits}
use Rattle.script_lang.proofs.Slots.{and_first, and_second}

-- the form and the limit of what stands as one word
abbrev pub slot_kept : Slot → Bool
slot_kept (Key key) = true
slot_kept (Name name) = is_name name
slot_kept (At name) = is_name name
slot_kept (Number n) = nat_lt n (2 ^ 64)
slot_kept (Frames n) = nat_le 1 n && nat_le n 1024
slot_kept (Of x) = is_reference x
slot_kept (Given given) = is_data given
slot_kept NoWord = false

number_kept : (w : List ℕ) (n : ℕ) → (is_number w && (number_of w == n)) ≡ true → nat_lt n (2 ^ 64) ≡ true
number_kept w n h =
    let same : number_of w ≡ n = eqb-true (number_of w) n (and_second _ _ h) in
    ap (λ (m : ℕ). nat_lt m (2 ^ 64)) (sym same) ∙ and_second _ _ (and_first _ _ h)

oid_kept : (parts : List (List ℕ)) (p s u : ℕ) → are_oid_parts parts p s u ≡ true → is_reference (Numbered p s u) ≡ true
oid_kept (a ∷ b ∷ c ∷ []) p s u h =
    and_from _ _ (and_from _ _ (number_kept a p (and_first _ _ (and_first _ _ h))) (number_kept b s (and_second _ _ (and_first _ _ h)))) (number_kept c u (and_second _ _ h))
oid_kept _ p s u h = absurd (true≢false (sym h))

frames_kept : (a : Bool) (n : ℕ) → (a && nat_le 1 n && nat_le n 1024) ≡ true → (nat_le 1 n && nat_le n 1024) ≡ true
frames_kept a n h =
    and_from (nat_le 1 n) (nat_le n 1024) (and_second a (nat_le 1 n) (and_first (a && nat_le 1 n) (nat_le n 1024) h)) (and_second (a && nat_le 1 n) (nat_le n 1024) h)

pub fits_kept : (s : Slot) (w : List ℕ) → fits s w ≡ true → slot_kept s ≡ true
fits_kept (Key key) w h = refl
fits_kept (Name name) w h = and_second _ _ h
fits_kept (At name) w h = and_second _ _ h
fits_kept (Number n) w h = number_kept w n h
fits_kept (Frames n) w h = frames_kept (is_number w && (number_of w == n)) n h
fits_kept (Of (Bound name)) w h = name_is_kept name (and_second _ _ h)
fits_kept (Of (Numbered p s u)) w h = oid_kept (slice_split dot w) p s u h
fits_kept (Given given) w h = and_second _ _ h
fits_kept NoWord w h = h

-- whether its name is one that a line spells
abbrev pub slot_spelled : Slot → Bool
slot_spelled (Name name) = is_name name
slot_spelled (At name) = is_name name
slot_spelled (Of x) = spelled_reference x
slot_spelled _ = true

pub fits_spelled : (s : Slot) (w : List ℕ) → fits s w ≡ true → slot_spelled s ≡ true
fits_spelled (Key key) w h = refl
fits_spelled (Name name) w h = and_second _ _ h
fits_spelled (At name) w h = and_second _ _ h
fits_spelled (Number n) w h = refl
fits_spelled (Frames n) w h = refl
fits_spelled (Of (Bound name)) w h = and_second _ _ h
fits_spelled (Of (Numbered p s u)) w h = refl
fits_spelled (Given given) w h = refl
fits_spelled NoWord w h = refl

-- each slot passes the test
abbrev pub Kept : (Slot → Bool) → List Slot → Type 0
Kept test [] = Unit {0}
Kept test (s ∷ ss) = (test s ≡ true) × Kept test ss

pub all_kept : (test : Slot → Bool) → ((s : Slot) (w : List ℕ) → fits s w ≡ true → test s ≡ true) → (slots : List Slot) (words : List (List ℕ)) → pointwise fits slots words ≡ true → Kept test slots
all_kept test fitting [] words h = tt
all_kept test fitting (s ∷ ss) [] h = absurd (true≢false (sym h))
all_kept test fitting (s ∷ ss) (w ∷ ws) h = (fitting s w (and_first _ _ h), all_kept test fitting ss ws (and_second _ _ h))
