-- Changes of slots that stand one behind the other: what is read is spelled so, and what is spelled is read.
use Rattle.std.proofs.Common.{◌≡◌, ℕ, zero, suc, ◌+◌, ◌-◌, ◌^◌, ◌<◌, ◌≤◌, List, [], ◌∷◌, ◌++◌, length, take, drop, map, Some, None, refl, sym, ap, subst, ◌∙◌, arith, append_assoc}
use Rattle.std.specs.List.{flat_map, AllByRecursion}
use Rattle.std.proofs.lemmas.List.{length-append, length-drop, length-take, take-append-drop, take_at}
use Rattle.ex_base.specs.Bytes.{bytes_at, IsBytes}
use Rattle.ex_base.specs.Fields.{two_bytes, zeros, number_at, AreZero}
use Rattle.ex_base.proofs.FieldLaws.{two_is}
use Rattle.ex_base.proofs.Places.{behind_more, bytes_there, number_there, number_spelled, bytes_spelled, length-bytes_at, zero_run, zeros_are}
use Rattle.file_index.specs.Index.{Rises}
use Rattle.file_index.proofs.Picking.{rises_of, rising_of}
use Rattle.slotted_pages.specs.FilePage.{Slot, body_of, IsSlot}
use Rattle.slotted_pages.specs.Edits.{slot_with}
use Rattle.slotted_pages.proofs.EditLaws.{body_with}
use Rattle.page_entries.specs.declared.form.EntryForm.TheVariants.{Image, SlotChanges}
use Rattle.page_entries.specs.Said.{SlotChange, Said, Slots, Whole, Files, change_bytes, said_bytes, form_of, FitsChange, slot_of_change, IsSaid, changes_read, Says}
use Rattle.page_entries.specs.Fronts.{ChangeAt, change_end, ChangesAt, changes_end}

-- ---- a slot by its bytes

pub slot_fits : (b : List ℕ) → IsSlot (slot_with b)
slot_fits [] = tt
slot_fits (x ∷ b) = omega arith

pub slot_again : (s : Slot) → IsSlot s → slot_with (body_of s) ≡ s
slot_again None fits = refl
slot_again (Some []) fits = absurd (omega arith)
slot_again (Some (x ∷ b)) fits = refl

-- ---- what is read

pub record ChangesSaid (bytes : List ℕ) (least n at : ℕ) : Type 0 where
  pub each : AllByRecursion FitsChange (changes_read bytes n at)
  pub rises : Rises least (map slot_of_change (changes_read bytes n at))
  pub count : length (changes_read bytes n at) ≡ n
  pub spelled : drop at bytes ≡ flat_map change_bytes (changes_read bytes n at) ++ drop (changes_end bytes n at) bytes
  pub inside : changes_end bytes n at ≤ length bytes

abbrev body_here : List ℕ → ℕ → List ℕ
body_here bytes at = bytes_at bytes (at + 4) (number_at 2 bytes (at + 2))

change_spelled : (bytes : List ℕ) (least at : ℕ) → IsBytes bytes → ChangeAt bytes least at → FitsChange (number_at 2 bytes at, slot_with (body_here bytes at)) × (drop at bytes ≡ change_bytes (number_at 2 bytes at, slot_with (body_here bytes at)) ++ drop (change_end bytes at) bytes)
change_spelled bytes least at fits h =
    let len : ℕ = number_at 2 bytes (at + 2) in
    let b : List ℕ = body_here bytes at in
    let body : body_of (slot_with (body_here bytes at)) ≡ body_here bytes at = body_with (body_here bytes at) in
    let long : length (body_of (slot_with (body_here bytes at))) ≡ number_at 2 bytes (at + 2) = ap length body ∙ length-bytes_at bytes (at + 4) (number_at 2 bytes (at + 2)) h.body in
    let small : number_at 2 bytes (at + 2) < 2 ^ 16 = two_is.below bytes (at + 2) fits in
    let d0 : drop at bytes ≡ two_bytes (number_at 2 bytes at) ++ drop (at + 2) bytes = number_spelled 2 (2 ^ 16) two_bytes two_is bytes at (at + 2) fits refl (omega (arith, h.head)) in
    let d2 : drop (at + 2) bytes ≡ two_bytes (number_at 2 bytes (at + 2)) ++ drop (at + 4) bytes = number_spelled 2 (2 ^ 16) two_bytes two_is bytes (at + 2) (at + 4) fits (omega arith) h.head in
    let d4 : drop (at + 4) bytes ≡ body_here bytes at ++ drop (change_end bytes at) bytes = bytes_spelled bytes (at + 4) (number_at 2 bytes (at + 2)) (change_end bytes at) refl in (
      (two_is.below bytes at fits, omega (arith, long, small), slot_fits (body_here bytes at)),
      d0 ∙ ap (λ (t : List ℕ). two_bytes (number_at 2 bytes at) ++ t) (d2 ∙ ap (λ (t : List ℕ). two_bytes (number_at 2 bytes (at + 2)) ++ t) d4)
          ∙ ap (λ (t : List ℕ). two_bytes (number_at 2 bytes at) ++ (two_bytes (number_at 2 bytes (at + 2)) ++ (t ++ drop (change_end bytes at) bytes))) (sym body)
          ∙ ap (λ (k : ℕ). two_bytes (number_at 2 bytes at) ++ (two_bytes k ++ (body_of (slot_with (body_here bytes at)) ++ drop (change_end bytes at) bytes))) (sym long)
          ∙ grouped (two_bytes (number_at 2 bytes at)) (two_bytes (length (body_of (slot_with (body_here bytes at))))) (body_of (slot_with (body_here bytes at))) (drop (change_end bytes at) bytes),
    )
  where
    grouped : (a b c d : List ℕ) → a ++ (b ++ (c ++ d)) ≡ (a ++ (b ++ c)) ++ d
    grouped a b c d = simp append_assoc

pub changes_said : (bytes : List ℕ) (least n at : ℕ) → IsBytes bytes → at ≤ length bytes → ChangesAt bytes least n at → ChangesSaid bytes least n at
changes_said bytes least zero at fits inside h = record { each = tt; rises = tt; count = refl; spelled = refl; inside = inside }
changes_said bytes least (suc n) at fits inside h =
    let here = change_spelled bytes least at fits h.0 in
    let rest = changes_said bytes (number_at 2 bytes at + 1) n (change_end bytes at) fits h.0.body h.1 in
    record {
      each = (here.0, rest.each);
      rises = (h.0.least_is, rest.rises);
      count = ap suc rest.count;
      spelled = here.1 ∙ ap (λ (t : List ℕ). change_bytes (number_at 2 bytes at, slot_with (body_here bytes at)) ++ t) rest.spelled
          ∙ sym (append_assoc (change_bytes (number_at 2 bytes at, slot_with (body_here bytes at))) (flat_map change_bytes (changes_read bytes n (change_end bytes at))) (drop (changes_end bytes n (change_end bytes at)) bytes));
      inside = rest.inside;
    }

-- ---- what is spelled

pub record ChangesGiven (bytes : List ℕ) (least at : ℕ) (cs : List SlotChange) (rest : List ℕ) : Type 0 where
  pub here : ChangesAt bytes least (length cs) at
  pub read : changes_read bytes (length cs) at ≡ cs
  pub behind : drop (changes_end bytes (length cs) at) bytes ≡ rest

pub record ChangeGiven (bytes : List ℕ) (at slot : ℕ) (s : Slot) (rest : List ℕ) : Type 0 where
  pub slot_is : number_at 2 bytes at ≡ slot
  pub len_is : number_at 2 bytes (at + 2) ≡ length (body_of s)
  pub body_is : bytes_at bytes (at + 4) (number_at 2 bytes (at + 2)) ≡ body_of s
  pub head : at + 4 ≤ length bytes
  pub body : change_end bytes at ≤ length bytes
  pub behind : drop (change_end bytes at) bytes ≡ rest

pub change_given : (bytes rest : List ℕ) (at slot : ℕ) (s : Slot) → FitsChange (slot, s) → drop at bytes ≡ change_bytes (slot, s) ++ rest → ChangeGiven bytes at slot s rest
change_given bytes rest at slot s fits e =
    let len : ℕ = length (body_of s) in
    let whole : drop at bytes ≡ two_bytes slot ++ (two_bytes (length (body_of s)) ++ (body_of s ++ rest)) = e ∙ grouped (two_bytes slot) (two_bytes (length (body_of s))) (body_of s) rest in
    let d2 : drop (at + 2) bytes ≡ two_bytes (length (body_of s)) ++ (body_of s ++ rest) = behind_more bytes (two_bytes slot) (two_bytes (length (body_of s)) ++ (body_of s ++ rest)) at 2 (at + 2) whole (two_is.len slot) refl in
    let d4 : drop (at + 4) bytes ≡ body_of s ++ rest = behind_more bytes (two_bytes (length (body_of s))) (body_of s ++ rest) (at + 2) 2 (at + 4) d2 (two_is.len (length (body_of s))) (omega arith) in
    let d5 : drop (at + 4 + length (body_of s)) bytes ≡ rest = behind_more bytes (body_of s) rest (at + 4) (length (body_of s)) (at + 4 + length (body_of s)) d4 refl refl in
    let len_is : number_at 2 bytes (at + 2) ≡ length (body_of s) = number_there 2 (2 ^ 16) two_bytes two_is bytes (body_of s ++ rest) (at + 2) (length (body_of s)) d2 fits.1 in
    let total : length bytes - at ≡ 4 + length (body_of s) + length rest = omega (arith, ap length whole, length-drop at bytes, length-append (two_bytes slot) (two_bytes (length (body_of s)) ++ (body_of s ++ rest)), length-append (two_bytes (length (body_of s))) (body_of s ++ rest), length-append (body_of s) rest, two_is.len slot, two_is.len (length (body_of s))) in
    record {
      slot_is = number_there 2 (2 ^ 16) two_bytes two_is bytes (two_bytes (length (body_of s)) ++ (body_of s ++ rest)) at slot whole fits.0;
      len_is = len_is;
      body_is = ap (bytes_at bytes (at + 4)) len_is ∙ bytes_there bytes (body_of s) rest (at + 4) (length (body_of s)) d4 refl;
      head = omega (arith, total);
      body = omega (arith, total, len_is);
      behind = ap (λ (k : ℕ). drop (at + 4 + k) bytes) len_is ∙ d5;
    }
  where
    grouped : (a b c d : List ℕ) → (a ++ (b ++ c)) ++ d ≡ a ++ (b ++ (c ++ d))
    grouped a b c d = simp append_assoc

abbrev made_change : ℕ → Slot → SlotChange
made_change slot s = (slot, s)

pub changes_given : (bytes rest : List ℕ) (least at : ℕ) (cs : List SlotChange) → AllByRecursion FitsChange cs → Rises least (map slot_of_change cs) → drop at bytes ≡ flat_map change_bytes cs ++ rest → ChangesGiven bytes least at cs rest
changes_given bytes rest least at [] fits rises e = record { here = tt; read = refl; behind = e }
changes_given bytes rest least at ((slot, s) ∷ cs) fits rises e =
    let here : ChangeGiven bytes at slot s (flat_map change_bytes cs ++ rest) = change_given bytes (flat_map change_bytes cs ++ rest) at slot s fits.0 (e ∙ append_assoc (change_bytes (slot, s)) (flat_map change_bytes cs) rest) in
    let next : ChangesGiven bytes (slot + 1) (change_end bytes at) cs rest = changes_given bytes rest (slot + 1) (change_end bytes at) cs fits.1 rises.1 here.behind in
    let same : slot_with (bytes_at bytes (at + 4) (number_at 2 bytes (at + 2))) ≡ s = ap slot_with here.body_is ∙ slot_again s fits.0.2 in
    let first : made_change (number_at 2 bytes at) (slot_with (bytes_at bytes (at + 4) (number_at 2 bytes (at + 2)))) ≡ made_change slot s = ap (λ (k : ℕ). made_change k (slot_with (bytes_at bytes (at + 4) (number_at 2 bytes (at + 2))))) here.slot_is ∙ ap (made_change slot) same in
    record {
      here = (record { head = here.head; least_is = omega (arith, here.slot_is, rises.0); body = here.body }, subst (λ (k : ℕ). ChangesAt bytes (k + 1) (length cs) (change_end bytes at)) (sym here.slot_is) next.here);
      read = cc (first, next.read);
      behind = next.behind;
    }

-- ---- the whole fields

-- they begin with zeros and the number of the changes
pub record FieldsGiven (bytes : List ℕ) (cs : List SlotChange) (rest : List ℕ) : Type 0 where
  pub long : 6 ≤ length bytes
  pub zero_bytes : AreZero (take 4 bytes)
  pub count : number_at 2 bytes 4 ≡ length cs
  pub behind_head : drop 6 bytes ≡ flat_map change_bytes cs ++ rest
  pub given : ChangesGiven bytes 0 6 cs rest

pub fields_given : (size : ℕ) (bytes rest : List ℕ) (cs : List SlotChange) → IsSaid size (Slots cs) → bytes ≡ said_bytes (Slots cs) ++ rest → FieldsGiven bytes cs rest
fields_given size bytes rest cs fits e =
    let whole : bytes ≡ zeros 4 ++ (two_bytes (length cs) ++ (flat_map change_bytes cs ++ rest)) = e ∙ append_assoc (zeros 4) (two_bytes (length cs) ++ flat_map change_bytes cs) rest ∙ ap (λ (t : List ℕ). zeros 4 ++ t) (append_assoc (two_bytes (length cs)) (flat_map change_bytes cs) rest) in
    let d4 : drop 4 bytes ≡ two_bytes (length cs) ++ (flat_map change_bytes cs ++ rest) = ap (λ (t : List ℕ). drop 4 t) whole in
    let d6 : drop 6 bytes ≡ flat_map change_bytes cs ++ rest = behind_more bytes (two_bytes (length cs)) (flat_map change_bytes cs ++ rest) 4 2 6 d4 (two_is.len (length cs)) refl in
    record {
      long = omega (arith, ap length whole, length-append (two_bytes (length cs)) (flat_map change_bytes cs ++ rest), two_is.len (length cs));
      zero_bytes = subst AreZero (sym (ap (λ (t : List ℕ). take 4 t) whole)) (zeros_are 4);
      count = number_there 2 (2 ^ 16) two_bytes two_is bytes (flat_map change_bytes cs ++ rest) 4 (length cs) d4 fits.2;
      behind_head = d6;
      given = changes_given bytes rest 0 6 cs fits.0 (rises_of (map slot_of_change cs) fits.1) d6;
    }

pub says_slots : (size : ℕ) (bytes : List ℕ) (n : ℕ) → IsBytes bytes → 6 ≤ length bytes → AreZero (take 4 bytes) → n ≡ changes_end bytes (number_at 2 bytes 4) 6 → ChangesAt bytes 0 (number_at 2 bytes 4) 6 → Says size SlotChanges bytes n
says_slots size bytes n fits long zero_bytes end h =
    let said : ChangesSaid bytes 0 (number_at 2 bytes 4) 6 = changes_said bytes 0 (number_at 2 bytes 4) 6 fits long h in
    let cs : List SlotChange = changes_read bytes (number_at 2 bytes 4) 6 in
    let d0 : bytes ≡ zeros 4 ++ drop 4 bytes = sym (take-append-drop 4 bytes) ∙ ap (λ (t : List ℕ). t ++ drop 4 bytes) (zero_run (take 4 bytes) zero_bytes ∙ ap zeros (let four : length (take 4 bytes) ≡ 4 = omega (arith, length-take 4 bytes) in four)) in
    let d4 : drop 4 bytes ≡ two_bytes (number_at 2 bytes 4) ++ drop 6 bytes = number_spelled 2 (2 ^ 16) two_bytes two_is bytes 4 6 fits refl long in
    let rest : List ℕ = drop (changes_end bytes (number_at 2 bytes 4) 6) bytes in
    let whole : bytes ≡ said_bytes (Slots (changes_read bytes (number_at 2 bytes 4) 6)) ++ rest =
    d0 ∙ ap (λ (t : List ℕ). zeros 4 ++ t) (d4 ∙ ap (λ (k : ℕ). two_bytes k ++ drop 6 bytes) (sym said.count) ∙ ap (λ (t : List ℕ). two_bytes (length (changes_read bytes (number_at 2 bytes 4) 6)) ++ t) said.spelled)
    ∙ grouped (zeros 4) (two_bytes (length (changes_read bytes (number_at 2 bytes 4) 6))) (flat_map change_bytes (changes_read bytes (number_at 2 bytes 4) 6)) rest in
    let total : length (said_bytes (Slots (changes_read bytes (number_at 2 bytes 4) 6))) ≡ n = omega (arith, ap length whole, length-append (said_bytes (Slots (changes_read bytes (number_at 2 bytes 4) 6))) rest, length-drop (changes_end bytes (number_at 2 bytes 4) 6) bytes, said.inside, end) in
    record {
      said = Slots (changes_read bytes (number_at 2 bytes 4) 6);
      fits = (said.each, rising_of 0 (map slot_of_change (changes_read bytes (number_at 2 bytes 4) 6)) said.rises, omega (arith, said.count, two_is.below bytes 4 fits));
      form_is = refl;
      spelled = ap (take n) whole ∙ take_at (said_bytes (Slots (changes_read bytes (number_at 2 bytes 4) 6))) rest n total;
      inside = omega (arith, end, said.inside);
    }
  where
    grouped : (a b c d : List ℕ) → a ++ (b ++ (c ++ d)) ≡ (a ++ (b ++ c)) ++ d
    grouped a b c d = simp append_assoc

-- what is said in this form is changes of slots
pub only_slots : (said : Said) → form_of said ≡ SlotChanges → (cs : List SlotChange) × (said ≡ Slots cs)
only_slots (Whole image) is = absurd cc
only_slots (Slots cs) is = (cs, refl)
only_slots (Files next_unique last removed put) is = absurd cc

pub no_slots : (size : ℕ) (bytes : List ℕ) → ((cs : List SlotChange) (rest : List ℕ) → IsSaid size (Slots cs) → FieldsGiven bytes cs rest → ⊥) → (said : Said) (rest : List ℕ) → IsSaid size said → form_of said ≡ SlotChanges → bytes ≡ said_bytes said ++ rest → ⊥
no_slots size bytes none (Whole image) rest fits is e = absurd cc
no_slots size bytes none (Slots cs) rest fits is e = none cs rest fits (fields_given size bytes rest cs fits e)
no_slots size bytes none (Files next_unique last removed put) rest fits is e = absurd cc

-- ---- a step of the loop

pub step_here : (bytes : List ℕ) (n i least at : ℕ) → i < n → ChangesAt bytes least (n - i) at → ChangeAt bytes least at × ChangesAt bytes (number_at 2 bytes at + 1) (n - (i + 1)) (change_end bytes at)
step_here bytes n i least at lt h = subst (λ (k : ℕ). ChangesAt bytes least k at) (let e : n - i ≡ suc (n - (i + 1)) = omega arith in e) h

pub step_back : (bytes : List ℕ) (n i least at : ℕ) → i < n → ChangeAt bytes least at → ChangesAt bytes (number_at 2 bytes at + 1) (n - (i + 1)) (change_end bytes at) → ChangesAt bytes least (n - i) at
step_back bytes n i least at lt h more = subst (λ (k : ℕ). ChangesAt bytes least k at) (let e : suc (n - (i + 1)) ≡ n - i = omega arith in e) (h, more)

pub step_end : (bytes : List ℕ) (n i at : ℕ) → i < n → changes_end bytes (n - i) at ≡ changes_end bytes (n - (i + 1)) (change_end bytes at)
step_end bytes n i at lt = ap (λ (k : ℕ). changes_end bytes k at) (let e : n - i ≡ suc (n - (i + 1)) = omega arith in e)

-- ---- what the calls answer

pub says_image : (size : ℕ) (bytes : List ℕ) → size ≤ length bytes → Says size Image bytes size
says_image size bytes le = record { said = Whole (take size bytes); fits = omega (arith, length-take size bytes); form_is = refl; spelled = refl; inside = le }

pub here_from : (bytes rest : List ℕ) (cs : List SlotChange) → FieldsGiven bytes cs rest → ChangesAt bytes 0 (number_at 2 bytes 4) 6
here_from bytes rest cs g = subst (λ (k : ℕ). ChangesAt bytes 0 k 6) (sym g.count) g.given.here
