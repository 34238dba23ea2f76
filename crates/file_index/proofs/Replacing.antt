-- An entry that one or two others stand for.
use Rattle.std.proofs.Common.{◌≡◌, ◌≢◌, ◌≤◌, ◌<◌, ◌+◌, ℕ, Bool, true, not, eqb, List, [], ◌∷◌, ◌++◌, length, take, drop, Option, Some, None, false, refl, sym, ap, ◌∙◌, arith}
use Rattle.std.proofs.lemmas.List.{length-append, length-take, length-drop}
use Rattle.std.proofs.lemmas.Bool.{eqb-true}
use Rattle.std.specs.Prelude.{slice_index_or, option_to_list, is_some}
use Rattle.ex_base.specs.declared.names.PageNo.{PageNo}
use Rattle.file_index.specs.declared.Entry.{Entry}
use Rattle.file_index.proofs.Placing.{split_at}

abbrev pub entry_of : ℕ → PageNo → Entry
entry_of key page = record { key = key; page = page }

-- how many entries there are then
pub replaced_more : (old new : List Entry) (at : ℕ) (first : Entry) (second : Option Entry) → at < length old → new ≡ take at old ++ ((first ∷ option_to_list second) ++ drop (at + 1) old)
    → (length old ≤ length new) × (length new ≤ length old + 1)
replaced_more old new at first None lt is =
    let s = split_at old at lt in
    let n = length-append (take at old) (first ∷ drop (at + 1) old) in
    (omega (arith, ap length is, n, s.front, s.back), omega (arith, ap length is, n, s.front, s.back))
replaced_more old new at first (Some e) lt is =
    let s = split_at old at lt in
    let n = length-append (take at old) (first ∷ e ∷ drop (at + 1) old) in
    (omega (arith, ap length is, n, s.front, s.back), omega (arith, ap length is, n, s.front, s.back))

-- two entries that one or two others stand for
pub replaced_pair : (old new : List Entry) (at : ℕ) (first : Entry) (second : Option Entry) → at + 1 < length old
    → new ≡ take at old ++ ((first ∷ option_to_list second) ++ drop (at + 2) old)
    → (length new ≤ length old) × (length old ≤ length new + 1)
replaced_pair old new at first None lt is =
    let n = length-append (take at old) (first ∷ drop (at + 2) old) in
    let front = length-take at old in
    let back = length-drop (at + 2) old in
    (omega (arith, ap length is, n, front, back, lt), omega (arith, ap length is, n, front, back, lt))
replaced_pair old new at first (Some e) lt is =
    let n = length-append (take at old) (first ∷ e ∷ drop (at + 2) old) in
    let front = length-take at old in
    let back = length-drop (at + 2) old in
    (omega (arith, ap length is, n, front, back, lt), omega (arith, ap length is, n, front, back, lt))

-- an entry that stands for itself
pub replaced_same : (old new : List Entry) (at : ℕ) (child first : Entry) (second : Option Entry) → at < length old → child ≡ slice_index_or old at child → new ≡ take at old ++ ((first ∷ option_to_list second) ++ drop (at + 1) old)
    → first ≡ child → second ≡ None → new ≡ old
replaced_same old new at child first second lt child_is is first_is none =
    let s = split_at old at lt in
    let here : first ≡ s.entry = first_is ∙ child_is ∙ s.item child in
    is ∙ ap (λ (o : Option Entry). take at old ++ ((first ∷ option_to_list o) ++ drop (at + 1) old)) none ∙ ap (λ (x : Entry). take at old ++ (x ∷ drop (at + 1) old)) here ∙ sym s.is

pub replaced_once : (old new : List Entry) (at : ℕ) (first : Entry) → at < length old → new ≡ take at old ++ ((first ∷ []) ++ drop (at + 1) old) → length new ≡ length old
replaced_once old new at first lt is =
    let s = split_at old at lt in
    omega (arith, ap length is, length-append (take at old) (first ∷ drop (at + 1) old), s.front, s.back)

pub kept_entry : (child : Entry) (key : ℕ) → Some child.key ≡ Some key → entry_of key child.page ≡ child
kept_entry child key is =
    let same : key ≡ child.key = cc in
    ap (λ (k : ℕ). entry_of k child.page) same

pub no_second : (second : Option Entry) → is_some second ≡ false → second ≡ None
no_second None is = refl
no_second (Some e) is = absurd cc

not_false : (b : Bool) → not b ≡ false → b ≡ true
not_false true is = refl
not_false false is = absurd cc

pub key_differs : (n m : ℕ) → n ≢ m → not (eqb n m) ≡ false → ⊥
key_differs n m differ same = differ (eqb-true n m (not_false (eqb n m) same))
