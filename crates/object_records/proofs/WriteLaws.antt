-- A record's bytes while they are written.
use Rattle.std.proofs.Common.{◌≡◌, ℕ, ◌+◌, ◌-◌, ◌≤◌, max, List, [], ◌∷◌, ◌++◌, length, take, drop, Option, refl, ap, ◌∙◌, arith, append_assoc}
use Rattle.std.specs.Prelude.{slice_set}
use Rattle.std.proofs.lemmas.List.{append-nil, length-append, length-drop, take_at, drop_all}
use Rattle.ex_base.specs.declared.names.Place.{Place}
use Rattle.ex_base.specs.declared.names.Root.{Root}
use Rattle.ex_base.specs.Bytes.{written}
use Rattle.ex_base.specs.Fields.{two_bytes, eight_bytes, zeros, page_field, place_field}
use Rattle.ex_base.proofs.FieldLaws.{two_is, eight_is}
use Rattle.ex_base.proofs.Reading.{length-page_field}
use Rattle.ex_base.proofs.Places.{written_next, length-place_field}
use Rattle.object_records.specs.declared.Head.{Head}
use Rattle.object_records.specs.Record.{state_byte, record_bytes}
use Rattle.object_records.specs.Reads.{small_record, large_record}

two_set : (out : List ℕ) (form state : ℕ) → 2 ≤ length out → slice_set (slice_set out 0 form) 1 state ≡ (form ∷ state ∷ []) ++ drop 2 out
two_set [] form state le = absurd (omega arith)
two_set (x ∷ []) form state le = absurd (omega arith)
two_set (x ∷ y ∷ out) form state le = refl

abbrev pub head_bytes : ℕ → ℕ → ℕ → Option Place → Option Place → List ℕ
head_bytes form state unique older newer = (form ∷ state ∷ []) ++ eight_bytes unique ++ place_field older ++ place_field newer

pub head_written : (out : List ℕ) (form state unique : ℕ) (older newer : Option Place) → 2 ≤ length out → written (written (written (slice_set (slice_set out 0 form) 1 state) 2 (eight_bytes unique)) 10 (place_field older)) 16 (place_field newer) ≡ head_bytes form state unique older newer ++ drop 22 out
head_written out form state unique older newer le =
    let front : List ℕ = form ∷ state ∷ [] in
    let ten : length (front ++ eight_bytes unique) ≡ 10 = omega (arith, length-append (form ∷ state ∷ []) (eight_bytes unique), eight_is.len unique) in
    let sixteen : length (front ++ eight_bytes unique ++ place_field older) ≡ 16 = omega (arith, ten, length-append (front ++ eight_bytes unique) (place_field older), length-place_field older) in
    ap (λ (t : List ℕ). written (written (written t 2 (eight_bytes unique)) 10 (place_field older)) 16 (place_field newer)) (two_set out form state le)
    ∙ ap (λ (t : List ℕ). written (written t 10 (place_field older)) 16 (place_field newer)) (written_next front (eight_bytes unique) out 2 10 refl (omega (arith, eight_is.len unique)))
    ∙ ap (λ (t : List ℕ). written t 16 (place_field newer)) (written_next (front ++ eight_bytes unique) (place_field older) out 10 16 ten (omega (arith, length-place_field older)))
    ∙ written_next (front ++ eight_bytes unique ++ place_field older) (place_field newer) out 16 22 sixteen (omega (arith, length-place_field newer))

length-head : (form state unique : ℕ) (older newer : Option Place) → length (head_bytes form state unique older newer) ≡ 22
length-head form state unique older newer = omega (arith, length-append ((form ∷ state ∷ []) ++ eight_bytes unique ++ place_field older) (place_field newer), length-append ((form ∷ state ∷ []) ++ eight_bytes unique) (place_field older), length-append (form ∷ state ∷ []) (eight_bytes unique), eight_is.len unique, length-place_field older, length-place_field newer)

abbrev pub front_of : ℕ → Head → List ℕ
front_of form head = head_bytes form (state_byte head.state) head.unique head.older head.newer

pub small_written : (head : Head) (bytes out cleared : List ℕ) → length out ≡ 24 + max 12 (length bytes) → cleared ≡ written (written (front_of 1 head ++ drop 22 out) 22 (two_bytes (length bytes))) 24 bytes → take (24 + length bytes) cleared ++ zeros (length cleared - (24 + length bytes)) ≡ record_bytes (small_record head bytes)
unfolding record_bytes
small_written head bytes out cleared room e =
    let front : List ℕ = front_of 1 head in
    let n : ℕ = length bytes in
    let len : length (front_of 1 head) ≡ 22 = length-head 1 (state_byte head.state) head.unique head.older head.newer in
    let more : length (front_of 1 head ++ two_bytes (length bytes)) ≡ 24 = omega (arith, len, length-append (front_of 1 head) (two_bytes (length bytes)), two_is.len (length bytes)) in
    let all : length (front_of 1 head ++ two_bytes (length bytes) ++ bytes) ≡ 24 + length bytes = omega (arith, more, length-append (front_of 1 head ++ two_bytes (length bytes)) bytes) in
    let is : cleared ≡ (front_of 1 head ++ two_bytes (length bytes) ++ bytes) ++ drop (24 + length bytes) out =
    e ∙ ap (λ (t : List ℕ). written t 24 bytes) (written_next (front_of 1 head) (two_bytes (length bytes)) out 22 24 len (omega (arith, two_is.len (length bytes))))
    ∙ written_next (front_of 1 head ++ two_bytes (length bytes)) bytes out 24 (24 + length bytes) more refl in
    let kept : take (24 + length bytes) cleared ≡ front_of 1 head ++ two_bytes (length bytes) ++ bytes = ap (take (24 + length bytes)) is ∙ take_at (front_of 1 head ++ two_bytes (length bytes) ++ bytes) (drop (24 + length bytes) out) (24 + length bytes) all in
    let left : length cleared - (24 + length bytes) ≡ 12 - length bytes = omega (arith, ap length is, all, room, length-append (front_of 1 head ++ two_bytes (length bytes) ++ bytes) (drop (24 + length bytes) out), length-drop (24 + length bytes) out) in
    ap (λ (t : List ℕ). t ++ zeros (length cleared - (24 + length bytes))) kept
    ∙ ap (λ (k : ℕ). (front_of 1 head ++ two_bytes (length bytes) ++ bytes) ++ zeros k) left
    ∙ append_assoc (front_of 1 head ++ two_bytes (length bytes)) bytes (zeros (12 - length bytes))
    ∙ append_assoc (front_of 1 head) (two_bytes (length bytes)) (bytes ++ zeros (12 - length bytes))

pub large_written : (head : Head) (root : Root) (out : List ℕ) → length out ≡ 36 → written (written (written (front_of 2 head ++ drop 22 out) 22 (two_bytes root.height)) 24 (eight_bytes root.size)) 32 (page_field root.page) ≡ record_bytes (large_record head root)
unfolding record_bytes
large_written head root out room =
    let len : length (front_of 2 head) ≡ 22 = length-head 2 (state_byte head.state) head.unique head.older head.newer in
    let more : length (front_of 2 head ++ two_bytes root.height) ≡ 24 = omega (arith, len, length-append (front_of 2 head) (two_bytes root.height), two_is.len root.height) in
    let all : length (front_of 2 head ++ two_bytes root.height ++ eight_bytes root.size) ≡ 32 = omega (arith, more, length-append (front_of 2 head ++ two_bytes root.height) (eight_bytes root.size), eight_is.len root.size) in
    ap (λ (t : List ℕ). written (written t 24 (eight_bytes root.size)) 32 (page_field root.page)) (written_next (front_of 2 head) (two_bytes root.height) out 22 24 len (omega (arith, two_is.len root.height)))
    ∙ ap (λ (t : List ℕ). written t 32 (page_field root.page)) (written_next (front_of 2 head ++ two_bytes root.height) (eight_bytes root.size) out 24 32 more (omega (arith, eight_is.len root.size)))
    ∙ written_next (front_of 2 head ++ two_bytes root.height ++ eight_bytes root.size) (page_field root.page) out 32 36 all (omega (arith, length-page_field root.page))
    ∙ ap (λ (t : List ℕ). (front_of 2 head ++ two_bytes root.height ++ eight_bytes root.size ++ page_field root.page) ++ t) (drop_all 36 out (omega (arith, room)))
    ∙ append-nil (front_of 2 head ++ two_bytes root.height ++ eight_bytes root.size ++ page_field root.page)
    ∙ ap (λ (t : List ℕ). t ++ page_field root.page) (append_assoc (front_of 2 head) (two_bytes root.height) (eight_bytes root.size))
    ∙ append_assoc (front_of 2 head) (two_bytes root.height ++ eight_bytes root.size) (page_field root.page)
