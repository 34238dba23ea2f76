use Rattle.std.proofs.Common.{◌≡◌, ◌∙◌, sym, ap, refl, arith, List, ℕ, ◌<◌, [], ◌∷◌, length, true, false}
use Rattle.std.proofs.lemmas.List.Splits.{length-slice_split}
use Rattle.table_model.specs.Words.{data_of_parts, data_bytes, colon, hex_bytes, is_hex}
use Rattle.data_words.proofs.HexParts.{hex_part, hex_bytes-other}
use Rattle.std.specs.List.{slice_split}
use Rattle.data_words.proofs.data.data_bytes.Goals as goal

four : (k n b : List ℕ) (more : List (List ℕ)) → 0 < length more → data_of_parts (k ∷ n ∷ b ∷ more) ≡ []
four k n b [] h = let bad : ⊥ = omega (arith, h) in absurd bad
four k n b (m ∷ ms) h = refl

joined : (word rest last left k n b : List ℕ) → slice_split colon word ≡ k ∷ slice_split colon rest →
    slice_split colon rest ≡ n ∷ slice_split colon last → slice_split colon last ≡ b ∷ slice_split colon left → data_bytes word ≡ []
joined word rest last left k n b e f g =
    ap data_of_parts (e ∙ ap (λ ps. k ∷ ps) (f ∙ ap (λ ps. n ∷ ps) g))
    ∙ four k n b (slice_split colon left) (omega (arith, length-slice_split colon left))

pub returns-in-Some-cut-2 : goal.returns-in-Some-cut-2
returns-in-Some-cut-2 c =
    let made : ◌≡◌ {A = List ℕ} c.make-in-Some-cut-2.result [] = c.make-in-Some-cut-2.ensures in
    made ∙ sym (joined c.args.word.now c.in-Some.rest.now c.in-Some-cut.byte.now c.in-Some-cut-2.field-0.1.now c.in-Some.field-0-0.now c.in-Some-cut.count.now c.in-Some-cut-2.field-0.0.now
    (c.in-Some.ensures {u = tt}) (c.in-Some-cut.ensures {u = tt}) (c.in-Some-cut-2.ensures {u = tt}))

-- digits alone behind the first colon
digits : (word key rest : List ℕ) → slice_split colon word ≡ key ∷ slice_split colon rest → is_hex rest ≡ true → data_bytes word ≡ hex_bytes rest
digits word key rest e h = ap data_of_parts (e ∙ ap (λ ps. key ∷ ps) (hex_part rest h))

-- other bytes alone behind it
no_digits : (word key rest : List ℕ) → slice_split colon word ≡ key ∷ slice_split colon rest → slice_split colon rest ≡ rest ∷ [] → is_hex rest ≡ false → data_bytes word ≡ []
no_digits word key rest e f h = ap data_of_parts (e ∙ ap (λ ps. key ∷ ps) f) ∙ hex_bytes-other rest h

pub returns-then-is_hex : goal.returns-then-is_hex
returns-then-is_hex c =
    let made : ◌≡◌ {A = List ℕ} c.of.result (hex_bytes c.in-Some.rest.now) = c.of.ensures ∙ c.in_ok-hex_bytes.ensures {u = tt} in
    made ∙ sym (digits c.args.word.now c.in-Some.field-0-0.now c.in-Some.rest.now (c.in-Some.ensures {u = tt}) (sym c.is_hex.ensures ∙ c.if-is_hex.true))

pub returns-in_default-cut : goal.returns-in_default-cut
returns-in_default-cut c =
    let made : ◌≡◌ {A = List ℕ} c.make-in_default-cut.result [] = c.make-in_default-cut.ensures in
    made ∙ sym (no_digits c.args.word.now c.in-Some.field-0-0.now c.in-Some.rest.now (c.in-Some.ensures {u = tt}) (c.in_default-cut.ensures {u = tt}) (sym c.is_hex.ensures ∙ c.if-is_hex.false))
