-- The words of a line, one after the other.
use Rattle.std.proofs.Common.{◌≡◌, ℕ, List, [], ◌∷◌, ◌++◌, ap, sym, ◌∙◌, append-nil, append_assoc}
use Rattle.std.specs.List.{join_with_byte}
use Rattle.script_replies.specs.Texts.{spaced, line_of}

-- after the first word each has a space before it
pub join_spaced : (w : List ℕ) (ws : List (List ℕ)) → join_with_byte 32 (w ∷ ws) ≡ w ++ spaced ws
join_spaced w [] = sym (append-nil w)
join_spaced w (v ∷ ws) = ap (λ (l : List ℕ). w ++ (32 ∷ l)) (join_spaced v ws)

-- a line of two words and more
pub whole_line : (out w v : List ℕ) (ws : List (List ℕ)) → ((out ++ (w ++ 32 ∷ v)) ++ spaced ws) ++ 10 ∷ [] ≡ out ++ line_of (w ∷ v ∷ ws)
whole_line out w v ws =
    ap (λ (l : List ℕ). l ++ 10 ∷ []) (append_assoc out (w ++ 32 ∷ v) (spaced ws))
    ∙ append_assoc out ((w ++ 32 ∷ v) ++ spaced ws) (10 ∷ [])
    ∙ ap (λ (l : List ℕ). out ++ (l ++ 10 ∷ [])) (append_assoc w (32 ∷ v) (spaced ws) ∙ sym (join_spaced w (v ∷ ws)))
