-- Lines of a few words, with a space between each two.
use Rattle.std.proofs.Common.{◌≡◌, ◌∙◌, ℕ, List, ◌∷◌, ◌++◌, ap, append_assoc}

pub three_words : (first second third : List ℕ) {mid line : List ℕ} → mid ≡ first ++ 32 ∷ second → line ≡ mid ++ 32 ∷ third → line ≡ first ++ 32 ∷ (second ++ 32 ∷ third)
three_words first second third {mid} {line} one two =
    two ∙ ap (λ (l : List ℕ). l ++ 32 ∷ third) one ∙ append_assoc first (32 ∷ second) (32 ∷ third)

pub four_words : (first second third fourth : List ℕ) {mid late line : List ℕ} → mid ≡ first ++ 32 ∷ second → late ≡ mid ++ 32 ∷ third → line ≡ late ++ 32 ∷ fourth
    → line ≡ first ++ 32 ∷ (second ++ 32 ∷ (third ++ 32 ∷ fourth))
four_words first second third fourth {mid} {late} {line} one two three =
    three ∙ ap (λ (l : List ℕ). l ++ 32 ∷ fourth) (three_words first second third one two) ∙ append_assoc first (32 ∷ (second ++ 32 ∷ third)) (32 ∷ fourth)
    ∙ ap (λ (l : List ℕ). first ++ 32 ∷ l) (append_assoc second (32 ∷ third) (32 ∷ fourth))

-- a text of more words behind two
pub words_behind : (first second behind last : List ℕ) {mid late line : List ℕ} → mid ≡ first ++ 32 ∷ second → late ≡ mid ++ behind → line ≡ late ++ last
    → line ≡ first ++ 32 ∷ (second ++ (behind ++ last))
words_behind first second behind last {mid} {late} {line} one two three =
    three ∙ ap (λ (l : List ℕ). l ++ last) (two ∙ ap (λ (l : List ℕ). l ++ behind) one) ∙ append_assoc (first ++ 32 ∷ second) behind last
    ∙ append_assoc first (32 ∷ second) (behind ++ last)
