-- The words after a command's name, read one by one: a plain word is the volume, `--name value` and
-- `--name=value` give an option its value, and nothing is given twice.
use Rattle.std.proofs.Common.{ℕ, Bool, true, false, not, ◌&&◌, List, [], ◌∷◌, ◌++◌, Option, Some, None, is_some, cond}
use Rattle.std.specs.Prelude.{codes, option_and_then}
use Rattle.std.specs.List.{list_any}
use Rattle.std.specs.Str.{bytes_eq}
use Rattle.clap.specs.Lexer.{long_of}

abbrev pub Text : Type 0
Text = List ℕ

-- a name with its value
abbrev pub Given : Type 0
Given = Text × Text

abbrev pub volume_id : Text
volume_id = codes "volume"

abbrev pub has_id : Text → List Given → Bool
has_id id g = list_any (λ p. bytes_eq p.0 id) g

-- between two uses, with the last one not yet looked at; or an option waits for its value
pub data Mode : Type 0 where
  between : Option Given → Mode
  value_of : Text → Mode

abbrev pub settle_on : List Given → Option Given → Option (List Given)
settle_on g None = Some g
settle_on g (Some p) = cond (has_id p.0 g) None (Some (g ++ p ∷ []))

module _ (is_option : Text → Bool) where
  abbrev pub after_long : Option (Text × Option Text) → Bool → Text → List Given → Option (List Given × Mode × Bool)
  after_long None true w g = None
  after_long None false w g = Some (g, between (Some (volume_id, w)), true)
  after_long (Some (n, None)) hv w g = cond (is_option n) (Some (g, value_of n, hv)) None
  after_long (Some (n, Some v)) hv w g = cond (is_option n && not (has_id n g)) (Some (g ++ (n, v) ∷ [], between None, hv)) None

  abbrev pub step : List Given → Mode → Bool → Text → Option (List Given × Mode × Bool)
  step g (between p) hv w = option_and_then (after_long (long_of w) hv w) (settle_on g p)
  step g (value_of n) hv w = cond (is_some (long_of w)) None (Some (g, between (Some (n, w)), hv))

  abbrev pub last : List Given → Mode → Option (List Given)
  last g (between p) = settle_on g p
  last g (value_of n) = None

  unfoldable pub scan : List Given → Mode → Bool → List Text → Option (List Given)
  scan g m hv [] = last g m
  scan g m hv (w ∷ ws) = option_and_then (λ s. scan s.0 s.1 s.2 ws) (step g m hv w)
