-- What clap makes of the words of a command with one positional and options is what the scan makes
-- of them.
use Rattle.std.proofs.Common.{ℕ, ◌≡◌, ◌∙◌, sym, ap, refl, Bool, true, false, true≢false, not, ◌&&◌, ◌||◌, List, [], ◌∷◌, ◌++◌, Option, Some, None, is_some, cond, map}
use Rattle.std.specs.Prelude.{option_and_then, fold}
use Rattle.std.specs.List.{AllByRecursion}
use Rattle.std.specs.Str.{bytes_eq}
use Rattle.std.proofs.lemmas.List.{append-nil}
use Rattle.std.proofs.lemmas.Slice.Eq.{bytes_eq-Decides}
use Rattle.clap.specs.Lexer.{long_of, short_of}
use Rattle.clap.specs.Kinds.{Kinds, or_else}
use Rattle.clap.specs.Walk.{Held, Row, Rule, Walk, arg_by_id, arg_by_index, arg_by_long, finished, has_row, at_row, without, used, settled, walked, idle, more_values, option, Waiting}
use Rattle.clap.specs.Simple.{Shape, new_rule}
use Rattle.clap.specs.Faults.{check_fault, defaults_fault, settle_fault, use_fault, turn_fault, walk_fault}
use Rattle.clap.specs.declared.builder.action.ArgAction.TheVariants.{Set}
use Rattle.clap.specs.declared.builder.value_parser.ValueParser.TheVariants as vp
use Rattle.clap.specs.declared.builder.value_parser.Reading.TheVariants as reading
use Rattle.clap.specs.declared.parser.matches.ValueSource.TheVariants.{CommandLine}
use Rattle.clap.specs.declared.error.kind.ErrorKind.TheVariants as kind
use Rattle.command_words.proofs.Scan.{Text, Given, Mode, between, value_of, has_id, settle_on, after_long, step, last, scan, volume_id}

-- an argument that takes one value as it is written
abbrev pub value_rule : Text → Option Text → Option ℕ → Rule
value_rule id long index = record (new_rule id) {
  long = long;
  index = index;
  action = Some Set;
  range = Some (record { start_inclusive = 1; end_inclusive = 1 });
  parser = Some vp.String;
}

abbrev pub volume_rule : Rule
volume_rule = value_rule volume_id None (Some 1)

abbrev pub option_rule : Text → Rule
option_rule n = value_rule n (Some n) None

-- a built command with the volume and the options that pass the test
pub record TakesOptions (s : Shape) (is_option : Text → Bool) : Type 0 where
  pub first : arg_by_index s.rules 1 ≡ Some volume_rule
  pub second : arg_by_index s.rules 2 ≡ None
  pub long : (n : Text) → is_option n ≡ true → arg_by_long s.rules n ≡ Some (option_rule n)
  pub unknown : (n : Text) → is_option n ≡ false → arg_by_long s.rules n ≡ None
  pub volume : arg_by_id s.rules volume_id ≡ Some volume_rule
  pub named : (n : Text) → is_option n ≡ true → arg_by_id s.rules n ≡ Some (option_rule n)
  pub again : s.args_override_self ≡ false
  pub leaf : s.is_leaf ≡ true
  pub defaults : (rows : List Row) → defaults_fault rows s.rules ≡ []
  pub checks : (rows : List Row) → check_fault s rows false ≡ []
  pub plain : (h : Held) → finished s.rules h ≡ (settled s.rules h).rows

-- a word that is neither `--` nor a short flag
pub record IsFit (w : Text) : Type 0 where
  pub not_dashes : bytes_eq w (45 ∷ 45 ∷ []) ≡ false
  pub not_short : long_of w ≡ None → short_of w ≡ None

abbrev pub row : Given → Row
row p = record {
  id = p.0;
  values = p.1 ∷ [];
  count = None;
  source = Some CommandLine;
  reading = reading.AsWritten;
}

abbrev pub pending : Mode → Option (Text × List Text)
pending (between None) = None
pending (between (Some p)) = Some (p.0, p.1 ∷ [])
pending (value_of n) = Some (n, [])

abbrev pub held : List Given → Mode → Held
held g m = record { rows = map row g; pending = pending m; skip = 0 }

abbrev pub waits : Mode → Waiting
waits (between p) = idle
waits (value_of n) = option n

abbrev pub place : Bool → ℕ
place true = 2
place false = 1

abbrev pub state : List Given → Mode → Bool → Walk
state g m hv = record { held = held g m; waiting = waits m; position = place hv; is_trailing = false; stopped = None }

-- ---- rows

has_row-row : (id : Text) (g : List Given) → has_row id (map row g) ≡ has_id id g
has_row-row id [] = refl
has_row-row id (p ∷ g) = ap (λ b. bytes_eq p.0 id || b) (has_row-row id g)

new_row : (id : Text) (change : Row → List Row) (missing : List Row) (g : List Given) → has_id id g ≡ false
    → at_row id change missing (map row g) ≡ map row g ++ missing
new_row id change missing [] h = refl
new_row id change missing (p ∷ g) h = go (bytes_eq p.0 id) refl (λ e. new_row id change missing g (rw e at h))
  where
    go : (b : Bool) → bytes_eq p.0 id ≡ b → (bytes_eq p.0 id ≡ false → at_row id change missing (map row g) ≡ map row g ++ missing)
        → at_row id change missing (map row (p ∷ g)) ≡ map row (p ∷ g) ++ missing
    go true e rest = absurd (true≢false (rw e at h))
    go false e rest = rw e (ap (λ l. row p ∷ l) (rest e))

rows-push : (p : Given) (g : List Given) → map row g ++ row p ∷ [] ≡ map row (g ++ p ∷ [])
rows-push p [] = refl
rows-push p (q ∷ g) = ap (λ l. row q ∷ l) (rows-push p g)

-- the first use of an argument adds its row
use_adds : (id v : Text) (long : Option Text) (index : Option ℕ) (g : List Given) → has_id id g ≡ false
    → used (value_rule id long index) (v ∷ []) (map row g) ≡ map row (g ++ (id, v) ∷ [])
use_adds id v long index g h =
    let gone : without id (map row g) ≡ map row g = new_row id (λ _. []) [] g h ∙ append-nil (map row g) in
    rw gone (new_row id (more_values CommandLine (v ∷ [])) (row (id, v) ∷ []) g h ∙ rows-push (id, v) g)

-- and a second one is refused
use_passes : (id v : Text) (long : Option Text) (index : Option ℕ) (g : List Given) → has_id id g ≡ false
    → use_fault false (value_rule id long index) (v ∷ []) (map row g) ≡ []
use_passes id v long index g h = rw (has_row-row id g, h) refl

use_fails : (id v : Text) (long : Option Text) (index : Option ℕ) (g : List Given) → has_id id g ≡ true
    → use_fault false (value_rule id long index) (v ∷ []) (map row g) ≡ kind.ArgumentConflict ∷ []
use_fails id v long index g h = rw (has_row-row id g, h) refl

-- ---- the pending use

abbrev rows_only : List Row → Held
rows_only rows = record { rows = rows; pending = None; skip = 0 }

-- the argument of the pending use is known
abbrev pub Known : Shape → Mode → Type 0
Known s (between None) = Unit {0}
Known s (between (Some p)) = (long : Option Text) × (index : Option ℕ) × (arg_by_id s.rules p.0 ≡ Some (value_rule p.0 long index))
Known s (value_of n) = arg_by_id s.rules n ≡ Some (option_rule n)

-- what is settled is what the scan settles, and a second use is a fault
abbrev pub SettlesAs : Shape → List Given → Option Given → Option (List Given) → Type 0
SettlesAs s g p None = settle_fault s.rules false (held g (between p)) ≡ kind.ArgumentConflict ∷ []
SettlesAs s g p (Some g') =
    (settle_fault s.rules false (held g (between p)) ≡ []) × (settled s.rules (held g (between p)) ≡ held g' (between None))

settles : (s : Shape) (g : List Given) (p : Option Given) → Known s (between p) → SettlesAs s g p (settle_on g p)
settles s g None known = (refl, refl)
settles s g (Some p) (long, index, known) = go (has_id p.0 g) refl
  where
    go : (b : Bool) → has_id p.0 g ≡ b → SettlesAs s g (Some p) (cond b None (Some (g ++ p ∷ [])))
    go true e = rw known (use_fails p.0 p.1 long index g e)
    go false e = (
      rw known (use_passes p.0 p.1 long index g e),
      rw known (ap rows_only (use_adds p.0 p.1 long index g e)),
    )

-- ---- one word

rows_of_held : {h k : Held} → h ≡ k → h.rows ≡ k.rows
rows_of_held e = ap (λ (x : Held). x.rows) e

and_false : (b : Bool) → (b && false) ≡ false
and_false true = refl
and_false false = refl

same_text : (n : Text) → bytes_eq n n ≡ true
same_text n = (bytes_eq-Decides n n).1 refl

abbrev pub Faulty : Kinds → Type 0
Faulty ks = ks ≡ [] → ⊥

faulty-cons : (k : _) (ks : Kinds) → Faulty (k ∷ ks)
faulty-cons k ks e = cc

-- one turn of the walk is one step of the scan
abbrev pub TurnsAs : Shape → List Given → Mode → Bool → Text → Option (List Given × Mode × Bool) → Type 0
TurnsAs s g m hv w None = Faulty (turn_fault s [] (state g m hv) w)
TurnsAs s g m hv w (Some n) =
    (turn_fault s [] (state g m hv) w ≡ []) × (walked s.rules [] (state g m hv) w ≡ state n.0 n.1 n.2) × Known s n.1

module _ (s : Shape) (is_option : Text → Bool) (t : TakesOptions s is_option) where
  -- an option waits for its value
  turn_value : (g : List Given) (n : Text) (hv : Bool) (w : Text) → IsFit w → Known s (value_of n)
      → (lo : Option (Text × Option Text)) → long_of w ≡ lo
      → TurnsAs s g (value_of n) hv w (cond (is_some lo) None (Some (g, between (Some (n, w)), hv)))
  unfolding walked
  turn_value g n hv w fit known None e = (
    rw (fit.not_dashes, e, fit.not_short e) refl,
    rw (fit.not_dashes, e, fit.not_short e, known, same_text n) refl,
    (Some n, None, known),
  )
  turn_value g n hv w fit known (Some (name, v)) e = go (is_option name) refl v e
    where
      go : (b : Bool) → is_option name ≡ b → (v : Option Text) → long_of w ≡ Some (name, v) → Faulty (turn_fault s [] (state g (value_of n) hv) w)
      go false o v e = rw (fit.not_dashes, e, t.unknown name o) (faulty-cons _ _)
      go true o None e = rw (fit.not_dashes, e, t.long name o, t.again, known) (faulty-cons _ _)
      go true o (Some v) e = rw (fit.not_dashes, e, t.long name o, t.again, known) (faulty-cons _ _)

  -- a word between two uses: where the pending use is a second one
  turn_refused : (g : List Given) (p : Option Given) (hv : Bool) (w : Text) → IsFit w → SettlesAs s g p None
      → (lo : Option (Text × Option Text)) → long_of w ≡ lo → Faulty (turn_fault s [] (state g (between p) hv) w)
  turn_refused g p true w fit st None e = rw (fit.not_dashes, e, fit.not_short e, t.second, t.leaf) (faulty-cons _ _)
  turn_refused g p false w fit st None e = rw (fit.not_dashes, e, fit.not_short e, t.first, and_false, t.again, st) (faulty-cons _ _)
  turn_refused g p hv w fit st (Some (name, v)) e = go (is_option name) refl v e
    where
      go : (b : Bool) → is_option name ≡ b → (v : Option Text) → long_of w ≡ Some (name, v) → Faulty (turn_fault s [] (state g (between p) hv) w)
      go false o v e = rw (fit.not_dashes, e, t.unknown name o) (faulty-cons _ _)
      go true o None e = rw (fit.not_dashes, e, t.long name o, t.again, st) (faulty-cons _ _)
      go true o (Some v) e = rw (fit.not_dashes, e, t.long name o, t.again, st) (faulty-cons _ _)

  -- and where it is the first
  turn_settled : (g g' : List Given) (p : Option Given) (hv : Bool) (w : Text) → IsFit w → SettlesAs s g p (Some g')
      → (lo : Option (Text × Option Text)) → long_of w ≡ lo → TurnsAs s g (between p) hv w (after_long is_option lo hv w g')
  unfolding walked
  turn_settled g g' p true w fit st None e = rw (fit.not_dashes, e, fit.not_short e, t.second, t.leaf) (faulty-cons _ _)
  turn_settled g g' p false w fit st None e = (
    rw (fit.not_dashes, e, fit.not_short e, t.first, and_false, t.again, st.0) refl,
    rw (fit.not_dashes, e, fit.not_short e, t.first, and_false, rows_of_held st.1) refl,
    (None, Some 1, t.volume),
  )
  turn_settled g g' p hv w fit st (Some (name, None)) e = go (is_option name) refl
    where
      go : (b : Bool) → is_option name ≡ b → TurnsAs s g (between p) hv w (cond b (Some (g', value_of name, hv)) None)
      go false o = rw (fit.not_dashes, e, t.unknown name o) (faulty-cons _ _)
      go true o = (
        rw (fit.not_dashes, e, t.long name o, t.again, st.0) refl,
        rw (fit.not_dashes, e, t.long name o, rows_of_held st.1) refl,
        t.named name o,
      )
  turn_settled g g' p hv w fit st (Some (name, Some v)) e = go (is_option name) refl (has_id name g') refl
    where
      go : (b : Bool) → is_option name ≡ b → (d : Bool) → has_id name g' ≡ d
          → TurnsAs s g (between p) hv w (cond (b && not d) (Some (g' ++ (name, v) ∷ [], between None, hv)) None)
      go false o d h = rw (fit.not_dashes, e, t.unknown name o) (faulty-cons _ _)
      go true o true h = rw (fit.not_dashes, e, t.long name o, t.again, st.0, rows_of_held st.1, use_fails name v (Some name) None g' h) (faulty-cons _ _)
      go true o false h = (
        rw (fit.not_dashes, e, t.long name o, t.again, st.0, rows_of_held st.1, use_passes name v (Some name) None g' h) refl,
        rw (fit.not_dashes, e, t.long name o, rows_of_held st.1, use_adds name v (Some name) None g' h) refl,
        tt,
      )

  turns : (g : List Given) (m : Mode) (hv : Bool) (w : Text) → IsFit w → Known s m → TurnsAs s g m hv w (step is_option g m hv w)
  turns g (value_of n) hv w fit known = turn_value g n hv w fit known (long_of w) refl
  turns g (between p) hv w fit known = go (settle_on g p) (settles s g p known)
    where
      go : (so : Option (List Given)) → SettlesAs s g p so → TurnsAs s g (between p) hv w (option_and_then (after_long is_option (long_of w) hv w) so)
      go None st = turn_refused g p hv w fit st (long_of w) refl
      go (Some g') st = turn_settled g g' p hv w fit st (long_of w) refl

  -- ---- all the words

  abbrev pub end_fault : Held → Kinds
  end_fault h = or_else (settle_fault s.rules s.args_override_self h)
      (or_else (defaults_fault (settled s.rules h).rows s.rules) (check_fault s (finished s.rules h) false))

  abbrev pub whole_fault : Walk → List Text → Kinds
  whole_fault w ws = or_else (walk_fault s [] w ws) (end_fault (fold (walked s.rules []) w ws).held)

  abbrev pub EndsAs : Walk → List Text → Option (List Given) → Type 0
  EndsAs w ws None = Faulty (whole_fault w ws)
  EndsAs w ws (Some g) = (whole_fault w ws ≡ []) × (finished s.rules (fold (walked s.rules []) w ws).held ≡ map row g)

  first_faulty : (a b c : Kinds) → Faulty a → Faulty (or_else (or_else a b) c)
  first_faulty [] b c h = absurd (h refl)
  first_faulty (k ∷ ks) b c h = faulty-cons _ _

  ends : (g : List Given) (m : Mode) (hv : Bool) → Known s m → EndsAs (state g m hv) [] (last is_option g m)
  unfolding walk_fault
  ends g (value_of n) hv known = rw (t.again, known) (faulty-cons _ _)
  ends g (between p) hv known = go (settle_on g p) (settles s g p known)
    where
      go : (so : Option (List Given)) → SettlesAs s g p so → EndsAs (state g (between p) hv) [] so
      go None st = rw (t.again, st) (faulty-cons _ _)
      go (Some g') st = (
        rw (t.again, st.0, t.defaults, t.checks) refl,
        t.plain (held g (between p)) ∙ rows_of_held st.1,
      )

  -- a turn that passes leaves the faults of the rest
  moved : (ws : List Text) (w : Text) (v v' : Walk) → turn_fault s [] v w ≡ [] → walked s.rules [] v w ≡ v' → whole_fault v (w ∷ ws) ≡ whole_fault v' ws
  unfolding walk_fault
  moved ws w v v' none same =
      ap (λ (ks : Kinds). or_else (or_else ks (walk_fault s [] (walked s.rules [] v w) ws)) (end_fault (fold (walked s.rules []) (walked s.rules [] v w) ws).held)) none
      ∙ ap (λ (x : Walk). or_else (walk_fault s [] x ws) (end_fault (fold (walked s.rules []) x ws).held)) same

  pub walks : (ws : List Text) → AllByRecursion IsFit ws → (g : List Given) (m : Mode) (hv : Bool) → Known s m
      → EndsAs (state g m hv) ws (scan is_option g m hv ws)
  unfolding scan walk_fault
  walks [] fits g m hv known = ends g m hv known
  walks (w ∷ ws) fits g m hv known =
      go (step is_option g m hv w) (turns g m hv w fits.0 known) (walks ws fits.1)
    where
      go : (o : Option (List Given × Mode × Bool)) → TurnsAs s g m hv w o
          → ((g' : List Given) (m' : Mode) (hv' : Bool) → Known s m' → EndsAs (state g' m' hv') ws (scan is_option g' m' hv' ws))
          → EndsAs (state g m hv) (w ∷ ws) (option_and_then (λ (n : List Given × Mode × Bool). scan is_option n.0 n.1 n.2 ws) o)
      go None st rest = first_faulty _ _ _ st
      go (Some n) st rest = next (scan is_option n.0 n.1 n.2 ws) (rest n.0 n.1 n.2 st.2)
        where
          next : (r : Option (List Given)) → EndsAs (state n.0 n.1 n.2) ws r → EndsAs (state g m hv) (w ∷ ws) r
          next None h = λ z. h (sym (moved ws w _ _ st.0 st.1) ∙ z)
          next (Some r) h = (moved ws w _ _ st.0 st.1 ∙ h.0, ap (λ (x : Walk). finished s.rules (fold (walked s.rules []) x ws).held) st.1 ∙ h.1)
