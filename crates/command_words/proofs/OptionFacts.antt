-- What clap builds of a command with a volume and options, and that it reads words as the scan does.
use Rattle.std.proofs.Common.{ℕ, ◌≡◌, ◌⊎◌, inl, inr, ◌∙◌, sym, ap, refl, subst, Bool, true, false, true≢false, not, ◌&&◌, ◌||◌, List, [], ◌∷◌, ◌++◌, Option, Some, None, is_some, cond, codes, map}
use Rattle.std.specs.Prelude.{fold}
use Rattle.std.specs.List.{AllByRecursion, list_any}
use Rattle.std.specs.Str.{bytes_eq}
use Rattle.std.proofs.lemmas.Slice.Eq.{bytes_eq-Decides}
use Rattle.clap.specs.Lexer.{long_of}
use Rattle.clap.specs.Takes.{is_given}
use Rattle.clap.specs.Walk.{Row, Rule, Text, with_default, arg_by_id, arg_by_index, arg_by_long, finished, has_row, rows_after, settled, walk, walked, nothing_held}
use Rattle.clap.specs.Simple.{App, Shape, argument_words, built, entered, is_simple, matches_of, names_of}
use Rattle.clap.specs.Faults.{built_fault, default_fault, defaults_fault, entered_fault, fault_of, is_simple_and_free, level_fault}
use Rattle.command_words.specs.ClapCommand.{app_for, is_fit}
use Rattle.command_words.specs.Commands.{option_names, text_of}
use Rattle.command_words.specs.Items.{HasName}
use Rattle.command_words.specs.declared.commands.CommandWord.{CommandWord}
use Rattle.command_words.specs.declared.commands.CommandWord.TheVariants.{Format, Run, Check, Gen, Clients, Dump, Load, Pack}
use Rattle.command_words.proofs.Scan.{between, volume_id}
use Rattle.command_words.proofs.ScanSpells.{OptionNames}
use Rattle.command_words.proofs.WalkAsScan.{TakesOptions, volume_rule, option_rule, state, whole_fault}

-- ---- names of options

abbrev pub is_name : List Text → Text → Bool
is_name [] n = false
is_name (m ∷ names) n = bytes_eq n m || is_name names n

-- an option may have this name
pub record IsOptionName (n : Text) : Type 0 where
  pub apart : long_of (codes "--" ++ n) ≡ Some (n, None)
  pub joined : (v : Text) → long_of (codes "--" ++ (n ++ (codes "=" ++ v))) ≡ Some (n, Some v)
  pub apart_fits : is_fit (codes "--" ++ n) ≡ true
  pub joined_fits : (v : Text) → is_fit (codes "--" ++ (n ++ (codes "=" ++ v))) ≡ true
  pub not_volume : bytes_eq n volume_id ≡ false

abbrev pub AreNames : List Text → Type 0
AreNames names = AllByRecursion IsOptionName names

or_true : (b : Bool) → (b || true) ≡ true
or_true true = refl
or_true false = refl

pub has_name : (names : List Text) (n : Text) → is_name names n ≡ true → HasName names n
has_name [] n e = true≢false (sym e)
has_name (m ∷ names) n e = go (bytes_eq n m) refl (has_name names n)
  where
    go : (b : Bool) → bytes_eq n m ≡ b → (is_name names n ≡ true → HasName names n) → (n ≡ m) ⊎ HasName names n
    go true k rest = inl ((bytes_eq-Decides n m).0 k)
    go false k rest = inr (rest (rw k at e))

pub is_named : (names : List Text) (n : Text) → HasName names n → is_name names n ≡ true
is_named [] n h = absurd h
is_named (m ∷ names) n (inl e) = rw ((bytes_eq-Decides n m).1 e) refl
is_named (m ∷ names) n (inr h) = ap (λ b. bytes_eq n m || b) (is_named names n h) ∙ or_true (bytes_eq n m)

pub option_name : (names : List Text) (n : Text) → AreNames names → HasName names n → IsOptionName n
option_name [] n all h = absurd h
option_name (m ∷ names) n all (inl e) = subst IsOptionName (sym e) all.0
option_name (m ∷ names) n all (inr h) = option_name names n all.1 h

pub swapped : (n m : Text) → bytes_eq n m ≡ false → bytes_eq m n ≡ false
swapped n m h = go (bytes_eq m n) refl
  where
    go : (b : Bool) → bytes_eq m n ≡ b → b ≡ false
    go true e = absurd (true≢false (sym ((bytes_eq-Decides n m).1 (sym ((bytes_eq-Decides m n).0 e))) ∙ h))
    go false e = refl

pub names_are : (names : List Text) → AreNames names → OptionNames (is_name names)
names_are names all = record {
  apart_word = λ n h. (option_name names n all (has_name names n h)).apart;
  joined_word = λ n v h. (option_name names n all (has_name names n h)).joined v;
  not_volume = λ n h. (option_name names n all (has_name names n h)).not_volume;
}

-- ---- the rules

abbrev pub rules_with : List Text → List Rule
rules_with names = volume_rule ∷ map option_rule names

long_found : (names : List Text) (n : Text) → is_name names n ≡ true → arg_by_long (map option_rule names) n ≡ Some (option_rule n)
long_found [] n h = absurd (true≢false (sym h))
long_found (m ∷ names) n h = go (bytes_eq n m) refl (long_found names n)
  where
    go : (b : Bool) → bytes_eq n m ≡ b → (is_name names n ≡ true → arg_by_long (map option_rule names) n ≡ Some (option_rule n))
        → arg_by_long (map option_rule (m ∷ names)) n ≡ Some (option_rule n)
    go true e rest =
        let same : n ≡ m = (bytes_eq-Decides n m).0 e in
        rw ((bytes_eq-Decides m n).1 (sym same)) (ap (λ x. Some (option_rule x)) (sym same))
    go false e rest = rw (swapped n m e) (rest (rw e at h))

long_unknown : (names : List Text) (n : Text) → is_name names n ≡ false → arg_by_long (map option_rule names) n ≡ None
long_unknown [] n h = refl
long_unknown (m ∷ names) n h = go (bytes_eq n m) refl (long_unknown names n)
  where
    go : (b : Bool) → bytes_eq n m ≡ b → (is_name names n ≡ false → arg_by_long (map option_rule names) n ≡ None)
        → arg_by_long (map option_rule (m ∷ names)) n ≡ None
    go true e rest = absurd (true≢false (rw e at h))
    go false e rest = rw (swapped n m e) (rest (rw e at h))

id_found : (names : List Text) (n : Text) → is_name names n ≡ true → arg_by_id (map option_rule names) n ≡ Some (option_rule n)
id_found [] n h = absurd (true≢false (sym h))
id_found (m ∷ names) n h = go (bytes_eq n m) refl (id_found names n)
  where
    go : (b : Bool) → bytes_eq n m ≡ b → (is_name names n ≡ true → arg_by_id (map option_rule names) n ≡ Some (option_rule n))
        → arg_by_id (map option_rule (m ∷ names)) n ≡ Some (option_rule n)
    go true e rest =
        let same : n ≡ m = (bytes_eq-Decides n m).0 e in
        rw ((bytes_eq-Decides m n).1 (sym same)) (ap (λ x. Some (option_rule x)) (sym same))
    go false e rest = rw (swapped n m e) (rest (rw e at h))

no_index : (names : List Text) (i : ℕ) → arg_by_index (map option_rule names) i ≡ None
no_index [] i = refl
no_index (m ∷ names) i = no_index names i

none_required : (names : List Text) (is : Rule → Bool) → list_any (λ (a : Rule). a.required && is a) (map option_rule names) ≡ false
none_required [] is = refl
none_required (m ∷ names) is = none_required names is

cond_same : {X : Type 0} (b : Bool) (x : X) → cond b x x ≡ x
cond_same true x = refl
cond_same false x = refl

-- arguments without a default value
abbrev HasNone : List Rule → Type 0
HasNone [] = Unit {0}
HasNone (a ∷ rest) = (a.defaults ≡ []) × HasNone rest

keeps : (rows : List Row) (a : Rule) → a.defaults ≡ [] → with_default rows a ≡ rows
keeps rows a e = rw e (cond_same (has_row a.id rows) rows)

passes : (rows : List Row) (a : Rule) → a.defaults ≡ [] → default_fault rows a ≡ []
passes rows a e = rw (e, or_true) refl

no_defaults : (c : List Rule) → HasNone c → (rows : List Row) → defaults_fault rows c ≡ []
unfolding defaults_fault
no_defaults [] h rows = refl
no_defaults (a ∷ rest) h rows = rw (passes rows a h.0, keeps rows a h.0) (no_defaults rest h.1 rows)

all_kept : (c : List Rule) → HasNone c → (rows : List Row) → fold with_default rows c ≡ rows
all_kept [] h rows = refl
all_kept (a ∷ rest) h rows = ap (λ r. fold with_default r rest) (keeps rows a h.0) ∙ all_kept rest h.1 rows

none_given : (names : List Text) → HasNone (map option_rule names)
none_given [] = tt
none_given (m ∷ names) = (refl, none_given names)

-- ---- the command as it is built

abbrev pub plain_shape : Text → List Text → Shape
plain_shape name names = record {
  name = name;
  aliases = [];
  rules = rules_with names;
  is_plain = true;
  is_leaf = true;
  no_binary_name = true;
  disable_help_flag = true;
  disable_help_subcommand = true;
  disable_version_flag = true;
  propagate_version = false;
  has_version = false;
  has_long_version = false;
  args_override_self = false;
  arg_required_else_help = false;
  subcommand_required = false;
  subcommand_negates_reqs = false;
  is_built = true;
}

abbrev pub plain_app : Text → List Text → App
plain_app name names = record { top = plain_shape name names; subs = [] }

pub takes : (name : Text) (names : List Text) → AreNames names → TakesOptions (plain_shape name names) (is_name names)
takes name names all = record {
  first = refl;
  second = no_index names 2;
  long = long_found names;
  unknown = long_unknown names;
  volume = refl;
  named = λ n h. rw (swapped n volume_id ((option_name names n all (has_name names n h)).not_volume)) (id_found names n h);
  again = refl;
  leaf = refl;
  defaults = no_defaults (rules_with names) (refl, none_given names);
  checks = λ rows. rw (none_required names (λ (a : Rule). not (is_given a.id rows))) refl;
  plain = λ h. all_kept (rules_with names) (refl, none_given names) (settled (rules_with names) h).rows;
}

-- no subcommand is entered
abbrev Stop : Type 0
Stop = Option (Text × List Text)

none_entered : (name : Text) (names : List Text) (stop : Stop) → entered (plain_app name names) stop ≡ None
none_entered name names None = refl
none_entered name names (Some p) = refl

none_failed : (name : Text) (names : List Text) (stop : Stop) → entered_fault (plain_app name names) stop ≡ []
none_failed name names None = refl
none_failed name names (Some p) = refl

plain_fault : (name : Text) (names : List Text) (all : AreNames names) (ws : List Text)
    → built_fault (plain_app name names) nothing_held ws ≡ whole_fault (plain_shape name names) (is_name names) (takes name names all) (state [] (between None) false) ws
plain_fault name names all ws = (λ i. level_fault (plain_shape name names) [] nothing_held ws
    (is_some (none_entered name names (walk (rules_with names) [] nothing_held ws).stopped i)) (none_failed name names (walk (rules_with names) [] nothing_held ws).stopped i))

-- ---- the commands

pub built_is : (c : CommandWord) → built (app_for c) ≡ plain_app (text_of c) (option_names c)
built_is Format = refl
built_is Run = refl
built_is Check = refl
built_is Gen = refl
built_is Clients = refl
built_is Dump = refl
built_is Load = refl
built_is Pack = refl

pub simple : (c : CommandWord) → is_simple_and_free (app_for c) ≡ true
simple Format = refl
simple Run = refl
simple Check = refl
simple Gen = refl
simple Clients = refl
simple Dump = refl
simple Load = refl
simple Pack = refl

pub simple_only : (c : CommandWord) → is_simple (app_for c) ≡ true
simple_only Format = refl
simple_only Run = refl
simple_only Check = refl
simple_only Gen = refl
simple_only Clients = refl
simple_only Dump = refl
simple_only Load = refl
simple_only Pack = refl

all_words : (c : CommandWord) (ws : List Text) → argument_words (app_for c) ws ≡ ws
all_words Format ws = refl
all_words Run ws = refl
all_words Check ws = refl
all_words Gen ws = refl
all_words Clients ws = refl
all_words Dump ws = refl
all_words Load ws = refl
all_words Pack ws = refl

pub option_words : (c : CommandWord) → AreNames (option_names c)
option_words Format = (
  record { apart = refl; joined = λ v. refl; apart_fits = refl; joined_fits = λ v. refl; not_volume = refl },
  (
    record { apart = refl; joined = λ v. refl; apart_fits = refl; joined_fits = λ v. refl; not_volume = refl },
    (
      record { apart = refl; joined = λ v. refl; apart_fits = refl; joined_fits = λ v. refl; not_volume = refl },
      (record { apart = refl; joined = λ v. refl; apart_fits = refl; joined_fits = λ v. refl; not_volume = refl }, (record { apart = refl; joined = λ v. refl; apart_fits = refl; joined_fits = λ v. refl; not_volume = refl }, tt)),
    ),
  ),
)
option_words Run = (record { apart = refl; joined = λ v. refl; apart_fits = refl; joined_fits = λ v. refl; not_volume = refl }, tt)
option_words Check = tt
option_words Gen = (record { apart = refl; joined = λ v. refl; apart_fits = refl; joined_fits = λ v. refl; not_volume = refl }, (record { apart = refl; joined = λ v. refl; apart_fits = refl; joined_fits = λ v. refl; not_volume = refl }, tt))
option_words Clients = (record { apart = refl; joined = λ v. refl; apart_fits = refl; joined_fits = λ v. refl; not_volume = refl }, tt)
option_words Dump = tt
option_words Load = tt
option_words Pack = tt

-- clap's faults are those of the walk over the words
pub fault_is : (c : CommandWord) (ws : List Text)
    → fault_of (app_for c) ws ≡ whole_fault (plain_shape (text_of c) (option_names c)) (is_name (option_names c)) (takes (text_of c) (option_names c) (option_words c)) (state [] (between None) false) ws
fault_is c ws = (λ i. built_fault (built_is c i) nothing_held (all_words c ws i)) ∙ plain_fault (text_of c) (option_names c) (option_words c) ws

-- and so are its matches
pub matches_are : (c : CommandWord) (ws : List Text)
    → matches_of (app_for c) ws ≡ finished (rules_with (option_names c)) (fold (walked (rules_with (option_names c)) []) (state [] (between None) false) ws).held
matches_are c ws = (λ i. rows_after (built_is c i).top.rules (names_of (built_is c i)) (all_words c ws i))
