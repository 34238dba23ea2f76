-- From clap's clauses on a parse of a command to the command's grammar.
use Rattle.std.proofs.Common.{ℕ, ◌≡◌, ◌∙◌, sym, ap, refl, subst, true, false, true≢false, inl, inr, List, [], ◌∷◌, Option, Some, None, map, option_map, String, string_bytes, length, arith}
use Rattle.std.specs.Prelude.{IfSome}
use Rattle.std.specs.Borrow.{Bor}
use Rattle.std.specs.List.{All, AllByRecursion, list_all}
use Rattle.std.specs.Str.Parse.{digits_value}
use Rattle.std.specs.declared.alloc.Global.{Global}
use Rattle.std.proofs.lemmas.List.Elements.{All-from_recursion, recursion_from_All}
use Rattle.clap.specs.Kinds.{HasKind, IsAmong}
use Rattle.clap.specs.Matches.{first_value, found_of}
use Rattle.clap.specs.Simple.{matches_of}
use Rattle.clap.specs.Values.{kind_of}
use Rattle.clap.specs.Walk.{Text, first_of, rows_of}
use Rattle.clap.specs.Faults.{fault_of}
use Rattle.clap.specs.declared.error.Error.{Error}
use Rattle.clap.specs.declared.error.kind.ErrorKind.TheVariants as kind
use Rattle.clap.specs.declared.parser.matches.ArgMatches.{ArgMatches}
use Rattle.clap.proofs.WalkLemmas.{both}
use Rattle.command_words.specs.ClapCommand.{app_for, is_fit, FindsNumbers, GivesNumber, number_found}
use Rattle.command_words.specs.Commands.{option_names, text_of}
use Rattle.command_words.specs.Items.{HasName, Itemed, number_given, values_of, volumes_of}
use Rattle.command_words.specs.Numerals.{IsNumber}
use Rattle.command_words.specs.Wishes.{texts, IsGiven}
use Rattle.command_words.specs.declared.commands.CommandWord.{CommandWord}
use Rattle.command_words.proofs.Scan.{Given, between, volume_id}
use Rattle.command_words.proofs.ScanSpells.{given}
use Rattle.command_words.proofs.WalkAsScan.{EndsAs, row, state, walks}
use Rattle.command_words.proofs.OptionFacts.{fault_is, is_name, matches_are, option_words, plain_shape, takes}
use Rattle.command_words.proofs.Values.{first_in, first_text, first_value_is, option_values, values_in, volume_values}
use Rattle.command_words.proofs.Readings.{AllFit, all_fit, first_is_number, itemed_is_read, not_option, number_is, read_is_itemed, read_of, values_are_numbers, InGrammar}

pub fit_words : (words : List (String Global)) → list_all (λ (w : String Global). is_fit (string_bytes w)) words ≡ true → AllFit (texts words)
fit_words [] h = tt
fit_words (w ∷ ws) h = ((both _ _ h).0, fit_words ws (both _ _ h).1)

words_fit : (words : List (String Global)) → AllFit (texts words) → list_all (λ (w : String Global). is_fit (string_bytes w)) words ≡ true
words_fit [] h = refl
words_fit (w ∷ ws) h = rw (h.0) (words_fit ws h.1)

ends : (c : CommandWord) (ws : List Text) → AllFit ws
    → EndsAs (plain_shape (text_of c) (option_names c)) (is_name (option_names c)) (takes (text_of c) (option_names c) (option_words c)) (state [] (between None) false) ws (read_of (option_names c) ws)
ends c ws fits = walks (plain_shape (text_of c) (option_names c)) (is_name (option_names c)) (takes (text_of c) (option_names c) (option_words c)) ws (all_fit ws fits) [] (between None) false tt

module _ (c : CommandWord) where
  -- a word that doesn't fit is in no line
  pub unfit_outside : (words : List (String Global)) → list_all (λ (w : String Global). is_fit (string_bytes w)) words ≡ false → Itemed (option_names c) (texts words) → ⊥
  unfit_outside words h it = true≢false (sym (words_fit words (itemed_is_read (option_names c) (option_words c) (texts words) it).fits) ∙ h)

  module _ (ws : List Text) where
    -- what is in the grammar is no fault, and has its rows
    in_grammar : (it : Itemed (option_names c) ws) → (fault_of (app_for c) ws ≡ []) × (matches_of (app_for c) ws ≡ map row (map given it.items))
    in_grammar it =
        let read = itemed_is_read (option_names c) (option_words c) ws it in
        let end = subst (EndsAs (plain_shape (text_of c) (option_names c)) (is_name (option_names c)) (takes (text_of c) (option_names c) (option_words c)) (state [] (between None) false) ws) read.scanned (ends c ws read.fits) in
        (fault_is c ws ∙ end.0, matches_are c ws ∙ end.1)

    -- a refusal for another cause than memory comes only outside the grammar
    pub refused_outside : (e : Error) → HasKind (fault_of (app_for c) ws) e → (kind_of e ≡ kind.OutOfMemory → ⊥) → Itemed (option_names c) ws → ⊥
    refused_outside e has other it = go has
      where
        go : HasKind (fault_of (app_for c) ws) e → ⊥
        go (inl memory) = other memory
        go (inr among) = subst (IsAmong (kind_of e)) (in_grammar it).0 among

    module _ (m : ArgMatches) (rows : rows_of (found_of m) ≡ matches_of (app_for c) ws) where
      -- the values that `get_str` gives
      value_is : (g : List Given) → matches_of (app_for c) ws ≡ map row g → (id : Text) → first_value (found_of m) id ≡ first_text (values_in id g)
      value_is g same id = first_value_is (found_of m) id ∙ ap (first_of id) (rows ∙ same) ∙ first_in id g

      pub no_volume_outside : first_value (found_of m) volume_id ≡ None → Itemed (option_names c) ws → ⊥
      no_volume_outside none it =
          let read = itemed_is_read (option_names c) (option_words c) ws it in
          let here = sym none ∙ value_is _ (in_grammar it).1 volume_id ∙ ap first_text (volume_values (option_names c) (option_words c) it.items read.fit) in
          no_first (volumes_of it.items) it.one_volume here
        where
          no_first : (vs : List Text) → length vs ≡ 1 → ◌≡◌ {A = Option Text} None (first_text vs) → ⊥
          no_first [] one e = absurd (omega (arith, one))
          no_first (v ∷ vs) one e = cc

      -- each option of words in the grammar gives a number
      gives_number : (it : Itemed (option_names c) ws) (name : Text) → HasName (option_names c) name → GivesNumber (found_of m) name
      gives_number it name has =
          let values = value_is _ (in_grammar it).1 name ∙ ap first_text (option_values name (not_option (option_names c) (option_words c) name has) it.items) in
          subst (λ (o : Option Text). IfSome o IsNumber) (sym values) (first_is_number (values_of name it.items) (values_are_numbers (option_names c) it.items it.allowed name))

      pub bad_number_outside : (options : List (Bor Text)) → map (λ (o : Bor Text). o.now) options ≡ option_names c
          → (All (λ (o : Bor Text). GivesNumber (found_of m) o.now) options → ⊥) → Itemed (option_names c) ws → ⊥
      bad_number_outside options names bad it =
          bad (All-from_recursion (λ (o : Bor Text). GivesNumber (found_of m) o.now) options (each_named options (λ name has. gives_number it name (subst (λ ns. HasName ns name) names has))))
        where
          each_named : (os : List (Bor Text)) → ((name : Text) → HasName (map (λ (o : Bor Text). o.now) os) name → GivesNumber (found_of m) name) → AllByRecursion (λ (o : Bor Text). GivesNumber (found_of m) o.now) os
          each_named [] h = tt
          each_named (o ∷ os) h = (h o.now (inl refl), each_named os (λ name has. h name (inr has)))

      -- and a parse that is taken is in the grammar
      pub reads_given : (w : Text) (options : List (Bor Text)) (numbers : List (Option ℕ)) → AllFit ws → fault_of (app_for c) ws ≡ []
          → first_value (found_of m) volume_id ≡ Some w → map (λ (o : Bor Text). o.now) options ≡ option_names c → FindsNumbers (found_of m) options numbers
          → IsGiven (option_names c) ws w numbers
      reads_given w options numbers fits none first names finds = go (read_of (option_names c) ws) refl (ends c ws fits)
        where
          each_value : (os : List (Bor Text)) → AllByRecursion (λ (o : Bor Text). GivesNumber (found_of m) o.now) os → (name : Text) → HasName (map (λ (o : Bor Text). o.now) os) name → GivesNumber (found_of m) name
          each_value [] h name has = absurd has
          each_value (o ∷ os) h name (inl e) = subst (GivesNumber (found_of m)) (sym e) h.0
          each_value (o ∷ os) h name (inr has) = each_value os h.1 name has

          mapped_twice : (f : Text → Option ℕ) (os : List (Bor Text)) → map (λ (o : Bor Text). f o.now) os ≡ map f (map (λ (o : Bor Text). o.now) os)
          mapped_twice f [] = refl
          mapped_twice f (o ∷ os) = ap (λ l. f o.now ∷ l) (mapped_twice f os)

          same_on : (f h : Text → Option ℕ) (ns : List Text) → ((name : Text) → HasName ns name → f name ≡ h name) → map f ns ≡ map h ns
          same_on f h [] e = refl
          same_on f h (n ∷ ns) e = λ i. e n (inl refl) i ∷ same_on f h ns (λ name has. e name (inr has)) i

          go : (r : Option (List Given)) → read_of (option_names c) ws ≡ r
              → EndsAs (plain_shape (text_of c) (option_names c)) (is_name (option_names c)) (takes (text_of c) (option_names c) (option_words c)) (state [] (between None) false) ws r
              → IsGiven (option_names c) ws w numbers
          go None e end = absurd (end (sym (fault_is c ws) ∙ none))
          go (Some g) e end =
              let value = value_is g (matches_are c ws ∙ end.1) in
              let each = each_value options (recursion_from_All (λ (o : Bor Text). GivesNumber (found_of m) o.now) options finds.each) in
              let read : InGrammar (option_names c) ws g w = read_is_itemed (option_names c) (option_words c) ws g w fits e (sym (value volume_id) ∙ first)
              (λ name has. subst (λ (o : Option Text). IfSome o IsNumber) (value name) (each name (subst (λ ns. HasName ns name) (sym names) has))) in
              record {
                after = read.after;
                volume_is = read.volume_is;
                numbers_are = finds.numbers_are ∙ mapped_twice (number_found (found_of m)) options ∙ ap (map (number_found (found_of m))) names
                    ∙ same_on (number_found (found_of m)) (λ name. number_given name read.after.items) (option_names c)
                    (λ name has. ap (option_map (digits_value 10)) (value name ∙ ap (λ x. first_text (values_in name x)) read.same) ∙ sym (number_is (option_names c) (option_words c) read.after.items name has));
              }
