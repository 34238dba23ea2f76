-- From what a command's word and the words behind it give to what the whole words ask for.
use Rattle.std.proofs.Common.{ℕ, ◌≡◌, ◌∙◌, sym, ap, refl, subst, false, true≢false, inl, inr, List, ◌∷◌, Option, Some}
use Rattle.std.specs.Prelude.{unwrap_or, codes}
use Rattle.std.specs.Str.{bytes_eq}
use Rattle.std.proofs.lemmas.Slice.Eq.{bytes_eq-Decides}
use Rattle.ex_base.specs.Limits.{fan_most}
use Rattle.ex_base.specs.declared.geometry.Geometry.{Geometry}
use Rattle.ex_base.proofs.Geometries.{same_numbers}
use Rattle.command_words.specs.Commands.{option_names, text_of}
use Rattle.command_words.specs.Items.{Text}
use Rattle.command_words.specs.Wishes.{AreNumbers, Asks, AsksOn, IsGiven, Means, MeansNothing, command_of}
use Rattle.command_words.specs.declared.commands.CommandWord.{CommandWord}
use Rattle.command_words.specs.declared.commands.CommandWord.TheVariants as word
use Rattle.command_words.specs.declared.wish.Wish.{Wish}
use Rattle.command_words.specs.declared.wish.Wish.TheVariants.{Format, Run, Check, Gen, Clients, Dump, Load, Pack}
use Rattle.command_words.proofs.OptionFacts.{option_words}
use Rattle.command_words.proofs.Readings.{one_list, one_number}

-- two words that aren't the same bytes
apart_texts : {X : Type 0} (a b : Text) → bytes_eq a b ≡ false → a ≡ b → X
apart_texts a b apart e = absurd (true≢false (sym ((bytes_eq-Decides a b).1 e) ∙ apart))

-- A word names one command.
pub same_command : (c d : CommandWord) → text_of c ≡ text_of d → c ≡ d
same_command word.Format word.Format e = refl
same_command word.Format word.Run e = apart_texts (text_of word.Format) (text_of word.Run) refl e
same_command word.Format word.Check e = apart_texts (text_of word.Format) (text_of word.Check) refl e
same_command word.Format word.Gen e = apart_texts (text_of word.Format) (text_of word.Gen) refl e
same_command word.Format word.Clients e = apart_texts (text_of word.Format) (text_of word.Clients) refl e
same_command word.Format word.Dump e = apart_texts (text_of word.Format) (text_of word.Dump) refl e
same_command word.Format word.Load e = apart_texts (text_of word.Format) (text_of word.Load) refl e
same_command word.Format word.Pack e = apart_texts (text_of word.Format) (text_of word.Pack) refl e
same_command word.Run word.Format e = apart_texts (text_of word.Run) (text_of word.Format) refl e
same_command word.Run word.Run e = refl
same_command word.Run word.Check e = apart_texts (text_of word.Run) (text_of word.Check) refl e
same_command word.Run word.Gen e = apart_texts (text_of word.Run) (text_of word.Gen) refl e
same_command word.Run word.Clients e = apart_texts (text_of word.Run) (text_of word.Clients) refl e
same_command word.Run word.Dump e = apart_texts (text_of word.Run) (text_of word.Dump) refl e
same_command word.Run word.Load e = apart_texts (text_of word.Run) (text_of word.Load) refl e
same_command word.Run word.Pack e = apart_texts (text_of word.Run) (text_of word.Pack) refl e
same_command word.Check word.Format e = apart_texts (text_of word.Check) (text_of word.Format) refl e
same_command word.Check word.Run e = apart_texts (text_of word.Check) (text_of word.Run) refl e
same_command word.Check word.Check e = refl
same_command word.Check word.Gen e = apart_texts (text_of word.Check) (text_of word.Gen) refl e
same_command word.Check word.Clients e = apart_texts (text_of word.Check) (text_of word.Clients) refl e
same_command word.Check word.Dump e = apart_texts (text_of word.Check) (text_of word.Dump) refl e
same_command word.Check word.Load e = apart_texts (text_of word.Check) (text_of word.Load) refl e
same_command word.Check word.Pack e = apart_texts (text_of word.Check) (text_of word.Pack) refl e
same_command word.Gen word.Format e = apart_texts (text_of word.Gen) (text_of word.Format) refl e
same_command word.Gen word.Run e = apart_texts (text_of word.Gen) (text_of word.Run) refl e
same_command word.Gen word.Check e = apart_texts (text_of word.Gen) (text_of word.Check) refl e
same_command word.Gen word.Gen e = refl
same_command word.Gen word.Clients e = apart_texts (text_of word.Gen) (text_of word.Clients) refl e
same_command word.Gen word.Dump e = apart_texts (text_of word.Gen) (text_of word.Dump) refl e
same_command word.Gen word.Load e = apart_texts (text_of word.Gen) (text_of word.Load) refl e
same_command word.Gen word.Pack e = apart_texts (text_of word.Gen) (text_of word.Pack) refl e
same_command word.Clients word.Format e = apart_texts (text_of word.Clients) (text_of word.Format) refl e
same_command word.Clients word.Run e = apart_texts (text_of word.Clients) (text_of word.Run) refl e
same_command word.Clients word.Check e = apart_texts (text_of word.Clients) (text_of word.Check) refl e
same_command word.Clients word.Gen e = apart_texts (text_of word.Clients) (text_of word.Gen) refl e
same_command word.Clients word.Clients e = refl
same_command word.Clients word.Dump e = apart_texts (text_of word.Clients) (text_of word.Dump) refl e
same_command word.Clients word.Load e = apart_texts (text_of word.Clients) (text_of word.Load) refl e
same_command word.Clients word.Pack e = apart_texts (text_of word.Clients) (text_of word.Pack) refl e
same_command word.Dump word.Format e = apart_texts (text_of word.Dump) (text_of word.Format) refl e
same_command word.Dump word.Run e = apart_texts (text_of word.Dump) (text_of word.Run) refl e
same_command word.Dump word.Check e = apart_texts (text_of word.Dump) (text_of word.Check) refl e
same_command word.Dump word.Gen e = apart_texts (text_of word.Dump) (text_of word.Gen) refl e
same_command word.Dump word.Clients e = apart_texts (text_of word.Dump) (text_of word.Clients) refl e
same_command word.Dump word.Dump e = refl
same_command word.Dump word.Load e = apart_texts (text_of word.Dump) (text_of word.Load) refl e
same_command word.Dump word.Pack e = apart_texts (text_of word.Dump) (text_of word.Pack) refl e
same_command word.Load word.Format e = apart_texts (text_of word.Load) (text_of word.Format) refl e
same_command word.Load word.Run e = apart_texts (text_of word.Load) (text_of word.Run) refl e
same_command word.Load word.Check e = apart_texts (text_of word.Load) (text_of word.Check) refl e
same_command word.Load word.Gen e = apart_texts (text_of word.Load) (text_of word.Gen) refl e
same_command word.Load word.Clients e = apart_texts (text_of word.Load) (text_of word.Clients) refl e
same_command word.Load word.Dump e = apart_texts (text_of word.Load) (text_of word.Dump) refl e
same_command word.Load word.Load e = refl
same_command word.Load word.Pack e = apart_texts (text_of word.Load) (text_of word.Pack) refl e
same_command word.Pack word.Format e = apart_texts (text_of word.Pack) (text_of word.Format) refl e
same_command word.Pack word.Run e = apart_texts (text_of word.Pack) (text_of word.Run) refl e
same_command word.Pack word.Check e = apart_texts (text_of word.Pack) (text_of word.Check) refl e
same_command word.Pack word.Gen e = apart_texts (text_of word.Pack) (text_of word.Gen) refl e
same_command word.Pack word.Clients e = apart_texts (text_of word.Pack) (text_of word.Clients) refl e
same_command word.Pack word.Dump e = apart_texts (text_of word.Pack) (text_of word.Dump) refl e
same_command word.Pack word.Load e = apart_texts (text_of word.Pack) (text_of word.Load) refl e
same_command word.Pack word.Pack e = refl

module _ {words rest : List Text} {first volume : Text} {numbers : List (Option ℕ)} (command : CommandWord) (named : words ≡ first ∷ rest) (text : text_of command ≡ first)
    (given : IsGiven (option_names command) rest volume numbers) where
  pub asks_on : (wish : Wish) → Means command numbers wish → AsksOn words wish volume
  asks_on wish means =
      let here = subst (λ (c : CommandWord). IsGiven (option_names c) rest volume numbers) (sym means.command_is) given in record {
        asks = record {
          rest = rest;
          command = named ∙ ap (λ (t : Text). t ∷ rest) (sym text ∙ ap text_of (sym means.command_is));
          after = here.after;
          gives = means.gives here.after.items (subst (λ (c : CommandWord). AreNumbers c numbers here.after.items) means.command_is here.numbers_are);
        };
        volume_is = here.volume_is;
      }

  pub asks_nothing : MeansNothing command numbers → (wish : Wish) → Asks words wish → ⊥
  asks_nothing nothing wish asks =
      let both : first ∷ rest ≡ text_of (command_of wish) ∷ asks.rest = sym named ∙ asks.command in
      let head : first ≡ text_of (command_of wish) = cc in
      let tail : rest ≡ asks.rest = cc in
      let same : command_of wish ≡ command = same_command (command_of wish) command (sym head ∙ sym text) in
      let here = subst (λ (c : CommandWord). IsGiven (option_names c) rest volume numbers) (sym same) given in
      let numbers_are = here.numbers_are ∙ one_list (option_names (command_of wish)) (option_words (command_of wish)) tail here.after asks.after in
      nothing asks.after.items (subst (λ (c : CommandWord). AreNumbers c numbers asks.after.items) same numbers_are) wish same asks.gives

-- ---- words ask for one thing

-- words that ask twice name one command, with one number for each option
same_rest : {words : List Text} (v w : Wish) → (a : Asks words v) (b : Asks words w) → (a.rest ≡ b.rest) × (command_of v ≡ command_of w)
same_rest v w a b =
    let both : text_of (command_of v) ∷ a.rest ≡ text_of (command_of w) ∷ b.rest = sym a.command ∙ b.command in
    let head : text_of (command_of v) ≡ text_of (command_of w) = cc in
    let tail : a.rest ≡ b.rest = cc in
    (tail, same_command (command_of v) (command_of w) head)

other_command : {X : Type 0} (c d : CommandWord) → bytes_eq (text_of c) (text_of d) ≡ false → c ≡ d → X
other_command c d apart e = apart_texts (text_of c) (text_of d) apart (ap text_of e)

some_same : {m n : ℕ} → ◌≡◌ {A = Option ℕ} (Some m) (Some n) → m ≡ n
some_same {m} e = ap (λ o. unwrap_or o m) e

pub one_wish : (words : List Text) (v w : Wish) → Asks words v → Asks words w → v ≡ w
one_wish words (Format g) (Format h) a b =
    let rest = (same_rest (Format g) (Format h) a b).0 in
    let number = one_number (option_names word.Format) (option_words word.Format) rest a.after b.after in
    let page_size : g.page_size ≡ h.page_size = a.gives.page_size_is ∙ ap (λ o. unwrap_or o 4096) (number (codes "page-size") (inl refl)) ∙ sym b.gives.page_size_is in
    ap (λ (x : Geometry). Format x)
    (same_numbers g h page_size
    (a.gives.pages_are ∙ ap (λ o. unwrap_or o 4096) (number (codes "pages") (inr (inl refl))) ∙ sym b.gives.pages_are)
    (a.gives.segs_are ∙ ap (λ o. unwrap_or o 16384) (number (codes "segs") (inr (inr (inl refl)))) ∙ sym b.gives.segs_are)
    (a.gives.seg_len_is ∙ ap (λ o. unwrap_or o 1) (number (codes "seg-len") (inr (inr (inr (inl refl))))) ∙ sym b.gives.seg_len_is)
    (a.gives.fan_is ∙ (λ i. unwrap_or (number (codes "fan") (inr (inr (inr (inr (inl refl))))) i) (fan_most (page_size i))) ∙ sym b.gives.fan_is))
one_wish words (Format g) (Run most) a b = other_command word.Format word.Run refl (same_rest (Format g) (Run most) a b).1
one_wish words (Format g) Check a b = other_command word.Format word.Check refl (same_rest (Format g) Check a b).1
one_wish words (Format g) (Gen seed count) a b = other_command word.Format word.Gen refl (same_rest (Format g) (Gen seed count) a b).1
one_wish words (Format g) (Clients most) a b = other_command word.Format word.Clients refl (same_rest (Format g) (Clients most) a b).1
one_wish words (Format g) Dump a b = other_command word.Format word.Dump refl (same_rest (Format g) Dump a b).1
one_wish words (Format g) Load a b = other_command word.Format word.Load refl (same_rest (Format g) Load a b).1
one_wish words (Format g) Pack a b = other_command word.Format word.Pack refl (same_rest (Format g) Pack a b).1
one_wish words (Run most) (Format g) a b = other_command word.Run word.Format refl (same_rest (Run most) (Format g) a b).1
one_wish words (Run most) (Run more) a b =
    let rest = (same_rest (Run most) (Run more) a b).0 in
    let number = one_number (option_names word.Run) (option_words word.Run) rest a.after b.after in
    ap (λ (n : ℕ). Run n) (a.gives ∙ ap (λ o. unwrap_or o 1099511627776) (number (codes "max-bytes") (inl refl)) ∙ sym b.gives)
one_wish words (Run most) Check a b = other_command word.Run word.Check refl (same_rest (Run most) Check a b).1
one_wish words (Run most) (Gen seed count) a b = other_command word.Run word.Gen refl (same_rest (Run most) (Gen seed count) a b).1
one_wish words (Run most) (Clients more) a b = other_command word.Run word.Clients refl (same_rest (Run most) (Clients more) a b).1
one_wish words (Run most) Dump a b = other_command word.Run word.Dump refl (same_rest (Run most) Dump a b).1
one_wish words (Run most) Load a b = other_command word.Run word.Load refl (same_rest (Run most) Load a b).1
one_wish words (Run most) Pack a b = other_command word.Run word.Pack refl (same_rest (Run most) Pack a b).1
one_wish words Check (Format g) a b = other_command word.Check word.Format refl (same_rest Check (Format g) a b).1
one_wish words Check (Run most) a b = other_command word.Check word.Run refl (same_rest Check (Run most) a b).1
one_wish words Check Check a b = refl
one_wish words Check (Gen seed count) a b = other_command word.Check word.Gen refl (same_rest Check (Gen seed count) a b).1
one_wish words Check (Clients most) a b = other_command word.Check word.Clients refl (same_rest Check (Clients most) a b).1
one_wish words Check Dump a b = other_command word.Check word.Dump refl (same_rest Check Dump a b).1
one_wish words Check Load a b = other_command word.Check word.Load refl (same_rest Check Load a b).1
one_wish words Check Pack a b = other_command word.Check word.Pack refl (same_rest Check Pack a b).1
one_wish words (Gen seed count) (Format g) a b = other_command word.Gen word.Format refl (same_rest (Gen seed count) (Format g) a b).1
one_wish words (Gen seed count) (Run most) a b = other_command word.Gen word.Run refl (same_rest (Gen seed count) (Run most) a b).1
one_wish words (Gen seed count) Check a b = other_command word.Gen word.Check refl (same_rest (Gen seed count) Check a b).1
one_wish words (Gen seed count) (Gen other many) a b =
    let rest = (same_rest (Gen seed count) (Gen other many) a b).0 in
    let number = one_number (option_names word.Gen) (option_words word.Gen) rest a.after b.after in
    let seeds : seed ≡ other = some_same (sym a.gives.seed_is ∙ number (codes "seed") (inl refl) ∙ b.gives.seed_is) in
    let counts : count ≡ many = some_same (sym a.gives.count_is ∙ number (codes "count") (inr (inl refl)) ∙ b.gives.count_is) in
    (λ i. Gen (seeds i) (counts i))
one_wish words (Gen seed count) (Clients most) a b = other_command word.Gen word.Clients refl (same_rest (Gen seed count) (Clients most) a b).1
one_wish words (Gen seed count) Dump a b = other_command word.Gen word.Dump refl (same_rest (Gen seed count) Dump a b).1
one_wish words (Gen seed count) Load a b = other_command word.Gen word.Load refl (same_rest (Gen seed count) Load a b).1
one_wish words (Gen seed count) Pack a b = other_command word.Gen word.Pack refl (same_rest (Gen seed count) Pack a b).1
one_wish words (Clients most) (Format g) a b = other_command word.Clients word.Format refl (same_rest (Clients most) (Format g) a b).1
one_wish words (Clients more) (Run most) a b = other_command word.Clients word.Run refl (same_rest (Clients more) (Run most) a b).1
one_wish words (Clients most) Check a b = other_command word.Clients word.Check refl (same_rest (Clients most) Check a b).1
one_wish words (Clients most) (Gen seed count) a b = other_command word.Clients word.Gen refl (same_rest (Clients most) (Gen seed count) a b).1
one_wish words (Clients most) (Clients more) a b =
    let rest = (same_rest (Clients most) (Clients more) a b).0 in
    let number = one_number (option_names word.Clients) (option_words word.Clients) rest a.after b.after in
    ap (λ (n : ℕ). Clients n) (a.gives ∙ ap (λ o. unwrap_or o 1099511627776) (number (codes "max-bytes") (inl refl)) ∙ sym b.gives)
one_wish words (Clients most) Dump a b = other_command word.Clients word.Dump refl (same_rest (Clients most) Dump a b).1
one_wish words (Clients most) Load a b = other_command word.Clients word.Load refl (same_rest (Clients most) Load a b).1
one_wish words (Clients most) Pack a b = other_command word.Clients word.Pack refl (same_rest (Clients most) Pack a b).1
one_wish words Dump (Format g) a b = other_command word.Dump word.Format refl (same_rest Dump (Format g) a b).1
one_wish words Dump (Run most) a b = other_command word.Dump word.Run refl (same_rest Dump (Run most) a b).1
one_wish words Dump Check a b = other_command word.Dump word.Check refl (same_rest Dump Check a b).1
one_wish words Dump (Gen seed count) a b = other_command word.Dump word.Gen refl (same_rest Dump (Gen seed count) a b).1
one_wish words Dump (Clients most) a b = other_command word.Dump word.Clients refl (same_rest Dump (Clients most) a b).1
one_wish words Dump Dump a b = refl
one_wish words Dump Load a b = other_command word.Dump word.Load refl (same_rest Dump Load a b).1
one_wish words Dump Pack a b = other_command word.Dump word.Pack refl (same_rest Dump Pack a b).1
one_wish words Load (Format g) a b = other_command word.Load word.Format refl (same_rest Load (Format g) a b).1
one_wish words Load (Run most) a b = other_command word.Load word.Run refl (same_rest Load (Run most) a b).1
one_wish words Load Check a b = other_command word.Load word.Check refl (same_rest Load Check a b).1
one_wish words Load (Gen seed count) a b = other_command word.Load word.Gen refl (same_rest Load (Gen seed count) a b).1
one_wish words Load (Clients most) a b = other_command word.Load word.Clients refl (same_rest Load (Clients most) a b).1
one_wish words Load Dump a b = other_command word.Load word.Dump refl (same_rest Load Dump a b).1
one_wish words Load Load a b = refl
one_wish words Load Pack a b = other_command word.Load word.Pack refl (same_rest Load Pack a b).1
one_wish words Pack (Format g) a b = other_command word.Pack word.Format refl (same_rest Pack (Format g) a b).1
one_wish words Pack (Run most) a b = other_command word.Pack word.Run refl (same_rest Pack (Run most) a b).1
one_wish words Pack Check a b = other_command word.Pack word.Check refl (same_rest Pack Check a b).1
one_wish words Pack (Gen seed count) a b = other_command word.Pack word.Gen refl (same_rest Pack (Gen seed count) a b).1
one_wish words Pack (Clients most) a b = other_command word.Pack word.Clients refl (same_rest Pack (Clients most) a b).1
one_wish words Pack Dump a b = other_command word.Pack word.Dump refl (same_rest Pack Dump a b).1
one_wish words Pack Load a b = other_command word.Pack word.Load refl (same_rest Pack Load a b).1
one_wish words Pack Pack a b = refl
