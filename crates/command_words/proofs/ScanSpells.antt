-- What the scan reads is what items spell.
use Rattle.std.proofs.Common.{ℕ, ◌≡◌, ◌≢◌, ◌⊎◌, inl, inr, ◌∙◌, ◌==◌, zero, suc, sym, ap, refl, Bool, true, false, true≢false, ◌||◌, List, [], ◌∷◌, ◌++◌, Option, Some, None, map, arith, eqb-true, codes, append_assoc}
use Rattle.std.specs.Prelude.{unwrap_or}
use Rattle.std.specs.List.{AllByRecursion, flat_map}
use Rattle.std.specs.Str.{bytes_eq}
use Rattle.std.proofs.lemmas.List.{append-nil}
use Rattle.clap.specs.Lexer.{long_of, name_and_value}
use Rattle.clap.proofs.LexerLemmas.{name_and_value-at, name_and_value-without}
use Rattle.clap.proofs.CutLemmas.{Lacks}
use Rattle.command_words.specs.Items.{Item, volume, apart, joined, spelling}
use Rattle.command_words.proofs.Scan.{Text, Given, Mode, between, value_of, has_id, settle_on, last, scan, volume_id}

-- ---- a long word

Lacks-cons : (x : ℕ) (xs : List ℕ) → x ≢ 61 → Lacks 61 xs → Lacks 61 (x ∷ xs)
Lacks-cons x xs h rest zero lt = h
Lacks-cons x xs h rest (suc i) lt = rest i (omega arith)

-- a text has no `=`, or is cut at its first one
abbrev Cut : List ℕ → Type 0
Cut xs = Lacks 61 xs ⊎ ((a : List ℕ) × (v : List ℕ) × (xs ≡ a ++ 61 ∷ v) × Lacks 61 a)

cut_more : (x : ℕ) (xs : List ℕ) → x ≢ 61 → Cut xs → Cut (x ∷ xs)
cut_more x xs h (inl lacks) = inl (Lacks-cons x xs h lacks)
cut_more x xs h (inr (a, v, e, lacks)) = inr (x ∷ a, v, ap (λ l. x ∷ l) e, Lacks-cons x a h lacks)

cut : (xs : List ℕ) → Cut xs
cut [] = inl (λ i lt. absurd (omega arith))
cut (x ∷ xs) = go (x == 61) refl (cut xs)
  where
    go : (b : Bool) → (x == 61) ≡ b → Cut xs → Cut (x ∷ xs)
    go true h rest = inr ([], xs, ap (λ n. n ∷ xs) (eqb-true x 61 h), (λ i lt. absurd (omega arith)))
    go false h rest = cut_more x xs (λ e. true≢false (rw e at h)) rest

abbrev pub word_of : Text → Option Text → Text
word_of n None = codes "--" ++ n
word_of n (Some v) = codes "--" ++ (n ++ (codes "=" ++ v))

named_by : (xs n : Text) (v : Option Text) → Cut xs → name_and_value xs ≡ (n, v) → 45 ∷ 45 ∷ xs ≡ word_of n v
named_by xs n None (inl lacks) e = ap (λ p. 45 ∷ 45 ∷ p.0) (sym (name_and_value-without xs lacks) ∙ e)
named_by xs n (Some v) (inl lacks) e =
    let no : None ≡ Some v = ap (λ (p : Text × Option Text). p.1) (sym (name_and_value-without xs lacks) ∙ e) in cc
named_by xs n None (inr (a, w, same, lacks)) e =
    let no : Some w ≡ None = ap (λ (p : Text × Option Text). p.1) (sym (name_and_value-at a w lacks) ∙ ap name_and_value (sym same) ∙ e) in cc
named_by xs n (Some v) (inr (a, w, same, lacks)) e =
    let both : (a, Some w) ≡ (n, Some v) = sym (name_and_value-at a w lacks) ∙ ap name_and_value (sym same) ∙ e in
    let name : a ≡ n = ap (λ (p : Text × Option Text). p.0) both in
    let value : w ≡ v = ap (λ (p : Text × Option Text). unwrap_or p.1 []) both in
    rw (same, name, value) refl

spells_long : (w n : Text) (v : Option Text) → long_of w ≡ Some (n, v) → w ≡ word_of n v
spells_long [] n v e = cc
spells_long (x ∷ []) n v e = go (x == 45) refl
  where
    go : (b : Bool) → (x == 45) ≡ b → x ∷ [] ≡ word_of n v
    go true h = let no : None ≡ Some (n, v) = rw h at e in cc
    go false h = let no : None ≡ Some (n, v) = rw h at e in cc
spells_long (x ∷ y ∷ []) n v e = go (x == 45) refl (y == 45) refl
  where
    go : (b : Bool) → (x == 45) ≡ b → (c : Bool) → (y == 45) ≡ c → x ∷ y ∷ [] ≡ word_of n v
    go true h true k = let no : None ≡ Some (n, v) = rw (h, k) at e in cc
    go true h false k = let no : None ≡ Some (n, v) = rw (h, k) at e in cc
    go false h c k = let no : None ≡ Some (n, v) = rw h at e in cc
spells_long (x ∷ y ∷ z ∷ zs) n v e = go (x == 45) refl (y == 45) refl
  where
    go : (b : Bool) → (x == 45) ≡ b → (c : Bool) → (y == 45) ≡ c → x ∷ y ∷ z ∷ zs ≡ word_of n v
    go true h true k =
        let both : Some (name_and_value (z ∷ zs)) ≡ Some (n, v) = rw (h, k) at e in
        let first : x ≡ 45 = eqb-true x 45 h in
        let second : y ≡ 45 = eqb-true y 45 k in
        rw (first, second) (named_by (z ∷ zs) n v (cut (z ∷ zs)) (ap (λ o. unwrap_or o (n, v)) both))
    go true h false k = let no : None ≡ Some (n, v) = rw (h, k) at e in cc
    go false h c k = let no : None ≡ Some (n, v) = rw h at e in cc

-- ---- the scan

abbrev pub given : Item → Given
given (volume w) = (volume_id, w)
given (apart n v) = (n, v)
given (joined n v) = (n, v)

abbrev pub list_of : Option Given → List Given
list_of None = []
list_of (Some p) = p ∷ []

abbrev pub queued : Mode → List Given
queued (between p) = list_of p
queued (value_of n) = []

abbrev pub front : Mode → List Text → List Text
front (between p) ws = ws
front (value_of n) ws = (codes "--" ++ n) ∷ ws

-- none of the second list was given before, in the first list or in the second
abbrev pub Fresh : List Given → List Given → Type 0
Fresh g [] = Unit {0}
Fresh g (p ∷ ps) = (has_id p.0 g ≡ false) × Fresh (g ++ p ∷ []) ps

abbrev pub FitItem : (Text → Bool) → Item → Type 0
FitItem is_option (volume w) = long_of w ≡ None
FitItem is_option (apart n v) = (is_option n ≡ true) × (long_of v ≡ None)
FitItem is_option (joined n v) = is_option n ≡ true

abbrev pub WaitsFor : (Text → Bool) → Mode → Type 0
WaitsFor is_option (between p) = Unit {0}
WaitsFor is_option (value_of n) = is_option n ≡ true

pub record Reads (is_option : Text → Bool) (g : List Given) (m : Mode) (ws : List Text) (r : List Given) : Type 0 where
  pub items : List Item
  pub spelled : front m ws ≡ flat_map spelling items
  pub fit : AllByRecursion (FitItem is_option) items
  pub all : r ≡ (g ++ queued m) ++ map given items
  pub fresh : Fresh g (queued m ++ map given items)

settled_as : (g r : List Given) (p : Option Given) → settle_on g p ≡ Some r → (r ≡ g ++ list_of p) × ((xs : List Given) → Fresh r xs → Fresh g (list_of p ++ xs))
settled_as g r None e =
    let same : g ≡ r = ap (λ o. unwrap_or o r) e in
    (sym same ∙ sym (append-nil g), λ xs h. rw same h)
settled_as g r (Some p) e = go (has_id p.0 g) refl
  where
    go : (b : Bool) → has_id p.0 g ≡ b → (r ≡ g ++ p ∷ []) × ((xs : List Given) → Fresh r xs → (has_id p.0 g ≡ false) × Fresh (g ++ p ∷ []) xs)
    go true h = let no : None ≡ Some r = rw h at e in cc
    go false h =
        let same : Some (g ++ p ∷ []) ≡ Some r = rw h at e in
        let is : g ++ p ∷ [] ≡ r = ap (λ o. unwrap_or o r) same in
        (sym is, λ xs f. (h, rw is f))

module _ (is_option : Text → Bool) where
  -- ---- what is read is spelled

  -- from the reading after a word to that before it
  add_plain : (g g1 : List Given) (p : Option Given) (w : Text) (ws : List Text) (r : List Given) → settle_on g p ≡ Some g1 → long_of w ≡ None
      → Reads is_option g1 (between (Some (volume_id, w))) ws r → Reads is_option g (between p) (w ∷ ws) r
  add_plain g g1 p w ws r e lo next =
      let s = settled_as g g1 p e in
      record {
        items = volume w ∷ next.items;
        spelled = ap (λ l. w ∷ l) next.spelled;
        fit = (lo, next.fit);
        all = next.all ∙ append_assoc g1 ((volume_id, w) ∷ []) (map given next.items) ∙ ap (λ l. l ++ ((volume_id, w) ∷ map given next.items)) s.0;
        fresh = s.1 _ next.fresh;
      }

  add_name : (g g1 : List Given) (p : Option Given) (w n : Text) (ws : List Text) (r : List Given) → settle_on g p ≡ Some g1 → long_of w ≡ Some (n, None)
      → Reads is_option g1 (value_of n) ws r → Reads is_option g (between p) (w ∷ ws) r
  add_name g g1 p w n ws r e lo next =
      let s = settled_as g g1 p e in
      record {
        items = next.items;
        spelled = ap (λ x. x ∷ ws) (spells_long w n None lo) ∙ next.spelled;
        fit = next.fit;
        all = next.all ∙ ap (λ l. l ++ map given next.items) (append-nil g1 ∙ s.0);
        fresh = s.1 _ next.fresh;
      }

  add_joined : (g g1 : List Given) (p : Option Given) (w n v : Text) (ws : List Text) (r : List Given) → settle_on g p ≡ Some g1 → long_of w ≡ Some (n, Some v)
      → is_option n ≡ true → has_id n g1 ≡ false
      → Reads is_option (g1 ++ (n, v) ∷ []) (between None) ws r → Reads is_option g (between p) (w ∷ ws) r
  add_joined g g1 p w n v ws r e lo o new next =
      let s = settled_as g g1 p e in
      record {
        items = joined n v ∷ next.items;
        spelled = (λ i. spells_long w n (Some v) lo i ∷ next.spelled i);
        fit = (o, next.fit);
        all = next.all ∙ ap (λ l. l ++ map given next.items) (append-nil (g1 ++ (n, v) ∷ [])) ∙ append_assoc g1 ((n, v) ∷ []) (map given next.items) ∙ ap (λ l. l ++ ((n, v) ∷ map given next.items)) s.0;
        fresh = s.1 _ (new, next.fresh);
      }

  add_value : (g : List Given) (n w : Text) (ws : List Text) (r : List Given) → is_option n ≡ true → long_of w ≡ None
      → Reads is_option g (between (Some (n, w))) ws r → Reads is_option g (value_of n) (w ∷ ws) r
  add_value g n w ws r o lo next = record {
    items = apart n w ∷ next.items;
    spelled = ap (λ l. (codes "--" ++ n) ∷ w ∷ l) next.spelled;
    fit = ((o, lo), next.fit);
    all = next.all ∙ append_assoc g ((n, w) ∷ []) (map given next.items) ∙ ap (λ l. l ++ ((n, w) ∷ map given next.items)) (sym (append-nil g));
    fresh = next.fresh;
  }

  reads_end : (g : List Given) (m : Mode) (r : List Given) → last is_option g m ≡ Some r → Reads is_option g m [] r
  reads_end g (value_of n) r e = cc
  reads_end g (between p) r e =
      let s = settled_as g r p e in
      record { items = []; spelled = refl; fit = tt; all = s.0 ∙ sym (append-nil (g ++ list_of p)); fresh = s.1 [] tt }

  -- what a step leaves, read on
  abbrev pub ReadsOn : List Text → List Given → Type 0
  ReadsOn ws r = (g : List Given) (m : Mode) (hv : Bool) → WaitsFor is_option m → scan is_option g m hv ws ≡ Some r → Reads is_option g m ws r

  no_step : {X : Type 0} (r : List Given) → ◌≡◌ {A = Option (List Given)} None (Some r) → X
  no_step r e = cc

  pub reads : (ws : List Text) (r : List Given) → ReadsOn ws r
  unfolding scan
  reads [] r g m hv waits e = reads_end g m r e
  reads (w ∷ ws) r g (value_of n) hv waits e = go (long_of w) refl (reads ws r)
    where
      go : (lo : Option (Text × Option Text)) → long_of w ≡ lo → ReadsOn ws r → Reads is_option g (value_of n) (w ∷ ws) r
      go None lo on = add_value g n w ws r waits lo (on g (between (Some (n, w))) hv tt (rw lo at e))
      go (Some p) lo on = no_step r (rw lo at e)
  reads (w ∷ ws) r g (between p) hv waits e = go (settle_on g p) refl (long_of w) refl hv refl (reads ws r)
    where
      go : (so : Option (List Given)) → settle_on g p ≡ so → (lo : Option (Text × Option Text)) → long_of w ≡ lo → (h : Bool) → hv ≡ h → ReadsOn ws r → Reads is_option g (between p) (w ∷ ws) r
      go None so lo lo-is h h-is on = no_step r (rw so at e)
      go (Some g1) so None lo true h on = no_step r (rw (so, lo, h) at e)
      go (Some g1) so None lo false h on = add_plain g g1 p w ws r so lo (on g1 (between (Some (volume_id, w))) true tt (rw (so, lo, h) at e))
      go (Some g1) so (Some (n, None)) lo h h-is on = named (is_option n) refl
        where
          named : (b : Bool) → is_option n ≡ b → Reads is_option g (between p) (w ∷ ws) r
          named true o = add_name g g1 p w n ws r so lo (on g1 (value_of n) hv o (rw (so, lo, o) at e))
          named false o = no_step r (rw (so, lo, o) at e)
      go (Some g1) so (Some (n, Some v)) lo h h-is on = named (is_option n) refl (has_id n g1) refl
        where
          named : (b : Bool) → is_option n ≡ b → (d : Bool) → has_id n g1 ≡ d → Reads is_option g (between p) (w ∷ ws) r
          named true o false d = add_joined g g1 p w n v ws r so lo o d (on (g1 ++ (n, v) ∷ []) (between None) hv tt (rw (so, lo, o, d) at e))
          named true o true d = no_step r (rw (so, lo, o, d) at e)
          named false o d d-is = no_step r (rw (so, lo, o) at e)

-- ---- what is spelled is read

pub has_id-push : (id : Text) (g : List Given) (p : Given) → has_id id (g ++ p ∷ []) ≡ (has_id id g || bytes_eq p.0 id)
has_id-push id [] p = or_false (bytes_eq p.0 id)
  where
    or_false : (b : Bool) → (b || false) ≡ b
    or_false true = refl
    or_false false = refl
has_id-push id (q ∷ g) p = ap (λ b. bytes_eq q.0 id || b) (has_id-push id g p) ∙ or_again (bytes_eq q.0 id) (has_id id g) (bytes_eq p.0 id)
  where
    or_again : (a b c : Bool) → (a || (b || c)) ≡ ((a || b) || c)
    or_again true b c = refl
    or_again false b c = refl

or_true : (b : Bool) → (b || true) ≡ true
or_true true = refl
or_true false = refl

or_no : (b : Bool) → (b || false) ≡ b
or_no true = refl
or_no false = refl

settles_to : (g : List Given) (p : Option Given) (xs : List Given) → Fresh g (list_of p ++ xs) → (settle_on g p ≡ Some (g ++ list_of p)) × Fresh (g ++ list_of p) xs
settles_to g None xs h = (ap (λ l. Some l) (sym (append-nil g)), rw (append-nil g) h)
settles_to g (Some p) xs h = (rw h.0 refl, h.1)

-- how options are spelled
pub record OptionNames (is_option : Text → Bool) : Type 0 where
  pub apart_word : (n : Text) → is_option n ≡ true → long_of (codes "--" ++ n) ≡ Some (n, None)
  pub joined_word : (n v : Text) → is_option n ≡ true → long_of (codes "--" ++ (n ++ (codes "=" ++ v))) ≡ Some (n, Some v)
  pub not_volume : (n : Text) → is_option n ≡ true → bytes_eq n volume_id ≡ false

module _ (is_option : Text → Bool) (names : OptionNames is_option) where
  pub spelled_is_read : (items : List Item) → AllByRecursion (FitItem is_option) items → (g : List Given) (p : Option Given) (hv : Bool)
      → Fresh g (list_of p ++ map given items) → has_id volume_id (g ++ list_of p) ≡ hv
      → scan is_option g (between p) hv (flat_map spelling items) ≡ Some ((g ++ list_of p) ++ map given items)
  unfolding scan
  spelled_is_read [] fit g p hv fresh has = (settles_to g p [] fresh).0 ∙ ap (λ l. Some l) (sym (append-nil (g ++ list_of p)))
  spelled_is_read (volume w ∷ items) fit g p hv fresh has =
      let s = settles_to g p _ fresh in
      let none : hv ≡ false = sym has ∙ s.1.0 in
      let on = spelled_is_read items fit.1 (g ++ list_of p) (Some (volume_id, w)) true s.1
      (has_id-push volume_id (g ++ list_of p) (volume_id, w) ∙ or_true (has_id volume_id (g ++ list_of p))) in
      rw (s.0, fit.0, none) (on ∙ ap (λ l. Some l) (append_assoc (g ++ list_of p) ((volume_id, w) ∷ []) (map given items)))
  spelled_is_read (apart n v ∷ items) fit g p hv fresh has =
      let s = settles_to g p _ fresh in
      let on = spelled_is_read items fit.1 (g ++ list_of p) (Some (n, v)) hv s.1
      (has_id-push volume_id (g ++ list_of p) (n, v) ∙ ap (λ b. has_id volume_id (g ++ list_of p) || b) (names.not_volume n fit.0.0) ∙ or_no _ ∙ has) in
      rw (s.0, names.apart_word n fit.0.0, fit.0.0, fit.0.1) (on ∙ ap (λ l. Some l) (append_assoc (g ++ list_of p) ((n, v) ∷ []) (map given items)))
  spelled_is_read (joined n v ∷ items) fit g p hv fresh has =
      let s = settles_to g p _ fresh in
      let on = spelled_is_read items fit.1 ((g ++ list_of p) ++ (n, v) ∷ []) None hv s.1.1
      (ap (has_id volume_id) (append-nil ((g ++ list_of p) ++ (n, v) ∷ [])) ∙ has_id-push volume_id (g ++ list_of p) (n, v) ∙ ap (λ b. has_id volume_id (g ++ list_of p) || b) (names.not_volume n fit.0) ∙ or_no _ ∙ has) in
      rw (s.0, names.joined_word n v fit.0, fit.0, s.1.0)
      (on ∙ ap (λ l. Some l) (ap (λ l. l ++ map given items) (append-nil ((g ++ list_of p) ++ (n, v) ∷ [])) ∙ append_assoc (g ++ list_of p) ((n, v) ∷ []) (map given items)))
