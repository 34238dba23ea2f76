-- What stands at the places of a row.
use Rattle.std.proofs.Common.{◌≡◌, ℕ, List, [], ◌∷◌, Bool, false, true, Option, Some, None, cond, ap, sym, ◌∙◌, refl, true≢false}
use Rattle.std.proofs.lemmas.Bool.{and_from}
use lib.Pointwise.{pointwise}
use Rattle.script_lang.specs.declared.rows.WordPlace.{WordPlace}
use Rattle.script_lang.specs.Forms.{◌>>=◌}
use Rattle.script_lang.specs.Grammar.{Slot, fits}
use Rattle.script_lang.specs.Rows.{Values, put, may_miss, read}
use Rattle.script_lang.proofs.Slots.{and_first, and_second, Gives, bind_gives, given}
use Rattle.script_lang.proofs.Places.{filled, fill_reads, Each, Filling, put_spells}

abbrev pub Fits : List Slot → List (List ℕ) → Type 0
Fits slots ws = pointwise fits slots ws ≡ true

-- ---- what is spelled is read

-- the values with what slots say at places
abbrev pub fill : List WordPlace → List Slot → Values → Option Values
fill [] [] v = Some v
fill [] (s ∷ slots) v = None
fill (p ∷ places) [] v = cond (may_miss p) (Some v) None
fill (p ∷ places) (s ∷ slots) v = filled p s v >>= fill places slots

pub fill_read : (places : List WordPlace) (slots : List Slot) (ws : List (List ℕ)) (v u : Values) → Fits slots ws → fill places slots v ≡ Some u → read places ws v ≡ Some u
fill_read [] [] [] v u f e = e
fill_read [] [] (w ∷ ws) v u f e = absurd (true≢false (sym f))
fill_read [] (s ∷ slots) ws v u f e = cc
fill_read (p ∷ places) [] [] v u f e = e
fill_read (p ∷ places) [] (w ∷ ws) v u f e = absurd (true≢false (sym f))
fill_read (p ∷ places) (s ∷ slots) [] v u f e = absurd (true≢false (sym f))
fill_read (p ∷ places) (s ∷ slots) (w ∷ ws) v u f e = go (filled p s v) refl e (λ t k. fill_read places slots ws t u (and_second _ _ f) k)
  where
    go : (o : Option Values) → filled p s v ≡ o → (o >>= fill places slots) ≡ Some u
        → ((t : Values) → fill places slots t ≡ Some u → read places ws t ≡ Some u) → (put p w v >>= read places ws) ≡ Some u
    go None h k others = cc
    go (Some t) h k others = ap (λ o. o >>= read places ws) (fill_reads p s w v t (and_first _ _ f) h) ∙ others t k

-- ---- what is read is spelled

abbrev pub Ending : Bool → Type 0 → Type 0 → Type 0
Ending true A B = A × B
Ending false A B = B

-- whatever stands at the places, the slots and the values have this
abbrev pub Every : List WordPlace → (List Slot → Values → Type 0) → Values → Type 0
Every [] P v = P [] v
Every (p ∷ places) P v = Ending (may_miss p) (P [] v) (Each p (λ s. Gives (filled p s v) (Every places (λ slots. P (s ∷ slots)))))

-- slots that the words fit
abbrev pub Spelled : List (List ℕ) → (List Slot → Values → Type 0) → Values → Type 0
Spelled ws P u = (slots : List Slot) × Fits slots ws × P slots u

further : {A : Type 0} (o : Option A) (P Q : A → Type 0) → ((x : A) → P x → Q x) → Gives o P → Gives o Q
further None P Q f h = tt
further (Some x) P Q f h = f x h

inside : (b : Bool) (A B : Type 0) → Ending b A B → B
inside true A B h = h.1
inside false A B h = h

-- what a slot at the first place makes of the others
abbrev Then : WordPlace → List WordPlace → Values → (List Slot → Values → Type 0) → Slot → Type 0
Then p places v P s = Gives (filled p s v) (Every places (λ slots. P (s ∷ slots)))

first_spells : (p : WordPlace) (places : List WordPlace) (w : List ℕ) (ws : List (List ℕ)) (v u : Values) (P : List Slot → Values → Type 0)
    → ((t : Values) (Q : List Slot → Values → Type 0) → Every places Q t → Gives (read places ws t) (Spelled ws Q))
    → Filling p w v (Then p places v P) u → Gives (read places ws u) (Spelled (w ∷ ws) P)
first_spells p places w ws v u P others (s, f, fills, then) =
    further (read places ws u) (Spelled ws (λ slots. P (s ∷ slots))) (Spelled (w ∷ ws) P) (λ t h. (s ∷ h.0, and_from _ _ f h.1, h.2))
    (others u (λ slots. P (s ∷ slots)) (given (filled p s v) (Every places (λ slots. P (s ∷ slots))) u then fills))

pub read_spells : (places : List WordPlace) (ws : List (List ℕ)) (v : Values) (P : List Slot → Values → Type 0) → Every places P v → Gives (read places ws v) (Spelled ws P)
read_spells [] [] v P e = ([], refl, e)
read_spells [] (w ∷ ws) v P e = tt
read_spells (p ∷ places) [] v P e = go (may_miss p) e
  where
    go : (b : Bool) → Ending b (P [] v) (Each p (λ s. Gives (filled p s v) (Every places (λ slots. P (s ∷ slots))))) → Gives (cond b (Some v) None) (Spelled [] P)
    go true h = ([], refl, h.0)
    go false h = tt
read_spells (p ∷ places) (w ∷ ws) v P e =
    bind_gives (put p w v) (read places ws) (Spelled (w ∷ ws) P) (λ u is.
    first_spells p places w ws v u P (λ t Q every. read_spells places ws t Q every)
    (given (put p w v) (Filling p w v (Then p places v P)) u (put_spells p w v (Then p places v P) (inside (may_miss p) (P [] v) (Each p (Then p places v P)) e)) is))
