-- What stands at one place of a line.
use Rattle.std.proofs.Common.{◌≡◌, ℕ, List, Bool, false, true, Option, Some, None, cond, ap, sym, ◌∙◌, refl}
use Rattle.std.specs.Prelude.{codes, bytes_eq}
use Rattle.table_model.specs.Words.{data_count}
use Rattle.table_model.specs.Requests.{Reference}
use Rattle.script_lang.specs.declared.rows.WordPlace.{WordPlace}
use Rattle.script_lang.specs.declared.rows.WordPlace.TheVariants as place
use Rattle.script_lang.specs.Forms.{◌>>=◌, name_in, bound_in, number_in, reference_in, count_in, key_in, frames_in, policy_in}
use Rattle.script_lang.specs.Grammar.{Slot, Key, Name, At, Number, Frames, Of, Given, NoWord, fits, policy}
use Rattle.script_lang.specs.Rows.{Values, put}
use Rattle.script_lang.proofs.Slots.{same_bytes, equal_bytes, Gives, bind_gives, given, key_spells, name_reads, name_spells, at_reads, at_spells, number_reads, number_spells, frames_reads, frames_spells, reference_reads, reference_spells, given_reads, given_spells}

-- the values with what a slot says, where it may stand at that place
abbrev pub filled : WordPlace → Slot → Values → Option Values
filled place.Object (Of x) v = Some (record v { x = x })
filled place.Name (Name name) v = Some (record v { name = name })
filled place.Bind (At name) v = Some (record v { bind = Some name })
filled place.Group (Name name) v = Some (record v { group = Some name })
filled place.Position (Number n) v = Some (record v { pos = n })
filled place.Count (Number n) v = Some (record v { count = n })
filled place.Length (Number n) v = Some (record v { bytes = n })
filled place.Data (Given word) v = Some (record v { bytes = data_count word; given = word })
filled place.Frames (Frames n) v = Some (record v { frames = n })
filled place.Policy (Key key) v = put place.Policy key v
filled place.As (Key key) v = put place.As key v
filled place.In (Key key) v = put place.In key v
filled _ _ v = None

-- A word that fits such a slot says the same.
pub fill_reads : (p : WordPlace) (s : Slot) (w : List ℕ) (v u : Values) → fits s w ≡ true → filled p s v ≡ Some u → put p w v ≡ Some u
fill_reads place.Object (Of x) w v u f e = ap (λ o. o >>= (λ y. Some (record v { x = y }))) (reference_reads x w f) ∙ e
fill_reads place.Name (Name name) w v u f e = ap (λ o. o >>= (λ y. Some (record v { name = y }))) (name_reads name w f) ∙ e
fill_reads place.Bind (At name) w v u f e = ap (λ o. o >>= (λ y. Some (record v { bind = Some y }))) (at_reads name w f) ∙ e
fill_reads place.Group (Name name) w v u f e = ap (λ o. o >>= (λ y. Some (record v { group = Some y }))) (name_reads name w f) ∙ e
fill_reads place.Position (Number n) w v u f e = ap (λ o. o >>= (λ y. Some (record v { pos = y }))) (number_reads n w f) ∙ e
fill_reads place.Count (Number n) w v u f e = ap (λ o. o >>= (λ y. Some (record v { count = y }))) (number_reads n w f) ∙ e
fill_reads place.Length (Number n) w v u f e = ap (λ o. o >>= (λ y. Some (record v { bytes = y }))) (number_reads n w f) ∙ e
fill_reads place.Data (Given word) w v u f e =
    let read = given_reads word w f in
    ap (λ o. o >>= (λ y. Some (record v { bytes = y; given = w }))) read.1 ∙ ap (λ (l : List ℕ). Some (record v { bytes = data_count word; given = l })) (sym read.0) ∙ e
fill_reads place.Frames (Frames n) w v u f e = ap (λ o. o >>= (λ y. Some (record v { frames = y }))) (frames_reads n w f) ∙ e
fill_reads place.Policy (Key key) w v u f e = ap (λ k. put place.Policy k v) (sym (same_bytes key w f)) ∙ e
fill_reads place.As (Key key) w v u f e = ap (λ k. put place.As k v) (sym (same_bytes key w f)) ∙ e
fill_reads place.In (Key key) w v u f e = ap (λ k. put place.In k v) (sym (same_bytes key w f)) ∙ e
fill_reads _ _ w v u f e = cc

-- each slot that may stand at a place has this
abbrev pub Each : WordPlace → (Slot → Type 0) → Type 0
Each place.Object Q = (x : Reference) → Q (Of x)
Each place.Name Q = (name : List ℕ) → Q (Name name)
Each place.Bind Q = (name : List ℕ) → Q (At name)
Each place.Group Q = (name : List ℕ) → Q (Name name)
Each place.Position Q = (n : ℕ) → Q (Number n)
Each place.Count Q = (n : ℕ) → Q (Number n)
Each place.Length Q = (n : ℕ) → Q (Number n)
Each place.Data Q = (word : List ℕ) → Q (Given word)
Each place.Frames Q = (n : ℕ) → Q (Frames n)
Each place.Policy Q = Q (Key (codes "lru")) × Q (Key (codes "mru"))
Each place.As Q = Q (Key (codes "as"))
Each place.In Q = Q (Key (codes "in"))

policy_spells : (w : List ℕ) → Gives (policy_in w) (λ mru. fits (Key (policy mru)) w ≡ true)
policy_spells w = go (bytes_eq w (codes "lru")) (bytes_eq w (codes "mru")) refl refl
  where
    turned : (key : List ℕ) → bytes_eq w key ≡ true → bytes_eq key w ≡ true
    turned key e = ap (λ l. bytes_eq l w) (sym (same_bytes w key e)) ∙ equal_bytes w

    go : (b c : Bool) → bytes_eq w (codes "lru") ≡ b → bytes_eq w (codes "mru") ≡ c → Gives (cond b (Some false) (cond c (Some true) None)) (λ mru. fits (Key (policy mru)) w ≡ true)
    go true c e f = turned (codes "lru") e
    go false true e f = turned (codes "mru") f
    go false false e f = tt

-- a slot that the word fits, and what it says at that place
abbrev pub Filling : WordPlace → List ℕ → Values → (Slot → Type 0) → Values → Type 0
Filling p w v Q u = (s : Slot) × (fits s w ≡ true) × (filled p s v ≡ Some u) × Q s

-- What a word says, a slot says that it fits.
pub put_spells : (p : WordPlace) (w : List ℕ) (v : Values) (Q : Slot → Type 0) → Each p Q → Gives (put p w v) (Filling p w v Q)
put_spells place.Object w v Q q = bind_gives (reference_in w) _ _ (λ x e. (Of x, given (reference_in w) _ x (reference_spells w) e, refl, q x))
put_spells place.Name w v Q q = bind_gives (name_in w) _ _ (λ x e. (Name x, given (name_in w) _ x (name_spells w) e, refl, q x))
put_spells place.Bind w v Q q = bind_gives (bound_in w) _ _ (λ x e. (At x, given (bound_in w) _ x (at_spells w) e, refl, q x))
put_spells place.Group w v Q q = bind_gives (name_in w) _ _ (λ x e. (Name x, given (name_in w) _ x (name_spells w) e, refl, q x))
put_spells place.Position w v Q q = bind_gives (number_in w) _ _ (λ n e. (Number n, given (number_in w) _ n (number_spells w) e, refl, q n))
put_spells place.Count w v Q q = bind_gives (number_in w) _ _ (λ n e. (Number n, given (number_in w) _ n (number_spells w) e, refl, q n))
put_spells place.Length w v Q q = bind_gives (number_in w) _ _ (λ n e. (Number n, given (number_in w) _ n (number_spells w) e, refl, q n))
put_spells place.Data w v Q q =
    bind_gives (count_in w) _ _ (λ n e.
    let last = given (count_in w) _ n (given_spells w) e in
    (Given w, last.0, ap (λ (m : ℕ). Some (record v { bytes = m; given = w })) last.1, q w))
put_spells place.Frames w v Q q = bind_gives (frames_in w) _ _ (λ n e. (Frames n, given (frames_in w) _ n (frames_spells w) e, refl, q n))
put_spells place.Policy w v Q q = bind_gives (policy_in w) _ _ (λ mru e. go mru (given (policy_in w) _ mru (policy_spells w) e))
  where
    go : (mru : Bool) → fits (Key (policy mru)) w ≡ true → Filling place.Policy w v Q (record v { mru = mru })
    go false f = (Key (codes "lru"), f, refl, q.0)
    go true f = (Key (codes "mru"), f, refl, q.1)
put_spells place.As w v Q q = bind_gives (key_in (codes "as") w) _ _ (λ x e. (Key (codes "as"), given (key_in (codes "as") w) _ x (key_spells (codes "as") w) e, refl, q))
put_spells place.In w v Q q = bind_gives (key_in (codes "in") w) _ _ (λ x e. (Key (codes "in"), given (key_in (codes "in") w) _ x (key_spells (codes "in") w) e, refl, q))
