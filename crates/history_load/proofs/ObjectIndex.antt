-- Which object of a list has a version with a number.
use Rattle.std.proofs.Common.{◌≡◌, inl, inr, ℕ, suc, Bool, true, false, cond, eqb, List, [], ◌∷◌, ◌++◌, refl, sym, subst, ap, ◌∙◌, arith}
use Rattle.std.specs.List.{flat_map}
use Rattle.std.proofs.lemmas.Bool.{eq-eqb, eqb-true, false≢true}
use Rattle.version_lists.specs.declared.version.Object.{Object}
use Rattle.version_lists.specs.declared.version.Version.{Version}
use Rattle.version_lists.specs.Versions.{unique_of as number_of}
use Rattle.version_lists.proofs.Lists.{Has, has_back, has_flat}
use Rattle.volume_model.proofs.Places.{Sep, sep_split}

-- a version of the object has the number
abbrev pub HasNumber : Object → ℕ → Type 0
HasNumber object number = (w : Version) × Has object.versions w × (number_of w ≡ number)

has_number : ℕ → List Version → Bool
has_number number [] = false
has_number number (w ∷ ws) = cond (eqb (number_of w) number) true (has_number number ws)

number_there : (number : ℕ) (ws : List Version) → has_number number ws ≡ true → (w : Version) × Has ws w × (number_of w ≡ number)
unfolding has_number
number_there number [] is = absurd (false≢true is)
number_there number (w ∷ ws) is = by (eqb (number_of w) number) refl (number_there number ws) is
  where
    by : (b : Bool) → eqb (number_of w) number ≡ b → (has_number number ws ≡ true → (v : Version) × Has ws v × (number_of v ≡ number)) → cond b true (has_number number ws) ≡ true
        → (v : Version) × Has (w ∷ ws) v × (number_of v ≡ number)
    by true same later e = (w, inl refl, eqb-true (number_of w) number same)
    by false same later e = let rest = later e in (rest.0, inr rest.1, rest.2)

there_number : (number : ℕ) (ws : List Version) (w : Version) → Has ws w → number_of w ≡ number → has_number number ws ≡ true
unfolding has_number
there_number number [] w h is = absurd h
there_number number (v ∷ ws) w (inl e) is = ap (λ (b : Bool). cond b true (has_number number ws)) (eq-eqb (number_of v) number (ap number_of e ∙ is))
there_number number (v ∷ ws) w (inr m) is = by (eqb (number_of v) number) (there_number number ws w m is)
  where
    by : (b : Bool) → has_number number ws ≡ true → cond b true (has_number number ws) ≡ true
    by true rest = refl
    by false rest = rest

-- the index of the first object that has a version with the number
pub index_of : List Object → ℕ → ℕ
index_of [] number = 0
index_of (object ∷ objects) number = cond (has_number number object.versions) 0 (suc (index_of objects number))

index_here : (object : Object) (objects : List Object) (number : ℕ) → HasNumber object number → index_of (object ∷ objects) number ≡ 0
unfolding index_of
index_here object objects number has = ap (λ (b : Bool). cond b 0 (suc (index_of objects number))) (there_number number object.versions has.0 has.1 has.2)

index_later : (object : Object) (objects : List Object) (number : ℕ) → (HasNumber object number → ⊥) → index_of (object ∷ objects) number ≡ suc (index_of objects number)
unfolding index_of
index_later object objects number none = by (has_number number object.versions) refl
  where
    by : (b : Bool) → has_number number object.versions ≡ b → index_of (object ∷ objects) number ≡ suc (index_of objects number)
    by true is = absurd (none (number_there number object.versions is))
    by false is = ap (λ (b : Bool). cond b 0 (suc (index_of objects number))) is

abbrev together : List Object → List Version
together objects = flat_map (λ (o : Object). o.versions) objects

-- Two numbers of one object have one index,
pub same_index : (objects : List Object) (object : Object) (a b : ℕ) → Sep number_of (together objects) → Has objects object → HasNumber object a → HasNumber object b → index_of objects a ≡ index_of objects b
same_index [] object a b differ h in_a in_b = absurd h
same_index (o ∷ objects) object a b differ (inl e) in_a in_b =
    index_here o objects a (subst (λ (x : Object). HasNumber x a) (sym e) in_a) ∙ sym (index_here o objects b (subst (λ (x : Object). HasNumber x b) (sym e) in_b))
same_index (o ∷ objects) object a b differ (inr m) in_a in_b =
    let rest = same_index objects object a b (sep_split number_of o.versions (together objects) differ).1 m in_a in_b in
    index_later o objects a (none a in_a) ∙ ap suc rest ∙ sym (index_later o objects b (none b in_b))
  where
    apart : (vs ws : List Version) (v w : Version) → Sep number_of (vs ++ ws) → Has vs v → Has ws w → number_of v ≡ number_of w → ⊥
    apart [] ws v w each h k same = absurd h
    apart (x ∷ vs) ws v w each (inl e) k same = each.0 w (has_back vs ws w k) (ap number_of e ∙ same)
    apart (x ∷ vs) ws v w each (inr n) k same = apart vs ws v w each.1 n k same

    none : (number : ℕ) → HasNumber object number → HasNumber o number → ⊥
    none number is also = apart o.versions (together objects) also.0 is.0 differ also.1 (has_flat (λ (x : Object). x.versions) objects object is.0 m is.1) (also.2 ∙ sym is.2)

-- some object has a version with the number, or with both
abbrev pub HasOne : List Object → ℕ → Type 0
HasOne objects number = (o : Object) × Has objects o × HasNumber o number

abbrev pub HaveBoth : List Object → ℕ → ℕ → Type 0
HaveBoth objects a b = (o : Object) × Has objects o × HasNumber o a × HasNumber o b

-- and two numbers of one index are of one object.
pub at_index : (objects : List Object) (a b : ℕ) → HasOne objects a → HasOne objects b → index_of objects a ≡ index_of objects b → HaveBoth objects a b
unfolding index_of
at_index [] a b is also same = absurd is.1
at_index (o ∷ objects) a b is also same = by (has_number a o.versions) (has_number b o.versions) refl refl (at_index objects a b) same
  where
    later : (n : ℕ) → HasOne (o ∷ objects) n → has_number n o.versions ≡ false → HasOne objects n
    later n (x, inl e, has) none = absurd (false≢true (sym none ∙ there_number n o.versions has.0 (subst (λ (y : Object). Has y.versions has.0) (sym e) has.1) has.2))
    later n (x, inr m, has) none = (x, m, has)

    by : (p q : Bool) → has_number a o.versions ≡ p → has_number b o.versions ≡ q → (HasOne objects a → HasOne objects b → index_of objects a ≡ index_of objects b → HaveBoth objects a b)
        → cond p 0 (suc (index_of objects a)) ≡ cond q 0 (suc (index_of objects b)) → HaveBoth (o ∷ objects) a b
    by true true in_a in_b further e = (o, inl refl, number_there a o.versions in_a, number_there b o.versions in_b)
    by true false in_a in_b further e = absurd (omega (arith, e))
    by false true in_a in_b further e = absurd (omega (arith, e))
    by false false in_a in_b further e =
        let rest = further (later a is in_a) (later b also in_b) (omega (arith, e)) in
        (rest.0, inr rest.1, rest.2, rest.3)
