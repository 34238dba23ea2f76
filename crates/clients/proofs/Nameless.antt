-- Commands without a name that a session keeps.
use Rattle.std.proofs.Common.{◌≡◌, ◌∙◌, ℕ, Bool, true, false, Option, Some, None, List, [], ◌∷◌, refl, sym, ap, IsTrue, true≢false}
use Rattle.std.specs.Prelude.{bytes_eq, codes, option_map, ◌&&◌, ◌||◌}
use Rattle.std.proofs.lemmas.Bool.{and_parts}
use Rattle.std.proofs.lemmas.Slice.Eq.{bytes_eq-Decides}
use lib.Pointwise.{pointwise}
use Rattle.table_model.specs.Requests.{Reference, Bound, Numbered, Request}
use Rattle.table_model.specs.Requests as request
use Rattle.table_model.specs.Words.{is_name}
use Rattle.script_lang.specs.Forms.{begins_with_at}
use Rattle.script_lang.specs.Grammar.{Frames, Key, Name, Number, Of, binding, fits, giving, in_group, policy, spells}
use Rattle.clients.specs.Names.{HasNoName, bound_in, held_reference, own, own_reference, owned, renamed}

-- ---- what other names make of it

held_same : (k : ℕ) (subject : List ℕ) (x : Reference) → bound_in x ≡ None → held_reference subject x ≡ own_reference k x
held_same k subject (Bound name) none = absurd (cc)
held_same k subject (Numbered page slot unique) none = refl

bind_same : (k : ℕ) (name : List ℕ) (bind : Option (List ℕ)) → bind ≡ None → option_map (λ _. name) bind ≡ option_map (own k) bind
bind_same k name None none = refl
bind_same k name (Some had) none = absurd (cc)

-- Any names in the place of its own make it the client's command.
pub nameless_renamed : (k : ℕ) (subject name group : List ℕ) (r : Request) → HasNoName r → renamed subject name group r ≡ owned k r
nameless_renamed k subject name group request.Begin none = refl
nameless_renamed k subject name group request.Commit none = refl
nameless_renamed k subject name group request.Abort none = refl
nameless_renamed k subject name group request.Checkpoint none = refl
nameless_renamed k subject name group request.Log none = refl
nameless_renamed k subject name group request.Files none = refl
nameless_renamed k subject name group request.Space none = refl
nameless_renamed k subject name group (request.File file) none = refl
nameless_renamed k subject name group (request.Unfile file) none = refl
nameless_renamed k subject name group (request.ListFile file) none = refl
nameless_renamed k subject name group (request.Create file bind) none = ap (request.Create file) (bind_same k name bind none.1)
nameless_renamed k subject name group (request.Destroy x) none = ap (λ (y : Reference). request.Destroy y) (held_same k subject x none.0)
nameless_renamed k subject name group (request.Size x) none = ap (λ (y : Reference). request.Size y) (held_same k subject x none.0)
nameless_renamed k subject name group (request.Stat x) none = ap (λ (y : Reference). request.Stat y) (held_same k subject x none.0)
nameless_renamed k subject name group (request.Digest x) none = ap (λ (y : Reference). request.Digest y) (held_same k subject x none.0)
nameless_renamed k subject name group (request.Versions x) none = ap (λ (y : Reference). request.Versions y) (held_same k subject x none.0)
nameless_renamed k subject name group (request.DropVersion x) none = ap (λ (y : Reference). request.DropVersion y) (held_same k subject x none.0)
nameless_renamed k subject name group (request.Read x pos len) none = ap (λ (y : Reference). request.Read y pos len) (held_same k subject x none.0)
nameless_renamed k subject name group (request.Insert x pos given) none = ap (λ (y : Reference). request.Insert y pos given) (held_same k subject x none.0)
nameless_renamed k subject name group (request.Append x given) none = ap (λ (y : Reference). request.Append y given) (held_same k subject x none.0)
nameless_renamed k subject name group (request.Replace x pos given) none = ap (λ (y : Reference). request.Replace y pos given) (held_same k subject x none.0)
nameless_renamed k subject name group (request.Delete x pos len) none = ap (λ (y : Reference). request.Delete y pos len) (held_same k subject x none.0)
nameless_renamed k subject name group (request.Freeze x bind) none = (λ i. request.Freeze (held_same k subject x none.0 i) (bind_same k name bind none.1 i))
nameless_renamed k subject name group (request.Derive x bind) none = (λ i. request.Derive (held_same k subject x none.0 i) (bind_same k name bind none.1 i))
nameless_renamed k subject name group (request.Group named frames mru) none = absurd (cc)
nameless_renamed k subject name group (request.Scan x named grouped) none = absurd (cc)
nameless_renamed k subject name group (request.Next named len) none = absurd (cc)
nameless_renamed k subject name group (request.Close named) none = absurd (cc)

-- ---- a word alone

false_and : (b : Bool) → (b && false) ≡ true → false ≡ true
false_and b both = (and_parts b false both).1

-- No command of one word has such a name.
pub alone_nameless : (verb : List ℕ) (r : Request) → IsTrue (spells (verb ∷ []) r) → HasNoName r
alone_nameless verb request.Begin spelled = (refl, refl, refl)
alone_nameless verb request.Commit spelled = (refl, refl, refl)
alone_nameless verb request.Abort spelled = (refl, refl, refl)
alone_nameless verb request.Checkpoint spelled = (refl, refl, refl)
alone_nameless verb request.Log spelled = (refl, refl, refl)
alone_nameless verb request.Files spelled = (refl, refl, refl)
alone_nameless verb request.Space spelled = (refl, refl, refl)
alone_nameless verb (request.File file) spelled = (refl, refl, refl)
alone_nameless verb (request.Unfile file) spelled = (refl, refl, refl)
alone_nameless verb (request.ListFile file) spelled = (refl, refl, refl)
alone_nameless verb (request.Create file bind) spelled = absurd (true≢false (sym (false_and (bytes_eq (codes "create") verb) spelled)))
alone_nameless verb (request.Destroy x) spelled = absurd (true≢false (sym (false_and (bytes_eq (codes "destroy") verb) spelled)))
alone_nameless verb (request.Size x) spelled = absurd (true≢false (sym (false_and (bytes_eq (codes "size") verb) spelled)))
alone_nameless verb (request.Stat x) spelled = absurd (true≢false (sym (false_and (bytes_eq (codes "stat") verb) spelled)))
alone_nameless verb (request.Digest x) spelled = absurd (true≢false (sym (false_and (bytes_eq (codes "digest") verb) spelled)))
alone_nameless verb (request.Versions x) spelled = absurd (true≢false (sym (false_and (bytes_eq (codes "versions") verb) spelled)))
alone_nameless verb (request.DropVersion x) spelled = absurd (true≢false (sym (false_and (bytes_eq (codes "drop") verb) spelled)))
alone_nameless verb (request.Read x pos len) spelled = absurd (true≢false (sym (false_and (bytes_eq (codes "read") verb) spelled)))
alone_nameless verb (request.Insert x pos given) spelled = absurd (true≢false (sym (false_and (bytes_eq (codes "insert") verb) spelled)))
alone_nameless verb (request.Append x given) spelled = absurd (true≢false (sym (false_and (bytes_eq (codes "append") verb) spelled)))
alone_nameless verb (request.Replace x pos given) spelled = absurd (true≢false (sym (false_and (bytes_eq (codes "replace") verb) spelled)))
alone_nameless verb (request.Delete x pos len) spelled = absurd (true≢false (sym (false_and (bytes_eq (codes "delete") verb) spelled)))
alone_nameless verb (request.Freeze x bind) spelled = absurd (true≢false (sym (false_and (bytes_eq (codes "freeze") verb) spelled)))
alone_nameless verb (request.Derive x bind) spelled = absurd (true≢false (sym (false_and (bytes_eq (codes "derive") verb) spelled)))
alone_nameless verb (request.Group name frames mru) spelled = absurd (true≢false (sym (false_and (bytes_eq (codes "group") verb) spelled)))
alone_nameless verb (request.Scan x name group) spelled = absurd (true≢false (sym (false_and (bytes_eq (codes "scan") verb) spelled)))
alone_nameless verb (request.Next name len) spelled = absurd (true≢false (sym (false_and (bytes_eq (codes "next") verb) spelled)))
alone_nameless verb (request.Close name) spelled = absurd (true≢false (sym (false_and (bytes_eq (codes "close") verb) spelled)))

-- ---- a command of one version, by its number

-- the first words of commands that have no name but of their version
abbrev pub is_of_one : List ℕ → Bool
is_of_one word = bytes_eq word (codes "read") || bytes_eq word (codes "size") || bytes_eq word (codes "insert") || bytes_eq word (codes "append") || bytes_eq word (codes "replace")
    || bytes_eq word (codes "delete")

-- another word isn't one of them
other_word : {A : Type 0} (key verb : List ℕ) (rest : Bool) → is_of_one key ≡ false → is_of_one verb ≡ true → (bytes_eq key verb && rest) ≡ true → A
other_word key verb rest apart is both =
    let same : key ≡ verb = (bytes_eq-Decides key verb).0 (and_parts (bytes_eq key verb) rest both).0 in
    absurd (true≢false (sym is ∙ ap is_of_one (sym same) ∙ apart))

unbound : (x : Reference) (word : List ℕ) → begins_with_at word ≡ false → fits (Of x) word ≡ true → bound_in x ≡ None
unbound (Bound name) word bare both =
    let same : 64 ∷ name ≡ word = (bytes_eq-Decides (64 ∷ name) word).0 (and_parts (bytes_eq (64 ∷ name) word) (is_name name) both).0 in
    absurd (true≢false (ap begins_with_at same ∙ bare))
unbound (Numbered page slot unique) word bare is = refl

of_unbound : (x : Reference) (word : List ℕ) (key rest : Bool) → begins_with_at word ≡ false → (key && (fits (Of x) word && rest)) ≡ true → bound_in x ≡ None
of_unbound x word key rest bare both = unbound x word bare (and_parts (fits (Of x) word) rest (and_parts key (fits (Of x) word && rest) both).1).0

pub numbered_nameless : (verb word : List ℕ) (words : List (List ℕ)) (r : Request) → is_of_one verb ≡ true → begins_with_at word ≡ false → IsTrue (spells (verb ∷ word ∷ words) r) → HasNoName r
numbered_nameless verb word words request.Begin is bare spelled = (refl, refl, refl)
numbered_nameless verb word words request.Commit is bare spelled = (refl, refl, refl)
numbered_nameless verb word words request.Abort is bare spelled = (refl, refl, refl)
numbered_nameless verb word words request.Checkpoint is bare spelled = (refl, refl, refl)
numbered_nameless verb word words request.Log is bare spelled = (refl, refl, refl)
numbered_nameless verb word words request.Files is bare spelled = (refl, refl, refl)
numbered_nameless verb word words request.Space is bare spelled = (refl, refl, refl)
numbered_nameless verb word words (request.File file) is bare spelled = (refl, refl, refl)
numbered_nameless verb word words (request.Unfile file) is bare spelled = (refl, refl, refl)
numbered_nameless verb word words (request.ListFile file) is bare spelled = (refl, refl, refl)
numbered_nameless verb word words (request.Create file bind) is bare spelled = other_word (codes "create") verb (pointwise fits (Name file ∷ Key (codes "as") ∷ binding bind ∷ []) (word ∷ words)) refl is spelled
numbered_nameless verb word words (request.Destroy x) is bare spelled = (of_unbound x word (bytes_eq (codes "destroy") verb) (pointwise fits [] words) bare spelled, refl, refl)
numbered_nameless verb word words (request.Size x) is bare spelled = (of_unbound x word (bytes_eq (codes "size") verb) (pointwise fits [] words) bare spelled, refl, refl)
numbered_nameless verb word words (request.Stat x) is bare spelled = (of_unbound x word (bytes_eq (codes "stat") verb) (pointwise fits [] words) bare spelled, refl, refl)
numbered_nameless verb word words (request.Digest x) is bare spelled = (of_unbound x word (bytes_eq (codes "digest") verb) (pointwise fits [] words) bare spelled, refl, refl)
numbered_nameless verb word words (request.Versions x) is bare spelled = (of_unbound x word (bytes_eq (codes "versions") verb) (pointwise fits [] words) bare spelled, refl, refl)
numbered_nameless verb word words (request.DropVersion x) is bare spelled = (of_unbound x word (bytes_eq (codes "drop") verb) (pointwise fits [] words) bare spelled, refl, refl)
numbered_nameless verb word words (request.Read x pos len) is bare spelled = (of_unbound x word (bytes_eq (codes "read") verb) (pointwise fits (Number pos ∷ Number len ∷ []) words) bare spelled, refl, refl)
numbered_nameless verb word words (request.Insert x pos given) is bare spelled = (of_unbound x word (bytes_eq (codes "insert") verb) (pointwise fits (Number pos ∷ giving given ∷ []) words) bare spelled, refl, refl)
numbered_nameless verb word words (request.Append x given) is bare spelled = (of_unbound x word (bytes_eq (codes "append") verb) (pointwise fits (giving given ∷ []) words) bare spelled, refl, refl)
numbered_nameless verb word words (request.Replace x pos given) is bare spelled = (of_unbound x word (bytes_eq (codes "replace") verb) (pointwise fits (Number pos ∷ giving given ∷ []) words) bare spelled, refl, refl)
numbered_nameless verb word words (request.Delete x pos len) is bare spelled = (of_unbound x word (bytes_eq (codes "delete") verb) (pointwise fits (Number pos ∷ Number len ∷ []) words) bare spelled, refl, refl)
numbered_nameless verb word words (request.Freeze x bind) is bare spelled = other_word (codes "freeze") verb (pointwise fits (Of x ∷ Key (codes "as") ∷ binding bind ∷ []) (word ∷ words)) refl is spelled
numbered_nameless verb word words (request.Derive x bind) is bare spelled = other_word (codes "derive") verb (pointwise fits (Of x ∷ Key (codes "as") ∷ binding bind ∷ []) (word ∷ words)) refl is spelled
numbered_nameless verb word words (request.Group name frames mru) is bare spelled = other_word (codes "group") verb (pointwise fits (Name name ∷ Frames frames ∷ Key (policy mru) ∷ []) (word ∷ words)) refl is spelled
numbered_nameless verb word words (request.Scan x name group) is bare spelled = other_word (codes "scan") verb (pointwise fits (Of x ∷ Key (codes "as") ∷ Name name ∷ in_group group) (word ∷ words)) refl is spelled
numbered_nameless verb word words (request.Next name len) is bare spelled = other_word (codes "next") verb (pointwise fits (Name name ∷ Number len ∷ []) (word ∷ words)) refl is spelled
numbered_nameless verb word words (request.Close name) is bare spelled = other_word (codes "close") verb (pointwise fits (Name name ∷ []) (word ∷ words)) refl is spelled
