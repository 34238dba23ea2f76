-- Names of clients, as a session keeps them.
use Rattle.std.proofs.Common.{◌≡◌, ◌⊎◌, ◌∙◌, ℕ, Bool, true, false, cond, Option, Some, None, IfSome, List, ◌∷◌, inl, inr, refl, sym, ap, subst, arith, true≢false, IsTrue, nat_le}
use Rattle.std.specs.Prelude.{bytes_eq, option_map, ◌&&◌, ◌||◌}
use Rattle.std.proofs.lemmas.Bool.{and_from, and_parts}
use Rattle.std.proofs.lemmas.Bool.Decides.{nat_tests}
use Rattle.std.proofs.lemmas.Slice.Eq.{bytes_eq-Decides}
use Rattle.table_model.specs.Machines.{main}
use Rattle.table_model.specs.Requests.{Reference, Bound, Numbered, Request, frames_most, is_given, is_kept_name_if, is_position, is_reference, is_request, is_spelled, spelled_if, spelled_reference}
use Rattle.table_model.specs.Requests as request
use Rattle.table_model.specs.Words.{data_most, is_client_name, is_kept_name, is_name}
use Rattle.clients.specs.Laws.{NamesAreReadBack, NamesOfClientsDiffer}
use Rattle.clients.specs.Names.{IsClient, bare, bound_in, group_in, held_reference, letter, name_in, own, own_if, own_reference, owned, renamed, subject_in}

-- ---- a client's letter

letter_is : (k : ℕ) → IsClient k → (nat_le 65 (letter k) && nat_le (letter k) 80) ≡ true
letter_is k few = grind (arith, nat_tests)

-- what has a letter before it isn't `main`
apart : (k : ℕ) (name : List ℕ) → IsClient k → bytes_eq (letter k ∷ name) main ≡ false
apart k name few = by_test (bytes_eq (letter k ∷ name) main) refl
  where
    by_test : (b : Bool) → bytes_eq (letter k ∷ name) main ≡ b → b ≡ false
    by_test true is = let same : letter k ∷ name ≡ main = (bytes_eq-Decides (letter k ∷ name) main).0 is in let head : letter k ≡ 109 = cc in absurd (omega (arith, head, few.1))
    by_test false is = refl

is_main : (name : List ℕ) → bytes_eq name main ≡ true → name ≡ main
is_main name is = (bytes_eq-Decides name main).0 is

-- ---- what is kept

or_right : (a b : Bool) → b ≡ true → (a || b) ≡ true
or_right true b is = refl
or_right false b is = is

kept : (k : ℕ) (name : List ℕ) → IsClient k → IsTrue (is_name name) → IsTrue (is_kept_name (own k name))
kept k name few is = by_main (bytes_eq name main)
  where
    by_main : (b : Bool) → IsTrue (is_kept_name (cond b main (letter k ∷ name)))
    by_main true = refl
    by_main false = or_right (is_name (letter k ∷ name)) (is_client_name (letter k ∷ name)) (and_from (nat_le 65 (letter k) && nat_le (letter k) 80) (is_name name) (letter_is k few) is)

read_back : (k : ℕ) (name : List ℕ) → IsClient k → bare (own k name) ≡ name
read_back k name few = by_main (bytes_eq name main) refl
  where
    by_main : (b : Bool) → bytes_eq name main ≡ b → bare (cond b main (letter k ∷ name)) ≡ name
    by_main true is = sym (is_main name is)
    by_main false is = rw (apart k name few) refl

pub names_are_read_back : NamesAreReadBack
names_are_read_back k name few = (read_back k name few, kept k name few)

pub names_differ : NamesOfClientsDiffer
names_differ j k one other first second same = by_main (bytes_eq one main) (bytes_eq other main) refl refl
  where
    by_main : (a b : Bool) → bytes_eq one main ≡ a → bytes_eq other main ≡ b → (one ≡ other) × ((j ≡ k) ⊎ (one ≡ main))
    by_main true b a_is b_is =
        let main_one : one ≡ main = is_main one a_is in
        let back : one ≡ other = sym (read_back j one first) ∙ ap bare same ∙ read_back k other second in
        (back, inr main_one)
    by_main false true a_is b_is =
        let back : one ≡ other = sym (read_back j one first) ∙ ap bare same ∙ read_back k other second in
        absurd (true≢false (sym b_is ∙ ap (λ (n : List ℕ). bytes_eq n main) (sym back) ∙ a_is))
    by_main false false a_is b_is =
        let back : one ≡ other = sym (read_back j one first) ∙ ap bare same ∙ read_back k other second in
        let letters : letter j ∷ one ≡ letter k ∷ other = ap (λ (b : Bool). cond b main (letter j ∷ one)) (sym a_is) ∙ same ∙ ap (λ (b : Bool). cond b main (letter k ∷ other)) b_is in
        let heads : letter j ≡ letter k = cc in
        let number : j ≡ k = omega (arith, heads) in
        (back, inl number)

-- ---- a command with its client's names

-- ---- a command with its client's names

-- The names that a command has are names as a line spells them.
reference_is : (x : Reference) → spelled_reference x ≡ true → IfSome (bound_in x) (λ name. IsTrue (is_name name))
reference_is (Bound name) is = is
reference_is (Numbered page slot unique) is = tt

bind_is : (bind : Option (List ℕ)) → spelled_if bind ≡ true → IfSome bind (λ name. IsTrue (is_name name))
bind_is None is = tt
bind_is (Some name) is = is

pub subject_spelled : (r : Request) → is_spelled r ≡ true → IfSome (subject_in r) (λ name. IsTrue (is_name name))
subject_spelled request.Begin is = tt
subject_spelled request.Commit is = tt
subject_spelled request.Abort is = tt
subject_spelled request.Checkpoint is = tt
subject_spelled request.Log is = tt
subject_spelled request.Files is = tt
subject_spelled request.Space is = tt
subject_spelled (request.File name) is = tt
subject_spelled (request.Unfile name) is = tt
subject_spelled (request.ListFile name) is = tt
subject_spelled (request.Create file bind) is = tt
subject_spelled (request.Destroy x) is = reference_is x is
subject_spelled (request.Size x) is = reference_is x is
subject_spelled (request.Stat x) is = reference_is x is
subject_spelled (request.Digest x) is = reference_is x is
subject_spelled (request.Versions x) is = reference_is x is
subject_spelled (request.DropVersion x) is = reference_is x is
subject_spelled (request.Read x pos len) is = reference_is x is
subject_spelled (request.Insert x pos given) is = reference_is x is
subject_spelled (request.Append x given) is = reference_is x is
subject_spelled (request.Replace x pos given) is = reference_is x is
subject_spelled (request.Delete x pos len) is = reference_is x is
subject_spelled (request.Freeze x bind) is = reference_is x (and_parts (spelled_reference x) (spelled_if bind) is).0
subject_spelled (request.Derive x bind) is = reference_is x (and_parts (spelled_reference x) (spelled_if bind) is).0
subject_spelled (request.Group name frames mru) is = tt
subject_spelled (request.Scan x name group) is = reference_is x (and_parts (spelled_reference x) (is_name name) (and_parts (spelled_reference x && is_name name) (spelled_if group) is).0).0
subject_spelled (request.Next name len) is = tt
subject_spelled (request.Close name) is = tt

pub name_spelled : (r : Request) → is_spelled r ≡ true → IfSome (name_in r) (λ name. IsTrue (is_name name))
name_spelled request.Begin is = tt
name_spelled request.Commit is = tt
name_spelled request.Abort is = tt
name_spelled request.Checkpoint is = tt
name_spelled request.Log is = tt
name_spelled request.Files is = tt
name_spelled request.Space is = tt
name_spelled (request.File name) is = tt
name_spelled (request.Unfile name) is = tt
name_spelled (request.ListFile name) is = tt
name_spelled (request.Create file bind) is = bind_is bind is
name_spelled (request.Destroy x) is = tt
name_spelled (request.Size x) is = tt
name_spelled (request.Stat x) is = tt
name_spelled (request.Digest x) is = tt
name_spelled (request.Versions x) is = tt
name_spelled (request.DropVersion x) is = tt
name_spelled (request.Read x pos len) is = tt
name_spelled (request.Insert x pos given) is = tt
name_spelled (request.Append x given) is = tt
name_spelled (request.Replace x pos given) is = tt
name_spelled (request.Delete x pos len) is = tt
name_spelled (request.Freeze x bind) is = bind_is bind (and_parts (spelled_reference x) (spelled_if bind) is).1
name_spelled (request.Derive x bind) is = bind_is bind (and_parts (spelled_reference x) (spelled_if bind) is).1
name_spelled (request.Group name frames mru) is = is
name_spelled (request.Scan x name group) is = (and_parts (spelled_reference x) (is_name name) (and_parts (spelled_reference x && is_name name) (spelled_if group) is).0).1
name_spelled (request.Next name len) is = is
name_spelled (request.Close name) is = is

pub group_spelled : (r : Request) → is_spelled r ≡ true → IfSome (group_in r) (λ name. IsTrue (is_name name))
group_spelled request.Begin is = tt
group_spelled request.Commit is = tt
group_spelled request.Abort is = tt
group_spelled request.Checkpoint is = tt
group_spelled request.Log is = tt
group_spelled request.Files is = tt
group_spelled request.Space is = tt
group_spelled (request.File name) is = tt
group_spelled (request.Unfile name) is = tt
group_spelled (request.ListFile name) is = tt
group_spelled (request.Create file bind) is = tt
group_spelled (request.Destroy x) is = tt
group_spelled (request.Size x) is = tt
group_spelled (request.Stat x) is = tt
group_spelled (request.Digest x) is = tt
group_spelled (request.Versions x) is = tt
group_spelled (request.DropVersion x) is = tt
group_spelled (request.Read x pos len) is = tt
group_spelled (request.Insert x pos given) is = tt
group_spelled (request.Append x given) is = tt
group_spelled (request.Replace x pos given) is = tt
group_spelled (request.Delete x pos len) is = tt
group_spelled (request.Freeze x bind) is = tt
group_spelled (request.Derive x bind) is = tt
group_spelled (request.Group name frames mru) is = tt
group_spelled (request.Scan x name group) is = bind_is group (and_parts (spelled_reference x && is_name name) (spelled_if group) is).1
group_spelled (request.Next name len) is = tt
group_spelled (request.Close name) is = tt

own_subject : (k : ℕ) (x : Reference) → held_reference (own_if k (bound_in x)) x ≡ own_reference k x
own_subject k (Bound name) = refl
own_subject k (Numbered page slot unique) = refl

own_bind : (k : ℕ) (bind : Option (List ℕ)) → option_map (λ _. own_if k bind) bind ≡ option_map (own k) bind
own_bind k None = refl
own_bind k (Some name) = refl

-- Its own names in the place of its own make it the client's command.
pub own_renamed : (k : ℕ) (r : Request) → renamed (own_if k (subject_in r)) (own_if k (name_in r)) (own_if k (group_in r)) r ≡ owned k r
own_renamed k request.Begin = refl
own_renamed k request.Commit = refl
own_renamed k request.Abort = refl
own_renamed k request.Checkpoint = refl
own_renamed k request.Log = refl
own_renamed k request.Files = refl
own_renamed k request.Space = refl
own_renamed k (request.File name) = refl
own_renamed k (request.Unfile name) = refl
own_renamed k (request.ListFile name) = refl
own_renamed k (request.Create file bind) = ap (request.Create file) (own_bind k bind)
own_renamed k (request.Destroy x) = ap (λ (y : Reference). request.Destroy y) (own_subject k x)
own_renamed k (request.Size x) = ap (λ (y : Reference). request.Size y) (own_subject k x)
own_renamed k (request.Stat x) = ap (λ (y : Reference). request.Stat y) (own_subject k x)
own_renamed k (request.Digest x) = ap (λ (y : Reference). request.Digest y) (own_subject k x)
own_renamed k (request.Versions x) = ap (λ (y : Reference). request.Versions y) (own_subject k x)
own_renamed k (request.DropVersion x) = ap (λ (y : Reference). request.DropVersion y) (own_subject k x)
own_renamed k (request.Read x pos len) = ap (λ (y : Reference). request.Read y pos len) (own_subject k x)
own_renamed k (request.Insert x pos given) = ap (λ (y : Reference). request.Insert y pos given) (own_subject k x)
own_renamed k (request.Append x given) = ap (λ (y : Reference). request.Append y given) (own_subject k x)
own_renamed k (request.Replace x pos given) = ap (λ (y : Reference). request.Replace y pos given) (own_subject k x)
own_renamed k (request.Delete x pos len) = ap (λ (y : Reference). request.Delete y pos len) (own_subject k x)
own_renamed k (request.Freeze x bind) = (λ i. request.Freeze (own_subject k x i) (own_bind k bind i))
own_renamed k (request.Derive x bind) = (λ i. request.Derive (own_subject k x i) (own_bind k bind i))
own_renamed k (request.Group name frames mru) = refl
own_renamed k (request.Scan x name group) = (λ i. request.Scan (own_subject k x i) (own k name) (own_bind k group i))
own_renamed k (request.Next name len) = refl
own_renamed k (request.Close name) = refl

-- ---- a command with other names keeps its form

in_place : (a b c : Bool) → c ≡ true → (a && b) ≡ true → (c && b) ≡ true
in_place a b c is both = and_from c b is (and_parts a b both).1

module _ (subject name group : List ℕ) (subject_kept : IsTrue (is_kept_name subject)) (name_kept : IsTrue (is_kept_name name)) (group_kept : IsTrue (is_kept_name group)) where
  held : (x : Reference) → is_reference x ≡ true → is_reference (held_reference subject x) ≡ true
  held (Bound bound) is = subject_kept
  held (Numbered page slot unique) is = is

  kept_if : (had : Option (List ℕ)) (by : List ℕ) → is_kept_name by ≡ true → is_kept_name_if (option_map (λ _. by) had) ≡ true
  kept_if None by is = refl
  kept_if (Some had) by is = is

  three : (x : Reference) (b c : Bool) → (is_reference x && b && c) ≡ true → (is_reference (held_reference subject x) && b && c) ≡ true
  three x b c is =
      let parts = and_parts (is_reference x && b) c is in
      in_place (is_reference x && b) c (is_reference (held_reference subject x) && b)
      (in_place (is_reference x) b (is_reference (held_reference subject x)) (held x (and_parts (is_reference x) b parts.0).0) parts.0) is

  pub renamed_form : (r : Request) → is_request r ≡ true → is_request (renamed subject name group r) ≡ true
  renamed_form request.Begin is = is
  renamed_form request.Commit is = is
  renamed_form request.Abort is = is
  renamed_form request.Checkpoint is = is
  renamed_form request.Log is = is
  renamed_form request.Files is = is
  renamed_form request.Space is = is
  renamed_form (request.File name) is = is
  renamed_form (request.Unfile name) is = is
  renamed_form (request.ListFile name) is = is
  renamed_form (request.Create file bind) is = and_from (is_name file) (is_kept_name_if (option_map (λ _. name) bind)) (and_parts (is_name file) (is_kept_name_if bind) is).0 (kept_if bind name name_kept)
  renamed_form (request.Destroy x) is = held x is
  renamed_form (request.Size x) is = held x is
  renamed_form (request.Stat x) is = held x is
  renamed_form (request.Digest x) is = held x is
  renamed_form (request.Versions x) is = held x is
  renamed_form (request.DropVersion x) is = held x is
  renamed_form (request.Read x pos len) is = three x (is_position pos) (nat_le len data_most) is
  renamed_form (request.Insert x pos given) is = three x (is_position pos) (is_given given) is
  renamed_form (request.Append x given) is = in_place (is_reference x) (is_given given) (is_reference (held_reference subject x)) (held x (and_parts (is_reference x) (is_given given) is).0) is
  renamed_form (request.Replace x pos given) is = three x (is_position pos) (is_given given) is
  renamed_form (request.Delete x pos len) is = three x (is_position pos) (is_position len) is
  renamed_form (request.Freeze x bind) is = and_from (is_reference (held_reference subject x)) (is_kept_name_if (option_map (λ _. name) bind)) (held x (and_parts (is_reference x) (is_kept_name_if bind) is).0) (kept_if bind name name_kept)
  renamed_form (request.Derive x bind) is = and_from (is_reference (held_reference subject x)) (is_kept_name_if (option_map (λ _. name) bind)) (held x (and_parts (is_reference x) (is_kept_name_if bind) is).0) (kept_if bind name name_kept)
  renamed_form (request.Group named frames mru) is = in_place (is_kept_name named && nat_le 1 frames) (nat_le frames frames_most) (is_kept_name name && nat_le 1 frames)
      (in_place (is_kept_name named) (nat_le 1 frames) (is_kept_name name) name_kept (and_parts (is_kept_name named && nat_le 1 frames) (nat_le frames frames_most) is).0) is
  renamed_form (request.Scan x named grouped) is = let parts = and_parts (is_reference x && is_kept_name named) (is_kept_name_if grouped) is in
      and_from (is_reference (held_reference subject x) && is_kept_name name) (is_kept_name_if (option_map (λ _. group) grouped))
      (and_from (is_reference (held_reference subject x)) (is_kept_name name) (held x (and_parts (is_reference x) (is_kept_name named) parts.0).0) name_kept) (kept_if grouped group group_kept)
  renamed_form (request.Next named len) is = in_place (is_kept_name named) (nat_le len data_most) (is_kept_name name) name_kept is
  renamed_form (request.Close named) is = name_kept

-- ---- names that are lent

-- What holds of the name that a value stands for holds of the value.
pub if_mapped : {A : Type 0} (o : Option A) (f : A → List ℕ) (names : Option (List ℕ)) (P : List ℕ → Type 0) → option_map f o ≡ names → IfSome names P → IfSome o (λ a. P (f a))
if_mapped None f names P is holds = tt
if_mapped (Some a) f names P is holds = subst (λ (n : Option (List ℕ)). IfSome n P) (sym is) holds

pub named_as : (k : ℕ) (r : Request) (subject name group : List ℕ) → subject ≡ own_if k (subject_in r) → name ≡ own_if k (name_in r) → group ≡ own_if k (group_in r) → renamed subject name group r ≡ owned k r
named_as k r subject name group first second third = (λ i. renamed (first i) (second i) (third i) r) ∙ own_renamed k r
