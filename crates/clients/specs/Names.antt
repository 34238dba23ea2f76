-- Names of clients, as a session keeps them.
use Rattle.std.specs.Prelude.{◌≡◌, ◌≤◌, ◌+◌, ℕ, List, ◌∷◌, drop, bytes_eq, if◌then◌else◌, Option, Some, None, option_map}
use Rattle.table_model.specs.Machines.{main}
use Rattle.table_model.specs.Requests.{Reference, Bound, Numbered, Request}
use Rattle.table_model.specs.Requests as request
use Rattle.table_model.specs.declared.reply.Reply.{Reply}
use Rattle.table_model.specs.declared.reply.Reply.TheVariants as reply

-- how many clients there may be
abbrev pub clients_most : ℕ
clients_most = 16

-- Clients are numbered from 1 on.
abbrev pub IsClient : ℕ → Type 0
IsClient k = (1 ≤ k) × (k ≤ clients_most)

-- the letter of a client: A of the first one, P of the sixteenth
abbrev pub letter : ℕ → ℕ
letter k = 64 + k

-- what a session keeps for a client's own name; the group `main` is common to all
abbrev pub own : ℕ → List ℕ → List ℕ
own k name = if bytes_eq name main then main else letter k ∷ name

-- the client's own name again
abbrev pub bare : List ℕ → List ℕ
bare kept = if bytes_eq kept main then main else drop 1 kept

abbrev pub own_reference : ℕ → Reference → Reference
own_reference k (Bound name) = Bound (own k name)
own_reference k (Numbered page slot unique) = Numbered page slot unique

-- a command with its client's names; names of files stay
abbrev pub owned : ℕ → Request → Request
owned k (request.Create file bind) = request.Create file (option_map (own k) bind)
owned k (request.Destroy x) = request.Destroy (own_reference k x)
owned k (request.Size x) = request.Size (own_reference k x)
owned k (request.Stat x) = request.Stat (own_reference k x)
owned k (request.Digest x) = request.Digest (own_reference k x)
owned k (request.Versions x) = request.Versions (own_reference k x)
owned k (request.DropVersion x) = request.DropVersion (own_reference k x)
owned k (request.Read x pos len) = request.Read (own_reference k x) pos len
owned k (request.Insert x pos given) = request.Insert (own_reference k x) pos given
owned k (request.Append x given) = request.Append (own_reference k x) given
owned k (request.Replace x pos given) = request.Replace (own_reference k x) pos given
owned k (request.Delete x pos len) = request.Delete (own_reference k x) pos len
owned k (request.Freeze x bind) = request.Freeze (own_reference k x) (option_map (own k) bind)
owned k (request.Derive x bind) = request.Derive (own_reference k x) (option_map (own k) bind)
owned k (request.Group name frames mru) = request.Group (own k name) frames mru
owned k (request.Scan x name group) = request.Scan (own_reference k x) (own k name) (option_map (own k) group)
owned k (request.Next name len) = request.Next (own k name) len
owned k (request.Close name) = request.Close (own k name)
owned k r = r

-- a reply as its client reads it
abbrev pub told_bare : Reply → Reply
told_bare (reply.Group name) = reply.Group (bare name)
told_bare (reply.Scan name size) = reply.Scan (bare name) size
told_bare (reply.Close name) = reply.Close (bare name)
told_bare told = told

-- ---- the names of a command

abbrev pub bound_in : Reference → Option (List ℕ)
bound_in (Bound name) = Some name
bound_in (Numbered page slot unique) = None

-- the bound name by which it names a version
abbrev pub subject_in : Request → Option (List ℕ)
subject_in (request.Destroy x) = bound_in x
subject_in (request.Size x) = bound_in x
subject_in (request.Stat x) = bound_in x
subject_in (request.Digest x) = bound_in x
subject_in (request.Versions x) = bound_in x
subject_in (request.DropVersion x) = bound_in x
subject_in (request.Read x pos len) = bound_in x
subject_in (request.Insert x pos given) = bound_in x
subject_in (request.Append x given) = bound_in x
subject_in (request.Replace x pos given) = bound_in x
subject_in (request.Delete x pos len) = bound_in x
subject_in (request.Freeze x bind) = bound_in x
subject_in (request.Derive x bind) = bound_in x
subject_in (request.Scan x name group) = bound_in x
subject_in _ = None

-- the name that it binds, opens, goes on, closes or makes
abbrev pub name_in : Request → Option (List ℕ)
name_in (request.Create file bind) = bind
name_in (request.Freeze x bind) = bind
name_in (request.Derive x bind) = bind
name_in (request.Group name frames mru) = Some name
name_in (request.Scan x name group) = Some name
name_in (request.Next name len) = Some name
name_in (request.Close name) = Some name
name_in _ = None

-- the group that it names
abbrev pub group_in : Request → Option (List ℕ)
group_in (request.Scan x name group) = group
group_in _ = None

abbrev pub held_reference : List ℕ → Reference → Reference
held_reference subject (Bound name) = Bound subject
held_reference subject (Numbered page slot unique) = Numbered page slot unique

-- It has no name that a session keeps.
abbrev pub HasNoName : Request → Type 0
HasNoName r = (subject_in r ≡ None) × (name_in r ≡ None) × (group_in r ≡ None)

-- a command with these names in the place of its own: of the version that it names, of what it binds, opens, goes on, closes or makes, and of a group
abbrev pub renamed : List ℕ → List ℕ → List ℕ → Request → Request
renamed subject name group (request.Create file bind) = request.Create file (option_map (λ _. name) bind)
renamed subject name group (request.Destroy x) = request.Destroy (held_reference subject x)
renamed subject name group (request.Size x) = request.Size (held_reference subject x)
renamed subject name group (request.Stat x) = request.Stat (held_reference subject x)
renamed subject name group (request.Digest x) = request.Digest (held_reference subject x)
renamed subject name group (request.Versions x) = request.Versions (held_reference subject x)
renamed subject name group (request.DropVersion x) = request.DropVersion (held_reference subject x)
renamed subject name group (request.Read x pos len) = request.Read (held_reference subject x) pos len
renamed subject name group (request.Insert x pos given) = request.Insert (held_reference subject x) pos given
renamed subject name group (request.Append x given) = request.Append (held_reference subject x) given
renamed subject name group (request.Replace x pos given) = request.Replace (held_reference subject x) pos given
renamed subject name group (request.Delete x pos len) = request.Delete (held_reference subject x) pos len
renamed subject name group (request.Freeze x bind) = request.Freeze (held_reference subject x) (option_map (λ _. name) bind)
renamed subject name group (request.Derive x bind) = request.Derive (held_reference subject x) (option_map (λ _. name) bind)
renamed subject name group (request.Group named frames mru) = request.Group name frames mru
renamed subject name group (request.Scan x named grouped) = request.Scan (held_reference subject x) name (option_map (λ _. group) grouped)
renamed subject name group (request.Next named len) = request.Next name len
renamed subject name group (request.Close named) = request.Close name
renamed subject name group r = r

-- a client's own name, or `main` where there is none
abbrev pub own_if : ℕ → Option (List ℕ) → List ℕ
own_if k None = main
own_if k (Some name) = own k name
