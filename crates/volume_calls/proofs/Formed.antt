-- What a line could ask for is a request.
use Rattle.std.proofs.Common.{◌≡◌, ℕ, ◌^◌, Bool, true, false, ◌&&◌, nat_le, nat_lt, IsTrue, Option, Some, None, List, refl}
use Rattle.table_model.specs.Words.{is_name, is_kept_name}
use Rattle.table_model.proofs.KeptNames.{name_is_kept}
use Rattle.table_model.specs.Requests.{Data, ByWord, ByBytes, Reference, Bound, Numbered, Request, is_given, is_kept_name_if, is_position, is_reference, is_request}
use Rattle.table_model.specs.Requests as request
use Rattle.volume_calls.specs.Forms.{is_count, is_exact, is_formed, is_name_if, is_plain}

and_both : (a b c d : Bool) → (a ≡ true → c ≡ true) → (b ≡ true → d ≡ true) → (a && b) ≡ true → (c && d) ≡ true
and_both true true c d one two is = let p = one refl in let q = two refl in cc
and_both true false c d one two is = absurd (cc)
and_both false b c d one two is = absurd (cc)

exact_reference : (x : Reference) → is_exact x ≡ true → is_reference x ≡ true
exact_reference (Bound name) is = name_is_kept name is
exact_reference (Numbered page slot unique) is = is

kept_if : (name : Option (List ℕ)) → is_name_if name ≡ true → is_kept_name_if name ≡ true
kept_if None is = refl
kept_if (Some name) is = name_is_kept name is

plain_given : (given : Data) → is_plain given ≡ true → is_given given ≡ true
plain_given (ByWord word) is = absurd (cc)
plain_given (ByBytes bytes) is = is

same : (b : Bool) → b ≡ true → b ≡ true
same b is = is

pub formed_request : (r : Request) → is_formed r ≡ true → is_request r ≡ true
formed_request request.Begin is = refl
formed_request request.Commit is = refl
formed_request request.Abort is = refl
formed_request request.Checkpoint is = refl
formed_request request.Log is = refl
formed_request request.Files is = refl
formed_request request.Space is = refl
formed_request (request.File name) is = is
formed_request (request.Unfile name) is = is
formed_request (request.ListFile name) is = is
formed_request (request.Create file bind) is = and_both (is_name file) (is_name_if bind) (is_name file) (is_kept_name_if bind) (same (is_name file)) (kept_if bind) is
formed_request (request.Destroy x) is = exact_reference x is
formed_request (request.Size x) is = exact_reference x is
formed_request (request.Stat x) is = exact_reference x is
formed_request (request.Digest x) is = exact_reference x is
formed_request (request.Versions x) is = exact_reference x is
formed_request (request.DropVersion x) is = exact_reference x is
formed_request (request.Read x pos len) is = and_both (is_exact x && is_position pos) (is_count len) (is_reference x && is_position pos) (is_count len) (and_both (is_exact x) (is_position pos) (is_reference x) (is_position pos) (exact_reference x) (same (is_position pos))) (same (is_count len)) is
formed_request (request.Insert x pos given) is = and_both (is_exact x && is_position pos) (is_plain given) (is_reference x && is_position pos) (is_given given) (and_both (is_exact x) (is_position pos) (is_reference x) (is_position pos) (exact_reference x) (same (is_position pos))) (plain_given given) is
formed_request (request.Append x given) is = and_both (is_exact x) (is_plain given) (is_reference x) (is_given given) (exact_reference x) (plain_given given) is
formed_request (request.Replace x pos given) is = and_both (is_exact x && is_position pos) (is_plain given) (is_reference x && is_position pos) (is_given given) (and_both (is_exact x) (is_position pos) (is_reference x) (is_position pos) (exact_reference x) (same (is_position pos))) (plain_given given) is
formed_request (request.Delete x pos len) is = and_both (is_exact x && is_position pos) (is_position len) (is_reference x && is_position pos) (is_position len) (and_both (is_exact x) (is_position pos) (is_reference x) (is_position pos) (exact_reference x) (same (is_position pos))) (same (is_position len)) is
formed_request (request.Freeze x bind) is = and_both (is_exact x) (is_name_if bind) (is_reference x) (is_kept_name_if bind) (exact_reference x) (kept_if bind) is
formed_request (request.Derive x bind) is = and_both (is_exact x) (is_name_if bind) (is_reference x) (is_kept_name_if bind) (exact_reference x) (kept_if bind) is
formed_request (request.Group name frames mru) is = and_both (is_name name && nat_le 1 frames) (nat_le frames 1024) (is_kept_name name && nat_le 1 frames) (nat_le frames 1024) (and_both (is_name name) (nat_le 1 frames) (is_kept_name name) (nat_le 1 frames) (name_is_kept name) (same (nat_le 1 frames))) (same (nat_le frames 1024)) is
formed_request (request.Scan x name group) is = and_both (is_exact x && is_name name) (is_name_if group) (is_reference x && is_kept_name name) (is_kept_name_if group) (and_both (is_exact x) (is_name name) (is_reference x) (is_kept_name name) (exact_reference x) (name_is_kept name)) (kept_if group) is
formed_request (request.Next name len) is = and_both (is_name name) (is_count len) (is_kept_name name) (is_count len) (name_is_kept name) (same (is_count len)) is
formed_request (request.Close name) is = name_is_kept name is
