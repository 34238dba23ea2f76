-- A client is the owner exactly while a transaction is open.
use Rattle.std.proofs.Common.{◌≡◌, ◌∙◌, ℕ, Bool, true, false, Option, Some, None, List, ◌∷◌, ◌++◌, refl, sym, ap, arith, unwrap_or}
use Rattle.std.specs.Prelude.{◌==◌, is_none, is_some}
use Rattle.std.proofs.lemmas.Bool.Decides.{nat_tests}
use Rattle.table_model.specs.Machines.{shown, size_of}
use Rattle.table_model.specs.Refusals.{first, last_tests, limits, refusal_of, tests, when}
use Rattle.table_model.specs.Requests.{Request}
use Rattle.table_model.specs.Requests as request
use Rattle.table_model.specs.Steps.{answer_of, machine_after, next_of, reply_to, stat_reply}
use Rattle.table_model.specs.declared.machine.Machine.{Machine}
use Rattle.table_model.specs.declared.machine.Pick.{Pick}
use Rattle.table_model.specs.declared.reply.Refusal.{Refusal}
use Rattle.table_model.specs.declared.reply.Refusal.TheVariants as refusal
use Rattle.table_model.specs.declared.table.Table.{Table}
use Rattle.script_lang.specs.Reading.{Asks, Fails}
use Rattle.clients.specs.Laws.{OthersSeeWhatIsCommitted, OwnerFollows}
use Rattle.clients.specs.Names.{owned}
use Rattle.clients.specs.Routing.{busy_with, owner_after, unless_busy}

-- an update is accepted only where a transaction is open
is_open : (o : Option Table) (rest : List (Option Refusal)) → first (when (is_none o) refusal.NoTxn ∷ rest) ≡ None → is_some o ≡ true
is_open None rest passed = absurd (cc)
is_open (Some t) rest passed = refl

stat_keeps : (small : Bool) (size : ℕ) (q : Pick) (k : ℕ) (owner : Option ℕ) (b : Bool) → q.small ≡ small → is_some owner ≡ b → is_some (owner_after k (stat_reply size q) owner) ≡ b
stat_keeps true size q k owner b is same = rw is same
stat_keeps false size q k owner b is same = rw is same

-- what is asked of an update behind its transaction
abbrev behind : Machine → Request → Pick → List (Option Refusal)
behind m r q = tests m r ++ limits m r q ++ last_tests m r

accepted : (m : Machine) (k : ℕ) (r : Request) (q : Pick) (owner : Option ℕ) → refusal_of m r q ≡ None → is_some owner ≡ is_some m.working
    → is_some (owner_after k (reply_to m r q) owner) ≡ is_some (machine_after m r q).working
accepted m k request.Begin q owner passed same = refl
accepted m k request.Commit q owner passed same = refl
accepted m k request.Abort q owner passed same = refl
accepted m k request.Checkpoint q owner passed same = same
accepted m k request.Log q owner passed same = same
accepted m k request.Files q owner passed same = same
accepted m k request.Space q owner passed same = same
accepted m k (request.File name) q owner passed same = same ∙ is_open m.working (behind m (request.File name) q) passed
accepted m k (request.Unfile name) q owner passed same = same ∙ is_open m.working (behind m (request.Unfile name) q) passed
accepted m k (request.ListFile name) q owner passed same = same
accepted m k (request.Create file bind) q owner passed same = same ∙ is_open m.working (behind m (request.Create file bind) q) passed
accepted m k (request.Destroy x) q owner passed same = same ∙ is_open m.working (behind m (request.Destroy x) q) passed
accepted m k (request.Size x) q owner passed same = same
accepted m k (request.Stat x) q owner passed same = stat_keeps q.small (size_of m x) q k owner (is_some m.working) refl same
accepted m k (request.Digest x) q owner passed same = same
accepted m k (request.Versions x) q owner passed same = same
accepted m k (request.DropVersion x) q owner passed same = same ∙ is_open m.working (behind m (request.DropVersion x) q) passed
accepted m k (request.Read x pos len) q owner passed same = same
accepted m k (request.Insert x pos given) q owner passed same = same ∙ is_open m.working (behind m (request.Insert x pos given) q) passed
accepted m k (request.Append x given) q owner passed same = same ∙ is_open m.working (behind m (request.Append x given) q) passed
accepted m k (request.Replace x pos given) q owner passed same = same ∙ is_open m.working (behind m (request.Replace x pos given) q) passed
accepted m k (request.Delete x pos len) q owner passed same = same ∙ is_open m.working (behind m (request.Delete x pos len) q) passed
accepted m k (request.Freeze x bind) q owner passed same = same ∙ is_open m.working (behind m (request.Freeze x bind) q) passed
accepted m k (request.Derive x bind) q owner passed same = same ∙ is_open m.working (behind m (request.Derive x bind) q) passed
accepted m k (request.Group name frames mru) q owner passed same = same
accepted m k (request.Scan x name group) q owner passed same = same
accepted m k (request.Next name len) q owner passed same = same
accepted m k (request.Close name) q owner passed same = same

by_refusal : (m : Machine) (k : ℕ) (r : Request) (q : Pick) (owner : Option ℕ) (o : Option Refusal) → refusal_of m r q ≡ o → is_some owner ≡ is_some m.working
    → is_some (owner_after k (answer_of o (reply_to m r q)) owner) ≡ is_some (next_of o m (machine_after m r q)).working
by_refusal m k r q owner None is same = accepted m k r q owner is same
by_refusal m k r q owner (Some why) is same = same

pub owner_follows : OwnerFollows
owner_follows before k r q told after owner step same =
    rw (step.reply, step.machine) (by_refusal before k (owned k r) q owner (refusal_of before (owned k r) q) refl same)

-- ---- what others see

shown_closed : (o : Option Table) (committed : Table) → is_some o ≡ false → unwrap_or o committed ≡ committed
shown_closed None committed closed = refl
shown_closed (Some t) committed closed = absurd (cc)

pub others_see : OthersSeeWhatIsCommitted
others_see m None k r same waiting asked other = shown_closed m.working m.committed (sym same)
others_see m (Some j) k r same waiting asked other = by_test (j == k) refl
  where
    by_test : (b : Bool) → (j == k) ≡ b → shown m ≡ m.committed
    by_test true is = let equal : j ≡ k = grind (arith, nat_tests) in absurd (other (ap (λ (n : ℕ). Some n) equal))
    by_test false is =
        let busy : busy_with (Some j) k r ≡ Some j = rw (is, waiting) refl in
        let both : Fails (refusal.Busy j) ≡ Asks (owned k r) = ap (λ (o : Option ℕ). unless_busy o (owned k r)) (sym busy) ∙ asked in
        absurd (cc)
