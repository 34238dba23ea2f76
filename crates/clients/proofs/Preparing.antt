-- What is kept of a line, and what it is routed as.
use Rattle.std.proofs.Common.{◌≡◌, ◌∙◌, ℕ, Option, Some, None, IfSome, List, ◌∷◌, inl, inr, sym, ap, subst, IsTrue, true≢false}
use Rattle.table_model.specs.Requests.{Request}
use Rattle.table_model.specs.declared.reply.Refusal.{Refusal}
use Rattle.table_model.specs.declared.reply.Refusal.TheVariants as refusal
use Rattle.script_lines.specs.Lines.{Line, Short}
use Rattle.script_lang.specs.LineWords.{words_of}
use Rattle.script_lang.specs.Reading.{Reading, Asks, Fails, Says, is_silent}
use Rattle.clients.specs.Names.{owned}
use Rattle.clients.specs.Prepared.{AsksNow, IsPrepared, IsTurnOf, with_names}
use Rattle.clients.specs.Routing.{busy_with, unless_busy}
use Rattle.clients.specs.Turns.{IsOf, IsQuiet, IsTurn, Quiet, Said}
use Rattle.clients.specs.Turns as quiet
use Rattle.clients.specs.declared.clients.Clients.{Clients}
use Rattle.clients.proofs.Fronts.{IsApart, unread_says}
use Rattle.clients.proofs.LineTurns.{loud_number, one_turn}
use Rattle.clients.proofs.Numbers.{not_alone, one_front}

-- ---- what is kept of a line

-- of one that says nothing
pub keeps_quiet : (line : Option Line) (clients : Clients) → IsTurnOf line Quiet → IfSome line (λ l. IsPrepared l clients)
keeps_quiet None clients turn = tt
keeps_quiet (Some line) clients turn = record {
  client_is = λ k reading said. absurd (let no : Quiet ≡ Said k reading = one_turn line Quiet (Said k reading) turn said in cc);
  names_are = λ k r said. absurd (let no : Quiet ≡ Said k (Asks r) = one_turn line Quiet (Said k (Asks r)) turn said in cc);
}

-- of one that is refused
pub keeps_client : (line : Option Line) (clients : Clients) (client : ℕ) (why : Refusal) → clients.client ≡ client → IsTurnOf line (Said client (Fails why)) → IfSome line (λ l. IsPrepared l clients)
keeps_client None clients client why is turn = tt
keeps_client (Some line) clients client why is turn = record {
  client_is = λ k reading said. let one : Said client (Fails why) ≡ Said k reading = one_turn line (Said client (Fails why)) (Said k reading) turn said in let same : client ≡ k = cc in is ∙ same;
  names_are = λ k r said. absurd (let no : Said client (Fails why) ≡ Said k (Asks r) = one_turn line (Said client (Fails why)) (Said k (Asks r)) turn said in cc);
}

-- of one that asks for a step
pub keeps_names : (line : Option Line) (clients : Clients) (client : ℕ) (r : Request) → clients.client ≡ client → with_names clients.names r ≡ owned client r → IsTurnOf line (Said client (Asks r))
    → IfSome line (λ l. IsPrepared l clients)
keeps_names None clients client r is names turn = tt
keeps_names (Some line) clients client r is names turn = record {
  client_is = λ k reading said. let one : Said client (Asks r) ≡ Said k reading = one_turn line (Said client (Asks r)) (Said k reading) turn said in let same : client ≡ k = cc in is ∙ same;
  names_are = λ k s said.
      let one : Said client (Asks r) ≡ Said k (Asks s) = one_turn line (Said client (Asks r)) (Said k (Asks s)) turn said in
      let same : client ≡ k = cc in
      let request : r ≡ s = cc in
      subst (λ (x : Request). with_names clients.names x ≡ owned k x) request (subst (λ (n : ℕ). with_names clients.names r ≡ owned n r) same names);
}

-- of what a client says, where what is kept is its client and the names of what it asks for
pub keeps_said : (line rest : List ℕ) (clients : Clients) (client : ℕ) → IsOf client line rest → ((IsTrue (is_silent (words_of rest)) → ⊥) → clients.client ≡ client)
    → ((r : Request) → Says (words_of rest) (Asks r) → with_names clients.names r ≡ owned client r) → IsPrepared (Short line) clients
keeps_said line rest clients client of is names = record { client_is = client_is; names_are = names_are }
  where
    client_is : (k : ℕ) (reading : Reading) → IsTurn (Short line) (Said k reading) → clients.client ≡ k
    client_is k reading (inl said) =
        let same = one_front client k line rest said.rest of said.is_of in
        is (λ silent. said.loud (subst (λ (l : List ℕ). IsTrue (is_silent (words_of l))) same.1 silent)) ∙ same.0
    client_is k reading (inr unread) = absurd (unread.of_none client rest of)

    names_are : (k : ℕ) (r : Request) → IsTurn (Short line) (Said k (Asks r)) → with_names clients.names r ≡ owned k r
    names_are k r (inl said) =
        let same = one_front client k line rest said.rest of said.is_of in
        subst (λ (n : ℕ). with_names clients.names r ≡ owned n r) same.0 (names r (subst (λ (l : List ℕ). Says (words_of l) (Asks r)) (sym same.1) said.says))
    names_are k r (inr unread) = absurd (unread.of_none client rest of)

-- A client's line that says nothing is silent behind its number.
pub quiet_rest : (line rest : List ℕ) (client : ℕ) → IsOf client line rest → IsQuiet line → IsTrue (is_silent (words_of rest))
quiet_rest line rest client of (quiet.silent silent) =
    absurd (true≢false (sym silent ∙ ap (λ (l : List ℕ). is_silent (words_of l)) of.1 ∙ loud_number client (32 ∷ rest) of.0))
quiet_rest line rest client of (quiet.alone k few is) = absurd (not_alone client k line rest of is)
quiet_rest line rest client of (quiet.silent_of k other of_other silent) =
    subst (λ (l : List ℕ). IsTrue (is_silent (words_of l))) (one_front k client line other rest of_other of).1 silent

-- of one whose client can't be read
pub keeps_unread : (line : List ℕ) (clients : Clients) → (IsQuiet line → ⊥) → IsApart line → clients.client ≡ 0 → IsPrepared (Short line) clients
keeps_unread line clients loud apart is = keeps_client (Some (Short line)) clients 0 refusal.Syntax is (unread_says line loud apart)

-- ---- what it is routed as

pub asks_busy : (line : Option Line) (clients : Clients) (client other : ℕ) (r : Request) → IsTurnOf line (Said client (Asks r)) → busy_with clients.owner client r ≡ Some other
    → AsksNow line clients (Fails (refusal.Busy other))
asks_busy line clients client other r turn busy = (Said client (Asks r), turn, ap (λ (o : Option ℕ). unless_busy o (with_names clients.names r)) (sym busy))

pub asks_step : (line : Option Line) (clients : Clients) (client : ℕ) (r asked : Request) → IsTurnOf line (Said client (Asks r)) → busy_with clients.owner client r ≡ None → asked ≡ with_names clients.names r
    → AsksNow line clients (Asks asked)
asks_step line clients client r asked turn free named =
    (Said client (Asks r), turn, ap (λ (x : Request). Asks x) named ∙ ap (λ (o : Option ℕ). unless_busy o (with_names clients.names r)) (sym free))
