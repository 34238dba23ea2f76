-- A step from its refusal, and what no refusal says.
use Rattle.std.proofs.Common.{◌≡◌, ◌+◌, ◌<◌, ◌≤◌, Bool, true, false, cond, Option, Some, None, List, [], ◌∷◌, ◌++◌, length, refl, ◌∙◌, ap}
use Rattle.std.specs.Prelude.{is_none, nat_le, nat_lt}
use Rattle.std.proofs.lemmas.Bool.{or_parts, leb-false, ltb-false}
use Rattle.ex_base.specs.declared.names.Area.TheVariants.{Page, Segment}
use Rattle.std.specs.Option.{option_or}
use Rattle.table_model.specs.declared.machine.Machine.{Machine}
use Rattle.table_model.specs.declared.machine.Pick.{Pick}
use Rattle.table_model.specs.declared.reply.Reply.{Reply}
use Rattle.table_model.specs.declared.reply.Reply.TheVariants as reply
use Rattle.table_model.specs.declared.reply.Refusal.{Refusal}
use Rattle.table_model.specs.Requests.{Request}
use Rattle.table_model.specs.Machines.{updates_most, touched_most}
use Rattle.table_model.specs.Needs.{need, charge, is_update, free}
use Rattle.table_model.specs.Refusals.{refusal_of, refusals, tests, limits, last_tests, first, when, no_txn, full_in}
use Rattle.table_model.specs.Steps.{Step, Allows, reply_to, machine_after, answer_of, next_of}

module _ (m : Machine) (r : Request) (q : Pick) where
  pub refused : (why : Refusal) (told : Reply) (after : Machine) → Some why ≡ refusal_of m r q → told ≡ reply.No why → after ≡ m → Allows m r q → Step m r q told after
  refused why told after e h k a = record {
    reply = h ∙ ap (λ (f : Option Refusal). answer_of f (reply_to m r q)) e;
    machine = k ∙ ap (λ (f : Option Refusal). next_of f m (machine_after m r q)) e;
    allowed = a;
  }

  pub accepted : (told : Reply) (after : Machine) → None ≡ refusal_of m r q → told ≡ reply_to m r q → after ≡ machine_after m r q → Allows m r q → Step m r q told after
  accepted told after e h k a = record {
    reply = h ∙ ap (λ (f : Option Refusal). answer_of f (reply_to m r q)) e;
    machine = k ∙ ap (λ (f : Option Refusal). next_of f m (machine_after m r q)) e;
    allowed = a;
  }

-- none of two refusals: neither
pub neither : (a b : Option Refusal) → None ≡ option_or a b → (None ≡ a) × (None ≡ b)
neither None b h = (refl, h)
neither (Some why) b h = cc

pub unmet : (b : Bool) (why : Refusal) → None ≡ when b why → b ≡ false
unmet false why h = refl
unmet true why h = cc

-- no test of the list applies
abbrev pub Passes : List (Option Refusal) → Type 0
Passes [] = Unit {0}
Passes (t ∷ ts) = (None ≡ t) × Passes ts

pub passes : (ts : List (Option Refusal)) → None ≡ first ts → Passes ts
passes [] none = tt
passes (t ∷ ts) none = let both = neither t (first ts) none in (both.0, passes ts both.1)

passes_front : (ts us : List (Option Refusal)) → Passes (ts ++ us) → Passes ts
passes_front [] us all = tt
passes_front (t ∷ ts) us all = (all.0, passes_front ts us all.1)

passes_back : (ts us : List (Option Refusal)) → Passes (ts ++ us) → Passes us
passes_back [] us all = all
passes_back (t ∷ ts) us all = passes_back ts us all.1

-- what an accepted update says of the machine
pub record PassesUpdate (m : Machine) (r : Request) (q : Pick) : Type 0 where
  pub working : is_none m.working ≡ false
  pub own : Passes (tests m r)
  pub updates : length m.notes < updates_most
  pub touched : m.touched + charge r ≤ touched_most
  pub pages : need m.geometry r q Page ≤ free m Page
  pub segs : need m.geometry r q Segment ≤ free m Segment

pub passes_update : (m : Machine) (r : Request) (q : Pick) → is_update r ≡ true → None ≡ refusal_of m r q → PassesUpdate m r q
passes_update m r q is none =
    let listed : refusals m r q ≡ no_txn m ∷ (tests m r ++ limits m r q ++ last_tests m r) = ap (λ (b : Bool). cond b (no_txn m ∷ (tests m r ++ limits m r q ++ last_tests m r)) (tests m r)) is in
    let all = passes (no_txn m ∷ (tests m r ++ limits m r q ++ last_tests m r)) (none ∙ ap first listed) in
    let front = passes_front (tests m r ++ limits m r q) (last_tests m r) all.1 in
    let room = passes_back (tests m r) (limits m r q) front in
    let long = or_parts (nat_le updates_most (length m.notes)) (nat_lt touched_most (m.touched + charge r)) (unmet _ _ room.0) in
    let units = passes (full_in m (need m.geometry r q Page) Page ∷ full_in m (need m.geometry r q Segment) Segment ∷ []) room.1.0 in
    record {
      working = unmet _ _ all.0;
      own = passes_front (tests m r) (limits m r q) front;
      updates = leb-false updates_most (length m.notes) long.0;
      touched = ltb-false touched_most (m.touched + charge r) long.1;
      pages = ltb-false (free m Page) (need m.geometry r q Page) (unmet _ _ units.0);
      segs = ltb-false (free m Segment) (need m.geometry r q Segment) (unmet _ _ units.1.0);
    }

-- what the tests of a command that is no update say
pub passes_other : (m : Machine) (r : Request) (q : Pick) → is_update r ≡ false → None ≡ refusal_of m r q → Passes (tests m r)
passes_other m r q isnt none =
    passes (tests m r) (none ∙ ap first (ap (λ (b : Bool). cond b (no_txn m ∷ (tests m r ++ limits m r q ++ last_tests m r)) (tests m r)) isnt))
