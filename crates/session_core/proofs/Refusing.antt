-- The refusals of commands that open or end a transaction are those of the machine that the session shows.
use Rattle.std.proofs.Common.{◌≡◌, ◌∙◌, ℕ, zero, suc, ◌+◌, ◌-◌, ◌≤◌, Bool, true, false, cond, Option, Some, None, is_some, refl, ap, arith, ◌^◌, eqb, eqb-true, eq-eqb}
use Rattle.std.specs.Prelude.{is_none}
use Rattle.std.specs.Option.{option_or}
use Rattle.ex_base.specs.declared.geometry.Geometry.{Geometry}
use Rattle.ex_base.specs.declared.names.Area.{Area}
use Rattle.ex_base.specs.Area.{unit_at}
use Rattle.ex_base.specs.Sizes.{units}
use Rattle.page_alloc.specs.UnitSet.{free_below, free_count}
use Rattle.table_model.specs.declared.table.Table.{Table}
use Rattle.table_model.specs.declared.machine.Machine.{Machine}
use Rattle.table_model.specs.declared.machine.Pick.{Pick}
use Rattle.table_model.specs.declared.reply.Refusal.{Refusal}
use Rattle.table_model.specs.declared.reply.Refusal.TheVariants as refusal
use Rattle.table_model.specs.Requests as request
use Rattle.table_model.specs.Needs.{free}
use Rattle.table_model.specs.Refusals.{refusal_of, no_txn}
use Rattle.session_views.specs.View.{View}
use Rattle.volume_model.specs.Shown.{used_below, used_in}
use Rattle.session_core.specs.Sessions.{SessionState}

-- ---- the units that are free

pub all_below : (used : ℕ → Bool) (at : ℕ → ℕ) (n : ℕ) → used_below used at n + free_below used at n ≡ n
unfolding free_below
all_below used at zero = refl
all_below used at (suc n) = step (used (at n)) (used_below used at n) (free_below used at n) (all_below used at n)
  where
    step : (b : Bool) (x y : ℕ) → x + y ≡ n → (x + cond b 1 0) + (y + cond b 0 1) ≡ suc n
    step true x y is = omega (arith, is)
    step false x y is = omega (arith, is)

pub free_left : (g : Geometry) (used : ℕ → Bool) (area : Area) → used_in g used area + free_count g used area ≡ units g area
free_left g used area = all_below used (unit_at g area) (units g area)

pub free_within : (g h : Geometry) (used : ℕ → Bool) (area : Area) (free : ℕ) → h ≡ g → free ≡ free_count h used area → free ≤ units g area
free_within g h used area free same is =
    let here : free ≡ free_count g used area = is ∙ ap (λ (g : Geometry). free_count g used area) same in
    omega (arith, free_left g used area, here)

pub none_is_false : (o : Option Table) → is_some o ≡ true → is_none o ≡ false
none_is_false None is = absurd (cc)
none_is_false (Some t) is = refl

-- ---- as the machine tells them

-- the machine has a transaction open where the session has
abbrev pub SameOpen : View SessionState → Type 0
SameOpen v = is_some v.machine.working ≡ v.session.opened

-- ---- of the commands that open or end a transaction

pub open_refused : (v : View SessionState) (q : Pick) → SameOpen v → v.session.opened ≡ true → refusal_of v.machine request.Begin q ≡ Some refusal.TxnOpen
open_refused v q same opened = let is : is_some v.machine.working ≡ true = same ∙ opened in rw is refl

pub spent_refused : (v : View SessionState) (q : Pick) → SameOpen v → v.session.opened ≡ false → v.machine.committed.last ≡ 2 ^ 64 - 1 → refusal_of v.machine request.Begin q ≡ Some refusal.IdsSpent
spent_refused v q same closed last =
    let is : is_some v.machine.working ≡ false = same ∙ closed in
    let spent = eq-eqb v.machine.committed.last (2 ^ 64 - 1) last in
    rw (is, spent) refl

pub begin_accepted : (v : View SessionState) (q : Pick) → SameOpen v → v.session.opened ≡ false → (v.machine.committed.last ≡ 2 ^ 64 - 1 → ⊥) → refusal_of v.machine request.Begin q ≡ None
begin_accepted v q same closed last =
    let is : is_some v.machine.working ≡ false = same ∙ closed in
    let spent : eqb v.machine.committed.last (2 ^ 64 - 1) ≡ false = differ v.machine.committed.last last in
    rw (is, spent) refl
  where
    differ : (n : ℕ) → (n ≡ 2 ^ 64 - 1 → ⊥) → eqb n (2 ^ 64 - 1) ≡ false
    differ n isnt = (elim (eqb n (2 ^ 64 - 1)) as (λ b. eqb n (2 ^ 64 - 1) ≡ b → b ≡ false) [ true ↦ λ is. absurd (isnt (eqb-true n (2 ^ 64 - 1) is)) | false ↦ λ is. refl ]) refl

none_is_true : (o : Option Table) → is_some o ≡ false → is_none o ≡ true
none_is_true None is = refl
none_is_true (Some t) is = absurd (cc)

pub closed_refused : (m : Machine) (rest : Option Refusal) → is_some m.working ≡ false → option_or (no_txn m) rest ≡ Some refusal.NoTxn
closed_refused m rest closed = rw (none_is_true m.working closed) refl

pub checkpoint_refused : (v : View SessionState) (q : Pick) → SameOpen v → v.session.opened ≡ true → refusal_of v.machine request.Checkpoint q ≡ Some refusal.TxnOpen
checkpoint_refused v q same opened = let is : is_some v.machine.working ≡ true = same ∙ opened in rw is refl

pub checkpoint_accepted : (v : View SessionState) (q : Pick) → SameOpen v → v.session.opened ≡ false → refusal_of v.machine request.Checkpoint q ≡ None
checkpoint_accepted v q same closed = let is : is_some v.machine.working ≡ false = same ∙ closed in rw is refl

pub commit_accepted : (v : View SessionState) (q : Pick) → SameOpen v → v.session.opened ≡ true → refusal_of v.machine request.Commit q ≡ None
commit_accepted v q same opened = rw (none_is_false v.machine.working (same ∙ opened)) refl

pub abort_accepted : (v : View SessionState) (q : Pick) → SameOpen v → v.session.opened ≡ true → refusal_of v.machine request.Abort q ≡ None
abort_accepted v q same opened = rw (none_is_false v.machine.working (same ∙ opened)) refl
