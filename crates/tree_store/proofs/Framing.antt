-- A page that was just written is put into a frame.
use Rattle.std.proofs.Common.{◌≡◌, ◌≤◌, ◌<◌, ◌+◌, ◌*◌, ◌∙◌, ℕ, true, false, cond, List, [], ◌∷◌, length, All, Option, Some, None, IfSome, is_some, nat_eq, slice_get, refl, sym, ap, arith, ⊎_elim, eqb-true}
use Rattle.std.proofs.lemmas.List.Elements.{All-head, All-tail}
use Rattle.std.proofs.lemmas.Option.{same_Some}
use Rattle.std.specs.Map.{lookup}
use Rattle.ex_base.specs.Bytes.{part, repl, part-repl}
use Rattle.disk_model.specs.Outside.{Outside, IsWorld, Goes}
use Rattle.disk_model.specs.Calls.{Wrote}
use Rattle.disk_model.specs.Runs.{told_value}
use Rattle.buffer_groups.specs.Frames.{Frames, IsHeld}
use Rattle.buffer_groups.specs.Groups.{LacksFrame, AreOfSize}
use Rattle.buffer_groups.proofs.GroupLists.{at_index, same_count}
use Rattle.tree_store.specs.Stored.{unit_forgotten}
use Rattle.tree_store.proofs.Forgetting.{IsNone, AreNone, unit_forgotten_none, unit_forgotten_kinds}

none_is : (p q : ℕ) → IsNone p 1 q → p ≡ q → ⊥
none_is p q is same = ⊎_elim (λ (lt : q < p). let no : ⊥ = omega (arith, lt, same) in no) (λ (le : p + 1 ≤ q). let no : ⊥ = omega (arith, le, same) in no) is.apart

-- a page of which no frame is
no_frame : (p : ℕ) (es : List (ℕ × List ℕ)) → All (λ (e : ℕ × List ℕ). IsNone p 1 e.0) es → lookup (nat_eq p) es ≡ None
no_frame p [] all = refl
no_frame p (e ∷ es) all =
    (elim (nat_eq p e.0) as (λ b. nat_eq p e.0 ≡ b → cond b (Some e.1) (lookup (nat_eq p) es) ≡ None) [
      | true ↦ λ t. absurd (none_is p e.0 (All-head (λ (f : ℕ × List ℕ). IsNone p 1 f.0) e es all) (eqb-true p e.0 t))
      | false ↦ λ t. no_frame p es (All-tail (λ (f : ℕ × List ℕ). IsNone p 1 f.0) e es all)
    ]) refl

-- After its page was forgotten no group has a frame of it.
pub forgotten_lacks : (p index : ℕ) (gs now : List Frames) → now ≡ unit_forgotten p 1 gs → index < length gs → LacksFrame now index p
forgotten_lacks p index gs now is lt group at =
    let here : slice_get (unit_forgotten p 1 gs) index ≡ Some group = ap (λ (l : List Frames). slice_get l index) (sym is) ∙ at in
    no_frame p group.entries (at_index (AreNone p 1) (unit_forgotten p 1 gs) index group here (omega (arith, lt, same_count gs (unit_forgotten p 1 gs) (unit_forgotten_kinds p 1 gs))) (unit_forgotten_none p 1 gs))

-- The disk that was written holds these bytes of the page.
pub written_held : (a b : Outside) (size p : ℕ) (bytes : List ℕ) → IsWorld a → Goes a b → Wrote (p * size) bytes a b → length bytes ≡ size → p * size + size ≤ a.size → IsHeld b.disk size p bytes
written_held a b size p bytes world goes wrote whole fits held is =
    let was = told_value a.disk (sym goes.disk_told ∙ ap is_some is) in
    let same : repl was.0 (p * size) bytes ≡ held = same_Some (repl was.0 (p * size) bytes) held (sym (wrote was.0 was.1) ∙ is) in
    let long : length was.0 ≡ a.size = world.whole was.0 (world.held_may_stay was.0 was.1) in
    sym (part-repl was.0 (p * size) bytes (omega (arith, whole, fits, long)))
    ∙ ap (λ (l : List ℕ). part l (p * size) (length bytes)) same
    ∙ ap (part held (p * size)) whole

-- A disk that tells nothing holds any bytes.
pub untold_held : (size p : ℕ) (bytes : List ℕ) → IsHeld None size p bytes
untold_held size p bytes held is = absurd (cc)

-- the bytes have the size of the group's pages
pub whole_at : (size index : ℕ) (gs : List Frames) (bytes : List ℕ) (o : Option Frames) → slice_get gs index ≡ o → index < length gs → AreOfSize size gs → length bytes ≡ size
    → IfSome o (λ (f : Frames). length bytes ≡ f.page_size)
whole_at size index gs bytes None is lt sizes whole = tt
whole_at size index gs bytes (Some f) is lt sizes whole = whole ∙ sym (at_index (λ (h : Frames). h.page_size ≡ size) gs index f is lt sizes)
