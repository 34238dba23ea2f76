use Rattle.std.proofs.Common.{◌≡◌, ◌+◌, ◌∙◌, List, ℕ, drop, take, length, subst, ap, arith}
use Rattle.std.proofs.lemmas.List.{take_rest}
use Rattle.ex_base.specs.Bytes.{IsBytes}
use Rattle.op_log.specs.Kinds.{form_len}
use Rattle.op_log.specs.Decoding.{BeginsForm, NoForm}
use Rattle.page_entries.specs.Said.{Says, SaysNothing}
use Rattle.op_log.proofs.EntryLists.{behind_number, entry_long, says_none, entry_read}
use Rattle.op_log.proofs.entries.entry_at.Goals as goal

pub returns-then-bytes-head : goal.returns-then-bytes-head
returns-then-bytes-head c entry rest fits is = omega (arith, entry_long c.args.kind c.args.bytes.now entry rest is, c.if-bytes-head.true, c.form_len-head.ensures)

pub returns-in_default : goal.returns-in_default
returns-in_default c entry rest fits is =
    let b = c.args.bytes.now in
    let none : NoForm c.args.kind (drop 4 b) = subst (NoForm c.args.kind) (take_rest b 4) c.in_default.ensures in
    none entry.form _ fits.form (behind_number c.args.kind b entry rest is)

pub returns-in_default-fields_len : goal.returns-in_default-fields_len
returns-in_default-fields_len c =
    let b = c.args.bytes.now in
    let size = c.args.geometry.now.page_size in
    let form : BeginsForm c.args.kind (drop 4 b) c.in-Some.form = subst (λ (l : List ℕ). BeginsForm c.args.kind l c.in-Some.form) (take_rest b 4) c.in-Some.ensures in
    let none : SaysNothing size c.in-Some.form (drop (4 + form_len c.args.kind) b) =
    subst (SaysNothing size c.in-Some.form) (take_rest b (4 + form_len c.args.kind)) (rw c.form_len-head.ensures at c.in_default-fields_len.ensures) in
    says_none size c.args.kind b c.in-Some.form form none

pub returns : goal.returns
returns c =
    let b = c.args.bytes.now in
    let size = c.args.geometry.now.page_size in
    let n = c.in-Some-fields_len.len in
    let bytes : IsBytes b = λ i. omega (arith, c.type_inv.bytes i) in
    let form : BeginsForm c.args.kind (drop 4 b) c.in-Some.form = subst (λ (l : List ℕ). BeginsForm c.args.kind l c.in-Some.form) (take_rest b 4) c.in-Some.ensures in
    let says : Says size c.in-Some.form (drop (4 + form_len c.args.kind) b) n =
    subst (λ (l : List ℕ). Says size c.in-Some.form l n) (take_rest b (4 + form_len c.args.kind)) (rw c.form_len-head.ensures at c.in-Some-fields_len.ensures) in
    let are : c.in_ok-of.field-0 ≡ take n (drop (4 + form_len c.args.kind) b) =
    (rw c.form_len-head.ensures at c.in_ok-of.ensures) ∙ ap (take n) (take_rest b (4 + form_len c.args.kind)) in
    entry_read size c.args.kind b c.get_u32.result n c.in-Some.form c.in_ok-of.field-0 bytes (omega (arith, c.if-bytes-head.false, c.form_len-head.ensures)) (omega arith) c.get_u32.ensures form says are
