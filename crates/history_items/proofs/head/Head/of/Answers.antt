use Rattle.std.proofs.Common.{◌≡◌, sym, subst, arith}
use Rattle.ex_base.specs.Bytes.{IsBytes}
use Rattle.history_model.specs.Stream.{HasHead}
use Rattle.history_items.specs.Heads.{stream_head}
use Rattle.history_items.proofs.Heads.{head_found, head_read, magic_of}
use Rattle.history_items.proofs.head.Head.of.Goals as goal

pub returns-then-not-has_magic-clause-none : goal.returns-then-not-has_magic-clause-none
returns-then-not-has_magic-clause-none c = λ h has.
    let magic = c.has_magic.ensures.1 (magic_of c.args.bytes.now h c.requires has) in
    absurd cc

pub returns-clause-found : goal.returns-clause-found
returns-clause-found c =
    let bytes : IsBytes c.args.bytes.now = λ i. omega (arith, c.type_inv.bytes i) in
    subst (HasHead c.args.bytes.now) (sym (let same : stream_head (record { page_size = c.get_u32.result; seg_len = c.get_u32-2.result; fan = c.get_u32-3.result; next_unique = c.get_u64.result; last = c.get_u64-2.result; files = c.get_u32-4.result; leaves = c.get_u32-5.result; nodes = c.get_u32-6.result; pages = c.get_u32-7.result }) ≡ head_read c.args.bytes.now = cc in same)) (head_found c.args.bytes.now bytes c.requires (c.has_magic.ensures.0 (c.if-not-has_magic.false)))
