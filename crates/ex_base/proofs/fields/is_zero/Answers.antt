-- Bytes joined by `or` are zero exactly if each is.
use Rattle.std.proofs.Common.{ℕ, ◌≡◌, ◌↔◌, ◌+◌, ◌<◌, List, length, take, sym, ◌∙◌, subst, arith, slice_index_or}
use Rattle.std.proofs.lemmas.Bool.{eq-eqb, eqb-true}
use Rattle.std.specs.Prelude.{bit_or, slice_index}
use Rattle.std.specs.Int.Bits.{or_zero_l}
use Rattle.std.proofs.lemmas.List.{length-take, get_or-take, take_all}
use Rattle.std.proofs.lemmas.List.Elements.{All-more}
use Rattle.std.proofs.lemmas.Nat.{le_or_l, le_or_r}
use Rattle.ex_base.specs.Fields.{AreZero}
use Rattle.ex_base.proofs.fields.is_zero.Goals as goal

both_zero : (a b : ℕ) → bit_or a b ≡ 0 → (a ≡ 0) × (b ≡ 0)
both_zero a b none = (omega (arith, none, le_or_l a b), omega (arith, none, le_or_r a b))

joined_zero : (a b : ℕ) → a ≡ 0 → b ≡ 0 → bit_or a b ≡ 0
joined_zero a b is also = rw (is, also) (or_zero_l 0)

-- the bytes before one and that one
less : (bytes : List ℕ) (i : ℕ) → i < length bytes → AreZero (take (i + 1) bytes) → AreZero (take i bytes) × (slice_index bytes i ≡ 0)
less bytes i inside zero =
    let at : (k d : ℕ) → k < i + 1 → slice_index_or bytes k d ≡ 0 = λ k d lt. sym (get_or-take (i + 1) bytes k d lt) ∙ zero k d (omega (arith, length-take (i + 1) bytes)) in
    (λ k d lt. let below : k < i = omega (arith, length-take i bytes) in get_or-take i bytes k d below ∙ at k d (omega arith), at i 0 (omega arith))

pub loop-byte-preserved : goal.loop-byte-preserved
loop-byte-preserved c =
    let bytes = c.args.bytes.now in
    let i = c.loop-byte.byte-index in
    let b = slice_index bytes i in (
      λ none.
          let parts = both_zero c.loop-byte.joined b none in
          All-more (λ x. x ≡ 0) bytes i 0 c.loop-byte-test.true (c.loop-byte.invariant.0 parts.0) parts.1,
      λ zero.
          let parts = less bytes i c.loop-byte-test.true zero in
          joined_zero c.loop-byte.joined b (c.loop-byte.invariant.1 parts.0) parts.1,
    )

pub returns : goal.returns
returns c =
    let whole = take_all c.loop-byte.byte-index c.args.bytes.now c.loop-byte-test.false in
    let known = subst (λ (seen : List ℕ). (c.loop-byte.joined ≡ 0) ↔ AreZero seen) whole c.loop-byte.invariant in
    (λ says. known.0 (eqb-true c.loop-byte.joined 0 says), λ zero. eq-eqb c.loop-byte.joined 0 (known.1 zero))
