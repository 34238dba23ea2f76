use Rattle.std.proofs.Common.{◌≡◌, List, ℕ, [], ◌∷◌, ◌+◌, ◌++◌, length, drop, refl, ap, sym, ◌∙◌, arith, append_assoc}
use Rattle.ex_base.specs.Fields.{eight_bytes}
use Rattle.ex_base.specs.Bytes.{written}
use Rattle.ex_base.proofs.FieldLaws.{eight_is}
use Rattle.history_model.specs.Stream.{content_item, number_or_none, state_code, version_item}
use Rattle.history_items.specs.Reads.{version_of}
use Rattle.history_items.proofs.VersionItems.{length-version}
use Rattle.history_items.proofs.WrittenItems.{put_first, put_next}
use Rattle.history_items.proofs.versions.write_version.Goals as goal

pub put_u64-requires : goal.put_u64-requires
put_u64-requires c = omega (arith, c.requires.room, length-version (version_of c.args.version.now))

pub put_u8-requires : goal.put_u8-requires
put_u8-requires c = omega (arith, c.requires.room, length-version (version_of c.args.version.now))

pub put_u64-requires-2 : goal.put_u64-requires-2
put_u64-requires-2 c = omega (arith, c.requires.room, length-version (version_of c.args.version.now))

pub write_content-requires-clause-room : goal.write_content-requires-clause-room
write_content-requires-clause-room c = omega (arith, c.requires.room, length-version (version_of c.args.version.now))

pub returns-clause-written : goal.returns-clause-written
returns-clause-written c =
    let was = c.args.out.now in
    let v = version_of c.args.version.now in
    let unique = put_first was c.put_u64.new.bytes (eight_bytes v.unique) 8 c.put_u64.ensures (eight_is.len v.unique) in
    let state = put_next was _ c.put_u8.new.bytes (state_code v.frozen ∷ []) _ 8 1 9 unique (c.put_u8.ensures ∙ ap (λ (k : ℕ). written c.put_u64.new.bytes 8 (k ∷ [])) c.state_byte.ensures) refl refl in
    let older = put_next was _ c.put_u64-2.new.bytes (eight_bytes (number_or_none v.older)) _ 9 8 17 state (c.put_u64-2.ensures ∙ ap (λ (k : ℕ). written c.put_u8.new.bytes 9 (eight_bytes k)) c.field_of.ensures) (eight_is.len (number_or_none v.older)) refl in
    let content = put_next was _ c.write_content.new.out (content_item v.content) _ 17 (length (content_item v.content)) (17 + length (content_item v.content)) older c.write_content.ensures.written refl refl in
    let joined : eight_bytes v.unique ++ (state_code v.frozen ∷ []) ++ eight_bytes (number_or_none v.older) ++ content_item v.content ≡ version_item v = simp append_assoc in
    content.is ∙ ap (λ (t : List ℕ). t ++ drop (17 + length (content_item v.content)) was) joined ∙ ap (λ (k : ℕ). version_item v ++ drop k was) (sym c.write_content.ensures.len)

pub returns-clause-len : goal.returns-clause-len
returns-clause-len c = c.write_content.ensures.len ∙ sym (length-version (version_of c.args.version.now))
