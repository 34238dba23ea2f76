use Rattle.std.proofs.Common.{◌≡◌, ℕ, List, sym, ap, ◌∙◌, slice_index, false}
use Rattle.table_model.specs.Words.{is_hex}
use Rattle.data_words.proofs.HexParts.{hex_bytes-other}
use Rattle.data_words.proofs.data.hex_byte.Goals as goal

pub returns-then-not-is_hex : goal.returns-then-not-is_hex
returns-then-not-is_hex c =
    let other : is_hex c.args.word.now ≡ false = sym c.is_hex.ensures ∙ c.if-not-is_hex.true in
    sym (ap (λ (bytes : List ℕ). slice_index bytes 0) (hex_bytes-other c.args.word.now other))
