-- Bytes that a command gives, lent or made of its data word.
use Rattle.std.specs.Prelude.{ℕ, List}
use Rattle.data_words.specs.declared.given.GivenBytes.{GivenBytes}
use Rattle.data_words.specs.declared.given.GivenBytes.TheVariants.{Lent, Made}

abbrev pub bytes_held : GivenBytes → List ℕ
bytes_held (Lent bytes) = bytes.now
bytes_held (Made bytes) = bytes
