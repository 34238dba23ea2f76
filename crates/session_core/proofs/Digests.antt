-- The digest of all bytes of a version.
use Rattle.std.proofs.Common.{◌≡◌, ◌∙◌, ℕ, List, length, take, ap, arith}
use Rattle.std.proofs.lemmas.List.{take_all}
use Rattle.sha2.specs.Sha256.{sha256}

-- the digest of as many bytes as the version has is that of the version
pub of_all : (hash bytes : List ℕ) (size : ℕ) → length bytes ≡ size → hash ≡ sha256 (take size bytes) → hash ≡ sha256 bytes
of_all hash bytes size long is = is ∙ ap sha256 (take_all size bytes (omega (arith, long)))
