-- The bytes that a command gives.
use Rattle.std.proofs.Common.{◌≡◌, ◌≤◌, length, true}
use Rattle.std.specs.Prelude.{nat_le}
use Rattle.std.proofs.lemmas.Bool.{and_parts, leb-true}
use Rattle.table_model.specs.Words.{is_data, data_count, data_most}
use Rattle.table_model.specs.Requests.{Data, ByWord, ByBytes, given_count, is_given}

-- they are as many at most as one line may give
pub given_few : (given : Data) → is_given given ≡ true → given_count given ≤ data_most
given_few (ByWord word) is = leb-true (data_count word) data_most (and_parts (is_data word) (nat_le (data_count word) data_most) is).1
given_few (ByBytes bytes) is = leb-true (length bytes) data_most is
