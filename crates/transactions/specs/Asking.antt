-- What a line asks of a version's bytes, before its data is decoded.
use Rattle.std.specs.Prelude.{◌≡◌, ◌≤◌, ℕ, []}
use Rattle.table_model.specs.Words.{data_most}
use Rattle.table_model.specs.Requests.{Data, ByBytes, given_bytes, given_count, given_of}
use Rattle.versions.specs.Versions.{Change, Inserts, Appends, Replaces, Deletes, count_of}
use Rattle.transactions.specs.declared.asked.Asked.{Asked}
use Rattle.transactions.specs.declared.asked.Asked.TheVariants.{Insert, Append, Replace, Delete}

-- the change, with the bytes that it is given
abbrev pub asked_change : Asked → Change
asked_change (Insert pos given count) = Inserts pos (given_bytes (given_of given))
asked_change (Append given count) = Appends (given_bytes (given_of given))
asked_change (Replace pos given count) = Replaces pos (given_bytes (given_of given))
asked_change (Delete pos len) = Deletes pos len

-- how many bytes it says that it names
abbrev pub asked_count : Asked → ℕ
asked_count (Insert pos given count) = count
asked_count (Append given count) = count
asked_count (Replace pos given count) = count
asked_count (Delete pos len) = len

-- what gives its bytes; none, where it puts none
abbrev pub asked_given : Asked → Data
asked_given (Insert pos given count) = given_of given
asked_given (Append given count) = given_of given
asked_given (Replace pos given count) = given_of given
asked_given (Delete pos len) = ByBytes []

-- The count is that of the bytes that the change names, and they are as many at most as one line may give.
pub record CountsItsBytes (asked : Asked) : Type 0 where
  pub counted : asked_count asked ≡ count_of (asked_change asked)
  pub few : given_count (asked_given asked) ≤ data_most
