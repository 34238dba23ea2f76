-- What a line could ask for.
use Rattle.std.specs.Prelude.{ℕ, ◌^◌, Bool, true, false, ◌&&◌, nat_le, nat_lt, if◌then◌else◌, Option, Some, None, List, length}
use Rattle.table_model.specs.Requests.{Data, ByWord, ByBytes, Reference, Bound, Numbered, Request, frames_most, is_position}
use Rattle.table_model.specs.Requests as request
use Rattle.table_model.specs.declared.reply.Refusal.{Refusal}
use Rattle.table_model.specs.declared.reply.Refusal.TheVariants as refusal
use Rattle.table_model.specs.Words.{is_name, data_most}

-- the numbers of an identifier, or a bound name as a line spells it
abbrev pub is_exact : Reference → Bool
is_exact (Bound name) = is_name name
is_exact (Numbered page slot unique) = nat_lt page (2 ^ 64) && nat_lt slot (2 ^ 64) && nat_lt unique (2 ^ 64)

abbrev pub is_name_if : Option (List ℕ) → Bool
is_name_if None = true
is_name_if (Some name) = is_name name

abbrev pub is_count : ℕ → Bool
is_count n = nat_le n data_most

-- bytes as they stand; a data word is for lines
abbrev pub is_plain : Data → Bool
is_plain (ByWord word) = false
is_plain (ByBytes bytes) = is_count (length bytes)

-- The request keeps the forms and limits of a line's words, and its names are as a line spells them.
abbrev pub is_formed : Request → Bool
is_formed (request.File name) = is_name name
is_formed (request.Unfile name) = is_name name
is_formed (request.ListFile name) = is_name name
is_formed (request.Create file bind) = is_name file && is_name_if bind
is_formed (request.Destroy x) = is_exact x
is_formed (request.Size x) = is_exact x
is_formed (request.Stat x) = is_exact x
is_formed (request.Digest x) = is_exact x
is_formed (request.Versions x) = is_exact x
is_formed (request.DropVersion x) = is_exact x
is_formed (request.Read x pos len) = is_exact x && is_position pos && is_count len
is_formed (request.Insert x pos given) = is_exact x && is_position pos && is_plain given
is_formed (request.Append x given) = is_exact x && is_plain given
is_formed (request.Replace x pos given) = is_exact x && is_position pos && is_plain given
is_formed (request.Delete x pos len) = is_exact x && is_position pos && is_position len
is_formed (request.Freeze x bind) = is_exact x && is_name_if bind
is_formed (request.Derive x bind) = is_exact x && is_name_if bind
is_formed (request.Group name frames mru) = is_name name && nat_le 1 frames && nat_le frames frames_most
is_formed (request.Scan x name group) = is_exact x && is_name name && is_name_if group
is_formed (request.Next name len) = is_name name && is_count len
is_formed (request.Close name) = is_name name
is_formed _ = true

-- More bytes are given than one call may.
abbrev pub is_long : Data → Bool
is_long (ByWord word) = false
is_long (ByBytes bytes) = nat_lt data_most (length bytes)

-- More bytes are given or asked for than one call may.
abbrev pub is_over : Request → Bool
is_over (request.Read x pos len) = nat_lt data_most len
is_over (request.Next name len) = nat_lt data_most len
is_over (request.Append x given) = is_long given
is_over (request.Insert x pos given) = is_long given
is_over (request.Replace x pos given) = is_long given
is_over _ = false

-- why a request that no line could make is refused
abbrev pub unformed : Request → Refusal
unformed r = if is_over r then refusal.DataLimit else refusal.Syntax
