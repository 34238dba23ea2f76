-- The text of a reply: one line.
use Rattle.std.specs.Prelude.{ℕ, List, [], ◌∷◌, ◌++◌, length, map, codes, decimal, if◌then◌else◌}
use Rattle.std.specs.List.{join_with_byte}
use Rattle.hex.specs.Hex.{encode_lower}
use Rattle.ex_base.specs.declared.Oid.{Oid}
use Rattle.ex_base.specs.declared.Area.{Area}
use Rattle.ex_base.specs.declared.Area.TheVariants.{Page, Segment}
use Rattle.table_model.specs.declared.reply.Refusal.{Refusal}
use Rattle.table_model.specs.declared.reply.Refusal.TheVariants as refusal
use Rattle.table_model.specs.declared.reply.Reply.{Reply}
use Rattle.table_model.specs.declared.reply.Reply.TheVariants as reply

-- page.slot.unique
abbrev pub oid_word : Oid → List ℕ
oid_word oid = join_with_byte 46 (decimal oid.page.0 ∷ decimal oid.slot ∷ decimal oid.unique ∷ [])

-- bytes as lower-case hexadecimal digits; no word where there are none
abbrev pub hex_words : List ℕ → List (List ℕ)
hex_words [] = []
hex_words (b ∷ bs) = encode_lower (b ∷ bs) ∷ []

abbrev pub area_word : Area → List ℕ
area_word Page = codes "pages"
area_word Segment = codes "segs"

-- how many there are, and each
abbrev pub counted_words : List (List ℕ) → List (List ℕ)
counted_words words = decimal (length words) ∷ words

-- the number and the name of a refusal, and its values
abbrev pub refusal_words : Refusal → List (List ℕ)
refusal_words refusal.LineLong = codes "1" ∷ codes "line_long" ∷ []
refusal_words refusal.Syntax = codes "2" ∷ codes "syntax" ∷ []
refusal_words refusal.DataLimit = codes "3" ∷ codes "data_limit" ∷ []
refusal_words refusal.NoTxn = codes "4" ∷ codes "no_txn" ∷ []
refusal_words refusal.TxnOpen = codes "5" ∷ codes "txn_open" ∷ []
refusal_words refusal.NoName = codes "6" ∷ codes "no_name" ∷ []
refusal_words refusal.NameTaken = codes "7" ∷ codes "name_taken" ∷ []
refusal_words refusal.NoFile = codes "8" ∷ codes "no_file" ∷ []
refusal_words refusal.FileExists = codes "9" ∷ codes "file_exists" ∷ []
refusal_words refusal.FilesFull = codes "10" ∷ codes "files_full" ∷ []
refusal_words refusal.NoObject = codes "11" ∷ codes "no_object" ∷ []
refusal_words refusal.Frozen = codes "12" ∷ codes "frozen" ∷ []
refusal_words refusal.Current = codes "13" ∷ codes "current" ∷ []
refusal_words refusal.NotEmpty = codes "14" ∷ codes "not_empty" ∷ []
refusal_words refusal.HasVersions = codes "15" ∷ codes "has_versions" ∷ []
refusal_words refusal.NoScan = codes "16" ∷ codes "no_scan" ∷ []
refusal_words refusal.NoGroup = codes "17" ∷ codes "no_group" ∷ []
refusal_words refusal.Range = codes "18" ∷ codes "range" ∷ []
refusal_words refusal.TooLarge = codes "19" ∷ codes "too_large" ∷ []
refusal_words (refusal.TooMany scans) = codes "20" ∷ codes "too_many" ∷ (if scans then codes "scans" else codes "groups") ∷ []
refusal_words refusal.IdsSpent = codes "21" ∷ codes "ids_spent" ∷ []
refusal_words (refusal.LongTxn updates touched) = codes "22" ∷ codes "long_txn" ∷ decimal updates ∷ decimal touched ∷ []
refusal_words (refusal.Full area need free) = codes "23" ∷ codes "full" ∷ area_word area ∷ decimal need ∷ decimal free ∷ []
refusal_words (refusal.Branches derived) = codes "24" ∷ codes "branches" ∷ decimal derived ∷ []
refusal_words (refusal.Busy client) = codes "25" ∷ codes "busy" ∷ decimal client ∷ []

abbrev pub ok : List ℕ → List (List ℕ) → List (List ℕ)
ok word items = codes "ok" ∷ word ∷ items

abbrev pub reply_words : Reply → List (List ℕ)
reply_words (reply.Begin number) = ok (codes "begin") (decimal number ∷ [])
reply_words (reply.Commit number) = ok (codes "commit") (decimal number ∷ [])
reply_words reply.Abort = ok (codes "abort") []
reply_words reply.Checkpoint = ok (codes "checkpoint") []
reply_words (reply.Log records) = ok (codes "log") (decimal records ∷ [])
reply_words (reply.File name) = ok (codes "file") (name ∷ [])
reply_words (reply.Unfile name) = ok (codes "unfile") (name ∷ [])
reply_words (reply.Files names) = ok (codes "files") (counted_words names)
reply_words (reply.List oids) = ok (codes "list") (counted_words (map oid_word oids))
reply_words (reply.Create oid) = ok (codes "create") (oid_word oid ∷ [])
reply_words (reply.Destroy oid) = ok (codes "destroy") (oid_word oid ∷ [])
reply_words (reply.Size size) = ok (codes "size") (decimal size ∷ [])
reply_words (reply.StatSmall size) = ok (codes "stat") (codes "small" ∷ decimal size ∷ [])
reply_words (reply.StatLarge size height leaves first) = ok (codes "stat") (codes "large" ∷ decimal size ∷ codes "height" ∷ decimal height ∷ codes "leaves" ∷ decimal leaves ∷ map decimal first)
reply_words (reply.Digest hash) = ok (codes "digest") (hex_words hash)
reply_words (reply.Read bytes) = ok (codes "read") (decimal (length bytes) ∷ hex_words bytes)
reply_words (reply.Insert size) = ok (codes "insert") (decimal size ∷ [])
reply_words (reply.Append size) = ok (codes "append") (decimal size ∷ [])
reply_words (reply.Replace size) = ok (codes "replace") (decimal size ∷ [])
reply_words (reply.Delete size) = ok (codes "delete") (decimal size ∷ [])
reply_words (reply.Freeze oid) = ok (codes "freeze") (oid_word oid ∷ [])
reply_words (reply.Derive oid) = ok (codes "derive") (oid_word oid ∷ [])
reply_words (reply.Versions oids) = ok (codes "versions") (counted_words (map oid_word oids))
reply_words (reply.DropVersion oid) = ok (codes "drop") (oid_word oid ∷ [])
reply_words (reply.Group name) = ok (codes "group") (name ∷ [])
reply_words (reply.Scan name size) = ok (codes "scan") (name ∷ decimal size ∷ [])
reply_words (reply.Next bytes) = ok (codes "next") (decimal (length bytes) ∷ hex_words bytes)
reply_words (reply.Close name) = ok (codes "close") (name ∷ [])
reply_words (reply.Space pages of_pages segs of_segs) = ok (codes "space") (codes "pages" ∷ decimal pages ∷ codes "of" ∷ decimal of_pages ∷ codes "segs" ∷ decimal segs ∷ codes "of" ∷ decimal of_segs ∷ [])
reply_words (reply.No why) = codes "no" ∷ refusal_words why

-- the words with a space between each two, and a line feed
abbrev pub text_of : Reply → List ℕ
text_of r = join_with_byte 32 (reply_words r) ++ 10 ∷ []
