-- The text of each reply is one line, and a commit's is read back.
use Rattle.std.proofs.Common.{◌≡◌, ◌∙◌, ℕ, zero, suc, ◌+◌, ◌-◌, ◌<◌, ◌^◌, Bool, true, false, cond, ◌&&◌, nat_le, Option, Some, None, List, [], ◌∷◌, ◌++◌, length, take, map, refl, sym, ap, subst, arith, IsTrue, IfSome, unwrap_or}
use Rattle.std.specs.Prelude.{codes, bytes_eq}
use Rattle.std.specs.List.{slice_split, join_with_byte}
use Rattle.std.specs.Fmt.{decimal}
use Rattle.std.specs.Int.Digits.{digits_of, number_from_digits}
use Rattle.std.proofs.lemmas.Bool.{and_parts}
use Rattle.std.proofs.lemmas.Fmt.{decimal-digits_of, decimal_digit}
use Rattle.std.proofs.lemmas.Int.Digits.{number_digits_of}
use Rattle.std.proofs.lemmas.List.Splits.{slice_split_none, slice_split_at}
use Rattle.std.proofs.lemmas.Slice.Eq.{bytes_eq-Decides}
use Rattle.ex_base.specs.declared.Area.{Area}
use Rattle.ex_base.specs.declared.Area.TheVariants.{Page, Segment}
use Rattle.ex_base.specs.declared.Geometry.{Geometry}
use Rattle.ex_base.specs.declared.Oid.{Oid}
use Rattle.table_model.specs.declared.table.Table.{Table}
use Rattle.table_model.specs.declared.machine.Machine.{Machine}
use Rattle.table_model.specs.declared.machine.Pick.{Pick}
use Rattle.table_model.specs.declared.reply.Refusal.{Refusal}
use Rattle.table_model.specs.declared.reply.Refusal.TheVariants as refusal
use Rattle.table_model.specs.declared.reply.Reply.{Reply}
use Rattle.table_model.specs.declared.reply.Reply.TheVariants as reply
use Rattle.table_model.specs.Words.{is_name, is_kept_name, number_of}
use Rattle.table_model.specs.Requests.{Request, is_request, is_reference, is_kept_name_if, frames_most}
use Rattle.table_model.specs.Requests as request
use Rattle.table_model.specs.Tables.{IsTable}
use Rattle.table_model.specs.Machines.{IsMachine, IsWorking, shown, size_of}
use Rattle.table_model.specs.Refusals.{refusal_of}
use Rattle.table_model.specs.Steps.{Step, answer_of, reply_to}
use Rattle.script_replies.specs.ReplyText.{area_word, oid_word, hex_words, refusal_words, reply_words}
use Rattle.script_replies.specs.Texts.{after_two}
use Rattle.talks.specs.Acking.{IsNoCommit}
use Rattle.runs.specs.Acknowledged.{commit_of, commit_of_words, is_space}
use Rattle.runs.specs.Lacking.{lacks, all_lack, each_differs, lacks_more, lacks_join, lacks_decimal, lacks_decimals, lacks_oid, lacks_oids, lacks_hex_words, lacks_kept, lacks_name, lacks_names}

-- the text of a reply without its line feed
abbrev pub line_of : Reply → List ℕ
line_of told = join_with_byte 32 (reply_words told)

-- It has no line feed.
pub record IsLine (told : Reply) : Type 0 where
  pub clear : lacks 10 (line_of told) ≡ true

of_words : (told : Reply) → all_lack 10 (reply_words told) ≡ true → IsLine told
of_words told h = record { clear = lacks_join 10 32 (reply_words told) refl h }

-- ---- words

clear_decimal : (n : ℕ) → lacks 10 (decimal n) ≡ true
clear_decimal n = lacks_decimal 10 n (omega arith)

-- a number and more words
numbered : (n : ℕ) (words : List (List ℕ)) → all_lack 10 words ≡ true → all_lack 10 (decimal n ∷ words) ≡ true
numbered n words rest = lacks_more 10 (decimal n) words (clear_decimal n) rest

one_number : (n : ℕ) → all_lack 10 (decimal n ∷ []) ≡ true
one_number n = numbered n [] refl

one_word : (word : List ℕ) → lacks 10 word ≡ true → all_lack 10 (word ∷ []) ≡ true
one_word word h = lacks_more 10 word [] h refl

clear_area : (area : Area) → lacks 10 (area_word area) ≡ true
clear_area Page = refl
clear_area Segment = refl

clear_refusal : (why : Refusal) → all_lack 10 (refusal_words why) ≡ true
clear_refusal refusal.LineLong = refl
clear_refusal refusal.Syntax = refl
clear_refusal refusal.DataLimit = refl
clear_refusal refusal.NoTxn = refl
clear_refusal refusal.TxnOpen = refl
clear_refusal refusal.NoName = refl
clear_refusal refusal.NameTaken = refl
clear_refusal refusal.NoFile = refl
clear_refusal refusal.FileExists = refl
clear_refusal refusal.FilesFull = refl
clear_refusal refusal.NoObject = refl
clear_refusal refusal.Frozen = refl
clear_refusal refusal.Current = refl
clear_refusal refusal.NotEmpty = refl
clear_refusal refusal.HasVersions = refl
clear_refusal refusal.NoScan = refl
clear_refusal refusal.NoGroup = refl
clear_refusal refusal.Range = refl
clear_refusal refusal.TooLarge = refl
clear_refusal (refusal.TooMany true) = refl
clear_refusal (refusal.TooMany false) = refl
clear_refusal refusal.IdsSpent = refl
clear_refusal (refusal.LongTxn updates touched) = numbered updates (decimal touched ∷ []) (one_number touched)
clear_refusal (refusal.Full area need free) = lacks_more 10 (area_word area) (decimal need ∷ decimal free ∷ []) (clear_area area) (numbered need (decimal free ∷ []) (one_number free))
clear_refusal (refusal.Branches derived) = one_number derived
clear_refusal (refusal.Busy client) = one_number client

pub refusal_is_line : (why : Refusal) → IsLine (reply.No why)
refusal_is_line why = of_words (reply.No why) (lacks_more 10 (codes "no") (refusal_words why) refl (clear_refusal why))

-- ---- the reply to an accepted command

working_table : (g : Geometry) (o : Option Table) (c : Table) → IsTable g c → IfSome o (IsWorking g c) → IsTable g (unwrap_or o c)
working_table g None c committed working = committed
working_table g (Some t) c committed working = working.table

-- the words of a reply that a request or a table gave
abbrev pub GivenClear : Reply → Type 0
GivenClear (reply.File name) = IsTrue (is_name name)
GivenClear (reply.Unfile name) = IsTrue (is_name name)
GivenClear (reply.Files names) = all_lack 10 names ≡ true
GivenClear (reply.Group name) = lacks 10 name ≡ true
GivenClear (reply.Scan name size) = lacks 10 name ≡ true
GivenClear (reply.Close name) = lacks 10 name ≡ true
GivenClear _ = Unit {0}

one_oid : (oid : Oid) → all_lack 10 (oid_word oid ∷ []) ≡ true
one_oid oid = lacks_more 10 (oid_word oid) [] (lacks_oid 10 oid (omega arith)) refl

pub clear_words : (told : Reply) → GivenClear told → all_lack 10 (reply_words told) ≡ true
clear_words (reply.Begin number) given = one_number number
clear_words (reply.Commit number) given = one_number number
clear_words reply.Abort given = refl
clear_words reply.Checkpoint given = refl
clear_words (reply.Log records) given = one_number records
clear_words (reply.File name) given = one_word name (lacks_name name given)
clear_words (reply.Unfile name) given = one_word name (lacks_name name given)
clear_words (reply.Files names) given = numbered (length names) names given
clear_words (reply.List oids) given = numbered (length (map oid_word oids)) (map oid_word oids) (lacks_oids 10 oids (omega arith))
clear_words (reply.Create oid) given = one_oid oid
clear_words (reply.Destroy oid) given = one_oid oid
clear_words (reply.Size size) given = one_number size
clear_words (reply.StatSmall size) given = one_number size
clear_words (reply.StatLarge size height leaves lengths) given =
    numbered size (codes "height" ∷ decimal height ∷ codes "leaves" ∷ decimal leaves ∷ map decimal lengths)
    (numbered height (codes "leaves" ∷ decimal leaves ∷ map decimal lengths) (numbered leaves (map decimal lengths) (lacks_decimals 10 lengths (omega arith))))
clear_words (reply.Digest hash) given = lacks_hex_words hash
clear_words (reply.Read bytes) given = numbered (length bytes) (hex_words bytes) (lacks_hex_words bytes)
clear_words (reply.Insert size) given = one_number size
clear_words (reply.Append size) given = one_number size
clear_words (reply.Replace size) given = one_number size
clear_words (reply.Delete size) given = one_number size
clear_words (reply.Freeze oid) given = one_oid oid
clear_words (reply.Derive oid) given = one_oid oid
clear_words (reply.Versions oids) given = numbered (length (map oid_word oids)) (map oid_word oids) (lacks_oids 10 oids (omega arith))
clear_words (reply.DropVersion oid) given = one_oid oid
clear_words (reply.Group name) given = one_word name given
clear_words (reply.Scan name size) given = lacks_more 10 name (decimal size ∷ []) given (one_number size)
clear_words (reply.Next bytes) given = numbered (length bytes) (hex_words bytes) (lacks_hex_words bytes)
clear_words (reply.Close name) given = one_word name given
clear_words (reply.Space pages of_pages segs of_segs) given =
    numbered pages (codes "of" ∷ decimal of_pages ∷ codes "segs" ∷ decimal segs ∷ codes "of" ∷ decimal of_segs ∷ [])
    (numbered of_pages (codes "segs" ∷ decimal segs ∷ codes "of" ∷ decimal of_segs ∷ []) (numbered segs (codes "of" ∷ decimal of_segs ∷ []) (one_number of_segs)))
clear_words (reply.No why) given = lacks_more 10 (codes "no") (refusal_words why) refl (clear_refusal why)

given_stat : (small : Bool) (size height leaves : ℕ) (lengths : List ℕ) → GivenClear (cond small (reply.StatSmall size) (reply.StatLarge size height leaves lengths))
given_stat true size height leaves lengths = tt
given_stat false size height leaves lengths = tt

-- A machine under its rules gives names alone, and a request of the right form does: none has a line feed.
pub given_clear : (m : Machine) (r : Request) (q : Pick) → IsMachine m → IsTrue (is_request r) → GivenClear (reply_to m r q)
given_clear m request.Begin q rules form = tt
given_clear m request.Commit q rules form = tt
given_clear m request.Abort q rules form = tt
given_clear m request.Checkpoint q rules form = tt
given_clear m request.Log q rules form = tt
given_clear m request.Files q rules form = lacks_names (shown m).files (working_table m.geometry m.working m.committed rules.committed rules.working).names
given_clear m request.Space q rules form = tt
given_clear m (request.File name) q rules form = form
given_clear m (request.Unfile name) q rules form = form
given_clear m (request.ListFile name) q rules form = tt
given_clear m (request.Create file bind) q rules form = tt
given_clear m (request.Destroy x) q rules form = tt
given_clear m (request.Size x) q rules form = tt
given_clear m (request.Stat x) q rules form = given_stat q.small (size_of m x) q.height (length q.leaves) (take 16 q.leaves)
given_clear m (request.Digest x) q rules form = tt
given_clear m (request.Versions x) q rules form = tt
given_clear m (request.DropVersion x) q rules form = tt
given_clear m (request.Read x pos len) q rules form = tt
given_clear m (request.Insert x pos given) q rules form = tt
given_clear m (request.Append x given) q rules form = tt
given_clear m (request.Replace x pos given) q rules form = tt
given_clear m (request.Delete x pos len) q rules form = tt
given_clear m (request.Freeze x bind) q rules form = tt
given_clear m (request.Derive x bind) q rules form = tt
given_clear m (request.Group name frames mru) q rules form =
    lacks_kept name (and_parts (is_kept_name name) (nat_le 1 frames) ((and_parts (is_kept_name name && nat_le 1 frames) (nat_le frames frames_most) form).0)).0
given_clear m (request.Scan x name group) q rules form =
    lacks_kept name (and_parts (is_reference x) (is_kept_name name) ((and_parts (is_reference x && is_kept_name name) (is_kept_name_if group) form).0)).1
given_clear m (request.Next name len) q rules form = tt
given_clear m (request.Close name) q rules form = lacks_kept name form

by_refusal : (o : Option Refusal) (told : Reply) → IsLine told → IsLine (answer_of o told)
by_refusal None told line = line
by_refusal (Some why) told line = refusal_is_line why

-- The reply of a step of a machine under its rules is one line.
pub reply_is_line : {m : Machine} {r : Request} {q : Pick} {told : Reply} {after : Machine} → IsMachine m → IsTrue (is_request r) → Step m r q told after → IsLine told
reply_is_line {m} {r} {q} {told} {after} rules form step =
    subst IsLine (sym step.reply) (by_refusal (refusal_of m r q) (reply_to m r q) (of_words (reply_to m r q) (clear_words (reply_to m r q) (given_clear m r q rules form))))

-- ---- what is read of a line

-- the parts of a line between its spaces, where the first one or two of its words have none
first_part : (a : List ℕ) (words : List (List ℕ)) → lacks 32 a ≡ true → (parts : List (List ℕ)) × (slice_split is_space (join_with_byte 32 (a ∷ words)) ≡ a ∷ parts)
first_part a [] clear = ([], slice_split_none is_space a (each_differs 32 a clear))
first_part a (b ∷ words) clear = (slice_split is_space (join_with_byte 32 (b ∷ words)), slice_split_at is_space a 32 (join_with_byte 32 (b ∷ words)) (each_differs 32 a clear) refl)

two_parts : (a b : List ℕ) (words : List (List ℕ)) → lacks 32 a ≡ true → lacks 32 b ≡ true → (parts : List (List ℕ)) × (slice_split is_space (join_with_byte 32 (a ∷ b ∷ words)) ≡ a ∷ b ∷ parts)
two_parts a b words one two =
    let rest = first_part b words two in
    (rest.0, slice_split_at is_space a 32 (join_with_byte 32 (b ∷ words)) (each_differs 32 a one) refl ∙ ap (λ (l : List (List ℕ)). a ∷ l) rest.1)

no_commit_first : (a : List ℕ) (parts : List (List ℕ)) → bytes_eq a (codes "ok") ≡ false → commit_of_words (a ∷ parts) ≡ None
no_commit_first a [] other = refl
no_commit_first a (b ∷ []) other = refl
no_commit_first a (b ∷ c ∷ []) other = rw other refl
no_commit_first a (b ∷ c ∷ d ∷ parts) other = refl

no_commit_second : (b : List ℕ) (parts : List (List ℕ)) → bytes_eq b (codes "commit") ≡ false → commit_of_words (codes "ok" ∷ b ∷ parts) ≡ None
no_commit_second b [] other = refl
no_commit_second b (c ∷ []) other = rw other refl
no_commit_second b (c ∷ d ∷ parts) other = refl

refused_line : (words : List (List ℕ)) → commit_of (join_with_byte 32 (codes "no" ∷ words)) ≡ None
refused_line words = let parts = first_part (codes "no") words refl in ap commit_of_words parts.1 ∙ no_commit_first (codes "no") parts.0 refl

other_line : (word : List ℕ) (words : List (List ℕ)) → lacks 32 word ≡ true → bytes_eq word (codes "commit") ≡ false → commit_of (join_with_byte 32 (codes "ok" ∷ word ∷ words)) ≡ None
other_line word words clear other = let parts = two_parts (codes "ok") word words refl clear in ap commit_of_words parts.1 ∙ no_commit_second word parts.0 other

-- a reply whose second word is another one than a commit's
other : (told : Reply) (word : List ℕ) → reply_words told ≡ codes "ok" ∷ word ∷ after_two (reply_words told) → lacks 32 word ≡ true → bytes_eq word (codes "commit") ≡ false
    → commit_of (line_of told) ≡ None
other told word words clear differs = ap (λ (ws : List (List ℕ)). commit_of (join_with_byte 32 ws)) words ∙ other_line word (after_two (reply_words told)) clear differs

-- No other line is read as a commit's.
pub other_is_none : (told : Reply) → IsNoCommit told → commit_of (line_of told) ≡ None
other_is_none (reply.Begin number) none = other (reply.Begin number) (codes "begin") refl refl refl
other_is_none (reply.Commit number) none = absurd (none number refl)
other_is_none reply.Abort none = other reply.Abort (codes "abort") refl refl refl
other_is_none reply.Checkpoint none = other reply.Checkpoint (codes "checkpoint") refl refl refl
other_is_none (reply.Log records) none = other (reply.Log records) (codes "log") refl refl refl
other_is_none (reply.File name) none = other (reply.File name) (codes "file") refl refl refl
other_is_none (reply.Unfile name) none = other (reply.Unfile name) (codes "unfile") refl refl refl
other_is_none (reply.Files names) none = other (reply.Files names) (codes "files") refl refl refl
other_is_none (reply.List oids) none = other (reply.List oids) (codes "list") refl refl refl
other_is_none (reply.Create oid) none = other (reply.Create oid) (codes "create") refl refl refl
other_is_none (reply.Destroy oid) none = other (reply.Destroy oid) (codes "destroy") refl refl refl
other_is_none (reply.Size size) none = other (reply.Size size) (codes "size") refl refl refl
other_is_none (reply.StatSmall size) none = other (reply.StatSmall size) (codes "stat") refl refl refl
other_is_none (reply.StatLarge size height leaves first) none = other (reply.StatLarge size height leaves first) (codes "stat") refl refl refl
other_is_none (reply.Digest hash) none = other (reply.Digest hash) (codes "digest") refl refl refl
other_is_none (reply.Read bytes) none = other (reply.Read bytes) (codes "read") refl refl refl
other_is_none (reply.Insert size) none = other (reply.Insert size) (codes "insert") refl refl refl
other_is_none (reply.Append size) none = other (reply.Append size) (codes "append") refl refl refl
other_is_none (reply.Replace size) none = other (reply.Replace size) (codes "replace") refl refl refl
other_is_none (reply.Delete size) none = other (reply.Delete size) (codes "delete") refl refl refl
other_is_none (reply.Freeze oid) none = other (reply.Freeze oid) (codes "freeze") refl refl refl
other_is_none (reply.Derive oid) none = other (reply.Derive oid) (codes "derive") refl refl refl
other_is_none (reply.Versions oids) none = other (reply.Versions oids) (codes "versions") refl refl refl
other_is_none (reply.DropVersion oid) none = other (reply.DropVersion oid) (codes "drop") refl refl refl
other_is_none (reply.Group name) none = other (reply.Group name) (codes "group") refl refl refl
other_is_none (reply.Scan name size) none = other (reply.Scan name size) (codes "scan") refl refl refl
other_is_none (reply.Next bytes) none = other (reply.Next bytes) (codes "next") refl refl refl
other_is_none (reply.Close name) none = other (reply.Close name) (codes "close") refl refl refl
other_is_none (reply.Space pages of_pages segs of_segs) none = other (reply.Space pages of_pages segs of_segs) (codes "space") refl refl refl
other_is_none (reply.No why) none = refused_line (refusal_words why)

-- ---- the number of a commit

back_down : (ds : List ℕ) → map (λ b. b - 48) (map (λ d. 48 + d) ds) ≡ ds
back_down [] = refl
back_down (d ∷ ds) = let head : (48 + d) - 48 ≡ d = omega arith in (λ i. head i ∷ back_down ds i)

-- the number that its digits write
read_back : (n : ℕ) → n < 2 ^ 64 → number_of (decimal n) ≡ n
read_back zero fits = ap number_of (decimal_digit 0 (omega arith))
read_back (suc n) fits =
    ap number_of (decimal-digits_of (suc n) (omega arith) fits) ∙ ap (number_from_digits 10) (back_down (digits_of 10 (suc n))) ∙ number_digits_of 10 (suc n) (omega arith)

pub commit_is_read : (k : ℕ) → k < 2 ^ 64 → commit_of (line_of (reply.Commit k)) ≡ Some k
commit_is_read k fits =
    let word : List ℕ = decimal k in
    let clear : lacks 32 word ≡ true = lacks_decimal 32 k (omega arith) in
    let last : slice_split is_space word ≡ word ∷ [] = slice_split_none is_space word (each_differs 32 word clear) in
    let parts : slice_split is_space (line_of (reply.Commit k)) ≡ codes "ok" ∷ codes "commit" ∷ word ∷ [] =
    slice_split_at is_space (codes "ok") 32 (codes "commit" ++ 32 ∷ word) (each_differs 32 (codes "ok") refl) refl
    ∙ ap (λ (l : List (List ℕ)). codes "ok" ∷ l) (slice_split_at is_space (codes "commit") 32 word (each_differs 32 (codes "commit") refl) refl)
    ∙ ap (λ (l : List (List ℕ)). codes "ok" ∷ codes "commit" ∷ l) last in
    let number : number_of word ≡ k = read_back k fits in
    let test : bytes_eq word (decimal (number_of word)) ≡ true = (bytes_eq-Decides word (decimal (number_of word))).1 (ap decimal (sym number)) in
    ap commit_of_words parts ∙ ap (λ (b : Bool). cond b (Some (number_of word)) None) test ∙ ap Some number
