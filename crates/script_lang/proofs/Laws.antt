-- Each line has one reading: what is said is what the grammar spells, and nothing else.
use Rattle.std.proofs.Common.{◌≡◌, ℕ, List, [], ◌∷◌, Bool, false, true, Option, Some, None, cond, ap, sym, subst, ◌∙◌, refl, inl, inr, true≢false}
use Rattle.std.specs.Prelude.{bytes_eq, nat_le, ◌⊎◌}
use Rattle.std.proofs.lemmas.Bool.{and_from}
use lib.Pointwise.{pointwise}
use Rattle.table_model.specs.declared.reply.Refusal.{Refusal}
use Rattle.table_model.specs.declared.reply.Refusal.TheVariants as refusal
use Rattle.table_model.specs.Words.{data_most}
use Rattle.table_model.specs.Requests.{Request, is_request, is_spelled, binds_name, gives_word}
use Rattle.script_lang.specs.Forms.{◌>>=◌}
use Rattle.script_lang.specs.Grammar.{Slot, Key, fits, row, spells, within}
use Rattle.script_lang.specs.Reading.{Reading, Silent, Asks, Fails, Says, is_comment, is_silent}
use Rattle.script_lang.specs.Rows.{LineRow, rows, row_in, row_of, Values, nothing, read, asked}
use Rattle.script_lang.proofs.Slots.{and_first, and_second, same_bytes, equal_bytes, Gives, bind_gives, given}
use Rattle.script_lang.proofs.RowReads.{Fits, fill, fill_read, Spelled, read_spells}
use Rattle.script_lang.proofs.Keeps.{slot_kept, fits_kept, slot_spelled, fits_spelled, all_kept}
use Rattle.script_lang.proofs.Told.{told, told_row, Keeping, Meant, Sound, AllSound, all_sound}

abbrev tail : List (List ℕ) → List (List ℕ)
tail [] = []
tail (w ∷ ws) = ws

-- the command that words say
abbrev pub heard : List (List ℕ) → Option Request
heard [] = None
heard (w ∷ ws) = row_of w >>= (λ line. read line.2 ws nothing >>= (λ v. Some (asked line.0 v v.bytes)))

-- ---- what is spelled is heard

told_heard : (slots : List Slot) (words : List (List ℕ)) (r : Request) → Fits slots words → told slots ≡ Some r → heard words ≡ Some r
told_heard [] words r f e = cc
told_heard (s ∷ slots) [] r f e = absurd (true≢false (sym f))
told_heard (Key key ∷ slots) (w ∷ ws) r f e = ap (λ k. heard (k ∷ ws)) (sym (same_bytes key w (and_first _ _ f))) ∙ go (row_of key) e
  where
    go : (o : Option LineRow) → (o >>= (λ line. fill line.2 slots nothing >>= (λ v. Some (asked line.0 v v.bytes)))) ≡ Some r
        → (o >>= (λ line. read line.2 ws nothing >>= (λ v. Some (asked line.0 v v.bytes)))) ≡ Some r
    go None k = cc
    go (Some line) k = values (fill line.2 slots nothing) refl k
      where
        values : (o : Option Values) → fill line.2 slots nothing ≡ o → (o >>= (λ v. Some (asked line.0 v v.bytes))) ≡ Some r
            → (read line.2 ws nothing >>= (λ v. Some (asked line.0 v v.bytes))) ≡ Some r
        values None h l = cc
        values (Some v) h l = ap (λ o. o >>= (λ v. Some (asked line.0 v v.bytes))) (fill_read line.2 slots ws nothing v (and_second _ _ f) h) ∙ l
told_heard (_ ∷ slots) (w ∷ ws) r f e = cc

pub spelled_heard : (words : List (List ℕ)) (r : Request) → spells words r ≡ true → heard words ≡ Some r
spelled_heard words r h = told_heard (row r) words r h (told_row r words h)

-- ---- what is heard is spelled

found : (w : List ℕ) (lines : List LineRow) → AllSound lines → Gives (row_in lines w) (λ line. (bytes_eq w line.1 ≡ true) × Sound line)
found w [] all = tt
found w (l ∷ lines) all = go (bytes_eq w l.1) refl (found w lines all.1)
  where
    go : (b : Bool) → bytes_eq w l.1 ≡ b → Gives (row_in lines w) (λ line. (bytes_eq w line.1 ≡ true) × Sound line)
        → Gives (cond b (Some l) (row_in lines w)) (λ line. (bytes_eq w line.1 ≡ true) × Sound line)
    go true e others = (e, all.0)
    go false e others = others

-- the row that a word begins
pub first_word : (w : List ℕ) (line : LineRow) → row_of w ≡ Some line → (bytes_eq w line.1 ≡ true) × Sound line
first_word w line e = given (row_of w) (λ line. (bytes_eq w line.1 ≡ true) × Sound line) line (found w rows all_sound) e

-- What a row reads is what its command is spelled as.
row_meant : (w : List ℕ) (ws : List (List ℕ)) (line : LineRow) (v : Values) → row_of w ≡ Some line → read line.2 ws nothing ≡ Some v → Spelled ws (Meant line) v
row_meant w ws line v is reads =
    given (read line.2 ws nothing) (Spelled ws (Meant line)) v (read_spells line.2 ws nothing (Meant line) (first_word w line is).1.1) reads

pub read_spelled : (w : List ℕ) (ws : List (List ℕ)) (line : LineRow) (v : Values) → row_of w ≡ Some line → read line.2 ws nothing ≡ Some v
    → (spells (w ∷ ws) (asked line.0 v v.bytes) ≡ true) × (within (asked line.0 v v.bytes) ≡ nat_le v.bytes data_most)
read_spelled w ws line v is reads = go (row_meant w ws line v is reads)
  where
    go : Spelled ws (Meant line) v → (spells (w ∷ ws) (asked line.0 v v.bytes) ≡ true) × (within (asked line.0 v v.bytes) ≡ nat_le v.bytes data_most)
    go (slots, f, meant) =
        let key : line.1 ≡ w = sym (same_bytes w line.1 (first_word w line is).0) in
        (ap (λ l. pointwise fits l (w ∷ ws)) meant.0 ∙ and_from _ _ (ap (λ k. bytes_eq k w) key ∙ equal_bytes w) f, meant.1)

-- What holds of what each row reads holds of the command.
each_heard : (w : List ℕ) (ws : List (List ℕ)) (P : Request → Type 0)
    → ((line : LineRow) (v : Values) → row_of w ≡ Some line → read line.2 ws nothing ≡ Some v → P (asked line.0 v v.bytes)) → Gives (heard (w ∷ ws)) P
each_heard w ws P h =
    bind_gives (row_of w) (λ line. read line.2 ws nothing >>= (λ v. Some (asked line.0 v v.bytes))) P (λ line is.
    bind_gives (read line.2 ws nothing) (λ v. Some (asked line.0 v v.bytes)) P (λ v reads. h line v is reads))

-- Words that spell a command aren't silent, and it keeps the rules of commands.
abbrev Heard : List (List ℕ) → Request → Type 0
Heard words r = (is_silent words ≡ false) × ((slots : List Slot) × Fits slots (tail words) × Keeping slots r)

-- ---- words that spell a command

-- what a command says, with its limit
abbrev pub limited : Request → Reading
limited r = cond (within r) (Asks r) (Fails refusal.DataLimit)

abbrev or_else : {A : Type 0} → A → Option A → A
or_else d None = d
or_else d (Some x) = x

one_request : (words : List (List ℕ)) (r s : Request) → spells words r ≡ true → spells words s ≡ true → r ≡ s
one_request words r s h k = ap (or_else r) (sym (spelled_heard words r h) ∙ spelled_heard words s k)

heard_keeps : (words : List (List ℕ)) (r : Request) → heard words ≡ Some r → Heard words r
heard_keeps [] r e = cc
heard_keeps (w ∷ ws) r e = given (heard (w ∷ ws)) (Heard (w ∷ ws)) r (each_heard w ws (Heard (w ∷ ws)) each) e
  where
    each : (line : LineRow) (v : Values) → row_of w ≡ Some line → read line.2 ws nothing ≡ Some v → Heard (w ∷ ws) (asked line.0 v v.bytes)
    each line v is reads = go (row_meant w ws line v is reads)
      where
        go : Spelled ws (Meant line) v → Heard (w ∷ ws) (asked line.0 v v.bytes)
        go (slots, f, meant) =
            let first = first_word w line is in
            (ap is_comment (same_bytes w line.1 first.0) ∙ first.1.0, (slots, f, meant.2))

-- They aren't silent.
pub spelled_loud : (words : List (List ℕ)) (r : Request) → spells words r ≡ true → is_silent words ≡ false
spelled_loud words r h = (heard_keeps words r (spelled_heard words r h)).0

-- The command binds a name and gives a data word, its names are spelled, and it keeps the forms and limits of commands.
pub spelled_keeps : (words : List (List ℕ)) (r : Request) → spells words r ≡ true
    → (binds_name r ≡ true) × (gives_word r ≡ true) × (is_spelled r ≡ true) × (within r ≡ true → is_request r ≡ true)
spelled_keeps words r h = go (heard_keeps words r (spelled_heard words r h)).1
  where
    go : ((slots : List Slot) × Fits slots (tail words) × Keeping slots r) → (binds_name r ≡ true) × (gives_word r ≡ true) × (is_spelled r ≡ true) × (within r ≡ true → is_request r ≡ true)
    go (slots, f, (binds, gives, spelled, kept)) =
        (binds, gives, spelled (all_kept slot_spelled fits_spelled slots (tail words) f), kept (all_kept slot_kept fits_kept slots (tail words) f))

pub spelled_one : (words : List (List ℕ)) (r : Request) (y : Reading) → spells words r ≡ true → Says words y → y ≡ limited r
spelled_one words r Silent h says = absurd (true≢false (sym says ∙ spelled_loud words r h))
spelled_one words r (Asks s) h says = sym (ap (λ b. cond b (Asks s) (Fails refusal.DataLimit)) says.1) ∙ ap limited (one_request words s r says.0 h)
spelled_one words r (Fails refusal.DataLimit) h (s, is, limit) = sym (ap (λ b. cond b (Asks s) (Fails refusal.DataLimit)) limit) ∙ ap limited (one_request words s r is h)
spelled_one words r (Fails refusal.Syntax) h says = absurd (true≢false (sym h ∙ says.1 r))
spelled_one words r (Fails _) h says = absurd says

-- ---- one reading

pub one_reading : (words : List (List ℕ)) (x y : Reading) → Says words x → Says words y → x ≡ y
one_reading words (Asks r) y says tells = spelled_one words r (Asks r) says.0 says ∙ sym (spelled_one words r y says.0 tells)
one_reading words (Fails refusal.DataLimit) y says tells =
    spelled_one words says.0 (Fails refusal.DataLimit) says.1 says ∙ sym (spelled_one words says.0 y says.1 tells)
one_reading words Silent Silent says tells = refl
one_reading words Silent (Asks r) says tells = absurd (true≢false (sym says ∙ spelled_loud words r tells.0))
one_reading words Silent (Fails refusal.DataLimit) says tells = absurd (true≢false (sym says ∙ spelled_loud words tells.0 tells.1))
one_reading words Silent (Fails refusal.Syntax) says tells = absurd (true≢false (sym says ∙ tells.0))
one_reading words Silent (Fails _) says tells = absurd tells
one_reading words (Fails refusal.Syntax) Silent says tells = absurd (true≢false (sym tells ∙ says.0))
one_reading words (Fails refusal.Syntax) (Asks r) says tells = absurd (true≢false (sym tells.0 ∙ says.1 r))
one_reading words (Fails refusal.Syntax) (Fails refusal.DataLimit) says tells = absurd (true≢false (sym tells.1 ∙ says.1 tells.0))
one_reading words (Fails refusal.Syntax) (Fails refusal.Syntax) says tells = refl
one_reading words (Fails refusal.Syntax) (Fails _) says tells = absurd tells
one_reading words (Fails _) y says tells = absurd says

-- Words that are the same say the same.
pub same_words : (words others : List (List ℕ)) (x : Reading) → words ≡ others → Says others x → Says words x
same_words words others x e says = let P : List (List ℕ) → Type 0 = λ l. Says l x in subst P (sym e) says

-- Only two refusals come of reading.
pub refused : (words : List (List ℕ)) (why : Refusal) → Says words (Fails why) → (why ≡ refusal.Syntax) ⊎ (why ≡ refusal.DataLimit)
refused words refusal.Syntax says = inl refl
refused words refusal.DataLimit says = inr refl
refused words _ says = absurd says

-- ---- words that spell none

unheard : (words : List (List ℕ)) → is_silent words ≡ false → heard words ≡ None → Says words (Fails refusal.Syntax)
unheard words loud none = (loud, λ r. go r (spells words r) refl)
  where
    go : (r : Request) (b : Bool) → spells words r ≡ b → b ≡ false
    go r true h = let bad : None ≡ Some r = sym none ∙ spelled_heard words r h in cc
    go r false h = refl

pub unknown_says : (w : List ℕ) (ws : List (List ℕ)) → is_comment w ≡ false → row_of w ≡ None → Says (w ∷ ws) (Fails refusal.Syntax)
unknown_says w ws loud none = unheard (w ∷ ws) loud (ap (λ o. o >>= (λ line. read line.2 ws nothing >>= (λ v. Some (asked line.0 v v.bytes)))) none)

pub unread_says : (w : List ℕ) (ws : List (List ℕ)) (line : LineRow) → is_comment w ≡ false → row_of w ≡ Some line → read line.2 ws nothing ≡ None → Says (w ∷ ws) (Fails refusal.Syntax)
unread_says w ws line loud is none =
    unheard (w ∷ ws) loud (
    ap (λ o. o >>= (λ line. read line.2 ws nothing >>= (λ v. Some (asked line.0 v v.bytes)))) is
    ∙ ap (λ o. o >>= (λ v. Some (asked line.0 v v.bytes))) none
    )
