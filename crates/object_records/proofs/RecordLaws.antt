-- A body reads as a record exactly where it is the spelling of one, which is then the one that is read.
use Rattle.std.proofs.Common.{◌≡◌, ℕ, ◌+◌, ◌-◌, ◌^◌, ◌<◌, ◌≤◌, max, List, [], ◌∷◌, ◌++◌, length, take, drop, Option, refl, sym, ap, subst, ◌∙◌, arith, append_assoc, ◌⊎◌, inl, inr}
use Rattle.std.specs.Prelude.{slice_index, IsSome}
use Rattle.std.proofs.lemmas.List.{append-nil, length-append, length-drop, length-replicate, drop_all}
use Rattle.ex_base.specs.declared.names.PageNo.{PageNo}
use Rattle.ex_base.specs.declared.names.Place.{Place}
use Rattle.ex_base.specs.declared.names.Root.{Root}
use Rattle.ex_base.specs.Bytes.{bytes_at, IsBytes}
use Rattle.ex_base.specs.Fields.{two_bytes, eight_bytes, zeros, number_at, page_field, place_field, page_in, place_in}
use Rattle.ex_base.proofs.FieldLaws.{two_is, eight_is}
use Rattle.ex_base.proofs.Reading.{length-page_field}
use Rattle.ex_base.proofs.Places.{behind_more, bytes_there, number_there, number_spelled, bytes_spelled, length-bytes_at, place_there, place_spelled, place_fits, page_there, page_spelled, page_fits, length-place_field, zero_run, AreZero-as}
use Rattle.ex_base.proofs.Lists.{two_front}
use Rattle.object_records.specs.declared.State.{State}
use Rattle.object_records.specs.declared.State.TheVariants.{Current, Frozen}
use Rattle.object_records.specs.declared.Head.{Head}
use Rattle.object_records.specs.Record.{Content, Small, Large, Record, NewerFits, IsRootField, IsContent, IsRecord, form_of, state_byte, content_bytes, record_bytes, BodyOf}
use Rattle.object_records.specs.Reads.{state_read, head_on, root_on, small_on, content_read, content_on, record_on, SmallReads, LargeReads, HeadReads, RecordReads}

pub record_fields : (r : Record) → record_bytes r ≡ form_of r.content ∷ state_byte r.head.state ∷ (eight_bytes r.head.unique ++ (place_field r.head.older ++ (place_field r.head.newer ++ content_bytes r.content)))
unfolding record_bytes
record_fields r = simp append_assoc

-- ---- the fields of a body that is spelled

record Behind (body : List ℕ) (r : Record) : Type 0 where
  form : slice_index body 0 ≡ form_of r.content
  state : slice_index body 1 ≡ state_byte r.head.state
  unique : drop 2 body ≡ eight_bytes r.head.unique ++ (place_field r.head.older ++ (place_field r.head.newer ++ content_bytes r.content))
  older : drop 10 body ≡ place_field r.head.older ++ (place_field r.head.newer ++ content_bytes r.content)
  newer : drop 16 body ≡ place_field r.head.newer ++ content_bytes r.content
  content : drop 22 body ≡ content_bytes r.content
  len : length body ≡ 22 + length (content_bytes r.content)

behind : (body : List ℕ) (r : Record) → body ≡ record_bytes r → Behind body r
behind body r e =
    let whole : body ≡ form_of r.content ∷ state_byte r.head.state ∷ (eight_bytes r.head.unique ++ (place_field r.head.older ++ (place_field r.head.newer ++ content_bytes r.content))) = e ∙ record_fields r in
    let two : drop 2 body ≡ eight_bytes r.head.unique ++ (place_field r.head.older ++ (place_field r.head.newer ++ content_bytes r.content)) = ap (λ (t : List ℕ). drop 2 t) whole in
    let ten = behind_more body (eight_bytes r.head.unique) (place_field r.head.older ++ (place_field r.head.newer ++ content_bytes r.content)) 2 8 10 two (eight_is.len r.head.unique) refl in
    let sixteen = behind_more body (place_field r.head.older) (place_field r.head.newer ++ content_bytes r.content) 10 6 16 ten (length-place_field r.head.older) refl in
    let last = behind_more body (place_field r.head.newer) (content_bytes r.content) 16 6 22 sixteen (length-place_field r.head.newer) refl in
    record {
      form = ap (λ (t : List ℕ). slice_index t 0) whole;
      state = ap (λ (t : List ℕ). slice_index t 1) whole;
      unique = two;
      older = ten;
      newer = sixteen;
      content = last;
      len = omega (arith, ap length whole, length-append (eight_bytes r.head.unique) (place_field r.head.older ++ (place_field r.head.newer ++ content_bytes r.content)), length-append (place_field r.head.older) (place_field r.head.newer ++ content_bytes r.content), length-append (place_field r.head.newer) (content_bytes r.content), eight_is.len r.head.unique, length-place_field r.head.older, length-place_field r.head.newer);
    }

state_again : (b : ℕ) (state : State) → b ≡ state_byte state → state_read b ≡ state
state_again b Current e = ap state_read e
state_again b Frozen e = ap state_read e

abbrev made_head : State → ℕ → Option Place → Option Place → Head
made_head state unique older newer = record { state = state; unique = unique; older = older; newer = newer }

head_again : (body : List ℕ) (r : Record) → IsRecord r → Behind body r → head_on body ≡ r.head
unfolding head_on
head_again body r fits b =
    let state : state_read (slice_index body 1) ≡ r.head.state = state_again (slice_index body 1) r.head.state b.state in
    let unique : number_at 8 body 2 ≡ r.head.unique = number_there 8 (2 ^ 64) eight_bytes eight_is body _ 2 r.head.unique b.unique fits.unique in
    let older : place_in body 10 ≡ r.head.older = place_there r.head.older body _ 10 fits.older b.older in
    let newer : place_in body 16 ≡ r.head.newer = place_there r.head.newer body _ 16 fits.newer b.newer in
    let same : made_head (state_read (slice_index body 1)) (number_at 8 body 2) (place_in body 10) (place_in body 16) ≡ made_head r.head.state r.head.unique r.head.older r.head.newer = cc (state, unique, older, newer) in
    same

one_or_two : (b : ℕ) (state : State) → b ≡ state_byte state → (b ≡ 1) ⊎ (b ≡ 2)
one_or_two b Current e = inl e
one_or_two b Frozen e = inr e

head_reads : (body : List ℕ) (r : Record) → IsRecord r → Behind body r → 36 ≤ length body → HeadReads body
head_reads body r fits b long =
    let state : state_read (slice_index body 1) ≡ r.head.state = state_again (slice_index body 1) r.head.state b.state in
    let newer : place_in body 16 ≡ r.head.newer = place_there r.head.newer body _ 16 fits.newer b.newer in
    record {
      long = long;
      state = one_or_two (slice_index body 1) r.head.state b.state;
      newer = subst (λ (s : State). NewerFits s (place_in body 16)) (sym state) (subst (λ (p : Option Place). NewerFits r.head.state p) (sym newer) fits.newer_fits);
    }

-- what a body with this content reads as
record ContentReads (body : List ℕ) (content : Content) : Type 0 where
  same : content_read (slice_index body 0) body ≡ content
  long : 36 ≤ length body
  reads : SmallReads body ⊎ LargeReads body

small_again : (body bytes : List ℕ) → length bytes < 2 ^ 16 → slice_index body 0 ≡ 1 → drop 22 body ≡ content_bytes (Small bytes) → length body ≡ 22 + length (content_bytes (Small bytes)) → ContentReads body (Small bytes)
small_again body bytes fits form e len =
    let number : number_at 2 body 22 ≡ length bytes = number_there 2 (2 ^ 16) two_bytes two_is body _ 22 (length bytes) e fits in
    let at : drop 24 body ≡ bytes ++ zeros (12 - length bytes) = behind_more body (two_bytes (length bytes)) (bytes ++ zeros (12 - length bytes)) 22 2 24 e (two_is.len (length bytes)) refl in
    let here : bytes_at body 24 (number_at 2 body 22) ≡ bytes = ap (bytes_at body 24) number ∙ bytes_there body bytes (zeros (12 - length bytes)) 24 (length bytes) at refl in
    let rest : drop (24 + number_at 2 body 22) body ≡ zeros (12 - length bytes) = ap (λ (k : ℕ). drop (24 + k) body) number ∙ behind_more body bytes (zeros (12 - length bytes)) 24 (length bytes) (24 + length bytes) at refl refl in
    let all : length body ≡ 24 + max 12 (number_at 2 body 22) = omega (arith, len, number, length-append (two_bytes (length bytes)) (bytes ++ zeros (12 - length bytes)), two_is.len (length bytes), length-append bytes (zeros (12 - length bytes)), length-replicate {A = ℕ} (12 - length bytes) 0) in
    record {
      same = ap (λ (k : ℕ). content_read k body) form ∙ ap Small here;
      long = omega (arith, all);
      reads = inl (record { form = form; len = all; rest = AreZero-as _ (12 - length bytes) rest });
    }

abbrev made_root : ℕ → Option PageNo → ℕ → Root
made_root height page size = record { height = height; page = page; size = size }

large_again : (body : List ℕ) (root : Root) → IsRootField root → slice_index body 0 ≡ 2 → drop 22 body ≡ content_bytes (Large root) → length body ≡ 22 + length (content_bytes (Large root)) → ContentReads body (Large root)
large_again body root fits form e len =
    let apart : drop 22 body ≡ two_bytes root.height ++ (eight_bytes root.size ++ page_field root.page) = e ∙ append_assoc (two_bytes root.height) (eight_bytes root.size) (page_field root.page) in
    let at : drop 24 body ≡ eight_bytes root.size ++ page_field root.page = behind_more body (two_bytes root.height) (eight_bytes root.size ++ page_field root.page) 22 2 24 apart (two_is.len root.height) refl in
    let last : drop 32 body ≡ page_field root.page = behind_more body (eight_bytes root.size) (page_field root.page) 24 8 32 at (eight_is.len root.size) refl in
    let height : number_at 2 body 22 ≡ root.height = number_there 2 (2 ^ 16) two_bytes two_is body _ 22 root.height apart (omega (arith, fits.height)) in
    let size : number_at 8 body 24 ≡ root.size = number_there 8 (2 ^ 64) eight_bytes eight_is body _ 24 root.size at fits.size in
    let page : page_in body 32 ≡ root.page = page_there root.page body [] 32 fits.page (last ∙ sym (append-nil (page_field root.page))) in
    let same : made_root (number_at 2 body 22) (page_in body 32) (number_at 8 body 24) ≡ made_root root.height root.page root.size = cc (height, page, size) in
    let all : length body ≡ 36 = omega (arith, len, length-append (two_bytes root.height ++ eight_bytes root.size) (page_field root.page), length-append (two_bytes root.height) (eight_bytes root.size), two_is.len root.height, eight_is.len root.size, length-page_field root.page) in
    record {
      same = ap (λ (k : ℕ). content_read k body) form ∙ ap Large same;
      long = omega (arith, all);
      reads = inr (record { form = form; len = all; root = subst IsRootField (sym same) fits });
    }

content_again : (body : List ℕ) (content : Content) → IsContent content → slice_index body 0 ≡ form_of content → drop 22 body ≡ content_bytes content → length body ≡ 22 + length (content_bytes content) → ContentReads body content
content_again body (Small bytes) fits form e len = small_again body bytes fits form e len
content_again body (Large root) fits form e len = large_again body root fits form e len

abbrev made_record : Head → Content → Record
made_record head content = record { head = head; content = content }

-- what is read in a record's bytes is that record
pub record_read : (body : List ℕ) (r : Record) → BodyOf body r → record_on body ≡ r
unfolding content_on
record_read body r h =
    let b = behind body r h.spelled in
    let head : head_on body ≡ r.head = head_again body r h.fits b in
    let content : content_read (slice_index body 0) body ≡ r.content = (content_again body r.content h.fits.content b.form b.content b.len).same in
    let same : made_record (head_on body) (content_read (slice_index body 0) body) ≡ made_record r.head r.content = cc (head, content) in
    same

pub spelled_reads : (body : List ℕ) (r : Record) → BodyOf body r → RecordReads body
spelled_reads body r h =
    let b = behind body r h.spelled in
    let c = content_again body r.content h.fits.content b.form b.content b.len in
    (head_reads body r h.fits b c.long, c.reads)

-- ---- a body that reads as a record is spelled by what is read

state_back : (b : ℕ) → (b ≡ 1) ⊎ (b ≡ 2) → state_byte (state_read b) ≡ b
state_back b (inl e) = ap (λ (k : ℕ). state_byte (state_read k)) e ∙ sym e
state_back b (inr e) = ap (λ (k : ℕ). state_byte (state_read k)) e ∙ sym e

record ContentBack (body : List ℕ) (content : Content) : Type 0 where
  form : slice_index body 0 ≡ form_of content
  fits : IsContent content
  spelled : drop 22 body ≡ content_bytes content

small_back : (body : List ℕ) → IsBytes body → 36 ≤ length body → SmallReads body → ContentBack body (small_on body)
small_back body bytes long h =
    let n : ℕ = number_at 2 body 22 in
    let number : drop 22 body ≡ two_bytes (number_at 2 body 22) ++ drop 24 body = number_spelled 2 (2 ^ 16) two_bytes two_is body 22 24 bytes refl (omega arith) in
    let len : length (bytes_at body 24 (number_at 2 body 22)) ≡ number_at 2 body 22 = length-bytes_at body 24 (number_at 2 body 22) (omega (arith, h.len)) in
    let rest_len : length (drop (24 + number_at 2 body 22) body) ≡ 12 - length (bytes_at body 24 (number_at 2 body 22)) = omega (arith, length-drop (24 + number_at 2 body 22) body, h.len, len) in
    let rest : drop (24 + number_at 2 body 22) body ≡ zeros (12 - length (bytes_at body 24 (number_at 2 body 22))) = zero_run _ h.rest ∙ ap zeros rest_len in
    let both : drop 24 body ≡ bytes_at body 24 (number_at 2 body 22) ++ zeros (12 - length (bytes_at body 24 (number_at 2 body 22))) = bytes_spelled body 24 (number_at 2 body 22) (24 + number_at 2 body 22) refl ∙ ap (λ (t : List ℕ). bytes_at body 24 (number_at 2 body 22) ++ t) rest in
    record {
      form = h.form;
      fits = omega (arith, len, two_is.below body 22 bytes);
      spelled = number ∙ ap (λ (k : ℕ). two_bytes k ++ drop 24 body) (sym len) ∙ ap (λ (t : List ℕ). two_bytes (length (bytes_at body 24 (number_at 2 body 22))) ++ t) both;
    }

large_back : (body : List ℕ) → IsBytes body → 36 ≤ length body → LargeReads body → ContentBack body (Large (root_on body))
large_back body bytes long h =
    let number : drop 22 body ≡ two_bytes (number_at 2 body 22) ++ drop 24 body = number_spelled 2 (2 ^ 16) two_bytes two_is body 22 24 bytes refl (omega arith) in
    let size : drop 24 body ≡ eight_bytes (number_at 8 body 24) ++ drop 32 body = number_spelled 8 (2 ^ 64) eight_bytes eight_is body 24 32 bytes refl (omega arith) in
    let page : drop 32 body ≡ page_field (page_in body 32) = page_spelled body 32 36 bytes refl long ∙ ap (λ (t : List ℕ). page_field (page_in body 32) ++ t) (drop_all 36 body (omega (arith, h.len))) ∙ append-nil (page_field (page_in body 32)) in
    record {
      form = h.form;
      fits = h.root;
      spelled = number ∙ ap (λ (t : List ℕ). two_bytes (number_at 2 body 22) ++ t) (size ∙ ap (λ (t : List ℕ). eight_bytes (number_at 8 body 24) ++ t) page) ∙ sym (append_assoc (two_bytes (number_at 2 body 22)) (eight_bytes (number_at 8 body 24)) (page_field (page_in body 32)));
    }

content_back : (body : List ℕ) → IsBytes body → 36 ≤ length body → SmallReads body ⊎ LargeReads body → ContentBack body (content_read (slice_index body 0) body)
content_back body bytes long (inl h) = subst (λ (k : ℕ). ContentBack body (content_read k body)) (sym h.form) (small_back body bytes long h)
content_back body bytes long (inr h) = subst (λ (k : ℕ). ContentBack body (content_read k body)) (sym h.form) (large_back body bytes long h)

pub reads_spelled : (body : List ℕ) → IsBytes body → RecordReads body → BodyOf body (record_on body)
unfolding head_on content_on
reads_spelled body bytes h =
    let long = h.0.long in
    let c = content_back body bytes h.0.long h.1 in
    let state : state_byte (state_read (slice_index body 1)) ≡ slice_index body 1 = state_back (slice_index body 1) h.0.state in
    let unique : drop 2 body ≡ eight_bytes (number_at 8 body 2) ++ drop 10 body = number_spelled 8 (2 ^ 64) eight_bytes eight_is body 2 10 bytes refl (omega (arith, h.0.long)) in
    let older : drop 10 body ≡ place_field (place_in body 10) ++ drop 16 body = place_spelled body 10 16 bytes refl (omega (arith, h.0.long)) in
    let newer : drop 16 body ≡ place_field (place_in body 16) ++ drop 22 body = place_spelled body 16 22 bytes refl (omega (arith, h.0.long)) in
    let fields : drop 2 body ≡ eight_bytes (number_at 8 body 2) ++ (place_field (place_in body 10) ++ (place_field (place_in body 16) ++ content_bytes (content_on body))) =
    unique ∙ ap (λ (t : List ℕ). eight_bytes (number_at 8 body 2) ++ t) (older ∙ ap (λ (t : List ℕ). place_field (place_in body 10) ++ t) (newer ∙ ap (λ (t : List ℕ). place_field (place_in body 16) ++ t) c.spelled)) in
    record {
      fits = record {
        unique = eight_is.below body 2 bytes;
        older = place_fits body 10 bytes;
        newer = place_fits body 16 bytes;
        newer_fits = h.0.newer;
        content = c.fits;
      };
      spelled = two_front body (omega (arith, h.0.long))
          ∙ ap (λ (k : ℕ). k ∷ slice_index body 1 ∷ drop 2 body) c.form
          ∙ ap (λ (k : ℕ). form_of (content_on body) ∷ k ∷ drop 2 body) (sym state)
          ∙ ap (λ (t : List ℕ). form_of (content_on body) ∷ state_byte (state_read (slice_index body 1)) ∷ t) fields
          ∙ sym (record_fields (record_on body));
    }

-- ---- what the calls of a view give

pub head_given : (body : List ℕ) (r : Record) (state : State) (unique : ℕ) (older newer : Option Place) → record_on body ≡ r → state ≡ state_read (slice_index body 1) → unique ≡ number_at 8 body 2 → older ≡ place_in body 10 → newer ≡ place_in body 16 → made_head state unique older newer ≡ r.head
unfolding head_on
head_given body r state unique older newer is a b c d =
    let same : made_head state unique older newer ≡ made_head (state_read (slice_index body 1)) (number_at 8 body 2) (place_in body 10) (place_in body 16) = cc (a, b, c, d) in
    same ∙ ap (λ (x : Record). x.head) is

pub large_given : (body : List ℕ) (r : Record) (height size : ℕ) (page : Option PageNo) → record_on body ≡ r → slice_index body 0 ≡ 2 → height ≡ number_at 2 body 22 → page ≡ page_in body 32 → size ≡ number_at 8 body 24 → Large (made_root height page size) ≡ r.content
unfolding content_on
large_given body r height size page is form a b c =
    let same : made_root height page size ≡ root_on body = cc (a, b, c) in
    ap Large same ∙ ap (λ (k : ℕ). content_read k body) (sym form) ∙ ap (λ (x : Record). x.content) is

pub small_given : (body : List ℕ) (r : Record) (len : ℕ) → record_on body ≡ r → RecordReads body → (slice_index body 0 ≡ 2 → ⊥) → len ≡ number_at 2 body 22 → Small (take (24 + len - 24) (drop 24 body)) ≡ r.content
unfolding content_on
small_given body r len is reads other e =
    let count : 24 + len - 24 ≡ number_at 2 body 22 = omega arith in
    let form : slice_index body 0 ≡ 1 = elim reads.1 [ inl h ↦ h.form | inr h ↦ absurd (other h.form) ] in
    ap (λ (k : ℕ). Small (take k (drop 24 body))) count ∙ ap (λ (k : ℕ). content_read k body) (sym form) ∙ ap (λ (x : Record). x.content) is

pub large_is : (body : List ℕ) → IsBytes body → slice_index body 0 ≡ 2 → length body ≡ 36 → number_at 2 body 22 ≤ 255 → 0 < number_at 8 body 24 → IsSome (page_in body 32) → LargeReads body
large_is body bytes form len height size page = record { form = form; len = len; root = record { height = height; size = eight_is.below body 24 bytes; page = page_fits body 32 bytes; empty = λ z. absurd (omega arith); named = λ s. page } }

pub frozen_read : (body : List ℕ) → slice_index body 1 ≡ 2 → Frozen ≡ state_read (slice_index body 1)
frozen_read body e = ap state_read (sym e)

pub current_read : (body : List ℕ) → RecordReads body → (slice_index body 1 ≡ 2 → ⊥) → Current ≡ state_read (slice_index body 1)
current_read body reads other = elim reads.0.state [ inl e ↦ ap state_read (sym e) | inr e ↦ absurd (other e) ]
