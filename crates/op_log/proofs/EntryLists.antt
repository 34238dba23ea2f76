-- Entries stand one behind the other, and none begins another.
use Rattle.std.proofs.Common.{◌≡◌, ◌≢◌, ℕ, ◌+◌, ◌-◌, ◌<◌, ◌≤◌, ◌^◌, List, [], ◌∷◌, ◌++◌, length, take, drop, refl, sym, ◌∙◌, ap, subst, arith, append_assoc}
use Rattle.std.proofs.lemmas.List.{length-append, append-nil, take-append-drop, take_at, drop_at, drop-drop, length-drop, length-take}
use Rattle.std.proofs.lemmas.Grind.{flat_map-append}
use Rattle.std.specs.List.{flat_map, AllByRecursion}
use Rattle.ex_base.specs.Bytes.{part, IsBytes}
use Rattle.ex_base.specs.Fields.{field_bytes, field_bytes-got, length-field_bytes, number_at}
use Rattle.ex_base.proofs.FieldLaws.{same_four}
use Rattle.ex_base.proofs.Reading.{OneReading, one_list}
use Rattle.op_log.specs.declared.kind.RecordKind.{RecordKind}
use Rattle.op_log.specs.declared.kind.RecordKind.TheVariants.{Images, Forms}
use Rattle.op_log.specs.Kinds.{number_of_kind, HasForm, form_bytes, form_len}
use Rattle.op_log.specs.Records.{entry_bytes, entry_len, entries_len}
use Rattle.op_log.specs.Gates.{length-form, length-entry, length-entries}
use Rattle.op_log.specs.Decoding.{FitsEntry, BeginsForm, BeginsEntry, NoEntry, ReadsEntries, NoEntries}
use Rattle.op_log.proofs.Writing.{entries_len-append}
use Rattle.page_entries.specs.declared.entry.PageEntry.{PageEntry}
use Rattle.page_entries.specs.declared.form.EntryForm.{EntryForm}
use Rattle.page_entries.specs.declared.form.EntryForm.TheVariants.{Image, SlotChanges, FileChanges}
use Rattle.page_entries.specs.Forms.{form_number}
use Rattle.page_entries.specs.Said.{AreFields, Says, SaysNothing, said_bytes, form_of}
use Rattle.page_entries.proofs.ReadAgain.{one_said}

-- ---- kinds and forms

pub one_kind_number : (a b : RecordKind) → number_of_kind a ≡ number_of_kind b → a ≡ b
one_kind_number Images Images e = refl
one_kind_number Images Forms e = absurd (omega (arith, e))
one_kind_number Forms Images e = absurd (omega (arith, e))
one_kind_number Forms Forms e = refl

one_form : (a b : EntryForm) → form_number a ≡ form_number b → a ≡ b
one_form Image Image e = refl
one_form Image SlotChanges e = absurd (omega (arith, e))
one_form Image FileChanges e = absurd (omega (arith, e))
one_form SlotChanges Image e = absurd (omega (arith, e))
one_form SlotChanges SlotChanges e = refl
one_form SlotChanges FileChanges e = absurd (omega (arith, e))
one_form FileChanges Image e = absurd (omega (arith, e))
one_form FileChanges SlotChanges e = absurd (omega (arith, e))
one_form FileChanges FileChanges e = refl

same_form : (kind : RecordKind) (a b : EntryForm) (x y : List ℕ) → HasForm kind a → HasForm kind b → form_bytes kind a ++ x ≡ form_bytes kind b ++ y → (a ≡ b) × (x ≡ y)
same_form Images a b x y p q e = (p ∙ sym q, e)
same_form Forms a b x y p q e =
    let number : form_number a ≡ form_number b = cc in
    let tail : x ≡ y = cc in
    (one_form a b number, tail)

-- ---- no entry begins another

same_fields : (size : ℕ) (form : EntryForm) (a b x y : List ℕ) → AreFields size form a → AreFields size form b → a ++ x ≡ b ++ y → (a ≡ b) × (x ≡ y)
same_fields size form a b x y p q e =
    let one = one_said size p.0 q.0 x y p.1 q.1 (p.2 ∙ sym q.2) (ap (λ (l : List ℕ). l ++ x) (sym p.3) ∙ e ∙ ap (λ (l : List ℕ). l ++ y) q.3) in
    (p.3 ∙ ap said_bytes one.0 ∙ sym q.3, one.1)

abbrev made_entry : ℕ → EntryForm → List ℕ → PageEntry
made_entry page form fields = record { page = record { 0 = page }; form = form; fields = fields }

pub entry_fields : (kind : RecordKind) (entry : PageEntry) (x : List ℕ) → entry_bytes kind entry ++ x ≡ field_bytes 4 entry.page.0 ++ (form_bytes kind entry.form ++ (entry.fields ++ x))
entry_fields kind entry x =
    append_assoc (field_bytes 4 entry.page.0) (form_bytes kind entry.form ++ entry.fields) x ∙ ap (λ (l : List ℕ). field_bytes 4 entry.page.0 ++ l) (append_assoc (form_bytes kind entry.form) entry.fields x)

pub one_entry : (size : ℕ) (kind : RecordKind) → OneReading (FitsEntry size kind) (entry_bytes kind)
one_entry size kind a b x y p q e =
    let page = same_four a.page.0 b.page.0 _ _ p.page q.page (sym (entry_fields kind a x) ∙ e ∙ entry_fields kind b y) in
    let form = same_form kind a.form b.form _ _ p.form q.form page.1 in
    let fields = same_fields size a.form a.fields b.fields x y p.fields (subst (λ (f : EntryForm). AreFields size f b.fields) (sym form.0) q.fields) form.1 in
    let same : made_entry a.page.0 a.form a.fields ≡ made_entry b.page.0 b.form b.fields = cc (page.0, form.0, fields.0) in
    (same, fields.1)

-- Where fewer entries were read than begin the bytes, another one stands behind them.
pub next_entry : (size : ℕ) (kind : RecordKind) (xs es : List PageEntry) (x rest : List ℕ) → AllByRecursion (FitsEntry size kind) xs → AllByRecursion (FitsEntry size kind) es → length xs < length es
    → flat_map (entry_bytes kind) xs ++ x ≡ flat_map (entry_bytes kind) es ++ rest → (entry : PageEntry) × (tail : List ℕ) × FitsEntry size kind entry × (x ≡ entry_bytes kind entry ++ tail)
next_entry size kind [] [] x rest p q fewer e = absurd (omega (arith, fewer))
next_entry size kind [] (b ∷ es) x rest p q fewer e = (b, flat_map (entry_bytes kind) es ++ rest, q.0, e ∙ append_assoc (entry_bytes kind b) (flat_map (entry_bytes kind) es) rest)
next_entry size kind (a ∷ xs) [] x rest p q fewer e = absurd (omega (arith, fewer))
next_entry size kind (a ∷ xs) (b ∷ es) x rest p q fewer e =
    let heads = one_entry size kind a b (flat_map (entry_bytes kind) xs ++ x) (flat_map (entry_bytes kind) es ++ rest) p.0 q.0
    (sym (append_assoc (entry_bytes kind a) (flat_map (entry_bytes kind) xs) x) ∙ e ∙ append_assoc (entry_bytes kind b) (flat_map (entry_bytes kind) es) rest) in
    next_entry size kind xs es x rest p.1 q.1 (omega (arith, fewer)) heads.1

-- ---- one entry that stands there

pub behind_number : (kind : RecordKind) (b : List ℕ) (e : PageEntry) (rest : List ℕ) → b ≡ entry_bytes kind e ++ rest → drop 4 b ≡ form_bytes kind e.form ++ (e.fields ++ rest)
behind_number kind b e rest is = ap (drop 4) (is ∙ entry_fields kind e rest) ∙ drop_at (field_bytes 4 e.page.0) (form_bytes kind e.form ++ (e.fields ++ rest)) 4 (length-field_bytes 4 e.page.0)

behind_form : (kind : RecordKind) (b : List ℕ) (e : PageEntry) (rest : List ℕ) → b ≡ entry_bytes kind e ++ rest → drop (4 + form_len kind) b ≡ e.fields ++ rest
behind_form kind b e rest is =
    sym (drop-drop (form_len kind) 4 b) ∙ ap (drop (form_len kind)) (behind_number kind b e rest is) ∙ drop_at (form_bytes kind e.form) (e.fields ++ rest) (form_len kind) (length-form kind e.form)

pub entry_long : (kind : RecordKind) (b : List ℕ) (e : PageEntry) (rest : List ℕ) → b ≡ entry_bytes kind e ++ rest → 4 + form_len kind ≤ length b
entry_long kind b e rest is = omega (arith, ap length is, length-append (entry_bytes kind e) rest, length-entry kind e)

-- where nothing is said in the form that stands there, no entry stands there
pub says_none : (size : ℕ) (kind : RecordKind) (b : List ℕ) (form : EntryForm) → BeginsForm kind (drop 4 b) form → SaysNothing size form (drop (4 + form_len kind) b) → NoEntry size kind b
says_none size kind b form begins nothing e rest fits is =
    let same = same_form kind form e.form (drop (form_len kind) (drop 4 b)) (e.fields ++ rest) begins.has fits.form (sym begins.spelled ∙ behind_number kind b e rest is) in
    nothing fits.fields.0 rest fits.fields.1 (fits.fields.2 ∙ sym same.0) (behind_form kind b e rest is ∙ ap (λ (l : List ℕ). l ++ rest) fits.fields.3)

pub entry_read : (size : ℕ) (kind : RecordKind) (b : List ℕ) (page n : ℕ) (form : EntryForm) (fields : List ℕ) → IsBytes b → 4 + form_len kind ≤ length b → page < 2 ^ 32 → page ≡ number_at 4 b 0 → BeginsForm kind (drop 4 b) form
    → Says size form (drop (4 + form_len kind) b) n → fields ≡ take n (drop (4 + form_len kind) b) → BeginsEntry size kind b (made_entry page form fields)
unfolding part
entry_read size kind b page n form fields bytes head small number begins says are =
    let h = 4 + form_len kind in
    let long : length fields ≡ n = omega (arith, ap length are, length-take n (drop (4 + form_len kind) b), says.inside) in
    let front : field_bytes 4 page ≡ take 4 b = ap (field_bytes 4) number ∙ field_bytes-got b 0 4 (omega (arith, head)) bytes in
    let end : drop (entry_len kind (made_entry page form fields)) b ≡ drop n (drop (4 + form_len kind) b) = ap (λ (k : ℕ). drop k b) (omega (arith, long)) ∙ sym (drop-drop n (4 + form_len kind) b) in
    record {
      fits = record { page = small; form = begins.has; fields = (says.said, says.fits, says.form_is, are ∙ says.spelled) };
      inside = omega (arith, long, says.inside, length-drop (4 + form_len kind) b, head);
      spelled =
          sym (take-append-drop 4 b)
          ∙ ap (λ (l : List ℕ). l ++ drop 4 b) (sym front)
          ∙ ap (λ (l : List ℕ). field_bytes 4 page ++ l)
          (begins.spelled ∙ ap (λ (l : List ℕ). form_bytes kind form ++ l)
          (drop-drop (form_len kind) 4 b ∙ sym (take-append-drop n (drop (4 + form_len kind) b)) ∙ ap (λ (l : List ℕ). l ++ drop n (drop (4 + form_len kind) b)) (sym are) ∙ ap (λ (l : List ℕ). fields ++ l) (sym end)))
          ∙ sym (entry_fields kind (made_entry page form fields) (drop (entry_len kind (made_entry page form fields)) b));
    }

-- ---- the entries that stand there

pub no_entries_yet : (size : ℕ) (kind : RecordKind) (b : List ℕ) (start : ℕ) (entries : List PageEntry) → start ≤ length b → entries ≡ [] → ReadsEntries size kind b start 0 start entries
no_entries_yet size kind b start entries inside none = subst (ReadsEntries size kind b start 0 start) (sym none) (record { many = refl; each = tt; end_is = omega arith; inside = inside; spelled = refl })

each-then : {A : Type 0} (P : A → Type 0) (xs : List A) (x : A) → AllByRecursion P xs → P x → AllByRecursion P (xs ++ x ∷ [])
each-then P [] x p q = (q, tt)
each-then P (y ∷ xs) x p q = (p.0, each-then P xs x p.1 q)

pub one_entry_more : (size : ℕ) (kind : RecordKind) (b : List ℕ) (start i at at' : ℕ) (xs ys : List PageEntry) (x : PageEntry) → ReadsEntries size kind b start i at xs → BeginsEntry size kind (drop at b) x → at' ≡ at + entry_len kind x → ys ≡ xs ++ x ∷ []
    → ReadsEntries size kind b start (i + 1) at' ys
one_entry_more size kind b start i at at' xs ys x so_far here next all = subst (ReadsEntries size kind b start (i + 1) at') (sym all) (record {
  many = omega (arith, length-append xs (x ∷ []), so_far.many);
  each = each-then (FitsEntry size kind) xs x so_far.each here.fits;
  end_is = omega (arith, next, so_far.end_is, entries_len-append kind xs (x ∷ []));
  inside = omega (arith, next, so_far.inside, here.inside, length-drop at b);
  spelled =
      so_far.spelled
      ∙ ap (λ (l : List ℕ). flat_map (entry_bytes kind) xs ++ l) (here.spelled ∙ ap (λ (l : List ℕ). entry_bytes kind x ++ l) (drop-drop (entry_len kind x) at b ∙ ap (λ (n : ℕ). drop n b) (sym next)))
      ∙ sym (append_assoc (flat_map (entry_bytes kind) xs) (entry_bytes kind x) (drop at' b))
      ∙ ap (λ (l : List ℕ). l ++ drop at' b) (sym (flat_map-append (entry_bytes kind) xs (x ∷ []) ∙ ap (λ (l : List ℕ). flat_map (entry_bytes kind) xs ++ l) (append-nil (entry_bytes kind x))));
})

-- where no entry stands behind those read so far, fewer stand there
pub none_behind : (size : ℕ) (kind : RecordKind) (b : List ℕ) (start i count at : ℕ) (xs : List PageEntry) → ReadsEntries size kind b start i at xs → i < count
    → ((entry : PageEntry) (rest : List ℕ) → FitsEntry size kind entry → drop at b ≡ entry_bytes kind entry ++ rest → ⊥) → NoEntries size kind b start count
none_behind size kind b start i count at xs so_far more none entries rest many each is =
    let next = next_entry size kind xs entries (drop at b) rest so_far.each each (omega (arith, many, so_far.many, more)) (sym so_far.spelled ∙ is) in
    none next.0 next.1 next.2 next.3

-- entries that were read are those that stand there
pub same_entries : (size : ℕ) (kind : RecordKind) (b : List ℕ) (start count end : ℕ) (xs es : List PageEntry) (rest : List ℕ) → ReadsEntries size kind b start count end xs → length es ≡ count → AllByRecursion (FitsEntry size kind) es
    → drop start b ≡ flat_map (entry_bytes kind) es ++ rest → xs ≡ es
same_entries size kind b start count end xs es rest reads many each is = (one_list (FitsEntry size kind) (entry_bytes kind) (one_entry size kind) xs es (drop end b) rest reads.each each (reads.many ∙ sym many) (sym reads.spelled ∙ is)).0

-- their bytes, as a part
pub entries_part : (size : ℕ) (kind : RecordKind) (b : List ℕ) (start count end : ℕ) (xs : List PageEntry) → ReadsEntries size kind b start count end xs → part b start (entries_len kind xs) ≡ flat_map (entry_bytes kind) xs
unfolding part
entries_part size kind b start count end xs reads = ap (take (entries_len kind xs)) reads.spelled ∙ take_at (flat_map (entry_bytes kind) xs) (drop end b) (entries_len kind xs) (length-entries kind xs)
