-- The front of the log: its records and the gate behind them, by places of the disk.
use Rattle.std.proofs.Common.{◌≡◌, ◌≢◌, ℕ, ◌+◌, ◌-◌, ◌*◌, ◌<◌, ◌≤◌, List, [], ◌∷◌, ◌++◌, length, take, slice_index, refl, sym, ◌∙◌, ap, arith, add-zero, append_assoc}
use Rattle.std.proofs.lemmas.List.{length-append, append-nil}
use Rattle.std.proofs.Math.Seq.{drop-cons}
use Rattle.std.specs.List.{flat_map, AllByRecursion}
use Rattle.ex_base.specs.declared.geometry.Geometry.{Geometry}
use Rattle.ex_base.specs.declared.names.PageNo.{PageNo}
use Rattle.ex_base.specs.declared.names.OpNote.{OpNote}
use Rattle.ex_base.specs.Sizes.{volume_bytes, least_volume}
use Rattle.ex_base.specs.Area.{catalog_no, log_at, log_size}
use Rattle.ex_base.specs.Bytes.{part, part_joined, part_reads, same_parts, length-part}
use Rattle.ex_base.specs.Fields.{length-field_bytes}
use Rattle.disk_model.specs.Outside.{Outside, IsWorld}
use Rattle.disk_model.specs.Runs.{honest_on}
use Rattle.disk_model.specs.Changes.{InRange, ChangesWithin, agrees_on}
use Rattle.op_log.specs.declared.record.LogRecord.{LogRecord}
use Rattle.op_log.specs.declared.kind.RecordKind.{RecordKind}
use Rattle.op_log.specs.declared.kind.RecordKind.TheVariants.{Images, Forms}
use Rattle.page_entries.specs.declared.entry.PageEntry.{PageEntry}
use Rattle.page_entries.specs.declared.form.EntryForm.{EntryForm}
use Rattle.op_log.specs.Kinds.{form_bytes, form_len}
use Rattle.op_log.specs.Layout.{open_gate}
use Rattle.op_log.specs.Records.{note_bytes, entry_bytes, number_bytes, entry_len, entries_len, record_len, record_body, IsLogRecord}
use Rattle.op_log.specs.Log.{Follow, LogSpells, open_records, log_end, SaysLog, HasLog, DiskSays, KeepsLog}

-- ---- lengths

pub length-notes : (xs : List OpNote) → length (flat_map note_bytes xs) ≡ 31 * length xs
length-notes [] = refl
length-notes (x ∷ xs) = simp (length-append, length-field_bytes) (omega (arith, length-notes xs))

pub length-form : (kind : RecordKind) (form : EntryForm) → length (form_bytes kind form) ≡ form_len kind
length-form Images form = refl
length-form Forms form = refl

pub length-entry : (kind : RecordKind) (x : PageEntry) → length (entry_bytes kind x) ≡ entry_len kind x
length-entry kind x = simp (length-append, length-field_bytes) (omega (arith, length-form kind x.form))

pub length-entries : (kind : RecordKind) (xs : List PageEntry) → length (flat_map (entry_bytes kind) xs) ≡ entries_len kind xs
length-entries kind [] = refl
length-entries kind (x ∷ xs) = omega (arith, length-append (entry_bytes kind x) (flat_map (entry_bytes kind) xs), length-entry kind x, length-entries kind xs)

length-numbers : (xs : List PageNo) → length (flat_map number_bytes xs) ≡ 4 * length xs
length-numbers [] = refl
length-numbers (x ∷ xs) = simp (length-append, length-field_bytes) (omega (arith, length-numbers xs))

pub length-record_body : (r : LogRecord) → length (record_body r) + 1 ≡ record_len r
unfolding record_body
length-record_body r = simp (length-append, length-field_bytes) (omega (arith, length-notes r.notes, length-entries r.kind r.pages, length-numbers r.freed))

pub length-open_records : (rs : List LogRecord) → length (open_records rs) ≡ log_end rs
length-open_records [] = refl
length-open_records (r ∷ rs) = omega (arith, length-append (1 ∷ record_body r) (open_records rs), length-record_body r, length-open_records rs)

pub log_end-append : (rs : List LogRecord) (r : LogRecord) → log_end (rs ++ r ∷ []) ≡ log_end rs + record_len r
log_end-append [] r = omega arith
log_end-append (x ∷ rs) r = omega (arith, log_end-append rs r)

pub open_records-append : (rs : List LogRecord) (r : LogRecord) → open_records (rs ++ r ∷ []) ≡ open_records rs ++ (1 ∷ record_body r)
open_records-append [] r = append-nil (1 ∷ record_body r)
open_records-append (x ∷ rs) r =
    ap (λ (l : List ℕ). (1 ∷ record_body x) ++ l) (open_records-append rs r) ∙ sym (append_assoc (1 ∷ record_body x) (open_records rs) (1 ∷ record_body r))

-- ---- lists that begin alike

pub same_front : {A : Type 0} (xs ys a b : List A) → length xs ≡ length ys → xs ++ a ≡ ys ++ b → (xs ≡ ys) × (a ≡ b)
same_front [] [] a b len e = (refl, e)
same_front [] (y ∷ ys) a b len e = absurd (omega arith)
same_front (x ∷ xs) [] a b len e = absurd (omega arith)
same_front (x ∷ xs) (y ∷ ys) a b len e =
    let head : x ≡ y = cc in
    let tail : xs ++ a ≡ ys ++ b = cc in
    let rest = same_front xs ys a b (omega arith) tail in
    (cc (rest.0, head), rest.1)

-- one byte
pub part_one : (b : List ℕ) (p : ℕ) → p < length b → part b p 1 ≡ slice_index b p ∷ []
unfolding part
part_one b p within = ap (take 1) (drop-cons b p 0 within)

-- ---- the front of the log, by places of the disk

pub record Front (g : Geometry) (rs : List LogRecord) (d : List ℕ) : Type 0 where
  pub large : catalog_no * g.page_size ≤ length d
  pub room : log_end rs < log_size g
  pub records : part d g.page_size (log_end rs) ≡ open_records rs
  pub closed : slice_index d (g.page_size + log_end rs) ≢ open_gate

-- the records, the gate behind them and what follows
length-log : (g : Geometry) (log : List ℕ) (rs : List LogRecord) (says : LogSpells g log rs) → length log ≡ log_end rs + 1 + length says.rest
length-log g log rs says = omega (arith, ap length says.spelled, length-append (open_records rs) (says.gate ∷ says.rest), length-open_records rs)

pub front_of : (g : Geometry) (rs : List LogRecord) (d : List ℕ) → 257 * g.page_size ≤ length d → SaysLog g rs d → Front g rs d
front_of g rs d large says =
    let page = g.page_size in
    let end = log_end rs in
    let whole : length (log_at g d) ≡ 256 * page = length-part d page (256 * page) (omega (arith, large)) in
    let long = sym whole ∙ length-log g (log_at g d) rs says in
    let cut : end + (256 * page - end) ≡ 256 * page = omega (arith, long) in
    let joined : part d page end ++ part d (page + end) (256 * page - end) ≡ open_records rs ++ says.gate ∷ says.rest =
    sym (part_joined d page end (256 * page - end)) ∙ ap (λ (n : ℕ). part d page n) cut ∙ says.spelled in
    let fronts = same_front (part d page end) (open_records rs) _ _ (length-part d page end (omega (arith, large, long)) ∙ sym (length-open_records rs)) joined in
    let reads : slice_index d (page + end) ≡ says.gate =
    ap (λ (i : ℕ). slice_index d i) (sym (add-zero (page + end))) ∙ part_reads d (says.gate ∷ says.rest) (page + end) (256 * page - end) 0 fronts.1 (omega (arith, long)) in
    record { large = large; room = omega (arith, long); records = fronts.0; closed = λ is. says.closed (sym reads ∙ is) }

pub says_of : (g : Geometry) (rs : List LogRecord) (d : List ℕ) → AllByRecursion (IsLogRecord g) rs → Follow rs → Front g rs d → SaysLog g rs d
says_of g rs d each follow front =
    let page = g.page_size in
    let end = log_end rs in
    let left = 256 * page - end - 1 in
    let cut : 256 * page ≡ end + (1 + left) = omega (arith, front.room) in
    record {
      each = each;
      follow = follow;
      gate = slice_index d (page + end);
      rest = part d (page + end + 1) left;
      closed = front.closed;
      spelled =
          ap (λ (n : ℕ). part d page n) cut
          ∙ part_joined d page end (1 + left)
          ∙ ap (λ (l : List ℕ). l ++ part d (page + end) (1 + left)) front.records
          ∙ ap (λ (l : List ℕ). open_records rs ++ l) (part_joined d (page + end) 1 left ∙ ap (λ (l : List ℕ). l ++ part d (page + end + 1) left) (part_one d (page + end) (omega (arith, front.large, front.room))));
    }

-- What agrees up to and including the gate says the same.
pub front_kept : (g : Geometry) (rs : List LogRecord) (d e : List ℕ) → length e ≡ length d → ((i : ℕ) → g.page_size ≤ i → i < g.page_size + (log_end rs + 1) → slice_index e i ≡ slice_index d i)
    → Front g rs d → Front g rs e
front_kept g rs d e long agree front = record {
  large = omega (arith, front.large, long);
  room = front.room;
  records =
      same_parts e d g.page_size g.page_size (log_end rs) (omega (arith, front.large, front.room, long)) (omega (arith, front.large, front.room))
      (λ i lt. agree (g.page_size + i) (omega arith) (omega (arith, lt)))
      ∙ front.records;
  closed = λ is. front.closed (sym (agree (g.page_size + log_end rs) (omega arith) (omega arith)) ∙ is);
}

-- with an open gate before a record whose body stands behind it
pub front_more : (g : Geometry) (rs : List LogRecord) (r : LogRecord) (d : List ℕ) → 257 * g.page_size ≤ length d → log_end rs + record_len r < 256 * g.page_size
    → part d g.page_size (log_end rs) ≡ open_records rs → slice_index d (g.page_size + log_end rs) ≡ 1
    → part d (g.page_size + log_end rs + 1) (record_len r) ≡ record_body r ++ 0 ∷ [] → Front g (rs ++ r ∷ []) d
front_more g rs r d large room records open_gate body =
    let page = g.page_size in
    let end = log_end rs in
    let ends = log_end-append rs r in
    let len = length-record_body r in
    let n = length (record_body r) in
    let cut : record_len r ≡ n + 1 = sym len in
    let joined : part d (page + end + 1) n ++ part d (page + end + 1 + n) 1 ≡ record_body r ++ 0 ∷ [] =
    sym (part_joined d (page + end + 1) n 1) ∙ ap (λ (k : ℕ). part d (page + end + 1) k) (sym cut) ∙ body in
    let fronts = same_front (part d (page + end + 1) n) (record_body r) _ _ (length-part d (page + end + 1) n (omega (arith, large, room, len))) joined in
    let last : slice_index d (page + end + 1 + n) ≡ 0 =
    ap (λ (i : ℕ). slice_index d i) (sym (add-zero (page + end + 1 + n))) ∙ part_reads d (0 ∷ []) (page + end + 1 + n) 1 0 fronts.1 (omega arith) in
    let place : page + log_end (rs ++ r ∷ []) ≡ page + end + 1 + n = omega (arith, ends, cut) in
    let whole : log_end (rs ++ r ∷ []) ≡ end + (1 + n) = omega (arith, ends, cut) in
    record {
      large = large;
      room = omega (arith, ends, room);
      records =
          ap (λ (k : ℕ). part d page k) whole
          ∙ part_joined d page end (1 + n)
          ∙ ap (λ (l : List ℕ). l ++ part d (page + end) (1 + n)) records
          ∙ ap (λ (l : List ℕ). open_records rs ++ l)
          (part_joined d (page + end) 1 n
          ∙ ap (λ (l : List ℕ). l ++ part d (page + end + 1) n) (part_one d (page + end) (omega (arith, large, room)) ∙ ap (λ (x : ℕ). x ∷ []) open_gate)
          ∙ ap (λ (l : List ℕ). 1 ∷ l) fronts.0)
          ∙ sym (open_records-append rs r);
      closed = λ is. (let no : 0 ≡ 1 = sym last ∙ ap (λ (i : ℕ). slice_index d i) (sym place) ∙ is in absurd (omega (arith, no)));
    }

-- ---- over the outside

-- the disk of a geometry has its log
pub has_log : (g : Geometry) (w : Outside) → volume_bytes g ≤ w.size → HasLog g w
has_log g w room = omega (arith, room, least_volume g)

-- what the disk holds has the front of its log
pub held_front : {g : Geometry} {rs : List LogRecord} (w : Outside) → IsWorld w → HasLog g w → (says : DiskSays g w rs) → Front g rs says.disk
held_front {g} {rs} w world large says = front_of g rs says.disk (omega (arith, large, world.whole says.disk (world.held_may_stay says.disk says.holds))) says.says

-- and so does each image
pub image_front : {g : Geometry} {rs : List LogRecord} (w : Outside) (x : List ℕ) → IsWorld w → HasLog g w → KeepsLog g w rs → w.images x → Front g rs x
image_front {g} {rs} w x world large keeps here =
    let d = keeps.on_disk.disk in
    let long : length x ≡ length d = world.whole x here ∙ sym (world.whole d (world.held_may_stay d keeps.on_disk.holds)) in
    front_kept g rs d x long (λ i from to. keeps.agrees.each d x keeps.on_disk.holds here i (from, to)) (held_front w world large keeps.on_disk)

-- Where a disk keeps these records, each image of now says them.
pub image_says : {g : Geometry} {rs : List LogRecord} (w : Outside) (x : List ℕ) → IsWorld w → HasLog g w → KeepsLog g w rs → w.images x → SaysLog g rs x
image_says {g} {rs} w x world large keeps here = says_of g rs x keeps.on_disk.says.each keeps.on_disk.says.follow (image_front w x world large keeps here)

-- It goes on keeping them over a function that writes elsewhere.
pub keeps_on : {g : Geometry} {rs : List LogRecord} {a b : Outside} (R : ℕ → Type 0) → IsWorld a → HasLog g a → IsWorld b → KeepsLog g a rs → ChangesWithin R a b
    → ((i : ℕ) → InRange g.page_size (log_end rs + 1) i → R i → ⊥) → KeepsLog g b rs
keeps_on {g} {rs} {a} {b} R world large now keeps changes apart =
    let d = keeps.on_disk.disk in
    let after = changes.disk keeps.honest d keeps.on_disk.holds in
    let front = front_kept g rs d after.0 after.2.same_length (λ i from to. after.2.each i (apart i (from, to))) (held_front a world large keeps.on_disk) in
    record {
      honest = honest_on changes.only.goes keeps.honest;
      on_disk = record { disk = after.0; holds = after.1; says = says_of g rs after.0 keeps.on_disk.says.each keeps.on_disk.says.follow front };
      agrees = agrees_on R (InRange g.page_size (log_end rs + 1)) d keeps.honest keeps.on_disk.holds keeps.agrees changes apart;
    }
