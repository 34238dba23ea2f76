-- What a crash leaves while a record is added, or the log is closed.
use Rattle.std.proofs.Common.{◌≡◌, ◌⊎◌, inl, inr, ⊎_elim, ℕ, ◌+◌, ◌*◌, ◌<◌, ◌≤◌, List, [], ◌∷◌, ◌++◌, length, take, slice_index, refl, sym, ◌∙◌, ap, subst, arith, add-zero, Some, IsTrue}
use Rattle.std.proofs.lemmas.List.{length-append, take_at}
use Rattle.std.proofs.lemmas.Bool.{cases_lt}
use Rattle.std.proofs.lemmas.Option.{same_Some}
use Rattle.std.specs.List.{AllByRecursion}
use Rattle.ex_base.specs.declared.geometry.Geometry.{Geometry}
use Rattle.ex_base.specs.Bytes.{part, repl, part-repl, length-repl, repl-inside, repl_same_outside, same_parts, part_reads}
use Rattle.disk_model.specs.Outside.{Outside, IsWorld, Only, Leaves}
use Rattle.disk_model.specs.Calls.{Wrote}
use Rattle.disk_model.specs.Changes.{SameBut, InRange, ChangesWithin, same_but_range, same_but_trans, changes_wider, changes_trans, leaves_changes}
use Rattle.disk_model.specs.Runs.{leaves_start, honest_on, leaves_trans}
use Rattle.op_log.specs.declared.record.LogRecord.{LogRecord}
use Rattle.op_log.specs.Records.{record_len, record_body, IsLogRecord}
use Rattle.op_log.specs.Log.{Follow, open_records, log_end, SaysLog, SaysEither, AddsHere, HasLog, DiskSays, KeepsLog, Adding}
use Rattle.op_log.specs.Writing.{Puts}
use Rattle.op_log.specs.Gates.{Front, held_front, image_front, image_says, says_of, front_kept, front_more, length-record_body}

same_or_not : (x y : ℕ) → (x ≡ y) ⊎ (x ≡ y → ⊥)
same_or_not x y = elim (cases_lt x y) [
  | inl lt ↦ inr (λ is. absurd (omega (arith, lt, is)))
  | inr le ↦ elim (cases_lt y x) [ inl lt ↦ inr (λ is. absurd (omega (arith, lt, is))) | inr ge ↦ inl (omega (arith, le, ge)) ]
]

-- as many bytes as the record has, its gate included
pub long_of : {g : Geometry} {rs : List LogRecord} {r : LogRecord} {gate : ℕ} (bytes : List ℕ) → Adding g rs r gate bytes → length bytes ≡ record_len r
long_of {g} {rs} {r} bytes adds = omega (arith, ap length adds.bytes_are, length-append (record_body r) (0 ∷ []), length-record_body r)

-- the body stands behind a closed gate
pub record Ready (g : Geometry) (rs : List LogRecord) (r : LogRecord) (d : List ℕ) : Type 0 where
  pub front : Front g rs d
  pub body : part d (g.page_size + log_end rs + 1) (record_len r) ≡ record_body r ++ 0 ∷ []

-- while the body is written
pub body_torn : {g : Geometry} {rs : List LogRecord} {r : LogRecord} (gate : ℕ) (bytes : List ℕ) (x e : List ℕ) → Adding g rs r gate bytes → Front g rs x → SameBut (InRange (gate + 1) (length bytes)) x e → Front g rs e
body_torn {g} {rs} gate bytes x e adds front same = front_kept g rs x e same.same_length (λ i from to. same.each i (λ inside. absurd (omega (arith, inside.0, to, adds.gate_is)))) front

-- once it is written
pub body_there : {g : Geometry} {rs : List LogRecord} {r : LogRecord} (gate : ℕ) (bytes : List ℕ) (d : List ℕ) → Adding g rs r gate bytes → Front g rs d → Ready g rs r (repl d (gate + 1) bytes)
body_there {g} {rs} {r} gate bytes d adds front =
    let long = long_of bytes adds in
    let room : gate + 1 + length bytes ≤ length d = omega (arith, front.large, adds.fits, long, adds.gate_is) in
    let place : g.page_size + log_end rs + 1 ≡ gate + 1 = omega (arith, adds.gate_is) in
    record {
      front = body_torn gate bytes d (repl d (gate + 1) bytes) adds front (same_but_range (gate + 1) (length bytes) d (repl d (gate + 1) bytes) (repl_same_outside d (gate + 1) bytes room));
      body =
          ap (λ (p : ℕ). part (repl d (gate + 1) bytes) p (record_len r)) place
          ∙ ap (λ (n : ℕ). part (repl d (gate + 1) bytes) (gate + 1) n) (sym long)
          ∙ part-repl d (gate + 1) bytes room
          ∙ adds.bytes_are;
    }

-- what differs at most at the gate, and has it open
gate_open : {g : Geometry} {rs : List LogRecord} {r : LogRecord} (gate : ℕ) (bytes : List ℕ) (d e : List ℕ) → Adding g rs r gate bytes → Ready g rs r d → SameBut (InRange gate 1) d e → slice_index e gate ≡ 1 → Front g (rs ++ r ∷ []) e
gate_open {g} {rs} {r} gate bytes d e adds ready same open_gate =
    let page = g.page_size in
    let end = log_end rs in
    let front = ready.front in
    let inside : page + end + 1 + record_len r ≤ length d = omega (arith, front.large, adds.fits) in
    front_more g rs r e (omega (arith, front.large, same.same_length)) adds.fits
    (same_parts e d page page end (omega (arith, inside, same.same_length)) (omega (arith, inside)) (λ i lt. same.each (page + i) (λ here. absurd (omega (arith, here.0, lt, adds.gate_is)))) ∙ front.records)
    (ap (λ (i : ℕ). slice_index e i) (sym adds.gate_is) ∙ open_gate)
    (same_parts e d (page + end + 1) (page + end + 1) (record_len r) (omega (arith, inside, same.same_length)) inside (λ i lt. same.each (page + end + 1 + i) (λ here. absurd (omega (arith, here.1, adds.gate_is)))) ∙ ready.body)

gate_closed : {g : Geometry} {rs : List LogRecord} {r : LogRecord} (gate : ℕ) (bytes : List ℕ) (d e : List ℕ) → Adding g rs r gate bytes → Ready g rs r d → SameBut (InRange gate 1) d e → (slice_index e gate ≡ 1 → ⊥) → Front g rs e
gate_closed {g} {rs} gate bytes d e adds ready same closed =
    let page = g.page_size in
    let end = log_end rs in
    let front = ready.front in
    record {
      large = omega (arith, front.large, same.same_length);
      room = front.room;
      records = same_parts e d page page end (omega (arith, front.large, front.room, same.same_length)) (omega (arith, front.large, front.room)) (λ i lt. same.each (page + i) (λ here. absurd (omega (arith, here.0, lt, adds.gate_is)))) ∙ front.records;
      closed = λ is. closed (ap (λ (i : ℕ). slice_index e i) adds.gate_is ∙ is);
    }

each-push : (g : Geometry) (rs : List LogRecord) (r : LogRecord) → AllByRecursion (IsLogRecord g) rs → IsLogRecord g r → AllByRecursion (IsLogRecord g) (rs ++ r ∷ [])
each-push g [] r p q = (q, tt)
each-push g (x ∷ rs) r p q = (p.0, each-push g rs r p.1 q)

-- while the gate is written
pub gate_torn : {g : Geometry} {rs : List LogRecord} {r : LogRecord} (gate : ℕ) (bytes : List ℕ) (d e : List ℕ) → Adding g rs r gate bytes → AllByRecursion (IsLogRecord g) rs → Follow rs → Ready g rs r d → SameBut (InRange gate 1) d e
    → SaysEither g rs (rs ++ r ∷ []) e
gate_torn {g} {rs} {r} gate bytes d e adds each follow ready same =
    ⊎_elim (λ is. inr (says_of g (rs ++ r ∷ []) e (each-push g rs r each adds.is_record) adds.follow (gate_open gate bytes d e adds ready same is)))
    (λ closed. inl (says_of g rs e each follow (gate_closed gate bytes d e adds ready same closed)))
    (same_or_not (slice_index e gate) 1)

-- once it is open
pub gate_there : {g : Geometry} {rs : List LogRecord} {r : LogRecord} (gate : ℕ) (bytes : List ℕ) (d : List ℕ) → Adding g rs r gate bytes → AllByRecursion (IsLogRecord g) rs → Ready g rs r d → SaysLog g (rs ++ r ∷ []) (repl d gate (1 ∷ []))
gate_there {g} {rs} {r} gate bytes d adds each ready =
    let room : gate + 1 ≤ length d = omega (arith, ready.front.large, adds.fits, adds.gate_is) in
    let e = repl d gate (1 ∷ []) in
    let same = same_but_range gate 1 d e (repl_same_outside d gate (1 ∷ []) room) in
    let open_gate : slice_index e gate ≡ 1 = ap (λ (i : ℕ). slice_index e i) (sym (add-zero gate)) ∙ repl-inside d gate (1 ∷ []) 0 room (omega arith) in
    says_of g (rs ++ r ∷ []) e (each-push g rs r each adds.is_record) adds.follow (gate_open gate bytes d e adds ready same open_gate)

-- ---- over the outside

-- what an image says, whatever else it has
pub adds_says : (g : Geometry) (rs : List LogRecord) (r : LogRecord) (places : ℕ → Type 0) (before : List ℕ → Type 0) (held e : List ℕ) → AddsHere g rs r places before held e → SaysEither g rs (rs ++ r ∷ []) e
adds_says g rs r places before held e adds = ⊎_elim (λ old. inl old.3) (λ new. inr new.1) adds

wider_first : (gate n : ℕ) (x e : List ℕ) → SameBut (InRange (gate + 1) n) x e → SameBut (InRange gate (n + 1)) x e
wider_first gate n x e same = record { same_length = same.same_length; each = λ i apart. same.each i (λ inside. apart (omega (arith, inside.0), omega (arith, inside.1))) }

wider_gate : (gate n : ℕ) (x e : List ℕ) → SameBut (InRange gate 1) x e → SameBut (InRange gate (n + 1)) x e
wider_gate gate n x e same = record { same_length = same.same_length; each = λ i apart. same.each i (λ inside. apart (inside.0, omega (arith, inside.1))) }

-- up to the end of the first write
pub first_leaves : {g : Geometry} {rs : List LogRecord} {r : LogRecord} (a b : Outside) (gate : ℕ) (bytes held : List ℕ) → Adding g rs r gate bytes → IsWorld a → HasLog g a → KeepsLog g a rs
    → ChangesWithin (InRange (gate + 1) (length bytes)) a b → Leaves a b (AddsHere g rs r (InRange gate (length bytes + 1)) a.images held)
first_leaves {g} {rs} {r} a b gate bytes held adds world large keeps changes =
    let says = keeps.on_disk.says in
    leaves_changes (InRange (gate + 1) (length bytes)) (AddsHere g rs r (InRange gate (length bytes + 1)) a.images held) world keeps.honest changes
    (λ x e here same. inl (x, here, wider_first gate (length bytes) x e same, says_of g rs e says.each says.follow (body_torn gate bytes x e adds (image_front a x world large keeps here) same)))

-- up to the end of the second
pub second_leaves : {g : Geometry} {rs : List LogRecord} {r : LogRecord} (a b c : Outside) (gate : ℕ) (bytes held : List ℕ) → Adding g rs r gate bytes → IsWorld a → IsWorld b → HasLog g a → KeepsLog g a rs → a.disk ≡ Some held
    → ChangesWithin (InRange (gate + 1) (length bytes)) a b → Wrote (gate + 1) bytes a b → (IsTrue a.honest → (d : List ℕ) → b.disk ≡ Some d → Only d b.images)
    → ChangesWithin (InRange gate 1) b c → Leaves a c (AddsHere g rs r (InRange gate (length bytes + 1)) a.images held)
second_leaves {g} {rs} {r} a b c gate bytes held adds world now large keeps holds one wrote settled two =
    let says = keeps.on_disk.says in
    let is : keeps.on_disk.disk ≡ held = same_Some keeps.on_disk.disk held (sym keeps.on_disk.holds ∙ holds) in
    let front = subst (Front g rs) is (held_front a world large keeps.on_disk) in
    let d = repl held (gate + 1) bytes in
    let ready = body_there gate bytes held adds front in
    let room : gate + 1 + length bytes ≤ length held = omega (arith, front.large, adds.fits, long_of bytes adds, adds.gate_is) in
    let body : SameBut (InRange gate (length bytes + 1)) held d = wider_first gate (length bytes) held d (same_but_range (gate + 1) (length bytes) held d (repl_same_outside held (gate + 1) bytes room)) in
    leaves_trans (AddsHere g rs r (InRange gate (length bytes + 1)) a.images held) (first_leaves a b gate bytes held adds world large keeps one)
    (leaves_changes (InRange gate 1) (AddsHere g rs r (InRange gate (length bytes + 1)) a.images held) now (honest_on one.only.goes keeps.honest) two
    (λ x e here same.
    let torn = subst (λ (y : List ℕ). SameBut (InRange gate 1) y e) (settled keeps.honest d (wrote held holds) x here) same in
    let whole = same_but_trans body (wider_gate gate (length bytes) d e torn) in
    ⊎_elim (λ old. inl (held, world.held_may_stay held holds, whole, old)) (λ new. inr (whole, new)) (gate_torn gate bytes d e adds says.each says.follow ready torn)))

-- what the disk then says
pub then_says : {g : Geometry} {rs : List LogRecord} {r : LogRecord} (a b c : Outside) (gate : ℕ) (bytes : List ℕ) → Adding g rs r gate bytes → IsWorld a → HasLog g a → DiskSays g a rs
    → Wrote (gate + 1) bytes a b → Wrote gate (1 ∷ []) b c → DiskSays g c (rs ++ r ∷ [])
then_says {g} {rs} {r} a b c gate bytes adds world large says one two =
    let d = repl says.disk (gate + 1) bytes in
    record {
      disk = repl d gate (1 ∷ []);
      holds = two d (one says.disk says.holds);
      says = gate_there gate bytes d adds says.says.each (body_there gate bytes says.disk adds (held_front a world large says));
    }

-- where nothing is pending, a crash leaves what the disk says
pub keeps_settled : {g : Geometry} {rs : List LogRecord} (w : Outside) → IsTrue w.honest → DiskSays g w rs → ((d : List ℕ) → w.disk ≡ Some d → Only d w.images) → KeepsLog g w rs
keeps_settled w honest says settled = record {
  honest = honest;
  on_disk = says;
  agrees = record { each = λ d x is here i inside. ap (λ (l : List ℕ). slice_index l i) (settled d is x here) };
}

pub settled_says : {g : Geometry} {rs : List LogRecord} (w : Outside) (x : List ℕ) → DiskSays g w rs → ((d : List ℕ) → w.disk ≡ Some d → Only d w.images) → w.images x → SaysLog g rs x
settled_says {g} {rs} w x says settled here = subst (λ (e : List ℕ). SaysLog g rs e) (sym (settled says.disk says.holds x here)) says.says

-- the writes, as one
pub first_changes : (gate n : ℕ) {a b : Outside} → ChangesWithin (InRange (gate + 1) n) a b → ChangesWithin (InRange gate (n + 1)) a b
first_changes gate n changes = changes_wider (InRange (gate + 1) n) (InRange gate (n + 1)) changes (λ i inside. (omega (arith, inside.0), omega (arith, inside.1)))

pub both_changes : (gate n : ℕ) {a b c : Outside} → ChangesWithin (InRange (gate + 1) n) a b → ChangesWithin (InRange gate 1) b c → ChangesWithin (InRange gate (n + 1)) a c
both_changes gate n one two =
    changes_trans (first_changes gate n one) (changes_wider (InRange gate 1) (InRange gate (n + 1)) two (λ i inside. (inside.0, omega (arith, inside.1))))

-- ---- the log is closed

first_gate : (g : Geometry) (rs : List LogRecord) (d : List ℕ) → 0 < length rs → Front g rs d → slice_index d g.page_size ≡ 1
first_gate g [] d some front = absurd (omega arith)
first_gate g (r ∷ rs) d some front =
    ap (λ (i : ℕ). slice_index d i) (sym (add-zero g.page_size)) ∙ part_reads d (open_records (r ∷ rs)) g.page_size (log_end (r ∷ rs)) 0 front.records (omega arith)

none_front : (g : Geometry) (d : List ℕ) → 257 * g.page_size ≤ length d → 0 < 256 * g.page_size → (slice_index d g.page_size ≡ 1 → ⊥) → SaysLog g [] d
unfolding part
none_front g d large room closed = says_of g [] d tt tt (record { large = large; room = room; records = refl; closed = λ is. closed (ap (λ (i : ℕ). slice_index d i) (sym (add-zero g.page_size)) ∙ is) })

-- while the first gate is written
closed_torn : (g : Geometry) (rs : List LogRecord) (d e : List ℕ) → 0 < length rs → AllByRecursion (IsLogRecord g) rs → Follow rs → Front g rs d → SameBut (InRange g.page_size 1) d e → SaysEither g rs [] e
closed_torn g rs d e some each follow front same =
    ⊎_elim (λ is. inl (says_of g rs e each follow (front_kept g rs d e same.same_length (λ i from to. kept i is) front)))
    (λ closed. inr (none_front g e (omega (arith, front.large, same.same_length)) (omega (arith, front.room)) closed))
    (same_or_not (slice_index e g.page_size) 1)
  where
    kept : (i : ℕ) → slice_index e g.page_size ≡ 1 → slice_index e i ≡ slice_index d i
    kept i is =
        ⊎_elim (λ (at : i ≡ g.page_size). subst (λ (k : ℕ). slice_index e k ≡ slice_index d k) (sym at) (is ∙ sym (first_gate g rs d some front)))
        (λ (off : i ≡ g.page_size → ⊥). same.each i (λ here. off (omega (arith, here.0, here.1))))
        (same_or_not i g.page_size)

pub close_leaves : {g : Geometry} {rs : List LogRecord} (a b : Outside) → IsWorld a → HasLog g a → KeepsLog g a rs → 0 < length rs → ChangesWithin (InRange g.page_size 1) a b → Leaves a b (SaysEither g rs [])
close_leaves {g} {rs} a b world large keeps some changes =
    let says = keeps.on_disk.says in
    leaves_changes (InRange g.page_size 1) (SaysEither g rs []) world keeps.honest changes
    (λ x e here same. closed_torn g rs x e some says.each says.follow (image_front a x world large keeps here) same)

-- what the disk then says
pub closed_says : {g : Geometry} {rs : List LogRecord} (a b : Outside) → IsWorld a → HasLog g a → DiskSays g a rs → Wrote g.page_size (0 ∷ []) a b → DiskSays g b []
closed_says {g} {rs} a b world large says wrote =
    let front = held_front a world large says in
    let page = g.page_size in
    let e = repl says.disk page (0 ∷ []) in
    let room : page + 1 ≤ length says.disk = omega (arith, front.large, front.room) in
    let zero : slice_index e page ≡ 0 = ap (λ (i : ℕ). slice_index e i) (sym (add-zero page)) ∙ repl-inside says.disk page (0 ∷ []) 0 room (omega arith) in
    record {
      disk = e;
      holds = wrote says.disk says.holds;
      says = none_front g e (omega (arith, front.large, length-repl says.disk page (0 ∷ []) room)) (omega (arith, front.room)) (λ is. let no : 0 ≡ 1 = sym zero ∙ is in absurd (omega (arith, no)));
    }

-- where no record counts, nothing is done
pub none_leaves : {g : Geometry} {rs : List LogRecord} (a : Outside) → IsWorld a → HasLog g a → KeepsLog g a rs → Leaves a a (SaysEither g rs [])
none_leaves {g} {rs} a world large keeps = leaves_start a (SaysEither g rs []) world (λ x here. inl (image_says a x world large keeps here))

-- ---- what is written

-- the front of the buffer, as it is passed on
pub spelled : (r : LogRecord) (len enc m : ℕ) (old out rest deref : List ℕ) → len ≡ record_len r → enc ≡ record_len r → length out ≡ m → deref ≡ take m (out ++ rest) → Puts (record_body r ++ 0 ∷ []) old out 0 enc
    → take len deref ≡ record_body r ++ 0 ∷ []
spelled r len enc m old out rest deref is enc_is long from puts =
    ap (take len) (from ∙ take_at out rest m long) ∙ ap (λ (n : ℕ). take n out) (is ∙ sym enc_is) ∙ puts.front
