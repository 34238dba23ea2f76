-- Entries that are written are read again, and entries that are read are written so.
use Rattle.std.proofs.Common.{◌≡◌, ℕ, ◌+◌, ◌-◌, ◌*◌, ◌<◌, ◌≤◌, ◌↔◌, List, ◌∷◌, ◌++◌, length, take, drop, refl, sym, ap, subst, ◌∙◌, arith, inl, inr}
use Rattle.std.specs.List.{flat_map, AllByRecursion}
use Rattle.std.proofs.lemmas.Bool.{cases_lt}
use Rattle.ex_base.specs.Fields.{number_at}
use Rattle.ex_base.proofs.FieldLaws.{number_at-drop}
use Rattle.ex_base.specs.Bytes.{IsBytes}
use Rattle.ex_base.proofs.NumberRows.{AreRows, read_step as row_step, fields_read as row_fields, length-read, length-row, length-rows, rows_again, rows_back}
use Rattle.file_index.specs.declared.Entry.{Entry}
use Rattle.file_index.specs.IndexPage.{entry_bytes, entry_at, read_entries, RiseFrom, HasEntryFields}

-- an entry is its key and its page
abbrev made_entry : ℕ → ℕ → Entry
made_entry key page = record { key = key; page = record { 0 = page } }

are_rows : AreRows 4 made_entry (λ entry. entry.key) (λ entry. entry.page.0) read_entries
are_rows = record {
  whole = λ entry. refl;
  one_is = λ key page. refl;
  two_is = λ key page. refl;
  none = λ bytes. refl;
  more = λ n bytes. refl;
}

-- ---- one entry after another

pub read_step : (n i : ℕ) (bytes : List ℕ) → i < n → read_entries (n - i) (drop (8 * i) bytes) ≡ entry_at (drop (8 * i) bytes) ∷ read_entries (n - (i + 1)) (drop (8 * (i + 1)) bytes)
read_step n i bytes lt = row_step are_rows n i bytes lt

-- the keys from entry i on rise from a number exactly where its own does, and those behind it from there
pub rise_step : (n i least : ℕ) (bytes : List ℕ) → i < n → RiseFrom least (read_entries (n - i) (drop (8 * i) bytes)) ≡ ((least ≤ number_at 4 bytes (8 * i)) × RiseFrom (number_at 4 bytes (8 * i) + 1) (read_entries (n - (i + 1)) (drop (8 * (i + 1)) bytes)))
rise_step n i least bytes lt =
    ap (RiseFrom least) (read_step n i bytes lt) ∙ ap (λ (key : ℕ). (least ≤ key) × RiseFrom (key + 1) (read_entries (n - (i + 1)) (drop (8 * (i + 1)) bytes))) (sym (number_at-drop 4 bytes (8 * i)))

pub length-read_entries : (n : ℕ) (bytes : List ℕ) → length (read_entries n bytes) ≡ n
length-read_entries n bytes = length-read are_rows n bytes

-- ---- written, and read again

pub length-entry_bytes : (entry : Entry) → length (entry_bytes entry) ≡ 8
length-entry_bytes entry = length-row are_rows entry

pub entries_again : (entries : List Entry) (rest : List ℕ) → AllByRecursion HasEntryFields entries → read_entries (length entries) (flat_map entry_bytes entries ++ rest) ≡ entries
entries_again entries rest fits = rows_again are_rows entries rest fits

pub length-entries : (entries : List Entry) → length (flat_map entry_bytes entries) ≡ 8 * length entries
length-entries entries = length-rows are_rows entries

-- ---- read, and written so

pub entries_back : (n : ℕ) (bytes : List ℕ) → 8 * n ≤ length bytes → IsBytes bytes → flat_map entry_bytes (read_entries n bytes) ≡ take (8 * n) bytes
entries_back n bytes long fits = rows_back are_rows n bytes long fits

pub fields_read : (n : ℕ) (bytes : List ℕ) → IsBytes bytes → AllByRecursion HasEntryFields (read_entries n bytes)
fields_read n bytes fits = row_fields are_rows n bytes fits

-- ---- a loop over the keys

pub stops : (n i least key : ℕ) (bytes : List ℕ) → i < n → key ≡ number_at 4 bytes (8 * i) → key < least → RiseFrom least (read_entries (n - i) (drop (8 * i) bytes)) → ⊥
stops n i least key bytes lt is below r =
    let both : (least ≤ number_at 4 bytes (8 * i)) × RiseFrom (number_at 4 bytes (8 * i) + 1) (read_entries (n - (i + 1)) (drop (8 * (i + 1)) bytes)) = rw (rise_step n i least bytes lt) at r in
    absurd (omega (arith, both.0))

pub goes_on : (All : Type 0) (n i least key : ℕ) (bytes : List ℕ) → i < n → key ≡ number_at 4 bytes (8 * i) → least ≤ key → (All ↔ RiseFrom least (read_entries (n - i) (drop (8 * i) bytes))) → (All ↔ RiseFrom (key + 1) (read_entries (n - (i + 1)) (drop (8 * (i + 1)) bytes)))
goes_on All n i least key bytes lt is rises both =
    let Rest : ℕ → Type 0 = λ c. RiseFrom (c + 1) (read_entries (n - (i + 1)) (drop (8 * (i + 1)) bytes)) in
    let step = rise_step n i least bytes lt in (
      λ all. let now : (least ≤ number_at 4 bytes (8 * i)) × RiseFrom (number_at 4 bytes (8 * i) + 1) (read_entries (n - (i + 1)) (drop (8 * (i + 1)) bytes)) = rw step at (both.0 all) in subst Rest (sym is) now.1,
      λ rest. both.1 (rw step (omega (arith, is, rises), subst Rest is rest)),
    )

-- two keys in one step, the second one of which stops, and a last key alone
pub goes_two : (All : Type 0) (n i least key next : ℕ) (bytes : List ℕ) → i + 1 < n → key ≡ number_at 4 bytes (8 * i) → next ≡ number_at 4 bytes (8 * (i + 1)) → least ≤ key → key < next → (All ↔ RiseFrom least (read_entries (n - i) (drop (8 * i) bytes))) → (All ↔ RiseFrom (next + 1) (read_entries (n - (i + 2)) (drop (8 * (i + 2)) bytes)))
goes_two All n i least key next bytes lt is then_is rises more both =
    let one = goes_on All n i least key bytes (omega (arith, lt)) is rises both in
    let two = goes_on All n (i + 1) (key + 1) next bytes lt then_is (omega (arith, more)) one in
    let e : i + 1 + 1 ≡ i + 2 = omega arith in
    subst (λ (k : ℕ). All ↔ RiseFrom (next + 1) (read_entries (n - k) (drop (8 * k) bytes))) e two

pub stops_second : (All : Type 0) (n i least key next : ℕ) (bytes : List ℕ) → i + 1 < n → key ≡ number_at 4 bytes (8 * i) → next ≡ number_at 4 bytes (8 * (i + 1)) → least ≤ key → next ≤ key → (All ↔ RiseFrom least (read_entries (n - i) (drop (8 * i) bytes))) → All → ⊥
stops_second All n i least key next bytes lt is then_is rises below both all =
    let one = goes_on All n i least key bytes (omega (arith, lt)) is rises both in
    stops n (i + 1) (key + 1) next bytes lt then_is (omega (arith, below)) (one.0 all)

pub last_alone : (All : Type 0) (n i least key : ℕ) (bytes : List ℕ) → i + 1 ≡ n → key ≡ number_at 4 bytes (8 * i) → (All ↔ RiseFrom least (read_entries (n - i) (drop (8 * i) bytes))) → (least ≤ key) ↔ All
last_alone All n i least key bytes end is both =
    let within : i < n = omega (arith, end) in
    let none : n - (i + 1) ≡ 0 = omega (arith, end) in (
      λ rises. (goes_on All n i least key bytes within is rises both).1 (subst (λ (k : ℕ). RiseFrom (key + 1) (read_entries k (drop (8 * (i + 1)) bytes))) (sym none) tt),
      λ all. elim (cases_lt key least) [
        | inl below ↦ absurd (stops n i least key bytes within is below (both.0 all))
        | inr rises ↦ rises
      ],
    )
