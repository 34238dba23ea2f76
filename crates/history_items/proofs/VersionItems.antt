-- What the item of a version needs and says.
use Rattle.std.proofs.Common.{◌≡◌, ℕ, zero, suc, ◌+◌, ◌<◌, ◌≤◌, ◌^◌, Bool, true, false, ◌==◌, ◌||◌, nat_le, nat_lt, List, [], ◌∷◌, ◌++◌, length, take, drop, Option, Some, None, refl, sym, ap, subst, ◌∙◌, ◌⊎◌, inl, inr, arith}
use Rattle.std.specs.Prelude.{IfSome, IsSome, if◌then◌else◌, slice_index}
use Rattle.std.proofs.lemmas.Bool.{and_from, and_parts, cases_lt, cond-false, cond-true, eq-eqb, eqb-false, eqb-true, le-leb, leb-true, lt-ltb, ltb-true, ne_eqb, or_cases}
use Rattle.std.proofs.lemmas.List.{append-nil, drop_all, drop_at, drop_more, get_or-drop, length-append, length-drop, take_all}
use Rattle.disk_model.specs.Outside.{BeginsWith}
use Rattle.ex_base.specs.declared.geometry.Geometry.{Geometry}
use Rattle.ex_base.specs.declared.names.PageNo.{PageNo}
use Rattle.ex_base.specs.declared.names.Root.{Root}
use Rattle.ex_base.specs.Bytes.{IsBytes, bytes_at}
use Rattle.ex_base.specs.Fields.{IsPageField, eight_bytes, number_at, page_field, page_in, two_bytes}
use Rattle.ex_base.specs.Sizes.{most_page}
use Rattle.ex_base.proofs.FieldLaws.{eight_is, two_is}
use Rattle.ex_base.proofs.Geometries.{leaf_some, page_le}
use Rattle.ex_base.proofs.Places.{behind_more, length-bytes_at, number_spelled, number_there, page_fits, page_spelled, page_there}
use Rattle.ex_base.proofs.Reading.{length-page_field}
use Rattle.object_records.specs.Record.{Content, IsRootField, Large, Small}
use Rattle.history_model.specs.History.{HistoryVersion}
use Rattle.history_model.specs.Items.{IsContentItem, IsRootNumber, IsVersionItem, roots_most}
use Rattle.history_model.specs.Stream.{content_item, number_or_none, state_code, version_item}
use Rattle.history_items.specs.Gathering.{item_most}
use Rattle.history_items.specs.Needs.{Needs, need_of_large, need_of_small, need_of_version}
use Rattle.history_items.specs.Reads.{content_read, is_good_root, number_read, root_is_good, root_read, version_read}
use Rattle.history_items.proofs.ItemNeeds.{byte_begun, needs_behind, needs_none, needs_whole, number_begun}

-- ---- small things

-- the byte behind what is dropped
byte_behind : (s t : List ℕ) (at b : ℕ) → drop at s ≡ b ∷ t → slice_index s at ≡ b
byte_behind s t at b e =
    let here : slice_index (drop at s) 0 ≡ slice_index s (at + 0) = get_or-drop at s 0 0 in
    let place : at + 0 ≡ at = omega arith in
    ap (λ (k : ℕ). slice_index s k) (sym place) ∙ sym here ∙ ap (λ (u : List ℕ). slice_index u 0) e

byte_spelled : (s : List ℕ) (at next : ℕ) → at + 1 ≡ next → at < length s → drop at s ≡ slice_index s at ∷ drop next s
byte_spelled s at next step lt = drop_more s at 0 lt ∙ ap (λ (k : ℕ). slice_index s at ∷ drop k s) step

-- ---- states, forms and numbers

frozen_read : (b : Bool) → (state_code b == 2) ≡ b
frozen_read true = refl
frozen_read false = refl

state_written : (n : ℕ) → (n ≡ 1) ⊎ (n ≡ 2) → state_code (n == 2) ≡ n
state_written n (inl e) = ap (λ (k : ℕ). state_code (k == 2)) e ∙ sym e
state_written n (inr e) = ap (λ (k : ℕ). state_code (k == 2)) e ∙ sym e

state_known : (n : ℕ) (b : Bool) → n ≡ state_code b → (n == 1 || n == 2) ≡ true
state_known n true e = ap (λ (k : ℕ). k == 1 || k == 2) e
state_known n false e = ap (λ (k : ℕ). k == 1 || k == 2) e

known_state : (n : ℕ) → (n == 1 || n == 2) ≡ true → (n ≡ 1) ⊎ (n ≡ 2)
known_state n e = elim (or_cases (n == 1) (n == 2) e) [ inl a ↦ inl (eqb-true n 1 a) | inr b ↦ inr (eqb-true n 2 b) ]

abbrev IsOlderField : Option ℕ → Type 0
IsOlderField older = IfSome older (λ number. (1 ≤ number) × (number < 2 ^ 64))

older_back : (o : Option ℕ) → IsOlderField o → number_read (number_or_none o) ≡ o
older_back None is = refl
older_back (Some zero) is = absurd (omega (arith, is.0))
older_back (Some (suc n)) is = refl

older_written : (n : ℕ) → number_or_none (number_read n) ≡ n
older_written zero = refl
older_written (suc n) = refl

older_less : (o : Option ℕ) → IsOlderField o → number_or_none o < 2 ^ 64
older_less None is = omega arith
older_less (Some n) is = is.1

older_fits : (n : ℕ) → n < 2 ^ 64 → IsOlderField (number_read n)
older_fits zero lt = tt
older_fits (suc n) lt = (omega arith, lt)

-- ---- roots

abbrev made_root : ℕ → Option PageNo → ℕ → Root
made_root height page size = record { height = height; page = page; size = size }

root_passes : (leaves nodes height size : ℕ) (page : Option PageNo) → (size ≡ 0 → (height ≡ 0) × (page ≡ None)) → (0 < size → IsSome page) → IsRootNumber (roots_most leaves nodes height) page → root_is_good leaves nodes height size page ≡ true
root_passes leaves nodes height size None empty named number = elim (cases_lt 0 size) [
  | inl lt ↦ let no = named lt in absurd (cc)
  | inr le ↦
      let zero_is : size ≡ 0 = omega arith in
      and_from (size == 0) (height == 0) (eq-eqb size 0 zero_is) (eq-eqb height 0 (empty zero_is).0)
]
root_passes leaves nodes height size (Some page) empty named number = elim (cases_lt 0 size) [
  | inl lt ↦ and_from (nat_lt 0 size) (nat_le page.0 (roots_most leaves nodes height)) (lt-ltb 0 size lt) (le-leb page.0 (roots_most leaves nodes height) number.1)
  | inr le ↦ let no = (empty (omega arith)).1 in absurd (cc)
]

root_made : (leaves nodes height size : ℕ) (page : Option PageNo) → height ≤ 255 → size < 2 ^ 64 → IsPageField page → root_is_good leaves nodes height size page ≡ true → IsRootField (made_root height page size) × IsRootNumber (roots_most leaves nodes height) page
root_made leaves nodes height size None low lt field e =
    let both = and_parts (size == 0) (height == 0) e in
    (record { height = low; size = lt; page = field; empty = λ z. (eqb-true height 0 both.1, refl); named = λ some. absurd (let none : size ≡ 0 = eqb-true size 0 both.0 in omega arith) }, tt)
root_made leaves nodes height size (Some page) low lt field e =
    let both = and_parts (nat_lt 0 size) (nat_le page.0 (roots_most leaves nodes height)) e in (
      record { height = low; size = lt; page = field; empty = λ z. absurd (let some : 0 < size = ltb-true 0 size both.0 in omega arith); named = λ some. refl },
      (omega (arith, field.0), leb-true page.0 (roots_most leaves nodes height) both.1),
    )

-- ---- what the bytes of a version's item say

-- what it begins with
record Head (v : HistoryVersion) (s : List ℕ) : Type 0 where
  unique : number_at 8 s 0 ≡ v.unique
  state : slice_index s 8 ≡ state_code v.frozen
  older : number_at 8 s 9 ≡ number_or_none v.older
  content : drop 17 s ≡ content_item v.content
  len : length s ≡ 17 + length (content_item v.content)

pub length-version : (v : HistoryVersion) → length (version_item v) ≡ 17 + length (content_item v.content)
length-version v = omega (arith, length-append (eight_bytes v.unique) ((state_code v.frozen ∷ []) ++ (eight_bytes (number_or_none v.older) ++ content_item v.content)), length-append (eight_bytes (number_or_none v.older)) (content_item v.content), eight_is.len v.unique, eight_is.len (number_or_none v.older))

head_said : (g : Geometry) (leaves nodes : ℕ) (v : HistoryVersion) → IsVersionItem g leaves nodes v → Head v (version_item v)
head_said g leaves nodes v is =
    let s : List ℕ = version_item v in
    let behind : drop 8 (version_item v) ≡ state_code v.frozen ∷ (eight_bytes (number_or_none v.older) ++ content_item v.content) = drop_at (eight_bytes v.unique) ((state_code v.frozen ∷ []) ++ (eight_bytes (number_or_none v.older) ++ content_item v.content)) 8 (eight_is.len v.unique) in
    let nine : drop 9 (version_item v) ≡ eight_bytes (number_or_none v.older) ++ content_item v.content = behind_more (version_item v) (state_code v.frozen ∷ []) (eight_bytes (number_or_none v.older) ++ content_item v.content) 8 1 9 behind refl refl in
    record {
      unique = eight_is.again v.unique _ is.unique;
      state = byte_behind (version_item v) _ 8 (state_code v.frozen) behind;
      older = number_there 8 (2 ^ 64) eight_bytes eight_is (version_item v) (content_item v.content) 9 (number_or_none v.older) nine (older_less v.older is.older);
      content = behind_more (version_item v) (eight_bytes (number_or_none v.older)) (content_item v.content) 9 8 17 nine (eight_is.len (number_or_none v.older)) refl;
      len = length-version v;
    }

pub length-small : (bytes : List ℕ) → length (content_item (Small bytes)) ≡ 3 + length bytes
length-small bytes = omega (arith, length-append (two_bytes (length bytes)) bytes, two_is.len (length bytes))

pub length-large : (root : Root) → length (content_item (Large root)) ≡ 14
length-large root = omega (arith, length-append (eight_bytes root.size) ((root.height ∷ []) ++ page_field root.page), eight_is.len root.size, length-page_field root.page)

-- what a small one holds
record SmallSaid (bytes s : List ℕ) : Type 0 where
  form : slice_index s 17 ≡ 1
  count : number_at 2 s 18 ≡ length bytes
  bytes_are : bytes_at s 20 (number_at 2 s 18) ≡ bytes
  len : length (content_item (Small bytes)) ≡ 3 + length bytes

small_said : (bytes s : List ℕ) → length bytes < 2 ^ 16 → drop 17 s ≡ content_item (Small bytes) → SmallSaid bytes s
small_said bytes s few e =
    let eighteen : drop 18 s ≡ two_bytes (length bytes) ++ bytes = behind_more s (1 ∷ []) (two_bytes (length bytes) ++ bytes) 17 1 18 e refl refl in
    let twenty : drop 20 s ≡ bytes = behind_more s (two_bytes (length bytes)) bytes 18 2 20 eighteen (two_is.len (length bytes)) refl in
    let count : number_at 2 s 18 ≡ length bytes = number_there 2 (2 ^ 16) two_bytes two_is s bytes 18 (length bytes) eighteen few in
    record {
      form = byte_behind s (two_bytes (length bytes) ++ bytes) 17 1 e;
      count = count;
      bytes_are = ap (λ (k : ℕ). take k (drop 20 s)) count ∙ ap (take (length bytes)) twenty ∙ take_all (length bytes) bytes (omega arith);
      len = length-small bytes;
    }

-- what a large one holds
record LargeSaid (root : Root) (s : List ℕ) : Type 0 where
  form : slice_index s 17 ≡ 2
  root_is : root_read s ≡ root
  len : length (content_item (Large root)) ≡ 14

large_said : (root : Root) (s : List ℕ) → IsRootField root → drop 17 s ≡ content_item (Large root) → LargeSaid root s
large_said root s is e =
    let behind : List ℕ = (root.height ∷ []) ++ page_field root.page in
    let eighteen : drop 18 s ≡ eight_bytes root.size ++ ((root.height ∷ []) ++ page_field root.page) = behind_more s (2 ∷ []) (eight_bytes root.size ++ ((root.height ∷ []) ++ page_field root.page)) 17 1 18 e refl refl in
    let six : drop 26 s ≡ root.height ∷ page_field root.page = behind_more s (eight_bytes root.size) ((root.height ∷ []) ++ page_field root.page) 18 8 26 eighteen (eight_is.len root.size) refl in
    let seven : drop 27 s ≡ page_field root.page ++ [] = behind_more s (root.height ∷ []) (page_field root.page) 26 1 27 six refl refl ∙ sym (append-nil (page_field root.page)) in
    let size : number_at 8 s 18 ≡ root.size = number_there 8 (2 ^ 64) eight_bytes eight_is s ((root.height ∷ []) ++ page_field root.page) 18 root.size eighteen is.size in
    let height : slice_index s 26 ≡ root.height = byte_behind s (page_field root.page) 26 root.height six in
    let page : page_in s 27 ≡ root.page = page_there root.page s [] 27 is.page seven in
    let same : made_root (slice_index s 26) (page_in s 27) (number_at 8 s 18) ≡ made_root root.height root.page root.size = cc (height, page, size) in
    record {
      form = byte_behind s (eight_bytes root.size ++ ((root.height ∷ []) ++ page_field root.page)) 17 2 e;
      root_is = same;
      len = length-large root;
    }

content_back : (g : Geometry) (leaves nodes : ℕ) (content : Content) (s : List ℕ) → IsContentItem g leaves nodes content → drop 17 s ≡ content_item content → content_read s ≡ content
content_back g leaves nodes (Small bytes) s is e =
    let said = small_said bytes s (omega (arith, is, most_page g)) e in
    cond-true (slice_index s 17 == 1) (Small (bytes_at s 20 (number_at 2 s 18))) (Large (root_read s)) (eq-eqb (slice_index s 17) 1 said.form) ∙ ap Small said.bytes_are
content_back g leaves nodes (Large root) s is e =
    let said = large_said root s is.0 e in
    cond-false (slice_index s 17 == 1) (Small (bytes_at s 20 (number_at 2 s 18))) (Large (root_read s)) (ne_eqb (slice_index s 17) 1 (λ one. absurd (omega (arith, one, said.form)))) ∙ ap Large said.root_is

abbrev made_version : ℕ → Bool → Option ℕ → Content → HistoryVersion
made_version unique frozen older content = record { unique = unique; frozen = frozen; older = older; content = content }

pub version_back : (g : Geometry) (leaves nodes : ℕ) (v : HistoryVersion) → IsVersionItem g leaves nodes v → version_read (version_item v) ≡ v
version_back g leaves nodes v is =
    let s : List ℕ = version_item v in
    let said = head_said g leaves nodes v is in
    let frozen : (slice_index (version_item v) 8 == 2) ≡ v.frozen = ap (λ (k : ℕ). k == 2) said.state ∙ frozen_read v.frozen in
    let older : number_read (number_at 8 (version_item v) 9) ≡ v.older = ap number_read said.older ∙ older_back v.older is.older in
    let content : content_read (version_item v) ≡ v.content = content_back g leaves nodes v.content (version_item v) is.content said.content in
    let same : made_version (number_at 8 (version_item v) 0) (slice_index (version_item v) 8 == 2) (number_read (number_at 8 (version_item v) 9)) (content_read (version_item v)) ≡ made_version v.unique v.frozen v.older v.content =
    cc (said.unique, frozen, older, content) in
    same

-- ---- what is spelled by what is read

small_spelled : (bytes : List ℕ) → IsBytes bytes → slice_index bytes 17 ≡ 1 → length bytes ≡ 20 + number_at 2 bytes 18 → drop 17 bytes ≡ content_item (content_read bytes)
small_spelled bytes are form len =
    let n : ℕ = number_at 2 bytes 18 in
    let held : List ℕ = bytes_at bytes 20 (number_at 2 bytes 18) in
    let size : length (bytes_at bytes 20 (number_at 2 bytes 18)) ≡ number_at 2 bytes 18 = length-bytes_at bytes 20 (number_at 2 bytes 18) (omega arith) in
    let tail : drop 20 bytes ≡ bytes_at bytes 20 (number_at 2 bytes 18) = sym (take_all (number_at 2 bytes 18) (drop 20 bytes) (omega (arith, length-drop 20 bytes))) in
    let count : drop 18 bytes ≡ two_bytes (number_at 2 bytes 18) ++ drop 20 bytes = number_spelled 2 (2 ^ 16) two_bytes two_is bytes 18 20 are refl (omega arith) in
    let whole : drop 17 bytes ≡ content_item (Small (bytes_at bytes 20 (number_at 2 bytes 18))) =
    byte_spelled bytes 17 18 refl (omega arith)
    ∙ ap (λ (k : ℕ). k ∷ drop 18 bytes) form
    ∙ ap (λ (t : List ℕ). 1 ∷ t) count
    ∙ ap (λ (t : List ℕ). 1 ∷ (two_bytes (number_at 2 bytes 18) ++ t)) tail
    ∙ ap (λ (k : ℕ). 1 ∷ (two_bytes k ++ bytes_at bytes 20 (number_at 2 bytes 18))) (sym size) in
    whole ∙ ap content_item (sym (cond-true (slice_index bytes 17 == 1) (Small (bytes_at bytes 20 (number_at 2 bytes 18))) (Large (root_read bytes)) (eq-eqb (slice_index bytes 17) 1 form)))

large_spelled : (bytes : List ℕ) → IsBytes bytes → slice_index bytes 17 ≡ 2 → length bytes ≡ 31 → drop 17 bytes ≡ content_item (content_read bytes)
large_spelled bytes are form len =
    let size : drop 18 bytes ≡ eight_bytes (number_at 8 bytes 18) ++ drop 26 bytes = number_spelled 8 (2 ^ 64) eight_bytes eight_is bytes 18 26 are refl (omega arith) in
    let height : drop 26 bytes ≡ slice_index bytes 26 ∷ drop 27 bytes = byte_spelled bytes 26 27 refl (omega arith) in
    let page : drop 27 bytes ≡ page_field (page_in bytes 27) = page_spelled bytes 27 31 are refl (omega arith) ∙ ap (λ (t : List ℕ). page_field (page_in bytes 27) ++ t) (drop_all 31 bytes (omega arith)) ∙ append-nil (page_field (page_in bytes 27)) in
    let whole : drop 17 bytes ≡ content_item (Large (root_read bytes)) =
    byte_spelled bytes 17 18 refl (omega arith)
    ∙ ap (λ (k : ℕ). k ∷ drop 18 bytes) form
    ∙ ap (λ (t : List ℕ). 2 ∷ t) size
    ∙ ap (λ (t : List ℕ). 2 ∷ (eight_bytes (number_at 8 bytes 18) ++ t)) height
    ∙ ap (λ (t : List ℕ). 2 ∷ (eight_bytes (number_at 8 bytes 18) ++ (slice_index bytes 26 ∷ t))) page in
    whole ∙ ap content_item (sym (cond-false (slice_index bytes 17 == 1) (Small (bytes_at bytes 20 (number_at 2 bytes 18))) (Large (root_read bytes)) (ne_eqb (slice_index bytes 17) 1 (λ one. absurd (omega (arith, one, form))))))

version_spelled : (bytes : List ℕ) → IsBytes bytes → 18 ≤ length bytes → (slice_index bytes 8 ≡ 1) ⊎ (slice_index bytes 8 ≡ 2) → drop 17 bytes ≡ content_item (content_read bytes) → bytes ≡ version_item (version_read bytes)
version_spelled bytes are long state content =
    let unique : bytes ≡ eight_bytes (number_at 8 bytes 0) ++ drop 8 bytes = number_spelled 8 (2 ^ 64) eight_bytes eight_is bytes 0 8 are refl (omega arith) in
    let nine : drop 8 bytes ≡ slice_index bytes 8 ∷ drop 9 bytes = byte_spelled bytes 8 9 refl (omega arith) in
    let older : drop 9 bytes ≡ eight_bytes (number_at 8 bytes 9) ++ drop 17 bytes = number_spelled 8 (2 ^ 64) eight_bytes eight_is bytes 9 17 are refl (omega arith) in
    unique
    ∙ ap (λ (t : List ℕ). eight_bytes (number_at 8 bytes 0) ++ t) (nine ∙ ap (λ (k : ℕ). k ∷ drop 9 bytes) (sym (state_written (slice_index bytes 8) state)))
    ∙ ap (λ (t : List ℕ). eight_bytes (number_at 8 bytes 0) ++ (state_code (slice_index bytes 8 == 2) ∷ t)) (older ∙ ap (λ (k : ℕ). eight_bytes k ++ drop 17 bytes) (sym (older_written (number_at 8 bytes 9))) ∙ ap (λ (t : List ℕ). eight_bytes (number_or_none (number_read (number_at 8 bytes 9))) ++ t) content)

version_made : (g : Geometry) (leaves nodes : ℕ) (bytes : List ℕ) → IsBytes bytes → IsContentItem g leaves nodes (content_read bytes) → IsVersionItem g leaves nodes (version_read bytes)
version_made g leaves nodes bytes are content = record {
  unique = eight_is.below bytes 0 are;
  older = older_fits (number_at 8 bytes 9) (eight_is.below bytes 9 are);
  content = content;
}

-- ---- items that begin so

abbrev IsItem : Geometry → ℕ → ℕ → HistoryVersion → Type 0
IsItem g leaves nodes v = IsVersionItem g leaves nodes v

pub content_long : (content : Content) → 3 ≤ length (content_item content)
content_long (Small bytes) = omega (arith, length-small bytes)
content_long (Large root) = omega (arith, length-large root)

pub version_long : (g : Geometry) (leaves nodes : ℕ) (v : HistoryVersion) → IsVersionItem g leaves nodes v → 20 ≤ length (version_item v)
version_long g leaves nodes v is = omega (arith, (head_said g leaves nodes v is).len, content_long v.content)

record SmallBegun (g : Geometry) (s : List ℕ) : Type 0 where
  fits : number_at 2 s 18 + 44 ≤ g.page_size
  len : length s ≡ 20 + number_at 2 s 18

small_begun : (g : Geometry) (leaves nodes : ℕ) (content : Content) (s : List ℕ) → IsContentItem g leaves nodes content → drop 17 s ≡ content_item content → length s ≡ 17 + length (content_item content) → slice_index s 17 ≡ 1 → SmallBegun g s
small_begun g leaves nodes (Small bytes) s is e len form =
    let said = small_said bytes s (omega (arith, is, most_page g)) e in
    record { fits = omega (arith, is, said.count); len = omega (arith, len, said.len, said.count) }
small_begun g leaves nodes (Large root) s is e len form = absurd (let said = large_said root s is.0 e in omega (arith, form, said.form))

record LargeBegun (leaves nodes : ℕ) (s : List ℕ) : Type 0 where
  len : length s ≡ 31
  good : is_good_root leaves nodes (root_read s) ≡ true

large_begun : (g : Geometry) (leaves nodes : ℕ) (content : Content) (s : List ℕ) → IsContentItem g leaves nodes content → drop 17 s ≡ content_item content → length s ≡ 17 + length (content_item content) → slice_index s 17 ≡ 2 → LargeBegun leaves nodes s
large_begun g leaves nodes (Small bytes) s is e len form = absurd (let said = small_said bytes s (omega (arith, is, most_page g)) e in omega (arith, form, said.form))
large_begun g leaves nodes (Large root) s is e len form =
    let said = large_said root s is.0 e in
    record {
      len = omega (arith, len, said.len);
      good = ap (is_good_root leaves nodes) said.root_is ∙ root_passes leaves nodes root.height root.size root.page is.0.empty is.0.named is.1;
    }

known_form : (g : Geometry) (leaves nodes : ℕ) (content : Content) (s : List ℕ) → IsContentItem g leaves nodes content → drop 17 s ≡ content_item content → (slice_index s 17 ≡ 1) ⊎ (slice_index s 17 ≡ 2)
known_form g leaves nodes (Small bytes) s is e = inl (small_said bytes s (omega (arith, is, most_page g)) e).form
known_form g leaves nodes (Large root) s is e = inr (large_said root s is.0 e).form

-- ---- its need

small_needs : (g : Geometry) (leaves nodes : ℕ) (bytes : List ℕ) → IsBytes bytes → 18 ≤ length bytes → (slice_index bytes 8 ≡ 1) ⊎ (slice_index bytes 8 ≡ 2) → slice_index bytes 17 ≡ 1 → Needs HistoryVersion (IsVersionItem g leaves nodes) version_item (item_most g) bytes (need_of_small g bytes)
small_needs g leaves nodes bytes are long state form =
    needs_behind HistoryVersion (IsVersionItem g leaves nodes) version_item (item_most g) bytes 20 _ _ (omega (arith, leaf_some g))
    (λ v is. version_long g leaves nodes v is)
    (λ there v is begins. let begun = begun_so v is begins in le-leb (number_at 2 bytes 18 + 44) g.page_size (omega (arith, begun.fits, count_begun v begins there)))
    (λ there good. let fits = leb-true (number_at 2 bytes 18 + 44) g.page_size good in
    needs_whole HistoryVersion (IsVersionItem g leaves nodes) version_item (item_most g) bytes (20 + number_at 2 bytes 18) true (omega (arith, fits, page_le g))
    (λ v is begins. let begun = begun_so v is begins in omega (arith, begun.len, count_begun v begins there))
    (λ v is e. refl)
    (λ len _. (version_read bytes, version_made g leaves nodes bytes are (small_made fits len), version_spelled bytes are long state (small_spelled bytes are form len))))
  where
    begun_so : (v : HistoryVersion) → IsVersionItem g leaves nodes v → BeginsWith (version_item v) bytes → SmallBegun g (version_item v)
    begun_so v is begins =
        let said = head_said g leaves nodes v is in
        small_begun g leaves nodes v.content (version_item v) is.content said.content said.len (sym (byte_begun (version_item v) bytes 17 begins (omega arith)) ∙ form)

    count_begun : (v : HistoryVersion) → BeginsWith (version_item v) bytes → 20 ≤ length bytes → number_at 2 bytes 18 ≡ number_at 2 (version_item v) 18
    count_begun v begins there = number_begun 2 (version_item v) bytes 18 begins (omega arith)

    small_made : number_at 2 bytes 18 + 44 ≤ g.page_size → length bytes ≡ 20 + number_at 2 bytes 18 → IsContentItem g leaves nodes (content_read bytes)
    small_made fits len =
        let size : length (bytes_at bytes 20 (number_at 2 bytes 18)) ≡ number_at 2 bytes 18 = length-bytes_at bytes 20 (number_at 2 bytes 18) (omega arith) in
        subst (IsContentItem g leaves nodes) (sym (cond-true (slice_index bytes 17 == 1) (Small (bytes_at bytes 20 (number_at 2 bytes 18))) (Large (root_read bytes)) (eq-eqb (slice_index bytes 17) 1 form))) (omega (arith, size, fits))

large_needs : (g : Geometry) (leaves nodes : ℕ) (bytes : List ℕ) → IsBytes bytes → 18 ≤ length bytes → (slice_index bytes 8 ≡ 1) ⊎ (slice_index bytes 8 ≡ 2) → slice_index bytes 17 ≡ 2 → Needs HistoryVersion (IsVersionItem g leaves nodes) version_item (item_most g) bytes (need_of_large leaves nodes bytes)
large_needs g leaves nodes bytes are long state form =
    needs_whole HistoryVersion (IsVersionItem g leaves nodes) version_item (item_most g) bytes 31 _ (omega (arith, leaf_some g))
    (λ v is begins. (begun_so v is begins).len)
    (λ v is e. let begun = begun_so v is ([], (sym e ∙ sym (append-nil bytes))) in ap (λ (t : List ℕ). is_good_root leaves nodes (root_read t)) e ∙ begun.good)
    (λ len good. (version_read bytes, version_made g leaves nodes bytes are (large_made good), version_spelled bytes are long state (large_spelled bytes are form len)))
  where
    begun_so : (v : HistoryVersion) → IsVersionItem g leaves nodes v → BeginsWith (version_item v) bytes → LargeBegun leaves nodes (version_item v)
    begun_so v is begins =
        let said = head_said g leaves nodes v is in
        large_begun g leaves nodes v.content (version_item v) is.content said.content said.len (sym (byte_begun (version_item v) bytes 17 begins (omega arith)) ∙ form)

    large_made : is_good_root leaves nodes (root_read bytes) ≡ true → IsContentItem g leaves nodes (content_read bytes)
    large_made good =
        subst (IsContentItem g leaves nodes) (sym (cond-false (slice_index bytes 17 == 1) (Small (bytes_at bytes 20 (number_at 2 bytes 18))) (Large (root_read bytes)) (ne_eqb (slice_index bytes 17) 1 (λ one. absurd (omega (arith, one, form))))))
        (root_made leaves nodes (slice_index bytes 26) (number_at 8 bytes 18) (page_in bytes 27) (let low : slice_index bytes 26 < 256 = are 26 in omega arith) (eight_is.below bytes 18 are) (page_fits bytes 27 are) good)

pub version_needs : (g : Geometry) (leaves nodes : ℕ) (bytes : List ℕ) → IsBytes bytes → Needs HistoryVersion (IsVersionItem g leaves nodes) version_item (item_most g) bytes (need_of_version g leaves nodes bytes)
version_needs g leaves nodes bytes are =
    needs_behind HistoryVersion (IsVersionItem g leaves nodes) version_item (item_most g) bytes 18 _ _ (omega (arith, leaf_some g))
    (λ v is. omega (arith, version_long g leaves nodes v is))
    (λ there v is begins. state_known (slice_index bytes 8) v.frozen (byte_begun (version_item v) bytes 8 begins (omega arith) ∙ (head_said g leaves nodes v is).state))
    (λ there good. by_form (slice_index bytes 17 == 1) (slice_index bytes 17 == 2) there (known_state (slice_index bytes 8) good) refl refl)
  where
    by_form : (small large : Bool) → 18 ≤ length bytes → (slice_index bytes 8 ≡ 1) ⊎ (slice_index bytes 8 ≡ 2) → (slice_index bytes 17 == 1) ≡ small → (slice_index bytes 17 == 2) ≡ large → Needs HistoryVersion (IsVersionItem g leaves nodes) version_item (item_most g) bytes (if small then need_of_small g bytes else if large then need_of_large leaves nodes bytes else None)
    by_form true large there state e f = small_needs g leaves nodes bytes are there state (eqb-true (slice_index bytes 17) 1 e)
    by_form false true there state e f = large_needs g leaves nodes bytes are there state (eqb-true (slice_index bytes 17) 2 f)
    by_form false false there state e f = needs_none HistoryVersion (IsVersionItem g leaves nodes) version_item (item_most g) bytes (λ v is begins.
        let same : slice_index bytes 17 ≡ slice_index (version_item v) 17 = byte_begun (version_item v) bytes 17 begins (omega arith) in
        elim (known_form g leaves nodes v.content (version_item v) is.content (head_said g leaves nodes v is).content) [
          | inl one ↦ eqb-false (slice_index bytes 17) 1 e (same ∙ one)
          | inr two ↦ eqb-false (slice_index bytes 17) 2 f (same ∙ two)
        ])
