-- What a version holds, with the number of its root in the place of the root's page, and the bytes of its item.
use Rattle.std.proofs.Common.{◌≡◌, ◌≤◌, ◌<◌, ◌+◌, ◌^◌, ℕ, zero, suc, List, [], ◌∷◌, length, Option, Some, None, refl, sym, subst, ap, ◌∙◌, arith}
use Rattle.std.specs.Prelude.{IsSome, slice_index_or}
use Rattle.std.specs.Option.{option_map}
use Rattle.std.proofs.lemmas.List.{length-append}
use Rattle.std.proofs.lemmas.Option.{none-some, same_Some}
use Rattle.ex_base.specs.declared.ground.Ground as ground
use Rattle.ex_base.specs.declared.names.Index.{Index}
use Rattle.ex_base.specs.declared.names.PageNo.{PageNo}
use Rattle.ex_base.specs.declared.names.Place.{Place}
use Rattle.ex_base.specs.declared.names.Root.{Root}
use Rattle.ex_base.specs.Fields.{IsPageField}
use Rattle.ex_base.proofs.Each.{each_of}
use Rattle.file_bodies.specs.Bodies.{pages_in}
use Rattle.file_bodies.specs.Files.{HasBody, IsPageOf}
use Rattle.slotted_pages.specs.FilePage.{Slot, bodies, body_of}
use Rattle.slotted_pages.specs.Reads.{page_on}
use Rattle.object_records.specs.Record.{BodyOf, Content, IsContent, Large, Record, Small}
use Rattle.object_records.proofs.RecordLaws.{record_read, spelled_reads}
use Rattle.history_model.specs.History.{HistoryVersion}
use Rattle.history_model.specs.Stream.{content_item, version_item}
use Rattle.history_items.proofs.VersionItems.{length-large, length-small, length-version}
use Rattle.history_volumes.specs.Transcribed.{number_in}
use Rattle.history_volumes.proofs.Numbers.{number_some}
use Rattle.history_volumes.proofs.Placed.{small_len}
use Rattle.history_plans.specs.Plans.{StreamPlan, pages_at}
use Rattle.history_dump.specs.Items.{IsNumberedContent, page_numbered}

-- ---- numbers

-- a number that was found has a field
pub number_field : (pages : List ℕ) (page number : ℕ) → number_in pages page ≡ Some number → number < 2 ^ 32 → (0 < number) × (number < 2 ^ 32)
number_field pages page number is fits = let at = number_some pages page number is in (omega (arith, at.some), fits)

some_numbered : (pages : List ℕ) (page number : Option PageNo) → page_numbered pages page ≡ Some number → IsSome page → IsSome number
some_numbered pages None number is some = absurd (cc)
some_numbered pages (Some page) number is some = by (number_in pages page.0) is
  where
    by : (o : Option ℕ) → option_map (λ (n : ℕ). let p : PageNo = record { 0 = n } in Some p) o ≡ Some number → IsSome number
    by None e = absurd (none-some number e)
    by (Some n) e = subst (λ (o : Option PageNo). IsSome o) (same_Some (let p : PageNo = record { 0 = n } in Some p) number e) refl

-- what has a spelling has one with a number too
pub numbered_fits : (plan : StreamPlan) (was : Root) (root : Root) → root.height ≡ was.height → root.size ≡ was.size → page_numbered (pages_at was.height plan) was.page ≡ Some root.page → IsPageField root.page
    → IsContent (Large was) → IsContent (Large root)
numbered_fits plan was root height size number field fits = record {
  height = omega (arith, height, fits.height);
  size = omega (arith, size, fits.size);
  page = field;
  empty = λ none.
      let e = fits.empty (sym size ∙ none) in
      let page : root.page ≡ None = same_Some root.page None (sym number ∙ ap (page_numbered (pages_at was.height plan)) e.1) in
      (height ∙ e.0, page);
  named = λ some. some_numbered (pages_at was.height plan) was.page root.page number (fits.named (omega (arith, some, size)));
}

abbrev root_of : ℕ → Option PageNo → ℕ → Content
root_of height page size = Large (record { height = height; page = page; size = size })

pub content_large : (plan : StreamPlan) (was root : Root) → root.height ≡ was.height → root.size ≡ was.size → page_numbered (pages_at was.height plan) was.page ≡ Some root.page → IsNumberedContent plan (Large was) (Large root)
content_large plan was root height size number = (root.page, number, ap (λ (n : ℕ). root_of n root.page root.size) height ∙ ap (λ (n : ℕ). root_of was.height root.page n) size)

-- two contents that are numbered from one are one
pub one_content : (plan : StreamPlan) (was a b : Content) → IsNumberedContent plan was a → IsNumberedContent plan was b → a ≡ b
one_content plan (Small bytes) a b one two = one ∙ sym two
one_content plan (Large root) a b one two =
    let same : one.0 ≡ two.0 = same_Some one.0 two.0 (sym one.1 ∙ two.1) in
    one.2 ∙ ap (λ (page : Option PageNo). Large (record { height = root.height; page = page; size = root.size })) same ∙ sym two.2

-- ---- how long an item is

pub item_short : (plan : StreamPlan) (body : List ℕ) (r : Record) (content : Content) (v : HistoryVersion) → BodyOf body r → IsNumberedContent plan r.content content → v.content ≡ content → length (version_item v) ≤ length body
item_short plan body r content v spelled numbered is = by r.content refl numbered
  where
    by : (c : Content) → r.content ≡ c → IsNumberedContent plan c content → length (version_item v) ≤ length body
    by (Small held) e same =
        let len = small_len body held r spelled e in
        let item : length (content_item v.content) ≡ 3 + length held = ap (λ (x : Content). length (content_item x)) (is ∙ same) ∙ length-small held in
        omega (arith, len, item, length-version v)
    by (Large root) e same =
        let long = (spelled_reads body r spelled).0.long in
        let item : length (content_item v.content) ≡ 14 = ap (λ (x : Content). length (content_item x)) (is ∙ same.2) ∙ length-large _ in
        omega (arith, long, item, length-version v)

-- ---- a body is inside of its page

in_slots : (slots : List Slot) (i : ℕ) (body : List ℕ) → slice_index_or slots i None ≡ Some body → length body ≤ length (bodies slots)
in_slots [] i body is = absurd (none-some body is)
in_slots (s ∷ slots) zero body is = let same : body_of s ≡ body = ap body_of is in omega (arith, ap length same, length-append (body_of s) (bodies slots))
in_slots (s ∷ slots) (suc i) body is = let rest = in_slots slots i body is in omega (arith, rest, length-append (body_of s) (bodies slots))

module _ {S : Type 0} (g : ground.Ghosts S) (s : S) where
  pub body_inside : (index : Index) (place : Place) (body : List ℕ) → HasBody g s index place body → length body ≤ length (g.image s place.page.0)
  body_inside index place body has =
      let page = each_of (λ (p : ℕ). IsPageOf index.file_no (g.image s p)) (pages_in (g.image s) index) place.page.0 has.file.pages has.named in
      omega (arith, in_slots (page_on (g.image s place.page.0)).slots place.slot body has.stands, page.spelled.fits.room)

-- ---- one record

pub one_record : (body : List ℕ) (a b : Record) → BodyOf body a → BodyOf body b → a ≡ b
one_record body a b one two = sym (record_read body a one) ∙ record_read body b two
