-- Records that are written in the place of others.
use Rattle.std.proofs.Common.{◌≡◌, ◌≤◌, ◌<◌, ◌+◌, ◌-◌, ◌^◌, ℕ, zero, suc, max, List, [], ◌∷◌, ◌++◌, length, Option, Some, None, refl, ap, ◌∙◌, arith}
use Rattle.std.specs.Prelude.{slice_index_or, IsSome}
use Rattle.std.proofs.lemmas.List.{length-append, length-replicate}
use Rattle.ex_base.specs.declared.ground.Ground as ground
use Rattle.ex_base.specs.declared.geometry.Geometry.{Geometry}
use Rattle.ex_base.specs.declared.names.PageNo.{PageNo}
use Rattle.ex_base.specs.declared.names.Place.{Place}
use Rattle.ex_base.specs.declared.names.Root.{Root}
use Rattle.ex_base.specs.Fields.{IsPageField, two_bytes, eight_bytes, zeros, padded, place_field}
use Rattle.ex_base.proofs.FieldLaws.{two_is, eight_is}
use Rattle.ex_base.proofs.Places.{length-place_field}
use Rattle.ex_base.proofs.Counts.{contains_times}
use Rattle.ex_base.specs.Sizes.{most_page}
use Rattle.ex_base.specs.declared.names.Area.{Area}
use Rattle.ex_base.specs.Needs.{growth_need}
use Rattle.ex_base.proofs.NeedLaws.{growth_need_up}
use Rattle.slotted_pages.specs.FilePage.{Slot, bodies, body_of}
use Rattle.slotted_pages.specs.Edits.{slots_of}
use Rattle.object_records.specs.declared.Head.{Head}
use Rattle.object_records.specs.Record.{Record, Small, IsRecord, BodyOf, state_byte, content_bytes}
use Rattle.object_records.specs.Reads.{small_record, large_record}
use Rattle.object_records.proofs.RecordLaws.{record_fields}
use Rattle.ex_base.specs.declared.names.Index.{Index}
use Rattle.file_bodies.specs.Bodies.{pages_in}
use Rattle.file_bodies.specs.Files.{HasBody, IsPageOf}
use Rattle.file_bodies.proofs.Rows.{each_at}
use Rattle.trees.specs.Roots.{IsRootFor}
use Rattle.versions.specs.Versions.{FitsIn}

some_page : (page : Option PageNo) → (page ≡ None → ⊥) → IsSome page
some_page None h = absurd (h refl)
some_page (Some page) h = refl

pub root_record : (g : Geometry) (head : Head) (root : Root) → IsRecord (small_record head []) → IsRootFor g root → IsPageField root.page → IsRecord (large_record head root)
root_record g head root h for page = record {
  unique = h.unique;
  older = h.older;
  newer = h.newer;
  newer_fits = h.newer_fits;
  content = record {
    height = omega (arith, for.low);
    size = omega (arith, for.small);
    page = page;
    empty = λ is. ((for.none (for.some is)).1, for.some is);
    named = λ lt. some_page root.page (λ is. omega (arith, lt, (for.none is).0));
  };
}

pub small_fits : (head : Head) (bytes : List ℕ) → IsRecord (small_record head []) → length bytes < 2 ^ 16 → IsRecord (small_record head bytes)
small_fits head bytes h few = record { unique = h.unique; older = h.older; newer = h.newer; newer_fits = h.newer_fits; content = few }

-- ---- a body is no longer than its page

pub body_within : (slots : List Slot) (k : ℕ) (body : List ℕ) → slice_index_or slots k None ≡ Some body → length body ≤ length (bodies slots)
body_within [] k body is = absurd (let e : None ≡ Some body = is in cc)
body_within (s ∷ slots) zero body is =
    let e : length (body_of s) ≡ length body = ap (λ (t : Slot). length (body_of t)) is in
    omega (arith, e, length-append (body_of s) (bodies slots))
body_within (s ∷ slots) (suc k) body is = omega (arith, body_within slots k body is, length-append (body_of s) (bodies slots))

module _ {S : Type 0} (g : ground.Ghosts S) where
  pub page_is : (s : S) (index : Index) (place : Place) (was : List ℕ) → HasBody g s index place was → IsPageOf index.file_no (g.image s place.page.0)
  page_is s index place was has = each_at (λ q. IsPageOf index.file_no (g.image s q)) (pages_in (g.image s) index) place.page.0 has.file.pages (contains_times place.page.0 (pages_in (g.image s) index) has.named)

  pub body_most : (s : S) (index : Index) (place : Place) (was : List ℕ) → HasBody g s index place was → 16 + length was ≤ length (g.image s place.page.0)
  body_most s index place was has =
      omega (arith, body_within (slots_of (g.image s place.page.0)) place.slot was has.stands, (page_is s index place was has).spelled.fits.room)

  pub never_fits : (s : S) (index : Index) (place : Place) (was : List ℕ) (n : ℕ) → HasBody g s index place was → 65535 < n → FitsIn g s place.page.0 (length was) n → ⊥
  never_fits s index place was n has many fits =
      omega (arith, many, fits, body_most s index place was has, (page_is s index place was has).spelled.fits.page, most_page (g.geometry s))

-- ---- the length of a record's body

pub body_long : (body : List ℕ) (head : Head) (bytes : List ℕ) → BodyOf body (small_record head bytes) → length body ≡ 24 + max 12 (length bytes)
body_long body head bytes h =
    let r : Record = small_record head bytes in
    let whole : body ≡ 1 ∷ state_byte head.state ∷ (eight_bytes head.unique ++ (place_field head.older ++ (place_field head.newer ++ content_bytes (Small bytes)))) = h.spelled ∙ record_fields r in
    omega (
      arith,
      ap length whole,
      length-append (eight_bytes head.unique) (place_field head.older ++ (place_field head.newer ++ content_bytes (Small bytes))),
      eight_is.len head.unique,
      length-append (place_field head.older) (place_field head.newer ++ content_bytes (Small bytes)),
      length-place_field head.older,
      length-append (place_field head.newer) (content_bytes (Small bytes)),
      length-place_field head.newer,
      length-append (two_bytes (length bytes)) (padded 12 bytes),
      two_is.len (length bytes),
      length-append bytes (zeros (12 - length bytes)),
      length-replicate {A = ℕ} (12 - length bytes) 0,
    )

module _ {S : Type 0} (g : ground.Ghosts S) where
  -- a record is no longer than its page, and one of so few bytes fits in the place of a longer one
  pub small_most : (s : S) (index : Index) (place : Place) (was : List ℕ) (head : Head) (held : List ℕ) → HasBody g s index place was → BodyOf was (small_record head held) → length held ≤ length (g.image s place.page.0)
  small_most s index place was head held has spelled = omega (arith, body_most g s index place was has, body_long was head held spelled)

  pub less_fits : (s : S) (page n : ℕ) (was : List ℕ) (head : Head) (held : List ℕ) → BodyOf was (small_record head held) → n ≤ length held → FitsIn g s page (length was) n
  less_fits s page n was head held spelled few = omega (arith, body_long was head held spelled)

-- ---- what the first leaves ask for

pub first_need : (geo : Geometry) (n count : ℕ) (area : Area) → n ≤ count + geo.page_size → growth_need geo (n - geo.page_size) 0 area ≤ growth_need geo count 0 area
first_need geo n count area le = growth_need_up geo (n - geo.page_size) count 0 area (omega (arith, le))
