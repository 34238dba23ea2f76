-- Records with other heads.
use Rattle.std.proofs.Common.{◌≡◌, ◌≤◌, ◌<◌, ◌+◌, ◌^◌, take, drop, take_all, ℕ, List, [], ◌∷◌, ◌++◌, length, sym, ap, subst, ◌∙◌, arith}
use Rattle.std.proofs.lemmas.List.{length-append, append-nil, drop_all}
use Rattle.ex_base.specs.declared.names.Root.{Root}
use Rattle.ex_base.specs.declared.ground.Ground as ground
use Rattle.ex_base.specs.declared.names.Place.{Place}
use Rattle.ex_base.proofs.Counts.{contains_times}
use Rattle.slotted_pages.specs.Edits.{slots_of}
use Rattle.ex_base.specs.declared.names.Index.{Index}
use Rattle.file_bodies.specs.Bodies.{pages_in}
use Rattle.file_bodies.specs.Files.{HasBody, IsPageOf}
use Rattle.file_bodies.proofs.Rows.{each_at}
use Rattle.ex_base.specs.Fields.{IsPlaceField, two_bytes, eight_bytes, page_field, place_field}
use Rattle.ex_base.proofs.FieldLaws.{two_is, eight_is}
use Rattle.ex_base.proofs.Reading.{length-page_field}
use Rattle.ex_base.proofs.Places.{length-place_field}
use Rattle.object_records.specs.declared.Head.{Head}
use Rattle.object_records.specs.Record.{Content, Small, Large, Record, IsRecord, BodyOf, NewerFits, state_byte, content_bytes}
use Rattle.object_records.specs.Reads.{small_record, large_record}
use Rattle.object_records.proofs.RecordLaws.{record_fields}
use Rattle.version_tree.specs.Copies.{content_len}
use Rattle.versions.proofs.Puts.{body_long, body_within}

large_long : (body : List ℕ) (head : Head) (root : Root) → BodyOf body (large_record head root) → length body ≡ 36
large_long body head root h =
    let r : Record = large_record head root in
    let whole : body ≡ 2 ∷ state_byte head.state ∷ (eight_bytes head.unique ++ (place_field head.older ++ (place_field head.newer ++ content_bytes (Large root)))) = h.spelled ∙ record_fields r in
    omega (
      arith,
      ap length whole,
      length-append (eight_bytes head.unique) (place_field head.older ++ (place_field head.newer ++ content_bytes (Large root))),
      eight_is.len head.unique,
      length-append (place_field head.older) (place_field head.newer ++ content_bytes (Large root)),
      length-place_field head.older,
      length-append (place_field head.newer) (content_bytes (Large root)),
      length-place_field head.newer,
      length-append (two_bytes root.height ++ eight_bytes root.size) (page_field root.page),
      length-append (two_bytes root.height) (eight_bytes root.size),
      two_is.len root.height,
      eight_is.len root.size,
      length-page_field root.page,
    )

-- the body of a record is as long as its content asks
pub record_long : (body : List ℕ) (head : Head) (content : Content) → BodyOf body (record { head = head; content = content }) → length body ≡ content_len content
record_long body head (Small bytes) h = body_long body head bytes h
record_long body head (Large root) h = large_long body head root h

long_content : (content : Content) → 36 ≤ content_len content
long_content (Small bytes) = omega arith
long_content (Large root) = omega arith

pub some_body : (body : List ℕ) (r : Record) → BodyOf body r → 36 ≤ length body
some_body body r h = omega (arith, record_long body r.head r.content h, long_content r.content)

-- a head that a record may have goes with each content
pub head_fits : (head : Head) (content : Content) (r : Record) → content ≡ r.content → IsRecord (small_record head []) → IsRecord r → IsRecord (record { head = head; content = content })
head_fits head content r same h is =
    subst (λ (t : Content). IsRecord (record { head = head; content = t })) (sym same)
    (record { unique = h.unique; older = h.older; newer = h.newer; newer_fits = h.newer_fits; content = is.content })

pub head_record : (head : Head) → head.unique < 2 ^ 64 → IsPlaceField head.older → IsPlaceField head.newer → NewerFits head.state head.newer → IsRecord (small_record head [])
head_record head unique older newer fits = record { unique = unique; older = older; newer = newer; newer_fits = fits; content = omega arith }

-- what was written through a slice of all items stands in them
pub slice_back : (xs ys : List ℕ) (n : ℕ) → length ys ≡ length xs → length xs ≡ n → take n (ys ++ drop (length ys) xs) ≡ ys
slice_back xs ys n same len =
    let none : drop (length ys) xs ≡ [] = drop_all (length ys) xs (omega (arith, same)) in
    ap (λ (t : List ℕ). take n (ys ++ t)) none ∙ ap (take n) (append-nil ys) ∙ take_all n ys (omega (arith, same, len))

-- a body leaves room on its page for the page's own bytes and its slot
pub body_fits : {S : Type 0} (g : ground.Ghosts S) (s : S) (index : Index) (place : Place) (body : List ℕ) → HasBody g s index place body → length body + 20 ≤ length (g.image s place.page.0)
body_fits g s index place body has =
    let page = each_at (λ q. IsPageOf index.file_no (g.image s q)) (pages_in (g.image s) index) place.page.0 has.file.pages (contains_times place.page.0 (pages_in (g.image s) index) has.named) in
    omega (arith, body_within (slots_of (g.image s place.page.0)) place.slot body has.stands, page.spelled.fits.room, page.some)
