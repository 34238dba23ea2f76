-- What is read on one page of a file.
use Rattle.std.proofs.Common.{◌≡◌, ◌≢◌, ◌≤◌, ◌<◌, ℕ, zero, suc, List, [], ◌∷◌, length, Option, Some, None, refl, sym, ap, subst, ◌∙◌, arith}
use Rattle.std.specs.Prelude.{slice_index_or, IsSome, IfSome, IfNone}
use Rattle.std.specs.List.{AllByRecursion}
use Rattle.std.specs.Option.{option_map}
use Rattle.slotted_pages.specs.FilePage.{Slot, FilePage, SlotsOf, IsSlot, body_of}
use Rattle.slotted_pages.specs.Reads.{Viewed, viewed_on, page_on, IsPage}
use Rattle.slotted_pages.specs.Edits.{slots_of, body_in}
use Rattle.slotted_pages.proofs.PageLaws.{page_read_is}
use Rattle.file_bodies.specs.Files.{IsPageOf, IsLive}
use Rattle.file_bodies.specs.Places.{IsFirstLive}

pub is_page : (page : List ℕ) (p : FilePage) → SlotsOf page p → IsPage page
is_page page p h = subst (SlotsOf page) (sym (page_read_is page p h)) h

pub slots_are : (page : List ℕ) (p : FilePage) → SlotsOf page p → slots_of page ≡ p.slots
slots_are page p h = ap (λ (q : FilePage). q.slots) (page_read_is page p h)

pub number_is : (page : List ℕ) (p : FilePage) → SlotsOf page p → (page_on page).file_no ≡ p.file_no
number_is page p h = ap (λ (q : FilePage). q.file_no) (page_read_is page p h)

pub viewed_is : (page : List ℕ) (v : Viewed) → v.size ≡ length page → SlotsOf page v.page → v ≡ viewed_on page
viewed_is page v size h =
    let one : v ≡ record { size = length page; page = v.page } = ap (λ (n : ℕ). let w : Viewed = record { size = n; page = v.page } in w) size in
    let two : record { size = length page; page = v.page } ≡ viewed_on page = ap (λ (p : FilePage). let w : Viewed = record { size = length page; page = p } in w) (sym (page_read_is page v.page h)) in
    one ∙ two

pub each_live : (slots : List Slot) (i : ℕ) (body : List ℕ) → AllByRecursion IsSlot slots → slice_index_or slots i None ≡ Some body → 1 ≤ length body
each_live [] i body h is = absurd (let e : None ≡ Some body = is in cc)
each_live (s ∷ slots) zero body h is = subst IsSlot is h.0
each_live (s ∷ slots) (suc i) body h is = each_live slots i body h.1 is

pub live_is : (page : List ℕ) (p : FilePage) (slot : ℕ) (body : List ℕ) → SlotsOf page p → Some body ≡ slice_index_or p.slots slot None → IsLive page slot
live_is page p slot body h is =
    let same : body_in page slot ≡ body = ap (λ (x : List Slot). body_of (slice_index_or x slot None)) (slots_are page p h) ∙ ap body_of (sym is) in
    omega (arith, ap length same, each_live p.slots slot body h.fits.slots (sym is))

pub not_live : (page : List ℕ) (p : FilePage) (slot : ℕ) → SlotsOf page p → None ≡ slice_index_or p.slots slot None → IsLive page slot → ⊥
not_live page p slot h is live =
    let same : body_in page slot ≡ [] = ap (λ (x : List Slot). body_of (slice_index_or x slot None)) (slots_are page p h) ∙ ap body_of (sym is) in
    absurd (omega (arith, ap length same, live))

-- a body that stands makes its slot live
pub stands_live : (page : List ℕ) (slot : ℕ) (body : List ℕ) → IsPage page → slice_index_or (slots_of page) slot None ≡ Some body → IsLive page slot
stands_live page slot body h is = live_is page (page_on page) slot body h (sym is)

pub page_is_of : (page : List ℕ) (p : FilePage) (file_no : ℕ) → SlotsOf page p → p.file_no ≡ file_no → length p.slots ≢ 0 → IsPageOf file_no page
page_is_of page p file_no h number some = record {
  spelled = is_page page p h;
  number = number_is page p h ∙ number;
  some = omega (arith, ap length (slots_are page p h), some);
}

pub some_map : {A B : Type 0} (f : A → B) (o : Option A) → IsSome o → IsSome (option_map f o)
some_map f None h = h
some_map f (Some x) h = refl

-- ---- what a view that was made of a page tells

pub no_slots : (page : List ℕ) (p : FilePage) (n : ℕ) → SlotsOf page p → n ≡ length p.slots → n ≡ 0 → slots_of page ≡ []
no_slots page p n h count none = slots_are page p h ∙ empty p.slots (omega (arith, count, none))
  where
    empty : (slots : List Slot) → length slots ≡ 0 → slots ≡ []
    empty [] e = refl
    empty (s ∷ slots) e = absurd (omega arith)

pub some_slots : (page : List ℕ) (p : FilePage) (n : ℕ) → SlotsOf page p → n ≡ length p.slots → 0 < n → 1 ≤ length (slots_of page)
some_slots page p n h count some = omega (arith, ap length (slots_are page p h), count, some)

pub first_is : (slots : List Slot) (from slot : ℕ) (o : Option (List ℕ)) → from ≤ slot → IsSome o → o ≡ slice_index_or slots slot None → ((k : ℕ) → from ≤ k → k < slot → slice_index_or slots k None ≡ None) → IsFirstLive slots from slot
first_is slots from slot o reached live is vacant = record { reached = reached; live = subst IsSome is live; vacant = vacant }

-- ---- a clause on an option that is known

-- what a value that is there is mapped to
pub mapped : {A B : Type 0} (f : A → B) (o : Option A) (x : Option B) → option_map f o ≡ x → IfSome o (λ a. x ≡ Some (f a))
mapped f None x e = tt
mapped f (Some a) x e = sym e

-- what follows where there is none
pub none_weaker : {A P Q : Type 0} (o : Option A) → (P → Q) → IfNone o P → IfNone o Q
none_weaker None f p = f p
none_weaker (Some x) f p = tt

-- the slots that are viewed are those of the page
pub viewed_slots : (bytes page : List ℕ) (v : Viewed) → v ≡ viewed_on bytes → bytes ≡ page → v.page.slots ≡ slots_of page
viewed_slots bytes page v is read = ap (λ (w : Viewed). w.page.slots) is ∙ ap slots_of read
