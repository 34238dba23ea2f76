-- The search for a page with room.
use Rattle.std.proofs.Common.{◌≡◌, ◌≤◌, ◌<◌, ◌+◌, ℕ, true, false, List, length, Option, Some, None, refl, ap, subst, ◌∙◌, arith, inl, inr}
use Rattle.std.specs.Prelude.{Bool, Contains, nat_le, if◌then◌else◌}
use Rattle.std.proofs.lemmas.Bool.Decides.{nat_tests}
use Rattle.std.proofs.lemmas.Bool.{cases_lt}
use Rattle.ex_base.specs.declared.ground.Ground as ground
use Rattle.ex_base.specs.declared.names.PageNo.{PageNo}
use Rattle.ex_base.specs.Ports.{times, Keeps}
use Rattle.ex_base.proofs.Counts.{contains_times}
use Rattle.ex_base.proofs.Keeping.{keeps_refl}
use Rattle.slotted_pages.specs.FilePage.{Slot, room_of}
use Rattle.slotted_pages.specs.Edits.{slots_of, place_for, need_of, vacant_at}
use Rattle.ex_base.specs.declared.names.Index.{Index}
use Rattle.file_index.specs.Index.{IsFilesPage}
use Rattle.file_index.specs.Least.{IsLeastFrom}
use Rattle.file_bodies.specs.Bodies.{pages_in}
use Rattle.file_bodies.specs.Files.{HasFile, IsPageOf}
use Rattle.file_bodies.specs.Places.{slot_for, NoRoom}
use Rattle.file_bodies.specs.Placing.{NoneFrom}
use Rattle.file_bodies.specs.Damage.{IsLook}
use Rattle.file_bodies.proofs.Moving.{kept_file, page_held}
use Rattle.file_bodies.proofs.Following.{page_sound}

le_false : (a b c : ℕ) → a ≤ b → nat_le a c ≡ false → nat_le b c ≡ false
le_false a b c le is = grind (arith, nat_tests)

-- a longer body finds no room where a shorter one doesn't
pub longer_none : (size : ℕ) (slots : List Slot) (short long : ℕ) → short ≤ long → place_for size slots short ≡ None → place_for size slots long ≡ None
longer_none size slots short long le none = longer (vacant_at slots) (nat_le (need_of slots short) (room_of size slots)) refl none
  where
    longer : (at : ℕ) (t : Bool) → nat_le (need_of slots short) (room_of size slots) ≡ t → (if t then Some at else None) ≡ None → place_for size slots long ≡ None
    longer at true is e = absurd (let f : Some at ≡ None = e in cc)
    longer at false is e =
        let test : nat_le (need_of slots long) (room_of size slots) ≡ false = le_false (need_of slots short) (need_of slots long) (room_of size slots) (omega arith) is in
        rw test refl

module _ {S : Type 0} (g : ground.Ghosts S) where
  -- how far a search has come
  pub record SearchedTo (start now : S) (index : Index) (len from key : ℕ) : Type 0 where
    pub kept : Keeps g start now
    pub reached : from ≤ key
    pub passed : g.tells start → HasFile g start index → NoRoom g start index len from key
    pub looked : g.tells start → (end : Option PageNo) → IsLook (g.geometry start) (g.image start) index key end → IsLook (g.geometry start) (g.image start) index from end

  pub search_starts : (a : S) (index : Index) (len from : ℕ) → SearchedTo a a index len from from
  search_starts a index len from = record { kept = keeps_refl g a; reached = omega arith; passed = λ told file page named low high. absurd (omega arith); looked = λ told end more. more }

  module _ (a b : S) (index : Index) (len from key : ℕ) (to : SearchedTo a b index len from key) (told : g.tells a) (file : HasFile g a index) where
    pub file_now : HasFile g b index
    file_now = kept_file g a b index to.kept file

    pub told_now : g.tells b
    told_now = g.leads_told a b to.kept.leads told

    pub none_left : (found : Option PageNo) → found ≡ None → IsLeastFrom (pages_in (g.image b) index) key found → NoneFrom g a index len from
    none_left found none least page named low =
        let least_none : (q : ℕ) → Contains (pages_in (g.image b) index) q → q < key = subst (IsLeastFrom (pages_in (g.image b) index) key) none least in
        to.passed told file page named low (least_none page (rw to.kept.images named))

    module _ (page : PageNo) (found : Option PageNo) (some : found ≡ Some page) (least : IsLeastFrom (pages_in (g.image b) index) key found) where
      at_page : IsLeastFrom (pages_in (g.image a) index) key (Some page)
      at_page = subst (λ (f : ℕ → List ℕ). IsLeastFrom (pages_in f index) key (Some page)) to.kept.images (subst (IsLeastFrom (pages_in (g.image b) index) key) some least)

      pub passed_to : NoRoom g a index len from page.0
      passed_to q named low high = elim (cases_lt q key) [
        | inl below ↦ to.passed told file q named low below
        | inr above ↦ absurd (omega (arith, at_page.2 q named above))
      ]

      pub passed_page : slot_for g a page.0 len ≡ None → NoRoom g a index len from (page.0 + 1)
      passed_page none q named low high = elim (cases_lt q page.0) [
        | inl below ↦ passed_to q named low below
        | inr above ↦
            let same : page.0 ≡ q = omega arith in
            subst (λ (k : ℕ). slot_for g a k len ≡ None) same none
      ]

      pub page_named : Contains (pages_in (g.image a) index) page.0
      page_named = at_page.0

      pub load_sound : (c : S) → Keeps g b c → (IsFilesPage (g.geometry c) page.0 → g.held c page.0 ≡ true → IsPageOf index.file_no (g.image c page.0) → ⊥) → ⊥
      load_sound c more never =
          let named : 1 ≤ times page.0 (pages_in (g.image b) index) = contains_times page.0 (pages_in (g.image b) index) (rw to.kept.images at_page.0) in
          let held : g.held c page.0 ≡ true = rw more.held (page_held g b index page.0 file_now named) in
          page_sound g b c index key 0 file_now more page found some least (λ area of. never area held of)

  -- what a page that was read says of the room on it
  pub slot_read : (a b : S) (page len : ℕ) (image : List ℕ) (r : Option ℕ) → Keeps g a b → image ≡ g.image b page → length image ≡ (g.geometry a).page_size → r ≡ place_for (length image) (slots_of image) len → r ≡ slot_for g a page len
  slot_read a b page len image r kept read size is =
      is ∙ ap (λ (n : ℕ). place_for n (slots_of image) len) size ∙ ap (λ (t : List ℕ). place_for (g.geometry a).page_size (slots_of t) len) (read ∙ ap (λ (f : ℕ → List ℕ). f page) kept.images)
