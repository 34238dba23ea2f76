-- Which fault tells what is read of an index page, and what such a fault is on the way to a key.
use Rattle.std.proofs.Common.{◌≡◌, ◌≢◌, ◌-◌, ◌≤◌, ◌⊎◌, inl, inr, ℕ, zero, suc, Bool, false, List, [], ◌∷◌, length, Option, Some, None, refl, sym, ap, subst, ◌∙◌, sub-one}
use Rattle.std.specs.Prelude.{slice_get}
use Rattle.ex_base.specs.declared.faults.Seen.{Seen}
use Rattle.ex_base.specs.declared.faults.PortFault.{PortFault}
use Rattle.ex_base.specs.declared.faults.PortFault.TheVariants.{Disk, Memory, Damaged}
use Rattle.ex_base.specs.declared.geometry.Geometry.{Geometry}
use Rattle.ex_base.specs.declared.names.PageNo.{PageNo}
use Rattle.file_index.specs.declared.Entry.{Entry}
use Rattle.file_index.specs.IndexPage.{EntriesOf, Indexed, indexed_on, level_on, file_on, entries_on}
use Rattle.file_index.proofs.PageLaws.{spelled_reads}
use Rattle.file_index.specs.Index.{IsFilesPage, least_entries, seen, key_seen}
use Rattle.file_index.specs.Nodes.{first_key}
use Rattle.ex_base.specs.Seen.{nothing_seen}
use Rattle.ex_base.specs.Ports.{IsDamage}
use Rattle.file_index.specs.Damage.{shown_on, elsewhere, lacking, outside, other, IsOfIndex, IsPageFault, IsNamedAt, IsWay, IsWayFault, IsWayUnder, IsFaultUnder, IsFaultFrom, child_in}

-- ---- one page

pub file_of : (size : ℕ) (bytes : List ℕ) (file_no : ℕ) (least : Option ℕ) → IsOfIndex size bytes file_no least → file_on bytes ≡ file_no
file_of size bytes file_no least of = (spelled_reads bytes _ file_no (entries_on bytes) of.spelled).same_file

pub blames_elsewhere : (g : Geometry) (held : ℕ → Bool) (bytes : List ℕ) (level file_no : ℕ) (least : Option ℕ) (page : PageNo) (fault : PortFault) → (IsFilesPage g page.0 → ⊥)
    → fault ≡ Damaged page (seen level least) nothing_seen → IsPageFault g held bytes level file_no least page.0 fault
blames_elsewhere g held bytes level file_no least page fault never is = subst (IsPageFault g held bytes level file_no least page.0) (sym is) (refl, refl, elsewhere never refl)

pub blames_lacking : (g : Geometry) (held : ℕ → Bool) (bytes : List ℕ) (level file_no : ℕ) (least : Option ℕ) (page : PageNo) (fault : PortFault)
    → (IsFilesPage g page.0 → ⊥) ⊎ (IsFilesPage g page.0 × (held page.0 ≡ false)) → fault ≡ Damaged page (seen level least) nothing_seen → IsPageFault g held bytes level file_no least page.0 fault
blames_lacking g held bytes level file_no least page fault (inl never) is = blames_elsewhere g held bytes level file_no least page fault never is
blames_lacking g held bytes level file_no least page fault (inr lacks) is = subst (IsPageFault g held bytes level file_no least page.0) (sym is) (refl, refl, lacking lacks.0 lacks.1 refl)

pub blames_outside : (g : Geometry) (held : ℕ → Bool) (bytes : List ℕ) (level file_no : ℕ) (least : Option ℕ) (page : PageNo) (fault : PortFault) → IsFilesPage g page.0 → (IsOfIndex g.page_size bytes file_no least → ⊥)
    → fault ≡ Damaged page (seen level least) nothing_seen → IsPageFault g held bytes level file_no least page.0 fault
blames_outside g held bytes level file_no least page fault area never is = subst (IsPageFault g held bytes level file_no least page.0) (sym is) (refl, refl, outside area never refl)

pub blames_other : (g : Geometry) (held : ℕ → Bool) (bytes : List ℕ) (level file_no : ℕ) (least : Option ℕ) (page : PageNo) (want got : Seen) → IsFilesPage g page.0 → IsOfIndex g.page_size bytes file_no least
    → want ≡ seen level least → got ≡ shown_on bytes least → want ≢ got → IsPageFault g held bytes level file_no least page.0 (Damaged page want got)
blames_other g held bytes level file_no least page want got area of want_is got_is differ = (refl, want_is, other area of got_is (λ same. differ (want_is ∙ sym same)))

-- what a view of a page tells
pub of_index : (size : ℕ) (bytes : List ℕ) (file_no : ℕ) (least : Option ℕ) (v : Indexed) → EntriesOf bytes v.level v.file_no v.entries → v ≡ indexed_on bytes → v.file_no ≡ file_no → least_entries size least ≤ length v.entries
    → IsOfIndex size bytes file_no least
of_index size bytes file_no least v found on number enough = record {
  spelled = subst (λ (n : ℕ). EntriesOf bytes (level_on bytes) n (entries_on bytes)) (ap (λ (w : Indexed). w.file_no) (sym on) ∙ number) (subst (λ (w : Indexed). EntriesOf bytes w.level w.file_no w.entries) on found);
  enough = subst (λ (w : Indexed). least_entries size least ≤ length w.entries) on enough;
}

first_is : (entries : List Entry) (entry : Entry) → slice_get entries 0 ≡ Some entry → entry.key ≡ first_key entries
first_is [] entry e = absurd cc
first_is (x ∷ entries) entry e = let same : entry ≡ x = cc in ap (λ (y : Entry). y.key) same

pub shown : (bytes : List ℕ) (least : Option ℕ) (v : Indexed) (level : ℕ) (key : Option ℕ) (entry : Entry) (got : Seen) → v ≡ indexed_on bytes → level ≡ v.level → slice_get v.entries 0 ≡ Some entry → key ≡ key_seen least entry.key
    → got ≡ seen level key → got ≡ shown_on bytes least
shown bytes least v level key entry got on level_is entry_is key_is is =
    let level_on_is : level ≡ level_on bytes = level_is ∙ ap (λ (w : Indexed). w.level) on in
    let first : entry.key ≡ first_key (entries_on bytes) = first_is v.entries entry entry_is ∙ ap (λ (w : Indexed). first_key w.entries) on in
    is ∙ ap (λ (l : ℕ). seen l key) level_on_is ∙ ap (seen (level_on bytes)) (key_is ∙ ap (key_seen least) first)

-- ---- the way

-- the fault of a page itself
pub way_here : (g : Geometry) (held : ℕ → Bool) (image : ℕ → List ℕ) (file_no key level : ℕ) (least : Option ℕ) (page : ℕ) (fault : PortFault) → level ≢ 0 → IsPageFault g held (image page) level file_no least page fault
    → IsWayFault g held image file_no key level least page fault
way_here g held image file_no key level least page Disk above h = tt
way_here g held image file_no key level least page Memory above h = tt
way_here g held image file_no key zero least page (Damaged at want got) above h = absurd (above refl)
way_here g held image file_no key (suc level) least page (Damaged at want got) above h = inl h

-- a fault below a page
pub way_below : (g : Geometry) (held : ℕ → Bool) (image : ℕ → List ℕ) (file_no key level : ℕ) (least : Option ℕ) (page : ℕ) (fault : PortFault) → level ≢ 0 → IsNamedAt g image level file_no least page
    → IsFaultUnder g held image file_no key (level - 1) (entries_on (image page)) fault → IsWayFault g held image file_no key level least page fault
way_below g held image file_no key level least page Disk above at h = tt
way_below g held image file_no key level least page Memory above at h = tt
way_below g held image file_no key zero least page (Damaged a want got) above at h = absurd (above refl)
way_below g held image file_no key (suc level) least page (Damaged a want got) above at h = inr (at, rw sub-one at h)

-- a way below a page
pub way_on : (g : Geometry) (image : ℕ → List ℕ) (file_no key level : ℕ) (least : Option ℕ) (page : ℕ) → level ≢ 0 → IsNamedAt g image level file_no least page
    → IsWayUnder g image file_no key (level - 1) (entries_on (image page)) → IsWay g image file_no key level least page
way_on g image file_no key zero least page above at h = absurd (above refl)
way_on g image file_no key (suc level) least page above at h = (at, rw sub-one at h)

-- ---- a fault that isn't that of a damaged page tells of none

pub other_fault : (g : Geometry) (held : ℕ → Bool) (bytes : List ℕ) (level file_no : ℕ) (least : Option ℕ) (page : ℕ) (fault : PortFault)
    → (IsDamage fault → ⊥) → IsPageFault g held bytes level file_no least page fault
other_fault g held bytes level file_no least page Disk never = tt
other_fault g held bytes level file_no least page Memory never = tt
other_fault g held bytes level file_no least page (Damaged at want got) never = absurd (never tt)

pub other_way : (g : Geometry) (held : ℕ → Bool) (image : ℕ → List ℕ) (file_no key level : ℕ) (least : Option ℕ) (page : ℕ) (fault : PortFault)
    → (IsDamage fault → ⊥) → IsWayFault g held image file_no key level least page fault
other_way g held image file_no key level least page Disk never = tt
other_way g held image file_no key level least page Memory never = tt
other_way g held image file_no key level least page (Damaged at want got) never = absurd (never tt)

pub other_under : (g : Geometry) (held : ℕ → Bool) (image : ℕ → List ℕ) (file_no key level : ℕ) (entries : List Entry) (fault : PortFault)
    → (IsDamage fault → ⊥) → IsFaultUnder g held image file_no key level entries fault
other_under g held image file_no key level entries fault never = other_way g held image file_no key level (Some (child_in key entries).key)
    (child_in key entries).page.0 fault never

pub other_from : (g : Geometry) (held : ℕ → Bool) (image : ℕ → List ℕ) (file_no key level : ℕ) (root : Option PageNo) (fault : PortFault)
    → (IsDamage fault → ⊥) → IsFaultFrom g held image file_no key level root fault
other_from g held image file_no key level None fault never = never
other_from g held image file_no key level (Some page) fault never = other_way g held image file_no key level None page.0 fault never
