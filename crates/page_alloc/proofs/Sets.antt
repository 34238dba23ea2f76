-- The used set and the references of a volume's units, after the flags of one area changed.
use Rattle.std.proofs.Common.{◌≡◌, ℕ, ◌<◌, Bool, true, false, length, get_or, refl, ap, ◌∙◌, arith}
use Rattle.std.proofs.Math.ListN.{set}
use Rattle.std.proofs.lemmas.List.{take_all}
use Rattle.ex_base.specs.declared.names.Area.{Area}
use Rattle.ex_base.specs.declared.names.Area.TheVariants.{Page, Segment}
use Rattle.ex_base.specs.Area.{unit_at}
use Rattle.ex_base.specs.Ports.{IsLowest}
use Rattle.ex_base.specs.Sizes.{units}
use Rattle.page_alloc.specs.Flags.{UnitFlags, IsFirstFree, count_free}
use Rattle.page_alloc.specs.UnitSet.{UnitSet, used_at, refs_at, updated, free_count, IsFitting, flags_of, with_flags}
use Rattle.page_alloc.proofs.Places.{at_unit-page, at_unit-seg, at_unit-set_page, at_unit-set_seg, free_below_is}

pub used_at-unit : (u : UnitSet) (a : Area) (i : ℕ) → IsFitting u → i < units u.geometry a → used_at u (unit_at u.geometry a i) ≡ get_or (flags_of u a).used i true
used_at-unit u Page i f h = at_unit-page u.geometry u.pages.used u.segs.used false true i h f.pages
used_at-unit u Segment i f h = at_unit-seg u.geometry u.pages.used u.segs.used false true i u.geometry.some_length h f.segs

pub refs_at-unit : (u : UnitSet) (a : Area) (i : ℕ) → IsFitting u → i < units u.geometry a → refs_at u (unit_at u.geometry a i) ≡ get_or (flags_of u a).refs i 0
refs_at-unit u Page i f h = at_unit-page u.geometry u.pages.refs u.segs.refs 0 0 i h f.page_refs
refs_at-unit u Segment i f h = at_unit-seg u.geometry u.pages.refs u.segs.refs 0 0 i u.geometry.some_length h f.seg_refs

pub used_at-write : (u : UnitSet) (a : Area) (now : UnitFlags) (i : ℕ) (v : Bool) → IsFitting u → i < units u.geometry a → now.used ≡ set (flags_of u a).used i v → used_at (with_flags u a now) ≡ updated (used_at u) (unit_at u.geometry a i) v
used_at-write u Page now i v f h e = rw e (at_unit-set_page u.geometry u.pages.used u.segs.used false v i h f.pages)
used_at-write u Segment now i v f h e = rw e (at_unit-set_seg u.geometry u.pages.used u.segs.used false v i u.geometry.some_length h f.segs)

pub refs_at-write : (u : UnitSet) (a : Area) (now : UnitFlags) (i v : ℕ) → IsFitting u → i < units u.geometry a → now.refs ≡ set (flags_of u a).refs i v → refs_at (with_flags u a now) ≡ updated (refs_at u) (unit_at u.geometry a i) v
refs_at-write u Page now i v f h e = rw e (at_unit-set_page u.geometry u.pages.refs u.segs.refs 0 v i h f.page_refs)
refs_at-write u Segment now i v f h e = rw e (at_unit-set_seg u.geometry u.pages.refs u.segs.refs 0 v i u.geometry.some_length h f.seg_refs)

pub used_at-keep : (u : UnitSet) (a : Area) (now : UnitFlags) → now.used ≡ (flags_of u a).used → used_at (with_flags u a now) ≡ used_at u
used_at-keep u Page now e = rw e
used_at-keep u Segment now e = rw e

pub refs_at-keep : (u : UnitSet) (a : Area) (now : UnitFlags) → now.refs ≡ (flags_of u a).refs → refs_at (with_flags u a now) ≡ refs_at u
refs_at-keep u Page now e = rw e
refs_at-keep u Segment now e = rw e

pub fitting : (u : UnitSet) (a : Area) (now : UnitFlags) → IsFitting u → length now.used ≡ length (flags_of u a).used → length now.refs ≡ length (flags_of u a).refs → IsFitting (with_flags u a now)
fitting u Page now f used refs = record { pages = used ∙ f.pages; page_refs = refs ∙ f.page_refs; segs = f.segs; seg_refs = f.seg_refs }
fitting u Segment now f used refs = record { pages = f.pages; page_refs = f.page_refs; segs = used ∙ f.segs; seg_refs = refs ∙ f.seg_refs }

pub fitting_len : (u : UnitSet) (a : Area) → IsFitting u → length (flags_of u a).used ≡ units u.geometry a
fitting_len u Page f = f.pages
fitting_len u Segment f = f.segs

pub free_count-is : (u : UnitSet) (a : Area) → IsFitting u → free_count u.geometry (used_at u) a ≡ count_free (flags_of u a).used
free_count-is u a f =
    let len : length (flags_of u a).used ≡ units u.geometry a = fitting_len u a f in
    free_below_is (used_at u) (unit_at u.geometry a) (flags_of u a).used (units u.geometry a) (omega arith) (λ i h. used_at-unit u a i f h) ∙
    ap count_free (take_all (units u.geometry a) (flags_of u a).used (omega arith))

pub is_lowest : (u : UnitSet) (a : Area) (i : ℕ) → IsFitting u → IsFirstFree (flags_of u a).used i → IsLowest u.geometry (used_at u) a (unit_at u.geometry a i)
is_lowest u a i f first =
    let len : length (flags_of u a).used ≡ units u.geometry a = fitting_len u a f in
    let inside : i < units u.geometry a = omega (arith, first.inside) in
    record {
      index = i;
      below = inside;
      named = refl;
      free = used_at-unit u a i f inside ∙ first.free;
      others = λ j h. used_at-unit u a j f (omega arith) ∙ first.others j h;
    }
