-- The pages that a transaction changed go back, one after the other.
use Rattle.std.proofs.Common.{◌≡◌, ◌≢◌, ℕ, true, false, Bool, List, [], refl, sym, ap, subst, ◌⊎◌, inl, inr, ◌<◌, arith}
use Rattle.std.specs.Prelude.{Contains, IsTrue, ◌↔◌}
use Rattle.file_bodies.specs.declared.placing.Room.{Room}
use Rattle.file_rooms.specs.declared.rooms.FilePage.{FilePage}
use Rattle.file_rooms.specs.Rooms.{Remembered, Marks, IsRefused, GoesBack, IsLost, nothing, is_in}
use Rattle.file_rooms.proofs.Marked.{same_page}

-- memory was refused for a page
pub record Refused (kept : List Bool) (old : Remembered) : Type 0 where
  pub page : FilePage
  pub changed : Contains old.changed page
  pub held : IsTrue (is_in kept page.page.0)
  pub refused : Contains old.roomy page → ⊥

-- of the changed pages these are left
pub record Going (kept : List Bool) (old : Remembered) (roomy rest : List FilePage) (is_lost : Bool) : Type 0 where
  pub left : (page : FilePage) → Contains rest page → Contains old.changed page
  pub stays : (page : FilePage) → Contains rest page → Contains roomy page ↔ Contains old.roomy page
  pub others : (page : FilePage) → (Contains old.changed page → ⊥) → Contains roomy page ↔ Contains old.roomy page
  pub gone : is_lost ≡ false → (page : FilePage) → Contains old.changed page → (Contains rest page → ⊥) → Contains roomy page ↔ IsTrue (is_in kept page.page.0)
  pub lost : is_lost ≡ true → Refused kept old

both : {A B C : Type 0} → A ↔ B → B ↔ C → A ↔ C
both f g = (λ a. g.0 (f.0 a), λ c. f.1 (g.1 c))

same : {A : Type 0} → A ↔ A
same = (λ a. a, λ a. a)

pub begins : (kept : List Bool) (old : Remembered) (roomy left : List FilePage) → roomy ≡ old.roomy → left ≡ old.changed → Going kept old roomy left false
begins kept old roomy left roomy_is left_is = record {
  left = λ page. subst (λ (l : List FilePage). Contains l page) left_is;
  stays = λ page among. subst (λ (l : List FilePage). Contains l page ↔ Contains old.roomy page) (sym roomy_is) same;
  others = λ page apart. subst (λ (l : List FilePage). Contains l page ↔ Contains old.roomy page) (sym roomy_is) same;
  gone = λ not_lost page changed popped. absurd (popped (subst (λ (l : List FilePage). Contains l page) (sym left_is) changed));
  lost = λ e. absurd (let f : false ≡ true = e in cc);
}

module _ (kept : List Bool) (old : Remembered) (roomy next left rest : List FilePage) (is_lost : Bool) (page : FilePage) (going : Going kept old roomy left is_lost) (first : Contains left page) (popped : Marks left rest page false) where
  among : (other : FilePage) → Contains rest other → other ≢ page
  among other there is = absurd (let e : false ≡ true = popped.marked.0 (subst (λ (p : FilePage). Contains rest p) is there) in cc)

  was : (other : FilePage) → Contains rest other → Contains left other
  was other there = (popped.others other (among other there)).0 there

  pub goes_on : Marks roomy next page (is_in kept page.page.0) → Going kept old next rest is_lost
  goes_on marks = record {
    left = λ other there. going.left other (was other there);
    stays = λ other there. both (marks.others other (among other there)) (going.stays other (was other there));
    others = λ other apart. both (marks.others other (λ is. apart (subst (λ (p : FilePage). Contains old.changed p) (sym is) (going.left page first)))) (going.others other apart);
    gone = λ not_lost other changed out. elim (same_page other page) [
      | inl is ↦ subst (λ (p : FilePage). Contains next p ↔ IsTrue (is_in kept p.page.0)) (sym is) marks.marked
      | inr differ ↦ both (marks.others other differ) (going.gone not_lost other changed (λ there. out ((popped.others other differ).1 there)))
    ];
    lost = going.lost;
  }

  pub goes_lost : IsRefused roomy next page (is_in kept page.page.0) → Going kept old next rest true
  goes_lost refused = record {
    left = λ other there. going.left other (was other there);
    stays = λ other there. subst (λ (l : List FilePage). Contains l other ↔ Contains old.roomy other) (sym refused.stays) (going.stays other (was other there));
    others = λ other apart. subst (λ (l : List FilePage). Contains l other ↔ Contains old.roomy other) (sym refused.stays) (going.others other apart);
    gone = λ e. absurd (let f : true ≡ false = e in cc);
    lost = λ e. record { page = page; changed = going.left page first; held = refused.wanted; refused = λ there. refused.absent ((going.stays page first).1 there) };
  }

none_there : (page : FilePage) (xs : List FilePage) → xs ≡ [] → Contains xs page → ⊥
none_there page xs empty there = absurd (let h = subst (λ (l : List FilePage). Contains l page) empty there in omega (arith, h.1))

pub gone_back : (kept : List Bool) (old new : Remembered) (left : List FilePage) → Going kept old new.roomy left false → left ≡ [] → new.rooms ≡ old.rooms → new.copies ≡ [] → new.changed ≡ [] → GoesBack kept old new
gone_back kept old new left going empty rooms copies changed = record {
  rooms = rooms;
  copies = copies;
  changed = changed;
  touched = λ page there. going.gone refl page there (none_there page left empty);
  others = going.others;
}

pub lost_all : (kept : List Bool) (old new : Remembered) (roomy left : List FilePage) → Going kept old roomy left true → new ≡ nothing → IsLost kept old new
lost_all kept old new roomy left going empty =
    let lost = going.lost refl in
    record { lost = empty; page = lost.page; changed = lost.changed; held = lost.held; refused = lost.refused }
