-- A page that is looked at, by what is read on it.
use Rattle.std.proofs.Common.{◌≡◌, ℕ, Bool, List, length, refl, sym, ap, subst, ◌∙◌, inl, inr}
use Rattle.std.specs.Prelude.{◌&&◌}
use Rattle.ex_base.specs.Area.{InPageArea}
use Rattle.ex_base.specs.declared.ground.Ground as ground
use Rattle.slotted_pages.specs.Reads.{page_on, IsPage}
use Rattle.file_rooms.specs.Rooms.{Remembered, IsLookedAt, IsNoted, has_room, page_of}

module _ {S : Type 0} (g : ground.Ghosts S) (s : S) (page : ℕ) (old : Remembered) where
  pub looked_outside : (InPageArea (g.geometry s) page → ⊥) → IsLookedAt g s page old old
  looked_outside outside = inl (refl, λ area is. outside area)

  pub looked_no_page : (bytes : List ℕ) → bytes ≡ g.image s page → (IsPage bytes → ⊥) → IsLookedAt g s page old old
  looked_no_page bytes read not_one = inl (refl, λ area is. not_one (subst IsPage (sym read) is))

  pub looked_noted : (new : Remembered) (bytes : List ℕ) (file_no : ℕ) (held fits : Bool) → InPageArea (g.geometry s) page → bytes ≡ g.image s page → length bytes ≡ (g.geometry s).page_size
      → IsPage bytes → (page_on bytes).file_no ≡ file_no → fits ≡ has_room (length bytes) bytes → held ≡ g.held s page → IsNoted (page_of file_no page) (held && fits) old new → IsLookedAt g s page old new
  looked_noted new bytes file_no held fits area read size is number room has noted =
      let number_at : file_no ≡ (page_on (g.image s page)).file_no = sym number ∙ ap (λ (b : List ℕ). (page_on b).file_no) read in
      let room_at : fits ≡ has_room (g.geometry s).page_size (g.image s page) = room ∙ ap (λ (n : ℕ). has_room n bytes) size ∙ ap (has_room (g.geometry s).page_size) read in
      inr (
        area,
        subst IsPage read is,
        subst (λ (n : ℕ). IsNoted (page_of n page) (g.held s page && has_room (g.geometry s).page_size (g.image s page)) old new) number_at
            (subst (λ (b : Bool). IsNoted (page_of file_no page) (b && has_room (g.geometry s).page_size (g.image s page)) old new) has
            (subst (λ (b : Bool). IsNoted (page_of file_no page) (held && b) old new) room_at noted)),
      )
