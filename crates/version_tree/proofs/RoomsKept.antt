-- Where a body goes, in a state with the same meanings.
use Rattle.std.proofs.Common.{ℕ, sym, inl, inr}
use Rattle.ex_base.specs.declared.ground.Ground as ground
use Rattle.ex_base.specs.declared.names.Index.{Index}
use Rattle.ex_base.specs.declared.names.Place.{Place}
use Rattle.ex_base.specs.Ports.{Keeps}
use Rattle.file_bodies.specs.Places.{IsChosen, IsRoom}
use Rattle.file_bodies.specs.declared.placing.Room.{Room}

module _ {S : Type 0} (g : ground.Ghosts S) (a b : S) (kept : Keeps g a b) (index : Index) where
  pub room_kept : (room : Room) → IsRoom g a index room → IsRoom g b index room
  room_kept room h = rw (g.leads_geometry a b kept.leads, kept.images) h

  pub chosen_back : (len : ℕ) (place : Place) → IsChosen g b index len place → IsChosen g a index len place
  chosen_back len place h = elim h [
    | inl low ↦ inl (record {
      named = rw (sym kept.images) low.named;
      slot = rw (sym (g.leads_geometry a b kept.leads), sym kept.images) low.slot;
      lowest = rw (sym (g.leads_geometry a b kept.leads), sym kept.images) low.lowest;
    })
    | inr fresh ↦ inr (record {
      none = rw (sym (g.leads_geometry a b kept.leads), sym kept.images) fresh.none;
      taken = rw (sym kept.held) fresh.taken;
      slot = fresh.slot;
    })
  ]
