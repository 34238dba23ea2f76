-- What a port for reading alone goes on telling.
use Rattle.std.proofs.Common.{◌≡◌, ℕ, zero, suc, List, [], ◌∷◌, All, Option, IsSome, slice_set, refl, sym, ap, subst}
use Rattle.disk_model.specs.Outside.{Outside, ReadsOnly}
use Rattle.buffer_groups.specs.Frames.{Frames, Lends}
use Rattle.buffer_groups.specs.Groups.{GroupsKeep}
use Rattle.volume_port.specs.Reading.{OthersStay, TellsBytes}

pub told_along : (a b : Outside) (f h : List Frames) → ReadsOnly a b → GroupsKeep a.disk f h → TellsBytes a f → TellsBytes b h
told_along a b f h only keeps told =
    let same = only.nothing.disk in (
      subst (λ (o : Option (List ℕ)). IsSome o) (sym same) told.0,
      subst (λ (o : Option (List ℕ)). All (Lends o) h) (sym same) (keeps.lends told.1),
    )

-- what is set at an index leaves the other groups
pub others_set : (groups : List Frames) (index : ℕ) (group : Frames) → OthersStay index groups (slice_set groups index group)
others_set [] index group other apart = refl
others_set (g ∷ groups) zero group zero apart = absurd (apart refl)
others_set (g ∷ groups) zero group (suc other) apart = refl
others_set (g ∷ groups) (suc index) group zero apart = refl
others_set (g ∷ groups) (suc index) group (suc other) apart = others_set groups index group other (λ same. apart (ap suc same))

pub others_at : (groups : List Frames) {new : List Frames} (index : ℕ) (group : Frames) → new ≡ slice_set groups index group → OthersStay index groups new
others_at groups index group is = subst (OthersStay index groups) (sym is) (others_set groups index group)
