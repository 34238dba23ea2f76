-- Frames as groups hold them, and as a view shows them.
use Rattle.std.proofs.Common.{◌≡◌, ◌∙◌, ℕ, ◌*◌, List, [], ◌∷◌, map, All, Option, Some, sym, subst, arith}
use Rattle.std.specs.List.{AllByRecursion}
use Rattle.std.proofs.lemmas.List.Elements.{All-cons, All-head, All-tail}
use Rattle.std.proofs.lemmas.Option.{same_Some}
use Rattle.ex_base.specs.declared.geometry.Geometry.{Geometry}
use Rattle.ex_base.specs.Area.{page_at}
use Rattle.ex_base.specs.Bytes.{part}
use Rattle.buffer_groups.specs.Frames.{Frames, Lends, page_of}
use Rattle.volume_model.specs.Shown as view

pub each_of_all : {A : Type 0} (P : A → Type 0) (xs : List A) → All P xs → AllByRecursion P xs
each_of_all P [] all = tt
each_of_all P (x ∷ xs) all = (All-head P x xs all, each_of_all P xs (All-tail P x xs all))

pub all_of_each : {A : Type 0} (P : A → Type 0) (xs : List A) → AllByRecursion P xs → All P xs
all_of_each P [] each = λ k d lt. absurd (omega (arith, lt))
all_of_each P (x ∷ xs) each = All-cons P x xs each.0 (all_of_each P xs each.1)

-- of one group
shown_frames : (g : Geometry) (d : List ℕ) (f : Frames) → f.page_size ≡ g.page_size → All (λ e. e.1 ≡ page_of d f.page_size e.0) f.entries → view.Lends g d f.entries
shown_frames g d f size lends = each_of_all (λ e. e.1 ≡ page_at g d e.0) f.entries (subst (λ (n : ℕ). All (λ e. e.1 ≡ part d (e.0 * n) n) f.entries) size lends)

lent_frames : (g : Geometry) (d : List ℕ) (f : Frames) → f.page_size ≡ g.page_size → view.Lends g d f.entries → All (λ e. e.1 ≡ page_of d f.page_size e.0) f.entries
lent_frames g d f size shown = subst (λ (n : ℕ). All (λ e. e.1 ≡ part d (e.0 * n) n) f.entries) (sym size) (all_of_each (λ e. e.1 ≡ page_at g d e.0) f.entries shown)

-- of all groups
pub frames_shown : (g : Geometry) (o : Option (List ℕ)) (d : List ℕ) (groups : List Frames) → o ≡ Some d → All (λ (f : Frames). f.page_size ≡ g.page_size) groups → All (Lends o) groups
    → AllByRecursion (view.Lends g d) (map (λ (f : Frames). f.entries) groups)
frames_shown g o d [] holds sizes lends = tt
frames_shown g o d (f ∷ groups) holds sizes lends = (
  shown_frames g d f (All-head (λ (f : Frames). f.page_size ≡ g.page_size) f groups sizes) (All-head (Lends o) f groups lends d holds),
  frames_shown g o d groups holds (All-tail (λ (f : Frames). f.page_size ≡ g.page_size) f groups sizes) (All-tail (Lends o) f groups lends),
)

pub frames_lent : (g : Geometry) (o : Option (List ℕ)) (d : List ℕ) (groups : List Frames) → o ≡ Some d → All (λ (f : Frames). f.page_size ≡ g.page_size) groups
    → AllByRecursion (view.Lends g d) (map (λ (f : Frames). f.entries) groups) → All (Lends o) groups
frames_lent g o d [] holds sizes shown = λ k x lt. absurd (omega (arith, lt))
frames_lent g o d (f ∷ groups) holds sizes shown =
    All-cons (Lends o) f groups
    (λ held is. lent_frames g held f (All-head (λ (f : Frames). f.page_size ≡ g.page_size) f groups sizes) (subst (λ (b : List ℕ). view.Lends g b f.entries) (same_Some d held (sym holds ∙ is)) shown.0))
    (frames_lent g o d groups holds (All-tail (λ (f : Frames). f.page_size ≡ g.page_size) f groups sizes) shown.1)
