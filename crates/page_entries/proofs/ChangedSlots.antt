-- The slots that differ, put into the old ones, give the new ones.
use Rattle.std.proofs.Common.{◌≡◌, ◌∙◌, ℕ, Bool, true, false, cond, Some, None, List, [], ◌∷◌, ◌++◌, refl, ap, bytes_eq}
use Rattle.std.proofs.lemmas.Slice.Eq.{bytes_eq-Decides}
use Rattle.slotted_pages.specs.FilePage.{Slot}
use Rattle.slotted_pages.specs.Edits.{trimmed, before_live}
use Rattle.page_entries.specs.Said.{SlotChange}
use Rattle.page_entries.specs.Applying.{slot_set, slots_after}
use Rattle.page_entries.specs.Changed.{one_behind, change_if, slots_added, slots_changed}

behind : (cs : List SlotChange) (x : Slot) (xs : List Slot) → slots_after (one_behind cs) (x ∷ xs) ≡ x ∷ slots_after cs xs
behind [] x xs = refl
behind ((i, s) ∷ cs) x xs = behind cs x (slot_set i s xs)

-- the same where nothing stood: the trimmed lists are the same
behind_none : (cs : List SlotChange) → trimmed (slots_after (one_behind cs) []) ≡ before_live None (trimmed (slots_after cs []))
behind_none [] = refl
behind_none ((i, s) ∷ cs) = ap trimmed (behind cs None (slot_set i s []))

added : (new : List Slot) → trimmed (slots_after (slots_added new) []) ≡ trimmed new
added [] = refl
added (None ∷ new) = behind_none (slots_added new) ∙ ap (before_live None) (added new)
added (Some b ∷ new) = ap trimmed (behind (slots_added new) (Some b) []) ∙ ap (before_live (Some b)) (added new)

first : (a b : Slot) (cs : List SlotChange) (old new : List Slot) → trimmed (slots_after cs old) ≡ trimmed new
    → trimmed (slots_after (change_if a b ++ one_behind cs) (a ∷ old)) ≡ trimmed (b ∷ new)
first None None cs old new ih = ap trimmed (behind cs None old) ∙ ap (before_live None) ih
first None (Some b) cs old new ih = ap trimmed (behind cs (Some b) old) ∙ ap (before_live (Some b)) ih
first (Some a) None cs old new ih = ap trimmed (behind cs None old) ∙ ap (before_live None) ih
first (Some a) (Some b) cs old new ih = by_test (bytes_eq a b) refl
  where
    by_test : (t : Bool) → bytes_eq a b ≡ t → trimmed (slots_after (cond t [] ((0, Some b) ∷ []) ++ one_behind cs) (Some a ∷ old)) ≡ trimmed (Some b ∷ new)
    by_test true is = ap trimmed (behind cs (Some a) old) ∙ ap (before_live (Some a)) ih ∙ ap (λ (x : List ℕ). before_live (Some x) (trimmed new)) ((bytes_eq-Decides a b).0 is)
    by_test false is = ap trimmed (behind cs (Some b) old) ∙ ap (before_live (Some b)) ih

pub changed : (old new : List Slot) → trimmed (slots_after (slots_changed old new) old) ≡ trimmed new
changed [] new = added new
changed (a ∷ old) [] = first a None (slots_changed old []) old [] (changed old [])
changed (a ∷ old) (b ∷ new) = first a b (slots_changed old new) old new (changed old new)
