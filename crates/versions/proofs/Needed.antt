-- What an edit makes of the number of bytes, and the units that it asks for.
use Rattle.std.proofs.Common.{◌≡◌, ◌≢◌, ◌≤◌, ◌+◌, ◌-◌, ℕ, Bool, List, length, take, drop, ◌++◌, refl, sym, ap, subst, ◌∙◌, arith, inl, inr, ◌⊎◌}
use Rattle.std.specs.Prelude.{if◌then◌else◌}
use Rattle.std.proofs.lemmas.List.{length-append, length-take, length-drop}
use Rattle.ex_base.specs.declared.geometry.Geometry.{Geometry}
use Rattle.ex_base.specs.declared.names.Area.{Area}
use Rattle.ex_base.specs.declared.names.Area.TheVariants.{Page, Segment}
use Rattle.object_records.specs.Record.{Content}
use Rattle.versions.specs.Versions.{Change, Inserts, Appends, Replaces, Deletes, InRange, changed, count_of}
use Rattle.ex_base.specs.Needs.{growth_need}
use Rattle.ex_base.specs.Sizes.{object_most}
use Rattle.ex_base.proofs.Counts.{not_equal}
use Rattle.ex_base.proofs.Geometries.{each_area}
use Rattle.versions.specs.Needs.{most_need, edit_need, height_in}
use Rattle.versions.specs.Edited.{change_of}
use Rattle.versions.specs.declared.editing.Edit.{Edit}

-- the bytes after an edit
resized : Change → ℕ → ℕ
resized (Inserts pos given) n = n + length given
resized (Appends given) n = n + length given
resized (Replaces pos given) n = n
resized (Deletes pos len) n = n - len

changed_length : (change : Change) (bytes : List ℕ) → InRange change (length bytes) → length (changed change bytes) ≡ resized change (length bytes)
unfolding resized
changed_length (Inserts pos given) bytes range = omega (arith, range.0, length-append (take pos bytes) given, length-append (take pos bytes ++ given) (drop pos bytes), length-append given (drop pos bytes), length-append (take pos bytes) (given ++ drop pos bytes), length-take pos bytes, length-drop pos bytes)
changed_length (Appends given) bytes range = length-append bytes given
changed_length (Replaces pos given) bytes range = omega (arith, range, length-append (take pos bytes) given, length-append (take pos bytes ++ given) (drop (pos + length given) bytes), length-append given (drop (pos + length given) bytes), length-append (take pos bytes) (given ++ drop (pos + length given) bytes), length-take pos bytes, length-drop (pos + length given) bytes)
changed_length (Deletes pos len) bytes range = omega (arith, range, length-append (take pos bytes) (drop (pos + len) bytes), length-take pos bytes, length-drop (pos + len) bytes)

-- so many bytes come at most, within the limit
pub changed_most : (change : Change) (bytes : List ℕ) → InRange change (length bytes) → length (changed change bytes) ≤ length bytes + count_of change
unfolding resized
changed_most (Inserts pos given) bytes range = omega (arith, changed_length (Inserts pos given) bytes range)
changed_most (Appends given) bytes range = omega (arith, changed_length (Appends given) bytes range)
changed_most (Replaces pos given) bytes range = omega (arith, changed_length (Replaces pos given) bytes range)
changed_most (Deletes pos len) bytes range = omega (arith, changed_length (Deletes pos len) bytes range)

pub changed_limit : (change : Change) (bytes : List ℕ) → InRange change (length bytes)
    → length bytes ≤ object_most → length (changed change bytes) ≤ object_most
unfolding resized
changed_limit (Inserts pos given) bytes range few = omega (arith, changed_length (Inserts pos given) bytes range, range.1)
changed_limit (Appends given) bytes range few = omega (arith, changed_length (Appends given) bytes range, range)
changed_limit (Replaces pos given) bytes range few = omega (arith, changed_length (Replaces pos given) bytes range, few)
changed_limit (Deletes pos len) bytes range few = omega (arith, changed_length (Deletes pos len) bytes range, few)

none_resized : (change : Change) (n : ℕ) → count_of change ≡ 0 → resized change n ≡ n
unfolding resized
none_resized (Inserts pos given) n none = omega (arith, none)
none_resized (Appends given) n none = omega (arith, none)
none_resized (Replaces pos given) n none = refl
none_resized (Deletes pos len) n none = omega (arith, none)

pub same_length : (change : Change) (bytes : List ℕ) → InRange change (length bytes) → count_of change ≡ 0 → length (changed change bytes) ≡ length bytes
same_length change bytes range none = changed_length change bytes range ∙ none_resized change (length bytes) none

-- an edit that makes a version longer asks for what an append of its bytes asks
pub grows : (change : Change) (bytes : List ℕ) → InRange change (length bytes) → ((geo : Geometry) (area : Area) → most_need geo change 0 area ≡ growth_need geo (count_of change) 0 area) ⊎ (length (changed change bytes) ≤ length bytes)
unfolding resized
grows (Inserts pos given) bytes range = inl (λ geo area. refl)
grows (Appends given) bytes range = inl (λ geo area. refl)
grows (Replaces pos given) bytes range = inr (omega (arith, changed_length (Replaces pos given) bytes range))
grows (Deletes pos len) bytes range = inr (omega (arith, changed_length (Deletes pos len) bytes range))

pub edit_need_is : (geo : Geometry) (change : Change) (content : Content) (area : Area) → count_of change ≢ 0 → edit_need geo change content area ≡ most_need geo change (height_in content) area
edit_need_is geo change content area some = ap (λ (b : Bool). if b then 0 else most_need geo change (height_in content) area) (not_equal (count_of change) 0 some)

-- ---- an edit that is known: the units that it asks for and takes, and its range

pub asked_as : (geo : Geometry) (free : Area → ℕ) (e f : Edit) (height : ℕ) → e ≡ f
    → ((area : Area) → most_need geo (change_of e) height area ≤ free area) → (area : Area) → most_need geo (change_of f) height area ≤ free area
asked_as geo free e f height is asked = subst (λ (d : Edit). (area : Area) → most_need geo (change_of d) height area ≤ free area) is asked

pub taken_as : (geo : Geometry) (before after : Area → ℕ) (e f : Edit) (height : ℕ) → e ≡ f
    → before Segment ≤ after Segment + most_need geo (change_of f) height Segment
    → before Page ≤ after Page + most_need geo (change_of f) height Page → (area : Area) → before area ≤ after area + most_need geo (change_of e) height area
taken_as geo before after e f height is leaves pages =
    subst (λ (d : Edit). (area : Area) → before area ≤ after area + most_need geo (change_of d) height area) (sym is)
    (each_area (λ area. before area ≤ after area + most_need geo (change_of f) height area) pages leaves)

pub range_as : (e f : Edit) (size : ℕ) → e ≡ f → InRange (change_of e) size → InRange (change_of f) size
range_as e f size is range = subst (λ (d : Edit). InRange (change_of d) size) is range

-- ---- units in a state that is the same: what is free there, and what is asked for

pub enough_kept : (free left asked need needed : ℕ) → asked ≤ free → left ≡ free → needed ≡ need → asked ≡ need → needed ≤ left
enough_kept free left asked need needed enough kept same is = omega arith

pub takes_kept : (free left after asked need needed : ℕ) → left ≤ after + needed → left ≡ free → needed ≡ need → asked ≡ need → free ≤ after + asked
takes_kept free left after asked need needed takes kept same is = omega arith

pub few_as : (len made held size count named : ℕ) → made ≤ size + named → len ≡ made → held ≡ size → count ≡ named → len ≤ held + count
few_as len made held size count named few is long same = omega arith
