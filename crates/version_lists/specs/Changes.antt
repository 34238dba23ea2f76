-- What the updates do to the versions of a file.
use Rattle.std.specs.Prelude.{ℕ, ◌≤◌, ◌≡◌, List, [], ◌∷◌, ◌++◌, length, map, filter, find, Bool, true, false, not, if◌then◌else◌, Option, Some, None, IfSome, option_map}
use Rattle.ex_base.specs.declared.names.Oid.{Oid}
use Rattle.version_lists.specs.declared.version.Version.{Version}
use Rattle.version_lists.specs.Versions.{has_oid, unique_of, is_derived_from, derived_from}

-- a new object's version: current, without an older one and without bytes
abbrev pub new_version : Oid → Version
new_version oid = record { oid = oid; frozen = false; older = None; bytes = [] }

abbrev pub created_in : Oid → List Version → List Version
created_in oid vs = vs ++ new_version oid ∷ []

abbrev pub bytes_changed : Oid → (List ℕ → List ℕ) → Version → Version
bytes_changed oid change v = if has_oid oid v then record v { bytes = change v.bytes } else v

-- the version's bytes changed
abbrev pub edited_in : Oid → (List ℕ → List ℕ) → List Version → List Version
edited_in oid change vs = map (bytes_changed oid change) vs

-- derived from the version with this number instead
abbrev pub moved_onto : Oid → ℕ → Version → Version
moved_onto oid number v = if has_oid oid v then record v { older = Some number } else v

abbrev pub frozen_copy : Oid → Version → Version
frozen_copy copy v = record v { oid = copy; frozen = true }

-- A frozen copy of the version comes between it and its older one.
abbrev pub frozen_in : Oid → Oid → List Version → List Version
frozen_in oid copy vs = map (moved_onto oid copy.unique) vs ++ map (frozen_copy copy) (filter (has_oid oid) vs)

abbrev pub derived_copy : Oid → Version → Version
derived_copy copy v = record v { oid = copy; frozen = false; older = Some (unique_of v) }

-- A current copy of the version is derived from it.
abbrev pub derived_in : Oid → Oid → List Version → List Version
derived_in oid copy vs = vs ++ map (derived_copy copy) (filter (has_oid oid) vs)

-- what is derived from a version that goes is derived from its older one instead
abbrev pub older_instead : Version → Version → Version
older_instead gone v = if is_derived_from (unique_of gone) v then record v { older = gone.older } else v

abbrev pub left_by : Option Version → List Version → List Version
left_by None vs = vs
left_by (Some gone) vs = map (older_instead gone) (filter (λ v. not (has_oid gone.oid v)) vs)

-- The version goes.
abbrev pub without_in : Oid → List Version → List Version
without_in oid vs = left_by (find (has_oid oid) vs) vs

-- ---- what the updates ask

-- no frozen version has the identifier
abbrev pub NoneFrozen : Oid → List Version → Type 0
NoneFrozen oid vs = IfSome (find (has_oid oid) vs) (λ v. v.frozen ≡ false)

-- no current version has it
abbrev pub NoneCurrent : Oid → List Version → Type 0
NoneCurrent oid vs = IfSome (find (has_oid oid) vs) (λ v. v.frozen ≡ true)

-- Where the version is current and has an older one, others are derived from that too.
abbrev pub LeavesOne : Oid → List Version → Type 0
LeavesOne oid vs = IfSome (find (has_oid oid) vs) (λ v. v.frozen ≡ false → IfSome v.older (λ number. 2 ≤ length (derived_from number vs)))

-- Where the version is frozen, at most one is derived from it.
abbrev pub NotBranched : Oid → List Version → Type 0
NotBranched oid vs = IfSome (find (has_oid oid) vs) (λ v. v.frozen ≡ true → length (derived_from (unique_of v) vs) ≤ 1)

-- ---- what is seen of a version

-- whether it is frozen, and its bytes
abbrev pub content_of : Version → Bool × List ℕ
content_of v = (v.frozen, v.bytes)

-- the same of the version with an identifier
abbrev pub content_at : Oid → List Version → Option (Bool × List ℕ)
content_at oid vs = option_map content_of (find (has_oid oid) vs)

-- what an edit, a freeze and a derivation make of it
abbrev pub edited_content : (List ℕ → List ℕ) → Bool × List ℕ → Bool × List ℕ
edited_content change content = (content.0, change content.1)

abbrev pub frozen_content : Bool × List ℕ → Bool × List ℕ
frozen_content content = (true, content.1)

abbrev pub current_content : Bool × List ℕ → Bool × List ℕ
current_content content = (false, content.1)
