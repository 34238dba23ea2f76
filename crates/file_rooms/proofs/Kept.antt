-- What is remembered once a record was put.
use Rattle.std.proofs.Common.{◌≡◌, ◌≢◌, ◌≤◌, ◌<◌, ℕ, true, false, Bool, List, [], ◌∷◌, Some, None, Result, Ok, Err, refl, sym, ap, subst, ◌∙◌, ◌⊎◌, inl, inr, arith, nat_eq, eqb}
use Rattle.std.specs.Prelude.{Contains, ◌↔◌, OnOk, OnErr, nat_lt, if◌then◌else◌}
use Rattle.std.proofs.lemmas.Bool.{eqb-true, eq-eqb}
use Rattle.std.specs.Map.{lookup}
use Rattle.indexmap.specs.IndexMap.{insert_entry}
use Rattle.file_bodies.specs.declared.placing.Room.{Room}
use Rattle.file_rooms.specs.declared.rooms.FilePage.{FilePage}
use Rattle.file_rooms.specs.Rooms.{Remembered, GetsRoom, IsPassed, IsKept, ChangesOne, behind_all, new_len, room_of, with_place}

pub kept_all : (old mid new : Remembered) (asked : Room) (page : ℕ) (grew : Bool) (from : ℕ) → from ≡ (if grew then behind_all else page)
    → ((p : FilePage) → Contains mid.roomy p ↔ (Contains old.roomy p × (IsPassed asked page p → ⊥))) → mid ≡ record old { roomy = mid.roomy }
    → GetsRoom mid.rooms (with_place mid.rooms asked.file_no from) asked.file_no new.rooms → new ≡ record mid { rooms = new.rooms } → IsKept old asked page grew new
kept_all old mid new asked page grew from from_is roomy others gets raised =
    let rooms : mid.rooms ≡ old.rooms = ap (λ (r : Remembered). r.rooms) others in
    record {
      rooms = subst (λ (n : ℕ). GetsRoom old.rooms (with_place old.rooms asked.file_no n) asked.file_no new.rooms) from_is
          (subst (λ (list : List (ℕ × Room)). GetsRoom list (with_place list asked.file_no from) asked.file_no new.rooms) rooms gets);
      roomy = λ p. subst (λ (list : List FilePage). Contains list p ↔ (Contains old.roomy p × (IsPassed asked page p → ⊥))) (sym (ap (λ (r : Remembered). r.roomy) raised)) (roomy p);
      copies = ap (λ (r : Remembered). r.copies) raised ∙ ap (λ (r : Remembered). r.copies) others;
      changed = ap (λ (r : Remembered). r.changed) raised ∙ ap (λ (r : Remembered). r.changed) others;
    }

-- ---- at most one file's room changes

placed_one : (rooms : List (ℕ × Room)) (file_no from : ℕ) → ChangesOne rooms (with_place rooms file_no from)
placed_one rooms file_no from = by_test (nat_lt (room_of rooms file_no).from.0 from)
  where
    by_test : (t : Bool) → ChangesOne rooms (if t then insert_entry nat_eq rooms file_no (record { file_no = file_no; from = record { 0 = from }; len = new_len }) else rooms)
    by_test true = inr (file_no, record { file_no = file_no; from = record { 0 = from }; len = new_len }, refl)
    by_test false = inl refl

pub kept_one : (old new : Remembered) (asked : Room) (page : ℕ) (grew : Bool) → IsKept old asked page grew new → ChangesOne old.rooms new.rooms
kept_one old new asked page grew kept = elim kept.rooms [
  | inl placed ↦ subst (ChangesOne old.rooms) (sym placed) (placed_one old.rooms asked.file_no (if grew then behind_all else page))
  | inr refused ↦ inl refused.1
]

-- a room is put, or refused where none was
pub gets_room : {X Y : Type 0} (r : Result X Y) (old wanted new : List (ℕ × Room)) (file_no : ℕ) → OnOk r (new ≡ wanted) → OnErr r (new ≡ old) → OnErr r (lookup (nat_eq file_no) old ≡ None) → GetsRoom old wanted file_no new
gets_room (Ok x) old wanted new file_no is stays absent = inl is
gets_room (Err y) old wanted new file_no is stays absent = inr (absent, stays)

-- ---- the room of a file, once one was put

pub put_there : (rooms : List (ℕ × Room)) (file_no : ℕ) (room : Room) → lookup (nat_eq file_no) (insert_entry nat_eq rooms file_no room) ≡ Some room
put_there [] file_no room = by (eqb file_no file_no) (eq-eqb file_no file_no refl)
  where
    by : (b : Bool) → b ≡ true → (if b then Some room else None) ≡ Some room
    by true is = refl
    by false is = absurd (let e : false ≡ true = is in cc)
put_there (e ∷ rooms) file_no room = by (eqb file_no e.0) refl (put_there rooms file_no room)
  where
    by : (b : Bool) → eqb file_no e.0 ≡ b → lookup (nat_eq file_no) (insert_entry nat_eq rooms file_no room) ≡ Some room
        → lookup (nat_eq file_no) (insert_entry nat_eq (e ∷ rooms) file_no room) ≡ Some room
    by true is rest = rw (is, is) refl
    by false is rest = rw (is, is) rest

pub put_apart : (rooms : List (ℕ × Room)) (file_no other : ℕ) (room : Room) → other ≢ file_no → lookup (nat_eq other) (insert_entry nat_eq rooms file_no room) ≡ lookup (nat_eq other) rooms
put_apart [] file_no other room differ = by (eqb other file_no) refl
  where
    by : (b : Bool) → eqb other file_no ≡ b → (if b then Some room else None) ≡ None
    by true is = absurd (differ (eqb-true other file_no is))
    by false is = refl
put_apart (e ∷ rooms) file_no other room differ = by (eqb file_no e.0) refl (put_apart rooms file_no other room differ)
  where
    by : (b : Bool) → eqb file_no e.0 ≡ b → lookup (nat_eq other) (insert_entry nat_eq rooms file_no room) ≡ lookup (nat_eq other) rooms
        → lookup (nat_eq other) (insert_entry nat_eq (e ∷ rooms) file_no room) ≡ lookup (nat_eq other) (e ∷ rooms)
    by true is rest = at_other (eqb other e.0) refl
      where
        at_other : (b : Bool) → eqb other e.0 ≡ b → lookup (nat_eq other) (insert_entry nat_eq (e ∷ rooms) file_no room) ≡ lookup (nat_eq other) (e ∷ rooms)
        at_other true same = absurd (differ (eqb-true other e.0 same ∙ sym (eqb-true file_no e.0 is)))
        at_other false apart = rw (is, apart) refl
    by false is rest = further (eqb other e.0) refl
      where
        further : (b : Bool) → eqb other e.0 ≡ b → lookup (nat_eq other) (insert_entry nat_eq (e ∷ rooms) file_no room) ≡ lookup (nat_eq other) (e ∷ rooms)
        further true same = rw (is, same) refl
        further false apart = rw (is, apart) rest
