-- An update of the records of one file as one of all records.
use Rattle.std.proofs.Common.{◌≡◌, ◌≢◌, List, [], ◌∷◌, ◌++◌, Option, Some, None, refl, sym, subst, ◌∙◌, inl, inr, ◌⊎◌}
use Rattle.std.specs.List.{AllByRecursion}
use Rattle.ex_base.specs.declared.names.Oid.{Oid}
use Rattle.ex_base.specs.declared.names.Place.{Place}
use Rattle.ex_base.proofs.Rows.{each-append}
use Rattle.version_lists.proofs.Lists.{Has, has_back, has_either, has_front}
use Rattle.object_records.specs.Record.{Record}
use Rattle.volume_model.specs.Volume.{Stored, FileContent, stands_at}
use Rattle.volume_model.specs.Links.{AreLinked, PlacesDiffer, place_in, stored_from}
use Rattle.volume_model.proofs.Places.{Sep, has_each, has_stands, sep_from, stands_has, stands_none}
use Rattle.versions.specs.Versions.{place_of}
use Rattle.version_tree.specs.Bodies.{PlaceChange}
use Rattle.volume_edits.proofs.Holes.{stored_of_files}
use Rattle.volume_edits.proofs.RecordEdits.{EditsStored}
use Rattle.volume_edits.proofs.RecordUpdates.{CreatesRecord, DerivesRecord, DropsRecord, FreezesRecord, LinkComes, LinkTurns, NewerComes, NewerGoes, NewerTurns, TakesRecord, gets_none, gets_one, had_none, had_one, only_other, stays, turns}
use Rattle.volume_edits.proofs.TurnCounts.{sep_back, sep_cross}
use Rattle.volume_edits.proofs.Within.{edits_within, from_back, from_front, linked_both}

-- a record stands at the place before or after
abbrev pub StandsIn : List Stored → List Stored → Place → Type 0
StandsIn stored later place = ((t : Stored) × Has stored t × (t.place ≡ place)) ⊎ ((t : Stored) × Has later t × (t.place ≡ place))

-- each change is at such a place
abbrev pub AreWithin : List Stored → List Stored → List PlaceChange → Type 0
AreWithin stored later changes = AllByRecursion (λ (change : PlaceChange). StandsIn stored later change.0) changes

pub within_was : (stored later : List Stored) (place : Place) (s : Stored) → stands_at place stored ≡ Some s → StandsIn stored later place
within_was stored later place s is = let r = stands_has stored place s is in inl (s, r.0, r.1)

turn_within : (stored later : List Stored) (s : Stored) (from to : Place) (others : List PlaceChange) → Has stored s → NewerTurns s from to others → AreWithin stored later others
turn_within stored later s from to others h (stays n) = tt
turn_within stored later s from to others h (turns now e b) = (inl (s, h, refl), tt)

pub link_within : (stored later : List Stored) (from to : Place) (link : Option Place) (others : List PlaceChange) → LinkTurns stored from to link others → AreWithin stored later others
link_within stored later from to None others l = subst (AreWithin stored later) (sym l) tt
link_within stored later from to (Some place) others l = turn_within stored later l.s from to others (stands_has stored place l.s l.there).0 l.turned

pub goes_within : (stored later : List Stored) (place : Place) (is : Record) (others : List PlaceChange) → StandsIn stored later place → NewerGoes place is others → AreWithin stored later others
goes_within stored later place is others there (had_none e) = tt
goes_within stored later place is others there (had_one now e b) = (there, tt)

come_within : (stored later : List Stored) (s : Stored) (newer : Option Place) (others : List PlaceChange) → Has stored s → NewerComes s newer others → AreWithin stored later others
come_within stored later s newer others h gets_none = tt
come_within stored later s newer others h (gets_one now at b) = (inl (s, h, refl), tt)

pub comes_within : (stored later : List Stored) (gone : Place) (link : Option Place) (others : List PlaceChange) → LinkComes stored gone link others → AreWithin stored later others
comes_within stored later gone None others l = subst (AreWithin stored later) (sym l) tt
comes_within stored later gone (Some place) others l = come_within stored later l.s (only_other gone (stored_from place stored)) others (stands_has stored place l.s l.there).0 l.comes

-- ---- records of several files

pub linked_three : (front stored back : List Stored) → Sep place_in (front ++ (stored ++ back)) → AreLinked front → AreLinked stored → AreLinked back → AreLinked (front ++ (stored ++ back))
linked_three front stored back apart a b c = let rest = sep_back place_in front (stored ++ back) apart in linked_both front (stored ++ back) apart a (linked_both stored back rest b c)

pub linked_files : (files : List FileContent) → Sep place_in (stored_of_files files) → AllByRecursion (λ (file : FileContent). AreLinked file.stored) files → AreLinked (stored_of_files files)
linked_files [] apart all = tt
linked_files (file ∷ files) apart all = linked_both file.stored (stored_of_files files) apart all.0 (linked_files files (sep_back place_in file.stored (stored_of_files files) apart) all.1)

-- a record is made at the place
pub record Made (later : List Stored) (place : Place) : Type 0 where
  pub t : Stored
  pub there : Has later t
  pub place_is : t.place ≡ place

-- ---- one file among others

module _ (front stored later back : List Stored) (before : PlacesDiffer (front ++ (stored ++ back))) (after : PlacesDiffer (front ++ (later ++ back))) where
  abbrev whole : List Stored
  whole = front ++ (stored ++ back)

  abbrev whole_later : List Stored
  whole_later = front ++ (later ++ back)

  apart : Sep place_in whole
  apart = sep_from place_in whole before

  apart_later : Sep place_in whole_later
  apart_later = sep_from place_in whole_later after

  -- no record of another file stands at the place of one of this
  off_one : (part : List Stored) → Sep place_in (front ++ (part ++ back)) → (s t : Stored) → Has front s ⊎ Has back s → Has part t → t.place ≢ s.place
  off_one part all s t (inl h) k e = sep_cross place_in front (part ++ back) s t all h (has_front part back t k) (sym e)
  off_one part all s t (inr h) k e = sep_cross place_in part back t s (sep_back place_in front (part ++ back) all) k h e

  off : (place : Place) → StandsIn stored later place → (s : Stored) → Has front s ⊎ Has back s → place ≢ s.place
  off place (inl t) s h e = off_one stored apart s t.0 h t.1 (t.2 ∙ e)
  off place (inr t) s h e = off_one later apart_later s t.0 h t.1 (t.2 ∙ e)

  spared : (changes : List PlaceChange) → AreWithin stored later changes → AllByRecursion (λ (s : Stored). AllByRecursion (λ (change : PlaceChange). change.0 ≢ s.place) changes) (front ++ back)
  spared changes within = has_each (λ (s : Stored). AllByRecursion (λ (change : PlaceChange). change.0 ≢ s.place) changes) (front ++ back)
      (λ s h. each changes within s (has_either front back s h))
    where
      each : (cs : List PlaceChange) → AreWithin stored later cs → (s : Stored) → Has front s ⊎ Has back s → AllByRecursion (λ (change : PlaceChange). change.0 ≢ s.place) cs
      each [] w s h = tt
      each (c ∷ cs) w s h = (off c.0 w.0 s h, each cs w.1 s h)

  whole_edit : (changes : List PlaceChange) → EditsStored stored later changes → AreWithin stored later changes → EditsStored whole whole_later changes
  whole_edit changes e within = edits_within front stored later back changes e (spared changes within) before after

  pub in_whole : (s : Stored) → Has stored s → Has whole s
  in_whole s h = has_back front (stored ++ back) s (has_front stored back s h)

  pub stands_whole : (place : Place) (s : Stored) → stands_at place stored ≡ Some s → stands_at place whole ≡ Some s
  stands_whole place s is = let r = stands_has stored place s is in has_stands whole place s apart (in_whole s r.0) r.1

  vacant_whole : (place : Place) → stands_at place stored ≡ None → StandsIn stored later place → stands_at place whole ≡ None
  vacant_whole place none there = by (stands_at place whole) refl
    where
      by : (o : Option Stored) → stands_at place whole ≡ o → stands_at place whole ≡ None
      by None is = is
      by (Some s) is =
          let r = stands_has whole place s is in
          elim (has_either front (stored ++ back) s r.0) [
            | inl h ↦ absurd (off place there s (inl h) (sym r.1))
            | inr m ↦ elim (has_either stored back s m) [
              | inl h ↦ absurd (stands_none stored place s none h r.1)
              | inr h ↦ absurd (off place there s (inr h) (sym r.1))
            ]
          ]

  turns_whole : (from to : Place) (link : Option Place) (others : List PlaceChange) → LinkTurns stored from to link others → LinkTurns whole from to link others
  turns_whole from to None others l = l
  turns_whole from to (Some place) others l = record { s = l.s; there = stands_whole place l.s l.there; turned = l.turned }

  -- ---- the updates

  at_made : (place : Place) → Made later place → StandsIn stored later place
  at_made place m = inr (m.t, m.there, m.place_is)

  pub creates_whole : (made : Oid) → CreatesRecord stored later made → Made later (place_of made) → CreatesRecord whole whole_later made
  creates_whole made e m = record {
    vacant = vacant_whole (place_of made) e.vacant (at_made (place_of made) m);
    body = e.body;
    spelled = e.spelled;
    edit = whole_edit ((place_of made, Some e.body) ∷ []) e.edit (at_made (place_of made) m, tt);
  }

  pub freezes_whole : (place : Place) (is : Record) (made : Oid) → FreezesRecord stored later place is made → Made later (place_of made) → FreezesRecord whole whole_later place is made
  freezes_whole place is made e m = record {
    there = stands_whole place _ e.there;
    vacant = vacant_whole (place_of made) e.vacant (at_made (place_of made) m);
    copy = e.copy;
    copied = e.copied;
    moved = e.moved;
    moves = e.moves;
    others = e.others;
    older = turns_whole place (place_of made) is.head.older e.others e.older;
    edit = whole_edit (e.others ++ (place, Some e.moved) ∷ (place_of made, Some e.copy) ∷ []) e.edit
        (each-append (λ (change : PlaceChange). StandsIn stored later change.0) e.others ((place, Some e.moved) ∷ (place_of made, Some e.copy) ∷ []) (link_within stored later place (place_of made) is.head.older e.others e.older)
        (within_was stored later place _ e.there, (at_made (place_of made) m, tt)));
  }

  pub derives_whole : (place : Place) (is : Record) (made : Oid) → DerivesRecord stored later place is made → Made later (place_of made) → DerivesRecord whole whole_later place is made
  derives_whole place is made e m = record {
    there = stands_whole place _ e.there;
    vacant = vacant_whole (place_of made) e.vacant (at_made (place_of made) m);
    copy = e.copy;
    copied = e.copied;
    others = e.others;
    older = e.older;
    edit = whole_edit (e.others ++ (place_of made, Some e.copy) ∷ []) e.edit
        (each-append (λ (change : PlaceChange). StandsIn stored later change.0) e.others ((place_of made, Some e.copy) ∷ []) (goes_within stored later place is e.others (within_was stored later place _ e.there) e.older)
        (at_made (place_of made) m, tt));
  }

  pub drops_whole : (place : Place) (is : Record) → DropsRecord stored later place is → DropsRecord whole whole_later place is
  drops_whole place is e = record {
    there = stands_whole place _ e.there;
    at = e.at;
    only = e.only;
    next = e.next;
    next_there = stands_whole e.at _ e.next_there;
    now = e.now;
    moved = e.moved;
    others = e.others;
    older = turns_whole place e.at is.head.older e.others e.older;
    edit = whole_edit (e.others ++ (e.at, Some e.now) ∷ (place, None) ∷ []) e.edit
        (each-append (λ (change : PlaceChange). StandsIn stored later change.0) e.others ((e.at, Some e.now) ∷ (place, None) ∷ []) (link_within stored later place e.at is.head.older e.others e.older)
        (within_was stored later e.at _ e.next_there, (within_was stored later place _ e.there, tt)));
  }

  -- the records that name one of the file's are the file's
  module _ (linked_front : AreLinked front) (linked : AreLinked stored) (linked_back : AreLinked back) where
    named_whole : (s : Stored) → Has stored s → stored_from s.place whole ≡ stored_from s.place stored
    named_whole s h =
        let rest = sep_back place_in front (stored ++ back) apart in
        from_back front (stored ++ back) apart linked_front (linked_both stored back rest linked linked_back) s (has_front stored back s h) ∙ from_front stored back rest linked linked_back s h

    comes_whole : (gone : Place) (link : Option Place) (others : List PlaceChange) → LinkComes stored gone link others → LinkComes whole gone link others
    comes_whole gone None others l = l
    comes_whole gone (Some place) others l =
        let r = stands_has stored place l.s l.there in
        let same : stored_from place whole ≡ stored_from place stored = subst (λ (p : Place). stored_from p whole ≡ stored_from p stored) r.1 (named_whole l.s r.0) in
        record { s = l.s; there = stands_whole place l.s l.there; comes = subst (λ (xs : List Stored). NewerComes l.s (only_other gone xs) others) (sym same) l.comes }

    pub takes_whole : (place : Place) (is : Record) → TakesRecord stored later place is → TakesRecord whole whole_later place is
    takes_whole place is e = record {
      there = stands_whole place _ e.there;
      others = e.others;
      older = comes_whole place is.head.older e.others e.older;
      edit = whole_edit (e.others ++ (place, None) ∷ []) e.edit
          (each-append (λ (change : PlaceChange). StandsIn stored later change.0) e.others ((place, None) ∷ []) (comes_within stored later place is.head.older e.others e.older)
          (within_was stored later place _ e.there, tt));
    }
