-- What is remembered stays true.
use Rattle.std.proofs.Common.{◌≡◌, ◌≢◌, ◌≤◌, ◌<◌, ℕ, true, false, Bool, List, [], Option, Some, None, refl, sym, ap, subst, ◌∙◌, ◌⊎◌, inl, inr, arith}
use Rattle.std.specs.Prelude.{Contains, IsTrue, nat_eq, nat_lt, ◌&&◌, if◌then◌else◌}
use Rattle.std.proofs.lemmas.Bool.{ltb-true}
use Rattle.std.proofs.lemmas.Bool.{cases_lt}
use Rattle.std.proofs.lemmas.Option.{same_Some}
use Rattle.std.specs.Map.{lookup}
use Rattle.std.specs.BTreeSet.{BTreeSet, contains}
use Rattle.std.proofs.lemmas.Map.Views.{btree_set_contains_iff}
use Rattle.ex_base.specs.declared.ground.Ground as ground
use Rattle.ex_base.specs.declared.names.Index.{Index}
use Rattle.ex_base.specs.declared.names.Place.{Place}
use Rattle.indexmap.specs.IndexMap.{insert_entry}
use Rattle.ex_base.proofs.Counts.{same_or_not, contains_times, times-append}
use Rattle.ex_base.specs.Ports.{times}
use Rattle.file_index.specs.Changes.{count_of}
use Rattle.file_index.specs.Index.{pages_of}
use Rattle.slotted_pages.specs.Edits.{slots_of, vacant_at}
use Rattle.slotted_pages.specs.Reads.{page_on}
use Rattle.file_bodies.specs.declared.placing.Room.{Room}
use Rattle.file_bodies.specs.Bodies.{pages_in}
use Rattle.file_bodies.specs.Files.{HasFile, all_pages, index_at}
use Rattle.file_bodies.specs.Places.{slot_for, IsRoom, IsChosen}
use Rattle.file_bodies.proofs.Moving.{lies}
use Rattle.file_bodies.proofs.Slots.{page_of as file_page}
use Rattle.file_bodies.proofs.Searching.{longer_none}
use Rattle.file_rooms.specs.declared.rooms.FilePage.{FilePage}
use Rattle.file_rooms.specs.Rooms.{Remembered, IsLookedFrom, IsLookedAt, IsNoted, IsKept, GetsRoom, GoesBack, behind_all, nothing, new_len, page_of, room_of, room_for, with_place, has_room}
use Rattle.file_rooms.specs.Truth.{IsKnown, AreTrueBut, AreTrue, AreAsBefore, AreIn, at_page, are_changed}
use Rattle.file_rooms.proofs.Kept.{put_there, put_apart}
use Rattle.file_rooms.proofs.Order.{page_order, total, exact}
use Rattle.file_rooms.proofs.Marked.{absent_of, same_page}

-- whether a page is one of some
is_among : (pages : List FilePage) (page : FilePage) → Contains pages page ⊎ (Contains pages page → ⊥)
is_among pages page = by_test (contains page_order set page) refl
  where
    set : BTreeSet FilePage
    set = record { keys = pages }

    by_test : (t : Bool) → contains page_order set page ≡ t → Contains pages page ⊎ (Contains pages page → ⊥)
    by_test true is = inl ((btree_set_contains_iff total exact set page).0 is)
    by_test false is = inr (absent_of set page is)

other_page : (file_no other_no page other : ℕ) → other ≢ page → page_of other_no other ≢ page_of file_no page
other_page file_no other_no page other differ same = differ (ap (λ (p : FilePage). p.page.0) same)

module _ {S : Type 0} (g : ground.Ghosts S) where
  -- from where a place is looked for, no page below has room
  pub true_room : (s : S) (index : Index) (known : Remembered) (room : Room) → HasFile g s index → AreTrue g s known → IsLookedFrom known index.file_no room → IsRoom g s index room
  true_room s index known room file are looked page named low high = elim (are.each index file page named (λ never. never)) [
    | inl none ↦ by_room (lookup (nat_eq index.file_no) known.rooms) refl none
    | inr some ↦ elim some [
      | inl roomy ↦ absurd (omega (arith, looked.roomy page roomy))
      | inr behind ↦ absurd (omega (arith, behind, looked.from))
    ]
  ]
    where
      by_room : (r : Option Room) → lookup (nat_eq index.file_no) known.rooms ≡ r → slot_for g s page new_len ≡ None → slot_for g s page room.len ≡ None
      by_room None is none =
          let from : (room_of known.rooms index.file_no).from.0 ≡ 0 = ap (λ (r : Option Room). (room_for index.file_no r).from.0) is in
          absurd (omega (arith, from, looked.from))
      by_room (Some r) is none =
          let len : room.len ≡ new_len = looked.len ∙ ap (λ (r : Option Room). (room_for index.file_no r).len) is ∙ are.sized index.file_no r is in
          longer_none (g.geometry s).page_size (slots_of (g.image s page)) new_len room.len (omega (arith, len)) none

  -- a known page stays known where the roomy pages and the rooms stay
  stays_known : (old new : S) (known after : Remembered) (file_no page : ℕ) → slot_for g new page new_len ≡ slot_for g old page new_len → (Contains known.roomy (page_of file_no page) → Contains after.roomy (page_of file_no page)) → after.rooms ≡ known.rooms
      → IsKnown g old known file_no page → IsKnown g new after file_no page
  stays_known old new known after file_no page room roomy rooms is = elim is [
    | inl none ↦ inl (room ∙ none)
    | inr some ↦ elim some [
      | inl there ↦ inr (inl (roomy there))
      | inr behind ↦ inr (inr (subst (λ (list : List (ℕ × Room)). (room_of list file_no).from.0 ≤ page) (sym rooms) behind))
    ]
  ]

  sized_after : (known after : Remembered) → after.rooms ≡ known.rooms → ((file_no : ℕ) (room : Room) → lookup (nat_eq file_no) known.rooms ≡ Some room → room.len ≡ new_len)
      → (file_no : ℕ) (room : Room) → lookup (nat_eq file_no) after.rooms ≡ Some room → room.len ≡ new_len
  sized_after known after rooms sized file_no room is = sized file_no room (subst (λ (list : List (ℕ × Room)). lookup (nat_eq file_no) list ≡ Some room) rooms is)

  -- the working state has each page of a whole file
  pub held : (s : S) (index : Index) (page : ℕ) → HasFile g s index → Contains (pages_in (g.image s) index) page → g.held s page ≡ true
  held s index page file named = by_test (g.held s page) (file.once page)
    where
      times_in : 1 ≤ times page (all_pages (g.image s) index)
      times_in = omega (arith, contains_times page (pages_in (g.image s) index) named, times-append page (pages_in (g.image s) index) (pages_of (g.image s) index.level index.root))

      by_test : (t : Bool) → times page (all_pages (g.image s) index) ≤ count_of t → t ≡ true
      by_test true le = refl
      by_test false le = absurd (omega (arith, times_in))

  -- a page that is looked at is known again
  pub looked_true : (s : S) (page : ℕ) (old new : Remembered) → AreTrueBut g s (at_page page) old → IsLookedAt g s page old new → AreTrue g s new
  looked_true s page old new are (inl unseen) = record {
    sized = subst (λ (k : Remembered). (file_no : ℕ) (room : Room) → lookup (nat_eq file_no) k.rooms ≡ Some room → room.len ≡ new_len) (sym unseen.0) are.sized;
    each = λ index file p named not.
        let differs : p ≢ page = (λ same.
        let here : Contains (pages_in (g.image s) index) page = subst (Contains (pages_in (g.image s) index)) same named in
        let times = contains_times page (pages_in (g.image s) index) here in
        unseen.1 (lies g s index page file times).0 (file_page g s index page file times).spelled) in
        subst (λ (k : Remembered). IsKnown g s k index.file_no p) (sym unseen.0) (are.each index file p named differs);
  }
  looked_true s page old new are (inr seen) = record {
    sized = sized_after old new noted.rooms are.sized;
    each = λ index file p named not. elim (same_or_not p page) [
      | inl same ↦ subst (IsKnown g s new index.file_no) (sym same) (here index file (subst (Contains (pages_in (g.image s) index)) same named))
      | inr differ ↦ stays_known s s old new index.file_no p refl (noted.roomy.others (page_of index.file_no p) (other_page number index.file_no page p differ)).1 noted.rooms (are.each index file p named differ)
    ];
  }
    where
      number : ℕ
      number = (page_on (g.image s page)).file_no

      noted : IsNoted (page_of number page) (g.held s page && has_room (g.geometry s).page_size (g.image s page)) old new
      noted = seen.2

      by_test : (file_no : ℕ) → number ≡ file_no → g.held s page ≡ true → (t : Bool) → has_room (g.geometry s).page_size (g.image s page) ≡ t → IsKnown g s new file_no page
      by_test file_no is has true fits = inr (inl (subst (λ (n : ℕ). Contains new.roomy (page_of n page)) is (noted.roomy.marked.1 (rw (has, fits) refl))))
      by_test file_no is has false fits = inl (ap (λ (b : Bool). if b then Some (vacant_at (slots_of (g.image s page))) else None) fits)

      here : (index : Index) → HasFile g s index → Contains (pages_in (g.image s) index) page → IsKnown g s new index.file_no page
      here index file named =
          by_test index.file_no (file_page g s index page file (contains_times page (pages_in (g.image s) index) named)).number (held s index page file named) (has_room (g.geometry s).page_size (g.image s page)) refl

  -- nothing is true of any volume
  pub nothing_true : (s : S) → AreTrue g s nothing
  nothing_true s = record {
    sized = λ file_no room is. absurd (let e : None ≡ Some room = is in cc);
    each = λ index file page named not. inr (inr (omega arith));
  }

  -- the pages stay as the transaction left them
  pub settled_true : (s : S) (known : Remembered) → AreTrue g s known → AreTrue g s (record known { changed = [] })
  settled_true s known are = record { sized = are.sized; each = are.each }

  -- all but some pages are as they were
  pub edited_true : (old new : S) (but : ℕ → ℕ → Type 0) (known : Remembered) → AreAsBefore g old new but → AreTrueBut g old but known → AreTrueBut g new but known
  edited_true old new but known as_before are = record {
    sized = are.sized;
    each = λ index file page named not.
        let before = as_before index file page named not in
        stays_known old new known known index.file_no page before.room (λ there. there) refl
        (subst (λ (n : ℕ). IsKnown g old known n page) before.same_file (are.each before.index before.file page before.named (subst (λ (n : ℕ). but n page → ⊥) (sym before.same_file) not)));
  }

  -- the pages go back
  pub back_true : (s : S) (kept : List Bool) (old new : Remembered) → AreIn g s kept → AreTrueBut g s (are_changed old) old → GoesBack kept old new → AreTrue g s new
  back_true s kept old new have are goes = record {
    sized = sized_after old new goes.rooms are.sized;
    each = λ index file page named not. elim (is_among old.changed (page_of index.file_no page)) [
      | inl changed ↦ inr (inl ((goes.touched (page_of index.file_no page) changed).1 (have index file page named)))
      | inr apart ↦ stays_known s s old new index.file_no page refl (goes.others (page_of index.file_no page) apart).1 goes.rooms (are.each index file page named apart)
    ];
  }

  -- ---- a place was found

  -- the catalog has one index of a file
  pub same_index : (s : S) (a b : Index) → HasFile g s a → HasFile g s b → a.file_no ≡ b.file_no → a ≡ b
  same_index s a b first second same = same_Some a b (sym (subst (λ (n : ℕ). index_at (g.image s) n ≡ Some a) same first.entry) ∙ second.entry)

  -- what is chosen lies where no page from the asked one on has room
  module _ (s : S) (index : Index) (place : Place) (chosen : IsChosen g s index new_len place) where
    -- below the place no page has room
    pub low_none : (page : ℕ) → Contains (pages_in (g.image s) index) page → page < place.page.0 → slot_for g s page new_len ≡ None
    low_none page named low = elim chosen [
      | inl lowest ↦ lowest.lowest page named (omega arith) low
      | inr fresh ↦ fresh.none page named
    ]

    -- where the file grew, no page has
    pub grown_none : HasFile g s index → (grew : Bool) → grew ≡ true → (g.held s place.page.0 ≡ true → grew ≡ false) → (page : ℕ) → Contains (pages_in (g.image s) index) page → slot_for g s page new_len ≡ None
    grown_none file grew is only page named = elim chosen [
      | inl lowest ↦ absurd (let e : true ≡ false = sym is ∙ only (held s index place.page.0 file lowest.named) in cc)
      | inr fresh ↦ fresh.none page named
    ]

    -- a page from which the place was looked for, and that wasn't taken
    pub passed_none : (asked : Room) → IsRoom g s index asked → asked.len ≤ new_len → asked.from.0 ≢ place.page.0 → Contains (pages_in (g.image s) index) asked.from.0 → slot_for g s asked.from.0 new_len ≡ None
    passed_none asked room short differ named = elim chosen [
      | inl lowest ↦ elim (cases_lt asked.from.0 place.page.0) [
        | inl low ↦ lowest.lowest asked.from.0 named (omega arith) low
        | inr le ↦
            let none = longer_none (g.geometry s).page_size (slots_of (g.image s place.page.0)) asked.len new_len short (room place.page.0 lowest.named (omega arith) (omega (arith, differ))) in
            absurd (let e : None ≡ Some place.slot = sym none ∙ lowest.slot in cc)
      ]
      | inr fresh ↦ fresh.none asked.from.0 named
    ]

  -- the length of the asked room
  asked_len : (s : S) (known : Remembered) (file_no : ℕ) (asked : Room) → AreTrue g s known → IsLookedFrom known file_no asked → asked.len ≤ new_len
  asked_len s known file_no asked are looked = by_room (lookup (nat_eq file_no) known.rooms) refl
    where
      by_room : (r : Option Room) → lookup (nat_eq file_no) known.rooms ≡ r → asked.len ≤ new_len
      by_room None is = omega (arith, looked.len ∙ ap (λ (r : Option Room). (room_for file_no r).len) is)
      by_room (Some r) is = omega (arith, looked.len ∙ ap (λ (r : Option Room). (room_for file_no r).len) is ∙ are.sized file_no r is)

  -- where the pages of a file begin, once its place was raised
  data Raised (known new : Remembered) (file_no from : ℕ) : Type 0 where
    same_rooms : new.rooms ≡ known.rooms → Raised known new file_no from
    raised : new.rooms ≡ insert_entry nat_eq known.rooms file_no (record { file_no = file_no; from = record { 0 = from }; len = new_len }) → Raised known new file_no from

  raised_or : (known new : Remembered) (file_no from : ℕ) → GetsRoom known.rooms (with_place known.rooms file_no from) file_no new.rooms → Raised known new file_no from
  raised_or known new file_no from (inr stays) = same_rooms stays.1
  raised_or known new file_no from (inl is) = by_test (nat_lt (room_of known.rooms file_no).from.0 from) is
    where
      by_test : (t : Bool) → new.rooms ≡ (if t then insert_entry nat_eq known.rooms file_no (record { file_no = file_no; from = record { 0 = from }; len = new_len }) else known.rooms) → Raised known new file_no from
      by_test true is = raised is
      by_test false is = same_rooms is

  module _ (s : S) (known new : Remembered) (file_no from : ℕ) where
    rooms_sized : Raised known new file_no from → ((n : ℕ) (room : Room) → lookup (nat_eq n) known.rooms ≡ Some room → room.len ≡ new_len) → (n : ℕ) (room : Room) → lookup (nat_eq n) new.rooms ≡ Some room → room.len ≡ new_len
    rooms_sized (same_rooms is) sized n room there = sized_after known new is sized n room there
    rooms_sized (raised is) sized n room there =
        let put : Room = record { file_no = file_no; from = record { 0 = from }; len = new_len } in
        let at : lookup (nat_eq n) (insert_entry nat_eq known.rooms file_no put) ≡ Some room = subst (λ (list : List (ℕ × Room)). lookup (nat_eq n) list ≡ Some room) is there in
        elim (same_or_not n file_no) [
          | inl same ↦ ap (λ (r : Room). r.len) (same_Some room put (sym at ∙ subst (λ (k : ℕ). lookup (nat_eq k) (insert_entry nat_eq known.rooms file_no put) ≡ Some put) (sym same) (put_there known.rooms file_no put)))
          | inr differ ↦ sized n room (sym (put_apart known.rooms file_no n put differ) ∙ at)
        ]

    -- a page behind the place that was remembered is known, where none below the new place has room
    behind_known : Raised known new file_no from → (n page : ℕ) → (n ≡ file_no → page < from → slot_for g s page new_len ≡ None) → (room_of known.rooms n).from.0 ≤ page → IsKnown g s new n page
    behind_known (same_rooms is) n page none behind = inr (inr (subst (λ (list : List (ℕ × Room)). (room_of list n).from.0 ≤ page) (sym is) behind))
    behind_known (raised is) n page none behind =
        let put : Room = record { file_no = file_no; from = record { 0 = from }; len = new_len } in
        elim (same_or_not n file_no) [
          | inl same ↦ elim (cases_lt page from) [
            | inl low ↦ inl (none same low)
            | inr le ↦
                let at : (room_of new.rooms n).from.0 ≡ from = ap (λ (list : List (ℕ × Room)). (room_of list n).from.0) is ∙ subst (λ (k : ℕ). (room_of (insert_entry nat_eq known.rooms file_no put) k).from.0 ≡ from) (sym same) (ap (λ (r : Option Room). (room_for file_no r).from.0) (put_there known.rooms file_no put)) in
                inr (inr (omega (arith, at)))
          ]
          | inr differ ↦
              let at : (room_of new.rooms n).from.0 ≡ (room_of known.rooms n).from.0 = ap (λ (list : List (ℕ × Room)). (room_of list n).from.0) is ∙ ap (λ (r : Option Room). (room_for n r).from.0) (put_apart known.rooms file_no n put differ) in
              inr (inr (omega (arith, at)))
        ]

  pub found_true : (s : S) (index : Index) (asked : Room) (place : Place) (grew : Bool) (old new : Remembered) → HasFile g s index → AreTrue g s old → IsLookedFrom old index.file_no asked → IsChosen g s index new_len place
      → (g.held s place.page.0 ≡ true → grew ≡ false) → IsKept old asked place.page.0 grew new → AreTrueBut g s (at_page place.page.0) new
  found_true s index asked place grew old new file are looked chosen only kept = record {
    sized = rooms_sized s old new asked.file_no from gets are.sized;
    each = λ other has page named not. elim (are.each other has page named (λ never. never)) [
      | inl none ↦ inl none
      | inr some ↦ elim some [
        | inl roomy ↦ elim (same_page (page_of other.file_no page) (page_of asked.file_no asked.from.0)) [
          | inl same ↦ inl (at_asked other has page named (ap (λ (p : FilePage). p.file_no) same ∙ looked.file) (ap (λ (p : FilePage). p.page.0) same) not)
          | inr differ ↦ inr (inl ((kept.roomy (page_of other.file_no page)).1 (roomy, λ passed. differ passed.1)))
        ]
        | inr behind ↦ behind_known s old new asked.file_no from gets other.file_no page (λ same low. below grew refl other has page named (same ∙ looked.file) low) behind
      ]
    ];
  }
    where
      from : ℕ
      from = if grew then behind_all else place.page.0

      gets : Raised old new asked.file_no from
      gets = raised_or old new asked.file_no from kept.rooms

      at_asked : (other : Index) → HasFile g s other → (page : ℕ) → Contains (pages_in (g.image s) other) page → other.file_no ≡ index.file_no → page ≡ asked.from.0 → page ≢ place.page.0 → slot_for g s page new_len ≡ None
      at_asked other has page named file_is is differ =
          let here : Contains (pages_in (g.image s) index) asked.from.0 = subst (Contains (pages_in (g.image s) index)) is (subst (λ (i : Index). Contains (pages_in (g.image s) i) page) (same_index s other index has file file_is) named) in
          subst (λ (p : ℕ). slot_for g s p new_len ≡ None) (sym is)
          (passed_none s index place chosen asked (true_room s index old asked file are looked) (asked_len s old index.file_no asked are looked) (λ same. differ (is ∙ same)) here)

      below : (t : Bool) → grew ≡ t → (other : Index) → HasFile g s other → (page : ℕ) → Contains (pages_in (g.image s) other) page → other.file_no ≡ index.file_no → page < (if grew then behind_all else place.page.0) → slot_for g s page new_len ≡ None
      below t is other has page named file_is low =
          let here : Contains (pages_in (g.image s) index) page = subst (λ (i : Index). Contains (pages_in (g.image s) i) page) (same_index s other index has file file_is) named in
          by t is here
        where
          by : (t : Bool) → grew ≡ t → Contains (pages_in (g.image s) index) page → slot_for g s page new_len ≡ None
          by true did here = grown_none s index place chosen file grew did only page here
          by false stays here = low_none s index place chosen page here (subst (λ (b : Bool). page < (if b then behind_all else place.page.0)) stays low)
