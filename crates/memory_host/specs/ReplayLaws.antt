-- What replayed calls mean, call by call.
use Rattle.std.specs.Prelude.{◌==◌, ◌≡◌, ◌≤◌, ◌<◌, ◌⊎◌, ◌↔◌, ℕ, ◌+◌, ◌-◌, Bool, true, false, IsTrue, is_some, Option, Some, None, List, [], ◌∷◌, ◌++◌, length, take, drop, fold, slice_index, if◌then◌else◌, refl, Vec}
use Rattle.std.specs.declared.alloc.Global.{Global}
use Rattle.std.proofs.Common.{sym, ◌∙◌, ap, subst, inl, inr, ⊎_elim, arith}
use Rattle.std.proofs.lemmas.List.{take_all, take-append-le, length_push, append-nil, ext_get_or}
use Rattle.std.proofs.lemmas.List.Sums.{fold-append}
use Rattle.std.proofs.lemmas.Bool.{cases_lt}
use Rattle.ex_base.specs.Bytes.{IsBytes, part, repl, SameOutside, length-part, length-repl, repl-below, repl-above, repl-inside, get-part, repl_is_bytes, repl_same_outside, same_outside_refl}
use Rattle.ex_base.specs.Fields.{part_is_bytes}
use Rattle.disk_model.specs.Outside.{IsWorld, Goes, Adds, SameImages, DiskOnly, WritesNothing, SourceOnly, SinkOnly, Between, RestsOn}
use Rattle.disk_model.specs.Calls.{Tears, Wrote, Settles}
use Rattle.memory_host.specs.Stays.{Stays}
use Rattle.disk_model.specs.Runs.{adds_wider}
use Rattle.memory_host.specs.Replay.{State, fresh, after_call, replayed, IsSettledAt, IsImage, IsMoment, HasStood, outside_of}
use Rattle.memory_host.specs.declared.host.Call.{Call}
use Rattle.memory_host.specs.declared.host.Call.TheVariants.{Write, Sync, Put, Other}
use Rattle.std.proofs.lemmas.Option.{same_Some}

pub replayed_push : (start : List ℕ) (calls : List Call) (c : Call) → replayed start (calls ++ c ∷ []) ≡ after_call (replayed start calls) c
unfolding replayed
replayed_push start calls c = fold-append after_call (fresh start) calls (c ∷ [])

-- what the disk holds is an image
pub held_is_image : (m : State) → IsBytes m.disk → IsImage m m.disk
held_is_image m bytes = record { same_length = refl; bytes = bytes; outside = λ i settled. refl }

pub told_disk : (told : Bool) (x d : List ℕ) → (if told then Some x else None) ≡ Some d → x ≡ d
told_disk true x d is = cc
told_disk false x d is = absurd (cc)

told_same : (told : Bool) (x y : List ℕ) → is_some (if told then Some y else None) ≡ is_some (if told then Some x else None)
told_same true x y = refl
told_same false x y = refl

pub tells : (told : Bool) (x : List ℕ) → IsTrue told → (if told then Some x else None) ≡ Some x
tells true x is = refl
tells false x is = absurd (cc)

told_true : (told : Bool) (x d : List ℕ) → (if told then Some x else None) ≡ Some d → IsTrue told
told_true true x d is = refl
told_true false x d is = absurd (cc)

-- all calls that were made
module _ (start : List ℕ) (calls : List Call) (t : ℕ) (le : length calls ≤ t) where
  pub all_calls : replayed start (take t calls) ≡ replayed start calls
  all_calls = ap (replayed start) (take_all t calls le)

pub world_of : (start : List ℕ) (told : Bool) (calls : List Call) (left : List ℕ) (df rf wf : ℕ)
    → length (replayed start calls).disk ≡ length start → IsBytes (replayed start calls).disk → IsWorld (outside_of start told calls left df rf wf)
world_of start told calls left df rf wf long bytes = record {
  held_may_stay = λ d is. subst (λ (e : List ℕ). IsImage (replayed start calls) e) (told_disk told (replayed start calls).disk d is) (held_is_image (replayed start calls) bytes);
  whole = λ d image. image.same_length ∙ long;
  bytes = λ d image. image.bytes;
  now_counts = λ t s d le disk sent image. record {
    call = length calls;
    since = le;
    made = omega arith;
    sent = subst (λ (cs : List Call). (replayed start cs).sent ≡ s) (sym (take_all (length calls) calls (omega arith))) (same_Some _ _ sent);
    image = subst (λ (cs : List Call). IsImage (replayed start cs) d) (sym (take_all (length calls) calls (omega arith))) image;
  };
  now_only = λ s d m.
      let all : take m.call calls ≡ calls = take_all m.call calls (omega (arith, m.since)) in
      (subst (λ (cs : List Call). Some (replayed start cs).sent ≡ Some s) all (ap (λ (l : List ℕ). Some l) m.sent), subst (λ (cs : List Call). IsImage (replayed start cs) d) all m.image);
  earlier = λ t u s d le m. record { call = m.call; since = omega (arith, le, m.since); made = m.made; sent = m.sent; image = m.image };
  stands_now = λ s d e sent disk image.
      let all = sym (all_calls start calls (length calls) (omega arith)) in
      record {
        truthful = told_true told (replayed start calls).disk d disk;
        made = omega arith;
        sent = subst (λ (st : State). st.sent ≡ s) all (same_Some _ _ sent);
        disk = subst (λ (st : State). st.disk ≡ d) all (told_disk told (replayed start calls).disk d disk);
        image = subst (λ (st : State). IsImage st e) all image;
      };
  stands_only = λ s d e stood.
      let all = all_calls start calls (length calls) (omega arith) in (
        subst (λ (st : State). Some st.sent ≡ Some s) all (ap (λ (l : List ℕ). Some l) stood.sent),
        tells told (replayed start calls).disk stood.truthful ∙ ap (λ (l : List ℕ). Some l) (subst (λ (st : State). st.disk ≡ d) all stood.disk),
        subst (λ (st : State). IsImage st e) all stood.image,
      );
  stood_by_now = λ t s d e stood. stood.made;
  stood_counts = λ t u s d e le stood. record { call = u; since = le; made = stood.made; sent = stood.sent; image = stood.image };
}

moment_on : (start : List ℕ) (calls : List Call) (c : Call) (t : ℕ) (s d : List ℕ) → IsMoment start calls t s d → IsMoment start (calls ++ c ∷ []) t s d
moment_on start calls c t s d m =
    let front : take m.call (calls ++ c ∷ []) ≡ take m.call calls = take-append-le m.call calls (c ∷ []) m.made in
    record {
      call = m.call;
      since = m.since;
      made = omega (arith, m.made, length_push calls c);
      sent = subst (λ (cs : List Call). (replayed start cs).sent ≡ s) (sym front) m.sent;
      image = subst (λ (cs : List Call). IsImage (replayed start cs) d) (sym front) m.image;
    }

-- What stood at a time is as it was after one call more.
module _ (start : List ℕ) (told : Bool) (calls : List Call) (c : Call) (t : ℕ) (s d e : List ℕ) (up_to : t ≤ length calls) where
  pub front_stays : replayed start (take t (calls ++ c ∷ [])) ≡ replayed start (take t calls)
  front_stays = ap (replayed start) (take-append-le t calls (c ∷ []) up_to)

  stood_on : HasStood start told calls t s d e → HasStood start told (calls ++ c ∷ []) t s d e
  stood_on stood = record {
    truthful = stood.truthful;
    made = omega (arith, up_to, length_push calls c);
    sent = subst (λ (st : State). st.sent ≡ s) (sym front_stays) stood.sent;
    disk = subst (λ (st : State). st.disk ≡ d) (sym front_stays) stood.disk;
    image = subst (λ (st : State). IsImage st e) (sym front_stays) stood.image;
  }

  stood_back : HasStood start told (calls ++ c ∷ []) t s d e → HasStood start told calls t s d e
  stood_back stood = record {
    truthful = stood.truthful;
    made = up_to;
    sent = subst (λ (st : State). st.sent ≡ s) front_stays stood.sent;
    disk = subst (λ (st : State). st.disk ≡ d) front_stays stood.disk;
    image = subst (λ (st : State). IsImage st e) front_stays stood.image;
  }

  stood_same : HasStood start told calls t s d e ↔ HasStood start told (calls ++ c ∷ []) t s d e
  stood_same = (stood_on, stood_back)

-- the moments of one call more
moment_new : (start : List ℕ) (calls : List Call) (c : Call) (t : ℕ) (s d : List ℕ) → IsMoment start (calls ++ c ∷ []) t s d
    → IsMoment start calls t s d ⊎ (((after_call (replayed start calls) c).sent ≡ s) × IsImage (after_call (replayed start calls) c) d)
moment_new start calls c t s d m = ⊎_elim earlier now (cases_lt (length calls) m.call)
  where
    now : m.call ≤ length calls → IsMoment start calls t s d ⊎ (((after_call (replayed start calls) c).sent ≡ s) × IsImage (after_call (replayed start calls) c) d)
    now le =
        let front : take m.call (calls ++ c ∷ []) ≡ take m.call calls = take-append-le m.call calls (c ∷ []) le in
        inl (record {
          call = m.call;
          since = m.since;
          made = le;
          sent = subst (λ (cs : List Call). (replayed start cs).sent ≡ s) front m.sent;
          image = subst (λ (cs : List Call). IsImage (replayed start cs) d) front m.image;
        })

    earlier : length calls < m.call → IsMoment start calls t s d ⊎ (((after_call (replayed start calls) c).sent ≡ s) × IsImage (after_call (replayed start calls) c) d)
    earlier lt =
        let all : take m.call (calls ++ c ∷ []) ≡ calls ++ c ∷ [] = take_all m.call (calls ++ c ∷ []) (omega (arith, lt, length_push calls c)) in
        let last : replayed start (take m.call (calls ++ c ∷ [])) ≡ after_call (replayed start calls) c = ap (replayed start) all ∙ replayed_push start calls c in
        inr (subst (λ (st : State). st.sent ≡ s) last m.sent, subst (λ (st : State). IsImage st d) last m.image)

module _ (start : List ℕ) (told : Bool) (calls : List Call) where
  -- one call more keeps what each call keeps
  pub goes_call : (c : Call) (left left' : List ℕ) (df df' rf rf' wf wf' : ℕ) → df ≤ df' → rf ≤ rf' → wf ≤ wf'
      → Goes (outside_of start told calls left df rf wf) (outside_of start told (calls ++ c ∷ []) left' df' rf' wf')
  goes_call c left left' df df' rf rf' wf wf' d r w = record {
    size = refl;
    honest = refl;
    disk_told = told_same told (replayed start calls).disk (replayed start (calls ++ c ∷ [])).disk;
    left_told = refl;
    sent_told = refl;
    calls_told = refl;
    clock = omega (arith, length_push calls c);
    disk_faults = d;
    read_faults = r;
    write_faults = w;
    moments = λ t s e m. moment_on start calls c t s e m;
    past = λ t s e f up_to. stood_same start told calls c t s e f up_to;
  }

  adds_call : (c : Call) (left left' : List ℕ) (df df' rf rf' wf wf' : ℕ)
      → Adds (outside_of start told calls left df rf wf) (outside_of start told (calls ++ c ∷ []) left' df' rf' wf')
      (λ s d. ((after_call (replayed start calls) c).sent ≡ s) × IsImage (after_call (replayed start calls) c) d)
  adds_call c left left' df df' rf rf' wf wf' = record { each = λ t s d le m. moment_new start calls c t s d m }

  -- a call that changed nothing
  pub other_is : replayed start (calls ++ Other ∷ []) ≡ replayed start calls
  other_is = replayed_push start calls Other

  other_images : (left left' : List ℕ) (df df' rf rf' wf wf' : ℕ)
      → SameImages (outside_of start told calls left df rf wf) (outside_of start told (calls ++ Other ∷ []) left' df' rf' wf')
  other_images left left' df df' rf rf' wf wf' = record {
    on = λ d image. subst (λ (st : State). IsImage st d) (sym other_is) image;
    back = λ d image. subst (λ (st : State). IsImage st d) other_is image;
  }

  other_adds : (left left' : List ℕ) (df df' rf rf' wf wf' : ℕ)
      → Adds (outside_of start told calls left df rf wf) (outside_of start told (calls ++ Other ∷ []) left' df' rf' wf')
      (λ s d. (Some (replayed start calls).sent ≡ Some s) × IsImage (replayed start calls) d)
  other_adds left left' df df' rf rf' wf wf' =
      adds_wider _ (λ s d. (Some (replayed start calls).sent ≡ Some s) × IsImage (replayed start calls) d) (adds_call Other left left' df df' rf rf' wf wf')
      (λ s d new. (ap (λ (l : List ℕ). Some l) new.0, new.1))

  pub stays_call : (left : List ℕ) (df df' rf rf' wf wf' : ℕ) → df ≤ df' → rf ≤ rf' → wf ≤ wf'
      → Stays (outside_of start told calls left df rf wf) (outside_of start told (calls ++ Other ∷ []) left df' rf' wf')
  stays_call left df df' rf rf' wf wf' d r w = record {
    goes = goes_call Other left left df df' rf rf' wf wf' d r w;
    left = refl;
    sent = ap (λ (st : State). Some st.sent) other_is;
    disk = ap (λ (st : State). if told then Some st.disk else None) other_is;
    images = other_images left left df df' rf rf' wf wf';
    adds = other_adds left left df df' rf rf' wf wf';
  }

  pub take_call : (left : List ℕ) (n : ℕ) (df rf rf' wf : ℕ) → rf ≤ rf' → SourceOnly (outside_of start told calls left df rf wf) (outside_of start told (calls ++ Other ∷ []) (drop n left) df rf' wf)
  take_call left n df rf rf' wf le = record {
    goes = goes_call Other left (drop n left) df df rf rf' wf wf (omega arith) le (omega arith);
    sent = ap (λ (st : State). Some st.sent) other_is;
    disk = ap (λ (st : State). if told then Some st.disk else None) other_is;
    images = other_images left (drop n left) df df rf rf' wf wf;
    disk_faults = refl;
    write_faults = refl;
    left = λ was is. (n, ap (λ (o : Option (List ℕ)). drop_some o) is);
    adds = other_adds left (drop n left) df df rf rf' wf wf;
  }
    where
      drop_some : Option (List ℕ) → Option (List ℕ)
      drop_some (Some l) = Some (drop n l)
      drop_some None = None

  -- a sync that is done
  synced_back : (d : List ℕ) → IsImage (replayed start (calls ++ Sync ∷ [])) d → IsImage (replayed start calls) d × (d ≡ (replayed start calls).disk)
  synced_back d image =
      let here : IsImage (after_call (replayed start calls) Sync) d = subst (λ (st : State). IsImage st d) (replayed_push start calls Sync) image in (
        record { same_length = here.same_length; bytes = here.bytes; outside = λ i settled. here.outside i tt },
        ext_get_or 0 d (replayed start calls).disk here.same_length (λ i lt. here.outside i tt),
      )

  pub sync_call : (left : List ℕ) (df rf wf : ℕ)
      → WritesNothing (outside_of start told calls left df rf wf) (outside_of start told (calls ++ Sync ∷ []) left df rf wf)
      × Settles (outside_of start told calls left df rf wf) (outside_of start told (calls ++ Sync ∷ []) left df rf wf)
  sync_call left df rf wf =
      let is = replayed_push start calls Sync in
      let adds = adds_wider _ (λ s d. (Some (replayed start calls).sent ≡ Some s) × IsImage (replayed start calls) d) (adds_call Sync left left df df rf rf wf wf)
      (λ s d new. (ap (λ (l : List ℕ). Some l) new.0, (synced_back d (subst (λ (st : State). IsImage st d) (sym is) new.1)).0)) in (
        record {
          only = record {
            goes = goes_call Sync left left df df rf rf wf wf (omega arith) (omega arith) (omega arith);
            left = refl;
            sent = ap (λ (st : State). Some st.sent) is;
            read_faults = refl;
            write_faults = refl;
            adds = adds_wider _ (λ s d. Some (replayed start calls).sent ≡ Some s) adds (λ s d new. new.0);
          };
          disk = ap (λ (st : State). if told then Some st.disk else None) is;
          back = λ honest d image. (synced_back d image).0;
          adds = λ honest. adds;
        },
        λ honest d holds e image. (synced_back e image).1 ∙ told_disk told (replayed start calls).disk d holds,
      )

  -- a put that sent these bytes
  module _ (bytes : Vec ℕ Global) (left : List ℕ) (df rf wf : ℕ) where
    put_images : SameImages (outside_of start told calls left df rf wf) (outside_of start told (calls ++ Put bytes ∷ []) left df rf wf)
    put_images = record {
      on = λ d image. subst (λ (st : State). IsImage st d) (sym (replayed_push start calls (Put bytes))) (record { same_length = image.same_length; bytes = image.bytes; outside = image.outside });
      back = λ d image. let here : IsImage (after_call (replayed start calls) (Put bytes)) d = subst (λ (st : State). IsImage st d) (replayed_push start calls (Put bytes)) image in
          record { same_length = here.same_length; bytes = here.bytes; outside = here.outside };
    }

    pub put_sent : Some (replayed start (calls ++ Put bytes ∷ [])).sent ≡ Some ((replayed start calls).sent ++ bytes.items)
    put_sent = ap (λ (st : State). Some st.sent) (replayed_push start calls (Put bytes))

    put_new : Adds (outside_of start told calls left df rf wf) (outside_of start told (calls ++ Put bytes ∷ []) left df rf wf)
        (λ s d. IsImage (replayed start calls) d × ((replayed start calls).sent ++ bytes.items ≡ s))
    put_new = adds_wider _ (λ s d. IsImage (replayed start calls) d × ((replayed start calls).sent ++ bytes.items ≡ s)) (adds_call (Put bytes) left left df df rf rf wf wf)
        (λ s d new. (put_images.back d (subst (λ (st : State). IsImage st d) (sym (replayed_push start calls (Put bytes))) new.1), new.0))

    pub put_adds : Adds (outside_of start told calls left df rf wf) (outside_of start told (calls ++ Put bytes ∷ []) left df rf wf)
        (λ s d. IsImage (replayed start calls) d × ((Some (replayed start calls).sent ≡ Some s) ⊎ (Some (replayed start (calls ++ Put bytes ∷ [])).sent ≡ Some s)))
    put_adds = adds_wider _ (λ s d. IsImage (replayed start calls) d × ((Some (replayed start calls).sent ≡ Some s) ⊎ (Some (replayed start (calls ++ Put bytes ∷ [])).sent ≡ Some s))) put_new
        (λ s d new. (new.0, inr (put_sent ∙ ap (λ (l : List ℕ). Some l) new.1)))

    pub put_call : SinkOnly (outside_of start told calls left df rf wf) (outside_of start told (calls ++ Put bytes ∷ []) left df rf wf)
    put_call = record {
      goes = goes_call (Put bytes) left left df df rf rf wf wf (omega arith) (omega arith) (omega arith);
      left = refl;
      disk = ap (λ (st : State). if told then Some st.disk else None) (replayed_push start calls (Put bytes));
      images = put_images;
      disk_faults = refl;
      read_faults = refl;
      sent = λ was is. (bytes.items, put_sent ∙ ap add_bytes is);
      adds = adds_wider _ (λ s d. IsImage (replayed start calls) d × Between (Some (replayed start calls).sent) (Some (replayed start (calls ++ Put bytes ∷ [])).sent) s) put_new
          (λ s d new. (
            new.0,
            record {
              first = (replayed start calls).sent;
              last = (replayed start calls).sent ++ bytes.items;
              was = refl;
              is = put_sent;
              begins = (bytes.items, sym new.1);
              goes_on = ([], new.1 ∙ sym (append-nil s));
            },
          ));
    }
      where
        add_bytes : Option (List ℕ) → Option (List ℕ)
        add_bytes (Some l) = Some (l ++ bytes.items)
        add_bytes None = None

-- What a crash may leave after a write is a torn form of what it could leave before.
module _ (m : State) (at n : ℕ) (disk e : List ℕ) (fits : at + n ≤ length m.disk) (held : IsBytes m.disk) (same : SameOutside at n m.disk disk)
    (long : length e ≡ length disk) (bytes : IsBytes e) (outside : (i : ℕ) → (i < at) ⊎ (at + n ≤ i) → IsSettledAt m.pending i → slice_index e i ≡ slice_index disk i) where
  part_long : length (part m.disk at n) ≡ n
  part_long = length-part m.disk at n fits

  e_long : length e ≡ length m.disk
  e_long = long ∙ same.same_length

  room : at + length (part m.disk at n) ≤ length e
  room = omega (arith, part_long, e_long, fits)

  at_place : (i : ℕ) → IsSettledAt m.pending i → slice_index (repl e at (part m.disk at n)) i ≡ slice_index m.disk i
  at_place i settled = elim (cases_lt i at) [
    | inl lt ↦ repl-below e at (part m.disk at n) i room lt ∙ outside i (inl lt) settled ∙ same.below i lt
    | inr le ↦ elim (cases_lt i (at + n)) [
      | inl lt ↦
          let place : at + (i - at) ≡ i = omega (arith, le) in
          ap (λ (k : ℕ). slice_index (repl e at (part m.disk at n)) k) (sym place)
          ∙ repl-inside e at (part m.disk at n) (i - at) room (omega (arith, le, lt, part_long))
          ∙ get-part m.disk at n (i - at) (omega (arith, le, lt))
          ∙ ap (λ (k : ℕ). slice_index m.disk k) place
      | inr above ↦ repl-above e at (part m.disk at n) i room (omega (arith, above, part_long)) ∙ outside i (inr above) settled ∙ same.above i above
    ]
  ]

  pub torn_from : (d : List ℕ) × IsImage m d × SameOutside at n d e
  torn_from = (
    repl e at (part m.disk at n),
    record {
      same_length = length-repl e at (part m.disk at n) room ∙ e_long;
      bytes = repl_is_bytes e at (part m.disk at n) room bytes (part_is_bytes m.disk at n fits held);
      outside = at_place;
    },
    record {
      same_length = sym (length-repl e at (part m.disk at n) room);
      below = λ i lt. sym (repl-below e at (part m.disk at n) i room lt);
      above = λ i le. sym (repl-above e at (part m.disk at n) i room (omega (arith, le, part_long)));
    },
  )

written_outside : (done : Bool) (disk : List ℕ) (at : ℕ) (x : List ℕ) → at + length x ≤ length disk → SameOutside at (length x) disk (if done then repl disk at x else disk)
written_outside true disk at x fits = repl_same_outside disk at x fits
written_outside false disk at x fits = same_outside_refl at (length x) disk

module _ (start : List ℕ) (told : Bool) (calls : List Call) (at : ℕ) (bytes : Vec ℕ Global) (left : List ℕ) (df df' rf wf : ℕ) (le : df ≤ df')
    (fits : at + length bytes.items ≤ length (replayed start calls).disk) (held : IsBytes (replayed start calls).disk) where
  write_images : (done : Bool) (e : List ℕ) → IsImage (after_call (replayed start calls) (Write at bytes done)) e → (d : List ℕ) × IsImage (replayed start calls) d × SameOutside at (length bytes.items) d e
  write_images done e image =
      torn_from (replayed start calls) at (length bytes.items) (if done then repl (replayed start calls).disk at bytes.items else (replayed start calls).disk) e
      fits held (written_outside done (replayed start calls).disk at bytes.items fits) image.same_length image.bytes (λ i apart settled. image.outside i (apart, settled))

  pub write_call : (done : Bool) → DiskOnly (outside_of start told calls left df rf wf) (outside_of start told (calls ++ Write at bytes done ∷ []) left df' rf wf)
  write_call done =
      let is = replayed_push start calls (Write at bytes done) in
      record {
        goes = goes_call start told calls (Write at bytes done) left left df df' rf rf wf wf le (omega arith) (omega arith);
        left = refl;
        sent = ap (λ (st : State). Some st.sent) is;
        read_faults = refl;
        write_faults = refl;
        adds = adds_wider _ (λ s d. Some (replayed start calls).sent ≡ Some s) (adds_call start told calls (Write at bytes done) left left df df' rf rf wf wf)
            (λ s d new. ap (λ (l : List ℕ). Some l) new.0);
      }

  pub write_tears : (done : Bool) → IsTrue told → Tears at (length bytes.items) (outside_of start told calls left df rf wf) (outside_of start told (calls ++ Write at bytes done ∷ []) left df' rf wf)
  write_tears done honest =
      let is = replayed_push start calls (Write at bytes done) in
      record {
        disk = λ d holds.
            let same = subst (λ (l : List ℕ). SameOutside at (length bytes.items) l (replayed start (calls ++ Write at bytes done ∷ [])).disk) (told_disk told (replayed start calls).disk d holds)
            (subst (λ (st : State). SameOutside at (length bytes.items) (replayed start calls).disk st.disk) (sym is) (written_outside done (replayed start calls).disk at bytes.items fits)) in
            ((replayed start (calls ++ Write at bytes done ∷ [])).disk, tells told (replayed start (calls ++ Write at bytes done ∷ [])).disk honest, same);
        images = λ e image. write_images done e (subst (λ (st : State). IsImage st e) is image);
        adds = adds_wider _ (λ s d. (Some (replayed start calls).sent ≡ Some s) × (IsImage (replayed start calls) d ⊎ IsImage (replayed start (calls ++ Write at bytes done ∷ [])) d))
            (adds_call start told calls (Write at bytes done) left left df df' rf rf wf wf)
            (λ s d new. (ap (λ (l : List ℕ). Some l) new.0, inr (subst (λ (st : State). IsImage st d) (sym is) new.1)));
      }

  pub write_wrote : Wrote at bytes.items (outside_of start told calls left df rf wf) (outside_of start told (calls ++ Write at bytes true ∷ []) left df' rf wf)
  write_wrote d holds =
      let is = replayed_push start calls (Write at bytes true) in
      ap (λ (st : State). if told then Some st.disk else None) is ∙ replaced told d holds
    where
      repl_some : Option (List ℕ) → Option (List ℕ)
      repl_some (Some l) = Some (repl l at bytes.items)
      repl_some None = None

      replaced : (b : Bool) (d : List ℕ) → (if b then Some (replayed start calls).disk else None) ≡ Some d
          → (if b then Some (repl (replayed start calls).disk at bytes.items) else None) ≡ Some (repl d at bytes.items)
      replaced true d is = ap (λ (o : Option (List ℕ)). repl_some o) is
      replaced false d is = absurd (cc)

-- a call that failed before anything was done
module _ (start : List ℕ) (told : Bool) (calls : List Call) (left : List ℕ) (df df' rf rf' wf wf' : ℕ) (d : df ≤ df') (r : rf ≤ rf') (w : wf ≤ wf') where
  counted : Goes (outside_of start told calls left df rf wf) (outside_of start told calls left df' rf' wf')
  counted = record {
    size = refl;
    honest = refl;
    disk_told = refl;
    left_told = refl;
    sent_told = refl;
    calls_told = refl;
    clock = omega arith;
    disk_faults = d;
    read_faults = r;
    write_faults = w;
    moments = λ t s e m. m;
    past = λ t s e f up_to. (λ stood. stood, λ stood. stood);
  }

  no_news : (P : List ℕ → List ℕ → Type 0) → Adds (outside_of start told calls left df rf wf) (outside_of start told calls left df' rf' wf') P
  no_news P = record { each = λ t s e le m. inl m }

-- where a count rose and nothing else changed
pub stays_counted : (start : List ℕ) (told : Bool) (calls : List Call) (left : List ℕ) (df df' rf rf' wf wf' : ℕ) → df ≤ df' → rf ≤ rf' → wf ≤ wf'
    → Stays (outside_of start told calls left df rf wf) (outside_of start told calls left df' rf' wf')
stays_counted start told calls left df df' rf rf' wf wf' d r w = record {
  goes = counted start told calls left df df' rf rf' wf wf' d r w;
  left = refl;
  sent = refl;
  disk = refl;
  images = record { on = λ e i. i; back = λ e i. i };
  adds = no_news start told calls left df df' rf rf' wf wf' d r w (λ s d. (Some (replayed start calls).sent ≡ Some s) × IsImage (replayed start calls) d);
}

-- before the first call
pub replayed_none : (start : List ℕ) (calls : List Call) → calls ≡ [] → replayed start calls ≡ fresh start
unfolding replayed
replayed_none start calls none = ap (λ (cs : List Call). fold after_call (fresh start) cs) none

-- a call that changes nothing, where it was noted or not
pub replayed_noted : (start : List ℕ) (calls now : List Call) (noted : Bool) → now ≡ (if noted then calls ++ Other ∷ [] else calls) → replayed start now ≡ replayed start calls
replayed_noted start calls now true is = ap (replayed start) is ∙ replayed_push start calls Other
replayed_noted start calls now false is = ap (replayed start) is

pub stays_noted : (start : List ℕ) (told : Bool) (calls now : List Call) (left : List ℕ) (df rf wf : ℕ) (noted : Bool) → now ≡ (if noted then calls ++ Other ∷ [] else calls)
    → Stays (outside_of start told calls left df rf wf) (outside_of start told now left df rf wf)
stays_noted start told calls now left df rf wf true is =
    subst (λ (cs : List Call). Stays (outside_of start told calls left df rf wf) (outside_of start told cs left df rf wf)) (sym is)
    (stays_call start told calls left df df rf rf wf wf (omega arith) (omega arith) (omega arith))
stays_noted start told calls now left df rf wf false is =
    subst (λ (cs : List Call). Stays (outside_of start told calls left df rf wf) (outside_of start told cs left df rf wf)) (sym is)
    (stays_counted start told calls left df df rf rf wf wf (omega arith) (omega arith) (omega arith))

-- the calls after one that was noted
pub noted_yes : (calls now : List Call) (c : Call) (noted : Bool) → now ≡ (if noted then calls ++ c ∷ [] else calls) → noted ≡ true → now ≡ calls ++ c ∷ []
noted_yes calls now c noted is yes_ = is ∙ ap (λ (b : Bool). if b then calls ++ c ∷ [] else calls) yes_

-- a call that leaves what is held and sent, noted or not
pub kept_noted : (start : List ℕ) (calls now : List Call) (c : Call) (noted : Bool) → now ≡ (if noted then calls ++ c ∷ [] else calls)
    → (after_call (replayed start calls) c).disk ≡ (replayed start calls).disk → (after_call (replayed start calls) c).sent ≡ (replayed start calls).sent
    → ((replayed start now).disk ≡ (replayed start calls).disk) × ((replayed start now).sent ≡ (replayed start calls).sent)
kept_noted start calls now c true is disk sent =
    let at = ap (replayed start) is ∙ replayed_push start calls c in
    (ap (λ (st : State). st.disk) at ∙ disk, ap (λ (st : State). st.sent) at ∙ sent)
kept_noted start calls now c false is disk sent =
    let at = ap (replayed start) is in
    (ap (λ (st : State). st.disk) at, ap (λ (st : State). st.sent) at)

-- what is left, less what was taken
pub take_left : (start : List ℕ) (told : Bool) (calls : List Call) (left rest : List ℕ) (n df rf wf : ℕ) → rest ≡ drop n left
    → SourceOnly (outside_of start told calls left df rf wf) (outside_of start told calls rest df rf wf)
take_left start told calls left rest n df rf wf is = record {
  goes = record {
    size = refl;
    honest = refl;
    disk_told = refl;
    left_told = refl;
    sent_told = refl;
    calls_told = refl;
    clock = omega arith;
    disk_faults = omega arith;
    read_faults = omega arith;
    write_faults = omega arith;
    moments = λ t s e m. m;
    past = λ t s e f up_to. (λ stood. stood, λ stood. stood);
  };
  sent = refl;
  disk = refl;
  images = record { on = λ e i. i; back = λ e i. i };
  disk_faults = refl;
  write_faults = refl;
  left = λ was holds. (n, ap (λ (l : List ℕ). Some l) is ∙ ap dropped holds);
  adds = record { each = λ t s e le m. inl m };
}
  where
    dropped : Option (List ℕ) → Option (List ℕ)
    dropped (Some l) = Some (drop n l)
    dropped None = None

-- what is held and sent where a put was noted, or was not
pub put_noted : (start : List ℕ) (calls now : List Call) (was is bytes : List ℕ) (noted : Bool) → was ≡ (replayed start calls).sent
    → (noted ≡ true → (copy : Vec ℕ Global) × (copy.items ≡ bytes) × (now ≡ calls ++ Put copy ∷ []) × (is ≡ was ++ bytes))
    → (noted ≡ false → now ≡ calls) → (noted ≡ false → is ≡ was)
    → ((replayed start now).disk ≡ (replayed start calls).disk) × (is ≡ (replayed start now).sent)
put_noted start calls now was is bytes true same done none kept =
    let put = done refl in
    let after = ap (replayed start) put.2 ∙ replayed_push start calls (Put put.0) in (
      ap (λ (st : State). st.disk) after,
      put.3 ∙ ap (λ (l : List ℕ). l ++ bytes) same ∙ ap (λ (l : List ℕ). (replayed start calls).sent ++ l) (sym put.1) ∙ sym (ap (λ (st : State). st.sent) after),
    )
put_noted start calls now was is bytes false same done none kept =
    let after = ap (replayed start) (none refl) in
    (ap (λ (st : State). st.disk) after, kept refl ∙ same ∙ sym (ap (λ (st : State). st.sent) after))

-- a host that has made no call and doesn't lie
pub rests_fresh : (start image : List ℕ) (calls : List Call) (lying : List ℕ) (left : List ℕ) (df rf wf : ℕ) → calls ≡ [] → lying ≡ [] → start ≡ image
    → RestsOn (outside_of start (length lying == 0) calls left df rf wf) image
rests_fresh start image calls lying left df rf wf none truthful is =
    subst (λ (d : List ℕ). RestsOn (outside_of start (length lying == 0) calls left df rf wf) d) is
    (subst (λ (ls : List ℕ). RestsOn (outside_of start (length ls == 0) calls left df rf wf) start) (sym truthful)
    (record {
      honest = refl;
      holds = ap (λ (st : State). Some st.disk) (replayed_none start calls none);
      settled = λ e image. let here = subst (λ (st : State). IsImage st e) (replayed_none start calls none) image in
          ext_get_or 0 e start here.same_length (λ i lt. here.outside i tt);
    }))
