-- What a port is after one of its calls.
use Rattle.std.proofs.Common.{◌≡◌, ◌≢◌, ◌<◌, ℕ, Bool, true, false, List, length, Option, Some, None, nat_eq, slice_set, refl, sym, ap, ◌∙◌, ⊎_elim}
use Rattle.std.specs.Borrow.{MutBor}
use Rattle.std.specs.Map.{lookup}
use Rattle.std.proofs.lemmas.Bool.{cases_Bool, cases_eq, both_ways}
use Rattle.std.proofs.lemmas.List.{get_or-set_same, get_or-set_other, length-set}
use Rattle.ex_base.specs.declared.ground.Ground as ground
use Rattle.ex_base.specs.Area.{area_end, catalog_no}
use Rattle.ex_base.proofs.Options.{some_apart, some_apart_inside}
use Rattle.meta_pages.specs.Overlays.{Overlays}
use Rattle.meta_pages.specs.Rows.{with_row}
use Rattle.page_alloc.specs.UnitSet.{UnitSet, used_at, updated}
use Rattle.tree_store.proofs.Taking.{differ_used, updated_other}
use Rattle.tree_store.specs.Stored.{NoUnit}
use Rattle.volume_port.specs.Logged.{LoggedSet, is_held}
use Rattle.volume_port.specs.Ported.{IsReady, IsUsed, Moves, IsUntouched, unchanged}
use Rattle.volume_port.proofs.WorkingRows.{put_here, put_other}

-- ---- the flags of pages

module _ (k l : LoggedSet) (page : ℕ) (held : Bool) (is : l ≡ slice_set k page held) where
  pub held_here : page < length k → is_held l page ≡ held
  held_here inside = ap (λ (s : LoggedSet). is_held s page) is ∙ get_or-set_same k page held false inside

  pub held_other : (p : ℕ) → p ≢ page → is_held l p ≡ is_held k p
  held_other p differ = ap (λ (s : LoggedSet). is_held s p) is ∙ get_or-set_other k page p held false differ

  held_long : length l ≡ length k
  held_long = ap (λ (s : LoggedSet). length s) is ∙ length-set k page held

-- a page that is free is none that the working state has
pub free_apart : (used : ℕ → Bool) (k : LoggedSet) (page : ℕ) → ((p : ℕ) → IsUsed used k p) → used page ≡ false → is_held k page ≡ false
free_apart used k page in_use free = ⊎_elim (λ held. absurd (both_ways _ free (in_use page held))) (λ apart. apart) (cases_Bool (is_held k page))

-- ---- the working images

inner : (v : Option (List ℕ)) (o : Option (List ℕ)) → Some v ≡ Some o → v ≡ o
inner v o is = cc

module _ (m n : Overlays) (page : ℕ) (v : Option (List ℕ)) (changed : n ≡ record m { working = with_row page v m.working }) where
  pub row_here : lookup (nat_eq page) n.working ≡ Some v
  row_here = ap (λ (o : Overlays). lookup (nat_eq page) o.working) changed ∙ put_here page v m.working

  row_other : (p : ℕ) → p ≢ page → lookup (nat_eq p) n.working ≡ lookup (nat_eq p) m.working
  row_other p differ = ap (λ (o : Overlays). lookup (nat_eq p) o.working) changed ∙ put_other page v m.working p (λ same. differ (sym same))

none_row : {A : Type 0} (v : A) (o : Option A) → o ≡ Some v → o ≡ None → ⊥
none_row v o is none = cc

-- a page that is there untouched later was so before, where another one changed
pub untouched_before : (m n : Overlays) (page : ℕ) (v : Option (List ℕ)) (changed : n ≡ record m { working = with_row page v m.working }) (k l : LoggedSet) → ((p : ℕ) → p ≢ page → is_held l p ≡ is_held k p)
    → (p : ℕ) → IsUntouched n l p → IsUntouched m k p
untouched_before m n page v changed k l others p (held, row) = ⊎_elim
    (λ (here : p ≡ page). absurd (none_row v (lookup (nat_eq page) n.working) (row_here m n page v changed) (ap (λ q. lookup (nat_eq q) n.working) (sym here) ∙ row)))
    (λ (differ : p ≢ page). (sym (others p differ) ∙ held, sym (row_other m n page v changed p differ) ∙ row)) (cases_eq p page)

-- ---- moves

module _ {S : Type 0} (g : ground.Ghosts S) where
  -- the store alone moved on
  store_ready : (freed : ℕ → Type 0) (a b : S) (m : Overlays) (k : LoggedSet) → g.frees freed a b → ((p : ℕ) → IsUsed (g.used a) k p → IsUsed (g.used b) k p)
      → IsReady g a m k → IsReady g b m k
  store_ready freed a b m k x uses is =
      let same = g.frees_geometry freed a b x in
      record {
        ready = g.frees_ready freed a b x is.ready;
        overlay = is.overlay ∙ sym same;
        held_len = is.held_len ∙ sym (ap area_end same);
        catalog = is.catalog;
        in_use = λ page. uses page (is.in_use page);
        images = is.images;
        gone = is.gone;
      }

  -- units were given back, none of which is a page that the working state has
  pub store_frees : (freed : ℕ → Type 0) (a b : S) (m : MutBor Overlays) (k : MutBor LoggedSet) (r t : MutBor (List ℕ)) → t.ghost_name ≡ r.ghost_name
      → g.frees freed a b → ((p : ℕ) → g.used a p ≡ true → (freed p → ⊥) → g.used b p ≡ true) → ((p : ℕ) → is_held k.now p ≡ true → freed p → ⊥) → Moves g freed a b m m k k r t
  store_frees freed a b m k r t name x used apart = record {
    store = x;
    meta = refl;
    pages = refl;
    room = name;
    used = used;
    given_back = λ page known now. unchanged m.now k.now page known now;
    untouched = λ page is. is;
    committed = refl;
    ready = store_ready freed a b m.now k.now x (λ page is held. used page (is held) (apart page held));
  }

  -- no unit was given back
  pub store_moves : (a b : S) (m : MutBor Overlays) (k : MutBor LoggedSet) (r t : MutBor (List ℕ)) → t.ghost_name ≡ r.ghost_name
      → g.frees NoUnit a b → ((p : ℕ) → g.used a p ≡ true → (NoUnit p → ⊥) → g.used b p ≡ true) → Moves g NoUnit a b m m k k r t
  store_moves a b m k r t name x used = store_frees NoUnit a b m k r t name x used (λ p held none. none)

  -- a working image was changed
  meta_ready : (a : S) (m n : Overlays) (k : LoggedSet) (page : ℕ) (x : List ℕ) → is_held k page ≡ true → n ≡ record m { working = with_row page (Some x) m.working } → IsReady g a m k → IsReady g a n k
  meta_ready a m n k page x there changed is = record {
    ready = is.ready;
    overlay = ap (λ (o : Overlays). o.geometry) changed ∙ is.overlay;
    held_len = is.held_len;
    catalog = is.catalog;
    in_use = is.in_use;
    images = λ p image row. ⊎_elim
        (λ (here : p ≡ page). ap (is_held k) here ∙ there)
        (λ (differ : p ≢ page). is.images p image (sym (row_other m n page (Some x) changed p differ) ∙ row)) (cases_eq p page);
    gone = λ p row. ⊎_elim
        (λ (here : p ≡ page). absurd (some_apart_inside x (sym (row_here m n page (Some x) changed) ∙ ap (λ q. lookup (nat_eq q) n.working) (sym here) ∙ row)))
        (λ (differ : p ≢ page). is.gone p (sym (row_other m n page (Some x) changed p differ) ∙ row)) (cases_eq p page);
  }

  pub meta_moves : (a : S) (m n : MutBor Overlays) (k : MutBor LoggedSet) (r : MutBor (List ℕ)) (page : ℕ) (x : List ℕ) → n.ghost_name ≡ m.ghost_name → is_held k.now page ≡ true
      → n.now ≡ record m.now { working = with_row page (Some x) m.now.working } → Moves g NoUnit a a m n k k r r
  meta_moves a m n k r page x name there changed = record {
    store = g.frees_leads NoUnit a a (g.leads_refl a);
    meta = name;
    pages = refl;
    room = refl;
    used = λ unit is stays. is;
    given_back = λ p known now. ⊎_elim
        (λ (here : p ≡ page). absurd (both_ways _ now (ap (is_held k.now) here ∙ there)))
        (λ (differ : p ≢ page). row_other m.now n.now page (Some x) changed p differ ∙ unchanged m.now k.now p known now) (cases_eq p page);
    untouched = untouched_before m.now n.now page (Some x) changed k.now k.now (λ p differ. refl);
    committed = ap (λ (o : Overlays). o.committed) changed;
    ready = meta_ready a m.now n.now k.now page x there changed;
  }

  -- a page was taken, or given back: its flag and its working image were changed
  flags_ready : (a b : S) (m n : Overlays) (k l : LoggedSet) (page : ℕ) (v : Option (List ℕ)) (held : Bool) → page ≢ catalog_no → page < length k
      → ((x : List ℕ) → v ≡ Some x → held ≡ true) → (v ≡ None → held ≡ false) → g.frees NoUnit a b
      → ((p : ℕ) → IsUsed (g.used a) k p → IsUsed (g.used b) l p) → n ≡ record m { working = with_row page v m.working } → l ≡ slice_set k page held
      → IsReady g a m k → IsReady g b n l
  flags_ready a b m n k l page v held other inside some none x uses changed set is =
      let same = g.frees_geometry NoUnit a b x in
      let flag = held_here k l page held set inside in
      let row = row_here m n page v changed in
      record {
        ready = g.frees_ready NoUnit a b x is.ready;
        overlay = ap (λ (o : Overlays). o.geometry) changed ∙ is.overlay ∙ sym same;
        held_len = held_long k l page held set ∙ is.held_len ∙ sym (ap area_end same);
        catalog = held_other k l page held set catalog_no (λ here. other (sym here)) ∙ is.catalog;
        in_use = λ p. uses p (is.in_use p);
        images = λ p image has. ⊎_elim
            (λ (here : p ≡ page). ap (is_held l) here ∙ flag ∙ some image (inner v (Some image) (sym row ∙ ap (λ q. lookup (nat_eq q) n.working) (sym here) ∙ has)))
            (λ (differ : p ≢ page). held_other k l page held set p differ ∙ is.images p image (sym (row_other m n page v changed p differ) ∙ has)) (cases_eq p page);
        gone = λ p has. ⊎_elim
            (λ (here : p ≡ page). ap (is_held l) here ∙ flag ∙ none (inner v None (sym row ∙ ap (λ q. lookup (nat_eq q) n.working) (sym here) ∙ has)))
            (λ (differ : p ≢ page). held_other k l page held set p differ ∙ is.gone p (sym (row_other m n page v changed p differ) ∙ has)) (cases_eq p page);
      }

  pub take_moves : (a b : S) (m n : MutBor Overlays) (k l : MutBor LoggedSet) (r : MutBor (List ℕ)) (page : ℕ) (x : List ℕ) → n.ghost_name ≡ m.ghost_name → l.ghost_name ≡ k.ghost_name → page ≢ catalog_no → page < length k.now
      → g.leads a b → g.used a page ≡ false → g.used b page ≡ true → ((p : ℕ) → p ≢ page → g.used b p ≡ g.used a p)
      → n.now ≡ record m.now { working = with_row page (Some x) m.now.working } → l.now ≡ slice_set k.now page true → Moves g NoUnit a b m n k l r r
  take_moves a b m n k l r page x meta pages other inside leads free used others changed set =
      let uses : (p : ℕ) → IsUsed (g.used a) k.now p → IsUsed (g.used b) l.now p = λ p is held. ⊎_elim (λ (here : p ≡ page). ap (g.used b) here ∙ used)
      (λ (differ : p ≢ page). others p differ ∙ is (sym (held_other k.now l.now page true set p differ) ∙ held)) (cases_eq p page) in record {
        store = g.frees_leads NoUnit a b leads;
        meta = meta;
        pages = pages;
        room = refl;
        used = λ unit is stays. others unit (λ same. both_ways _ (ap (g.used a) same ∙ free) is) ∙ is;
        given_back = λ p known now. ⊎_elim
            (λ (here : p ≡ page). absurd (both_ways _ now (ap (is_held l.now) here ∙ held_here k.now l.now page true set inside)))
            (λ (differ : p ≢ page). row_other m.now n.now page (Some x) changed p differ ∙ unchanged m.now k.now p known (sym (held_other k.now l.now page true set p differ) ∙ now)) (cases_eq p page);
        untouched = untouched_before m.now n.now page (Some x) changed k.now l.now (λ p differ. held_other k.now l.now page true set p differ);
        committed = ap (λ (o : Overlays). o.committed) changed;
        ready = flags_ready a b m.now n.now k.now l.now page (Some x) true other inside (λ y is. refl) (λ is. absurd (some_apart x is)) (g.frees_leads NoUnit a b leads) uses changed set;
      }

  -- a page is given back, and its unit stays used
  pub give_moves : (a : S) (m n : MutBor Overlays) (k l : MutBor LoggedSet) (r : MutBor (List ℕ)) (page : ℕ) → n.ghost_name ≡ m.ghost_name → l.ghost_name ≡ k.ghost_name → page ≢ catalog_no → page < length k.now
      → n.now ≡ record m.now { working = with_row page None m.now.working } → l.now ≡ slice_set k.now page false → Moves g NoUnit a a m n k l r r
  give_moves a m n k l r page meta pages other inside changed set =
      let uses : (p : ℕ) → IsUsed (g.used a) k.now p → IsUsed (g.used a) l.now p = λ p is held. ⊎_elim
      (λ (here : p ≡ page). absurd (both_ways _ (ap (is_held l.now) here ∙ held_here k.now l.now page false set inside) held))
      (λ (differ : p ≢ page). is (sym (held_other k.now l.now page false set p differ) ∙ held)) (cases_eq p page) in
      let stays = g.frees_leads NoUnit a a (g.leads_refl a) in record {
        store = stays;
        meta = meta;
        pages = pages;
        room = refl;
        used = λ unit is stays. is;
        given_back = λ p known now. ⊎_elim
            (λ (here : p ≡ page). ap (λ q. lookup (nat_eq q) n.now.working) here ∙ row_here m.now n.now page None changed)
            (λ (differ : p ≢ page). row_other m.now n.now page None changed p differ ∙ unchanged m.now k.now p known (sym (held_other k.now l.now page false set p differ) ∙ now)) (cases_eq p page);
        untouched = untouched_before m.now n.now page None changed k.now l.now (λ p differ. held_other k.now l.now page false set p differ);
        committed = ap (λ (o : Overlays). o.committed) changed;
        ready = flags_ready a a m.now n.now k.now l.now page None false other inside (λ y is. absurd (some_apart y (sym is))) (λ is. refl) stays uses changed set;
      }

-- ---- the units

-- the used units go on being used when a free one is taken
pub take_grows : (u v : UnitSet) (page : ℕ) → used_at v ≡ updated (used_at u) page true → used_at u page ≡ false → (p : ℕ) → used_at u p ≡ true → used_at v p ≡ true
take_grows u v page took free p is = ap (λ (f : ℕ → Bool). f p) took ∙ updated_other (used_at u) page true p (differ_used (used_at u) page p free is) ∙ is
