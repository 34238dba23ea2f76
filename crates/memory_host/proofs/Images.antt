-- The images that are chosen are such as a crash may leave.
use Rattle.std.proofs.Common.{◌≡◌, ◌≤◌, ◌∙◌, sym, ap, ◌⊎◌, ⊎_elim, ℕ, ◌<◌, ◌+◌, Bool, true, false, List, [], ◌∷◌, length, take, drop, fold, replicate, if◌then◌else◌, refl, arith}
use Rattle.std.specs.Prelude.{All, slice_index, reverse}
use Rattle.std.proofs.lemmas.List.{length-replicate, take-append-drop}
use Rattle.std.proofs.lemmas.List.Elements.{All-head, All-tail}
use Rattle.std.proofs.lemmas.List.Sums.{fold-append}
use Rattle.ex_base.specs.Bytes.{IsBytes, repl, length-repl, repl-below, repl-above}
use Rattle.memory_host.specs.Replay.{State, Written, fresh, after_call, replayed, end_of, IsSettled, IsSettledAt, IsImage, laid, laid_by, filled, image_of, image_by}
use Rattle.memory_host.specs.declared.host.Call.{Call}
use Rattle.memory_host.specs.declared.host.Call.TheVariants.{Write, Sync, Put, Other}
use Rattle.memory_host.specs.declared.host.Choice.{Choice}
use Rattle.memory_host.specs.declared.host.Choice.TheVariants.{Before, After, Fill}

-- Each of these ranges lies inside a disk of n bytes.
pub AreInside : ℕ → List Written → Type 0
AreInside n [] = Unit {0}
AreInside n (w ∷ ws) = (w.at + length w.bytes ≤ n) × AreInside n ws

-- what holds after each call: outside of the pending ranges stands what was settled
pub record IsKept (n : ℕ) (m : State) : Type 0 where
  pub long : length m.disk ≡ n
  pub settled_long : length m.settled ≡ n
  pub inside : AreInside n m.pending
  pub same : (i : ℕ) → IsSettledAt m.pending i → slice_index m.settled i ≡ slice_index m.disk i

kept_disk : (n : ℕ) (d : List ℕ) (at : ℕ) (x : List ℕ) (done : Bool) → at + length x ≤ n → length d ≡ n
    → (length (if done then repl d at x else d) ≡ n) × ((i : ℕ) → (i < at) ⊎ (at + length x ≤ i) → slice_index (if done then repl d at x else d) i ≡ slice_index d i)
kept_disk n d at x true fits long =
    let room : at + length x ≤ length d = omega (arith, fits, long) in
    (length-repl d at x room ∙ long, λ i apart. ⊎_elim (λ below. repl-below d at x i room below) (λ above. repl-above d at x i room above) apart)
kept_disk n d at x false fits long = (long, λ i apart. refl)

kept_call : (n : ℕ) (m : State) (call : Call) → end_of call ≤ n → IsKept n m → IsKept n (after_call m call)
unfolding AreInside
kept_call n m (Write at bytes done) fits kept =
    let disk = kept_disk n m.disk at bytes.items done fits kept.long in
    record {
      long = disk.0;
      settled_long = kept.settled_long;
      inside = (fits, kept.inside);
      same = λ i settled. kept.same i settled.1 ∙ sym (disk.1 i settled.0);
    }
kept_call n m Sync fits kept = record { long = kept.long; settled_long = kept.long; inside = tt; same = λ i settled. refl }
kept_call n m (Put bytes) fits kept = record { long = kept.long; settled_long = kept.settled_long; inside = kept.inside; same = kept.same }
kept_call n m Other fits kept = kept

kept_calls : (n : ℕ) (m : State) (calls : List Call) → All (λ call. end_of call ≤ n) calls → IsKept n m → IsKept n (fold after_call m calls)
kept_calls n m [] inside kept = kept
kept_calls n m (call ∷ calls) inside kept =
    kept_calls n (after_call m call) calls (All-tail (λ c. end_of c ≤ n) call calls inside) (kept_call n m call (All-head (λ c. end_of c ≤ n) call calls inside) kept)

pub kept_replayed : (start : List ℕ) (calls : List Call) → All (λ call. end_of call ≤ length start) calls → IsKept (length start) (replayed start calls)
unfolding replayed AreInside
kept_replayed start calls inside =
    kept_calls (length start) (fresh start) calls inside (record { long = refl; settled_long = refl; inside = tt; same = λ i settled. refl })

-- A disk that stays as it was outside of these ranges.
record IsLaid (n : ℕ) (ws : List Written) (d e : List ℕ) : Type 0 where
  long : length e ≡ n
  same : (i : ℕ) → IsSettledAt ws i → slice_index e i ≡ slice_index d i

laid_over : (n : ℕ) (w : Written) (ws : List Written) (d e x : List ℕ) → length x ≡ length w.bytes → w.at + length w.bytes ≤ n → IsLaid n ws d e → IsLaid n (w ∷ ws) d (repl e w.at x)
laid_over n w ws d e x size fits so_far =
    let room : w.at + length x ≤ length e = omega (arith, size, fits, so_far.long) in
    record {
      long = length-repl e w.at x room ∙ so_far.long;
      same = λ i settled.
          ⊎_elim (λ below. repl-below e w.at x i room below) (λ above. repl-above e w.at x i room (omega (arith, above, size))) settled.0
          ∙ so_far.same i settled.1;
    }

laid_is : (n : ℕ) (d : List ℕ) (ws : List Written) → length d ≡ n → AreInside n ws → IsLaid n ws d (laid d ws)
unfolding AreInside
laid_is n d [] long inside = record { long = long; same = λ i settled. refl }
laid_is n d (w ∷ ws) long inside = laid_over n w ws d (laid d ws) w.bytes refl inside.0 (laid_is n d ws long inside.1)

filled_is : (n byte : ℕ) (d : List ℕ) (ws : List Written) → length d ≡ n → AreInside n ws → IsLaid n ws d (filled byte d ws)
unfolding AreInside
filled_is n byte d [] long inside = record { long = long; same = λ i settled. refl }
filled_is n byte d (w ∷ ws) long inside =
    laid_over n w ws d (filled byte d ws) (replicate (length w.bytes) byte) (length-replicate (length w.bytes) byte) inside.0 (filled_is n byte d ws long inside.1)

laid_by_is : (n : ℕ) (d : List ℕ) (choices : List Choice) (ws : List Written) → length d ≡ n → AreInside n ws → IsLaid n ws d (laid_by d choices ws)
unfolding AreInside
laid_by_is n d [] ws long inside = record { long = long; same = λ i settled. refl }
laid_by_is n d (choice ∷ choices) [] long inside = record { long = long; same = λ i settled. refl }
laid_by_is n d (Before ∷ choices) (w ∷ ws) long inside =
    let rest = laid_by_is n d choices ws long inside.1 in
    record { long = rest.long; same = λ i settled. rest.same i settled.1 }
laid_by_is n d (After ∷ choices) (w ∷ ws) long inside = laid_over n w ws d (laid_by d choices ws) w.bytes refl inside.0 (laid_by_is n d choices ws long inside.1)
laid_by_is n d (Fill byte ∷ choices) (w ∷ ws) long inside =
    laid_over n w ws d (laid_by d choices ws) (replicate (length w.bytes) byte) (length-replicate (length w.bytes) byte) inside.0 (laid_by_is n d choices ws long inside.1)

chosen_is : (n : ℕ) (choice : Choice) (m : State) → IsKept n m → IsLaid n m.pending m.settled (image_of choice m)
chosen_is n Before m kept = record { long = kept.settled_long; same = λ i settled. refl }
chosen_is n After m kept = laid_is n m.settled m.pending kept.settled_long kept.inside
chosen_is n (Fill byte) m kept = filled_is n byte m.settled m.pending kept.settled_long kept.inside

-- Each image that is chosen may be left by a crash.
image_laid : (n : ℕ) (m : State) (laid_ d : List ℕ) → IsKept n m → IsLaid n m.pending m.settled laid_ → d ≡ laid_ → IsBytes d → IsImage m d
image_laid n m laid_ d kept chosen is bytes = record {
  same_length = ap length is ∙ chosen.long ∙ sym kept.long;
  bytes = bytes;
  outside = λ i settled. ap (λ (l : List ℕ). slice_index l i) is ∙ chosen.same i settled ∙ kept.same i settled;
}

pub chosen_image : (n : ℕ) (choice : Choice) (m : State) (d : List ℕ) → IsKept n m → d ≡ image_of choice m → IsBytes d → IsImage m d
chosen_image n choice m d kept is bytes = image_laid n m (image_of choice m) d kept (chosen_is n choice m kept) is bytes

pub chosen_by_image : (n : ℕ) (choices : List Choice) (m : State) (d : List ℕ) → IsKept n m → d ≡ image_by choices m → IsBytes d → IsImage m d
chosen_by_image n choices m d kept is bytes =
    image_laid n m (image_by choices m) d kept (laid_by_is n m.settled (reverse choices) m.pending kept.settled_long kept.inside) is bytes

-- Where nothing is pending there is no choice.
pub image_of_settled : (choice : Choice) (m : State) → IsSettled m → image_of choice m ≡ m.disk
image_of_settled Before m here = here.settled
image_of_settled After m here = ap (laid m.settled) here.pending ∙ here.settled
image_of_settled (Fill byte) m here = ap (filled byte m.settled) here.pending ∙ here.settled

-- the calls up to a place, and then the others
pub replayed_parts : (start : List ℕ) (calls : List Call) (n : ℕ) → fold after_call (fold after_call (fresh start) (take n calls)) (drop n calls) ≡ replayed start calls
unfolding replayed
replayed_parts start calls n = sym (fold-append after_call (fresh start) (take n calls) (drop n calls)) ∙ ap (fold after_call (fresh start)) (take-append-drop n calls)
