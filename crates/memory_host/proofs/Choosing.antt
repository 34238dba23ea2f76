-- Calls are laid over a disk one by one, each as a choice says.
use Rattle.std.proofs.Common.{◌≡◌, ◌≢◌, ◌∙◌, ap, ℕ, ◌+◌, true, false, List, [], ◌∷◌, ◌++◌, length, fold, arith, cond, refl}
use Rattle.std.specs.Prelude.{All, count_by, reverse}
use Rattle.std.proofs.lemmas.List.{length-reverse, reverse-append}
use Rattle.std.proofs.lemmas.List.Elements.{All-head, All-tail, All-same, All-push}
use Rattle.std.proofs.lemmas.List.Sums.{sum_by-cons}
use Rattle.memory_host.specs.Replay.{State, Written, after_call, is_write, laid_call, laid_one, laid_by, image_of, image_by}
use Rattle.memory_host.specs.declared.host.Call.{Call}
use Rattle.memory_host.specs.declared.host.Call.TheVariants.{Write, Sync, Put, Other}
use Rattle.memory_host.specs.declared.host.Choice.{Choice}
use Rattle.memory_host.specs.declared.host.Choice.TheVariants.{Before, After, Fill}

-- one choice for all ranges
pub one_choice_next : (choice : Choice) (m : State) (call : Call) → call ≢ Sync → image_of choice (after_call m call) ≡ laid_call choice call (image_of choice m)
one_choice_next Before m (Write at bytes done) pending = refl
one_choice_next After m (Write at bytes done) pending = refl
one_choice_next (Fill byte) m (Write at bytes done) pending = refl
one_choice_next choice m Sync pending = absurd (pending refl)
one_choice_next Before m (Put bytes) pending = refl
one_choice_next After m (Put bytes) pending = refl
one_choice_next (Fill byte) m (Put bytes) pending = refl
one_choice_next choice m Other pending = refl

-- a choice for each range: a call that writes takes the next one
pub choices_next : (d image : List ℕ) (choices : List Choice) (choice : Choice) (m : State) (call : Call) → is_write call ≡ true → image ≡ laid_by d choices m.pending
    → laid_call choice call image ≡ laid_by d (choice ∷ choices) (after_call m call).pending
choices_next d image choices choice m (Write at bytes done) writes is = ap (laid_call choice (Write at bytes done)) is
choices_next d image choices choice m Sync writes is = absurd (cc)
choices_next d image choices choice m (Put bytes) writes is = absurd (cc)
choices_next d image choices choice m Other writes is = absurd (cc)

-- and another one takes none.
pub pending_stays : (m : State) (call : Call) → call ≢ Sync → is_write call ≡ false → (after_call m call).pending ≡ m.pending
pending_stays m (Write at bytes done) pending quiet = absurd (cc)
pending_stays m Sync pending quiet = absurd (pending refl)
pending_stays m (Put bytes) pending quiet = refl
pending_stays m Other pending quiet = refl

counted : (call : Call) (calls : List Call) → count_by is_write (call ∷ calls) ≡ cond (is_write call) 1 0 + count_by is_write calls
counted call calls = sum_by-cons (λ (c : Call). cond (is_write c) 1 0) call calls

-- Without a sync the calls that write are pending, and what was settled stays.
pub pending_count : (m : State) (calls : List Call) → All (λ call. call ≢ Sync) calls → length (fold after_call m calls).pending ≡ length m.pending + count_by is_write calls
pending_count m [] pending = omega arith
pending_count m (Write at bytes done ∷ calls) pending = omega (arith, counted (Write at bytes done) calls, pending_count (after_call m (Write at bytes done)) calls (All-tail (λ c. c ≢ Sync) (Write at bytes done) calls pending))
pending_count m (Sync ∷ calls) pending = absurd (All-head (λ c. c ≢ Sync) Sync calls pending refl)
pending_count m (Put bytes ∷ calls) pending = omega (arith, counted (Put bytes) calls, pending_count (after_call m (Put bytes)) calls (All-tail (λ c. c ≢ Sync) (Put bytes) calls pending))
pending_count m (Other ∷ calls) pending = omega (arith, counted Other calls, pending_count m calls (All-tail (λ c. c ≢ Sync) Other calls pending))

pub settled_stays : (m : State) (calls : List Call) → All (λ call. call ≢ Sync) calls → (fold after_call m calls).settled ≡ m.settled
settled_stays m [] pending = refl
settled_stays m (Write at bytes done ∷ calls) pending = settled_stays (after_call m (Write at bytes done)) calls (All-tail (λ c. c ≢ Sync) (Write at bytes done) calls pending)
settled_stays m (Sync ∷ calls) pending = absurd (All-head (λ c. c ≢ Sync) Sync calls pending refl)
settled_stays m (Put bytes ∷ calls) pending = settled_stays (after_call m (Put bytes)) calls (All-tail (λ c. c ≢ Sync) (Put bytes) calls pending)
settled_stays m (Other ∷ calls) pending = settled_stays m calls (All-tail (λ c. c ≢ Sync) Other calls pending)

-- Where all ranges have the same choice, it is that one's image.
laid_alike : (choice : Choice) (m : State) (choices : List Choice) (ws : List Written) → All (λ c. c ≡ choice) choices → length choices ≡ length ws
    → laid_by m.settled choices ws ≡ image_of choice (record m { pending = ws })
laid_alike Before m [] ws same long = refl
laid_alike After m [] [] same long = refl
laid_alike (Fill byte) m [] [] same long = refl
laid_alike After m [] (w ∷ ws) same long = absurd (omega (arith, long))
laid_alike (Fill byte) m [] (w ∷ ws) same long = absurd (omega (arith, long))
laid_alike choice m (c ∷ choices) [] same long = absurd (omega (arith, long))
laid_alike choice m (c ∷ choices) (w ∷ ws) same long =
    let rest = laid_alike choice m choices ws (All-tail (λ d. d ≡ choice) c choices same) (omega (arith, long)) in
    ap (λ (d : Choice). laid_one d w (laid_by m.settled choices ws)) (All-head (λ d. d ≡ choice) c choices same)
    ∙ ap (laid_one choice w) rest ∙ one_more choice
  where
    one_more : (d : Choice) → laid_one d w (image_of d (record m { pending = ws })) ≡ image_of d (record m { pending = w ∷ ws })
    one_more Before = refl
    one_more After = refl
    one_more (Fill byte) = refl

pub alike : (choice : Choice) (choices : List Choice) (m : State) → All (λ c. c ≡ choice) choices → length choices ≡ length m.pending → image_by choices m ≡ image_of choice m
alike choice choices m same long = laid_alike choice m (reverse choices) m.pending (all_reversed choices same) (length-reverse choices ∙ long)
  where
    all_reversed : (cs : List Choice) → All (λ c. c ≡ choice) cs → All (λ c. c ≡ choice) (reverse cs)
    all_reversed [] all = all
    all_reversed (c ∷ cs) all =
        All-same (λ d. d ≡ choice) (reverse (c ∷ cs)) (reverse cs ++ c ∷ []) (reverse-append (c ∷ []) cs)
        (All-push (λ d. d ≡ choice) (reverse cs) c (all_reversed cs (All-tail (λ d. d ≡ choice) c cs all)) (All-head (λ d. d ≡ choice) c cs all))
