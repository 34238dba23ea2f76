-- What the sending of a text left, where it failed.
use Rattle.std.proofs.Common.{◌≡◌, ◌<◌, ◌∙◌, ℕ, true, Option, Some, None, List, [], ◌++◌, length, take, Result, Ok, Err, OnErr, inl, inr, refl, sym, ap}
use Rattle.std.proofs.lemmas.Option.{same_Some}
use Rattle.std.specs.Result.{is_err}
use Rattle.std.proofs.lemmas.List.{append-nil}
use Rattle.disk_model.specs.Outside.{Outside, SinkOnly}
use Rattle.talks.specs.declared.stopped.Stopped.{Stopped}
use Rattle.talks.specs.Sending.{SentPart}
use Rattle.talks.specs.declared.stopped.Stopped.TheVariants.{Output}

pub at_err : {T E : Type 0} (r : Result T E) (Q : Type 0) → is_err r ≡ true → OnErr r Q → Q
at_err (Ok x) Q is h = absurd (cc)
at_err (Err e) Q is h = h

-- The sink failed: it was sent a front of the text, and never all.
pub part_sent : (old new : Outside) (text : List ℕ) → SinkOnly old new
    → ((was : List ℕ) → old.sent ≡ Some was → (n : ℕ) × (n < length text) × (new.sent ≡ Some (was ++ take n text))) → SentPart Output old new text
part_sent old new text only failed = by_told old.sent refl
  where
    by_told : (told : Option (List ℕ)) → old.sent ≡ told → SentPart Output old new text
    by_told None is = record {
      n = 0;
      front = record { only = only; sent = λ before was. absurd (let no : None ≡ Some before = sym is ∙ was in cc) };
      cut = inl refl;
    }
    by_told (Some b) is =
        let front = failed b is in record {
          n = front.0;
          front = record { only = only; sent = λ before was. front.2 ∙ ap (λ (l : List ℕ). Some (l ++ take front.0 text)) (same_Some b before (sym is ∙ was)) };
          cut = inr (refl, front.1);
        }

-- A buffer that was emptied and got a front and a text shows both.
pub put_behind : {empty begun whole shown : List ℕ} (front text : List ℕ) → empty ≡ [] → begun ≡ empty ++ front → whole ≡ begun ++ text → shown ≡ whole → shown ≡ front ++ text
put_behind front text none one two same = same ∙ two ∙ ap (λ (l : List ℕ). l ++ text) (one ∙ ap (λ (l : List ℕ). l ++ front) none)
