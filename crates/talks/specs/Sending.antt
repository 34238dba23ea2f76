-- What the sending of a text did.
use Rattle.std.specs.Prelude.{◌≡◌, ◌<◌, ◌⊎◌, ℕ, Some, List, ◌++◌, length, take}
use Rattle.disk_model.specs.Outside.{Outside, SinkOnly}
use Rattle.talks.specs.declared.stopped.Stopped.{Stopped}
use Rattle.talks.specs.declared.stopped.Stopped.TheVariants.{Output}

-- n bytes of the text were sent
pub record SentFront (before after : Outside) (text : List ℕ) (n : ℕ) : Type 0 where
  pub only : SinkOnly before after
  pub sent : (was : List ℕ) → before.sent ≡ Some was → after.sent ≡ Some (was ++ take n text)

-- The sending was stopped: a fault of the sink leaves a front of the text sent, and never all of it; any other stop leaves nothing of it sent.
pub record SentPart (why : Stopped) (before after : Outside) (text : List ℕ) : Type 0 where
  pub n : ℕ
  pub front : SentFront before after text n
  pub cut : (n ≡ 0) ⊎ ((why ≡ Output) × (n < length text))
