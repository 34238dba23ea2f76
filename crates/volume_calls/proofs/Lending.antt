-- What a host over a lent image leaves to who lent it.
use Rattle.std.proofs.Common.{◌≡◌, ◌∙◌, sym, ap, subst, ℕ, List, length, Option, Result}
use Rattle.table_model.specs.declared.reply.Reply.{Reply}
use Rattle.table_model.specs.declared.reply.Refusal.{Refusal}
use Rattle.table_model.specs.Requests.{Request}
use Rattle.script_lines.specs.Lines.{Line}
use Rattle.session_views.specs.declared.stop.Stop.{Stop}
use Rattle.session_views.specs.declared.opener.OpenFault.{OpenFault}
use Rattle.volume_calls.specs.declared.lines.Unanswered.{Unanswered}
use Rattle.session_views.specs.View.{Meaning, View}
use Rattle.lent_host.specs.Host.{outside_over}
use Rattle.lent_host.specs.Lent.{IsLent, outside_of, state_after}
use Rattle.lent_host.specs.declared.host.Asked.{Asked}
use Rattle.lent_host.specs.declared.host.LentHost.{LentHost}
use Rattle.volume_calls.specs.Over.{StepsOver, LinesOver, OpensOver}
use Rattle.volume_calls.proofs.Renamed.{steps_renamed, lines_renamed, opens_renamed}

-- The image is what the listed calls make of the file.
pub lent_after : (h : LentHost) (file : List ℕ) (asked : List Asked) (image : List ℕ) → h.file.now.bytes ≡ file → asked ≡ h.asked.now.items → image ≡ h.image.now → IsLent file asked image
lent_after h file asked image same is now = (
  ap (λ (f : List ℕ). (state_after f asked).disk) (sym same) ∙ ap (λ (l : List Asked). (state_after h.file.now.bytes l).disk) is ∙ h.lent ∙ sym now,
  ap length now ∙ h.whole ∙ ap length same,
)

-- what holds of equal files and lists
pub same_lists : (P : List ℕ → List Asked → List ℕ → List Asked → Type 0) (f f' : List ℕ) (a a' : List Asked) (g g' : List ℕ) (b b' : List Asked)
    → f ≡ f' → a ≡ a' → g ≡ g' → b ≡ b' → P f a g b → P f' a' g' b'
same_lists P f f' a a' g g' b b' one two three four p =
    subst (λ (x : List Asked). P f' a' g' x) four (subst (λ (x : List ℕ). P f' a' x b) three (subst (λ (x : List Asked). P f' x g b) two (subst (λ (x : List ℕ). P x a g b) one p)))

-- a host that became another, over one file
module _ {S : Type 0} (M : Meaning S) (h k : LentHost) (file : List ℕ) (asked now : List Asked) (from : h.file.now.bytes ≡ file) (was : h.asked.now.items ≡ asked) (same : k.file.now.bytes ≡ file) (is : k.asked.now.items ≡ now) where
  pub steps_lent : {session last : S} {r : Request} (result : Result Reply Stop) → StepsOver M session last (outside_over h) (outside_over k) r result
      → StepsOver M session last (outside_of file asked 0 0) (outside_of file now 0 0) r result
  steps_lent {session} {last} {r} result steps =
      steps_renamed file asked now h.image.ghost_name h.asked.ghost_name k.image.ghost_name k.asked.ghost_name M result
      (same_lists (λ f x g y. StepsOver M session last (outside_of f x h.image.ghost_name h.asked.ghost_name) (outside_of g y k.image.ghost_name k.asked.ghost_name) r result)
      h.file.now.bytes file h.asked.now.items asked k.file.now.bytes file k.asked.now.items now from was same is steps)

  pub lines_lent : {session last : S} {line : Line} {text : List ℕ} (result : Result (Option Refusal) Unanswered) → LinesOver M session last (outside_over h) (outside_over k) line text result
      → LinesOver M session last (outside_of file asked 0 0) (outside_of file now 0 0) line text result
  lines_lent {session} {last} {line} {text} result steps =
      lines_renamed file asked now h.image.ghost_name h.asked.ghost_name k.image.ghost_name k.asked.ghost_name M result
      (same_lists (λ f x g y. LinesOver M session last (outside_of f x h.image.ghost_name h.asked.ghost_name) (outside_of g y k.image.ghost_name k.asked.ghost_name) line text result)
      h.file.now.bytes file h.asked.now.items asked k.file.now.bytes file k.asked.now.items now from was same is steps)

  pub opens_lent : {Fresh : View S → Type 0} (result : Result S OpenFault) → OpensOver M Fresh (outside_over h) (outside_over k) result
      → OpensOver M Fresh (outside_of file asked 0 0) (outside_of file now 0 0) result
  opens_lent {Fresh} result opens =
      opens_renamed file asked now h.image.ghost_name h.asked.ghost_name k.image.ghost_name k.asked.ghost_name M result
      (same_lists (λ f x g y. OpensOver M Fresh (outside_of f x h.image.ghost_name h.asked.ghost_name) (outside_of g y k.image.ghost_name k.asked.ghost_name) result)
      h.file.now.bytes file h.asked.now.items asked k.file.now.bytes file k.asked.now.items now from was same is opens)
