-- What a step on a line makes, from a view that shows.
use Rattle.std.specs.Prelude.{ℕ, ◌≡◌, List, [], length, nat_lt, if◌then◌else◌, Option, Some, None}
use Rattle.disk_model.specs.Outside.{Outside}
use Rattle.table_model.specs.declared.machine.Machine.{Machine}
use Rattle.table_model.specs.declared.reply.Reply.{Reply}
use Rattle.table_model.specs.declared.reply.Reply.TheVariants as reply
use Rattle.table_model.specs.declared.reply.Refusal.{Refusal}
use Rattle.script_lines.specs.Lines.{Line, Short, Long, line_most}
use Rattle.script_lang.specs.Reading.{Reading, Silent, Asks, Fails}
use Rattle.script_replies.specs.ReplyText.{text_of}
use Rattle.session_views.specs.View.{Meaning, View, ShowsNow, Stepped, StandsDuring}

-- bytes without a line feed, as a line of a script
abbrev pub line_of : List ℕ → Line
line_of bytes = if nat_lt line_most (length bytes) then Long else Short bytes

-- what is told beside the text: why the line was refused
abbrev pub refusal_in : Reply → Option Refusal
refusal_in (reply.No why) = Some why
refusal_in _ = None

-- A line that says this was answered with this text, from the view, and left the session and the outside so: where it asks for something, by the machine's
-- step. A line that says nothing, and one that is none, leave the view as it was shown.
abbrev pub Answered : {S : Type 0} → Meaning S → View S → Reading → Option Refusal → List ℕ → S → Outside → Type 0
Answered M before Silent why text session w = (why ≡ None) × (text ≡ []) × (session ≡ before.session) × ShowsNow M w before
Answered M before (Asks r) why text session w = (told : Reply) × (why ≡ refusal_in told) × (text ≡ text_of told) × Stepped M before r told session w
Answered M before (Fails refused) why text session w = (why ≡ Some refused) × (text ≡ text_of (reply.No refused)) × (session ≡ before.session) × ShowsNow M w before

-- What a crash during it leaves: the committed table before it, or in a commit that one or the next.
abbrev pub MayLeave : {S : Type 0} → Meaning S → Machine → Reading → List ℕ → Type 0
MayLeave M m (Asks r) d = StandsDuring M m r d
MayLeave M m Silent d = M.StandsFor d m.committed
MayLeave M m (Fails why) d = M.StandsFor d m.committed

-- A line that says this was done, from the view, though no text was left of it. One that says nothing takes no memory.
abbrev pub WasDone : {S : Type 0} → Meaning S → View S → Reading → S → Outside → Type 0
WasDone M before Silent session w = ⊥
WasDone M before (Asks r) session w = (told : Reply) × Stepped M before r told session w
WasDone M before (Fails refused) session w = (session ≡ before.session) × ShowsNow M w before
