-- How far the script was made, and one line or one reply more.
use Rattle.std.proofs.Common.{◌≡◌, ◌∙◌, ◌<◌, ◌+◌, ◌^◌, ℕ, None, List, [], ◌∷◌, ◌++◌, length, refl, sym, ap, subst, arith, append_assoc, length-append}
use Rattle.std.proofs.lemmas.List.{append-nil}
use Rattle.table_model.specs.declared.reply.Reply.{Reply}
use Rattle.script_lines.specs.Lines.{Short}
use Rattle.script_lang.specs.Reading.{Reading, Reads}
use Rattle.talks.specs.Talking.{Exchange, Left}
use Rattle.generated.specs.Lines.{basis_of, line_taken, to_come}
use Rattle.generated.specs.Replies.{IsTallyOf}
use Rattle.generated.specs.Talked.{Heard, HasMade, HasAsked, IsAnswer, IsMade, IsCutOff, Tallies, replies_of}
use Rattle.generated.specs.declared.tally.Tally.{Tally}
use Rattle.generated.specs.declared.talk.Generated.{Generated}
use Rattle.generated.proofs.Spoken.{first_spoken}

-- ---- a line is made

same_tally : (first old now : Generated) (had : List Exchange) → now.tally ≡ old.tally → Tallies first had old → Tallies first had now
same_tally first old now had same tallied before is room = subst (λ (t : Tally). IsTallyOf (before ++ replies_of had) t) (sym same) (tallied before is room)

pub asked_more : {first old now : Generated} {left at : Left} {had : List Exchange} → HasMade first left had old at → to_come old.lines ≡ line_taken now.lines ∷ to_come now.lines → now.tally ≡ old.tally
    → HasAsked first left had now at
asked_more {first} {old} {now} {left} {at} {had} so_far taken same = record {
  lines = so_far.lines;
  made = so_far.made ∙ ap (λ (l : List (List ℕ)). so_far.lines ++ l) taken;
  spoken = first_spoken old.lines.stage old.lines.index old.lines.count (basis_of old.lines) (line_taken now.lines) (to_come now.lines) taken;
  heard = so_far.heard;
  tallied = same_tally first old now had same so_far.tallied;
  left_so = so_far.left_so;
}

made_whole : {first old : Generated} {left at : Left} {had : List Exchange} (so_far : HasMade first left had old at) → to_come old.lines ≡ [] → to_come first.lines ≡ so_far.lines
made_whole so_far over = so_far.made ∙ ap (λ (l : List (List ℕ)). so_far.lines ++ l) over ∙ append-nil so_far.lines

pub made_all : {first old now : Generated} {left at : Left} {had : List Exchange} → HasMade first left had old at → to_come old.lines ≡ [] → now.tally ≡ old.tally → IsMade first left had now at
made_all {first} {old} {now} {left} {at} {had} so_far over same = record {
  heard = subst (λ (l : List (List ℕ)). Heard l had) (sym (made_whole so_far over)) so_far.heard;
  tallied = same_tally first old now had same so_far.tallied;
  left_so = so_far.left_so;
}

-- No memory was there for the next line.
pub cut_making : {first old : Generated} {left at : Left} {had : List Exchange} → HasMade first left had old at → IsCutOff first left had None at
cut_making {first} {old} so_far = record {
  heard = record {
    lines = so_far.lines;
    next = None;
    asks = tt;
    front = (to_come old.lines, so_far.made ∙ ap (λ (l : List (List ℕ)). l ++ to_come old.lines) (sym (append-nil so_far.lines)));
    heard = so_far.heard;
  };
  left_so = so_far.left_so;
}

-- ---- a reply is taken in

heard_more : (lines : List (List ℕ)) (line : List ℕ) (had : List Exchange) (last : Exchange) → Heard lines had → IsAnswer line last → Heard (lines ++ line ∷ []) (had ++ last ∷ [])
heard_more [] line [] last heard answer = (answer, tt)
heard_more [] line (e ∷ had) last heard answer = absurd heard
heard_more (l ∷ lines) line [] last heard answer = absurd heard
heard_more (l ∷ lines) line (e ∷ had) last heard answer = (heard.0, heard_more lines line had last heard.1 answer)

same_length : (lines : List (List ℕ)) (had : List Exchange) → Heard lines had → length (replies_of had) ≡ length lines
same_length [] [] heard = refl
same_length [] (e ∷ had) heard = absurd heard
same_length (l ∷ lines) [] heard = absurd heard
same_length (l ∷ lines) (e ∷ had) heard = omega (arith, same_length lines had heard.1)

replies_more : (had : List Exchange) (last : Exchange) → replies_of (had ++ last ∷ []) ≡ replies_of had ++ last.told ∷ []
replies_more [] last = refl
replies_more (e ∷ had) last = ap (λ (l : List Reply). e.told ∷ l) (replies_more had last)

abbrev silently : Reading → Reply → Exchange
silently reading told = record { reading = reading; told = told; text = [] }

pub told_more : {first old now : Generated} {left at : Left} {had : List Exchange} {told : Reply} (reading : Reading) → HasAsked first left had old at → Reads (Short (line_taken old.lines)) reading → now.lines ≡ old.lines
    → ((replies : List Reply) → IsTallyOf replies old.tally → length replies + 1 < 2 ^ 64 → IsTallyOf (replies ++ told ∷ []) now.tally) → HasMade first left (had ++ silently reading told ∷ []) now at
told_more {first} {old} {now} {left} {at} {had} {told} reading waits reads same adds = record {
  lines = waits.lines ++ line_taken old.lines ∷ [];
  made = waits.made ∙ sym (append_assoc waits.lines (line_taken old.lines ∷ []) (to_come old.lines)) ∙ ap (λ g. (waits.lines ++ line_taken old.lines ∷ []) ++ to_come g) (sym same);
  heard = heard_more waits.lines (line_taken old.lines) had (silently reading told) waits.heard (record { reads = reads; text = refl });
  tallied = λ before is room.
      let count = same_length waits.lines had waits.heard in
      let fits : length (before ++ replies_of had) + 1 < 2 ^ 64 =
      omega (arith, room, count, ap length waits.made, length-append before (replies_of had), length-append waits.lines (line_taken old.lines ∷ to_come old.lines)) in
      subst (λ (l : List Reply). IsTallyOf l now.tally)
      (append_assoc before (replies_of had) (told ∷ []) ∙ ap (λ (l : List Reply). before ++ l) (sym (replies_more had (silently reading told))))
      (adds (before ++ replies_of had) (waits.tallied before is room) fits);
  left_so = waits.left_so;
}
