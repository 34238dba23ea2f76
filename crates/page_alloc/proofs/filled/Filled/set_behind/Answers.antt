use Rattle.std.specs.Result.{is_ok}
use Rattle.std.specs.Vec.{vec_len}
use Rattle.std.proofs.Common.{rules, true, ◌≡◌, ◌<◌, ◌≤◌, ◌-◌, ◌++◌, ◌∙◌, ap, length, take, replicate, arith}
use Rattle.std.proofs.Math.ListN.{set}
use Rattle.std.proofs.lemmas.List.{take_all}
use Rattle.page_alloc.proofs.filled.Filled.set_behind.Goals as goal
use Rattle.page_alloc.proofs.filled.Filled.set_behind.Goals.{else-at-len-via-then-at-len+else-is_err, else-at-len-via-else-at-len}
use Rattle.page_alloc.proofs.Endings.{ended, length-ended, ended-set, ended-more}

pub end_behind-end-requires : goal.end_behind-end-requires
end_behind-end-requires g c =
    let view : ended c.self.inside.written.items c.self.inside.len c.self.inside.rest ≡ c.args.self.now = c.self.view_is in
    let size : length c.args.self.now ≡ c.self.inside.len = rw view at (length-ended c.self.inside.written.items c.self.inside.len c.self.inside.rest c.self.invariant.0) in
    omega (arith, c.requires, size)

pub returns : goal.returns
returns g c =
    let view : ended c.self.inside.written.items c.self.inside.len c.self.inside.rest ≡ c.args.self.now = c.self.view_is in
    elim c.else-at-len.branch [
      | else-at-len-via-then-at-len+else-is_err w ↦
          let more : length c.self.inside.written.items ≤ c.args.at = search rules in
          let all : take c.end_behind-end.result c.self.inside.written.items ≡ c.self.inside.written.items = take_all c.end_behind-end.result c.self.inside.written.items (omega (arith, c.end_behind-end.ensures.behind)) in
          let done : is_ok w.resize.result ≡ true = search rules in
          let items : w.resize.new.self.items ≡ take c.end_behind-end.result c.self.inside.written.items ++ replicate (c.end_behind-end.result - vec_len c.self.inside.written) c.self.inside.rest = rw done at w.resize.ensures.items in
          let written : w.resize.new.self.items ≡ c.self.inside.written.items ++ replicate (c.end_behind-end.result - length c.self.inside.written.items) c.self.inside.rest = search rules in
          let end : c.args.at < length w.resize.new.self.items = search rules in
          let same = ended-more c.self.inside.written.items c.self.inside.len c.end_behind-end.result c.self.inside.rest (omega (arith, c.end_behind-end.ensures.behind)) c.end_behind-end.ensures.inside in
          rw w.self-inside-is (ended-set w.resize.new.self.items c.self.inside.len c.args.at c.self.inside.rest c.args.element end ∙ ap (λ l. set l c.args.at c.args.element) (rw written same ∙ view))
      | else-at-len-via-else-at-len w ↦
          let end : c.args.at < length c.self.inside.written.items = search rules in
          rw w.self-inside-is (ended-set c.self.inside.written.items c.self.inside.len c.args.at c.self.inside.rest c.args.element end ∙ ap (λ l. set l c.args.at c.args.element) view)
    ]
